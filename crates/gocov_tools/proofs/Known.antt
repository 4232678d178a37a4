-- Facts of a tree that may not be told.
use Rattle.std.proofs.Common.{Option, Some, None}
use Rattle.std.specs.Prelude.{IfSome}

pub some_also : {A : Type 0} (P Q : A → Type 0) (o : Option A) → ((t : A) → P t → Q t) → IfSome o P → IfSome o Q
some_also P Q None f p = tt
some_also P Q (Some t) f p = f t p

pub some_both : {A : Type 0} (P Q R : A → Type 0) (o : Option A) → ((t : A) → P t → Q t → R t) → IfSome o P → IfSome o Q → IfSome o R
some_both P Q R None f p q = tt
some_both P Q R (Some t) f p q = f t p q

pub some_all : {A : Type 0} (P : A → Type 0) (o : Option A) → ((t : A) → P t) → IfSome o P
some_all P None f = tt
some_all P (Some t) f = f t
