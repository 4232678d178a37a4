-- A hasher that takes its message piece by piece.
use Rattle.std.proofs.Common.{◌≡◌, ℕ, ◌+◌, ◌<◌, List, [], ◌∷◌, ◌++◌, length, take, get_or, sym, ap, subst, ◌∙◌, append_assoc}
use Rattle.std.specs.Prelude.{flat_map}
use Rattle.std.proofs.lemmas.List.{take_more, append-nil}
use Rattle.std.proofs.lemmas.Grind.{flat_map-append}
use Rattle.md5.specs.Md5.{Holds}
use Rattle.md5.specs.declared.Md5.{Md5}
use Rattle.cov_meta.specs.Hash.{Takes}

-- two pieces are one
pub takes_both : (a b c : Md5) (first second : List ℕ) → Takes a b first → Takes b c second → Takes a c (first ++ second)
takes_both a b c first second f g message h = subst (Holds c) (append_assoc message first second) (g (message ++ first) (f message h))

pub takes_none : (a : Md5) → Takes a a []
takes_none a message h = subst (Holds a) (sym (append-nil message)) h

-- the pieces of a list, one more
pub flat_map_more : {X : Type 0} (f : X → List ℕ) (xs : List X) (i : ℕ) (d : X) → i < length xs → flat_map f (take (i + 1) xs) ≡ flat_map f (take i xs) ++ f (get_or xs i d)
flat_map_more f xs i d lt = ap (flat_map f) (take_more xs i d lt) ∙ flat_map-append f (take i xs) (get_or xs i d ∷ []) ∙ ap (λ (t : List ℕ). flat_map f (take i xs) ++ t) (append-nil (f (get_or xs i d)))

pub takes_more : {X : Type 0} (f : X → List ℕ) (xs : List X) (i : ℕ) (x : X) (a b c : Md5) → i < length xs → x ≡ get_or xs i x → Takes a b (flat_map f (take i xs)) → Takes b c (f x) → Takes a c (flat_map f (take (i + 1) xs))
takes_more {X = X} f xs i x a b c lt is so_far next =
    subst (Takes a c) (ap (λ (y : X). flat_map f (take i xs) ++ f y) is ∙ sym (flat_map_more f xs i x lt)) (takes_both a b c (flat_map f (take i xs)) (f x) so_far next)
