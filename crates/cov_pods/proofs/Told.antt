-- What a fault of a file says of the pod.
use Rattle.std.proofs.Common.{◌≡◌, ℕ, List, Option, Some, None, Result, Err, ap, subst}
use Rattle.std.specs.Prelude.{IfSome}
use Rattle.cov_outside.specs.declared.whole.WholeFault.{WholeFault}
use Rattle.cov_outside.specs.declared.whole.WholeFault.TheVariants as whole
use Rattle.cov_outside.specs.Whole as outside
use Rattle.cov_counter.specs.declared.fault.CounterFault.{CounterFault}
use Rattle.cov_counter.specs.declared.fault.CounterFault.TheVariants as counter
use Rattle.cov_counter.specs.Outside as reader
use Rattle.cov_pods.specs.declared.fault.PodFault.{PodFault}
use Rattle.cov_pods.specs.declared.fault.PodFault.TheVariants as faults
use Rattle.cov_pods.specs.Faults.{Becomes, whole_fault, counter_fault}
use Rattle.cov_pods.specs.Decoding.{Fails, IsFaultOf, from_whole, from_counter}

-- ---- facts of a tree that may not be known

pub some_also : {A : Type 0} (P Q : A → Type 0) (o : Option A) → ((t : A) → P t → Q t) → IfSome o P → IfSome o Q
some_also P Q None f p = tt
some_also P Q (Some t) f p = f t p

pub some_both : {A : Type 0} (P Q R : A → Type 0) (o : Option A) → ((t : A) → P t → Q t → R t) → IfSome o P → IfSome o Q → IfSome o R
some_both P Q R None f p q = tt
some_both P Q R (Some t) f p q = f t p q

pub some_three : {A : Type 0} (P Q R S : A → Type 0) (o : Option A) → ((t : A) → P t → Q t → R t → S t) → IfSome o P → IfSome o Q → IfSome o R → IfSome o S
some_three P Q R S None f p q r = tt
some_three P Q R S (Some t) f p q r = f t p q r

pub some_all : {A : Type 0} (P : A → Type 0) (o : Option A) → ((t : A) → P t) → IfSome o P
some_all P None f = tt
some_all P (Some t) f = f t

-- ---- faults

-- a fault that is answered with its path, or for want of memory
pub becomes_told : {Y : Type 0} (fault e : PodFault) (there : Result Y PodFault) → Becomes fault e → IsFaultOf fault there → IsFaultOf e there
becomes_told fault (faults.Data path offset kind) there b h = subst (λ (f : PodFault). IsFaultOf f there) b h
becomes_told fault (faults.Mode mode) there b h = subst (λ (f : PodFault). IsFaultOf f there) b h
becomes_told fault (faults.Limit w) there b h = subst (λ (f : PodFault). IsFaultOf f there) b h
becomes_told fault (faults.Missing path) there b h = subst (λ (f : PodFault). IsFaultOf f there) b h
becomes_told fault faults.Read there b h = tt
becomes_told fault faults.NoMemory there b h = tt

whole_is : {X Y : Type 0} (view : X → Y) (path : List ℕ) (f : WholeFault) (there : Result Y WholeFault) → outside.Finds view (Err f) there → IsFaultOf (whole_fault path f) (from_whole path there)
whole_is view path whole.Missing there h = ap (from_whole path) h
whole_is view path whole.Limit there h = ap (from_whole path) h
whole_is view path whole.Read there h = tt
whole_is view path whole.NoMemory there h = tt

pub whole_told : {X Y : Type 0} (view : X → Y) (path : List ℕ) (f : WholeFault) (e : PodFault) (there : Result Y WholeFault) → Becomes (whole_fault path f) e → outside.Finds view (Err f) there → IsFaultOf e (from_whole path there)
whole_told view path f e there b h = becomes_told (whole_fault path f) e (from_whole path there) b (whole_is view path f there h)

counter_is : {Y : Type 0} (path : List ℕ) (f : CounterFault) (there : Result Y CounterFault) → reader.IsFaultOf f there → IsFaultOf (counter_fault path f) (from_counter path there)
counter_is path (counter.At offset kind) there h = ap (from_counter path) h
counter_is path (counter.Limit w) there h = ap (from_counter path) h
counter_is path counter.Missing there h = ap (from_counter path) h
counter_is path counter.Read there h = tt
counter_is path counter.NoMemory there h = tt

pub counter_told : {Y : Type 0} (path : List ℕ) (f : CounterFault) (e : PodFault) (there : Result Y CounterFault) → Becomes (counter_fault path f) e → reader.IsFaultOf f there → IsFaultOf e (from_counter path there)
counter_told path f e there b h = becomes_told (counter_fault path f) e (from_counter path there) b (counter_is path f there h)

-- a fault of a part is the fault of the whole
pub further : {A B : Type 0} (e : PodFault) (part : Result A PodFault) (all : Result B PodFault) → ((f : PodFault) → part ≡ Err f → all ≡ Err f) → IsFaultOf e part → IsFaultOf e all
further (faults.Data path offset kind) part all carry h = carry (faults.Data path offset kind) h
further (faults.Mode mode) part all carry h = carry (faults.Mode mode) h
further (faults.Limit w) part all carry h = carry (faults.Limit w) h
further (faults.Missing path) part all carry h = carry (faults.Missing path) h
further faults.Read part all carry h = tt
further faults.NoMemory part all carry h = tt

pub failed_told : {Y : Type 0} (e : PodFault) (there : Result Y PodFault) → Fails e there → IsFaultOf e there
failed_told (faults.Data path offset kind) there h = h
failed_told (faults.Mode mode) there h = h
failed_told (faults.Limit w) there h = h
failed_told (faults.Missing path) there h = absurd h
failed_told faults.Read there h = tt
failed_told faults.NoMemory there h = tt
