-- How many counters an entry has.
use Rattle.std.proofs.Common.{◌≡◌, ℕ, zero, suc, ◌<◌, ◌≤◌, ◌^◌, List, [], ◌∷◌, length, Option, Result, Ok, Err, refl, sym, ap, ◌∙◌, subst, arith}
use Rattle.std.specs.Prelude.{Bool, true, false, nat_lt, if◌then◌else◌}
use Rattle.std.proofs.lemmas.Bool.{ltb-false}
use Rattle.cov_bytes.specs.Many.{many}
use Rattle.cov_outside.specs.declared.limit.Which.TheVariants.{Units}
use Rattle.cov_counter.specs.declared.fault.CounterFault.TheVariants.{Limit}
use Rattle.cov_counter.specs.declared.head.Head.{Head}
use Rattle.cov_counter.specs.declared.entry.Entry.{Entry}
use Rattle.cov_counter.specs.File.{Known}
use Rattle.cov_counter.specs.Entry.{number_at, length_at, entry_at}
use Rattle.cov_counter.specs.Outside.{file_at}
use Rattle.cov_counter.specs.Reader.{entry_of}
use Rattle.cov_pods.proofs.Bind.{bind_ok, same_ok}

many_length : {S A E : Type 0} (step : S → Result (A × S) E) (n : ℕ) (s : S) (x : List A × S) → many step n s ≡ Ok x → length x.0 ≡ n
unfolding many
many_length {S = S} {A = A} step zero s x e =
    let start : List A × S = ([], s) in
    ap (λ (y : List A × S). length y.0) (sym (same_ok start x e))
many_length {S = S} {A = A} step (suc n) s x e =
    let first = bind_ok (step s) _ x e in
    let others = bind_ok (many step n first.0.1) _ x first.2 in
    let whole : List A × S = (first.0.0 ∷ others.0.0, others.0.1) in
    ap (λ (y : List A × S). length y.0) (sym (same_ok whole x others.2)) ∙ ap suc (many_length step n first.0.1 others.0 others.1)

allowed : {A E : Type 0} (n : ℕ) (f : E) (r : A) (x : A) → (if nat_lt 1048576 n then Err f else Ok r) ≡ Ok x → (n ≤ 1048576) × (r ≡ x)
allowed {A = A} {E = E} n f r x e = cases (nat_lt 1048576 n) refl e
  where
    cases : (b : Bool) → nat_lt 1048576 n ≡ b → (let whole : Result A E = if b then Err f else Ok r in whole ≡ Ok x) → (n ≤ 1048576) × (r ≡ x)
    cases true is e = absurd cc
    cases false is e = (ltb-false 1048576 n is, same_ok r x e)

length_allowed : (head : Head) (file : Known) (at : ℕ) (x : ℕ × ℕ) → length_at head file at ≡ Ok x → x.0 ≤ 1048576
unfolding length_at
length_allowed head file at x e =
    let n = bind_ok (number_at head file at) _ x e in
    let got = allowed n.0.0 (Limit Units) n.0 x n.2 in
    subst (λ (y : ℕ × ℕ). y.0 ≤ 1048576) got.1 got.0

entry_allowed : (head : Head) (file : Known) (at : ℕ) (x : Entry × ℕ) → entry_at head file at ≡ Ok x → length x.0.counts ≤ 1048576
unfolding entry_at
entry_allowed head file at x e =
    let len = bind_ok (length_at head file at) _ x e in
    let place = bind_ok (number_at head file len.0.1) _ x len.2 in
    let function = bind_ok (number_at head file place.0.1) _ x place.2 in
    let counts = bind_ok (many (number_at head file) len.0.0 function.0.1) _ x function.2 in
    let found : Entry × ℕ = (record { «package» = place.0.0; function = function.0.0; counts = counts.0.0 }, counts.0.1) in
    let same = same_ok found x counts.2 in
    let many_are = many_length (number_at head file) len.0.0 function.0.1 counts.0 counts.1 in
    let few = length_allowed head file at len.0 len.1 in
    subst (λ (y : Entry × ℕ). length y.0.counts ≤ 1048576) same (omega arith)

-- an entry that was read has at most 1,048,576 counters
pub short_entry : (head : Head) (at : ℕ) (there : Option (List ℕ)) (x : Entry × ℕ) → entry_of head at there ≡ Ok x → length x.0.counts < 2 ^ 32
unfolding entry_of
short_entry head at there x e =
    let file = bind_ok (file_at there) _ x e in
    omega (arith, entry_allowed head file.0 at x file.2)
