-- Slots that take arguments, one after another.
use Rattle.std.proofs.Common.{◌≡◌, ℕ, zero, suc, ◌+◌, ◌-◌, ◌<◌, Bool, List, [], ◌∷◌, ◌++◌, map, take, drop, length, replicate, max, Option, Some, None, slice_get, refl, sym, ap, ◌∙◌, arith}
use Rattle.std.proofs.lemmas.List.{drop-replicate}
use Rattle.go_meaning.specs.declared.value.Value.{Value}
use Rattle.go_meaning.specs.Programs.{Parts, function_at}
use Rattle.go_meaning.specs.Moves.{new_frame}
use Rattle.go_step.specs.Calls.{blank, filled}
use Rattle.std.specs.Prelude.{slice_set}
use Rattle.std.proofs.lemmas.Option.{same_Some}

filled_next : {A : Type 0} (xs : List A) (slots : List (Option A)) (at : ℕ) (v : A) → at < length slots → slice_get xs at ≡ Some v → slice_set (map Some (take at xs) ++ drop at slots) at (Some v) ≡ map Some (take (suc at) xs) ++ drop (suc at) slots
filled_next [] slots at v h e = absurd cc
filled_next (x ∷ xs) [] at v h e = absurd (omega arith)
filled_next (x ∷ xs) (s ∷ slots) zero v h e = ap (λ y. Some y ∷ slots) (sym (same_Some x v e))
filled_next (x ∷ xs) (s ∷ slots) (suc at) v h e = ap (λ l. Some x ∷ l) (filled_next xs slots at v (omega arith) e)

pub one_filled : {A : Type 0} (xs : List A) (slots : List (Option A)) (at : ℕ) (v : A) → at < length slots → slice_get xs at ≡ Some v → slice_set (map Some (take at xs) ++ drop at slots) at (Some v) ≡ map Some (take (at + 1) xs) ++ drop (at + 1) slots
one_filled xs slots at v h e = let next : at + 1 ≡ suc at = omega arith in rw next (filled_next xs slots at v h e)

pub get_past_set : {A : Type 0} (xs : List A) (i k : ℕ) (v : A) → i < k → slice_get (slice_set xs i v) k ≡ slice_get xs k
get_past_set [] i k v h = refl
get_past_set (x ∷ xs) zero zero v h = absurd (omega arith)
get_past_set (x ∷ xs) zero (suc k) v h = refl
get_past_set (x ∷ xs) (suc i) zero v h = absurd (omega arith)
get_past_set (x ∷ xs) (suc i) (suc k) v h = get_past_set xs i k v (omega arith)

-- the frame of a call, once its arguments are there
pub entered : (P : Parts) (g n : ℕ) (args : List Value) (b : Bool) → length args ≡ n → filled (blank P g n b) args ≡ new_frame P g args b
entered P g n args b e =
    let none : Option Value = None in
    let room : max (function_at P g).slots n - length args ≡ (function_at P g).slots - length args = omega (arith, e) in
    ap (λ l. record (new_frame P g args b) { slots = map Some args ++ l }) (drop-replicate (length args) (max (function_at P g).slots n) none ∙ ap (λ m. replicate m none) room)
