-- The clause of a `select` that has a number.
use Rattle.std.proofs.Common.{◌≡◌, ℕ, zero, suc, ◌-◌, ◌≤◌, true, List, [], ◌∷◌, Option, Some, None, refl, sym, ap, ◌∙◌, length, take, drop, slice_get, arith}
use Rattle.std.specs.Prelude.{nat_le}
use Rattle.std.proofs.lemmas.Bool.{le-leb}
use Rattle.go_meaning.specs.declared.value.Value.{Value}
use Rattle.go_meaning.specs.declared.node.CommClause.{CommClause}
use Rattle.go_meaning.specs.Channels.{pick_operands}
use Rattle.go_step.specs.declared.parts.Part.{Part}
use Rattle.go_step.specs.Parts.{comm_part, clause_part, pick_part}
use Rattle.go_step.proofs.Calling.{if_true}

-- a slice from a number on is all that is left there
take_whole : {A : Type 0} (xs : List A) → take (length xs) xs ≡ xs
take_whole [] = refl
take_whole (x ∷ xs) = ap (λ l. x ∷ l) (take_whole xs)

pub slice_rest : {A : Type 0} (xs : List A) (k : ℕ) → take (length xs - k) (drop k xs) ≡ drop k xs
slice_rest xs zero = let e : length xs - 0 ≡ length xs = omega arith in ap (λ n. take n xs) e ∙ take_whole xs
slice_rest {A = A} [] (suc k) = none (0 - suc k)
  where
    none : (n : ℕ) → take n (drop {A = A} (suc k) []) ≡ drop {A = A} (suc k) []
    none zero = refl
    none (suc n) = refl
slice_rest (x ∷ xs) (suc k) = let e : length (x ∷ xs) - suc k ≡ length xs - k = omega arith in ap (λ n. take n (drop k xs)) e ∙ slice_rest xs k

pub pick_found : (cs : List CommClause) (k : ℕ) (st : List Value) (c : CommClause) (pops left : ℕ) → slice_get cs k ≡ Some c → pops ≡ pick_operands cs → pops ≤ length st → left ≡ pick_operands (drop k cs) → comm_part c.comm c.list pops left st ≡ pick_part cs k st
pick_found cs k st c pops left at p h m =
    let none : Option Part = None in
    let within : pick_operands cs ≤ length st = omega (arith, p, h) in
    ap (λ n. comm_part c.comm c.list n left st) p ∙ ap (λ n. comm_part c.comm c.list (pick_operands cs) n st) m
    ∙ sym (if_true (nat_le (pick_operands cs) (length st)) (clause_part cs k (slice_get cs k) st) none (le-leb (pick_operands cs) (length st) within)
    ∙ ap (λ o. clause_part cs k o st) at)
