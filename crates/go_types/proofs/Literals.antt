-- Digits behind a value are at least that value.
use Rattle.std.proofs.Common.{◌≡◌, ℕ, ◌+◌, ◌*◌, ◌≤◌, List, [], ◌∷◌, ◌==◌, Bool, true, false, cond, arith, suc, ◌<◌, ◌∙◌, sym, ap, subst, inl, inr, length, drop, get_or}
use Rattle.std.proofs.Math.Seq.{drop-cons}
use Rattle.std.proofs.lemmas.Bool.Decides.{eqb_tells}
use Rattle.std.proofs.Math.Nat.{mul-le-mul_left}
use Rattle.std.specs.Char.{digit_value}
use Rattle.go_types.specs.Literals.{digits_value}

either : (b : Bool) (v m n : ℕ) → v ≤ m → v ≤ n → v ≤ cond b m n
either true v m n h i = h
either false v m n h i = i

more : (base value digit : ℕ) → 1 ≤ base → value ≤ value * base + digit
more base value digit h = omega (arith, mul-le-mul_left value h)

pub digits_value_least : (base value : ℕ) (bytes : List ℕ) → 1 ≤ base → value ≤ digits_value base value bytes
digits_value_least base value [] h = omega arith
digits_value_least base value (byte ∷ bytes) h =
    let next = value * base + digit_value byte in
    let least : next ≤ digits_value base next bytes = digits_value_least base next bytes h in
    let first : value ≤ next = more base value (digit_value byte) h in
    either (byte == 95) value _ _ (digits_value_least base value bytes h) (omega (arith, least, first))

other : (byte : ℕ) → (byte ≡ 95 → ⊥) → (byte == 95) ≡ false
other byte h = elim (eqb_tells byte 95) [ inl e ↦ absurd (h e.1) | inr e ↦ e.0 ]

-- where a digit that isn't `_` comes next, so are they at least the value with it
pub next_least : (base value byte total : ℕ) (digits : List ℕ) (i : ℕ) → 1 ≤ base → i < length digits → byte ≡ get_or digits i 0 → (byte ≡ 95 → ⊥) → digits_value base value (drop i digits) ≡ total → value * base + digit_value byte ≤ total
next_least base value byte total digits i h within is not_line e =
    let split : drop i digits ≡ byte ∷ drop (suc i) digits = drop-cons digits i 0 within ∙ ap (λ b. b ∷ drop (suc i) digits) (sym is) in
    let next = value * base + digit_value byte in
    let whole : cond (byte == 95) (digits_value base value (drop (suc i) digits)) (digits_value base next (drop (suc i) digits)) ≡ total = sym (ap (digits_value base value) split) ∙ e in
    let digit : cond (byte == 95) (digits_value base value (drop (suc i) digits)) (digits_value base next (drop (suc i) digits)) ≡ digits_value base next (drop (suc i) digits) = ap (λ b. cond b (digits_value base value (drop (suc i) digits)) (digits_value base next (drop (suc i) digits))) (other byte not_line) in
    subst (λ n. next ≤ n) (sym digit ∙ whole) (digits_value_least base next (drop (suc i) digits) h)
