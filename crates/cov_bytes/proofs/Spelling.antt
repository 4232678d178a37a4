-- The shortest spelling of a number, group by group.
use Rattle.std.proofs.Common.{◌≡◌, ℕ, zero, suc, ◌+◌, ◌*◌, ◌-◌, ◌/◌, ◌%◌, ◌^◌, ◌<◌, ◌≤◌, List, [], ◌∷◌, ◌++◌, length, take, set, refl, sym, ap, ◌∙◌, arith}
use Rattle.std.proofs.lemmas.Bool.Decides.{nat_tests}
use Rattle.std.proofs.lemmas.List.{take_more_set}
use Rattle.std.proofs.Common.{append_assoc}
use Rattle.std.proofs.Math.Nat.{pow-succ'}
use Rattle.cov_bytes.specs.Writing.{groups_of}

pub group_last : (further n : ℕ) → n < 128 → groups_of further n ≡ n ∷ []
unfolding groups_of
group_last zero n lt = refl
group_last (suc further) n lt = grind (arith, nat_tests)

pub group_more : (further n : ℕ) → 128 ≤ n → groups_of (suc further) n ≡ (128 + n % 128) ∷ groups_of further (n / 128)
unfolding groups_of
group_more further n le = grind (arith, nat_tests)

pub rest_bound : (k n : ℕ) → n < 128 ^ suc k → n / 128 < 128 ^ k
rest_bound k n lt = let e : 128 ^ suc k ≡ 128 * 128 ^ k = pow-succ' 128 k in omega arith

-- a group is stored behind those that were found
pub stored : (groups spelling : List ℕ) (len group rest : ℕ) → len < 4 → length groups ≡ 5 → 128 ≤ rest → group ≡ 128 + rest % 128 → take len groups ++ groups_of (4 - len) rest ≡ spelling
    → take (len + 1) (set groups len group) ++ groups_of (4 - (len + 1)) (rest / 128) ≡ spelling
stored groups spelling len group rest lt size le is so_far =
    let k : 4 - len ≡ suc (4 - (len + 1)) = omega arith in
    let here : len < length groups = omega arith in
    ap (λ (front : List ℕ). front ++ groups_of (4 - (len + 1)) (rest / 128)) (take_more_set groups len group here) ∙ append_assoc (take len groups) (group ∷ []) (groups_of (4 - (len + 1)) (rest / 128))
    ∙ ap (λ (g : ℕ). take len groups ++ g ∷ groups_of (4 - (len + 1)) (rest / 128)) is ∙ ap (λ (t : List ℕ). take len groups ++ t) (sym (group_more (4 - (len + 1)) rest le)) ∙ ap (λ (i : ℕ). take len groups ++ groups_of i rest) (sym k) ∙ so_far

-- so is the last one
pub stored_last : (groups spelling : List ℕ) (len rest : ℕ) → len ≤ 4 → length groups ≡ 5 → rest < 128 → take len groups ++ groups_of (4 - len) rest ≡ spelling
    → take (len + 1) (set groups len rest) ≡ spelling
stored_last groups spelling len rest le size lt so_far =
    let here : len < length groups = omega arith in
    take_more_set groups len rest here ∙ ap (λ (t : List ℕ). take len groups ++ t) (sym (group_last (4 - len) rest lt)) ∙ so_far

room_at_four : (len k rest : ℕ) → len ≤ 4 → k ≡ 5 - len → 128 ≤ rest → rest < 128 ^ k → len < 4
room_at_four len zero rest le e big small = omega arith
room_at_four len (suc zero) rest le e big small = absurd (omega arith)
room_at_four len (suc (suc k)) rest le e big small = omega arith

pub room : (len rest : ℕ) → len ≤ 4 → 128 ≤ rest → rest < 128 ^ (5 - len) → len < 4
room len rest le big small = room_at_four len (5 - len) rest le refl big small
