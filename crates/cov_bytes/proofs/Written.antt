-- What is written is the shortest spelling.
use Rattle.std.proofs.Common.{◌≡◌, ℕ, zero, suc, ◌+◌, ◌/◌, ◌%◌, ◌^◌, ◌<◌, ◌≤◌, List, [], ◌∷◌, length, ⊎_elim, arith}
use Rattle.std.specs.List.{position_or_len}
use Rattle.std.proofs.lemmas.Bool.{cases_lt}
use Rattle.std.proofs.lemmas.Bool.Decides.{nat_tests}
use Rattle.std.proofs.Math.Nat.{pow-succ'}
use Rattle.cov_bytes.specs.Reading.{groups_value}
use Rattle.cov_bytes.specs.Writing.{groups_of, uleb_of}
use Rattle.cov_bytes.specs.Laws.{IsUleb, WrittenIsShortest}
use Rattle.cov_bytes.proofs.Numbers.{is_last}
use Rattle.cov_bytes.proofs.Spelling.{group_last, group_more, rest_bound}

one_ends : (n : ℕ) → n < 128 → position_or_len is_last (n ∷ []) + 1 ≡ length (n ∷ [])
one_ends n lt = grind (arith, nat_tests)

more_ends : (n : ℕ) (rest : List ℕ) → position_or_len is_last rest + 1 ≡ length rest → position_or_len is_last ((128 + n % 128) ∷ rest) + 1 ≡ length ((128 + n % 128) ∷ rest)
more_ends n rest h = grind (arith, nat_tests)

groups_end : (k n : ℕ) → n < 128 ^ suc k → position_or_len is_last (groups_of k n) + 1 ≡ length (groups_of k n)
groups_end zero n lt = rw (group_last zero n (omega arith)) (one_ends n (omega arith))
groups_end (suc k) n lt =
    ⊎_elim
    (λ small. rw (group_last (suc k) n small) (one_ends n small))
    (λ large. rw (group_more k n large) (more_ends n (groups_of k (n / 128)) (groups_end k (n / 128) (rest_bound (suc k) n lt))))
    (cases_lt n 128)

groups_length : (k n : ℕ) → length (groups_of k n) ≤ suc k
unfolding groups_of
groups_length zero n = omega arith
groups_length (suc k) n =
    ⊎_elim
    (λ small. rw (group_last (suc k) n small) (omega arith))
    (λ large. rw (group_more k n large) (omega (arith, groups_length k (n / 128))))
    (cases_lt n 128)

groups_are : (k n : ℕ) → n < 128 ^ suc k → groups_value (groups_of k n) ≡ n
groups_are zero n lt = rw (group_last zero n (omega arith)) (omega arith)
groups_are (suc k) n lt =
    ⊎_elim
    (λ small. rw (group_last (suc k) n small) (omega arith))
    (λ large. rw (group_more k n large) (omega (arith, groups_are k (n / 128) (rest_bound (suc k) n lt))))
    (cases_lt n 128)

groups_shortest : (k n len : ℕ) → n < 128 ^ suc len → length (groups_of k n) ≤ suc len
groups_shortest zero n len lt = omega (arith, groups_length zero n)
groups_shortest (suc k) n zero lt = rw (group_last (suc k) n (omega arith)) (omega arith)
groups_shortest (suc k) n (suc len) lt =
    ⊎_elim
    (λ small. rw (group_last (suc k) n small) (omega arith))
    (λ large. rw (group_more k n large) (omega (arith, groups_shortest k (n / 128) len (rest_bound (suc len) n lt))))
    (cases_lt n 128)

value_bound : (spelling : List ℕ) → groups_value spelling < 128 ^ length spelling
value_bound [] = omega arith
value_bound (b ∷ bs) = let rest = value_bound bs in rw (pow-succ' 128 (length bs)) (omega arith)

no_shorter : (spelling : List ℕ) (n : ℕ) → IsUleb spelling n → length (groups_of 4 n) ≤ length spelling
no_shorter [] n u = absurd (omega (arith, u.ends))
no_shorter (b ∷ bs) n u = groups_shortest 4 n (length bs) (omega (arith, u.value, value_bound (b ∷ bs)))

pub written_is_shortest : WrittenIsShortest
unfolding uleb_of
written_is_shortest n lt = (
  record {
    ends = groups_end 4 n (omega arith);
    few = omega (arith, groups_length 4 n);
    value = groups_are 4 n (omega arith);
    small = lt;
  },
  λ spelling u. no_shorter spelling n u,
)
