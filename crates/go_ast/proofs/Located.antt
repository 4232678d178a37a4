-- Where a line starts that an offset lies in.
use Rattle.std.proofs.Common.{◌≡◌, ℕ, zero, suc, ◌+◌, ◌-◌, ◌<◌, ◌≤◌, Bool, true, false, cond, not, List, [], ◌∷◌, length, take, get_or, refl, sym, ap, subst, arith, nat_le}
use Rattle.std.specs.Prelude.{count_by}
use Rattle.std.specs.List.{suffix_len}
use Rattle.std.specs.List.Sorted.{IsPartitionPoint, IsPartitionedBy}
use Rattle.std.proofs.lemmas.Bool.{leb-true, le-leb, leb-false}
use Rattle.std.proofs.lemmas.List.Sums.{suffix_len-take_yes, suffix_len-take_no, count_by_more_yes, count_by_more_no}
use Rattle.go_ast.specs.Places.{is_newline, starts_from, line_starts, place_at}
use Rattle.go_ast.specs.Starts.{AreStarts}
use Rattle.go_ast.specs.declared.place.Place.{Place}

same_get : (starts : List ℕ) (j d : ℕ) → j < length starts → get_or starts j d ≡ get_or starts j 0
same_get [] j d lt = absurd (omega arith)
same_get (s ∷ ss) zero d lt = refl
same_get (s ∷ ss) (suc j) d lt = same_get ss j d (omega arith)

-- starts that rise are parted by an offset
pub rising : (starts : List ℕ) (offset : ℕ) → AreStarts starts → IsPartitionedBy (λ s. nat_le s offset) starts
rising starts offset are i j d le lt e =
    let high = leb-true (get_or starts j d) offset e in
    let low = are.rise i j le lt in
    let a = same_get starts i d (omega arith) in
    let b = same_get starts j d lt in
    le-leb (get_or starts i d) offset (omega arith)

-- the first start is 0, so it is never behind an offset
pub first_passes : (starts : List ℕ) (offset line : ℕ) → AreStarts starts → IsPartitionPoint (λ s. nat_le s offset ≡ true) (λ s. nat_le s offset ≡ false) starts line → 0 < line
first_passes starts offset zero are point = let high = leb-false (get_or starts 0 0) offset (point.1 0 0 (omega arith) are.some) in let first = are.first in absurd (omega arith)
first_passes starts offset (suc line) are point = omega arith

-- a line and a column, and those after one more byte
abbrev pub step : ℕ × ℕ → ℕ → ℕ × ℕ
step p byte = cond (is_newline byte) (p.0 + 1, 1) (p.0, p.1 + 1)

abbrev pub steps : ℕ × ℕ → ℕ → List ℕ → ℕ × ℕ
steps p zero bytes = p
steps p (suc n) [] = p
steps p (suc n) (byte ∷ bytes) = steps (step p byte) n bytes

-- among the starts of lines, the one that an offset belongs to: the next is behind it
pub record IsStartOf (starts : List ℕ) (at line column : ℕ) : Type 0 where
  pub within : line < length starts
  pub here : get_or starts line 0 + column ≡ at + 1
  pub some : 1 ≤ column
  pub next : line + 1 < length starts → at < get_or starts (line + 1) 0

starts_behind : (text : List ℕ) (at : ℕ) → 0 < length (starts_from at text) → at < get_or (starts_from at text) 0 0
starts_behind [] at lt = absurd (omega arith)
starts_behind (b ∷ bs) at lt = go (is_newline b) refl lt (starts_behind bs (at + 1))
  where
    go : (v : Bool) → is_newline b ≡ v → 0 < length (starts_from at (b ∷ bs)) → (0 < length (starts_from (at + 1) bs) → at + 1 < get_or (starts_from (at + 1) bs) 0 0) → at < get_or (starts_from at (b ∷ bs)) 0 0
    go true e lt' h = rw e (omega arith)
    go false e lt' h = let some : 0 < length (starts_from (at + 1) bs) = rw e at lt' in let low = h some in rw e (omega arith)

grows : (bytes : List ℕ) (n line column : ℕ) → line ≤ (steps (line, column) n bytes).0
grows bytes zero line column = omega arith
grows [] (suc n) line column = omega arith
grows (byte ∷ bytes) (suc n) line column = go (is_newline byte) refl (grows bytes n (line + 1) 1) (grows bytes n line (column + 1))
  where
    go : (v : Bool) → is_newline byte ≡ v → line + 1 ≤ (steps (line + 1, 1) n bytes).0 → line ≤ (steps (line, column + 1) n bytes).0 → line ≤ (steps (step (line, column) byte) n bytes).0
    go true i more less = rw i (omega arith)
    go false i more less = rw i less

-- one line further down
below_first : (start at line column : ℕ) (starts : List ℕ) → IsStartOf starts at line column → IsStartOf (start ∷ starts) at (suc line) column
below_first start at line column starts is =
    let within = is.within in
    let next = is.next in
    let k : suc line + 1 ≡ suc (line + 1) = omega arith in
    record { within = omega arith; here = is.here; some = is.some; next = rw k (λ lt. next (omega arith)) }

-- after n bytes
pub located : (text : List ℕ) (n at start line column before : ℕ) → n ≤ length text → start + column ≡ at + 1 → 1 ≤ column → line + before ≡ (steps (line, column) n text).0
    → IsStartOf (start ∷ starts_from at text) (at + n) before (steps (line, column) n text).1
located text zero at start line column before h s some e =
    let none : before ≡ 0 = omega arith in
    rw none (record { within = omega arith; here = omega arith; some = some; next = λ lt. let low = starts_behind text at (omega arith) in omega arith })
located [] (suc n) at start line column before h s some e = absurd (omega arith)
located (b ∷ bs) (suc n) at start line column before h s some e = go (is_newline b) refl e (grows bs n (line + 1) 1) (located bs n (at + 1) (at + 1) (line + 1) 1) (located bs n (at + 1) start line (column + 1) before)
  where
    plus : at + 1 + n ≡ at + suc n
    plus = omega arith

    go : (v : Bool) → is_newline b ≡ v → line + before ≡ (steps (step (line, column) b) n bs).0 → line + 1 ≤ (steps (line + 1, 1) n bs).0
        → ((before' : ℕ) → n ≤ length bs → at + 1 + 1 ≡ at + 1 + 1 → 1 ≤ 1 → line + 1 + before' ≡ (steps (line + 1, 1) n bs).0 → IsStartOf ((at + 1) ∷ starts_from (at + 1) bs) (at + 1 + n) before' (steps (line + 1, 1) n bs).1)
        → (n ≤ length bs → start + (column + 1) ≡ at + 1 + 1 → 1 ≤ column + 1 → line + before ≡ (steps (line, column + 1) n bs).0 → IsStartOf (start ∷ starts_from (at + 1) bs) (at + 1 + n) before (steps (line, column + 1) n bs).1)
        → IsStartOf (start ∷ starts_from at (b ∷ bs)) (at + suc n) before (steps (step (line, column) b) n bs).1
    go true i e' more h1 h2 =
        let e1 : line + before ≡ (steps (line + 1, 1) n bs).0 = rw i at e' in
        let k : before ≡ suc (before - 1) = omega arith in
        let is = h1 (before - 1) (omega arith) refl (omega arith) (omega arith) in
        rw (k, i, ← plus) (below_first start (at + 1 + n) (before - 1) (steps (line + 1, 1) n bs).1 ((at + 1) ∷ starts_from (at + 1) bs) is)
    go false i e' more h1 h2 =
        let e1 : line + before ≡ (steps (line, column + 1) n bs).0 = rw i at e' in
        rw (i, ← plus) (h2 (omega arith) (omega arith) (omega arith) e1)

one_step : (text : List ℕ) (n : ℕ) (p : ℕ × ℕ) → n < length text → steps p (suc n) text ≡ step (steps p n text) (get_or text n 0)
one_step [] n p lt = absurd (omega arith)
one_step (byte ∷ bytes) zero p lt = refl
one_step (byte ∷ bytes) (suc n) p lt = one_step bytes n (step p byte) (omega arith)

sub-suc : (m : ℕ) → suc m - 1 ≡ m
sub-suc m = omega arith

-- the place of an offset, byte by byte
pub place_by_steps : (n : ℕ) (text : List ℕ) → n ≤ length text → ((place_at text n).line ≡ (steps (1, 1) n text).0) × ((place_at text n).column ≡ (steps (1, 1) n text).1)
place_by_steps zero text h = (refl, refl)
place_by_steps (suc n) text h = go (is_newline (get_or text n 0)) refl (place_by_steps n text (omega arith))
  where
    k : n + 1 ≡ suc n
    k = omega arith

    go : (v : Bool) → is_newline (get_or text n 0) ≡ v → ((place_at text n).line ≡ (steps (1, 1) n text).0) × ((place_at text n).column ≡ (steps (1, 1) n text).1)
        → ((place_at text (suc n)).line ≡ (steps (1, 1) (suc n) text).0) × ((place_at text (suc n)).column ≡ (steps (1, 1) (suc n) text).1)
    go true i both =
        let count : count_by is_newline (take (suc n) text) ≡ count_by is_newline (take n text) + 1 = rw k at (count_by_more_yes is_newline text n 0 (omega arith) i) in
        let since : suffix_len (λ byte. not (is_newline byte)) (take (suc n) text) ≡ 0 = suffix_len-take_no (λ byte. not (is_newline byte)) text (suc n) 0 (omega arith) h (rw (sub-suc n) (ap not i)) in
        let lines = both.0 in
        rw (one_step text n (1, 1) (omega arith), i, since) (omega arith, refl)
    go false i both =
        let count : count_by is_newline (take (suc n) text) ≡ count_by is_newline (take n text) = rw k at (count_by_more_no is_newline text n 0 (omega arith) i) in
        let since : suffix_len (λ byte. not (is_newline byte)) (take (suc n) text) ≡ 1 + suffix_len (λ byte. not (is_newline byte)) (take n text) = rw (sub-suc n) at (suffix_len-take_yes (λ byte. not (is_newline byte)) text (suc n) 0 (omega arith) h (rw (sub-suc n) (ap not i))) in
        let lines = both.0 in
        let columns = both.1 in
        rw (one_step text n (1, 1) (omega arith), i) (omega arith, omega arith)

-- the start of the line that an offset lies in is found among the starts
found : (starts : List ℕ) (offset here column line : ℕ) → IsStartOf starts offset here column → 0 < line → line ≤ length starts
    → ((i : ℕ) → i < line → get_or starts i 0 ≤ offset) → ((i : ℕ) → line ≤ i → i < length starts → offset < get_or starts i 0) → line ≡ here + 1
found starts offset here column line is some most before after = go (nat_le line here) refl
  where
    late : (v : Bool) → nat_le (here + 2) line ≡ v → here < line → line ≡ here + 1
    late true e lt = let le = leb-true (here + 2) line e in let low = before (here + 1) (omega arith) in let high = is.next (omega arith) in absurd (omega arith)
    late false e lt = let le = leb-false (here + 2) line e in omega arith

    go : (v : Bool) → nat_le line here ≡ v → line ≡ here + 1
    go true e = let le = leb-true line here e in let high = after here le is.within in let low = is.here in let more = is.some in absurd (omega arith)
    go false e = late (nat_le (here + 2) line) refl (leb-false line here e)

-- the line that an offset lies in, and its column
pub same_place : (text : List ℕ) (offset line : ℕ) → offset ≤ length text → 0 < line → line ≤ length (line_starts text)
    → ((i : ℕ) → i < line → get_or (line_starts text) i 0 ≤ offset) → ((i : ℕ) → line ≤ i → i < length (line_starts text) → offset < get_or (line_starts text) i 0)
    → (line ≡ (place_at text offset).line) × (get_or (line_starts text) (line - 1) 0 + (place_at text offset).column ≡ offset + 1)
same_place text offset line h some most before after =
    let by = place_by_steps offset text h in
    let lines = by.0 in
    let columns = by.1 in
    let low = grows text offset 1 1 in
    let here = (steps (1, 1) offset text).0 - 1 in
    let zero-off : 0 + offset ≡ offset = omega arith in
    let is : IsStartOf (line_starts text) offset here (steps (1, 1) offset text).1 = subst (λ (n : ℕ). IsStartOf (line_starts text) n here (steps (1, 1) offset text).1) zero-off (located text offset 0 0 1 1 here h refl (omega arith) (omega arith)) in
    let at : line ≡ here + 1 = found (line_starts text) offset here (steps (1, 1) offset text).1 line is some most before after in
    let one : line - 1 ≡ here = omega arith in
    (omega arith, rw (one, columns) is.here)

-- a place from the start of the line
pub place_is : (text starts : List ℕ) (offset line start : ℕ) → starts ≡ line_starts text → offset ≤ length text → 0 < line → line ≤ length starts
    → ((i : ℕ) → i < line → get_or starts i 0 ≤ offset) → ((i : ℕ) → line ≤ i → i < length starts → offset < get_or starts i 0)
    → start ≡ get_or starts (line - 1) start → (line ≡ (place_at text offset).line) × (offset - start + 1 ≡ (place_at text offset).column)
place_is text starts offset line start e h some most before after at =
    let P : List ℕ → Type 0 = λ ss. line ≤ length ss → ((i : ℕ) → i < line → get_or ss i 0 ≤ offset) → ((i : ℕ) → line ≤ i → i < length ss → offset < get_or ss i 0) → (line ≡ (place_at text offset).line) × (get_or ss (line - 1) 0 + (place_at text offset).column ≡ offset + 1) in
    let both = subst P (sym e) (same_place text offset line h some) most before after in
    let same = same_get starts (line - 1) start (omega arith) in
    let low = before (line - 1) (omega arith) in
    let column = both.1 in
    (both.0, omega arith)

pub same_record : (line column : ℕ) (place : Place) → (line ≡ place.line) × (column ≡ place.column) → record { line = line; column = column } ≡ place
same_record line column place both = rw (both.0, both.1) refl
