-- Segments are the one division after breakers, and units count their statements.
use Rattle.std.proofs.Common.{◌≡◌, ℕ, ◌+◌, ◌==◌, Bool, true, false, cond, List, [], ◌∷◌, ◌++◌, length, refl, sym, ap, ◌∙◌, arith, sum_by, length-append}
use Rattle.std.specs.List.{flat_map}
use Rattle.std.proofs.lemmas.List.{append-nil}
use Rattle.std.proofs.lemmas.List.Sums.{sum_by-append}
use Rattle.cov_cut.specs.declared.frame.Frame.{Frame}
use Rattle.cov_cut.specs.declared.unit.Unit.{Unit as CutUnit}
use Rattle.cov_cut.specs.Outline.{Mark}
use Rattle.cov_cut.specs.Units.{segments, put_before, start_of, boundary_of, first_end, later_unit, unit, segment_units, list_units}
use Rattle.cov_cut.specs.Laws.{IsSegment, EndsInBreaker, AreSegments, joined, IsDivision, later_uncounted, uncounted, statements_in}

-- ---- segments divide the list

joined_put : (m : Mark) (segs : List (List Mark)) → joined (put_before m segs) ≡ m ∷ joined segs
joined_put m [] = refl
joined_put m (s ∷ more) = refl

joined_by : (b : Bool) (m : Mark) (segs : List (List Mark)) → joined (cond b ((m ∷ []) ∷ segs) (put_before m segs)) ≡ m ∷ joined segs
joined_by true m segs = refl
joined_by false m segs = joined_put m segs

joined_segments : (ms : List Mark) → joined (segments ms) ≡ ms
joined_segments [] = refl
joined_segments (m ∷ ms) = joined_by m.breaks m (segments ms) ∙ ap (λ l. m ∷ l) (joined_segments ms)

put_segment : (m : Mark) (s : List Mark) → m.breaks ≡ false → IsSegment s → IsSegment (m ∷ s)
put_segment m [] e h = tt
put_segment m (n ∷ more) e h = (e, h)

put_end : (m : Mark) (s : List Mark) → EndsInBreaker s → EndsInBreaker (m ∷ s)
put_end m [] h = absurd h
put_end m (n ∷ more) h = h

put_each : (m : Mark) (segs : List (List Mark)) → m.breaks ≡ false → AreSegments segs → AreSegments (put_before m segs)
put_each m [] e h = tt
put_each m (s ∷ []) e h = put_segment m s e h
put_each m (s ∷ t ∷ more) e h = (put_segment m s e h.0, put_end m s h.1, h.2)

one_each : (m : Mark) (segs : List (List Mark)) → m.breaks ≡ true → AreSegments segs → AreSegments ((m ∷ []) ∷ segs)
one_each m [] e h = tt
one_each m (s ∷ more) e h = (tt, e, h)

each_by : (b : Bool) (m : Mark) (segs : List (List Mark)) → m.breaks ≡ b → AreSegments segs → AreSegments (cond b ((m ∷ []) ∷ segs) (put_before m segs))
each_by true m segs e h = one_each m segs e h
each_by false m segs e h = put_each m segs e h

each_segment : (ms : List Mark) → AreSegments (segments ms)
each_segment [] = tt
each_segment (m ∷ ms) = each_by m.breaks m (segments ms) refl (each_segment ms)

pub is_division : (ms : List Mark) → IsDivision ms (segments ms)
is_division ms = record { whole = joined_segments ms; each = each_segment ms }

-- ---- and no other list of segments does

-- a breaker at the end of a segment ends it
segments_front : (s : List Mark) (rest : List Mark) → IsSegment s → EndsInBreaker s → segments (s ++ rest) ≡ s ∷ segments rest
segments_front [] rest h e = absurd h
segments_front (m ∷ []) rest h e = ap (λ b. cond b ((m ∷ []) ∷ segments rest) (put_before m (segments rest))) e
segments_front (m ∷ n ∷ more) rest h e =
    ap (λ b. cond b ((m ∷ []) ∷ segments (n ∷ more ++ rest)) (put_before m (segments (n ∷ more ++ rest)))) h.0
    ∙ ap (put_before m) (segments_front (n ∷ more) rest h.1 e)

-- a last segment, which may end without a breaker
segments_last_by : (b : Bool) (m : Mark) → cond b ((m ∷ []) ∷ []) (put_before m []) ≡ (m ∷ []) ∷ []
segments_last_by true m = refl
segments_last_by false m = refl

segments_last : (s : List Mark) → IsSegment s → segments s ≡ s ∷ []
segments_last [] h = absurd h
segments_last (m ∷ []) h = segments_last_by m.breaks m
segments_last (m ∷ n ∷ more) h =
    ap (λ b. cond b ((m ∷ []) ∷ segments (n ∷ more)) (put_before m (segments (n ∷ more)))) h.0
    ∙ ap (put_before m) (segments_last (n ∷ more) h.1)

segments_joined : (segs : List (List Mark)) → AreSegments segs → segments (joined segs) ≡ segs
segments_joined [] h = refl
segments_joined (s ∷ []) h = ap segments (append-nil s) ∙ segments_last s h
segments_joined (s ∷ t ∷ more) h = segments_front s (joined (t ∷ more)) h.0 h.1 ∙ ap (λ l. s ∷ l) (segments_joined (t ∷ more) h.2)

pub one_division : (ms : List Mark) (segs : List (List Mark)) → IsDivision ms segs → segs ≡ segments ms
one_division ms segs d = sym (ap segments (sym d.whole) ∙ segments_joined segs d.each)

-- ---- counting

unit_counts : (b : Bool) (start end insert : ℕ) (s : List Mark)
    → statements_in (cond b [] (record { start = start; end = end; insert = insert; statements = length s } ∷ [])) + sum_by length (cond b (s ∷ []) []) ≡ length s
unit_counts true start end insert s = omega arith
unit_counts false start end insert s = omega arith

one_counts : (start end insert : ℕ) (s : List Mark) → statements_in (unit start end insert (length s)) + sum_by length (cond (start == end) (s ∷ []) []) ≡ length s
one_counts start end insert s = unit_counts (start == end) start end insert s

both_count : (us vs : List CutUnit) (ss ts : List (List Mark)) (n k : ℕ)
    → statements_in us + sum_by length ss ≡ n → statements_in vs + sum_by length ts ≡ k → statements_in (us ++ vs) + sum_by length (ss ++ ts) ≡ n + k
both_count us vs ss ts n k e g =
    let a : statements_in (us ++ vs) ≡ statements_in us + statements_in vs = sum_by-append (λ (u : CutUnit). u.statements) us vs in
    let b : sum_by length (ss ++ ts) ≡ sum_by length ss + sum_by length ts = sum_by-append (length {A = Mark}) ss ts in
    omega arith

later_count : (segs : List (List Mark)) → statements_in (flat_map later_unit segs) + sum_by length (flat_map later_uncounted segs) ≡ length (joined segs)
later_count [] = refl
later_count (s ∷ more) =
    both_count (later_unit s) (flat_map later_unit more) (later_uncounted s) (flat_map later_uncounted more) (length s) (length (joined more))
    (one_counts (start_of s) (boundary_of s) (start_of s) s) (later_count more)
    ∙ sym (length-append s (joined more))

segments_count : (f : Frame) (segs : List (List Mark)) → statements_in (segment_units f segs) + sum_by length (uncounted f segs) ≡ length (joined segs)
segments_count f [] = refl
segments_count f (s ∷ more) =
    both_count (unit f.start (first_end f s) f.insert (length s)) (flat_map later_unit more) (cond (f.start == first_end f s) (s ∷ []) []) (flat_map later_uncounted more) (length s) (length (joined more))
    (one_counts f.start (first_end f s) f.insert s) (later_count more)
    ∙ sym (length-append s (joined more))

-- the statements of a list are those that its units count and those of its segments without a unit
pub list_counts : (f : Frame) (ms : List Mark) → statements_in (list_units f ms) + sum_by length (uncounted f (segments ms)) ≡ length ms
list_counts f ms = segments_count f (segments ms) ∙ ap length (joined_segments ms)
