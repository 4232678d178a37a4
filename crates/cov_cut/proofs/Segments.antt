-- Segments one at a time.
use Rattle.std.proofs.Common.{◌≡◌, ℕ, suc, zero, ◌≤◌, Bool, true, false, cond, List, [], ◌∷◌, ◌++◌, length, get_or, take, drop, refl, sym, ap, ap₂, subst, ◌||◌, ◌∙◌, map, arith}
use Rattle.cov_cut.specs.Outline.{Mark, mark_of, Node, marks}
use Rattle.std.specs.List.{flat_map, list_any}
use Rattle.go_ast.specs.declared.block.Stmt.{Stmt}
use Rattle.cov_cut.specs.declared.frame.Frame.{Frame}
use Rattle.cov_cut.proofs.Opened.{outline_is}
use Rattle.cov_cut.specs.Layers.{mark, outlines, first_length}
use Rattle.cov_cut.specs.Units.{segments, put_before, boundary_of, start_of, has_breaker, unit, later_unit, first_end, segment_units, list_units}

segments_by : (b : Bool) (m : Mark) (ms : List Mark) → (n : ℕ) → (put_before m (segments ms) ≡ (m ∷ take n ms) ∷ segments (drop n ms))
    → cond b ((m ∷ []) ∷ segments ms) (put_before m (segments ms)) ≡ take (cond b 1 (suc n)) (m ∷ ms) ∷ segments (drop (cond b 1 (suc n)) (m ∷ ms))
segments_by true m ms n e = refl
segments_by false m ms n e = e

-- The first segment is as long as `first_length` says.
pub segments_are : (m : Mark) (ms : List Mark) → segments (m ∷ ms) ≡ take (first_length (m ∷ ms)) (m ∷ ms) ∷ segments (drop (first_length (m ∷ ms)) (m ∷ ms))
segments_are m [] = segments_by m.breaks m [] 0 refl
segments_are m (n ∷ ms) = segments_by m.breaks m (n ∷ ms) (first_length (n ∷ ms)) (ap (put_before m) (segments_are n ms))

length_by : (b : Bool) (n k : ℕ) → n ≤ k → cond b 1 (suc n) ≤ suc k
length_by true n k h = omega arith
length_by false n k h = omega arith

pub first_length_within : (ms : List Mark) → first_length ms ≤ length ms
first_length_within [] = omega arith
first_length_within (m ∷ ms) = length_by m.breaks (first_length ms) (length ms) (first_length_within ms)

some_by : (b : Bool) (n : ℕ) → 1 ≤ cond b 1 (suc n)
some_by true n = omega arith
some_by false n = omega arith

pub first_length_some : (m : Mark) (ms : List Mark) → 1 ≤ first_length (m ∷ ms)
first_length_some m ms = some_by m.breaks (first_length ms)

-- The boundary of the last statement is that of the statement at the last index.
pub boundary_at : (xs : List Stmt) (k : ℕ) (d : Stmt) → suc k ≡ length xs → (mark (get_or xs k d)).boundary ≡ boundary_of (map mark xs)
boundary_at [] k d h = absurd (omega arith)
boundary_at (x ∷ []) zero d h = refl
boundary_at (x ∷ []) (suc k) d h = absurd (omega arith)
boundary_at (x ∷ y ∷ zs) zero d h = absurd (omega arith)
boundary_at (x ∷ y ∷ zs) (suc k) d h = boundary_at (y ∷ zs) k d (omega arith)

pub marks_are : (xs : List Stmt) → marks (outlines xs) ≡ map mark xs
marks_are [] = refl
marks_are (x ∷ xs) = ap (λ l. mark x ∷ l) (marks_are xs)

pub has_breaker_map : (xs : List Stmt) → has_breaker (map mark xs) ≡ list_any (λ s. (mark s).breaks) xs
has_breaker_map [] = refl
has_breaker_map (x ∷ xs) = ap (λ b. (mark x).breaks || b) (has_breaker_map xs)

take_map : (n : ℕ) (xs : List Stmt) → take n (map mark xs) ≡ map mark (take n xs)
take_map zero xs = refl
take_map (suc n) [] = refl
take_map (suc n) (x ∷ xs) = ap (λ l. mark x ∷ l) (take_map n xs)

drop_map : (n : ℕ) (xs : List Stmt) → drop n (map mark xs) ≡ map mark (drop n xs)
drop_map zero xs = refl
drop_map (suc n) [] = refl
drop_map (suc n) (x ∷ xs) = drop_map n xs

length_map : (xs : List Stmt) → length (map mark xs) ≡ length xs
length_map [] = refl
length_map (x ∷ xs) = ap suc (length_map xs)

start_map : (n : ℕ) (x : Stmt) (xs : List Stmt) → 1 ≤ n → start_of (map mark (take n (x ∷ xs))) ≡ x.span.start
start_map zero x xs h = absurd (omega arith)
start_map (suc n) x xs h = ap (λ (o : Node). (mark_of o).start) (outline_is x)

-- the first segment, and the rest behind it
pub segments_map : (x : Stmt) (xs : List Stmt) (n : ℕ) → n ≡ first_length (map mark (x ∷ xs))
    → segments (map mark (x ∷ xs)) ≡ map mark (take n (x ∷ xs)) ∷ segments (map mark (drop n (x ∷ xs)))
segments_map x xs n e =
    segments_are (mark x) (map mark xs)
    ∙ ap (λ k. take k (map mark (x ∷ xs)) ∷ segments (drop k (map mark (x ∷ xs)))) (sym e)
    ∙ ap₂ (λ a b. a ∷ segments b) (take_map n (x ∷ xs)) (drop_map n (x ∷ xs))

later_unit_map : (x : Stmt) (xs : List Stmt) (n : ℕ) → n ≡ first_length (map mark (x ∷ xs))
    → later_unit (map mark (take n (x ∷ xs))) ≡ unit x.span.start (boundary_of (map mark (take n (x ∷ xs)))) x.span.start (length (take n (x ∷ xs)))
later_unit_map x xs n e =
    let some : 1 ≤ n = subst (λ k. 1 ≤ k) (sym e) (first_length_some (mark x) (map mark xs)) in
    ap (λ k. unit k (boundary_of (map mark (take n (x ∷ xs)))) k (length (map mark (take n (x ∷ xs))))) (start_map n x xs some)
    ∙ ap (λ k. unit x.span.start (boundary_of (map mark (take n (x ∷ xs)))) x.span.start k) (length_map (take n (x ∷ xs)))

-- a later segment by the code's step
pub later_step : (rest : List Stmt) (x : Stmt) (front back : List Stmt) (n : ℕ) (end : ℕ)
    → 1 ≤ length rest → x ≡ get_or rest 0 x → n ≡ first_length (map mark rest) → front ≡ take n rest → back ≡ drop n rest
    → end ≡ boundary_of (map mark front)
    → flat_map later_unit (segments (map mark rest)) ≡ unit x.span.start end x.span.start (length front) ++ flat_map later_unit (segments (map mark back))
later_step [] x front back n end h is e f b g = absurd (omega arith)
later_step (y ∷ ys) x front back n end h is e f b g =
    ap (flat_map later_unit) (segments_map y ys n e)
    ∙ ap (λ us. us ++ flat_map later_unit (segments (map mark (drop n (y ∷ ys))))) (later_unit_map y ys n e)
    ∙ cc

-- the first segment by the code's step
pub first_step : (f : Frame) (list : List Stmt) (front back : List Stmt) (n : ℕ) (end : ℕ)
    → (list ≡ [] → ⊥) → n ≡ first_length (map mark list) → front ≡ take n list → back ≡ drop n list
    → end ≡ first_end f (map mark front)
    → list_units f (map mark list) ≡ unit f.start end f.insert (length front) ++ flat_map later_unit (segments (map mark back))
first_step f [] front back n end h e t d g = absurd (h refl)
first_step f (y ∷ ys) front back n end h e t d g =
    ap (segment_units f) (segments_map y ys n e)
    ∙ ap (λ k. unit f.start (first_end f (map mark (take n (y ∷ ys)))) f.insert k ++ flat_map later_unit (segments (map mark (drop n (y ∷ ys))))) (length_map (take n (y ∷ ys)))
    ∙ cc
