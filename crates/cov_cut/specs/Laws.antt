-- Laws of units.
use Rattle.std.specs.Prelude.{◌≡◌, ℕ, ◌==◌, true, false, List, [], ◌∷◌, ◌++◌, sum_by, if◌then◌else◌}
use Rattle.std.specs.List.{flat_map}
use Rattle.cov_cut.specs.declared.frame.Frame.{Frame}
use Rattle.cov_cut.specs.declared.unit.Unit.{Unit as CutUnit}
use Rattle.go_ast.specs.declared.file.File.{File}
use Rattle.cov_cut.specs.Outline.{Mark, Kind, else_if, Listing}
use Rattle.cov_cut.specs.Units.{start_of, boundary_of, first_end, func_lists, cut_in}

-- ---- the division into segments

-- at least one statement, and no breaker before the last
abbrev pub IsSegment : List Mark → Type 0
IsSegment [] = ⊥
IsSegment (m ∷ []) = Unit {0}
IsSegment (m ∷ n ∷ more) = (m.breaks ≡ false) × IsSegment (n ∷ more)

abbrev pub EndsInBreaker : List Mark → Type 0
EndsInBreaker [] = ⊥
EndsInBreaker (m ∷ []) = m.breaks ≡ true
EndsInBreaker (m ∷ n ∷ more) = EndsInBreaker (n ∷ more)

-- each but the last ends in a breaker
abbrev pub AreSegments : List (List Mark) → Type 0
AreSegments [] = Unit {0}
AreSegments (s ∷ []) = IsSegment s
AreSegments (s ∷ t ∷ more) = IsSegment s × EndsInBreaker s × AreSegments (t ∷ more)

abbrev pub joined : List (List Mark) → List Mark
joined = flat_map (λ s. s)

-- the list divided after its breakers
pub record IsDivision (ms : List Mark) (segs : List (List Mark)) : Type 0 where
  pub whole : joined segs ≡ ms
  pub each : AreSegments segs

-- ---- the statements that units count

-- the segments without a unit, which end where they start
abbrev pub later_uncounted : List Mark → List (List Mark)
later_uncounted s = if start_of s == boundary_of s then s ∷ [] else []

abbrev pub uncounted : Frame → List (List Mark) → List (List Mark)
uncounted f [] = []
uncounted f (s ∷ more) = (if f.start == first_end f s then s ∷ [] else []) ++ flat_map later_uncounted more

abbrev pub statements_in : List CutUnit → ℕ
statements_in = sum_by (λ u. u.statements)

-- one statement that begins at its boundary, as a block does
abbrev pub IsBare : List Mark → Type 0
IsBare [] = ⊥
IsBare (m ∷ []) = m.start ≡ m.boundary
IsBare (m ∷ n ∷ more) = ⊥

-- all lists that are cut
abbrev pub lists_of : File → List Listing
lists_of file = flat_map func_lists (flat_map cut_in file.decls)

-- where a `}` is put behind an `else if`
abbrev pub end_of : Kind → List ℕ
end_of (else_if after right) = right ∷ []
end_of _ = []

abbrev pub ends_in : List Listing → List ℕ
ends_in = flat_map (λ l. end_of l.kind)
