-- The units of a file.
--
--     list                          starts   inserted        ends                                   extends
--     { at L, } at R                L        L + 1           R + 1                                  yes
--     the same after `else`         P        L + 1           R + 1                                  yes
--     `if` after `else`             P        P               end of that `if`                       yes
--     clause, its colon at C        C + 1    C + 1           where empty, C + 1                     no
--
-- P is the offset after the word `else`.
use Rattle.std.specs.Prelude.{ℕ, ◌+◌, ◌<◌, ◌^◌, ◌==◌, Bool, true, false, not, ◌&&◌, List, [], ◌∷◌, ◌++◌, length, map, All, codes, if◌then◌else◌}
use Rattle.std.specs.List.{list_any, flat_map}
use Rattle.std.specs.Str.{bytes_eq}
use Rattle.go_ast.specs.declared.file.File.{File}
use Rattle.go_ast.specs.declared.decl.Decl.{Decl}
use Rattle.go_ast.specs.declared.decl.Decl.TheVariants as decl
use Rattle.go_ast.specs.declared.decl.Func.{Func}
use Rattle.cov_cut.specs.declared.frame.Frame.{Frame}
use Rattle.cov_cut.specs.declared.unit.Unit.{Unit}
use Rattle.cov_cut.specs.declared.unit.FuncUnits.{FuncUnits}
use Rattle.cov_cut.specs.Outline.{Mark, Kind, braces, else_braces, else_if, clause, no_list, Listing, lists_along}
use Rattle.cov_cut.specs.Outlining.{block_outline, body}

-- ---- one list

-- The table above. The unit of an empty list starts where it is inserted, but directly after `else` and one byte where
-- the braces after `else` are empty.
abbrev pub frame : Kind → Frame
frame (braces left right) = record { start = left; insert = left + 1; end = right + 1; extends = true; empty = left + 1 }
frame (else_braces after left right) = record { start = after; insert = left + 1; end = right + 1; extends = true; empty = after + 1 }
frame (else_if after right) = record { start = after; insert = after; end = right; extends = true; empty = after }
frame (clause colon) = record { start = colon + 1; insert = colon + 1; end = colon + 1; extends = false; empty = colon + 1 }

abbrev pub put_before : Mark → List (List Mark) → List (List Mark)
put_before m [] = (m ∷ []) ∷ []
put_before m (s ∷ more) = (m ∷ s) ∷ more

-- the statements divided after each breaker
abbrev pub segments : List Mark → List (List Mark)
segments [] = []
segments (m ∷ ms) = if m.breaks then (m ∷ []) ∷ segments ms else put_before m (segments ms)

abbrev pub start_of : List Mark → ℕ
start_of [] = 0
start_of (m ∷ ms) = m.start

-- the boundary of the last statement
abbrev pub boundary_of : List Mark → ℕ
boundary_of [] = 0
boundary_of (m ∷ []) = m.boundary
boundary_of (m ∷ n ∷ more) = boundary_of (n ∷ more)

abbrev pub has_breaker : List Mark → Bool
has_breaker = list_any (λ m. m.breaks)

-- no unit where the start is the end
abbrev pub unit : ℕ → ℕ → ℕ → ℕ → List Unit
unit start end insert statements =
    if start == end then [] else record { start = start; end = end; insert = insert; statements = statements } ∷ []

-- A later segment starts and is inserted at its first statement.
abbrev pub later_unit : List Mark → List Unit
later_unit s = unit (start_of s) (boundary_of s) (start_of s) (length s)

-- A segment ends at the boundary of its last statement, and a list without a breaker, where it extends, at the list's end.
abbrev pub first_end : Frame → List Mark → ℕ
first_end f s = if f.extends && not (has_breaker s) then f.end else boundary_of s

abbrev pub segment_units : Frame → List (List Mark) → List Unit
segment_units f [] = record { start = f.empty; end = f.end; insert = f.insert; statements = 0 } ∷ []
segment_units f (s ∷ more) = unit f.start (first_end f s) f.insert (length s) ++ flat_map later_unit more

-- the units of a list, also of an empty one
abbrev pub list_units : Frame → List Mark → List Unit
list_units f ms = segment_units f (segments ms)

-- ---- functions and files

abbrev pub listing_units : Listing → List Unit
listing_units l = list_units (frame l.kind) l.statements

-- in the order of their numbers
abbrev pub units_in : List Listing → List Unit
units_in = flat_map listing_units

unfoldable pub func_lists : Func → List Listing
func_lists f = lists_along (body (block_outline f.body) no_list)

-- no function named `_` is cut
abbrev pub is_cut : Func → Bool
is_cut f = not (bytes_eq f.name.text (codes "_"))

abbrev pub cut_in : Decl → List Func
cut_in (decl.Func f) = if is_cut f then f ∷ [] else []
cut_in _ = []

abbrev pub func_units : Func → FuncUnits
func_units f = record { name = f.name.text; units = units_in (func_lists f) }

-- functions in source order
abbrev pub units_of : File → List FuncUnits
units_of file = map func_units (flat_map cut_in file.decls)

-- ---- what cutting needs

-- its offsets fit in 32 bits
pub record FrameFits (f : Frame) : Type 0 where
  pub start : f.start < 2 ^ 32
  pub insert : f.insert < 2 ^ 32
  pub end : f.end < 2 ^ 32
  pub empty : f.empty < 2 ^ 32

-- and so does its number of statements
pub record Fits (l : Listing) : Type 0 where
  pub places : FrameFits (frame l.kind)
  pub statements : length l.statements < 2 ^ 32

-- the offsets and the lengths of all lists that are cut fit in 32 bits
abbrev pub IsWithin : File → Type 0
IsWithin file = All (λ f. All Fits (func_lists f)) (flat_map cut_in file.decls)
