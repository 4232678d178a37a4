-- Where a reader of a counter file stands.
use Rattle.std.specs.Prelude.{ℕ, ◌<◌}
use Rattle.cov_counter.specs.declared.stage.Stage.{Stage}
use Rattle.cov_counter.specs.declared.stage.Stage.TheVariants.{New, Reading, Failed}

-- the offset of the next entry, or of what stands behind the last
abbrev pub offset_of : Stage → ℕ
offset_of New = 0
offset_of (Reading at left) = at
offset_of (Failed f) = 0

-- how many entries are left
abbrev pub left_of : Stage → ℕ
left_of New = 0
left_of (Reading at left) = left
left_of (Failed f) = 0

-- an entry is left
abbrev pub HasNext : Stage → Type 0
HasNext stage = 0 < left_of stage
