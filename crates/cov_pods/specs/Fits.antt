-- Which entries of counter files fit a meta value.
use Rattle.std.specs.Prelude.{◌<◌, ◌^◌, length, All, Option, Some, None, Result, Ok, Err, slice_get, if◌then◌else◌, ◌==◌}
use Rattle.cov_bytes.specs.Many.{◌>>=◌}
use Rattle.cov_outside.specs.declared.data_kind.DataKind.{DataKind}
use Rattle.cov_outside.specs.declared.data_kind.DataKind.TheVariants as kinds
use Rattle.cov_meta.specs.declared.meta.Meta.{Meta}
use Rattle.cov_counter.specs.declared.entry.Entry.{Entry}

-- what there is, or the fault that there is nothing
abbrev pub found_or : {A E : Type 0} → Option A → E → Result A E
found_or None fault = Err fault
found_or (Some x) fault = Ok x

-- an entry has a package and a function of the meta value, and a counter for each unit of that function
unfoldable pub fits : Meta → Entry → Result (Unit {0}) DataKind
fits meta entry = do
  place ← found_or (slice_get meta.packages entry.«package») (kinds.BadPackage entry.«package» (length meta.packages))
  function ← found_or (slice_get place.functions entry.function) (kinds.BadFunction entry.function (length place.functions))
  if length entry.counts == length function.units then Ok tt else Err (kinds.BadCount (length entry.counts) (length function.units))

-- all lengths that a fault may name have 32 bits
pub record HasShortParts (meta : Meta) : Type 0 where
  pub few_packages : length meta.packages < 2 ^ 32
  pub few_functions : All (λ p. length p.functions < 2 ^ 32) meta.packages
  pub few_units : All (λ p. All (λ f. length f.units < 2 ^ 32) p.functions) meta.packages
