-- The limits that the files of a pod have to keep before it is written.
use Rattle.std.specs.Prelude.{◌≡◌, ℕ, ◌+◌, ◌-◌, ◌^◌, min, Bool, ◌&&◌, List, length, map, sum_by, nat_le, Result, Ok, Err, if◌then◌else◌}
use Rattle.std.specs.List.{list_all}
use Rattle.cov_bytes.specs.Many.{◌>>=◌}
use Rattle.cov_outside.specs.declared.limit.Which.TheVariants as limits
use Rattle.cov_meta.specs.declared.meta.Meta.{Meta}
use Rattle.cov_meta.specs.declared.meta.MetaPackage.{MetaPackage}
use Rattle.cov_meta.specs.Written.{texts_of}
use Rattle.gocov_tools.specs.Reading.{units_of}
use Rattle.gocov_tools.specs.Refusals.{within}
use Rattle.gocov_tools.specs.declared.refusal.Refusal.{Refusal}
use Rattle.gocov_tools.specs.declared.refusal.Refusal.TheVariants as refusals
use Rattle.gocov_tools.specs.declared.measure.Totals.{Totals}

-- a text of at most 2,048 bytes
abbrev pub is_short : List ℕ → Bool
is_short text = nat_le (length text) 2048

abbrev pub function_count : MetaPackage → ℕ
function_count p = length p.functions

-- texts and their bytes, each text once a package
abbrev pub text_count : MetaPackage → ℕ
text_count p = length (texts_of p)

abbrev pub text_bytes : MetaPackage → ℕ
text_bytes p = sum_by length (texts_of p)

abbrev pub has_short_texts : MetaPackage → Bool
has_short_texts p = list_all is_short (texts_of p)

-- whether no text is too long
abbrev pub names_within : Bool → Result (Unit {0}) Refusal
names_within short = if short then Ok tt else Err (refusals.Limit limits.NameBytes)

abbrev pub short_names : Meta → Result (Unit {0}) Refusal
short_names meta = names_within (list_all has_short_texts meta.packages)

-- A meta value keeps each limit on meta files, or passes this one first. (The units of a part of what was read never pass theirs.)
unfoldable pub measured : Meta → Result (Unit {0}) Refusal
measured meta = do
  packages ← within limits.Packages (length meta.packages)
  functions ← within limits.Functions (sum_by function_count meta.packages)
  units ← within limits.Units (units_of meta)
  texts ← within limits.Strings (sum_by text_count meta.packages)
  names ← short_names meta
  bytes ← within limits.StringBytes (sum_by text_bytes meta.packages)
  Ok tt

-- ---- how it is measured

-- a number as far as 64 bits go
abbrev pub saturated : ℕ → ℕ
saturated n = min n (2 ^ 64 - 1)

-- these are the totals of packages
pub record AreTotals (packages : List MetaPackage) (totals : Totals) : Type 0 where
  pub functions : totals.functions ≡ saturated (sum_by function_count packages)
  pub texts : totals.texts ≡ saturated (sum_by text_count packages)
  pub bytes : totals.bytes ≡ saturated (sum_by text_bytes packages)
  pub short : totals.short ≡ list_all has_short_texts packages

-- the same by numbers of packages and units, and totals
unfoldable pub judged : ℕ → ℕ → Totals → Result (Unit {0}) Refusal
judged packages units totals = do
  packages ← within limits.Packages packages
  functions ← within limits.Functions totals.functions
  units ← within limits.Units units
  texts ← within limits.Strings totals.texts
  names ← names_within totals.short
  bytes ← within limits.StringBytes totals.bytes
  Ok tt

-- these are totals with those of one more package
pub record AddsPackage (totals : Totals) (p : MetaPackage) (new : Totals) : Type 0 where
  pub functions : new.functions ≡ saturated (totals.functions + function_count p)
  pub texts : new.texts ≡ saturated (totals.texts + text_count p)
  pub bytes : new.bytes ≡ saturated (totals.bytes + text_bytes p)
  pub short : new.short ≡ (totals.short && has_short_texts p)
