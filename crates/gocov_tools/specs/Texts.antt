-- The texts of a package while they are gathered.
use Rattle.std.specs.Prelude.{◌≡◌, length, sum_by}
use Rattle.std.specs.List.{list_all}
use Rattle.gocov_tools.specs.Measure.{is_short, saturated}
use Rattle.gocov_tools.specs.declared.package_texts.Texts.{Texts}

-- the bytes and the test are those of the texts
pub record AreMeasured (texts : Texts) : Type 0 where
  pub bytes : texts.bytes ≡ saturated (sum_by length texts.table)
  pub short : texts.short ≡ list_all is_short texts.table
