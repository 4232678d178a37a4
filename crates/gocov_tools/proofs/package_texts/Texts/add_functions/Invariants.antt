use Rattle.std.proofs.Common.{◌≡◌, take}
use Rattle.std.specs.Prelude.{flat_map}
use Rattle.cov_meta.specs.Written.{with_texts, function_texts}
use Rattle.gocov_tools.specs.Texts.{AreMeasured}
use Rattle.gocov_tools.proofs.package_texts.Texts.add_functions.Given as goal

abbrev pub invariant-loop-function : goal.invariant-loop-function
invariant-loop-function l = record {
  measured : AreMeasured l.self;
  table : l.self.table ≡ with_texts l.fn.self.table (flat_map function_texts (take l.function-index l.functions));
}
