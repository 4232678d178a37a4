use Rattle.std.proofs.Common.{◌≡◌, length, take, map, All}
use Rattle.std.specs.List.{concat}
use Rattle.cov_meta.specs.Written.{UnitsFit, blob_text}
use Rattle.cov_meta.proofs.write.write_blobs.Given as goal

abbrev pub invariant-loop-i : goal.invariant-loop-i
invariant-loop-i l = record {
  fits : All (λ p. All UnitsFit p.functions) (take l.i l.packages);
  bytes : l.bytes ≡ concat (map blob_text (take l.i l.packages));
  lengths : l.lengths.items ≡ map length (map blob_text (take l.i l.packages));
}
