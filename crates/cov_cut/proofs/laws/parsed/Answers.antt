use Rattle.cov_cut.proofs.Parsed.{parsed}
use Rattle.cov_cut.proofs.laws.parsed.Goals as goal

pub returns : goal.returns
returns c = record {
  placed = λ most depth text tokens file has spells. (parsed most depth text tokens file has spells).placed;
  ends = λ most depth text tokens file has spells. (parsed most depth text tokens file has spells).ends;
  name = λ most depth text tokens file has spells. (parsed most depth text tokens file has spells).name;
}
