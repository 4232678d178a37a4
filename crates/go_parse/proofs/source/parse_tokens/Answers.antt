use Rattle.go_grammar.specs.Blocks.{source}
use Rattle.go_parse.proofs.Verdict.{only_told, within_told}
use Rattle.go_parse.proofs.source.parse_tokens.Goals as goal

pub returns-clause-within : goal.returns-clause-within
returns-clause-within c = within_told c.args.text.now c.args.tokens.now c.read_all.result c.requires.tokens c.read_all.ensures

pub returns-clause-only : goal.returns-clause-only
returns-clause-only c = λ file s. only_told (c.one_outcome.ensures.apart source) c.args.text.now c.args.tokens.now c.read_all.result file c.read_all.ensures s
