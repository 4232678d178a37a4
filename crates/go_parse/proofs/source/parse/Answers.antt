use Rattle.go_grammar.specs.Blocks.{source}
use Rattle.std.proofs.Common.{sym, subst, inl}
use Rattle.go_parse.specs.Answers.{Fails}
use Rattle.go_parse.proofs.Verdict.{source_told, fails_told, only_source, only_memory, lexical_fault}
use Rattle.go_parse.proofs.Offsets.{fails_within}
use Rattle.go_parse.proofs.source.parse.Goals as goal

pub returns-in-Ok-clause-tree : goal.returns-in-Ok-clause-tree
returns-in-Ok-clause-tree c = source_told c.args.text.now c.in-Ok.tokens.items c.deref.result.now c.parse_tokens.result c.in-Ok.ensures.tokens c.deref.ensures.value c.parse_tokens.ensures.answer

pub returns-in-Ok-clause-fault : goal.returns-in-Ok-clause-fault
returns-in-Ok-clause-fault c = fails_told c.args.text.now c.in-Ok.tokens.items c.deref.result.now c.parse_tokens.result c.in-Ok.ensures.tokens c.deref.ensures.value c.parse_tokens.ensures.answer

pub returns-in-Ok-clause-within : goal.returns-in-Ok-clause-within
returns-in-Ok-clause-within c = c.parse_tokens.ensures.within

pub returns-in-Ok-clause-only : goal.returns-in-Ok-clause-only
returns-in-Ok-clause-only c = λ file s. only_source c.args.text.now c.in-Ok.tokens.items c.deref.result.now c.parse_tokens.result c.in-Ok.ensures.tokens c.deref.ensures.value c.parse_tokens.ensures.answer c.tokens_or_fault.ensures.one_list c.tokens_or_fault.ensures.not_both (c.one_outcome.ensures.apart source) file s

pub returns-in-Err-clause-fault : goal.returns-in-Err-clause-fault
returns-in-Err-clause-fault c = subst (Fails c.args.text.now) (sym c.lexical.ensures) (inl (lexical_fault c.args.text.now c.in-Err.fault c.in-Err.ensures.fault))

pub returns-in-Err-clause-within : goal.returns-in-Err-clause-within
returns-in-Err-clause-within c = fails_within c.args.text.now c.lexical.result (subst (Fails c.args.text.now) (sym c.lexical.ensures) (inl (lexical_fault c.args.text.now c.in-Err.fault c.in-Err.ensures.fault)))

pub returns-in-Err-clause-only : goal.returns-in-Err-clause-only
returns-in-Err-clause-only c = λ file s. only_memory c.tokens_or_fault.ensures.one_list c.tokens_or_fault.ensures.not_both (c.one_outcome.ensures.apart source) c.args.text.now file c.lexical.result s (subst (Fails c.args.text.now) (sym c.lexical.ensures) (inl (lexical_fault c.args.text.now c.in-Err.fault c.in-Err.ensures.fault)))
