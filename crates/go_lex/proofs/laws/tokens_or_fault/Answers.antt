use Rattle.go_lex.proofs.Whole.{one_token_list, one_fault, tokens_no_fault}
use Rattle.go_lex.proofs.laws.tokens_or_fault.Goals as goal

pub returns : goal.returns
returns c = record { one_list = one_token_list; one_fault = one_fault; not_both = tokens_no_fault }
