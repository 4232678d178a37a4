use Rattle.go_typing.proofs.Rows as proof
use Rattle.go_typing.proofs.laws.rows.Goals as goal

pub returns : goal.returns
returns c = record { sum_with_rune = proof.sum_with_rune; sum_of_int8 = proof.sum_of_int8; less_than_one = proof.less_than_one; received_text = proof.received_text; sum_of_two_types = proof.sum_of_two_types }
