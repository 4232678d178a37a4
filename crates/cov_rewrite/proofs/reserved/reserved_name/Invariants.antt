use Rattle.std.proofs.Common.{◌≡◌, drop}
use Rattle.std.specs.List.{find}
use Rattle.cov_rewrite.specs.Reserved.{is_reserved_token, first_reserved}
use Rattle.cov_rewrite.proofs.reserved.reserved_name.Given as goal

abbrev pub invariant-loop-token : goal.invariant-loop-token
invariant-loop-token l = find (is_reserved_token l.var l.text) (drop l.token-index l.tokens) ≡ first_reserved l.var l.text l.tokens
