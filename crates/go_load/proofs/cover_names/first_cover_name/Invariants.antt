use Rattle.std.proofs.Common.{◌≡◌, drop}
use Rattle.std.specs.List.{find}
use Rattle.go_load.specs.CoverNames.{is_cover_token, first_cover_name}
use Rattle.go_load.proofs.cover_names.first_cover_name.Given as goal

abbrev pub invariant-loop-token : goal.invariant-loop-token
invariant-loop-token l = find (is_cover_token l.text) (drop l.token-index l.tokens) ≡ first_cover_name l.text l.tokens
