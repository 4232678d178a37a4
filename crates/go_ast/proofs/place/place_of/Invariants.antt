use Rattle.std.proofs.Common.{◌≡◌, ◌+◌, ◌≤◌, not}
use Rattle.std.specs.Prelude.{take, count_by}
use Rattle.std.specs.List.{suffix_len}
use Rattle.go_ast.specs.Places.{is_newline}
use Rattle.go_ast.proofs.place.place_of.Given as goal

abbrev pub invariant-loop-byte : goal.invariant-loop-byte
invariant-loop-byte l = record {
  line : l.place.line ≡ 1 + count_by is_newline (take l.byte-index l.before);
  column : l.place.column ≡ 1 + suffix_len (λ byte. not (is_newline byte)) (take l.byte-index l.before);
  few : l.place.line ≤ 1 + l.byte-index;
  short : l.place.column ≤ 1 + l.byte-index;
}
