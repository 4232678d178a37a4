use Rattle.std.proofs.Common.{◌≡◌, true, false, ◌&&◌, ◌||◌, rules}
use Rattle.std.specs.Prelude.{is_some}
use Rattle.std.specs.Option.{option_copied, option_or}
use Rattle.go_load.specs.GoMod.{is_good, go_word, module_word}
use Rattle.go_load.proofs.Versions.{next_line}
use Rattle.go_load.proofs.go_mod.with_line.Goals as goal
use Rattle.go_load.proofs.go_mod.with_line.Goals.{else-is_none-via-then-is_none+then-not-version+else-not-is_empty, else-is_none-via-then-is_none+else-not-version, else-is_none-via-else-is_none, then-is_some, else-is_some, then-version, else-version, then-version-2, else-version-2}

pub returns : goal.returns
returns c = λ more.
    let line = c.args.line.now in
    let given = option_copied c.args.seen.path in
    let word = option_copied c.word_of-path.result in
    let g = c.is_some-version.result in
    let is_word : module_word line ≡ word = search rules in
    let is_go : is_some (go_word line) ≡ g = search rules in
    let good : is_good line ≡ true = elim c.else-is_none.branch [
      | else-is_none-via-then-is_none+then-not-version+else-not-is_empty w ↦ search rules
      | else-is_none-via-then-is_none+else-not-version w ↦ search rules
      | else-is_none-via-else-is_none w ↦ search rules
    ] in
    let apart : (is_some word && is_some given) ≡ false = elim c.if-is_some.branch [
      | then-is_some w ↦ search rules
      | else-is_some w ↦ search rules
    ] in
    let once : (g && c.args.seen.version) ≡ false = elim c.if-version.branch [
      | then-version w ↦ search rules
      | else-version w ↦ search rules
    ] in
    let after : option_copied c.or.result ≡ option_or word given = search rules in
    let version : c.if-version-2.result ≡ (g || c.args.seen.version) = elim c.if-version-2.branch [
      | then-version-2 w ↦ search rules
      | else-version-2 w ↦ search rules
    ] in
    rw (after, version) (next_line given word c.args.seen.version g line is_word is_go good apart once more)
