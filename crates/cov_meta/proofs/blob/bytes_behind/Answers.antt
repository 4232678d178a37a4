use Rattle.std.proofs.Common.{◌<◌, [], length, arith, sym, ◌∙◌, ap}
use Rattle.std.specs.Option.{option_copied}
use Rattle.std.proofs.lemmas.Option.{slice_get-get_or}
use Rattle.cov_meta.proofs.Tables.{bytes_more}
use Rattle.cov_meta.proofs.blob.bytes_behind.Goals as goal
use Rattle.cov_meta.proofs.blob.bytes_behind.Goals.{in-Some, in_default}

pub loop-index-preserved : goal.loop-index-preserved
loop-index-preserved c =
    elim c.match-get.branch [
      | in-Some w ↦
          let more = bytes_more c.args.texts.now c.loop-index.index w.in-Some.text.now (sym c.get.ensures ∙ ap option_copied w.in-Some.is) in
          rw w.left-is (omega arith)
      | in_default w ↦
          let inside : c.loop-index.index < length c.args.texts.now = omega arith in
          let there = slice_get-get_or c.args.texts.now c.loop-index.index [] inside in
          let none = sym c.get.ensures ∙ ap option_copied w.in_default.is in
          absurd (cc)
    ]
