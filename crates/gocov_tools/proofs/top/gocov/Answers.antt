use Rattle.std.proofs.Common.{map}
use Rattle.gocov_tools.proofs.Told.{told_top, received_top, told_complete, finished, keeps_top, words_top}
use Rattle.gocov_tools.specs.Command.{Commands}
use Rattle.gocov_tools.proofs.top.gocov.Goals as goal

pub returns-clause-told : goal.returns-clause-told
returns-clause-told g c = told_top (g.F.Files.tree c.args.files.now) _ _ (Commands c.args.stamp (map (λ w. w.now) c.args.words.now)) _ _ _ _ _ _ _ c.finish.ensures.answer c.answer-status.ensures.told

pub returns-clause-received : goal.returns-clause-received
returns-clause-received g c = received_top (g.F.Files.tree c.args.files.now) _ _ (Commands c.args.stamp (map (λ w. w.now) c.args.words.now)) _ _ _ _ c.finish.ensures.answer c.answer-status.ensures.received

pub returns-clause-complete : goal.returns-clause-complete
returns-clause-complete g c = told_complete (g.F.Files.tree c.args.files.now) _ (Commands c.args.stamp (map (λ w. w.now) c.args.words.now)) _ _ _ _ _ _ _ _ _ (λ t x y. c.one_outcome.ensures c.args.stamp (map (λ w. w.now) c.args.words.now) t x y) (returns-clause-told g c) (finished _ _ _ _ _ _ _ _ c.answer-status.result _ c.finish.ensures.answer c.answer-status.ensures.causes)

pub returns-clause-causes : goal.returns-clause-causes
returns-clause-causes g c = finished _ _ _ _ _ _ _ _ c.answer-status.result _ c.finish.ensures.answer c.answer-status.ensures.causes

pub returns-clause-of_words : goal.returns-clause-of_words
returns-clause-of_words g c = words_top c.answer-status.result _ _ _ _ c.finish.ensures.answer c.answer-status.ensures.of_words

pub returns-clause-kept : goal.returns-clause-kept
returns-clause-kept g c = keeps_top c.answer-status.result _ _ _ _ _ c.finish.ensures.answer c.answer-status.ensures.kept

pub returns-clause-kept_out : goal.returns-clause-kept_out
returns-clause-kept_out g c = keeps_top c.answer-status.result _ _ _ _ _ c.finish.ensures.answer c.answer-status.ensures.kept_out

pub returns-clause-part : goal.returns-clause-part
returns-clause-part g c = (c.answer-status.result, c.answer-status.ensures.told, c.finish.ensures.part)
