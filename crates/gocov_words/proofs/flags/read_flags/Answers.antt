use Rattle.std.proofs.Common.{◌+◌, ◌∙◌, sym, subst}
use Rattle.gocov_words.specs.declared.flags.Values.{Values}
use Rattle.gocov_words.specs.declared.front.Front.TheVariants as fronts
use Rattle.gocov_words.proofs.Reading.{IsReadFrom, here, at_end, at_unknown, at_valueless, at_bad, at_flag}
use Rattle.gocov_words.proofs.flags.read_flags.Goals as goal

pub returns-in-End : goal.returns-in-End
returns-in-End c = at_end c.args.command c.args.words.now c.args.from c.loop-n.at c.in-End.n c.loop-n.values c.loop-n.invariant (here c.args.command c.args.words.now c.loop-n.at (fronts.End c.in-End.n) c.in-End.ensures)

pub returns-in-Unknown : goal.returns-in-Unknown
returns-in-Unknown c = at_unknown c.args.command c.args.words.now c.args.from c.loop-n.at c.loop-n.values c.loop-n.invariant (here c.args.command c.args.words.now c.loop-n.at fronts.Unknown c.in-Unknown.ensures)

pub returns-in-Valueless : goal.returns-in-Valueless
returns-in-Valueless c = at_valueless c.args.command c.args.words.now c.args.from c.loop-n.at c.loop-n.values c.loop-n.invariant (here c.args.command c.args.words.now c.loop-n.at fronts.Valueless c.in-Valueless.ensures)

pub returns-then-not-accepts : goal.returns-then-not-accepts
returns-then-not-accepts c =
    at_bad c.args.command c.args.words.now c.args.from c.loop-n.at c.in-Flag.n c.loop-n.values c.in-Flag.flag c.in-Flag.text c.loop-n.invariant (here c.args.command c.args.words.now c.loop-n.at (fronts.Flag c.in-Flag.flag c.in-Flag.text c.in-Flag.n) c.in-Flag.ensures) (sym c.accepts.ensures ∙ c.if-not-accepts.true)

pub loop-n-preserved : goal.loop-n-preserved
loop-n-preserved c =
    let P : Values → Type 0 = λ v. IsReadFrom c.args.command c.args.words.now c.args.from (c.loop-n.at + c.in-Flag.n) v in
    subst P (sym c.put.ensures) (at_flag c.args.command c.args.words.now c.args.from c.loop-n.at c.in-Flag.n c.loop-n.values c.in-Flag.flag c.in-Flag.text c.loop-n.invariant (here c.args.command c.args.words.now c.loop-n.at (fronts.Flag c.in-Flag.flag c.in-Flag.text c.in-Flag.n) c.in-Flag.ensures) (sym c.accepts.ensures ∙ c.if-not-accepts.false))
