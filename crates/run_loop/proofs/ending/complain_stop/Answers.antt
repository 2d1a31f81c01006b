use Rattle.std.proofs.Common.{subst}
use Rattle.model_leaves.specs.Models.{tree_of}
use Rattle.run_model.specs.declared.stop.Stop.{Stop}
use Rattle.rule_tree.specs.declared.outcome.RuleStop.TheVariants as rules
use Rattle.asked_words.specs.Shown.{asked_of}
use Rattle.run_loop.specs.declared.ending.Ending.TheVariants.{Stopped}
use Rattle.run_loop.specs.Ends.{IsVerdict}
use Rattle.run_loop.proofs.Ended.{stop_said, many_said}
use Rattle.run_loop.proofs.ending.complain_stop.Goals as goal

pub returns-in-NoTrueRule : goal.returns-in-NoTrueRule
returns-in-NoTrueRule g c = λ settings mark cycles v is.
    let e = subst (λ (s : Stop). IsVerdict (Stopped s) v) c.in-NoTrueRule.is is in
    stop_said mark (asked_of c.args.asked.now) (tree_of c.args.model.now settings) cycles v c.in-NoTrueRule.leaf c.in-NoTrueRule.t rules.NoTrueRule (g.R.Room.outside c.args.room.now) (g.R.Room.outside c.complain_at.new.room) c.complain_at.result e (c.complain_at.ensures settings)

pub returns-in-Overflow : goal.returns-in-Overflow
returns-in-Overflow g c = λ settings mark cycles v is.
    let e = subst (λ (s : Stop). IsVerdict (Stopped s) v) c.in-Overflow.is is in
    stop_said mark (asked_of c.args.asked.now) (tree_of c.args.model.now settings) cycles v c.in-Overflow.leaf c.in-Overflow.t rules.Overflow (g.R.Room.outside c.args.room.now) (g.R.Room.outside c.complain_at-in-Overflow.new.room) c.complain_at-in-Overflow.result e (c.complain_at-in-Overflow.ensures settings)

pub returns-in-BadDelay : goal.returns-in-BadDelay
returns-in-BadDelay g c = λ settings mark cycles v is.
    let e = subst (λ (s : Stop). IsVerdict (Stopped s) v) c.in-BadDelay.is is in
    stop_said mark (asked_of c.args.asked.now) (tree_of c.args.model.now settings) cycles v c.in-BadDelay.leaf c.in-BadDelay.t (rules.BadDelay c.in-BadDelay.delay) (g.R.Room.outside c.args.room.now) (g.R.Room.outside c.complain_delay.new.room) c.complain_delay.result e (c.complain_delay.ensures settings)

pub returns-in-TooManyCycles : goal.returns-in-TooManyCycles
returns-in-TooManyCycles g c = λ settings mark cycles v is.
    let e = subst (λ (s : Stop). IsVerdict (Stopped s) v) c.in-TooManyCycles.is is in
    many_said mark (asked_of c.args.asked.now) (tree_of c.args.model.now settings) cycles v c.in-TooManyCycles.t (g.R.Room.outside c.args.room.now) (g.R.Room.outside c.complain_many.new.room) c.complain_many.result e c.complain_many.ensures
