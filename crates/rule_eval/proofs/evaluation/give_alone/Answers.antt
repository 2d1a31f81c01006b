use Rattle.std.proofs.Common.{◌≤◌, arith}
use Rattle.rule_forms.specs.Forms.{expr_of_form}
use Rattle.rule_eval.specs.Seen.{sight_of_view}
use Rattle.rule_eval.proofs.Making.{alone_given, alone_stopped, alone_depth}
use Rattle.rule_eval.proofs.evaluation.give_alone.Goals as goal

pub number-requires-clause-room : goal.number-requires-clause-room
number-requires-clause-room c =
    omega (arith, c.requires.room, alone_depth c.args.rule.now (expr_of_form c.args.form.now) c.requires.alone)

pub returns-in-Ok-clause-value : goal.returns-in-Ok-clause-value
returns-in-Ok-clause-value c =
    alone_given c.args.rule.now (sight_of_view c.args.view.now) (expr_of_form c.args.form.now) c.in-Ok.value c.in-Some.delay c.requires.alone c.in-Some.ensures.always c.in-Ok.ensures.value

pub returns-in-Err-clause-value : goal.returns-in-Err-clause-value
returns-in-Err-clause-value c =
    alone_stopped c.args.rule.now (sight_of_view c.args.view.now) (expr_of_form c.args.form.now) c.in-Err.stop c.args.changed.now c.requires.alone c.in-Err.ensures.value

pub returns-in-None-clause-value : goal.returns-in-None-clause-value
returns-in-None-clause-value c = c.give_placed.ensures.value
