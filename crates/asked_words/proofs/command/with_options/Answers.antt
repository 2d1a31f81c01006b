use Rattle.clap.specs.Words.{app_of}
use Rattle.asked_words.proofs.Tables.{all_left, none_left, one_fewer}
use Rattle.asked_words.proofs.command.with_options.Goals as goal

pub loop-option-init : goal.loop-option-init
loop-option-init c = all_left (app_of c.args.command) c.args.options.now

pub loop-option-preserved : goal.loop-option-preserved
loop-option-preserved c =
    one_fewer (app_of c.loop-option.command) (app_of c.in_ok-command.command) _ c.args.options.now c.loop-option.option-index _ c.loop-option-test.true c.in_ok-command.ensures c.loop-option.invariant

pub returns : goal.returns
returns c =
    none_left (app_of c.loop-option.command) _ c.args.options.now c.loop-option.option-index c.loop-option-test.false c.loop-option.invariant
