use Rattle.std.proofs.Common.{◌∙◌, None, Some, sym, ap}
use Rattle.std.specs.Prelude.{slice_get}
use Rattle.std.specs.Option.{option_copied}
use Rattle.asked_run.proofs.Emitted.{emitted_is}
use Rattle.asked_run.proofs.teller.last_emitted.Goals as goal

pub returns-in-None-clause-value : goal.returns-in-None-clause-value
returns-in-None-clause-value g c =
    emitted_is c.args.run.now.state.leaf_states c.args.leaf c.in_ok-state.state None c.requires.within c.in_ok-state.ensures.state
    (ap option_copied (sym c.in-None.is) ∙ c.first.ensures.value ∙ ap (λ ps. slice_get ps 0) c.deref.ensures.value)

pub returns-clause-value : goal.returns-clause-value
returns-clause-value g c =
    emitted_is c.args.run.now.state.leaf_states c.args.leaf c.in_ok-state.state (Some c.in-Some.port.now) c.requires.within c.in_ok-state.ensures.state
    (ap option_copied (sym c.in-Some.is) ∙ c.first.ensures.value ∙ ap (λ ps. slice_get ps 0) c.deref.ensures.value)
