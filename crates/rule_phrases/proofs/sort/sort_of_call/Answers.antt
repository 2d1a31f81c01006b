use Rattle.std.proofs.Common.{sym}
use Rattle.rule_phrases.proofs.Terms.{call_sorted}
use Rattle.rule_phrases.proofs.sort.sort_of_call.Goals as goal

pub returns : goal.returns
returns c =
    call_sorted c.args.function c.takes.result.now c.gives.result c.args.arguments.now _ _ c.takes.ensures (sym c.gives.ensures) c.are_taken-taken.ensures c.then_some.ensures
