use Rattle.std.proofs.Common.{◌∙◌, ap, sym, map, Some}
use Rattle.std.specs.Option.{option_map}
use Rattle.run_loop.specs.Showing.{took, plain}
use Rattle.run_loop.proofs.cycle.take.Goals as goal

pub returns-in-Some : goal.returns-in-Some
returns-in-Some c =
    ap Some c.take.ensures ∙ ap (option_map (took c.args.at (map plain c.args.given.now))) (sym c.in-Some.is)
