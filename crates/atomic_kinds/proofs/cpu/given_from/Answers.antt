use Rattle.std.proofs.Common.{◌≡◌, ◌==◌, false, rules, arith}
use Rattle.std.proofs.lemmas.Bool.Decides.{nat_tests}
use Rattle.atomic_kinds.proofs.Rising.{gives_none}
use Rattle.atomic_kinds.proofs.cpu.given_from.Goals as goal

pub returns-else-ms : goal.returns-else-ms
returns-else-ms c =
    let other : (c.in-Some.pair.now.0 == c.args.due) ≡ false = grind (arith, nat_tests) in
    gives_none c.args.due c.args.pairs.now.items c.args.place c.in-Some.pair.now (search rules) c.in-Some.ensures.lookup c.requires other
