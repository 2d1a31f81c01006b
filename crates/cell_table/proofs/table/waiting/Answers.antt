use Rattle.std.proofs.Common.{◌≡◌, ℕ, IfOk, map, subst}
use Rattle.delay_lines.specs.Lists.{DelayLists, alone_at}
use Rattle.cell_table.proofs.table.waiting.Goals as goal

pub returns : goal.returns
returns c =
    subst (λ (n : ℕ). IfOk c.all_at.result (λ (d : DelayLists). d.lists ≡ map (alone_at n) c.args.values.now)) c.start.ensures c.all_at.ensures.lists
