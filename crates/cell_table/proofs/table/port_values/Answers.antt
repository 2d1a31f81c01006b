use Rattle.std.proofs.Common.{◌∙◌, ◌∷◌, ◌++◌, ap, sym}
use Rattle.std.specs.List.{flat_map}
use Rattle.std.proofs.lemmas.List.{take_all}
use Rattle.cell_table.proofs.Starting.{joined_more, alone_joined}
use Rattle.cell_table.proofs.table.port_values.Goals as goal

pub loop-value-preserved : goal.loop-value-preserved
loop-value-preserved c =
    joined_more (λ v. v ∷ c.args.further.now) c.args.outs.now c.loop-value.value-index c.value-item.result c.loop-value.values.items c.add_ports.new.values.items
    c.loop-value-test.true c.value-item.is c.loop-value.invariant c.in_ok-add_ports.ensures

pub returns : goal.returns
returns c = c.loop-value.invariant ∙ ap (flat_map (λ v. v ∷ c.args.further.now)) (take_all c.loop-value.value-index c.args.outs.now c.loop-value-test.false)

-- without further ports each value stands alone
pub returns-then-is_empty : goal.returns-then-is_empty
returns-then-is_empty c =
    c.in_ok-extend_from_slice.ensures.items
    ∙ ap (λ vs. vs ++ c.args.outs.now) c.in_ok-values.ensures.items
    ∙ alone_joined c.args.further.now c.args.outs.now (sym c.is_empty.ensures ∙ c.if-is_empty.true)
