use Rattle.std.proofs.Common.{◌∙◌, ap, sym}
use Rattle.std.specs.List.{flat_map}
use Rattle.std.proofs.lemmas.List.{take_all}
use Rattle.cell_table.proofs.Starting.{joined_more, none_joined}
use Rattle.cell_table.proofs.table.repeated.Goals as goal

pub loop-value-preserved : goal.loop-value-preserved
loop-value-preserved c =
    joined_more (λ _. c.args.variables.now) c.args.outs.now c.loop-value.value-index c.value-item.result c.loop-value.values.items c.extend_from_slice.new.self.items
    c.loop-value-test.true c.value-item.is c.loop-value.invariant c.in_ok-extend_from_slice.ensures.items

pub returns : goal.returns
returns c = c.loop-value.invariant ∙ ap (flat_map (λ _. c.args.variables.now)) (take_all c.loop-value.value-index c.args.outs.now c.loop-value-test.false)

-- without variables there are none
pub returns-then-is_empty : goal.returns-then-is_empty
returns-then-is_empty c = c.new-values.ensures.items ∙ none_joined c.args.variables.now c.args.outs.now (sym c.is_empty.ensures ∙ c.if-is_empty.true)
