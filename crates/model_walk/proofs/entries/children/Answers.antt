use Rattle.std.proofs.Common.{codes, ap, ◌∙◌}
use Rattle.std.proofs.lemmas.List.{take_all}
use Rattle.std.specs.List.{flat_map}
use Rattle.ma_lines.specs.InCode.{section_of}
use Rattle.model_walk.specs.Shown.{items_at}
use Rattle.model_walk.proofs.Words.{children_by_entry}
use Rattle.model_walk.proofs.entries.children.Goals as goal

pub returns : goal.returns
returns c =
    children_by_entry (section_of c.args.section.now) c.is_group.result _ c.is_group.ensures c.if-is_group.false
    (c.loop-entry.invariant ∙ ap (flat_map (items_at (codes "components"))) (take_all c.loop-entry.entry-index c.deref-entry-items.result.now c.loop-entry-test.false ∙ c.deref-entry-items.ensures.value))
