use Rattle.std.proofs.Common.{sym, ap, ◌∙◌}
use Rattle.std.specs.Option.{option_map}
use Rattle.model_tree.specs.declared.component.Component.{Component}
use Rattle.model_tree.specs.Stands.{part_of}
use Rattle.served_tree.specs.Processors.{out_number}
use Rattle.served_tree.specs.Places.{node_of}
use Rattle.served_tree.specs.Rows.{output_of}
use Rattle.tree_tables.proofs.Found.{begin_at_place, by-place, at-place, no-place, never}
use Rattle.tree_tables.proofs.begins.child_begin.Goals as goal

pub returns-in-None : goal.returns-in-None
returns-in-None c = λ settings.
    let cs = c.args.children.now.list.now in
    sym (never cs settings c.args.numbers.now c.args.port.now)
    ∙ ap (begin_at_place cs settings c.args.numbers.now c.args.port.now) (sym c.in-None.is ∙ c.place.ensures.place settings)
    ∙ by-place cs settings c.args.numbers.now c.args.port.now c.args.child.now

pub returns-in-None-number_at : goal.returns-in-None-number_at
returns-in-None-number_at c = λ settings.
    let cs = c.args.children.now.list.now in
    sym (no-place cs settings c.args.numbers.now c.args.port.now c.in-Some.place (sym c.number_at.ensures ∙ c.in-None-number_at.is))
    ∙ ap (begin_at_place cs settings c.args.numbers.now c.args.port.now) (sym c.in-Some.is ∙ c.place.ensures.place settings)
    ∙ by-place cs settings c.args.numbers.now c.args.port.now c.args.child.now

pub returns-in_ok-number-in-Some-number_at : goal.returns-in_ok-number-in-Some-number_at
returns-in_ok-number-in-Some-number_at c = λ settings.
    let cs = c.args.children.now.list.now in
    c.output.ensures
    ∙ ap (option_map (output_of c.in-Some-number_at.processor)) (c.in_ok-number-in-Some-number_at.ensures settings 0)
    ∙ ap (λ (x : Component). option_map (output_of c.in-Some-number_at.processor) (out_number (node_of (part_of x settings) 0) c.args.port.now)) (sym c.index-children-place.is)
    ∙ sym (at-place cs settings c.args.numbers.now c.args.port.now c.in-Some.place c.in-Some-number_at.processor c.index-children-place.result c.in-Some.ensures.within c.index-children-place.is (sym c.number_at.ensures ∙ c.in-Some-number_at.is))
    ∙ ap (begin_at_place cs settings c.args.numbers.now c.args.port.now) (sym c.in-Some.is ∙ c.place.ensures.place settings)
    ∙ by-place cs settings c.args.numbers.now c.args.port.now c.args.child.now
