use Rattle.std.proofs.Common.{◌≡◌, ◌++◌, List, map, subst}
use Rattle.std.specs.Prelude.{codes}
use Rattle.std.specs.List.{flat_map}
use Rattle.quantity.specs.ValueTexts.{text5}
use Rattle.quantity.specs.declared.value.Value.{Value}
use Rattle.cell_table.specs.declared.state.PortState.{PortState}
use Rattle.cell_table.specs.Saved.{port_of_saved}
use Rattle.state_lines.specs.Words.{spaced_words}
use Rattle.text_forms.specs.StateText.{port_words}
use Rattle.state_lines.proofs.Appended.{kept_on, leaf_made_twice, on_ok}
use Rattle.state_lines.proofs.leaf_line.put_cell.Goals as goal

pub returns-in_err-put_ports-clause-kept : goal.returns-in_err-put_ports-clause-kept
returns-in_err-put_ports-clause-kept c =
    kept_on c.args.into.now.items c.put_leaf.new.into.items c.put_ports.new.into.items
    (kept_on c.args.into.now.items c.put.new.into.items c.put_leaf.new.into.items c.put.ensures.kept
    c.put_leaf.ensures.kept)
    c.put_ports.ensures.kept

pub returns-clause-kept : goal.returns-clause-kept
returns-clause-kept c =
    kept_on c.args.into.now.items c.put_ports.new.into.items c.put_values.new.into.items
    (kept_on c.args.into.now.items c.put_leaf.new.into.items c.put_ports.new.into.items
    (kept_on c.args.into.now.items c.put.new.into.items c.put_leaf.new.into.items c.put.ensures.kept
    c.put_leaf.ensures.kept)
    c.put_ports.ensures.kept) c.put_values.ensures.kept

pub returns-clause-ok : goal.returns-clause-ok
returns-clause-ok c =
    on_ok c.put_values.result _ _
    (λ last settings l there.
    leaf_made_twice c.args.into.now.items (codes "cell") l
    (flat_map port_words (map port_of_saved c.args.state.now.ports.items))
    (map text5 c.args.state.now.variables.items)
    c.put.new.into.items c.put_leaf.new.into.items c.put_ports.new.into.items
    c.put_values.new.into.items
    c.in_ok-put.ensures.ok (c.in_ok-put_leaf.ensures.ok settings l there)
    (subst (λ (ps : List PortState). c.put_ports.new.into.items ≡ c.put_leaf.new.into.items
    ++ spaced_words (flat_map port_words (map port_of_saved ps))) c.deref.ensures.value
    c.in_ok-put_ports.ensures.ok)
    (subst (λ (vs : List Value). c.put_values.new.into.items ≡ c.put_ports.new.into.items
    ++ spaced_words (map text5 vs)) c.deref-2.ensures.value last)) c.put_values.ensures.ok
