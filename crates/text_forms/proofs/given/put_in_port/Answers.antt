use Rattle.std.proofs.Common.{codes}
use Rattle.model_tree.specs.Tree.{Leaf}
use Rattle.model_leaves.specs.LeafTexts.{in_ports, name_at}
use Rattle.text_forms.proofs.Appended.{appended_keeps, kept_on, on_ok}
use Rattle.text_forms.proofs.Starts.{two_appended}
use Rattle.text_forms.proofs.given.put_in_port.Goals as goal

pub returns-clause-ok : goal.returns-clause-ok
returns-clause-ok c =
    on_ok c.put.result _ _ (λ last settings l e.
    two_appended c.args.into.now.items c.port_text.new.into.items c.put.new.into.items (name_at (in_ports l) c.args.port.0) (codes " / ") (c.in_ok-port_text.ensures.ok settings l e) last) c.put.ensures.ok

pub returns-clause-kept : goal.returns-clause-kept
returns-clause-kept c =
    kept_on c.args.into.now.items c.port_text.new.into.items c.put.new.into.items
    (appended_keeps c.args.model.now c.args.leaf (λ (l : Leaf). name_at (in_ports l) c.args.port.0) _ _ c.requires.leaf_there c.in_ok-port_text.ensures.ok) c.put.ensures.kept
