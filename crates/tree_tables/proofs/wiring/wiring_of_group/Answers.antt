use Rattle.std.proofs.Common.{ℕ, List, [], ap, ◌∙◌, subst}
use Rattle.std.specs.List.{range_with_len}
use Rattle.model_tree.specs.declared.link.Link.{Link}
use Rattle.model_tree.specs.Pull.{is_own}
use Rattle.model_tree.specs.Tree.{Word}
use Rattle.served_tree.specs.Rows.{group_ref}
use Rattle.tree_tables.specs.Incoming.{rows_to, AreLinks}
use Rattle.tree_tables.proofs.wiring.wiring_of_group.Goals as goal

pub returns : goal.returns
returns c =
    let g = c.args.group.now in
    let links = c.in_ok-links.links in
    let numbers = c.in_ok-children.children.items in
    let given : AreLinks links (group_ref c.deref-3.result.now []) (group_ref c.deref-3.result.now c.deref-2.result.now) c.deref.result.now = c.in_ok-links.ensures (λ k. []) in
    record {
      children = c.in_ok-children.ensures ∙ (λ i. range_with_len (c.in_ok-below.ensures i) (c.cells.ensures.value i));
      links =
          subst (λ (ls : List Link). AreLinks links (group_ref numbers []) (group_ref numbers g.ins.items) ls) c.deref.ensures.value
          (subst (λ (ins : List Word). AreLinks links (group_ref numbers []) (group_ref numbers ins) c.deref.result.now) c.deref-2.ensures.value
          (subst (λ (ns : List ℕ). AreLinks links (group_ref ns []) (group_ref ns c.deref-2.result.now) c.deref.result.now) c.deref-3.ensures.value given));
      outs = c.in_ok-outs.ensures ∙ ap (rows_to links.outward.items links.arrivals is_own) c.deref-4.ensures.value;
    }
