use Rattle.std.proofs.Common.{ℕ, List, ap, ◌∙◌, subst}
use Rattle.model_tree.specs.declared.component.Component.{Component}
use Rattle.model_tree.specs.Pull.{is_own}
use Rattle.tree_tables.specs.Children.{numbers_of}
use Rattle.tree_tables.specs.Incoming.{rows_to, AreCoupledLinks}
use Rattle.tree_tables.proofs.wiring.wiring_of_coupled.Goals as goal

pub returns : goal.returns
returns c =
    let top = c.args.coupled.now in
    let links = c.in_ok-links.links in
    record {
      children = λ settings.
          c.in_ok-children.ensures settings
          ∙ ap (λ (xs : List Component). numbers_of xs settings c.in_ok-below.below) c.deref.ensures.value
          ∙ ap (numbers_of top.children.items settings) c.in_ok-below.ensures;
      links = subst (λ (ns : List ℕ). AreCoupledLinks top ns links) c.deref-2.ensures.value c.in_ok-links.ensures;
      outs = c.in_ok-outs.ensures ∙ ap (rows_to links.outward.items links.arrivals is_own) c.deref-3.ensures.value;
    }
