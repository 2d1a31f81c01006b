use Rattle.std.proofs.Common.{◌≡◌, ◌+◌, ℕ, take, rules, sym, ap, ◌∙◌}
use Rattle.model_leaves.specs.Counted.{leaves_in, leaves_in_all}
use Rattle.model_leaves.proofs.Places.{leaves-more}
use Rattle.model_leaves.proofs.Rows.{leaves_in-Coupled}
use Rattle.model_tree.specs.declared.component.Component.TheViews.{the_lemmas}
use Rattle.model_leaves.proofs.count.+count.Goals as goal

pub leaves-leaves_of_all-requires : goal.leaves-leaves_of_all-requires
leaves-leaves_of_all-requires t c =
    let same : leaves_in c.args.component.now ≡ leaves_in_all c.deref.result.now = ap leaves_in c.in-Coupled.is ∙ leaves_in-Coupled c.in-Coupled.c ∙ ap leaves_in_all (sym c.deref.ensures.value) in
    (search (rules, the_lemmas), rw (← same) c.requires)

pub leaves-returns-in-Coupled : goal.leaves-returns-in-Coupled
leaves-returns-in-Coupled t c =
    c.leaves_of_all.ensures ∙ ap leaves_in_all c.deref.ensures.value ∙ sym (leaves_in-Coupled c.in-Coupled.c) ∙ ap leaves_in (sym c.in-Coupled.is)

pub leaves_of_all-loop-child-preserved : goal.leaves_of_all-loop-child-preserved
leaves_of_all-loop-child-preserved t c =
    let children = c.args.children.now in
    let i = c.loop-child.child-index in
    ap (λ (n : ℕ). n + c.leaves-total.result) c.loop-child.invariant ∙ ap (λ (n : ℕ). leaves_in_all (take i children) + n) c.leaves-total.ensures
    ∙ leaves-more children i c.child-item.result c.loop-child-test.true c.child-item.is
