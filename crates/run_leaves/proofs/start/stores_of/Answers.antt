use Rattle.std.proofs.Common.{◌≡◌, ◌+◌, List, [], ◌∷◌, length, ap, ◌∙◌, sym, subst, arith, length-append}
use Rattle.model_tree.specs.Tree.{groups}
use Rattle.model_leaves.specs.Models.{tree_of}
use Rattle.model_tree.specs.Stands.{group_of}
use Rattle.model_leaves.specs.Leaves.{no_settings}
use Rattle.cell_engine.specs.Cells.{Cells}
use Rattle.model_leaves.specs.Grouped.{groups_shown}
use Rattle.run_leaves.specs.Placed.{IsStoreOf, StoreGroups}
use Rattle.run_leaves.proofs.Joined.{each-more}
use Rattle.model_leaves.proofs.Grouping.{as-many, group-at}
use Rattle.run_leaves.proofs.start.stores_of.Goals as goal

pub new-requires : goal.new-requires
new-requires c =
    c.requires no_settings c.loop-group.group-index (group_of c.group-item.result.now)
    (group-at c.deref-group-items.result.now (groups (tree_of c.args.model.now no_settings)) c.loop-group.group-index c.group-item.result
    (ap groups_shown c.deref-group-items.ensures.value ∙ c.in_ok-groups.ensures no_settings) c.loop-group-test.true c.group-item.is)

pub loop-group-preserved : goal.loop-group-preserved
loop-group-preserved c =
    let m = c.args.model.now in
    let stores = c.loop-group.stores.items in
    let store : Cells = c.in_ok-store.store in
    let long = c.loop-group.invariant.0 in
    let longer = length-append stores (store ∷ []) in
    let here : IsStoreOf m c.loop-group.group-index store = record {
      group = group_of c.group-item.result.now;
      numbered = λ settings.
          group-at c.deref-group-items.result.now (groups (tree_of m settings)) c.loop-group.group-index c.group-item.result
          (ap groups_shown c.deref-group-items.ensures.value ∙ c.in_ok-groups.ensures settings) c.loop-group-test.true c.group-item.is;
      layout = c.in_ok-store.ensures.layout;
      cells = c.in_ok-store.ensures.cells;
    } in
    subst (λ (all : List Cells). (length all ≡ c.loop-group.group-index + 1) × StoreGroups m all) (sym c.in_ok-add_store.ensures) (
      omega (arith, long, longer),
      each-more (IsStoreOf m) stores store c.loop-group.invariant.1 (subst (λ n. IsStoreOf m n store) (sym long) here),
    )

pub returns : goal.returns
returns c = record {
  long = λ settings.
      let many = as-many c.deref-group-items.result.now (groups (tree_of c.args.model.now settings)) (ap groups_shown c.deref-group-items.ensures.value ∙ c.in_ok-groups.ensures settings) in
      let long = c.loop-group.invariant.0 in
      let past = c.loop-group-test.false in
      omega (arith, many, long, past);
  each = c.loop-group.invariant.1;
}
