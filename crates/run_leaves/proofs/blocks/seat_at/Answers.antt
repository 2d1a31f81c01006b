use Rattle.std.proofs.Common.{ℕ, ◌-◌, ◌≤◌, Option, Some, List, [], ◌∷◌, ◌++◌, sym, ◌∙◌, ap, subst, arith}
use Rattle.std.specs.Prelude.{slice_get}
use Rattle.model_tree.specs.Tree.{groups}
use Rattle.model_leaves.specs.Models.{tree_of}
use Rattle.model_tree.specs.Stands.{group_of}
use Rattle.model_leaves.specs.Leaves.{no_settings}
use Rattle.model_leaves.proofs.Read.{leaf-there, rows-length}
use Rattle.run_leaves.specs.declared.blocks.Block.{Block}
use Rattle.run_leaves.specs.Watching.{block_of, IsSeatOf, AreSeated}
use Rattle.model_leaves.proofs.Grouping.{as-many, group-at}
use Rattle.run_leaves.proofs.Seating.{seated-begun, box-seat, group-within, some-before, first-seat, next-seat}
use Rattle.run_leaves.proofs.blocks.seat_at.Goals as goal

pub bounds-groups-group : goal.bounds-groups-group
bounds-groups-group c =
    let m = c.args.model.now in
    let gs = groups (tree_of m no_settings) in
    let there = leaf-there m c.args.leaf c.requires.leaf in
    let within = group-within gs c.in-Cell.group c.in-Cell.cell there.0 (c.in-Cell.ensures no_settings there.0 there.1) in
    let many = as-many c.args.groups.now gs (c.requires.groups no_settings) in
    omega (arith, within, many)

pub some-requires : goal.some-requires
some-requires c =
    let m = c.args.model.now in
    omega (arith, c.requires.leaf, rows-length m no_settings, m.few, c.requires.few, c.in_ok-number-in-Cell.ensures.number)

pub returns-then-cell-eq0-clause-seated : goal.returns-then-cell-eq0-clause-seated
returns-then-cell-eq0-clause-seated c = λ settings.
    let t = tree_of c.args.model.now settings in
    subst (λ (bs : List Block). AreSeated t c.args.seats.now bs) (sym c.in_ok-number-in-Cell.ensures.begun)
    (seated-begun t c.args.seats.now c.args.blocks.now.items (block_of (group_of c.index-groups-group.result.now) c.args.leaf) (c.requires.seated settings))

pub returns-then-cell-eq0-clause-seat : goal.returns-then-cell-eq0-clause-seat
returns-then-cell-eq0-clause-seat c = λ settings l is.
    let t = tree_of c.args.model.now settings in
    let gs = groups t in
    let blocks = c.args.blocks.now.items in
    let group = c.index-groups-group.result in
    let h = group_of group.now in
    let within = group-within gs c.in-Cell.group c.in-Cell.cell l (c.in-Cell.ensures settings l is) in
    let many = as-many c.args.groups.now gs (c.requires.groups settings) in
    let there = group-at c.args.groups.now gs c.in-Cell.group group (c.requires.groups settings) (omega (arith, within, many)) c.index-groups-group.is in
    rw c.some.ensures
    (subst (λ (bs : List Block). IsSeatOf bs l (Some c.in_ok-number-in-Cell.number)) (sym c.in_ok-number-in-Cell.ensures.begun)
    (subst (λ (n : ℕ). IsSeatOf (blocks ++ block_of h c.args.leaf ∷ []) l (Some n)) (sym c.in_ok-number-in-Cell.ensures.number)
    (first-seat t (slice_get gs c.in-Cell.group) h c.in-Cell.cell c.args.leaf blocks l is (c.in-Cell.ensures settings l is) there c.if-cell-eq0.true)))

pub overflow_sub-leaf : goal.overflow_sub-leaf
overflow_sub-leaf c =
    let m = c.args.model.now in
    let t = tree_of m no_settings in
    let there = leaf-there m c.args.leaf c.requires.leaf in
    some-before t (slice_get (groups t) c.in-Cell.group) c.in-Cell.cell c.args.leaf there.0 there.1 (c.in-Cell.ensures no_settings there.0 there.1) c.if-cell-eq0.false

pub at-requires : goal.at-requires
at-requires c =
    let m = c.args.model.now in
    let t = tree_of m no_settings in
    let there = leaf-there m c.args.leaf c.requires.leaf in
    let some : 1 ≤ c.args.leaf = some-before t (slice_get (groups t) c.in-Cell.group) c.in-Cell.cell c.args.leaf there.0 there.1 (c.in-Cell.ensures no_settings there.0 there.1) c.if-cell-eq0.false in
    let long = c.requires.long in
    omega (arith, some, long)

pub returns-in-Atomic-clause-seat : goal.returns-in-Atomic-clause-seat
returns-in-Atomic-clause-seat c = λ settings l is. rw c.none.ensures (box-seat c.args.blocks.now.items (settings c.in-Atomic.field-0.0) l (c.in-Atomic.ensures settings l is))

pub returns-else-cell-eq0-clause-seat : goal.returns-else-cell-eq0-clause-seat
returns-else-cell-eq0-clause-seat c = λ settings l is.
    let t = tree_of c.args.model.now settings in
    next-seat t (slice_get (groups t) c.in-Cell.group) c.in-Cell.cell c.args.leaf c.args.seats.now c.args.blocks.now.items l c.at.result is (c.in-Cell.ensures settings l is) c.if-cell-eq0.false c.at.ensures (c.requires.seated settings)

pub returns-else-cell-eq0-clause-some : goal.returns-else-cell-eq0-clause-some
returns-else-cell-eq0-clause-some c = λ again.
    let m = c.args.model.now in
    let t = tree_of m no_settings in
    let there = leaf-there m c.args.leaf c.requires.leaf in
    let some : 1 ≤ c.args.leaf = some-before t (slice_get (groups t) c.in-Cell.group) c.in-Cell.cell c.args.leaf there.0 there.1 (c.in-Cell.ensures no_settings there.0 there.1) c.if-cell-eq0.false in
    let long = c.requires.long in
    omega (arith, some, long)

pub returns-else-cell-eq0-clause-last : goal.returns-else-cell-eq0-clause-last
returns-else-cell-eq0-clause-last c = λ again. ap (λ n. slice_get c.args.seats.now (n - 1)) c.requires.long ∙ c.at.ensures
