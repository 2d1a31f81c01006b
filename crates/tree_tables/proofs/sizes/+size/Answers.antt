use Rattle.std.proofs.Common.{◌≡◌, suc, List, ap, sym, ◌∙◌, arith}
use Rattle.std.proofs.lemmas.List.{take_all}
use Rattle.std.proofs.lemmas.Result.{IfOk-weaker}
use Rattle.cell_grid.specs.Space.{cell_count}
use Rattle.model_tree.specs.declared.component.Component.{Component}
use Rattle.model_tree.specs.Stands.{part_of}
use Rattle.served_tree.specs.Processors.{size}
use Rattle.tree_tables.specs.Children.{sizes_of}
use Rattle.tree_tables.proofs.Listed.{size-Coupled, sizes-more}
use Rattle.tree_tables.proofs.sizes.+size.Goals as goal

pub size_of-returns-in-Coupled : goal.size_of-returns-in-Coupled
size_of-returns-in-Coupled t c =
    IfOk-weaker c.size_of_coupled.result _ _
    (λ n h settings. h settings ∙ ap (λ (x : Component). size (part_of x settings)) (sym c.in-Coupled.is))
    c.size_of_coupled.ensures

pub size_of-returns-in-Cells : goal.size_of-returns-in-Cells
size_of-returns-in-Cells t c =
    IfOk-weaker c.behind.result _ _
    (λ n h settings.
    let count = c.cells.ensures.value in
    let here : n ≡ suc (cell_count c.in-Cells.g.grid) = omega (arith, h, count) in
    here ∙ ap (λ (x : Component). size (part_of x settings)) (sym c.in-Cells.is))
    c.behind.ensures

pub size_of-returns-in-Atomic : goal.size_of-returns-in-Atomic
size_of-returns-in-Atomic t c = λ settings.
    ap (λ (x : Component). size (part_of x settings)) (sym c.in-Atomic.is)

pub size_of_coupled-returns : goal.size_of_coupled-returns
size_of_coupled-returns t c =
    IfOk-weaker c.behind.result _ _
    (λ n h settings.
    let below = c.in_ok-below.ensures settings ∙ ap (λ (cs : List Component). sizes_of cs settings) c.deref.ensures.value in
    let whole = size-Coupled c.args.coupled.now settings in
    omega (arith, h, below, whole))
    c.behind.ensures

pub size_of_all-loop-component-preserved : goal.size_of_all-loop-component-preserved
size_of_all-loop-component-preserved t c = λ settings.
    let more = sizes-more c.args.components.now c.loop-component.component-index c.component-item.result settings c.loop-component-test.true c.component-item.is in
    let before = c.loop-component.invariant settings in
    let one = c.in_ok-size.ensures settings in
    let sum = c.in_ok-total.ensures in
    omega (arith, more, before, one, sum)

pub size_of_all-returns : goal.size_of_all-returns
size_of_all-returns t c = λ settings.
    c.loop-component.invariant settings
    ∙ ap (λ (cs : List Component). sizes_of cs settings) (take_all c.loop-component.component-index c.args.components.now c.loop-component-test.false)
