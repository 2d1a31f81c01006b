use Rattle.cell_grid.specs.Steps.{offset_of_step}
use Rattle.cell_grid.specs.Space.{neighbour_at, place_of}
use Rattle.std.proofs.Common.{◌≡◌, ℕ, Option, Some, None, append-nil, ◌++◌, ◌∷◌, [], pos, sym, eqb, ap, ◌∙◌, arith}
use Rattle.std.proofs.lemmas.List.{take_all}
use Rattle.std.proofs.lemmas.List.Filters.{dedup_is}
use Rattle.std.specs.List.{filter_map}
use Rattle.quantity.specs.declared.place.Offset.{Offset}
use Rattle.cell_grid.proofs.Watching.{watcher, watchers-are, no_watchers, filter_map_more}
use Rattle.cell_grid.proofs.grid.Grid.watchers.Goals as goal
use Rattle.cell_grid.proofs.grid.Grid.watchers.Goals.{in-Some, in_default}

pub loop-offset-preserved : goal.loop-offset-preserved
loop-offset-preserved c =
    let offsets = c.args.offsets.now in
    let start : Offset = record { row = pos 0; column = pos 0; plane = pos 0 } in
    let more = λ (m : Option ℕ) (is : c.reached.result ≡ m).
    filter_map_more (watcher c.args.self.now c.args.cell) offsets c.loop-offset.offset-index start m c.loop-offset-test.true (sym is ∙ c.reached.ensures.value ∙ ap (λ p. neighbour_at c.args.self.now p (offset_of_step c.back.result)) c.position-place.ensures.value ∙ ap (neighbour_at c.args.self.now (place_of c.args.self.now c.args.cell)) c.back.ensures) in
    elim c.match-reached.branch [
      | in-Some w ↦ rw w.into-is (record {
        found = w.push_reserved.ensures.items ∙ ap (λ l. l ++ w.in-Some.watcher ∷ []) c.loop-offset.invariant.found ∙ more (Some w.in-Some.watcher) w.in-Some.is;
        few = omega (arith, w.push_reserved.ensures.len);
        room = omega (arith, w.push_reserved.ensures.capacity);
      })
      | in_default w ↦ rw w.into-is (record {
        found = c.loop-offset.invariant.found ∙ sym (append-nil _) ∙ more None w.in_default.is;
        few = omega arith;
        room = omega arith;
      })
    ]

pub returns-then-cells-cell-clause-ok : goal.returns-then-cells-cell-clause-ok
returns-then-cells-cell-clause-ok c =
    c.clear.ensures.items ∙ sym (no_watchers c.args.self.now c.args.offsets.now c.args.cell (omega (arith, c.cells.ensures.value)))

pub returns-clause-ok : goal.returns-clause-ok
returns-clause-ok c =
    let whole = take_all c.loop-offset.offset-index c.args.offsets.now (omega arith) in
    watchers-are c.args.self.now c.args.offsets.now c.args.cell _ _ c.dedup.new.self.items (omega (arith, c.cells.ensures.value))
    (c.loop-offset.invariant.found ∙ ap (filter_map (watcher c.args.self.now c.args.cell)) whole)
    c.sort_unstable.ensures.permutation c.sort_unstable.ensures.sorted (dedup_is eqb _ _ c.dedup.ensures.filtered)
