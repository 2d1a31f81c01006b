use Rattle.std.proofs.Common.{rules, ◌≡◌, ◌<◌, ℕ, arith, ap, ◌∙◌, map, get_or, [], ◌∷◌}
use Rattle.std.specs.List.{range_with_len}
use Rattle.cell_grid.specs.Space.{cell_count}
use Rattle.model_tree.specs.Pull.{cell_ports}
use Rattle.model_tree.specs.Stands.{group_of}
use Rattle.model_leaves.specs.Table.{seat_at}
use Rattle.model_tree.specs.CellPorts.{ports_of_cells}
use Rattle.model_tree.proofs.CellNames.{cells-count, cell-names}
use Rattle.model_leaves.proofs.Shown.{grown-on, grown-as, one-cell-more}
use Rattle.model_leaves.proofs.growing.Growing.cells.Goals as goal

pub index-names-requires : goal.index-names-requires
index-names-requires c =
    let all : map (λ v. v.items) c.in_ok-all.all.items ≡ ports_of_cells (group_of c.args.group.now) = c.in_ok-all.ensures in
    let count = cells-count (λ v. v.items) c.in_ok-all.all.items (group_of c.args.group.now) all in
    omega (arith, count, c.in_ok-all.all.ok.0, c.cells-cell-end.ensures.value)

pub loop-cell-preserved : goal.loop-cell-preserved
loop-cell-preserved c =
    record {
      ok = λ p e.
          let all : map (λ v. v.items) c.in_ok-all.all.items ≡ ports_of_cells (group_of c.args.group.now) = c.in_ok-all.ensures in
          let within : c.loop-cell.cell < cell_count c.args.group.now.grid = omega (arith, c.cells-cell-end.ensures.value) in
          let read : c.index-names.result.now ≡ get_or c.in_ok-all.all.items c.loop-cell.cell c.index-names.result.now = search rules in
          let names : c.deref.result.now ≡ cell_ports (group_of c.args.group.now) c.loop-cell.cell =
          c.deref.ensures.value ∙ cell-names (λ v. v.items) c.in_ok-all.all.items (group_of c.args.group.now) c.loop-cell.cell c.index-names.result.now all within read in
          let here = λ (n : ℕ). seat_at p.at p.name n (cell_ports (group_of c.args.group.now) n) in
          grown-as c.args.self.now c.seat.new.self _ _ (one-cell-more here c.loop-cell.cell _ (ap (seat_at p.at p.name c.loop-cell.cell) names))
          (grown-on c.args.self.now c.loop-cell.self c.seat.new.self (map here (range_with_len 0 c.loop-cell.cell)) (seat_at p.at p.name c.loop-cell.cell c.deref.result.now ∷ []) (c.loop-cell.invariant.ok p e) (c.in_ok-seat.ensures.ok p (rw c.loop-cell.invariant.parts e)));
      parts = search rules;
      groups = search rules;
    }

pub returns-clause-ok : goal.returns-clause-ok
returns-clause-ok c = λ p e.
    let same : c.loop-cell.cell ≡ cell_count c.args.group.now.grid = omega (arith, c.cells-cell-end.ensures.value) in
    let here = λ (n : ℕ). seat_at p.at p.name n (cell_ports (group_of c.args.group.now) n) in
    grown-as c.args.self.now c.loop-cell.self _ _ (ap (λ (n : ℕ). map here (range_with_len 0 n)) same) (c.loop-cell.invariant.ok p e)
