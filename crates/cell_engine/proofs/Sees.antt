-- What a cell sees of its own group is what it sees of all leaves.
use Rattle.std.proofs.Common.{◌≡◌, ℕ, zero, suc, ◌+◌, ◌<◌, Option, Some, None, List, [], ◌∷◌, map, length, refl, sym, ◌∙◌, ap, arith, zero-add}
use Rattle.std.specs.Prelude.{slice_get}
use Rattle.std.specs.Option.{option_map}
use Rattle.quantity.specs.declared.place.Offset.{Offset}
use Rattle.cell_grid.specs.Space.{cell_count, neighbour}
use Rattle.cell_grid.proofs.Opposites.{neighbour-inside}
use Rattle.model_tree.specs.Tree.{Group}
use Rattle.run_model.specs.CellStep.{CellState}
use Rattle.run_model.specs.Cycle.{LeafState, cell_state, emitted_values, seen_of, sight_of}
use Rattle.cell_table.specs.Told.{cell_at}
use Rattle.cell_engine.specs.Laws.{StandAt, SeesItsGroup}

pub mapped-at : (cells : List CellState) (n : ℕ) → n < length cells → slice_get (map cell_state cells) n ≡ Some (cell_state (cell_at cells n))
mapped-at [] n lt = absurd (omega (arith, lt))
mapped-at (c ∷ cs) zero lt = refl
mapped-at (c ∷ cs) (suc n) lt = mapped-at cs n (omega (arith, lt))

seen : (g : Group) (first : ℕ) (cells : List CellState) (states : List LeafState) (o : Option ℕ) → StandAt first cells states → ((n : ℕ) → o ≡ Some n → n < length cells)
    → seen_of states g (option_map (λ n. first + n) o) ≡ seen_of (map cell_state cells) g (option_map (λ n. 0 + n) o)
seen g first cells states None stand within = refl
seen g first cells states (Some n) stand within =
    ap emitted_values (stand n (within n refl))
    ∙ sym (ap (λ m. emitted_values (slice_get (map cell_state cells) m)) (zero-add n) ∙ ap emitted_values (mapped-at cells n (within n refl)))

pub sees-its-group : SeesItsGroup
sees-its-group t g first i cells states long here stand =
    let inside : i < cell_count g.space = omega (arith, here, long) in
    λ k. record (sight_of t states g first i) {
      neighbours = map (λ (o : Offset). seen g first cells states (neighbour g.space i o) stand (λ n is. let at = neighbour-inside g.space i n o inside is in omega (arith, at, long)) k) g.offsets;
    }
