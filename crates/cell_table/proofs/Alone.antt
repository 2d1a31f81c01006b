-- What is done at the one port of a cell is done at all its ports, and without variables none is set.
use Rattle.std.proofs.Common.{◌≡◌, ℕ, ◌<◌, Option, None, List, [], ◌∷◌, ◌++◌, map, length, get_or, refl, sym, ◌∙◌, ap, arith, Ok, Err}
use Rattle.std.specs.Prelude.{OnOk}
use Rattle.std.specs.List.{flat_map, enumerate_from}
use Rattle.std.specs.declared.result.Result.{Result}
use Rattle.quantity.specs.declared.value.Value.{Value}
use Rattle.quantity.specs.declared.delay.DelayKind.{DelayKind}
use Rattle.rule_tree.specs.Ports.{changed_at, taken_at, taken_by_port}
use Rattle.run_model.specs.CellStep.{PortState, CellState, first_time, next_of_ports, port_emitted, port_output, port_took, cell_emitted, cell_output}
use Rattle.cell_table.specs.Told.{no_cell, cell_at, if_given}
use Rattle.cell_table.specs.Table.{Table, IsTable, changed_cell, changed_port, changed_ports, with_variables, no_port, given_by_port}
use Rattle.cell_table.proofs.Changes.{changed-alike}
use Rattle.cell_table.proofs.Emitting.{one_given, least_none}
use Rattle.cell_table.proofs.Taking.{changed_to_same}

-- ---- one port

bag_of_ports : (t : ℕ) (ps : List PortState) → length ps ≡ 1 → if_given (0, given_by_port t (get_or ps 0 no_port)) ++ [] ≡ flat_map (port_output t) (enumerate_from 0 ps)
bag_of_ports t [] h = absurd (omega (arith, h))
bag_of_ports t (a ∷ []) h = λ i. one_given t 0 a i ++ []
bag_of_ports t (a ∷ b ∷ ps) h = absurd (omega (arith, h))

next_of_all : (ps : List PortState) → length ps ≡ 1 → first_time (get_or ps 0 no_port).pairs ≡ next_of_ports ps
next_of_all [] h = absurd (omega (arith, h))
next_of_all (a ∷ []) h = sym (least_none (first_time a.pairs))
next_of_all (a ∷ b ∷ ps) h = absurd (omega (arith, h))

all_changed : (f : PortState → PortState) (ps : List PortState) → length ps ≡ 1 → changed_at 0 f ps ≡ map f ps
all_changed f [] h = refl
all_changed f (a ∷ []) h = refl
all_changed f (a ∷ b ∷ ps) h = absurd (omega (arith, h))

all_taken : (take : Value → PortState → PortState) (vs : List (Option Value)) (ps : List PortState) → length ps ≡ 1 → changed_at 0 (taken_at take (get_or vs 0 None)) ps ≡ taken_by_port take vs ps
all_taken take vs [] h = absurd (omega (arith, h))
all_taken take [] (p ∷ []) h = refl
all_taken take (a ∷ []) (p ∷ []) h = refl
all_taken take (a ∷ b ∷ vs) (p ∷ []) h = refl
all_taken take vs (p ∷ q ∷ ps) h = absurd (omega (arith, h))

-- ---- a cell of one port

module _ (i : ℕ) (t : Table) (is : IsTable t) (here : i < length t.cells) (one : t.width ≡ 1) where
  abbrev c : CellState
  c = cell_at t.cells i

  alone : length c.ports ≡ 1
  alone = (is.numbers i no_cell here).0 ∙ one

  -- a change that does to this cell what another does
  alike : (f g : CellState → CellState) (u : Table) → f (cell_at t.cells i) ≡ g (cell_at t.cells i) → u ≡ changed_cell i f t → u ≡ changed_cell i g t
  alike f g u same h =
      let cells = changed-alike i f g no_cell t.cells same in
      h ∙ (λ k. record t { cells = cells k })

  pub given_alone : (at : ℕ) (o : Option Value) → o ≡ given_by_port at (get_or (cell_at t.cells i).ports 0 no_port) → if_given (0, o) ++ [] ≡ cell_output at (cell_at t.cells i)
  given_alone at o h = ap (λ (v : Option Value). if_given (0, v) ++ []) h ∙ bag_of_ports at c.ports alone

  pub emitted_alone : (at : ℕ) (u : Table) → u ≡ changed_cell i (changed_port 0 (port_emitted at)) t → u ≡ changed_cell i (cell_emitted at) t
  emitted_alone at u h =
      let ports = all_changed (port_emitted at) c.ports alone in
      alike (changed_port 0 (port_emitted at)) (cell_emitted at) u (λ k. record c { ports = ports k }) h

  pub next_alone : first_time (get_or (cell_at t.cells i).ports 0 no_port).pairs ≡ next_of_ports (cell_at t.cells i).ports
  next_alone = next_of_all c.ports alone

  pub taken_alone : {U E : Type 0} (r : Result U E) (kind : DelayKind) (at : ℕ) (vs : List (Option Value)) (o : Option Value) (u : Table) → o ≡ get_or vs 0 None
      → OnOk r (u ≡ changed_cell i (changed_port 0 (taken_at (port_took kind at) o)) t) → OnOk r (u ≡ changed_cell i (changed_ports (taken_by_port (port_took kind at) vs)) t)
  taken_alone (Ok x) kind at vs o u e h =
      let take = port_took kind at in
      let ports = ap (λ (v : Option Value). changed_at 0 (taken_at take v) c.ports) e ∙ all_taken take vs c.ports alone in
      alike (changed_port 0 (taken_at take o)) (changed_ports (taken_by_port take vs)) u (λ k. record c { ports = ports k }) h
  taken_alone (Err x) kind at vs o u e h = tt

-- ---- no variables

both_empty : (a b : List Value) → length a ≡ 0 → length b ≡ 0 → a ≡ b
both_empty [] [] h k = refl
both_empty [] (v ∷ b) h k = absurd (omega (arith, k))
both_empty (v ∷ a) b h k = absurd (omega (arith, h))

pub none_set : (i : ℕ) (vs : List Value) (t : Table) → IsTable t → i < length t.cells → length vs ≡ t.variables → length vs ≡ 0 → t ≡ changed_cell i (with_variables vs) t
none_set i vs t is here count none =
    let c = cell_at t.cells i in
    let own : length c.variables ≡ 0 = omega (arith, (is.numbers i no_cell here).1, count, none) in
    let same = both_empty vs c.variables none own in
    let cells = changed_to_same i (with_variables vs) no_cell t.cells (λ k. record c { variables = same k }) in
    λ k. record t { cells = (sym cells) k }
