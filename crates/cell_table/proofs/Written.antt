-- A cell is written into flat lists.
use Rattle.std.proofs.Common.{◌≡◌, ℕ, ◌+◌, ◌*◌, ◌<◌, ◌≤◌, ◌≢◌, List, [], ◌∷◌, map, length, get_or, refl, ◌∙◌, ap, arith, zero-add}
use Rattle.std.specs.List.{range_with_len}
use Rattle.std.proofs.lemmas.List.{get_or-map, length-map}
use Rattle.quantity.specs.declared.value.Value.{Value}
use Rattle.quantity.specs.declared.value.Value.TheVariants.{Undefined}
use Rattle.rule_tree.specs.Ports.{changed_at}
use Rattle.run_model.specs.CellStep.{PortState, CellState}
use Rattle.cell_table.specs.declared.table.CellTable.TheInside.{Inside}
use Rattle.cell_table.specs.declared.state.PortState as saved
use Rattle.cell_table.specs.Told.{cell_at}
use Rattle.cell_table.specs.Saved.{port_of_saved}
use Rattle.cell_table.specs.Table.{Table, port_in, variable_in, cells_in, changed_cell, with_piece, no_port, port_at}
use Rattle.cell_table.proofs.Changes.{changed-twice}
use Rattle.cell_table.proofs.Kept.{Laid, seen_as, ports_of, variables_of, row, variable_row}
use Rattle.cell_table.proofs.Pieced.{piece_elsewhere}
use Rattle.cell_table.proofs.Laid as laid

module _ (s : Inside) (t : Table) (is : seen_as s ≡ t) (h : Laid s) (i : ℕ) (here : i < length t.cells) where
  -- a part of the ports is written
  part_written : {A : Type 0} (d : A) (f : PortState → A) (new : List PortState) (xs ys : List A) → length new ≡ s.port_count → length xs ≡ s.cells * s.port_count → ys ≡ with_piece (i * s.port_count) (map f new) xs
      → (k : ℕ) → k < length new → get_or ys (i * s.port_count + k) d ≡ f (get_or new k no_port)
  part_written d f new xs ys long all wrote k lt =
      let first : ℕ = i * s.port_count in
      let many = length-map new f in
      ap (λ us. get_or us (first + k) d) wrote ∙ laid.piece_read d xs (map f new) first k (omega (arith, row s t is h i here, all)) (omega (arith, lt, many))
      ∙ get_or-map f new k no_port d lt

  part_elsewhere : {A : Type 0} (d : A) (f : PortState → A) (new : List PortState) (xs ys : List A) → length new ≡ s.port_count → length xs ≡ s.cells * s.port_count → ys ≡ with_piece (i * s.port_count) (map f new) xs
      → (j m : ℕ) → j ≢ i → j * s.port_count ≤ m → m < j * s.port_count + s.port_count → get_or ys m d ≡ get_or xs m d
  part_elsewhere d f new xs ys long all wrote j m ne low high =
      ap (λ us. get_or us m d) wrote ∙ piece_elsewhere d xs (map f new) i j m s.port_count (length-map new f ∙ long) (omega (arith, row s t is h i here, all)) ne low high

  pub cell_written : (c : CellState) (es cs vs : List Value) (ls : List (List (ℕ × Value))) → length c.ports ≡ s.port_count → length c.variables ≡ s.variable_count
      → es ≡ with_piece (i * s.port_count) (map (λ (p : PortState). p.emitted) c.ports) s.emitted.items
      → cs ≡ with_piece (i * s.port_count) (map (λ (p : PortState). p.computed) c.ports) s.computed.items
      → ls ≡ with_piece (i * s.port_count) (map (λ (p : PortState). p.pairs) c.ports) s.delays.lists
      → vs ≡ with_piece (i * s.variable_count) c.variables s.variables.items
      → record { width = s.port_count; variables = s.variable_count; cells = cells_in (port_in es cs ls) (variable_in vs) s.port_count s.variable_count s.cells } ≡ changed_cell i (λ _. c) t
  cell_written c es cs vs ls long many ee ec el ev =
      let emitted = λ (p : PortState). p.emitted in
      let computed = λ (p : PortState). p.computed in
      let pairs = λ (p : PortState). p.pairs in
      let e = part_written Undefined emitted c.ports s.emitted.items es long h.emitted ee in
      let d = part_written Undefined computed c.ports s.computed.items cs long h.computed ec in
      let l = part_written [] pairs c.ports s.delays.lists ls long h.lists el in
      let e' = part_elsewhere Undefined emitted c.ports s.emitted.items es long h.emitted ee in
      let d' = part_elsewhere Undefined computed c.ports s.computed.items cs long h.computed ec in
      let l' = part_elsewhere [] pairs c.ports s.delays.lists ls long h.lists el in
      let G = port_in es cs ls in
      let ports = laid.ports_replaced (ports_of s) G (variables_of s) s.port_count s.variable_count s.cells i c.ports long
      (λ k lt. λ x. record { emitted = e k lt x; computed = d k lt x; pairs = l k lt x })
      (λ j m ne low high. λ x. record { emitted = e' j m ne low high x; computed = d' j m ne low high x; pairs = l' j m ne low high x }) in
      let first : ℕ = i * s.variable_count in
      let fits : first ≤ length s.variables.items = omega (arith, variable_row s t is h i here, h.variables) in
      let variables = laid.variables_changed G (variables_of s) (variable_in vs) s.port_count s.variable_count s.cells i c.variables many
      (λ k lt. ap (λ us. get_or us (first + k) Undefined) ev ∙ laid.piece_read Undefined s.variables.items c.variables first k fits lt)
      (λ j m ne low high. ap (λ us. get_or us m Undefined) ev ∙ piece_elsewhere Undefined s.variables.items c.variables i j m s.variable_count many (omega (arith, variable_row s t is h i here, h.variables)) ne low high) in
      let cells = variables ∙ ap (changed_at i (λ (b : CellState). record b { variables = c.variables })) ports ∙ changed-twice i (λ (b : CellState). record b { variables = c.variables }) (λ (b : CellState). record b { ports = c.ports }) (cells_in (ports_of s) (variables_of s) s.port_count s.variable_count s.cells) in
      (λ k. record { width = s.port_count; variables = s.variable_count; cells = cells k }) ∙ ap (changed_cell i (λ _. c)) is

mapped : {A B C : Type 0} (f : A → B) (g : B → C) (xs : List A) → map (λ x. g (f x)) xs ≡ map g (map f xs)
mapped f g [] = refl
mapped f g (x ∷ xs) = ap (λ ys. g (f x) ∷ ys) (mapped f g xs)

-- a part of saved ports is that of the ports which they stand for
pub part_saved : {A : Type 0} (f : PortState → A) (xs old ys : List A) (first : ℕ) (ps qs : List saved.PortState) → qs ≡ ps → old ≡ xs → ys ≡ with_piece first (map (λ (q : saved.PortState). f (port_of_saved q)) qs) old
    → ys ≡ with_piece first (map f (map port_of_saved ps)) xs
part_saved f xs old ys first ps qs same before wrote =
    wrote ∙ (λ k. with_piece first (map (λ (q : saved.PortState). f (port_of_saved q)) (same k)) (before k)) ∙ ap (λ us. with_piece first us xs) (mapped port_of_saved f ps)

-- all ports of a cell, one after another
pub all_ports : (t : Table) (i n : ℕ) → n ≡ length (cell_at t.cells i).ports → map (port_at t i) (range_with_len 0 n) ≡ (cell_at t.cells i).ports
all_ports t i n long =
    ap (λ m. map (port_at t i) (range_with_len 0 m)) long ∙ laid.range_list no_port (port_at t i) (cell_at t.cells i).ports 0 (λ k lt. ap (port_at t i) (zero-add k))
