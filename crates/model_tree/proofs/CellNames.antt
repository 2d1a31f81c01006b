-- The names of the ports of all cells of a group, one link after another.
use Rattle.std.proofs.Common.{◌≡◌, ◌≢◌, ◌<◌, ◌≤◌, ◌+◌, ◌++◌, ◌∷◌, ℕ, Bool, true, false, List, [], map, set, get_or, take, length, refl, sym, ap, ◌∙◌, arith, get_or-set_same, get_or-set_other}
use Rattle.std.specs.Prelude.{◌==◌}
use Rattle.std.specs.List.{filter_map, range_with_len}
use Rattle.std.proofs.lemmas.List.{length-set, length-map, take_all, map-set, get_or-map, map_push}
use Rattle.std.proofs.lemmas.List.FromFn.{map-range_with_len_more, length-map-range_with_len, get_or-map-range_with_len, fill_by_all}
use Rattle.std.proofs.lemmas.Bool.Decides.{nat_tests}
use Rattle.cell_grid.specs.Space.{cell_count}
use Rattle.model_tree.specs.declared.link.End.{End}
use Rattle.model_tree.specs.declared.link.End.TheVariants.{Own, Child, Cell}
use Rattle.model_tree.specs.declared.link.Link.{Link}
use Rattle.model_tree.specs.Tree.{Word, Group}
use Rattle.model_tree.specs.Pull.{distinct, port_of_cell, cell_ports}
use Rattle.model_tree.specs.CellPorts.{with_name, with_port, with_end, none_each, ports_of_cells}
use Rattle.model_tree.proofs.Distinct.{ports-more}

-- the names of a cell's ports after so many links
abbrev pub after : List Link → ℕ → ℕ → List Word
after ls i n = distinct (filter_map (port_of_cell n) (take i ls))

abbrev all_of : (ℕ → List Word) → ℕ → List (List Word)
all_of f k = map f (range_with_len 0 k)

cell-at : (f : ℕ → List Word) (k : ℕ) (p : Word) (m j : ℕ) (from : End) → j < k → (b : Bool) → (m == j) ≡ b → get_or (set (all_of f k) m (with_name (get_or (all_of f k) m []) p)) j [] ≡ with_port (f j) (port_of_cell j (record { from = from; to = Cell p m }))
cell-at f k p m j from h true e =
    let same : m ≡ j = grind (arith, nat_tests) in
    let within : j < length (all_of f k) = rw (length-map-range_with_len f 0 k) h in
    rw (e, same)
    (get_or-set_same (all_of f k) j (with_name (get_or (all_of f k) j []) p) [] within
    ∙ ap (λ (ns : List Word). with_name ns p) (get_or-map-range_with_len f 0 k j j [] h (omega arith)))
cell-at f k p m j from h false e =
    let other : j ≢ m = grind (arith, nat_tests) in
    rw e (get_or-set_other (all_of f k) m j (with_name (get_or (all_of f k) m []) p) [] other ∙ get_or-map-range_with_len f 0 k j j [] h (omega arith))

end-at : (f : ℕ → List Word) (k : ℕ) (from to : End) (j : ℕ) → j < k → get_or (with_end to (all_of f k)) j [] ≡ with_port (f j) (port_of_cell j (record { from = from; to = to }))
end-at f k from (Own p) j h = get_or-map-range_with_len f 0 k j j [] h (omega arith)
end-at f k from (Child p c) j h = get_or-map-range_with_len f 0 k j j [] h (omega arith)
end-at f k from (Cell p m) j h = cell-at f k p m j from h (m == j) refl

length-end : (f : ℕ → List Word) (k : ℕ) (to : End) → length (with_end to (all_of f k)) ≡ k
length-end f k (Own p) = length-map-range_with_len f 0 k
length-end f k (Child p c) = length-map-range_with_len f 0 k
length-end f k (Cell p m) = length-set (all_of f k) m _ ∙ length-map-range_with_len f 0 k

pub ends-more : (ls : List Link) (i k : ℕ) (l : Link) → i < length ls → l ≡ get_or ls i l → with_end l.to (map (after ls i) (range_with_len 0 k)) ≡ map (after ls (i + 1)) (range_with_len 0 k)
ends-more ls i k l h e =
    fill_by_all (after ls (i + 1)) (with_end l.to (map (after ls i) (range_with_len 0 k))) k [] (length-end (after ls i) k l.to)
    (λ j within. end-at (after ls i) k l.from l.to j within ∙ sym (ports-more ls i j l h e))

pub ends-all : (ls : List Link) (i k : ℕ) → length ls ≤ i → map (after ls i) (range_with_len 0 k) ≡ map (λ n. distinct (filter_map (port_of_cell n) ls)) (range_with_len 0 k)
ends-all ls i k e =
    let whole : take i ls ≡ ls = take_all i ls e in
    ap (λ (xs : List Link). map (λ n. distinct (filter_map (port_of_cell n) xs)) (range_with_len 0 k)) whole

-- the lists as the code has them
pub one-cell : {X : Type 0} (f : X → List Word) (all : List X) (i : ℕ) (old new : X) (p : Word) → i < length all → f new ≡ with_name (f (get_or all i old)) p → map f (set all i new) ≡ set (map f all) i (with_name (get_or (map f all) i []) p)
one-cell f all i old new p within h =
    map-set f all i new ∙ ap (set (map f all) i) (h ∙ ap (λ (ns : List Word). with_name ns p) (sym (get_or-map f all i old [] within)))

pub none-more : {X : Type 0} (f : X → List Word) (xs ys : List X) (x : X) (n : ℕ) → ys ≡ xs ++ x ∷ [] → f x ≡ [] → map f xs ≡ none_each n → map f ys ≡ none_each (n + 1)
none-more f xs ys x n e here h =
    ap (map f) e ∙ map_push f xs x ∙ rw (h, here) (sym (map-range_with_len_more (λ k. []) 0 n n (omega arith)))

-- the names of one cell, from those of all
pub cells-count : {X : Type 0} (f : X → List Word) (all : List X) (g : Group) → map f all ≡ ports_of_cells g → length all ≡ cell_count g.space
cells-count f all g e = sym (length-map all f) ∙ ap length e ∙ length-map-range_with_len (cell_ports g) 0 (cell_count g.space)

pub cell-names : {X : Type 0} (f : X → List Word) (all : List X) (g : Group) (i : ℕ) (x : X) → map f all ≡ ports_of_cells g → i < cell_count g.space → x ≡ get_or all i x → f x ≡ cell_ports g i
cell-names f all g i x e within here =
    let count = cells-count f all g e in
    ap f here ∙ sym (get_or-map f all i x [] (omega (arith, count))) ∙ ap (λ (xs : List (List Word)). get_or xs i []) e
    ∙ get_or-map-range_with_len (cell_ports g) 0 (cell_count g.space) i i [] within (omega arith)
