-- The cells at the start, in flat lists.
use Rattle.std.proofs.Common.{◌≡◌, ℕ, zero, suc, ◌+◌, ◌*◌, ◌<◌, List, [], ◌∷◌, ◌++◌, map, length, get_or, take, replicate, refl, sym, ◌∙◌, ap, arith, zero-add, append-nil}
use Rattle.std.specs.Prelude.{◌==◌, true}
use Rattle.std.specs.List.{flat_map, range_with_len}
use Rattle.std.proofs.lemmas.Bool.Decides.{nat_tests}
use Rattle.std.proofs.lemmas.List.{take_more, length-append, length-map, get_or_append_left, get_or-append-add, get_or-map}
use Rattle.std.proofs.lemmas.List.Concat.{flat_map-append}
use Rattle.std.proofs.Math.Nat.{add-mul}
use Rattle.quantity.specs.declared.value.Value.{Value}
use Rattle.quantity.specs.declared.value.Value.TheVariants.{Undefined}
use Rattle.run_model.specs.CellStep.{PortState, initial_port}
use Rattle.cell_table.specs.Told.{no_cell}
use Rattle.cell_table.specs.Table.{port_in, variable_in, cell_in, cells_in, no_port, waits_at_0, cell_at_start}
use Rattle.cell_table.proofs.Laid.{range_list}
use Rattle.cell_table.proofs.Laid as laid

pub flat_more : (f : Value → List Value) (xs : List Value) (i : ℕ) (x : Value) → i < length xs → x ≡ get_or xs i x → flat_map f (take (i + 1) xs) ≡ flat_map f (take i xs) ++ f x
flat_more f xs i x h is =
    ap (flat_map f) (take_more xs i x h) ∙ flat_map-append f (take i xs) (get_or xs i x ∷ []) ∙ ap (λ ys. flat_map f (take i xs) ++ ys) (one (get_or xs i x) ∙ ap f (sym is))
  where
    one : (y : Value) → f y ++ [] ≡ f y
    one y = append-nil (f y)

-- nothing, as often as there are values
pub none_joined : (xs values : List Value) → (length xs == 0) ≡ true → (let none : List Value = [] in none ≡ flat_map (λ _. xs) values)
none_joined [] [] h = refl
none_joined [] (v ∷ values) h = none_joined [] values h
none_joined (x ∷ xs) values h = absurd (grind (arith, nat_tests))

-- each value with none behind it
pub alone_joined : (xs values : List Value) → (length xs == 0) ≡ true → values ≡ flat_map (λ v. v ∷ xs) values
alone_joined [] [] h = refl
alone_joined [] (v ∷ values) h = ap (λ vs. v ∷ vs) (alone_joined [] values h)
alone_joined (x ∷ xs) values h = absurd (grind (arith, nat_tests))

pub flat_long : (f : Value → List Value) (w : ℕ) (xs : List Value) → ((x : Value) → length (f x) ≡ w) → length (flat_map f xs) ≡ length xs * w
flat_long f w [] long = omega arith
flat_long f w (x ∷ xs) long = omega (arith, length-append (f x) (flat_map f xs), long x, flat_long f w xs long, add-mul (length xs) 1 w)

pub flat_at : (f : Value → List Value) (w : ℕ) (xs : List Value) (i j : ℕ) (d e : Value) → ((x : Value) → length (f x) ≡ w) → i < length xs → j < w → get_or (flat_map f xs) (i * w + j) d ≡ get_or (f (get_or xs i e)) j d
flat_at f w [] i j d e long h lt = absurd (omega (arith, h))
flat_at f w (x ∷ xs) zero j d e long h lt =
    let place : zero * w + j ≡ j = omega arith in
    ap (λ k. get_or (f x ++ flat_map f xs) k d) place ∙ get_or_append_left (f x) (flat_map f xs) d j (omega (arith, long x, lt))
flat_at f w (x ∷ xs) (suc i) j d e long h lt =
    let place : suc i * w + j ≡ length (f x) + (i * w + j) = omega (arith, add-mul i 1 w, long x) in
    ap (λ k. get_or (f x ++ flat_map f xs) k d) place ∙ get_or-append-add (f x) (flat_map f xs) (i * w + j) d ∙ flat_at f w xs i j d e long (omega (arith, h)) lt

undefined_at : (n k : ℕ) → get_or (replicate n Undefined) k Undefined ≡ Undefined
undefined_at zero k = refl
undefined_at (suc n) zero = refl
undefined_at (suc n) (suc k) = undefined_at n k

waits_get : (vs : List Value) (k : ℕ) (d : Value) → k < length vs → get_or (map waits_at_0 vs) k [] ≡ waits_at_0 (get_or vs k d)
waits_get vs k d h = get_or-map waits_at_0 vs k d [] h

module _ (initial further xs : List Value) (m : ℕ) where
  abbrev each_port : Value → List Value
  each_port v = v ∷ further

  abbrev values : List Value
  values = flat_map each_port initial

  abbrev port : ℕ → PortState
  port = port_in (replicate m Undefined) values (map waits_at_0 values)

  abbrev variable : ℕ → Value
  variable = variable_in (flat_map (λ _. xs) initial)

  long_port : (v : Value) → length (each_port v) ≡ length further + 1
  long_port v = omega arith

  ports_start : (i : ℕ) → i < length initial → map port (range_with_len (i * (length further + 1)) (length further + 1)) ≡ map initial_port (get_or initial i Undefined ∷ further)
  ports_start i h =
      let v = get_or initial i Undefined in
      let ps = map initial_port (v ∷ further) in
      let long : length ps ≡ length further + 1 = length-map (v ∷ further) initial_port ∙ long_port v in
      ap (λ n. map port (range_with_len (i * (length further + 1)) n)) (sym long)
      ∙ range_list no_port port ps (i * (length further + 1)) (λ j lt.
      let inside : j < length further + 1 = omega (arith, lt, long) in
      let k : ℕ = i * (length further + 1) + j in
      let there : k < length values = omega (arith, flat_long each_port (length further + 1) initial long_port, laid.within i (length initial) (length further + 1) j h inside) in
      let value : get_or values k Undefined ≡ get_or (v ∷ further) j Undefined = flat_at each_port (length further + 1) initial i j Undefined Undefined long_port h inside in
      let pairs : get_or (map waits_at_0 values) k [] ≡ waits_at_0 (get_or (v ∷ further) j Undefined) = waits_get values k Undefined there ∙ ap waits_at_0 value in
      (λ n. record { emitted = undefined_at m k n; computed = value n; pairs = pairs n })
      ∙ sym (get_or-map initial_port (v ∷ further) j Undefined no_port (omega (arith, inside))))

  variables_start : (i : ℕ) → i < length initial → map variable (range_with_len (i * length xs) (length xs)) ≡ xs
  variables_start i h = range_list Undefined variable xs (i * length xs) (λ j lt. flat_at (λ _. xs) (length xs) initial i j Undefined Undefined (λ v. refl) h lt)

  cell_starts : (i : ℕ) → i < length initial → cell_in port variable (length further + 1) (length xs) i ≡ cell_at_start further xs (get_or initial i Undefined)
  cell_starts i h = λ k. record { ports = ports_start i h k; variables = variables_start i h k }

  -- what the flat lists of the start hold are the cells at the start
  pub starts : cells_in port variable (length further + 1) (length xs) (length initial) ≡ map (cell_at_start further xs) initial
  starts =
      let all = map (cell_at_start further xs) initial in
      let long : length all ≡ length initial = length-map initial (cell_at_start further xs) in
      ap (λ n. map (cell_in port variable (length further + 1) (length xs)) (range_with_len 0 n)) (sym long)
      ∙ range_list no_cell (cell_in port variable (length further + 1) (length xs)) all 0 (λ k h.
      let here : k < length initial = omega (arith, h, long) in
      ap (cell_in port variable (length further + 1) (length xs)) (zero-add k) ∙ cell_starts k here ∙ sym (get_or-map (cell_at_start further xs) initial k Undefined no_cell here))

  -- the same of lists that are these
  pub starts_seen : (es cs vs : List Value) (ls : List (List (ℕ × Value))) → es ≡ replicate m Undefined → cs ≡ values → ls ≡ map waits_at_0 values → vs ≡ flat_map (λ _. xs) initial
      → cells_in (port_in es cs ls) (variable_in vs) (length further + 1) (length xs) (length initial) ≡ map (cell_at_start further xs) initial
  starts_seen es cs vs ls ee ec el ev =
      (λ k. cells_in (port_in (ee k) (ec k) (el k)) (variable_in (ev k)) (length further + 1) (length xs) (length initial)) ∙ starts

pub ports_long : (outs further : List Value) → length (flat_map (λ v. v ∷ further) outs) ≡ length outs * (length further + 1)
ports_long outs further = flat_long (λ v. v ∷ further) (length further + 1) outs (λ v. omega arith)

-- one value more of what a list is made of
pub joined_more : (f : Value → List Value) (xs : List Value) (i : ℕ) (x : Value) (ys zs : List Value) → i < length xs → x ≡ get_or xs i x → ys ≡ flat_map f (take i xs) → zs ≡ ys ++ f x
    → zs ≡ flat_map f (take (i + 1) xs)
joined_more f xs i x ys zs h is made own = own ∙ ap (λ vs. vs ++ f x) made ∙ sym (flat_more f xs i x h is)
