-- Cells in flat lists: what is read at a place, and what a change there does to the cells.
use Rattle.std.proofs.Common.{◌≡◌, ◌≢◌, ℕ, zero, suc, ◌+◌, ◌-◌, ◌*◌, ◌<◌, ◌≤◌, List, [], ◌∷◌, ◌++◌, map, length, get_or, set, take, drop, refl, sym, ◌∙◌, ap, arith, zero-add, add-zero, inl, inr}
use Rattle.std.specs.Prelude.{◌⊎◌}
use Rattle.std.specs.List.{All, range_with_len}
use Rattle.std.proofs.lemmas.List.{get_or-set_same, get_or-set_other, get_or-map, get_or_past, drop_more, length-map, length-append, length-take-le, get_or_append_left, get_or-append_right, get_or-take, get_or-drop}
use Rattle.std.proofs.lemmas.List.FromFn.{get_or-map-range_with_len, length-map-range_with_len}
use Rattle.std.proofs.lemmas.List.Elements.{All-cons}
use Rattle.std.proofs.lemmas.Nat.{mul-le}
use Rattle.std.proofs.Math.Nat.{add-mul}
use Rattle.quantity.specs.declared.value.Value.{Value}
use Rattle.quantity.specs.declared.value.Value.TheVariants.{Undefined}
use Rattle.rule_tree.specs.Ports.{changed_at}
use Rattle.run_model.specs.CellStep.{PortState}
use Rattle.run_model.specs.Fitting.{HasNumbers}
use Rattle.cell_table.specs.Told.{no_cell, cell_at}
use Rattle.cell_table.specs.Table.{port_in, cell_in, cells_in, changed_port, no_port}
use Rattle.cell_table.proofs.Changes.{same-range, changed-range}

-- ---- pieces of a flat list

pub order : (i j : ℕ) → (i < j + 1) ⊎ (j < i)
order i zero = elim i as (λ n. (n < 1) ⊎ (0 < n)) [ zero ↦ inl (omega arith) | suc n ↦ inr (omega arith) ]
order zero (suc j) = inl (omega arith)
order (suc i) (suc j) = elim (order i j) [ inl h ↦ inl (omega (arith, h)) | inr h ↦ inr (omega (arith, h)) ]

-- a place of one cell is no place of another
pub apart : (i j w p m : ℕ) → p < w → j * w ≤ m → m < j * w + w → j ≢ i → i * w + p ≢ m
apart i j w p m lt low high ne e = split (order i j)
  where
    split : (i < j + 1) ⊎ (j < i) → ⊥
    split (inl h) =
        let less : i < j = omega (arith, h, ne) in
        let rows : (i + 1) * w ≤ j * w = mul-le (i + 1) w j w (omega (arith, less)) (omega arith) in
        omega (arith, rows, add-mul i 1 w, lt, low, e)
    split (inr h) =
        let rows : (j + 1) * w ≤ i * w = mul-le (j + 1) w i w (omega (arith, h)) (omega arith) in
        omega (arith, rows, add-mul j 1 w, high, e)

-- a place of a cell is one of the list
pub within : (i n w p : ℕ) → i < n → p < w → i * w + p < n * w
within i n w p here lt =
    let rows : (i + 1) * w ≤ n * w = mul-le (i + 1) w n w (omega (arith, here)) (omega arith) in
    omega (arith, rows, add-mul i 1 w, lt)

pub within_piece : (i n w : ℕ) → i < n → i * w + w ≤ n * w
within_piece i n w here =
    let rows : (i + 1) * w ≤ n * w = mul-le (i + 1) w n w (omega (arith, here)) (omega arith) in
    omega (arith, rows, add-mul i 1 w)

-- elements one after another are a piece of the list
pub piece_is : {A : Type 0} (d : A) (xs : List A) (b w : ℕ) → b + w ≤ length xs → map (λ k. get_or xs k d) (range_with_len b w) ≡ take w (drop b xs)
piece_is d xs b zero h = refl
piece_is d xs b (suc w) h =
    ap (λ ys. get_or xs b d ∷ ys) (piece_is d xs (b + 1) w (omega (arith, h)))
    ∙ sym (ap (λ ys. take (suc w) ys) (drop_more xs b d (omega (arith, h))))

-- ---- reading

module _ (F : ℕ → PortState) (V : ℕ → Value) (w count n : ℕ) where
  pub cell_is : (i : ℕ) → i < n → cell_at (cells_in F V w count n) i ≡ cell_in F V w count i
  cell_is i here = get_or-map-range_with_len (cell_in F V w count) 0 n i i no_cell here (zero-add i)

  pub port_is : (i p : ℕ) → p < w → get_or (cell_in F V w count i).ports p no_port ≡ F (i * w + p)
  port_is i p lt = get_or-map-range_with_len F (i * w) w p (i * w + p) no_port lt refl

  pub port_past : (i p : ℕ) → w ≤ p → get_or (cell_in F V w count i).ports p no_port ≡ no_port
  port_past i p le = get_or_past (cell_in F V w count i).ports p no_port (omega (arith, length-map-range_with_len F (i * w) w, le))

  pub ports_long : (i : ℕ) → length (cell_in F V w count i).ports ≡ w
  ports_long i = length-map-range_with_len F (i * w) w

  -- a part of a port, where there is such a port and where there is none
  pub part_is : (f : PortState → Value) (i p : ℕ) → p < w → get_or (map f (cell_in F V w count i).ports) p Undefined ≡ f (F (i * w + p))
  part_is f i p lt = get_or-map f (cell_in F V w count i).ports p no_port Undefined (omega (arith, ports_long i, lt)) ∙ ap f (port_is i p lt)

  pub part_past : (f : PortState → Value) (i p : ℕ) → w ≤ p → get_or (map f (cell_in F V w count i).ports) p Undefined ≡ Undefined
  part_past f i p le = get_or_past (map f (cell_in F V w count i).ports) p Undefined (omega (arith, length-map (cell_in F V w count i).ports f, ports_long i, le))

  pub cells_long : length (cells_in F V w count n) ≡ n
  cells_long = length-map-range_with_len (cell_in F V w count) 0 n

  all-numbers : (b m : ℕ) → All (HasNumbers w count) (map (cell_in F V w count) (range_with_len b m))
  all-numbers b zero = λ k d h. absurd (omega (arith, h))
  all-numbers b (suc m) =
      All-cons (HasNumbers w count) (cell_in F V w count b) (map (cell_in F V w count) (range_with_len (b + 1) m))
      (ports_long b, length-map-range_with_len V (b * count) count) (all-numbers (b + 1) m)

  pub numbers : All (HasNumbers w count) (cells_in F V w count n)
  numbers = all-numbers 0 n

-- ---- changing

-- one port is changed where the functions differ in its place alone
pub port_changed : (F G : ℕ → PortState) (V : ℕ → Value) (w count n i p : ℕ) (f : PortState → PortState) → p < w → G (i * w + p) ≡ f (F (i * w + p))
    → ((m : ℕ) → m ≢ i * w + p → G m ≡ F m) → cells_in G V w count n ≡ changed_at i (changed_port p f) (cells_in F V w count n)
port_changed F G V w count n i p f lt here other =
    let ports = changed-range F G f (i * w) w p (i * w + p) refl here (λ m low high ne. other m ne) in
    changed-range (cell_in F V w count) (cell_in G V w count) (changed_port p f) 0 n i i (sym (zero-add i))
    (λ k. record { ports = ports k; variables = map V (range_with_len (i * count) count) })
    (λ j low high ne.
    let same = same-range G F (j * w) w (λ m l h. other m (λ e. apart i j w p m lt l h ne (sym e))) in
    λ k. record { ports = same k; variables = map V (range_with_len (j * count) count) })

-- a function that has a list's elements from a number on
pub range_list : {A : Type 0} (d : A) (G : ℕ → A) (xs : List A) (b : ℕ) → ((k : ℕ) → k < length xs → G (b + k) ≡ get_or xs k d) → map G (range_with_len b (length xs)) ≡ xs
range_list d G [] b same = refl
range_list d G (x ∷ xs) b same =
    let head : G b ≡ x = ap G (sym (add-zero b)) ∙ same 0 (omega arith) in
    let rest = range_list d G xs (b + 1) (λ k h. ap G (shifted b k) ∙ same (suc k) (omega (arith, h))) in
    λ i. head i ∷ rest i
  where
    shifted : (b k : ℕ) → b + 1 + k ≡ b + suc k
    shifted b k = omega arith

-- the variables of one cell are replaced
pub variables_changed : (F : ℕ → PortState) (V W : ℕ → Value) (w count n i : ℕ) (new : List Value) → length new ≡ count → ((k : ℕ) → k < length new → W (i * count + k) ≡ get_or new k Undefined)
    → ((j m : ℕ) → j ≢ i → j * count ≤ m → m < j * count + count → W m ≡ V m)
    → cells_in F W w count n ≡ changed_at i (λ c. record c { variables = new }) (cells_in F V w count n)
variables_changed F V W w count n i new long here other =
    let values : map W (range_with_len (i * count) count) ≡ new = ap (λ m. map W (range_with_len (i * count) m)) (sym long) ∙ range_list Undefined W new (i * count) here in
    changed-range (cell_in F V w count) (cell_in F W w count) (λ c. record c { variables = new }) 0 n i i (sym (zero-add i))
    (λ k. record { ports = map F (range_with_len (i * w) w); variables = values k })
    (λ j low high ne.
    let same = same-range W V (j * count) count (λ m l h. other j m ne l h) in
    λ k. record { ports = map F (range_with_len (j * w) w); variables = same k })

-- the ports of one cell are replaced
pub ports_replaced : (F G : ℕ → PortState) (V : ℕ → Value) (w count n i : ℕ) (new : List PortState) → length new ≡ w → ((k : ℕ) → k < length new → G (i * w + k) ≡ get_or new k no_port)
    → ((j m : ℕ) → j ≢ i → j * w ≤ m → m < j * w + w → G m ≡ F m)
    → cells_in G V w count n ≡ changed_at i (λ c. record c { ports = new }) (cells_in F V w count n)
ports_replaced F G V w count n i new long here other =
    let ports : map G (range_with_len (i * w) w) ≡ new = ap (λ m. map G (range_with_len (i * w) m)) (sym long) ∙ range_list no_port G new (i * w) here in
    changed-range (cell_in F V w count) (cell_in G V w count) (λ c. record c { ports = new }) 0 n i i (sym (zero-add i))
    (λ k. record { ports = ports k; variables = map V (range_with_len (i * count) count) })
    (λ j low high ne.
    let same = same-range G F (j * w) w (λ m l h. other j m ne l h) in
    λ k. record { ports = same k; variables = map V (range_with_len (j * count) count) })

-- what is read where a piece was written
pub piece_read : {A : Type 0} (d : A) (xs new : List A) (first k : ℕ) → first ≤ length xs → k < length new → get_or (take first xs ++ new ++ drop (first + length new) xs) (first + k) d ≡ get_or new k d
piece_read d xs new first k h lt =
    let long : length (take first xs) ≡ first = length-take-le first xs h in
    let whole : length (take first xs ++ new) ≡ first + length new = omega (arith, length-append (take first xs) new, long) in
    get_or_append_left (take first xs ++ new) (drop (first + length new) xs) d (first + k) (omega (arith, whole, lt))
    ∙ get_or-append_right (take first xs) new first (first + k) d long (omega arith) ∙ ap (λ m. get_or new m d) (minus first k)
  where
    minus : (a b : ℕ) → a + b - a ≡ b
    minus a b = omega arith

pub piece_before : {A : Type 0} (d : A) (xs new : List A) (first m : ℕ) → first ≤ length xs → m < first → get_or (take first xs ++ new ++ drop (first + length new) xs) m d ≡ get_or xs m d
piece_before d xs new first m h lt =
    let long : length (take first xs) ≡ first = length-take-le first xs h in
    get_or_append_left (take first xs ++ new) (drop (first + length new) xs) d m (omega (arith, length-append (take first xs) new, long, lt))
    ∙ get_or_append_left (take first xs) new d m (omega (arith, long, lt)) ∙ get_or-take first xs m d lt

pub piece_behind : {A : Type 0} (d : A) (xs new : List A) (first m : ℕ) → first ≤ length xs → first + length new ≤ m → get_or (take first xs ++ new ++ drop (first + length new) xs) m d ≡ get_or xs m d
piece_behind d xs new first m h le =
    let long : length (take first xs) ≡ first = length-take-le first xs h in
    let whole : length (take first xs ++ new) ≡ first + length new = omega (arith, length-append (take first xs) new, long) in
    get_or-append_right (take first xs ++ new) (drop (first + length new) xs) (first + length new) m d whole le
    ∙ get_or-drop (first + length new) xs (m - (first + length new)) d ∙ ap (λ k. get_or xs k d) (plus m (first + length new) le)
  where
    plus : (m a : ℕ) → a ≤ m → a + (m - a) ≡ m
    plus m a h = omega (arith, h)

-- ---- what a call changes at one place of the lists

-- elsewhere nothing changes
pub other_port : (es cs : List Value) (ls : List (List (ℕ × Value))) (k : ℕ) (e c : Value) (l : List (ℕ × Value)) (m : ℕ) → m ≢ k
    → port_in (set es k e) (set cs k c) (set ls k l) m ≡ port_in es cs ls m
other_port es cs ls k e c l m ne =
    let a = get_or-set_other es k m e Undefined ne in
    let b = get_or-set_other cs k m c Undefined ne in
    let d = get_or-set_other ls k m l [] ne in
    λ i. record { emitted = a i; computed = b i; pairs = d i }

-- there stand the new parts
pub this_port : (es cs : List Value) (ls : List (List (ℕ × Value))) (k : ℕ) (e c : Value) (l : List (ℕ × Value)) → k < length es → k < length cs → k < length ls
    → port_in (set es k e) (set cs k c) (set ls k l) k ≡ record { emitted = e; computed = c; pairs = l }
this_port es cs ls k e c l a b d =
    let x = get_or-set_same es k e Undefined a in
    let y = get_or-set_same cs k c Undefined b in
    let z = get_or-set_same ls k l [] d in
    λ i. record { emitted = x i; computed = y i; pairs = z i }
