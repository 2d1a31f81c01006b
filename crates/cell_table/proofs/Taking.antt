-- What a cell takes at its ports.
use Rattle.std.proofs.Common.{◌≡◌, ℕ, zero, suc, ◌<◌, ◌≤◌, Option, Some, None, List, [], ◌∷◌, map, length, get_or, set, take, refl, sym, ◌∙◌, ap, subst, arith, Bool, true, false, Ok, Err}
use Rattle.std.specs.Prelude.{OnOk, OnErr, if◌then◌else◌}
use Rattle.std.specs.declared.result.Result.{Result}
use Rattle.std.proofs.lemmas.List.{set-set, set-get_or, get_or-take}
use Rattle.quantity.specs.declared.value.Value.{Value}
use Rattle.rule_tree.specs.Ports.{changed_at, taken_at, taken_by_port}
use Rattle.quantity.specs.Arithmetic.{same_value}
use Rattle.quantity.specs.declared.delay.DelayKind.{DelayKind}
use Rattle.quantity.specs.Delay.{delay_list_after}
use Rattle.run_model.specs.CellStep.{PortState, CellState, port_took}
use Rattle.cell_table.specs.Told.{no_cell, cell_at, values_emitted, OnlyCell}
use Rattle.cell_table.specs.Table.{Table, HasShape, TookFirst, changed_cell, changed_port, changed_ports}
use Rattle.cell_table.proofs.Changes.{changed-alike, changed-past, changed-twice, changed-set, changed-here, length-changed}

abbrev emitted_part : PortState → Value
emitted_part p = p.emitted

pub changed_to_same : {A : Type 0} (i : ℕ) (f : A → A) (d : A) (xs : List A) → f (get_or xs i d) ≡ get_or xs i d → changed_at i f xs ≡ xs
changed_to_same i f d xs e = changed-set i f d xs ∙ ap (λ y. set xs i y) e ∙ set-get_or xs i d

unchanged_ports : (p : ℕ) (f : PortState → PortState) (c : CellState) → changed_at p f c.ports ≡ c.ports → changed_port p f c ≡ c
unchanged_ports p f c e = λ k. record c { ports = e k }

pub none_taken : (take : Value → PortState → PortState) (i p : ℕ) (t : Table) → changed_cell i (changed_port p (taken_at take None)) t ≡ t
none_taken take i p t =
    let c = cell_at t.cells i in
    let same = same_ports p c.ports in
    let cells = changed_to_same i (changed_port p (taken_at take None)) no_cell t.cells (unchanged_ports p (taken_at take None) c same) in
    λ k. record t { cells = cells k }
  where
    same_ports : (p : ℕ) (ps : List PortState) → changed_at p (λ (q : PortState). q) ps ≡ ps
    same_ports p [] = refl
    same_ports zero (q ∷ qs) = refl
    same_ports (suc p) (q ∷ qs) = ap (λ rs. q ∷ rs) (same_ports p qs)

pub taken_past : (i p : ℕ) (f : PortState → PortState) (t : Table) → length (cell_at t.cells i).ports ≤ p → changed_cell i (changed_port p f) t ≡ t
taken_past i p f t past =
    let c = cell_at t.cells i in
    let cells = changed_to_same i (changed_port p f) no_cell t.cells (unchanged_ports p f c (changed-past p f c.ports past)) in
    λ k. record t { cells = cells k }

-- ---- four ports

pub four_taken : (take : Value → PortState → PortState) (a b c d : Option Value) (ps : List PortState) → length ps ≤ 4
    → changed_at 3 (taken_at take d) (changed_at 2 (taken_at take c) (changed_at 1 (taken_at take b) (changed_at 0 (taken_at take a) ps))) ≡ taken_by_port take (a ∷ b ∷ c ∷ d ∷ []) ps
four_taken take a b c d [] h = refl
four_taken take a b c d (p ∷ []) h = refl
four_taken take a b c d (p ∷ q ∷ []) h = refl
four_taken take a b c d (p ∷ q ∷ r ∷ []) h = refl
four_taken take a b c d (p ∷ q ∷ r ∷ s ∷ []) h = refl
four_taken take a b c d (p ∷ q ∷ r ∷ s ∷ t ∷ ps) h = absurd (omega (arith, h))

-- ---- the first port alone

out_taken : (take : Value → PortState → PortState) (v : Value) (ps : List PortState)
    → changed_at 0 (take v) ps ≡ taken_by_port take (Some v ∷ None ∷ None ∷ None ∷ []) ps
out_taken take v [] = refl
out_taken take v (p ∷ []) = refl
out_taken take v (p ∷ q ∷ []) = refl
out_taken take v (p ∷ q ∷ r ∷ []) = refl
out_taken take v (p ∷ q ∷ r ∷ s ∷ ps) = refl

-- what its first port takes, all ports of a cell take where no other is given a value
pub taken_first : {U E : Type 0} (r : Result U E) (kind : DelayKind) (at : ℕ) (v : Value) (i : ℕ) (t u : Table)
    → OnOk r (u ≡ changed_cell i (changed_port 0 (port_took kind at v)) t)
    → OnOk r (u ≡ changed_cell i (changed_ports (taken_by_port (port_took kind at) (Some v ∷ None ∷ None ∷ None ∷ []))) t)
taken_first (Ok x) kind at v i t u h =
    let c = cell_at t.cells i in
    let ports = out_taken (port_took kind at) v c.ports in
    let cells = changed-alike i (changed_port 0 (port_took kind at v)) (changed_ports (taken_by_port (port_took kind at) (Some v ∷ None ∷ None ∷ None ∷ []))) no_cell t.cells (λ k. record c { ports = ports k }) in
    h ∙ (λ k. record t { cells = cells k })
taken_first (Err e) kind at v i t u h = tt

-- ---- only one cell changes

pub only_itself : (i : ℕ) (cells : List CellState) → OnlyCell i cells cells
only_itself i cells = record { others = sym (set-get_or cells i no_cell); emitted = refl }

pub only_after : (i : ℕ) (a b c : List CellState) → i < length a → OnlyCell i a b → OnlyCell i b c → OnlyCell i a c
only_after i a b c here first second =
    record {
      others = second.others ∙ ap (λ xs. set xs i (cell_at c i)) first.others ∙ set-set a i (cell_at b i) (cell_at c i);
      emitted = second.emitted ∙ first.emitted;
    }

-- a change that leaves what was emitted
pub only_changed : (i : ℕ) (f : CellState → CellState) (cells : List CellState) → i < length cells → values_emitted (f (cell_at cells i)) ≡ values_emitted (cell_at cells i)
    → OnlyCell i cells (changed_at i f cells)
only_changed i f cells here same =
    let at : cell_at (changed_at i f cells) i ≡ f (cell_at cells i) = changed-here i f no_cell cells here in
    record {
      others = changed-set i f no_cell cells ∙ ap (λ y. set cells i y) (sym at);
      emitted = ap values_emitted at ∙ same;
    }

-- the same over the values of any list, of which those past its end are none
pub each_taken : (take : Value → PortState → PortState) (vs : List (Option Value)) (ps : List PortState) → length ps ≤ 4
    → changed_at 3 (taken_at take (get_or vs 3 None)) (changed_at 2 (taken_at take (get_or vs 2 None)) (changed_at 1 (taken_at take (get_or vs 1 None)) (changed_at 0 (taken_at take (get_or vs 0 None)) ps))) ≡ taken_by_port take vs ps
each_taken take [] [] h = refl
each_taken take (a ∷ vs) [] h = refl
each_taken take [] (p ∷ []) h = refl
each_taken take (a ∷ []) (p ∷ []) h = refl
each_taken take (a ∷ b ∷ vs) (p ∷ []) h = refl
each_taken take [] (p ∷ q ∷ []) h = refl
each_taken take (a ∷ []) (p ∷ q ∷ []) h = refl
each_taken take (a ∷ b ∷ []) (p ∷ q ∷ []) h = refl
each_taken take (a ∷ b ∷ c ∷ vs) (p ∷ q ∷ []) h = refl
each_taken take [] (p ∷ q ∷ r ∷ []) h = refl
each_taken take (a ∷ []) (p ∷ q ∷ r ∷ []) h = refl
each_taken take (a ∷ b ∷ []) (p ∷ q ∷ r ∷ []) h = refl
each_taken take (a ∷ b ∷ c ∷ []) (p ∷ q ∷ r ∷ []) h = refl
each_taken take (a ∷ b ∷ c ∷ d ∷ vs) (p ∷ q ∷ r ∷ []) h = refl
each_taken take [] (p ∷ q ∷ r ∷ s ∷ []) h = refl
each_taken take (a ∷ []) (p ∷ q ∷ r ∷ s ∷ []) h = refl
each_taken take (a ∷ b ∷ []) (p ∷ q ∷ r ∷ s ∷ []) h = refl
each_taken take (a ∷ b ∷ c ∷ []) (p ∷ q ∷ r ∷ s ∷ []) h = refl
each_taken take (a ∷ b ∷ c ∷ d ∷ []) (p ∷ q ∷ r ∷ s ∷ []) h = refl
each_taken take (a ∷ b ∷ c ∷ d ∷ e ∷ vs) (p ∷ q ∷ r ∷ s ∷ []) h = refl
each_taken take vs (p ∷ q ∷ r ∷ s ∷ t ∷ ps) h = absurd (omega (arith, h))

-- ---- four changes of one cell

pub four_changes : (i : ℕ) (f0 f1 f2 f3 g : CellState → CellState) (t t1 t2 t3 t4 : Table) → t1 ≡ changed_cell i f0 t → t2 ≡ changed_cell i f1 t1 → t3 ≡ changed_cell i f2 t2 → t4 ≡ changed_cell i f3 t3
    → f3 (f2 (f1 (f0 (cell_at t.cells i)))) ≡ g (cell_at t.cells i) → t4 ≡ changed_cell i g t
four_changes i f0 f1 f2 f3 g t t1 t2 t3 t4 e1 e2 e3 e4 same =
    e4 ∙ ap (changed_cell i f3) (e3 ∙ ap (changed_cell i f2) (e2 ∙ ap (changed_cell i f1) e1))
    ∙ (λ k. record t { cells = cells k })
  where
    cells : changed_at i f3 (changed_at i f2 (changed_at i f1 (changed_at i f0 t.cells))) ≡ changed_at i g t.cells
    cells =
        ap (λ xs. changed_at i f3 (changed_at i f2 xs)) (changed-twice i f1 f0 t.cells)
        ∙ ap (changed_at i f3) (changed-twice i f2 (λ c. f1 (f0 c)) t.cells)
        ∙ changed-twice i f3 (λ c. f2 (f1 (f0 c))) t.cells
        ∙ changed-alike i (λ c. f3 (f2 (f1 (f0 c)))) g no_cell t.cells same

pub here_after : (i : ℕ) (f : CellState → CellState) (t u : Table) → u ≡ changed_cell i f t → i < length t.cells → i < length u.cells
here_after i f t u e here = omega (arith, ap (λ (x : Table). length x.cells) e, length-changed i f t.cells, here)

pub cell_after : (i : ℕ) (f : CellState → CellState) (t u : Table) → u ≡ changed_cell i f t → i < length t.cells → cell_at u.cells i ≡ f (cell_at t.cells i)
cell_after i f t u e here = ap (λ (x : Table). cell_at x.cells i) e ∙ changed-here i f no_cell t.cells here

-- ---- what a port takes leaves what all ports emitted

pub emitted_kept : (p : ℕ) (f : PortState → PortState) (ps : List PortState) → ((q : PortState) → (f q).emitted ≡ q.emitted) → map (λ (q : PortState). q.emitted) (changed_at p f ps) ≡ map (λ (q : PortState). q.emitted) ps
emitted_kept p f [] same = refl
emitted_kept zero f (q ∷ qs) same = ap (λ v. v ∷ map (λ (q : PortState). q.emitted) qs) (same q)
emitted_kept (suc p) f (q ∷ qs) same = ap (λ vs. q.emitted ∷ vs) (emitted_kept p f qs same)

took_emitted : (kind : DelayKind) (at : ℕ) (v : Value) (q : PortState) → (port_took kind at v q).emitted ≡ q.emitted
took_emitted kind at v q = by (same_value v q.computed)
  where
    by : (b : Bool) → emitted_part (if b then q else record { emitted = q.emitted; computed = v; pairs = delay_list_after kind q.pairs at v }) ≡ q.emitted
    by true = refl
    by false = refl

pub took_only : {U E : Type 0} (kind : DelayKind) (at : ℕ) (v : Value) (i p : ℕ) (t u : Table) (r : Result U E) → i < length t.cells
    → OnOk r (u ≡ changed_cell i (changed_port p (port_took kind at v)) t) → OnErr r (u ≡ t) → OnlyCell i t.cells u.cells × HasShape t u
took_only kind at v i p t u (Ok x) here ok err =
    let f = changed_port p (port_took kind at v) in
    let same = emitted_kept p (port_took kind at v) (cell_at t.cells i).ports (took_emitted kind at v) in
    let P : Table → Type 0 = λ w. OnlyCell i t.cells w.cells × HasShape t w in
    subst P (sym ok) (only_changed i f t.cells here same, record { width = refl; variables = refl; cells = length-changed i f t.cells })
took_only kind at v i p t u (Err e) here ok err =
    let P : Table → Type 0 = λ w. OnlyCell i t.cells w.cells × HasShape t w in
    subst P (sym err) (only_itself i t.cells, record { width = refl; variables = refl; cells = refl })

-- what four given values do to the ports of a cell
pub given_taken : (take : Value → PortState → PortState) (vs : List (Option Value)) (a b c d : Option Value) (ps : List PortState) → length ps ≤ 4 → a ≡ get_or vs 0 None → b ≡ get_or vs 1 None → c ≡ get_or vs 2 None → d ≡ get_or vs 3 None
    → changed_at 3 (taken_at take d) (changed_at 2 (taken_at take c) (changed_at 1 (taken_at take b) (changed_at 0 (taken_at take a) ps))) ≡ taken_by_port take vs ps
given_taken take vs a b c d ps h ea eb ec ed =
    (λ k. changed_at 3 (taken_at take (ed k)) (changed_at 2 (taken_at take (ec k)) (changed_at 1 (taken_at take (eb k)) (changed_at 0 (taken_at take (ea k)) ps)))) ∙ each_taken take vs ps h

-- ---- the first ports alone

-- what holds in any case holds of a refusal
pub if_err : {U E P : Type 0} (r : Result U E) → P → OnErr r P
if_err (Ok x) p = tt
if_err (Err e) p = p

-- past the first values of a list there is none
none_past : (n k : ℕ) (vs : List (Option Value)) → n ≤ k → get_or (take n vs) k None ≡ None
none_past zero k [] h = refl
none_past zero k (v ∷ vs) h = refl
none_past (suc n) k [] h = refl
none_past (suc n) zero (v ∷ vs) h = absurd (omega (arith, h))
none_past (suc n) (suc k) (v ∷ vs) h = none_past n k vs (omega (arith, h))

module _ (give : Value → PortState → PortState) (vs : List (Option Value)) (i : ℕ) (t : Table) where
  pub none_took : (u : Table) → u ≡ t → TookFirst give vs i t u
  none_took u e =
      let same = changed_to_same i (changed_ports (taken_by_port give [])) no_cell t.cells refl in
      record { count = 0; table = e ∙ sym (λ k. record t { cells = same k }) }

  pub none_if_refused : {U E : Type 0} (r : Result U E) (u : Table) → OnErr r (u ≡ t) → OnErr r (TookFirst give vs i t u)
  none_if_refused (Ok x) u h = tt
  none_if_refused (Err e) u h = none_took u h

  first_taken : (n : ℕ) (a b c d : Option Value) → length (cell_at t.cells i).ports ≤ 4
      → a ≡ get_or (take n vs) 0 None → b ≡ get_or (take n vs) 1 None → c ≡ get_or (take n vs) 2 None → d ≡ get_or (take n vs) 3 None
      → changed_port 3 (taken_at give d) (changed_port 2 (taken_at give c) (changed_port 1 (taken_at give b) (changed_port 0 (taken_at give a) (cell_at t.cells i))))
      ≡ changed_ports (taken_by_port give (take n vs)) (cell_at t.cells i)
  first_taken n a b c d few ea eb ec ed =
      ap (λ ps. record (cell_at t.cells i) { ports = ps }) (given_taken give (take n vs) a b c d (cell_at t.cells i).ports few ea eb ec ed)

  -- a value before the first n
  early : (n k : ℕ) (v : Option Value) → k < n → v ≡ get_or vs k None → v ≡ get_or (take n vs) k None
  early n k v lt e = e ∙ sym (get_or-take n vs k None lt)

  late : (n k : ℕ) → n ≤ k → None ≡ get_or (take n vs) k None
  late n k le = sym (none_past n k vs le)

  pub one_took : (a : Option Value) (u : Table) → length (cell_at t.cells i).ports ≤ 4 → a ≡ get_or vs 0 None
      → u ≡ changed_cell i (changed_port 0 (taken_at give a)) t → TookFirst give vs i t u
  one_took a u few ea e =
      record {
        count = 1;
        table = four_changes i (changed_port 0 (taken_at give a)) (changed_port 1 (taken_at give None)) (changed_port 2 (taken_at give None)) (changed_port 3 (taken_at give None))
            (changed_ports (taken_by_port give (take 1 vs))) t u u u u e (sym (none_taken give i 1 u)) (sym (none_taken give i 2 u)) (sym (none_taken give i 3 u))
            (first_taken 1 a None None None few (early 1 0 a (omega arith) ea) (late 1 1 (omega arith)) (late 1 2 (omega arith)) (late 1 3 (omega arith)));
      }

  pub two_took : (a b : Option Value) (u w : Table) → length (cell_at t.cells i).ports ≤ 4 → a ≡ get_or vs 0 None → b ≡ get_or vs 1 None
      → u ≡ changed_cell i (changed_port 0 (taken_at give a)) t → w ≡ changed_cell i (changed_port 1 (taken_at give b)) u → TookFirst give vs i t w
  two_took a b u w few ea eb e f =
      record {
        count = 2;
        table = four_changes i (changed_port 0 (taken_at give a)) (changed_port 1 (taken_at give b)) (changed_port 2 (taken_at give None)) (changed_port 3 (taken_at give None))
            (changed_ports (taken_by_port give (take 2 vs))) t u w w w e f (sym (none_taken give i 2 w)) (sym (none_taken give i 3 w))
            (first_taken 2 a b None None few (early 2 0 a (omega arith) ea) (early 2 1 b (omega arith) eb) (late 2 2 (omega arith)) (late 2 3 (omega arith)));
      }

  pub three_took : (a b c : Option Value) (u w x : Table) → length (cell_at t.cells i).ports ≤ 4 → a ≡ get_or vs 0 None → b ≡ get_or vs 1 None → c ≡ get_or vs 2 None
      → u ≡ changed_cell i (changed_port 0 (taken_at give a)) t → w ≡ changed_cell i (changed_port 1 (taken_at give b)) u → x ≡ changed_cell i (changed_port 2 (taken_at give c)) w → TookFirst give vs i t x
  three_took a b c u w x few ea eb ec e f g =
      record {
        count = 3;
        table = four_changes i (changed_port 0 (taken_at give a)) (changed_port 1 (taken_at give b)) (changed_port 2 (taken_at give c)) (changed_port 3 (taken_at give None))
            (changed_ports (taken_by_port give (take 3 vs))) t u w x x e f g (sym (none_taken give i 3 x))
            (first_taken 3 a b c None few (early 3 0 a (omega arith) ea) (early 3 1 b (omega arith) eb) (early 3 2 c (omega arith) ec) (late 3 3 (omega arith)));
      }
