-- The lines of a cycle's records may stand in a log, where the cycle's values are bounded and its
-- records name leaves and ports that there are. What is known of a letter's records has a clause
-- for each letter (`records_fit`); all else goes by what records there are.
use Rattle.std.proofs.Common.{◌≡◌, ℕ, zero, suc, ◌^◌, ◌≤◌, ◌<◌, Bool, true, Option, Some}
use Rattle.std.proofs.Common.{None, List, [], ◌∷◌, length, take, refl, sym, ◌∙◌, subst, arith}
use Rattle.std.proofs.Common.{rules, get_or}
use Rattle.std.specs.Prelude.{◌&&◌, ◌==◌, not, nat_le, slice_get, unsigned_abs, IfSome}
use Rattle.std.specs.Prelude.{IsSomeAnd, codes}
use Rattle.std.specs.List.{All, list_all, filter_map, cons_option, flat_map}
use Rattle.std.specs.Option.{option_map}
use Rattle.std.proofs.lemmas.Bool.{and_parts}
use Rattle.std.proofs.lemmas.Bool.Decides.{nat_tests}
use Rattle.std.proofs.lemmas.List.Elements.{All-head, All-tail}
use Rattle.std.proofs.lemmas.List.Folds.{list_all-append}
use Rattle.quantity.specs.declared.value.Value.{Value}
use Rattle.quantity.specs.declared.value.Value.TheVariants.{Undefined, Num}
use Rattle.quantity.specs.Roots.{IsBounded}
use Rattle.quantity.specs.Names.{is_name}
use Rattle.quantity.specs.TimeBounds.{IsDelay, IsTime}
use Rattle.cell_grid.specs.Space.{place_of}
use Rattle.model_tree.specs.Tree.{Word, Group, Tree, Leaf, atomic_leaf, cell_leaf, leaves}
use Rattle.model_tree.specs.Pull.{class_ports, cell_ports}
use Rattle.run_model.specs.Run.{PortRecord, StateRecord, Cycle}
use Rattle.run_model.specs.Bounds.{IsBoundedPortRecord, IsBoundedStateRecord, IsBoundedCycle}
use Rattle.run_model.specs.Fitting.{IsFurtherPort, IsInPort, IsStateValue, OfLeaf, NamesItsParts}
use Rattle.run_model.proofs.Basics.{true_false, none_some, some_same, both_are}
use Rattle.text_forms.specs.declared.letter.Letter.{Letter}
use Rattle.text_forms.specs.declared.letter.Letter.TheVariants.{Y, N, X, S}
use Rattle.text_forms.specs.Letters.{all_letters}
use Rattle.text_forms.specs.LogLine.{LogLine, given, moved, is_leaf, has_place, is_letter, is_time}
use Rattle.text_forms.specs.LogLine.{is_value, is_state, is_next, is_line}
use Rattle.text_forms.specs.Lines.{leaf_name, name_at, out_port_name, in_port_name, given_line}
use Rattle.text_forms.specs.Lines.{moved_line, LetterRecords, of_ports, of_moves, records_of}
use Rattle.text_forms.specs.Lines.{lines_of_records, lines_of_letter, cycle_lines}
use Rattle.text_forms.specs.LeafNames.{IsNamed, HasPortValues}
use Rattle.text_forms.proofs.Drawn.{letters_pass}

-- ---- parts of lines

at_place : {X : Type 0} (P : X → Type 0) (xs : List X) (k : ℕ) (x : X) → All P xs
    → slice_get xs k ≡ Some x → P x
at_place P [] k x h e = absurd (none_some e)
at_place P (y ∷ ys) zero x h e = subst P (some_same y x e) (All-head P y ys h)
at_place P (y ∷ ys) (suc k) x h e = at_place P ys k x (All-tail P y ys h) e

value_fits : (v : Value) → IsBounded v → is_value v ≡ true
value_fits Undefined h = refl
value_fits (Num x) h = fits (unsigned_abs x) h
  where
    fits : (n : ℕ) → n ≤ 10 ^ 15 → nat_le n (10 ^ 15) ≡ true
    fits n h = search (rules, nat_tests)

time_fits : (t : ℕ) → IsTime t → is_time t ≡ true
time_fits t h = search (rules, nat_tests)

next_fits : (o : Option ℕ) → IfSome o IsTime → is_next o ≡ true
next_fits None h = refl
next_fits (Some t) h = time_fits t h

name_found : (ws : List Word) (k : ℕ) → list_all is_name ws ≡ true → k < length ws
    → is_name (name_at ws k) ≡ true
name_found [] k h lt = absurd (never k lt)
  where
    never : (k : ℕ) → k < 0 → ⊥
    never k h = omega arith
name_found (w ∷ ws) zero h lt = (and_parts (is_name w) (list_all is_name ws) h).0
name_found (w ∷ ws) (suc k) h lt =
    name_found ws k (and_parts (is_name w) (list_all is_name ws) h).1 (omega arith)

cell_has_place : (g : Group) (first cell : ℕ)
    → has_place (leaf_name (cell_leaf g first cell)) ≡ true
cell_has_place g first cell =
    go g.space.planes (place_of g.space cell).row (place_of g.space cell).column
    (place_of g.space cell).plane
  where
    go : (o : Option ℕ) (a b c : ℕ)
        → not (length (take (elim o [ None ↦ 2 | Some n ↦ 3 ]) (a ∷ b ∷ c ∷ [])) == 0) ≡ true
    go None a b c = refl
    go (Some n) a b c = refl

-- ---- lines of values

-- a leaf that may have lines of the letter, and the name of a port
record Writes (letter : Letter) (l : Leaf) (port : Word) : Type 0 where
  pub may : is_letter letter (leaf_name l) ≡ true
  pub named : is_name port ≡ true

pub record AreKnown (ls : List Leaf) : Type 0 where
  pub named : All IsNamed ls
  pub ported : All HasPortValues ls

given_fits : (letter : Letter) (time : ℕ) (l : Leaf) (port : Word) (v : Value) → IsTime time
    → IsNamed l → Writes letter l port → IsBounded v
    → is_line (given letter time (leaf_name l) port v) ≡ true
given_fits letter time l port v ht named w hv =
    five (is_letter letter (leaf_name l)) (is_time time) (is_leaf (leaf_name l)) (is_name port)
    (is_value v) w.may (time_fits time ht) named.leaf w.named (value_fits v hv)
  where
    five : (a b c d e : Bool) → a ≡ true → b ≡ true → c ≡ true → d ≡ true → e ≡ true
        → (a && b && c && d && e) ≡ true
    five a b c d e ha hb hc hd he = rw (ha, hb, hc, hd, he) refl

-- what the lines of a letter need of a leaf and its port of this number
abbrev MayWrite : Letter → (Leaf → ℕ → Word) → Leaf → ℕ → Type 0
MayWrite letter port l k = IsNamed l → HasPortValues l → Writes letter l (port l k)

-- a record of a value says so of its leaf
abbrev PortSays : Tree → (Leaf → ℕ → Type 0) → PortRecord → Type 0
PortSays t Q r = OfLeaf t r.leaf (λ l. Q l r.port)

-- what follows from what records say
says : (t : Tree) (P Q : Leaf → ℕ → Type 0) → ((l : Leaf) (k : ℕ) → P l k → Q l k)
    → (rs : List PortRecord) → All (PortSays t P) rs → All (PortSays t Q) rs
says t P Q so rs h k d lt = go (slice_get (leaves t) (get_or rs k d).leaf) (h k d lt)
  where
    go : (o : Option Leaf) → IsSomeAnd o (λ l. P l (get_or rs k d).port)
        → IsSomeAnd o (λ l. Q l (get_or rs k d).port)
    go None p = absurd p
    go (Some l) p = so l (get_or rs k d).port p

given_lines : (t : Tree) (time : ℕ) (letter : Letter) (port : Leaf → ℕ → Word) → IsTime time
    → AreKnown (leaves t) → (rs : List PortRecord) → All IsBoundedPortRecord rs
    → All (PortSays t (MayWrite letter port)) rs
    → list_all is_line (filter_map (given_line (leaves t) time letter port) rs) ≡ true
given_lines t time letter port ht known [] hv hq = refl
given_lines t time letter port ht known (r ∷ rs) hv hq =
    go (slice_get (leaves t) r.leaf) refl
    (All-head (PortSays t (MayWrite letter port)) r rs hq)
    (given_lines t time letter port ht known rs (All-tail IsBoundedPortRecord r rs hv)
    (All-tail (PortSays t (MayWrite letter port)) r rs hq))
  where
    rest : List LogLine
    rest = filter_map (given_line (leaves t) time letter port) rs

    go : (o : Option Leaf) → slice_get (leaves t) r.leaf ≡ o
        → IsSomeAnd o (λ l. MayWrite letter port l r.port) → list_all is_line rest ≡ true
        → list_all is_line (cons_option (option_map (λ l. given letter time (leaf_name l) (port l r.port) r.value) o) rest) ≡ true
    go None e q later = later
    go (Some l) e q later =
        let named = at_place IsNamed (leaves t) r.leaf l known.named e in
        let ported = at_place HasPortValues (leaves t) r.leaf l known.ported e in
        both_are (is_line (given letter time (leaf_name l) (port l r.port) r.value))
        (list_all is_line rest)
        (given_fits letter time l (port l r.port) r.value ht named (q named ported)
        (All-head IsBoundedPortRecord r rs hv)) later

writes_y : (l : Leaf) (k : ℕ) → k ≡ 0 → MayWrite Y out_port_name l k
writes_y l k e named ported =
    record { may = refl; named = subst (λ n. is_name (out_port_name l n) ≡ true) (sym e) refl }

writes_n : (l : Leaf) (k : ℕ) → IsFurtherPort l k → MayWrite N out_port_name l k
writes_n (atomic_leaf name class settings) k h named ported = absurd h
writes_n (cell_leaf g first cell) k h named ported =
    record {
      may = cell_has_place g first cell;
      named = name_found (codes "out" ∷ g.ports) k
          (both_are (is_name (codes "out")) (list_all is_name g.ports) refl named.further)
          (below (length g.port_values) (length g.ports) ported h.1);
    }
  where
    below : (n m : ℕ) → n ≡ m → k ≤ n → k < suc m
    below n m e le = let same : k ≤ m = omega arith in search (rules)

writes_x : (l : Leaf) (k : ℕ) → IsInPort l k → MayWrite X in_port_name l k
writes_x (atomic_leaf name class settings) k h named ported =
    record { may = refl; named = name_found (class_ports class) k named.ins h }
writes_x (cell_leaf g first cell) k h named ported =
    record { may = refl; named = name_found (cell_ports g cell) k named.ins h }

-- ---- lines of states

state_fits : (l : Leaf) (o : Option Value) → IsStateValue l o → IfSome o IsBounded
    → is_state (leaf_name l) o ≡ true
state_fits (atomic_leaf name class settings) None h k = refl
state_fits (atomic_leaf name class settings) (Some v) h k = absurd (true_false h)
state_fits (cell_leaf g first cell) None h k = absurd (true_false (sym h))
state_fits (cell_leaf g first cell) (Some v) h k =
    both_are (has_place (leaf_name (cell_leaf g first cell))) (is_value v)
    (cell_has_place g first cell) (value_fits v k)

abbrev StateSays : Tree → StateRecord → Type 0
StateSays t r = OfLeaf t r.leaf (λ l. IsStateValue l r.value)

moved_lines : (t : Tree) (time : ℕ) → IsTime time → AreKnown (leaves t) → (rs : List StateRecord)
    → All IsBoundedStateRecord rs → All (StateSays t) rs
    → list_all is_line (filter_map (moved_line (leaves t) time) rs) ≡ true
moved_lines t time ht known [] hv hq = refl
moved_lines t time ht known (r ∷ rs) hv hq =
    go (slice_get (leaves t) r.leaf) refl (All-head (StateSays t) r rs hq)
    (moved_lines t time ht known rs (All-tail IsBoundedStateRecord r rs hv)
    (All-tail (StateSays t) r rs hq))
  where
    rest : List LogLine
    rest = filter_map (moved_line (leaves t) time) rs

    four : (a b c d : Bool) → a ≡ true → b ≡ true → c ≡ true → d ≡ true → (a && b && c && d) ≡ true
    four a b c d ha hb hc hd = rw (ha, hb, hc, hd) refl

    go : (o : Option Leaf) → slice_get (leaves t) r.leaf ≡ o
        → IsSomeAnd o (λ l. IsStateValue l r.value) → list_all is_line rest ≡ true
        → list_all is_line (cons_option (option_map (λ l. moved time (leaf_name l) r.value r.next) o) rest) ≡ true
    go None e q later = later
    go (Some l) e q later =
        let here = All-head IsBoundedStateRecord r rs hv in
        both_are (is_line (moved time (leaf_name l) r.value r.next)) (list_all is_line rest)
        (four (is_time time) (is_leaf (leaf_name l)) (is_state (leaf_name l) r.value)
        (is_next r.next) (time_fits time ht)
        (at_place IsNamed (leaves t) r.leaf l known.named e).leaf (state_fits l r.value q here.0)
        (next_fits r.next here.1)) later

-- ---- cycles

-- what is known of records that lines of a letter are of
abbrev AreFit : Tree → Letter → LetterRecords → Type 0
AreFit t letter (of_ports port rs) =
    All IsBoundedPortRecord rs × All (PortSays t (MayWrite letter port)) rs
AreFit t letter (of_moves rs) = All IsBoundedStateRecord rs × All (StateSays t) rs

-- the records of each letter
records_fit : (t : Tree) (end : ℕ) (c : Cycle) → IsBoundedCycle end c → NamesItsParts t c
    → (letter : Letter) → AreFit t letter (records_of c letter)
records_fit t end c b n Y =
    (b.y, says t (λ l k. k ≡ 0) (MayWrite Y out_port_name) writes_y c.y n.y)
records_fit t end c b n N =
    (b.n, says t IsFurtherPort (MayWrite N out_port_name) writes_n c.n n.n)
records_fit t end c b n X = (b.x, says t IsInPort (MayWrite X in_port_name) writes_x c.x n.x)
records_fit t end c b n S = (b.s, n.s)

-- their lines
lines_fit : (t : Tree) (time : ℕ) (letter : Letter) → IsTime time → AreKnown (leaves t)
    → (rs : LetterRecords) → AreFit t letter rs
    → list_all is_line (lines_of_records (leaves t) time letter rs) ≡ true
lines_fit t time letter ht known (of_ports port rs) fit =
    given_lines t time letter port ht known rs fit.0 fit.1
lines_fit t time letter ht known (of_moves rs) fit = moved_lines t time ht known rs fit.0 fit.1

cycle_fits : (t : Tree) (end : ℕ) (c : Cycle) → IsDelay end → AreKnown (leaves t)
    → IsBoundedCycle end c → NamesItsParts t c → list_all is_line (cycle_lines (leaves t) c) ≡ true
cycle_fits t end c early known b n =
    letters_pass is_line (lines_of_letter (leaves t) c) each all_letters
  where
    within : (time : ℕ) → time ≤ end → IsTime time
    within time le = omega arith

    each : (letter : Letter) → list_all is_line (lines_of_letter (leaves t) c letter) ≡ true
    each letter =
        lines_fit t c.time letter (within c.time b.time) known (records_of c letter)
        (records_fit t end c b n letter)

pub cycles_fit : (t : Tree) (end : ℕ) (cs : List Cycle) → IsDelay end → AreKnown (leaves t)
    → All (IsBoundedCycle end) cs → All (NamesItsParts t) cs
    → list_all is_line (flat_map (cycle_lines (leaves t)) cs) ≡ true
cycles_fit t end [] early known b n = refl
cycles_fit t end (c ∷ cs) early known b n =
    list_all-append is_line (cycle_lines (leaves t) c) (flat_map (cycle_lines (leaves t)) cs)
    ∙ both_are (list_all is_line (cycle_lines (leaves t) c))
    (list_all is_line (flat_map (cycle_lines (leaves t)) cs))
    (cycle_fits t end c early known (All-head (IsBoundedCycle end) c cs b)
    (All-head (NamesItsParts t) c cs n))
    (cycles_fit t end cs early known (All-tail (IsBoundedCycle end) c cs b)
    (All-tail (NamesItsParts t) c cs n))
