-- A state that is written is read.
use Rattle.std.proofs.Common.{◌≡◌, ℕ, suc, ◌+◌, ◌<◌, ◌≤◌, ◌^◌, ◌==◌, ◌&&◌, not, Bool, true, false, cond, Option, Some, None, List, [], ◌∷◌, ◌++◌, refl, sym, ap, ◌∙◌, arith, length, map, drop, codes, nat_lt, nat_le, decimal, Result, Ok, Err}
use Rattle.std.specs.Prelude.{ℤ, pos, negsuc, IsTrue}
use Rattle.std.specs.Fmt.{signed_decimal}
use Rattle.std.specs.List.{slice_split, list_all, flat_map, AllZip}
use Rattle.std.proofs.lemmas.List.{append_assoc}
use Rattle.std.proofs.lemmas.List.Splits.{slice_split_at}
use Rattle.std.proofs.lemmas.List.Folds.{list_all-append}
use Rattle.std.proofs.lemmas.Bool.Decides.{nat_tests}
use Rattle.std.proofs.lemmas.Fmt.{decimal_is_IsNumeral_wide}
use Rattle.std.specs.Str.Parse.{digits_value}
use Rattle.quantity.specs.declared.value.Value.{Value}
use Rattle.quantity.specs.Bytes.{Bytes}
use Rattle.quantity.specs.Written.{is_digit, number_at_most, number_up_to, for_some}
use Rattle.quantity.specs.Times.{time_text, read_time}
use Rattle.quantity.specs.ValueTexts.{text5, guessed_value, signed_in, positive, negative}
use Rattle.model_tree.specs.Tree.{Tree, Leaf, atomic_leaf, cell_leaf, leaves}
use Rattle.run_model.specs.CellStep.{PortState}
use Rattle.run_model.specs.Cycle.{LeafState, box_state, cell_state}
use Rattle.text_forms.specs.declared.refusal.StateRefusal.{StateRefusal}
use Rattle.text_forms.specs.declared.refusal.StateRefusal.TheVariants.{BadStateLine, EndBefore, TooLarge}
use Rattle.text_forms.specs.LogLine.{leaf_name_text, is_leaf, is_value}
use Rattle.text_forms.specs.Lines.{leaf_name, line_with_end}
use Rattle.text_forms.specs.StateText.{pair_words, port_words, leaf_words, leaf_line, at_line, leaf_lines, state_lines, text_of_state}
use Rattle.text_forms.specs.LeafStates.{rises, is_port_state, is_leaf_state}
use Rattle.text_forms.specs.StateOfLeaf.{has_values_in_range, is_box_number, IsStateOf, has_names}
use Rattle.text_forms.specs.StateOf.{all_in, pairs_in, port_state_in, ports_in, leaf_state_in, if_leaf_state, line_words, read_leaf, Saved, next_line, just, leaves_in, read_at, state_at, state_of}
use Rattle.quantity.proofs.DigitLemmas.{both}
use Rattle.quantity.proofs.Written.{has_no, none_at, and_true, split_joined, all_digits, no_digit, written, at_most, time_read}
use Rattle.text_forms.proofs.WrittenLines.{Sep, blank, join_no, time_no, value_no, name_no, leaf_no, value_back}
use Rattle.text_forms.proofs.Drawn.{line_end}

-- ---- numbers

decimal_digits : (n : ℕ) → n < 10 ^ 64 → list_all is_digit (decimal n) ≡ true
decimal_digits n lt = all_digits (decimal n) (decimal_is_IsNumeral_wide n lt).0.1

some_digit : (ds : Bytes) → 0 < length ds → nat_lt 0 (length ds) ≡ true
some_digit ds h = grind (arith, nat_tests)

decimal_some : (n : ℕ) → n < 10 ^ 64 → nat_lt 0 (length (decimal n)) ≡ true
decimal_some n lt = some_digit (decimal n) (decimal_is_IsNumeral_wide n lt).0.0

number_back : (most n : ℕ) → n ≤ most → n < 10 ^ 64 → number_up_to most (decimal n) ≡ Some n
number_back most n le lt =
    ap (λ b. cond b (number_at_most most (digits_value 10 (decimal n))) None) (and_true _ _ (decimal_digits n lt) (decimal_some n lt))
    ∙ ap (number_at_most most) (decimal_is_IsNumeral_wide n lt).1 ∙ at_most most n le

no_minus : (c : ℕ) → is_digit c ≡ true → (c == 45) ≡ false
no_minus c e = grind (arith, nat_tests)

signed_digits : (most : ℕ) (ds : Bytes) → list_all is_digit ds ≡ true → nat_lt 0 (length ds) ≡ true → signed_in most ds ≡ positive (number_up_to most ds)
signed_digits most [] h l = absurd cc
signed_digits most (d ∷ ds) h l = ap (λ b. cond b (negative (number_up_to most ds)) (positive (number_up_to most (d ∷ ds)))) (no_minus d (both (is_digit d) (list_all is_digit ds) h).0)

word_back : (w : ℤ) → is_box_number w ≡ true → signed_in (10 ^ 17) (signed_decimal w) ≡ Some w
word_back (pos n) h =
    let le : n ≤ 10 ^ 17 = grind (arith, nat_tests) in
    let lt : n < 10 ^ 64 = omega arith in
    signed_digits (10 ^ 17) (decimal n) (decimal_digits n lt) (decimal_some n lt) ∙ ap positive (number_back (10 ^ 17) n le lt)
word_back (negsuc n) h =
    let le : suc n ≤ 10 ^ 17 = grind (arith, nat_tests) in
    let lt : suc n < 10 ^ 64 = omega arith in
    ap negative (number_back (10 ^ 17) (suc n) le lt)

-- ---- lists of words

module _ {A : Type 0} (write : A → Bytes) (read : Bytes → Option A) (fits : A → Bool) (back : (x : A) → fits x ≡ true → read (write x) ≡ Some x) where
  all_back : (xs : List A) → list_all fits xs ≡ true → all_in read (map write xs) ≡ Some xs
  all_back [] h = refl
  all_back (x ∷ xs) h =
      let k = both (fits x) (list_all fits xs) h in
      ap (λ o. for_some o (λ y. for_some (all_in read (map write xs)) (λ ys. Some (y ∷ ys)))) (back x k.0)
      ∙ ap (λ o. for_some o (λ ys. Some (x ∷ ys))) (all_back xs k.1)

abbrev pair_fits : ℕ × Value → Bool
pair_fits p = nat_le p.0 719999998 && is_value p.1

time_small : (n : ℕ) → nat_le n 719999998 ≡ true → (n ≤ 719999998) × (n < 10 ^ 64)
time_small n h = let le : n ≤ 719999998 = grind (arith, nat_tests) in (le, omega arith)

pairs_back : (ps : List (ℕ × Value)) (rest : List Bytes) → list_all pair_fits ps ≡ true → pairs_in (length ps) (flat_map pair_words ps ++ rest) ≡ Some (ps, rest)
pairs_back [] rest h = refl
pairs_back (p ∷ ps) rest h =
    let k = both (pair_fits p) (list_all pair_fits ps) h in
    let f = both (nat_le p.0 719999998) (is_value p.1) k.0 in
    let t = time_small p.0 f.0 in
    let words = flat_map pair_words ps ++ rest in
    ap (λ o. for_some o (λ t. for_some (guessed_value (text5 p.1)) (λ v. for_some (pairs_in (length ps) words) (λ (ps, rest). Some ((t, v) ∷ ps, rest))))) (number_back 719999998 p.0 t.0 t.1)
    ∙ ap (λ o. for_some o (λ v. for_some (pairs_in (length ps) words) (λ (ps, rest). Some ((p.0, v) ∷ ps, rest)))) (value_back p.1 f.1)
    ∙ ap (λ o. for_some o (λ (ps, rest). Some (p ∷ ps, rest))) (pairs_back ps rest k.1)

-- ---- ports

abbrev port_fits : PortState → Bool
port_fits p = is_value p.emitted && is_value p.computed && list_all pair_fits p.pairs && nat_le (length p.pairs) (10 ^ 9)

count_small : (n : ℕ) → nat_le n (10 ^ 9) ≡ true → (n ≤ 10 ^ 9) × (n < 10 ^ 64)
count_small n h = let le : n ≤ 10 ^ 9 = grind (arith, nat_tests) in (le, omega arith)

port_back : (p : PortState) (rest : List Bytes) → port_fits p ≡ true → port_state_in (port_words p ++ rest) ≡ Some (p, rest)
port_back p rest h =
    let a = both (is_value p.emitted && is_value p.computed && list_all pair_fits p.pairs) (nat_le (length p.pairs) (10 ^ 9)) h in
    let b = both (is_value p.emitted && is_value p.computed) (list_all pair_fits p.pairs) a.0 in
    let c = both (is_value p.emitted) (is_value p.computed) b.0 in
    let n = count_small (length p.pairs) a.1 in
    let words = flat_map pair_words p.pairs ++ rest in
    ap (λ o. for_some o (λ e. for_some (guessed_value (text5 p.computed)) (λ s. for_some (number_up_to (10 ^ 9) (decimal (length p.pairs))) (λ n. for_some (pairs_in n words) (λ (ps, rest). Some (record { emitted = e; computed = s; pairs = ps }, rest)))))) (value_back p.emitted c.0)
    ∙ ap (λ o. for_some o (λ s. for_some (number_up_to (10 ^ 9) (decimal (length p.pairs))) (λ n. for_some (pairs_in n words) (λ (ps, rest). Some (record { emitted = p.emitted; computed = s; pairs = ps }, rest))))) (value_back p.computed c.1)
    ∙ ap (λ o. for_some o (λ n. for_some (pairs_in n words) (λ (ps, rest). Some (record { emitted = p.emitted; computed = p.computed; pairs = ps }, rest)))) (number_back (10 ^ 9) (length p.pairs) n.0 n.1)
    ∙ ap (λ o. for_some o (λ (ps, rest). Some (record { emitted = p.emitted; computed = p.computed; pairs = ps }, rest))) (pairs_back p.pairs rest b.1)

ports_back : (ps : List PortState) (rest : List Bytes) → list_all port_fits ps ≡ true → ports_in (length ps) (flat_map port_words ps ++ rest) ≡ Some (ps, rest)
ports_back [] rest h = refl
ports_back (p ∷ ps) rest h =
    let k = both (port_fits p) (list_all port_fits ps) h in
    ap (λ ws. for_some (port_state_in ws) (λ (p, rest). for_some (ports_in (length ps) rest) (λ (ps, rest). Some (p ∷ ps, rest)))) (append_assoc (port_words p) (flat_map port_words ps) rest)
    ∙ ap (λ o. for_some o (λ (p, rest). for_some (ports_in (length ps) rest) (λ (ps, rest). Some (p ∷ ps, rest)))) (port_back p (flat_map port_words ps ++ rest) k.0)
    ∙ ap (λ o. for_some o (λ (ps, rest). Some (p ∷ ps, rest))) (ports_back ps rest k.1)

-- ---- from what a state is

-- times that rise are few
few : (before : ℕ) (ps : List (ℕ × Value)) → rises before ps ≡ true → before ≤ 719999998 → before + length ps ≤ 719999998
few before [] h le = omega arith
few before (p ∷ ps) h le =
    let k = both (nat_lt before p.0 && nat_le p.0 719999998) (rises p.0 ps) h in
    let m = both (nat_lt before p.0) (nat_le p.0 719999998) k.0 in
    let t = time_small p.0 m.1 in
    more before p.0 (length ps) m.0 (few p.0 ps k.1 t.0)
  where
    more : (a b n : ℕ) → nat_lt a b ≡ true → b + n ≤ 719999998 → a + suc n ≤ 719999998
    more a b n h e = grind (arith, nat_tests)

times_fit : (before : ℕ) (ps : List (ℕ × Value)) → rises before ps ≡ true → list_all (λ (q : ℕ × Value). is_value q.1) ps ≡ true → list_all pair_fits ps ≡ true
times_fit before [] h v = refl
times_fit before (p ∷ ps) h v =
    let k = both (nat_lt before p.0 && nat_le p.0 719999998) (rises p.0 ps) h in
    let m = both (nat_lt before p.0) (nat_le p.0 719999998) k.0 in
    let w = both (is_value p.1) (list_all (λ (q : ℕ × Value). is_value q.1) ps) v in
    and_true _ _ (and_true _ _ m.1 w.0) (times_fit p.0 ps k.1 w.1)

few_count : (t n : ℕ) → t + n ≤ 719999998 → nat_le n (10 ^ 9) ≡ true
few_count t n h = grind (arith, nat_tests)

ports_fit : (t : ℕ) (ps : List PortState) → t ≤ 719999998 → list_all (is_port_state t) ps ≡ true → list_all has_values_in_range ps ≡ true → list_all port_fits ps ≡ true
ports_fit t [] le h v = refl
ports_fit t (p ∷ ps) le h v =
    let k = both (is_port_state t p) (list_all (is_port_state t) ps) h in
    let w = both (has_values_in_range p) (list_all has_values_in_range ps) v in
    let b = both (is_value p.emitted && is_value p.computed) (list_all (λ (q : ℕ × Value). is_value q.1) p.pairs) w.0 in
    and_true _ _ (and_true _ _ (and_true _ _ b.0 (times_fit t p.pairs k.0 b.1)) (few_count t (length p.pairs) (few t p.pairs k.0 le))) (ports_fit t ps le k.1 w.1)

-- ---- bytes that stand in no word

decimal_no : (c : ℕ) → Sep c → (n : ℕ) → n < 10 ^ 64 → has_no c (decimal n) ≡ true
decimal_no c s n lt = no_digit c s.digit (decimal n) (decimal_digits n lt)

words_no : (c : ℕ) → Sep c → (ws : List ℤ) → list_all is_box_number ws ≡ true → list_all (has_no c) (map signed_decimal ws) ≡ true
words_no c s [] h = refl
words_no c s (w ∷ ws) h = let k = both (is_box_number w) (list_all is_box_number ws) h in and_true _ _ (here w k.0) (words_no c s ws k.1)
  where
    here : (w : ℤ) → is_box_number w ≡ true → has_no c (signed_decimal w) ≡ true
    here (pos n) h = let le : n ≤ 10 ^ 17 = grind (arith, nat_tests) in decimal_no c s n (omega arith)
    here (negsuc n) h = let le : suc n ≤ 10 ^ 17 = grind (arith, nat_tests) in and_true _ _ (ap not s.minus) (decimal_no c s (suc n) (omega arith))

values_no : (c : ℕ) → Sep c → (vs : List Value) → list_all is_value vs ≡ true → list_all (has_no c) (map text5 vs) ≡ true
values_no c s [] h = refl
values_no c s (v ∷ vs) h = let k = both (is_value v) (list_all is_value vs) h in and_true _ _ (value_no c s v k.0) (values_no c s vs k.1)

pairs_no : (c : ℕ) → Sep c → (ps : List (ℕ × Value)) → list_all pair_fits ps ≡ true → list_all (has_no c) (flat_map pair_words ps) ≡ true
pairs_no c s [] h = refl
pairs_no c s (p ∷ ps) h =
    let k = both (pair_fits p) (list_all pair_fits ps) h in
    let f = both (nat_le p.0 719999998) (is_value p.1) k.0 in
    and_true _ _ (decimal_no c s p.0 (time_small p.0 f.0).1) (and_true _ _ (value_no c s p.1 f.1) (pairs_no c s ps k.1))

port_no : (c : ℕ) → Sep c → (p : PortState) → port_fits p ≡ true → list_all (has_no c) (port_words p) ≡ true
port_no c s p h =
    let a = both (is_value p.emitted && is_value p.computed && list_all pair_fits p.pairs) (nat_le (length p.pairs) (10 ^ 9)) h in
    let b = both (is_value p.emitted && is_value p.computed) (list_all pair_fits p.pairs) a.0 in
    let d = both (is_value p.emitted) (is_value p.computed) b.0 in
    and_true _ _ (value_no c s p.emitted d.0)
    (and_true _ _ (value_no c s p.computed d.1) (and_true _ _ (decimal_no c s (length p.pairs) (count_small (length p.pairs) a.1).1) (pairs_no c s p.pairs b.1)))

ports_no : (c : ℕ) → Sep c → (ps : List PortState) → list_all port_fits ps ≡ true → list_all (has_no c) (flat_map port_words ps) ≡ true
ports_no c s [] h = refl
ports_no c s (p ∷ ps) h =
    let k = both (port_fits p) (list_all port_fits ps) h in
    list_all-append (has_no c) (port_words p) (flat_map port_words ps) ∙ and_true _ _ (port_no c s p k.0) (ports_no c s ps k.1)

-- ---- a leaf

-- what holds of a state that is read back
abbrev LeafFits : Leaf → LeafState → Type 0
LeafFits (atomic_leaf name class settings) (box_state b) =
    (b.kind ≡ class) × (b.settings ≡ settings) × (list_all is_box_number b.state ≡ true)
LeafFits (cell_leaf g first cell) (cell_state c) =
    (length c.ports ≡ suc (length g.ports)) × (list_all port_fits c.ports ≡ true) × (list_all is_value c.variables ≡ true)
LeafFits l s = ⊥

same_count : (m n : ℕ) → (m == n) ≡ true → m ≡ n
same_count m n h = grind (arith, nat_tests)

leaf_fits : (t : ℕ) (l : Leaf) (s : LeafState) → t ≤ 719999998 → IsStateOf t l s → LeafFits l s
leaf_fits t (atomic_leaf name class settings) (box_state b) le h = (h.0, h.1, h.3)
leaf_fits t (atomic_leaf name class settings) (cell_state c) le h = absurd h
leaf_fits t (cell_leaf g first cell) (box_state b) le h = absurd h
leaf_fits t (cell_leaf g first cell) (cell_state c) le h =
    let k = both (list_all (is_port_state t) c.ports && (length c.ports == suc (length g.ports))) (length c.variables == length g.variables) h.0 in
    let m = both (list_all (is_port_state t) c.ports) (length c.ports == suc (length g.ports)) k.0 in
    (same_count (length c.ports) (suc (length g.ports)) m.1, ports_fit t c.ports le m.0 h.1, h.2)

leaf_holds : (t : ℕ) (l : Leaf) (s : LeafState) → IsStateOf t l s → is_leaf_state t l s ≡ true
leaf_holds t (atomic_leaf name class settings) (box_state b) h = h.2
leaf_holds t (atomic_leaf name class settings) (cell_state c) h = absurd h
leaf_holds t (cell_leaf g first cell) (box_state b) h = absurd h
leaf_holds t (cell_leaf g first cell) (cell_state c) h = h.0

leaf_words_no : (c : ℕ) → Sep c → (l : Leaf) (s : LeafState) → is_leaf (leaf_name l) ≡ true → LeafFits l s → list_all (has_no c) (leaf_words l s) ≡ true
leaf_words_no c s (atomic_leaf name class settings) (box_state b) named f =
    and_true _ _ (name_no c s.name (codes "box") refl) (and_true _ _ (leaf_no c s (leaf_name (atomic_leaf name class settings)) named) (words_no c s b.state f.2))
leaf_words_no c s (atomic_leaf name class settings) (cell_state x) named f = absurd f
leaf_words_no c s (cell_leaf g first cell) (box_state b) named f = absurd f
leaf_words_no c s (cell_leaf g first cell) (cell_state x) named f =
    and_true _ _ (name_no c s.name (codes "cell") refl)
    (and_true _ _ (leaf_no c s (leaf_name (cell_leaf g first cell)) named)
    (list_all-append (has_no c) (flat_map port_words x.ports) (map text5 x.variables) ∙ and_true _ _ (ports_no c s x.ports f.1) (values_no c s x.variables f.2)))

-- what is read of the words after the leaf's name
leaf_guess : (l : Leaf) (s : LeafState) → LeafFits l s → leaf_state_in l (drop 2 (leaf_words l s)) ≡ Some s
leaf_guess (atomic_leaf name class settings) (box_state b) f =
    ap (λ o. for_some o (λ words. Some (box_state (record { kind = class; settings = settings; state = words })))) (all_back signed_decimal (signed_in (10 ^ 17)) is_box_number word_back b.state f.2)
    ∙ (λ i. Some (box_state (record { kind = sym f.0 i; settings = sym f.1 i; state = b.state })))
leaf_guess (atomic_leaf name class settings) (cell_state c) f = absurd f
leaf_guess (cell_leaf g first cell) (box_state b) f = absurd f
leaf_guess (cell_leaf g first cell) (cell_state c) f =
    let words = flat_map port_words c.ports ++ map text5 c.variables in
    ap (λ n. for_some (ports_in n words) (λ (ports, rest). for_some (all_in guessed_value rest) (λ xs. Some (cell_state (record { ports = ports; variables = xs }))))) (sym f.0)
    ∙ ap (λ o. for_some o (λ (ports, rest). for_some (all_in guessed_value rest) (λ xs. Some (cell_state (record { ports = ports; variables = xs }))))) (ports_back c.ports (map text5 c.variables) f.1)
    ∙ ap (λ o. for_some o (λ xs. Some (cell_state (record { ports = c.ports; variables = xs })))) (all_back text5 guessed_value is_value value_back c.variables f.2)

words_back : (l : Leaf) (s : LeafState) → list_all (has_no 32) (leaf_words l s) ≡ true → line_words (leaf_line l s) ≡ leaf_words l s
words_back l (box_state b) h = split_joined 32 (codes "box") (leaf_name_text (leaf_name l) ∷ map signed_decimal b.state) h
words_back l (cell_state c) h = split_joined 32 (codes "cell") (leaf_name_text (leaf_name l) ∷ flat_map port_words c.ports ++ map text5 c.variables) h

leaf_back : (t : ℕ) (l : Leaf) (s : LeafState) → t ≤ 719999998 → is_leaf (leaf_name l) ≡ true → IsStateOf t l s → read_leaf t l (leaf_line l s) ≡ Some s
leaf_back t l s le named h =
    let f = leaf_fits t l s le h in
    written (leaf_line l) (if_leaf_state t l (leaf_state_in l (drop 2 (line_words (leaf_line l s))))) s
    (ap (λ ws. if_leaf_state t l (leaf_state_in l (drop 2 ws))) (words_back l s (leaf_words_no 32 blank l s named f))
    ∙ ap (if_leaf_state t l) (leaf_guess l s f) ∙ ap (λ b. cond b (Some s) None) (leaf_holds t l s h))

leaf_line_no : (t : ℕ) (l : Leaf) (s : LeafState) → t ≤ 719999998 → is_leaf (leaf_name l) ≡ true → IsStateOf t l s → has_no 10 (leaf_line l s) ≡ true
leaf_line_no t l s le named h = join_no 10 32 refl (leaf_words l s) (leaf_words_no 10 line_end l s named (leaf_fits t l s le h))

-- ---- line after line

module _ {A B : Type 0} (n : ℕ) (read : Bytes → Option A) (go : A → List Bytes → Result B StateRefusal) where
  taken_on : (line : Bytes) (ps : List Bytes) (x : A) → read line ≡ Some x → next_line n read (line ∷ ps ++ [] ∷ []) go ≡ go x (ps ++ [] ∷ [])
  taken_on line [] x e = ap (λ o. elim o as (λ y. Result B StateRefusal) [ None ↦ Err (BadStateLine n) | Some x ↦ go x ([] ∷ []) ]) e
  taken_on line (p ∷ ps) x e = ap (λ o. elim o as (λ y. Result B StateRefusal) [ None ↦ Err (BadStateLine n) | Some x ↦ go x (p ∷ ps ++ [] ∷ []) ]) e

leaves_back : (n t : ℕ) (ls : List Leaf) (ss : List LeafState) → t ≤ 719999998 → list_all (λ l. is_leaf (leaf_name l)) ls ≡ true → AllZip (IsStateOf t) ls ss → leaves_in n t ls (leaf_lines ls ss ++ [] ∷ []) ≡ Ok ss
leaves_back n t [] [] le named h = refl
leaves_back n t [] (s ∷ ss) le named h = absurd h
leaves_back n t (l ∷ ls) [] le named h = absurd h
leaves_back n t (l ∷ ls) (s ∷ ss) le named h =
    let k = both (is_leaf (leaf_name l)) (list_all (λ l. is_leaf (leaf_name l)) ls) named in
    taken_on n (read_leaf t l) (λ s rest. elim (leaves_in (n + 1) t ls rest) [ Err e ↦ Err e | Ok ss ↦ Ok (s ∷ ss) ]) (leaf_line l s) (leaf_lines ls ss) s (leaf_back t l s le k.0 h.0)
    ∙ ap (λ r. elim r as (λ x. Result (List LeafState) StateRefusal) [ Err e ↦ Err e | Ok ss ↦ Ok (s ∷ ss) ]) (leaves_back (n + 1) t ls ss le k.1 h.1)

lines_no : (t : ℕ) (ls : List Leaf) (ss : List LeafState) → t ≤ 719999998 → list_all (λ l. is_leaf (leaf_name l)) ls ≡ true → AllZip (IsStateOf t) ls ss → list_all (has_no 10) (leaf_lines ls ss) ≡ true
lines_no t [] [] le named h = refl
lines_no t [] (s ∷ ss) le named h = absurd h
lines_no t (l ∷ ls) [] le named h = absurd h
lines_no t (l ∷ ls) (s ∷ ss) le named h =
    let k = both (is_leaf (leaf_name l)) (list_all (λ l. is_leaf (leaf_name l)) ls) named in
    and_true _ _ (leaf_line_no t l s le k.0 h.0) (lines_no t ls ss le k.1 h.1)

cut_ended : (ls : List Bytes) → list_all (has_no 10) ls ≡ true → slice_split (λ c. c == 10) (flat_map line_with_end ls) ≡ ls ++ [] ∷ []
cut_ended [] h = refl
cut_ended (l ∷ ls) h =
    let k = both (has_no 10 l) (list_all (has_no 10) ls) h in
    ap (slice_split (λ c. c == 10)) (append_assoc l (10 ∷ []) (flat_map line_with_end ls))
    ∙ slice_split_at (λ c. c == 10) l 10 (flat_map line_with_end ls) (none_at 10 l k.0) refl ∙ ap (λ ps. l ∷ ps) (cut_ended ls k.1)

-- ---- the whole text

at_back : (t : ℕ) → t ≤ 359999999 → read_at (at_line t) ≡ Some t
at_back t le =
    let fits : t ≤ 719999998 = omega arith in
    let last : nat_le t 359999999 ≡ true = grind (arith, nat_tests) in
    written at_line (for_some (read_time (time_text t)) (λ t. cond (nat_le t 359999999) (Some t) None)) t
    (ap (λ o. for_some o (λ t. cond (nat_le t 359999999) (Some t) None)) (time_read t fits) ∙ ap (λ b. cond b (Some t) None) last)

at_line_no : (t : ℕ) → t ≤ 719999998 → has_no 10 (at_line t) ≡ true
at_line_no t le = list_all-append (λ x. not (x == 10)) (codes "at ") (time_text t) ∙ and_true _ _ refl (time_no 10 line_end t le)

in_size : (n : ℕ) → n ≤ 268435456 → nat_lt 268435456 n ≡ false
in_size n h = grind (arith, nat_tests)

in_time : (t end : ℕ) → t ≤ end → nat_lt end t ≡ false
in_time t end h = grind (arith, nat_tests)

abbrev when_cut : Tree → ℕ → List Bytes → Result Saved StateRefusal
when_cut tree end parts = next_line 1 (just (codes "state 1")) parts (λ first rest. next_line 2 read_at rest (λ t rest. state_at end t (leaves tree) rest))

pub state_read : (tree : Tree) (t end : ℕ) (states : List LeafState) → IsTrue (has_names tree) → t ≤ end → end ≤ 359999999 → AllZip (IsStateOf t) (leaves tree) states → length (text_of_state tree t states) ≤ 268435456
    → state_of (text_of_state tree t states) tree end ≡ Ok (record { time = t; states = states })
state_read tree t end states named le last h size =
    let ls = leaves tree in
    let at_end : t ≤ 359999999 = omega arith in
    let fits : t ≤ 719999998 = omega arith in
    let lines = leaf_lines ls states in
    ap (λ b. cond b (Err (TooLarge 0)) (when_cut tree end (slice_split (λ c. c == 10) (text_of_state tree t states)))) (in_size (length (text_of_state tree t states)) size)
    ∙ ap (when_cut tree end) (cut_ended (state_lines t ls states) (and_true _ _ refl (and_true _ _ (at_line_no t fits) (lines_no t ls states fits named h))))
    ∙ taken_on 2 read_at (λ t rest. state_at end t ls rest) (at_line t) lines t (at_back t at_end)
    ∙ ap (λ b. cond b (Err (EndBefore 2)) (elim (leaves_in 3 t ls (lines ++ [] ∷ [])) as (λ x. Result Saved StateRefusal) [ Err e ↦ Err e | Ok ss ↦ Ok (record { time = t; states = ss }) ])) (in_time t end le)
    ∙ ap (λ r. elim r as (λ x. Result Saved StateRefusal) [ Err e ↦ Err e | Ok ss ↦ Ok (record { time = t; states = ss }) ]) (leaves_back 3 t ls states fits named h)
