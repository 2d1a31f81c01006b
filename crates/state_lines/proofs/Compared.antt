-- The line of a leaf: a state that is read of its words, and its own line compared with it.
use Rattle.std.proofs.Common.{◌≡◌, ℕ, suc, Bool, true, false, cond, Option, Some, None, List, []}
use Rattle.std.proofs.Common.{◌∷◌, refl, sym, ap, ◌∙◌, length, drop, ◌^◌, ◌&&◌}
use Rattle.std.specs.Prelude.{ℤ}
use Rattle.std.specs.Option.{option_map}
use Rattle.std.specs.Str.{bytes_eq}
use Rattle.quantity.specs.declared.value.Value.{Value}
use Rattle.quantity.specs.Bytes.{Bytes}
use Rattle.quantity.specs.ValueTexts.{guessed_value, signed_in}
use Rattle.quantity.specs.Written.{for_some, if_written}
use Rattle.atomic_face.specs.declared.class.Class.{Class}
use Rattle.atomic_face.specs.BoxStates.{is_box_state}
use Rattle.atomic_face.specs.Classes.{next_of}
use Rattle.model_tree.specs.Tree.{Leaf, Group, atomic_leaf, cell_leaf}
use Rattle.run_model.specs.CellStep.{PortState, CellState}
use Rattle.run_model.specs.Cycle.{LeafState, box_state, cell_state}
use Rattle.text_forms.specs.LeafStates.{is_later}
use Rattle.text_forms.specs.StateText.{leaf_line}
use Rattle.text_forms.specs.StateOf.{all_in, ports_in, if_leaf_state, line_words, read_leaf}
use Rattle.state_lines.specs.Left.{cell_in}
use Rattle.state_lines.specs.LeafLines.{box_in, box_line, has_numbers, IsCellWith}

-- two words less
pub two_less : {A : Type 0} (xs : List A) → drop 1 (drop 1 xs) ≡ drop 2 xs
two_less [] = refl
two_less (x ∷ []) = refl
two_less (x ∷ y ∷ xs) = refl

abbrev state_by : Option (List PortState × List Bytes) → Option LeafState
state_by o = for_some {B = LeafState} o (λ (ports, rest). for_some {B =
    LeafState} (all_in guessed_value rest)
    (λ xs. Some (cell_state (record { ports = ports; variables = xs }))))

abbrev cell_by : Option (List PortState × List Bytes) → Option CellState
cell_by o = for_some {B = CellState} o (λ (ports, rest). for_some {B =
    CellState} (all_in guessed_value rest) (λ xs. Some (record { ports = ports; variables = xs })))

by_values : (ports : List PortState) (o : Option (List Value))
    → for_some {B = LeafState} o
    (λ xs. Some (cell_state (record { ports = ports; variables = xs })))
    ≡ option_map cell_state (for_some {B =
    CellState} o (λ xs. Some (record { ports = ports; variables = xs })))
by_values ports None = refl
by_values ports (Some xs) = refl

by_ports : (o : Option (List PortState × List Bytes))
    → state_by o ≡ option_map cell_state (cell_by o)
by_ports None = refl
by_ports (Some p) = by_values p.0 (all_in guessed_value p.1)

-- the state that the words give, if it is written so
abbrev judged : ℕ → Leaf → Bytes → Option CellState → Option LeafState
judged t l line o = if_written (leaf_line l) line (if_leaf_state t l (option_map cell_state o))

read_is : (t : ℕ) (g : Group) (first cell : ℕ) (line : Bytes) (o : Option CellState)
    → cell_in (suc (length g.ports)) (drop 2 (line_words line)) ≡ o
    → read_leaf t (cell_leaf g first cell) line ≡ judged t (cell_leaf g first cell) line o
read_is t g first cell line o e =
    ap (λ s. if_written (leaf_line (cell_leaf g first cell)) line
    (if_leaf_state t (cell_leaf g first cell) s))
    (by_ports (ports_in (suc (length g.ports)) (drop 2 (line_words line)))
    ∙ ap (option_map cell_state) e)

pub no_words : (t p v : ℕ) (l : Leaf) (line : Bytes) → IsCellWith p v l
    → cell_in p (drop 2 (line_words line)) ≡ None → read_leaf t l line ≡ None
no_words t p v (atomic_leaf name class settings) line h e = absurd h
no_words t p v (cell_leaf g first cell) line h e =
    read_is t g first cell line None (ap (λ n. cell_in n (drop 2 (line_words line))) (sym h.0) ∙ e)

-- whether it is a state, and written so
abbrev told : Leaf → Bytes → CellState → Bool → Option LeafState
told l line c b = if_written (leaf_line l) line (cond b (Some (cell_state c)) None)

with_numbers : (t p v : ℕ) (g : Group) (first cell : ℕ) (line : Bytes) (c : CellState) (b : Bool)
    → p ≡ suc (length g.ports) → v ≡ length g.variables → cell_in p (drop 2 (line_words line))
    ≡ Some c → has_numbers t p v c ≡ b
    → read_leaf t (cell_leaf g first cell) line ≡ told (cell_leaf g first cell) line c b
with_numbers t p v g first cell line c b ep ev e f =
    read_is t g first cell line (Some c) (ap (λ n. cell_in n (drop 2 (line_words line))) (sym ep) ∙ e)
    ∙ ap (told (cell_leaf g first cell) line c) (ap (λ n. has_numbers t n (length g.variables) c)
    (sym ep) ∙ ap (λ n. has_numbers t p n c) (sym ev) ∙ f)

pub no_state : (t p v : ℕ) (l : Leaf) (line : Bytes) (c : CellState) → IsCellWith p v l
    → cell_in p (drop 2 (line_words line)) ≡ Some c → has_numbers t p v c ≡ false
    → read_leaf t l line ≡ None
no_state t p v (atomic_leaf name class settings) line c h e f = absurd h
no_state t p v (cell_leaf g first cell) line c h e f =
    with_numbers t p v g first cell line c false h.0 h.1 e f

pub no_line : (t p v : ℕ) (l : Leaf) (line written : Bytes) (c : CellState) → IsCellWith p v l
    → cell_in p (drop 2 (line_words line)) ≡ Some c → has_numbers t p v c ≡ true
    → written ≡ leaf_line l (cell_state c) → bytes_eq written line ≡ false
    → read_leaf t l line ≡ None
no_line t p v (atomic_leaf name class settings) line written c h e f w d = absurd h
no_line t p v (cell_leaf g first cell) line written c h e f w d =
    with_numbers t p v g first cell line c true h.0 h.1 e f
    ∙ ap (λ b. cond b (Some (cell_state c)) None) (ap (λ x. bytes_eq x line) (sym w) ∙ d)

pub its_line : (t p v : ℕ) (l : Leaf) (line written : Bytes) (c : CellState) → IsCellWith p v l
    → cell_in p (drop 2 (line_words line)) ≡ Some c → has_numbers t p v c ≡ true
    → written ≡ leaf_line l (cell_state c) → bytes_eq written line ≡ true
    → read_leaf t l line ≡ Some (cell_state c)
its_line t p v (atomic_leaf name class settings) line written c h e f w d = absurd h
its_line t p v (cell_leaf g first cell) line written c h e f w d =
    with_numbers t p v g first cell line c true h.0 h.1 e f
    ∙ ap (λ b. cond b (Some (cell_state c)) None) (ap (λ x. bytes_eq x line) (sym w) ∙ d)

-- ---- a box

pub its_numbers : (l : Leaf) (line written : Bytes) (ws : List ℤ) (b : Bool)
    → all_in (signed_in (10 ^ 17)) (drop 2 (line_words line)) ≡ Some ws → written ≡ box_line l ws
    → bytes_eq written line ≡ b → box_in l line ≡ cond b (Some ws) None
its_numbers l line written ws b e w d = ap (if_written (box_line l) line) e
    ∙ ap (λ b. cond b (Some ws) None) (ap (λ x. bytes_eq x line) (sym w) ∙ d)

-- the state of these numbers, where they are one that waits for later
abbrev pub box_of : ℕ → Class → List ℤ → List ℤ → Option LeafState
box_of t class settings ws =
    cond (is_box_state class settings ws && is_later t (next_of class ws))
    (Some (box_state (record { kind = class; settings = settings; state = ws }))) None

-- a line is read as the state of its numbers
module _ (t : ℕ) (name : Bytes) (class : Class) (settings : List ℤ) (line : Bytes) where
  abbrev judge : Bool → List ℤ → Option LeafState
  judge a ws = if_written (leaf_line (atomic_leaf name class settings)) line
      (cond a (Some (box_state (record { kind = class; settings = settings; state = ws }))) None)

  by_both : (ws : List ℤ) (a b : Bool)
      → is_box_state class settings ws && is_later t (next_of class ws) ≡ a
      → bytes_eq (box_line (atomic_leaf name class settings) ws) line ≡ b
      → judge (is_box_state class settings ws && is_later t (next_of class ws)) ws ≡ for_some {B =
      LeafState} (cond b (Some ws) None) (box_of t class settings)
  by_both ws true true e f = ap (λ a. judge a ws) e
      ∙ ap (λ b. cond b (Some (box_state (record {
        kind = class;
        settings = settings;
        state =
            ws;
      }))) None) f ∙ sym
      (ap (λ a. cond a (Some (box_state (record { kind = class; settings = settings; state = ws })))
      None) e)
  by_both ws true false e f = ap (λ a. judge a ws) e
      ∙ ap (λ b. cond b (Some (box_state (record {
        kind = class;
        settings = settings;
        state =
            ws;
      }))) None) f
  by_both ws false true e f = ap (λ a. judge a ws) e
      ∙ sym (ap (λ a. cond a (Some (box_state (record {
        kind = class;
        settings = settings;
        state =
            ws;
      }))) None) e)
  by_both ws false false e f = ap (λ a. judge a ws) e

  read_by : (o : Option (List ℤ))
      → if_written (leaf_line (atomic_leaf name class settings)) line
      (if_leaf_state t (atomic_leaf name class settings) (for_some {B =
      LeafState} o (λ ws. Some (box_state (record {
        kind = class;
        settings = settings;
        state =
            ws;
      })))))
      ≡ for_some {B = LeafState} (if_written (box_line (atomic_leaf name class settings)) line o)
      (box_of t class settings)
  read_by None = refl
  read_by (Some ws) = by_both ws (is_box_state class settings ws && is_later t (next_of class ws))
      (bytes_eq (box_line (atomic_leaf name class settings) ws) line) refl refl

  pub read_box : read_leaf t (atomic_leaf name class settings) line ≡ for_some {B =
      LeafState} (box_in (atomic_leaf name class settings) line) (box_of t class settings)
  read_box = read_by (all_in (signed_in (10 ^ 17)) (drop 2 (line_words line)))
