-- The state that a text gives, or its first refused line.
use Rattle.std.specs.Prelude.{ℕ, zero, suc, ◌+◌, ◌^◌, ◌==◌, nat_lt, nat_le, Option, Some, None, List, [], ◌∷◌, length, drop, if◌then◌else◌, codes, Result, Ok, Err}
use Rattle.std.specs.List.{slice_split}
use Rattle.std.specs.Str.{bytes_eq}
use Rattle.quantity.specs.declared.bounds.TheConstants.{MAX_DELAY, MAX_LOG_BYTES, MAX_TIME}
use Rattle.quantity.specs.declared.value.Value.{Value}
use Rattle.quantity.specs.Bytes.{Bytes}
use Rattle.quantity.specs.ValueTexts.{guessed_value, signed_in}
use Rattle.quantity.specs.Times.{read_time}
use Rattle.quantity.specs.Written.{if_written, number_up_to, for_some}
use Rattle.model_tree.specs.Tree.{Tree, Leaf, atomic_leaf, cell_leaf, leaves}
use Rattle.run_model.specs.CellStep.{PortState}
use Rattle.run_model.specs.Cycle.{LeafState, box_state, cell_state}
use Rattle.text_forms.specs.declared.refusal.StateRefusal.{StateRefusal}
use Rattle.text_forms.specs.declared.refusal.StateRefusal.TheVariants.{BadStateLine, EndBefore, TooLarge}
use Rattle.text_forms.specs.LeafStates.{is_leaf_state}
use Rattle.text_forms.specs.StateText.{leaf_line, at_line}

-- ---- a leaf, as its words say it

-- all words, where each is read
abbrev pub all_in : {A : Type 0} → (Bytes → Option A) → List Bytes → Option (List A)
all_in read [] = Some []
all_in read (w ∷ ws) = for_some (read w) (λ x. for_some (all_in read ws) (λ xs. Some (x ∷ xs)))

-- the pairs that stand in front, and the words after them
abbrev pub pairs_in : ℕ → List Bytes → Option (List (ℕ × Value) × List Bytes)
pairs_in (suc n) (t ∷ v ∷ ws) =
    for_some (number_up_to MAX_TIME t) (λ t.
    for_some (guessed_value v) (λ v.
    for_some (pairs_in n ws) (λ (ps, rest). Some ((t, v) ∷ ps, rest))))
pairs_in zero ws = Some ([], ws)
pairs_in n ws = None

-- the port that stands in front, and the words after it
abbrev pub port_state_in : List Bytes → Option (PortState × List Bytes)
port_state_in (e ∷ s ∷ n ∷ ws) =
    for_some (guessed_value e) (λ e.
    for_some (guessed_value s) (λ s. for_some (number_up_to (10 ^ 9) n) (λ n.
    for_some (pairs_in n ws) (λ (ps, rest). Some (
      record {
        emitted = e;
        computed = s;
        pairs = ps;
      },
      rest,
    )))))
port_state_in ws = None

-- so many ports, and the words after them
abbrev pub ports_in : ℕ → List Bytes → Option (List PortState × List Bytes)
ports_in zero ws = Some ([], ws)
ports_in (suc n) ws =
    for_some (port_state_in ws) (λ (p, rest).
    for_some (ports_in n rest) (λ (ps, rest). Some (p ∷ ps, rest)))

-- the words of a box, or the ports and variables of a cell
abbrev pub leaf_state_in : Leaf → List Bytes → Option LeafState
leaf_state_in (atomic_leaf name class settings) ws =
    for_some (all_in (signed_in (10 ^ 17)) ws) (λ words. Some (box_state (record {
      kind = class;
      settings = settings;
      state = words;
    })))
leaf_state_in (cell_leaf g first cell) ws =
    for_some (ports_in (suc (length g.ports)) ws) (λ (ports, rest).
    for_some (all_in guessed_value rest) (λ xs. Some (cell_state (record {
      ports = ports;
      variables = xs;
    }))))

-- where it is a state of the leaf
abbrev pub if_leaf_state : ℕ → Leaf → Option LeafState → Option LeafState
if_leaf_state t l o = for_some o (λ s. if is_leaf_state t l s then Some s else None)

-- what stands between single blanks
abbrev pub line_words : Bytes → List Bytes
line_words line = slice_split (λ c. c == 32) line

-- the state that a line is, if it is one
abbrev pub read_leaf : ℕ → Leaf → Bytes → Option LeafState
read_leaf t l line =
    if_written (leaf_line l) line (if_leaf_state t l (leaf_state_in l (drop 2 (line_words line))))

-- ---- line after line

-- a time, and the state of each leaf
pub record Saved : Type 0 where
  pub time : ℕ
  pub states : List LeafState

-- goes on after the line of this number, which has a line end and is read so; the last part of a
-- text has none
abbrev pub next_line : {A B : Type 0} → ℕ → (Bytes → Option A) → List Bytes
    → (A → List Bytes → Result B StateRefusal) → Result B StateRefusal
next_line n read (line ∷ next ∷ more) go =
    elim (read line) [ None ↦ Err (BadStateLine n) | Some x ↦ go x (next ∷ more) ]
next_line n read parts go = Err (BadStateLine n)

-- the line that is this text
abbrev pub just : Bytes → Bytes → Option Bytes
just text line = if bytes_eq line text then Some line else None

-- nothing follows the line `end`
abbrev pub nothing_more : {A : Type 0} → ℕ → A → List Bytes → Result A StateRefusal
nothing_more n x ([] ∷ []) = Ok x
nothing_more n x parts = Err (BadStateLine n)

-- a line for each leaf, and then the line `end`
abbrev pub leaves_in : ℕ → ℕ → List Leaf → List Bytes → Result (List LeafState) StateRefusal
leaves_in n t [] parts =
    next_line n (just (codes "end")) parts (λ e rest. nothing_more (n + 1) [] rest)
leaves_in n t (l ∷ ls) parts =
    next_line n (read_leaf t l) parts (λ s rest.
    elim (leaves_in (n + 1) t ls rest) [ Err e ↦ Err e | Ok ss ↦ Ok (s ∷ ss) ])

-- the time of the second line, at most 99:59:59:999
abbrev pub read_at : Bytes → Option ℕ
read_at line =
    if_written at_line line (for_some (read_time (drop 3 line))
    (λ t. if nat_le t MAX_DELAY then Some t else None))

-- the leaves, unless the time is past the end
abbrev pub state_at : ℕ → ℕ → List Leaf → List Bytes → Result Saved StateRefusal
state_at end t ls parts =
    if nat_lt end t then Err (EndBefore 2)
    else elim (leaves_in 3 t ls parts) [
      | Err e ↦ Err e
      | Ok ss ↦ Ok (record {
        time = t;
        states = ss;
      })
    ]

-- ---- the whole text

-- the state that a text is, or its first refusal
abbrev pub state_of : Bytes → Tree → ℕ → Result Saved StateRefusal
state_of bytes tree end =
    if nat_lt MAX_LOG_BYTES (length bytes) then Err (TooLarge 0)
    else
    next_line 1 (just (codes "state 1")) (slice_split (λ c. c == 10) bytes) (λ first rest.
    next_line 2 read_at rest (λ t rest. state_at end t (leaves tree) rest))
