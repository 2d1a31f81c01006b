-- The words of settings give the plain settings back.
use Rattle.std.proofs.Common.{◌≡◌, ℕ, suc, zero, ◌+◌, ◌*◌, ◌≤◌, ◌<◌, Bool, true, false, Option, Some, None, List, [], ◌∷◌, ◌++◌, length, map, drop, ℤ, pos, refl, sym, ap, ◌∙◌, arith, subst, cond, get_or}
use Rattle.std.specs.Prelude.{not, nat_lt, ◌&&◌, slice_get}
use Rattle.std.proofs.lemmas.Bool.Decides.{nat_tests}
use Rattle.std.specs.List.{flat_map, find}
use Rattle.std.specs.Option.{option_map, unwrap_or, is_some}
use Rattle.quantity.specs.declared.value.Value.{Value}
use Rattle.atomic_face.specs.declared.class.PortNo.{PortNo}
use Rattle.atomic_face.specs.Words.{no_time, word_of, is_due_if, is_none_word, is_value_word}
use Rattle.atomic_face.specs.StateTable.{has_hold, is_below, is_table, holds_in, takes_in, table_input, table_settings, state_after_take, takes}
use Rattle.state_tables.specs.declared.settings.Hold.{Hold}
use Rattle.state_tables.specs.declared.settings.Take.{Take}
use Rattle.state_tables.specs.declared.settings.TableSettings.{TableSettings}
use Rattle.state_tables.specs.declared.moves.Standing.{Standing}
use Rattle.state_tables.specs.Settings.{hold_words, take_words, words_of}
use Rattle.state_tables.specs.Holds.{hold_at}
use Rattle.state_tables.specs.Moves.{leads, plain_hold, plain_take, plain_settings, plain_state}

three_more : (n : ℕ) → 3 * suc n ≡ suc (suc (suc (3 * n)))
three_more n = omega arith

holds_words : (hs : List (Option Hold)) (rest : List ℤ) → holds_in (length hs) (flat_map hold_words hs ++ rest) ≡ map plain_hold hs
holds_words [] rest = refl
holds_words (None ∷ hs) rest = ap (λ ps. plain_hold None ∷ ps) (holds_words hs rest)
holds_words (Some h ∷ hs) rest = ap (λ ps. plain_hold (Some h) ∷ ps) (holds_words hs rest)

dropped : (hs : List (Option Hold)) (rest : List ℤ) → drop (3 * length hs) (flat_map hold_words hs ++ rest) ≡ rest
dropped [] rest = refl
dropped (None ∷ hs) rest = rw three_more (dropped hs rest)
dropped (Some h ∷ hs) rest = rw three_more (dropped hs rest)

takes_words : (ts : List Take) → takes_in (flat_map take_words ts) ≡ map plain_take ts
takes_words [] = refl
takes_words (t ∷ ts) = ap (λ ps. plain_take t ∷ ps) (takes_words ts)

-- the words of settings are the plain settings
pub plain_words : (s : TableSettings) → table_settings (words_of s) ≡ plain_settings s
plain_words s =
    rw (holds_words s.holds.items (flat_map take_words s.takes.items), dropped s.holds.items (flat_map take_words s.takes.items), takes_words s.takes.items) refl

first_of_three : (hs : List (Option Hold)) (rest : List ℤ) (k : ℕ) → k < length hs → is_none_word (unwrap_or (slice_get (flat_map hold_words hs ++ rest) (3 * k)) no_time) ≡ not (is_some (hold_at hs k))
first_of_three [] rest k h = absurd (omega arith)
first_of_three (None ∷ hs) rest zero h = refl
first_of_three (Some x ∷ hs) rest zero h = refl
first_of_three (None ∷ hs) rest (suc k) h = rw three_more (first_of_three hs rest k (omega arith))
first_of_three (Some x ∷ hs) rest (suc k) h = rw three_more (first_of_three hs rest k (omega arith))

two_more : (n : ℕ) → 2 + n ≡ suc (suc n)
two_more n = omega arith

twice_not : (b : Bool) → not (not b) ≡ b
twice_not true = refl
twice_not false = refl

-- a state has a hold where the words say so
hold_in_words : (s : TableSettings) (k : ℕ) → k < length s.holds.items → has_hold (words_of s) k ≡ is_some (hold_at s.holds.items k)
hold_in_words s k h =
    rw two_more
    (ap not (first_of_three s.holds.items (flat_map take_words s.takes.items) k h) ∙ twice_not (is_some (hold_at s.holds.items k)))

-- the first of a mapped list
find_map : {A B : Type 0} (f : A → B) (p : B → Bool) (xs : List A) → find p (map f xs) ≡ option_map f (find (λ x. p (f x)) xs)
find_map f p [] = refl
find_map f p (x ∷ xs) =
    elim (p (f x)) as (λ b. cond b (Some (f x)) (find p (map f xs)) ≡ option_map f (cond b (Some x) (find (λ y. p (f y)) xs)))
    [ true ↦ refl | false ↦ find_map f p xs ]

-- what an input does, by the entry that leads on
pub input_taken : (s : TableSettings) (now : ℕ) (at : Standing) (i : PortNo × Value) (o : Option Take) → o ≡ find (leads at.state i) s.takes.items → table_input (plain_settings s) now (plain_state at) i ≡ state_after_take (plain_settings s) now (plain_state at) (word_of i.1) (option_map plain_take o)
input_taken s now at i o e =
    ap (state_after_take (plain_settings s) now (plain_state at) (word_of i.1))
    (find_map plain_take (takes (plain_state at) i.0.0 (word_of i.1)) s.takes.items ∙ ap (option_map plain_take) (sym e))

below_all : (k n : ℕ) → nat_lt k n ≡ true → k < n
below_all k n e = grind (arith, nat_tests)

numbered : (s : TableSettings) (k : ℕ) (due last : ℤ) → is_below (words_of s) (pos k) ≡ true → is_table (words_of s) (pos k ∷ due ∷ last ∷ []) ≡ (is_due_if (is_some (hold_at s.holds.items k)) due && is_value_word last)
numbered s k due last e = rw (e, hold_in_words s k (below_all k (length s.holds.items) e)) refl

-- words whose state is there say how it is held, and a value
standing : (s : TableSettings) (k : ℕ) (state due last : ℤ) → is_below (words_of s) state ≡ true → pos k ≡ state → is_table (words_of s) (state ∷ due ∷ last ∷ []) ≡ (is_due_if (is_some (hold_at s.holds.items k)) due && is_value_word last)
standing s k state due last below e =
    subst
    (λ (w : ℤ). is_below (words_of s) w ≡ true → is_table (words_of s) (w ∷ due ∷ last ∷ []) ≡ (is_due_if (is_some (hold_at s.holds.items k)) due && is_value_word last))
    e
    (numbered s k due last)
    below

-- words that say wrongly how their state is held are no state
pub held_wrongly : (s : TableSettings) (k : ℕ) (state due last : ℤ) (has : Bool) → (is_below (words_of s) state ≡ true) × (pos k ≡ state) → has ≡ is_some (hold_at s.holds.items k) → is_due_if has due ≡ false → is_table (words_of s) (state ∷ due ∷ last ∷ []) ≡ false
held_wrongly s k state due last has is e d =
    standing s k state due last is.0 is.1 ∙ ap (λ b. is_due_if b due && is_value_word last) (sym e) ∙ ap (λ b. b && is_value_word last) d

-- words of a state that say rightly how it is held, and a value
pub held_rightly : (s : TableSettings) (k : ℕ) (state due last : ℤ) (has : Bool) → (is_below (words_of s) state ≡ true) × (pos k ≡ state) → has ≡ is_some (hold_at s.holds.items k) → is_due_if has due ≡ true → is_value_word last ≡ true → is_table (words_of s) (state ∷ due ∷ last ∷ []) ≡ true
held_rightly s k state due last has is e d l =
    standing s k state due last is.0 is.1 ∙ ap (λ b. is_due_if b due && is_value_word last) (sym e) ∙ ap (λ b. b && is_value_word last) d ∙ l

-- lists of three same numbers are the same
pub three_same : {a b c x y z : ℤ} → a ≡ x → b ≡ y → c ≡ z → ◌≡◌ {A = List ℤ} (a ∷ b ∷ c ∷ []) (x ∷ y ∷ z ∷ [])
three_same d e f = cc

-- a list of three is its three numbers
pub three_listed : (ws : List ℤ) → 3 ≤ length ws → length ws < 4 → ws ≡ get_or ws 0 (pos 0) ∷ get_or ws 1 (pos 0) ∷ get_or ws 2 (pos 0) ∷ []
three_listed [] l h = absurd (omega arith)
three_listed (a ∷ []) l h = absurd (omega arith)
three_listed (a ∷ b ∷ []) l h = absurd (omega arith)
three_listed (a ∷ b ∷ c ∷ []) l h = refl
three_listed (a ∷ b ∷ c ∷ d ∷ ws) l h = absurd (omega arith)
