-- What is proved of a table.
use Rattle.std.proofs.Common.{◌≡◌, ℕ, Bool, true, false, Option, Some, None, List, [], ◌∷◌, refl, arith}
use Rattle.std.specs.Prelude.{IfSome, if◌then◌else◌, ℤ}
use Rattle.std.specs.List.{All, fold, find}
use Rattle.std.specs.Option.{unwrap_or}
use Rattle.std.proofs.lemmas.List.Elements.{All-head, All-tail}
use Rattle.quantity.specs.declared.value.Value.TheVariants.{Undefined}
use Rattle.quantity.specs.Roots.{IsBounded}
use Rattle.quantity.specs.TimeBounds.{IsDelay}
use Rattle.atomic_face.specs.Words.{time_of_word, word_of, value_of_word}
use Rattle.atomic_face.specs.Bags.{Bag, is_at}
use Rattle.atomic_face.specs.TableSettings.{any_word, states_of}
use Rattle.atomic_face.specs.StateTable.{TableSettings, TableState, Take, Hold, no_hold, same_word, held_value, table_settings, table_state, table_rules, state_on_entry, due_after, hold_of, state_after_take, takes, table_input, table_internal}
use Rattle.run_model.specs.ClassBounds.{IsNotBefore, IsValueWord}
use Rattle.run_model.specs.TableBounds.{IsBoundedHold, table_bounds}
use Rattle.run_model.proofs.BoundedCells.{IsBoundedInput}
use Rattle.run_model.proofs.BoundedMeaning.{at_or}
use Rattle.run_model.proofs.BoxWords.{any_time, DueIs, word-is, one-output, outputs-at}
use Rattle.run_model.proofs.ClassLaws.{ClassLaws}
use Rattle.run_model.proofs.TableParameters.{table_bounded}

-- ---- a hold waits for its end

abbrev TableWaits : ℕ → TableState → Type 0
TableWaits t s = IsNotBefore t (time_of_word s.due)

entered-waits : (settings : TableSettings) (t : ℕ) (last : ℤ) (state : ℕ) → TableWaits t (state_on_entry settings t last state)
entered-waits settings t last state = hold (time_of_word (hold_of settings state).time)
  where
    hold : (o : Option ℕ) → IsNotBefore t (time_of_word (due_after t o))
    hold None = tt
    hold (Some time) = omega arith

taken-waits : (settings : TableSettings) (t : ℕ) (s : TableState) (word : ℤ) (o : Option Take) → TableWaits t s → TableWaits t (state_after_take settings t s word o)
taken-waits settings t s word None h = h
taken-waits settings t s word (Some k) h = entered-waits settings t word k.next

inputs-taken-wait : (settings : TableSettings) (t : ℕ) (s : TableState) (bag : Bag) → TableWaits t s → TableWaits t (fold (table_input settings t) s bag)
inputs-taken-wait settings t s [] h = h
inputs-taken-wait settings t s (i ∷ is) h =
    inputs-taken-wait settings t (table_input settings t s i) is (taken-waits settings t s (word_of i.1) (find (takes s i.0.0 (word_of i.1)) settings.takes) h)

table-waits : (settings state : List ℤ) (t : ℕ) (bag : Bag) → table_bounds.waits_from t state → IfSome (table_rules.moved settings state t bag) (table_bounds.waits_from t)
table-waits settings state t bag h =
    inputs-taken-wait (table_settings settings) t (table_internal (table_settings settings) t (table_state state)) bag (due (is_at t (time_of_word (table_state state).due)))
  where
    due : (b : Bool) → TableWaits t (if b then state_on_entry (table_settings settings) t (table_state state).last (hold_of (table_settings settings) (table_state state).state).next else table_state state)
    due true = entered-waits (table_settings settings) t (table_state state).last (hold_of (table_settings settings) (table_state state).state).next
    due false = h

-- ---- due time and last value are bounded

abbrev IsTable : TableState → Type 0
IsTable s = DueIs s.due × IsValueWord s.last

hold-is : (settings : TableSettings) (state : ℕ) → All IsBoundedHold settings.holds → IsBoundedHold (hold_of settings state)
hold-is settings state h = at_or IsBoundedHold settings.holds state no_hold (tt, λ e. omega arith) h

entered-is : (settings : TableSettings) (t : ℕ) (last : ℤ) (state : ℕ) → All IsBoundedHold settings.holds → IsDelay t → IsValueWord last → IsTable (state_on_entry settings t last state)
entered-is settings t last state set time h = (held (time_of_word (hold_of settings state).time) (hold-is settings state set).0, h)
  where
    held : (o : Option ℕ) → IfSome o IsDelay → DueIs (due_after t o)
    held None k = tt
    held (Some n) k = omega arith

taken-is : (settings : TableSettings) (t : ℕ) (s : TableState) (word : ℤ) (o : Option Take) → All IsBoundedHold settings.holds → IsDelay t → IsValueWord word → IsTable s → IsTable (state_after_take settings t s word o)
taken-is settings t s word None set time k h = (h.0, k)
taken-is settings t s word (Some e) set time k h = entered-is settings t word e.next set time k

all-taken : (settings : TableSettings) (t : ℕ) (s : TableState) (bag : Bag) → All IsBoundedHold settings.holds → IsDelay t → All IsBoundedInput bag → IsTable s → IsTable (fold (table_input settings t) s bag)
all-taken settings t s [] set time good h = h
all-taken settings t s (i ∷ is) set time good h =
    all-taken settings t (table_input settings t s i) is set time (All-tail IsBoundedInput i is good)
    (taken-is settings t s (word_of i.1) (find (takes s i.0.0 (word_of i.1)) settings.takes) set time (word-is i.1 (All-head IsBoundedInput i is good)) h)

table-is : (settings state : List ℤ) (t : ℕ) (bag : Bag) → table_bounds.bounded_settings settings → IsDelay t → All IsBoundedInput bag → table_bounds.bounded_state state → IfSome (table_rules.moved settings state t bag) table_bounds.bounded_state
table-is settings state t bag set time good h =
    all-taken (table_settings settings) t (table_internal (table_settings settings) t (table_state state)) bag set time good (due (is_at t (time_of_word (table_state state).due)))
  where
    due : (b : Bool) → IsTable (if b then state_on_entry (table_settings settings) t (table_state state).last (hold_of (table_settings settings) (table_state state).state).next else table_state state)
    due true = entered-is (table_settings settings) t (table_state state).last (hold_of (table_settings settings) (table_state state).state).next set time h.1
    due false = h

held-is : (last : ℤ) (h : Hold) (b : Bool) → same_word h.value any_word ≡ b → IsBoundedHold h → IsValueWord last → IsBounded (value_of_word (if b then last else h.value))
held-is last h true e hold k = k
held-is last h false e hold k = hold.1 e

table-output : (settings state : List ℤ) → table_bounds.bounded_settings settings → table_bounds.bounded_state state → All IsBoundedInput (table_rules.output settings state)
table-output settings state set h =
    let s = table_state state in
    let k = hold_of (table_settings settings) s.state in
    one-output (held_value s k) (held-is s.last k (same_word k.value any_word) refl (hold-is (table_settings settings) s.state set) h.1)

-- ---- all laws

pub table_laws : ClassLaws table_rules table_bounds
table_laws = record {
  start_waits = λ settings. any_time (table_rules.next (table_rules.start settings));
  state_waits = λ settings state h. any_time (table_rules.next state);
  moved_waits = table-waits;
  waits_later = λ state low u f h. f;
  next_waits = λ state low h. h;
  settings_bounded = λ ps. table_bounded (unwrap_or (states_of ps) []) ps;
  start_bounded = λ settings set. entered-is (table_settings settings) 0 (word_of Undefined) (table_settings settings).initial set (omega arith) (word-is Undefined tt);
  moved_bounded = table-is;
  next_bounded = λ state h. h.0;
  output_bounded = table-output;
  output_at_out = λ settings state. outputs-at (held_value (table_state state) (hold_of (table_settings settings) (table_state state).state) ∷ []);
  inputs_named = refl;
}
