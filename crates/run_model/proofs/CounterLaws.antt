-- What is proved of a counter.
use Rattle.std.proofs.Common.{ℕ, Bool, true, false, Option, Some, None, List, [], ◌∷◌, refl, arith}
use Rattle.std.specs.Prelude.{IfSome, if◌then◌else◌, ◌==◌, ℤ, codes}
use Rattle.std.specs.List.{All}
use Rattle.std.specs.Option.{option_map}
use Rattle.quantity.specs.declared.value.Value.{Value}
use Rattle.quantity.specs.Roots.{IsBounded}
use Rattle.quantity.specs.Arithmetic.{sum_of}
use Rattle.quantity.specs.TimeBounds.{IsDelay}
use Rattle.atomic_face.specs.declared.class.PortNo.{PortNo}
use Rattle.atomic_face.specs.Words.{no_time, time_of_word, word_of, value_of_word, natural_in}
use Rattle.atomic_face.specs.Bags.{Bag, is_at}
use Rattle.atomic_face.specs.Parameters.{setting}
use Rattle.atomic_face.specs.Counter.{CounterState, counter_state, counter_words, counter_input, counter_inputs, counter_closing, counter_internal, counter_rules, for_some}
use Rattle.run_model.specs.ClassBounds.{IsNotBefore, IsValueWord}
use Rattle.run_model.specs.CounterBounds.{counter_bounds}
use Rattle.run_model.proofs.BoundedCells.{IsBoundedInput}
use Rattle.run_model.proofs.BoundedParameters.{time_of, value_of}
use Rattle.run_model.proofs.BoundedValues.{sum-is}
use Rattle.run_model.proofs.BoxWords.{any_time, DueIs, word-is, one-output, outputs-at}
use Rattle.run_model.proofs.ClassLaws.{ClassLaws}

-- ---- the total waits

abbrev CounterWaits : ℕ → CounterState → Type 0
CounterWaits t c = IsNotBefore t (time_of_word c.due)

counter_input-waits : (settings : List ℤ) (t : ℕ) (c : CounterState) (i : PortNo × Value) → CounterWaits t c → IfSome (counter_input settings c i) (CounterWaits t)
counter_input-waits settings t c i h = at_port (i.0.0 == 0)
  where
    summed : (o : Option Value) → IfSome (option_map (λ v. record c { total = word_of v }) o) (CounterWaits t)
    summed None = tt
    summed (Some v) = h

    at_port : (b : Bool) → IfSome (if b then option_map (λ v. record c { total = word_of v }) (sum_of (value_of_word c.total) (value_of_word (setting settings 2))) else Some (record c { total = setting settings 1 })) (CounterWaits t)
    at_port true = summed (sum_of (value_of_word c.total) (value_of_word (setting settings 2)))
    at_port false = h

counter_inputs-wait : (settings : List ℤ) (t : ℕ) (c : CounterState) (bag : Bag) → CounterWaits t c → IfSome (counter_inputs settings c bag) (CounterWaits t)
counter_inputs-wait settings t c [] h = h
counter_inputs-wait settings t c (i ∷ is) h = goes_on (counter_input settings c i) (counter_input-waits settings t c i h) (λ d. counter_inputs-wait settings t d is)
  where
    goes_on : (o : Option CounterState) → IfSome o (CounterWaits t) → ((d : CounterState) → CounterWaits t d → IfSome (counter_inputs settings d is) (CounterWaits t)) → IfSome (for_some o (λ d. counter_inputs settings d is)) (CounterWaits t)
    goes_on None k rest = tt
    goes_on (Some d) k rest = rest d k

counter_internal-waits : (t : ℕ) (c : CounterState) → CounterWaits t c → CounterWaits t (counter_internal t c)
counter_internal-waits t c h = due (is_at t (time_of_word c.due))
  where
    due : (b : Bool) → CounterWaits t (if b then record c { due = no_time } else c)
    due true = tt
    due false = h

counter_closing-waits : (delay t : ℕ) (bag : Bag) (c : CounterState) → CounterWaits t c → CounterWaits t (counter_closing delay t bag c)
counter_closing-waits delay t [] c h = h
counter_closing-waits delay t (i ∷ is) c h = omega arith

counter-waits : (settings state : List ℤ) (t : ℕ) (bag : Bag) → counter_bounds.waits_from t state → IfSome (counter_rules.moved settings state t bag) (counter_bounds.waits_from t)
counter-waits settings state t bag h =
    closed (counter_inputs settings (counter_internal t (counter_state state)) bag)
    (counter_inputs-wait settings t (counter_internal t (counter_state state)) bag (counter_internal-waits t (counter_state state) h))
  where
    closed : (o : Option CounterState) → IfSome o (CounterWaits t) → IfSome (option_map counter_words (option_map (counter_closing (natural_in (setting settings 0)) t bag) o)) (counter_bounds.waits_from t)
    closed None k = tt
    closed (Some c) k = counter_closing-waits (natural_in (setting settings 0)) t bag c k

-- ---- due time and total are bounded

abbrev IsCounter : CounterState → Type 0
IsCounter c = DueIs c.due × IsValueWord c.total

counter_input-is : (settings : List ℤ) (c : CounterState) (i : PortNo × Value) → counter_bounds.bounded_settings settings → IsCounter c → IfSome (counter_input settings c i) IsCounter
counter_input-is settings c i set h = at_port (i.0.0 == 0)
  where
    summed : (o : Option Value) → IfSome o IsBounded → IfSome (option_map (λ v. record c { total = word_of v }) o) IsCounter
    summed None k = tt
    summed (Some v) k = (h.0, word-is v k)

    at_port : (b : Bool) → IfSome (if b then option_map (λ v. record c { total = word_of v }) (sum_of (value_of_word c.total) (value_of_word (setting settings 2))) else Some (record c { total = setting settings 1 })) IsCounter
    at_port true = summed (sum_of (value_of_word c.total) (value_of_word (setting settings 2))) (sum-is (value_of_word c.total) (value_of_word (setting settings 2)))
    at_port false = (h.0, set.1)

counter_inputs-are : (settings : List ℤ) (c : CounterState) (bag : Bag) → counter_bounds.bounded_settings settings → IsCounter c → IfSome (counter_inputs settings c bag) IsCounter
counter_inputs-are settings c [] set h = h
counter_inputs-are settings c (i ∷ is) set h = goes_on (counter_input settings c i) (counter_input-is settings c i set h) (λ d. counter_inputs-are settings d is set)
  where
    goes_on : (o : Option CounterState) → IfSome o IsCounter → ((d : CounterState) → IsCounter d → IfSome (counter_inputs settings d is) IsCounter) → IfSome (for_some o (λ d. counter_inputs settings d is)) IsCounter
    goes_on None k rest = tt
    goes_on (Some d) k rest = rest d k

counter_internal-is : (t : ℕ) (c : CounterState) → IsCounter c → IsCounter (counter_internal t c)
counter_internal-is t c h = due (is_at t (time_of_word c.due))
  where
    due : (b : Bool) → IsCounter (if b then record c { due = no_time } else c)
    due true = (tt, h.1)
    due false = h

counter_closing-is : (delay t : ℕ) (bag : Bag) (c : CounterState) → IsDelay delay → IsDelay t → IsCounter c → IsCounter (counter_closing delay t bag c)
counter_closing-is delay t [] c le time h = h
counter_closing-is delay t (i ∷ is) c le time h = (omega arith, h.1)

counter-is : (settings state : List ℤ) (t : ℕ) (bag : Bag) → counter_bounds.bounded_settings settings → IsDelay t → All IsBoundedInput bag → counter_bounds.bounded_state state → IfSome (counter_rules.moved settings state t bag) counter_bounds.bounded_state
counter-is settings state t bag set time good h =
    closed (counter_inputs settings (counter_internal t (counter_state state)) bag)
    (counter_inputs-are settings (counter_internal t (counter_state state)) bag set (counter_internal-is t (counter_state state) h))
  where
    closed : (o : Option CounterState) → IfSome o IsCounter → IfSome (option_map counter_words (option_map (counter_closing (natural_in (setting settings 0)) t bag) o)) counter_bounds.bounded_state
    closed None k = tt
    closed (Some c) k = counter_closing-is (natural_in (setting settings 0)) t bag c set.0 time k

-- ---- all laws

pub counter_laws : ClassLaws counter_rules counter_bounds
counter_laws = record {
  start_waits = λ settings. tt;
  state_waits = λ settings state h. any_time (counter_rules.next state);
  moved_waits = counter-waits;
  waits_later = λ state low u f h. f;
  next_waits = λ state low h. h;
  settings_bounded = λ ps. ((time_of ps (codes "delay")).1, value_of ps (codes "start") 0 (omega arith));
  start_bounded = λ settings set. (tt, set.1);
  moved_bounded = counter-is;
  next_bounded = λ state h. h.0;
  output_bounded = λ settings state set h. one-output (value_of_word (counter_state state).total) h.1;
  output_at_out = λ settings state. outputs-at (value_of_word (counter_state state).total ∷ []);
  inputs_named = refl;
}
