-- What is proved of a generator.
use Rattle.std.proofs.Common.{ℕ, ◌+◌, ◌≤◌, Bool, true, false, Option, Some, None, List, [], ◌∷◌, refl, arith}
use Rattle.std.specs.Prelude.{IfSome, if◌then◌else◌, ℤ, pos, negsuc, codes}
use Rattle.std.specs.List.{All}
use Rattle.std.specs.Option.{option_map}
use Rattle.quantity.specs.declared.value.Value.{Value}
use Rattle.quantity.specs.Roots.{IsBounded}
use Rattle.quantity.specs.Arithmetic.{sum_of}
use Rattle.quantity.specs.TimeBounds.{IsDelay, IsTime}
use Rattle.atomic_face.specs.declared.params.Param.{Param}
use Rattle.atomic_face.specs.Words.{no_time, time_of_word, word_of, value_of_word, natural_in}
use Rattle.atomic_face.specs.Bags.{Bag, is_at}
use Rattle.atomic_face.specs.Parameters.{parameter, time_word, period_word, setting_of}
use Rattle.atomic_face.specs.Generator.{GeneratorState, GeneratorSettings, generator_state, generator_settings, generator_words, generator_internal, generator_rules, is_none_left, one_less}
use Rattle.run_model.specs.ClassBounds.{IsValueWord}
use Rattle.run_model.specs.GeneratorBounds.{generator_bounds}
use Rattle.run_model.proofs.BoundedCells.{IsBoundedInput}
use Rattle.run_model.proofs.BoundedParameters.{IsTimeWord, IsDelayWord, early_is_time, period_word_is, setting_is, time_of, value_of}
use Rattle.run_model.proofs.BoundedValues.{sum-is}
use Rattle.run_model.proofs.BoxWords.{any_time, word-is, one-output, outputs-at}
use Rattle.run_model.proofs.ClassLaws.{ClassLaws}

-- ---- moves

generator-waits : (settings state : List ℤ) (t : ℕ) (bag : Bag) → generator_bounds.waits_from t state → IfSome (generator_rules.moved settings state t bag) (generator_bounds.waits_from t)
generator-waits settings state t bag h = due (is_at t (time_of_word (generator_state state).next))
  where
    summed : (period : ℤ) (left : ℤ) (o : Option Value) → IfSome (option_map generator_words (option_map (λ v. record { next = pos (t + natural_in period); value = word_of v; left = left }) o)) (generator_bounds.waits_from t)
    summed period left None = tt
    summed period left (Some v) = omega arith

    goes_on : (s : GeneratorSettings) (g : GeneratorState) (b : Bool) → IfSome (option_map generator_words (if b then Some (record g { next = no_time; left = one_less g.left }) else option_map (λ v. record { next = pos (t + natural_in s.period); value = word_of v; left = one_less g.left }) (sum_of (value_of_word g.value) (value_of_word s.step)))) (generator_bounds.waits_from t)
    goes_on s g true = tt
    goes_on s g false = summed s.period (one_less g.left) (sum_of (value_of_word g.value) (value_of_word s.step))

    due : (b : Bool) → IfSome (if b then option_map generator_words (generator_internal (generator_settings settings) t (generator_state state)) else Some state) (generator_bounds.waits_from t)
    due true = goes_on (generator_settings settings) (generator_state state) (is_none_left (one_less (generator_state state).left))
    due false = h

generator-is : (settings state : List ℤ) (t : ℕ) (bag : Bag) → generator_bounds.bounded_settings settings → IsDelay t → All IsBoundedInput bag → generator_bounds.bounded_state state → IfSome (generator_rules.moved settings state t bag) generator_bounds.bounded_state
generator-is settings state t bag set time good h = due (is_at t (time_of_word (generator_state state).next))
  where
    summed : (period left : ℤ) (o : Option Value) → IsDelay (natural_in period) → IfSome o IsBounded → IfSome (option_map generator_words (option_map (λ v. record { next = pos (t + natural_in period); value = word_of v; left = left }) o)) generator_bounds.bounded_state
    summed period left None delay k = tt
    summed period left (Some v) delay k = (omega (arith, delay, time), word-is v k)

    goes_on : (s : GeneratorSettings) (g : GeneratorState) (b : Bool) → IsDelay (natural_in s.period) → IsValueWord g.value → IfSome (option_map generator_words (if b then Some (record g { next = no_time; left = one_less g.left }) else option_map (λ v. record { next = pos (t + natural_in s.period); value = word_of v; left = one_less g.left }) (sum_of (value_of_word g.value) (value_of_word s.step)))) generator_bounds.bounded_state
    goes_on s g true delay k = (tt, k)
    goes_on s g false delay k = summed s.period (one_less g.left) (sum_of (value_of_word g.value) (value_of_word s.step)) delay (sum-is (value_of_word g.value) (value_of_word s.step))

    due : (b : Bool) → IfSome (if b then option_map generator_words (generator_internal (generator_settings settings) t (generator_state state)) else Some state) generator_bounds.bounded_state
    due true = goes_on (generator_settings settings) (generator_state state) (is_none_left (one_less (generator_state state).left)) set.1 h.1
    due false = h

-- ---- settings

generator-settings : (ps : List Param) → generator_bounds.bounded_settings (generator_rules.settings ps)
generator-settings ps =
    (later (setting_of ps (parameter (codes "start") time_word (pos 0))) (time_of ps (codes "start")).0, setting_is IsDelayWord ps (parameter (codes "period") period_word (pos 1000)) period_word_is second, value_of ps (codes "value") 100000 (omega arith))
  where
    second : 1000 ≤ 359999999
    second = omega arith

    later : (w : ℤ) → IsTimeWord w → IfSome (time_of_word w) IsTime
    later (pos n) h = early_is_time n h
    later (negsuc n) h = tt

-- ---- all laws

pub generator_laws : ClassLaws generator_rules generator_bounds
generator_laws = record {
  start_waits = λ settings. any_time (generator_rules.next (generator_rules.start settings));
  state_waits = λ settings state h. any_time (generator_rules.next state);
  moved_waits = generator-waits;
  waits_later = λ state low u f h. f;
  next_waits = λ state low h. h;
  settings_bounded = generator-settings;
  start_bounded = λ settings set. (set.0, set.2);
  moved_bounded = generator-is;
  next_bounded = λ state h. h.0;
  output_bounded = λ settings state set h. one-output (value_of_word (generator_state state).value) h.1;
  output_at_out = λ settings state. outputs-at (value_of_word (generator_state state).value ∷ []);
  inputs_named = refl;
}
