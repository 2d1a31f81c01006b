-- What is proved of a cpu: its pairs are in order of time.
use Rattle.std.proofs.Common.{◌≡◌, ℕ, ◌+◌, ◌≤◌, Bool, true, false, cond, List, [], ◌∷◌, refl, sym, ap, subst, arith}
use Rattle.std.specs.Prelude.{IfSome, if◌then◌else◌, nat_le, int_le, ◌&&◌, ℤ, pos, negsuc, codes}
use Rattle.std.specs.List.{All, filter}
use Rattle.std.specs.Bool.{beq}
use Rattle.std.proofs.lemmas.Bool.Decides.{nat_tests}
use Rattle.std.proofs.lemmas.List.Elements.{All-nil, All-cons, All-head, All-tail, All-filter}
use Rattle.quantity.specs.declared.value.Value.{Value}
use Rattle.quantity.specs.Roots.{IsBounded}
use Rattle.quantity.specs.TimeBounds.{IsDelay, IsTime}
use Rattle.quantity.proofs.DigitLemmas.{both}
use Rattle.atomic_face.specs.Words.{time_of_word, word_of, value_of_word, natural_in, is_time_word, is_value_word}
use Rattle.atomic_face.specs.Bags.{Bag, is_at, same_time}
use Rattle.atomic_face.specs.Parameters.{time_setting}
use Rattle.atomic_face.specs.Cpu.{cpu_pairs, cpu_words, cpu_next, cpu_put, cpu_inputs, cpu_moved, cpu_rules, are_pairs, pairs_at, values_in}
use Rattle.run_model.specs.ClassBounds.{IsNotBefore}
use Rattle.run_model.specs.CpuBounds.{IsTimeFrom, NeverFalls, AreBoundedWords, cpu_bounds}
use Rattle.run_model.proofs.BoundedCells.{IsBoundedInput}
use Rattle.run_model.proofs.BoundedLists.{map-each}
use Rattle.run_model.proofs.BoundedParameters.{time_of}
use Rattle.run_model.proofs.BoxWords.{word-is, outputs-are, outputs-at}
use Rattle.run_model.proofs.ClassLaws.{ClassLaws}

-- ---- the times never fall

abbrev Words : Type 0
Words = List (ℤ × ℤ)

cpu_pairs-cpu_words : (ps : Words) → cpu_pairs (cpu_words ps) ≡ ps
cpu_pairs-cpu_words [] = refl
cpu_pairs-cpu_words (p ∷ ps) = ap (λ qs. p ∷ qs) (cpu_pairs-cpu_words ps)

time-lower : (low high : ℕ) (w : ℤ) → low ≤ high → IsTimeFrom high w → IsTimeFrom low w
time-lower low high (pos n) le h = omega (arith, h)
time-lower low high (negsuc n) le h = h

pairs-lower : (low high : ℕ) (ps : Words) → low ≤ high → NeverFalls high ps → NeverFalls low ps
pairs-lower low high [] le h = tt
pairs-lower low high (p ∷ ps) le h = (time-lower low high p.0 le h.0, h.1)

time-from : (low : ℕ) (w : ℤ) → IsTimeFrom low w → low ≤ natural_in w
time-from low (pos n) h = h
time-from low (negsuc n) h = absurd h

pub filter-waits : (low : ℕ) (keep : ℤ × ℤ → Bool) (ps : Words) → NeverFalls low ps → NeverFalls low (filter keep ps)
filter-waits low keep [] h = tt
filter-waits low keep (p ∷ ps) h = kept (keep p) (filter-waits (natural_in p.0) keep ps h.1)
  where
    kept : (b : Bool) → NeverFalls (natural_in p.0) (filter keep ps) → NeverFalls low (cond b (p ∷ filter keep ps) (filter keep ps))
    kept true rest = (h.0, rest)
    kept false rest = pairs-lower low (natural_in p.0) (filter keep ps) (time-from low p.0 h.0) rest

put-waits : (low at : ℕ) (v : Value) (ps : Words) → low ≤ at → NeverFalls low ps → NeverFalls low (cpu_put at v ps)
put-waits low at v [] le h = (le, tt)
put-waits low at v (p ∷ ps) le h = test (nat_le (natural_in p.0) at) refl (put-waits (natural_in p.0) at v ps)
  where
    placed : (w : ℤ) → at ≤ natural_in w → IsTimeFrom low w → IsTimeFrom at w
    placed (pos n) before from = before
    placed (negsuc n) before from = from

    test : (b : Bool) → nat_le (natural_in p.0) at ≡ b → (natural_in p.0 ≤ at → NeverFalls (natural_in p.0) ps → NeverFalls (natural_in p.0) (cpu_put at v ps)) → NeverFalls low (cond b (p ∷ cpu_put at v ps) ((pos at, word_of v) ∷ p ∷ ps))
    test true e rest = let before : natural_in p.0 ≤ at = grind (arith, nat_tests) in (h.0, rest before h.1)
    test false e rest = let after : at ≤ natural_in p.0 = grind (arith, nat_tests) in (le, (placed p.0 after h.0, h.1))

pub inputs-wait : (low at : ℕ) (ps : Words) (bag : Bag) → low ≤ at → NeverFalls low ps → NeverFalls low (cpu_inputs at ps bag)
inputs-wait low at ps [] le h = h
inputs-wait low at ps (i ∷ is) le h = inputs-wait low at (cpu_put at i.1 ps) is le (put-waits low at i.1 ps le h)

cpu-waits : (settings state : List ℤ) (t : ℕ) (bag : Bag) → cpu_bounds.waits_from t state → IfSome (cpu_rules.moved settings state t bag) (cpu_bounds.waits_from t)
cpu-waits settings state t bag h =
    let ps = cpu_pairs state in
    subst (NeverFalls t) (sym (cpu_pairs-cpu_words (cpu_moved (time_setting settings) t ps bag)))
    (inputs-wait t (t + time_setting settings) (if is_at t (cpu_next ps) then pairs_at false (cpu_next ps) ps else ps) bag (omega arith) (start (is_at t (cpu_next ps))))
  where
    start : (b : Bool) → NeverFalls t (if b then pairs_at false (cpu_next (cpu_pairs state)) (cpu_pairs state) else cpu_pairs state)
    start true = filter-waits t (λ (p : ℤ × ℤ). beq false (same_time (cpu_next (cpu_pairs state)) (time_of_word p.0))) (cpu_pairs state) h
    start false = h

cpu-later : (low u : ℕ) (ps : Words) → IsNotBefore u (cpu_next ps) → NeverFalls low ps → NeverFalls u ps
cpu-later low u [] f h = tt
cpu-later low u (p ∷ ps) f h = (first p.0 f h.0, h.1)
  where
    first : (w : ℤ) → IsNotBefore u (time_of_word w) → IsTimeFrom low w → IsTimeFrom u w
    first (pos n) f k = f
    first (negsuc n) f k = k

cpu-from : (low : ℕ) (ps : Words) → NeverFalls low ps → IsNotBefore low (cpu_next ps)
cpu-from low [] h = tt
cpu-from low (p ∷ ps) h = first p.0 h.0
  where
    first : (w : ℤ) → IsTimeFrom low w → IsNotBefore low (time_of_word w)
    first (pos n) k = k
    first (negsuc n) k = absurd k

not_before : (low n : ℕ) → nat_le low n ≡ true → low ≤ n
not_before low n h = grind (arith, nat_tests)

-- a pair's time isn't before the one in front of it
pairs_wait : (low : ℕ) (ws : List ℤ) → are_pairs (pos low) ws ≡ true → NeverFalls low (cpu_pairs ws)
pairs_wait low [] h = tt
pairs_wait low (t ∷ []) h = absurd cc
pairs_wait low (pos t ∷ v ∷ ws) h =
    let c = both (is_time_word (pos t) && int_le (pos low) (pos t) && is_value_word v) (are_pairs (pos t) ws) h in
    let b = both (is_time_word (pos t) && int_le (pos low) (pos t)) (is_value_word v) c.0 in
    let a = both (is_time_word (pos t)) (int_le (pos low) (pos t)) b.0 in
    (not_before low t a.1, pairs_wait t ws c.1)
pairs_wait low (negsuc t ∷ v ∷ ws) h = absurd cc

-- ---- times and values are bounded

put-is : (at : ℕ) (v : Value) (ps : Words) → IsTime at → IsBounded v → All AreBoundedWords ps → All AreBoundedWords (cpu_put at v ps)
put-is at v [] le b h = All-cons AreBoundedWords (pos at, word_of v) [] (le, word-is v b) (All-nil AreBoundedWords)
put-is at v (p ∷ ps) le b h = test (nat_le (natural_in p.0) at) (put-is at v ps le b (All-tail AreBoundedWords p ps h))
  where
    test : (c : Bool) → All AreBoundedWords (cpu_put at v ps) → All AreBoundedWords (if c then p ∷ cpu_put at v ps else (pos at, word_of v) ∷ p ∷ ps)
    test true rest = All-cons AreBoundedWords p (cpu_put at v ps) (All-head AreBoundedWords p ps h) rest
    test false rest = All-cons AreBoundedWords (pos at, word_of v) (p ∷ ps) (le, word-is v b) h

inputs-are : (at : ℕ) (ps : Words) (bag : Bag) → IsTime at → All IsBoundedInput bag → All AreBoundedWords ps → All AreBoundedWords (cpu_inputs at ps bag)
inputs-are at ps [] le good h = h
inputs-are at ps (i ∷ is) le good h =
    inputs-are at (cpu_put at i.1 ps) is le (All-tail IsBoundedInput i is good) (put-is at i.1 ps le (All-head IsBoundedInput i is good) h)

cpu-is : (settings state : List ℤ) (t : ℕ) (bag : Bag) → cpu_bounds.bounded_settings settings → IsDelay t → All IsBoundedInput bag → cpu_bounds.bounded_state state → IfSome (cpu_rules.moved settings state t bag) cpu_bounds.bounded_state
cpu-is settings state t bag set time good h =
    let ps = cpu_pairs state in
    subst (All AreBoundedWords) (sym (cpu_pairs-cpu_words (cpu_moved (time_setting settings) t ps bag)))
    (inputs-are (t + time_setting settings) (if is_at t (cpu_next ps) then pairs_at false (cpu_next ps) ps else ps) bag (omega (arith, set, time)) good (begun (is_at t (cpu_next ps))))
  where
    begun : (b : Bool) → All AreBoundedWords (if b then pairs_at false (cpu_next (cpu_pairs state)) (cpu_pairs state) else cpu_pairs state)
    begun true = All-filter (λ (p : ℤ × ℤ). beq false (same_time (cpu_next (cpu_pairs state)) (time_of_word p.0))) AreBoundedWords (cpu_pairs state) h
    begun false = h

cpu_next-bounded : (ps : Words) → All AreBoundedWords ps → IfSome (cpu_next ps) IsTime
cpu_next-bounded [] h = tt
cpu_next-bounded (p ∷ ps) h = (All-head AreBoundedWords p ps h).0

cpu-output : (settings state : List ℤ) → cpu_bounds.bounded_settings settings → cpu_bounds.bounded_state state → All IsBoundedInput (cpu_rules.output settings state)
cpu-output settings state set h =
    let ps = cpu_pairs state in
    outputs-are (values_in (pairs_at true (cpu_next ps) ps))
    (map-each IsBounded (λ (p : ℤ × ℤ). value_of_word p.1) AreBoundedWords (λ p k. k.1) (pairs_at true (cpu_next ps) ps)
    (All-filter (λ (p : ℤ × ℤ). beq true (same_time (cpu_next ps) (time_of_word p.0))) AreBoundedWords ps h))

-- ---- all laws

pub cpu_laws : ClassLaws cpu_rules cpu_bounds
cpu_laws = record {
  start_waits = λ settings. tt;
  state_waits = λ settings state h. pairs_wait 0 state h;
  moved_waits = cpu-waits;
  waits_later = λ state low u f h. cpu-later low u (cpu_pairs state) f h;
  next_waits = λ state low h. cpu-from low (cpu_pairs state) h;
  settings_bounded = λ ps. (time_of ps (codes "delay")).1;
  start_bounded = λ settings set. All-nil AreBoundedWords;
  moved_bounded = cpu-is;
  next_bounded = λ state h. cpu_next-bounded (cpu_pairs state) h;
  output_bounded = cpu-output;
  output_at_out = λ settings state. outputs-at (values_in (pairs_at true (cpu_next (cpu_pairs state)) (cpu_pairs state)));
  inputs_named = refl;
}
