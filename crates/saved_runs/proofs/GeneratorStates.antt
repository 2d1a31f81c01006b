-- Generators keep to the states of their class.
use Rattle.std.proofs.Common.{◌≡◌, inl, inr, ℕ, zero, suc, ◌+◌, ◌-◌, ◌≤◌, Bool, true, false}
use Rattle.std.proofs.Common.{true≢false, Option, Some, None, List, [], ◌∷◌, refl, sym, subst}
use Rattle.std.proofs.Common.{arith}
use Rattle.std.specs.Prelude.{◌&&◌, ◌==◌, not, IfSome, ℤ, pos, negsuc, if◌then◌else◌, codes}
use Rattle.std.specs.List.{All}
use Rattle.std.specs.Option.{option_map}
use Rattle.std.proofs.lemmas.List.Elements.{All-nil, All-cons}
use Rattle.std.proofs.lemmas.Bool.Decides.{nat_tests}
use Rattle.quantity.specs.declared.value.Value.{Value}
use Rattle.quantity.specs.Roots.{IsBounded}
use Rattle.quantity.specs.Arithmetic.{sum_of}
use Rattle.atomic_face.specs.declared.class.Class.TheVariants.{Generator}
use Rattle.atomic_face.specs.declared.params.Param.{Param}
use Rattle.atomic_face.specs.Words.{no_time, time_of_word, word_of, value_of_word, natural_in, is_time_word}
use Rattle.atomic_face.specs.Words.{is_zero_word, is_due_if, is_value_word}
use Rattle.atomic_face.specs.Bags.{is_at}
use Rattle.atomic_face.specs.Generator.{GeneratorState, GeneratorSettings, generator_settings}
use Rattle.atomic_face.specs.Generator.{generator_words, generator_internal, generator_moved}
use Rattle.atomic_face.specs.Generator.{generator_rules, is_left, is_generator, is_none_left}
use Rattle.atomic_face.specs.Generator.{one_less}
use Rattle.atomic_face.specs.Settings.{settings_of}
use Rattle.saved_runs.specs.Settled.{AreSettled}
use Rattle.saved_runs.specs.Kept.{IsSmall, KeepsStates}
use Rattle.saved_runs.proofs.Words.{and-both, both-and, value-word, time-word, number-word, sum-is}
use Rattle.saved_runs.proofs.Words.{due-small, value-small, number-small, none-small}
use Rattle.saved_runs.proofs.Parameters.{IsTimeWord, IsCountWord, time_of, period_of, value_of}
use Rattle.saved_runs.proofs.Parameters.{count_of}

-- what is known of the settings of a generator
pub record IsGenerator (s : GeneratorSettings) : Type 0 where
  pub start : IsTimeWord s.start
  pub period : IsTimeWord s.period
  pub value : is_value_word s.value ≡ true
  pub count : IsCountWord s.count

settings_are : (ps : List Param) → IsGenerator (generator_settings (settings_of Generator ps))
settings_are ps = record {
  start = time_of ps (codes "start");
  period = period_of ps (codes "period");
  value = value_of ps (codes "value") (pos 100000) refl;
  count = count_of ps (codes "count");
}

known : (settings : List ℤ) → AreSettled Generator settings
    → IsGenerator (generator_settings settings)
known settings h = subst (λ ws. IsGenerator (generator_settings ws)) (sym h.given)
    (settings_are h.parameters)

-- ---- the start

begins : (start value count : ℤ) → IsTimeWord start → is_value_word value ≡ true → IsCountWord count
    → (is_due_if (not (is_zero_word count)) start && is_value_word value && is_left count count) ≡ true
begins start value count time is (inl e) =
    let due : is_due_if (not (is_zero_word count)) start ≡ true =
    subst (λ c. is_due_if (not (is_zero_word c)) start ≡ true) (sym e)
    (subst (λ w. is_time_word w ≡ true) (sym time.is)
    (time-word time.time (omega (arith, time.early)))) in
    let left : is_left count count ≡ true = subst (λ c. is_left c c ≡ true) (sym e) refl in
    both-and (is_due_if (not (is_zero_word count)) start && is_value_word value) (is_left count count)
    (both-and (is_due_if (not (is_zero_word count)) start) (is_value_word value) due is) left
begins start value count time is (inr (n, c)) =
    let test : (n == 0) ≡ false = some_of n c.some in
    let timed : is_time_word start ≡ true =
    subst (λ w. is_time_word w ≡ true) (sym time.is)
    (time-word time.time (omega (arith, time.early))) in
    let due : is_due_if (not (is_zero_word count)) start ≡ true =
    subst (λ x. is_due_if (not (is_zero_word x)) start ≡ true) (sym c.is)
    (subst (λ b. is_due_if (not b) start ≡ true) (sym test) timed) in
    let left : is_left count count ≡ true =
    subst (λ x. is_left x x ≡ true) (sym c.is) (number-word n n (omega arith)) in
    both-and (is_due_if (not (is_zero_word count)) start && is_value_word value) (is_left count count)
    (both-and (is_due_if (not (is_zero_word count)) start) (is_value_word value) due is) left
  where
    some_of : (n : ℕ) → 1 ≤ n → (n == 0) ≡ false
    some_of n h = grind (arith, nat_tests)

pub generators-start : (settings : List ℤ) → AreSettled Generator settings
    → is_generator settings (generator_rules.start settings) ≡ true
generators-start settings h =
    let s = generator_settings settings in
    let k = known settings h in
    begins s.start s.value s.count k.start k.value k.count

-- ---- moves

-- what is left to count is counted down
counts_down : (count left : ℤ) → is_left count left ≡ true → is_left count (one_less left) ≡ true
counts_down (pos c) (pos n) h = let le : n ≤ c = grind (arith, nat_tests) in
    number-word c (n - 1) (omega (arith, le))
counts_down (pos c) (negsuc n) h = absurd (true≢false (sym h))
counts_down (negsuc c) (pos n) h = absurd (true≢false (sym h))
counts_down (negsuc c) (negsuc n) h = h

-- nothing is left just where 0 is
none_is_zero : (left : ℤ) (b : Bool) → is_none_left left ≡ b → is_zero_word left ≡ b
none_is_zero (pos zero) b h = h
none_is_zero (pos (suc n)) b h =
    subst (λ c. is_zero_word (pos (suc n)) ≡ c) h (let test : (suc n == 0) ≡ false =
    grind (arith, nat_tests) in test)
none_is_zero (negsuc n) b h = h

-- the words after a move
module _ (settings : List ℤ) (k : IsGenerator (generator_settings settings)) where
  words_are : (next value left : ℤ) → is_due_if (not (is_zero_word left)) next ≡ true
      → is_value_word value ≡ true → is_left (generator_settings settings).count left ≡ true
      → is_generator settings (next ∷ value ∷ left ∷ []) ≡ true
  words_are next value left due is few =
      both-and (is_due_if (not (is_zero_word left)) next && is_value_word value)
      (is_left (generator_settings settings).count left)
      (both-and (is_due_if (not (is_zero_word left)) next) (is_value_word value) due is) few

  summed : (t : ℕ) (left : ℤ) (o : Option Value) → t ≤ 359999999 → is_none_left left ≡ false
      → is_left (generator_settings settings).count left ≡ true → IfSome o IsBounded
      → IfSome (option_map generator_words
      (option_map (λ v. record {
        next =
            pos (t + natural_in (generator_settings settings).period);
        value = word_of v;
        left =
            left;
      }) o)) (λ words. is_generator settings words ≡ true)
  summed t left None time more few h = tt
  summed t left (Some v) time more few h =
      let p = k.period in
      let late : t + natural_in (generator_settings settings).period ≤ 719999998 =
      subst (λ w. t + natural_in w ≤ 719999998) (sym p.is) (omega (arith, p.early, time)) in
      let zero : is_zero_word left ≡ false = none_is_zero left false more in
      words_are (pos (t + natural_in (generator_settings settings).period)) (word_of v) left
      (subst (λ b. is_due_if (not b) (pos (t + natural_in (generator_settings settings).period))
      ≡ true) (sym zero) (time-word (t + natural_in (generator_settings settings).period)
      late))
      (value-word v h) few

  goes_on : (t : ℕ) (g : GeneratorState) (b : Bool) → is_none_left (one_less g.left) ≡ b
      → t ≤ 359999999 → is_value_word g.value ≡ true
      → is_left (generator_settings settings).count (one_less g.left) ≡ true
      → IfSome (option_map generator_words (if b then Some (record g {
        next = no_time;
        left =
            one_less g.left;
      }) else option_map (λ v. record {
        next =
            pos (t + natural_in (generator_settings settings).period);
        value = word_of v;
        left =
            one_less g.left;
      }) (sum_of (value_of_word g.value)
      (value_of_word (generator_settings settings).step)))) (λ words. is_generator settings words
      ≡ true)
  goes_on t g true e time is few =
      let zero : is_zero_word (one_less g.left) ≡ true = none_is_zero (one_less g.left) true e in
      words_are no_time g.value (one_less g.left) (subst (λ b. is_due_if (not b) no_time ≡ true)
      (sym zero) refl) is few
  goes_on t g false e time is few =
      summed t (one_less g.left)
      (sum_of (value_of_word g.value) (value_of_word (generator_settings settings).step)) time e few
      (sum-is (value_of_word g.value) (value_of_word (generator_settings settings).step))

  moves : (t : ℕ) (next value left : ℤ) → t ≤ 359999999
      → is_generator settings (next ∷ value ∷ left ∷ []) ≡ true
      → IfSome (generator_moved settings (next ∷ value ∷ left ∷ []) t)
      (λ words. is_generator settings words ≡ true)
  moves t next value left time h =
      let g : GeneratorState = record { next = next; value = value; left = left } in
      let front = and-both (is_due_if (not (is_zero_word left)) next && is_value_word value)
      (is_left (generator_settings settings).count left) h in
      let parts = and-both (is_due_if (not (is_zero_word left)) next) (is_value_word value) front.0 in
      due (is_at t (time_of_word next)) (goes_on t g (is_none_left (one_less left)) refl time parts.1
      (counts_down (generator_settings settings).count left front.1))
    where
      due : (b : Bool) → IfSome
          (option_map generator_words (generator_internal (generator_settings settings) t
          (record { next = next; value = value; left = left })))
          (λ words. is_generator settings words ≡ true)
          → IfSome (if b then option_map generator_words
          (generator_internal (generator_settings settings) t (record {
            next = next;
            value =
                value;
            left = left;
          })) else Some (next ∷ value ∷ left ∷ []))
          (λ words. is_generator settings words ≡ true)
      due true later = later
      due false later = h

pub generators-stay : KeepsStates Generator
generators-stay settings [] t bag set time good h = absurd (true≢false (sym h))
generators-stay settings (n ∷ []) t bag set time good h = absurd (true≢false (sym h))
generators-stay settings (n ∷ v ∷ []) t bag set time good h = absurd (true≢false (sym h))
generators-stay settings (n ∷ v ∷ l ∷ []) t bag set time good h =
    moves settings (known settings set) t n v l time h
generators-stay settings (n ∷ v ∷ l ∷ w ∷ ws) t bag set time good h = absurd (true≢false (sym h))

-- ---- sizes

left_small : (count left : ℤ) → IsCountWord count → is_left count left ≡ true → IsSmall left
left_small count left (inl e) h = none-small left (subst (λ c. is_left c left ≡ true) e h)
left_small count left (inr (n, c)) h =
    number-small n left (omega (arith, c.few)) (subst (λ x. is_left x left ≡ true) c.is h)

pub generators-small : (settings state : List ℤ) → AreSettled Generator settings
    → is_generator settings state ≡ true → All IsSmall state
generators-small settings [] set h = absurd (true≢false (sym h))
generators-small settings (n ∷ []) set h = absurd (true≢false (sym h))
generators-small settings (n ∷ v ∷ []) set h = absurd (true≢false (sym h))
generators-small settings (n ∷ v ∷ l ∷ []) set h =
    let front = and-both (is_due_if (not (is_zero_word l)) n && is_value_word v)
    (is_left (generator_settings settings).count l) h in
    let parts = and-both (is_due_if (not (is_zero_word l)) n) (is_value_word v) front.0 in
    All-cons IsSmall n (v ∷ l ∷ []) (due-small (not (is_zero_word l)) n parts.0)
    (All-cons IsSmall v (l ∷ []) (value-small v parts.1)
    (All-cons IsSmall l [] (left_small (generator_settings settings).count l
    (known settings set).count front.1) (All-nil IsSmall)))
generators-small settings (n ∷ v ∷ l ∷ w ∷ ws) set h = absurd (true≢false (sym h))
