-- One step of a loop over words, pairs or inputs, and words of a fixed number.
use Rattle.std.proofs.Common.{◌≡◌, ℕ, ◌+◌, ◌<◌, ◌≤◌, true, false, Option, Some, List, [], ◌∷◌, ◌++◌, map, take, drop, get_or, length, refl, sym, ap, ◌∙◌, arith}
use Rattle.std.specs.Prelude.{ℤ, pos, ◌&&◌, if◌then◌else◌}
use Rattle.std.specs.Result.{is_err, is_ok}
use Rattle.std.specs.declared.result.Result.{Result}
use Rattle.std.specs.declared.result.Result.TheVariants.{Ok, Err}
use Rattle.std.proofs.lemmas.List.{append-nil, append_assoc, drop_all, drop_more, map-append, take_more}
use Rattle.quantity.specs.declared.value.Value.{Value}
use Rattle.quantity.specs.Written.{for_some}
use Rattle.atomic_face.specs.declared.class.PortNo.{PortNo}
use Rattle.atomic_face.specs.Classes.{Bag}
use Rattle.atomic_face.specs.Counter.{CounterState, counter_input, counter_inputs, is_counter}
use Rattle.atomic_face.specs.Generator.{is_generator}
use Rattle.atomic_face.specs.Words.{are_values, is_value_word, word_of}
use Rattle.atomic_kinds.specs.Pairs.{pair_words}

-- ---- words of a fixed number

pub not_counter : (words : List ℤ) → (length words ≡ 2 → ⊥) → is_counter words ≡ false
not_counter [] h = refl
not_counter (x ∷ []) h = refl
not_counter (x ∷ y ∷ []) h = absurd (h refl)
not_counter (x ∷ y ∷ z ∷ ws) h = refl

pub not_generator : (settings words : List ℤ) → (length words ≡ 3 → ⊥) → is_generator settings words ≡ false
not_generator settings [] h = refl
not_generator settings (x ∷ []) h = refl
not_generator settings (x ∷ y ∷ []) h = refl
not_generator settings (x ∷ y ∷ z ∷ []) h = absurd (h refl)
not_generator settings (x ∷ y ∷ z ∷ v ∷ ws) h = refl

pub two_words : (words : List ℤ) (x y d : ℤ) → length words ≡ 2 → x ≡ get_or words 0 d → y ≡ get_or words 1 d → words ≡ x ∷ y ∷ []
two_words [] x y d n e f = absurd (omega (arith, n))
two_words (a ∷ []) x y d n e f = absurd (omega (arith, n))
two_words (a ∷ b ∷ []) x y d n e f = rw (e, f) refl
two_words (a ∷ b ∷ c ∷ ws) x y d n e f = absurd (omega (arith, n))

pub three_words : (words : List ℤ) (x y z d : ℤ) → length words ≡ 3 → x ≡ get_or words 0 d → y ≡ get_or words 1 d → z ≡ get_or words 2 d → words ≡ x ∷ y ∷ z ∷ []
three_words [] x y z d n e f g = absurd (omega (arith, n))
three_words (a ∷ []) x y z d n e f g = absurd (omega (arith, n))
three_words (a ∷ b ∷ []) x y z d n e f g = absurd (omega (arith, n))
three_words (a ∷ b ∷ c ∷ []) x y z d n e f g = rw (e, f, g) refl
three_words (a ∷ b ∷ c ∷ v ∷ ws) x y z d n e f g = absurd (omega (arith, n))

-- ---- values of words

-- what a list is where an element was taken into it
pub taken_into : {A E X : Type 0} (r : Result A E) (new with_it without : List X) → new ≡ (if is_ok r then with_it else without) → is_err r ≡ false → new ≡ with_it
taken_into (Ok x) new with_it without is e = is
taken_into (Err y) new with_it without is e = absurd cc

module _ (words : List ℤ) (i : ℕ) (d x : ℤ) (within : i < length words) (same : x ≡ get_or words i d) where
  here : are_values (drop i words) ≡ (is_value_word x && are_values (drop (i + 1) words))
  here = ap are_values (drop_more words i d within) ∙ ap (λ y. is_value_word y && are_values (drop (i + 1) words)) (sym same)

  pub no_value : is_value_word x ≡ false → are_values (drop i words) ≡ are_values words → are_values words ≡ false
  no_value bad e = sym e ∙ here ∙ ap (λ b. b && are_values (drop (i + 1) words)) bad

  pub values_go_on : is_value_word x ≡ true → are_values (drop i words) ≡ are_values words → are_values (drop (i + 1) words) ≡ are_values words
  values_go_on good e = sym (here ∙ ap (λ b. b && are_values (drop (i + 1) words)) good) ∙ e

  pub one_value_more : (values more : List Value) (v : Value) → more ≡ values ++ v ∷ [] → word_of v ≡ x → map word_of values ≡ take i words → map word_of more ≡ take (i + 1) words
  one_value_more values more v is word e =
      ap (map word_of) is ∙ map-append word_of values (v ∷ []) ∙ ap (λ ws. ws ++ word_of v ∷ []) e
      ∙ ap (λ w. take i words ++ w ∷ []) (word ∙ same) ∙ sym (take_more words i d within)

pub all_values : (words : List ℤ) (i : ℕ) → length words ≤ i → are_values (drop i words) ≡ are_values words → are_values words ≡ true
all_values words i all e = sym e ∙ ap are_values (drop_all i words all)

-- ---- words of pairs

pub pair_put : (words more last whole : List ℤ) (t v : ℤ) (ps : List (ℕ × Value)) (i : ℕ) (d p : ℕ × Value) → i < length ps → p ≡ get_or ps i d → t ≡ pos p.0 → v ≡ word_of p.1
    → more ≡ words ++ t ∷ [] → last ≡ more ++ v ∷ [] → words ++ pair_words (drop i ps) ≡ whole → last ++ pair_words (drop (i + 1) ps) ≡ whole
pair_put words more last whole t v ps i d p within is a b e f inv =
    let rest = pair_words (drop (i + 1) ps) in
    ap (λ ws. ws ++ rest) (f ∙ ap (λ ws. ws ++ v ∷ []) e) ∙ append_assoc (words ++ t ∷ []) (v ∷ []) rest ∙ append_assoc words (t ∷ []) (v ∷ rest)
    ∙ ap (λ w. words ++ w ∷ v ∷ rest) a ∙ ap (λ w. words ++ pos p.0 ∷ w ∷ rest) b
    ∙ ap (λ qs. words ++ pair_words qs) (ap (λ q. q ∷ drop (i + 1) ps) is ∙ sym (drop_more ps i d within)) ∙ inv

pub all_put : (words whole : List ℤ) (ps : List (ℕ × Value)) (i : ℕ) → length ps ≤ i → words ++ pair_words (drop i ps) ≡ whole → words ≡ whole
all_put words whole ps i all inv = sym (append-nil words) ∙ ap (λ qs. words ++ pair_words qs) (sym (drop_all i ps all)) ∙ inv

-- ---- inputs of a counter

module _ (settings : List ℤ) (now : CounterState) (bag : Bag) (i : ℕ) where
  pub input_counted : (whole : Option CounterState) (after : CounterState) (d input : PortNo × Value) → i < length bag → input ≡ get_or bag i d → counter_input settings now input ≡ Some after
      → counter_inputs settings now (drop i bag) ≡ whole → counter_inputs settings after (drop (i + 1) bag) ≡ whole
  input_counted whole after d input within is counted e =
      sym (ap (counter_inputs settings now) (drop_more bag i d within ∙ ap (λ x. x ∷ drop (i + 1) bag) (sym is))
      ∙ ap (λ o. for_some o (λ state. counter_inputs settings state (drop (i + 1) bag))) counted) ∙ e

  pub all_counted : (whole : Option CounterState) → length bag ≤ i → counter_inputs settings now (drop i bag) ≡ whole → whole ≡ Some now
  all_counted whole all e = sym e ∙ ap (counter_inputs settings now) (drop_all i bag all)
