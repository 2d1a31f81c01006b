-- The settings that parameters give a table are bounded.
use Rattle.std.proofs.Common.{◌≡◌, ℕ, suc, ◌^◌, ◌≤◌, Bool, true, false, cond, Option, Some, None, List, [], ◌∷◌, ◌++◌, length, refl, sym, subst, arith}
use Rattle.std.specs.Prelude.{◌==◌, ℤ, pos, negsuc, codes}
use Rattle.std.specs.List.{All, AllByRecursion, find, filter_map, cons_option, flat_map, range_with_len}
use Rattle.std.specs.Option.{option_map, unwrap_or}
use Rattle.std.specs.Str.{bytes_eq}
use Rattle.std.proofs.lemmas.List.Elements.{All-nil, All-cons}
use Rattle.std.proofs.lemmas.List.FromFn.{length-range_with_len}
use Rattle.quantity.specs.Bytes.{Bytes, words, all_there}
use Rattle.quantity.specs.Literals.{value_in}
use Rattle.quantity.specs.Times.{time_in}
use Rattle.atomic_face.specs.declared.params.Param.{Param}
use Rattle.atomic_face.specs.Words.{word_of, natural_in}
use Rattle.atomic_face.specs.TableSettings.{any_word, HoldWords, hold_words_of, hold_of_words, hold_in, holds_of, hold_words, with_key, value_or, word_in, number_of_name, take_in, settings_with}
use Rattle.atomic_face.specs.StateTable.{holds_in, same_word, table_settings}
use Rattle.run_model.specs.ClassBounds.{IsValueWord}
use Rattle.run_model.specs.TableBounds.{IsBoundedHold}
use Rattle.run_model.proofs.Basics.{true_false, none_some, some_same}
use Rattle.run_model.proofs.BoundedParameters.{IsTimeWord, timed, time_word_is, valued_is}

-- a time, a value and a state
pub record IsHold (ws : List ℤ) : Type 0 where
  pub time : ℤ
  pub value : ℤ
  pub next : ℤ
  pub same : ws ≡ time ∷ value ∷ next ∷ []
  pub bounded : IsBoundedHold (record { time = time; value = value; next = natural_in next })

last_or_value : (text : Bytes) (w : ℤ) → value_or (codes "last") text ≡ Some w → same_word w any_word ≡ false → IsValueWord w
last_or_value text w e h = go (bytes_eq text (codes "last")) e
  where
    go : (b : Bool) → cond b (Some any_word) (option_map word_of (value_in text)) ≡ Some w → IsValueWord w
    go true f = absurd (true_false (subst (λ v. same_word v any_word ≡ false) (sym (some_same any_word w f)) h))
    go false f = valued_is text w f

three_are : (a b c : Option ℤ) (ws : List ℤ) → ((t : ℤ) → a ≡ Some t → IsTimeWord t) → ((v : ℤ) → b ≡ Some v → same_word v any_word ≡ false → IsValueWord v) → all_there (a ∷ b ∷ c ∷ []) ≡ Some ws → IsHold ws
three_are None b c ws ha hb e = absurd (none_some e)
three_are (Some t) None c ws ha hb e = absurd (none_some e)
three_are (Some t) (Some v) None ws ha hb e = absurd (none_some e)
three_are (Some t) (Some v) (Some k) ws ha hb e =
    record { time = t; value = v; next = k; same = sym (some_same (t ∷ v ∷ k ∷ []) ws e); bounded = (ha t refl, hb v refl) }

hold_is : (o : Option ℕ) (ws : Option (List ℤ)) (h : HoldWords) → ((l : List ℤ) → ws ≡ Some l → IsHold l) → hold_words_of o ws ≡ Some h → IsHold h.words
hold_is None None h each e = absurd (none_some e)
hold_is None (Some l) h each e = absurd (none_some e)
hold_is (Some n) None h each e = absurd (none_some e)
hold_is (Some n) (Some l) h each e =
    let made : HoldWords = record { state = n; words = l } in
    subst (λ (x : HoldWords). IsHold x.words) (some_same made h e) (each l refl)

words_are : (names texts : List Bytes) (h : HoldWords) → hold_of_words names texts ≡ Some h → IsHold h.words
words_are names [] h e = absurd (none_some e)
words_are names (a ∷ []) h e = absurd (none_some e)
words_are names (a ∷ b ∷ []) h e = absurd (none_some e)
words_are names (a ∷ b ∷ c ∷ []) h e = absurd (none_some e)
words_are names (a ∷ b ∷ c ∷ d ∷ []) h e =
    hold_is (number_of_name names a) (all_there (timed (time_in b) ∷ value_or (codes "last") c ∷ word_in names d ∷ [])) h
    (λ l f. three_are (timed (time_in b)) (value_or (codes "last") c) (word_in names d) l (λ t g. (time_word_is b t g).0) (last_or_value c) f) e
words_are names (a ∷ b ∷ c ∷ d ∷ x ∷ xs) h e = absurd (none_some e)

abbrev HasHold : HoldWords → Type 0
HasHold h = IsHold h.words

no_hold : IsHold (negsuc 0 ∷ pos 0 ∷ pos 0 ∷ [])
no_hold = record { time = negsuc 0; value = pos 0; next = pos 0; same = refl; bounded = (tt, λ e. zero_bounded) }
  where
    zero_bounded : 0 ≤ 10 ^ 15
    zero_bounded = omega arith

-- the holds that are found
found_holds : (names : List Bytes) (es : List Param) → AllByRecursion HasHold (filter_map (hold_in names) es)
found_holds names [] = tt
found_holds names (e ∷ es) = go (hold_in names e) refl (found_holds names es)
  where
    go : (o : Option HoldWords) → hold_in names e ≡ o → AllByRecursion HasHold (filter_map (hold_in names) es) → AllByRecursion HasHold (cons_option o (filter_map (hold_in names) es))
    go None f rest = rest
    go (Some h) f rest = (words_are names (words e.value) h f, rest)

state_holds : (hs : List HoldWords) (state : ℕ) → AllByRecursion HasHold hs → IsHold (hold_words hs state)
state_holds [] state all = no_hold
state_holds (h ∷ hs) state all = go (h.state == state) (state_holds hs state all.1)
  where
    go : (b : Bool) → IsHold (hold_words hs state) → IsHold (unwrap_or (option_map (λ (h : HoldWords). h.words) (cond b (Some h) (find (λ (h : HoldWords). h.state == state) hs))) (negsuc 0 ∷ pos 0 ∷ pos 0 ∷ []))
    go true rest = all.0
    go false rest = rest

holds_bounded : (words_of : ℕ → List ℤ) (ks : List ℕ) (rest : List ℤ) → ((k : ℕ) → IsHold (words_of k)) → All IsBoundedHold (holds_in (length ks) (flat_map words_of ks ++ rest))
holds_bounded words_of [] rest each = All-nil IsBoundedHold
holds_bounded words_of (k ∷ ks) rest each =
    let h = each k in
    subst (λ ws. All IsBoundedHold (holds_in (suc (length ks)) ((ws ++ flat_map words_of ks) ++ rest))) (sym h.same)
    (All-cons IsBoundedHold (record { time = h.time; value = h.value; next = natural_in h.next }) (holds_in (length ks) (flat_map words_of ks ++ rest)) h.bounded (holds_bounded words_of ks rest each))

pub table_bounded : (names : List Bytes) (es : List Param) → All IsBoundedHold (table_settings (settings_with names es)).holds
table_bounded names es =
    let states = range_with_len 0 (length names) in
    let rest = flat_map (λ ws. ws) (filter_map (take_in names) (with_key (codes "take") es)) in
    subst (λ n. All IsBoundedHold (holds_in n (flat_map (hold_words (holds_of names es)) states ++ rest))) (length-range_with_len 0 (length names))
    (holds_bounded (hold_words (holds_of names es)) states rest (λ k. state_holds (holds_of names es) k (found_holds names (with_key (codes "hold") es))))
