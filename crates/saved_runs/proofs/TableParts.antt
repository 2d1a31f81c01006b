-- The holds and takes of a table whose parameters are all of their form.
use Rattle.std.proofs.Common.{◌≡◌, ◌⊎◌, inl, inr, ℕ, zero, suc, ◌+◌, ◌*◌, ◌<◌, ◌≤◌, Bool, true}
use Rattle.std.proofs.Common.{false, cond, Option, Some, None, List, [], ◌∷◌, ◌++◌, length, take}
use Rattle.std.proofs.Common.{drop, map, refl, sym, ap, ◌∙◌, subst, arith}
use Rattle.std.specs.Prelude.{◌&&◌, ◌==◌, not, nat_le, nat_lt, slice_get, ℤ, pos, negsuc, codes}
use Rattle.std.specs.List.{AllByRecursion, find, filter, filter_map, cons_option, flat_map}
use Rattle.std.specs.List.{list_all, position, position_or_len, range_with_len}
use Rattle.std.specs.Option.{option_map, option_and_then, unwrap_or}
use Rattle.std.specs.Str.{bytes_eq}
use Rattle.std.proofs.lemmas.Bool.Decides.{nat_tests}
use Rattle.std.proofs.lemmas.List.FromFn.{length-range_with_len}
use Rattle.quantity.specs.Bytes.{Bytes, words, all_there, has_repeat}
use Rattle.quantity.specs.Names.{is_name}
use Rattle.quantity.specs.Digits.{has_length}
use Rattle.quantity.specs.Times.{time_in}
use Rattle.atomic_face.specs.declared.class.Class.TheVariants.{Table}
use Rattle.atomic_face.specs.declared.params.Param.{Param}
use Rattle.atomic_face.specs.Words.{natural_in}
use Rattle.atomic_face.specs.TableSettings.{HoldWords, hold_words_of, hold_of_words, hold_in, holds_of}
use Rattle.atomic_face.specs.TableSettings.{hold_words, with_key, value_with, value_or, word_in}
use Rattle.atomic_face.specs.TableSettings.{number_of_name, take_in, take_of_words, settings_with}
use Rattle.atomic_face.specs.TableSettings.{states_in, states_of, are_states, initial_word}
use Rattle.atomic_face.specs.TableSettings.{table_ports, lines_off_with, table_lines_off}
use Rattle.atomic_face.specs.StateTable.{Hold, Take, holds_in, takes_in, table_settings, word_at}
use Rattle.atomic_face.specs.Settings.{least_line, first_line_off}
use Rattle.run_model.proofs.Basics.{none_some, some_none, some_same, map_there, then_there}
use Rattle.run_model.proofs.Basics.{cons_nil}
use Rattle.run_model.proofs.BoundedTexts.{time_early}
use Rattle.saved_runs.specs.Settled.{AreSettled}
use Rattle.saved_runs.proofs.Words.{and-both}
use Rattle.saved_runs.proofs.Parameters.{IsTimeWord}

-- ---- numbers of states

position-below : {X : Type 0} (test : X → Bool) (xs : List X) (n : ℕ) → position test xs ≡ Some n
    → n < length xs
position-below test xs n e =
    let p = chosen (nat_lt (position_or_len test xs) (length xs)) (position_or_len test xs) e in
    subst (λ m. m < length xs) p.1 (below (position_or_len test xs) (length xs) p.0)
  where
    chosen : (b : Bool) (m : ℕ) → cond b (Some m) None ≡ Some n → (b ≡ true) × (m ≡ n)
    chosen true m f = (refl, some_same m n f)
    chosen false m f = absurd (none_some f)

    below : (a b : ℕ) → nat_lt a b ≡ true → a < b
    below a b h = grind (arith, nat_tests)

-- the word of a state
pub record IsStateWord (states : ℕ) (w : ℤ) : Type 0 where
  pub number : ℕ
  pub is : w ≡ pos number
  pub below : number < states

word-below : (names : List Bytes) (text : Bytes) (w : ℤ) → word_in names text ≡ Some w
    → IsStateWord (length names) w
word-below names text w e =
    let p = map_there (λ n. pos n) (number_of_name names text) w e in
    record { number = p.0; is = sym p.2; below = position-below (bytes_eq text) names p.0 p.1 }

-- ---- a hold

-- no time, or one of at most 99:59:59:999
abbrev pub IsHoldTime : ℤ → Type 0
IsHoldTime w = (w ≡ negsuc 0) ⊎ IsTimeWord w

-- a time, a value and a state
pub record IsHold (states : ℕ) (ws : List ℤ) : Type 0 where
  pub time : ℤ
  pub value : ℤ
  pub next : ℕ
  pub same : ws ≡ time ∷ value ∷ pos next ∷ []
  pub timed : IsHoldTime time
  pub below : next < states

timed-is : (text : Bytes) (w : ℤ) → option_map (λ n. pos n) (time_in text) ≡ Some w → IsTimeWord w
timed-is text w e =
    let p = map_there (λ n. pos n) (time_in text) w e in
    record { time = p.0; is = sym p.2; early = time_early text p.0 p.1 }

three_are : (states : ℕ) (a b c : Option ℤ) (ws : List ℤ) → ((t : ℤ) → a ≡ Some t → IsTimeWord t)
    → ((k : ℤ) → c ≡ Some k → IsStateWord states k) → all_there (a ∷ b ∷ c ∷ []) ≡ Some ws
    → IsHold states ws
three_are states None b c ws ha hc e = absurd (none_some e)
three_are states (Some t) None c ws ha hc e = absurd (none_some e)
three_are states (Some t) (Some v) None ws ha hc e = absurd (none_some e)
three_are states (Some t) (Some v) (Some k) ws ha hc e =
    let n = hc k refl in
    record {
      time = t;
      value = v;
      next = n.number;
      same = sym (some_same (t ∷ v ∷ k ∷ []) ws e)
          ∙ ap (λ x. t ∷ v ∷ x ∷ []) n.is;
      timed = inr (ha t refl);
      below = n.below;
    }

hold_is : (states : ℕ) (o : Option ℕ) (ws : Option (List ℤ)) (h : HoldWords)
    → ((l : List ℤ) → ws ≡ Some l → IsHold states l) → hold_words_of o ws ≡ Some h → IsHold states h.words
hold_is states None None h each e = absurd (none_some e)
hold_is states None (Some l) h each e = absurd (none_some e)
hold_is states (Some n) None h each e = absurd (none_some e)
hold_is states (Some n) (Some l) h each e =
    let made : HoldWords = record { state = n; words = l } in
    subst (λ (x : HoldWords). IsHold states x.words) (some_same made h e) (each l refl)

words_are : (names texts : List Bytes) (h : HoldWords) → hold_of_words names texts ≡ Some h
    → IsHold (length names) h.words
words_are names [] h e = absurd (none_some e)
words_are names (a ∷ []) h e = absurd (none_some e)
words_are names (a ∷ b ∷ []) h e = absurd (none_some e)
words_are names (a ∷ b ∷ c ∷ []) h e = absurd (none_some e)
words_are names (a ∷ b ∷ c ∷ d ∷ []) h e =
    hold_is (length names) (number_of_name names a)
    (all_there (option_map (λ n. pos n) (time_in b) ∷ value_or (codes "last") c ∷ word_in names
    d ∷ [])) h
    (λ l f. three_are (length names) (option_map (λ n. pos n) (time_in b))
    (value_or (codes "last") c) (word_in names d) l (timed-is b) (word-below names d) f) e
words_are names (a ∷ b ∷ c ∷ d ∷ x ∷ xs) h e = absurd (none_some e)

abbrev HasHold : ℕ → HoldWords → Type 0
HasHold states h = IsHold states h.words

found_holds : (names : List Bytes) (es : List Param)
    → AllByRecursion (HasHold (length names)) (filter_map (hold_in names) es)
found_holds names [] = tt
found_holds names (e ∷ es) = go (hold_in names e) refl (found_holds names es)
  where
    go : (o : Option HoldWords) → hold_in names e ≡ o
        → AllByRecursion (HasHold (length names)) (filter_map (hold_in names) es)
        → AllByRecursion (HasHold (length names)) (cons_option o (filter_map (hold_in names) es))
    go None f rest = rest
    go (Some h) f rest = (words_are names (words e.value) h f, rest)

no_hold : (states : ℕ) → 1 ≤ states → IsHold states (negsuc 0 ∷ pos 0 ∷ pos 0 ∷ [])
no_hold states some = record {
  time = negsuc 0;
  value = pos 0;
  next = 0;
  same = refl;
  timed =
      inl refl;
  below = omega (arith, some);
}

state_holds : (states : ℕ) → 1 ≤ states → (hs : List HoldWords) (state : ℕ)
    → AllByRecursion (HasHold states) hs → IsHold states (hold_words hs state)
state_holds states some [] state all = no_hold states some
state_holds states some (h ∷ hs) state all =
    go (h.state == state) (state_holds states some hs state all.1)
  where
    go : (b : Bool) → IsHold states (hold_words hs state)
        → IsHold states (unwrap_or (option_map (λ (h : HoldWords). h.words)
        (cond b (Some h) (find (λ (h : HoldWords). h.state == state) hs)))
        (negsuc 0 ∷ pos 0 ∷ pos 0 ∷ []))
    go true rest = all.0
    go false rest = rest

-- ---- holds by their places

-- the hold of a state, with its first word among these words
pub record HeldAt (states n : ℕ) (ws : List ℤ) (k : ℕ) : Type 0 where
  pub hold : Hold
  pub there : slice_get (holds_in n ws) k ≡ Some hold
  pub word : slice_get ws (3 * k) ≡ Some hold.time
  pub timed : IsHoldTime hold.time
  pub below : hold.next < states

three_more : (k : ℕ) → suc (suc (suc (3 * k))) ≡ 3 * suc k
three_more k = omega arith

held_at : (states : ℕ) (words_of : ℕ → List ℤ) (ks : List ℕ) (rest : List ℤ)
    → ((k : ℕ) → IsHold states (words_of k)) → (j : ℕ) → j < length ks
    → HeldAt states (length ks) (flat_map words_of ks ++ rest) j
held_at states words_of [] rest each j lt = absurd (omega (arith, lt))
held_at states words_of (k ∷ ks) rest each zero lt =
    let h = each k in
    subst (λ ws. HeldAt states (suc (length ks)) ((ws ++ flat_map words_of ks) ++ rest) zero)
    (sym h.same)
    (record {
      hold = record { time = h.time; value = h.value; next = h.next };
      there = refl;
      word =
          refl;
      timed = h.timed;
      below = h.below;
    })
held_at states words_of (k ∷ ks) rest each (suc m) lt =
    let h = each k in
    let r = held_at states words_of ks rest each m (omega (arith, lt)) in
    subst (λ ws. HeldAt states (suc (length ks)) ((ws ++ flat_map words_of ks) ++ rest) (suc m))
    (sym h.same)
    (record {
      hold = r.hold;
      there = r.there;
      word = subst (λ i. slice_get (h.time ∷ h.value ∷ pos h.next ∷ (flat_map words_of ks ++ rest))
          i ≡ Some r.hold.time) (three_more m) r.word;
      timed = r.timed;
      below = r.below;
    })

-- what stands behind the holds
behind : (states : ℕ) (words_of : ℕ → List ℤ) (ks : List ℕ) (rest : List ℤ)
    → ((k : ℕ) → IsHold states (words_of k)) → drop (3 * length ks) (flat_map words_of ks ++ rest)
    ≡ rest
behind states words_of [] rest each = refl
behind states words_of (k ∷ ks) rest each =
    let h = each k in
    subst (λ ws. drop (3 * suc (length ks)) ((ws ++ flat_map words_of ks) ++ rest) ≡ rest)
    (sym h.same)
    (subst (λ i. drop i (h.time ∷ h.value ∷ pos h.next ∷ (flat_map words_of ks ++ rest)) ≡ rest)
    (three_more (length ks)) (behind states words_of ks rest each))

-- ---- takes

-- the words of a take that leads to a state
pub record IsTakeWords (states : ℕ) (ws : List ℤ) : Type 0 where
  pub state : ℤ
  pub port : ℤ
  pub match : ℤ
  pub next : ℕ
  pub same : ws ≡ state ∷ port ∷ match ∷ pos next ∷ []
  pub below : next < states

four_are : (states : ℕ) (a b c d : Option ℤ) (ws : List ℤ)
    → ((k : ℤ) → d ≡ Some k → IsStateWord states k) → all_there (a ∷ b ∷ c ∷ d ∷ []) ≡ Some ws
    → IsTakeWords states ws
four_are states None b c d ws hd e = absurd (none_some e)
four_are states (Some s) None c d ws hd e = absurd (none_some e)
four_are states (Some s) (Some p) None d ws hd e = absurd (none_some e)
four_are states (Some s) (Some p) (Some m) None ws hd e = absurd (none_some e)
four_are states (Some s) (Some p) (Some m) (Some k) ws hd e =
    let n = hd k refl in
    record {
      state = s;
      port = p;
      match = m;
      next = n.number;
      same =
          sym (some_same (s ∷ p ∷ m ∷ k ∷ []) ws e) ∙ ap (λ x. s ∷ p ∷ m ∷ x ∷ []) n.is;
      below =
          n.below;
    }

take_is : (names texts : List Bytes) (ws : List ℤ) → take_of_words names texts ≡ Some ws
    → IsTakeWords (length names) ws
take_is names [] ws e = absurd (none_some e)
take_is names (a ∷ []) ws e = absurd (none_some e)
take_is names (a ∷ b ∷ []) ws e = absurd (none_some e)
take_is names (a ∷ b ∷ c ∷ []) ws e = absurd (none_some e)
take_is names (a ∷ b ∷ c ∷ d ∷ []) ws e =
    four_are (length names) (word_in names a) (word_in table_ports b) (value_or (codes "any") c)
    (word_in names d) ws (word-below names d) e
take_is names (a ∷ b ∷ c ∷ d ∷ x ∷ xs) ws e = absurd (none_some e)

found_takes : (names : List Bytes) (es : List Param)
    → AllByRecursion (IsTakeWords (length names)) (filter_map (take_in names) es)
found_takes names [] = tt
found_takes names (e ∷ es) = go (take_in names e) refl (found_takes names es)
  where
    go : (o : Option (List ℤ)) → take_in names e ≡ o
        → AllByRecursion (IsTakeWords (length names)) (filter_map (take_in names) es)
        → AllByRecursion (IsTakeWords (length names))
        (cons_option o (filter_map (take_in names) es))
    go None f rest = rest
    go (Some ws) f rest = (take_is names (words e.value) ws f, rest)

abbrev pub LeadsBelow : ℕ → Take → Type 0
LeadsBelow states k = k.next < states

takes_below : (states : ℕ) (lists : List (List ℤ)) → AllByRecursion (IsTakeWords states) lists
    → AllByRecursion (LeadsBelow states) (takes_in (flat_map (λ ws. ws) lists))
takes_below states [] h = tt
takes_below states (l ∷ ls) h =
    subst (λ ws. AllByRecursion (LeadsBelow states) (takes_in (ws ++ flat_map (λ ws. ws) ls)))
    (sym h.0.same)
    (h.0.below, takes_below states ls h.1)

-- ---- the states

no_lines : (ns : List ℕ) → least_line ns ≡ None → ns ≡ []
no_lines [] e = refl
no_lines (n ∷ ns) e = absurd (some_none e)

none_passes : {X : Type 0} (test : X → Bool) (xs : List X) → filter test xs ≡ []
    → find test xs ≡ None
none_passes test [] e = refl
none_passes test (x ∷ xs) e = go (test x) (λ f. none_passes test xs f) e
  where
    go : (b : Bool) → (filter test xs ≡ [] → find test xs ≡ None)
        → cond b (x ∷ filter test xs) (filter test xs) ≡ [] → cond b (Some x) (find test xs) ≡ None
    go true later f = absurd (cons_nil f)
    go false later f = later f

no_line : (es : List Param) → map (λ (e : Param). e.line) (take 1 es) ≡ [] → es ≡ []
no_line [] e = refl
no_line (x ∷ xs) e = absurd (cons_nil e)

-- from 1 to 64 states
pub record AreNames (names : List Bytes) : Type 0 where
  pub some : 1 ≤ length names
  pub few : length names ≤ 64

named-in : (o : Option Bytes) (names : List Bytes) → states_in o ≡ Some names → AreNames names
named-in None names e =
    let same : codes "idle" ∷ [] ≡ names = some_same (codes "idle" ∷ []) names e in
    subst AreNames same (record { some = omega arith; few = omega arith })
named-in (Some text) names e =
    let p = then_there (are_states (words text)) (words text) names e in
    let q = and-both (has_length 1 64 (words text) && list_all is_name (words text))
    (not (has_repeat (words text))) p.0 in
    let r = and-both (has_length 1 64 (words text)) (list_all is_name (words text)) q.0 in
    let s = and-both (nat_le 1 (length (words text))) (nat_le (length (words text)) 64) r.0 in
    subst AreNames p.1 (record {
      some = at_most 1 (length (words text)) s.0;
      few =
          at_most (length (words text)) 64 s.1;
    })
  where
    at_most : (a b : ℕ) → nat_le a b ≡ true → a ≤ b
    at_most a b h = grind (arith, nat_tests)

-- the names of the states, where no parameter is off its form
pub record Named (es : List Param) : Type 0 where
  pub names : List Bytes
  pub states : states_of es ≡ Some names
  pub right : AreNames names

pub named : (es : List Param) → first_line_off Table es ≡ None → Named es
named es e = go (states_of es) refl (no_lines (table_lines_off es) e)
  where
    none : states_of es ≡ None → with_key (codes "states") es ≡ [] → ⊥
    none f g =
        let absent : value_with (codes "states") es ≡ None =
        ap (option_map (λ (x : Param). x.value))
        (none_passes (λ (x : Param). bytes_eq x.key (codes "states")) es g) in
        some_none (sym (ap states_in absent) ∙ f)

    go : (o : Option (List Bytes)) → states_of es ≡ o → lines_off_with o es ≡ [] → Named es
    go None f h = absurd (none f (no_line (with_key (codes "states") es) h))
    go (Some names) f h = record {
      names = names;
      states = f;
      right =
          named-in (value_with (codes "states") es) names f;
    }

first-below : (names : List Bytes) (es : List Param) → 1 ≤ length names
    → natural_in (initial_word names es) < length names
first-below names es some = go (value_with (codes "initial") es)
  where
    found : (text : Bytes) (o : Option ℕ) → number_of_name names text ≡ o
        → natural_in (unwrap_or (option_map (λ n. pos n) o) (pos 0)) < length names
    found text None f = omega (arith, some)
    found text (Some n) f = position-below (bytes_eq text) names n f

    go : (o : Option Bytes) → natural_in (unwrap_or (option_and_then (word_in names) o) (pos 0)) <
        length names
    go None = omega (arith, some)
    go (Some text) = found text (number_of_name names text) refl

-- ---- a table

-- what is known of the settings of a table
pub record IsTable (settings : List ℤ) : Type 0 where
  pub states : ℕ
  pub few : states ≤ 64
  pub size : natural_in (word_at settings 0) ≡ states
  pub first : (table_settings settings).initial < states
  pub held : (k : ℕ) → k < states → (hold : Hold)
      × (slice_get (table_settings settings).holds k ≡ Some hold)
      × (word_at settings (2 + 3 * k) ≡ hold.time) × IsHoldTime hold.time × (hold.next < states)
  pub takes : AllByRecursion (LeadsBelow states) (table_settings settings).takes

settings_are : (names : List Bytes) (es : List Param) → AreNames names
    → IsTable (settings_with names es)
settings_are names es right = record {
  states = length names;
  few = right.few;
  size = refl;
  first = first-below names es right.some;
  held = λ k lt. held k lt;
  takes = subst (λ ws. AllByRecursion (LeadsBelow (length names)) (takes_in ws)) (sym after)
      (takes_below (length names) (filter_map (take_in names) (with_key (codes "take") es))
      (found_takes names (with_key (codes "take") es)));
}
  where
    words_of : ℕ → List ℤ
    words_of = hold_words (holds_of names es)

    ks : List ℕ
    ks = range_with_len 0 (length names)

    rest : List ℤ
    rest = flat_map (λ ws. ws) (filter_map (take_in names) (with_key (codes "take") es))

    long : length ks ≡ length names
    long = length-range_with_len 0 (length names)

    each : (k : ℕ) → IsHold (length names) (words_of k)
    each k = state_holds (length names) right.some (holds_of names es) k
        (found_holds names (with_key (codes "hold") es))

    after : drop (3 * length names) (flat_map words_of ks ++ rest) ≡ rest
    after = subst (λ n. drop (3 * n) (flat_map words_of ks ++ rest) ≡ rest) long
        (behind (length names) words_of ks rest each)

    word : (k : ℕ) (w : ℤ) → slice_get (flat_map words_of ks ++ rest) (3 * k) ≡ Some w
        → word_at (settings_with names es) (2 + 3 * k) ≡ w
    word k w e = subst (λ i. word_at (settings_with names es) i ≡ w) (two_more k)
        (ap (λ o. unwrap_or o (negsuc 0)) e)
      where
        two_more : (k : ℕ) → suc (suc (3 * k)) ≡ 2 + 3 * k
        two_more k = omega arith

    held : (k : ℕ) → k < length names → (hold : Hold)
        × (slice_get (table_settings (settings_with names es)).holds k ≡ Some hold)
        × (word_at (settings_with names es) (2 + 3 * k) ≡ hold.time) × IsHoldTime hold.time
        × (hold.next < length names)
    held k lt =
        let inside = subst (λ n. k < n) (sym long) lt in
        let h = held_at (length names) words_of ks rest each k inside in (
          h.hold,
          subst (λ n. slice_get (holds_in n (flat_map words_of ks ++ rest)) k ≡ Some h.hold)
              long h.there,
          word k h.hold.time h.word,
          h.timed,
          h.below,
        )

pub known : (settings : List ℤ) → AreSettled Table settings → IsTable settings
known settings h =
    let n = named h.parameters h.right in
    let same : settings ≡ settings_with n.names h.parameters = h.given
    ∙ ap (λ o. settings_with (unwrap_or o []) h.parameters) n.states in
    subst IsTable (sym same) (settings_are n.names h.parameters n.right)
