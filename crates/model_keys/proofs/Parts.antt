-- What is refused part by part, and of lists element by element.
use Rattle.std.proofs.Common.{◌≡◌, ℕ, zero, suc, ◌+◌, ◌<◌, ◌≤◌, length, get_or, drop, not, Bool, true, false, cond, Option, Some, None, List, [], ◌∷◌, ◌++◌, map, refl, sym, ap, subst, ◌∙◌, Bor, arith}
use Rattle.std.specs.Prelude.{IfSome, ◌&&◌, ◌||◌, if◌then◌else◌, codes}
use Rattle.std.specs.List.{filter, find, flat_map, list_any, AllByRecursion}
use Rattle.std.specs.Option.{option_map}
use Rattle.std.specs.Str.{bytes_eq}
use Rattle.std.proofs.lemmas.List.{at_drop_all, drop_more}
use Rattle.std.proofs.lemmas.List.Folds.{list_any-append}
use Rattle.std.proofs.lemmas.Slice.Eq.{bytes_eq-Decides}
use Rattle.quantity.specs.Bytes.{Bytes, is_among}
use Rattle.ma_lines.specs.declared.section.Entry.{Entry}
use Rattle.ma_lines.specs.Sections.{Section}
use Rattle.rule_tree.specs.Phrases.{looked_up}
use Rattle.model_text.specs.declared.key.Form.{Form}
use Rattle.model_text.specs.declared.key.Form.TheVariants.{Any, Names, Link}
use Rattle.model_text.specs.declared.key.TheConstants.{COMPONENT_KEYS}
use Rattle.model_text.specs.declared.kind.Kind.TheVariants.{BadValue, DuplicateKey}
use Rattle.model_text.specs.Refusals.{Refusal, refusal}
use Rattle.model_text.specs.Keyed.{Item, least_refusal}
use Rattle.model_text.specs.Keys.{Key, keys_of, again, repeated_words, once_words, forms_of, has_form, is_off}
use Rattle.model_walk.specs.declared.refused.Refused.{Refused}
use Rattle.model_walk.specs.declared.item.Item as kept
use Rattle.model_walk.specs.Shown.{item_of, refusal_of}
use Rattle.model_walk.specs.Least.{earlier_refusal}
use Rattle.model_walk.specs.LeastOf.{IsLeastOf}
use Rattle.model_walk.specs.TextSets.{with_text}
use Rattle.model_walk.proofs.Orders.{least_of_both, least_step, merged_none}
use Rattle.model_walk.specs.ReadValues.{IsReadBy, IsReadUnder, rows_of, form_among, form_of}
use Rattle.model_walk.specs.declared.read_value.ReadValue.{ReadValue}

pub joined : (xs ys : List Refusal) → least_refusal (xs ++ ys) ≡ earlier_refusal (least_refusal xs) (least_refusal ys)
joined = least_of_both

pub two_parts : (xs ys : List Refusal) (a b both : Option Refused) → IsLeastOf xs a → IsLeastOf ys b → option_map refusal_of both ≡ earlier_refusal (option_map refusal_of a) (option_map refusal_of b) → IsLeastOf (xs ++ ys) both
two_parts xs ys a b both ea eb e = e ∙ (λ i. earlier_refusal (ea i) (eb i)) ∙ sym (least_of_both xs ys)

-- the least of what was refused and of what is left is the least of all
abbrev pub Left : Option Refused → List Refusal → List Refusal → Type 0
Left first rest all = earlier_refusal (option_map refusal_of first) (least_refusal rest) ≡ least_refusal all

-- one element more
pub step : (first now next : Option Refused) (whole here rest all : List Refusal) → whole ≡ here ++ rest → IsLeastOf here now
    → option_map refusal_of next ≡ earlier_refusal (option_map refusal_of first) (option_map refusal_of now) → Left first whole all → Left next rest all
step first now next whole here rest all parts is both h =
    ap (λ o. earlier_refusal o (least_refusal rest)) both
    ∙ least_step (option_map refusal_of first) (option_map refusal_of now) here rest (least_refusal all) is (ap (λ rs. earlier_refusal (option_map refusal_of first) (least_refusal rs)) (sym parts) ∙ h)

pub element_step : {A : Type 0} (f : List A → List Refusal) (here : A → List Refusal) → ((x : A) (xs : List A) → f (x ∷ xs) ≡ here x ++ f xs)
    → (xs : List A) (i : ℕ) (d : A) (first now next : Option Refused) → i < length xs → IsLeastOf (here (get_or xs i d)) now
    → option_map refusal_of next ≡ earlier_refusal (option_map refusal_of first) (option_map refusal_of now) → Left first (f (drop i xs)) (f xs) → Left next (f (drop (i + 1) xs)) (f xs)
element_step f here cons xs i d first now next lt is both h =
    step first now next (f (drop i xs)) (here (get_or xs i d)) (f (drop (i + 1) xs)) (f xs) (ap f (drop_more xs i d lt) ∙ cons (get_or xs i d) (drop (i + 1) xs)) is both h

-- no element is left
pub ended : {A : Type 0} (f : List A → List Refusal) → f [] ≡ [] → (xs : List A) (i : ℕ) (first : Option Refused) → length xs ≤ i → Left first (f (drop i xs)) (f xs) → IsLeastOf (f xs) first
ended f none xs i first le h =
    sym (merged_none (option_map refusal_of first))
    ∙ ap (λ rs. earlier_refusal (option_map refusal_of first) (least_refusal rs)) (sym (at_drop_all f xs i le ∙ none)) ∙ h

-- what is refused of the elements that pass a test, at one more
pub of_passing : {A : Type 0} (f : A → List Refusal) (test : A → Bool) (x : A) (xs : List A) → flat_map f (filter test (x ∷ xs)) ≡ (if test x then f x else []) ++ flat_map f (filter test xs)
of_passing f test x xs = by (test x)
  where
    by : (b : Bool) → flat_map f (cond b (x ∷ filter test xs) (filter test xs)) ≡ (if b then f x else []) ++ flat_map f (filter test xs)
    by true = refl
    by false = refl

pub at_passing : {A : Type 0} (f : A → Refusal) (test : A → Bool) (x : A) (xs : List A) → map f (filter test (x ∷ xs)) ≡ (if test x then f x ∷ [] else []) ++ map f (filter test xs)
at_passing f test x xs = by (test x)
  where
    by : (b : Bool) → map f (cond b (x ∷ filter test xs) (filter test xs)) ≡ (if b then f x ∷ [] else []) ++ map f (filter test xs)
    by true = refl
    by false = refl

-- ---- tables of keys

abbrev Row : Type 0
Row = Bor Bytes × Bool × Form

pub among_once : (keys : List Row) (word : Bytes) → is_among (once_words (rows_of keys)) word ≡ list_any (λ (k : Row). bytes_eq word k.0.now && k.1) keys
among_once [] word = refl
among_once ((r, true, f) ∷ ks) word = λ i. alone (bytes_eq word r.now) i || among_once ks word i
  where
    alone : (b : Bool) → b ≡ (b && true)
    alone true = refl
    alone false = refl
among_once ((r, false, f) ∷ ks) word = among_once ks word ∙ never (bytes_eq word r.now) (list_any (λ (k : Row). bytes_eq word k.0.now && k.1) ks)
  where
    never : (b c : Bool) → c ≡ ((b && false) || c)
    never true c = refl
    never false c = refl

found_form : (s : Section) (word : Bytes) (keys : List Key) → looked_up (forms_of s keys) word ≡ option_map (has_form s) (form_among keys word)
found_form s word [] = refl
found_form s word (k ∷ ks) = by (bytes_eq k.0.now word) (found_form s word ks)
  where
    by : (b : Bool) → looked_up (forms_of s ks) word ≡ option_map (has_form s) (form_among ks word)
        → option_map (λ (p : Bytes × (Bytes → Bool)). p.1) (cond b (Some (k.0.now, has_form s k.2)) (find (λ (p : Bytes × (Bytes → Bool)). bytes_eq p.0 word) (forms_of s ks)))
        ≡ option_map (has_form s) (option_map (λ (k : Key). k.2) (cond b (Some k) (find (λ (k : Key). bytes_eq k.0.now word) ks)))
    by true e = refl
    by false e = e

-- whether a value is off the form that stands with its key
pub off_by : (s : Section) (keys : List Key) (e : Entry) (o : Option Form) → o ≡ form_among keys e.key → is_off (looked_up (forms_of s keys) e.key) e.value ≡ is_off (option_map (has_form s) o) e.value
off_by s keys e o h = ap (λ t. is_off t e.value) (found_form s e.key keys ∙ ap (option_map (has_form s)) (sym h))

-- what stands with a word stands with a key that is this word
same_form : (word key : Bytes) (f : Form) → bytes_eq word key ≡ true → form_of word ≡ Some f → form_of key ≡ Some f
same_form word key f e h = subst (λ (k : Bytes). form_of k ≡ Some f) ((bytes_eq-Decides word key).0 e) h

-- a key of a section of components is read by its form there
component_form : (key : Bytes) (f : Form) → form_among COMPONENT_KEYS key ≡ Some f → form_of key ≡ Some f
component_form key f = by (bytes_eq (codes "type") key) refl (bytes_eq (codes "in") key) refl (bytes_eq (codes "out") key) refl (bytes_eq (codes "link") key) refl
  where
    by : (a : Bool) → bytes_eq (codes "type") key ≡ a → (b : Bool) → bytes_eq (codes "in") key ≡ b → (c : Bool) → bytes_eq (codes "out") key ≡ c → (d : Bool) → bytes_eq (codes "link") key ≡ d
        → option_map (λ (k : Key). k.2) (cond a (Some (record { now = codes "type" }, true, Any)) (cond b (Some (record { now = codes "in" }, false, Names))
        (cond c (Some (record { now = codes "out" }, false, Names)) (cond d (Some (record { now = codes "link" }, false, Link)) None)))) ≡ Some f → form_of key ≡ Some f
    by true ea b eb c ec d ed h = same_form (codes "type") key f ea h
    by false ea true eb c ec d ed h = same_form (codes "in") key f eb h
    by false ea false eb true ec d ed h = same_form (codes "out") key f ec h
    by false ea false eb false ec true ed h = same_form (codes "link") key f ed h
    by false ea false eb false ec false ed h = cc

pub tested_form : (is_of_group : Bool) (key : Bytes) (f : Form) → form_among (keys_of is_of_group) key ≡ Some f → form_of key ≡ Some f
tested_form true key f h = h
tested_form false key f h = component_form key f h

-- what was read under a key was read by the form that stands with it
pub read_by : (name key text : Bytes) (v : ReadValue) (f : Form) → form_of key ≡ Some f → IsReadUnder name key text v → IsReadBy name f text v
read_by name key text v f e h = subst (λ (o : Option Form). IfSome o (λ (g : Form). IsReadBy name g text v)) e h

-- each of a list is so
pub each_at : {A : Type 0} (P : A → Type 0) (xs : List A) (i : ℕ) (d : A) → i < length xs → AllByRecursion P xs → P (get_or xs i d)
each_at P [] i d h all = let bad : ⊥ = omega (arith, h) in absurd bad
each_at P (x ∷ xs) zero d h all = all.0
each_at P (x ∷ xs) (suc i) d h all = each_at P xs i d (omega (arith, h)) all.1

-- ---- keys and words that were seen

both : (c a b : Bool) → (c ≡ true → a ≡ b) → (c && a) ≡ (c && b)
both true a b h = h refl
both false a b h = refl

-- of the keys that may stand once the same were seen
pub again_like : (once a b : List Bytes) → ((k : Bytes) → is_among once k ≡ true → is_among a k ≡ is_among b k) → (es : List Entry) → again once a es ≡ again once b es
again_like once a b same [] = refl
again_like once a b same (e ∷ es) = λ i.
    (if both (is_among once e.key) (is_among a e.key) (is_among b e.key) (same e.key) i then refusal e.line DuplicateKey ∷ [] else [])
    ++ again_like once (e.key ∷ a) (e.key ∷ b) (λ k o. ap (λ v. bytes_eq k e.key || v) (same k o)) es i

pub repeated_like : (a b : List Bytes) → ((k : Bytes) → is_among a k ≡ is_among b k) → (is : List Item) → repeated_words a is ≡ repeated_words b is
repeated_like a b same [] = refl
repeated_like a b same (x ∷ xs) = λ i. (if same x.text i then refusal x.line BadValue ∷ [] else []) ++ repeated_like (x.text ∷ a) (x.text ∷ b) (λ k. ap (λ v. bytes_eq k x.text || v) (same k)) xs i

pub among_with : (ts : List Bytes) (t k : Bytes) → is_among (with_text ts t) k ≡ (bytes_eq k t || is_among ts k)
among_with ts t k = by (is_among ts t) refl
  where
    there : (b : Bool) → bytes_eq k t ≡ b → is_among ts t ≡ true → is_among ts k ≡ (b || is_among ts k)
    there true e h = ap (is_among ts) ((bytes_eq-Decides k t).0 e) ∙ h
    there false e h = refl

    swapped : (a b : Bool) → (a || (b || false)) ≡ (b || a)
    swapped true true = refl
    swapped true false = refl
    swapped false true = refl
    swapped false false = refl

    by : (b : Bool) → is_among ts t ≡ b → is_among (if b then ts else ts ++ t ∷ []) k ≡ (bytes_eq k t || is_among ts k)
    by true e = there (bytes_eq k t) refl e
    by false e = list_any-append (bytes_eq k) ts (t ∷ []) ∙ swapped (is_among ts k) (bytes_eq k t)

twice : (b : Bool) → not (not b) ≡ b
twice true = refl
twice false = refl

-- one word more
pub word_step : (is : List kept.Item) (n : ℕ) (d : kept.Item) (seen later : List Bytes) (is_new : Bool) (first now next : Option Refused) → n < length is
    → is_new ≡ not (is_among seen (get_or is n d).text.now) → later ≡ with_text seen (get_or is n d).text.now → IsLeastOf (if not is_new then refusal (get_or is n d).line BadValue ∷ [] else []) now
    → option_map refusal_of next ≡ earlier_refusal (option_map refusal_of first) (option_map refusal_of now)
    → Left first (repeated_words seen (map item_of (drop n is))) (repeated_words [] (map item_of is)) → Left next (repeated_words later (map item_of (drop (n + 1) is))) (repeated_words [] (map item_of is))
word_step is n d seen later is_new first now next lt fresh added here both h =
    let x = item_of (get_or is n d) in
    let rest = map item_of (drop (n + 1) is) in
    let stands : is_among seen x.text ≡ not is_new = sym (ap not fresh ∙ twice (is_among seen x.text)) in
    let same = repeated_like (x.text ∷ seen) later (λ k. sym (ap (λ (ts : List Bytes). is_among ts k) added ∙ among_with seen x.text k)) rest in
    step first now next (repeated_words seen (map item_of (drop n is))) (if not is_new then refusal x.line BadValue ∷ [] else []) (repeated_words later rest) (repeated_words [] (map item_of is))
    (ap (λ (ys : List kept.Item). repeated_words seen (map item_of ys)) (drop_more is n d lt) ∙ λ i. (if stands i then refusal x.line BadValue ∷ [] else []) ++ same i)
    here both h
