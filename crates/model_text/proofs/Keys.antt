-- What keys that aren't refused are: of their form, and once where they may stand once.
use Rattle.std.proofs.Common.{◌≡◌, Bool, true, false, cond, Option, Some, None, List, [], ◌∷◌, map, refl, sym, ap, ◌∙◌, subst, append-nil}
use Rattle.std.proofs.lemmas.Bool.{not-false, or_left, or_right}
use Rattle.std.proofs.lemmas.Option.{same_Some}
use Rattle.std.proofs.Common.{rules}
use Rattle.std.specs.Prelude.{◌&&◌}
use Rattle.std.specs.List.{find, filter, flat_map}
use Rattle.std.specs.Option.{option_map, option_to_list}
use Rattle.std.specs.Str.{bytes_eq}
use Rattle.std.proofs.lemmas.Slice.Eq.{bytes_eq-Decides}
use Rattle.quantity.specs.Bytes.{Bytes, is_among, words}
use Rattle.ma_lines.specs.declared.section.Entry.{Entry}
use Rattle.ma_lines.specs.Sections.{Section}
use Rattle.rule_tree.specs.Phrases.{looked_up}
use Rattle.model_text.specs.declared.kind.Kind.TheVariants.{BadValue, DuplicateKey}
use Rattle.model_text.specs.Refusals.{refusal}
use Rattle.model_text.specs.Keyed.{first_entry, value_of, Item, texts_of}
use Rattle.model_text.specs.Keys.{again, is_off, off_form}
use Rattle.model_text.proofs.Basics.{none_some, cons_nil, true_false, both_empty, if_empty}

pub same_bytes : (a b : Bytes) → bytes_eq a b ≡ true → a ≡ b
same_bytes a b e = search (rules, bytes_eq-Decides)

pub equals_back : (a b : Bytes) → bytes_eq a b ≡ true → bytes_eq b a ≡ true
equals_back a b e = search (rules, bytes_eq-Decides)

-- ---- forms

abbrev has_key : Bytes → Entry → Bool
has_key key e = bytes_eq e.key key

first_off : (table : List (Bytes × (Bytes → Bool))) (e : Entry) (es : List Entry) → off_form table (e ∷ es) ≡ [] → (is_off (looked_up table e.key) e.value ≡ false) × (off_form table es ≡ [])
first_off table e es h = go (is_off (looked_up table e.key) e.value) h
  where
    go : (b : Bool) → map (λ (x : Entry). refusal x.line BadValue) (cond b (e ∷ filter (λ (x : Entry). is_off (looked_up table x.key) x.value) es) (filter (λ (x : Entry). is_off (looked_up table x.key) x.value) es)) ≡ [] → (b ≡ false) × (off_form table es ≡ [])
    go true h = absurd (cons_nil h)
    go false h = (refl, h)

-- the value of a key has the form of its key
pub has_form : (table : List (Bytes × (Bytes → Bool))) (key : Bytes) (p : Bytes → Bool) → looked_up table key ≡ Some p → (es : List Entry) → off_form table es ≡ []
    → (v : Bytes) → option_map (λ (e : Entry). e.value) (find (has_key key) es) ≡ Some v → p v ≡ true
has_form table key p known [] h v e = absurd (none_some e)
has_form table key p known (x ∷ es) h v e =
    go (has_form table key p known es) (bytes_eq x.key key) refl e
  where
    parts : (is_off (looked_up table x.key) x.value ≡ false) × (off_form table es ≡ [])
    parts = first_off table x es h

    go : (off_form table es ≡ [] → (v : Bytes) → option_map (λ (e : Entry). e.value) (find (has_key key) es) ≡ Some v → p v ≡ true) → (b : Bool) → bytes_eq x.key key ≡ b → option_map (λ (e : Entry). e.value) (cond b (Some x) (find (has_key key) es)) ≡ Some v → p v ≡ true
    go later true same f =
        let off : is_off (looked_up table key) x.value ≡ false = subst (λ k. is_off (looked_up table k) x.value ≡ false) (same_bytes x.key key same) parts.0 in
        let right : p x.value ≡ true = not-false (p x.value) (subst (λ o. is_off o x.value ≡ false) known off) in
        subst (λ w. p w ≡ true) (same_Some x.value v f) right
    go later false same f = later parts.1 v f

-- ---- keys that stand once

pub not_again : (once before : List Bytes) (e : Entry) (es : List Entry) → again once before (e ∷ es) ≡ [] → (is_among once e.key && is_among before e.key ≡ false) × (again once (e.key ∷ before) es ≡ [])
not_again once before e es h =
    let p = both_empty (cond (is_among once e.key && is_among before e.key) (refusal e.line DuplicateKey ∷ []) []) (again once (e.key ∷ before) es) h in
    (if_empty (is_among once e.key && is_among before e.key) (refusal e.line DuplicateKey) [] p.0, p.1)

pub both_stand : (once before : List Bytes) (k key : Bytes) → k ≡ key → is_among once key ≡ true → is_among before key ≡ true → (is_among once k && is_among before k) ≡ false → ⊥
both_stand once before k key same o b f =
    true_false (sym (ap (λ c. c && is_among before key) o ∙ b) ∙ subst (λ x. (is_among once x && is_among before x) ≡ false) same f)

none_more : (once : List Bytes) (key : Bytes) → is_among once key ≡ true → (before : List Bytes) → is_among before key ≡ true → (es : List Entry) → again once before es ≡ [] → filter (has_key key) es ≡ []
none_more once key o before b [] h = refl
none_more once key o before b (e ∷ es) h = go (none_more once key o (e.key ∷ before) (or_right (bytes_eq key e.key) (is_among before key) b) es) (bytes_eq e.key key) refl
  where
    parts : (is_among once e.key && is_among before e.key ≡ false) × (again once (e.key ∷ before) es ≡ [])
    parts = not_again once before e es h

    go : (again once (e.key ∷ before) es ≡ [] → filter (has_key key) es ≡ []) → (c : Bool) → bytes_eq e.key key ≡ c → cond c (e ∷ filter (has_key key) es) (filter (has_key key) es) ≡ []
    go later true same = absurd (both_stand once before e.key key (same_bytes e.key key same) o b parts.0)
    go later false same = later parts.1

-- the entries of such a key are the first, or none
pub stands_once : (once : List Bytes) (key : Bytes) → is_among once key ≡ true → (before : List Bytes) (es : List Entry) → again once before es ≡ [] → filter (has_key key) es ≡ option_to_list (find (has_key key) es)
stands_once once key o before [] h = refl
stands_once once key o before (e ∷ es) h = go (stands_once once key o (e.key ∷ before) es) (bytes_eq e.key key) refl
  where
    parts : (is_among once e.key && is_among before e.key ≡ false) × (again once (e.key ∷ before) es ≡ [])
    parts = not_again once before e es h

    go : (again once (e.key ∷ before) es ≡ [] → filter (has_key key) es ≡ option_to_list (find (has_key key) es)) → (c : Bool) → bytes_eq e.key key ≡ c → cond c (e ∷ filter (has_key key) es) (filter (has_key key) es) ≡ option_to_list (cond c (Some e) (find (has_key key) es))
    go later true same =
        ap (λ xs. e ∷ xs) (none_more once key o (e.key ∷ before) (or_left (bytes_eq key e.key) (is_among before key) (equals_back e.key key same)) es parts.1)
    go later false same = later parts.1

abbrev pub words_of : Option Bytes → List Bytes
words_of None = []
words_of (Some text) = words text

texts_at : (line : _) (ws : List Bytes) → map (λ (i : Item). i.text) (map (λ w. let x : Item = record { line = line; text = w } in x) ws) ≡ ws
texts_at line [] = refl
texts_at line (w ∷ ws) = ap (λ xs. w ∷ xs) (texts_at line ws)

abbrev words_at : Entry → List Item
words_at e = map (λ w. record { line = e.line; text = w }) (words e.value)

-- the words of such a key are those of its one value
pub texts_once : (once : List Bytes) (key : Bytes) (s : Section) → is_among once key ≡ true → again once [] s.entries ≡ [] → texts_of key s ≡ words_of (value_of key s)
texts_once once key s o h =
    ap (λ es. map (λ (i : Item). i.text) (flat_map words_at es)) (stands_once once key o [] s.entries h) ∙ go (first_entry key s)
  where
    go : (f : Option Entry) → map (λ (i : Item). i.text) (flat_map words_at (option_to_list f)) ≡ words_of (option_map (λ (e : Entry). e.value) f)
    go None = refl
    go (Some e) = ap (λ is. map (λ (i : Item). i.text) is) (append-nil (words_at e)) ∙ texts_at e.line (words e.value)
