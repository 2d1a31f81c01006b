-- A line that is read from left to right is the line that the text is.
use Rattle.std.proofs.Common.{◌≡◌, ℕ, ◌^◌, ◌≤◌, ◌&&◌, Bool, true, false, cond, Option, Some, None, [], ◌∷◌, refl, sym, ap, ◌∙◌, subst, arith, codes, unsigned_abs}
use Rattle.std.proofs.lemmas.Bool.Decides.{nat_tests}
use Rattle.std.proofs.lemmas.Slice.Eq.{bytes_eq-Decides}
use Rattle.std.specs.List.{list_all}
use Rattle.std.specs.Option.{option_map}
use Rattle.std.specs.Str.{bytes_eq}
use Rattle.quantity.specs.declared.value.Value.{Value}
use Rattle.quantity.specs.declared.value.Value.TheVariants.{Undefined, Num}
use Rattle.quantity.specs.Roots.{IsBounded}
use Rattle.quantity.specs.Bytes.{Bytes}
use Rattle.quantity.specs.Names.{is_name}
use Rattle.quantity.specs.Times.{time_text, read_time}
use Rattle.quantity.specs.ValueTexts.{text5}
use Rattle.quantity.specs.ReadBack.{read_text5}
use Rattle.quantity.specs.Written.{for_some}
use Rattle.quantity.proofs.DigitLemmas.{both}
use Rattle.quantity.proofs.NothingElse as quantities
use Rattle.quantity.proofs.Written.{has_no, and_true, time_read, value_read}
use Rattle.text_forms.specs.declared.letter.Letter.{Letter}
use Rattle.text_forms.specs.declared.letter.Letter.TheVariants.{S}
use Rattle.text_forms.specs.declared.letter.Tells.{Tells}
use Rattle.text_forms.specs.declared.letter.Tells.TheVariants.{Given, Moved}
use Rattle.text_forms.specs.Letters.{told_by, all_letters, letter_named}
use Rattle.text_forms.specs.LogLine.{LeafName, LogLine, given, moved, letter_text, line_text, read_line, leaf_name_text}
use Rattle.text_forms.specs.LogLine.{is_line, is_leaf, is_value, is_time, is_told_of, is_letter, is_state, is_next, has_place}
use Rattle.text_forms.specs.LogLine.{state_text, next_text}
use Rattle.text_forms.proofs.NothingElse as forms
use Rattle.text_forms.proofs.AllLetters.{found, letter_back, letter_of_moves}
use Rattle.text_forms.proofs.WrittenLines.{blank, given_fits, given_no, moved_fits, moved_no, line_read}
use Rattle.drawlog_top.specs.Fronts.{stroke, is_state_value, IsLineText}
use Rattle.drawlog_top.specs.Strict.{Parts, cut_parts, read_leaf, read_state, read_next, given_line, moved_line, told_line, one_letter, line_by, strict_line, given_as, agrees}
use Rattle.drawlog_top.proofs.StrictLemmas.{some_from, same_some, if_some, if_then, parts_made, parts_cut, joined_parts}
use Rattle.drawlog_top.proofs.StrictLeaves.{leaf_is, leaf_read}

eq_bytes : (xs ys : Bytes) → bytes_eq xs ys ≡ true → xs ≡ ys
eq_bytes xs ys e = (bytes_eq-Decides xs ys).0 e

-- ---- what is read is what is written

time_is : (text : Bytes) (t : ℕ) → read_time text ≡ Some t → (text ≡ time_text t) × (is_time t ≡ true)
time_is text t h = let k = quantities.nothing_else.time text t h in let le : t ≤ 719999998 = k.1 in (k.0, grind (arith, nat_tests))

pub value_small : (v : Value) → IsBounded v → is_value v ≡ true
value_small Undefined b = refl
value_small (Num x) b = let le : unsigned_abs x ≤ 10 ^ 15 = b in grind (arith, nat_tests)

value_bounded : (v : Value) → is_value v ≡ true → IsBounded v
value_bounded Undefined h = tt
value_bounded (Num x) h = let le : unsigned_abs x ≤ 10 ^ 15 = grind (arith, nat_tests) in le

pub value_is : (text : Bytes) (v : Value) → read_text5 text ≡ Some v → (text ≡ text5 v) × (is_value v ≡ true)
value_is text v h = let k = quantities.nothing_else.value text v h in (k.0, value_small v k.1)

pub state_by : (text : Bytes) (s : Option Value) (b : Bool) → bytes_eq text (codes "-") ≡ b → cond b (Some None) (option_map Some (read_text5 text)) ≡ Some s → (text ≡ state_text s) × (is_state_value s ≡ true)
state_by text s true e h = (eq_bytes text (codes "-") e ∙ ap state_text (same_some None s h), ap is_state_value (sym (same_some None s h)))
state_by text s false e h = read (read_text5 text) refl h
  where
    read : (o : Option Value) → read_text5 text ≡ o → option_map Some o ≡ Some s → (text ≡ state_text s) × (is_state_value s ≡ true)
    read None f h = absurd cc
    read (Some v) f h = let k = value_is text v f in let e = same_some (Some v) s h in (k.0 ∙ ap state_text e, ap is_state_value (sym e) ∙ k.1)

pub state_fits : (l : LeafName) (s : Option Value) → is_state_value s ≡ true → agrees l s ≡ true → is_state l s ≡ true
state_fits l None v h = h
state_fits l (Some x) v h = and_true (has_place l) (is_value x) h v

state_agrees : (l : LeafName) (s : Option Value) → is_state l s ≡ true → agrees l s ≡ true
state_agrees l None h = h
state_agrees l (Some x) h = (both (has_place l) (is_value x) h).0

pub next_by : (text : Bytes) (n : Option ℕ) (b : Bool) → bytes_eq text (codes "...") ≡ b → cond b (Some None) (option_map Some (read_time text)) ≡ Some n → (text ≡ next_text n) × (is_next n ≡ true)
next_by text n true e h = (eq_bytes text (codes "...") e ∙ ap next_text (same_some None n h), ap is_next (sym (same_some None n h)))
next_by text n false e h = read (read_time text) refl h
  where
    read : (o : Option ℕ) → read_time text ≡ o → option_map Some o ≡ Some n → (text ≡ next_text n) × (is_next n ≡ true)
    read None f h = absurd cc
    read (Some t) f h = let k = time_is text t f in let e = same_some (Some t) n h in (k.0 ∙ ap next_text e, ap is_next (sym e) ∙ k.1)

given_is : (c : Letter) (p : Parts) (l : LogLine) → p.letter ≡ letter_text c → given_line c p ≡ Some l → IsLineText (joined_parts p) l
given_is c p l letter h =
    let t = some_from (read_time p.time) _ l h in
    let f = some_from (read_leaf p.leaf) _ l t.2 in
    let v = some_from (read_text5 p.second) _ l f.2 in
    let port = if_then (is_name p.first) (given_as c t.0 f.0 p.first v.0) l v.2 in
    let last = if_some (is_letter c f.0) (given c t.0 f.0 p.first v.0) l port.1 in
    let time = time_is p.time t.0 t.1 in
    let leaf = leaf_is p.leaf f.0 f.1 in
    let value = value_is p.second v.0 v.1 in
    subst (IsLineText (joined_parts p)) last.1
    (record {
      text_is =
          ap (λ x. stroke x (stroke p.time (stroke p.leaf (stroke p.first p.second)))) letter
          ∙ ap (λ x. stroke (letter_text c) (stroke x (stroke p.leaf (stroke p.first p.second)))) time.0
          ∙ ap (λ x. stroke (letter_text c) (stroke (time_text t.0) (stroke x (stroke p.first p.second)))) leaf.text_is
          ∙ ap (λ x. stroke (letter_text c) (stroke (time_text t.0) (stroke (leaf_name_text f.0) (stroke p.first x)))) value.0;
      is = and_true _ _ (and_true _ _ (and_true _ _ (and_true _ _ last.0 time.1) leaf.is) port.0) value.1;
    })

moved_is : (p : Parts) (l : LogLine) → p.letter ≡ letter_text S → moved_line p ≡ Some l → IsLineText (joined_parts p) l
moved_is p l letter h =
    let t = some_from (read_time p.time) _ l h in
    let f = some_from (read_leaf p.leaf) _ l t.2 in
    let s = some_from (read_state p.first) _ l f.2 in
    let n = some_from (read_next p.second) _ l s.2 in
    let last = if_some (agrees f.0 s.0) (moved t.0 f.0 s.0 n.0) l n.2 in
    let time = time_is p.time t.0 t.1 in
    let leaf = leaf_is p.leaf f.0 f.1 in
    let state = state_by p.first s.0 (bytes_eq p.first (codes "-")) refl s.1 in
    let fits = state_fits f.0 s.0 state.1 last.0 in
    let next = next_by p.second n.0 (bytes_eq p.second (codes "...")) refl n.1 in
    subst (IsLineText (joined_parts p)) last.1
    (record {
      text_is =
          ap (λ x. stroke x (stroke p.time (stroke p.leaf (stroke p.first p.second)))) letter
          ∙ ap (λ x. stroke (letter_text S) (stroke x (stroke p.leaf (stroke p.first p.second)))) time.0
          ∙ ap (λ x. stroke (letter_text S) (stroke (time_text t.0) (stroke x (stroke p.first p.second)))) leaf.text_is
          ∙ ap (λ x. stroke (letter_text S) (stroke (time_text t.0) (stroke (leaf_name_text f.0) (stroke x p.second)))) state.0
          ∙ ap (λ x. stroke (letter_text S) (stroke (time_text t.0) (stroke (leaf_name_text f.0) (stroke (state_text s.0) x)))) next.0;
      is = and_true _ _ (and_true _ _ (and_true _ _ time.1 leaf.is) fits) next.1;
    })

letter_is : (letter : Letter) (p : Parts) (l : LogLine) → p.letter ≡ letter_text letter
    → one_letter letter p ≡ Some l → IsLineText (joined_parts p) l
letter_is letter p l e h = by (told_by letter) refl h
  where
    by : (tells : Tells) → told_by letter ≡ tells → told_line tells letter p ≡ Some l
        → IsLineText (joined_parts p) l
    by (Given of_cells_alone) is h = given_is letter p l e h
    by Moved is h = moved_is p l (e ∙ ap letter_text (letter_of_moves letter is)) h

by_is : (w : Bytes) (p : Parts) (l : LogLine) → p.letter ≡ w → line_by w p ≡ Some l → IsLineText (joined_parts p) l
by_is [] p l e h = absurd cc
by_is (c ∷ d ∷ more) p l e h = absurd cc
by_is (c ∷ []) p l e h =
    let k = some_from (letter_named c) (λ letter. one_letter letter p) l h in
    letter_is k.0 p l (e ∙ ap (λ (x : ℕ). x ∷ []) (sym (found c all_letters k.0 k.1))) k.2

strict_is : (text : Bytes) (l : LogLine) → strict_line text ≡ Some l → IsLineText text l
strict_is text l h =
    let p = some_from (cut_parts text) (λ p. line_by p.letter p) l h in
    subst (λ (x : Bytes). IsLineText x l) (sym (parts_made text p.0 p.1)) (by_is p.0.letter p.0 l refl p.2)

-- ---- what is written is read

not_this : {A : Type 0} (read : Bytes → Option A) (text w : Bytes) (x : A) → read text ≡ Some x → read w ≡ None → bytes_eq text w ≡ false
not_this read text w x h n = by (bytes_eq text w) refl
  where
    by : (b : Bool) → bytes_eq text w ≡ b → bytes_eq text w ≡ false
    by false e = e
    by true e = let k = sym (ap read (eq_bytes text w e)) ∙ h in let no : ⊥ = cc in absurd no

state_read : (l : LeafName) (s : Option Value) → is_state l s ≡ true → read_state (state_text s) ≡ Some s
state_read l None h = refl
state_read l (Some v) h =
    let r = value_read v (value_bounded v (both _ (is_value v) h).1) in
    ap (λ b. cond b (Some None) (option_map Some (read_text5 (text5 v)))) (not_this read_text5 (text5 v) (codes "-") v r refl) ∙ ap (option_map Some) r

next_read : (n : Option ℕ) → is_next n ≡ true → read_next (next_text n) ≡ Some n
next_read None h = refl
next_read (Some t) h =
    let le : t ≤ 719999998 = grind (arith, nat_tests) in
    let r = time_read t le in
    ap (λ b. cond b (Some None) (option_map Some (read_time (time_text t)))) (not_this read_time (time_text t) (codes "...") t r refl) ∙ ap (option_map Some) r

in_time : (t : ℕ) → is_time t ≡ true → t ≤ 719999998
in_time t h = grind (arith, nat_tests)

of_value : (letter : Letter) (l : LeafName) → is_letter letter l ≡ true
    → (p : Parts) → one_letter letter p ≡ given_line letter p
of_value letter l h p = by (told_by letter) h
  where
    by : (tells : Tells) → is_told_of tells l ≡ true → told_line tells letter p ≡ given_line letter p
    by (Given of_cells_alone) h = refl
    by Moved h = absurd cc

abbrev parts_as : Bytes → Bytes → Bytes → Bytes → Bytes → Parts
parts_as a b c d e = record { letter = a; time = b; leaf = c; first = d; second = e }

four : (p : Bytes → Bool) (a b c d e : Bytes) → list_all p (a ∷ b ∷ c ∷ d ∷ e ∷ []) ≡ true → (p a ≡ true) × (p b ≡ true) × (p c ≡ true) × (p d ≡ true)
four p a b c d e h =
    let i = both (p a) _ h in
    let j = both (p b) _ i.1 in
    let k = both (p c) _ j.1 in (i.0, j.0, k.0, (both (p d) _ k.1).0)

given_read : (c : Letter) (t : ℕ) (l : LeafName) (port : Bytes) (v : Value) → is_line (given c t l port v) ≡ true → strict_line (line_text (given c t l port v)) ≡ Some (given c t l port v)
given_read c t l port v h =
    let f = given_fits c t l port v h in
    let n = (both (is_letter c l && is_time t && is_leaf l) (is_name port) (both (is_letter c l && is_time t && is_leaf l && is_name port) (is_value v) h).0).1 in
    let p = parts_as (letter_text c) (time_text t) (leaf_name_text l) port (text5 v) in
    let w = four (has_no 32) (letter_text c) (time_text t) (leaf_name_text l) port (text5 v) (given_no 32 blank refl c t l port v f) in
    ap (λ o. for_some o (λ p. line_by p.letter p)) (parts_cut p (record { letter = w.0; time = w.1; leaf = w.2; first = w.3 }))
    ∙ ap (λ o. for_some o (λ letter. one_letter letter p)) (letter_back c) ∙ of_value c l f.letter_is p
    ∙ ap (λ o. for_some o (λ t. for_some (read_leaf (leaf_name_text l)) (λ l. for_some (read_text5 (text5 v)) (λ v. cond (is_name port) (given_as c t l port v) None)))) (time_read t (in_time t f.time))
    ∙ ap (λ o. for_some o (λ l. for_some (read_text5 (text5 v)) (λ v. cond (is_name port) (given_as c t l port v) None))) (leaf_read l f.leaf)
    ∙ ap (λ o. for_some o (λ v. cond (is_name port) (given_as c t l port v) None)) (value_read v (value_bounded v f.value))
    ∙ ap (λ b. cond b (given_as c t l port v) None) n ∙ ap (λ b. cond b (Some (given c t l port v)) None) f.letter_is

moved_read : (t : ℕ) (l : LeafName) (s : Option Value) (n : Option ℕ) → is_line (moved t l s n) ≡ true → strict_line (line_text (moved t l s n)) ≡ Some (moved t l s n)
moved_read t l s n h =
    let f = moved_fits t l s n h in
    let p = parts_as (letter_text S) (time_text t) (leaf_name_text l) (state_text s) (next_text n) in
    let w = four (has_no 32) (letter_text S) (time_text t) (leaf_name_text l) (state_text s) (next_text n) (moved_no 32 blank refl t l s n f) in
    ap (λ o. for_some o (λ p. line_by p.letter p)) (parts_cut p (record { letter = w.0; time = w.1; leaf = w.2; first = w.3 }))
    ∙ ap (λ o. for_some o (λ t. for_some (read_leaf (leaf_name_text l)) (λ l. for_some (read_state (state_text s)) (λ s. for_some (read_next (next_text n)) (λ n. cond (agrees l s) (Some (moved t l s n)) None))))) (time_read t (in_time t f.time))
    ∙ ap (λ o. for_some o (λ l. for_some (read_state (state_text s)) (λ s. for_some (read_next (next_text n)) (λ n. cond (agrees l s) (Some (moved t l s n)) None)))) (leaf_read l f.leaf)
    ∙ ap (λ o. for_some o (λ s. for_some (read_next (next_text n)) (λ n. cond (agrees l s) (Some (moved t l s n)) None))) (state_read l s f.state_is)
    ∙ ap (λ o. for_some o (λ n. cond (agrees l s) (Some (moved t l s n)) None)) (next_read n f.next_is)
    ∙ ap (λ b. cond b (Some (moved t l s n)) None) (state_agrees l s f.state_is)

strict_read : (l : LogLine) → is_line l ≡ true → strict_line (line_text l) ≡ Some l
strict_read (given c t l port v) h = given_read c t l port v h
strict_read (moved t l s n) h = moved_read t l s n h

-- a text of a line is read as that line
pub line_as_read : (text : Bytes) (l : LogLine) → IsLineText text l → Some l ≡ read_line text
line_as_read text l k = sym (ap read_line k.text_is ∙ line_read l k.is)

-- both readings are one
pub strict : (text : Bytes) → strict_line text ≡ read_line text
strict text = by (strict_line text) (read_line text) refl refl
  where
    by : (a b : Option LogLine) → strict_line text ≡ a → read_line text ≡ b → strict_line text ≡ read_line text
    by None None e f = e ∙ sym f
    by (Some l) b e f = e ∙ line_as_read text l (strict_is text l e)
    by None (Some l) e f =
        let k = forms.nothing_else.line text l f in
        let r = ap strict_line k.0 ∙ strict_read l k.1 in
        let no : ⊥ = cc in absurd no
