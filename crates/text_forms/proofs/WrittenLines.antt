-- A log line that is written is read.
use Rattle.std.proofs.Common.{◌≡◌, ℕ, suc, ◌/◌, ◌%◌, ◌<◌, ◌≤◌, ◌^◌, ◌==◌, ◌&&◌, ◌||◌, not, Bool}
use Rattle.std.proofs.Common.{true, false}
use Rattle.std.proofs.Common.{cond, Option, Some, None, List, [], ◌∷◌, ◌++◌, refl, sym, ap, ◌∙◌}
use Rattle.std.proofs.Common.{arith}
use Rattle.std.proofs.Common.{length, map, codes, nat_lt, nat_le, decimal}
use Rattle.std.specs.Prelude.{pos, negsuc}
use Rattle.std.proofs.lemmas.List.{append-nil}
use Rattle.std.proofs.lemmas.List.Splits.{slice_split_none, slice_split_at}
use Rattle.std.proofs.lemmas.List.Folds.{list_all-append}
use Rattle.std.proofs.lemmas.List.Elements.{filter-append}
use Rattle.std.proofs.lemmas.Bool.Decides.{nat_tests}
use Rattle.std.proofs.lemmas.Slice.Eq.{bytes_eq-Decides}
use Rattle.std.proofs.lemmas.Fmt.{decimal_is_IsNumeral_wide}
use Rattle.std.specs.List.{slice_split, list_all, join_with_byte, filter}
use Rattle.std.specs.Str.{bytes_eq}
use Rattle.std.specs.Str.Parse.{digits_value}
use Rattle.quantity.specs.declared.value.Value.{Value}
use Rattle.quantity.specs.declared.value.Value.TheVariants.{Undefined, Num}
use Rattle.quantity.specs.Roots.{IsBounded}
use Rattle.quantity.specs.Bytes.{Bytes}
use Rattle.quantity.specs.Written.{is_digit}
use Rattle.quantity.specs.Digits.{last_digits, has_length}
use Rattle.quantity.specs.Times.{hours_text, time_text}
use Rattle.quantity.specs.ValueTexts.{text5, guessed_value}
use Rattle.quantity.specs.Names.{is_of_name, is_name}
use Rattle.text_forms.specs.declared.letter.Letter.{Letter}
use Rattle.text_forms.specs.declared.letter.Letter.TheVariants.{S}
use Rattle.text_forms.specs.declared.letter.Tells.{Tells}
use Rattle.text_forms.specs.declared.letter.Tells.TheVariants.{Given, Moved}
use Rattle.text_forms.specs.Letters.{told_by, letter_byte}
use Rattle.text_forms.specs.LogLine.{LeafName, LogLine, given, moved, leaf_name_text, at_text}
use Rattle.text_forms.specs.LogLine.{state_text, next_text}
use Rattle.text_forms.specs.LogLine.{letter_text, parts_of, with_strokes, line_text, is_leaf}
use Rattle.text_forms.specs.LogLine.{is_value, is_time}
use Rattle.text_forms.specs.LogLine.{is_told_of, told_in}
use Rattle.text_forms.specs.LogLine.{is_letter, is_state, is_next, is_line, has_place, leaf_of}
use Rattle.text_forms.specs.LogLine.{leaf_in, at_in}
use Rattle.text_forms.specs.LogLine.{guessed_time, given_in, moved_in, lettered_in, line_in}
use Rattle.text_forms.specs.LogLine.{if_line, parts_in}
use Rattle.text_forms.specs.LogLine.{read_line}
use Rattle.quantity.proofs.DigitLemmas.{both}
use Rattle.quantity.proofs.Written.{has_no, none_at, and_true, split_joined, all_digits, no_digit}
use Rattle.quantity.proofs.Written.{no_in_last, hours_digits, time_guess, value_guess, written}
use Rattle.quantity.proofs.Written.{body, body_no, negative_text, div_one}
use Rattle.text_forms.proofs.AllLetters.{letter_back, of_all}

in_range : (v : Value) → is_value v ≡ true → IsBounded v
in_range Undefined h = tt
in_range (Num x) h = grind (arith, nat_tests)

pub value_back : (v : Value) → is_value v ≡ true → guessed_value (text5 v) ≡ Some v
value_back v h = value_guess v (in_range v h)

-- a byte that stands in no name, number, time or place
pub record Sep (c : ℕ) : Type 0 where
  pub digit : is_digit c ≡ false
  pub name : is_of_name c ≡ false
  pub minus : (45 == c) ≡ false
  pub point : (46 == c) ≡ false
  pub colon : (58 == c) ≡ false
  pub open_at : (40 == c) ≡ false
  pub close_at : (41 == c) ≡ false
  pub comma : (44 == c) ≡ false
  pub question : (63 == c) ≡ false

pub blank : Sep 32
blank =
    record {
      digit = refl;
      name = refl;
      minus = refl;
      point = refl;
      colon = refl;
      open_at = refl;
      close_at = refl;
      comma = refl;
      question = refl;
    }

stroke : Sep 47
stroke =
    record {
      digit = refl;
      name = refl;
      minus = refl;
      point = refl;
      colon = refl;
      open_at = refl;
      close_at = refl;
      comma = refl;
      question = refl;
    }

pub join_no : (c d : ℕ) → (d == c) ≡ false → (parts : List Bytes) → list_all (has_no c) parts ≡ true
    → has_no c (join_with_byte d parts) ≡ true
join_no c d e [] h = refl
join_no c d e (x ∷ []) h = (both (has_no c x) true h).0
join_no c d e (x ∷ y ∷ ys) h =
    let k = both (has_no c x) (list_all (has_no c) (y ∷ ys)) h in
    list_all-append (λ z. not (z == c)) x (d ∷ join_with_byte d (y ∷ ys))
    ∙ and_true _ _ k.0 (and_true _ _ (ap not e) (join_no c d e (y ∷ ys) k.1))

time_fits : (t : ℕ) → t ≤ 719999998 → t / 3600000 < 10 ^ 64
time_fits t le = omega arith

pub time_no : (c : ℕ) → Sep c → (t : ℕ) → t ≤ 719999998 → has_no c (time_text t) ≡ true
time_no c s t le =
    join_no c 58 s.colon (hours_text (t / 3600000) ∷ last_digits 2 (t / 60000 % 60)
    ∷ last_digits 2 (t / 1000 % 60) ∷ last_digits 3 (t % 1000) ∷ [])
    (and_true _ _ (no_digit c s.digit (hours_text (t / 3600000))
    (hours_digits (t / 3600000) (time_fits t le) (nat_lt (t / 3600000) 100)))
    (and_true _ _ (no_in_last c s.digit 2 (t / 60000 % 60))
    (and_true _ _ (no_in_last c s.digit 2 (t / 1000 % 60))
    (and_true _ true (no_in_last c s.digit 3 (t % 1000)) refl))))

pub value_no : (c : ℕ) → Sep c → (v : Value) → is_value v ≡ true → has_no c (text5 v) ≡ true
value_no c s Undefined h = and_true _ true (ap not s.question) refl
value_no c s (Num (pos n)) h =
    ap (λ m. has_no c (body m)) (div_one n) ∙ body_no c n (grind (arith, nat_tests)) s.digit s.point
value_no c s (Num (negsuc n)) h =
    ap (has_no c) (negative_text n)
    ∙ and_true _ _ (ap not s.minus) (body_no c (suc n) (grind (arith, nat_tests)) s.digit s.point)

differ : (c d : ℕ) → is_of_name c ≡ false → is_of_name d ≡ true → (d == c) ≡ false
differ c d e f = go (d == c) refl
  where
    same : (d == c) ≡ true → d ≡ c
    same g = grind (arith, nat_tests)

    go : (b : Bool) → (d == c) ≡ b → (d == c) ≡ false
    go false g = g
    go true g = let no : false ≡ true = sym e ∙ ap is_of_name (sym (same g)) ∙ f in absurd cc

pub name_no : (c : ℕ) → is_of_name c ≡ false → (w : Bytes) → list_all is_of_name w ≡ true
    → has_no c w ≡ true
name_no c e [] h = refl
name_no c e (d ∷ ds) h =
    let k = both (is_of_name d) (list_all is_of_name ds) h in
    and_true _ _ (ap not (differ c d e k.0)) (name_no c e ds k.1)

small : (n : ℕ) → nat_le n 1048575 ≡ true → n < 10 ^ 64
small n h = grind (arith, nat_tests)

decimals_no : (c : ℕ) → is_digit c ≡ false → (ns : List ℕ)
    → list_all (λ n. nat_le n 1048575) ns ≡ true → list_all (has_no c) (map decimal ns) ≡ true
decimals_no c e [] h = refl
decimals_no c e (n ∷ ns) h =
    let k = both (nat_le n 1048575) (list_all (λ n. nat_le n 1048575) ns) h in
    and_true _ _ (no_digit c e (decimal n)
    (all_digits (decimal n)
    (decimal_is_IsNumeral_wide n (small n k.0)).0.1)) (decimals_no c e ns k.1)

values_back : (ns : List ℕ) → list_all (λ n. nat_le n 1048575) ns ≡ true
    → map (digits_value 10) (map decimal ns) ≡ ns
values_back [] h = refl
values_back (n ∷ ns) h =
    let k = both (nat_le n 1048575) (list_all (λ n. nat_le n 1048575) ns) h in
    ap (λ m. m ∷ map (digits_value 10) (map decimal ns))
    (decimal_is_IsNumeral_wide n (small n k.0)).1 ∙ ap (λ ms. n ∷ ms) (values_back ns k.1)

at_no : (c : ℕ) → Sep c → (ns : List ℕ) → list_all (λ n. nat_le n 1048575) ns ≡ true
    → has_no c (at_text ns) ≡ true
at_no c s [] h = refl
at_no c s (n ∷ ns) h =
    and_true _ _ (ap not s.open_at)
    (list_all-append (λ z. not (z == c)) (join_with_byte 44 (map decimal (n ∷ ns))) (codes ")")
    ∙ and_true _ _ (join_no c 44 s.comma (map decimal (n ∷ ns)) (decimals_no c s.digit (n ∷ ns) h))
    (and_true _ true (ap not s.close_at) refl))

leaf_parts : (l : LeafName) → is_leaf l ≡ true
    → (list_all is_of_name l.name ≡ true) × (list_all (λ n. nat_le n 1048575) l.at ≡ true)
leaf_parts l h =
    let k = both (is_name l.name && list_all (λ n. nat_le n 1048575) l.at)
    ((length l.at == 0) || (length l.at == 2) || (length l.at == 3)) h in
    let m = both (is_name l.name) (list_all (λ n. nat_le n 1048575) l.at) k.0 in
    ((both (has_length 1 64 l.name) (list_all is_of_name l.name) m.0).1, m.1)

pub leaf_no : (c : ℕ) → Sep c → (l : LeafName) → is_leaf l ≡ true → has_no c (leaf_name_text l) ≡ true
leaf_no c s l h =
    let k = leaf_parts l h in
    list_all-append (λ z. not (z == c)) l.name (at_text l.at)
    ∙ and_true _ _ (name_no c s.name l.name k.0) (at_no c s l.at k.1)

pub kept_all : {A : Type 0} (p : A → Bool) (xs : List A) → list_all p xs ≡ true → filter p xs ≡ xs
kept_all p [] h = refl
kept_all p (x ∷ xs) h =
    let k = both (p x) (list_all p xs) h in
    ap (λ b. cond b (x ∷ filter p xs) (filter p xs)) k.0 ∙ ap (λ ys. x ∷ ys) (kept_all p xs k.1)

at_guess : (n : ℕ) (ns : List ℕ) → list_all (λ n. nat_le n 1048575) (n ∷ ns) ≡ true
    → at_in (join_with_byte 44 (map decimal (n ∷ ns)) ++ codes ")") ≡ n ∷ ns
at_guess n ns h =
    let joined = join_with_byte 44 (map decimal (n ∷ ns)) in
    ap (λ t. map (digits_value 10) (slice_split (λ c. c == 44) t))
    (filter-append (λ c. not (c == 41)) joined (codes ")")
    ∙ append-nil (filter (λ c. not (c == 41)) joined)
    ∙ kept_all (λ c. not (c == 41)) joined
    (join_no 41 44 refl (map decimal (n ∷ ns)) (decimals_no 41 refl (n ∷ ns) h)))
    ∙ ap (map (digits_value 10))
    (split_joined 44 (decimal n) (map decimal ns) (decimals_no 44 refl (n ∷ ns) h))
    ∙ values_back (n ∷ ns) h

leaf_guess : (name : Bytes) (at : List ℕ) → list_all is_of_name name ≡ true
    → list_all (λ n. nat_le n 1048575) at ≡ true
    → leaf_in (name ++ at_text at) ≡ record { name = name; at = at }
leaf_guess name [] h k =
    ap leaf_in (append-nil name)
    ∙ ap leaf_of (slice_split_none (λ c. c == 40) name (none_at 40 name (name_no 40 refl name h)))
leaf_guess name (n ∷ ns) h k =
    let rest = join_with_byte 44 (map decimal (n ∷ ns)) ++ codes ")" in
    let no_open = list_all-append (λ z. not (z == 40)) (join_with_byte 44 (map decimal (n ∷ ns)))
    (codes ")")
    ∙ and_true _ _ (join_no 40 44 refl (map decimal (n ∷ ns))
    (decimals_no 40 refl (n ∷ ns) k)) refl in
    ap leaf_of (slice_split_at (λ c. c == 40) name 40 rest
    (none_at 40 name (name_no 40 refl name h)) refl
    ∙ ap (λ ps. name ∷ ps) (slice_split_none (λ c. c == 40) rest (none_at 40 rest no_open)))
    ∙ ap (λ (at : List ℕ). let l : LeafName = record { name = name; at = at } in l)
    (at_guess n ns k)

-- ---- the whole line

not_stroke : (w : Bytes) → has_no 47 w ≡ true → not (bytes_eq w (codes "/")) ≡ true
not_stroke w h = go (bytes_eq w (codes "/")) refl
  where
    go : (b : Bool) → bytes_eq w (codes "/") ≡ b → not (bytes_eq w (codes "/")) ≡ true
    go false e = ap not e
    go true e =
        let no : false ≡ true = ap (has_no 47) (sym ((bytes_eq-Decides w (codes "/")).0 e))
        ∙ h in absurd cc

strokes_go : (parts : List Bytes) → list_all (has_no 47) parts ≡ true
    → filter (λ w. not (bytes_eq w (codes "/"))) (with_strokes parts) ≡ parts
strokes_go [] h = refl
strokes_go (x ∷ []) h = ap (λ b. cond b (x ∷ []) []) (not_stroke x (both (has_no 47 x) true h).0)
strokes_go (x ∷ y ∷ ys) h =
    let k = both (has_no 47 x) (list_all (has_no 47) (y ∷ ys)) h in
    let rest = filter (λ w. not (bytes_eq w (codes "/"))) (with_strokes (y ∷ ys)) in
    ap (λ b. cond b (x ∷ rest) rest) (not_stroke x k.0)
    ∙ ap (λ ps. x ∷ ps) (strokes_go (y ∷ ys) k.1)

strokes_plain : (parts : List Bytes) → list_all (has_no 32) parts ≡ true
    → list_all (has_no 32) (with_strokes parts) ≡ true
strokes_plain [] h = refl
strokes_plain (x ∷ []) h = h
strokes_plain (x ∷ y ∷ ys) h =
    let k = both (has_no 32 x) (list_all (has_no 32) (y ∷ ys)) h in
    and_true _ _ k.0 (and_true _ _ refl (strokes_plain (y ∷ ys) k.1))

cut_again : (x : Bytes) (parts : List Bytes)
    → list_all (has_no 32) (with_strokes (x ∷ parts)) ≡ true
    → slice_split (λ c. c == 32) (join_with_byte 32 (with_strokes (x ∷ parts)))
    ≡ with_strokes (x ∷ parts)
cut_again x [] h = split_joined 32 x [] h
cut_again x (y ∷ ys) h = split_joined 32 x (codes "/" ∷ with_strokes (y ∷ ys)) h

parts_back : (x : Bytes) (parts : List Bytes) → list_all (has_no 32) (x ∷ parts) ≡ true
    → list_all (has_no 47) (x ∷ parts) ≡ true
    → parts_in (join_with_byte 32 (with_strokes (x ∷ parts))) ≡ x ∷ parts
parts_back x parts h k =
    ap (filter (λ w. not (bytes_eq w (codes "/"))))
    (cut_again x parts (strokes_plain (x ∷ parts) h)) ∙ strokes_go (x ∷ parts) k

-- what holds of the parts of a line
pub record GivenFits (letter : Letter) (t : ℕ) (l : LeafName) (port : Bytes)
    (v : Value) : Type 0 where
  pub letter_is : is_letter letter l ≡ true
  pub time : nat_le t 719999998 ≡ true
  pub leaf : is_leaf l ≡ true
  pub port_is : list_all is_of_name port ≡ true
  pub value : is_value v ≡ true

name_bytes : (w : Bytes) → is_name w ≡ true → list_all is_of_name w ≡ true
name_bytes w h = (both (has_length 1 64 w) (list_all is_of_name w) h).1

pub given_fits : (letter : Letter) (t : ℕ) (l : LeafName) (port : Bytes) (v : Value)
    → is_line (given letter t l port v) ≡ true → GivenFits letter t l port v
given_fits letter t l port v h =
    let a = both (is_letter letter l && is_time t && is_leaf l && is_name port) (is_value v) h in
    let b = both (is_letter letter l && is_time t && is_leaf l) (is_name port) a.0 in
    let c = both (is_letter letter l && is_time t) (is_leaf l) b.0 in
    let d = both (is_letter letter l) (is_time t) c.0 in
    record { letter_is = d.0; time = d.1; leaf = c.1; port_is = name_bytes port b.1; value = a.1 }

byte_no : (c d : ℕ) → nat_lt c 78 ≡ true → nat_le 78 d ≡ true → not (d == c) ≡ true
byte_no c d k h = grind (arith, nat_tests)

-- no letter is a digit or a mark
late : (letter : Letter) → nat_le 78 (letter_byte letter) ≡ true
late letter = of_all (λ k. nat_le 78 (letter_byte k)) refl letter

letter_no : (c : ℕ) (letter : Letter) → nat_lt c 78 ≡ true → has_no c (letter_text letter) ≡ true
letter_no c letter k = and_true _ true (byte_no c (letter_byte letter) k (late letter)) refl

in_time : (t : ℕ) → nat_le t 719999998 ≡ true → t ≤ 719999998
in_time t h = grind (arith, nat_tests)

pub given_no : (c : ℕ) → Sep c → nat_lt c 78 ≡ true
    → (letter : Letter) (t : ℕ) (l : LeafName) (port : Bytes) (v : Value)
    → GivenFits letter t l port v → list_all (has_no c) (parts_of (given letter t l port v)) ≡ true
given_no c s k letter t l port v f =
    and_true _ _ (letter_no c letter k)
    (and_true _ _ (time_no c s t (in_time t f.time))
    (and_true _ _ (leaf_no c s l f.leaf)
    (and_true _ _ (name_no c s.name port f.port_is)
    (and_true _ true (value_no c s v f.value) refl))))

of_value : (letter : Letter) (l : LeafName) → is_letter letter l ≡ true
    → (t : Option ℕ) (leaf : LeafName) (port text : Bytes)
    → lettered_in (Some letter) t leaf port text ≡ given_in letter t leaf port (guessed_value text)
of_value letter l h t leaf port text = by (told_by letter) h
  where
    by : (tells : Tells) → is_told_of tells l ≡ true
        → told_in tells letter t leaf port text ≡ given_in letter t leaf port (guessed_value text)
    by (Given of_cells_alone) h = refl
    by Moved h = absurd cc

given_guess : (letter : Letter) (t : ℕ) (l : LeafName) (port : Bytes) (v : Value)
    → GivenFits letter t l port v
    → line_in (parts_of (given letter t l port v)) ≡ Some (given letter t l port v)
given_guess letter t l port v f =
    let k = leaf_parts l f.leaf in
    let time = guessed_time (time_text t) in
    ap (λ o. lettered_in o time (leaf_in (leaf_name_text l)) port (text5 v)) (letter_back letter)
    ∙ of_value letter l f.letter_is time (leaf_in (leaf_name_text l)) port (text5 v)
    ∙ ap (λ o. given_in letter o (leaf_in (leaf_name_text l)) port (guessed_value (text5 v)))
    (time_guess t (in_time t f.time))
    ∙ ap (λ x. given_in letter (Some t) x port (guessed_value (text5 v)))
    (leaf_guess l.name l.at k.0 k.1)
    ∙ ap (λ o. given_in letter (Some t) l port o) (value_back v f.value)

pub record MovedFits (t : ℕ) (l : LeafName) (state : Option Value) (next : Option ℕ) : Type 0 where
  pub time : nat_le t 719999998 ≡ true
  pub leaf : is_leaf l ≡ true
  pub state_is : is_state l state ≡ true
  pub next_is : is_next next ≡ true

pub moved_fits : (t : ℕ) (l : LeafName) (state : Option Value) (next : Option ℕ)
    → is_line (moved t l state next) ≡ true → MovedFits t l state next
moved_fits t l state next h =
    let a = both (is_time t && is_leaf l && is_state l state) (is_next next) h in
    let b = both (is_time t && is_leaf l) (is_state l state) a.0 in
    let c = both (is_time t) (is_leaf l) b.0 in
    record { time = c.0; leaf = c.1; state_is = b.1; next_is = a.1 }

state_no : (c : ℕ) → Sep c → (l : LeafName) (state : Option Value) → is_state l state ≡ true
    → has_no c (state_text state) ≡ true
state_no c s l None h = and_true _ true (ap not s.minus) refl
state_no c s l (Some v) h = value_no c s v (both (has_place l) (is_value v) h).1

next_no : (c : ℕ) → Sep c → (next : Option ℕ) → is_next next ≡ true
    → has_no c (next_text next) ≡ true
next_no c s None h =
    and_true _ _ (ap not s.point)
    (and_true _ _ (ap not s.point) (and_true _ true (ap not s.point) refl))
next_no c s (Some t) h = time_no c s t (in_time t h)

pub moved_no : (c : ℕ) → Sep c → nat_lt c 78 ≡ true
    → (t : ℕ) (l : LeafName) (state : Option Value) (next : Option ℕ) → MovedFits t l state next
    → list_all (has_no c) (parts_of (moved t l state next)) ≡ true
moved_no c s k t l state next f =
    and_true _ _ (letter_no c S k)
    (and_true _ _ (time_no c s t (in_time t f.time))
    (and_true _ _ (leaf_no c s l f.leaf)
    (and_true _ _ (state_no c s l state f.state_is)
    (and_true _ true (next_no c s next f.next_is) refl))))

state_guess : (l : LeafName) (state : Option Value) → is_state l state ≡ true
    → guessed_value (state_text state) ≡ state
state_guess l None h = refl
state_guess l (Some v) h = value_back v (both (has_place l) (is_value v) h).1

next_guess : (next : Option ℕ) → is_next next ≡ true → guessed_time (next_text next) ≡ next
next_guess None h = refl
next_guess (Some t) h = time_guess t (in_time t h)

moved_guess : (t : ℕ) (l : LeafName) (state : Option Value) (next : Option ℕ)
    → MovedFits t l state next
    → line_in (parts_of (moved t l state next)) ≡ Some (moved t l state next)
moved_guess t l state next f =
    let k = leaf_parts l f.leaf in
    ap (λ o. moved_in o (leaf_in (leaf_name_text l)) (state_text state) (next_text next))
    (time_guess t (in_time t f.time))
    ∙ ap (λ x. moved_in (Some t) x (state_text state) (next_text next))
    (leaf_guess l.name l.at k.0 k.1)
    ∙ ap (λ o. Some (moved t l o (guessed_time (next_text next)))) (state_guess l state f.state_is)
    ∙ ap (λ o. Some (moved t l state o)) (next_guess next f.next_is)

line_guess : (l : LogLine) → is_line l ≡ true → line_in (parts_in (line_text l)) ≡ Some l
line_guess (given letter t l port v) h =
    let f = given_fits letter t l port v h in
    ap line_in (parts_back (letter_text letter) (time_text t ∷ leaf_name_text l ∷ port ∷ text5 v ∷ [])
    (given_no 32 blank refl letter t l port v f) (given_no 47 stroke refl letter t l port v f))
    ∙ given_guess letter t l port v f
line_guess (moved t l state next) h =
    let f = moved_fits t l state next h in
    ap line_in (parts_back (letter_text S)
    (time_text t ∷ leaf_name_text l ∷ state_text state ∷ next_text next ∷ [])
    (moved_no 32 blank refl t l state next f) (moved_no 47 stroke refl t l state next f))
    ∙ moved_guess t l state next f

pub line_read : (l : LogLine) → is_line l ≡ true → read_line (line_text l) ≡ Some l
line_read l h =
    written line_text (if_line (line_in (parts_in (line_text l)))) l
    (ap if_line (line_guess l h) ∙ ap (λ b. cond b (Some l) None) h)
