-- Pieces that stand in front of a text.
use Rattle.std.proofs.Common.{◌≡◌, ℕ, zero, suc, ◌+◌, ◌-◌, ◌*◌, ◌/◌, ◌%◌, ◌<◌, ◌≤◌, Bool, true, false, not, Option, Some, [], ◌∷◌, ◌++◌, refl, sym, ap, ◌∙◌, append_assoc, append-nil, arith, length, take, drop, get_or, codes, decimal, pos, nat_le}
use Rattle.std.specs.List.{list_all, position}
use Rattle.std.specs.Str.{bytes_eq}
use Rattle.std.proofs.lemmas.Bool.Decides.{nat_tests}
use Rattle.std.proofs.lemmas.Fmt.{decimal_digit, decimal_step_wide}
use Rattle.std.proofs.lemmas.List.{length-take-le, length-drop, take-append-drop, take_all}
use Rattle.std.proofs.lemmas.List.Quantifiers.{position-Some}
use Rattle.quantity.specs.declared.value.Value.{Value}
use Rattle.quantity.specs.declared.value.Value.TheVariants.{Num}
use Rattle.quantity.specs.Bytes.{Bytes}
use Rattle.quantity.specs.Names.{is_name, is_of_name}
use Rattle.quantity.specs.Times.{time_text}
use Rattle.quantity.specs.ValueTexts.{text5}
use Rattle.quantity.proofs.Written.{and_true}
use Rattle.text_forms.specs.LogLine.{LeafName, is_leaf, is_value, leaf_name_text, state_text}
use Rattle.drawlog_top.specs.Fronts.{stroke, is_state_value, IsPlaceInFront}
use Rattle.drawlog_top.specs.Strict.{read_state}
use Rattle.drawlog_top.proofs.StrictLemmas.{same_some}
use Rattle.drawlog_top.proofs.StrictLines.{state_by}
use Rattle.drawlog_top.proofs.UsualForms.{digit_value}

-- ---- names

not_not : (b : Bool) → not b ≡ false → b ≡ true
not_not true e = refl
not_not false e = absurd cc

all_in_front : (q : ℕ → Bool) (text : Bytes) (n : ℕ) → n ≤ length text → ((k : ℕ) → k < n → q (get_or text k 0) ≡ true) → list_all q (take n text) ≡ true
all_in_front q text zero le h = refl
all_in_front q [] (suc n) le h = refl
all_in_front q (c ∷ cs) (suc n) le h = and_true (q c) (list_all q (take n cs)) (h 0 (omega arith)) (all_in_front q cs n (omega arith) (λ k lt. h (suc k) (omega arith)))

pub name_before : (text : Bytes) (end : ℕ) → position (λ c. not (is_of_name c)) text ≡ Some end → 0 < end → end ≤ 64 → is_name (take end text) ≡ true
name_before text end h some few =
    let k = position-Some (λ c. not (is_of_name c)) text end 0 h in
    let long : length (take end text) ≡ end = length-take-le end text (omega (arith, k.0)) in
    let l : nat_le 1 (length (take end text)) ≡ true = grind (arith, nat_tests, long) in
    let m : nat_le (length (take end text)) 64 ≡ true = grind (arith, nat_tests, long) in
    and_true _ _ (and_true _ _ l m) (all_in_front is_of_name text end (omega (arith, k.0)) (λ i lt. not_not (is_of_name (get_or text i 0)) (k.2 i lt)))

-- ---- numbers

pub digit_more : (n d : ℕ) (text rest : Bytes) → 0 < n → n < 1000 → d < 10 → text ≡ (48 + d) ∷ rest → decimal n ++ text ≡ decimal (n * 10 + d) ++ rest
digit_more n d text rest some small lt e =
    let tens : (n * 10 + d) / 10 ≡ n = omega arith in
    let ones : (n * 10 + d) % 10 ≡ d = omega arith in
    ap (λ (r : Bytes). decimal n ++ r) e
    ∙ sym (append_assoc (decimal n) ((48 + d) ∷ []) rest)
    ∙ ap (λ (x : Bytes). x ++ rest) (sym (decimal_step_wide (n * 10 + d) (omega arith) (omega arith) ∙ ap (λ m. decimal m ++ (48 + (n * 10 + d) % 10) ∷ []) tens ∙ ap (λ m. decimal n ++ (48 + m) ∷ []) ones))

pub one_digit : (d : ℕ) (text rest : Bytes) → d < 10 → text ≡ (48 + d) ∷ rest → text ≡ decimal d ++ rest
one_digit d text rest lt e = e ∙ ap (λ (x : Bytes). x ++ rest) (sym (decimal_digit d lt))

-- ---- what follows

pub rest_after : (text : Bytes) (n : ℕ) → text ≡ take n text ++ take (length text - n) (drop n text)
rest_after text n = sym (ap (λ (r : Bytes). take n text ++ r) (take_all (length text - n) (drop n text) (omega (arith, length-drop n text))) ∙ take-append-drop n text)

pub zero_in_front : (d : ℕ) (text rest : Bytes) → d ≡ 0 → d < 10 → text ≡ (48 + d) ∷ rest → text ≡ decimal 0 ++ rest
zero_in_front d text rest none lt e = one_digit d text rest lt e ∙ ap (λ n. decimal n ++ rest) none

pub part_before : (text part behind rest : Bytes) → text ≡ part ++ behind → behind ≡ stroke [] rest → text ≡ stroke part rest
part_before text part behind rest e f = e ∙ ap (λ (x : Bytes). part ++ x) f

pub time_before : (text rest : Bytes) (t : ℕ) → take 12 text ≡ time_text t → take (length text - 12) (drop 12 text) ≡ stroke [] rest → text ≡ stroke (time_text t) rest
time_before text rest t e f =
    rest_after text 12 ∙ ap (λ (x : Bytes). x ++ take (length text - 12) (drop 12 text)) e ∙ ap (λ (x : Bytes). time_text t ++ x) f

-- ---- leaves

small : (n : ℕ) → n < 10000 → nat_le n 1048575 ≡ true
small n lt = grind (arith, nat_tests)

spread : (name x y tail : Bytes) → (name ++ 40 ∷ ((x ++ 44 ∷ y) ++ 41 ∷ [])) ++ tail ≡ name ++ 40 ∷ (x ++ 44 ∷ (y ++ 41 ∷ tail))
spread name x y tail =
    append_assoc name (40 ∷ ((x ++ 44 ∷ y) ++ 41 ∷ [])) tail
    ∙ ap (λ (r : Bytes). name ++ 40 ∷ r) (append_assoc (x ++ 44 ∷ y) (41 ∷ []) tail ∙ append_assoc x (44 ∷ y) (41 ∷ tail))

abbrev pub cell_name : Bytes → ℕ → ℕ → LeafName
cell_name name i j = record { name = name; at = i ∷ j ∷ [] }

pub cell_is : (name : Bytes) (i j : ℕ) → is_name name ≡ true → i < 10000 → j < 10000 → is_leaf (cell_name name i j) ≡ true
cell_is name i j is si sj = and_true _ _ (and_true _ _ is (and_true _ _ (small i si) (and_true _ true (small j sj) refl))) refl

pub place_pieces : (text : Bytes) (i j : ℕ) (c d e rest : Bytes) → i < 10000 → j < 10000 → text ≡ decimal i ++ c → c ≡ 44 ∷ d → d ≡ decimal j ++ e → e ≡ stroke (codes ")") rest
    → IsPlaceInFront text i j rest
place_pieces text i j c d e rest si sj h0 h1 h2 h3 = record {
  row_short = si;
  column_short = sj;
  text_is = h0 ∙ ap (λ (x : Bytes). decimal i ++ x) (h1 ∙ ap (λ (x : Bytes). 44 ∷ x) (h2 ∙ ap (λ (x : Bytes). decimal j ++ x) h3));
}

pub cell_before : (text name : Bytes) (i j : ℕ) (a b rest : Bytes) → is_name name ≡ true → text ≡ name ++ a → a ≡ 40 ∷ b → IsPlaceInFront b i j rest
    → (is_leaf (cell_name name i j) ≡ true) × (text ≡ stroke (leaf_name_text (cell_name name i j)) rest)
cell_before text name i j a b rest is h0 h1 place = (
  cell_is name i j is place.row_short place.column_short,
  h0 ∙ ap (λ (x : Bytes). name ++ x) (h1 ∙ ap (λ (x : Bytes). 40 ∷ x) place.text_is)
      ∙ sym (spread name (decimal i) (decimal j) (32 ∷ 47 ∷ 32 ∷ rest)),
)

abbrev pub component : Bytes → LeafName
component name = record { name = name; at = [] }

pub component_before : (text name a rest : Bytes) → is_name name ≡ true → text ≡ name ++ a → a ≡ stroke [] rest
    → (is_leaf (component name) ≡ true) × (text ≡ stroke (leaf_name_text (component name)) rest)
component_before text name a rest is h0 h1 = (
  and_true _ true (and_true _ true is refl) refl,
  part_before text name a rest h0 h1 ∙ ap (λ (x : Bytes). stroke x rest) (sym (append-nil name)),
)

-- ---- states

pub value_before : (text rest : Bytes) (v : Value) (d byte : ℕ) → d < 10 → byte ≡ 48 + d → Some v ≡ Some (Num (pos (d * 100000))) → text ≡ byte ∷ (codes ".00000" ++ stroke [] rest) → (is_value v ≡ true) × (text ≡ stroke (text5 v) rest)
value_before text rest v d byte lt b e is =
    let k = digit_value d lt in
    let same = same_some v (Num (pos (d * 100000))) e in (
      ap is_value same ∙ k.1,
      is ∙ ap (λ (x : ℕ). x ∷ (codes ".00000" ++ stroke [] rest)) b ∙ ap (λ (x : Bytes). stroke x rest) (sym (ap text5 same ∙ k.0)),
    )

pub state_before : (text word rest : Bytes) (s : Option Value) → text ≡ stroke word rest → read_state word ≡ Some s → (is_state_value s ≡ true) × (text ≡ stroke (state_text s) rest)
state_before text word rest s cut read =
    let k = state_by word s (bytes_eq word (codes "-")) refl read in
    (k.1, cut ∙ ap (λ (x : Bytes). stroke x rest) k.0)
