-- Names in letters of any case.
use Rattle.std.proofs.Common.{◌≡◌, ℕ, ◌≤◌, ◌&&◌, Bool, true, false, IsTrue, [], ◌∷◌, refl, sym, ap, ap₂, ◌∙◌, inl, inr, arith, length, map}
use Rattle.std.specs.Prelude.{◌↔◌}
use Rattle.std.proofs.lemmas.Bool.{cases_lt}
use Rattle.std.proofs.lemmas.Bool.Decides.{nat_tests, same_from_decides}
use Rattle.std.proofs.lemmas.List.{length-map}
use Rattle.std.proofs.lemmas.Slice.Eq.{bytes_eq-Decides}
use Rattle.std.proofs.lemmas.Str.Ascii.{lowercase_is}
use Rattle.std.specs.Char.{to_ascii_lowercase}
use Rattle.std.specs.List.{list_all}
use Rattle.std.specs.Str.{bytes_eq}
use Rattle.quantity.specs.Bytes.{Bytes}
use Rattle.quantity.specs.Digits.{has_length, is_between}
use Rattle.quantity.specs.Names.{is_name, is_of_name}
use Rattle.source_text.specs.Lines.{in_lower_case}

both : (a b : Bool) → a && b ≡ true → (a ≡ true) × (b ≡ true)
both true true e = (refl, refl)
both true false e = absurd cc
both false b e = absurd cc

outside_capitals : (c : ℕ) → is_of_name c ≡ true → 65 ≤ c → c ≤ 90 → ⊥
outside_capitals c e low high = grind (arith, nat_tests)

lower_already : (c : ℕ) → is_of_name c ≡ true → to_ascii_lowercase c ≡ c
lower_already c e =
    elim (cases_lt c 65) [
      | inl lt ↦ (lowercase_is c).1 lt
      | inr ge ↦ elim (cases_lt 90 c) [
        | inl lt ↦ (lowercase_is c).2 lt
        | inr le ↦ absurd (outside_capitals c e ge le)
      ]
    ]

all_lower : (text : Bytes) → list_all is_of_name text ≡ true → in_lower_case text ≡ text
all_lower [] e = refl
all_lower (c ∷ cs) e =
    let h = both (is_of_name c) (list_all is_of_name cs) e in
    ap (λ d. d ∷ in_lower_case cs) (lower_already c h.0) ∙ ap (λ l. c ∷ l) (all_lower cs h.1)

pub folded-name : (text : Bytes) → is_name text ≡ true → in_lower_case text ≡ text
folded-name text e = all_lower text (both (has_length 1 64 text) (list_all is_of_name text) e).1

-- a test of equality up to case, against a name
pub same_name : (r : Bool) (name port : Bytes) → IsTrue (is_name port) → (IsTrue r ↔ (map to_ascii_lowercase name ≡ map to_ascii_lowercase port)) → r ≡ bytes_eq (in_lower_case name) port
same_name r name port e h =
    let is = folded-name port e in
    same_from_decides r (bytes_eq (in_lower_case name) port) ((λ t. h.0 t ∙ is), (λ t. h.1 (t ∙ sym is))) (bytes_eq-Decides (in_lower_case name) port)

list_all-folded : (p : ℕ → Bool) (text : Bytes) → list_all p (in_lower_case text) ≡ list_all (λ c. p (to_ascii_lowercase c)) text
list_all-folded p [] = refl
list_all-folded p (c ∷ cs) = ap (λ b. p (to_ascii_lowercase c) && b) (list_all-folded p cs)

pub is_name-folded : (text : Bytes) → is_name (in_lower_case text) ≡ has_length 1 64 text && list_all (λ c. is_of_name (to_ascii_lowercase c)) text
is_name-folded text = ap₂ ◌&&◌ (ap (is_between 1 64) (length-map text to_ascii_lowercase)) (list_all-folded is_of_name text)

pub folded_name_is : (text : Bytes) (b : Bool) → 1 ≤ length text → length text ≤ 64 → b ≡ list_all (λ c. is_of_name (to_ascii_lowercase c)) text → b ≡ is_name (in_lower_case text)
folded_name_is text b some most e =
    let fits : has_length 1 64 text ≡ true = grind (arith, nat_tests) in
    e ∙ sym (is_name-folded text ∙ ap (λ x. x && list_all (λ c. is_of_name (to_ascii_lowercase c)) text) fits)
