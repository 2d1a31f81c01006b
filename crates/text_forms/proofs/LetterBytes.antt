-- Letters among bytes.
use Rattle.std.proofs.Common.{◌≡◌, ℕ, ◌==◌, ◌&&◌, ◌||◌, Bool, true, false, cond, Option, Some, None}
use Rattle.std.proofs.Common.{List, [], ◌∷◌, refl, sym, ap, ◌∙◌, map}
use Rattle.std.specs.List.{find, filter, list_any, list_all}
use Rattle.std.proofs.lemmas.Bool.{eqb-true, and_parts}
use Rattle.text_forms.specs.declared.letter.Letter.{Letter}
use Rattle.text_forms.specs.Letters.{all_letters, letter_byte, letter_bytes, bytes_where}
use Rattle.text_forms.specs.Letters.{letter_named, has_letter}
use Rattle.text_forms.proofs.AllLetters.{same, same_letter, is_there, found}

-- ---- the bytes of chosen letters

and_on : (b : Bool) → (b && true) ≡ b
and_on true = refl
and_on false = refl

and_off : (b : Bool) → (b && false) ≡ false
and_off true = refl
and_off false = refl

any_kept : (p : Letter → Bool) (k : Letter) (xs : List Letter)
    → has_letter (map letter_byte (filter p xs)) k ≡ list_any (λ x. p x && same x k) xs
any_kept p k [] = refl
any_kept p k (x ∷ xs) = one (p x) (any_kept p k xs)
  where
    one : (b : Bool)
        → has_letter (map letter_byte (filter p xs)) k ≡ list_any (λ x. p x && same x k) xs
        → has_letter (map letter_byte (cond b (x ∷ filter p xs) (filter p xs))) k
        ≡ ((b && same x k) || list_any (λ x. p x && same x k) xs)
    one true more = ap (λ c. same x k || c) more
    one false more = more

any_same : (p : Letter → Bool) (k : Letter) (xs : List Letter)
    → list_any (λ x. p x && same x k) xs ≡ (p k && list_any (λ x. same x k) xs)
any_same p k [] = sym (and_off (p k))
any_same p k (x ∷ xs) =
    ap (λ c. (p x && same x k) || c) (any_same p k xs) ∙ go (same x k) refl
  where
    rest : Bool
    rest = list_any (λ x. same x k) xs

    once : (a r : Bool) → ((a && true) || (a && r)) ≡ (a && true)
    once true r = refl
    once false r = refl

    go : (b : Bool) → same x k ≡ b → ((p x && b) || (p k && rest)) ≡ (p k && (b || rest))
    go true e = ap (λ a. (a && true) || (p k && rest)) (ap p (same_letter x k e)) ∙ once (p k) rest
    go false e = ap (λ a. a || (p k && rest)) (and_off (p x))

-- a letter is among the bytes of the chosen ones where it is chosen
pub chosen_has : (p : Letter → Bool) (k : Letter) → has_letter (bytes_where p) k ≡ p k
chosen_has p k =
    any_kept p k all_letters ∙ any_same p k all_letters ∙ ap (λ b. p k && b) (is_there k)
    ∙ and_on (p k)

-- ---- bytes that are no letters

abbrev among : ℕ → List ℕ → Bool
among c cs = list_any (λ d. d == c) cs

or_parts : (a b : Bool) → (a || b) ≡ false → (a ≡ false) × (b ≡ false)
or_parts true b e = absurd cc
or_parts false b e = (refl, e)

none_found : (c : ℕ) (xs : List Letter) → find (λ letter. letter_byte letter == c) xs ≡ None
    → among c (map letter_byte xs) ≡ false
none_found c [] e = refl
none_found c (x ∷ xs) e = by (letter_byte x == c) e (none_found c xs)
  where
    by : (b : Bool) → cond b (Some x) (find (λ letter. letter_byte letter == c) xs) ≡ None
        → (find (λ letter. letter_byte letter == c) xs ≡ None
        → among c (map letter_byte xs) ≡ false)
        → (b || among c (map letter_byte xs)) ≡ false
    by true e more = absurd cc
    by false e more = more e

none_kept : (c : ℕ) (p : Letter → Bool) (xs : List Letter) → among c (map letter_byte xs) ≡ false
    → among c (map letter_byte (filter p xs)) ≡ false
none_kept c p [] e = refl
none_kept c p (x ∷ xs) e =
    let k = or_parts (letter_byte x == c) (among c (map letter_byte xs)) e in
    by (p x) k.0 (none_kept c p xs k.1)
  where
    by : (b : Bool) → (letter_byte x == c) ≡ false → among c (map letter_byte (filter p xs)) ≡ false
        → among c (map letter_byte (cond b (x ∷ filter p xs) (filter p xs))) ≡ false
    by true off more = ap (λ b. b || among c (map letter_byte (filter p xs))) off ∙ more
    by false off more = more

unknown_off : (c : ℕ) (text : List ℕ) → among c letter_bytes ≡ false
    → list_all (λ d. among d letter_bytes) text ≡ true → among c text ≡ false
unknown_off c [] off all = refl
unknown_off c (d ∷ text) off all =
    let parts = and_parts (among d letter_bytes) (list_all (λ d. among d letter_bytes) text) all in
    here (d == c) refl parts.0 (unknown_off c text off parts.1)
  where
    here : (b : Bool) → (d == c) ≡ b → among d letter_bytes ≡ true → among c text ≡ false
        → (b || among c text) ≡ false
    here true is on rest =
        let bad : true ≡ false = sym on ∙ ap (λ m. among m letter_bytes) (eqb-true d c is) ∙ off in
        absurd cc
    here false is on rest = rest

-- where the chosen letters are those among bytes that are letters, both have the same bytes
pub bytes_are : (p : Letter → Bool) (text : List ℕ)
    → list_all (λ d. among d letter_bytes) text ≡ true
    → ((k : Letter) → p k ≡ has_letter text k)
    → (c : ℕ) → among c text ≡ among c (bytes_where p)
bytes_are p text all each c = by (letter_named c) refl
  where
    by : (o : Option Letter) → letter_named c ≡ o → among c text ≡ among c (bytes_where p)
    by None e =
        let off = none_found c all_letters e in
        unknown_off c text off all ∙ sym (none_kept c p all_letters off)
    by (Some k) e =
        let here : has_letter text k
        ≡ has_letter (bytes_where p) k = sym (chosen_has p k ∙ each k) in
        let is = found c all_letters k e in
        ap (λ m. among m text) (sym is) ∙ here ∙ ap (λ m. among m (bytes_where p)) is
