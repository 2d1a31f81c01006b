-- Values that are gathered one after another.
use Rattle.std.proofs.Common.{◌≡◌, ℕ, suc, ◌<◌, Option, Some, None, List, [], ◌∷◌, ◌++◌, map, refl, ap, sym, ◌∙◌, arith, length, nat_eq}
use Rattle.std.proofs.lemmas.List.{append-nil, append_assoc, length-append}
use Rattle.std.proofs.lemmas.Bool.{eq-eqb, ne_eqb}
use Rattle.std.specs.Option.{option_map, option_and_then}
use Rattle.std.specs.Bool.{then_some}
use Rattle.quantity.specs.Bytes.{all_there, in_front}

abbrev pub in_all : {V : Type 0} → ℕ → Option (List V) → Option (List V)
in_all n o = option_and_then (λ values. then_some (nat_eq (length values) n) values) o

abbrev pub behind : {V : Type 0} → List V → Option (List V) → Option (List V)
behind front o = option_map (λ vs. front ++ vs) o

pub behind_nothing : {V : Type 0} (o : Option (List V)) → o ≡ behind [] o
behind_nothing None = refl
behind_nothing (Some vs) = refl

pub behind_more : {V : Type 0} (front : List V) (v : V) (o : Option (List V)) → behind front (in_front (Some v) o) ≡ behind (front ++ v ∷ []) o
behind_more front v None = refl
behind_more front v (Some vs) = ap Some (sym (append_assoc front (v ∷ []) vs))

as_many : {V : Type 0} (vs : List V) (n : ℕ) → length vs ≡ n → in_all n (Some vs) ≡ Some vs
as_many vs n e = ap (λ b. then_some b vs) (eq-eqb _ _ e)

not_as_many : {V : Type 0} (vs : List V) (n : ℕ) → (length vs ≡ n → ⊥) → in_all n (Some vs) ≡ None
not_as_many vs n h = ap (λ b. then_some b vs) (ne_eqb _ _ h)

module _ {A V : Type 0} (f : A → Option V) (whole : Option (List V)) (front : List V) (left : List A) (e : whole ≡ behind front (all_there (map f left))) where
  pub gathered_more : (x : A) (rest : List A) (v : V) → left ≡ x ∷ rest → f x ≡ Some v → whole ≡ behind (front ++ v ∷ []) (all_there (map f rest))
  gathered_more x rest v is value =
      e ∙ ap (λ xs. behind front (all_there (map f xs))) is ∙ ap (λ o. behind front (in_front o (all_there (map f rest)))) value ∙ behind_more front v (all_there (map f rest))

  pub one_missing : (n : ℕ) (x : A) (rest : List A) → left ≡ x ∷ rest → f x ≡ None → in_all n whole ≡ None
  one_missing n x rest is missing =
      ap (in_all n) (e ∙ ap (λ xs. behind front (all_there (map f xs))) is ∙ ap (λ o. behind front (in_front o (all_there (map f rest)))) missing)

  pub all_gathered : (n : ℕ) → left ≡ [] → length front ≡ n → in_all n whole ≡ Some front
  all_gathered n is l =
      ap (in_all n) (e ∙ ap (λ xs. behind front (all_there (map f xs))) is ∙ ap Some (append-nil front)) ∙ as_many front n l

  pub too_few : (n : ℕ) → left ≡ [] → length front < n → in_all n whole ≡ None
  too_few n is l =
      ap (in_all n) (e ∙ ap (λ xs. behind front (all_there (map f xs))) is ∙ ap Some (append-nil front)) ∙ not_as_many front n (λ same. omega arith)

  pub too_many : (n : ℕ) (x : A) (rest : List A) → left ≡ x ∷ rest → length front ≡ n → in_all n whole ≡ None
  too_many n x rest is l = ap (in_all n) (e ∙ ap (λ xs. behind front (all_there (map f xs))) is) ∙ longer (f x) (all_there (map f rest))
    where
      longer : (o : Option V) (os : Option (List V)) → in_all n (behind front (in_front o os)) ≡ None
      longer None os = refl
      longer (Some v) None = refl
      longer (Some v) (Some vs) = not_as_many (front ++ v ∷ vs) n (λ same. omega (arith, length-append front (v ∷ vs)))

-- as many values as there are options
pub length-all_there : {V : Type 0} (os : List (Option V)) (vs : List V) → all_there os ≡ Some vs → length vs ≡ length os
length-all_there [] vs e = let k : vs ≡ [] = cc in ap length k
length-all_there (None ∷ os) vs e = absurd cc
length-all_there {V} (Some v ∷ os) vs e = at (all_there os) (λ ws f. length-all_there os ws f) e
  where
    at : (o : Option (List V)) → ((ws : List V) → o ≡ Some ws → length ws ≡ length os) → in_front (Some v) o ≡ Some vs → length vs ≡ suc (length os)
    at None k e = absurd cc
    at (Some ws) k e = let is : vs ≡ v ∷ ws = cc in ap length is ∙ ap suc (k ws refl)

pub length-gathered : {V : Type 0} (n : ℕ) (os : List (Option V)) → (length os ≡ n → ⊥) → in_all n (all_there os) ≡ None
length-gathered {V} n os h = go (all_there os) (λ vs e. length-all_there os vs e)
  where
    go : (o : Option (List V)) → ((vs : List V) → o ≡ Some vs → length vs ≡ length os) → in_all n o ≡ None
    go None k = refl
    go (Some vs) k = not_as_many vs n (λ e. h (sym (k vs refl) ∙ e))
