-- Whether texts are as many values as a row has cells.
use Rattle.std.proofs.Common.{◌≡◌, ℕ, Bool, true, false, ◌&&◌, nat_eq, Option, Some, None, List, [], ◌∷◌, map, length, refl, sym, ap, ◌∙◌}
use Rattle.std.specs.List.{list_all}
use Rattle.std.specs.Option.{is_some}
use Rattle.std.specs.Bool.{then_some}
use Rattle.std.proofs.lemmas.List.{length-map}
use Rattle.std.proofs.lemmas.List.Folds.{list_all-map}
use Rattle.quantity.specs.Bytes.{Bytes, all_there, in_front}
use Rattle.quantity.specs.declared.value.Value.{Value}
use Rattle.cell_grid.specs.Initial.{digit_value}
use Rattle.cell_grid.specs.Reading.{all_of}
use Rattle.cell_grid.proofs.Gathered.{length-all_there}

none_missing : (os : List (Option Value)) → is_some (all_there os) ≡ list_all (λ o. is_some o) os
none_missing [] = refl
none_missing (None ∷ os) = refl
none_missing (Some v ∷ os) = at (all_there os) (none_missing os)
  where
    at : (o : Option (List Value)) → is_some o ≡ list_all (λ o. is_some o) os → is_some (in_front (Some v) o) ≡ list_all (λ o. is_some o) os
    at None e = e
    at (Some vs) e = e

and_false : (b : Bool) → false ≡ (b && false)
and_false true = refl
and_false false = refl

and_true : (b : Bool) → b ≡ (b && true)
and_true true = refl
and_true false = refl

if_there : (b : Bool) (vs : List Value) → is_some (then_some b vs) ≡ b
if_there true vs = refl
if_there false vs = refl

-- as many values as are wanted, and none missing
as_many_there : (n : ℕ) (os : List (Option Value)) → is_some (all_of n os) ≡ (nat_eq (length os) n && list_all (λ o. is_some o) os)
as_many_there n os = at (all_there os) (none_missing os) (λ vs e. length-all_there os vs e)
  where
    at : (o : Option (List Value)) → is_some o ≡ list_all (λ o. is_some o) os → ((vs : List Value) → o ≡ Some vs → length vs ≡ length os)
        → is_some (elim o [ None ↦ None | Some values ↦ then_some (nat_eq (length values) n) values ]) ≡ (nat_eq (length os) n && list_all (λ o. is_some o) os)
    at None e size = and_false (nat_eq (length os) n) ∙ ap (λ b. nat_eq (length os) n && b) e
    at (Some vs) e size =
        if_there (nat_eq (length vs) n) vs ∙ ap (λ m. nat_eq m n) (size vs refl) ∙ and_true (nat_eq (length os) n) ∙ ap (λ b. nat_eq (length os) n && b) e

pub digits_there : (n : ℕ) (chars : Bytes) → (nat_eq (length chars) n && list_all (λ c. is_some (digit_value c)) chars) ≡ is_some (all_of n (map digit_value chars))
digits_there n chars =
    sym (as_many_there n (map digit_value chars)
    ∙ ap (λ m. nat_eq m n && list_all (λ o. is_some o) (map digit_value chars)) (length-map chars digit_value)
    ∙ ap (λ b. nat_eq (length chars) n && b) (list_all-map (λ o. is_some o) digit_value chars))
