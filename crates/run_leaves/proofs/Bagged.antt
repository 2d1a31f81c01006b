-- The names of ports, by the bag that needs them.
use Rattle.std.proofs.Common.{◌≡◌, ℕ, ◌<◌, Bool, true, false, List, [], ◌∷◌, length, sym, ◌∙◌, ap, subst, arith}
use Rattle.std.specs.Prelude.{◌==◌}
use Rattle.std.proofs.lemmas.Bool.{eqb-true}
use Rattle.std.proofs.lemmas.List.{nil_from_length}
use Rattle.std.specs.List.{All}
use Rattle.quantity.specs.declared.value.Value.{Value}
use Rattle.atomic_face.specs.declared.class.PortNo.{PortNo}
use Rattle.atomic_face.specs.Classes.{Bag}
use Rattle.model_tree.specs.Tree.{Word}
use Rattle.run_leaves.specs.Moving.{AreNamesFor}

-- a bag that is found empty
pub no_bag_is : (bag : Bag) (found : Bool) → found ≡ (length bag == 0) → found ≡ true → bag ≡ []
no_bag_is bag found is so = nil_from_length bag (eqb-true (length bag) 0 (sym is ∙ so))

-- needs no names
pub no_names : (bag : Bag) (found : Bool) (names all : List Word) → found ≡ (length bag == 0)
    → found ≡ true → AreNamesFor bag names all
no_names bag found names all is so =
    subst (λ (b : Bag). AreNamesFor b names all) (sym (no_bag_is bag found is so)) tt

-- one that is not needs them
pub names_needed : (bag : Bag) (found : Bool) (names all : List Word) → found ≡ (length bag == 0)
    → found ≡ false → AreNamesFor bag names all → names ≡ all
names_needed [] found names all is empty h = let e : true ≡ false = sym is ∙ empty in absurd cc
names_needed (x ∷ bag) found names all is empty h = h

pub names_are : (bag : Bag) (names all : List Word) → names ≡ all → AreNamesFor bag names all
names_are [] names all is = tt
names_are (x ∷ bag) names all is = is

-- its ports are among them
pub within_names : (bag : Bag) (names all : List Word) (n : ℕ) → n ≡ length all
    → AreNamesFor bag names all → All (λ (o : PortNo × Value). o.0.0 < n) bag
    → All (λ (o : PortNo × Value). o.0.0 < length names) bag
within_names [] names all n many h within = λ j d lt. absurd (omega (arith, lt))
within_names (x ∷ bag) names all n many h within =
    subst (λ (k : ℕ). All (λ (o : PortNo × Value). o.0.0 < k) (x ∷ bag))
    (many ∙ sym (ap (λ (ws : List Word). length ws) h)) within
