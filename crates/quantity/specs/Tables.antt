-- Kleene's tables, and those of the operators that follow from them.
use Rattle.std.specs.Prelude.{◌≡◌, List, [], ◌∷◌, map}
use Rattle.quantity.specs.declared.truth.Tri.{Tri}
use Rattle.quantity.specs.declared.truth.Tri.TheVariants.{True, False, Undef}
use Rattle.quantity.specs.Truth.{negation, conjunction, disjunction, exclusion, implication, equivalence}

-- both operands: all pairs
abbrev pub operands : List (Tri × Tri)
operands =
    (True, True) ∷ (True, False) ∷ (True, Undef)
    ∷ (False, True) ∷ (False, False) ∷ (False, Undef)
    ∷ (Undef, True) ∷ (Undef, False) ∷ (Undef, Undef) ∷ []

-- an operator's answers at these
abbrev pub column : (Tri → Tri → Tri) → List Tri
column f = map (λ (p : Tri × Tri). f p.0 p.1) operands

-- the answers of each operator at all operands
pub record TablesAsSaid : Type 0 where
  pub not : map negation (True ∷ False ∷ Undef ∷ []) ≡ False ∷ True ∷ Undef ∷ []
  pub and : column conjunction ≡ True ∷ False ∷ Undef ∷ False ∷ False ∷ False ∷ Undef ∷ False
      ∷ Undef ∷ []
  pub or : column disjunction ≡ True ∷ True ∷ True ∷ True ∷ False ∷ Undef ∷ True ∷ Undef ∷ Undef
      ∷ []
  pub xor : column exclusion ≡ False ∷ True ∷ Undef ∷ True ∷ False ∷ Undef ∷ Undef ∷ Undef ∷ Undef
      ∷ []
  pub imp : column implication ≡ True ∷ False ∷ Undef ∷ True ∷ True ∷ True ∷ True ∷ Undef ∷ Undef
      ∷ []
  pub eqv : column equivalence ≡ True ∷ False ∷ Undef ∷ False ∷ True ∷ Undef ∷ Undef ∷ Undef ∷ Undef
      ∷ []

-- what the tables of not, and, or are together
pub record LogicLaws : Type 0 where
  pub twice_not : (a : Tri) → negation (negation a) ≡ a
  pub and_order : (a b : Tri) → conjunction a b ≡ conjunction b a
  pub or_order : (a b : Tri) → disjunction a b ≡ disjunction b a
  pub and_grouped : (a b c : Tri) → conjunction (conjunction a b) c
      ≡ conjunction a (conjunction b c)
  pub or_grouped : (a b c : Tri) → disjunction (disjunction a b) c ≡ disjunction a (disjunction b c)
  pub not_and : (a b : Tri) → negation (conjunction a b) ≡ disjunction (negation a) (negation b)
  pub not_or : (a b : Tri) → negation (disjunction a b) ≡ conjunction (negation a) (negation b)
  pub xor_order : (a b : Tri) → exclusion a b ≡ exclusion b a
