-- The first that refuses, of phases in two parts.
use Rattle.std.proofs.Common.{◌≡◌, Option, Some, None, List, [], ◌∷◌, ◌++◌, refl, ap, ◌∙◌}
use Rattle.std.specs.List.{AllByRecursion}
use Rattle.std.specs.Option.{option_or}
use Rattle.std.proofs.lemmas.Option.{none-some}
use Rattle.model_text.specs.Refusals.{Refusal}
use Rattle.model_text.specs.Accepted.{first_of}

pub none_first : (os ps : List (Option Refusal)) → AllByRecursion (λ o. o ≡ None) os → first_of (os ++ ps) ≡ first_of ps
none_first [] ps h = refl
none_first (o ∷ os) ps h = ap (λ x. option_or x (first_of (os ++ ps))) h.0 ∙ none_first os ps h.1

pub some_first : (os ps : List (Option Refusal)) (r : Refusal) → first_of os ≡ Some r → first_of (os ++ ps) ≡ Some r
some_first [] ps r e = absurd (none-some r e)
some_first (None ∷ os) ps r e = some_first os ps r e
some_first (Some x ∷ os) ps r e = e
