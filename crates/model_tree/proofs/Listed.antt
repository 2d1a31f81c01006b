-- Names that are copied, one after another.
use Rattle.std.proofs.Common.{◌≡◌, ◌≤◌, ◌<◌, ◌+◌, ◌++◌, ℕ, List, [], ◌∷◌, map, take, get_or, length, sym, ap, ◌∙◌, append_assoc}
use Rattle.std.proofs.lemmas.List.{take_more, take_all}
use Rattle.model_tree.specs.Tree.{Word}

took : {X : Type 0} (xs : List X) (i : ℕ) (x : X) → i < length xs → x ≡ get_or xs i x → take (i + 1) xs ≡ take i xs ++ x ∷ []
took xs i x lt is = take_more xs i x lt ∙ ap (λ y. take i xs ++ y ∷ []) (sym is)

-- one name more behind the others
pub copied-more : (xs old now new : List Word) (i : ℕ) (x : Word) → i < length xs → x ≡ get_or xs i x → now ≡ old ++ take i xs → new ≡ now ++ x ∷ [] → new ≡ old ++ take (i + 1) xs
copied-more xs old now new i x lt is before e =
    e ∙ ap (λ (ns : List Word). ns ++ x ∷ []) before ∙ append_assoc old (take i xs) (x ∷ []) ∙ ap (λ (ns : List Word). old ++ ns) (sym (took xs i x lt is))

pub copied-all : (xs old now : List Word) (i : ℕ) → length xs ≤ i → now ≡ old ++ take i xs → now ≡ old ++ xs
copied-all xs old now i past before = before ∙ ap (λ (ns : List Word). old ++ ns) (take_all i xs past)

-- the same of names that are written
pub written-all : {X : Type 0} (f : X → Word) (xs : List X) (now : List Word) (i : ℕ) → length xs ≤ i → now ≡ map f (take i xs) → now ≡ map f xs
written-all f xs now i past before = before ∙ ap (map f) (take_all i xs past)
