-- A text in small letters, letter by letter.
use Rattle.std.proofs.Common.{◌≡◌, ℕ, ◌+◌, ◌<◌, ◌≤◌, List, [], ◌∷◌, ◌++◌, sym, ap, ◌∙◌, map, take, length, get_or}
use Rattle.std.proofs.lemmas.List.{take_more, take_all, map-append}
use Rattle.answer_model.specs.Asked.{lower}

-- one letter more
pub one_more : (low new text : List ℕ) (i : ℕ) → i < length text → new ≡ low ++ lower (get_or text i 0) ∷ [] → low ≡ map lower (take i text) → new ≡ map lower (take (i + 1) text)
one_more low new text i lt is h =
    is ∙ ap (λ xs. xs ++ lower (get_or text i 0) ∷ []) h ∙ sym (ap (map lower) (take_more text i 0 lt) ∙ map-append lower (take i text) (get_or text i 0 ∷ []))

-- behind the last letter
pub all_lowered : (low text : List ℕ) (i : ℕ) → length text ≤ i → low ≡ map lower (take i text) → low ≡ map lower text
all_lowered low text i past h = h ∙ ap (map lower) (take_all i text past)
