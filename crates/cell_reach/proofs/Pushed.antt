-- Offsets that are pushed one after another.
use Rattle.std.proofs.Common.{◌≡◌, ◌<◌, ◌≤◌, ◌+◌, ◌++◌, ℕ, List, [], ◌∷◌, map, take, get_or, length, refl, sym, ap, ◌∙◌}
use Rattle.std.proofs.lemmas.List.{take_more, take_all, map_push}
use Rattle.quantity.specs.declared.place.Offset.{Offset}
use Rattle.cell_grid.specs.Space.{Space}
use Rattle.cell_grid.specs.Watched.{opposite}
use Rattle.cell_reach.specs.Neighbourhoods.{Neighbourhood}

-- one more ahead, and one more back
pub ahead_more : (os : List Offset) (i : ℕ) (none p : Offset) (now next : Neighbourhood) → i < length os → p ≡ get_or os i none → now.offsets ≡ take i os → next ≡ record { space = now.space; offsets = now.offsets ++ p ∷ [] } → next.offsets ≡ take (i + 1) os
ahead_more os i none p now next lt same held more =
    ap (λ (n : Neighbourhood). n.offsets) more ∙ ap (λ (x : Offset). now.offsets ++ x ∷ []) same ∙ ap (λ (l : List Offset). l ++ get_or os i none ∷ []) held ∙ sym (take_more os i none lt)

pub back_more : (os : List Offset) (i : ℕ) (none p : Offset) (now next : Neighbourhood) → i < length os → p ≡ opposite (get_or os i none) → now.offsets ≡ map opposite (take i os) → next ≡ record { space = now.space; offsets = now.offsets ++ p ∷ [] } → next.offsets ≡ map opposite (take (i + 1) os)
back_more os i none p now next lt same held more =
    ap (λ (n : Neighbourhood). n.offsets) more ∙ ap (λ (x : Offset). now.offsets ++ x ∷ []) same ∙ ap (λ (l : List Offset). l ++ opposite (get_or os i none) ∷ []) held
    ∙ sym (ap (map opposite) (take_more os i none lt) ∙ map_push opposite (take i os) (get_or os i none))

pub space_kept : (now next : Neighbourhood) (s : Space) (p : Offset) → now.space ≡ s → next ≡ record { space = now.space; offsets = now.offsets ++ p ∷ [] } → next.space ≡ s
space_kept now next s p held more = ap (λ (n : Neighbourhood). n.space) more ∙ held

-- none is left
pub all_ahead : (os : List Offset) (i : ℕ) (n : Neighbourhood) (s : Space) → length os ≤ i → n.space ≡ s → n.offsets ≡ take i os → n ≡ record { space = s; offsets = os }
all_ahead os i n s past space held = rw (← space, held, take_all i os past) refl
