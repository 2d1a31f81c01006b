-- The text of a place, piece by piece, and the leaves of one more child.
use Rattle.std.proofs.Common.{◌≡◌, ℕ, ◌+◌, ◌<◌, List, [], ◌∷◌, ◌++◌, Option, None, Some, take, get_or, length, sym, ap, ◌∙◌, append_assoc, arith}
use Rattle.std.specs.Prelude.{codes, decimal}
use Rattle.std.specs.List.{join_with_byte}
use Rattle.std.proofs.lemmas.List.{take_more}
use Rattle.std.proofs.lemmas.List.Sums.{sum_by-append}
use Rattle.quantity.specs.Bytes.{Bytes}
use Rattle.quantity.specs.declared.place.Place.{Place}
use Rattle.rule_tree.specs.Meaning.{coordinates}
use Rattle.cell_grid.specs.Space.{Space, dims_of}
use Rattle.model_tree.specs.declared.component.Component.{Component}
use Rattle.model_leaves.specs.Counted.{leaves_in, leaves_in_all}
use Rattle.model_leaves.specs.LeafTexts.{at_text}
use Rattle.model_leaves.specs.PlaneTexts.{plane_text}

two_joined : (old r k : Bytes) → ((old ++ 40 ∷ r) ++ 44 ∷ k) ++ codes ")" ≡ old ++ 40 ∷ (join_with_byte 44 (r ∷ k ∷ []) ++ codes ")")
two_joined old r k = simp append_assoc

three_joined : (old r k l : Bytes) → ((old ++ 40 ∷ r) ++ 44 ∷ k) ++ 44 ∷ (l ++ codes ")") ≡ old ++ 40 ∷ (join_with_byte 44 (r ∷ k ∷ l ∷ []) ++ codes ")")
three_joined old r k l = simp append_assoc

joined : (s : Space) (p : Place) (old : Bytes) → ((old ++ 40 ∷ decimal p.row) ++ 44 ∷ decimal p.column) ++ plane_text s p.plane ≡ old ++ at_text (take (dims_of s) (coordinates p))
joined s p old = by s.planes
  where
    by : (o : Option ℕ) → ((old ++ 40 ∷ decimal p.row) ++ 44 ∷ decimal p.column) ++ elim o [ None ↦ codes ")" | Some k ↦ 44 ∷ (decimal p.plane ++ codes ")") ] ≡ old ++ at_text (take (elim o [ None ↦ 2 | Some n ↦ 3 ]) (coordinates p))
    by None = two_joined old (decimal p.row) (decimal p.column)
    by (Some n) = three_joined old (decimal p.row) (decimal p.column) (decimal p.plane)

-- row, column, and what stands behind them
pub place_put : (s : Space) (p : Place) (old one two new : Bytes) → one ≡ old ++ 40 ∷ decimal p.row → two ≡ one ++ 44 ∷ decimal p.column → new ≡ two ++ plane_text s p.plane → new ≡ old ++ at_text (take (dims_of s) (coordinates p))
place_put s p old one two new row column plane =
    plane ∙ ap (λ (x : Bytes). x ++ plane_text s p.plane) (column ∙ ap (λ (x : Bytes). x ++ 44 ∷ decimal p.column) row) ∙ joined s p old

-- the leaves of one more child
pub leaves-more : (cs : List Component) (i : ℕ) (c : Component) → i < length cs → c ≡ get_or cs i c → leaves_in_all (take i cs) + leaves_in c ≡ leaves_in_all (take (i + 1) cs)
leaves-more cs i c h is =
    let took : take (i + 1) cs ≡ take i cs ++ c ∷ [] =
    take_more cs i c h ∙ ap (λ (x : Component). take i cs ++ x ∷ []) (sym is) in
    omega (arith, sum_by-append leaves_in (take i cs) (c ∷ []), ap leaves_in_all took)
