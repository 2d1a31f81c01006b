-- Places of leaves, by what is the same for all leaves of a stretch.
use Rattle.std.proofs.Common.{◌≡◌, ℕ, zero, suc, ◌+◌, ◌-◌, ◌≤◌, Some, List, [], ◌∷◌, ◌++◌, length, refl, sym, ◌∙◌, ap, subst, arith, length-append}
use Rattle.std.specs.Prelude.{slice_get, OnOk, OnErr}
use Rattle.std.specs.declared.result.Result.{Result}
use Rattle.std.specs.declared.result.Result.TheVariants.{Ok, Err}
use Rattle.atomic_face.specs.declared.stock.BoxNo.{BoxNo}
use Rattle.model_leaves.specs.declared.leaves.LeafAt.TheVariants.{Atomic, Cell}
use Rattle.run_leaves.specs.declared.seats.Anchor.{Anchor}
use Rattle.run_leaves.specs.declared.seats.Anchor.TheVariants.{Boxes, Cells}
use Rattle.run_leaves.specs.Anchored.{box_place, place_of, places_from, IsThere, AreThere}
use Rattle.run_leaves.proofs.Places.{some-is, found-at}
use Rattle.run_leaves.proofs.Joined.{get-left, get-right, each-more}

none-more : (k : ℕ) → k + 0 ≡ k
none-more k = omega arith

one-on : (k j : ℕ) → suc k + j ≡ k + suc j
one-on k j = omega arith

pub places-long : (boxes : List BoxNo) (k : ℕ) (anchors : List Anchor) → length (places_from boxes k anchors) ≡ length anchors
places-long boxes k [] = refl
places-long boxes k (a ∷ anchors) = ap suc (places-long boxes (suc k) anchors)

places-at : (boxes : List BoxNo) (k : ℕ) (anchors : List Anchor) (j : ℕ) (a : Anchor) → slice_get anchors j ≡ Some a → slice_get (places_from boxes k anchors) j ≡ Some (place_of boxes (k + j) a)
places-at boxes k [] j a at = absurd cc
places-at boxes k (b ∷ anchors) zero a at =
    let same = some-is b a at in
    λ i. Some (place_of boxes (sym (none-more k) i) (same i))
places-at boxes k (b ∷ anchors) (suc j) a at =
    places-at boxes (suc k) anchors j a at ∙ ap (λ n. Some (place_of boxes n a)) (one-on k j)

-- the place of a leaf
pub place-at : (boxes : List BoxNo) (anchors : List Anchor) (j : ℕ) (a : Anchor) → slice_get anchors j ≡ Some a → slice_get (places_from boxes 0 anchors) j ≡ Some (place_of boxes j a)
place-at boxes anchors j a at =
    let same : 0 + j ≡ j = omega arith in
    places-at boxes 0 anchors j a at ∙ ap (λ n. Some (place_of boxes n a)) same

places-more : (boxes : List BoxNo) (k : ℕ) (anchors : List Anchor) (a : Anchor) → places_from boxes k (anchors ++ a ∷ []) ≡ places_from boxes k anchors ++ place_of boxes (k + length anchors) a ∷ []
places-more boxes k [] a = ap (λ n. place_of boxes n a ∷ []) (sym (none-more k))
places-more boxes k (b ∷ anchors) a =
    ap (λ ps. place_of boxes k b ∷ ps) (places-more boxes (suc k) anchors a)
    ∙ ap (λ n. place_of boxes k b ∷ (places_from boxes (suc k) anchors ++ place_of boxes n a ∷ [])) (one-on k (length anchors))

place-kept : (boxes : List BoxNo) (b : BoxNo) (leaf : ℕ) (a : Anchor) → IsThere boxes leaf a → place_of (boxes ++ b ∷ []) leaf a ≡ place_of boxes leaf a
place-kept boxes b leaf (Boxes skipped) there =
    let found = found-at boxes (leaf - skipped) there.1 in
    ap box_place (get-left boxes (b ∷ []) (leaf - skipped) found.0 found.1 ∙ sym found.1)
place-kept boxes b leaf (Cells group first) there = refl

places-kept : (boxes : List BoxNo) (b : BoxNo) (k : ℕ) (anchors : List Anchor) → ((j : ℕ) (a : Anchor) → slice_get anchors j ≡ Some a → IsThere boxes (k + j) a)
    → places_from (boxes ++ b ∷ []) k anchors ≡ places_from boxes k anchors
places-kept boxes b k [] each = refl
places-kept boxes b k (a ∷ anchors) each =
    let here = place-kept boxes b k a (subst (λ n. IsThere boxes n a) (none-more k) (each 0 a refl)) in
    let rest = places-kept boxes b (suc k) anchors (λ j x at. subst (λ n. IsThere boxes n x) (sym (one-on k j)) (each (suc j) x at)) in
    λ i. here i ∷ rest i

there-on : (boxes : List BoxNo) (b : BoxNo) (leaf : ℕ) (a : Anchor) → IsThere boxes leaf a → IsThere (boxes ++ b ∷ []) leaf a
there-on boxes b leaf (Boxes skipped) there =
    let longer = length-append boxes (b ∷ []) in
    let inside = there.1 in
    (there.0, omega (arith, longer, inside))
there-on boxes b leaf (Cells group first) there = there

-- what holds where more were added, and where nothing changed
pub either-way : {A U E : Type 0} (P : A → Type 0) (r : Result U E) (old more new : A) → OnOk r (new ≡ more) → OnErr r (new ≡ old) → P more → P old → P new
either-way P (Ok u) old more new ok err holds held = subst P (sym ok) holds
either-way P (Err e) old more new ok err holds held = subst P (sym err) held

module _ (boxes : List BoxNo) (anchors : List Anchor) (are : AreThere boxes anchors) where
  pub more-cells : (group first : ℕ) → first ≤ length anchors → AreThere boxes (anchors ++ Cells group first ∷ [])
  more-cells group first le =
      let longer = length-append anchors (Cells group first ∷ []) in
      let few = are.few in
      record {
        few = omega (arith, few, longer);
        each = each-more (IsThere boxes) anchors (Cells group first) are.each le;
      }

  pub cell-more : (group cell : ℕ) → cell ≤ length anchors → places_from boxes 0 (anchors ++ Cells group (length anchors - cell) ∷ []) ≡ places_from boxes 0 anchors ++ Cell group cell ∷ []
  cell-more group cell le =
      let back : (0 + length anchors) - (length anchors - cell) ≡ cell = omega (arith, le) in
      places-more boxes 0 anchors (Cells group (length anchors - cell))
      ∙ ap (λ n. places_from boxes 0 anchors ++ Cell group n ∷ []) back

  module _ (b : BoxNo) where
    pub more-boxes : AreThere (boxes ++ b ∷ []) (anchors ++ Boxes (length anchors - length boxes) ∷ [])
    more-boxes =
        let longer = length-append anchors (Boxes (length anchors - length boxes) ∷ []) in
        let more = length-append boxes (b ∷ []) in
        let few = are.few in
        record {
          few = omega (arith, few, longer, more);
          each = each-more (IsThere (boxes ++ b ∷ [])) anchors (Boxes (length anchors - length boxes)) (λ leaf a at. there-on boxes b leaf a (are.each leaf a at))
              (omega (arith, few), omega (arith, few, more));
        }

    pub box-more : places_from (boxes ++ b ∷ []) 0 (anchors ++ Boxes (length anchors - length boxes) ∷ []) ≡ places_from boxes 0 anchors ++ Atomic b ∷ []
    box-more =
        let few = are.few in
        let place : length boxes + 0 ≡ (0 + length anchors) - (length anchors - length boxes) = omega (arith, few) in
        let last : slice_get (boxes ++ b ∷ []) ((0 + length anchors) - (length anchors - length boxes)) ≡ Some b = get-right boxes (b ∷ []) 0 ((0 + length anchors) - (length anchors - length boxes)) b place refl in
        let kept = places-kept boxes b 0 anchors (λ j a at. (let same : j ≡ 0 + j = omega arith in subst (λ n. IsThere boxes n a) same (are.each j a at))) in
        places-more (boxes ++ b ∷ []) 0 anchors (Boxes (length anchors - length boxes)) ∙ (λ i. kept i ++ box_place (last i) ∷ [])
