-- Steps from places at which no step leads past an edge.
use Rattle.std.proofs.Common.{◌≡◌, ℕ, ◌+◌, ◌<◌, ◌≤◌, Option, Some, None, List, [], ◌∷◌, ◌++◌, map, length, ℤ, pos, ◌+ℤ◌, ◌≤ℤ◌, ◌<ℤ◌, refl, sym, ap, subst, ◌∙◌, ◌↔◌, arith}
use Rattle.std.specs.Int.RustNames.{unsigned_abs}
use Rattle.std.specs.List.{All, filter_map, cons_option}
use Rattle.std.proofs.lemmas.Int.{ints}
use Rattle.std.proofs.lemmas.List.{map-append, length-map}
use Rattle.std.proofs.lemmas.List.Elements.{All-push, All-pop, All-same, All-cons}
use Rattle.quantity.specs.declared.place.Place.{Place}
use Rattle.quantity.specs.declared.place.Offset.{Offset}
use Rattle.cell_grid.specs.declared.step.Step.{Step}
use Rattle.cell_reach.specs.declared.inner.Inner.{Inner}
use Rattle.cell_grid.specs.Space.{Space, cell_count, place_of, number_of, neighbour, neighbour_at}
use Rattle.cell_grid.specs.Watched.{IsInside, opposite}
use Rattle.cell_reach.specs.Neighbourhoods.{Neighbourhood, neighbours, opposite_neighbourhood, StaysInside, StandsInside, difference, AreWatchers, further, LeadsInside, AreDifferences}
use Rattle.cell_grid.specs.Steps.{offset_of_step}
use Rattle.cell_reach.specs.FixedSteps.{AreFixed, AreFixedAt, AreInner, IsInner, neighbourhood_of_steps}
use Rattle.cell_grid.proofs.Places.{number-of_place, number-inside}
use Rattle.cell_grid.proofs.Opposites.{neighbour-inside}
use Rattle.cell_grid.proofs.Rising.{has}
use Rattle.cell_grid.proofs.Watching.{watcher, same_members, has-watchers}
use Rattle.cell_reach.proofs.Differences.{leads_to_further}

-- ---- the invariant

-- a step and its difference lead from the cell at a place to its neighbour
record IsFixedAt (s : Space) (p : Place) (step : Step) (d : ℤ) : Type 0 where
  inside : LeadsInside s (number_of s p.row p.column p.plane) d
  lead : neighbour_at s p (offset_of_step step) ≡ Some (further (number_of s p.row p.column p.plane) d)

one_fixed : (s : Space) (p : Place) (step : Step) (d : ℤ) → cell_count s ≤ 1048576 → IsInside s p → StaysInside s p (offset_of_step step)
    → (unsigned_abs (difference s (offset_of_step step)) ≤ 1048576 → d ≡ difference s (offset_of_step step)) → IsFixedAt s p step d
one_fixed s p step d few inside stays near =
    let from : ℕ = number_of s p.row p.column p.plane in
    let far : ℤ = difference s (offset_of_step step) in
    let leads = leads_to_further s p (offset_of_step step) stays in
    let here : from < cell_count s = number-inside s p inside in
    let there : leads.to < cell_count s = leads.inside in
    let is : pos from +ℤ far ≡ pos leads.to = leads.is in
    let most : unsigned_abs far ≤ 1048576 = span from leads.to (cell_count s) far few here there is in
    let lands : pos from +ℤ d ≡ pos leads.to = ap (λ z. pos from +ℤ z) (near most) ∙ is in
    record { inside = lies from leads.to (cell_count s) d there lands; lead = leads.neighbour ∙ ap Some (sym (ap unsigned_abs lands)) }
  where
    span : (from to n : ℕ) (z : ℤ) → n ≤ 1048576 → from < n → to < n → pos from +ℤ z ≡ pos to → unsigned_abs z ≤ 1048576
    span from to n z few here there is = omega (arith, ints)

    lies : (from to n : ℕ) (z : ℤ) → to < n → pos from +ℤ z ≡ pos to → (pos 0 ≤ℤ (pos from +ℤ z)) × ((pos from +ℤ z) <ℤ pos n)
    lies from to n z there is = (omega (arith, ints), omega (arith, ints))

-- one step more
one_more : (s : Space) (p : Place) (step : Step) (d : ℤ) (steps : List Step) (ds : List ℤ) → cell_count s ≤ 1048576 → IsInside s p → StaysInside s p (offset_of_step step)
    → (unsigned_abs (difference s (offset_of_step step)) ≤ 1048576 → d ≡ difference s (offset_of_step step))
    → AreFixedAt s p steps ds → AreFixedAt s p (steps ++ step ∷ []) (ds ++ d ∷ [])
one_more s p step d steps ds few inside stays near fixed =
    let from : ℕ = number_of s p.row p.column p.plane in
    let to : Step → Option ℕ = λ t. neighbour_at s p (offset_of_step t) in
    let far : ℤ → Option ℕ = λ z. Some (further from z) in
    let one = one_fixed s p step d few inside stays near in
    record {
      inside = All-push (LeadsInside s from) ds d fixed.inside one.inside;
      lead = map-append to steps (step ∷ []) ∙ ap (λ l. l ++ to step ∷ []) fixed.lead ∙ ap (λ m. map far ds ++ m ∷ []) one.lead ∙ sym (map-append far ds (d ∷ []));
    }

-- the same steps and differences in other lists
same_fixed : (s : Space) (inner : Inner) (steps other : List Step) (ds further_ds : List ℤ) → other ≡ steps → further_ds ≡ ds
    → ((p : Place) → IsInner inner p → IsInside s p × AreFixedAt s p steps ds) → (p : Place) → IsInner inner p → IsInside s p × AreFixedAt s p other further_ds
same_fixed s inner steps other ds further_ds same equal holds p inside =
    let at = holds p inside in
    let Steps : List Step → Type 0 = λ ts. AreFixedAt s p ts ds in
    let Fixed : List ℤ → Type 0 = λ zs. AreFixedAt s p other zs in
    (at.0, subst Fixed (sym equal) (subst Steps (sym same) at.1))

-- a step and its difference behind the others, where the places are fewer
one_pushed : (s : Space) (old new : Inner) (step : Step) (d : ℤ) (steps : List Step) (ds : List ℤ) → cell_count s ≤ 1048576
    → (unsigned_abs (difference s (offset_of_step step)) ≤ 1048576 → d ≡ difference s (offset_of_step step))
    → ((p : Place) → IsInner old p → IsInside s p × AreFixedAt s p steps ds)
    → ((p : Place) → IsInner new p → IsInner old p) → ((p : Place) → IsInner new p → StaysInside s p (offset_of_step step))
    → (other : List Step) (further_ds : List ℤ) → other ≡ steps ++ step ∷ [] → further_ds ≡ ds ++ d ∷ []
    → (p : Place) → IsInner new p → IsInside s p × AreFixedAt s p other further_ds
one_pushed s old new step d steps ds few near holds within stays other further_ds same equal =
    same_fixed s new (steps ++ step ∷ []) other (ds ++ d ∷ []) further_ds same equal (λ p inner.
    let before = holds p (within p inner) in
    (before.0, one_more s p step d steps ds few before.0 (stays p inner) near before.1))

-- the places of other lists with the same steps and differences
pub same_inner : (s : Space) (inner : Inner) (steps other : List Step) (ds further_ds : List ℤ) → other ≡ steps → further_ds ≡ ds → AreInner s inner steps ds → AreInner s inner other further_ds
same_inner s inner steps other ds further_ds same equal holds =
    record {
      fixed = same_fixed s inner steps other ds further_ds same equal holds.fixed;
      exact = λ p. subst (λ (ts : List Step). IsInner inner p ↔ StandsInside (neighbourhood_of_steps s ts) p) (sym same) (holds.exact p);
    }

-- those from which one more step leads past no edge
pub pushed_inner : (s : Space) (old new : Inner) (step : Step) (d : ℤ) (steps : List Step) (ds : List ℤ) → cell_count s ≤ 1048576
    → (unsigned_abs (difference s (offset_of_step step)) ≤ 1048576 → d ≡ difference s (offset_of_step step)) → AreInner s old steps ds
    → ((p : Place) → IsInner new p → IsInner old p) → ((p : Place) → IsInner new p → StaysInside s p (offset_of_step step))
    → ((p : Place) → IsInner old p → IsInside s p → StaysInside s p (offset_of_step step) → IsInner new p)
    → (other : List Step) (further_ds : List ℤ) → other ≡ steps ++ step ∷ [] → further_ds ≡ ds ++ d ∷ [] → AreInner s new other further_ds
pushed_inner s old new step d steps ds few near holds within stays all other further_ds same equal =
    record {
      fixed = one_pushed s old new step d steps ds few near holds.fixed within stays other further_ds same equal;
      exact = λ p. subst (λ (ts : List Step). IsInner new p ↔ StandsInside (neighbourhood_of_steps s ts) p) (sym same) (there p, back p);
    }
  where
    split : map offset_of_step (steps ++ step ∷ []) ≡ map offset_of_step steps ++ offset_of_step step ∷ []
    split = map-append offset_of_step steps (step ∷ [])

    there : (p : Place) → IsInner new p → StandsInside (neighbourhood_of_steps s (steps ++ step ∷ [])) p
    there p inner =
        let before = (holds.exact p).0 (within p inner) in
        record {
          inside = before.inside;
          stays = All-same (StaysInside s p) _ _ split (All-push (StaysInside s p) (map offset_of_step steps) (offset_of_step step) before.stays (stays p inner));
        }

    back : (p : Place) → StandsInside (neighbourhood_of_steps s (steps ++ step ∷ [])) p → IsInner new p
    back p stands =
        let parts = All-pop (StaysInside s p) (map offset_of_step (steps ++ step ∷ [])) (map offset_of_step steps) (Some (offset_of_step step)) split stands.stays in
        all p ((holds.exact p).1 (record { inside = stands.inside; stays = parts.0 })) stands.inside parts.1

-- ---- what steps give is what offsets give

map-map : {X Y Z : Type 0} (f : Y → Z) (g : X → Y) (xs : List X) → map (λ x. f (g x)) xs ≡ map f (map g xs)
map-map f g [] = refl
map-map f g (x ∷ xs) = ap (λ zs. f (g x) ∷ zs) (map-map f g xs)

filter_map-map : {X Y Z : Type 0} (f : Y → Option Z) (g : X → Y) (xs : List X) → filter_map (λ x. f (g x)) xs ≡ filter_map f (map g xs)
filter_map-map f g [] = refl
filter_map-map f g (x ∷ xs) = ap (cons_option (f (g x))) (filter_map-map f g xs)

all_there : {X Y Z : Type 0} (h : X → Option Y) (g : Z → Y) (xs : List X) (zs : List Z) → map h xs ≡ map (λ z. Some (g z)) zs → map g zs ≡ filter_map h xs
all_there h g [] [] e = refl
all_there h g [] (z ∷ zs) e = cc
all_there h g (x ∷ xs) [] e = cc
all_there {X} {Y} {Z} h g (x ∷ xs) (z ∷ zs) e =
    let head : ◌≡◌ {A = Option Y} (h x) (Some (g z)) = cc in
    let tail : map h xs ≡ map (λ z. Some (g z)) zs = cc in
    ap (λ ys. g z ∷ ys) (all_there h g xs zs tail) ∙ ap (λ m. cons_option m (filter_map h xs)) (sym head)

-- where there is a neighbour by each offset
pub neighbours_there : (n : Neighbourhood) (cell : ℕ) (ds : List ℤ) → AreDifferences n cell ds → map (further cell) ds ≡ filter_map (neighbour n.space cell) n.offsets
neighbours_there n cell ds far = all_there (neighbour n.space cell) (further cell) n.offsets ds far.lead

pub as_many : (n : Neighbourhood) (cell : ℕ) (ds : List ℤ) → AreDifferences n cell ds → length ds ≡ length n.offsets
as_many n cell ds far =
    let same : length (map (neighbour n.space cell) n.offsets) ≡ length (map (λ d. Some (further cell d)) ds) = ap length far.lead in
    sym (length-map ds (λ d. Some (further cell d))) ∙ sym same ∙ length-map n.offsets (neighbour n.space cell)

module _ (s : Space) (cell : ℕ) (p : Place) (held steps : List Step) (n : Neighbourhood)
    (at : p ≡ place_of s cell) (same : steps ≡ held) (is : (let view : Neighbourhood = record { space = s; offsets = map offset_of_step held } in view) ≡ n) where
  pub filled_neighbours : (into : List (Option ℕ)) → into ≡ map (λ (t : Step). neighbour_at s p (offset_of_step t)) steps → into ≡ neighbours n cell
  filled_neighbours into filled =
      filled ∙ ap (map (λ (t : Step). neighbour_at s p (offset_of_step t))) same ∙ ap (λ q. map (λ (t : Step). neighbour_at s q (offset_of_step t)) held) at
      ∙ map-map (neighbour s cell) offset_of_step held ∙ ap (λ m. neighbours m cell) is

  pub collected_neighbours : (into : List ℕ) → into ≡ filter_map (λ (t : Step). neighbour_at s p (offset_of_step t)) steps → into ≡ filter_map (neighbour n.space cell) n.offsets
  collected_neighbours into found =
      found ∙ ap (filter_map (λ (t : Step). neighbour_at s p (offset_of_step t))) same
      ∙ ap (λ q. filter_map (λ (t : Step). neighbour_at s q (offset_of_step t)) held) at
      ∙ filter_map-map (neighbour s cell) offset_of_step held ∙ ap (λ (m : Neighbourhood). filter_map (neighbour m.space cell) m.offsets) is

  -- steps that are fixed at a cell's place give the cell's differences
  pub differences_here : (ds kept : List ℤ) → kept ≡ ds → AreFixedAt s p held ds → AreDifferences n cell kept
  differences_here ds kept equal fixed =
      let At : Place → Type 0 = λ q. AreFixedAt s q held ds in
      let From : ℕ → Type 0 = λ m. AreFixed s m (place_of s cell) held ds in
      let here : AreFixed s cell (place_of s cell) held ds = subst From (number-of_place s cell) (subst At at fixed) in
      let view : Neighbourhood = record { space = s; offsets = map offset_of_step held } in
      let seen : AreDifferences view cell ds = record { inside = here.inside; lead = sym (map-map (neighbour s cell) offset_of_step held) ∙ here.lead } in
      let Far : Neighbourhood → Type 0 = λ m. AreDifferences m cell ds in
      let Kept : List ℤ → Type 0 = λ zs. AreDifferences n cell zs in
      subst Kept (sym equal) (subst Far is seen)

-- ---- watchers

-- a neighbourhood of the opposite offsets
pub is_turned : (n m back : Neighbourhood) → back.space ≡ n.space → back.offsets ≡ map opposite n.offsets → n ≡ m → back ≡ opposite_neighbourhood m
is_turned n m back space offsets is = (λ k. record { space = space k; offsets = offsets k }) ∙ ap opposite_neighbourhood is

pub turned_neighbours : (n m back : Neighbourhood) (cell : ℕ) → back.space ≡ n.space → back.offsets ≡ map opposite n.offsets → n ≡ m → neighbours back cell ≡ neighbours (opposite_neighbourhood m) cell
turned_neighbours n m back cell space offsets is =
    (λ k. map (neighbour (space k) cell) (offsets k)) ∙ ap (λ (h : Neighbourhood). neighbours (opposite_neighbourhood h) cell) is

module _ (n back : Neighbourhood) (cell : ℕ) (found : List ℕ) (space : back.space ≡ n.space) (offsets : back.offsets ≡ map opposite n.offsets)
    (is : found ≡ filter_map (neighbour back.space cell) back.offsets) where
  by_opposites : found ≡ filter_map (watcher n.space cell) n.offsets
  by_opposites =
      is ∙ ap (λ s. filter_map (neighbour s cell) back.offsets) space ∙ ap (filter_map (neighbour n.space cell)) offsets
      ∙ sym (filter_map-map (neighbour n.space cell) opposite n.offsets)

  pub found_watchers : cell < cell_count n.space → AreWatchers n cell found
  found_watchers here x =
      ap (λ xs. has xs x) by_opposites ∙ same_members n.space n.offsets cell x here ∙ has-watchers n.space n.offsets cell x

  pub found_inside : cell < cell_count n.space → All (λ x. x < cell_count n.space) found
  found_inside here =
      let Inside : List ℕ → Type 0 = λ xs. All (λ x. x < cell_count n.space) xs in
      subst Inside (sym by_opposites) (go n.offsets)
    where
      one : (o : Offset) (m : Option ℕ) (xs : List ℕ) → watcher n.space cell o ≡ m → All (λ x. x < cell_count n.space) xs → All (λ x. x < cell_count n.space) (cons_option m xs)
      one o None xs e rest = rest
      one o (Some x) xs e rest = All-cons (λ x. x < cell_count n.space) x xs (neighbour-inside n.space cell x (opposite o) here e) rest

      go : (os : List Offset) → All (λ x. x < cell_count n.space) (filter_map (watcher n.space cell) os)
      go [] = λ k d within. absurd (omega arith)
      go (o ∷ os) = one o (watcher n.space cell o) (filter_map (watcher n.space cell) os) refl (go os)

  pub found_few : length found ≤ length n.offsets
  found_few = let few : length (filter_map (watcher n.space cell) n.offsets) ≤ length n.offsets = go n.offsets in omega (arith, ap length by_opposites)
    where
      one : (m : Option ℕ) (xs : List ℕ) → length (cons_option m xs) ≤ length xs + 1
      one None xs = omega arith
      one (Some x) xs = omega arith

      go : (os : List Offset) → length (filter_map (watcher n.space cell) os) ≤ length os
      go [] = omega arith
      go (o ∷ os) = omega (arith, one (watcher n.space cell o) (filter_map (watcher n.space cell) os), go os)
