-- What a seat says of a leaf, whatever the settings of the boxes.
use Rattle.std.proofs.Common.{◌≡◌, ℕ, ◌+◌, ◌≤◌, Some, List, [], ◌∷◌, ◌++◌, map, length, refl, sym, ap, ◌∙◌, append_assoc, arith, subst, zero, suc}
use Rattle.std.specs.Prelude.{slice_get, ℤ}
use Rattle.std.specs.List.{range_with_len}
use Rattle.std.proofs.lemmas.List.{length-append}
use Rattle.cell_grid.specs.Space.{cell_count}
use Rattle.model_tree.specs.declared.component.Component.{Component, Row_of-Component, end_of-Component, more_of-Component}
use Rattle.model_tree.specs.declared.component.Component.TheVariants.{Coupled', Cells, Atomic}
use Rattle.model_tree.specs.declared.group.CellGroup.{CellGroup}
use Rattle.model_tree.specs.Tree.{Group, Leaf, cell_leaf, leaves_from, all_leaves_from, leaf_count, groups, all_groups}
use Rattle.model_tree.specs.Stands.{group_of, part_of, parts_of}
use Rattle.model_leaves.specs.Told.{Told}
use Rattle.model_leaves.specs.Table.{Seat, cell_seat_of, seats_from, all_seats_from, groups_in, all_groups_in}

abbrev pub AllTold : (ℕ → List ℤ) → List Group → List Seat → List Leaf → Type 0
AllTold settings gs [] [] = Unit {0}
AllTold settings gs [] (l ∷ ls) = ⊥
AllTold settings gs (s ∷ ss) [] = ⊥
AllTold settings gs (s ∷ ss) (l ∷ ls) = Told settings gs s l × AllTold settings gs ss ls

told-append : (settings : ℕ → List ℤ) (gs : List Group) (ss ts : List Seat) (ls ms : List Leaf) → AllTold settings gs ss ls → AllTold settings gs ts ms → AllTold settings gs (ss ++ ts) (ls ++ ms)
told-append settings gs [] ts [] ms a b = b
told-append settings gs [] ts (l ∷ ls) ms a b = absurd a
told-append settings gs (s ∷ ss) ts [] ms a b = absurd a
told-append settings gs (s ∷ ss) ts (l ∷ ls) ms a b = (a.0, told-append settings gs ss ts ls ms a.1 b)

pub told-length : (settings : ℕ → List ℤ) (gs : List Group) (ss : List Seat) (ls : List Leaf) → AllTold settings gs ss ls → length ss ≡ length ls
told-length settings gs [] [] a = refl
told-length settings gs [] (l ∷ ls) a = absurd a
told-length settings gs (s ∷ ss) [] a = absurd a
told-length settings gs (s ∷ ss) (l ∷ ls) a = ap suc (told-length settings gs ss ls a.1)

pub told-at : (settings : ℕ → List ℤ) (gs : List Group) (ss : List Seat) (ls : List Leaf) → AllTold settings gs ss ls → (k : ℕ) (s : Seat) (l : Leaf) → slice_get ss k ≡ Some s → slice_get ls k ≡ Some l → Told settings gs s l
told-at settings gs [] [] a k s l e f = absurd (cc)
told-at settings gs [] (m ∷ ls) a k s l e f = absurd a
told-at settings gs (r ∷ ss) [] a k s l e f = absurd a
told-at settings gs (r ∷ ss) (m ∷ ls) a zero s l e f =
    let p : r ≡ s = cc in
    let q : m ≡ l = cc in
    subst (λ (x : Seat). Told settings gs x l) p (subst (λ (x : Leaf). Told settings gs r x) q a.0)
told-at settings gs (r ∷ ss) (m ∷ ls) a (suc k) s l e f = told-at settings gs ss ls a.1 k s l e f

mutual
  pub groups_in-length : (c : Component) (settings : ℕ → List ℤ) → groups_in c ≡ length (groups (part_of c settings))
  groups_in-length (Coupled' name ins outs shape children links) settings = all_groups_in-length _ children settings
  groups_in-length (Cells g) settings = refl
  groups_in-length (Atomic a) settings = refl

  all_groups_in-length : (n : _) (row : Row_of-Component n) (settings : ℕ → List ℤ) → all_groups_in row ≡ length (all_groups (parts_of row settings))
  all_groups_in-length n end_of-Component settings = refl
  all_groups_in-length n (more_of-Component c rest) settings =
      rw (length-append (groups (part_of c settings)) (all_groups (parts_of rest settings)), groups_in-length c settings, all_groups_in-length _ rest settings) refl

at-seam : (xs : List Group) (g : Group) (ys : List Group) → slice_get (xs ++ g ∷ ys) (length xs) ≡ Some g
at-seam [] g ys = refl
at-seam (x ∷ xs) g ys = at-seam xs g ys

told-cells : (settings : ℕ → List ℤ) (gs : List Group) (g : CellGroup) (number first : ℕ) → slice_get gs number ≡ Some (group_of g) → (a n : ℕ) → a + n ≤ cell_count g.grid → AllTold settings gs (map (cell_seat_of g number) (range_with_len a n)) (map (cell_leaf (group_of g) first) (range_with_len a n))
told-cells settings gs g number first e a zero le = tt
told-cells settings gs g number first e a (suc n) le =
    (record { name = refl; space = refl; group = e; cell = refl; inside = omega arith; ports = refl; ins = refl }, told-cells settings gs g number first e (a + 1) n (omega arith))

mutual
  pub told-tree : (c : Component) (settings : ℕ → List ℤ) (gs before after : List Group) (number first : ℕ) → number ≡ length before → gs ≡ before ++ (groups (part_of c settings) ++ after) → AllTold settings gs (seats_from c number) (leaves_from (part_of c settings) first)
  told-tree (Coupled' name ins outs shape children links) settings gs before after number first e f = told-row _ children settings gs before after number first e f
  told-tree (Cells g) settings gs before after number first e f =
      let here : slice_get gs number ≡ Some (group_of g) = ap (λ (xs : List Group). slice_get xs number) f ∙ ap (slice_get (before ++ group_of g ∷ after)) e ∙ at-seam before (group_of g) after in
      told-cells settings gs g number first here 0 (cell_count g.grid) (omega arith)
  told-tree (Atomic a) settings gs before after number first e f = ((refl, refl, refl), tt)

  told-row : (n : _) (row : Row_of-Component n) (settings : ℕ → List ℤ) (gs before after : List Group) (number first : ℕ) → number ≡ length before → gs ≡ before ++ (all_groups (parts_of row settings) ++ after) → AllTold settings gs (all_seats_from row number) (all_leaves_from (parts_of row settings) first)
  told-row n end_of-Component settings gs before after number first e f = tt
  told-row n (more_of-Component c rest) settings gs before after number first e f =
      let mine = groups (part_of c settings) in
      let others = all_groups (parts_of rest settings) in
      told-append settings gs (seats_from c number) (all_seats_from rest (number + groups_in c)) (leaves_from (part_of c settings) first) (all_leaves_from (parts_of rest settings) (first + leaf_count (part_of c settings)))
      (told-tree c settings gs before (others ++ after) number first e (f ∙ ap (λ (xs : List Group). before ++ xs) (append_assoc mine others after)))
      (told-row _ rest settings gs (before ++ mine) after (number + groups_in c) (first + leaf_count (part_of c settings))
      (rw (length-append before mine, e, groups_in-length c settings) refl)
      (f ∙ ap (λ (xs : List Group). before ++ xs) (append_assoc mine others after) ∙ sym (append_assoc before mine (others ++ after))))
