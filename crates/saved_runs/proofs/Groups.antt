-- The cells of a group stand among the leaves from its first leaf on.
use Rattle.std.proofs.Common.{◌≡◌, ℕ, zero, suc, ◌+◌, ◌<◌, Bool, true, false, cond, Option, Some}
use Rattle.std.proofs.Common.{None, List, [], ◌∷◌, ◌++◌, map, length, refl, sym, ap, ◌∙◌, subst}
use Rattle.std.proofs.Common.{arith}
use Rattle.std.specs.Prelude.{slice_get, IsSomeAnd}
use Rattle.std.specs.List.{range_with_len}
use Rattle.std.specs.Option.{option_or}
use Rattle.std.specs.Str.{bytes_eq}
use Rattle.std.proofs.lemmas.List.{length-append}
use Rattle.cell_grid.specs.Space.{cell_count}
use Rattle.model_tree.specs.Tree.{Word, Group, Tree, Trees, coupled, cells, atomic, nil, cons, Leaf}
use Rattle.model_tree.specs.Tree.{atomic_leaf, cell_leaf, leaf_count, leaf_counts, leaves_from}
use Rattle.model_tree.specs.Tree.{all_leaves_from, leaves}
use Rattle.run_model.specs.Emitted.{IsCell}
use Rattle.run_model.proofs.Basics.{none_some, some_same}
use Rattle.answer_model.specs.RunFiles.{group_at}
use Rattle.saved_runs.specs.Accepted.{GroupsStand}

-- the leaf of this number is a cell
abbrev CellAt : List Leaf → ℕ → Type 0
CellAt ls k = IsSomeAnd (slice_get ls k) IsCell

in_front : (xs ys : List Leaf) (k : ℕ) → CellAt xs k → CellAt (xs ++ ys) k
in_front [] ys k h = absurd h
in_front (x ∷ xs) ys zero h = h
in_front (x ∷ xs) ys (suc k) h = in_front xs ys k h

further_on : (xs ys : List Leaf) (k : ℕ) → CellAt ys k → CellAt (xs ++ ys) (length xs + k)
further_on [] ys k h = subst (CellAt ys) (none k) h
  where
    none : (k : ℕ) → k ≡ 0 + k
    none k = omega arith
further_on (x ∷ xs) ys k h =
    subst (CellAt (x ∷ xs ++ ys)) (one_more (length xs) k) (further_on xs ys k h)
  where
    one_more : (n k : ℕ) → suc (n + k) ≡ suc n + k
    one_more n k = omega arith

-- ---- where a group stands, this far from the first leaf

record Stands (p : ℕ × Group) (first : ℕ) (ls : List Leaf) : Type 0 where
  far : ℕ
  is : p.0 ≡ first + far
  cell : (k : ℕ) → k < cell_count p.1.space → CellAt ls (far + k)

stands_in_front : (p : ℕ × Group) (first : ℕ) (xs ys : List Leaf) → Stands p first xs
    → Stands p first (xs ++ ys)
stands_in_front p first xs ys h = record {
  far = h.far;
  is = h.is;
  cell =
      λ k lt. in_front xs ys (h.far + k) (h.cell k lt);
}

stands_further_on : (p : ℕ × Group) (first n : ℕ) (xs ys : List Leaf) → length xs ≡ n
    → Stands p (first + n) ys → Stands p first (xs ++ ys)
stands_further_on p first n xs ys long h = record {
  far = n + h.far;
  is = h.is ∙ add first n h.far;
  cell = λ k lt. subst (CellAt (xs ++ ys)) (ap (λ m. m + (h.far + k)) long
      ∙ sym (add n h.far k)) (further_on xs ys (h.far + k) (h.cell k lt));
}
  where
    add : (a b c : ℕ) → a + b + c ≡ a + (b + c)
    add a b c = omega arith

-- ---- a group

of_cells : (name : Word) (g : Group) (f a n : ℕ) (p : ℕ × Group)
    → group_at name (map (cell_leaf g f) (range_with_len a n)) ≡ Some p → (f, g) ≡ p
of_cells name g f a zero p e = absurd (none_some e)
of_cells name g f a (suc n) p e = go (λ h. of_cells name g f (a + 1) n p h) (bytes_eq g.name name) e
  where
    go : (group_at name (map (cell_leaf g f) (range_with_len (a + 1) n)) ≡ Some p → (f, g) ≡ p)
        → (b : Bool) → cond b (Some (f, g))
        (group_at name (map (cell_leaf g f) (range_with_len (a + 1) n))) ≡ Some p → (f, g) ≡ p
    go later true h = some_same (f, g) p h
    go later false h = later h

each_is_cell : (g : Group) (f a n k : ℕ) → k < n
    → CellAt (map (cell_leaf g f) (range_with_len a n)) k
each_is_cell g f a zero k lt = absurd (omega (arith, lt))
each_is_cell g f a (suc n) zero lt = tt
each_is_cell g f a (suc n) (suc k) lt = each_is_cell g f (a + 1) n k (omega (arith, lt))

group_stands : (name : Word) (g : Group) (first : ℕ) (p : ℕ × Group)
    → group_at name (map (cell_leaf g first) (range_with_len 0 (cell_count g.space))) ≡ Some p
    → Stands p first (map (cell_leaf g first) (range_with_len 0 (cell_count g.space)))
group_stands name g first p e =
    subst (λ q. Stands q first (map (cell_leaf g first) (range_with_len 0 (cell_count g.space))))
    (of_cells name g first 0 (cell_count g.space) p e) here
  where
    none : (n : ℕ) → n ≡ n + 0
    none n = omega arith

    same : (k : ℕ) → k ≡ 0 + k
    same k = omega arith

    here : Stands (first, g) first (map (cell_leaf g first) (range_with_len 0 (cell_count g.space)))
    here = record {
      far = 0;
      is = none first;
      cell = λ k lt. subst (CellAt
          (map (cell_leaf g first) (range_with_len 0 (cell_count g.space)))) (same k)
          (each_is_cell g first 0 (cell_count g.space) k lt);
    }

-- ---- trees

found_in : (name : Word) (xs ys : List Leaf)
    → group_at name (xs ++ ys) ≡ option_or (group_at name xs) (group_at name ys)
found_in name [] ys = refl
found_in name (atomic_leaf n class settings ∷ xs) ys = found_in name xs ys
found_in name (cell_leaf g f c ∷ xs) ys = go (bytes_eq g.name name) (found_in name xs ys)
  where
    go : (b : Bool) → group_at name (xs ++ ys) ≡ option_or (group_at name xs) (group_at name ys)
        → cond b (Some (f, g)) (group_at name (xs ++ ys))
        ≡ option_or (cond b (Some (f, g)) (group_at name xs)) (group_at name ys)
    go true later = refl
    go false later = later

range_long : (g : Group) (f a n : ℕ) → length (map (cell_leaf g f) (range_with_len a n)) ≡ n
range_long g f a zero = refl
range_long g f a (suc n) = ap suc (range_long g f (a + 1) n)

added : (a b c d : ℕ) → a ≡ b → c ≡ d → a + c ≡ b + d
added a b c d e f = omega arith

mutual
  long : (t : Tree) (first : ℕ) → length (leaves_from t first) ≡ leaf_count t
  long (coupled n ins outs children links) first = all_long children first
  long (cells g) first = range_long g first 0 (cell_count g.space)
  long (atomic n class settings) first = refl

  all_long : (ts : Trees) (first : ℕ) → length (all_leaves_from ts first) ≡ leaf_counts ts
  all_long nil first = refl
  all_long (cons t ts) first =
      length-append (leaves_from t first) (all_leaves_from ts (first + leaf_count t))
      ∙ added (length (leaves_from t first)) (leaf_count t)
      (length (all_leaves_from ts (first + leaf_count t))) (leaf_counts ts) (long t first)
      (all_long ts (first + leaf_count t))

mutual
  stands : (t : Tree) (first : ℕ) (name : Word) (p : ℕ × Group)
      → group_at name (leaves_from t first) ≡ Some p → Stands p first (leaves_from t first)
  stands (coupled n ins outs children links) first name p e = all_stand children first name p e
  stands (cells g) first name p e = group_stands name g first p e
  stands (atomic n class settings) first name p e = absurd (none_some e)

  all_stand : (ts : Trees) (first : ℕ) (name : Word) (p : ℕ × Group)
      → group_at name (all_leaves_from ts first) ≡ Some p
      → Stands p first (all_leaves_from ts first)
  all_stand nil first name p e = absurd (none_some e)
  all_stand (cons t ts) first name p e =
      either (group_at name (leaves_from t first)) refl
      (sym (found_in name (leaves_from t first) (all_leaves_from ts (first + leaf_count t)))
      ∙ e)
      (λ h. stands t first name p h) (λ h. all_stand ts (first + leaf_count t) name p h)
    where
      either : (o : Option (ℕ × Group)) → group_at name (leaves_from t first) ≡ o
          → option_or (group_at name (leaves_from t first))
          (group_at name (all_leaves_from ts (first + leaf_count t))) ≡ Some p
          → (group_at name (leaves_from t first) ≡ Some p → Stands p first (leaves_from t first))
          → (group_at name (all_leaves_from ts (first + leaf_count t)) ≡ Some p
          → Stands p (first + leaf_count t) (all_leaves_from ts (first + leaf_count t)))
          → Stands p first (leaves_from t first ++ all_leaves_from ts (first + leaf_count t))
      either None is f here there =
          stands_further_on p first (leaf_count t) (leaves_from t first)
          (all_leaves_from ts (first + leaf_count t)) (long t first)
          (there (sym (ap (λ o. option_or o
          (group_at name (all_leaves_from ts (first + leaf_count t)))) is) ∙ f))
      either (Some q) is f here there =
          stands_in_front p first (leaves_from t first) (all_leaves_from ts (first + leaf_count t))
          (here (is ∙ sym (ap (λ o. option_or o
          (group_at name (all_leaves_from ts (first + leaf_count t)))) is) ∙ f))

pub groups_stand : GroupsStand
groups_stand t name g cell e lt =
    let s = stands t 0 name g e in
    subst (λ k. CellAt (leaves t) (k + cell)) (sym (s.is ∙ none s.far)) (s.cell cell lt)
  where
    none : (n : ℕ) → 0 + n ≡ n
    none n = omega arith
