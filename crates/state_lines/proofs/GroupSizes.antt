-- The sizes of the groups of a model, group by group.
use Rattle.std.proofs.Common.{◌≡◌, ℕ, zero, suc, ◌+◌, Some, List, [], ◌∷◌, ◌++◌, sym, ap, ◌∙◌, map}
use Rattle.std.proofs.Common.{arith, take, slice_get}
use Rattle.model_tree.specs.Tree.{Group}
use Rattle.run_model.proofs.Basics.{none_some, some_same}
use Rattle.state_lines.specs.declared.sizes.CellSize.{CellSize}
use Rattle.state_lines.specs.Sizes.{size_of}

pub get_mapped : {A B : Type 0} (f : A → B) (xs : List A) (k : ℕ) (x : A) → slice_get xs k ≡ Some x
    → slice_get (map f xs) k ≡ Some (f x)
get_mapped f [] k x e = absurd (none_some e)
get_mapped f (y ∷ ys) zero x e = ap (λ z. Some (f z)) (some_same y x e)
get_mapped f (y ∷ ys) (suc k) x e = get_mapped f ys k x e

take_next : {A : Type 0} (xs : List A) (k : ℕ) (x : A) → slice_get xs k ≡ Some x
    → take (suc k) xs ≡ take k xs ++ x ∷ []
take_next [] k x e = absurd (none_some e)
take_next (y ∷ ys) zero x e = ap (λ z. z ∷ []) (some_same y x e)
take_next (y ∷ ys) (suc k) x e = ap (λ zs. y ∷ zs) (take_next ys k x e)

-- one more group
pub one_more_size : (gs : List Group) (sizes more : List CellSize) (k : ℕ) (g : Group)
    (size : CellSize) → sizes ≡ take k (map size_of gs) → slice_get gs k ≡ Some g → size ≡ size_of g
    → more ≡ sizes ++ size ∷ [] → more ≡ take (k + 1) (map size_of gs)
one_more_size gs sizes more k g size so there is e =
    e ∙ ap (λ ss. ss ++ size ∷ []) so ∙ ap (λ s. take k (map size_of gs) ++ s ∷ []) is
    ∙ sym (take_next (map size_of gs) k (size_of g) (get_mapped size_of gs k g there))
    ∙ ap (λ n. take n (map size_of gs)) (next k)
  where
    next : (k : ℕ) → suc k ≡ k + 1
    next k = omega arith
