-- The groups of a model in a list of what is lent.
use Rattle.std.proofs.Common.{◌≡◌, ℕ, zero, suc, ◌+◌, ◌<◌, ◌≤◌, Some, List, [], ◌∷◌, ◌++◌, refl, sym, ap, ◌∙◌, arith, get_or, length, take}
use Rattle.std.specs.Prelude.{slice_get}
use Rattle.std.specs.Borrow.{Bor}
use Rattle.std.specs.List.{flat_map}
use Rattle.std.proofs.lemmas.List.{flat_map_more, take_all, take_more}
use Rattle.model_tree.specs.declared.component.Component.{Component}
use Rattle.model_tree.specs.declared.group.CellGroup.{CellGroup}
use Rattle.model_tree.specs.Tree.{Group}
use Rattle.model_tree.specs.Stands.{group_of}
use Rattle.model_leaves.specs.Grouped.{groups_shown}

-- the group of a number
pub group-at : (rs : List (Bor CellGroup)) (gs : List Group) (k : ℕ) (r : Bor CellGroup) → groups_shown rs ≡ gs → k < length rs → r ≡ get_or rs k r → slice_get gs k ≡ Some (group_of r.now)
group-at rs gs k r are lt is = ap (λ (xs : List Group). slice_get xs k) (sym are) ∙ shown-at rs k r lt is
  where
    shown-at : (rs : List (Bor CellGroup)) (k : ℕ) (r : Bor CellGroup) → k < length rs → r ≡ get_or rs k r → slice_get (groups_shown rs) k ≡ Some (group_of r.now)
    shown-at [] k r lt is = absurd (omega (arith, lt))
    shown-at (x ∷ rs) zero r lt is = ap (λ (y : Bor CellGroup). Some (group_of y.now)) (sym is)
    shown-at (x ∷ rs) (suc k) r lt is = shown-at rs k r (omega (arith, lt)) is

-- there are as many
pub as-many : (rs : List (Bor CellGroup)) (gs : List Group) → groups_shown rs ≡ gs → length rs ≡ length gs
as-many rs gs are = shown-long rs ∙ ap length are
  where
    shown-long : (rs : List (Bor CellGroup)) → length rs ≡ length (groups_shown rs)
    shown-long [] = refl
    shown-long (x ∷ rs) = ap (λ (n : ℕ). suc n) (shown-long rs)

-- the groups of one more component behind those of the ones before it
pub more-groups : (f : Component → List Group) (start old new : List Group) (cs : List Component) (i : ℕ) (c : Component) → i < length cs → c ≡ get_or cs i c → old ≡ start ++ flat_map f (take i cs) → new ≡ old ++ f c → new ≡ start ++ flat_map f (take (i + 1) cs)
more-groups f start old new cs i c lt is a b =
    b ∙ ap (λ x. x ++ f c) a ∙ flat_map_more f start (take i cs) c ∙ ap (λ x. start ++ flat_map f (take i cs ++ x ∷ [])) is ∙ ap (λ ys. start ++ flat_map f ys) (sym (take_more cs i c lt))

-- behind the last component they are those of all
pub all-groups : (f : Component → List Group) (start new : List Group) (cs : List Component) (i : ℕ) → length cs ≤ i → new ≡ start ++ flat_map f (take i cs) → new ≡ start ++ flat_map f cs
all-groups f start new cs i past h = h ∙ ap (λ ys. start ++ flat_map f ys) (take_all i cs past)
