-- A group by its number, among components one after another.
use Rattle.std.proofs.Common.{◌≡◌, ◌<◌, ◌+◌, ◌++◌, ℕ, ℤ, Some, List, [], ◌∷◌, take, drop, length, get_or, refl, sym, ap, ◌∙◌, arith, subst, suc}
use Rattle.std.specs.Prelude.{slice_get}
use Rattle.std.proofs.lemmas.List.{take-append-drop, drop_more}
use Rattle.std.proofs.lemmas.List.Concat.{flat_map-append}
use Rattle.model_tree.specs.declared.component.Component.{Component}
use Rattle.model_tree.specs.Tree.{Group, groups}
use Rattle.model_tree.specs.Stands.{part_of}
use Rattle.model_leaves.specs.Nth.{groups_of_all}
use Rattle.model_leaves.proofs.Shown.{slice_get-append}

slice_get-past : (xs ys : List Group) (n k : ℕ) → k ≡ length xs + n → slice_get (xs ++ ys) k ≡ slice_get ys n
slice_get-past [] ys n k e = ap (slice_get ys) (omega (arith, e))
slice_get-past (x ∷ xs) ys n k e = subst (λ (m : ℕ). slice_get (x ∷ (xs ++ ys)) m ≡ slice_get ys n) (let h : suc (length xs + n) ≡ k = omega (arith, e) in h) (slice_get-past xs ys n (length xs + n) refl)

split-at : (cs : List Component) (i : ℕ) (c : Component) → i < length cs → c ≡ get_or cs i c → cs ≡ take i cs ++ (c ∷ drop (i + 1) cs)
split-at cs i c h e = sym (take-append-drop i cs) ∙ ap (λ (xs : List Component). take i cs ++ xs) (drop_more cs i c h ∙ ap (λ (x : Component). x ∷ drop (i + 1) cs) (sym e))

pub nth-among : (cs : List Component) (i : ℕ) (c : Component) (settings : ℕ → List ℤ) (number left : ℕ) (g : Group) → i < length cs → c ≡ get_or cs i c → number ≡ length (groups_of_all (take i cs) settings) + left → slice_get (groups (part_of c settings)) left ≡ Some g → slice_get (groups_of_all cs settings) number ≡ Some g
nth-among cs i c settings number left g h e f here =
    let of = λ (x : Component). groups (part_of x settings) in
    let split : groups_of_all cs settings ≡ groups_of_all (take i cs) settings ++ (groups (part_of c settings) ++ groups_of_all (drop (i + 1) cs) settings) =
    ap (λ (xs : List Component). groups_of_all xs settings) (split-at cs i c h e) ∙ flat_map-append of (take i cs) (c ∷ drop (i + 1) cs) in
    ap (λ (xs : List Group). slice_get xs number) split
    ∙ slice_get-past (groups_of_all (take i cs) settings) (groups (part_of c settings) ++ groups_of_all (drop (i + 1) cs) settings) left number f
    ∙ slice_get-append (groups (part_of c settings)) (groups_of_all (drop (i + 1) cs) settings) left g here
