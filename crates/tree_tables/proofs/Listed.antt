-- Components as a list: their processors, and one component more.
use Rattle.std.proofs.Common.{◌≡◌, ◌+◌, ◌++◌, ◌<◌, ℕ, ℤ, zero, suc, List, [], ◌∷◌, take, length, get_or, refl, sym, ap, ◌∙◌, subst, arith}
use Rattle.std.specs.List.{range_with_len}
use Rattle.std.proofs.lemmas.List.{take_more}
use Rattle.model_tree.specs.declared.component.Coupled.{Coupled}
use Rattle.model_tree.specs.declared.component.Component.{Component, Row_of-Component, end_of-Component, more_of-Component, items-the_row-Component, items_hidden-the_row-Component-0}
use Rattle.model_tree.specs.declared.component.Component.TheVariants as in_tree
use Rattle.model_tree.specs.Tree.{leaf_count, leaf_counts}
use Rattle.model_tree.specs.Stands.{part_of, parts_of}
use Rattle.model_tree.proofs.Children.{row_of}
use Rattle.served_tree.specs.Processors.{Processor, size, sizes, child_numbers, processors_from, all_processors_from}
use Rattle.served_tree.specs.Places.{ContainsFrom}
use Rattle.served_tree.proofs.Lists.{stands-split}
use Rattle.served_tree.proofs.Placing.{size-is}
use Rattle.tree_tables.specs.Children.{sizes_of, leaves_of, numbers_of, processors_of}

-- ---- the children of a coupled component

sizes-row : (n : _) (row : Row_of-Component n) (settings : ℕ → List ℤ)
    → sizes (parts_of row settings) ≡ sizes_of (items-the_row-Component n row) settings
sizes-row n end_of-Component settings = refl
sizes-row n (more_of-Component c rest) settings =
    ap (λ m. size (part_of c settings) + m) (sizes-row _ rest settings)

pub size-Coupled : (c : Coupled) (settings : ℕ → List ℤ)
    → size (part_of (in_tree.Coupled c) settings) ≡ suc (sizes_of c.children.items settings)
size-Coupled c settings =
    let row = row_of (in_tree.Coupled c) in
    ap suc (sizes-row row.0 row.1 settings
    ∙ ap (λ cs. sizes_of cs settings) (items_hidden-the_row-Component-0 c.children))

leaves-row : (n : _) (row : Row_of-Component n) (settings : ℕ → List ℤ)
    → leaf_counts (parts_of row settings) ≡ leaves_of (items-the_row-Component n row) settings
leaves-row n end_of-Component settings = refl
leaves-row n (more_of-Component c rest) settings =
    ap (λ m. leaf_count (part_of c settings) + m) (leaves-row _ rest settings)

pub leaves-Coupled : (c : Coupled) (settings : ℕ → List ℤ)
    → leaf_count (part_of (in_tree.Coupled c) settings) ≡ leaves_of c.children.items settings
leaves-Coupled c settings =
    let row = row_of (in_tree.Coupled c) in
    leaves-row row.0 row.1 settings
    ∙ ap (λ cs. leaves_of cs settings) (items_hidden-the_row-Component-0 c.children)

numbers-row : (n : _) (row : Row_of-Component n) (settings : ℕ → List ℤ) (m : ℕ)
    → child_numbers (parts_of row settings) m ≡ numbers_of (items-the_row-Component n row) settings m
numbers-row n end_of-Component settings m = refl
numbers-row n (more_of-Component c rest) settings m =
    ap (λ ns. m ∷ ns) (numbers-row _ rest settings (m + size (part_of c settings)))

pub numbers-Coupled : (c : Coupled) (settings : ℕ → List ℤ) (m : ℕ)
    → child_numbers (parts_of (row_of (in_tree.Coupled c)).1 settings) m
    ≡ numbers_of c.children.items settings m
numbers-Coupled c settings m =
    let row = row_of (in_tree.Coupled c) in
    numbers-row row.0 row.1 settings m
    ∙ ap (λ cs. numbers_of cs settings m) (items_hidden-the_row-Component-0 c.children)

processors-row : (n : _) (row : Row_of-Component n) (settings : ℕ → List ℤ) (m q f : ℕ)
    → all_processors_from (parts_of row settings) m q f
    ≡ processors_of (items-the_row-Component n row) settings m q f
processors-row n end_of-Component settings m q f = refl
processors-row n (more_of-Component c rest) settings m q f =
    ap (λ ps. processors_from (part_of c settings) m q f ++ ps)
    (processors-row _ rest settings (m + size (part_of c settings)) q
    (f + leaf_count (part_of c settings)))

pub processors-Coupled : (c : Coupled) (settings : ℕ → List ℤ) (m q f : ℕ)
    → all_processors_from (parts_of (row_of (in_tree.Coupled c)).1 settings) m q f
    ≡ processors_of c.children.items settings m q f
processors-Coupled c settings m q f =
    let row = row_of (in_tree.Coupled c) in
    processors-row row.0 row.1 settings m q f
    ∙ ap (λ cs. processors_of cs settings m q f) (items_hidden-the_row-Component-0 c.children)

-- ---- one component more

pub sizes-behind : (cs : List Component) (c : Component) (settings : ℕ → List ℤ)
    → sizes_of (cs ++ c ∷ []) settings ≡ sizes_of cs settings + size (part_of c settings)
sizes-behind [] c settings = omega arith
sizes-behind (d ∷ cs) c settings = let h = sizes-behind cs c settings in omega (arith, h)

pub leaves-behind : (cs : List Component) (c : Component) (settings : ℕ → List ℤ)
    → leaves_of (cs ++ c ∷ []) settings ≡ leaves_of cs settings + leaf_count (part_of c settings)
leaves-behind [] c settings = omega arith
leaves-behind (d ∷ cs) c settings = let h = leaves-behind cs c settings in omega (arith, h)

pub numbers-behind : (cs : List Component) (c : Component) (settings : ℕ → List ℤ) (n m : ℕ)
    → m ≡ n + sizes_of cs settings
    → numbers_of (cs ++ c ∷ []) settings n ≡ numbers_of cs settings n ++ m ∷ []
numbers-behind [] c settings n m e = ap (λ k. k ∷ []) (let h : n ≡ m = omega (arith, e) in h)
numbers-behind (d ∷ cs) c settings n m e =
    ap (λ ns. n ∷ ns)
    (numbers-behind cs c settings (n + size (part_of d settings)) m (omega (arith, e)))

-- the same in a loop over them
pub took : (cs : List Component) (i : ℕ) (c : Component) → i < length cs → c ≡ get_or cs i c
    → take (i + 1) cs ≡ take i cs ++ c ∷ []
took cs i c within is = take_more cs i c within ∙ ap (λ x. take i cs ++ x ∷ []) (sym is)

pub sizes-more : (cs : List Component) (i : ℕ) (c : Component) (settings : ℕ → List ℤ)
    → i < length cs → c ≡ get_or cs i c
    → sizes_of (take (i + 1) cs) settings ≡ sizes_of (take i cs) settings + size (part_of c settings)
sizes-more cs i c settings within is =
    ap (λ xs. sizes_of xs settings) (took cs i c within is) ∙ sizes-behind (take i cs) c settings

pub leaves-more : (cs : List Component) (i : ℕ) (c : Component) (settings : ℕ → List ℤ)
    → i < length cs → c ≡ get_or cs i c
    → leaves_of (take (i + 1) cs) settings
    ≡ leaves_of (take i cs) settings + leaf_count (part_of c settings)
leaves-more cs i c settings within is =
    ap (λ xs. leaves_of xs settings) (took cs i c within is) ∙ leaves-behind (take i cs) c settings

pub numbers-more : (cs : List Component) (i : ℕ) (c : Component) (settings : ℕ → List ℤ) (n m : ℕ)
    → i < length cs → c ≡ get_or cs i c → m ≡ n + sizes_of (take i cs) settings
    → numbers_of (take (i + 1) cs) settings n ≡ numbers_of (take i cs) settings n ++ m ∷ []
numbers-more cs i c settings n m within is e =
    ap (λ xs. numbers_of xs settings n) (took cs i c within is)
    ∙ numbers-behind (take i cs) c settings n m e

-- ---- where the processors of one of them stand

pub stands-child : (ps : List Processor) (cs : List Component) (i : ℕ) (c : Component)
    (settings : ℕ → List ℤ) (n q f m g : ℕ) → i < length cs → c ≡ get_or cs i c
    → m ≡ n + sizes_of (take i cs) settings → g ≡ f + leaves_of (take i cs) settings
    → ContainsFrom ps n (processors_of cs settings n q f)
    → ContainsFrom ps m (processors_from (part_of c settings) m q g)
stands-child ps [] i c settings n q f m g within is e l h = absurd (omega (arith, within))
stands-child ps (d ∷ ds) zero c settings n q f m g within is e l h =
    let first = (stands-split ps n (processors_from (part_of d settings) n q f) (processors_of ds settings (n + size (part_of d settings)) q (f + leaf_count (part_of d settings))) h).0 in
    let there : n ≡ m = omega (arith, e) in
    let leaf : f ≡ g = omega (arith, l) in
    subst (λ k. ContainsFrom ps k (processors_from (part_of c settings) k q g)) there
    (subst (λ k. ContainsFrom ps n (processors_from (part_of c settings) n q k)) leaf
    (subst (λ x. ContainsFrom ps n (processors_from (part_of x settings) n q f)) (sym is) first))
stands-child ps (d ∷ ds) (suc i) c settings n q f m g within is e l h =
    let rest = (stands-split ps n (processors_from (part_of d settings) n q f) (processors_of ds settings (n + size (part_of d settings)) q (f + leaf_count (part_of d settings))) h).1 in
    stands-child ps ds i c settings (n + size (part_of d settings)) q (f + leaf_count (part_of d settings)) m g (omega (arith, within)) is (omega (arith, e)) (omega (arith, l))
    (subst (λ k. ContainsFrom ps (n + k) (processors_of ds settings (n + size (part_of d settings)) q (f + leaf_count (part_of d settings)))) (size-is (part_of d settings) n q f) rest)

-- ---- numbers one behind another

range-behind : (a k b : ℕ) → b ≡ a + k
    → range_with_len a (suc k) ≡ range_with_len a k ++ b ∷ []
range-behind a zero b e = ap (λ n. n ∷ []) (let f : a ≡ b = omega (arith, e) in f)
range-behind a (suc k) b e = ap (λ ns. a ∷ ns) (range-behind (a + 1) k b (omega (arith, e)))

pub range-more : (a k b : ℕ) → b ≡ a + k
    → range_with_len a (k + 1) ≡ range_with_len a k ++ b ∷ []
range-more a k b e =
    ap (range_with_len a) (let f : k + 1 ≡ suc k = omega arith in f) ∙ range-behind a k b e
