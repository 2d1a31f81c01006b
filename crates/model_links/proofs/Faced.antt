-- What is kept of a face says what the face says.
use Rattle.std.proofs.Common.{◌≡◌, Bool, true, false, Option, Some, None, List, [], ◌∷◌, refl, ap, ◌∙◌, nat_lt}
use Rattle.std.proofs.lemmas.Bool.{and_parts, eqb-true}
use Rattle.std.proofs.lemmas.List.Folds.{list_any-append}
use Rattle.std.specs.Prelude.{◌||◌, ◌&&◌, ◌==◌}
use Rattle.std.specs.List.{list_any, flat_map}
use Rattle.std.specs.Str.{bytes_eq}
use Rattle.quantity.specs.Bytes.{Bytes, is_among}
use Rattle.rule_tree.specs.Phrases.{out}
use Rattle.ma_lines.specs.Sections.{Section}
use Rattle.model_tree.specs.declared.link.End.{End}
use Rattle.model_tree.specs.declared.link.End.TheVariants.{Own, Child, Cell}
use Rattle.model_tree.specs.declared.link.Link.{Link}
use Rattle.model_tree.specs.Faces.{same_end, same_link, is_source, is_target}
use Rattle.model_text.specs.Keyed.{Item, texts_of}
use Rattle.model_text.specs.Walk.{item_name, children_of}
use Rattle.model_text.specs.Links.{child_named, inputs_of_item, outputs_of_item, face_of}
use Rattle.model_walk.proofs.Named.{any-map}
use Rattle.model_links.specs.declared.face.Face.{Face}
use Rattle.model_links.specs.Lent.{with_ends, with_links}
use Rattle.model_links.specs.declared.child.Side.{Side}
use Rattle.model_links.specs.declared.child.Side.TheVariants.{From, To}
use Rattle.model_links.specs.PortEnds.{end_at, ends_at, own_key, ports_of_item, child_ends, first_items, ends_by, all_ends, cells_of}
use Rattle.model_links.specs.Faces.{sources_of, targets_of}
use Rattle.model_links.specs.Judged.{is_source_of, is_target_of}
use Rattle.model_text.proofs.Keys.{same_bytes}
use Rattle.model_links.proofs.Lists.{any-with_all, first_tested}

-- ---- ends and links that are the same

pub same_end_tells : (a b : End) → same_end a b ≡ true → a ≡ b
same_end_tells (Own p) (Own q) e = ap (λ (x : Bytes). Own x) (same_bytes p q e)
same_end_tells (Own p) (Child q d) e = absurd cc
same_end_tells (Own p) (Cell q m) e = absurd cc
same_end_tells (Child p c) (Own q) e = absurd cc
same_end_tells (Child p c) (Child q d) e =
    let h = and_parts (bytes_eq p q) (bytes_eq c d) e in
    λ k. Child (same_bytes p q h.0 k) (same_bytes c d h.1 k)
same_end_tells (Child p c) (Cell q m) e = absurd cc
same_end_tells (Cell p n) (Own q) e = absurd cc
same_end_tells (Cell p n) (Child q d) e = absurd cc
same_end_tells (Cell p n) (Cell q m) e =
    let h = and_parts (bytes_eq p q) (n == m) e in
    λ k. Cell (same_bytes p q h.0 k) (eqb-true n m h.1 k)

same_link_tells : (a b : Link) → same_link a b ≡ true → a ≡ b
same_link_tells a b e =
    let h = and_parts (same_end a.from b.from) (same_end a.to b.to) e in
    λ k. record { from = same_end_tells a.from b.from h.0 k; to = same_end_tells a.to b.to h.1 k }

-- what is among links is among those of which none stands twice
pub link_among : (l : Link) (ls : List Link) → list_any (same_link l) (with_links [] ls) ≡ list_any (same_link l) ls
link_among l ls = any-with_all same_link same_link_tells l [] ls

-- ---- ports as ends

never : {A : Type 0} (xs : List A) → list_any (λ (x : A). false) xs ≡ false
never [] = refl
never (x ∷ xs) = never xs

any-and : {A : Type 0} (p : A → Bool) (b : Bool) (xs : List A) → list_any (λ x. p x && b) xs ≡ (list_any p xs && b)
any-and p b [] = refl
any-and p b (x ∷ xs) = ap (λ c. (p x && b) || c) (any-and p b xs) ∙ by (p x) (list_any p xs) b
  where
    by : (a c b : Bool) → ((a && b) || (c && b)) ≡ ((a || c) && b)
    by true true true = refl
    by true true false = refl
    by true false true = refl
    by true false false = refl
    by false c b = refl

any-parts : {A B : Type 0} (p : B → Bool) (f : A → List B) (xs : List A) → list_any p (flat_map f xs) ≡ list_any (λ x. list_any p (f x)) xs
any-parts p f [] = refl
any-parts p f (x ∷ xs) = list_any-append p (f x) (flat_map f xs) ∙ ap (λ b. list_any p (f x) || b) (any-parts p f xs)

own_in_child : (port child : Bytes) (ports : List Bytes) → list_any (same_end (Own port)) (ends_at (Some child) ports) ≡ false
own_in_child port child ports = any-map (same_end (Own port)) (end_at (Some child)) ports ∙ never ports

child_in_child : (port child name : Bytes) (ports : List Bytes) → list_any (same_end (Child port child)) (ends_at (Some name) ports) ≡ (is_among ports port && bytes_eq child name)
child_in_child port child name ports = any-map (same_end (Child port child)) (end_at (Some name)) ports ∙ any-and (bytes_eq port) (bytes_eq child name) ports

-- the ports of a section and those of these children
cut : (e : End) (side : Side) (ss : List Section) (s : Section) (is : List Item)
    → list_any (same_end e) (ends_by side ss s is) ≡ (list_any (same_end e) (ends_at None (texts_of (own_key side) s)) || list_any (λ i. list_any (same_end e) (child_ends side ss i)) is)
cut e side ss s is =
    let own = ends_at None (texts_of (own_key side) s) in
    let children = flat_map (child_ends side ss) is in
    any-with_all same_end same_end_tells e (with_ends [] own) children
    ∙ (λ k. any-with_all same_end same_end_tells e [] own k || any-parts (same_end e) (child_ends side ss) is k)

or_false : (a b c : Bool) → a ≡ c → b ≡ false → (a || b) ≡ c
or_false true b c e f = e
or_false false b c e f = f ∙ e

own_tested : (port : Bytes) (side : Side) (ss : List Section) (s : Section) (is : List Item) → list_any (same_end (Own port)) (ends_by side ss s is) ≡ is_among (texts_of (own_key side) s) port
own_tested port side ss s is =
    cut (Own port) side ss s is
    ∙ or_false _ _ (is_among (texts_of (own_key side) s) port) (any-map (same_end (Own port)) (end_at None) (texts_of (own_key side) s))
    ((λ k. list_any (λ (i : Item). own_in_child port (item_name i) (ports_of_item side ss (Some i)) k) is) ∙ never is)

child_tested : (port child : Bytes) (side : Side) (ss : List Section) (s : Section)
    → list_any (same_end (Child port child)) (all_ends side ss s) ≡ is_among (ports_of_item side ss (child_named s child)) port
child_tested port child side ss s =
    let cs = children_of s in
    let own = texts_of (own_key side) s in
    cut (Child port child) side ss s (first_items cs)
    ∙ ap (λ b. b || list_any (λ (i : Item). list_any (same_end (Child port child)) (child_ends side ss i)) (first_items cs)) (any-map (same_end (Child port child)) (end_at None) own ∙ never own)
    ∙ (λ k. list_any (λ (i : Item). child_in_child port child (item_name i) (ports_of_item side ss (Some i)) k) (first_items cs))
    ∙ first_tested item_name child (λ o. is_among (ports_of_item side ss o) port) cs refl

-- ---- the face

outputs_are : (ss : List Section) (i : Option Item) → ports_of_item From ss i ≡ outputs_of_item ss i
outputs_are ss None = refl
outputs_are ss (Some i) = refl

inputs_are : (ss : List Section) (i : Option Item) → ports_of_item To ss i ≡ inputs_of_item ss i
inputs_are ss None = refl
inputs_are ss (Some i) = refl

pub sources_are : (k : Face) (ss : List Section) (s : Section) → sources_of k ≡ all_ends From ss s → k.cells ≡ cells_of s → (e : End) → is_source_of k e ≡ is_source (face_of ss s) e
sources_are k ss s same cells (Own port) = ap (list_any (same_end (Own port))) same ∙ own_tested port From ss s (first_items (children_of s))
sources_are k ss s same cells (Child port child) = ap (list_any (same_end (Child port child))) same ∙ child_tested port child From ss s ∙ ap (λ ps. is_among ps port) (outputs_are ss (child_named s child))
sources_are k ss s same cells (Cell port cell) = ap (λ n. bytes_eq port out && nat_lt cell n) cells

pub targets_are : (k : Face) (ss : List Section) (s : Section) → targets_of k ≡ all_ends To ss s → k.cells ≡ cells_of s → (e : End) → is_target_of k e ≡ is_target (face_of ss s) e
targets_are k ss s same cells (Own port) = ap (list_any (same_end (Own port))) same ∙ own_tested port To ss s (first_items (children_of s))
targets_are k ss s same cells (Child port child) = ap (list_any (same_end (Child port child))) same ∙ child_tested port child To ss s ∙ ap (λ ps. is_among ps port) (inputs_are ss (child_named s child))
targets_are k ss s same cells (Cell port cell) = ap (λ n. nat_lt cell n) cells
