-- Initial values change no port, link or path, and those of the groups of a tree, laid on it, make the tree.
use Rattle.std.proofs.Common.{◌≡◌, ℕ, zero, suc, ◌+◌, Bool, true, false, Some, None, List, [], ◌∷◌, ◌++◌, map, length, refl, sym, ap, ◌∙◌, arith}
use Rattle.std.specs.Prelude.{◌≤◌, slice_get, codes}
use Rattle.std.specs.List.{flat_map, sum}
use Rattle.std.proofs.lemmas.List.{append-nil, map-append, append_assoc, length-append, length-map}
use Rattle.std.proofs.lemmas.Option.{slice_get-get_or}
use Rattle.quantity.specs.declared.value.Value.{Value}
use Rattle.source_text.specs.Lines.{Files}
use Rattle.ma_lines.specs.Sections.{Section}
use Rattle.model_tree.specs.Tree as T
use Rattle.model_tree.specs.Tree.{Word, Group, Tree, Trees, coupled, cells, atomic, nil, cons, name_of, leaf_count, leaf_counts, ins_of, outs_of}
use Rattle.model_tree.specs.Pull.{is_own, is_child, what_links_bring, nothing, given_out, given_by, taken_in, all_taken_in, Source, leaf_source, top_source, sources, top_sources}
use Rattle.model_tree.specs.Paths.{path_count}
use Rattle.model_text.specs.Keyed.{section_named, Item, texts_of}
use Rattle.model_text.specs.Walk.{top, is_group, children_of, section_of_item}
use Rattle.model_text.specs.Links.{links_of}
use Rattle.model_text.specs.Trees.{trees, component_of, first_tree, tree_of_section, tree_of_sections, no_files}
use Rattle.model_text.specs.BuildLaws.{component_at, PathsStay}
use Rattle.model_leaves.specs.Laid.{laid_from, all_laid_from}
use Rattle.model_text.proofs.Parts.{trees_behind, made}

abbrev mutual
  pub bare : Tree → Tree
  bare (coupled name ins outs children links) = coupled name ins outs (all_bare children) links
  bare (cells g) = cells (record g { initial = [] })
  bare (atomic name class settings) = atomic name class settings

  pub all_bare : Trees → Trees
  all_bare nil = nil
  all_bare (cons t ts) = cons (bare t) (all_bare ts)

-- ---- what stays

same_name : (t : Tree) → name_of (bare t) ≡ name_of t
same_name t = grind arith

pub same_ins : (t : Tree) → ins_of (bare t) ≡ ins_of t
same_ins t = grind arith

pub same_outs : (t : Tree) → outs_of (bare t) ≡ outs_of t
same_outs t = grind arith

mutual
  pub same_leaves : (t : Tree) → leaf_count (bare t) ≡ leaf_count t
  same_leaves (coupled name ins outs children links) = all_same_leaves children
  same_leaves (cells g) = refl
  same_leaves (atomic name class settings) = refl

  all_same_leaves : (ts : Trees) → leaf_counts (all_bare ts) ≡ leaf_counts ts
  all_same_leaves nil = refl
  all_same_leaves (cons t ts) = λ k. same_leaves t k + all_same_leaves ts k

mutual
  pub same_out : (t : Tree) (first : ℕ) (give : ℕ → List Source) (port : Word) → given_out (bare t) first give port ≡ given_out t first give port
  same_out (coupled name ins outs children links) first give port =
      ap (λ by. what_links_bring links (is_own port) nothing by nothing) (λ k p c. same_by children first give p c k)
  same_out (cells g) first give port = refl
  same_out (atomic name class settings) first give port = refl

  same_by : (ts : Trees) (first : ℕ) (give : ℕ → List Source) (port name : Word) → given_by (all_bare ts) first give port name ≡ given_by ts first give port name
  same_by nil first give port name = refl
  same_by (cons t ts) first give port name =
      rw (same_name t, same_leaves t, same_out t first give port, same_by ts (first + leaf_count t) give port name)

mutual
  pub same_in : (t : Tree) (first : ℕ) (give : ℕ → List Source) (own : Word → List Source) → taken_in (bare t) first give own ≡ taken_in t first give own
  same_in (coupled name ins outs children links) first give own =
      all_same_in children first give (λ child port. what_links_bring links (is_child port child) own (given_by (all_bare children) first give) nothing)
      ∙ ap (λ by. all_taken_in children first give (λ child port. what_links_bring links (is_child port child) own by nothing)) (λ k p c. same_by children first give p c k)
  same_in (cells g) first give own = refl
  same_in (atomic name class settings) first give own = refl

  all_same_in : (ts : Trees) (first : ℕ) (give : ℕ → List Source) (own : Word → Word → List Source) → all_taken_in (all_bare ts) first give own ≡ all_taken_in ts first give own
  all_same_in nil first give own = refl
  all_same_in (cons t ts) first give own =
      rw (same_name t, same_leaves t, same_in t first give (own (name_of t)), all_same_in ts (first + leaf_count t) give own)

-- ---- paths

pub same_sources : (t : Tree) → sources (bare t) ≡ sources t
same_sources t = same_in t 0 (λ k. leaf_source k ∷ []) (λ p. top_source p ∷ [])

pub same_tops : (t : Tree) → top_sources (bare t) ≡ top_sources t
same_tops t = λ k. map (λ port. same_out t 0 (λ j. leaf_source j ∷ []) port k) (same_outs t k)

pub same_paths : (t : Tree) → path_count (bare t) ≡ path_count t
same_paths t = λ k. sum (map (λ ports. sum (map length ports)) (same_sources t k)) + sum (map length (same_tops t k))

-- ---- components made with other files

bare_trees : (ts : List Tree) → all_bare (trees ts) ≡ trees (map bare ts)
bare_trees [] = refl
bare_trees (t ∷ ts) = ap (λ us. cons (bare t) us) (bare_trees ts)

bare_of_all : (f g : Item → List Tree) → ((i : Item) → map bare (f i) ≡ map bare (g i)) → (is : List Item) → map bare (flat_map f is) ≡ map bare (flat_map g is)
bare_of_all f g same [] = refl
bare_of_all f g same (i ∷ is) =
    map-append bare (f i) (flat_map f is) ∙ (λ k. same i k ++ bare_of_all f g same is k) ∙ sym (map-append bare (g i) (flat_map g is))

same_bare : (n : ℕ) (files : Files) (ss : List Section) (s : Section) → map bare (component_of n files ss s) ≡ map bare (component_of n no_files ss s)
same_bare zero files ss s = refl
same_bare (suc n) files ss s = by_kind (is_group s) (same_child (same_bare n files ss))
  where
    same_child : ((t : Section) → map bare (component_of n files ss t) ≡ map bare (component_of n no_files ss t)) → (i : Item) → map bare (component_at n files ss i) ≡ map bare (component_at n no_files ss i)
    same_child later i =
        elim (section_of_item ss i) as (λ o. map bare (trees_behind n files ss i o) ≡ map bare (trees_behind n no_files ss i o)) [ None ↦ refl | Some t ↦ later t ]

    by_kind : (b : Bool) → ((i : Item) → map bare (component_at n files ss i) ≡ map bare (component_at n no_files ss i)) → map bare (made n files ss s b) ≡ map bare (made n no_files ss s b)
    by_kind true later = refl
    by_kind false later =
        ap (λ us. let x : List Tree = coupled s.name (texts_of (codes "in") s) (texts_of (codes "out") s) us (links_of s) ∷ [] in x)
        (bare_trees (flat_map (component_at n files ss) (children_of s)) ∙ ap trees (bare_of_all (component_at n files ss) (component_at n no_files ss) later (children_of s)) ∙ sym (bare_trees (flat_map (component_at n no_files ss) (children_of s))))

first_bare : (ts us : List Tree) → map bare ts ≡ map bare us → bare (first_tree ts) ≡ bare (first_tree us)
first_bare ts us e = grind arith

pub same_tree : (files : Files) (ss : List Section) → bare (tree_of_sections files ss) ≡ bare (tree_of_sections no_files ss)
same_tree files ss =
    elim (section_named ss top) as (λ o. bare (tree_of_section files ss o) ≡ bare (tree_of_section no_files ss o))
    [ None ↦ refl | Some s ↦ first_bare (component_of 17 files ss s) (component_of 17 no_files ss s) (same_bare 17 files ss s) ]

pub paths_stay : PathsStay
paths_stay files ss =
    let t = tree_of_sections files ss in
    let u = tree_of_sections no_files ss in
    let same = same_tree files ss in
    record {
      ins = sym (same_ins t) ∙ ap ins_of same ∙ same_ins u;
      outs = sym (same_outs t) ∙ ap outs_of same ∙ same_outs u;
      leaves = sym (same_leaves t) ∙ ap leaf_count same ∙ same_leaves u;
      sources = sym (same_sources t) ∙ ap sources same ∙ same_sources u;
      top_sources = sym (same_tops t) ∙ ap top_sources same ∙ same_tops u;
      paths = sym (same_paths t) ∙ ap path_count same ∙ same_paths u;
    }

-- ---- values laid on

mutual
  pub laid_bare : (t : Tree) (first : ℕ) (values : List (List Value)) → first + length (T.groups t) ≤ length values → (laid_from t first values ≡ laid_from (bare t) first values) × (length (T.groups (bare t)) ≡ length (T.groups t))
  laid_bare (coupled name ins outs children links) first values enough =
      let h = all_laid_bare children first values enough in (ap (λ ts. coupled name ins outs ts links) h.0, h.1)
  laid_bare (cells g) first values enough = (rw (slice_get-get_or values first [] (omega arith)) refl, refl)
  laid_bare (atomic name class settings) first values enough = (refl, refl)

  all_laid_bare : (ts : Trees) (first : ℕ) (values : List (List Value)) → first + length (T.all_groups ts) ≤ length values
      → (all_laid_from ts first values ≡ all_laid_from (all_bare ts) first values) × (length (T.all_groups (all_bare ts)) ≡ length (T.all_groups ts))
  all_laid_bare nil first values enough = (refl, refl)
  all_laid_bare (cons t ts) first values enough =
      let both = length-append (T.groups t) (T.all_groups ts) in
      let h = laid_bare t first values (omega arith) in
      let k = all_laid_bare ts (first + length (T.groups t)) values (omega arith) in
      (rw h.1 (λ i. cons (h.0 i) (k.0 i)), simp length-append (λ i. h.1 i + k.1 i))

abbrev pub initials : List Group → List (List Value)
initials gs = map (λ (g : Group). g.initial) gs

got : (before rest : List (List Value)) (v : List Value) → slice_get (before ++ v ∷ rest) (length before) ≡ Some v
got [] rest v = refl
got (b ∷ before) rest v = got before rest v

mutual
  pub laid_own : (t : Tree) (before rest : List (List Value)) → laid_from t (length before) (before ++ (initials (T.groups t) ++ rest)) ≡ t
  laid_own (coupled name ins outs children links) before rest = ap (λ ts. coupled name ins outs ts links) (all_laid_own children before rest)
  laid_own (cells g) before rest = rw (got before rest g.initial) refl
  laid_own (atomic name class settings) before rest = refl

  all_laid_own : (ts : Trees) (before rest : List (List Value)) → all_laid_from ts (length before) (before ++ (initials (T.all_groups ts) ++ rest)) ≡ ts
  all_laid_own nil before rest = refl
  all_laid_own (cons t ts) before rest =
      let later = all_laid_own ts (before ++ initials (T.groups t)) rest in
      let more = simp (length-append, length-map, append_assoc) at later in
      simp (map-append, append_assoc) (λ i. cons (laid_own t before (initials (T.all_groups ts) ++ rest) i) (more i))

pub laid_alike : (u t : Tree) → bare u ≡ bare t → length (T.groups u) ≡ length (T.groups t) → laid_from u 0 (initials (T.groups t)) ≡ t
laid_alike u t same count =
    let values = initials (T.groups t) in
    let long : length values ≡ length (T.groups t) = length-map (T.groups t) (λ (g : Group). g.initial) in
    (laid_bare u 0 values (omega arith)).0 ∙ ap (λ x. laid_from x 0 values) same ∙ sym (laid_bare t 0 values (omega arith)).0 ∙ (simp append-nil at (laid_own t [] []))
