-- How many links there are, section by section.
use Rattle.std.proofs.Common.{◌≡◌, ℕ, ◌+◌, ◌<◌, Bool, true, false, cond, Option, List, [], ◌∷◌, map, length, take, drop, get_or, refl, sym, ap, ◌∙◌, nat_lt, sum, ◌||◌, Some, None, codes}
use Rattle.std.specs.Prelude.{◌&&◌}
use Rattle.std.specs.List.{filter}
use Rattle.quantity.specs.Bytes.{Bytes}
use Rattle.ma_lines.specs.Sections.{Section}
use Rattle.model_tree.specs.declared.link.Link.{Link}
use Rattle.model_tree.specs.Tree.{Group, Trees, coupled, cells, ins_of, outs_of}
use Rattle.model_text.specs.declared.kind.Kind.TheVariants.{TooLarge}
use Rattle.model_text.specs.Refusals.{refusal}
use Rattle.model_text.specs.Keyed.{section_named, texts_of}
use Rattle.model_text.specs.Walk.{top, is_group, reached_sections}
use Rattle.model_text.specs.Links.{links_of, link_entries, link_count}
use Rattle.model_text.specs.Trees.{group_of_section, tree_of_section, tree_of_sections, no_files}
use Rattle.model_text.specs.ModelOf.{link_limit_refused}
use Rattle.model_walk.specs.MetTree.{MetWith, IsTopMet}
use Rattle.std.proofs.lemmas.List.Sums.{sum-map, sum_by_more, sum_by-take-drop}

pub filter-both : {X : Type 0} (p q : X → Bool) (xs : List X) → filter q (filter p xs) ≡ filter (λ x. p x && q x) xs
filter-both p q [] = refl
filter-both p q (x ∷ xs) = by (p x) (filter-both p q xs)
  where
    by : (b : Bool) → filter q (filter p xs) ≡ filter (λ x. p x && q x) xs → filter q (cond b (x ∷ filter p xs) (filter p xs)) ≡ cond (b && q x) (x ∷ filter (λ x. p x && q x) xs) (filter (λ x. p x && q x) xs)
    by true e = ap (λ ys. cond (q x) (x ∷ ys) ys) e
    by false e = e

-- one more part
pub sum-more : {X : Type 0} (f : X → ℕ) (xs : List X) (i : ℕ) (d : X) → i < length xs → sum (map f (take (i + 1) xs)) ≡ sum (map f (take i xs)) + f (get_or xs i d)
sum-more f xs i d lt = rw (sum-map f (take (i + 1) xs), sum-map f (take i xs)) (sum_by_more f xs i d lt)

pub sum-whole : {X : Type 0} (f : X → ℕ) (xs : List X) (i : ℕ) → sum (map f xs) ≡ sum (map f (take i xs)) + sum (map f (drop i xs))
sum-whole f xs i = rw (sum-map f xs, sum-map f (take i xs), sum-map f (drop i xs)) (sym (sum_by-take-drop f xs i))

-- ---- the limits

-- of a component of these ports, whether it is a group or not
ports-by : (b : Bool) (g : Group) (name : Bytes) (ins outs : List Bytes) (ts : Trees) (ls : List Link) → g.ins ≡ ins → g.outs ≡ outs
    → (ins_of (cond b (cells g) (coupled name ins outs ts ls)) ≡ ins) × (outs_of (cond b (cells g) (coupled name ins outs ts ls)) ≡ outs)
ports-by true g name ins outs ts ls e f = (e, f)
ports-by false g name ins outs ts ls e f = (refl, refl)

-- the section top was met
top_met : (ss : List Section) (o : Option Section) (m : MetWith) → IsTopMet ss o m → Some m.section ≡ o
top_met ss None m h = absurd h
top_met ss (Some s) m h = ap Some h.0

abbrev pub links_of_all : List Section → ℕ
links_of_all xs = sum (map (λ (s : Section). length (link_entries s)) xs)

pub limit-of : (ss : List Section) (m : MetWith) (xs ys : List Section) (a h : Bool) (i o : ℕ) → IsTopMet ss (section_named ss top) m → ys ≡ reached_sections ss → xs ≡ ys
    → a ≡ (h || nat_lt 65536 i || nat_lt 65536 o) → h ≡ nat_lt 16384 (links_of_all xs) → i ≡ length (texts_of (codes "in") m.section) → o ≡ length (texts_of (codes "out") m.section)
    → cond a (Some (refusal 0 TooLarge)) None ≡ link_limit_refused ss
limit-of ss m xs ys a h i o is_top met same ea eh ei eo =
    let s = m.section in
    let e = top_met ss (section_named ss top) m is_top in
    let ports = ports-by (is_group s) (group_of_section no_files ss s) s.name (texts_of (codes "in") s) (texts_of (codes "out") s) _ (links_of s) refl refl in
    let ins : i ≡ length (ins_of (tree_of_sections no_files ss)) = ei ∙ ap length (sym ports.0) ∙ ap (λ o. length (ins_of (tree_of_section no_files ss o))) e in
    let outs : o ≡ length (outs_of (tree_of_sections no_files ss)) = eo ∙ ap length (sym ports.1) ∙ ap (λ o. length (outs_of (tree_of_section no_files ss o))) e in
    let links : h ≡ nat_lt 16384 (link_count ss) = eh ∙ ap (λ (zs : List Section). nat_lt 16384 (links_of_all zs)) (same ∙ met) in
    ap (λ b. cond b (Some (refusal 0 TooLarge)) None) (ea ∙ (λ k. links k || nat_lt 65536 (ins k) || nat_lt 65536 (outs k)))
