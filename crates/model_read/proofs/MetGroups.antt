-- Each section that the walk meets is one of the file.
use Rattle.std.proofs.Common.{◌≡◌, ℕ, zero, suc, ◌<◌, ◌+◌, Bool, true, false, cond, Option, Some, None, List, [], ◌∷◌, ◌++◌, length, slice_index_or, refl, sym, ap, ◌∙◌, subst, arith}
use Rattle.std.specs.List.{All, AllByRecursion, filter, filter_map, flat_map}
use Rattle.std.specs.Str.{bytes_eq}
use Rattle.std.proofs.lemmas.Option.{none-some, same_Some}
use Rattle.quantity.specs.Bytes.{Bytes, is_among}
use Rattle.ma_lines.specs.Sections.{Section}
use Rattle.model_text.specs.Keyed.{section_named, Item}
use Rattle.model_text.specs.Walk.{top, is_group, children_of, item_name, is_atomic, section_of_item, Step, at_section, at_item, below, section_in, walk_from, walk_at, walk, reached_sections, groups}

module _ (P : Section → Type 0) where
  pub among : (ss : List Section) (name : Bytes) (s : Section) → All P ss → section_named ss name ≡ Some s → P s
  among [] name s all e = absurd (none-some s e)
  among (x ∷ ss) name s all e = go (bytes_eq x.name name) e (λ more. among ss name s (λ k d h. all (suc k) d (omega (arith, h))) more)
    where
      go : (b : Bool) → cond b (Some x) (section_named ss name) ≡ Some s → (section_named ss name ≡ Some s → P s) → P s
      go true f later = subst P (same_Some x s f) (all 0 x (omega arith))
      go false f later = later f

  behind : (ss : List Section) (around : List Bytes) (i : Item) (t : Section) → All P ss → below ss around i ≡ Some t → P t
  behind ss around i t all e = go (is_among around (item_name i)) (is_atomic i) e
    where
      go : (b c : Bool) → cond b None (cond c None (section_named ss (item_name i))) ≡ Some t → P t
      go true c f = absurd (none-some t f)
      go false true f = absurd (none-some t f)
      go false false f = among ss (item_name i) t all f

  joined : (xs ys : List Step) → AllByRecursion P (filter_map section_in xs) → AllByRecursion P (filter_map section_in ys) → AllByRecursion P (filter_map section_in (xs ++ ys))
  joined [] ys p q = q
  joined (at_section line deep s ∷ xs) ys p q = (p.0, joined xs ys p.1 q)
  joined (at_item around i ∷ xs) ys p q = joined xs ys p q

  abbrev item_steps : ℕ → List Section → List Bytes → Item → List Step
  item_steps n ss around i = at_item around i ∷ elim (below ss around i) [ None ↦ [] | Some t ↦ walk_from n ss around i.line t ]

  abbrev Walks : ℕ → List Section → Type 0
  Walks n ss = (around : List Bytes) (line : ℕ) (s : Section) → P s → AllByRecursion P (filter_map section_in (walk_from n ss around line s))

  of_item : (n : ℕ) (ss : List Section) → All P ss → Walks n ss → (around : List Bytes) (i : Item) → AllByRecursion P (filter_map section_in (item_steps n ss around i))
  of_item n ss all walks around i = go (below ss around i) refl
    where
      go : (o : Option Section) → below ss around i ≡ o → AllByRecursion P (filter_map section_in (elim o [ None ↦ [] | Some t ↦ walk_from n ss around i.line t ]))
      go None e = tt
      go (Some t) e = walks around i.line t (behind ss around i t all e)

  of_items : (n : ℕ) (ss : List Section) → All P ss → Walks n ss → (around : List Bytes) (is : List Item) → AllByRecursion P (filter_map section_in (flat_map (item_steps n ss around) is))
  of_items n ss all walks around [] = tt
  of_items n ss all walks around (i ∷ is) =
      joined (item_steps n ss around i) (flat_map (item_steps n ss around) is) (of_item n ss all walks around i) (of_items n ss all walks around is)

  walked : (n : ℕ) (ss : List Section) → All P ss → Walks n ss
  walked zero ss all around line s p = (p, tt)
  walked (suc n) ss all around line s p = (p, of_items n ss all (walked n ss all) (s.name ∷ around) (children_of s))

  kept : (ss : List Section) → AllByRecursion P ss → AllByRecursion P (filter is_group ss)
  kept [] p = tt
  kept (s ∷ ss) p = go (is_group s) (kept ss p.1)
    where
      go : (b : Bool) → AllByRecursion P (filter is_group ss) → AllByRecursion P (cond b (s ∷ filter is_group ss) (filter is_group ss))
      go true later = (p.0, later)
      go false later = later

  pub groups_hold : (ss : List Section) → All P ss → AllByRecursion P (groups ss)
  groups_hold ss all = kept (reached_sections ss) (go (section_named ss top) refl)
    where
      go : (o : Option Section) → section_named ss top ≡ o → AllByRecursion P (filter_map section_in (walk_at ss o))
      go None e = tt
      go (Some s) e = walked 17 ss all [] 0 s (among ss top s all e)
