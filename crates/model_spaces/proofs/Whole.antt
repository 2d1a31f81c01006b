-- Groups, one after another, and those of whose spaces nothing is refused.
use Rattle.std.proofs.Common.{◌≡◌, ℕ, ◌+◌, ◌<◌, ◌≤◌, Bool, true, false, cond, Some, None, List, [], ◌∷◌, ◌++◌, length, get_or, take, drop, nat_lt, refl, sym, subst, ap, ◌∙◌, Bor, append-nil, codes, arith}
use Rattle.std.specs.List.{filter, flat_map, AllByRecursion}
use Rattle.std.specs.Option.{option_or}
use Rattle.std.proofs.lemmas.Bool.{ltb-false}
use Rattle.std.proofs.lemmas.List.{length-map, get_or-map, take_all, take_more, drop_more, map-append}
use Rattle.std.proofs.lemmas.List.Concat.{flat_map-append}
use Rattle.std.proofs.lemmas.List.Elements.{filter-append, All-from_recursion}
use Rattle.quantity.specs.declared.place.Offset.{Offset}
use Rattle.cell_grid.specs.Space.{cell_count}
use Rattle.cell_grid.specs.Watched.{CanHold}
use Rattle.ma_lines.specs.Sections.{Section}
use Rattle.model_text.specs.declared.kind.Kind.TheVariants.{TooLarge}
use Rattle.model_text.specs.Refusals.{Refusal, refusal}
use Rattle.model_text.specs.Keyed.{least_refusal, entries_of}
use Rattle.model_text.specs.GroupLaws.{RightSizes, RightNames}
use Rattle.model_text.specs.Walk.{is_group}
use Rattle.model_text.specs.Spaces.{space_of, offsets_of, ports_refused, too_many_offsets, first_large, of_space}
use Rattle.model_spaces.specs.Gathered.{offsets_with_all, offsets_in}
use Rattle.model_spaces.specs.Laid.{AreRows}
use Rattle.model_walk.specs.Met.{sections_at}
use Rattle.model_spaces.specs.Right.{CanBeRead}
use Rattle.model_spaces.proofs.Entries.{both_empty}
use Rattle.model_spaces.proofs.Gathered.{gathered_are}

-- ---- group by group

-- what holds of all groups holds of the one that a loop has reached
pub at_group : (P : Section → Type 0) (ss : List (Bor Section)) (i : ℕ) (d : Bor Section) → d ≡ get_or ss i d → AllByRecursion P (sections_at ss) → i < length ss → P d.now
at_group P ss i d is h lt =
    let at = λ (r : Bor Section). r.now in
    subst P (get_or-map at ss i d (at d) lt ∙ ap at (sym is)) (All-from_recursion P (sections_at ss) h i (at d) (subst (λ n. i < n) (sym (length-map ss at)) lt))

pub sections_more : (ss : List (Bor Section)) (i : ℕ) (d : Bor Section) → i < length ss → d ≡ get_or ss i d → sections_at (take (i + 1) ss) ≡ sections_at (take i ss) ++ d.now ∷ []
sections_more ss i d lt is =
    let at = λ (r : Bor Section). r.now in
    ap sections_at (take_more ss i d lt) ∙ map-append at (take i ss) (get_or ss i d ∷ []) ∙ ap (λ r. sections_at (take i ss) ++ at r ∷ []) (sym is)

-- the groups among the sections that a loop has reached
pub groups_more : (ss : List (Bor Section)) (i : ℕ) (d : Bor Section) → i < length ss → d ≡ get_or ss i d → filter is_group (sections_at (take (i + 1) ss)) ≡ filter is_group (sections_at (take i ss)) ++ filter is_group (d.now ∷ [])
groups_more ss i d lt is = ap (filter is_group) (sections_more ss i d lt is) ∙ filter-append is_group (sections_at (take i ss)) (d.now ∷ [])

abbrev pub all_of : List Section → List Refusal
all_of ss = flat_map of_space ss

pub all_more : (ss : List Section) (s : Section) → all_of (ss ++ s ∷ []) ≡ all_of ss ++ of_space s
all_more ss s = flat_map-append of_space ss (s ∷ []) ∙ ap (λ rs. all_of ss ++ rs) (append-nil (of_space s))

abbrev Held : Section → Type 0
Held s = CanHold (space_of s).rows (space_of s).columns (space_of s).planes

pub each_right : (gs : List Section) → AllByRecursion Held gs → AllByRecursion RightSizes gs → AllByRecursion RightNames gs → AllByRecursion CanBeRead gs
each_right [] h z n = tt
each_right (g ∷ gs) h z n = (record { held = h.0; sizes = z.0; names = n.0 }, each_right gs h.1 z.1 n.1)

-- ---- cells

-- one group more is too large or not
pub large_step : (ss : List (Bor Section)) (i : ℕ) (d : Bor Section) (total cells : ℕ) (b : Bool) → i < length ss → d ≡ get_or ss i d → cells ≡ cell_count (space_of d.now) → nat_lt 1048576 (total + cells) ≡ b
    → first_large total (sections_at (drop i ss)) ≡ option_or (cond b (Some (refusal d.now.line TooLarge)) None) (first_large (total + cells) (sections_at (drop (i + 1) ss)))
large_step ss i d total cells b lt is e large =
    ap (λ rs. first_large total (sections_at rs)) (drop_more ss i d lt)
    ∙ ap (λ (r : Bor Section). first_large total (r.now ∷ sections_at (drop (i + 1) ss))) (sym is)
    ∙ ap (λ n. option_or (cond (nat_lt 1048576 (total + n)) (Some (refusal d.now.line TooLarge)) None) (first_large (total + n) (sections_at (drop (i + 1) ss)))) (sym e)
    ∙ ap (λ v. option_or (cond v (Some (refusal d.now.line TooLarge)) None) (first_large (total + cells) (sections_at (drop (i + 1) ss)))) large

-- ---- a group of whose space nothing is refused

pub none_least : (xs : List Refusal) → least_refusal xs ≡ None → xs ≡ []
none_least [] e = refl
none_least (x ∷ xs) e = absurd cc

unless : (b : Bool) (r : Refusal) → cond b (r ∷ []) [] ≡ [] → b ≡ false
unless true r e = absurd cc
unless false r e = refl

pub record Passes (s : Section) : Type 0 where
  pub ports : ports_refused s [] (entries_of (codes "portintransition") s) ≡ []
  pub rows : AreRows s s.entries
  pub few : length (offsets_of s) ≤ 128

pub passes : (s : Section) → least_refusal (of_space s) ≡ None → Passes s
passes s h =
    let p = both_empty _ (too_many_offsets s) (none_least (of_space s) h) in
    let q = both_empty _ _ p.0 in
    let r = both_empty _ _ q.0 in
    let t = both_empty _ _ r.0 in
    record {
      ports = (both_empty _ _ t.0).1;
      rows = record { digits = r.1; values = q.1 };
      few = ltb-false 128 _ (unless _ _ p.1);
    }

-- ---- offsets that are gathered

pub all_gathered : (s : Section) (found : List Offset) → least_refusal (of_space s) ≡ None → found ≡ offsets_with_all [] (offsets_in s s.entries) → found ≡ offsets_of s
all_gathered s found h e =
    let few = (passes s h).few in
    e ∙ gathered_are (offsets_in s s.entries) ∙ take_all 129 (offsets_of s) (omega arith)
