-- Links judged one after another are those that the definition refuses, section by section.
use Rattle.std.proofs.Common.{◌≡◌, ℕ, ◌+◌, ◌<◌, Option, Some, None, List, [], ◌∷◌, ◌++◌, map, length, get_or, take, drop, option_to_list, refl, sym, ap, ◌∙◌, ◌≤◌, Bool, true, false, not, cond, slice_get, arith, codes, subst}
use Rattle.std.proofs.lemmas.List.{take_more, drop_more, drop_all, map-append, map_more, take-append-drop, length-map, length-append}
use Rattle.std.proofs.lemmas.List.Elements.{filter_map-append, filter-append, All-from_recursion}
use Rattle.std.specs.Prelude.{◌&&◌}
use Rattle.std.specs.List.{list_any, filter_map, cons_option, filter, flat_map}
use Rattle.std.specs.Option.{option_map}
use Rattle.ma_lines.specs.declared.section.Entry.{Entry}
use Rattle.ma_lines.specs.Sections.{Section}
use Rattle.model_tree.specs.declared.link.End.{End}
use Rattle.model_tree.specs.declared.link.Link.{Link}
use Rattle.model_text.specs.declared.kind.Kind.{Kind}
use Rattle.model_text.specs.Refusals.{Refusal, refusal}
use Rattle.model_text.specs.Keyed.{least_refusal}
use Rattle.model_text.specs.Links.{face_of, link_of, link_entries, entry_refused, at_line, links_refused_after, of_links, links_of}
use Rattle.model_walk.specs.Least.{earlier_refusal}
use Rattle.model_walk.proofs.Orders.{least_step, merged_none}
use Rattle.model_links.specs.declared.face.Face.{Face}
use Rattle.model_links.specs.declared.section.FoundLink.{FoundLink}
use Rattle.model_links.specs.Lent.{with_link, with_links}
use Rattle.model_links.specs.declared.child.Side.TheVariants.{From, To}
use Rattle.model_links.specs.PortEnds.{all_ends, cells_of}
use Rattle.model_links.specs.Faces.{sources_of, targets_of}
use Rattle.model_links.specs.Judged.{is_source_of, is_target_of, cause_of, kind_after, refusal_after, refused_after, found_at, links_among}
use Rattle.model_links.proofs.Lists.{grown}
use Rattle.model_links.proofs.Faced.{link_among, sources_are, targets_are}
use Rattle.std.proofs.lemmas.List.Sums.{length-filter, count_by-le-length}
use Rattle.std.specs.Int.{from_bool}
use Rattle.std.specs.Str.{bytes_eq}
use Rattle.quantity.specs.Bytes.{Bytes, is_empty}
use Rattle.cell_grid.specs.Space.{Space}
use Rattle.model_text.specs.Walk.{is_group}
use Rattle.model_text.specs.Spaces.{space_of}
use Rattle.model_tree.specs.Faces as F
use Rattle.model_walk.specs.declared.read_section.ReadEntry.{ReadEntry}
use Rattle.model_walk.specs.ReadValues.{IsRead, AreRead}

-- ---- one link

-- a kept face answers as this one
abbrev Answers : Face → F.Face → Type 0
Answers k f = ((e : End) → is_source_of k e ≡ F.is_source f e) × ((e : End) → is_target_of k e ≡ F.is_target f e)

kind_is : (k : Face) (f : F.Face) (before : List Link) (o : Option Link) → Answers k f → kind_after k before o ≡ entry_refused f before o
kind_is k f before None h = refl
kind_is k f before (Some l) h =
    ap (λ b. cause_of (b && is_target_of k l.to) (list_any (F.same_link l) before) l) (h.0 l.from)
    ∙ ap (λ b. cause_of (F.is_source f l.from && b) (list_any (F.same_link l) before) l) (h.1 l.to)

-- ---- all links of a section

at_is : (e : Entry) (o : Option Kind) → option_to_list (option_map (refusal e.line) o) ≡ at_line e o
at_is e None = refl
at_is e (Some kind) = refl

one_option : {A : Type 0} (o : Option A) → cons_option o [] ≡ option_to_list o
one_option None = refl
one_option (Some x) = refl

refused_is : (k : Face) (f : F.Face) (s : Section) (before : List Link) (es : List Entry) → Answers k f → refused_after k before (map (found_at s) es) ≡ links_refused_after f s before es
refused_is k f s before [] h = refl
refused_is k f s before (e ∷ es) h =
    ap (λ rs. option_to_list (option_map (refusal e.line) (kind_after k before (link_of s e))) ++ rs) (refused_is k f s (before ++ option_to_list (link_of s e)) es h)
    ∙ ap (λ o. option_to_list (option_map (refusal e.line) o) ++ links_refused_after f s (before ++ option_to_list (link_of s e)) es) (kind_is k f before (link_of s e) h)
    ∙ ap (λ rs. rs ++ links_refused_after f s (before ++ option_to_list (link_of s e)) es) (at_is e (entry_refused f before (link_of s e)))
    ∙ ap (λ ls. at_line e (entry_refused f before (link_of s e)) ++ links_refused_after f s (before ++ ls) es) (sym (one_option (link_of s e)))

pub section_refused : (k : Face) (ss : List Section) (s : Section) (found : List FoundLink)
    → sources_of k ≡ all_ends From ss s → targets_of k ≡ all_ends To ss s → k.cells ≡ cells_of s → found ≡ map (found_at s) (link_entries s)
    → least_refusal (refused_after k [] found) ≡ least_refusal (of_links ss s)
section_refused k ss s found sources targets cells e =
    ap (λ xs. least_refusal (refused_after k [] xs)) e
    ∙ ap least_refusal (refused_is k (face_of ss s) s [] (link_entries s) (sources_are k ss s sources cells, targets_are k ss s targets cells))

filter_map-map : {A B C : Type 0} (f : B → Option C) (g : A → B) (xs : List A) → filter_map f (map g xs) ≡ filter_map (λ x. f (g x)) xs
filter_map-map f g [] = refl
filter_map-map f g (x ∷ xs) = ap (cons_option (f (g x))) (filter_map-map f g xs)

pub section_links : (s : Section) (found : List FoundLink) → found ≡ map (found_at s) (link_entries s) → filter_map (λ (x : FoundLink). x.link) found ≡ links_of s
section_links s found e = ap (filter_map (λ (x : FoundLink). x.link)) e ∙ filter_map-map (λ (x : FoundLink). x.link) (found_at s) (link_entries s)

-- ---- one more link

abbrev pub links_in : List FoundLink → List Link
links_in xs = filter_map (λ (x : FoundLink). x.link) xs

links_more : (xs : List FoundLink) (i : ℕ) (d : FoundLink) → i < length xs → links_in (take (i + 1) xs) ≡ links_in (take i xs) ++ option_to_list (get_or xs i d).link
links_more xs i d lt =
    ap links_in (take_more xs i d lt) ∙ filter_map-append (λ (x : FoundLink). x.link) (take i xs) (get_or xs i d ∷ [])
    ∙ ap (λ ls. links_in (take i xs) ++ ls) (one_option ((get_or xs i d).link))

pub seen_step : (xs : List FoundLink) (i : ℕ) (d : FoundLink) (seen now : List Link) → i < length xs → now ≡ with_links seen (option_to_list (get_or xs i d).link) → seen ≡ with_links [] (links_in (take i xs))
    → now ≡ with_links [] (links_in (take (i + 1) xs))
seen_step xs i d seen now lt e h =
    grown with_link links_in (filter_map-append (λ (x : FoundLink). x.link)) xs i d lt [] seen now (e ∙ ap (with_links seen) (sym (one_option ((get_or xs i d).link)))) h

kind_seen : (k : Face) (before : List Link) (o : Option Link) → kind_after k (with_links [] before) o ≡ kind_after k before o
kind_seen k before None = refl
kind_seen k before (Some l) = ap (λ b. cause_of (is_source_of k l.from && is_target_of k l.to) b l) (link_among l before)

least_one : (o : Option Refusal) → o ≡ least_refusal (option_to_list o)
least_one None = refl
least_one (Some r) = refl

pub judged_step : (k : Face) (xs : List FoundLink) (i : ℕ) (d : FoundLink) (seen : List Link) (first now all : Option Refusal) → i < length xs → now ≡ refusal_after k seen (get_or xs i d) → seen ≡ with_links [] (links_in (take i xs))
    → earlier_refusal first (least_refusal (refused_after k (links_in (take i xs)) (drop i xs))) ≡ all → earlier_refusal (earlier_refusal first now) (least_refusal (refused_after k (links_in (take (i + 1) xs)) (drop (i + 1) xs))) ≡ all
judged_step k xs i d seen first now all lt e same h =
    let x = get_or xs i d in
    let before = links_in (take i xs) in
    let here = option_to_list (refusal_after k before x) in
    let rest = refused_after k (before ++ option_to_list x.link) (drop (i + 1) xs) in
    let is_now : now ≡ least_refusal here =
    e ∙ ap (λ ls. refusal_after k ls x) same ∙ ap (option_map (refusal x.line)) (kind_seen k before x.link) ∙ least_one (refusal_after k before x) in
    ap (λ ls. earlier_refusal (earlier_refusal first now) (least_refusal (refused_after k ls (drop (i + 1) xs)))) (links_more xs i d lt)
    ∙ least_step first now here rest all is_now (ap (λ ys. earlier_refusal first (least_refusal (refused_after k before ys))) (sym (drop_more xs i d lt)) ∙ h)

pub judged_end : (f : Face) (seen : List Link) (xs : List FoundLink) (i : ℕ) (first all : Option Refusal) → length xs ≤ i → earlier_refusal first (least_refusal (refused_after f seen (drop i xs))) ≡ all → first ≡ all
judged_end f seen xs i first all past h = sym (merged_none first) ∙ ap (λ (ys : List FoundLink). earlier_refusal first (least_refusal (refused_after f seen ys))) (sym (drop_all i xs past)) ∙ h

-- ---- entries

links-both : (xs ys : List Entry) → links_among (xs ++ ys) ≡ links_among xs ++ links_among ys
links-both xs ys =
    ap (filter (λ (e : Entry). not (is_empty e.value))) (filter-append (λ (e : Entry). bytes_eq e.key (codes "link")) xs ys)
    ∙ filter-append (λ (e : Entry). not (is_empty e.value)) (filter (λ (e : Entry). bytes_eq e.key (codes "link")) xs) (filter (λ (e : Entry). bytes_eq e.key (codes "link")) ys)

-- entries that were read
abbrev pub entries_in : List ReadEntry → List Entry
entries_in rs = map (λ (r : ReadEntry). r.entry.now) rs

pub entries_step : (s : Section) (rs : List ReadEntry) (i : ℕ) (d : ReadEntry) (old new : List FoundLink) → i < length rs → new ≡ old ++ map (found_at s) (links_among ((get_or rs i d).entry.now ∷ []))
    → old ≡ map (found_at s) (links_among (entries_in (take i rs))) → new ≡ map (found_at s) (links_among (entries_in (take (i + 1) rs)))
entries_step s rs i d old new lt e h =
    let here = (get_or rs i d).entry.now ∷ [] in
    e ∙ ap (λ xs. xs ++ map (found_at s) (links_among here)) h
    ∙ sym (ap (λ xs. map (found_at s) (links_among xs)) (map_more (λ (r : ReadEntry). r.entry.now) rs i d lt) ∙ ap (map (found_at s)) (links-both (entries_in (take i rs)) here)
    ∙ map-append (found_at s) (links_among (entries_in (take i rs))) (links_among here))

-- one of the entries that were read
pub read_at : (name : Bytes) (es : List Entry) (rs : List ReadEntry) (i : ℕ) (d : ReadEntry) → AreRead name es rs → i < length rs → d ≡ get_or rs i d → IsRead name d
read_at name es rs i d h lt is = subst (IsRead name) (sym is) (All-from_recursion (IsRead name) rs h.values i d lt)

-- ---- sections

abbrev pub all_refused : List Section → List Section → List Refusal
all_refused ss rs = flat_map (of_links ss) rs

pub section_step : (ss rs : List Section) (i : ℕ) (d : Section) (first now all : Option Refusal) → i < length rs → now ≡ least_refusal (of_links ss (get_or rs i d))
    → earlier_refusal first (least_refusal (all_refused ss (drop i rs))) ≡ all → earlier_refusal (earlier_refusal first now) (least_refusal (all_refused ss (drop (i + 1) rs))) ≡ all
section_step ss rs i d first now all lt e h =
    least_step first now (of_links ss (get_or rs i d)) (all_refused ss (drop (i + 1) rs)) all e
    (ap (λ rest. earlier_refusal first (least_refusal (all_refused ss rest))) (sym (drop_more rs i d lt)) ∙ h)

-- how many groups there are
abbrev pub groups_in : List Section → ℕ
groups_in rs = length (filter is_group rs)

-- they are no more than the sections
pub groups_few : (rs : List Section) → groups_in rs ≤ length rs
groups_few rs = omega (arith, length-filter is_group rs, count_by-le-length is_group rs)

pub groups_more : (rs : List Section) (i : ℕ) (d : Section) → i < length rs → groups_in (take (i + 1) rs) ≡ groups_in (take i rs) + from_bool (is_group (get_or rs i d))
groups_more rs i d lt =
    let x = get_or rs i d in
    ap (λ ys. length (filter is_group ys)) (take_more rs i d lt)
    ∙ ap length (filter-append is_group (take i rs) (x ∷ [])) ∙ length-append (filter is_group (take i rs)) (filter is_group (x ∷ [])) ∙ ap (λ n. groups_in (take i rs) + n) (by (is_group x))
  where
    by : (b : Bool) → length (cond b (get_or rs i d ∷ []) []) ≡ from_bool b
    by true = refl
    by false = refl

at_front : {A : Type 0} (xs : List A) (x : A) (ys : List A) → slice_get (xs ++ x ∷ ys) (length xs) ≡ Some x
at_front [] x ys = refl
at_front (y ∷ xs) x ys = at_front xs x ys

pub group_at : (rs : List Section) (i : ℕ) (d : Section) (spaces : List Space) → i < length rs → spaces ≡ map space_of (filter is_group rs) → is_group (get_or rs i d) ≡ true
    → slice_get spaces (groups_in (take i rs)) ≡ Some (space_of (get_or rs i d))
group_at rs i d spaces lt e h =
    let x = get_or rs i d in
    let front = filter is_group (take i rs) in
    let rest = filter is_group (drop (i + 1) rs) in
    let cut : filter is_group rs ≡ front ++ x ∷ rest =
    ap (filter is_group) (sym (take-append-drop i rs) ∙ ap (λ ys. take i rs ++ ys) (drop_more rs i d lt))
    ∙ filter-append is_group (take i rs) (x ∷ drop (i + 1) rs)
    ∙ ap (λ b. front ++ cond b (x ∷ rest) rest) h in
    let spaces_are : spaces ≡ map space_of front ++ space_of x ∷ map space_of rest = e ∙ ap (map space_of) cut ∙ map-append space_of front (x ∷ rest) in
    ap (λ ys. slice_get ys (length front)) spaces_are ∙ ap (slice_get (map space_of front ++ space_of x ∷ map space_of rest)) (sym (length-map front space_of)) ∙ at_front (map space_of front) (space_of x) (map space_of rest)

-- the links of one more section
pub links_step : (rs : List Section) (i : ℕ) (d : Section) (old new : List (List Link)) → i < length rs → new ≡ old ++ links_of (get_or rs i d) ∷ []
    → old ≡ map links_of (take i rs) → new ≡ map links_of (take (i + 1) rs)
links_step rs i d old new lt e h =
    e ∙ ap (λ xs. xs ++ links_of (get_or rs i d) ∷ []) h
    ∙ sym (map_more links_of rs i d lt)

pub sections_end : (ss rs : List Section) (i : ℕ) (first all : Option Refusal) → length rs ≤ i → earlier_refusal first (least_refusal (all_refused ss (drop i rs))) ≡ all → first ≡ all
sections_end ss rs i first all past h = sym (merged_none first) ∙ ap (λ (us : List Section). earlier_refusal first (least_refusal (all_refused ss us))) (sym (drop_all i rs past)) ∙ h
