-- The rows of ports are those of the links that lead there.
use Rattle.std.proofs.Common.{◌≡◌, ◌+◌, ◌<◌, ◌++◌, ℕ, suc, Bool, true, false, Option, Some, None, List, [], ◌∷◌, map, take, get_or, length, refl, sym, ap, ◌∙◌, arith}
use Rattle.std.specs.Prelude.{slice_get, if◌then◌else◌}
use Rattle.std.specs.List.{filter, filter_map, cons_option, range_with_len}
use Rattle.std.specs.Option.{option_map}
use Rattle.std.proofs.lemmas.List.{take_more}
use Rattle.std.proofs.lemmas.Option.{slice_get-map}
use Rattle.model_tree.specs.declared.link.End.{End}
use Rattle.model_tree.specs.declared.link.End.TheVariants as owned
use Rattle.model_tree.specs.declared.link.Link.{Link}
use Rattle.model_tree.specs.Pull.{is_own}
use Rattle.port_net.specs.declared.arrivals.Arrivals.{Arrivals}
use Rattle.port_net.specs.Shown.{items_of_links}
use Rattle.port_net.specs.Arriving.{nodes_to, IsTestFor, Arrive}
use Rattle.port_net.proofs.Arrived.{test-own}
use Rattle.served_tree.specs.Rows.{Ref, refs_into}
use Rattle.tree_tables.specs.declared.entry.Ref as code
use Rattle.tree_tables.specs.declared.incoming.Links.{Links}
use Rattle.tree_tables.specs.Stations.{ref_of}
use Rattle.tree_tables.specs.Incoming.{begin_seen, one_of, begins_at, AreLinks}

-- one link, and the links behind it
picked-by : (begins : List (Option code.Ref)) (from : End → Option Ref) (l : Link) (m : ℕ) (b : Bool)
    (ks : List ℕ) (ls : List Link) → begin_seen (slice_get begins m) ≡ from l.from
    → begins_at begins ks ≡ filter_map (λ (k : Link). from k.from) ls
    → begins_at begins (if b then m ∷ ks else ks)
    ≡ filter_map (λ (k : Link). from k.from) (if b then l ∷ ls else ls)
picked-by begins from l m true ks ls first rest = λ i. cons_option (first i) (rest i)
picked-by begins from l m false ks ls first rest = rest

begins-picked : (begins : List (Option code.Ref)) (from : End → Option Ref) (into : End → Bool)
    (links : List Link) (m : ℕ)
    → ((j : ℕ) (l : Link) → slice_get links j ≡ Some l
    → begin_seen (slice_get begins (m + j)) ≡ from l.from)
    → begins_at begins (items_of_links into links (range_with_len m (length links))) ≡ refs_into from links into
begins-picked begins from into [] m h = refl
begins-picked begins from into (l ∷ ls) m h =
    picked-by begins from l m (into l.to) (items_of_links into ls (range_with_len (m + 1) (length ls))) (filter (λ (k : Link). into k.to) ls)
    (ap (λ n. begin_seen (slice_get begins n)) (let f : m ≡ m + 0 = omega arith in f) ∙ h 0 l refl)
    (begins-picked begins from into ls (m + 1) (λ j k e.
    ap (λ n. begin_seen (slice_get begins n)) (let f : (m + 1) + j ≡ m + suc j = omega arith in f)
    ∙ h (suc j) k e))

seen : (o : Option (Option code.Ref)) (x : Option Ref)
    → ◌≡◌ {A = Option (Option Ref)} (option_map (option_map ref_of) o) (Some x) → begin_seen o ≡ x
seen None x e = absurd cc
seen (Some b) x e = cc

begun-at : (begins : List (Option code.Ref)) (from : End → Option Ref) (links : List Link)
    → map (option_map ref_of) begins ≡ map (λ (l : Link). from l.from) links
    → (j : ℕ) (l : Link) → slice_get links j ≡ Some l
    → begin_seen (slice_get begins (0 + j)) ≡ from l.from
begun-at begins from links same j l e =
    ap (λ n. begin_seen (slice_get begins n)) (let f : 0 + j ≡ j = omega arith in f)
    ∙ seen (slice_get begins j) (from l.from)
    (sym (slice_get-map (option_map ref_of) begins j)
    ∙ ap (λ (xs : List (Option Ref)). slice_get xs j) same
    ∙ slice_get-map (λ (k : Link). from k.from) links j
    ∙ ap (option_map (λ (k : Link). from k.from)) e)

rows-at : (begins : List (Option code.Ref)) (arrivals : Arrivals) (from : End → Option Ref)
    (links : List Link) (all : List ℕ)
    → map (option_map ref_of) begins ≡ map (λ (l : Link). from l.from) links
    → all ≡ range_with_len 0 (length links) → Arrive links all arrivals
    → (into : End → Bool) (x : End) → IsTestFor into x
    → begins_at begins (nodes_to arrivals into) ≡ refs_into from links into
rows-at begins arrivals from links all same numbers arrive into x test =
    ap (begins_at begins) (arrive into x test ∙ ap (items_of_links into links) numbers)
    ∙ begins-picked begins from into links 0 (begun-at begins from links same)

pub links-are : (ls : Links) (out inside : End → Option Ref) (links : List Link) (all : List ℕ)
    → map (option_map ref_of) ls.outward.items ≡ map (λ (l : Link). out l.from) links
    → map (option_map ref_of) ls.inward.items ≡ map (λ (l : Link). inside l.from) links
    → all ≡ range_with_len 0 (length links) → Arrive links all ls.arrivals
    → AreLinks ls out inside links
links-are ls out inside links all outs ins numbers arrive =
    record {
      outward = λ port. rows-at ls.outward.items ls.arrivals out links all outs numbers arrive (is_own port) (owned.Own port) (test-own port);
      inward = λ into x test. rows-at ls.inward.items ls.arrivals inside links all ins numbers arrive into x test;
    }

-- ---- one link more

filter-behind : (f : ℕ → Option Ref) (xs : List ℕ) (x : ℕ)
    → filter_map f (xs ++ x ∷ []) ≡ filter_map f xs ++ one_of (f x)
filter-behind f [] x = alone (f x)
  where
    alone : (o : Option Ref) → cons_option o [] ≡ one_of o
    alone None = refl
    alone (Some r) = refl
filter-behind f (y ∷ ys) x = by (f y) (filter-behind f ys x)
  where
    by : (o : Option Ref) → filter_map f (ys ++ x ∷ []) ≡ filter_map f ys ++ one_of (f x)
        → cons_option o (filter_map f (ys ++ x ∷ []))
        ≡ cons_option o (filter_map f ys) ++ one_of (f x)
    by None h = h
    by (Some r) h = ap (λ rs. r ∷ rs) h

pub begins-more : (begins : List (Option code.Ref)) (ks : List ℕ) (i k d : ℕ) → i < length ks
    → k ≡ get_or ks i d
    → begins_at begins (take (i + 1) ks)
    ≡ begins_at begins (take i ks) ++ one_of (begin_seen (slice_get begins k))
begins-more begins ks i k d within is =
    ap (begins_at begins) (take_more ks i d within ∙ ap (λ x. take i ks ++ x ∷ []) (sym is))
    ∙ filter-behind (λ x. begin_seen (slice_get begins x)) (take i ks) k
