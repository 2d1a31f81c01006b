-- Lists whose items are numbered, one item more at a time; and lists by number, of which one gets an item more.
use Rattle.std.proofs.Common.{◌≡◌, ◌≢◌, ◌<◌, ◌+◌, ◌++◌, ◌∷◌, ℕ, Bool, true, false, List, [], map, set, get_or, take, length, refl, sym, ap, ◌∙◌, arith, append_assoc, append-nil, get_or-set_same, get_or-set_other}
use Rattle.std.specs.Prelude.{◌==◌, if◌then◌else◌}
use Rattle.std.specs.List.{enumerate_from, filter, flat_map}
use Rattle.std.proofs.lemmas.List.{length-map, length-take-le, map-set, map_push, take_more, get_or-map}
use Rattle.std.proofs.lemmas.List.Concat.{flat_map-append}
use Rattle.std.proofs.lemmas.List.Elements.{filter-append}
use Rattle.std.proofs.lemmas.Bool.Decides.{nat_tests}
use Rattle.model_leaves.specs.declared.path.Source.{Source}
use Rattle.model_leaves.specs.declared.path.TargetPort.{TargetPort}
use Rattle.model_leaves.specs.Numbered.{same_source}
use Rattle.route_flat.specs.declared.way.Way.{Way}
use Rattle.route_flat.specs.Ways.{way_at, ways_at, is_way_from, target_of, targets_among}

-- ---- numbered items

enumerate-append : {X : Type 0} (n : ℕ) (xs ys : List X) → enumerate_from n (xs ++ ys) ≡ enumerate_from n xs ++ enumerate_from (n + length xs) ys
enumerate-append n [] ys = ap (λ m. enumerate_from m ys) (omega arith)
enumerate-append {X} n (x ∷ xs) ys =
    ap (λ (ps : List (ℕ × X)). (n, x) ∷ ps) (enumerate-append (n + 1) xs ys ∙ ap (λ m. enumerate_from (n + 1) xs ++ enumerate_from m ys) (omega arith))

pub enumerate-more : {X : Type 0} (xs : List X) (i : ℕ) (x d : X) → i < length xs → x ≡ get_or xs i d → enumerate_from 0 (take (i + 1) xs) ≡ enumerate_from 0 (take i xs) ++ (i, x) ∷ []
enumerate-more {X} xs i x d h e =
    let count : 0 + length (take i xs) ≡ i = omega (arith, length-take-le i xs (omega arith)) in
    ap (enumerate_from 0) (take_more xs i d h) ∙ enumerate-append 0 (take i xs) (get_or xs i d ∷ [])
    ∙ ap (λ m. enumerate_from 0 (take i xs) ++ (m, get_or xs i d) ∷ []) count
    ∙ ap (λ (y : X). enumerate_from 0 (take i xs) ++ (i, y) ∷ []) (sym e)

-- one more path to a port
pub way-more : (to : TargetPort) (sources : List Source) (i : ℕ) (s d : Source) (old mid new : List Way) → i < length sources → s ≡ get_or sources i d → mid ≡ old ++ ways_at to (take i sources) → new ≡ mid ++ way_at to (i, s) ∷ [] → new ≡ old ++ ways_at to (take (i + 1) sources)
way-more to sources i s d old mid new h e are is =
    is ∙ ap (λ (ws : List Way). ws ++ way_at to (i, s) ∷ []) are ∙ append_assoc old (ways_at to (take i sources)) (way_at to (i, s) ∷ [])
    ∙ ap (λ (ws : List Way). old ++ ws) (sym (ap (map (way_at to)) (enumerate-more sources i s d h e) ∙ map_push (way_at to) (enumerate_from 0 (take i sources)) (i, s)))

-- the paths to one port or leaf more
pub ways-more : {X : Type 0} (f : ℕ × X → List Way) (xs : List X) (i : ℕ) (x d : X) (old mid new : List Way) → i < length xs → x ≡ get_or xs i d → mid ≡ old ++ flat_map f (enumerate_from 0 (take i xs)) → new ≡ mid ++ f (i, x) → new ≡ old ++ flat_map f (enumerate_from 0 (take (i + 1) xs))
ways-more f xs i x d old mid new h e are is =
    let last : flat_map f ((i, x) ∷ []) ≡ f (i, x) = append-nil (f (i, x)) in
    is ∙ ap (λ (ws : List Way). ws ++ f (i, x)) are ∙ append_assoc old (flat_map f (enumerate_from 0 (take i xs))) (f (i, x))
    ∙ ap (λ (ws : List Way). old ++ ws)
    (sym (ap (flat_map f) (enumerate-more xs i x d h e) ∙ flat_map-append f (enumerate_from 0 (take i xs)) ((i, x) ∷ []) ∙ ap (λ (ws : List Way). flat_map f (enumerate_from 0 (take i xs)) ++ ws) last))

-- one more path, for its source and for the others
pub targets-more : (ws : List Way) (i : ℕ) (w d : Way) (from : Source) → i < length ws → w ≡ get_or ws i d → targets_among (take (i + 1) ws) from ≡ (if same_source from w.path.from then targets_among (take i ws) from ++ target_of (i, w) ∷ [] else targets_among (take i ws) from)
targets-more ws i w d from h e =
    let before = filter (is_way_from from) (enumerate_from 0 (take i ws)) in
    ap (λ (ps : List (ℕ × Way)). map target_of (filter (is_way_from from) ps)) (enumerate-more ws i w d h e)
    ∙ ap (map target_of) (filter-append (is_way_from from) (enumerate_from 0 (take i ws)) ((i, w) ∷ []))
    ∙ cases before (same_source from w.path.from) refl
  where
    cases : (before : List (ℕ × Way)) (b : Bool) → same_source from w.path.from ≡ b → map target_of (before ++ filter (is_way_from from) ((i, w) ∷ [])) ≡ (if same_source from w.path.from then map target_of before ++ target_of (i, w) ∷ [] else map target_of before)
    cases before true f = rw f (map_push target_of before (i, w))
    cases before false f = rw f (ap (map target_of) (append-nil before))

-- ---- lists by number

-- one list gets an item more
pub one-more : {X Y : Type 0} (f : X → List Y) (xs : List X) (i : ℕ) (old new : X) (y : Y) (k : ℕ) → i < length xs → old ≡ get_or xs i old → f new ≡ f old ++ y ∷ [] → get_or (map f (set xs i new)) k [] ≡ (if k == i then get_or (map f xs) k [] ++ y ∷ [] else get_or (map f xs) k [])
one-more f xs i old new y k h e is = ap (λ ls. get_or ls k []) (map-set f xs i new) ∙ cases (k == i) refl
  where
    cases : (b : Bool) → (k == i) ≡ b → get_or (set (map f xs) i (f new)) k [] ≡ (if k == i then get_or (map f xs) k [] ++ y ∷ [] else get_or (map f xs) k [])
    cases true t =
        let same : i ≡ k = grind (arith, nat_tests) in
        let within : i < length (map f xs) = rw (length-map xs f) h in
        rw t (ap (λ j. get_or (set (map f xs) i (f new)) j []) (sym same) ∙ get_or-set_same (map f xs) i (f new) [] within
        ∙ is ∙ ap (λ l. f l ++ y ∷ []) e ∙ ap (λ l. l ++ y ∷ []) (sym (get_or-map f xs i old [] h))
        ∙ ap (λ j. get_or (map f xs) j [] ++ y ∷ []) same)
    cases false t =
        let other : k ≢ i = grind (arith, nat_tests) in
        rw t (get_or-set_other (map f xs) i k (f new) [] other)
