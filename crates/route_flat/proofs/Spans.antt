-- Lists that stand one behind another, and their spans.
use Rattle.std.proofs.Common.{◌≡◌, ◌<◌, ◌≤◌, ◌+◌, ◌++◌, ℕ, Bool, true, false, Some, List, [], ◌∷◌, map, take, drop, length, get_or, refl, sym, ap, ◌∙◌, arith, append_assoc, append-nil}
use Rattle.std.specs.Prelude.{nat_le}
use Rattle.std.specs.List.{flat_map}
use Rattle.std.proofs.lemmas.List.{length-append, length-map, take_at, drop_at, take_more, map_push, map_more, take-map, drop-map}
use Rattle.std.proofs.lemmas.List.Concat.{flat_map-append}
use Rattle.std.proofs.lemmas.Bool.Decides.{nat_tests}
use Rattle.model_leaves.specs.declared.path.Source.{Source}
use Rattle.port_net.specs.declared.net.Node.{Node}
use Rattle.port_net.specs.declared.net.Net.{Net}
use Rattle.port_net.specs.declared.span.Span.{Span}
use Rattle.port_net.specs.Nodes.{sources_at, part_in_span}
use Rattle.route_flat.specs.Nets.{AreWithin, flat_of_spans, flat_of_net}
use Rattle.route_flat.specs.Lists.{span_at, IsList, AreLists}

-- ---- one list more

fits : (xs ys zs : List Source) → nat_le (length xs + length ys) (length ((xs ++ ys) ++ zs)) ≡ true
fits xs ys zs = rw (length-append (xs ++ ys) zs, length-append xs ys) (grind (arith, nat_tests))

stands-here : (xs ys zs : List Source) → take (length ys) (drop (length xs) ((xs ++ ys) ++ zs)) ≡ ys
stands-here xs ys zs = rw (append_assoc xs ys zs, drop_at xs (ys ++ zs) (length xs) refl) (take_at ys zs (length ys) refl)

span-here : (xs ys zs : List Source) (s : Span) → s.first ≡ length xs → s.count ≡ length ys → span_at ((xs ++ ys) ++ zs) s ≡ Some ys
span-here xs ys zs s e f = rw (e, f, fits xs ys zs, stands-here xs ys zs) refl

pub lists-more : (ns : List Node) (ports : List ℕ) (i : ℕ) (old mid new : List Source) (spans spans' : List Span) (s : Span) → i < length ports → AreLists ns (take i ports) old mid spans → IsList ns (get_or ports i 0) mid new s → spans' ≡ spans ++ s ∷ [] → AreLists ns (take (i + 1) ports) old new spans'
lists-more ns ports i old mid new spans spans' s h are is e =
    let F = sources_at ns in
    let last : flat_map F (get_or ports i 0 ∷ []) ≡ F (get_or ports i 0) = append-nil (F (get_or ports i 0)) in
    record {
      grown =
          is.grown ∙ ap (λ (xs : List Source). xs ++ F (get_or ports i 0)) are.grown
          ∙ append_assoc old (flat_map F (take i ports)) (F (get_or ports i 0))
          ∙ ap (λ (xs : List Source). old ++ xs)
          (sym (ap (flat_map F) (take_more ports i 0 h) ∙ flat_map-append F (take i ports) (get_or ports i 0 ∷ []) ∙ ap (λ (xs : List Source). flat_map F (take i ports) ++ xs) last));
      shown = λ more.
          let there : new ++ more ≡ mid ++ (F (get_or ports i 0) ++ more) = ap (λ (xs : List Source). xs ++ more) is.grown ∙ append_assoc mid (F (get_or ports i 0)) more in
          let behind : span_at (new ++ more) s ≡ Some (F (get_or ports i 0)) =
          ap (λ (xs : List Source). span_at (xs ++ more) s) is.grown ∙ span-here mid (F (get_or ports i 0)) more s is.first is.count in
          ap (map (span_at (new ++ more))) e ∙ map_push (span_at (new ++ more)) spans s
          ∙ rw behind (ap (λ xs. map (span_at xs) spans ++ Some (F (get_or ports i 0)) ∷ []) there
          ∙ ap (λ xs. xs ++ Some (F (get_or ports i 0)) ∷ []) (are.shown (F (get_or ports i 0) ++ more)))
          ∙ sym (map_more (λ k. Some (F k)) ports i 0 h);
    }

-- ---- spans that show lists lie within, and are these lists

one-part : (xs l : List Source) (s : Span) → span_at xs s ≡ Some l → (s.first + s.count ≤ length xs) × (part_in_span xs s ≡ l)
one-part xs l s e = cases (nat_le (s.first + s.count) (length xs)) refl
  where
    cases : (b : Bool) → nat_le (s.first + s.count) (length xs) ≡ b → (s.first + s.count ≤ length xs) × (part_in_span xs s ≡ l)
    cases true f =
        let h = rw f at e in
        (grind (arith, nat_tests), cc)
    cases false f = absurd (let h = rw f at e in cc)

pub parts-are : (F : ℕ → List Source) (xs : List Source) (spans : List Span) (ks : List ℕ) → map (span_at xs) spans ≡ map (λ k. Some (F k)) ks → AreWithin xs spans × (map (part_in_span xs) spans ≡ map F ks)
parts-are F xs [] [] e = (tt, refl)
parts-are F xs [] (k ∷ ks) e = absurd (cc)
parts-are F xs (s ∷ spans) [] e = absurd (cc)
parts-are F xs (s ∷ spans) (k ∷ ks) e =
    let first : span_at xs s ≡ Some (F k) = cc in
    let rest : map (span_at xs) spans ≡ map (λ k. Some (F k)) ks = cc in
    let one = one-part xs (F k) s first in
    let more = parts-are F xs spans ks rest in
    ((one.0, more.0), cc (one.1, more.1))

-- ---- what is seen

parts-map : {A B : Type 0} (f : A → B) (xs : List A) (spans : List Span) → map (λ s. map f (part_in_span xs s)) spans ≡ map (part_in_span (map f xs)) spans
parts-map f xs [] = refl
parts-map f xs (s ∷ spans) =
    let one : map f (part_in_span xs s) ≡ part_in_span (map f xs) s = sym (ap (take s.count) (drop-map f s.first xs) ∙ take-map f s.count (drop s.first xs)) in
    let rest = parts-map f xs spans in
    cc (one, rest)

pub flat-same : (n : Net) (ports outputs : List Span) (paths : List Source) → map (part_in_span paths) ports ≡ map (sources_at n.nodes.items) n.ports.items → map (part_in_span paths) outputs ≡ map (sources_at n.nodes.items) n.outputs.items → flat_of_spans n.leaves.items ports outputs paths ≡ flat_of_net n
flat-same n ports outputs paths e f =
    let all : (flat_of_spans n.leaves.items ports outputs paths).ports ≡ (flat_of_net n).ports =
    parts-map (part_in_span paths) ports n.leaves.items ∙ ap (λ xs. map (part_in_span xs) n.leaves.items) e ∙ sym (parts-map (sources_at n.nodes.items) n.ports.items n.leaves.items) in
    rw (all, f) refl

pub within-same : {A B : Type 0} (xs : List A) (ys : List B) (spans : List Span) → length xs ≡ length ys → AreWithin xs spans → AreWithin ys spans
within-same xs ys [] e h = tt
within-same xs ys (s ∷ spans) e h = (omega (arith, h.0, e), within-same xs ys spans e h.1)

pub same-count : {A B C : Type 0} (f : A → C) (g : B → C) (xs : List A) (ys : List B) → map f xs ≡ map g ys → length xs ≡ length ys
same-count f g xs ys e = sym (length-map xs f) ∙ ap length e ∙ length-map ys g

-- ---- the lists of the ports, and of the outputs behind them

pub of-lists : (ns ms : List Node) (ps qs : List ℕ) (old new : List Source) (spans : List Span) → ns ≡ ms → ps ≡ qs → AreLists ns ps old new spans → AreLists ms qs old new spans
of-lists ns ms ps qs old new spans e f are = rw (← e, ← f) are

pub first-parts : (ns : List Node) (ps os : List ℕ) (p0 p1 p2 : List Source) (ss ts : List Span) → AreLists ns ps p0 p1 ss → AreLists ns os p1 p2 ts → AreWithin p2 ss × (map (part_in_span p2) ss ≡ map (sources_at ns) ps)
first-parts ns ps os p0 p1 p2 ss ts a b = parts-are (sources_at ns) p2 ss ps (ap (λ xs. map (span_at xs) ss) b.grown ∙ a.shown (flat_map (sources_at ns) os))

pub last-parts : (ns : List Node) (os : List ℕ) (p1 p2 : List Source) (ts : List Span) → AreLists ns os p1 p2 ts → AreWithin p2 ts × (map (part_in_span p2) ts ≡ map (sources_at ns) os)
last-parts ns os p1 p2 ts b = parts-are (sources_at ns) p2 ts os (ap (λ xs. map (span_at xs) ts) (sym (append-nil p2)) ∙ b.shown [])
