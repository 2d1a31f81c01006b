-- Where paths lead: to ports that there are, by rising leaf.
use Rattle.std.proofs.Common.{◌≡◌, ◌≤◌, ◌<◌, ◌+◌, ◌++◌, ◌∷◌, ℕ, zero, suc, List, [], map, length, get_or, refl, sym, ap, ◌∙◌, arith, subst, append-nil, append_assoc}
use Rattle.std.specs.Prelude.{⊤}
use Rattle.std.specs.List.{All, enumerate_from, flat_map}
use Rattle.std.specs.List.Sorted.{IsNonDecreasingBy}
use Rattle.std.proofs.lemmas.List.{map-append}
use Rattle.std.proofs.lemmas.List.Elements.{filter_map-append, All-nil, All-cons, All-append}
use Rattle.atomic_face.specs.declared.class.PortNo.{PortNo}
use Rattle.model_leaves.specs.declared.path.Source.{Source}
use Rattle.model_leaves.specs.declared.path.Path.{Path}
use Rattle.model_leaves.specs.declared.path.TargetPort.{TargetPort}
use Rattle.model_leaves.specs.declared.path.TargetPort.TheVariants as target
use Rattle.model_leaves.specs.Numbered.{IsPortOf, leaf_in, target_leaves}
use Rattle.route_flat.specs.declared.way.Way.{Way}
use Rattle.route_flat.specs.Nets.{Flat}
use Rattle.route_flat.specs.Ways.{path_in, way_at, ways_to_port, ways_to_leaf, ways_to_top, ways_of, paths_of}
use Rattle.route_flat.specs.Ports.{port_count}

-- ---- ports that there are

module _ (n : ℕ) (ports : ℕ → ℕ) where
  abbrev Lead : List Way → Type 0
  Lead ws = All (λ (p : Path). IsPortOf n ports p.to) (map path_in ws)

  lead-append : (vs ws : List Way) → Lead vs → Lead ws → Lead (vs ++ ws)
  lead-append vs ws g h = rw (map-append path_in vs ws) (All-append (λ (p : Path). IsPortOf n ports p.to) (map path_in vs) (map path_in ws) g h)

  at-port : (to : TargetPort) → IsPortOf n ports to → (sources : List Source) (m : ℕ) → Lead (map (way_at to) (enumerate_from m sources))
  at-port to is [] m = All-nil (λ (p : Path). IsPortOf n ports p.to)
  at-port to is (s ∷ sources) m =
      All-cons (λ (p : Path). IsPortOf n ports p.to) (record { from = s; to = to }) (map path_in (map (way_at to) (enumerate_from (m + 1) sources))) is (at-port to is sources (m + 1))

  at-leaf : (l : ℕ) → l < n → (ps : List (List Source)) (m : ℕ) → m + length ps ≤ ports l → Lead (flat_map (ways_to_port l) (enumerate_from m ps))
  at-leaf l h [] m few = All-nil (λ (p : Path). IsPortOf n ports p.to)
  at-leaf l h (p ∷ ps) m few =
      lead-append (ways_to_port l (m, p)) (flat_map (ways_to_port l) (enumerate_from (m + 1) ps))
      (at-port (target.Leaf l (record { 0 = m })) (h, omega (arith, few)) p 0) (at-leaf l h ps (m + 1) (omega (arith, few)))

  at-leaves : (all : List (List (List Source))) (m : ℕ) → m + length all ≤ n → ((k : ℕ) → k < length all → length (get_or all k []) ≤ ports (m + k)) → Lead (flat_map ways_to_leaf (enumerate_from m all))
  at-leaves [] m few h = All-nil (λ (p : Path). IsPortOf n ports p.to)
  at-leaves (ps ∷ all) m few h =
      let first : m + 0 ≡ m = omega arith in
      let here : length ps ≤ ports m = subst (λ (j : ℕ). length ps ≤ ports j) first (h 0 (omega arith)) in
      lead-append (ways_to_leaf (m, ps)) (flat_map ways_to_leaf (enumerate_from (m + 1) all))
      (at-leaf m (omega (arith, few)) ps 0 (omega (arith, here)))
      (at-leaves all (m + 1) (omega (arith, few))
      (λ k lt. subst (λ (j : ℕ). length (get_or all k []) ≤ ports j) (let e : m + suc k ≡ m + 1 + k = omega arith in e) (h (suc k) (omega (arith, lt)))))

  at-tops : (tops : List (List Source)) (m : ℕ) → Lead (flat_map ways_to_top (enumerate_from m tops))
  at-tops [] m = All-nil (λ (p : Path). IsPortOf n ports p.to)
  at-tops (p ∷ tops) m =
      lead-append (ways_to_top (m, p)) (flat_map ways_to_top (enumerate_from (m + 1) tops)) (at-port (target.TopOut m) tt p 0) (at-tops tops (m + 1))

pub all-lead : (r : Flat) → All (λ (p : Path). IsPortOf (length r.ports) (port_count r) p.to) (paths_of r)
all-lead r =
    lead-append (length r.ports) (port_count r) (flat_map ways_to_leaf (enumerate_from 0 r.ports)) (flat_map ways_to_top (enumerate_from 0 r.tops))
    (at-leaves (length r.ports) (port_count r) r.ports 0 (omega arith)
    (λ k lt. let e : k ≡ 0 + k = omega arith in subst (λ (j : ℕ). length (get_or r.ports k []) ≤ port_count r j) e (omega arith)))
    (at-tops (length r.ports) (port_count r) r.tops 0)

-- ---- by rising leaf

-- each number is at least the one before, and the first is at least this
abbrev Rises : ℕ → List ℕ → Type 0
Rises k [] = ⊤
Rises k (z ∷ zs) = (k ≤ z) × Rises z zs

weaker : (j k : ℕ) (zs : List ℕ) → j ≤ k → Rises k zs → Rises j zs
weaker j k [] le h = tt
weaker j k (z ∷ zs) le h = let low = h.0 in (omega (arith, le, low), h.1)

low : (k : ℕ) (zs : List ℕ) → Rises k zs → (j : ℕ) (d : ℕ) → j < length zs → k ≤ get_or zs j d
low k [] h j d lt = absurd (omega (arith, lt))
low k (z ∷ zs) h zero d lt = h.0
low k (z ∷ zs) h (suc j) d lt = let first = h.0 in let later = low z zs h.1 j d (omega (arith, lt)) in omega (arith, first, later)

rising : (k : ℕ) (zs : List ℕ) → Rises k zs → IsNonDecreasingBy (λ (z : ℕ). z) zs
rising k [] h i j d le lt = absurd (omega (arith, lt))
rising k (z ∷ zs) h zero zero d le lt = omega arith
rising k (z ∷ zs) h zero (suc j) d le lt = low z zs h.1 j d (omega (arith, lt))
rising k (z ∷ zs) h (suc i) zero d le lt = absurd (omega (arith, le))
rising k (z ∷ zs) h (suc i) (suc j) d le lt = rising z zs h.1 i j d (omega (arith, le)) (omega (arith, lt))

abbrev led_to : List Way → List ℕ
led_to ws = target_leaves (map path_in ws)

led-append : (vs ws : List Way) → led_to (vs ++ ws) ≡ led_to vs ++ led_to ws
led-append vs ws = ap target_leaves (map-append path_in vs ws) ∙ filter_map-append (λ (p : Path). leaf_in p.to) (map path_in vs) (map path_in ws)

port-rises : (l : ℕ) (port : PortNo) (sources : List Source) (n : ℕ) (rest : List ℕ) → Rises l rest → Rises l (led_to (map (way_at (target.Leaf l port)) (enumerate_from n sources)) ++ rest)
port-rises l port [] n rest h = h
port-rises l port (s ∷ sources) n rest h = (omega arith, port-rises l port sources (n + 1) rest h)

leaf-rises : (l : ℕ) (ports : List (List Source)) (n : ℕ) (rest : List ℕ) → Rises l rest → Rises l (led_to (flat_map (ways_to_port l) (enumerate_from n ports)) ++ rest)
leaf-rises l [] n rest h = h
leaf-rises l (p ∷ ports) n rest h =
    let more = flat_map (ways_to_port l) (enumerate_from (n + 1) ports) in
    let same : led_to (ways_to_port l (n, p)) ++ (led_to more ++ rest) ≡ led_to (ways_to_port l (n, p) ++ more) ++ rest =
    sym (append_assoc (led_to (ways_to_port l (n, p))) (led_to more) rest) ∙ ap (λ (ls : List ℕ). ls ++ rest) (sym (led-append (ways_to_port l (n, p)) more)) in
    subst (Rises l) same (port-rises l (record { 0 = n }) p 0 (led_to more ++ rest) (leaf-rises l ports (n + 1) rest h))

leaves-rise : (all : List (List (List Source))) (n m : ℕ) → m ≤ n → Rises m (led_to (flat_map ways_to_leaf (enumerate_from n all)))
leaves-rise [] n m le = tt
leaves-rise (ports ∷ all) n m le =
    let more = flat_map ways_to_leaf (enumerate_from (n + 1) all) in
    subst (Rises m) (sym (led-append (ways_to_leaf (n, ports)) more))
    (weaker m n (led_to (ways_to_leaf (n, ports)) ++ led_to more) le (leaf-rises n ports 0 (led_to more) (leaves-rise all (n + 1) n (omega arith))))

port-none : (k : ℕ) (sources : List Source) (n : ℕ) → led_to (map (way_at (target.TopOut k)) (enumerate_from n sources)) ≡ []
port-none k [] n = refl
port-none k (s ∷ sources) n = port-none k sources (n + 1)

tops-none : (tops : List (List Source)) (n : ℕ) → led_to (flat_map ways_to_top (enumerate_from n tops)) ≡ []
tops-none [] n = refl
tops-none (p ∷ tops) n =
    let here = port-none n p 0 in
    let rest = tops-none tops (n + 1) in
    led-append (ways_to_top (n, p)) (flat_map ways_to_top (enumerate_from (n + 1) tops)) ∙ rw (here, rest) refl

pub all-rise : (r : Flat) → IsNonDecreasingBy (λ (k : ℕ). k) (target_leaves (paths_of r))
all-rise r =
    let leaves = flat_map ways_to_leaf (enumerate_from 0 r.ports) in
    let same : led_to leaves ≡ led_to (ways_of r) =
    sym (led-append leaves (flat_map ways_to_top (enumerate_from 0 r.tops)) ∙ ap (λ (ls : List ℕ). led_to leaves ++ ls) (tops-none r.tops 0) ∙ append-nil (led_to leaves)) in
    subst (λ (ls : List ℕ). IsNonDecreasingBy (λ (k : ℕ). k) ls) same (rising 0 (led_to leaves) (leaves-rise r.ports 0 0 (omega arith)))
