-- What stands at ports, and what is inside a component, as nodes are put behind.
use Rattle.std.proofs.Common.{◌≡◌, ◌<◌, ◌≤◌, ◌+◌, ◌++◌, ℕ, ℤ, zero, suc, Bool, true, false, Option, Some, None, List, [], ◌∷◌, length, get_or, drop, refl, sym, ap, ◌∙◌, subst, arith, append_assoc, append-nil}
use Rattle.std.specs.Prelude.{slice_get, unwrap_or, if◌then◌else◌}
use Rattle.std.specs.List.{flat_map}
use Rattle.std.specs.Str.{bytes_eq}
use Rattle.std.proofs.lemmas.List.{drop_more, drop_all}
use Rattle.std.proofs.lemmas.Option.{slice_get_within}
use Rattle.model_tree.specs.declared.component.Component.{Component}
use Rattle.model_tree.specs.declared.component.Component.TheVariants.{Coupled', Cells, Atomic}
use Rattle.model_tree.specs.declared.link.End.{End}
use Rattle.model_tree.specs.declared.link.Link.{Link}
use Rattle.model_tree.specs.Tree.{Word, name_of, leaf_count}
use Rattle.model_tree.specs.Pull as P
use Rattle.model_leaves.specs.LeafTexts.{name_at}
use Rattle.model_tree.specs.Stands.{part_of}
use Rattle.port_net.specs.declared.net.Node.{Node}
use Rattle.port_net.specs.declared.ports.Outputs.{Outputs}
use Rattle.port_net.specs.declared.ports.At.{At}
use Rattle.port_net.specs.declared.ports.Ports.{Ports}
use Rattle.port_net.specs.declared.ports.Ports.TheVariants as ports
use Rattle.port_net.specs.declared.ports.Inside.{Inside}
use Rattle.port_net.specs.declared.ports.Inside.TheVariants as inside
use Rattle.port_net.specs.declared.arrivals.Arrivals.{Arrivals}
use Rattle.port_net.specs.Shown.{plain_sources, Gives, Join, Extends, leaf_list, items_of_links, one_if}
use Rattle.port_net.specs.Arriving.{nodes_to}
use Rattle.port_net.specs.Outside.{is_end_at, InputsAre, PortsAre, given_in, GivesOut, AreOutputs, AllOutputs, InsideIs, comes_out}
use Rattle.port_net.specs.Named.{place_from}
use Rattle.port_net.proofs.Stood.{gives-kept, join-kept}

-- ---- what is known stays known

pub ports-kept : (ins : List Word) (a b : List Node) (ps : Ports) (lists : Word → List P.Source) → Extends a b → PortsAre ins a ps lists → PortsAre ins b ps lists
ports-kept ins a b ports.Nothing lists g h = h
ports-kept ins a b (ports.Inputs names) lists g h =
    record { same = h.same; give = λ k lt. gives-kept ins a b k (P.top_source (name_at ins k) ∷ []) g (h.give k lt); are = h.are }
ports-kept ins a b (ports.Linked links x) lists g h = λ port. join-kept ins a b (nodes_to links.now (is_end_at x port)) (lists port) g (h port)

out-kept : (a b : List Node) (c : Component) (o : Outputs) → Extends a b → GivesOut a c o → GivesOut b c o
out-kept a b (Coupled' name is os shape children links) o g h = λ ins settings port. join-kept ins a b _ _ g (h ins settings port)
out-kept a b (Cells x) o g h = λ ins settings port. join-kept ins a b _ _ g (h ins settings port)
out-kept a b (Atomic x) o g h = tt

pub are-kept : (a b : List Node) (c : Component) (first : ℕ) (o : Outputs) → Extends a b → AreOutputs a c first o → AreOutputs b c first o
are-kept a b c first o g h = record { first = h.first; leaves = h.leaves; gives = out-kept a b c o g h.gives }

pub outputs-kept : (a b : List Node) (cs : List Component) (first : ℕ) (os : List Outputs) → Extends a b → AllOutputs a cs first os → AllOutputs b cs first os
outputs-kept a b [] first [] g h = h
outputs-kept a b [] first (o ∷ os) g h = absurd h
outputs-kept a b (c ∷ cs) first [] g h = absurd h
outputs-kept a b (c ∷ cs) first (o ∷ os) g h = (are-kept a b c first o g h.0, outputs-kept a b cs (first + o.leaves) os g h.1)

pub inside-kept : (a b : List Node) (i : Inside) (first : ℕ) → Extends a b → InsideIs a i first → InsideIs b i first
inside-kept a b (inside.Children cs os) first g h = outputs-kept a b cs.now.list.now first os.now g h
inside-kept a b (inside.Cells leaf) first g h = tt

-- ---- one port

module _ (a b : List Node) (k : ℕ) (ps : Ports) (port : Word) where
  pub nothing-given : (older : List ℕ) → older ≡ [] → ps ≡ ports.Nothing → ((ins : List Word) (xs : List P.Source) → Join ins a older xs → Gives ins b k xs)
      → (ins : List Word) (lists : Word → List P.Source) → PortsAre ins a ps lists → Gives ins b k (lists port)
  nothing-given older e is join ins lists h =
      let none : lists port ≡ [] = subst (λ (x : Ports). PortsAre ins a x lists) is h port in
      join ins (lists port) (λ more. ap (flat_map (plain_sources ins (a ++ more))) e ∙ sym none)

  pub linked-given : (older : List ℕ) (links : Arrivals) (x : At) → older ≡ nodes_to links (is_end_at x port)
      → ((ins : List Word) (lists : Word → List P.Source) → PortsAre ins a ps lists → (p : Word) → Join ins a (nodes_to links (is_end_at x p)) (lists p))
      → ((ins : List Word) (xs : List P.Source) → Join ins a older xs → Gives ins b k xs)
      → (ins : List Word) (lists : Word → List P.Source) → PortsAre ins a ps lists → Gives ins b k (lists port)
  linked-given older links x e is join ins lists h =
      join ins (lists port) (subst (λ (os : List ℕ). Join ins a os (lists port)) (sym e) (is ins lists h port))

  pub input-given : (names : List Word) → ((ins : List Word) (lists : Word → List P.Source) → PortsAre ins a ps lists → InputsAre ins a names lists) → slice_get names k ≡ Some port
      → (ins : List Word) (lists : Word → List P.Source) → PortsAre ins a ps lists → Gives ins a k (lists port)
  input-given names is found ins lists h =
      let here : InputsAre ins a names lists = is ins lists h in
      let within : k < length ins = subst (λ (ns : List Word). k < length ns) here.same (slice_get_within names k port found) in
      let called : name_at ins k ≡ port = ap (λ (ns : List Word). name_at ns k) (sym here.same) ∙ ap (λ (o : Option Word). unwrap_or o []) found in
      subst (λ (xs : List P.Source). Gives ins a k xs) (ap (λ (w : Word). P.top_source w ∷ []) called ∙ sym (here.are port)) (here.give k within)

-- ---- a child by its name

place-least : (cs : List Component) (settings : ℕ → List ℤ) (name : Word) (n k : ℕ) → place_from cs settings name n ≡ Some k → n ≤ k
place-least [] settings name n k e = absurd (cc)
place-least (c ∷ cs) settings name n k e = cases (λ f. place-least cs settings name (n + 1) k f) (bytes_eq (name_of (part_of c settings)) name) refl
  where
    cases : (place_from cs settings name (n + 1) ≡ Some k → n + 1 ≤ k) → (b : Bool) → bytes_eq (name_of (part_of c settings)) name ≡ b → n ≤ k
    cases later true t =
        let f = rw t at e in
        let same : n ≡ k = cc in
        omega arith
    cases later false t =
        let f = rw t at e in
        let less = later f in
        omega arith

pub none-found : (cs : List Component) (settings : ℕ → List ℤ) (first n : ℕ) (port name : Word) → place_from cs settings name n ≡ None → given_in cs settings first port name ≡ []
none-found [] settings first n port name e = refl
none-found (c ∷ cs) settings first n port name e =
    cases (λ f. none-found cs settings (first + leaf_count (part_of c settings)) (n + 1) port name f) (bytes_eq (name_of (part_of c settings)) name) refl
  where
    cases : (place_from cs settings name (n + 1) ≡ None → given_in cs settings (first + leaf_count (part_of c settings)) port name ≡ []) → (b : Bool) → bytes_eq (name_of (part_of c settings)) name ≡ b → given_in (c ∷ cs) settings first port name ≡ []
    cases later true t = absurd (let f = rw t at e in cc)
    cases later false t =
        let f = rw t at e in
        rw t (later f)

here-found : (ns : List Node) (d : Component) (cs : List Component) (settings : ℕ → List ℤ) (first : ℕ) (port name : Word) (p : Outputs) (c : Component) (o : Outputs) → AreOutputs ns d first p → bytes_eq (name_of (part_of d settings)) name ≡ true → d ≡ c → p ≡ o → GivesOut ns c o × (given_in (d ∷ cs) settings first port name ≡ comes_out c settings o port)
here-found ns d cs settings first port name p c o are t e f = (
  subst (λ (x : Component). GivesOut ns x o) e (subst (GivesOut ns d) f are.gives),
  rw t (ap (λ (n : ℕ). P.given_out (part_of d settings) n leaf_list port) (sym are.first) ∙ ap (λ (x : Component). comes_out x settings p port) e ∙ ap (λ (x : Outputs). comes_out c settings x port) f),
)

pub one-found : (ns : List Node) (cs : List Component) (os : List Outputs) (settings : ℕ → List ℤ) (first n j k : ℕ) (port name : Word) (c : Component) (o : Outputs) → AllOutputs ns cs first os → k ≡ n + j → place_from cs settings name n ≡ Some k → slice_get cs j ≡ Some c → slice_get os j ≡ Some o → GivesOut ns c o × (given_in cs settings first port name ≡ comes_out c settings o port)
one-found ns [] os settings first n j k port name c o h s e f g = absurd (cc)
one-found ns (d ∷ cs) [] settings first n j k port name c o h s e f g = absurd h
one-found ns (d ∷ cs) (p ∷ os) settings first n j k port name c o h s e f g =
    cases (λ i s' e' f' g'. one-found ns cs os settings (first + p.leaves) (n + 1) i k port name c o h.1 s' e' f' g') (bytes_eq (name_of (part_of d settings)) name) refl j s f g
  where
    cases : ((i : ℕ) → k ≡ n + 1 + i → place_from cs settings name (n + 1) ≡ Some k → slice_get cs i ≡ Some c → slice_get os i ≡ Some o → GivesOut ns c o × (given_in cs settings (first + p.leaves) port name ≡ comes_out c settings o port))
        → (b : Bool) → bytes_eq (name_of (part_of d settings)) name ≡ b → (j : ℕ) → k ≡ n + j → slice_get (d ∷ cs) j ≡ Some c → slice_get (p ∷ os) j ≡ Some o → GivesOut ns c o × (given_in (d ∷ cs) settings first port name ≡ comes_out c settings o port)
    cases later true t zero s f g = here-found ns d cs settings first port name p c o h.0 t (cc) (cc)
    cases later true t (suc j) s f g =
        let f' = rw t at e in
        let same : n ≡ k = cc in
        absurd (omega (arith, same, s))
    cases later false t zero s f g =
        let f' = rw t at e in
        let less = place-least cs settings name (n + 1) k f' in
        absurd (omega (arith, less, s))
    cases later false t (suc j) s f g =
        let f' = rw t at e in
        let rest = later j (omega (arith, s)) f' f g in
        (rest.0, rw t (ap (λ (m : ℕ). given_in cs settings (first + m) port name) (sym (h.0.leaves settings)) ∙ rest.1))

-- ---- links one after another

picked-none : {A : Type 0} (into : End → Bool) (ls : List Link) → items_of_links into ls (let none : List A = [] in none) ≡ []
picked-none into [] = refl
picked-none into (l ∷ ls) = refl

none-there : (b : Bool) → one_if b (let none : Option ℕ = None in none) ≡ []
none-there true = refl
none-there false = refl

some-there : (b : Bool) (n : ℕ) (ks : List ℕ) → (if b then n ∷ ks else ks) ≡ one_if b (Some n) ++ ks
some-there true n ks = refl
some-there false n ks = refl

picked-step : (into : End → Bool) (l : Link) (ls : List Link) (nodes : List ℕ) (i : ℕ) → items_of_links into (l ∷ ls) (drop i nodes) ≡ one_if (into l.to) (slice_get nodes i) ++ items_of_links into ls (drop (suc i) nodes)
picked-step into l ls [] zero = rw (none-there (into l.to), picked-none {A = ℕ} into ls) refl
picked-step into l ls [] (suc i) = rw (none-there (into l.to), picked-none {A = ℕ} into ls) refl
picked-step into l ls (n ∷ nodes) zero = some-there (into l.to) n (items_of_links into ls nodes)
picked-step into l ls (n ∷ nodes) (suc i) = picked-step into l ls nodes i

pub pick-more : (into : End → Bool) (links : List Link) (nodes : List ℕ) (i : ℕ) (link : Link) (o : Option ℕ) (leads : Bool) (ks ks' all : List ℕ) → i < length links → link ≡ get_or links i link → o ≡ slice_get nodes i → leads ≡ into link.to → ks' ≡ ks ++ one_if leads o → ks ++ items_of_links into (drop i links) (drop i nodes) ≡ all → ks' ++ items_of_links into (drop (i + 1) links) (drop (i + 1) nodes) ≡ all
pick-more into links nodes i link o leads ks ks' all h e got is put inv =
    let next : i + 1 ≡ suc i = omega arith in
    let now : items_of_links into (drop i links) (drop i nodes) ≡ one_if (into link.to) (slice_get nodes i) ++ items_of_links into (drop (i + 1) links) (drop (suc i) nodes) =
    ap (λ (ls : List Link). items_of_links into ls (drop i nodes)) (drop_more links i link h ∙ ap (λ (x : Link). x ∷ drop (i + 1) links) (sym e)) ∙ picked-step into link (drop (i + 1) links) nodes i in
    ap (λ (xs : List ℕ). xs ++ items_of_links into (drop (i + 1) links) (drop (i + 1) nodes)) (put ∙ ap (λ (b : Bool). ks ++ one_if b o) is ∙ ap (λ (x : Option ℕ). ks ++ one_if (into link.to) x) got)
    ∙ append_assoc ks (one_if (into link.to) (slice_get nodes i)) (items_of_links into (drop (i + 1) links) (drop (i + 1) nodes))
    ∙ ap (λ (m : ℕ). ks ++ (one_if (into link.to) (slice_get nodes i) ++ items_of_links into (drop (i + 1) links) (drop m nodes))) next
    ∙ ap (λ (xs : List ℕ). ks ++ xs) (sym now) ∙ inv

pub pick-all : (into : End → Bool) (links : List Link) (nodes ks all : List ℕ) (i : ℕ) → length links ≤ i → ks ++ items_of_links into (drop i links) (drop i nodes) ≡ all → ks ≡ all
pick-all into links nodes ks all i h inv =
    sym (append-nil ks) ∙ ap (λ (ls : List Link). ks ++ items_of_links into ls (drop i nodes)) (sym (drop_all i links h)) ∙ inv

-- ---- a node of nothing

pub empty-joined : (a b : List Node) (k : ℕ) (older : List ℕ) → older ≡ [] → ((ins : List Word) (xs : List P.Source) → Join ins a older xs → Gives ins b k xs) → (ins : List Word) → Gives ins b k []
empty-joined a b k older e join ins = join ins [] (λ more. ap (flat_map (plain_sources ins (a ++ more))) e)
