-- Where links begin, among listed components and among processors.
use Rattle.std.proofs.Common.{◌≡◌, ◌+◌, ◌<◌, ℕ, ℤ, zero, suc, Bool, true, false, Option, Some, None, List, [], ◌∷◌, length, get_or, refl, sym, ap, ◌∙◌, subst, arith}
use Rattle.std.specs.Prelude.{slice_get, if◌then◌else◌}
use Rattle.std.specs.Option.{option_map}
use Rattle.std.specs.Str.{bytes_eq}
use Rattle.model_tree.specs.declared.component.Component.{Component}
use Rattle.model_tree.specs.declared.link.End.{End}
use Rattle.model_tree.specs.declared.link.End.TheVariants.{Own, Child, Cell}
use Rattle.model_tree.specs.Tree.{Word, Tree, coupled, cells, atomic, name_of, leaf_count}
use Rattle.model_tree.specs.Stands.{part_of}
use Rattle.port_net.specs.Named.{place_from}
use Rattle.served_tree.specs.Processors.{Processor, size, processors_from, node_name, out_number}
use Rattle.served_tree.specs.Places.{ContainsFrom, node_of}
use Rattle.served_tree.specs.Rows.{Ref, output_of, child_ref, link_ref}
use Rattle.served_tree.proofs.Lists.{stands-split}
use Rattle.served_tree.proofs.Placing.{size-is, head-at}
use Rattle.tree_tables.specs.Children.{numbers_of, processors_of}
use Rattle.tree_tables.specs.Begins.{child_begin_in, coupled_begin}

-- ---- by the place of a child

-- the output port of the component at a place
abbrev pub begin_at_place : List Component → (ℕ → List ℤ) → List ℕ → Word → Option ℕ → Option Ref
begin_at_place cs settings numbers port None = None
begin_at_place [] settings numbers port (Some k) = None
begin_at_place (c ∷ cs) settings [] port (Some k) = None
begin_at_place (c ∷ cs) settings (n ∷ ns) port (Some zero) =
    option_map (output_of n) (out_number (node_of (part_of c settings) 0) port)
begin_at_place (c ∷ cs) settings (n ∷ ns) port (Some (suc k)) =
    begin_at_place cs settings ns port (Some k)

-- a place is a number further
abbrev further : Option ℕ → Option ℕ
further None = None
further (Some k) = Some (suc k)

further-if : (b : Bool) (n : ℕ) (o : Option ℕ)
    → (if b then Some (n + 1) else further o) ≡ further (if b then Some n else o)
further-if true n o = ap Some (let e : n + 1 ≡ suc n = omega arith in e)
further-if false n o = refl

place-further : (cs : List Component) (settings : ℕ → List ℤ) (name : Word) (n : ℕ)
    → place_from cs settings name (n + 1) ≡ further (place_from cs settings name n)
place-further [] settings name n = refl
place-further (c ∷ cs) settings name n =
    ap (λ o. if bytes_eq (name_of (part_of c settings)) name then Some (n + 1) else o)
    (place-further cs settings name (n + 1))
    ∙ further-if (bytes_eq (name_of (part_of c settings)) name) n (place_from cs settings name (n + 1))

at-further : (c : Component) (cs : List Component) (settings : ℕ → List ℤ) (n : ℕ) (ns : List ℕ)
    (port : Word) (o : Option ℕ)
    → begin_at_place (c ∷ cs) settings (n ∷ ns) port (further o)
    ≡ begin_at_place cs settings ns port o
at-further c cs settings n ns port None = none cs ns
  where
    none : (cs : List Component) (ns : List ℕ) → None ≡ begin_at_place cs settings ns port None
    none [] ns = refl
    none (d ∷ ds) ns = refl
at-further c cs settings n ns port (Some k) = refl

no-numbers : (c : Component) (cs : List Component) (settings : ℕ → List ℤ) (port : Word)
    (o : Option ℕ) → begin_at_place (c ∷ cs) settings [] port o ≡ None
no-numbers c cs settings port None = refl
no-numbers c cs settings port (Some k) = refl

first-or : (b : Bool) (c : Component) (cs : List Component) (settings : ℕ → List ℤ) (n : ℕ)
    (ns : List ℕ) (port : Word) (o : Option ℕ)
    → begin_at_place (c ∷ cs) settings (n ∷ ns) port (if b then Some 0 else further o)
    ≡ (if b then option_map (output_of n) (out_number (node_of (part_of c settings) 0) port)
    else begin_at_place cs settings ns port o)
first-or true c cs settings n ns port o = refl
first-or false c cs settings n ns port o = at-further c cs settings n ns port o

pub by-place : (cs : List Component) (settings : ℕ → List ℤ) (ns : List ℕ) (port child : Word)
    → begin_at_place cs settings ns port (place_from cs settings child 0)
    ≡ child_begin_in cs settings ns port child
by-place [] settings ns port child = refl
by-place (c ∷ cs) settings [] port child =
    no-numbers c cs settings port (place_from (c ∷ cs) settings child 0)
by-place (c ∷ cs) settings (n ∷ ns) port child =
    let b = bytes_eq (name_of (part_of c settings)) child in
    ap (λ o. begin_at_place (c ∷ cs) settings (n ∷ ns) port (if b then Some 0 else o)) (place-further cs settings child 0)
    ∙ first-or b c cs settings n ns port (place_from cs settings child 0)
    ∙ ap (λ o. if b then option_map (output_of n) (out_number (node_of (part_of c settings) 0) port) else o) (by-place cs settings ns port child)

-- the place is known
pub at-place : (cs : List Component) (settings : ℕ → List ℤ) (ns : List ℕ) (port : Word) (k n : ℕ)
    (c : Component) → k < length cs → c ≡ get_or cs k c → slice_get ns k ≡ Some n
    → begin_at_place cs settings ns port (Some k)
    ≡ option_map (output_of n) (out_number (node_of (part_of c settings) 0) port)
at-place [] settings ns port k n c within is e = absurd (omega (arith, within))
at-place (d ∷ ds) settings [] port k n c within is e = absurd cc
at-place (d ∷ ds) settings (m ∷ ms) port zero n c within is e =
    let same : m ≡ n = cc in
    ap (λ x. option_map (output_of x) (out_number (node_of (part_of d settings) 0) port)) same
    ∙ ap (λ x. option_map (output_of n) (out_number (node_of (part_of x settings) 0) port)) (sym is)
at-place (d ∷ ds) settings (m ∷ ms) port (suc k) n c within is e =
    at-place ds settings ms port k n c (omega (arith, within)) is e

pub no-place : (cs : List Component) (settings : ℕ → List ℤ) (ns : List ℕ) (port : Word) (k : ℕ)
    → slice_get ns k ≡ None → begin_at_place cs settings ns port (Some k) ≡ None
no-place [] settings ns port k e = refl
no-place (d ∷ ds) settings [] port k e = refl
no-place (d ∷ ds) settings (m ∷ ms) port zero e = absurd cc
no-place (d ∷ ds) settings (m ∷ ms) port (suc k) e = no-place ds settings ms port k e

pub never : (cs : List Component) (settings : ℕ → List ℤ) (ns : List ℕ) (port : Word)
    → begin_at_place cs settings ns port None ≡ None
never [] settings ns port = refl
never (d ∷ ds) settings ns port = refl

-- ---- among processors

name-of-node : (t : Tree) (f : ℕ) → node_name (node_of t f) ≡ name_of t
name-of-node (coupled name ins outs children links) f = refl
name-of-node (cells g) f = refl
name-of-node (atomic name class settings) f = refl

pub number-of-port : (t : Tree) (f g : ℕ) (port : Word)
    → out_number (node_of t f) port ≡ out_number (node_of t g) port
number-of-port (coupled name ins outs children links) f g port = refl
number-of-port (cells h) f g port = refl
number-of-port (atomic name class settings) f g port = refl

pub same-child : (ps : List Processor) (cs : List Component) (settings : ℕ → List ℤ) (n q f : ℕ)
    (port child : Word) → ContainsFrom ps n (processors_of cs settings n q f)
    → child_begin_in cs settings (numbers_of cs settings n) port child
    ≡ child_ref ps (numbers_of cs settings n) port child
same-child ps [] settings n q f port child h = refl
same-child ps (c ∷ cs) settings n q f port child h =
    let t = part_of c settings in
    let next = n + size t in
    let s = stands-split ps n (processors_from t n q f) (processors_of cs settings next q (f + leaf_count t)) h in
    let head = head-at ps t n q f s.0 in
    let rest : ContainsFrom ps next (processors_of cs settings next q (f + leaf_count t)) =
    subst (λ k. ContainsFrom ps (n + k) (processors_of cs settings next q (f + leaf_count t))) (size-is t n q f) s.1 in
    let more = same-child ps cs settings next q (f + leaf_count t) port child rest in
    let name : name_of t ≡ node_name head.0.node = sym (name-of-node t f) ∙ ap node_name (sym head.2) in
    let number : out_number (node_of t 0) port ≡ out_number head.0.node port = number-of-port t 0 f port ∙ ap (λ x. out_number x port) (sym head.2) in
    ap (λ w. if bytes_eq w child then option_map (output_of n) (out_number (node_of t 0) port) else child_begin_in cs settings (numbers_of cs settings next) port child) name
    ∙ ap (λ o. if bytes_eq (node_name head.0.node) child then option_map (output_of n) o else child_begin_in cs settings (numbers_of cs settings next) port child) number
    ∙ ap (λ r. if bytes_eq (node_name head.0.node) child then option_map (output_of n) (out_number head.0.node port) else r) more
    ∙ ap (λ o. elim o [ None ↦ None | Some p ↦ if bytes_eq (node_name p.node) child then option_map (output_of n) (out_number p.node port) else child_ref ps (numbers_of cs settings next) port child ]) (sym head.1)

pub same-begin : (ps : List Processor) (cs : List Component) (settings : ℕ → List ℤ) (n q f : ℕ)
    (ins : List Word) → ContainsFrom ps n (processors_of cs settings n q f) → (e : End)
    → coupled_begin cs settings (numbers_of cs settings n) ins e
    ≡ link_ref ps (numbers_of cs settings n) ins e
same-begin ps cs settings n q f ins h (Own p) = refl
same-begin ps cs settings n q f ins h (Child p c) = same-child ps cs settings n q f p c h
same-begin ps cs settings n q f ins h (Cell p m) = refl
