-- What stands at a port of a leaf, from the spans.
use Rattle.std.proofs.Common.{◌≡◌, ◌<◌, ◌≤◌, ◌+◌, ℕ, zero, suc, List, [], ◌∷◌, map, drop, length, get_or, sym, ap, ◌∙◌, arith}
use Rattle.std.proofs.lemmas.List.{length-map, length-take, length-drop, get_or-map, get_or-take, get_or-drop}
use Rattle.model_leaves.specs.declared.path.Source.{Source}
use Rattle.port_net.specs.declared.span.Span.{Span}
use Rattle.port_net.specs.Nodes.{part_in_span}
use Rattle.route_flat.specs.Nets.{Flat, AreWithin, flat_of_spans}

pub within-at : {A : Type 0} (xs : List A) (spans : List Span) (i : ℕ) (s : Span) → AreWithin xs spans → i < length spans → s ≡ get_or spans i s → s.first + s.count ≤ length xs
within-at xs [] i s w h e = absurd (omega arith)
within-at xs (t ∷ ts) zero s w h e =
    let first = ap (λ (x : Span). x.first) e in
    let count = ap (λ (x : Span). x.count) e in
    omega (arith, w.0, first, count)
within-at xs (t ∷ ts) (suc i) s w h e = within-at xs ts i s w.1 (omega arith) e

pub count-leaves : (leaves ports outputs : List Span) (paths : List Source) (r : Flat) → flat_of_spans leaves ports outputs paths ≡ r → length leaves ≡ length r.ports
count-leaves leaves ports outputs paths r v = sym (length-map leaves (λ leaf. map (part_in_span paths) (part_in_span ports leaf))) ∙ ap (λ (f : Flat). length f.ports) v

pub read-leaf : (leaves ports outputs : List Span) (paths : List Source) (r : Flat) (leaf : ℕ) (s : Span) (d : List (List Source)) → flat_of_spans leaves ports outputs paths ≡ r → leaf < length leaves → s ≡ get_or leaves leaf s → get_or r.ports leaf d ≡ map (part_in_span paths) (part_in_span ports s)
read-leaf leaves ports outputs paths r leaf s d v h e =
    let at = λ (x : Span). map (part_in_span paths) (part_in_span ports x) in
    sym (ap (λ (f : Flat). get_or f.ports leaf d) v) ∙ get_or-map at leaves leaf s d h ∙ ap at (sym e)

pub port-below : (ports : List Span) (paths : List Source) (s : Span) (port : ℕ) → port < length (map (part_in_span paths) (part_in_span ports s)) → port < s.count
port-below ports paths s port h =
    let a = length-map (part_in_span ports s) (part_in_span paths) in
    let b = length-take s.count (drop s.first ports) in
    omega (arith, h, a, b)

pub read-port : (ports : List Span) (paths : List Source) (s span : Span) (port : ℕ) (d : List Source) → port < s.count → s.first + s.count ≤ length ports → span ≡ get_or ports (s.first + port) span → get_or (map (part_in_span paths) (part_in_span ports s)) port d ≡ part_in_span paths span
read-port ports paths s span port d h w e =
    let b = length-take s.count (drop s.first ports) in
    let c = length-drop s.first ports in
    get_or-map (part_in_span paths) (part_in_span ports s) port span d (omega (arith, b, c))
    ∙ ap (part_in_span paths) (get_or-take s.count (drop s.first ports) port span h ∙ get_or-drop s.first ports port span ∙ sym e)
