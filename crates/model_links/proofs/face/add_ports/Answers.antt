use Rattle.std.proofs.Common.{List, map, ap, ◌∙◌, Bor}
use Rattle.std.proofs.lemmas.List.{map-append, take_all}
use Rattle.std.specs.Option.{option_map}
use Rattle.quantity.specs.Bytes.{Bytes}
use Rattle.source_text.specs.Shown.{texts}
use Rattle.model_links.specs.Lent.{end_of, with_end, with_ends}
use Rattle.model_links.specs.PortEnds.{end_at, ends_at}
use Rattle.model_links.proofs.Lists.{grown}
use Rattle.model_links.proofs.face.add_ports.Goals as goal

pub loop-port-preserved : goal.loop-port-preserved
loop-port-preserved c =
    let child = option_map (λ (r : Bor Bytes). r.now) c.args.child in
    let ends = λ (ps : List (Bor Bytes)). ends_at child (texts ps) in
    grown with_end ends (λ xs ys. ap (map (end_at child)) (map-append (λ (r : Bor Bytes). r.now) xs ys) ∙ map-append (end_at child) (texts xs) (texts ys)) c.args.ports.now c.loop-port.port-index _ c.loop-port-test.true
    (map end_of c.args.ends.now.keys) (map end_of c.loop-port.ends.keys) (map end_of c.add_port.new.ends.keys) c.in_ok-add_port.ensures c.loop-port.invariant

pub returns : goal.returns
returns c =
    let child = option_map (λ (r : Bor Bytes). r.now) c.args.child in
    c.loop-port.invariant ∙ ap (λ (ps : List (Bor Bytes)). with_ends (map end_of c.args.ends.now.keys) (ends_at child (texts ps))) (take_all c.loop-port.port-index c.args.ports.now c.loop-port-test.false)
