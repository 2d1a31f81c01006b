use Rattle.std.proofs.Common.{◌+◌, List, map, drop, refl}
use Rattle.tree_tables.specs.declared.entry.Ref.{Ref}
use Rattle.std.specs.List.{flat_map}
use Rattle.run_model.specs.Cycle.{at_port}
use Rattle.tree_tables.specs.Stations.{ref_of}
use Rattle.served_tree.specs.Rows.{values_at_ref}
use Rattle.tree_mail.specs.Notes.{notes_of, all_heard}
use Rattle.tree_mail.proofs.Rest.{further, all-made, port-first}
use Rattle.tree_mail.proofs.lists.read_row.Goals as goal

pub loop-begin-preserved : goal.loop-begin-preserved
loop-begin-preserved c =
    let p = c.args.port.0 in
    let reads = values_at_ref c.args.bag.now (all_heard (notes_of c.args.kept.now)) in
    let rest = drop (c.loop-begin.begin-index + 1) c.args.row.now in
    further (λ (row : List Ref). at_port (p, flat_map reads (map ref_of row))) (λ (row : List Ref). at_port (p, flat_map reads (map ref_of row))) c.args.row.now c.loop-begin.begin-index _ _ c.loop-begin-test.true refl
    (at_port (p, reads (ref_of _)))
    (port-first p (reads (ref_of _)) (flat_map reads (map ref_of rest)))
    c.loop-begin.into.items c.read_one.new.into.items _ c.in_ok-read_one.ensures c.loop-begin.invariant

pub returns : goal.returns
returns c =
    let p = c.args.port.0 in
    let reads = values_at_ref c.args.bag.now (all_heard (notes_of c.args.kept.now)) in
    all-made (λ (row : List Ref). at_port (p, flat_map reads (map ref_of row))) c.args.row.now c.loop-begin.begin-index c.loop-begin-test.false refl c.loop-begin.into.items _ c.loop-begin.invariant
