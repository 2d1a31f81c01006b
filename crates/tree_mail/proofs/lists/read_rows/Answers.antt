use Rattle.std.proofs.Common.{◌≡◌, ◌+◌, ◌++◌, List, map, drop, refl, ap, ◌∙◌, arith}
use Rattle.std.proofs.lemmas.Grind.{common_steps}
use Rattle.std.specs.List.{flat_map, enumerate_from}
use Rattle.run_model.specs.Cycle.{at_port}
use Rattle.tree_tables.specs.declared.entry.Ref.{Ref}
use Rattle.tree_tables.specs.Stations.{ref_of, row_of}
use Rattle.served_tree.specs.Rows.{values_at_ref, read_rows}
use Rattle.tree_mail.specs.Notes.{notes_of, all_heard}
use Rattle.tree_mail.proofs.Rest.{further, all-made, rows-first}
use Rattle.tree_mail.proofs.lists.read_rows.Goals as goal

pub loop-i-init : goal.loop-i-init
loop-i-init c = ap (λ vs. vs ++ read_rows c.args.bag.now (all_heard (notes_of c.args.kept.now)) (map row_of c.args.rows.now)) c.new-values.ensures.items

pub loop-i-preserved : goal.loop-i-preserved
loop-i-preserved c =
    let reads = values_at_ref c.args.bag.now (all_heard (notes_of c.args.kept.now)) in
    let i = c.loop-i.i in
    let number : c.in_ok-port.port ≡ c.loop-i.i = grind (arith, common_steps) in
    let row = c.index-rows-i.result in
    let rest = drop (i + 1) c.args.rows.now in
    let more : c.read_row.new.into.items ≡ c.loop-i.values.items ++ at_port (c.in_ok-port.port, flat_map reads (row_of row)) = c.in_ok-read_row.ensures ∙ ap (λ (r : List Ref). c.loop-i.values.items ++ at_port (c.in_ok-port.port, flat_map reads (map ref_of r))) c.deref.ensures.value in
    further (λ rows. flat_map at_port (enumerate_from i (map (flat_map reads) (map row_of rows)))) (λ rows. flat_map at_port (enumerate_from (i + 1) (map (flat_map reads) (map row_of rows)))) c.args.rows.now i row row c.loop-i-test.true c.index-rows-i.is
    (at_port (i, flat_map reads (row_of row)))
    (rows-first i (flat_map reads (row_of row)) (map (flat_map reads) (map row_of rest)))
    c.loop-i.values.items c.read_row.new.into.items _ (more ∙ ap (λ k. c.loop-i.values.items ++ at_port (k, flat_map reads (row_of row))) number) c.loop-i.invariant

pub returns : goal.returns
returns c =
    let reads = values_at_ref c.args.bag.now (all_heard (notes_of c.args.kept.now)) in
    let i = c.loop-i.i in
    all-made (λ rows. flat_map at_port (enumerate_from i (map (flat_map reads) (map row_of rows)))) c.args.rows.now i c.loop-i-test.false refl c.loop-i.values.items _ c.loop-i.invariant
