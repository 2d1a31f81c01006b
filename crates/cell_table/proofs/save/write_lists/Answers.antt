use Rattle.std.proofs.Common.{◌+◌, ◌∙◌, [], length, refl, sym, ap, subst, arith, set}
use Rattle.std.proofs.lemmas.List.{length-set}
use Rattle.std.proofs.lemmas.List.Sums.{sum_by_more, sum_by_more_le}
use Rattle.cell_table.specs.declared.state.PortState.{PortState}
use Rattle.cell_table.specs.Saved.{pair_number}
use Rattle.run_model.specs.Waiting.{RisesFrom}
use Rattle.cell_table.proofs.Pieced.{piece_none, piece_more}
use Rattle.cell_table.proofs.save.write_lists.Goals as goal

pub loop-p-init : goal.loop-p-init
loop-p-init c = record { lists = piece_none c.args.first c.args.delays.now.lists; count = refl; spare = omega arith }

pub loop-p-preserved : goal.loop-p-preserved
loop-p-preserved c =
    let here = c.loop-p.invariant in
    let ports = c.args.ports.now in
    let port = c.index-ports-p.result in
    let more = sum_by_more pair_number ports c.loop-p.p port c.loop-p-test.true in
    record {
      lists =
          piece_more (λ (q : PortState). q.pairs.items) [] ports c.args.first c.loop-p.p port c.args.delays.now.lists c.loop-p.delays.lists _ c.requires.within c.loop-p-test.true c.index-ports-p.is here.lists
          (c.write_list.ensures.list ∙ ap (λ l. set c.loop-p.delays.lists (c.args.first + c.loop-p.p) l) c.deref.ensures.value);
      count = ap length c.write_list.ensures.list ∙ length-set c.loop-p.delays.lists (c.args.first + c.loop-p.p) c.deref.result.now ∙ here.count;
      spare = omega (arith, here.spare, more, ap pair_number c.index-ports-p.is, c.write_list.ensures.spare, ap length c.deref.ensures.value);
    }

pub write_list-requires : goal.write_list-requires
write_list-requires c =
    let here = c.loop-p.invariant in
    let port = c.index-ports-p.result in
    let most = sum_by_more_le pair_number c.args.ports.now c.loop-p.p port c.loop-p-test.true in
    record {
      exists = omega (arith, here.count, c.requires.within);
      rising = subst (λ ps. RisesFrom 0 ps) (sym (c.deref.ensures.value ∙ ap (λ (q : PortState). q.pairs.items) c.index-ports-p.is)) (c.requires.rising c.loop-p.p port c.loop-p-test.true);
      room = omega (arith, here.spare, most, ap pair_number c.index-ports-p.is, c.requires.room, ap length c.deref.ensures.value);
    }
