use Rattle.std.proofs.Common.{◌≡◌, ◌<◌, ◌-◌, ℕ, suc, None, ◌∷◌, length, set, drop, sym, ap, ◌∙◌, arith}
use Rattle.std.specs.Prelude.{slice_index}
use Rattle.std.proofs.lemmas.List.{get_or_read}
use Rattle.time_queue.specs.Waiting.{waiting_time}
use Rattle.time_queue.proofs.Entered.{waits_within}
use Rattle.time_queue.proofs.Fronts.{one_ahead, others_wait, takes_ahead}
use Rattle.time_queue.proofs.heap.HeapQueue.take_front.Goals as goal

pub remove-requires : goal.remove-requires
remove-requires c =
    let leaves = c.copy_front.new.into.items in
    let i : ℕ = c.loop-left.left - 1 in
    let lt : i < length leaves = omega (arith, c.loop-left.invariant.within) in
    let is : c.index.result.now ≡ slice_index leaves i = get_or_read leaves i c.index.result.now lt c.index.ensures 0 in
    let waits = c.loop-left.invariant.wait i (omega arith) in
    omega (arith, is, waits_within c.loop-left.self (slice_index leaves i) c.args.at waits)

pub loop-left-preserved : goal.loop-left-preserved
loop-left-preserved c =
    let leaves = c.copy_front.new.into.items in
    let held = c.loop-left.invariant in
    let left : ℕ = c.loop-left.left in
    let i : ℕ = left - 1 in
    let leaf : ℕ = c.index.result.now in
    let lt : i < length leaves = omega (arith, held.within) in
    let next : suc i ≡ left = omega arith in
    let is : leaf ≡ slice_index leaves i = get_or_read leaves i leaf lt c.index.ensures 0 in
    let waits = ap (waiting_time c.loop-left.self) is ∙ held.wait i (omega arith) in
    record {
      within = omega arith;
      taken = takes_ahead c.args.at leaf _ _ _ _ (drop left leaves) _ waits c.remove.ensures
          (one_ahead leaves i lt ∙ ap (λ l. l ∷ drop (suc i) leaves) (sym is) ∙ ap (λ n. leaf ∷ drop n leaves) next) held.taken;
      wait = others_wait c.args.at i _ _ _ leaves c.copy_front.ensures.front lt (c.remove.ensures ∙ ap (λ l. set c.loop-left.self l None) is) (λ k less. held.wait k (omega arith));
    }
