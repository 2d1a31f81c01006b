use Rattle.std.proofs.Common.{◌≡◌, ◌≤◌, ◌+◌, ◌∙◌, Bool, false, List, ℕ, length, refl, ap, sym, subst}
use Rattle.std.proofs.lemmas.List.{length-replicate}
use Rattle.std.proofs.lemmas.Result.{on_ok_weaker}
use Rattle.run_model.specs.Cycle.{LeafState}
use Rattle.sparse_cycle.specs.Sparse.{due_leaves}
use Rattle.cycle_steps.specs.Half.{due_give}
use Rattle.leaf_set.specs.Members.{is_in}
use Rattle.sparse_cycle.specs.Collect.{Collected, CanCollect, collect_each}
use Rattle.cycle_steps.specs.Gathering.{Collects, value_count}
use Rattle.cycle_steps.specs.Watching.{watches_any}
use Rattle.cycle_steps.proofs.Halves.{only-these}
use Rattle.cycle_steps.proofs.Stops.{stopped, if-ok, both-ok}
use Rattle.cycle_steps.proofs.half.emit_and_wake.Goals as goal

pub collect-requires-clause-due : goal.collect-requires-clause-due
collect-requires-clause-due g c =
    let states = g.G.Leaves.states c.args.givers.now in
    subst (λ (ls : List ℕ). CanCollect c.args.t ls states) (sym (c.deref.ensures.value ∙ c.requires.due)) (c.leaves_give_one_after_another.ensures.can c.args.t states)

pub returns-clause-collected : goal.returns-clause-collected
returns-clause-collected g c =
    let states = g.G.Leaves.states c.args.givers.now in
    if-ok c.wake.result (subst (λ (made : Collected). Collects c.args.t made c.collect.new.y.items c.collect.new.n.items c.collect.new.givers.items (g.G.Leaves.states c.collect.new.leaves))
    (ap (λ ls. collect_each c.args.t ls states) (c.deref.ensures.value ∙ c.requires.due) ∙ c.leaves_give_one_after_another.ensures.at_once c.args.t states) c.in_ok-collect.ensures.collected)

pub returns-clause-woken : goal.returns-clause-woken
returns-clause-woken g c =
    let states = g.G.Leaves.states c.args.givers.now in
    let watches = g.W.Watched.watches c.args.watched.now in
    let made = subst (λ (made : Collected). Collects c.args.t made c.collect.new.y.items c.collect.new.n.items c.collect.new.givers.items (g.G.Leaves.states c.collect.new.leaves))
    (ap (λ ls. collect_each c.args.t ls states) (c.deref.ensures.value ∙ c.requires.due) ∙ c.leaves_give_one_after_another.ensures.at_once c.args.t states) c.in_ok-collect.ensures.collected in
    on_ok_weaker c.wake.result (λ woken. λ k. only-these (g.W.Watched.count c.args.watched.now) (g.S.LeafSet.members c.args.work.now.woken) (g.S.LeafSet.members c.wake.new.woken) (watches_any watches c.deref-2.result.now) c.requires.calm woken k
    ∙ ap (λ ls. watches_any watches ls k) (c.deref-2.ensures.value ∙ made.givers_is)) c.wake.ensures.woken

pub wake-requires-clause-same : goal.wake-requires-clause-same
wake-requires-clause-same g c = c.requires.at_rest ∙ sym c.requires.calm

pub returns-clause-touched : goal.returns-clause-touched
returns-clause-touched g c =
    on_ok_weaker c.wake.result (λ both. λ k. ap (λ (at : List Bool). is_in at k) both.0 ∙ both.1 k) (both-ok _ _ c.wake.result c.wake.ensures.same (returns-clause-woken g c))

pub wake-requires-clause-woken : goal.wake-requires-clause-woken
wake-requires-clause-woken g c =
    ap length c.requires.calm ∙ length-replicate (g.W.Watched.count c.args.watched.now) false

pub returns-clause-long : goal.returns-clause-long
returns-clause-long g c =
    on_ok_weaker c.wake.result (λ long. long ∙ ap length c.requires.calm ∙ length-replicate (g.W.Watched.count c.args.watched.now) false) c.wake.ensures.long

pub returns-clause-touched_long : goal.returns-clause-touched_long
returns-clause-touched_long g c =
    on_ok_weaker c.wake.result (λ both. ap length both.0 ∙ both.1) (both-ok _ _ c.wake.result c.wake.ensures.same (returns-clause-long g c))

pub returns-clause-stands : goal.returns-clause-stands
returns-clause-stands g c = λ tree st. if-ok c.wake.result (c.in_ok-collect.ensures.stands tree st)

pub returns-clause-kept : goal.returns-clause-kept
returns-clause-kept g c = c.collect.ensures.kept

pub returns-clause-ports : goal.returns-clause-ports
returns-clause-ports g c = if-ok c.wake.result c.in_ok-collect.ensures.ports

pub returns-clause-most : goal.returns-clause-most
returns-clause-most g c = if-ok c.wake.result c.in_ok-collect.ensures.most

-- what is collected one after another is what the due leaves give
given-is : (t : ℕ) (due : List ℕ) (states : List LeafState) → due ≡ due_leaves t states → collect_each t (due_leaves t states) states ≡ due_give t states → collect_each t due states ≡ due_give t states
given-is t due states dues once = ap (λ ls. collect_each t ls states) dues ∙ once

few : (v v' : ℕ) (made given : Collected) → made ≡ given → v' ≤ v + value_count made → v' ≤ v + value_count given
few v v' made given is le = subst (λ (some : Collected). v' ≤ v + value_count some) is le

pub returns-clause-visits : goal.returns-clause-visits
returns-clause-visits g c =
    let states = g.G.Leaves.states c.args.givers.now in
    few (g.G.Leaves.visits c.args.steps.now) (g.G.Leaves.visits c.collect.new.steps) (collect_each c.args.t c.deref.result.now states) (due_give c.args.t states)
    (given-is c.args.t c.deref.result.now states (c.deref.ensures.value ∙ c.requires.due) (c.leaves_give_one_after_another.ensures.at_once c.args.t states)) c.collect.ensures.visits

-- all that is so where memory ends in collecting
pub returns-in_err-collect : goal.returns-in_err-collect
returns-in_err-collect g c =
    let states = g.G.Leaves.states c.args.givers.now in
    let end = c.from_residual.result in
    let is = c.from_residual.ensures.0 in
    record {
      collected = stopped _ end is;
      woken = stopped _ end is;
      touched = stopped _ end is;
      long = stopped _ end is;
      touched_long = stopped _ end is;
      due = refl;
      inputs = refl;
      moving = refl;
      numbers = refl;
      rest = refl;
      stands = λ tree st. stopped _ end is;
      kept = c.collect.ensures.kept;
      ports = stopped _ end is;
      most = stopped _ end is;
      visits = few (g.G.Leaves.visits c.args.steps.now) (g.G.Leaves.visits c.collect.new.steps) (collect_each c.args.t c.deref.result.now states) (due_give c.args.t states)
          (given-is c.args.t c.deref.result.now states (c.deref.ensures.value ∙ c.requires.due) (c.leaves_give_one_after_another.ensures.at_once c.args.t states)) c.collect.ensures.visits;
    }
