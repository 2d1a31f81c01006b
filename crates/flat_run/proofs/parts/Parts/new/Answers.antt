use Rattle.std.proofs.Common.{◌≡◌, false, ◌∙◌, replicate, subst, vec_capacity}
use Rattle.model_tree.specs.Tree.{leaf_count}
use Rattle.model_leaves.specs.Leaves.{OfTree}
use Rattle.run_leaves.specs.Watching.{IsWatchingOf}
use Rattle.flat_run.proofs.parts.Parts.new.Goals as goal

pub returns-in-Ok : goal.returns-in-Ok
returns-in-Ok g c =
    let beside = c.in-Ok in
    let made = c.in_ok-leaves.ensures in
    let of_model = c.model.ensures ∙ made.model in
    record {
      model_is = made.model;
      settings_are = made.settings;
      states_are = made.states;
      watching_is = subst (λ m. OfTree m (λ t. IsWatchingOf t beside.watchers)) of_model beside.ensures.watching;
      woken_are = subst (λ m. OfTree m (λ t. beside.work.woken ≡ replicate (leaf_count t) false)) of_model beside.ensures.woken;
      touched_are = subst (λ m. OfTree m (λ t. beside.work.touched ≡ replicate (leaf_count t) false)) of_model beside.ensures.touched;
      due_room = subst (λ m. OfTree m (λ t. vec_capacity beside.work.due ≡ leaf_count t)) of_model beside.ensures.due;
      moving_room = subst (λ m. OfTree m (λ t. vec_capacity beside.work.moving ≡ leaf_count t)) of_model beside.ensures.moving;
    }
