use Rattle.std.proofs.Common.{◌≡◌, true, sym, ◌∙◌, ap, subst}
use Rattle.std.specs.declared.result.Result.TheVariants.{Err}
use Rattle.run_model.specs.declared.stop.LeafStop.{LeafStop}
use Rattle.cycle_steps.specs.Moving.{Moves as MovesTo}
use Rattle.tree_messages.specs.Due.{due_at}
use Rattle.tree_messages.specs.Changes.{has_to_move, move_in}
use Rattle.tree_messages.proofs.Becoming.{due-read, becomes-moved, becomes-stopped}
use Rattle.tree_messages.proofs.moving.move_if.Goals as goal

pub returns-in-Ok-clause-becomes : goal.returns-in-Ok-clause-becomes
returns-in-Ok-clause-becomes g c =
    let due = c.args.due.now.items in
    let l = c.args.leaf in
    let here : due_at due l ≡ c.index.result.now = due-read due l c.index.result.now c.requires.inside c.index.ensures in
    let has : has_to_move c.args.t (due_at due l) c.args.woken c.args.bag.now ≡ true =
    ap (λ o. has_to_move c.args.t o c.args.woken c.args.bag.now) here ∙ sym c.has_to_move.ensures ∙ c.if-not-has_to_move.false in
    becomes-moved c.args.t c.args.woken c.args.bag.now l c.args.leaves.now c.move_leaf.new.self due has c.in-Ok.ensures.only c.in-Ok.ensures.kept c.in-Ok.told c.in-Ok.ensures.moves

pub returns-in-Err-Rule-clause-becomes : goal.returns-in-Err-Rule-clause-becomes
returns-in-Err-Rule-clause-becomes g c =
    let due = c.args.due.now.items in
    let l = c.args.leaf in
    let here : due_at due l ≡ c.index.result.now = due-read due l c.index.result.now c.requires.inside c.index.ensures in
    let has : has_to_move c.args.t (due_at due l) c.args.woken c.args.bag.now ≡ true =
    ap (λ o. has_to_move c.args.t o c.args.woken c.args.bag.now) here ∙ sym c.has_to_move.ensures ∙ c.if-not-has_to_move.false in
    let moves = subst (λ (s : LeafStop). MovesTo c.args.leaves.now.states c.move_leaf.new.self.states l (move_in c.args.t c.args.woken c.args.bag.now l c.args.leaves.now) (Err s)) c.in-Err-Rule.field-0-is c.in-Err-Rule.ensures.moves in
    becomes-stopped c.args.t c.args.woken c.args.bag.now l c.args.leaves.now c.move_leaf.new.self due has c.in-Err-Rule.ensures.only c.in-Err-Rule.ensures.kept c.in-Err-Rule.why moves
