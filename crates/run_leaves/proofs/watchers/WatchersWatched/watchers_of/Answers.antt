use Rattle.std.proofs.Common.{◌≡◌, ℕ, ◌<◌, List, length, sym, ◌∙◌, ap, arith}
use Rattle.std.proofs.lemmas.Result.{on_ok_weaker}
use Rattle.std.proofs.lemmas.List.Elements.{All-weaker}
use Rattle.quantity.specs.Bytes.{has_number}
use Rattle.run_leaves.specs.Watching.{Watching, watches_by, end_of, IsIn}
use Rattle.run_leaves.proofs.WhoWatches.{none-watch, block-within, is-in, block-watch}
use Rattle.run_leaves.proofs.watchers.WatchersWatched.watchers_of.Goals as goal

pub index-requires : goal.index-requires
index-requires c =
    let seats = c.self.inside.seats in
    let blocks = c.self.inside.blocks in
    let within = block-within seats blocks.items c.self.invariant.1 c.args.leaf c.at.result c.at.ensures c.in-Some.number (sym c.get.ensures ∙ c.in-Some.is) in
    omega (arith, within, blocks.ok.0)

pub put_watchers-requires : goal.put_watchers-requires
put_watchers-requires c =
    let seats = c.self.inside.seats in
    let here : IsIn (length seats) c.args.leaf c.index.result.now =
    is-in seats c.self.inside.blocks.items c.self.invariant.1 c.args.leaf c.at.result c.at.ensures c.in-Some.number (sym c.get.ensures ∙ c.in-Some.is) c.index.result.now c.index.ensures in
    record {
      begun = here.begun;
      inside = here.inside;
      short = omega (arith, here.short, c.self.invariant.0);
      room = here.room;
    }

pub returns-in-None-clause-watch : goal.returns-in-None-clause-watch
returns-in-None-clause-watch c = λ k.
    let seats = c.self.inside.seats in
    ap (λ (ls : List ℕ). has_number ls k) c.clear-in-None.ensures.items
    ∙ sym (none-watch seats c.self.inside.blocks.items c.self.invariant.1 c.args.leaf c.at.result c.at.ensures (sym c.get.ensures ∙ c.in-None.is) k)
    ∙ ap (λ (w : Watching). watches_by w k c.args.leaf) c.self.view_is

pub returns-in-Some-clause-within : goal.returns-in-Some-clause-within
returns-in-Some-clause-within c =
    let seats = c.self.inside.seats in
    let b = c.index.result.now in
    let here : IsIn (length seats) c.args.leaf b =
    is-in seats c.self.inside.blocks.items c.self.invariant.1 c.args.leaf c.at.result c.at.ensures c.in-Some.number (sym c.get.ensures ∙ c.in-Some.is) b c.index.ensures in
    let short = here.short in
    let long : length seats ≡ length c.args.self.now.seats = ap (λ (w : Watching). length w.seats) c.self.view_is in
    on_ok_weaker c.put_watchers.result
    (λ h. All-weaker (λ (k : ℕ). k < end_of b) (λ (k : ℕ). k < length c.args.self.now.seats) (λ k lt. omega (arith, lt, short, long)) c.put_watchers.new.into.items h)
    c.put_watchers.ensures.within

pub returns-in-Some-clause-watch : goal.returns-in-Some-clause-watch
returns-in-Some-clause-watch c =
    let seats = c.self.inside.seats in
    on_ok_weaker c.put_watchers.result
    (λ h k. h k
    ∙ sym (block-watch seats c.self.inside.blocks.items c.self.invariant.1 c.args.leaf c.at.result c.at.ensures c.in-Some.number (sym c.get.ensures ∙ c.in-Some.is) c.index.result.now c.index.ensures k)
    ∙ ap (λ (w : Watching). watches_by w k c.args.leaf) c.self.view_is)
    c.put_watchers.ensures.watch
