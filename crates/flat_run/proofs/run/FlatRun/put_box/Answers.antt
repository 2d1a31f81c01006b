use Rattle.std.proofs.Common.{◌≡◌, ◌∙◌, true, None, ap}
use Rattle.std.specs.Prelude.{slice_set}
use Rattle.atomic_face.specs.Held.{Held}
use Rattle.run_model.specs.Cycle.{box_state, leaf_next}
use Rattle.sparse_cycle.specs.Sparse.{leaf_of}
use Rattle.run_leaves.specs.Seated.{is_box}
use Rattle.run_leaves.specs.Standing.{Standing}
use Rattle.flat_run.specs.Running.{tree_by}
use Rattle.flat_run.proofs.Putting.{put-fits, box-there, put-stands, put-holds}
use Rattle.flat_run.proofs.run.FlatRun.put_box.Goals as goal

pub box_next-requires : goal.box_next-requires
box_next-requires g c =
    let i = c.self.inside in
    let leaf = c.args.leaf in
    let is : is_box (leaf_of i.parts.leaves.states leaf) ≡ true = ap (λ (s : Standing). is_box (leaf_of s.state.leaf_states leaf)) c.self.view_is ∙ c.requires.leaf in
    let b = box-there (leaf_of i.parts.leaves.states leaf) is in
    let put = c.in_ok-put_box.ensures.puts b.0 b.1 in
    let stands = put-stands i.parts.leaves c.put_box.new.self leaf b.0 (box_state put.0) b.1 put.2 in
    ap is_box stands

pub invariant_of-self-2 : goal.invariant_of-self-2
invariant_of-self-2 g c =
    let i = c.self.inside in
    let leaf = c.args.leaf in
    let is : is_box (leaf_of i.parts.leaves.states leaf) ≡ true = ap (λ (s : Standing). is_box (leaf_of s.state.leaf_states leaf)) c.self.view_is ∙ c.requires.leaf in
    let b = box-there (leaf_of i.parts.leaves.states leaf) is in
    let put = c.in_ok-put_box.ensures.puts b.0 b.1 in
    let stands = put-stands i.parts.leaves c.put_box.new.self leaf b.0 (box_state put.0) b.1 put.2 in
    let none : i.stopped ≡ None = ap (λ (s : Standing). s.stopped) c.self.view_is ∙ c.requires.fresh.1 in
    let fits = put-fits (tree_by i.parts.leaves) i.parts.leaves.states leaf b.0 put.0 (c.self.invariant.goes_on none).fits b.1 (ap (λ (h : Held). h.kind) put.1.1) (ap (λ (h : Held). h.settings) put.1.1) in
    let next : c.box_next.result ≡ leaf_next (box_state put.0) = c.box_next.ensures ∙ ap leaf_next stands in
    put-holds i.parts.leaves c.put_box.new.self i.routes i.parts.watchers i.events (g.Q.TimeQueue.waiting i.queue) (g.Q.TimeQueue.waiting c.set_next.new.queue) i.parts.work.woken i.parts.work.touched _ _ i.end i.limit i.count i.stopped
    leaf (box_state put.0) c.self.invariant fits put.2
    (c.set_next.ensures ∙ ap (slice_set (g.Q.TimeQueue.waiting i.queue) leaf) next)
