use Rattle.std.proofs.Common.{◌≡◌, None, Some, sym, ap, ◌∙◌, subst}
use Rattle.std.specs.Prelude.{Bool, Vec, ℤ}
use Rattle.std.specs.Option.{option_map}
use Rattle.std.specs.declared.alloc.Global.{Global}
use Rattle.std.proofs.lemmas.Result.{IfOk-weaker}
use Rattle.atomic_face.specs.Held.{Held}
use Rattle.model_leaves.specs.declared.table.Model.{Model}
use Rattle.model_leaves.specs.Leaves.{AtLeaf}
use Rattle.model_tree.specs.Tree.{Leaf}
use Rattle.run_model.specs.Cycle.{box_state}
use Rattle.run_model.specs.Fitting.{OfLeaf}
use Rattle.sparse_cycle.specs.Sparse.{leaf_of}
use Rattle.run_leaves.specs.Standing.{tree_in}
use Rattle.state_lines.specs.LeafLines.{box_in}
use Rattle.state_file.specs.Taken.{IsBoxPut, IsTaken}
use Rattle.state_file.proofs.Putting.{box_taken, its_box, no_numbers_taken}
use Rattle.state_file.proofs.leaf.take_box.Goals as goal

pub returns-in_default : goal.returns-in_default
returns-in_default g c =
    let run = c.args.run.now in
    let line = c.args.line.now in
    let b = its_box (leaf_of run.state.leaf_states c.args.leaf) c.requires.boxed in
    no_numbers_taken run run c.args.leaf c.args.t line b.box b.is c.requires.fits
    (subst (λ (m : Model). AtLeaf m c.args.leaf (λ (l : Leaf). box_in l line ≡ None))
    c.model.ensures
    (λ settings l there. c.in_ok-found.ensures settings l there
    ∙ ap (option_map (λ (v : Vec ℤ Global). v.items)) c.in_default.is))

pub returns : goal.returns
returns g c =
    let run = c.args.run.now in
    let new = c.put_numbers.new.run in
    let line = c.args.line.now in
    let numbers = c.deref.result.now in
    let b = its_box (leaf_of run.state.leaf_states c.args.leaf) c.requires.boxed in
    IfOk-weaker c.put_numbers.result
    (λ (put : Bool). (b : Held) → leaf_of run.state.leaf_states c.args.leaf ≡ box_state b
    → IsBoxPut c.args.t c.args.leaf b numbers run new put)
    (λ (taken : Bool). OfLeaf (tree_in run) c.args.leaf
    (IsTaken c.args.t line c.args.leaf run new taken))
    (λ put h. box_taken run new c.args.leaf c.args.t line b.box b.is c.requires.fits numbers put
    (subst (λ (m : Model). AtLeaf m c.args.leaf (λ (l : Leaf). box_in l line ≡ Some numbers))
    c.model.ensures
    (λ settings l there. c.in_ok-found.ensures settings l there
    ∙ ap (option_map (λ (v : Vec ℤ Global). v.items)) c.in-Some.is
    ∙ ap Some (sym c.deref.ensures.value)))
    (h b.box b.is))
    c.put_numbers.ensures
