use Rattle.std.proofs.Common.{◌≡◌, ◌+◌, ◌≤◌, Option, None, sym, ap, ◌∙◌, subst, arith}
use Rattle.std.specs.Option.{option_map}
use Rattle.model_leaves.specs.declared.table.Model.{Model}
use Rattle.model_leaves.specs.Models.{tree_of}
use Rattle.model_tree.specs.Tree.{leaf_count}
use Rattle.text_forms.specs.StateOf.{Saved}
use Rattle.asked_words.specs.Shown.{asked_of}
use Rattle.run_leaves.specs.Seated.{settings_at}
use Rattle.run_leaves.specs.Standing.{tree_in}
use Rattle.run_leaves.proofs.Counted.{leaves-counted}
use Rattle.run_loop.specs.Groups.{IsFoundIn, CanShowIn, showing_at_start}
use Rattle.run_loop.specs.Emitted.{with_emitted, AreCells, AreUnbegun}
use Rattle.run_loop.proofs.Saving.{visits_named}
use Rattle.run_loop.proofs.Emitted.{cells_at_start, unbegun_at_start, from_start, shown_from}
use Rattle.run_loop.proofs.begin.drawn_before_run.Goals as goal

pub drawn_at_start-requires-clause-found : goal.drawn_at_start-requires-clause-found
drawn_at_start-requires-clause-found g c = subst (λ (m : Model). IsFoundIn m (asked_of c.args.asked.now).frames c.args.group) (sym c.model.ensures) c.requires.found

pub drawn_at_start-requires-clause-shows : goal.drawn_at_start-requires-clause-shows
drawn_at_start-requires-clause-shows g c =
    subst (λ (m : Model). CanShowIn m (asked_of c.args.asked.now).frames) (sym c.model.ensures) (settings_at (g.C.Cycles.standing c.args.run.now).settings, c.requires.shows)

pub returns-then-is_none-clause-drawn : goal.returns-then-is_none-clause-drawn
returns-then-is_none-clause-drawn g c = λ events from begins.
    let s = g.C.Cycles.standing c.args.run.now in
    let frames = (asked_of c.args.asked.now).frames in
    subst (λ (m : Model). c.in_ok-drawn.drawn ≡ showing_at_start (tree_of m (settings_at s.settings)) None frames) c.model.ensures (c.in_ok-drawn.ensures (settings_at s.settings))
    ∙ ap (λ (f : Option Saved). showing_at_start (tree_in s) f frames) (from_start c.args.asked.now.given.state from c.if-is_none.ensures begins.asked)

pub show_emitted-requires-clause-unserved : goal.show_emitted-requires-clause-unserved
show_emitted-requires-clause-unserved g c = c.requires.unserved c.if-is_none.ensures

pub show_emitted-requires-clause-few : goal.show_emitted-requires-clause-few
show_emitted-requires-clause-few g c =
    let s = g.C.Cycles.standing c.args.run.now in
    omega (arith, leaves-counted (tree_in s) s.state.leaf_states c.requires.fits, c.requires.few)

pub show_emitted-requires-clause-unbegun : goal.show_emitted-requires-clause-unbegun
show_emitted-requires-clause-unbegun g c =
    let s = g.C.Cycles.standing c.args.run.now in
    let frames = (asked_of c.args.asked.now).frames in
    let is = subst (λ (m : Model). c.in_ok-drawn.drawn ≡ showing_at_start (tree_of m (settings_at s.settings)) None frames) c.model.ensures (c.in_ok-drawn.ensures (settings_at s.settings)) in
    subst AreUnbegun (sym is) (unbegun_at_start (tree_in s) frames)

pub show_emitted-requires-clause-cells : goal.show_emitted-requires-clause-cells
show_emitted-requires-clause-cells g c =
    let s = g.C.Cycles.standing c.args.run.now in
    let frames = (asked_of c.args.asked.now).frames in
    let is = subst (λ (m : Model). c.in_ok-drawn.drawn ≡ showing_at_start (tree_of m (settings_at s.settings)) None frames) c.model.ensures (c.in_ok-drawn.ensures (settings_at s.settings)) in
    subst (AreCells s.state.leaf_states) (sym is) (cells_at_start c.groups_stand.ensures (tree_in s) s.state.leaf_states frames c.requires.fits)

pub returns-in_err-show_emitted-clause-visits : goal.returns-in_err-show_emitted-clause-visits
returns-in_err-show_emitted-clause-visits g c =
    let s = g.C.Cycles.standing c.args.run.now in
    let within : c.show_emitted.new.steps ≤ c.args.steps.now + leaf_count (tree_in s) =
    omega (arith, leaves-counted (tree_in s) s.state.leaf_states c.requires.fits, c.show_emitted.ensures.visits) in
    visits_named c.args.asked.now.given.state (tree_in s) c.args.steps.now c.show_emitted.new.steps c.if-is_none.ensures within

pub returns-clause-drawn : goal.returns-clause-drawn
returns-clause-drawn g c = λ events from begins.
    let s = g.C.Cycles.standing c.args.run.now in
    let frames = (asked_of c.args.asked.now).frames in
    let is = subst (λ (m : Model). c.in_ok-drawn.drawn ≡ showing_at_start (tree_of m (settings_at s.settings)) None frames) c.model.ensures (c.in_ok-drawn.ensures (settings_at s.settings)) in
    c.in_ok-show_emitted.ensures.shown ∙ ap (option_map (with_emitted s.state.leaf_states)) is
    ∙ shown_from (tree_in s) frames c.args.asked.now.given.state events from s.state c.if-is_none.ensures begins.asked begins.state

pub returns-clause-visits : goal.returns-clause-visits
returns-clause-visits g c =
    let s = g.C.Cycles.standing c.args.run.now in
    let within : c.show_emitted.new.steps ≤ c.args.steps.now + leaf_count (tree_in s) =
    omega (arith, leaves-counted (tree_in s) s.state.leaf_states c.requires.fits, c.show_emitted.ensures.visits) in
    visits_named c.args.asked.now.given.state (tree_in s) c.args.steps.now c.show_emitted.new.steps c.if-is_none.ensures within
