use Rattle.std.proofs.Common.{refl, sym, ◌∙◌, subst, rules, arith}
use Rattle.std.specs.Prelude.{Contains}
use Rattle.room_edge.proofs.Adding.{adds-nil, adds_piece}
use Rattle.room_edge.proofs.Only.{OnlyMade-refl, OnlyMade-trans}
use Rattle.room_edge.proofs.whole.write_all.Goals as goal

pub loop-done-init : goal.loop-done-init
loop-done-init g c = record { within = omega arith; made = sym (adds-nil _ _); created = refl; counts_faults = refl; only = OnlyMade-refl _ }

pub loop-done-preserved : goal.loop-done-preserved
loop-done-preserved g c =
    let was = c.loop-done.invariant in
    let step = c.in-Ok.ensures in
    record {
      within = search rules;
      made = adds_piece _ _ _ _ _ _ _ was.made step.made;
      created = step.created ∙ was.created;
      counts_faults = step.failed ∙ was.counts_faults;
      only = OnlyMade-trans _ _ _ was.only step.only;
    }

pub append-requires : goal.append-requires
append-requires g c = subst (λ names. Contains names c.args.name.now) (sym c.loop-done.invariant.created) c.requires
