use Rattle.std.proofs.Common.{sym, ◌∙◌}
use Rattle.std.proofs.lemmas.List.{append-nil}
use Rattle.atomic_kinds.proofs.PairLemmas.{all_given, nothing_given}
use Rattle.atomic_kinds.proofs.Rising.{due_rises}
use Rattle.atomic_kinds.proofs.cpu.CpuModelAtomicModel.output.Goals as goal

pub give_due-requires : goal.give_due-requires
give_due-requires c = due_rises c.in-Some.due c.args.self.now.pairs.items c.args.self.now.rising (sym c.first_time.ensures ∙ c.in-Some.is)

pub returns-in-Some-clause-ok : goal.returns-in-Some-clause-ok
returns-in-Some-clause-ok c =
    let due = sym c.first_time.ensures ∙ c.in-Some.is in
    rw (all_given c.args.self.now.pairs.items c.in-Some.due due) c.give_due.ensures.ok

pub returns-in-None-clause-ok : goal.returns-in-None-clause-ok
returns-in-None-clause-ok c =
    let none = sym c.first_time.ensures ∙ c.in-None.is in
    rw (nothing_given c.args.self.now.pairs.items none) (sym (append-nil c.args.into.now.items))
