use Rattle.std.proofs.Common.{sym, subst}
use Rattle.answer_model.specs.declared.status.Status.TheVariants.{ReadFault}
use Rattle.answer_model.specs.Answer.{read_fault_line}
use Rattle.answer_model.specs.Endings.{Says}
use Rattle.run_inputs.specs.declared.unread.Unread.{Unread}
use Rattle.run_inputs.specs.Unread.{TellsUnread}
use Rattle.run_inputs.proofs.tell.tell_unread.Goals as goal

pub returns-in-Usage : goal.returns-in-Usage
returns-in-Usage g c =
    let old = g.R.Room.outside c.args.room.now in
    let new = g.R.Room.outside c.tell_usage.new.room in
    let given = c.tell_usage.result in
    subst (λ (why : Unread). TellsUnread why old new given) (sym c.in-Usage.is) c.tell_usage.ensures

pub returns-in-ReadFault : goal.returns-in-ReadFault
returns-in-ReadFault g c =
    let old = g.R.Room.outside c.args.room.now in
    let new = g.R.Room.outside c.complain_of-in-ReadFault.new.room in
    let given = c.complain_of-in-ReadFault.result in
    subst (λ (why : Unread). TellsUnread why old new given) (sym c.in-ReadFault.is)
    (subst (λ name. Says (read_fault_line name) ReadFault old new given) c.as_bytes-in-ReadFault.ensures c.complain_of-in-ReadFault.ensures)
