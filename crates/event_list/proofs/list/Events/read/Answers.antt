use Rattle.std.proofs.Common.{arith, ap, sym, ◌∙◌, Ok}
use Rattle.std.proofs.lemmas.Result.{err_from_is_err_and}
use Rattle.event_list.specs.Events.{by_time}
use Rattle.event_list.proofs.Whole.{accepted, refused, too_large}
use Rattle.event_list.proofs.list.Events.read.Goals as goal

pub returns-then-bytes-gt-MAX_FILE_BYTES-clause-err : goal.returns-then-bytes-gt-MAX_FILE_BYTES-clause-err
returns-then-bytes-gt-MAX_FILE_BYTES-clause-err c = λ other. too_large c.args.bytes.now c.args.ports.now (omega arith)

pub returns-in_err-all-clause-err : goal.returns-in_err-all-clause-err
returns-in_err-all-clause-err c =
    let p = err_from_is_err_and c.from_residual.result c.from_residual.ensures.1 in
    rw (p.1, p.2) (λ other. refused c.args.bytes.now c.args.ports.now c.in_err-all.field-0.0 (omega arith) (c.in_err-all.ensures.err other))

pub returns-clause-ok : goal.returns-clause-ok
returns-clause-ok c =
    accepted c.args.bytes.now c.args.ports.now (omega arith) c.in_ok-all.ensures.accepted
    ∙ ap (λ events. Ok events) (sym (c.in_ok-sort_by_time.ensures.order ∙ ap by_time c.in_ok-all.ensures.events))
