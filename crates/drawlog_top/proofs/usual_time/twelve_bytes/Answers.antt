use Rattle.drawlog_top.proofs.TwelveBytes.{twelve_are}
use Rattle.drawlog_top.proofs.usual_time.twelve_bytes.Goals as goal

pub returns : goal.returns
returns c =
    let made = c.in_ok-time.ensures in
    let hours = c.in_ok-hours.ensures in
    let minutes = c.in_ok-minutes.ensures in
    let seconds = c.in_ok-seconds.ensures in
    let rest = c.in_ok-milliseconds.ensures in (
      made.is_time,
      twelve_are c.args.text.now c.in_ok-time.time c.in_ok-hours.hours c.in_ok-minutes.minutes c.in_ok-seconds.seconds c.in_ok-milliseconds.milliseconds (c.has_marks.ensures c.if-not-has_marks.false) made hours.0
          (hours.1, hours.2) (minutes.1, minutes.2) (seconds.1, seconds.2) (rest.1, rest.2, rest.3),
    )
