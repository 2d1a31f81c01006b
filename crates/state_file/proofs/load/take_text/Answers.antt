use Rattle.std.proofs.Common.{◌≤◌, length, arith}
use Rattle.model_tree.specs.Tree.{leaves}
use Rattle.text_forms.specs.StateOf.{leaves_in, state_of}
use Rattle.run_leaves.specs.Standing.{tree_in}
use Rattle.state_lines.specs.Parts.{parts_of}
use Rattle.state_file.specs.Loads.{with_time}
use Rattle.state_file.proofs.Whole.{in_time, no_first, no_second, past_end, text_taken, too_large}
use Rattle.state_file.proofs.load.take_text.Goals as goal

pub returns-then-bytes-gt-MAX_LOG_BYTES : goal.returns-then-bytes-gt-MAX_LOG_BYTES
returns-then-bytes-gt-MAX_LOG_BYTES g c =
    too_large (tree_in c.args.run.now) c.args.end c.args.bytes.now
    (omega (arith, c.if-bytes-gt-MAX_LOG_BYTES.true))

pub returns-in_default : goal.returns-in_default
returns-in_default g c =
    no_first (tree_in c.args.run.now) c.args.end c.args.bytes.now
    (omega (arith, c.if-bytes-gt-MAX_LOG_BYTES.false)) c.in_default.ensures.value

pub returns-in_default-time_line : goal.returns-in_default-time_line
returns-in_default-time_line g c =
    no_second (tree_in c.args.run.now) c.args.end c.args.bytes.now c.in-Some.behind.now
    (omega (arith, c.if-bytes-gt-MAX_LOG_BYTES.false)) c.in-Some.ensures.value
    c.in_default-time_line.ensures.value

pub returns-then-ms : goal.returns-then-ms
returns-then-ms g c =
    past_end (tree_in c.args.run.now) c.args.end c.args.bytes.now c.in-Some.behind.now
    c.in-Some-time_line.head.0 c.in-Some-time_line.head.1.now
    (omega (arith, c.if-bytes-gt-MAX_LOG_BYTES.false)) c.in-Some.ensures.value
    c.in-Some-time_line.ensures.value
    (omega (arith, c.ms.ensures, c.ms-2.ensures, c.if-ms.true))

pub returns : goal.returns
returns g c =
    let tree = tree_in c.args.run.now in
    let t = c.in-Some-time_line.head.0 in
    let lines = c.in-Some-time_line.head.1.now in
    text_taken c.args.run.now c.go_on.new.run (state_of c.args.bytes.now tree c.args.end)
    (with_time t (leaves_in 3 t (leaves tree) (parts_of lines))) c.go_on.result
    (in_time tree c.args.end c.args.bytes.now c.in-Some.behind.now t lines
    (omega (arith, c.if-bytes-gt-MAX_LOG_BYTES.false)) c.in-Some.ensures.value
    c.in-Some-time_line.ensures.value
    (omega (arith, c.ms.ensures, c.ms-2.ensures, c.if-ms.false)))
    c.go_on.ensures
