use Rattle.std.proofs.Common.{None, Some}
use Rattle.text_forms.specs.StateOf.{pairs_in}
use Rattle.state_lines.specs.Left.{all_left}
use Rattle.state_lines.proofs.Taken.{no_computed, no_count, then_pairs, read_some, read_no}
use Rattle.state_lines.proofs.read.next_port.Goals as goal

pub returns-in_default-next_value : goal.returns-in_default-next_value
returns-in_default-next_value c =
    no_computed (all_left c.args.words.now) (all_left c.next_value.new.words) c.in-Some.emitted
    c.in-Some.ensures c.in_default-next_value.ensures

pub returns-in_default-next_number : goal.returns-in_default-next_number
returns-in_default-next_number c =
    no_count (all_left c.args.words.now) (all_left c.next_value.new.words)
    (all_left c.next_value-2.new.words) c.in-Some.emitted c.in-Some-next_value.computed
    c.in-Some.ensures c.in-Some-next_value.ensures c.in_default-next_number.ensures.value

pub returns-in_default-2 : goal.returns-in_default-2
returns-in_default-2 c =
    then_pairs (all_left c.args.words.now) (all_left c.next_value.new.words)
    (all_left c.next_value-2.new.words) (all_left c.next_number.new.words) c.in-Some.emitted
    c.in-Some-next_value.computed c.in-Some-next_number.count None c.in-Some.ensures
    c.in-Some-next_value.ensures c.in-Some-next_number.ensures.value
    (read_no (λ v. v.items) (pairs_in c.in-Some-next_number.count
    (all_left c.next_number.new.words)) (all_left c.read_pairs.new.words) c.in_ok-pairs.field-0
    c.in_ok-pairs.ensures c.in_default-2.is)

pub returns : goal.returns
returns c =
    then_pairs (all_left c.args.words.now) (all_left c.next_value.new.words)
    (all_left c.next_value-2.new.words) (all_left c.next_number.new.words) c.in-Some.emitted
    c.in-Some-next_value.computed c.in-Some-next_number.count (Some (
      c.in-Some-2.pairs.items,
      all_left c.read_pairs.new.words,
    )) c.in-Some.ensures c.in-Some-next_value.ensures
    c.in-Some-next_number.ensures.value
    (read_some (λ v. v.items) (pairs_in c.in-Some-next_number.count
    (all_left c.next_number.new.words)) (all_left c.read_pairs.new.words) c.in_ok-pairs.field-0
    c.in-Some-2.pairs c.in_ok-pairs.ensures c.in-Some-2.is)
