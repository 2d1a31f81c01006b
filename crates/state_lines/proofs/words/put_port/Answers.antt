use Rattle.state_lines.proofs.Appended.{kept_on}
use Rattle.state_lines.proofs.words.put_port.Goals as goal

pub returns-in_err-put_value-2-clause-kept : goal.returns-in_err-put_value-2-clause-kept
returns-in_err-put_value-2-clause-kept c =
    kept_on c.args.into.now.items c.put_value.new.into.items c.put_value-2.new.into.items c.put_value.ensures.kept c.put_value-2.ensures.kept

pub returns-in_err-put_number-clause-kept : goal.returns-in_err-put_number-clause-kept
returns-in_err-put_number-clause-kept c =
    let start = c.args.into.now.items in
    let second = c.put_value-2.new.into.items in
    kept_on start second c.put_number.new.into.items
    (kept_on start c.put_value.new.into.items second c.put_value.ensures.kept c.put_value-2.ensures.kept) c.put_number.ensures.kept

pub returns-clause-kept : goal.returns-clause-kept
returns-clause-kept c =
    let start = c.args.into.now.items in
    let second = c.put_value-2.new.into.items in
    let third = c.put_number.new.into.items in
    kept_on start third c.put_pairs.new.into.items
    (kept_on start second third
    (kept_on start c.put_value.new.into.items second c.put_value.ensures.kept c.put_value-2.ensures.kept) c.put_number.ensures.kept) c.put_pairs.ensures.kept
