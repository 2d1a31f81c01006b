use Rattle.std.proofs.Common.{map}
use Rattle.std.specs.Prelude.{codes}
use Rattle.std.specs.Fmt.{signed_decimal}
use Rattle.state_lines.proofs.Appended.{kept_on, leaf_made, on_ok}
use Rattle.state_lines.proofs.leaf_line.put_box.Goals as goal

pub returns-clause-kept : goal.returns-clause-kept
returns-clause-kept c =
    kept_on c.args.into.now.items c.put_leaf.new.into.items c.put_words.new.into.items
    (kept_on c.args.into.now.items c.put.new.into.items c.put_leaf.new.into.items c.put.ensures.kept
    c.put_leaf.ensures.kept)
    c.put_words.ensures.kept

pub returns-clause-ok : goal.returns-clause-ok
returns-clause-ok c =
    on_ok c.put_words.result _ _
    (λ last settings l there.
    leaf_made c.args.into.now.items (codes "box") l (map signed_decimal c.args.words.now)
    c.put.new.into.items c.put_leaf.new.into.items c.put_words.new.into.items
    c.in_ok-put.ensures.ok (c.in_ok-put_leaf.ensures.ok settings l there) last)
    c.put_words.ensures.ok
