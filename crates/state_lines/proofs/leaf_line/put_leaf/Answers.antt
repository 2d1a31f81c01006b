use Rattle.model_leaves.specs.PlaneTexts.{leaf_text}
use Rattle.state_lines.proofs.Appended.{appended_keeps, either_keeps}
use Rattle.state_lines.proofs.leaf_line.put_leaf.Goals as goal

pub returns-clause-kept : goal.returns-clause-kept
returns-clause-kept c =
    either_keeps c.leaf_text.result _ c.args.into.now.items c.leaf_text.new.into.items
    (λ ok. appended_keeps c.args.model.now c.args.leaf leaf_text _ _ c.requires ok)
    c.leaf_text.ensures.ok c.leaf_text.ensures.err
