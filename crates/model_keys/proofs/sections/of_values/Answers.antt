use Rattle.std.proofs.Common.{Bool, ◌++◌, sym, subst}
use Rattle.std.specs.Prelude.{if◌then◌else◌}
use Rattle.ma_lines.specs.InCode.{section_of}
use Rattle.model_text.specs.Keys.{keys_of, missing_key, off_form, forms_of, forms, group_forms, double_space, of_group}
use Rattle.model_walk.specs.LeastOf.{IsLeastOf}
use Rattle.model_keys.proofs.Parts.{two_parts}
use Rattle.model_keys.proofs.sections.of_values.Goals as goal

pub returns-then-is_of_group : goal.returns-then-is_of_group
returns-then-is_of_group c =
    let s = section_of c.args.section.now in
    let off : IsLeastOf (off_form (group_forms s) s.entries) c.args.off = subst (λ (b : Bool). IsLeastOf (off_form (forms_of s (keys_of b)) s.entries) c.args.off) c.if-is_of_group.true c.requires in
    subst (λ (b : Bool). IsLeastOf (if b then of_group s else off_form (forms s) s.entries) c.least-then-is_of_group.result) (sym c.if-is_of_group.true)
    (two_parts (missing_key s ++ off_form (group_forms s) s.entries) (double_space s) _ _ _
    (two_parts (missing_key s) (off_form (group_forms s) s.entries) _ _ _ c.missing.ensures off c.least.ensures) c.double_space.ensures c.least-then-is_of_group.ensures)
