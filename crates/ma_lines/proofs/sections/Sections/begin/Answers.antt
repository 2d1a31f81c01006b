use Rattle.std.proofs.Common.{true, false, Some, None, [], ◌∷◌, ◌++◌, ap, sym, ◌∙◌}
use Rattle.std.specs.Prelude.{if◌then◌else◌, is_some}
use Rattle.std.specs.Map.{lookup}
use Rattle.ma_lines.specs.declared.section.LineRefusal.TheVariants.{DuplicateSection}
use Rattle.indexmap.proofs.CallerLemmas.{insert_entry-new}
use Rattle.ma_lines.proofs.ByName.{by_name-push, found-by_name, is_key, none_from, shown, shown-push}
use Rattle.ma_lines.proofs.sections.Sections.begin.Goals as goal

pub returns-then-contains_key-clause-refused : goal.returns-then-contains_key-clause-refused
returns-then-contains_key-clause-refused c = λ _.
    rw (← c.self.view_is, ← c.as_slice.ensures.value)
    (ap (λ b. if b then Some (DuplicateSection c.args.line) else None)
    (sym (found-by_name c.as_slice.result.now c.self.inside.by_name.entries c.self.invariant) ∙ sym c.contains_key.ensures ∙ c.if-contains_key.true))

pub invariant_of-self-2 : goal.invariant_of-self-2
invariant_of-self-2 c =
    rw (c.in-Ok.ensures.entries ∙ insert_entry-new _ c.self.inside.by_name c.args.name _
    (none_from _ (ap (λ t. is_some (lookup (is_key t) c.self.inside.by_name.entries)) (sym c.as_slice.ensures.value) ∙ sym c.contains_key.ensures ∙ c.if-contains_key.false)))
    (by_name-push c.self.inside.by_name.entries c.args.name _ c.self.invariant (sym (c.in_ok-copy.ensures ∙ c.as_slice-2.ensures.value)))

pub returns-clause-new_name : goal.returns-clause-new_name
returns-clause-new_name c =
    rw (← c.self.view_is, ← c.as_slice.ensures.value)
    (ap (λ b. if b then Some (DuplicateSection c.args.line) else None)
    (sym (found-by_name c.as_slice.result.now c.self.inside.by_name.entries c.self.invariant) ∙ sym c.contains_key.ensures ∙ c.if-contains_key.false))

pub returns-clause-begun : goal.returns-clause-begun
returns-clause-begun c =
    ap shown (c.in-Ok.ensures.entries ∙ insert_entry-new _ c.self.inside.by_name c.args.name _
    (none_from _ (ap (λ t. is_some (lookup (is_key t) c.self.inside.by_name.entries)) (sym c.as_slice.ensures.value) ∙ sym c.contains_key.ensures ∙ c.if-contains_key.false)))
    ∙ shown-push c.self.inside.by_name.entries c.args.name _
    ∙ ap (λ ss. ss ++ record { line = c.args.line; name = c.in_ok-copy.field-0; entries = c.new.result.items } ∷ []) c.self.view_is
    ∙ ap (λ name. c.args.self.now ++ record { line = c.args.line; name = name; entries = c.new.result.items } ∷ []) (c.in_ok-copy.ensures ∙ c.as_slice-2.ensures.value)
    ∙ ap (λ es. c.args.self.now ++ record { line = c.args.line; name = c.args.name.items; entries = es } ∷ []) c.new.ensures.items
