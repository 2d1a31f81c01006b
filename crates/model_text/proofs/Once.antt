-- No parameter that may stand once stands again.
use Rattle.std.proofs.Common.{◌≡◌, true, false, Option, Some, None, List, [], ◌∷◌, map, refl, ap, arith}
use Rattle.std.specs.Prelude.{not, IfSome}
use Rattle.std.specs.List.{filter, flat_map}
use Rattle.quantity.specs.Bytes.{Bytes, is_among, has_repeat}
use Rattle.ma_lines.specs.declared.section.Entry.{Entry}
use Rattle.ma_lines.specs.Sections.{Section}
use Rattle.atomic_face.specs.declared.class.Class.{Class}
use Rattle.atomic_face.specs.declared.params.Param.{Param}
use Rattle.atomic_face.specs.ClassNames.{class_named}
use Rattle.atomic_face.specs.Settings.{once_keys}
use Rattle.atomic_face.specs.Once.{are_once}
use Rattle.model_text.specs.Keyed.{section_named}
use Rattle.model_text.specs.Walk.{item_name, class_of, reached_sections, atomics}
use Rattle.model_text.specs.Keys.{again, of_section, parameters_again, of_atomic}
use Rattle.model_text.specs.Stock.{param_of, params_in}
use Rattle.model_text.specs.BuildLaws.{ParametersStandOnce}
use Rattle.model_text.proofs.Basics.{both_empty, least_none, each_empty, all_imply, same_as_itself}
use Rattle.model_text.proofs.Keys.{same_bytes}

-- the keys that may stand once, of these entries
abbrev kept : List Bytes → List Entry → List Bytes
kept once es = filter (is_among once) (map (λ (p : Param). p.key) (map param_of es))

none_kept : (once before : List Bytes) (t : Bytes) (es : List Entry) → again once before es ≡ [] → is_among once t ≡ true → is_among before t ≡ true → is_among (kept once es) t ≡ false
none_kept once before t [] h o b = refl
none_kept once before t (e ∷ es) h o b = grind (arith, same_bytes t e.key, none_kept once (e.key ∷ before) t es)

no_repeat : (once before : List Bytes) (es : List Entry) → again once before es ≡ [] → has_repeat (kept once es) ≡ false
no_repeat once before [] h = refl
no_repeat once before (e ∷ es) h = grind (arith, none_kept once (e.key ∷ before) e.key es, same_as_itself e.key, no_repeat once (e.key ∷ before) es)

once_of : (o : Option Class) (s : Option Section) → parameters_again o s ≡ [] → IfSome o (λ class. are_once class (params_in s) ≡ true)
once_of None s e = tt
once_of (Some class) None e = refl
once_of (Some class) (Some s) e = ap not (no_repeat (once_keys class) [] s.entries e)

pub parameters_stand_once : ParametersStandOnce
parameters_stand_once ss h =
    let parts = both_empty (flat_map of_section (reached_sections ss)) (flat_map (of_atomic ss) (atomics ss)) (least_none _ h) in
    all_imply (λ i e. once_of (class_named (class_of i)) (section_named ss (item_name i)) e) (atomics ss) (each_empty (of_atomic ss) (atomics ss) parts.1)
