-- Refusals that stand in no other example, each at its line.
use Rattle.std.specs.Prelude.{◌≡◌, None, [], ◌∷◌, codes}
use Rattle.source_text.specs.Lines.{file}
use Rattle.atomic_face.specs.declared.class.Class.TheVariants.{Queue}
use Rattle.model_text.specs.declared.kind.Kind.TheVariants.{MissingKey, BadValue, ComponentCycle, UnknownClass, BadInitial}
use Rattle.model_text.specs.Refusals.{refusal}
use Rattle.model_text.specs.Trees.{no_files}
use Rattle.model_text.specs.ModelOf.{ModelRead, model_of, refuses as stops_at}
use Rattle.model_text.specs.Models.{line_model, with_line}
use Rattle.model_text.specs.Examples.{group_with_zones}
use Rattle.model_text.specs.RefusalExamples.{refuses}

-- a cpu over a stock of one queue
abbrev pub without_cpus : ModelRead
without_cpus =
    model_of (file (codes "[top]" ∷ codes "components : c@cpu" ∷ [])) no_files (Queue ∷ []) None

-- each kind of refusal at its line
pub record KindsAreShown : Type 0 where
  -- a height without a width, and neither of them
  pub no_width : refuses (with_line 5 (codes "height : 1") line_model) 3 MissingKey
  pub no_size : refuses (with_line 5 (codes "") line_model) 3 MissingKey
  pub width_beside_dim : refuses (with_line 8 (codes "width : 3") line_model) 5 BadValue
  pub output_again : refuses (codes "[top]" ∷ codes "components : q@queue" ∷ codes "out : a b a"
      ∷ []) 3 BadValue
  pub one_end : refuses (codes "[top]" ∷ codes "components : q@queue" ∷ codes "link : out@q" ∷ []) 3
      BadValue
  pub other_group : refuses
      (with_line 10 (codes "portintransition : v@h(1,1) p") group_with_zones) 10 BadValue
  pub outside : refuses
      (with_line 10 (codes "portintransition : v@g(2,1) p") group_with_zones) 10 BadValue
  pub three_coordinates : refuses
      (with_line 6 (codes "neighbors : (0,0,0)") group_with_zones) 6 BadValue
  -- top, and a section around the one that names it
  pub top_again : refuses (codes "[top]" ∷ codes "components : top" ∷ []) 2 ComponentCycle
  pub around : refuses (codes "[top]" ∷ codes "components : a" ∷ codes "[a]"
      ∷ codes "components : b" ∷ codes "[b]" ∷ codes "components : a" ∷ []) 6 ComponentCycle
  -- a class of which no box was handed in
  pub no_box : without_cpus ≡ stops_at (refusal 2 UnknownClass)
  pub row_of_values : refuses
      (with_line 7 (codes "initialrow : 1 ? -2 3") group_with_zones) 7 BadInitial
