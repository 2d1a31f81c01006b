-- What counts where one phase refuses more than one thing.
use Rattle.std.specs.Prelude.{List, [], ◌∷◌, codes}
use Rattle.quantity.specs.Bytes.{Bytes}
use Rattle.model_text.specs.declared.kind.Kind.TheVariants.{BadLine, DuplicateSection, DuplicateKey, MissingKey, BadValue, DuplicateComponent, ComponentCycle, BadParameter, UnknownPort, NotANeighbour, NoSection}
use Rattle.model_text.specs.Models.{line_model, port_model, with_line}
use Rattle.model_text.specs.RefusalExamples.{refuses}

-- a section without items that is met before one of a wrong type, and stands behind it
abbrev pub met_before : List Bytes
met_before =
    codes "[top]" ∷ codes "components : a b" ∷ codes "[b]" ∷ codes "type : cells" ∷ codes "[a]"
    ∷ codes "in : p" ∷ []

-- two generators, of which the later one has its parameters first
abbrev pub two_generators : List Bytes
two_generators =
    codes "[top]" ∷ codes "components : a@generator b@generator" ∷ codes "[b]"
    ∷ codes "period : 0:0:0:0" ∷ codes "[a]" ∷ codes "count : 0" ∷ []

-- of two refusals of a phase the first that is met counts
pub record StepsFollow : Type 0 where
  -- lines: the first that is met
  pub line_before_section : refuses (codes "[a]" ∷ codes "x" ∷ codes "[a]" ∷ []) 2 BadLine
  pub section_before_line : refuses (codes "[a]" ∷ codes "[a]" ∷ codes "x" ∷ []) 2 DuplicateSection
  -- the tree: the first section and the first item that are met
  pub met_first : refuses met_before 5 MissingKey
  pub form_before_name : refuses (codes "[top]" ∷ codes "components : top@" ∷ []) 2 BadValue
  pub cycle_before_name : refuses (codes "[top]" ∷ codes "components : top@queue top@queue" ∷ []) 2
      ComponentCycle
  pub name_before_section : refuses (codes "[top]" ∷ codes "components : q@queue q" ∷ []) 2
      DuplicateComponent
  -- keys: the least line, and on one line the least number
  pub least_line_of_keys : refuses (with_line 8 (codes "border : round")
      (with_line 7 (codes "dim : (1,3)") line_model)) 7 DuplicateKey
  pub section_is_least : refuses (with_line 8 (codes "border : round")
      (with_line 12 (codes "") line_model)) 3 MissingKey
  pub least_number : refuses (with_line 8 (codes "type : round") line_model) 8 DuplicateKey
  -- the stock: the first component in declared order
  pub declared_first : refuses two_generators 6 BadParameter
  -- rules and links: the least line
  pub least_rule : refuses (with_line 14 (codes "rule : { (0,2) } 100 { t }")
      (with_line 15 (codes "rule : 1") line_model)) 14 NotANeighbour
  pub name_is_least : refuses (with_line 12 (codes "localtransition : q")
      (with_line 14 (codes "rule : 1") line_model)) 12 NoSection
  pub least_link : refuses (with_line 13 (codes "link : x v@g(0,0)")
      (with_line 4 (codes "link : p in@h") port_model)) 4 UnknownPort
