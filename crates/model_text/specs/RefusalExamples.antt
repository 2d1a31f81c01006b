-- Models that are refused: each kind, and the order of phases.
use Rattle.std.specs.Prelude.{◌≡◌, ℕ, ◌+◌, ◌-◌, Bool, true, false, List, [], ◌∷◌, ◌++◌, decimal, codes, ◌/◌, ◌%◌, take, replicate, None}
use Rattle.std.specs.List.{flat_map, range_with_len}
use Rattle.quantity.specs.Bytes.{Bytes}
use Rattle.source_text.specs.Lines.{file}
use Rattle.model_text.specs.declared.kind.Kind.{Kind}
use Rattle.model_text.specs.declared.kind.Kind.TheVariants.{BadLine, DuplicateSection, NoTop, DuplicateKey, MissingKey, BadValue, UnknownComponent, DuplicateComponent, ComponentCycle, UnknownClass, OutOfStock, BadParameter, UnknownPort, SelfLink, PassThrough, DuplicateLink, TooManyRoutes, BadRule, BadSort, RandomRefused, UnknownFunction, NotANeighbour, BadZone, BadInitial, TooLarge, NoSection, UnknownVariable, UnknownNeighbourPort}
use Rattle.model_text.specs.Refusals.{refusal, kind_text}
use Rattle.ma_lines.specs.declared.section.Entry.{Entry}
use Rattle.model_text.specs.Rules.{too_many}
use Rattle.model_text.specs.Trees.{no_files}
use Rattle.model_text.specs.ModelOf.{ModelOf, model, missing, refused, model_of}
use Rattle.model_text.specs.Models.{line_model, port_model, cell_model, with_line, without_line}
use Rattle.model_text.specs.Examples.{boxes, model_without_files, light_model, group_with_zones}

abbrev pub refuses : List Bytes → ℕ → Kind → Type 0
refuses ls line kind = model_without_files ls ≡ refused (refusal line kind)

pub record KindsHaveTexts : Type 0 where
  pub first : kind_text BadLine ≡ codes "1 BadLine"
  pub second : kind_text DuplicateSection ≡ codes "2 DuplicateSection"
  pub self_link : kind_text SelfLink ≡ codes "15 SelfLink"
  pub routes : kind_text TooManyRoutes ≡ codes "18 TooManyRoutes"
  pub rule : kind_text BadRule ≡ codes "19 BadRule"
  pub last : kind_text UnknownNeighbourPort ≡ codes "31 UnknownNeighbourPort"

-- ---- rows of the line model

pub record LineIsRefused : Type 0 where
  pub no_colon : refuses (with_line 2 (codes "components line") line_model) 2 BadLine
  pub section_again : refuses (line_model ++ codes "[line]" ∷ []) 16 DuplicateSection
  pub no_rules : refuses (without_line 12 line_model) 3 MissingKey
  pub absent_rules : refuses (with_line 12 (codes "localtransition : q") line_model) 12 NoSection
  pub random : refuses
      (with_line 14 (codes "rule : { uniform(0,1) } 100 { t }") line_model) 14 RandomRefused
  pub stranger : refuses
      (with_line 14 (codes "rule : { (0,2) } 100 { t }") line_model) 14 NotANeighbour
  pub sort : refuses (with_line 14 (codes "rule : { (0,0) + t } 100 { t }") line_model) 14 BadSort
  pub unknown : refuses
      (with_line 14 (codes "rule : { power(2,3) } 100 { t }") line_model) 14 UnknownFunction
  pub short : refuses (with_line 14 (codes "rule : 1 100") line_model) 14 BadRule
  pub off_form : refuses
      (with_line 8 (codes "border : round")
      (with_line 11 (codes "initialrowvalue : 3 010") line_model)) 8 BadValue
  pub row : refuses (with_line 11 (codes "initialrowvalue : 1 010") line_model) 11 BadInitial
  pub far : refuses (with_line 9 (codes "neighbors : (0,65) (0,1)") line_model) 9 BadValue
  pub other_group : refuses (with_line 9 (codes "neighbors : lime(0,1)") line_model) 9 BadValue
  pub zone : refuses (with_line 10 (codes "zone : r { (0,0)..(0,3) }") line_model) 10 BadZone
  pub twice_sized : refuses (with_line 8 (codes "height : 1") line_model) 5 BadValue
  pub second_dim : refuses (with_line 8 (codes "dim : no") line_model) 8 DuplicateKey

-- ---- one cell

abbrev pub cell_rule : Bytes → List Bytes
cell_rule rule = cell_model [] ((codes "rule : " ++ rule) ∷ [])

pub record CellIsRefused : Type 0 where
  pub random : refuses (cell_rule (codes "{ uniform(0,1) } 100 { t }")) 10 RandomRefused
  pub stranger : refuses (cell_rule (codes "{ (0,1) } 100 { t }")) 10 NotANeighbour
  pub sort : refuses (cell_rule (codes "{ (0,0) + t } 100 { t }")) 10 BadSort
  pub unknown : refuses (cell_rule (codes "{ power(2,3) } 100 { t }")) 10 UnknownFunction
  pub left_open : refuses (cell_rule (codes "1 100 { t")) 10 BadLine
  pub no_variable : refuses
      (cell_model (codes "statevariables : n" ∷ []) (codes "rule : { $z } 100 { t }" ∷ [])) 11
      UnknownVariable
  pub no_port : refuses
      (cell_model (codes "neighborports : p" ∷ []) (codes "rule : { ~q := 1; } 100 { t }" ∷ []))
      11 UnknownNeighbourPort
  pub values_alone : refuses
      (cell_model (codes "statevalues : 3" ∷ []) (codes "rule : 0 100 { t }" ∷ [])) 7 BadValue
  pub too_few_values : refuses
      (cell_model (codes "statevariables : a b" ∷ codes "statevalues : 3" ∷ []) []) 8 BadValue
  pub port_out : refuses (cell_model (codes "neighborports : p out" ∷ []) []) 7 BadValue

-- ---- sections within sections

abbrev pub name_by_number : ℕ → Bytes
name_by_number n = codes "a" ++ decimal n

-- sections of these numbers, each with the next as its component
abbrev pub chain : List ℕ → List Bytes
chain [] = []
chain (n ∷ ns) =
    (91 ∷ name_by_number n ++ 93 ∷ []) ∷ (codes "components : " ++ name_by_number (n + 1))
    ∷ chain ns

-- so many sections below top, the last with an atomic component
abbrev pub deep : ℕ → List Bytes
deep n =
    codes "[top]" ∷ (codes "components : " ++ name_by_number 1)
    ∷ (chain (range_with_len 1 (n - 1)) ++ (91 ∷ name_by_number n ++ 93 ∷ [])
    ∷ codes "components : q@queue"
    ∷ [])

abbrev pub is_model : ModelOf → Bool
is_model (model t) = true
is_model (missing name) = false
is_model (refused r) = false

pub record DepthIsBounded : Type 0 where
  pub most : is_model (model_without_files (deep 16)) ≡ true
  pub too_deep : refuses (deep 17) 34 TooLarge

-- ---- components

pub record ComponentsAreRefused : Type 0 where
  pub no_top : refuses [] 0 NoTop
  pub no_item : refuses (codes "[top]" ∷ codes "components :" ∷ []) 1 MissingKey
  pub itself : refuses
      (codes "[top]" ∷ codes "components : q@queue" ∷ codes "link : out@q in@q" ∷ []) 3 SelfLink
  pub through : refuses
      (codes "[top]" ∷ codes "components : q@queue" ∷ codes "in : a" ∷ codes "out : b"
      ∷ codes "link : a b" ∷ []) 5 PassThrough
  pub out_of_stock : refuses
      (codes "[top]" ∷ codes "components : a@queue b@queue" ∷ codes "components : c@queue" ∷ []) 3
      OutOfStock
  pub no_class : refuses (codes "[top]" ∷ codes "components : a@server" ∷ []) 2 UnknownClass
  pub cycle : refuses
      (codes "[top]" ∷ codes "components : a" ∷ codes "[a]" ∷ codes "components : b@queue a" ∷ [])
      4 ComponentCycle
  pub again : refuses (codes "[top]" ∷ codes "components : a@queue a@cpu" ∷ []) 2 DuplicateComponent
  pub no_section : refuses (codes "[top]" ∷ codes "components : a" ∷ []) 2 UnknownComponent
  pub top_group : refuses (codes "[top]" ∷ codes "type : cell" ∷ []) 2 BadValue
  pub no_form : refuses (codes "[top]" ∷ codes "components : a@" ∷ []) 2 BadValue
  pub no_period : refuses
      (codes "[top]" ∷ codes "components : q@generator" ∷ codes "[q]" ∷ codes "period : 0:0:0:0"
      ∷ []) 4 BadParameter
  pub no_port : refuses
      (codes "[top]" ∷ codes "components : q@queue" ∷ codes "link : out@q a" ∷ []) 3 UnknownPort
  pub same_link : refuses
      (codes "[top]" ∷ codes "components : q@queue" ∷ codes "out : a" ∷ codes "link : out@q a"
      ∷ codes "link : out@q  a" ∷ []) 5 DuplicateLink

pub record TablesAreRefused : Type 0 where
  pub no_state : refuses (light_model (codes "hold : blue 00:00:00:030 1 red")) 9 BadParameter
  pub state_again : refuses (light_model (codes "hold : green 00:00:00:030 1 red")) 10 BadParameter
  pub bad_states : refuses
      (with_line 8 (codes "states : red red")
      (light_model (codes "hold : blue 00:00:00:030 1 red"))) 8 BadParameter

pub record SectionsAreRefused : Type 0 where
  pub parameter_again : refuses
      (codes "[top]" ∷ codes "components : q@queue" ∷ codes "[q]" ∷ codes "preparation : x"
      ∷ codes "preparation : 0:0:0:1" ∷ []) 5 DuplicateKey
  pub other_key_again : is_model
      (model_without_files
      (codes "[top]" ∷ codes "components : q@queue" ∷ codes "[q]" ∷ codes "delay : x"
      ∷ codes "delay : y" ∷ [])) ≡ true
  pub port_again : refuses
      (codes "[top]" ∷ codes "components : q@queue" ∷ codes "in : a b" ∷ codes "in : a" ∷ []) 4
      BadValue
  pub type_again : refuses
      (codes "[top]" ∷ codes "components : q@queue" ∷ codes "type : coupled"
      ∷ codes "type : coupled" ∷ []) 4 DuplicateKey
  pub no_type : refuses
      (codes "[top]" ∷ codes "components : q@queue" ∷ codes "type : cells" ∷ []) 3 BadValue
  pub unreached : is_model
      (model_without_files
      (codes "[top]" ∷ codes "components : q@queue" ∷ codes "[r]" ∷ codes "type : cells"
      ∷ [])) ≡ true

-- ---- files cut off, and limits

abbrev pub first_bytes : ℕ → ModelOf
first_bytes n = (model_of (take n (file line_model)) no_files boxes None).found

pub record CutFilesAreRefused : Type 0 where
  pub no_rules : first_bytes 217 ≡ refused (refusal 12 NoSection)
  pub half_a_rule : first_bytes 250 ≡ refused (refusal 14 BadLine)
  pub one_rule : is_model (first_bytes 252) ≡ true

-- a value in so many parentheses
abbrev pub nested_rule : ℕ → List Bytes
nested_rule n =
    cell_rule (codes "{ " ++ replicate n 40 ++ codes "1" ++ replicate n 41 ++ codes " } 100 { t }")

-- a rule of a section, at line 9
abbrev pub some_rule : Entry
some_rule = record { line = 9; key = codes "rule"; value = codes "0 100 { t }" }

-- so many different offsets
abbrev pub many_offsets : ℕ → List Bytes
many_offsets n =
    with_line 6
    (codes "neighbors : "
    ++ flat_map (λ k. codes "(" ++ decimal (k / 60) ++ codes "," ++ decimal (k % 60) ++ codes ")")
    (range_with_len 0 n)) (cell_rule (codes "0 100 { t }"))

pub record LimitsAreKept : Type 0 where
  pub cells : refuses
      (with_line 5 (codes "dim : (1024,1025)") (cell_rule (codes "0 100 { t }"))) 3 TooLarge
  pub most_nested : is_model (model_without_files (nested_rule 64)) ≡ true
  pub nested_deeper : refuses (nested_rule 65) 10 TooLarge
  pub most_offsets : is_model (model_without_files (many_offsets 128)) ≡ true
  pub more_offsets : refuses (many_offsets 129) 3 TooLarge
  pub most_rules : too_many (replicate 1024 some_rule) ≡ []
  pub more_rules : too_many (replicate 1025 some_rule) ≡ refusal 9 TooLarge ∷ []
  pub delay : refuses (with_line 7 (codes "defaultdelaytime : 360000000") line_model) 7 BadValue
  pub most_variables : is_model
      (model_without_files (cell_model (codes "statevariables : a b c d e f g h" ∷ []) [])) ≡ true
  pub more_variables : refuses
      (cell_model (codes "statevariables : a b c d e f g h i" ∷ []) []) 7 BadValue
  pub more_ports : refuses (cell_model (codes "neighborports : a b c d" ∷ []) []) 7 BadValue

-- ---- groups, and the order of phases

pub record GroupsAreRefused : Type 0 where
  pub outside : refuses (with_line 13 (codes "link : in v@g(0,1)") port_model) 13 UnknownPort
  pub other_group : refuses (with_line 13 (codes "link : in v@h(0,0)") port_model) 13 UnknownPort
  pub three_ends : refuses (with_line 13 (codes "link : in v@g(0,0) x") port_model) 13 BadValue
  pub own_ends : refuses (with_line 13 (codes "link : in out") port_model) 13 UnknownPort
  pub itself : refuses (with_line 13 (codes "link : out@g(0,0) v@g(0,0)") port_model) 13 SelfLink
  pub second_rule : refuses
      (with_line 13 (codes "portintransition : v@g(1,1) r") group_with_zones) 13 BadValue
  pub no_blank : refuses
      (with_line 10 (codes "portintransition : v@g(1,1)p") group_with_zones) 10 BadValue
  pub keys_before_spaces : refuses
      (with_line 5 (codes "dim : (0,1)")
      (with_line 6 (codes "neighbors : (0,0,0)") group_with_zones)) 5
      BadValue
  pub spaces_before_rules : refuses
      (with_line 13 (codes "zone : r { (2,1) }")
      (with_line 8 (codes "localtransition : q") group_with_zones)) 13 BadZone
  pub least_line : refuses
      (with_line 13 (codes "zone : r { (2,1) }")
      (with_line 7 (codes "initialrow : 1 ?") group_with_zones)) 7
      BadInitial
