-- Two phases that refuse one model: the earlier one counts. Its line is the greater of the two
-- where it can be.
use Rattle.std.specs.Prelude.{◌≡◌, None, List, [], ◌∷◌, ◌++◌, drop, codes}
use Rattle.quantity.specs.Bytes.{Bytes}
use Rattle.model_text.specs.declared.kind.Kind.TheVariants.{BadLine, NoTop, BadValue, UnknownComponent, BadParameter, UnknownPort, BadRule, TooLarge}
use Rattle.model_text.specs.Refusals.{refusal}
use Rattle.model_text.specs.Trees.{no_files}
use Rattle.model_text.specs.ModelOf.{missing, refused}
use Rattle.model_text.specs.Models.{line_model, port_model, with_line}
use Rattle.model_text.specs.RefusalExamples.{refuses}
use Rattle.model_text.specs.FileExamples.{planes, one_file, cells_content, read_with, stops, draw}

-- a group of one cell with an offset too far, and one with which the cells are too many
abbrev pub far_and_large : List Bytes
far_and_large =
    codes "[top]" ∷ codes "components : a b" ∷ codes "[a]" ∷ codes "type : cell"
    ∷ codes "dim : (1,1)" ∷ codes "neighbors : (0,65)"
    ∷ codes "localtransition : r" ∷ codes "[b]" ∷ codes "type : cell" ∷ codes "dim : (1024,1024)"
    ∷ codes "localtransition : r" ∷ codes "[r]" ∷ []

-- rules that are not there, and a generator without a period
abbrev pub no_rules_no_period : List Bytes
no_rules_no_period =
    with_line 2 (codes "components : line q@generator")
    (with_line 12 (codes "localtransition : s") line_model)
    ++ codes "[q]" ∷ codes "period : 0:0:0:0" ∷ []

-- two groups, each with a file of cells
abbrev pub two_groups : List Bytes
two_groups =
    with_line 2 (codes "components : h g") planes
    ++ codes "[h]" ∷ codes "type : cell" ∷ codes "dim : (1,1)" ∷ codes "initialcellsvalue : H.val"
    ∷ codes "localtransition : r" ∷ []

-- of two refusals that of the earlier phase counts
pub record PhasesFollow : Type 0 where
  pub lines_before_top : refuses (codes "[a]" ∷ codes "x" ∷ []) 2 BadLine
  pub top_before_keys : refuses (codes "[a]" ∷ codes "type : cells" ∷ []) 0 NoTop
  pub tree_before_keys : refuses (codes "[top]" ∷ codes "in : a a" ∷ codes "components : b" ∷ []) 3
      UnknownComponent
  pub keys_before_cells : refuses (with_line 5 (codes "dim : (1024,1025)")
      (with_line 8 (codes "border : round") line_model)) 8 BadValue
  pub cells_before_spaces : refuses far_and_large 8 TooLarge
  pub spaces_before_stock : refuses (with_line 2 (codes "components : q@server line")
      (with_line 9 (codes "neighbors : (0,65)") line_model)) 9 BadValue
  pub stock_before_rules : refuses no_rules_no_period 17 BadParameter
  pub rules_before_links : refuses (with_line 4 (codes "link : q in@g")
      (with_line 16 (codes "rule : 1 100") port_model)) 16 BadRule
  -- no file is looked for where a link is refused; files of groups are looked for in declared order
  pub links_before_files : read_with (codes "[top]" ∷ codes "components : g" ∷ codes "link : a b"
      ∷ drop 2 planes) no_files None ≡ stops [] (refused (refusal 3 UnknownPort))
  pub groups_in_order : read_with two_groups (one_file (codes "V.val") cells_content) (draw 2)
      ≡ stops (codes "H.val" ∷ []) (missing (codes "H.val"))
