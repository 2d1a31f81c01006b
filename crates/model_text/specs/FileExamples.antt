-- Files of initial values: looked for in order, laid on, and refused; and planes that are drawn.
use Rattle.std.specs.Prelude.{◌≡◌, ℕ, Option, Some, None, List, [], ◌∷◌, map, negsuc, if◌then◌else◌, codes}
use Rattle.std.specs.Str.{bytes_eq}
use Rattle.quantity.specs.declared.value.Value.TheVariants.{Num}
use Rattle.rule_tree.specs.Meaning.{whole}
use Rattle.quantity.specs.Bytes.{Bytes}
use Rattle.source_text.specs.Lines.{Files}
use Rattle.source_text.specs.Lines.{file}
use Rattle.model_tree.specs.Tree.{Group}
use Rattle.model_text.specs.declared.kind.Kind.TheVariants.{BadInitial, NoSuchPlane, NoSection}
use Rattle.model_text.specs.Refusals.{refusal}
use Rattle.model_text.specs.Trees.{no_files}
use Rattle.model_text.specs.Drawings.{Drawing}
use Rattle.model_text.specs.ModelOf.{ModelOf, missing, refused, ModelRead, model_of}
use Rattle.model_text.specs.Models.{with_line}
use Rattle.model_text.specs.Examples.{boxes, group_in}

abbrev pub planes : List Bytes
planes =
    codes "[top]" ∷ codes "components : g" ∷ codes "[g]" ∷ codes "type : cell"
    ∷ codes "dim : (1,2,2)" ∷ codes "initialvalue : 1"
    ∷ codes "initialcellsvalue : V.val" ∷ codes "localtransition : r" ∷ codes "[r]"
    ∷ codes "rule : 0 100 { t }" ∷ []

-- the same with a map file
abbrev pub with_map : List Bytes
with_map = with_line 6 (codes "initialmapvalue : M.map") planes

abbrev pub one_file : Bytes → Bytes → Files
one_file name bytes asked = if bytes_eq asked name then Some bytes else None

abbrev pub two_files : Bytes → Bytes → Files
two_files cells map asked =
    if bytes_eq asked (codes "V.val") then Some cells
    else if bytes_eq asked (codes "M.map") then Some map else None

abbrev pub draw : ℕ → Option Drawing
draw plane = Some (record { group = codes "g"; plane = plane })

abbrev pub cells_content : Bytes
cells_content = file (codes "(0,0,1) = -0.4" ∷ [] ∷ codes "(0,1,1)=12 % end" ∷ [])

abbrev pub read_with : List Bytes → Files → Option Drawing → ModelRead
read_with ls files drawing = model_of (file ls) files boxes drawing

abbrev pub stops : List Bytes → ModelOf → ModelRead
stops looked found = record { looked = looked; found = found }

pub record FilesAreLaidOn : Type 0 where
  pub values : map (λ (g : Group). g.initial)
      (group_in (read_with planes (one_file (codes "V.val") cells_content) (draw 1)).found) ≡
      (whole 1 ∷ Num (negsuc 39999) ∷ whole 1 ∷ whole 12 ∷ []) ∷ []
  pub looked : (read_with planes (one_file (codes "V.val") cells_content) (draw 1)).looked
      ≡ codes "V.val" ∷ []
  pub over_a_map : map (λ (g : Group). g.initial)
      (group_in (read_with with_map (two_files cells_content (codes "5 6 7 ?")) None).found) ≡
      (whole 5 ∷ Num (negsuc 39999) ∷ whole 7 ∷ whole 12 ∷ []) ∷ []
  pub map_first : (read_with with_map (two_files cells_content (codes "5 6 7 ?")) None).looked
      ≡ codes "M.map" ∷ codes "V.val" ∷ []

pub record FilesAreRefused : Type 0 where
  pub no_plane : read_with planes (one_file (codes "V.val") cells_content) (draw 2)
      ≡ stops (codes "V.val" ∷ []) (refused (refusal 0 NoSuchPlane))
  pub no_group : read_with planes (one_file (codes "V.val") cells_content)
      (Some (record { group = codes "r"; plane = 0 }))
      ≡ stops (codes "V.val" ∷ []) (refused (refusal 0 NoSuchPlane))
  pub no_file : read_with planes no_files None
      ≡ stops (codes "V.val" ∷ []) (missing (codes "V.val"))
  pub off : read_with planes (one_file (codes "V.val") (codes "(0,0) = 1")) None
      ≡ stops (codes "V.val" ∷ []) (refused (refusal 7 BadInitial))
  pub no_map : read_with with_map (one_file (codes "V.val") cells_content) None
      ≡ stops (codes "M.map" ∷ []) (missing (codes "M.map"))
  pub short_map : read_with with_map (two_files cells_content (codes "1 2 3")) None
      ≡ stops (codes "M.map" ∷ []) (refused (refusal 6 BadInitial))
  pub files_before_drawing : read_with planes no_files (draw 2)
      ≡ stops (codes "V.val" ∷ []) (missing (codes "V.val"))
  pub rules_before_files : read_with
      (with_line 8 (codes "localtransition : q") planes) no_files None
      ≡ stops [] (refused (refusal 8 NoSection))
