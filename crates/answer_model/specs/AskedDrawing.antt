-- What the words of the drawing program ask for.
use Rattle.std.specs.Prelude.{◌&&◌, ◌==◌, nat_lt, nat_le, Option, Some, None, List, [], ◌∷◌}
use Rattle.std.specs.Prelude.{if◌then◌else◌, codes}
use Rattle.std.specs.List.{slice_split}
use Rattle.cell_grid.specs.declared.grid.Border.TheVariants.{NoWrapped}
use Rattle.cell_grid.specs.Space.{Space, plane_count, cell_count}
use Rattle.model_tree.specs.Tree.{Word}
use Rattle.quantity.specs.declared.bounds.TheConstants.{MAX_CELLS}
use Rattle.quantity.specs.Bytes.{Bytes}
use Rattle.quantity.specs.Written.{for_some}
use Rattle.text_forms.specs.Frames.{Picture}
use Rattle.answer_model.specs.Options.{Draft, drawing_rows, number_within, usage_by, draft_by}
use Rattle.answer_model.specs.Asked.{group_in}

-- what the words of drawlog ask for
pub record AskedDrawing : Type 0 where
  pub log : Word
  pub group : Word
  pub picture : Picture

-- a space with cells, and not too many
abbrev pub space_if : Space → Option Space
space_if s =
    if nat_lt 0 s.rows && nat_lt 0 s.columns && nat_lt 0 (plane_count s)
    && nat_le (cell_count s) MAX_CELLS then Some s else None

-- two or three numbers that are sizes of a space
abbrev pub space_of_words : List Word → Option Space
space_of_words (r ∷ c ∷ []) =
    for_some (number_within 1 9999999 r) (λ r. for_some (number_within 1 9999999 c) (λ c.
    space_if (record { rows = r; columns = c; planes = None; border = NoWrapped })))
space_of_words (r ∷ c ∷ p ∷ []) =
    for_some (number_within 1 9999999 r) (λ r.
    for_some (number_within 1 9999999 c) (λ c. for_some (number_within 1 9999999 p) (λ p.
    space_if (record { rows = r; columns = c; planes = Some p; border = NoWrapped }))))
space_of_words parts = None

-- the space that numbers between commas give
abbrev pub space_in : Word → Option Space
space_in text = space_of_words (slice_split (λ c. c == 44) text)

-- what a draft asks to be drawn, where the space has the plane
abbrev pub drawing_in_draft : Draft → Option AskedDrawing
drawing_in_draft d =
    for_some d.log (λ log.
    for_some (for_some d.group group_in) (λ group.
    for_some (for_some d.space space_in) (λ space.
    if nat_lt d.plane (plane_count space)
    then Some (record {
      log = log;
      group = group;
      picture = record {
        space = space;
        plane = d.plane;
        width = d.width;
        decimals = d.decimals;
      };
    })
    else None)))

-- what these words ask to be drawn, where they are of the form
abbrev pub asked_drawing : List Word → Option AskedDrawing
asked_drawing words = for_some (draft_by (codes "drawlog") drawing_rows words) drawing_in_draft

-- the usage line of drawlog
abbrev pub drawing_usage : Bytes
drawing_usage = usage_by (codes "drawlog") drawing_rows
