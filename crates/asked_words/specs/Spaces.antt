-- Private: the space that words give, and what is drawn of it.
use Rattle.std.specs.Prelude.{ℕ, nat_lt, Option, Some, None, if◌then◌else◌}
use Rattle.cell_grid.specs.Space.{Space, plane_count}
use Rattle.cell_grid.specs.declared.grid.Border.TheVariants.{NoWrapped}
use Rattle.model_tree.specs.Tree.{Word}
use Rattle.quantity.specs.Written.{for_some}
use Rattle.answer_model.specs.Options.{Draft, number_within}
use Rattle.answer_model.specs.AskedDrawing.{AskedDrawing, space_if}

-- a space of these rows, columns and planes, as words say the first two
unfoldable pub space_sized : Word → Word → Option ℕ → Option Space
space_sized r c planes =
    for_some (number_within 1 9999999 r) (λ r.
    for_some (number_within 1 9999999 c) (λ c.
    space_if (record { rows = r; columns = c; planes = planes; border = NoWrapped })))

-- what is drawn so, where the space has the plane
abbrev pub drawing_with : Word → Word → Space → Draft → Option AskedDrawing
drawing_with log group space d =
    if nat_lt d.plane (plane_count space)
    then Some (record {
      log = log;
      group = group;
      picture = record { space = space; plane = d.plane; width = d.width; decimals = d.decimals };
    })
    else None
