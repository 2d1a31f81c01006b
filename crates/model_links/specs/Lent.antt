-- Ends and links that lend their names, and lists of ends and of links of which none stands twice.
use Rattle.std.specs.Prelude.{◌≡◌, List, [], ◌∷◌, ◌++◌, map, fold, if◌then◌else◌}
use Rattle.std.specs.List.{list_any}
use Rattle.model_tree.specs.declared.link.End.{End}
use Rattle.model_tree.specs.declared.link.End.TheVariants as owned
use Rattle.model_tree.specs.declared.link.Link.{Link}
use Rattle.model_tree.specs.Faces.{same_end, same_link}
use Rattle.model_links.specs.declared.lent.LentEnd.{LentEnd}
use Rattle.model_links.specs.declared.lent.LentEnd.TheVariants as lent
use Rattle.model_links.specs.declared.lent.LentLink.{LentLink}

-- the end whose names these are
abbrev pub end_of : LentEnd → End
end_of (lent.Own port) = owned.Own port.now
end_of (lent.Child port child) = owned.Child port.now child.now
end_of (lent.Cell port cell) = owned.Cell port.now cell

-- the link of two ends
abbrev pub link_of_lent : LentLink → Link
link_of_lent l = record { from = end_of l.from; to = end_of l.to }

-- with an end more behind the others, unless it is there
abbrev pub with_end : List End → End → List End
with_end es e = if list_any (same_end e) es then es else es ++ e ∷ []

-- with further ends, one after another
abbrev pub with_ends : List End → List End → List End
with_ends es more = fold with_end es more

-- these ends are put behind the others
abbrev pub AddsEnds : List End → List LentEnd → List LentEnd → Type 0
AddsEnds more old new = map end_of new ≡ with_ends (map end_of old) more

-- with a link more behind the others, unless it is there
abbrev pub with_link : List Link → Link → List Link
with_link ls l = if list_any (same_link l) ls then ls else ls ++ l ∷ []

-- with further links, one after another
abbrev pub with_links : List Link → List Link → List Link
with_links ls more = fold with_link ls more

-- these links are put behind the others
abbrev pub AddsLinks : List Link → List LentLink → List LentLink → Type 0
AddsLinks more old new = map link_of_lent new ≡ with_links (map link_of_lent old) more
