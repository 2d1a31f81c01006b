-- The phases up to the limit of links, in their order.
use Rattle.std.specs.Prelude.{Option, List, [], ◌∷◌}
use Rattle.ma_lines.specs.Sections.{Section}
use Rattle.atomic_face.specs.declared.class.Class.{Class}
use Rattle.model_text.specs.Refusals.{Refusal}
use Rattle.model_text.specs.Walk.{top_refused, tree_refused}
use Rattle.model_text.specs.Keys.{keys_refused}
use Rattle.model_text.specs.Spaces.{cells_refused, spaces_refused}
use Rattle.model_text.specs.Stock.{stock_refused}
use Rattle.model_text.specs.Rules.{rules_refused}
use Rattle.model_text.specs.Links.{links_refused}
use Rattle.model_text.specs.ModelOf.{link_limit_refused}

-- what each of them refuses
abbrev pub up_to_limit : List Class → List Section → List (Option Refusal)
up_to_limit classes ss =
    top_refused ss ∷ tree_refused ss ∷ keys_refused ss ∷ cells_refused ss ∷ spaces_refused ss
    ∷ stock_refused classes ss ∷ rules_refused ss ∷ links_refused ss ∷ link_limit_refused ss ∷ []
