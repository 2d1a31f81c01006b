-- What is refused first, of phases that are judged in three stages.
use Rattle.std.proofs.Common.{◌≡◌, Option, Some, None, List, [], ◌∷◌, ◌++◌, ◌∙◌}
use Rattle.std.specs.List.{AllByRecursion}
use Rattle.ma_lines.specs.Sections.{Section}
use Rattle.atomic_face.specs.declared.class.Class.{Class}
use Rattle.model_text.specs.Refusals.{Refusal}
use Rattle.model_text.specs.Accepted.{first_of}
use Rattle.model_text.specs.BuildLaws.{PassedLinks}
use Rattle.model_text.specs.Walk.{top_refused, tree_refused}
use Rattle.model_text.specs.Keys.{keys_refused}
use Rattle.model_text.specs.Spaces.{cells_refused, spaces_refused}
use Rattle.model_text.specs.Stock.{stock_refused}
use Rattle.model_text.specs.Rules.{rules_refused}
use Rattle.model_text.specs.Links.{links_refused}
use Rattle.model_text.specs.ModelOf.{link_limit_refused}
use Rattle.model_read.specs.Order.{up_to_limit}
use Rattle.model_read.proofs.First.{none_first, some_first}

-- ---- the stages

-- the walk, keys and the number of cells
abbrev pub first_stage : List Section → List (Option Refusal)
first_stage ss = top_refused ss ∷ tree_refused ss ∷ keys_refused ss ∷ cells_refused ss ∷ []

-- spaces, the stock and rules
abbrev pub second_stage : List Class → List Section → List (Option Refusal)
second_stage classes ss = spaces_refused ss ∷ stock_refused classes ss ∷ rules_refused ss ∷ []

-- links and their limit
abbrev pub third_stage : List Section → List (Option Refusal)
third_stage ss = links_refused ss ∷ link_limit_refused ss ∷ []

-- none of these phases refuses
abbrev pub Pass : List (Option Refusal) → Type 0
Pass os = AllByRecursion (λ o. o ≡ None) os

-- where none of any stage refuses, the links may be laid
pub all_pass : (classes : List Class) (ss : List Section) → Pass (first_stage ss) → Pass (second_stage classes ss) → Pass (third_stage ss) → PassedLinks classes ss
all_pass classes ss (top, (tree, (keys, (cells, _)))) (spaces, (stock, (rules, _))) (links, (limit, _)) =
    record { top = top; tree = tree; keys = keys; cells = cells; spaces = spaces; stock = stock; rules = rules; links = links; link_limit = limit }

-- ---- the first that refuses

behind : (os ps : List (Option Refusal)) (r : Refusal) → Pass os → first_of ps ≡ Some r → first_of (os ++ ps) ≡ Some r
behind os ps r h e = none_first os ps h ∙ e

pub stops_first : (classes : List Class) (ss : List Section) (r : Refusal) → first_of (first_stage ss) ≡ Some r → first_of (up_to_limit classes ss) ≡ Some r
stops_first classes ss r e = some_first (first_stage ss) (second_stage classes ss ++ third_stage ss) r e

pub stops_second : (classes : List Class) (ss : List Section) (r : Refusal) → Pass (first_stage ss) → first_of (second_stage classes ss) ≡ Some r
    → first_of (up_to_limit classes ss) ≡ Some r
stops_second classes ss r h e =
    behind (first_stage ss) (second_stage classes ss ++ third_stage ss) r h (some_first (second_stage classes ss) (third_stage ss) r e)

pub stops_third : (classes : List Class) (ss : List Section) (r : Refusal) → Pass (first_stage ss) → Pass (second_stage classes ss) → first_of (third_stage ss) ≡ Some r
    → first_of (up_to_limit classes ss) ≡ Some r
stops_third classes ss r h k e =
    behind (first_stage ss) (second_stage classes ss ++ third_stage ss) r h (behind (second_stage classes ss) (third_stage ss) r k e)
