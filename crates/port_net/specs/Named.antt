-- Children, looked up by their names: what `Children` keeps and answers.
use Rattle.std.specs.Prelude.{◌≡◌, ℕ, ℤ, ◌+◌, Option, None, Some, List, [], ◌∷◌, if◌then◌else◌}
use Rattle.std.specs.Borrow.{Bor}
use Rattle.std.specs.Map.{lookup}
use Rattle.std.specs.Str.{bytes_eq}
use Rattle.model_tree.specs.declared.component.Component.{Component}
use Rattle.model_tree.specs.Tree.{Word, name_of}
use Rattle.model_tree.specs.Stands.{part_of}

-- the place of the first child of a name, counted from a number on
abbrev pub place_from : List Component → (ℕ → List ℤ) → Word → ℕ → Option ℕ
place_from [] settings name n = None
place_from (c ∷ cs) settings name n =
    if bytes_eq (name_of (part_of c settings)) name then Some n
    else place_from cs settings name (n + 1)

-- the place that is kept for a name
abbrev pub kept_for : List (Bor Word × ℕ) → Word → Option ℕ
kept_for places name = lookup (λ (known : Bor Word). bytes_eq name known.now) places

-- a place, or else the other
abbrev pub place_or : Option ℕ → Option ℕ → Option ℕ
place_or None other = other
place_or (Some n) other = Some n

-- a place for each name that one of the children has: that of the first such child
abbrev pub LeadToFirst : List (Bor Word × ℕ) → List Component → Type 0
LeadToFirst places children =
    (settings : ℕ → List ℤ) (name : Word)
    → kept_for places name ≡ place_from children settings name 0

-- a place is kept for one name more, unless there is one for it
abbrev pub AddsPlace : List (Bor Word × ℕ) → List (Bor Word × ℕ) → Word → ℕ → Type 0
AddsPlace old new added n =
    (name : Word) → kept_for new name ≡ place_or (kept_for old name)
    (if bytes_eq name added then Some n else None)
