-- What the words and cells of a rule stand for in a group, and whether a rule is sound there.
use Rattle.std.specs.Prelude.{ℕ, ◌+◌, ◌==◌, Bool, true, false, not, ◌&&◌, Option, Some, List, ◌∷◌, ◌++◌, map, length, ℤ, pos, ◌-ℤ◌, if◌then◌else◌, []}
use Rattle.std.specs.List.{list_any, list_all, flat_map, position}
use Rattle.std.specs.Option.{option_map, unwrap_or, is_some}
use Rattle.std.specs.Str.{bytes_eq}
use Rattle.quantity.specs.declared.place.Offset.{Offset}
use Rattle.quantity.specs.Arithmetic.{is_zero}
use Rattle.rule_tree.specs.Expression as E
use Rattle.rule_tree.specs.Expression.{Expr, Exprs, Rule}
use Rattle.rule_tree.specs.declared.function.Sort.TheVariants.{Number}
use Rattle.rule_tree.specs.Sound.{is_sort, sort_of, is_sound_rule}
use Rattle.quantity.specs.Bytes.{Bytes}
use Rattle.rule_tree.specs.Phrases as P
use Rattle.rule_tree.specs.Phrases.{Cell, Phrase, Phrases, Assigned, Written, out}

-- the names that the rules of a group may use
pub record Names : Type 0 where
  pub offsets : List Offset
  pub dims : ℕ
  pub variables : List Bytes
  pub ports : List Bytes

-- ---- cells, variables and ports

-- a neighbour by its coordinates
abbrev pub offset_of : List ℤ → Offset
offset_of (row ∷ column ∷ []) = record { row = row; column = column; plane = pos 0 }
offset_of (row ∷ column ∷ plane ∷ rest) = record { row = row; column = column; plane = plane }
offset_of place = record { row = pos 0; column = pos 0; plane = pos 0 }

-- the same neighbour
abbrev pub same_offset : Offset → Offset → Bool
same_offset a b =
    is_zero (a.row -ℤ b.row) && is_zero (a.column -ℤ b.column) && is_zero (a.plane -ℤ b.plane)

-- the number of a declared neighbour
abbrev pub offset_number : Names → List ℤ → Option ℕ
offset_number names place = position (same_offset (offset_of place)) names.offsets

-- the number of a declared variable
abbrev pub variable_number : Names → Bytes → Option ℕ
variable_number names w = position (bytes_eq w) names.variables

-- out is port 0, and the others are counted from 1
abbrev pub port_number : Names → Bytes → Option ℕ
port_number names w =
    if bytes_eq w out then Some 0 else option_map (λ k. k + 1) (position (bytes_eq w) names.ports)

-- ---- what a rule names

-- what a rule names: a neighbour, a variable or a port
pub data Named : Type 0 where
  a_cell : Cell → Named
  a_variable : Bytes → Named
  a_port : Bytes → Named

abbrev mutual
  pub named_in : Phrase → List Named
  named_in (P.value v) = []
  named_in (P.truth t) = []
  named_in (P.cell c) = a_cell c ∷ a_port c.port ∷ []
  named_in (P.variable w) = a_variable w ∷ []
  named_in P.now = []
  named_in P.port_value = []
  named_in (P.counted c) = []
  named_in (P.one u x) = named_in x
  named_in (P.two b x y) = named_in x ++ named_in y
  named_in (P.call f xs) = all_named_in xs

  pub all_named_in : Phrases → List Named
  all_named_in P.nil = []
  all_named_in (P.cons x xs) = named_in x ++ all_named_in xs

-- all that a rule names
abbrev pub named_by : Written → List Named
named_by r =
    flat_map (λ (g : Assigned). a_port g.name ∷ named_in g.phrase) r.gives ++ named_in r.delay
    ++ named_in r.condition
    ++ flat_map (λ (s : Assigned). a_variable s.name ∷ named_in s.phrase) r.sets

-- a cell that isn't an offset, or has another number of coordinates
abbrev pub is_no_neighbour : Names → Named → Bool
is_no_neighbour names (a_cell c) =
    not ((length c.place == names.dims) && is_some (offset_number names c.place))
is_no_neighbour names (a_variable w) = false
is_no_neighbour names (a_port w) = false

-- the name of a variable that isn't declared
abbrev pub is_no_variable : Names → Named → Bool
is_no_variable names (a_cell c) = false
is_no_variable names (a_variable w) = not (is_some (variable_number names w))
is_no_variable names (a_port w) = false

-- the name of a port that isn't declared
abbrev pub is_no_port : Names → Named → Bool
is_no_port names (a_cell c) = false
is_no_port names (a_variable w) = false
is_no_port names (a_port w) = not (is_some (port_number names w))

-- ---- the rule with numbers in the place of names

abbrev mutual
  pub numbered : Names → Phrase → Expr
  numbered names (P.value v) = E.number v
  numbered names (P.truth t) = E.truth t
  numbered names (P.cell c) =
      E.neighbour (unwrap_or (offset_number names c.place) 0)
      (unwrap_or (port_number names c.port) 0)
  numbered names (P.variable w) = E.variable (unwrap_or (variable_number names w) 0)
  numbered names P.now = E.now
  numbered names P.port_value = E.port_value
  numbered names (P.counted c) = E.counted c
  numbered names (P.one u x) = E.one u (numbered names x)
  numbered names (P.two b x y) = E.two b (numbered names x) (numbered names y)
  numbered names (P.call f xs) = E.call f (all_numbered names xs)

  pub all_numbered : Names → Phrases → Exprs
  all_numbered names P.nil = E.nil
  all_numbered names (P.cons x xs) = E.cons (numbered names x) (all_numbered names xs)

-- a written rule with numbers in place of names
abbrev pub rule_in : Names → Written → Rule
rule_in names r =
    record {
      gives = map (λ (g : Assigned).
          (unwrap_or (port_number names g.name) 0, numbered names g.phrase)) r.gives;
      delay = numbered names r.delay;
      condition = numbered names r.condition;
      sets = map (λ (s : Assigned).
          (unwrap_or (variable_number names s.name) 0, numbered names s.phrase)) r.sets;
    }

-- ---- soundness

-- values and delay are numbers, the condition is a truth value, and what is set is a number
abbrev pub has_right_sorts : ℕ → Rule → Bool
has_right_sorts offsets r =
    is_sound_rule offsets r && list_all
    (λ (s : ℕ × Expr). is_sort Number (sort_of s.1 offsets)) r.sets

-- no number stands twice
abbrev pub differ : List ℕ → Bool
differ [] = true
differ (k ∷ ks) = not (list_any (λ j. j == k) ks) && differ ks
