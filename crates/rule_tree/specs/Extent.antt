-- How far the numbers of a rule reach, and where they stand for something.
use Rattle.std.specs.Prelude.{ℕ, Bool, true, not, ◌&&◌, nat_lt, nat_le, map, length}
use Rattle.std.specs.List.{list_all}
use Rattle.rule_tree.specs.Expression as E
use Rattle.rule_tree.specs.Expression.{Expr, Exprs, Rule}
use Rattle.quantity.specs.Bytes.{is_empty}
use Rattle.rule_tree.specs.Scope.{Names, differ, has_right_sorts}

-- the numbers of offsets, variables and further ports of a group
pub record Extent : Type 0 where
  pub offsets : ℕ
  pub variables : ℕ
  pub ports : ℕ

-- how many neighbours, variables and ports are declared
abbrev pub extent_of : Names → Extent
extent_of names = record {
  offsets = length names.offsets;
  variables = length names.variables;
  ports = length names.ports;
}

abbrev mutual
  pub is_within : Extent → Expr → Bool
  is_within n (E.number v) = true
  is_within n (E.truth t) = true
  is_within n (E.neighbour k p) = nat_lt k n.offsets && nat_le p n.ports
  is_within n (E.variable k) = nat_lt k n.variables
  is_within n E.now = true
  is_within n E.port_value = true
  is_within n (E.counted c) = true
  is_within n (E.one u x) = is_within n x
  is_within n (E.two b x y) = is_within n x && is_within n y
  is_within n (E.call f xs) = are_within n xs

  pub are_within : Extent → Exprs → Bool
  are_within n E.nil = true
  are_within n (E.cons x xs) = is_within n x && are_within n xs

-- a rule that a group with these numbers can evaluate
abbrev pub is_sound : Extent → Rule → Bool
is_sound n r =
    has_right_sorts n.offsets r && is_within n r.delay && is_within n r.condition
    && not (is_empty r.gives)
    && list_all (λ (g : ℕ × Expr). nat_le g.0 n.ports && is_within n g.1) r.gives
    && differ (map (λ (g : ℕ × Expr). g.0) r.gives)
    && list_all (λ (s : ℕ × Expr). nat_lt s.0 n.variables && is_within n s.1) r.sets
