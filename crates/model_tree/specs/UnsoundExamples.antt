-- Groups and models that are sound but for one thing.
use Rattle.std.specs.Prelude.{◌≡◌, ℕ, zero, suc, true, false, None, List, [], ◌∷◌, ◌++◌, map}
use Rattle.std.specs.Prelude.{replicate, pos, codes}
use Rattle.std.specs.List.{range_with_len}
use Rattle.quantity.specs.declared.value.Value.TheVariants.{Num, Undefined}
use Rattle.quantity.specs.declared.truth.Tri.TheVariants.{True}
use Rattle.quantity.specs.declared.place.Offset.{Offset}
use Rattle.rule_tree.specs.Expression.{Rule, Expr, number, truth, neighbour, variable}
use Rattle.cell_grid.specs.declared.grid.Border.TheVariants.{NoWrapped}
use Rattle.atomic_face.specs.declared.class.Class.TheVariants.{Queue}
use Rattle.model_tree.specs.declared.group.PortRule.{PortRule}
use Rattle.model_tree.specs.declared.link.End.TheVariants.{Own, Child, Cell}
use Rattle.model_tree.specs.Tree.{Group, Tree, coupled, cells, atomic, nil, cons}
use Rattle.model_tree.specs.Sound.{is_sound_group, is_sound_model}
use Rattle.rule_tree.specs.Phrases.{out}
use Rattle.model_tree.specs.Examples.{«in», letter, default_settings, link}

-- ---- groups

-- a rule that gives this
abbrev pub gives : Expr → Rule
gives value =
    record {
      gives = (0, value) ∷ [];
      delay = number (Num (pos 10000000));
      condition = truth True;
      sets = [];
    }

-- so many rows and columns on
abbrev pub on : ℕ → ℕ → Offset
on row column = record { row = pos row; column = pos column; plane = pos 0 }

-- one cell that sees itself
abbrev pub one : Group
one =
    record {
      name = letter 103;
      space = record { rows = 1; columns = 1; planes = None; border = NoWrapped };
      settings = default_settings;
      offsets = on 0 0 ∷ [];
      initial = Undefined ∷ [];
      zones = [];
      zone_rules = [];
      rule_sets = (gives (neighbour 0 0) ∷ []) ∷ [];
      port_rules = [];
      ins = [];
      outs = [];
      links = [];
      variables = [];
      variable_values = [];
      ports = [];
      port_values = [];
    }

-- the same with another default delay
abbrev pub waiting : ℕ → Group
waiting delay = record one { settings = record default_settings { default_delay = delay } }

-- a port with rules of its own
abbrev pub port_rule : ℕ → ℕ → PortRule
port_rule cell rules = record { port = letter 118; cell = cell; rules = rules }

-- so many different offsets
abbrev pub offsets_on : ℕ → List Offset
offsets_on more =
    map (λ n. on n 0) (range_with_len 0 65) ++ map (λ n. on n 1) (range_with_len 0 more)

pub record GroupsAreUnsound : Type 0 where
  pub sound : is_sound_group one ≡ true
  pub no_value : is_sound_group (record one { initial = [] }) ≡ false
  pub two_values : is_sound_group (record one { initial = Undefined ∷ Undefined ∷ [] }) ≡ false
  pub latest : is_sound_group (waiting 359999999) ≡ true
  pub too_late : is_sound_group (waiting 360000000) ≡ false
  pub furthest : is_sound_group (record one { offsets = on 64 0 ∷ [] }) ≡ true
  pub too_far : is_sound_group (record one { offsets = on 65 0 ∷ [] }) ≡ false
  pub seen_twice : is_sound_group (record one { offsets = on 0 0 ∷ on 1 0 ∷ on 0 0 ∷ [] }) ≡ false
  pub most_seen : is_sound_group (record one { offsets = offsets_on 63 }) ≡ true
  pub too_many_seen : is_sound_group (record one { offsets = offsets_on 64 }) ≡ false
  pub no_rules : is_sound_group (record one { rule_sets = [] }) ≡ false
  pub zone_without_rules : is_sound_group
      (record one { zones = record { name = letter 114; ranges = [] } ∷ [] }) ≡ false
  pub rules_without_zone : is_sound_group (record one { zone_rules = 0 ∷ [] }) ≡ false
  pub zone_of_other_rules : is_sound_group
      (record one { zones = record { name = letter 114; ranges = [] } ∷ []; zone_rules = 1 ∷ [] })
      ≡ false
  pub port_with_rules : is_sound_group (record one { port_rules = port_rule 0 0 ∷ [] }) ≡ true
  pub port_of_other_rules : is_sound_group (record one { port_rules = port_rule 0 1 ∷ [] }) ≡ false
  pub port_of_no_cell : is_sound_group (record one { port_rules = port_rule 1 0 ∷ [] }) ≡ false
  pub port_twice : is_sound_group
      (record one { port_rules = port_rule 0 0 ∷ port_rule 0 0 ∷ [] }) ≡ false
  pub most_rules : is_sound_group
      (record one { rule_sets = replicate 1024 (gives (neighbour 0 0)) ∷ [] }) ≡ true
  pub too_many_rules : is_sound_group
      (record one { rule_sets = replicate 1025 (gives (neighbour 0 0)) ∷ [] }) ≡ false
  pub no_such_neighbour : is_sound_group
      (record one { rule_sets = (gives (neighbour 1 0) ∷ []) ∷ [] }) ≡ false
  pub no_such_port : is_sound_group
      (record one { rule_sets = (gives (neighbour 0 1) ∷ []) ∷ [] }) ≡ false
  pub no_such_variable : is_sound_group
      (record one { rule_sets = (gives (variable 0) ∷ []) ∷ [] }) ≡ false
  pub truth_given : is_sound_group
      (record one { rule_sets = (gives (truth True) ∷ []) ∷ [] }) ≡ false
  pub no_value_of_a_variable : is_sound_group (record one { variables = letter 97 ∷ [] }) ≡ false
  pub variable_twice : is_sound_group (record one {
    variables = letter 97 ∷ letter 97 ∷ [];
    variable_values = Undefined ∷ Undefined ∷ [];
  }) ≡ false
  pub nine_variables : is_sound_group (record one {
    variables = map letter (range_with_len 97 9);
    variable_values = replicate 9 Undefined;
  }) ≡ false
  pub no_value_of_a_port : is_sound_group (record one { ports = letter 97 ∷ [] }) ≡ false
  pub port_out : is_sound_group
      (record one { ports = out ∷ []; port_values = Undefined ∷ [] }) ≡ false
  pub four_ports : is_sound_group (record one {
    ports = map letter (range_with_len 97 4);
    port_values = replicate 4 Undefined;
  }) ≡ false

-- ---- models

-- a queue of this name
abbrev pub queue : ℕ → Tree
queue name = atomic (letter name) Queue (pos 0 ∷ [])

-- so many levels of components, one in the other, round a queue
abbrev pub levels : ℕ → Tree
levels zero = queue 113
levels (suc n) = coupled (letter n) [] [] (cons (levels n) nil) []

pub record ModelsAreUnsound : Type 0 where
  pub sound : is_sound_model (coupled (codes "top") [] [] (cons (queue 113) nil) []) ≡ true
  pub no_child : is_sound_model (coupled (codes "top") [] [] nil []) ≡ false
  pub no_child_below : is_sound_model
      (coupled (codes "top") [] [] (cons (coupled (letter 97) [] [] nil []) nil) []) ≡ false
  pub input_twice : is_sound_model
      (coupled (codes "top") (letter 97 ∷ letter 97 ∷ []) [] (cons (queue 113) nil) []) ≡ false
  pub output_twice : is_sound_model
      (coupled (codes "top") [] (letter 97 ∷ letter 97 ∷ []) (cons (queue 113) nil) []) ≡ false
  pub input_of_a_group_twice : is_sound_model
      (coupled (codes "top") [] []
      (cons (cells (record one { ins = letter 97 ∷ letter 97 ∷ [] })) nil) []) ≡ false
  pub output_of_a_group_twice : is_sound_model
      (coupled (codes "top") [] []
      (cons (cells (record one { outs = letter 97 ∷ letter 97 ∷ [] })) nil) []) ≡ false
  pub group_that_is_unsound : is_sound_model
      (coupled (codes "top") [] [] (cons (cells (record one { rule_sets = [] })) nil) []) ≡ false
  pub link_to_itself : is_sound_model
      (coupled (codes "top") [] [] (cons (queue 113) nil)
      (link (Child out (letter 113)) (Child «in» (letter 113)) ∷ [])) ≡ false
  pub link_of_a_cell_to_itself : is_sound_model
      (coupled (codes "top") [] []
      (cons (cells (record one { links = link (Cell out 0) (Cell (letter 118) 0) ∷ [] })) nil) [])
      ≡ false
  pub link_twice : is_sound_model
      (coupled (codes "top") (letter 97 ∷ []) [] (cons (queue 113) nil)
      (link (Own (letter 97)) (Child «in» (letter 113))
      ∷ link (Own (letter 97)) (Child «in» (letter 113)) ∷ [])) ≡ false
  pub name_twice : is_sound_model
      (coupled (codes "top") [] [] (cons (queue 113) (cons (queue 113) nil)) []) ≡ false
  pub name_on_two_levels : is_sound_model
      (coupled (codes "top") [] []
      (cons (coupled (letter 97) [] [] (cons (queue 113) nil) []) (cons (queue 113) nil)) [])
      ≡ false
  pub name_of_a_group_twice : is_sound_model
      (coupled (codes "top") [] [] (cons (cells one) (cons (queue 103) nil)) []) ≡ false
  pub deepest : is_sound_model (levels 17) ≡ true
  pub too_deep : is_sound_model (levels 18) ≡ false
