-- A store made for a sound group is ready.
use Rattle.std.proofs.Common.{◌≡◌, ℕ, ◌+◌, ◌*◌, ◌<◌, ◌≤◌, true, List, length, get_or, take, sym, ◌∙◌, ap, subst, arith}
use Rattle.std.specs.List.{All}
use Rattle.std.proofs.lemmas.List.{length-map}
use Rattle.std.proofs.lemmas.List.Elements.{All-more}
use Rattle.rule_tree.specs.Expression.{Rule}
use Rattle.rule_forms.specs.Depth.{rule_depth}
use Rattle.cell_grid.specs.Space.{cell_count}
use Rattle.model_tree.specs.Tree.{Group}
use Rattle.model_tree.specs.Sound.{is_sound_group}
use Rattle.cell_table.specs.Table.{Table, table_at_start, cell_at_start}
use Rattle.cell_engine.specs.Layout.{Layout, StandsFor}
use Rattle.cell_engine.specs.Store.{IsReady}
use Rattle.cell_engine.proofs.Planned.{sizes, counts}

-- how many cells, further ports and variables a sound group has
pub record Numbers (g : Group) : Type 0 where
  pub cells : length g.initial ≡ cell_count g.space
  pub offsets : length g.offsets ≤ 128
  pub ports : length g.port_values ≤ 3
  pub variables : length g.variable_values ≤ 8

pub numbers : (g : Group) → is_sound_group g ≡ true → Numbers g
numbers g sound =
    let s = sizes g sound in
    let k = counts g s.names in
    record { cells = s.initial; offsets = s.offsets; ports = k.ports; variables = k.variables }

-- no rule needs more than this at once
abbrev pub NeedsAtMost : ℕ → List Rule → Type 0
NeedsAtMost most rules = All (λ (rule : Rule). rule_depth rule ≤ most) rules

pub needs_weaker : (m n : ℕ) (rules : List Rule) → m ≤ n → NeedsAtMost m rules → NeedsAtMost n rules
needs_weaker m n rules le needs k d lt = omega (arith, le, needs k d lt)

-- one rule more
pub needs_more : (rules : List Rule) (i : ℕ) (rule : Rule) (m n : ℕ) → i < length rules → rule ≡ get_or rules i rule → NeedsAtMost m (take i rules) → m ≤ n → rule_depth rule ≤ n → NeedsAtMost n (take (i + 1) rules)
needs_more rules i rule m n here is needs le own =
    All-more (λ (r : Rule). rule_depth r ≤ n) rules i rule here (needs_weaker m n (take i rules) le needs) (subst (λ (r : Rule). rule_depth r ≤ n) is own)

-- the same of sets of which each has such rules
pub sets_need_more : {A : Type 0} (f : A → List Rule) (sets : List A) (i : ℕ) (set : A) (m n k : ℕ) → i < length sets → set ≡ get_or sets i set → All (λ s. NeedsAtMost m (f s)) (take i sets) → m ≤ n → NeedsAtMost k (f set) → k ≤ n
    → All (λ s. NeedsAtMost n (f s)) (take (i + 1) sets)
sets_need_more f sets i set m n k here is needs le own most =
    All-more (λ s. NeedsAtMost n (f s)) sets i set here (λ j d lt. needs_weaker m n (f (get_or (take i sets) j d)) le (needs j d lt)) (subst (λ s. NeedsAtMost n (f s)) is (needs_weaker k n (f set) most own))

-- the plan and the cells of a sound group, with room for a step
pub made_ready : (g : Group) (l : Layout) (t : Table) (p r c d : ℕ) → is_sound_group g ≡ true → StandsFor g l → t ≡ table_at_start g.initial g.port_values g.variable_values
    → p ≡ length g.offsets → r ≡ p * t.width → c ≡ l.variables → All (NeedsAtMost d) l.rule_sets → IsReady l t p r c d
made_ready g l t p r c d sound st start places room changed depth =
    let n = numbers g sound in
    let wide : t.width ≡ length g.port_values + 1 = ap (λ (u : Table). u.width) start in
    let own : length t.cells ≡ length g.initial = ap (λ (u : Table). length u.cells) start ∙ length-map g.initial (cell_at_start g.port_values g.variable_values) in
    let offsets : p ≡ length l.offsets = places ∙ ap length (sym st.offsets) in
    record {
      width = omega (arith, wide, st.ports);
      variables = ap (λ (u : Table). u.variables) start ∙ sym st.variables;
      cells = own ∙ n.cells ∙ ap cell_count (sym st.space);
      places = offsets;
      room = room ∙ ap (λ k. k * t.width) offsets;
      changed = changed;
      depth = depth;
    }
