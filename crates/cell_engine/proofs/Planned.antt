-- What a sound group gives a store.
use Rattle.std.proofs.Common.{◌≡◌, ℕ, zero, suc, ◌<◌, ◌≤◌, Bool, true, Option, Some, None, List, [], ◌∷◌, map, length, get_or, replicate, refl, sym, ◌∙◌, ap, arith, zero-add}
use Rattle.std.specs.Prelude.{not, ◌&&◌, ◌==◌, nat_le, nat_lt, slice_get}
use Rattle.std.specs.List.{list_all, range_with_len}
use Rattle.std.specs.Option.{unwrap_or}
use Rattle.std.proofs.lemmas.Bool.{and_parts}
use Rattle.std.proofs.lemmas.Bool.Decides.{nat_tests}
use Rattle.std.proofs.lemmas.List.{length-replicate, get_or-replicate}
use Rattle.std.proofs.lemmas.List.FromFn.{length-map-range_with_len, get_or-map-range_with_len, fill_by_all}
use Rattle.quantity.specs.declared.place.Offset.{Offset}
use Rattle.quantity.specs.Bytes.{is_empty, has_repeat}
use Rattle.rule_tree.specs.Phrases.{out}
use Rattle.rule_tree.specs.Extent.{is_sound}
use Rattle.cell_grid.specs.Space.{Space, cell_count}
use Rattle.cell_grid.specs.Zones.{zone_of}
use Rattle.cell_grid.specs.Numbered.{zone_number}
use Rattle.cell_reach.specs.Neighbourhoods.{Neighbourhood}
use Rattle.model_tree.specs.declared.group.CellSettings.{CellSettings}
use Rattle.model_tree.specs.declared.group.PortRule.{PortRule}
use Rattle.model_tree.specs.Tree.{Group}
use Rattle.model_tree.specs.Sound.{extent, is_near_offset, offsets_differ, places_differ, has_right_names, has_right_rules, is_sound_group}
use Rattle.cell_engine.specs.Layout.{Layout, set_in, set_of, StandsFor}
use Rattle.cell_engine.specs.Store.{IsPlan}

at_most : (a b : ℕ) → nat_le a b ≡ true → a ≤ b
at_most a b h = grind (arith, nat_tests)

below : (a b : ℕ) → nat_lt a b ≡ true → a < b
below a b h = grind (arith, nat_tests)

equal : (a b : ℕ) → (a == b) ≡ true → a ≡ b
equal a b h = grind (arith, nat_tests)

some : {A : Type 0} (xs : List A) → not (is_empty xs) ≡ true → 0 < length xs
some [] h = absurd (cc)
some (x ∷ xs) h = omega arith

all_at : {A : Type 0} (p : A → Bool) (xs : List A) (k : ℕ) (d : A) → list_all p xs ≡ true → k < length xs → p (get_or xs k d) ≡ true
all_at p [] k d h lt = absurd (omega (arith, lt))
all_at p (x ∷ xs) zero d h lt = (and_parts (p x) (list_all p xs) h).0
all_at p (x ∷ xs) (suc k) d h lt = all_at p xs k d (and_parts (p x) (list_all p xs) h).1 (omega (arith, lt))

got : {A : Type 0} (P : A → Type 0) (xs : List A) (k : ℕ) (d : A) → ((j : ℕ) (e : A) → j < length xs → P (get_or xs j e)) → P d → P (unwrap_or (slice_get xs k) d)
got P [] k d all h = h
got P (x ∷ xs) zero d all h = all 0 d (omega arith)
got P (x ∷ xs) (suc k) d all h = got P xs k d (λ j e lt. all (suc j) e (omega (arith, lt))) h

-- ---- the parts of soundness

pub record Sizes (g : Group) : Type 0 where
  pub cells : 0 < cell_count g.space
  pub initial : length g.initial ≡ cell_count g.space
  pub delay : g.settings.default_delay ≤ 359999999
  pub offsets : length g.offsets ≤ 128
  pub names : has_right_names g ≡ true
  pub rules : has_right_rules g ≡ true

pub sizes : (g : Group) → is_sound_group g ≡ true → Sizes g
sizes g sound =
    let a = nat_lt 0 (cell_count g.space) in
    let b = length g.initial == cell_count g.space in
    let c = nat_le g.settings.default_delay 359999999 in
    let d = nat_le (length g.offsets) 128 in
    let e = list_all is_near_offset g.offsets in
    let p = and_parts (a && b && c && d && e && offsets_differ g.offsets && has_right_names g) (has_right_rules g) sound in
    let q = and_parts (a && b && c && d && e && offsets_differ g.offsets) (has_right_names g) p.0 in
    let r = and_parts (a && b && c && d && e) (offsets_differ g.offsets) q.0 in
    let t = and_parts (a && b && c && d) e r.0 in
    let u = and_parts (a && b && c) d t.0 in
    let v = and_parts (a && b) c u.0 in
    let w = and_parts a b v.0 in
    record {
      cells = below 0 (cell_count g.space) w.0;
      initial = equal (length g.initial) (cell_count g.space) w.1;
      delay = at_most g.settings.default_delay 359999999 v.1;
      offsets = at_most (length g.offsets) 128 u.1;
      names = q.1;
      rules = p.1;
    }

pub record Counts (g : Group) : Type 0 where
  pub variables : length g.variable_values ≤ 8
  pub ports : length g.port_values ≤ 3

pub counts : (g : Group) → has_right_names g ≡ true → Counts g
counts g h =
    let a = nat_le (length g.variables) 8 in
    let b = length g.variable_values == length g.variables in
    let c = not (has_repeat g.variables) in
    let d = nat_le (length g.ports) 3 in
    let e = length g.port_values == length g.ports in
    let p = and_parts (a && b && c && d && e) (not (has_repeat (out ∷ g.ports))) h in
    let q = and_parts (a && b && c && d) e p.0 in
    let r = and_parts (a && b && c) d q.0 in
    let s = and_parts (a && b) c r.0 in
    let t = and_parts a b s.0 in
    record {
      variables = omega (arith, at_most (length g.variables) 8 t.0, equal (length g.variable_values) (length g.variables) t.1);
      ports = omega (arith, at_most (length g.ports) 3 r.1, equal (length g.port_values) (length g.ports) q.1);
    }

pub record Ruled (g : Group) : Type 0 where
  pub some : 0 < length g.rule_sets
  pub zones : list_all (λ k. nat_lt k (length g.rule_sets)) g.zone_rules ≡ true
  pub ports : list_all (λ (p : PortRule). nat_lt p.rules (length g.rule_sets) && nat_lt p.cell (cell_count g.space)) g.port_rules ≡ true
  pub sound : list_all (λ rules. nat_le (length rules) 1024 && list_all (is_sound (extent g)) rules) g.rule_sets ≡ true

pub ruled : (g : Group) → has_right_rules g ≡ true → Ruled g
ruled g h =
    let a = not (is_empty g.rule_sets) in
    let b = length g.zone_rules == length g.zones in
    let c = list_all (λ k. nat_lt k (length g.rule_sets)) g.zone_rules in
    let d = list_all (λ (p : PortRule). nat_lt p.rules (length g.rule_sets) && nat_lt p.cell (cell_count g.space)) g.port_rules in
    let e = places_differ g.port_rules in
    let f = list_all (λ rules. nat_le (length rules) 1024 && list_all (is_sound (extent g)) rules) g.rule_sets in
    let p = and_parts (a && b && c && d && e) f h in
    let q = and_parts (a && b && c && d) e p.0 in
    let r = and_parts (a && b && c) d q.0 in
    let s = and_parts (a && b) c r.0 in
    let t = and_parts a b s.0 in
    record { some = some g.rule_sets t.0; zones = s.1; ports = r.1; sound = p.1 }

-- the number of a cell's rule set is that of a rule set
pub set_within : (g : Group) → Ruled g → (i : ℕ) → set_of g i < length g.rule_sets
set_within g h i = by (zone_of g.zones g.space i)
  where
    by : (o : Option ℕ) → set_in g o < length g.rule_sets
    by None = h.some
    by (Some z) = got (λ k. k < length g.rule_sets) g.zone_rules z 0 (λ j e lt. below (get_or g.zone_rules j e) (length g.rule_sets) (all_at (λ k. nat_lt k (length g.rule_sets)) g.zone_rules j e h.zones lt)) h.some

-- a layout that stands for a sound group is a plan
pub is_plan : (g : Group) (l : Layout) (n : Neighbourhood) → is_sound_group g ≡ true → StandsFor g l → n ≡ record { space = l.space; offsets = l.offsets } → IsPlan l n
is_plan g l n sound st near =
    let s = sizes g sound in
    let k = counts g s.names in
    let r = ruled g s.rules in
    let many : length l.rule_sets ≡ length g.rule_sets = ap length st.rule_sets in
    let count = cell_count g.space in
    let sets-long : length l.sets ≡ count = ap length st.sets ∙ length-map-range_with_len (set_of g) 0 count in
    record {
      near = near;
      cells = sets-long ∙ ap cell_count (sym st.space);
      sets = λ j e lt.
          let is : get_or l.sets j e ≡ set_of g j = ap (λ xs. get_or xs j e) st.sets ∙ get_or-map-range_with_len (set_of g) 0 count j j e (omega (arith, lt, sets-long)) (zero-add j) in
          omega (arith, is, set_within g r j, many);
      port_rules = λ j e lt.
          let is : get_or l.port_rules j e ≡ get_or g.port_rules j e = ap (λ xs. get_or xs j e) st.port_rules in
          let both = all_at (λ (p : PortRule). nat_lt p.rules (length g.rule_sets) && nat_lt p.cell (cell_count g.space)) g.port_rules j e r.ports (omega (arith, lt, ap length st.port_rules)) in
          let p = get_or g.port_rules j e in
          let here = below p.rules (length g.rule_sets) (and_parts (nat_lt p.rules (length g.rule_sets)) (nat_lt p.cell (cell_count g.space)) both).0 in
          omega (arith, ap (λ (q : PortRule). q.rules) is, here, many);
      ports = omega (arith, st.ports, k.ports);
      variables = omega (arith, st.variables, k.variables);
      offsets = omega (arith, ap length st.offsets, s.offsets);
      delay = omega (arith, ap (λ (d : CellSettings). d.default_delay) st.settings, s.delay);
    }

pub near_is : (n : Neighbourhood) (s : Space) (xs : List Offset) → n ≡ record { space = s; offsets = xs } → n ≡ record { space = s; offsets = n.offsets }
near_is n s xs e = λ k. record { space = (ap (λ (m : Neighbourhood). m.space) e) k; offsets = n.offsets }

-- zones laid over as many zeros as there are cells
pub laid-sets : (g : Group) (zeros sets : List ℕ) → zeros ≡ replicate (cell_count g.space) 0 → length sets ≡ length zeros
    → ((cell : ℕ) → cell < cell_count g.space → get_or sets cell 0 ≡ zone_number g.zone_rules (get_or zeros cell 0) (zone_of g.zones g.space cell))
    → sets ≡ map (set_of g) (range_with_len 0 (cell_count g.space))
laid-sets g zeros sets are long laid =
    let count = cell_count g.space in
    fill_by_all (set_of g) sets count 0 (long ∙ ap length are ∙ length-replicate count 0) (λ k lt.
    laid k lt ∙ ap (λ z. zone_number g.zone_rules z (zone_of g.zones g.space k)) (ap (λ zs. get_or zs k 0) are ∙ get_or-replicate count k 0 0 lt)
    ∙ by (zone_of g.zones g.space k))
  where
    by : (o : Option ℕ) → zone_number g.zone_rules 0 o ≡ set_in g o
    by None = refl
    by (Some z) = refl
