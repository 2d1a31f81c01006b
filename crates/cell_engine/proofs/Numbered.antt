-- The numbers of rule sets as they are kept.
use Rattle.std.proofs.Common.{◌≡◌, ℕ, zero, suc, ◌+◌, Option, Some, None, List, [], ◌∷◌, length, get_or, map, replicate, inl, inr, refl, sym, ap, ◌∙◌, arith}
use Rattle.std.proofs.lemmas.Bool.{cases_lt}
use Rattle.std.proofs.lemmas.List.{get_or-replicate, get_or_past, length-replicate}
use Rattle.std.specs.Prelude.{slice_get}
use Rattle.std.specs.List.{range_with_len}
use Rattle.std.specs.Option.{unwrap_or}
use Rattle.cell_grid.specs.Zones.{zone_of}
use Rattle.model_tree.specs.Tree.{Group}
use Rattle.cell_engine.specs.Layout.{set_in, set_of}
use Rattle.cell_engine.specs.Numbers.{numbers_of}

pub as_they_are : (ks : List ℕ) → numbers_of 0 ks ≡ ks
as_they_are [] = refl
as_they_are (k ∷ ks) = refl

zeros : (n i : ℕ) → get_or {A = ℕ} (replicate n 0) i 0 ≡ 0
zeros n i =
    elim (cases_lt i n) [
      | inl below ↦ get_or-replicate {A = ℕ} n i 0 0 below
      | inr past ↦ get_or_past {X = ℕ} (replicate n 0) i 0 (omega (arith, past, length-replicate {A = ℕ} n 0))
    ]

pub number_is : (cells : ℕ) (ks : List ℕ) (i : ℕ) → get_or ks i 0 ≡ get_or (numbers_of cells ks) i 0
number_is cells [] i = get_or_past {X = ℕ} [] i 0 (omega arith) ∙ sym (zeros cells i)
number_is cells (k ∷ ks) i = refl

-- where no zone has a set of rules, each cell goes by the first
first_in : (g : Group) (o : Option ℕ) → g.zone_rules ≡ [] → set_in g o ≡ 0
first_in g None none = refl
first_in g (Some z) none = ap (λ (ks : List ℕ). unwrap_or (slice_get ks z) 0) none

pub all_first : (g : Group) (a n : ℕ) → g.zone_rules ≡ [] → map (set_of g) (range_with_len a n) ≡ replicate n 0
all_first g a zero none = refl
all_first g a (suc n) none = λ j. first_in g (zone_of g.zones g.space a) none j ∷ all_first g (a + 1) n none j

pub no_items : (ks : List ℕ) → length ks ≡ 0 → ks ≡ []
no_items [] is = refl
no_items (k ∷ ks) is = absurd (cc)
