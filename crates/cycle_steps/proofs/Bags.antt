-- X records that stand by rising leaf, and bags.
use Rattle.std.proofs.Common.{◌≡◌, ℕ, zero, suc, ◌<◌, ◌≤◌, Bool, true, false, cond, eqb, eqb-true, List, [], ◌∷◌, map, length, drop, get_or, refl, sym, ◌∙◌, ap, subst, arith}
use Rattle.std.specs.List.{All, AllByRecursion}
use Rattle.std.specs.List.Sorted.{IsNonDecreasingBy}
use Rattle.quantity.specs.declared.value.Value.{Value}
use Rattle.atomic_face.specs.declared.class.PortNo.{PortNo}
use Rattle.text_forms.specs.declared.records.XRecord.{XRecord}
use Rattle.sparse_cycle.specs.Sparse.{bag_in, records_at, value_at_port}
use Rattle.cycle_steps.proofs.Picked as picked
use Rattle.cycle_steps.specs.Untimed.{x_record, x_records}

abbrev leaf_in : XRecord → ℕ
leaf_in r = r.leaf

abbrev pair_in : XRecord → PortNo × Value
pair_in r = (r.port, r.value)

pair-by : (b : Bool) (l : ℕ) (r : XRecord) (rs : List XRecord) → bag_in (x_records rs) l ≡ map pair_in (picked.picked leaf_in l rs)
    → map value_at_port (cond b (x_record r ∷ records_at l (x_records rs)) (records_at l (x_records rs))) ≡ map pair_in (cond b (r ∷ picked.picked leaf_in l rs) (picked.picked leaf_in l rs))
pair-by true l r rs is = ap (λ bag. pair_in r ∷ bag) is
pair-by false l r rs is = is

pub bag-picked : (l : ℕ) (rs : List XRecord) → bag_in (x_records rs) l ≡ map pair_in (picked.picked leaf_in l rs)
bag-picked l [] = refl
bag-picked l (r ∷ rs) = pair-by (eqb r.leaf l) l r rs (bag-picked l rs)

pub none-above : (l i : ℕ) (zs : List XRecord) → IsNonDecreasingBy leaf_in zs → All (λ (r : XRecord). l ≤ r.leaf) zs → (x : XRecord) → x ≡ get_or zs i x → i < length zs → (x.leaf ≡ l → ⊥) → bag_in (x_records (drop i zs)) l ≡ []
none-above l i zs rise above x is lt ne =
    bag-picked l (drop i zs) ∙ ap (map pair_in) (picked.none-above leaf_in l i zs rise above x is lt ne)

pub none-before : (l first : ℕ) (zs : List XRecord) → first ≤ length zs → ((k : ℕ) (d : XRecord) → k < first → (get_or zs k d).leaf < l) → bag_in (x_records (drop first zs)) l ≡ bag_in (x_records zs) l
none-before l first zs within below =
    bag-picked l (drop first zs) ∙ ap (map pair_in) (picked.none-before leaf_in l first zs within below) ∙ sym (bag-picked l zs)

-- ---- the ports of a bag

all-at : {A : Type 0} (P : A → Type 0) (xs : List A) → AllByRecursion P xs → All P xs
all-at P [] h k d lt = absurd (omega (arith, lt))
all-at P (x ∷ xs) h zero d lt = h.0
all-at P (x ∷ xs) h (suc k) d lt = all-at P xs h.1 k d (omega (arith, lt))

module _ (ports : ℕ → ℕ) (l : ℕ) where
  IsPort : PortNo × Value → Type 0
  IsPort o = o.0.0 < ports l

  port-by : (b : Bool) (r : XRecord) (rs : List XRecord) → eqb r.leaf l ≡ b → r.port.0 < ports r.leaf → AllByRecursion IsPort (bag_in (x_records rs) l)
      → AllByRecursion IsPort (map value_at_port (cond b (x_record r ∷ records_at l (x_records rs)) (records_at l (x_records rs))))
  unfolding IsPort
  port-by true r rs is lt rest = (subst (λ (k : ℕ). r.port.0 < ports k) (eqb-true r.leaf l is) lt, rest)
  port-by false r rs is lt rest = rest

  each-port : (rs : List XRecord) → All (λ (r : XRecord). r.port.0 < ports r.leaf) rs → AllByRecursion IsPort (bag_in (x_records rs) l)
  each-port [] h = tt
  each-port (r ∷ rs) h = port-by (eqb r.leaf l) r rs refl (h 0 r (omega arith)) (each-port rs (λ k d lt. h (suc k) d (omega (arith, lt))))

pub bag-ports : (ports : ℕ → ℕ) (l : ℕ) (rs : List XRecord) → All (λ (r : XRecord). r.port.0 < ports r.leaf) rs → All (λ (o : PortNo × Value). o.0.0 < ports l) (bag_in (x_records rs) l)
unfolding IsPort
bag-ports ports l rs h = all-at (IsPort ports l) (bag_in (x_records rs) l) (each-port ports l rs h)
