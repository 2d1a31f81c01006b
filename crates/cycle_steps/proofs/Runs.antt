-- Y records that stand by rising leaf, and what paths bring, one after another.
use Rattle.std.proofs.Common.{◌≡◌, ℕ, ◌+◌, ◌<◌, ◌≤◌, Bool, true, false, cond, eqb, List, [], ◌∷◌, ◌++◌, map, length, drop, get_or, refl, sym, ◌∙◌, ap}
use Rattle.std.specs.List.{All, filter, flat_map}
use Rattle.std.specs.List.Sorted.{IsNonDecreasingBy}
use Rattle.std.proofs.lemmas.List.{drop_more}
use Rattle.model_leaves.specs.declared.path.TargetPort.{TargetPort}
use Rattle.model_leaves.specs.declared.path.TargetPort.TheVariants as target
use Rattle.run_model.specs.Run.{PortRecord}
use Rattle.text_forms.specs.declared.records.YRecord.{YRecord}
use Rattle.sparse_cycle.specs.Feed.{values_of_leaf}
use Rattle.cycle_steps.proofs.Gathered.{more}
use Rattle.cycle_steps.proofs.Picked as picked
use Rattle.cycle_steps.specs.Untimed.{y_record, y_records}
use Rattle.cycle_steps.specs.Routed.{fed_to, out_to}

abbrev leaf_in : YRecord → ℕ
leaf_in r = r.leaf

value-by : (b : Bool) (l : ℕ) (r : YRecord) (rs : List YRecord) → values_of_leaf (y_records rs) l ≡ map (λ (r : YRecord). r.value) (picked.picked leaf_in l rs)
    → map (λ (r : PortRecord). r.value) (cond b (y_record r ∷ filter (λ (r : PortRecord). eqb r.leaf l) (y_records rs)) (filter (λ (r : PortRecord). eqb r.leaf l) (y_records rs))) ≡ map (λ (r : YRecord). r.value) (cond b (r ∷ picked.picked leaf_in l rs) (picked.picked leaf_in l rs))
value-by true l r rs is = ap (λ vs. r.value ∷ vs) is
value-by false l r rs is = is

pub values-picked : (l : ℕ) (rs : List YRecord) → values_of_leaf (y_records rs) l ≡ map (λ (r : YRecord). r.value) (picked.picked leaf_in l rs)
values-picked l [] = refl
values-picked l (r ∷ rs) = value-by (eqb r.leaf l) l r rs (values-picked l rs)

pub none-above : (l i : ℕ) (zs : List YRecord) → IsNonDecreasingBy leaf_in zs → All (λ (r : YRecord). l ≤ r.leaf) zs → (x : YRecord) → x ≡ get_or zs i x → i < length zs → (x.leaf ≡ l → ⊥) → values_of_leaf (y_records (drop i zs)) l ≡ []
none-above l i zs rise above x is lt ne =
    values-picked l (drop i zs) ∙ ap (map (λ (r : YRecord). r.value)) (picked.none-above leaf_in l i zs rise above x is lt ne)

pub none-before : (l first : ℕ) (zs : List YRecord) → first ≤ length zs → ((k : ℕ) (d : YRecord) → k < first → (get_or zs k d).leaf < l) → values_of_leaf (y_records (drop first zs)) l ≡ values_of_leaf (y_records zs) l
none-before l first zs within below =
    values-picked l (drop first zs) ∙ ap (map (λ (r : YRecord). r.value)) (picked.none-before leaf_in l first zs within below) ∙ sym (values-picked l zs)

-- one number more whose items are appended
pub one-more : {A B : Type 0} (f : A → B) (g : ℕ → List A) (ks : List ℕ) (i : ℕ) (all old new : List B) → i < length ks
    → all ≡ old ++ map f (flat_map g (drop i ks)) → new ≡ old ++ map f (g (get_or ks i 0)) → all ≡ new ++ map f (flat_map g (drop (i + 1) ks))
one-more f g ks i all old new lt is so =
    more f old (g (get_or ks i 0)) (flat_map g (drop (i + 1) ks)) all new (is ∙ ap (λ ls. old ++ map f (flat_map g ls)) (drop_more ks i 0 lt)) so

-- ---- nothing is brought where there are no values

pub fed-none : (to : TargetPort) → fed_to to [] ≡ []
fed-none (target.Leaf l port) = refl
fed-none (target.TopOut k) = refl

pub out-none : (to : TargetPort) → out_to to [] ≡ []
out-none (target.Leaf l port) = refl
out-none (target.TopOut k) = refl
