-- The counts of a run, cycle by cycle, are those of its last line.
use Rattle.std.proofs.Common.{◌≡◌, ℕ, zero, suc, ◌+◌, ◌<◌, ◌≤◌, drop, ◌==◌, Bool, true, false, cond, Option, Some, None, List, [], ◌∷◌, ◌++◌, length, map, replicate, get_or, set, refl, sym, ap, ◌∙◌, subst, arith, length-set, get_or-set_same, get_or-set_other}
use Rattle.std.specs.Prelude.{count_by, if◌then◌else◌}
use Rattle.std.specs.List.{range_with_len, sum_by, flat_map, filter_map, last_or, cons_option}
use Rattle.std.proofs.lemmas.List.{at_drop_more, at_drop_all, length-map}
use Rattle.std.proofs.lemmas.List.Sums.{sum_by-cons}
use Rattle.std.proofs.lemmas.Bool.Decides.{nat_tests}
use Rattle.quantity.specs.declared.value.Value.{Value}
use Rattle.quantity.specs.Arithmetic.{same_value}
use Rattle.rule_tree.specs.Meaning.{whole}
use Rattle.run_model.specs.Run.{PortRecord, Cycle}
use Rattle.answer_model.specs.RunEnd.{is_one_last}
use Rattle.text_forms.specs.declared.records.YRecord.{YRecord}
use Rattle.text_forms.specs.declared.records.SRecord.{SRecord}
use Rattle.text_forms.specs.declared.records.Records.{Records}
use Rattle.text_forms.specs.Held.{Holds, y_at, s_at}
use Rattle.run_loop.proofs.Cycles.{plain_back}
use Rattle.run_loop.specs.Showing.{plain}
use Rattle.run_loop.specs.Counts.{Counts, no_counts, ones_after, counts_after, counts_of}

-- ---- sums

pub counts_y : (cs : List Cycle) (k : Counts) → (counts_of cs k).y ≡ k.y + sum_by (λ (c : Cycle). length c.y) cs
counts_y [] k = omega arith
counts_y (c ∷ cs) k = let more = counts_y cs (counts_after c k) in omega (arith, more, sum_by-cons (λ (d : Cycle). length d.y) c cs)

pub counts_s : (cs : List Cycle) (k : Counts) → (counts_of cs k).s ≡ k.s + sum_by (λ (c : Cycle). length c.s) cs
counts_s [] k = omega arith
counts_s (c ∷ cs) k = let more = counts_s cs (counts_after c k) in omega (arith, more, sum_by-cons (λ (d : Cycle). length d.s) c cs)

ones_append : (ones : List Bool) (xs ys : List PortRecord) → ones_after ones (xs ++ ys) ≡ ones_after (ones_after ones xs) ys
ones_append ones [] ys = refl
ones_append ones (x ∷ xs) ys = ones_append (set ones x.leaf (same_value x.value (whole 1))) xs ys

counts_ones : (cs : List Cycle) (k : Counts) → (counts_of cs k).ones ≡ ones_after k.ones (flat_map (λ (c : Cycle). c.y) cs)
counts_ones [] k = refl
counts_ones (c ∷ cs) k = counts_ones cs (counts_after c k) ∙ sym (ones_append k.ones c.y (flat_map (λ (d : Cycle). d.y) cs))

-- ---- the last value of a leaf

-- the value, where the record is of this leaf
abbrev value_of : ℕ → PortRecord → Option Value
value_of leaf r = if r.leaf == leaf then Some r.value else None

-- whether the last is 1, or this where there is none
abbrev last_is_one : Bool → List Value → Bool
last_is_one b vs = elim (last_or None vs) [ None ↦ b | Some v ↦ same_value v (whole 1) ]

last_one : (b : Bool) (v : Value) (vs : List Value) → last_is_one b (v ∷ vs) ≡ last_is_one (same_value v (whole 1)) vs
last_one b v [] = refl
last_one b v (w ∷ vs) = some w vs
  where
    some : (w : Value) (vs : List Value) → last_is_one b (w ∷ vs) ≡ last_is_one (same_value v (whole 1)) (w ∷ vs)
    some w [] = refl
    some w (x ∷ xs) = some x xs

same_leaf : (a b : ℕ) → (a == b) ≡ true → a ≡ b
same_leaf a b e = grind (arith, nat_tests)

other_leaf : (a b : ℕ) → (a == b) ≡ false → b ≡ a → ⊥
other_leaf a b e f = grind (arith, nat_tests)

ones_are : (ones : List Bool) (rs : List PortRecord) (k : ℕ) → k < length ones → get_or (ones_after ones rs) k false ≡ last_is_one (get_or ones k false) (filter_map (value_of k) rs)
ones_are ones [] k lt = refl
ones_are ones (r ∷ rs) k lt =
    let one = same_value r.value (whole 1) in
    let more = ones_are (set ones r.leaf one) rs k (subst (λ (n : ℕ). k < n) (sym (length-set ones r.leaf one)) lt) in
    more ∙ by (r.leaf == k) refl
  where
    by : (b : Bool) → (r.leaf == k) ≡ b
        → last_is_one (get_or (set ones r.leaf (same_value r.value (whole 1))) k false) (filter_map (value_of k) rs)
        ≡ last_is_one (get_or ones k false) (cons_option (if b then Some r.value else None) (filter_map (value_of k) rs))
    by true e =
        let same = same_leaf r.leaf k e in
        let one = same_value r.value (whole 1) in
        let here : get_or (set ones r.leaf one) k false ≡ one = ap (λ (j : ℕ). get_or (set ones j one) k false) same ∙ get_or-set_same ones k one false lt in
        ap (λ b. last_is_one b (filter_map (value_of k) rs)) here ∙ sym (last_one (get_or ones k false) r.value (filter_map (value_of k) rs))
    by false e =
        ap (λ b. last_is_one b (filter_map (value_of k) rs)) (get_or-set_other ones r.leaf k (same_value r.value (whole 1)) false (other_leaf r.leaf k e))

-- ---- marks are counted

count_marks : (p : ℕ → Bool) (ones : List Bool) (a : ℕ) → ((k : ℕ) → k < length ones → get_or ones k false ≡ p (a + k)) → count_by (λ b. b) ones ≡ count_by p (range_with_len a (length ones))
count_marks p [] a same = refl
count_marks p (b ∷ bs) a same =
    let here : b ≡ p a = same 0 (omega arith) ∙ ap p (omega arith) in
    let more = count_marks p bs (a + 1) (λ k lt. same (suc k) (omega arith) ∙ ap p (omega arith)) in
    let one = λ (q : Bool). cond q 1 0 in
    let two = λ (k : ℕ). cond (p k) 1 0 in
    sum_by-cons one b bs ∙ (λ i. cond (here i) 1 0 + more i) ∙ sym (sum_by-cons two a (range_with_len (a + 1) (length bs)))

length-replicate : (n : ℕ) → length (replicate n false) ≡ n
length-replicate zero = refl
length-replicate (suc n) = ap suc (length-replicate n)

none_marked : (n k : ℕ) → get_or (replicate n false) k false ≡ false
none_marked zero k = refl
none_marked (suc n) zero = refl
none_marked (suc n) (suc k) = none_marked n k

length-ones : (ones : List Bool) (rs : List PortRecord) → length (ones_after ones rs) ≡ length ones
length-ones ones [] = refl
length-ones ones (r ∷ rs) = length-ones (set ones r.leaf (same_value r.value (whole 1))) rs ∙ length-set ones r.leaf (same_value r.value (whole 1))

-- so the marks at the end are the leaves whose last value is 1
pub ones_counted : (leaves : ℕ) (cs : List Cycle) → count_by (λ b. b) (counts_of cs (no_counts leaves)).ones ≡ count_by (is_one_last cs) (range_with_len 0 leaves)
ones_counted leaves cs =
    let rs = flat_map (λ (c : Cycle). c.y) cs in
    let ones = ones_after (replicate leaves false) rs in
    let size : length ones ≡ leaves = length-ones (replicate leaves false) rs ∙ length-replicate leaves in
    let each : (k : ℕ) → k < length ones → get_or ones k false ≡ is_one_last cs (0 + k) = λ k lt.
    ones_are (replicate leaves false) rs k (omega (arith, lt, size, length-replicate leaves))
    ∙ ap (λ b. last_is_one b (filter_map (value_of k) rs)) (none_marked leaves k)
    ∙ ap (is_one_last cs) (sym (zero_more k)) in
    ap (count_by (λ b. b)) (counts_ones cs (no_counts leaves)) ∙ count_marks (is_one_last cs) ones 0 each ∙ ap (λ n. count_by (is_one_last cs) (range_with_len 0 n)) size
  where
    zero_more : (k : ℕ) → 0 + k ≡ k
    zero_more k = omega arith

-- ---- records one after another

-- a record more is marked
pub marked_next : (given : List YRecord) (i : ℕ) (r : YRecord) (ones ones' all : List Bool) → i < length given → r ≡ get_or given i r → ones' ≡ set ones r.leaf (same_value r.value (whole 1))
    → ones_after ones (map plain (drop i given)) ≡ all → ones_after ones' (map plain (drop (i + 1) given)) ≡ all
marked_next given i r ones ones' all lt is next so =
    ap (λ os. ones_after os (map plain (drop (i + 1) given))) next
    ∙ ap (λ (q : YRecord). ones_after (set ones q.leaf (same_value q.value (whole 1))) (map plain (drop (i + 1) given))) is
    ∙ sym (at_drop_more (λ rs. ones_after ones (map plain rs)) given i r lt) ∙ so

pub marked_all : (given : List YRecord) (n : ℕ) (ones all : List Bool) → length given ≤ n → ones_after ones (map plain (drop n given)) ≡ all → ones ≡ all
marked_all given n ones all le so = sym (at_drop_all (λ rs. ones_after ones (map plain rs)) given n le) ∙ so

-- the records of a cycle are counted
pub counts_added : (c : Cycle) (records : Records) (k : Counts) (y s : ℕ) (ones : List Bool) → Holds records c → y ≡ k.y + length records.y.items → s ≡ k.s + length records.s.items → ones ≡ ones_after k.ones (map plain records.y.items)
    → (let n : Counts = record { y = y; s = s; ones = ones } in n) ≡ counts_after c k
counts_added c records k y s ones h y_is s_is ones_is =
    let ys = ap (length {A = YRecord}) h.y ∙ length-map c.y (y_at c.time) in
    let ss = ap (length {A = SRecord}) h.s ∙ length-map c.s (s_at c.time) in
    let yn : y ≡ k.y + length c.y = y_is ∙ ap (λ n. k.y + n) ys in
    let sn : s ≡ k.s + length c.s = s_is ∙ ap (λ n. k.s + n) ss in
    let on : ones ≡ ones_after k.ones c.y = ones_is ∙ ap (λ rs. ones_after k.ones rs) (ap (map plain) h.y ∙ plain_back c.time c.y) in
    λ i. record { y = yn i; s = sn i; ones = on i }
