-- Entries that stand for the leaves that wait, and their order.
use Rattle.std.proofs.Common.{◌≡◌, ◌≢◌, ℕ, ◌+◌, ◌*◌, ◌<◌, ◌≤◌, ◌⊎◌, zero, suc, Bool, true, false, cond, eqb, nat_lt, Option, Some, None, List, [], ◌∷◌, length, get_or, set, replicate, refl, sym, ◌∙◌, ap, arith, ⊎_elim, inl, inr}
use Rattle.std.specs.List.{sum_by, insert, remove}
use Rattle.std.specs.List.Sorted.{IsNonDecreasingBy}
use Rattle.std.proofs.lemmas.Bool.{cases_lt, cases_Bool, eqb-true, eq-eqb, lt-ltb, le-ltb}
use Rattle.std.proofs.lemmas.List.{length-set}
use Rattle.std.proofs.lemmas.List.Edits.{length-remove, get_or-remove_below, get_or-remove_above}
use Rattle.std.proofs.lemmas.List.Sums.{sum_by-cons, get_or-le-sum_by, sum_by-remove, sum_by-insert}
use Rattle.time_queue.specs.declared.entry.Entry.{Entry}
use Rattle.time_queue.specs.Waiting.{waiting_time, least_time}
use Rattle.time_queue.specs.Sorted.{rank, total, AreEntered}
use Rattle.time_queue.proofs.Least.{least_is, no_least}

plus_none : (k : ℕ) → k ≡ k + 0
plus_none k = omega arith

none_plus : (m : ℕ) → 0 + m ≡ m
none_plus m = omega arith

next : (k m : ℕ) → k + 1 + m ≡ k + suc m
next k m = omega arith

either_one : (a b : ℕ) → 1 ≤ a + b → (1 ≤ a) ⊎ (1 ≤ b)
either_one zero b one = inr (omega arith)
either_one (suc a) b one = inl (omega arith)

-- a leaf that waits is one of the leaves
pub waits_within : (ts : List (Option ℕ)) (leaf t : ℕ) → waiting_time ts leaf ≡ Some t → leaf < length ts
waits_within [] leaf t is = cc
waits_within (s ∷ ts) zero t is = omega arith
waits_within (s ∷ ts) (suc leaf) t is = omega (arith, waits_within ts leaf t is)

-- ---- what is added up

pub total_left : (f : ℕ → ℕ → ℕ) (k m t : ℕ) (ts : List (Option ℕ)) → waiting_time ts m ≡ Some t → total f k (set ts m None) + f t (k + m) ≡ total f k ts
total_left f k m t [] is = cc
total_left f k zero t (None ∷ ts) is = cc
total_left f k zero t (Some s ∷ ts) is = let same : s ≡ t = cc in let here : f s k ≡ f t (k + 0) = (λ i. f (same i) (plus_none k i)) in omega (arith, here)
total_left f k (suc m) t (None ∷ ts) is = let rest = total_left f (k + 1) m t ts is in let there = ap (f t) (next k m) in omega (arith, rest, there)
total_left f k (suc m) t (Some s ∷ ts) is = let rest = total_left f (k + 1) m t ts is in let there = ap (f t) (next k m) in omega (arith, rest, there)

pub total_entered : (f : ℕ → ℕ → ℕ) (k m t : ℕ) (ts : List (Option ℕ)) → m < length ts → waiting_time ts m ≡ None → total f k (set ts m (Some t)) ≡ total f k ts + f t (k + m)
total_entered f k m t [] lt is = absurd (omega arith)
total_entered f k zero t (Some s ∷ ts) lt is = cc
total_entered f k zero t (None ∷ ts) lt is = let here = ap (f t) (plus_none k) in omega (arith, here)
total_entered f k (suc m) t (None ∷ ts) lt is = let rest = total_entered f (k + 1) m t ts (omega arith) is in let there = ap (f t) (next k m) in omega (arith, rest, there)
total_entered f k (suc m) t (Some s ∷ ts) lt is = let rest = total_entered f (k + 1) m t ts (omega arith) is in let there = ap (f t) (next k m) in omega (arith, rest, there)

-- a leaf that waits is counted
total_there : (f : ℕ → ℕ → ℕ) (m t : ℕ) (ts : List (Option ℕ)) → waiting_time ts m ≡ Some t → f t m ≤ total f 0 ts
total_there f m t ts is = let here = ap (f t) (none_plus m) in omega (arith, total_left f 0 m t ts is, here)

total_of_none : (f : ℕ → ℕ → ℕ) (k n : ℕ) → total f k (replicate n None) ≡ 0
total_of_none f k zero = refl
total_of_none f k (suc n) = total_of_none f (k + 1) n

total_ones : (k : ℕ) (ts : List (Option ℕ)) → total (λ _ _. 1) k ts ≤ length ts
total_ones k [] = omega arith
total_ones k (None ∷ ts) = omega (arith, total_ones (k + 1) ts)
total_ones k (Some t ∷ ts) = omega (arith, total_ones (k + 1) ts)

-- only this time of this leaf
only : ℕ → ℕ → ℕ → ℕ → ℕ
only t l s k = cond (eqb s t) (cond (eqb k l) 1 0) 0

only_is : (t l : ℕ) → only t l t l ≡ 1
unfolding only
only_is t l = λ i. cond (eq-eqb t t refl i) (cond (eq-eqb l l refl i) 1 0) 0

only_at : (t l s k : ℕ) (a b : Bool) → eqb s t ≡ a → eqb k l ≡ b → only t l s k ≡ cond a (cond b 1 0) 0
unfolding only
only_at t l s k a b st kl = λ i. cond (st i) (cond (kl i) 1 0) 0

only_both : (t l s k : ℕ) → 1 ≤ only t l s k → (s ≡ t) × (k ≡ l)
only_both t l s k one =
    ⊎_elim
    (λ st. ⊎_elim (λ kl. (eqb-true s t st, eqb-true k l kl)) (λ kl. absurd (omega (arith, one, only_at t l s k true false st kl))) (cases_Bool (eqb k l)))
    (λ st. absurd (omega (arith, one, only_at t l s k false (eqb k l) st refl))) (cases_Bool (eqb s t))

-- what is counted waits
total_found : (t l k : ℕ) (ts : List (Option ℕ)) → 1 ≤ total (only t l) k ts → (m : ℕ) × (k + m ≡ l) × (waiting_time ts m ≡ Some t)
total_found t l k [] one = absurd (omega arith)
total_found t l k (None ∷ ts) one = let rest = total_found t l (k + 1) ts one in (suc rest.0, omega (arith, rest.1), rest.2)
total_found t l k (Some s ∷ ts) one =
    ⊎_elim
    (λ here. let both = only_both t l s k here in (zero, omega (arith, both.1), ap Some both.0))
    (λ there. let rest = total_found t l (k + 1) ts there in (suc rest.0, omega (arith, rest.1), rest.2))
    (either_one (only t l s k) (total (only t l) (k + 1) ts) one)

sum_found : (f : Entry → ℕ) (es : List Entry) (d : Entry) → 1 ≤ sum_by f es → (p : ℕ) × (p < length es) × (1 ≤ f (get_or es p d))
sum_found f [] d one = absurd (omega arith)
sum_found f (e ∷ es) d one =
    ⊎_elim
    (λ here. (zero, omega arith, here))
    (λ there. let rest = sum_found f es d there in (suc rest.0, omega (arith, rest.1), rest.2))
    (either_one (f e) (sum_by f es) (omega (arith, one, sum_by-cons f e es)))

-- ---- the entries and the leaves

-- each entry is of a leaf that waits for its time
pub entry_waits : (ts : List (Option ℕ)) (es : List Entry) (p : ℕ) (d : Entry) → AreEntered ts es → p < length es → waiting_time ts (get_or es p d).leaf ≡ Some (get_or es p d).at
entry_waits ts es p d entered within =
    let e = get_or es p d in
    let one = get_or-le-sum_by (λ (x : Entry). only e.at e.leaf x.at x.leaf) es p d within in
    let found = total_found e.at e.leaf 0 ts (omega (arith, one, only_is e.at e.leaf, entered (only e.at e.leaf))) in
    ap (waiting_time ts) (omega (arith, found.1)) ∙ found.2

-- each leaf that waits has an entry
pub leaf_entered : (ts : List (Option ℕ)) (es : List Entry) (leaf t : ℕ) (d : Entry) → AreEntered ts es → waiting_time ts leaf ≡ Some t → (p : ℕ) × (p < length es) × ((get_or es p d).at ≡ t) × ((get_or es p d).leaf ≡ leaf)
leaf_entered ts es leaf t d entered is =
    let found = sum_found (λ x. only t leaf x.at x.leaf) es d (omega (arith, total_there (only t leaf) leaf t ts is, only_is t leaf, entered (only t leaf))) in
    let both = only_both t leaf (get_or es found.0 d).at (get_or es found.0 d).leaf found.2 in
    (found.0, found.1, both.0, both.1)

ones : (es : List Entry) → sum_by (λ _. 1) es ≡ length es
ones [] = refl
ones (e ∷ es) = omega (arith, sum_by-cons (λ _. 1) e es, ones es)

-- there is room for one more
pub entered_room : (ts : List (Option ℕ)) (es : List Entry) (leaf : ℕ) → AreEntered ts es → leaf < length ts → waiting_time ts leaf ≡ None → length es < length ts
entered_room ts es leaf entered within is =
    omega (arith, ones es, entered (λ _ _. 1), total_entered (λ _ _. 1) 0 leaf 0 ts within is, total_ones 0 (set ts leaf (Some 0)), length-set ts leaf (Some 0))

pub entered_left : (ts : List (Option ℕ)) (es : List Entry) (leaf t p : ℕ) (d : Entry) → AreEntered ts es → waiting_time ts leaf ≡ Some t → p < length es → (get_or es p d).at ≡ t → (get_or es p d).leaf ≡ leaf → AreEntered (set ts leaf None) (remove es p)
entered_left ts es leaf t p d entered is within at_is leaf_is = λ f.
    let gone : f (get_or es p d).at (get_or es p d).leaf ≡ f t leaf = (λ i. f (at_is i) (leaf_is i)) in
    let there = ap (f t) (none_plus leaf) in
    omega (arith, entered f, gone, there, sum_by-remove (λ (e : Entry). f e.at e.leaf) es p d within, total_left f 0 leaf t ts is)

pub entered_more : (ts : List (Option ℕ)) (es : List Entry) (p : ℕ) (e : Entry) → AreEntered ts es → e.leaf < length ts → waiting_time ts e.leaf ≡ None → AreEntered (set ts e.leaf (Some e.at)) (insert es p e)
entered_more ts es p e entered within is = λ f.
    let there = ap (f e.at) (none_plus e.leaf) in
    omega (arith, entered f, there, sum_by-insert (λ (x : Entry). f x.at x.leaf) es p e, total_entered f 0 e.leaf e.at ts within is)

pub none_entered : (n : ℕ) → AreEntered (replicate n None) []
none_entered n = λ f. sym (total_of_none f 0 n)

-- ---- the order

pub ordered_left : (es : List Entry) (p : ℕ) → p < length es → IsNonDecreasingBy rank es → IsNonDecreasingBy rank (remove es p)
ordered_left es p within up = λ i j d le lt.
    let shorter = length-remove es p within in
    ⊎_elim
    (λ low. omega (arith, up i j d le (omega arith), ap rank (get_or-remove_below es p d i (omega arith) within), ap rank (get_or-remove_below es p d j low within)))
    (λ high. ⊎_elim
    (λ low. omega (arith, up i (j + 1) d (omega arith) (omega arith), ap rank (get_or-remove_below es p d i low within), ap rank (get_or-remove_above es p d j high within)))
    (λ above. omega (arith, up (i + 1) (j + 1) d (omega arith) (omega arith), ap rank (get_or-remove_above es p d i above within), ap rank (get_or-remove_above es p d j high within)))
    (cases_lt i p))
    (cases_lt j p)

-- the place of an entry that is there
pub entry_found : (ts : List (Option ℕ)) (es : List Entry) (leaf t place : ℕ) (e : Entry) → AreEntered ts es → length ts < 4294967296 → IsNonDecreasingBy rank es → e.at ≡ t → e.leaf ≡ leaf → leaf < 4294967296 → waiting_time ts leaf ≡ Some t
    → ((k : ℕ) (d : Entry) → k < place → rank (get_or es k d) < rank e) → ((k : ℕ) (d : Entry) → place ≤ k → k < length es → rank e ≤ rank (get_or es k d)) → (place < length es) × ((get_or es place e).at ≡ t) × ((get_or es place e).leaf ≡ leaf)
entry_found ts es leaf t place e entered few up at_is leaf_is small is before behind =
    let found = leaf_entered ts es leaf t e entered is in
    let p = found.0 in
    let same : rank (get_or es p e) ≡ rank e = (λ i. (found.2 ∙ sym at_is) i * 4294967296 + (found.3 ∙ sym leaf_is) i) in
    let within = found.1 in
    let not_before : place ≤ p = ⊎_elim (λ lt. absurd (omega (arith, before p e lt, same))) (λ le. le) (cases_lt p place) in
    let high = behind place e (omega arith) (omega arith) in
    let low = up place p e not_before within in
    let equal : rank (get_or es place e) ≡ rank e = omega (arith, high, low, same) in
    let here_waits = entry_waits ts es place e entered (omega arith) in
    let here_small = waits_within ts (get_or es place e).leaf (get_or es place e).at here_waits in
    (omega arith, omega (arith, equal, at_is, leaf_is, here_small), omega (arith, equal, at_is, leaf_is, here_small))

-- the first entry has the least time
pub first_least : (ts : List (Option ℕ)) (es : List Entry) (d : Entry) → AreEntered ts es → length ts < 4294967296 → IsNonDecreasingBy rank es → 0 < length es → least_time ts ≡ Some (get_or es 0 d).at
first_least ts es d entered few up some =
    let first = get_or es 0 d in
    let first_waits = entry_waits ts es 0 d entered some in
    let first_small = waits_within ts first.leaf first.at first_waits in
    least_is ts first.leaf first.at first_waits (λ leaf t waits.
    let found = leaf_entered ts es leaf t d entered waits in
    let small = waits_within ts leaf t waits in
    omega (arith, up 0 found.0 d (omega arith) found.1, found.2, found.3, small, few, first_small))

pub none_entered_least : (ts : List (Option ℕ)) (es : List Entry) (d : Entry) → AreEntered ts es → length es ≡ 0 → least_time ts ≡ None
none_entered_least ts es d entered none = no_least ts (λ leaf t waits. let found = leaf_entered ts es leaf t d entered waits in omega (arith, found.1))

-- ---- one entry before another

pub by_time : (a b l m : ℕ) → l < 4294967296 → m < 4294967296 → a ≢ b → nat_lt (a * 4294967296 + l) (b * 4294967296 + m) ≡ nat_lt a b
by_time a b l m l_small m_small ne =
    ⊎_elim (λ lt. lt-ltb (a * 4294967296 + l) (b * 4294967296 + m) (omega arith) ∙ sym (lt-ltb a b lt)) (λ le. le-ltb (a * 4294967296 + l) (b * 4294967296 + m) (omega arith) ∙ sym (le-ltb a b le)) (cases_lt a b)

pub by_leaf : (a b l m : ℕ) → a ≡ b → nat_lt (a * 4294967296 + l) (b * 4294967296 + m) ≡ nat_lt l m
by_leaf a b l m is =
    ⊎_elim (λ lt. lt-ltb (a * 4294967296 + l) (b * 4294967296 + m) (omega arith) ∙ sym (lt-ltb l m lt)) (λ le. le-ltb (a * 4294967296 + l) (b * 4294967296 + m) (omega arith) ∙ sym (le-ltb l m le)) (cases_lt l m)

pub nothing_ordered : IsNonDecreasingBy rank []
nothing_ordered = λ i j d le lt. absurd (omega arith)

pub lower : (es : List Entry) (place : ℕ) (e : Entry) → ((k : ℕ) (d : Entry) → k < place → rank (get_or es k d) < rank e) → (k : ℕ) (d : Entry) → k < place → rank (get_or es k d) ≤ rank e
lower es place e before k d lt = omega (arith, before k d lt)
