-- The leaves of one time leave.
use Rattle.std.proofs.Common.{◌≡◌, ◌≢◌, ℕ, ◌+◌, ◌<◌, ◌≤◌, ◌-◌, zero, suc, Bool, true, false, cond, Option, Some, None, List, [], ◌∷◌, ◌++◌, length, get_or, set, take, drop, map, refl, sym, ◌∙◌, ap, arith, ⊎_elim}
use Rattle.std.specs.List.{filter, range_with_len, sum_by}
use Rattle.std.proofs.lemmas.Bool.{cases_eq, eq-eqb, ne_eqb}
use Rattle.std.proofs.lemmas.List.{length-set, get_or-set_same, get_or-set_other, map-set, set-get_or, get_or-map, map-id, length-map, length-append, length-take-le, length-drop, get_or-append_right, get_or-drop, get_or_default}
use Rattle.std.proofs.lemmas.List.Edits.{map_over_more}
use Rattle.std.proofs.lemmas.List.FromFn.{length-range_with_len, filter_of_map_range_with_len_more}
use Rattle.std.proofs.lemmas.List.Sums.{sum_by-cons, length-filter, count_by-le-length}
use Rattle.time_queue.specs.Waiting.{waiting_time, is_due, leaves_at, undue, without, least_time, NoneBefore}
use Rattle.time_queue.specs.Taking.{NoneAt}
use Rattle.time_queue.proofs.Least.{least_reached, least_below, none_waits}

abbrev picked : (ℕ → Bool) → ℕ → ℕ → List ℕ
picked p a n = filter p (range_with_len a n)

-- two tests that agree on the numbers of a range
pub same_picked : (p q : ℕ → Bool) (a n : ℕ) → ((k : ℕ) → a ≤ k → k < a + n → p k ≡ q k) → filter p (range_with_len a n) ≡ filter q (range_with_len a n)
same_picked p q a zero same = refl
same_picked p q a (suc n) same =
    let here : p a ≡ q a = same a (omega arith) (omega arith) in
    let rest = same_picked p q (a + 1) n (λ k low high. same k (omega arith) (omega arith)) in
    λ t. cond (here t) (a ∷ rest t) (rest t)

picked_here : (f : ℕ → ℕ) (p q : ℕ → Bool) (a n l : ℕ) → ((k : ℕ) → k ≢ l → p k ≡ q k) → p l ≡ true → q l ≡ false → a ≡ l → sum_by f (filter p (range_with_len a (suc n))) ≡ f l + sum_by f (filter q (range_with_len a (suc n)))
picked_here f p q a n l same holds none here =
    let rest = same_picked p q (a + 1) n (λ k low high. let ne : k ≢ l = omega arith in same k ne) in
    let yes_here : p a ≡ true = ap p here ∙ holds in
    let no_here : q a ≡ false = ap q here ∙ none in
    (λ t. sum_by f (cond (yes_here t) (a ∷ rest t) (rest t))) ∙ sum_by-cons f a (picked q (a + 1) n) ∙ (λ t. f (here t) + sum_by f (cond (sym no_here t) (a ∷ picked q (a + 1) n) (picked q (a + 1) n)))

cond_sum : (f : ℕ → ℕ) (b : Bool) (a l : ℕ) (xs ys : List ℕ) → sum_by f xs ≡ f l + sum_by f ys → sum_by f (cond b (a ∷ xs) xs) ≡ f l + sum_by f (cond b (a ∷ ys) ys)
cond_sum f true a l xs ys is = omega (arith, is, sum_by-cons f a xs, sum_by-cons f a ys)
cond_sum f false a l xs ys is = is

picked_there : (f : ℕ → ℕ) (p q : ℕ → Bool) (a n l : ℕ) → p a ≡ q a → sum_by f (filter p (range_with_len (a + 1) n)) ≡ f l + sum_by f (filter q (range_with_len (a + 1) n)) → sum_by f (filter p (range_with_len a (suc n))) ≡ f l + sum_by f (filter q (range_with_len a (suc n)))
picked_there f p q a n l same is =
    (λ t. sum_by f (cond (same t) (a ∷ picked p (a + 1) n) (picked p (a + 1) n))) ∙ cond_sum f (q a) a l (picked p (a + 1) n) (picked q (a + 1) n) is

-- one number is picked no more
pub picked_less : (f : ℕ → ℕ) (p q : ℕ → Bool) (a n l : ℕ) → ((k : ℕ) → k ≢ l → p k ≡ q k) → p l ≡ true → q l ≡ false → a ≤ l → l < a + n → sum_by f (filter p (range_with_len a n)) ≡ f l + sum_by f (filter q (range_with_len a n))
picked_less f p q a zero l same holds none low high = absurd (omega arith)
picked_less f p q a (suc n) l same holds none low high =
    ⊎_elim
    (λ here. picked_here f p q a n l same holds none here)
    (λ ne. picked_there f p q a n l (same a ne) (picked_less f p q (a + 1) n l same holds none (omega arith) (omega arith)))
    (cases_eq a l)

is_due_at : (at : ℕ) (t : Option ℕ) → t ≡ Some at → is_due at t ≡ true
is_due_at at t is = ap (is_due at) is ∙ eq-eqb at at refl

-- a leaf of that time leaves
pub leaves_less : (f : ℕ → ℕ) (at leaf : ℕ) (ts : List (Option ℕ)) → leaf < length ts → waiting_time ts leaf ≡ Some at → sum_by f (leaves_at at ts) ≡ f leaf + sum_by f (leaves_at at (set ts leaf None))
leaves_less f at leaf ts within is =
    picked_less f (λ k. is_due at (waiting_time ts k)) (λ k. is_due at (waiting_time (set ts leaf None) k)) 0 (length ts) leaf
    (λ k ne. ap (is_due at) (sym (get_or-set_other ts leaf k None None ne))) (is_due_at at (waiting_time ts leaf) is) (ap (is_due at) (get_or-set_same ts leaf None None within)) (omega arith) (omega arith)
    ∙ (λ t. f leaf + sum_by f (picked (λ k. is_due at (waiting_time (set ts leaf None) k)) 0 (sym (length-set ts leaf None) t)))

-- and what stays is what stayed
pub without_less : (at leaf : ℕ) (ts : List (Option ℕ)) → leaf < length ts → waiting_time ts leaf ≡ Some at → without at (set ts leaf None) ≡ without at ts
without_less at leaf ts within is =
    let gone : get_or (map (undue at) ts) leaf None ≡ None = get_or-map (undue at) ts leaf None None within ∙ (λ t. cond (is_due_at at (waiting_time ts leaf) is t) None (waiting_time ts leaf)) in
    map-set (undue at) ts leaf None ∙ ap (set (map (undue at) ts) leaf) (sym gone) ∙ set-get_or (map (undue at) ts) leaf None

pub without_none : (at : ℕ) (ts : List (Option ℕ)) → NoneAt at ts → without at ts ≡ ts
without_none at [] none = refl
without_none at (t ∷ ts) none =
    λ i. cond (none zero i) None t ∷ without_none at ts (λ leaf. none (suc leaf)) i

none_picked : (a n : ℕ) → filter (λ (k : ℕ). false) (range_with_len a n) ≡ []
none_picked a zero = refl
none_picked a (suc n) = none_picked (a + 1) n

pub leaves_none : (at : ℕ) (ts : List (Option ℕ)) → NoneAt at ts → leaves_at at ts ≡ []
leaves_none at ts none = same_picked (λ k. is_due at (waiting_time ts k)) (λ _. false) 0 (length ts) (λ k low high. none k) ∙ none_picked 0 (length ts)

none_due : (at : ℕ) (o : Option ℕ) → ((t : ℕ) → o ≡ Some t → t ≢ at) → is_due at o ≡ false
none_due at None none = refl
none_due at (Some t) none = ne_eqb t at (none t refl)

pub none_at : (at : ℕ) (ts : List (Option ℕ)) → ((leaf t : ℕ) → waiting_time ts leaf ≡ Some t → t ≢ at) → NoneAt at ts
none_at at ts none = λ leaf. none_due at (waiting_time ts leaf) (none leaf)

-- the least time is later
pub none_later : (at m : ℕ) (ts : List (Option ℕ)) → least_time ts ≡ Some m → NoneBefore at ts → m ≢ at → NoneAt at ts
none_later at m ts is before ne =
    let there = least_reached ts m is in
    let le : at ≤ m = before there.0 m there.1 in
    none_at at ts (λ leaf t waits same.
    let below = least_below ts leaf t waits in
    let least : below.0 ≡ m = cc (below.1, is) in
    ne (omega (arith, below.2)))

pub none_left : (at : ℕ) (ts : List (Option ℕ)) → least_time ts ≡ None → NoneAt at ts
none_left at ts is = none_at at ts (λ leaf t waits same. none_waits ts is leaf t waits)

-- a leaf that waits for nothing is before no time
pub fewer_before : (at leaf : ℕ) (ts : List (Option ℕ)) → leaf < length ts → NoneBefore at ts → NoneBefore at (set ts leaf None)
fewer_before at leaf ts within none k t waits =
    ⊎_elim
    (λ here. let gone : None ≡ Some t = sym (ap (waiting_time (set ts leaf None)) here ∙ get_or-set_same ts leaf None None within) ∙ waits in cc)
    (λ ne. none k t (sym (get_or-set_other ts leaf k None None ne) ∙ waits))
    (cases_eq k leaf)

pub ones : (xs : List ℕ) → sum_by (λ _. 1) xs ≡ length xs
ones [] = refl
ones (x ∷ xs) = omega (arith, sum_by-cons (λ _. 1) x xs, ones xs)

pub length_picked : (p : ℕ → Bool) (n : ℕ) → length (filter p (range_with_len 0 n)) ≤ n
length_picked p n = omega (arith, length-filter p (range_with_len 0 n), count_by-le-length p (range_with_len 0 n), length-range_with_len 0 n)

-- ---- all leaves are gone through

pub record IsScanned (at : ℕ) (start now : List (Option ℕ)) (taken : List ℕ) (i : ℕ) : Type 0 where
  pub now_is : now ≡ map (undue at) (take i start) ++ drop i start
  pub taken_is : taken ≡ filter (λ k. is_due at (waiting_time start k)) (range_with_len 0 i)

picked_more : (p : ℕ → Bool) (n : ℕ) → filter p (range_with_len 0 (n + 1)) ≡ filter p (range_with_len 0 n) ++ cond (p n) (n ∷ []) []
picked_more p n =
    ap (filter p) (sym (map-id (range_with_len 0 (n + 1)))) ∙ filter_of_map_range_with_len_more p (λ k. k) 0 n n (omega arith)
    ∙ ap (λ l. filter p l ++ cond (p n) (n ∷ []) []) (map-id (range_with_len 0 n))

scanned_length : (at : ℕ) (start now : List (Option ℕ)) (taken : List ℕ) (i : ℕ) → IsScanned at start now taken i → i ≤ length start → length now ≡ length start
scanned_length at start now taken i scanned le =
    ap length scanned.now_is ∙ omega (arith, length-append (map (undue at) (take i start)) (drop i start), length-map (take i start) (undue at), length-take-le i start le, length-drop i start)

-- the next leaf waits as it did
pub scanned_next : (at : ℕ) (start now : List (Option ℕ)) (taken : List ℕ) (i : ℕ) → IsScanned at start now taken i → i < length start → waiting_time now i ≡ waiting_time start i
scanned_next at start now taken i scanned lt =
    let so_far : length (map (undue at) (take i start)) ≡ i = length-map (take i start) (undue at) ∙ length-take-le i start (omega arith) in
    ap (λ l. waiting_time l i) scanned.now_is ∙ get_or-append_right (map (undue at) (take i start)) (drop i start) i i None so_far (omega arith)
    ∙ get_or-drop i start (i - i) None ∙ ap (λ k. waiting_time start k) (omega arith)

pub scanned_none : (at : ℕ) (start : List (Option ℕ)) → IsScanned at start start [] 0
scanned_none at start = record { now_is = refl; taken_is = refl }

pub scanned_room : (at : ℕ) (start now : List (Option ℕ)) (taken : List ℕ) (i : ℕ) → IsScanned at start now taken i → length taken ≤ i
scanned_room at start now taken i scanned = omega (arith, ap length scanned.taken_is, length_picked (λ k. is_due at (waiting_time start k)) i)

pub scanned_more : (at : ℕ) (start now after : List (Option ℕ)) (taken : List ℕ) (i : ℕ) → IsScanned at start now taken i → i < length start → set now i (undue at (waiting_time now i)) ≡ after → IsScanned at start after (taken ++ cond (is_due at (waiting_time start i)) (i ∷ []) []) (i + 1)
scanned_more at start now after taken i scanned lt is = record {
  now_is = sym is ∙ map_over_more (undue at) start now i (waiting_time now i) lt scanned.now_is (get_or_default now i None (waiting_time now i) (omega (arith, scanned_length at start now taken i scanned (omega arith))));
  taken_is = ap (λ l. l ++ cond (is_due at (waiting_time start i)) (i ∷ []) []) scanned.taken_is ∙ sym (picked_more (λ k. is_due at (waiting_time start k)) i);
}
