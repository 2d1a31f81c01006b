-- The leaves that wait stand first.
use Rattle.std.proofs.Common.{◌≡◌, ◌≢◌, ℕ, ◌+◌, ◌<◌, ◌≤◌, true, Option, Some, None, List, [], ◌∷◌, ◌++◌, length, set, replicate, refl, sym, ◌∙◌, ap, arith, ⊎_elim}
use Rattle.std.specs.Prelude.{is_some, unwrap_or, slice_index}
use Rattle.std.specs.List.{swap, range_with_len}
use Rattle.std.proofs.lemmas.Bool.{cases_eq, cases_lt, false≢true}
use Rattle.std.proofs.lemmas.List.{get_or-set_same, get_or-set_other, get_or-replicate, length-replicate, map-id}
use Rattle.std.proofs.lemmas.List.Edits.{Swapped, swapped_from_swap, length-swap}
use Rattle.std.proofs.lemmas.List.FromFn.{length-range_with_len, get_or-range_with_len, map-range_with_len_more}
use Rattle.time_queue.specs.Waiting.{waiting_time, least_time}
use Rattle.time_queue.specs.Heap.{IsInverse, AreFirst, IsRanked, time_at}
use Rattle.time_queue.proofs.Least.{least_is, no_least}
use Rattle.time_queue.proofs.Entered.{waits_within}
use Rattle.time_queue.proofs.Heaps.{root_least, heap_none}

pub swapped_order : (xs ys : List ℕ) (a b : ℕ) → a < length xs → b < length xs → ys ≡ swap xs a b → Swapped (slice_index xs) (slice_index ys) a b
swapped_order xs ys a b a_lt b_lt is = swapped_from_swap xs ys a b 0 a_lt b_lt is

pub swapped_length : (xs ys : List ℕ) (a b : ℕ) → ys ≡ swap xs a b → length ys ≡ length xs
swapped_length xs ys a b is = ap length is ∙ length-swap xs a b

-- and so the times at the places
pub swapped_times : (ts : List (Option ℕ)) (xs ys : List ℕ) (a b : ℕ) → a < length xs → b < length xs → ys ≡ swap xs a b → Swapped (time_at ts xs) (time_at ts ys) a b
swapped_times ts xs ys a b a_lt b_lt is =
    let swapped = swapped_order xs ys a b a_lt b_lt is in
    (ap (λ l. unwrap_or (waiting_time ts l) 0) swapped.0, ap (λ l. unwrap_or (waiting_time ts l) 0) swapped.1, λ m a_ne b_ne. ap (λ l. unwrap_or (waiting_time ts l) 0) (swapped.2 m a_ne b_ne))

-- two leaves that wait change places
pub first_swapped : (ts : List (Option ℕ)) (xs ys : List ℕ) (n a b : ℕ) → n ≤ length xs → a < n → b < n → ys ≡ swap xs a b → AreFirst ts xs n → AreFirst ts ys n
first_swapped ts xs ys n a b all a_lt b_lt is first =
    let swapped = swapped_order xs ys a b (omega arith) (omega arith) is in
    let same = swapped_length xs ys a b is in
    record {
      wait = λ p lt.
          ⊎_elim
          (λ p_a. ap (λ q. is_some (waiting_time ts (slice_index ys q))) p_a ∙ ap (λ l. is_some (waiting_time ts l)) swapped.0 ∙ first.wait b b_lt)
          (λ a_ne. ⊎_elim
          (λ p_b. ap (λ q. is_some (waiting_time ts (slice_index ys q))) p_b ∙ ap (λ l. is_some (waiting_time ts l)) swapped.1 ∙ first.wait a a_lt)
          (λ b_ne. ap (λ l. is_some (waiting_time ts l)) (swapped.2 p a_ne b_ne) ∙ first.wait p lt)
          (cases_eq p b))
          (cases_eq p a);
      rest = λ p le lt.
          let a_ne : p ≢ a = omega arith in
          let b_ne : p ≢ b = omega arith in
          ap (waiting_time ts) (swapped.2 p a_ne b_ne) ∙ first.rest p le (omega arith);
    }

-- two leaves that don't wait change places
pub rest_swapped : (ts : List (Option ℕ)) (xs ys : List ℕ) (n a b : ℕ) → n ≤ a → n ≤ b → a < length xs → b < length xs → ys ≡ swap xs a b → AreFirst ts xs n → AreFirst ts ys n
rest_swapped ts xs ys n a b a_le b_le a_lt b_lt is first =
    let swapped = swapped_order xs ys a b a_lt b_lt is in
    let same = swapped_length xs ys a b is in
    record {
      wait = λ p lt.
          let a_ne : p ≢ a = omega arith in
          let b_ne : p ≢ b = omega arith in
          ap (λ l. is_some (waiting_time ts l)) (swapped.2 p a_ne b_ne) ∙ first.wait p lt;
      rest = λ p le lt.
          ⊎_elim
          (λ p_a. ap (λ q. waiting_time ts (slice_index ys q)) p_a ∙ ap (waiting_time ts) swapped.0 ∙ first.rest b b_le b_lt)
          (λ a_ne. ⊎_elim
          (λ p_b. ap (λ q. waiting_time ts (slice_index ys q)) p_b ∙ ap (waiting_time ts) swapped.1 ∙ first.rest a a_le a_lt)
          (λ b_ne. ap (waiting_time ts) (swapped.2 p a_ne b_ne) ∙ first.rest p le (omega arith))
          (cases_eq p b))
          (cases_eq p a);
    }

-- different places hold different leaves
pub apart : (order places : List ℕ) (p q : ℕ) → IsInverse order places → p < length order → q < length order → p ≢ q → slice_index order p ≢ slice_index order q
apart order places p q inverse p_lt q_lt ne same =
    ne (sym ((inverse.place_of p p_lt).1) ∙ ap (slice_index places) same ∙ (inverse.place_of q q_lt).1)

-- two leaves change places, and their places with them
swapped_place : (order order' places places' : List ℕ) (i j p : ℕ) → IsInverse order places → i < length order → j < length order → order' ≡ swap order i j → places' ≡ swap places (slice_index order i) (slice_index order j) → p < length order
    → (slice_index order' p < length places) × (slice_index places' (slice_index order' p) ≡ p)
swapped_place order order' places places' i j p inverse i_lt j_lt is is' lt =
    let at_i = inverse.place_of i i_lt in
    let at_j = inverse.place_of j j_lt in
    let at_p = inverse.place_of p lt in
    let so = swapped_order order order' i j i_lt j_lt is in
    let sp = swapped_order places places' (slice_index order i) (slice_index order j) at_i.0 at_j.0 is' in
    ⊎_elim
    (λ p_i.
    let here : slice_index order' p ≡ slice_index order j = ap (slice_index order') p_i ∙ so.0 in
    (omega (arith, here, at_j.0), ap (slice_index places') here ∙ sp.1 ∙ at_i.1 ∙ sym p_i))
    (λ i_ne. ⊎_elim
    (λ p_j.
    let here : slice_index order' p ≡ slice_index order i = ap (slice_index order') p_j ∙ so.1 in
    (omega (arith, here, at_i.0), ap (slice_index places') here ∙ sp.0 ∙ at_j.1 ∙ sym p_j))
    (λ j_ne.
    let here : slice_index order' p ≡ slice_index order p = so.2 p i_ne j_ne in
    let other_i = apart order places p i inverse lt i_lt i_ne in
    let other_j = apart order places p j inverse lt j_lt j_ne in
    (omega (arith, here, at_p.0), ap (slice_index places') here ∙ sp.2 (slice_index order p) other_i other_j ∙ at_p.1))
    (cases_eq p j))
    (cases_eq p i)

turned : (order places : List ℕ) → IsInverse order places → IsInverse places order
turned order places inverse = record { same = sym inverse.same; place_of = inverse.leaf_at; leaf_at = inverse.place_of }

pub inverse_swapped : (order order' places places' : List ℕ) (i j one other : ℕ) → IsInverse order places → i < length order → j < length order → one ≡ slice_index order i → other ≡ slice_index order j → order' ≡ swap order i j → places' ≡ swap places one other → IsInverse order' places'
inverse_swapped order order' places places' i j one other inverse i_lt j_lt one_is other_is is is' =
    let at_i = inverse.place_of i i_lt in
    let at_j = inverse.place_of j j_lt in
    let here : places' ≡ swap places (slice_index order i) (slice_index order j) = is' ∙ ap (λ a. swap places a other) one_is ∙ ap (swap places (slice_index order i)) other_is in
    let there : order' ≡ swap order (slice_index places (slice_index order i)) (slice_index places (slice_index order j)) =
    is ∙ sym (ap (λ a. swap order a (slice_index places (slice_index order j))) at_i.1 ∙ ap (swap order i) at_j.1) in
    let o_len = swapped_length order order' i j is in
    let p_len = swapped_length places places' one other is' in
    record {
      same = p_len ∙ inverse.same ∙ sym o_len;
      place_of = λ p lt. let at = swapped_place order order' places places' i j p inverse i_lt j_lt is here (omega (arith, o_len)) in (omega (arith, at.0, p_len), at.1);
      leaf_at = λ l lt. let at = swapped_place places places' order order' (slice_index order i) (slice_index order j) l (turned order places inverse) at_i.0 at_j.0 here there (omega (arith, p_len)) in (omega (arith, at.0, o_len), at.1);
    }

-- a leaf that waits gets another time
pub first_reset : (ts : List (Option ℕ)) (order places : List ℕ) (n place leaf at : ℕ) → IsInverse order places → n ≤ length order → leaf < length ts → place < n → slice_index order place ≡ leaf → AreFirst ts order n → AreFirst (set ts leaf (Some at)) order n
first_reset ts order places n place leaf at inverse all within lt here first = record {
  wait = λ p p_lt.
      ⊎_elim
      (λ is. ap is_some (ap (waiting_time (set ts leaf (Some at))) is ∙ get_or-set_same ts leaf (Some at) None within))
      (λ ne. ap is_some (get_or-set_other ts leaf (slice_index order p) (Some at) None ne) ∙ first.wait p p_lt)
      (cases_eq (slice_index order p) leaf);
  rest = λ p le p_lt.
      let other : p ≢ place = omega arith in
      let ne = apart order places p place inverse p_lt (omega arith) other in
      get_or-set_other ts leaf (slice_index order p) (Some at) None (λ is. ne (is ∙ sym here)) ∙ first.rest p le p_lt;
}

-- the leaf behind those that wait waits too
pub first_more : (ts : List (Option ℕ)) (order places : List ℕ) (n leaf at : ℕ) → IsInverse order places → n < length order → leaf < length ts → slice_index order n ≡ leaf → AreFirst ts order n → AreFirst (set ts leaf (Some at)) order (n + 1)
first_more ts order places n leaf at inverse all within here first = record {
  wait = λ p p_lt.
      ⊎_elim
      (λ is. ap is_some (ap (waiting_time (set ts leaf (Some at))) is ∙ get_or-set_same ts leaf (Some at) None within))
      (λ ne.
      let other : p ≢ n = (λ p_is. ne (ap (slice_index order) p_is ∙ here)) in
      ap is_some (get_or-set_other ts leaf (slice_index order p) (Some at) None ne) ∙ first.wait p (omega arith))
      (cases_eq (slice_index order p) leaf);
  rest = λ p le p_lt.
      let other : p ≢ n = omega arith in
      let ne = apart order places p n inverse p_lt all other in
      get_or-set_other ts leaf (slice_index order p) (Some at) None (λ is. ne (is ∙ sym here)) ∙ first.rest p (omega arith) p_lt;
}

-- the last leaf that waits waits no more
pub first_fewer : (ts : List (Option ℕ)) (order places : List ℕ) (last leaf : ℕ) → IsInverse order places → last < length order → leaf < length ts → slice_index order last ≡ leaf → AreFirst ts order (last + 1) → AreFirst (set ts leaf None) order last
first_fewer ts order places last leaf inverse all within here first = record {
  wait = λ p p_lt.
      let other : p ≢ last = omega arith in
      let ne = apart order places p last inverse (omega arith) all other in
      ap is_some (get_or-set_other ts leaf (slice_index order p) None None (λ is. ne (is ∙ sym here))) ∙ first.wait p (omega arith);
  rest = λ p le p_lt.
      ⊎_elim
      (λ p_is. ap (λ q. waiting_time (set ts leaf None) (slice_index order q)) p_is ∙ ap (waiting_time (set ts leaf None)) here ∙ get_or-set_same ts leaf None None within)
      (λ other.
      let ne = apart order places p last inverse p_lt all other in
      get_or-set_other ts leaf (slice_index order p) None None (λ is. ne (is ∙ sym here)) ∙ first.rest p (omega arith) p_lt)
      (cases_eq p last);
}

-- the times at other places stay
pub time_kept : (ts : List (Option ℕ)) (order places : List ℕ) (place leaf m : ℕ) (t : Option ℕ) → IsInverse order places → place < length order → slice_index order place ≡ leaf → m < length order → m ≢ place → time_at (set ts leaf t) order m ≡ time_at ts order m
time_kept ts order places place leaf m t inverse lt here m_lt ne =
    let apart_here = apart order places m place inverse m_lt lt ne in
    ap (λ o. unwrap_or o 0) (get_or-set_other ts leaf (slice_index order m) t None (λ is. apart_here (is ∙ sym here)))

-- ---- the least

some_is : (o : Option ℕ) → is_some o ≡ true → o ≡ Some (unwrap_or o 0)
some_is None is = absurd (false≢true is)
some_is (Some t) is = refl

-- a leaf that waits stands among the first
pub stands_first : (ts : List (Option ℕ)) (order places : List ℕ) (n leaf t : ℕ) → IsInverse order places → IsRanked ts order n → waiting_time ts leaf ≡ Some t → (p : ℕ) × (p < n) × (time_at ts order p ≡ t)
stands_first ts order places n leaf t inverse ranked waits =
    let at_leaf = inverse.leaf_at leaf (omega (arith, waits_within ts leaf t waits, ranked.same, inverse.same)) in
    let p = slice_index places leaf in
    let there : waiting_time ts (slice_index order p) ≡ Some t = ap (waiting_time ts) at_leaf.1 ∙ waits in
    ⊎_elim
    (λ lt. (p, lt, ap (λ o. unwrap_or o 0) there))
    (λ le. let gone : None ≡ Some t = sym (ranked.first.rest p le at_leaf.0) ∙ there in cc)
    (cases_lt p n)

pub root_waits : (ts : List (Option ℕ)) (order : List ℕ) (n : ℕ) → IsRanked ts order n → 0 < n → waiting_time ts (slice_index order 0) ≡ Some (time_at ts order 0)
root_waits ts order n ranked some = some_is (waiting_time ts (slice_index order 0)) (ranked.first.wait 0 some)

pub ranked_least : (ts : List (Option ℕ)) (order places : List ℕ) (n : ℕ) → IsInverse order places → IsRanked ts order n → 0 < n → least_time ts ≡ Some (time_at ts order 0)
ranked_least ts order places n inverse ranked some =
    least_is ts (slice_index order 0) (time_at ts order 0) (root_waits ts order n ranked some) (λ leaf t waits.
    let found = stands_first ts order places n leaf t inverse ranked waits in
    omega (arith, root_least n (time_at ts order) found.0 found.1 ranked.heap, found.2))

pub ranked_none : (ts : List (Option ℕ)) (order places : List ℕ) (n : ℕ) → IsInverse order places → IsRanked ts order n → n ≡ 0 → least_time ts ≡ None
ranked_none ts order places n inverse ranked none = no_least ts (λ leaf t waits. let found = stands_first ts order places n leaf t inverse ranked waits in omega (arith, found.1))

-- ---- the start

at_start : (n p : ℕ) → p < n → (slice_index (range_with_len 0 n) p < length (range_with_len 0 n)) × (slice_index (range_with_len 0 n) (slice_index (range_with_len 0 n) p) ≡ p)
at_start n p lt =
    let here : slice_index (range_with_len 0 n) p ≡ p = get_or-range_with_len 0 n p 0 lt ∙ omega arith in
    (omega (arith, here, length-range_with_len 0 n), ap (slice_index (range_with_len 0 n)) here ∙ here)

pub inverse_start : (n : ℕ) → IsInverse (range_with_len 0 n) (range_with_len 0 n)
inverse_start n = record {
  same = refl;
  place_of = λ p lt. at_start n p (omega (arith, length-range_with_len 0 n));
  leaf_at = λ l lt. at_start n l (omega (arith, length-range_with_len 0 n));
}

pub ranked_start : (n : ℕ) → n < 4294967296 → IsRanked (replicate n None) (range_with_len 0 n) 0
ranked_start n few = record {
  few = omega (arith, length-replicate {A = Option ℕ} n None);
  same = length-range_with_len 0 n ∙ sym (length-replicate {A = Option ℕ} n None);
  within = omega arith;
  first = record {
    wait = λ p lt. absurd (omega arith);
    rest = λ p le lt. ap (waiting_time (replicate n None)) (get_or-range_with_len 0 n p 0 (omega (arith, length-range_with_len 0 n))) ∙ get_or-replicate n (0 + p) None None (omega (arith, length-range_with_len 0 n));
  };
  heap = heap_none (time_at (replicate n None) (range_with_len 0 n));
}

pub range_more : (n : ℕ) → range_with_len 0 (n + 1) ≡ range_with_len 0 n ++ n ∷ []
range_more n =
    sym (map-id (range_with_len 0 (n + 1))) ∙ map-range_with_len_more (λ k. k) 0 n n (omega arith) ∙ ap (λ l. l ++ n ∷ []) (map-id (range_with_len 0 n))
