-- A leaf enters the heap, and leaves it.
use Rattle.std.proofs.Common.{◌≡◌, ◌≢◌, ℕ, ◌+◌, ◌<◌, ◌≤◌, Option, Some, None, List, length, get_or, set, sym, ◌∙◌, ap, subst, arith}
use Rattle.std.specs.Prelude.{unwrap_or, slice_index}
use Rattle.std.specs.List.{swap}
use Rattle.std.proofs.lemmas.List.{length-set, get_or_read, set-get_or}
use Rattle.time_queue.specs.Waiting.{waiting_time}
use Rattle.time_queue.specs.Heap.{IsInverse, AreFirst, IsHeapBut, IsRanked, time_at}
use Rattle.time_queue.proofs.Heaps.{but_at, but_last, heap_fewer, heap_same}
use Rattle.time_queue.proofs.Standing.{swapped_order, swapped_length, first_swapped, rest_swapped, first_more, first_fewer, time_kept}

-- the place that is read
pub placed : (order places : List ℕ) (leaf place : ℕ) → IsInverse order places → leaf < length order → place ≡ get_or places leaf place → (place < length order) × (slice_index order place ≡ leaf)
placed order places leaf place inverse lt read =
    let within : leaf < length places = omega (arith, inverse.same) in
    let is : place ≡ slice_index places leaf = get_or_read places leaf place within read 0 in
    let there = inverse.leaf_at leaf within in
    (omega (arith, is, there.0), ap (slice_index order) is ∙ there.1)

-- ---- a leaf that waits gets another time

pub again_heap : (ts : List (Option ℕ)) (order places : List ℕ) (n place leaf at : ℕ) → IsInverse order places → IsRanked ts order n → place < n → slice_index order place ≡ leaf → IsHeapBut n (time_at (set ts leaf (Some at)) order) place
again_heap ts order places n place leaf at inverse ranked lt here =
    but_at n (time_at ts order) (time_at (set ts leaf (Some at)) order) place ranked.heap
    (λ m m_lt ne. time_kept ts order places place leaf m (Some at) inverse (omega (arith, ranked.same, ranked.within)) here (omega (arith, ranked.same, ranked.within)) ne)

-- ---- a leaf that waits for nothing gets a time, and stands behind the others

here_now : (order after : List ℕ) (place n leaf : ℕ) → place < length order → n < length order → after ≡ swap order place n → slice_index order place ≡ leaf → slice_index after n ≡ leaf
here_now order after place n leaf lt n_lt is here = (swapped_order order after place n lt n_lt is).1 ∙ here

pub more_first : (ts : List (Option ℕ)) (order after places : List ℕ) (n place leaf at : ℕ) → IsInverse after places → IsRanked ts order n → n ≤ place → place < length order → slice_index order place ≡ leaf → leaf < length ts → after ≡ swap order place n → AreFirst (set ts leaf (Some at)) after (n + 1)
more_first ts order after places n place leaf at inverse ranked le lt here within is =
    let n_lt : n < length order = omega arith in
    let same = swapped_length order after place n is in
    first_more ts after places n leaf at inverse (omega (arith, same)) within (here_now order after place n leaf lt n_lt is here)
    (rest_swapped ts order after n place n le (omega arith) lt n_lt is ranked.first)

pub more_heap : (ts : List (Option ℕ)) (order after places : List ℕ) (n place leaf at : ℕ) → IsInverse after places → IsRanked ts order n → n ≤ place → place < length order → slice_index order place ≡ leaf → after ≡ swap order place n → IsHeapBut (n + 1) (time_at (set ts leaf (Some at)) after) n
more_heap ts order after places n place leaf at inverse ranked le lt here is =
    let n_lt : n < length order = omega arith in
    let same = swapped_length order after place n is in
    let swapped = swapped_order order after place n lt n_lt is in
    but_last n (time_at ts order) (time_at (set ts leaf (Some at)) after) ranked.heap
    (λ m m_lt.
    let not_n : m ≢ n = omega arith in
    let not_place : m ≢ place = omega arith in
    time_kept ts after places n leaf m (Some at) inverse (omega (arith, same)) (swapped.1 ∙ here) (omega (arith, same)) not_n
    ∙ ap (λ l. unwrap_or (waiting_time ts l) 0) (swapped.2 m not_place not_n))

-- ---- a leaf waits no more

-- one that waited for nothing
pub still_none : (ts : List (Option ℕ)) (order : List ℕ) (n place leaf : ℕ) → IsRanked ts order n → n ≤ place → place < length order → slice_index order place ≡ leaf → ts ≡ set ts leaf None
still_none ts order n place leaf ranked le lt here =
    let none : waiting_time ts leaf ≡ None = ap (waiting_time ts) (sym here) ∙ ranked.first.rest place le lt in
    sym (set-get_or ts leaf None) ∙ ap (set ts leaf) none

pub fewer_first : (ts : List (Option ℕ)) (order after places : List ℕ) (n last place leaf : ℕ) → IsInverse after places → IsRanked ts order n → n ≡ last + 1 → place < n → slice_index order place ≡ leaf → leaf < length ts → after ≡ swap order place last → AreFirst (set ts leaf None) after last
fewer_first ts order after places n last place leaf inverse ranked n_is lt here within is =
    let place_lt : place < length order = omega (arith, ranked.same, ranked.within) in
    let last_lt : last < length order = omega (arith, ranked.same, ranked.within) in
    let same = swapped_length order after place last is in
    first_fewer ts after places last leaf inverse (omega (arith, same)) within (here_now order after place last leaf place_lt last_lt is here)
    (subst (λ (m : ℕ). AreFirst ts after m) n_is (first_swapped ts order after n place last (omega (arith, ranked.same, ranked.within)) lt (omega arith) is ranked.first))

fewer_time : (ts : List (Option ℕ)) (order after places : List ℕ) (n last place leaf m : ℕ) → IsInverse after places → IsRanked ts order n → n ≡ last + 1 → place < n → slice_index order place ≡ leaf → after ≡ swap order place last → m < last → m ≢ place → time_at (set ts leaf None) after m ≡ time_at ts order m
fewer_time ts order after places n last place leaf m inverse ranked n_is lt here is m_lt ne =
    let place_lt : place < length order = omega (arith, ranked.same, ranked.within) in
    let last_lt : last < length order = omega (arith, ranked.same, ranked.within) in
    let same = swapped_length order after place last is in
    let swapped = swapped_order order after place last place_lt last_lt is in
    let not_last : m ≢ last = omega arith in
    time_kept ts after places last leaf m None inverse (omega (arith, same)) (swapped.1 ∙ here) (omega (arith, same)) not_last
    ∙ ap (λ l. unwrap_or (waiting_time ts l) 0) (swapped.2 m ne not_last)

pub fewer_but : (ts : List (Option ℕ)) (order after places : List ℕ) (n last place leaf : ℕ) → IsInverse after places → IsRanked ts order n → n ≡ last + 1 → place < n → slice_index order place ≡ leaf → after ≡ swap order place last → IsHeapBut last (time_at (set ts leaf None) after) place
fewer_but ts order after places n last place leaf inverse ranked n_is lt here is =
    but_at last (time_at ts order) (time_at (set ts leaf None) after) place (heap_fewer n last (time_at ts order) (omega arith) ranked.heap)
    (λ m m_lt ne. fewer_time ts order after places n last place leaf m inverse ranked n_is lt here is m_lt ne)

-- it stood last
pub last_ranked : (ts : List (Option ℕ)) (order places : List ℕ) (n last leaf : ℕ) → IsInverse order places → IsRanked ts order n → n ≡ last + 1 → slice_index order last ≡ leaf → leaf < length ts → IsRanked (set ts leaf None) order last
last_ranked ts order places n last leaf inverse ranked n_is here within =
    let last_lt : last < length order = omega (arith, ranked.same, ranked.within) in
    record {
      few = omega (arith, ranked.few, length-set ts leaf None);
      same = ranked.same ∙ sym (length-set ts leaf None);
      within = omega (arith, ranked.within, length-set ts leaf None);
      first = first_fewer ts order places last leaf inverse last_lt within here (subst (λ (m : ℕ). AreFirst ts order m) n_is ranked.first);
      heap = heap_same last (time_at ts order) (time_at (set ts leaf None) order) (heap_fewer n last (time_at ts order) (omega arith) ranked.heap)
          (λ m m_lt.
          let ne : m ≢ last = omega arith in
          time_kept ts order places last leaf m None inverse last_lt here (omega arith) ne);
    }
