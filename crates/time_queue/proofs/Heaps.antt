-- Heaps of numbers by place.
use Rattle.std.proofs.Common.{◌≡◌, ◌≢◌, ℕ, ◌+◌, ◌*◌, ◌/◌, ◌<◌, ◌≤◌, zero, suc, ap, arith, ⊎_elim}
use Rattle.std.proofs.lemmas.Bool.{cases_eq}
use Rattle.std.proofs.lemmas.List.Edits.{Swapped}
use Rattle.time_queue.specs.Heap.{IsHeap, IsHeapBut, IsBelow}

-- a heap of which one place is changed
pub but_at : (n : ℕ) (f g : ℕ → ℕ) (i : ℕ) → IsHeap n f → ((m : ℕ) → m < n → m ≢ i → g m ≡ f m) → IsHeapBut n g i
but_at n f g i heap same = record {
  elsewhere = λ p k low high lt p_ne k_ne. omega (arith, heap p k low high lt, same p (omega arith) p_ne, same k lt k_ne);
  across = λ p k p_low p_high low high lt.
      let p_ne : p ≢ i = omega arith in
      let k_ne : k ≢ i = omega arith in
      omega (arith, heap p i p_low p_high (omega arith), heap i k low high lt, same p (omega arith) p_ne, same k lt k_ne);
}

-- a heap to which a last place is added
pub but_last : (n : ℕ) (f g : ℕ → ℕ) → IsHeap n f → ((m : ℕ) → m < n → g m ≡ f m) → IsHeapBut (n + 1) g n
but_last n f g heap same = record {
  elsewhere = λ p k low high lt p_ne k_ne. omega (arith, heap p k low high (omega arith), same p (omega arith), same k (omega arith));
  across = λ p k p_low p_high low high lt. absurd (omega arith);
}

pub heap_fewer : (n m : ℕ) (f : ℕ → ℕ) → m ≤ n → IsHeap n f → IsHeap m f
heap_fewer n m f le heap = λ p k low high lt. heap p k low high (omega arith)

pub heap_same : (n : ℕ) (f g : ℕ → ℕ) → IsHeap n f → ((m : ℕ) → m < n → g m ≡ f m) → IsHeap n g
heap_same n f g heap same = λ p k low high lt. omega (arith, heap p k low high lt, same p (omega arith), same k lt)

pub heap_none : (f : ℕ → ℕ) → IsHeap 0 f
heap_none f = λ p k low high lt. absurd (omega arith)

-- a place has one place above it
up_only : (i p q k : ℕ) → 2 * p < i → i ≤ 2 * p + 2 → 2 * q < k → k ≤ 2 * q + 2 → q ≢ p → k ≢ i
up_only i p q k low high q_low q_high ne same = ne (omega arith)

-- a place that is before the one above it changes places with that
pub up_step : (n : ℕ) (f g : ℕ → ℕ) (i p : ℕ) → 2 * p < i → i ≤ 2 * p + 2 → i < n → f i < f p → Swapped f g i p → IsHeapBut n f i → IsHeapBut n g p
up_step n f g i p low high within lt swapped but = record {
  elsewhere = λ q k q_low q_high k_lt q_ne k_ne.
      ⊎_elim
      (λ q_is. omega (arith, but.across p k low high (omega (arith, q_is)) (omega (arith, q_is)) k_lt, swapped.0, ap g q_is, swapped.2 k (omega (arith, q_is)) k_ne))
      (λ q_other.
      let k_other : k ≢ i = up_only i p q k low high q_low q_high q_ne in
      omega (arith, but.elsewhere q k q_low q_high k_lt q_other k_other, swapped.2 q q_other q_ne, swapped.2 k k_other k_ne))
      (cases_eq q i);
  across = λ q k q_low q_high k_low k_high k_lt.
      let q_i : q ≢ i = omega arith in
      let q_p : q ≢ p = omega arith in
      let p_i : p ≢ i = omega arith in
      let top = but.elsewhere q p q_low q_high (omega arith) q_i p_i in
      ⊎_elim
      (λ k_is. omega (arith, top, swapped.0, ap g k_is, swapped.2 q q_i q_p))
      (λ k_other.
      let k_p : k ≢ p = omega arith in
      omega (arith, top, but.elsewhere p k k_low k_high k_lt p_i k_other, swapped.2 q q_i q_p, swapped.2 k k_other k_p))
      (cases_eq k i);
}

-- after it, the place isn't before the one above it, where that was not
pub down_step : (n : ℕ) (f g : ℕ → ℕ) (i c : ℕ) → 2 * i < c → c ≤ 2 * i + 2 → c < n → f c < f i → ((k : ℕ) → 2 * i < k → k ≤ 2 * i + 2 → k < n → f c ≤ f k) → Swapped f g i c → IsHeapBut n f i → IsHeapBut n g c
down_step n f g i c low high within lt least swapped but = record {
  elsewhere = λ q k q_low q_high k_lt q_ne k_ne.
      ⊎_elim
      (λ q_is.
      let k_i : k ≢ i = omega (arith, q_is) in
      omega (arith, least k (omega (arith, q_is)) (omega (arith, q_is)) k_lt, swapped.0, ap g q_is, swapped.2 k k_i k_ne))
      (λ q_other. ⊎_elim
      (λ k_is. omega (arith, but.across q c (omega (arith, k_is)) (omega (arith, k_is)) low high within, swapped.0, ap g k_is, swapped.2 q q_other q_ne))
      (λ k_other. omega (arith, but.elsewhere q k q_low q_high k_lt q_other k_other, swapped.2 q q_other q_ne, swapped.2 k k_other k_ne))
      (cases_eq k i))
      (cases_eq q i);
  across = λ q k q_low q_high k_low k_high k_lt.
      let q_is : q ≡ i = omega arith in
      let c_i : c ≢ i = omega arith in
      let k_i : k ≢ i = omega arith in
      let k_c : k ≢ c = omega arith in
      omega (arith, but.elsewhere c k k_low k_high k_lt c_i k_i, swapped.0, ap g q_is, swapped.2 k k_i k_c);
}

pub down_below : (f g : ℕ → ℕ) (i c : ℕ) → 2 * i < c → c ≤ 2 * i + 2 → f c < f i → Swapped f g i c → IsBelow g c
down_below f g i c low high lt swapped = λ p p_low p_high.
    let p_is : p ≡ i = omega arith in
    omega (arith, swapped.0, swapped.1, ap g p_is)

pub below_up : (f : ℕ → ℕ) (i p : ℕ) → 2 * p < i → i ≤ 2 * p + 2 → f p ≤ f i → IsBelow f i
below_up f i p low high le = λ q q_low q_high.
    let q_is : q ≡ p = omega arith in
    omega (arith, le, ap f q_is)

pub below_top : (f : ℕ → ℕ) → IsBelow f 0
below_top f = λ p low high. absurd (omega arith)

-- nothing below the place is before it
pub heap_done : (n : ℕ) (f : ℕ → ℕ) (i : ℕ) → IsHeapBut n f i → IsBelow f i → ((k : ℕ) → 2 * i < k → k ≤ 2 * i + 2 → k < n → f i ≤ f k) → IsHeap n f
heap_done n f i but below rest = λ p k low high lt.
    ⊎_elim
    (λ p_is. omega (arith, rest k (omega (arith, p_is)) (omega (arith, p_is)) lt, ap f p_is))
    (λ p_ne. ⊎_elim
    (λ k_is. omega (arith, below p (omega (arith, k_is)) (omega (arith, k_is)), ap f k_is))
    (λ k_ne. but.elsewhere p k low high lt p_ne k_ne)
    (cases_eq k i))
    (cases_eq p i)

-- the first is before none
root_up_to : (fuel n : ℕ) (f : ℕ → ℕ) (k : ℕ) → k < fuel → k < n → IsHeap n f → f 0 ≤ f k
root_up_to zero n f k small lt heap = absurd (omega arith)
root_up_to (suc fuel) n f zero small lt heap = omega arith
root_up_to (suc fuel) n f (suc k) small lt heap =
    omega (arith, root_up_to fuel n f (k / 2) (omega arith) (omega arith) heap, heap (k / 2) (suc k) (omega arith) (omega arith) lt)

pub root_least : (n : ℕ) (f : ℕ → ℕ) (k : ℕ) → k < n → IsHeap n f → f 0 ≤ f k
root_least n f k lt heap = root_up_to (suc k) n f k (omega arith) lt heap
