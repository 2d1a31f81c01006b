-- Words whose members are taken, from the lowest on.
use Rattle.std.proofs.Common.{◌≡◌, ℕ, ◌+◌, ◌*◌, ◌/◌, ◌%◌, ◌<◌, ◌≤◌, true, false, List, [], ◌∷◌, ◌++◌, length, get_or, set, refl, sym, ◌∙◌, ap, inl, inr, arith, append-nil}
use Rattle.std.proofs.lemmas.Bool.{both_ways, false_from_ne_true, cases_eq, cases_lt}
use Rattle.leaf_set.specs.Words.{has, has_bit, those_from, ones_of, Clears, TakesLowest}
use Rattle.leaf_set.proofs.ThoseFrom.{those-taken, taken-next, those-none, those-one, those-part}
use Rattle.leaf_set.proofs.WordBits.{none-of-zero, has-in-word, has-past, cleared-word}

-- ---- one word

one-parts : (left next bit at : ℕ) → TakesLowest left next bit → ones_of left at ≡ those_from (λ i. has_bit left (i % 64)) (64 * at + bit) 1 ++ ones_of next at
one-parts left next bit at h =
    let small = h.within in
    those-taken (λ i. has_bit left (i % 64)) (λ i. has_bit next (i % 64)) (64 * at) 64 (64 * at + bit) 1 (omega arith) (omega arith)
    (λ i low high. h.lowest (i % 64) (omega arith))
    (λ i low high.
    elim (cases_eq (i % 64) bit) [
      | inl same ↦ ap (has_bit next) same ∙ h.gone
      | inr other ↦ h.elsewhere (i % 64) (omega arith) other ∙ h.lowest (i % 64) (omega arith)
    ])
    (λ i low high. h.elsewhere (i % 64) (omega arith) (λ same. omega arith))

one-alone : (left next bit at : ℕ) → TakesLowest left next bit → those_from (λ i. has_bit left (i % 64)) (64 * at + bit) 1 ≡ (64 * at + bit) ∷ []
one-alone left next bit at h =
    let small = h.within in
    let place : (64 * at + bit) % 64 ≡ bit = omega arith in
    those-one (λ i. has_bit left (i % 64)) (64 * at + bit) (ap (has_bit left) place ∙ h.there)

pub one-next : (left next bit at : ℕ) (items more start : List ℕ) → TakesLowest left next bit
    → more ≡ items ++ (64 * at + bit) ∷ [] → items ++ ones_of left at ≡ start → more ++ ones_of next at ≡ start
one-next left next bit at items more start h is so_far =
    taken-next (λ i. has_bit left (i % 64)) (λ i. has_bit next (i % 64)) (64 * at) 64 (64 * at + bit) 1 items more start
    (one-parts left next bit at h)
    (is ∙ ap (λ ls. items ++ ls) (sym (one-alone left next bit at h))) so_far

pub one-room : (left next bit at : ℕ) → TakesLowest left next bit → 1 ≤ length (ones_of left at)
one-room left next bit at h =
    let small = h.within in
    let part = those-part (λ i. has_bit left (i % 64)) (64 * at) 64 (64 * at + bit) 1 (omega arith) (omega arith) in
    omega (arith, part, ap length (one-alone left next bit at h))

pub none-left : (at : ℕ) → ones_of 0 at ≡ []
none-left at = those-none (λ i. has_bit 0 (i % 64)) (64 * at) 64 (λ i low high. none-of-zero (i % 64))

-- ---- 64 words with marks

pub record BlockIsTaken (old now start items : List ℕ) (block left : ℕ) : Type 0 where
  pub taken : items ++ those_from (has now) (4096 * block) 4096 ≡ start ++ those_from (has old) (4096 * block) 4096
  pub marked : (i : ℕ) → 4096 * block ≤ i → i < 4096 * block + 4096 → has now i ≡ true → has_bit left (i / 64 % 64) ≡ true
  pub below : (i : ℕ) → i < 4096 * block → has now i ≡ has old i
  pub above : (i : ℕ) → 4096 * block + 4096 ≤ i → has now i ≡ has old i

unmarked : (old now start items : List ℕ) (block left i : ℕ) → BlockIsTaken old now start items block left → 4096 * block ≤ i → i < 4096 * block + 4096
    → has_bit left (i / 64 % 64) ≡ false → has now i ≡ false
unmarked old now start items block left i h low high none =
    false_from_ne_true (has now i) (λ is. both_ways (has_bit left (i / 64 % 64)) none (h.marked i low high is))

pub block-start : (words start : List ℕ) (block marks : ℕ)
    → ((i : ℕ) → 4096 * block ≤ i → i < 4096 * block + 4096 → has words i ≡ true → has_bit marks (i / 64 % 64) ≡ true)
    → BlockIsTaken words words start start block marks
block-start words start block marks marked = record { taken = refl; marked = marked; below = λ i high. refl; above = λ i low. refl }

below-lowest : (old now start items : List ℕ) (block left next bit : ℕ) → BlockIsTaken old now start items block left → TakesLowest left next bit
    → (i : ℕ) → 4096 * block ≤ i → i < 64 * (64 * block + bit) → has now i ≡ false
below-lowest old now start items block left next bit h lowest i low high =
    let small = lowest.within in
    unmarked old now start items block left i h low (omega arith) (lowest.lowest (i / 64 % 64) (omega arith))

other-word : (now after : List ℕ) (k i : ℕ) → Clears now after (64 * k) 64 → (i / 64 ≡ k → ⊥) → has after i ≡ has now i
other-word now after k i cleared other =
    elim (cases_lt i (64 * k)) [
      | inl low ↦ cleared.below i low
      | inr high ↦ cleared.above i (omega arith)
    ]

still-marked : (old now start items after : List ℕ) (block left next bit : ℕ) → BlockIsTaken old now start items block left → TakesLowest left next bit
    → Clears now after (64 * (64 * block + bit)) 64
    → (i : ℕ) → 4096 * block ≤ i → i < 4096 * block + 4096 → has after i ≡ true → has_bit next (i / 64 % 64) ≡ true
still-marked old now start items after block left next bit h lowest cleared i low high is =
    let small = lowest.within in
    elim (cases_eq (i / 64) (64 * block + bit)) [
      | inl same ↦ absurd (both_ways (has after i) (cleared.gone i (omega arith) (omega arith)) is)
      | inr other ↦
          lowest.elsewhere (i / 64 % 64) (omega arith) (λ both. other (omega arith))
          ∙ h.marked i low high (sym (other-word now after (64 * block + bit) i cleared other) ∙ is)
    ]

pub block-next : (old now start items after more : List ℕ) (block left next bit : ℕ) → BlockIsTaken old now start items block left
    → TakesLowest left next bit → Clears now after (64 * (64 * block + bit)) 64
    → more ≡ items ++ those_from (has now) (64 * (64 * block + bit)) 64 → BlockIsTaken old after start more block next
block-next old now start items after more block left next bit h lowest cleared is =
    let small = lowest.within in
    let below = below-lowest old now start items block left next bit h lowest in
    let parts = those-taken (has now) (has after) (4096 * block) 4096 (64 * (64 * block + bit)) 64 (omega arith) (omega arith) below
    (λ (i : ℕ) (low : 4096 * block ≤ i) (high : i < 64 * (64 * block + bit) + 64).
    elim (cases_lt i (64 * (64 * block + bit))) as (λ _. has after i ≡ false) [
      | inl under ↦ cleared.below i under ∙ below i low under
      | inr over ↦ cleared.gone i over high
    ])
    (λ (i : ℕ) (low : 64 * (64 * block + bit) + 64 ≤ i) (high : i < 4096 * block + 4096). cleared.above i low) in
    record {
      taken =
          taken-next (has now) (has after) (4096 * block) 4096 (64 * (64 * block + bit)) 64 items more
          (start ++ those_from (has old) (4096 * block) 4096) parts is h.taken;
      marked = still-marked old now start items after block left next bit h lowest cleared;
      below = λ i high. cleared.below i (omega arith) ∙ h.below i high;
      above = λ i low. cleared.above i (omega arith) ∙ h.above i low;
    }

pub block-end : (old now start items : List ℕ) (block : ℕ) → BlockIsTaken old now start items block 0
    → (items ≡ start ++ those_from (has old) (4096 * block) 4096) × Clears old now (4096 * block) 4096
block-end old now start items block h =
    let none : (i : ℕ) → 4096 * block ≤ i → i < 4096 * block + 4096 → has now i ≡ false =
    λ i low high. unmarked old now start items block 0 i h low high (none-of-zero (i / 64 % 64)) in (
      sym (append-nil items) ∙ ap (λ ls. items ++ ls) (sym (those-none (has now) (4096 * block) 4096 none)) ∙ h.taken,
      record { gone = none; below = h.below; above = h.above },
    )

-- ---- all words

pub record AllAreTaken (old now marks start items : List ℕ) (block n : ℕ) : Type 0 where
  pub taken : items ++ those_from (has now) 0 n ≡ start ++ those_from (has old) 0 n
  pub marked : (i : ℕ) → has now i ≡ true → has marks (i / 64) ≡ true
  pub below : (i : ℕ) → i < 4096 * block → has now i ≡ false
  pub unmarked : (i : ℕ) → i < 64 * block → has marks i ≡ false

pub all-start : (words marks start : List ℕ) (n : ℕ) → ((i : ℕ) → has words i ≡ true → has marks (i / 64) ≡ true)
    → AllAreTaken words words marks start start 0 n
all-start words marks start n marked = record {
  taken = refl;
  marked = marked;
  below = λ i high. absurd (omega arith);
  unmarked = λ i high. absurd (omega arith);
}

pub all-marked : (old now marks start items : List ℕ) (block n : ℕ) → AllAreTaken old now marks start items block n
    → (i : ℕ) → 4096 * block ≤ i → i < 4096 * block + 4096 → has now i ≡ true → has_bit (get_or marks block 0) (i / 64 % 64) ≡ true
all-marked old now marks start items block n h i low high is = sym (has-in-word marks block (i / 64) (omega arith)) ∙ h.marked i is

below-next : (now after : List ℕ) (block : ℕ) → ((i : ℕ) → i < 4096 * block → has now i ≡ false) → Clears now after (4096 * block) 4096
    → (i : ℕ) → i < 4096 * block + 4096 → has after i ≡ false
below-next now after block none cleared i high =
    elim (cases_lt i (4096 * block)) [
      | inl under ↦ cleared.below i under ∙ none i under
      | inr over ↦ cleared.gone i over high
    ]

pub all-next : (old now marks start items after more : List ℕ) (block n : ℕ) → AllAreTaken old now marks start items block n
    → block < length marks → 4096 * block + 4096 ≤ n → Clears now after (4096 * block) 4096
    → more ≡ items ++ those_from (has now) (4096 * block) 4096 → AllAreTaken old after (set marks block 0) start more (block + 1) n
all-next old now marks start items after more block n h within inside cleared is =
    let none = below-next now after block h.below cleared in
    let parts = those-taken (has now) (has after) 0 n (4096 * block) 4096 (omega arith) (omega arith)
    (λ (i : ℕ) (low : 0 ≤ i) (high : i < 4096 * block). h.below i high)
    (λ (i : ℕ) (low : 0 ≤ i) (high : i < 4096 * block + 4096). none i high)
    (λ (i : ℕ) (low : 4096 * block + 4096 ≤ i) (high : i < 0 + n). cleared.above i low) in
    record {
      taken =
          taken-next (has now) (has after) 0 n (4096 * block) 4096 items more (start ++ those_from (has old) 0 n) parts is h.taken;
      marked =
          λ i in_it.
          elim (cases_lt i (4096 * block + 4096)) [
            | inl under ↦ absurd (both_ways (has after i) (none i under) in_it)
            | inr over ↦
                (cleared-word marks block within).above (i / 64) (omega arith)
                ∙ h.marked i (sym (cleared.above i over) ∙ in_it)
          ];
      below = λ i high. none i (omega arith);
      unmarked =
          λ i high.
          elim (cases_lt i (64 * block)) [
            | inl under ↦ (cleared-word marks block within).below i under ∙ h.unmarked i under
            | inr over ↦ (cleared-word marks block within).gone i over (omega arith)
          ];
    }

pub all-end : (old now marks start items : List ℕ) (block n : ℕ) → AllAreTaken old now marks start items block n
    → n ≤ 4096 * block → 64 * length now ≤ n
    → (items ≡ start ++ those_from (has old) 0 n) × ((i : ℕ) → has now i ≡ false)
all-end old now marks start items block n h all long =
    let none : (i : ℕ) → has now i ≡ false =
    λ i.
    elim (cases_lt i (4096 * block)) [
      | inl under ↦ h.below i under
      | inr over ↦ has-past now i (omega arith)
    ] in (
      sym (append-nil items) ∙ ap (λ ls. items ++ ls) (sym (those-none (has now) 0 n (λ i low high. none i))) ∙ h.taken,
      none,
    )

pub all-unmarked : (old now marks start items : List ℕ) (block n : ℕ) → AllAreTaken old now marks start items block n
    → length marks ≤ block → (i : ℕ) → has marks i ≡ false
all-unmarked old now marks start items block n h all i =
    elim (cases_lt i (64 * block)) [
      | inl under ↦ h.unmarked i under
      | inr over ↦ has-past marks i (omega arith)
    ]
