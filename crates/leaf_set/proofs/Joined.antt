-- Words that are joined with others, from the first on.
use Rattle.std.proofs.Common.{◌≡◌, ℕ, ◌+◌, ◌*◌, ◌/◌, ◌%◌, ◌<◌, ◌≤◌, Bool, true, false, ◌||◌, List, length, get_or, refl, sym, ◌∙◌, ap, inl, inr, arith}
use Rattle.std.proofs.lemmas.Bool.{both_ways, false_from_ne_true, cases_eq, cases_lt}
use Rattle.leaf_set.specs.Words.{has, has_bit, Grows, Unites, TakesLowest}
use Rattle.leaf_set.proofs.WordBits.{none-of-zero, has-in-word, has-past}

pub grows-none : (words more : List ℕ) → Grows words more words
grows-none words more = record { kept = λ i had. had; only = λ i none some. absurd (both_ways (has words i) none some) }

pub grows-on : (old mid new more : List ℕ) → Grows old more mid → Grows mid more new → Grows old more new
grows-on old mid new more first second = record {
  kept = λ i had. second.kept i (first.kept i had);
  only = λ i none some. came i none some (has mid i) refl;
}
  where
    came : (i : ℕ) → has old i ≡ false → has new i ≡ true → (b : Bool) → has mid i ≡ b → has more i ≡ true
    came i none some true is = first.only i none is
    came i none some false is = second.only i is some

either : (a b c : Bool) → (a ≡ true → c ≡ true) → (b ≡ true → c ≡ true) → (a ≡ false → c ≡ true → b ≡ true) → c ≡ (a || b)
either true b c left right only = left refl
either false true c left right only = right refl
either false false c left right only = false_from_ne_true c (λ is. both_ways false refl (only refl is))

-- all that the others have is in
pub unites : (old more new : List ℕ) (n : ℕ) → Grows old more new → ((i : ℕ) → i < n → has more i ≡ true → has new i ≡ true) → 64 * length more ≤ n → Unites old more new
unites old more new n grows joined long i =
    either (has old i) (has more i) (has new i) (grows.kept i)
    (λ some.
    elim (cases_lt i n) [
      | inl inside ↦ joined i inside some
      | inr past ↦ absurd (both_ways (has more i) (has-past more i (omega (arith, long))) some)
    ])
    (grows.only i)

-- ---- 64 words with marks

-- those whose mark isn't left are joined
abbrev pub AreJoined : List ℕ → List ℕ → ℕ → ℕ → Type 0
AreJoined more now block left =
    (i : ℕ) → 4096 * block ≤ i → i < 4096 * block + 4096 → has more i ≡ true → has_bit left (i / 64 % 64) ≡ false → has now i ≡ true

pub none-joined : (more now : List ℕ) (block marks : ℕ) → ((i : ℕ) → 4096 * block ≤ i → i < 4096 * block + 4096 → has more i ≡ true → has_bit marks (i / 64 % 64) ≡ true) → AreJoined more now block marks
none-joined more now block marks marked = λ i low high some none. absurd (both_ways (has_bit marks (i / 64 % 64)) none (marked i low high some))

pub one-joined : (old more now after : List ℕ) (block left next bit : ℕ) → AreJoined more now block left → TakesLowest left next bit → Grows now more after
    → ((i : ℕ) → i / 64 ≡ 64 * block + bit → has more i ≡ true → has after i ≡ true) → AreJoined more after block next
one-joined old more now after block left next bit joined lowest grows here = λ i low high some none.
    let small = lowest.within in
    elim (cases_eq (i / 64) (64 * block + bit)) [
      | inl same ↦ here i same some
      | inr other ↦
          grows.kept i (joined i low high some (sym (lowest.elsewhere (i / 64 % 64) (omega arith) (λ both. other (omega arith))) ∙ none))
    ]

pub all-joined : (more now : List ℕ) (block left : ℕ) → AreJoined more now block left → left ≡ 0
    → (i : ℕ) → 4096 * block ≤ i → i < 4096 * block + 4096 → has more i ≡ true → has now i ≡ true
all-joined more now block left joined zero = λ i low high some.
    joined i low high some (ap (λ m. has_bit m (i / 64 % 64)) zero ∙ none-of-zero (i / 64 % 64))

-- ---- all words

pub block-marked : (more marks : List ℕ) (block : ℕ) → ((i : ℕ) → has more i ≡ true → has marks (i / 64) ≡ true)
    → (i : ℕ) → 4096 * block ≤ i → i < 4096 * block + 4096 → has more i ≡ true → has_bit (get_or marks block 0) (i / 64 % 64) ≡ true
block-marked more marks block marked i low high some = sym (has-in-word marks block (i / 64) (omega arith)) ∙ marked i some

-- those below a number are joined, and then those of one run more
pub run-joined : (more now after : List ℕ) (n m : ℕ) → ((i : ℕ) → i < n → has more i ≡ true → has now i ≡ true) → Grows now more after
    → ((i : ℕ) → n ≤ i → i < m → has more i ≡ true → has after i ≡ true) → (i : ℕ) → i < m → has more i ≡ true → has after i ≡ true
run-joined more now after n m joined grows here i lt some =
    elim (cases_lt i n) [
      | inl under ↦ grows.kept i (joined i under some)
      | inr over ↦ here i over lt some
    ]
