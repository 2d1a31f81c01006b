-- The leaves at the first places of a heap are taken.
use Rattle.std.proofs.Common.{◌≡◌, ◌≢◌, ℕ, ◌+◌, ◌<◌, ◌≤◌, suc, Option, Some, None, List, ◌∷◌, length, set, take, drop, sym, ap, ◌∙◌, arith}
use Rattle.std.specs.Prelude.{slice_index}
use Rattle.std.proofs.lemmas.List.{length-set, get_or-set_other, get_or-take, length-take-le}
use Rattle.std.proofs.lemmas.List.Sums.{sum_by-cons}
use Rattle.std.proofs.Math.Seq.{drop-cons}
use Rattle.time_queue.specs.Waiting.{waiting_time}
use Rattle.time_queue.specs.Heap.{AreAt, IsInverse, IsRanked}
use Rattle.time_queue.specs.Taking.{TakesMore}
use Rattle.time_queue.proofs.Entered.{waits_within}
use Rattle.time_queue.proofs.Standing.{apart}
use Rattle.time_queue.proofs.Taken.{fewer_before, leaves_less, without_less}

-- one more leaves, which is put ahead of those that left
pub takes_ahead : (at leaf : ℕ) (start ts ts' : List (Option ℕ)) (xs taken more : List ℕ) → waiting_time ts leaf ≡ Some at → ts' ≡ set ts leaf None → more ≡ leaf ∷ taken → TakesMore at start ts xs taken → TakesMore at start ts' xs more
takes_ahead at leaf start ts ts' xs taken more waits times items before =
    let within = waits_within ts leaf at waits in
    rw (times, items) record {
      counted = λ f. omega (arith, before.counted f, sum_by-cons f leaf taken, leaves_less f at leaf ts within waits);
      stays = without_less at leaf ts within waits ∙ before.stays;
      same = length-set ts leaf None ∙ before.same;
      early = λ early. fewer_before at leaf ts within (before.early early);
    }

-- the others wait as before
pub others_wait : (at i : ℕ) (start ts ts' : List (Option ℕ)) (xs : List ℕ) → AreAt at start xs → i < length xs → ts' ≡ set ts (slice_index xs i) None
    → ((k : ℕ) → k < i + 1 → waiting_time ts (slice_index xs k) ≡ Some at) → (k : ℕ) → k < i → waiting_time ts' (slice_index xs k) ≡ Some at
others_wait at i start ts ts' xs are lt times wait k less =
    ap (λ us. waiting_time us (slice_index xs k)) times ∙ get_or-set_other ts (slice_index xs i) (slice_index xs k) None None (are.apart k i less lt) ∙ wait k (omega arith)

pub one_ahead : (xs : List ℕ) (i : ℕ) → i < length xs → drop i xs ≡ slice_index xs i ∷ drop (suc i) xs
one_ahead xs i lt = drop-cons xs i 0 lt

-- leaves at the first places are different ones
front_read : (order : List ℕ) (k i : ℕ) → i < k → k ≤ length order → slice_index (take k order) i ≡ slice_index order i
front_read order k i lt le = get_or-take k order i 0 lt

pub front_is : (at : ℕ) (times : List (Option ℕ)) (order places xs : List ℕ) (n k : ℕ) → IsInverse order places → IsRanked times order n → k ≤ n → xs ≡ take k order → ((m : ℕ) → m < k → waiting_time times (slice_index order m) ≡ Some at) → AreAt at times xs
front_is at times order places xs n k inverse ranked le is wait =
    let all : k ≤ length order = omega (arith, ranked.same, ranked.within) in
    let long : length xs ≡ k = ap length is ∙ length-take-le k order all in
    let read : (i : ℕ) → i < k → slice_index xs i ≡ slice_index order i = (λ i lt. ap (λ ys. slice_index ys i) is ∙ front_read order k i lt all) in
    record {
      wait = λ i lt. let within : i < k = omega (arith, long) in ap (waiting_time times) (read i within) ∙ wait i within;
      apart = λ i j less lt.
          let j_lt : j < k = omega (arith, long) in
          let i_lt : i < k = omega arith in
          let ne : i ≢ j = omega arith in
          λ same. apart order places i j inverse (omega arith) (omega arith) ne (sym (read i i_lt) ∙ same ∙ read j j_lt);
    }
