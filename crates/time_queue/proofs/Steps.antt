-- Leaves of one time are taken, one after another.
use Rattle.std.proofs.Common.{◌≡◌, ℕ, ◌+◌, ◌<◌, ◌≤◌, Option, Some, None, List, [], ◌∷◌, ◌++◌, length, set, ap, ◌∙◌, arith}
use Rattle.std.specs.List.{sum_by}
use Rattle.std.proofs.lemmas.List.{length-set}
use Rattle.std.proofs.lemmas.List.Sums.{sum_by_push}
use Rattle.time_queue.specs.Waiting.{waiting_time, is_due, leaves_at}
use Rattle.time_queue.specs.Taking.{NoneAt, TakesMore}
use Rattle.time_queue.proofs.Entered.{waits_within}
use Rattle.time_queue.proofs.Taken.{fewer_before, leaves_less, leaves_none, length_picked, ones, without_less}

-- one after the other
pub takes_both : (at : ℕ) (ts ts' ts'' : List (Option ℕ)) (xs xs' xs'' : List ℕ) → TakesMore at ts ts' xs xs' → TakesMore at ts' ts'' xs' xs'' → TakesMore at ts ts'' xs xs''
takes_both at ts ts' ts'' xs xs' xs'' one other = record {
  counted = λ f. other.counted f ∙ one.counted f;
  stays = other.stays ∙ one.stays;
  same = other.same ∙ one.same;
  early = λ early. other.early (one.early early);
}

-- one leaf that waits for the time
pub takes_one : (at leaf : ℕ) (ts ts' : List (Option ℕ)) (xs xs' : List ℕ) → waiting_time ts leaf ≡ Some at → ts' ≡ set ts leaf None → xs' ≡ xs ++ leaf ∷ [] → TakesMore at ts ts' xs xs'
takes_one at leaf ts ts' xs xs' waits times items =
    let within = waits_within ts leaf at waits in
    rw (times, items) record {
      counted = λ f. omega (arith, sum_by_push f xs leaf, leaves_less f at leaf ts within waits);
      stays = without_less at leaf ts within waits;
      same = length-set ts leaf None;
      early = λ early. fewer_before at leaf ts within early;
    }

pub one_fewer : (at leaf : ℕ) (ts ts' : List (Option ℕ)) → waiting_time ts leaf ≡ Some at → ts' ≡ set ts leaf None → length (leaves_at at ts') < length (leaves_at at ts)
one_fewer at leaf ts ts' waits times =
    rw times (omega (arith, leaves_less (λ _. 1) at leaf ts (waits_within ts leaf at waits) waits, ones (leaves_at at ts), ones (leaves_at at (set ts leaf None))))

-- what is taken and what is left are as many together
pub as_many : (at : ℕ) (ts ts' : List (Option ℕ)) (xs xs' : List ℕ) → TakesMore at ts ts' xs xs' → length xs' + length (leaves_at at ts') ≡ length xs + length (leaves_at at ts)
as_many at ts ts' xs xs' taken = omega (arith, taken.counted (λ _. 1), ones xs, ones xs', ones (leaves_at at ts), ones (leaves_at at ts'))

-- all leaves of the time are taken, in some order
pub all_listed : (at : ℕ) (ts ts' : List (Option ℕ)) (xs xs' : List ℕ) → TakesMore at ts ts' xs xs' → NoneAt at ts' → xs ≡ [] → (f : ℕ → ℕ) → sum_by f xs' ≡ sum_by f (leaves_at at ts)
all_listed at ts ts' xs xs' taken none empty f =
    let left : sum_by f (leaves_at at ts') ≡ 0 = ap (sum_by f) (leaves_none at ts' none) in
    let before : sum_by f xs ≡ 0 = ap (sum_by f) empty in
    omega (arith, taken.counted f)

-- there are no more of them than leaves
pub leaves_few : (at : ℕ) (ts : List (Option ℕ)) → length (leaves_at at ts) ≤ length ts
leaves_few at ts = length_picked (λ k. is_due at (waiting_time ts k)) (length ts)
