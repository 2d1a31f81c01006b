-- Leaves that are marked: one giver more that wakes, and all that are taken.
use Rattle.std.proofs.Common.{◌≡◌, ℕ, ◌+◌, ◌<◌, Bool, true, false, ◌||◌, List, length, drop, get_or, refl, sym, ◌∙◌, ap}
use Rattle.std.specs.List.{filter, range_with_len}
use Rattle.std.proofs.lemmas.List.{drop_more, ext_get_or}
use Rattle.leaf_set.specs.Members.{is_in, members_of, IsUnion}
use Rattle.run_model.specs.Run.{PortRecord}
use Rattle.quantity.specs.Bytes.{has_number}
use Rattle.sparse_cycle.specs.Wake.{is_fed, reached_leaves}
use Rattle.cycle_steps.specs.Marking.{Marks}
use Rattle.cycle_steps.specs.Watching.{watches_any}

pub or-regroup : (x y z : Bool) → (x || (y || z)) ≡ ((x || y) || z)
or-regroup true y z = refl
or-regroup false y z = refl

pub woken-more : (watches : ℕ → ℕ → Bool) (givers : List ℕ) (i : ℕ) (all : Bool) (old new : List Bool) (near : List ℕ) (k : ℕ) → i < length givers
    → all ≡ (is_in old k || watches_any watches (drop i givers) k) → has_number near k ≡ watches k (get_or givers i 0) → is_in new k ≡ (is_in old k || has_number near k)
    → all ≡ (is_in new k || watches_any watches (drop (i + 1) givers) k)
woken-more watches givers i all old new near k lt is watch marked =
    let rest = watches_any watches (drop (i + 1) givers) k in
    is ∙ ap (λ ls. is_in old k || watches_any watches ls k) (drop_more givers i 0 lt)
    ∙ or-regroup (is_in old k) (watches k (get_or givers i 0)) rest
    ∙ ap (λ b. b || rest) (sym (marked ∙ ap (λ b. is_in old k || b) watch))

-- what is taken of a set in which those that are due and those that are fed were marked
pub reached-marked : (old mid new : List Bool) (due : List ℕ) (fed : List PortRecord) (taken : List ℕ) → Marks (has_number due) old mid → Marks (is_fed fed) mid new
    → length mid ≡ length old → length new ≡ length mid → taken ≡ members_of new → taken ≡ reached_leaves (is_in old) (length old) due fed
reached-marked old mid new due fed taken first second same long is =
    is ∙ (λ i. filter (λ k. (second k ∙ ap (λ b. b || is_fed fed k) (first k)) i) (range_with_len 0 ((long ∙ same) i)))

or-again : (a b : Bool) → (a || (a || b)) ≡ (a || b)
or-again true b = refl
or-again false b = refl

-- a set that was the same before more were marked in another is the same again once it is joined
pub joined-same : (touched old woken joined : List Bool) (test : ℕ → Bool) → touched ≡ old → length woken ≡ length old → Marks test old woken → IsUnion touched woken joined → joined ≡ woken
joined-same touched old woken joined test same long marked joins =
    ext_get_or false joined woken (joins.long ∙ ap length same ∙ sym long) (λ k lt.
    joins.either k ∙ (λ i. is_in (same i) k || marked k i) ∙ or-again (is_in old k) (test k) ∙ sym (marked k))
