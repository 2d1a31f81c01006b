-- Numbers that were kept.
use Rattle.std.proofs.Common.{◌≡◌, ◌≢◌, ℕ, ◌<◌, Option, Some, None, List, [], ◌∷◌, length, get_or, set, sym, subst, arith}
use Rattle.std.specs.Prelude.{IfSome}
use Rattle.std.proofs.lemmas.List.{get_or-set_same, get_or-set_other}
use Rattle.rule_tree.specs.declared.node.Count.{Count}
use Rattle.rule_tree.specs.declared.node.Count.TheVariants.{Ones, Zeros, Undefs}
use Rattle.rule_tree.specs.Meaning.{outs, neighbour_count}
use Rattle.rule_eval.specs.Seen.{sight_of_view}
use Rattle.rule_eval.specs.Kept.{AreCounts, place_of, kept_number}
use Rattle.rule_eval.specs.Tallies.{IsTally}
use Rattle.rule_eval.specs.declared.counts.Counts.{Counts}
use Rattle.rule_eval.specs.declared.tally.Tally.{Tally}
use Rattle.rule_eval.specs.declared.view.View.{View}

-- a number, if it is there, is this one
abbrev IsNumber : Option ℕ → ℕ → Type 0
IsNumber o n = IfSome o (λ k. k ≡ n)

-- nothing is kept at first
pub none_kept : (v : View) → AreCounts (record { numbers = None ∷ None ∷ None ∷ [] }) v
none_kept v = record { each = at_word }
  where
    at_word : (count : Count)
        → IsNumber (kept_number (record { numbers = None ∷ None ∷ None ∷ [] }) count)
        (neighbour_count count (outs (sight_of_view v)))
    at_word Ones = tt
    at_word Zeros = tt
    at_word Undefs = tt

-- all are kept as a tally has them
pub all_kept : (v : View) (t : Tally) → IsTally t (outs (sight_of_view v))
    → AreCounts (record { numbers = Some t.ones ∷ Some t.zeros ∷ Some t.undefs ∷ [] }) v
all_kept v t is = record { each = at_word }
  where
    at_word : (count : Count)
        → IsNumber
        (kept_number (record { numbers = Some t.ones ∷ Some t.zeros ∷ Some t.undefs ∷ [] }) count)
        (neighbour_count count (outs (sight_of_view v)))
    at_word Ones = is.ones
    at_word Zeros = is.zeros
    at_word Undefs = is.undefs

-- a number that was kept is that of the view
pub kept_is_counted : (c : Counts) (v : View) (count : Count) (n : ℕ) → AreCounts c v
    → kept_number c count ≡ Some n → n ≡ neighbour_count count (outs (sight_of_view v))
kept_is_counted c v count n are is =
    let P : Option ℕ → Type 0 = λ o. IsNumber o (neighbour_count count (outs (sight_of_view v))) in
    subst P is (are.each count)

at_same : (l : List (Option ℕ)) (i n m : ℕ) → i < length l → n ≡ m
    → IsNumber (get_or (set l i (Some n)) i None) m
at_same l i n m h is =
    let P : Option ℕ → Type 0 = λ o. IsNumber o m in
    subst P (sym (get_or-set_same l i (Some n) None h)) is

at_other : (l : List (Option ℕ)) (i j n m : ℕ) → j ≢ i → IsNumber (get_or l j None) m
    → IsNumber (get_or (set l i (Some n)) j None) m
at_other l i j n m apart is =
    let P : Option ℕ → Type 0 = λ o. IsNumber o m in
    subst P (sym (get_or-set_other l i j (Some n) None apart)) is

-- one more is kept
pub one_more : (c : Counts) (v : View) (count : Count) (n : ℕ) → AreCounts c v
    → length c.numbers ≡ 3 → n ≡ neighbour_count count (outs (sight_of_view v))
    → AreCounts (record { numbers = set c.numbers (place_of count) (Some n) }) v
one_more c v count n are three is = record { each = at_word count is }
  where
    at_word : (word : Count) → n ≡ neighbour_count word (outs (sight_of_view v)) → (other : Count)
        → IsNumber (get_or (set c.numbers (place_of word) (Some n)) (place_of other) None)
        (neighbour_count other (outs (sight_of_view v)))
    at_word Ones h Ones = at_same c.numbers 0 n _ (omega arith) h
    at_word Ones h Zeros = at_other c.numbers 0 1 n _ (λ e. omega (arith, e)) (are.each Zeros)
    at_word Ones h Undefs = at_other c.numbers 0 2 n _ (λ e. omega (arith, e)) (are.each Undefs)
    at_word Zeros h Ones = at_other c.numbers 1 0 n _ (λ e. omega (arith, e)) (are.each Ones)
    at_word Zeros h Zeros = at_same c.numbers 1 n _ (omega arith) h
    at_word Zeros h Undefs = at_other c.numbers 1 2 n _ (λ e. omega (arith, e)) (are.each Undefs)
    at_word Undefs h Ones = at_other c.numbers 2 0 n _ (λ e. omega (arith, e)) (are.each Ones)
    at_word Undefs h Zeros = at_other c.numbers 2 1 n _ (λ e. omega (arith, e)) (are.each Zeros)
    at_word Undefs h Undefs = at_same c.numbers 2 n _ (omega arith) h
