-- Tallies of values, of which one changes.
use Rattle.std.proofs.Common.{◌≡◌, ℕ, ◌+◌, ◌-◌, ◌≤◌, Bool, cond, List, [], ◌∷◌, ◌++◌, length, count_by, add-zero, sym, ap, ◌∙◌, arith}
use Rattle.std.specs.List.{sum_by}
use Rattle.std.proofs.lemmas.List.Sums.{sum_by-append, sum_by-cons, count_by-le-length}
use Rattle.quantity.specs.declared.value.Value.{Value}
use Rattle.quantity.specs.declared.value.Value.TheVariants.{Undefined}
use Rattle.quantity.specs.Arithmetic.{same_value}
use Rattle.rule_tree.specs.declared.node.Count.{Count}
use Rattle.rule_tree.specs.declared.node.Count.TheVariants.{Ones, Zeros, Undefs}
use Rattle.rule_tree.specs.Meaning.{whole, neighbour_count}
use Rattle.rule_eval.specs.declared.tally.Tally.{Tally}
use Rattle.rule_eval.specs.Tallies.{IsTally, CanMove, moved_tally}

-- ---- one value

pub one_counted : (p : Value → Bool) (v : Value) (b : Bool) (n : ℕ) → b ≡ p v → n ≡ cond b 1 0 → n ≡ count_by p (v ∷ [])
one_counted p v b n is so =
    so ∙ ap (λ (c : Bool). cond c 1 0) is ∙ sym (sum_by-cons (λ (w : Value). cond (p w) 1 0) v [] ∙ add-zero (cond (p v) 1 0))

-- ---- one value among others

parts : (f : Value → ℕ) (xs ys : List Value) (v : Value) → sum_by f (xs ++ v ∷ ys) ≡ sum_by f xs + (sum_by f (v ∷ []) + sum_by f ys)
parts f xs ys v =
    let alone : sum_by f (v ∷ []) ≡ f v = sum_by-cons f v [] ∙ add-zero (f v) in
    sum_by-append f xs (v ∷ ys) ∙ ap (λ n. sum_by f xs + n) (sum_by-cons f v ys ∙ ap (λ n. n + sum_by f ys) (sym alone))

pub counted-parts : (c : Count) (xs ys : List Value) (v : Value) → neighbour_count c (xs ++ v ∷ ys) ≡ neighbour_count c xs + (neighbour_count c (v ∷ []) + neighbour_count c ys)
counted-parts Ones xs ys v = parts (λ (w : Value). cond (same_value (whole 1) w) 1 0) xs ys v
counted-parts Zeros xs ys v = parts (λ (w : Value). cond (same_value (whole 0) w) 1 0) xs ys v
counted-parts Undefs xs ys v = parts (λ (w : Value). cond (same_value Undefined w) 1 0) xs ys v

front : (f : Value → ℕ) (v : Value) (vs : List Value) → sum_by f (v ∷ vs) ≡ sum_by f (v ∷ []) + sum_by f vs
front f v vs = sum_by-cons f v vs ∙ ap (λ n. n + sum_by f vs) (sym (sum_by-cons f v [] ∙ add-zero (f v)))

pub counted-cons : (c : Count) (v : Value) (vs : List Value) → neighbour_count c (v ∷ vs) ≡ neighbour_count c (v ∷ []) + neighbour_count c vs
counted-cons Ones v vs = front (λ (w : Value). cond (same_value (whole 1) w) 1 0) v vs
counted-cons Zeros v vs = front (λ (w : Value). cond (same_value (whole 0) w) 1 0) v vs
counted-cons Undefs v vs = front (λ (w : Value). cond (same_value Undefined w) 1 0) v vs

pub counted-few : (c : Count) (vs : List Value) → neighbour_count c vs ≤ length vs
counted-few Ones vs = count_by-le-length (λ (w : Value). same_value (whole 1) w) vs
counted-few Zeros vs = count_by-le-length (λ (w : Value). same_value (whole 0) w) vs
counted-few Undefs vs = count_by-le-length (λ (w : Value). same_value Undefined w) vs

-- ---- one value for another

number-moved : (t was is a v w b all after : ℕ) → t ≡ all → was ≡ v → is ≡ w → all ≡ a + (v + b) → after ≡ a + (w + b) → t + is - was ≡ after
number-moved t was is a v w b all after et ew ei before now = omega (arith, et, ew, ei, before, now)

number-low : (t was is a v b all : ℕ) → t ≡ all → was ≡ v → all ≡ a + (v + b) → was ≤ t + is
number-low t was is a v b all et ew before = omega (arith, et, ew, before)

number-high : (t is all w long : ℕ) → t ≡ all → is ≡ w → all ≤ long → w ≤ 1 → long ≤ 128 → t + is ≤ 255
number-high t is all w long et ei few one most = omega (arith, et, ei, few, one, most)

module _ (t was is : Tally) (xs ys : List Value) (v w : Value) (before : IsTally t (xs ++ v ∷ ys)) (old : IsTally was (v ∷ [])) (new : IsTally is (w ∷ [])) where
  moved-at : (c : Count) (n x y : ℕ) → n ≡ neighbour_count c (xs ++ v ∷ ys) → x ≡ neighbour_count c (v ∷ []) → y ≡ neighbour_count c (w ∷ []) → n + y - x ≡ neighbour_count c (xs ++ w ∷ ys)
  moved-at c n x y en ex ey =
      number-moved n x y (neighbour_count c xs) (neighbour_count c (v ∷ [])) (neighbour_count c (w ∷ [])) (neighbour_count c ys) (neighbour_count c (xs ++ v ∷ ys)) (neighbour_count c (xs ++ w ∷ ys)) en ex ey
      (counted-parts c xs ys v) (counted-parts c xs ys w)

  -- the tally is that of the values with the other one
  pub is_moved : IsTally (moved_tally t was is) (xs ++ w ∷ ys)
  is_moved =
      record {
        ones = moved-at Ones t.ones was.ones is.ones before.ones old.ones new.ones;
        zeros = moved-at Zeros t.zeros was.zeros is.zeros before.zeros old.zeros new.zeros;
        undefs = moved-at Undefs t.undefs was.undefs is.undefs before.undefs old.undefs new.undefs;
      }

  low-at : (c : Count) (n x y : ℕ) → n ≡ neighbour_count c (xs ++ v ∷ ys) → x ≡ neighbour_count c (v ∷ []) → x ≤ n + y
  low-at c n x y en ex = number-low n x y (neighbour_count c xs) (neighbour_count c (v ∷ [])) (neighbour_count c ys) (neighbour_count c (xs ++ v ∷ ys)) en ex (counted-parts c xs ys v)

  high-at : (c : Count) (n y : ℕ) → n ≡ neighbour_count c (xs ++ v ∷ ys) → y ≡ neighbour_count c (w ∷ []) → length (xs ++ v ∷ ys) ≤ 128 → n + y ≤ 255
  high-at c n y en ey few =
      let one : neighbour_count c (w ∷ []) ≤ 1 = counted-few c (w ∷ []) in
      number-high n y (neighbour_count c (xs ++ v ∷ ys)) (neighbour_count c (w ∷ [])) (length (xs ++ v ∷ ys)) en ey (counted-few c (xs ++ v ∷ ys)) one few

  -- and it can be made
  pub can_move : length (xs ++ v ∷ ys) ≤ 128 → CanMove t was is
  can_move few =
      record {
        ones = low-at Ones t.ones was.ones is.ones before.ones old.ones;
        zeros = low-at Zeros t.zeros was.zeros is.zeros before.zeros old.zeros;
        undefs = low-at Undefs t.undefs was.undefs is.undefs before.undefs old.undefs;
        most_ones = high-at Ones t.ones is.ones before.ones new.ones few;
        most_zeros = high-at Zeros t.zeros is.zeros before.zeros new.zeros few;
        most_undefs = high-at Undefs t.undefs is.undefs before.undefs new.undefs few;
      }
