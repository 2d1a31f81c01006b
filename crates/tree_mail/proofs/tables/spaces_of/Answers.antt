use Rattle.std.proofs.Common.{◌≡◌, ℕ, zero, suc, Some, List, [], ◌∷◌, ◌++◌, length, ◌∙◌, subst, arith, rules}
use Rattle.std.specs.Prelude.{slice_get}
use Rattle.std.proofs.lemmas.List.{length-append}
use Rattle.std.proofs.lemmas.Option.{none-some}
use Rattle.model_tree.specs.Tree.{groups}
use Rattle.model_leaves.specs.Leaves.{OfTree}
use Rattle.tree_mail.specs.declared.tables.GroupSpace.{GroupSpace}
use Rattle.tree_mail.specs.Tabled.{IsSpaceOf}
use Rattle.tree_mail.proofs.tables.spaces_of.Goals as goal

-- a fact of each item by its number, with one more behind them
one_more : {A : Type 0} (P : ℕ → A → Type 0) (xs : List A) (x : A) → ((n : ℕ) (y : A) → slice_get xs n ≡ Some y → P n y) → P (length xs) x
    → (n : ℕ) (y : A) → slice_get (xs ++ x ∷ []) n ≡ Some y → P n y
one_more P [] x each last zero y e = let same : x ≡ y = cc in subst (P 0) same last
one_more P [] x each last (suc n) y e = absurd (none-some y e)
one_more P (z ∷ zs) x each last zero y e = each zero y e
one_more P (z ∷ zs) x each last (suc n) y e = one_more (λ k. P (suc k)) zs x (λ k. each (suc k)) last n y e

pub loop-number-preserved : goal.loop-number-preserved
loop-number-preserved c =
    let P = λ (n : ℕ) (s : GroupSpace). OfTree c.args.model.now (λ t. IsSpaceOf (slice_get (groups t) n) s) in
    let old = c.loop-number.spaces.items in
    let space = c.in_ok-space.space in
    let pushed : c.push.new.self.items ≡ old ++ space ∷ [] = search rules in
    let long = c.loop-number.invariant.long in
    record {
      long = let more = length-append old (space ∷ []) in rw pushed (omega (arith, more, long));
      each = rw pushed (one_more P old space c.loop-number.invariant.each (rw long c.in_ok-space.ensures));
    }

pub returns : goal.returns
returns c = λ settings.
    let counted = c.groups-number-end.ensures settings in
    let there = c.loop-number.invariant in
    let end = c.loop-number.auto.number-end in
    let past = c.loop-number-test.false in
    record {
      long = there.long ∙ omega (arith, end, past) ∙ counted;
      each = λ n s e. there.each n s e settings;
    }
