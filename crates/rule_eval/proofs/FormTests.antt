-- What tests mean.
use Rattle.std.proofs.Common.{◌≡◌, ℕ, ◌*◌, Option, Some, pos, refl, ap, ◌∙◌, arith}
use Rattle.std.specs.Prelude.{◌==◌}
use Rattle.std.proofs.lemmas.Bool.Decides.{nat_tests}
use Rattle.std.proofs.lemmas.Int.{ints}
use Rattle.quantity.specs.declared.value.Compare.TheVariants.{Equal}
use Rattle.quantity.specs.Arithmetic.{raw_comparison}
use Rattle.quantity.specs.Truth.{tri_of}
use Rattle.quantity.specs.Written.{for_some}
use Rattle.rule_tree.specs.declared.outcome.Answer.{Answer}
use Rattle.rule_tree.specs.declared.outcome.Answer.TheVariants.{Logic}
use Rattle.rule_tree.specs.declared.node.Unary.TheVariants.{Not}
use Rattle.rule_tree.specs.declared.node.Binary.{Binary}
use Rattle.rule_tree.specs.declared.node.Binary.TheVariants.{And, Or}
use Rattle.rule_tree.specs.Meaning.{Sight, neighbour_count, one_meaning, two_meaning, meaning}
use Rattle.rule_forms.specs.declared.forms.PlainTest.{PlainTest}
use Rattle.rule_forms.specs.declared.forms.PlainTest.TheVariants.{Truth, NeighbourIs, CountIs, OutIs, CountEquals}
use Rattle.rule_forms.specs.declared.forms.Test.{Test}
use Rattle.rule_forms.specs.declared.forms.Test.TheVariants.{Plain, Not', Both', Either', PlainBoth', PlainEither'}
use Rattle.rule_forms.specs.Forms.{expr_of_plain, expr_of_test}
use Rattle.rule_eval.specs.Tests.{outs_of, plain_truth, test_truth}

joined : (b : Binary) (m n : Option Answer) (x y : Answer) → m ≡ Some x → n ≡ Some y → for_some m (λ p. for_some n (two_meaning b p)) ≡ two_meaning b x y
joined b m n x y left right =
    ap (λ (o : Option Answer). for_some o (λ p. for_some n (two_meaning b p))) left ∙ ap (λ (o : Option Answer). for_some o (two_meaning b x)) right

-- whole numbers are the same where their values are
same_whole : (m n : ℕ) → raw_comparison Equal (pos (m * 100000)) (pos (n * 100000)) ≡ (m == n)
same_whole m n = grind (arith, nat_tests, ints)

plain_means : (t : PlainTest) (s : Sight) → meaning (expr_of_plain t) s ≡ Some (Logic (plain_truth t s.neighbours))
plain_means (Truth t) s = refl
plain_means (NeighbourIs how k p v) s = refl
plain_means (CountIs how c v) s = refl
plain_means (OutIs k raw) s = refl
plain_means (CountEquals c n) s = ap (λ t. Some (Logic (tri_of t))) (same_whole (neighbour_count c (outs_of s.neighbours)) n)

-- a test has a truth value: nothing in it is too large
pub test_means : (t : Test) (s : Sight) → meaning (expr_of_test t) s ≡ Some (Logic (test_truth t s.neighbours))
test_means (Plain t) s = plain_means t s
test_means (Not' p a) s = ap (λ (o : Option Answer). for_some o (one_meaning Not)) (test_means a s)
test_means (Both' p a q b) s = joined And _ _ _ _ (test_means a s) (test_means b s)
test_means (Either' p a q b) s = joined Or _ _ _ _ (test_means a s) (test_means b s)
test_means (PlainBoth' a p b) s = joined And _ _ _ _ (plain_means a s) (test_means b s)
test_means (PlainEither' a p b) s = joined Or _ _ _ _ (plain_means a s) (test_means b s)
