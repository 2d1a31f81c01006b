-- Private: what a test means over the values of neighbours.
use Rattle.std.specs.Prelude.{List, map, ◌==◌}
use Rattle.quantity.specs.declared.truth.Tri.{Tri}
use Rattle.quantity.specs.declared.value.Compare.TheVariants.{Equal}
use Rattle.quantity.specs.declared.value.Value.{Value}
use Rattle.quantity.specs.declared.value.Value.TheVariants.{Num}
use Rattle.quantity.specs.Truth.{negation, conjunction, disjunction, tri_of}
use Rattle.quantity.specs.Arithmetic.{comparison}
use Rattle.rule_tree.specs.Meaning.{value_at, whole, neighbour_count}
use Rattle.rule_forms.specs.declared.forms.PlainTest.{PlainTest}
use Rattle.rule_forms.specs.declared.forms.PlainTest.TheVariants.{Truth, NeighbourIs, CountIs, OutIs, CountEquals}
use Rattle.rule_forms.specs.declared.forms.Test.{Test}
use Rattle.rule_forms.specs.declared.forms.Test.TheVariants.{Plain, Not', Both', Either', PlainBoth', PlainEither'}
use Rattle.rule_eval.specs.Sums.{port_value_at}

-- what each neighbour gave at its port out
abbrev pub outs_of : List (List Value) → List Value
outs_of nbs = map (λ vs. value_at vs 0) nbs

-- the truth value of a test that is made of no other tests
abbrev pub plain_truth : PlainTest → List (List Value) → Tri
plain_truth (Truth t) nbs = t
plain_truth (NeighbourIs how k p v) nbs = comparison how (port_value_at nbs k p) v
plain_truth (CountIs how c v) nbs = comparison how (whole (neighbour_count c (outs_of nbs))) v
plain_truth (OutIs k raw) nbs = comparison Equal (port_value_at nbs k 0) (Num raw)
plain_truth (CountEquals c n) nbs = tri_of (neighbour_count c (outs_of nbs) == n)

-- the truth value of a test
abbrev pub test_truth : Test → List (List Value) → Tri
test_truth (Plain t) nbs = plain_truth t nbs
test_truth (Not' p a) nbs = negation (test_truth a nbs)
test_truth (Both' p a q b) nbs = conjunction (test_truth a nbs) (test_truth b nbs)
test_truth (Either' p a q b) nbs = disjunction (test_truth a nbs) (test_truth b nbs)
test_truth (PlainBoth' a p b) nbs = conjunction (plain_truth a nbs) (test_truth b nbs)
test_truth (PlainEither' a p b) nbs = disjunction (plain_truth a nbs) (test_truth b nbs)
