-- Sights that agree in the own value and in counts are answered alike.
use Rattle.std.proofs.Common.{◌≡◌, ℕ, suc, true, Option, Some, None, Ok, Err, List, [], ◌∷◌, refl, sym, ap, subst, ◌∙◌, arith}
use Rattle.std.specs.Prelude.{◌==◌}
use Rattle.std.specs.List.{All}
use Rattle.std.specs.declared.result.Result.{Result}
use Rattle.std.proofs.lemmas.Bool.{and_parts, eqb-true}
use Rattle.quantity.specs.Arithmetic.{comparison}
use Rattle.quantity.specs.declared.value.Value.{Value}
use Rattle.quantity.specs.declared.value.Value.TheVariants.{Num}
use Rattle.quantity.specs.declared.value.Compare.TheVariants.{Equal}
use Rattle.quantity.specs.declared.truth.Tri.{Tri}
use Rattle.quantity.specs.declared.truth.Tri.TheVariants.{True, False, Undef}
use Rattle.quantity.specs.Truth.{negation, conjunction, disjunction, tri_of}
use Rattle.rule_tree.specs.declared.outcome.Answer.{Answer}
use Rattle.rule_tree.specs.declared.outcome.Answer.TheVariants.{Logic}
use Rattle.rule_tree.specs.declared.outcome.RuleStop.{RuleStop}
use Rattle.rule_tree.specs.Expression.{Expr, Rule}
use Rattle.rule_tree.specs.Meaning.{Sight, whole, truth_in, meaning}
use Rattle.rule_tree.specs.Chosen.{Chosen, unless_overflow, if_true, rule_outcome, outcome_of_rules}
use Rattle.rule_forms.specs.declared.given.Given.{Given}
use Rattle.rule_forms.specs.declared.known.Constant.{Constant}
use Rattle.rule_forms.specs.declared.forms.PlainTest.{PlainTest}
use Rattle.rule_forms.specs.declared.forms.PlainTest.TheVariants.{Truth, NeighbourIs, CountIs, OutIs, CountEquals}
use Rattle.rule_forms.specs.declared.forms.Test.{Test}
use Rattle.rule_forms.specs.declared.forms.Test.TheVariants.{Plain, Not', Both', Either', PlainBoth', PlainEither'}
use Rattle.rule_forms.specs.ByPort.{Evaluates}
use Rattle.rule_forms.specs.Forms.{expr_of_test}
use Rattle.rule_forms.specs.Known.{AlwaysMakes}
use Rattle.rule_eval.specs.Sums.{port_value_at}
use Rattle.rule_eval.specs.Tests.{plain_truth, test_truth}
use Rattle.rule_eval.specs.Few.{Agree, AnswersAlike, GoByFew, IsByFew, GoesByFew, plain_reads_few, reads_few}
use Rattle.rule_eval.proofs.FormTests.{test_means}

-- ---- tests

same_port : (own k p : ℕ) (s r : Sight) → k ≡ own → p ≡ 0 → Agree own s r → port_value_at s.neighbours k p ≡ port_value_at r.neighbours k p
same_port own k p s r at out agree =
    (λ j. port_value_at s.neighbours (at j) (out j)) ∙ agree.own_value ∙ sym (λ j. port_value_at r.neighbours (at j) (out j))

plain_alike : (own : ℕ) (t : PlainTest) (s r : Sight) → plain_reads_few own t ≡ true → Agree own s r → plain_truth t s.neighbours ≡ plain_truth t r.neighbours
plain_alike own (Truth t) s r few agree = refl
plain_alike own (NeighbourIs how k p v) s r few agree =
    let both = and_parts (k == own) (p == 0) few in
    ap (λ (x : Value). comparison how x v) (same_port own k p s r (eqb-true k own both.0) (eqb-true p 0 both.1) agree)
plain_alike own (CountIs how c v) s r few agree = ap (λ n. comparison how (whole n) v) (agree.counts c)
plain_alike own (OutIs k raw) s r few agree = ap (λ (x : Value). comparison Equal x (Num raw)) (same_port own k 0 s r (eqb-true k own few) refl agree)
plain_alike own (CountEquals c n) s r few agree = ap (λ m. tri_of (m == n)) (agree.counts c)

test_alike : (own : ℕ) (t : Test) (s r : Sight) → reads_few own t ≡ true → Agree own s r → test_truth t s.neighbours ≡ test_truth t r.neighbours
test_alike own (Plain t) s r few agree = plain_alike own t s r few agree
test_alike own (Not' p a) s r few agree = ap negation (test_alike own a s r few agree)
test_alike own (Both' p a q b) s r few agree =
    let both = and_parts (reads_few own a) (reads_few own b) few in
    λ j. conjunction (test_alike own a s r both.0 agree j) (test_alike own b s r both.1 agree j)
test_alike own (Either' p a q b) s r few agree =
    let both = and_parts (reads_few own a) (reads_few own b) few in
    λ j. disjunction (test_alike own a s r both.0 agree j) (test_alike own b s r both.1 agree j)
test_alike own (PlainBoth' a p b) s r few agree =
    let both = and_parts (plain_reads_few own a) (reads_few own b) few in
    λ j. conjunction (plain_alike own a s r both.0 agree j) (test_alike own b s r both.1 agree j)
test_alike own (PlainEither' a p b) s r few agree =
    let both = and_parts (plain_reads_few own a) (reads_few own b) few in
    λ j. disjunction (plain_alike own a s r both.0 agree j) (test_alike own b s r both.1 agree j)

-- the expression of a test that reads no more
pub by_few : (own : ℕ) (t : Test) (e : Expr) → e ≡ expr_of_test t → reads_few own t ≡ true → IsByFew own e
by_few own t e is few s r agree =
    ap (λ (x : Expr). meaning x s) is ∙ test_means t s ∙ ap (λ (x : Tri). Some (Logic x)) (test_alike own t s r few agree) ∙ sym (ap (λ (x : Expr). meaning x r) is ∙ test_means t r)

-- ---- rules

-- where both are answered by the same, they are answered alike
same_made : (a b : Chosen) (given : Given) (ms : ℕ) (xs : List Value) → Evaluates a (Ok (given, ms)) xs → Evaluates b (Ok (given, ms)) xs
    → (result : Result (Given × ℕ) RuleStop) (variables : List Value) → Evaluates a result variables → Evaluates b result variables
same_made (Ok g) (Ok q) given ms xs one two (Ok r) variables h =
    record {
      values = h.values ∙ sym one.values ∙ two.values;
      delay = h.delay ∙ sym one.delay ∙ two.delay;
      variables = h.variables ∙ sym one.variables ∙ two.variables;
    }
same_made (Ok g) (Ok q) given ms xs one two (Err stop) variables h = absurd h
same_made (Ok g) (Err why) given ms xs one two result variables h = absurd two
same_made (Err why) b given ms xs one two result variables h = absurd one

-- a rule that gives what stands in its text
pub goes_by : (own : ℕ) (rule : Rule) (c : Constant) → IsByFew own rule.condition → AlwaysMakes rule c → GoesByFew own rule
goes_by own rule c condition always =
    record {
      condition = condition;
      gives = λ s r agree. same_made (rule_outcome rule s) (rule_outcome rule r) c.given c.delay s.variables (always.made s)
          (subst (λ (xs : List Value). Evaluates (rule_outcome rule r) (Ok (c.given, c.delay)) xs) (sym agree.variables) (always.made r));
    }

-- a rule, or those behind it
either : (t : Tri) (a b x y : Chosen) → AnswersAlike a b → AnswersAlike x y
    → (result : Result (Given × ℕ) RuleStop) (variables : List Value) → Evaluates (if_true t a x) result variables → Evaluates (if_true t b y) result variables
either True a b x y here behind result variables h = here result variables h
either False a b x y here behind result variables h = behind result variables h
either Undef a b x y here behind result variables h = behind result variables h

goes_on : (o : Option Answer) (a b x y : Chosen) → AnswersAlike a b → AnswersAlike x y
    → (result : Result (Given × ℕ) RuleStop) (variables : List Value) → Evaluates (unless_overflow o (λ c. if_true (truth_in c) a x)) result variables
    → Evaluates (unless_overflow o (λ c. if_true (truth_in c) b y)) result variables
goes_on None a b x y here behind result variables h = h
goes_on (Some c) a b x y here behind result variables h = either (truth_in c) a b x y here behind result variables h

pub go_by : (own : ℕ) (rules : List Rule) → All (GoesByFew own) rules → GoByFew own rules
go_by own [] each s r agree result variables h = h
go_by own (q ∷ qs) each s r agree result variables h =
    let one = each 0 q (omega arith) in
    let rest = go_by own qs (λ k d lt. each (suc k) d (omega (arith, lt))) s r agree in
    goes_on (meaning q.condition r) (rule_outcome q s) (rule_outcome q r) (outcome_of_rules qs s) (outcome_of_rules qs r) (one.gives s r agree) rest result variables
    (subst (λ (o : Option Answer). Evaluates (unless_overflow o (λ c. if_true (truth_in c) (rule_outcome q s) (outcome_of_rules qs s))) result variables) (one.condition s r agree) h)
