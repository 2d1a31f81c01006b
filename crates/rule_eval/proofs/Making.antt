-- What rules give, step by step.
use Rattle.std.proofs.Common.{◌≡◌, ℕ, ◌+◌, ◌<◌, ◌≤◌, arith, Option, Some, None, Ok, Err, List, [], ◌∷◌, length, map, drop, get_or, set, max, refl, sym, ◌∙◌, ap, subst, ◌⊎◌, inl, inr}
use Rattle.std.specs.declared.result.Result.{Result}
use Rattle.quantity.specs.declared.truth.Tri.{Tri}
use Rattle.quantity.specs.declared.value.Value.{Value}
use Rattle.rule_tree.specs.declared.outcome.Answer.{Answer}
use Rattle.rule_tree.specs.declared.outcome.RuleStop.{RuleStop}
use Rattle.rule_tree.specs.Expression.{Expr, Rule}
use Rattle.rule_tree.specs.Meaning.{Sight, number_answered, truth_in, meaning}
use Rattle.quantity.specs.Written.{for_ok}
use Rattle.rule_tree.specs.Chosen.{Chosen, unless_overflow, values_of, variables_after, if_true, rule_outcome as given_by, outcome_of_rules}
use Rattle.rule_forms.specs.declared.numbered.NumberedForm.{NumberedForm}
use Rattle.rule_forms.specs.declared.given.Given.{Given}
use Rattle.rule_forms.specs.Forms.{expr_of_form}
use Rattle.rule_forms.specs.Depth.{depth_of, deepest, rule_depth}
use Rattle.rule_forms.specs.Known.{AlwaysWaits, StandsAlone}
use Rattle.rule_forms.specs.Numbered.{numbered_expression}
use Rattle.rule_forms.specs.Stops.{number_or_stop, truth_or_stop, number_by, truth_by, delay_by}
use Rattle.rule_forms.specs.ByPort.{Evaluates}
use Rattle.rule_forms.specs.Puts.{no_values, put_by}
use Rattle.rule_eval.specs.Evaluated.{GivesValues, SetsVariables, only}
use Rattle.rule_forms.proofs.Stacks.{drop_here}
use Rattle.rule_forms.proofs.Puts.{put_in, by_port_is, values_are, given_of, given_is}

-- ---- the definitions, by numbers and truth values

one_set : {B : Type 0} (o : Option Answer) (go : Value → Result B RuleStop) → unless_overflow o (λ a. go (number_answered a)) ≡ for_ok (number_or_stop o) go
one_set None go = refl
one_set (Some a) go = refl

one_condition : {B : Type 0} (o : Option Answer) (go : Tri → Result B RuleStop) → unless_overflow o (λ a. go (truth_in a)) ≡ for_ok (truth_or_stop o) go
one_condition None go = refl
one_condition (Some a) go = refl

-- ---- one step of each loop

pub give_here : (gives : List NumberedForm) (i : ℕ) (g : NumberedForm) (s : Sight) (values : List (Option Value)) → i < length gives → g ≡ get_or gives i g
    → put_by (map numbered_expression (drop i gives)) s values ≡ for_ok (number_by (expr_of_form g.form) s) (λ v. put_by (map numbered_expression (drop (i + 1) gives)) s (set values g.number (Some v)))
give_here gives i g s values h is = ap (λ (gs : List NumberedForm). put_by (map numbered_expression gs) s values) (drop_here gives i g h is)

pub set_here : (sets : List NumberedForm) (i : ℕ) (x : NumberedForm) (s : Sight) → i < length sets → x ≡ get_or sets i x
    → variables_after (map numbered_expression (drop i sets)) s ≡ for_ok (number_by (expr_of_form x.form) s) (λ v. variables_after (map numbered_expression (drop (i + 1) sets)) (record s { variables = set s.variables x.number v }))
set_here sets i x s h is =
    let go : Value → Result (List Value) RuleStop = λ v. variables_after (map numbered_expression (drop (i + 1) sets)) (record s { variables = set s.variables x.number v }) in
    ap (λ (xs : List NumberedForm). variables_after (map numbered_expression xs) s) (drop_here sets i x h is) ∙ one_set (meaning (expr_of_form x.form) s) go

pub deepest_here : (forms : List NumberedForm) (i : ℕ) (x : NumberedForm) → i < length forms → x ≡ get_or forms i x
    → deepest (map numbered_expression (drop i forms)) ≡ max (depth_of (expr_of_form x.form)) (deepest (map numbered_expression (drop (i + 1) forms)))
deepest_here forms i x h is = ap (λ (xs : List NumberedForm). deepest (map numbered_expression xs)) (drop_here forms i x h is)

pub first_here : (rules : List Rule) (i : ℕ) (r : Rule) (s : Sight) → i < length rules → r ≡ get_or rules i r
    → outcome_of_rules (drop i rules) s ≡ for_ok (truth_by r.condition s) (λ t. if_true t (given_by r s) (outcome_of_rules (drop (i + 1) rules) s))
first_here rules i r s h is =
    let go : Tri → Chosen = λ t. if_true t (given_by r s) (outcome_of_rules (drop (i + 1) rules) s) in
    ap (λ (rs : List Rule). outcome_of_rules rs s) (drop_here rules i r h is) ∙ one_condition (meaning r.condition s) go

-- ---- the same, by what the evaluated form gives

pub give_goes : (gives : List NumberedForm) (i : ℕ) (g : NumberedForm) (s : Sight) (values : List (Option Value)) (v : Value) → i < length gives → g ≡ get_or gives i g → Ok v ≡ number_by (expr_of_form g.form) s
    → put_by (map numbered_expression (drop i gives)) s values ≡ put_by (map numbered_expression (drop (i + 1) gives)) s (set values g.number (Some v))
give_goes gives i g s values v h is n =
    give_here gives i g s values h is ∙ ap (λ r. for_ok r (λ w. put_by (map numbered_expression (drop (i + 1) gives)) s (set values g.number (Some w)))) (sym n)

pub give_stops : (gives : List NumberedForm) (i : ℕ) (g : NumberedForm) (s : Sight) (values : List (Option Value)) (stop : RuleStop) → i < length gives → g ≡ get_or gives i g → Err stop ≡ number_by (expr_of_form g.form) s
    → put_by (map numbered_expression (drop i gives)) s values ≡ Err stop
give_stops gives i g s values stop h is n =
    give_here gives i g s values h is ∙ ap (λ r. for_ok r (λ w. put_by (map numbered_expression (drop (i + 1) gives)) s (set values g.number (Some w)))) (sym n)

pub set_goes : (sets : List NumberedForm) (i : ℕ) (x : NumberedForm) (s : Sight) (v : Value) → i < length sets → x ≡ get_or sets i x → Ok v ≡ number_by (expr_of_form x.form) s
    → variables_after (map numbered_expression (drop i sets)) s ≡ variables_after (map numbered_expression (drop (i + 1) sets)) (record s { variables = set s.variables x.number v })
set_goes sets i x s v h is n =
    set_here sets i x s h is ∙ ap (λ r. for_ok r (λ w. variables_after (map numbered_expression (drop (i + 1) sets)) (record s { variables = set s.variables x.number w }))) (sym n)

pub set_stops : (sets : List NumberedForm) (i : ℕ) (x : NumberedForm) (s : Sight) (stop : RuleStop) → i < length sets → x ≡ get_or sets i x → Err stop ≡ number_by (expr_of_form x.form) s
    → variables_after (map numbered_expression (drop i sets)) s ≡ Err stop
set_stops sets i x s stop h is n =
    set_here sets i x s h is ∙ ap (λ r. for_ok r (λ w. variables_after (map numbered_expression (drop (i + 1) sets)) (record s { variables = set s.variables x.number w }))) (sym n)

pub rule_holds : (rules : List Rule) (i : ℕ) (r : Rule) (s : Sight) (t : Tri) (later : Chosen) → i < length rules → r ≡ get_or rules i r → Ok t ≡ truth_by r.condition s
    → if_true t (given_by r s) (outcome_of_rules (drop (i + 1) rules) s) ≡ later → outcome_of_rules (drop i rules) s ≡ later
rule_holds rules i r s t later h is c goes =
    first_here rules i r s h is ∙ ap (λ o. for_ok o (λ u. if_true u (given_by r s) (outcome_of_rules (drop (i + 1) rules) s))) (sym c) ∙ goes

pub rule_stops : (rules : List Rule) (i : ℕ) (r : Rule) (s : Sight) (stop : RuleStop) → i < length rules → r ≡ get_or rules i r → Err stop ≡ truth_by r.condition s → outcome_of_rules (drop i rules) s ≡ Err stop
rule_stops rules i r s stop h is c =
    first_here rules i r s h is ∙ ap (λ o. for_ok o (λ u. if_true u (given_by r s) (outcome_of_rules (drop (i + 1) rules) s))) (sym c)

-- what is not true leaves it to the later rules
pub left_to : (t : Tri) (now later : Chosen) → (t ≡ Tri.False) ⊎ (t ≡ Tri.Undef) → if_true t now later ≡ later
left_to t now later (inl is) = ap (λ u. if_true u now later) is
left_to t now later (inr is) = ap (λ u. if_true u now later) is

-- ---- the parts of what a rule gives

abbrev values_or_none : Result (List (Option Value)) RuleStop → List (Option Value)
values_or_none (Ok values) = values
values_or_none (Err stop) = []

abbrev stop_or : RuleStop → Result (List (Option Value)) RuleStop → RuleStop
stop_or other (Ok values) = other
stop_or other (Err stop) = stop

-- what is put at the ports is what the rule gives
pub values_given : (gs : List (ℕ × Expr)) (s : Sight) (given : Given) → (let r : Result (List (Option Value)) RuleStop = Ok given.values in r ≡ put_by gs s no_values) → GivesValues (values_of gs s) (Ok given)
values_given gs s given is = at (values_of gs s) (is ∙ values_are gs s no_values)
  where
    at : (a : Result (List (ℕ × Value)) RuleStop) → (let r : Result (List (Option Value)) RuleStop = Ok given.values in r ≡ put_in no_values a) → GivesValues a (Ok given)
    at (Ok vs) h = ap values_or_none h ∙ by_port_is vs
    at (Err stop) h = absurd cc

pub values_stopped : (gs : List (ℕ × Expr)) (s : Sight) (stop : RuleStop) → put_by gs s no_values ≡ Err stop → GivesValues (values_of gs s) (Err stop)
values_stopped gs s stop is = at (values_of gs s) (sym (values_are gs s no_values) ∙ is)
  where
    at : (a : Result (List (ℕ × Value)) RuleStop) → put_in no_values a ≡ Err stop → GivesValues a (Err stop)
    at (Ok vs) h = absurd cc
    at (Err e) h = sym (ap (stop_or stop) h)

-- what a rule gives with this delay
with_parts : (r : Rule) (s : Sight) (delay : Result ℕ RuleStop) (answer : Result (Given × ℕ) RuleStop) (changed : List Value)
    → delay_by r.delay s ≡ delay → Evaluates (given_of (values_of r.gives s) delay (variables_after r.sets s)) answer changed
    → Evaluates (given_by r s) answer changed
with_parts r s delay answer changed is h =
    let P : Chosen → Type 0 = λ o. Evaluates o answer changed in
    subst P (sym (given_is r s ∙ ap (λ (d : Result ℕ RuleStop). given_of (values_of r.gives s) d (variables_after r.sets s)) is)) h

pub made_well : (r : Rule) (s : Sight) (given : Given) (ms : ℕ) (changed : List Value)
    → GivesValues (values_of r.gives s) (Ok given) → delay_by r.delay s ≡ Ok ms
    → SetsVariables {U = Unit {0}} (variables_after r.sets s) (Ok tt) changed
    → Evaluates (given_by r s) (Ok (given, ms)) changed
made_well r s given ms changed given_is delay_is set_is =
    with_parts r s (Ok ms) (Ok (given, ms)) changed delay_is (both (values_of r.gives s) (variables_after r.sets s) given_is set_is)
  where
    both : (a : Result (List (ℕ × Value)) RuleStop) (b : Result (List Value) RuleStop)
        → GivesValues a (Ok given) → SetsVariables {U = Unit {0}} b (Ok tt) changed
        → Evaluates (given_of a (Ok ms) b) (Ok (given, ms)) changed
    both (Ok vs) (Ok xs) p q = record { values = p; delay = refl; variables = q }
    both (Ok vs) (Err e) p q = absurd q
    both (Err e) b p q = absurd p

pub stopped_by_a_value : (r : Rule) (s : Sight) (stop : RuleStop) (changed : List Value)
    → GivesValues (values_of r.gives s) (Err stop) → Evaluates (given_by r s) (Err stop) changed
stopped_by_a_value r s stop changed p =
    with_parts r s (delay_by r.delay s) (Err stop) changed refl (at (values_of r.gives s) p)
  where
    at : (a : Result (List (ℕ × Value)) RuleStop) → GivesValues a (Err stop)
        → Evaluates (given_of a (delay_by r.delay s) (variables_after r.sets s)) (Err stop) changed
    at (Ok vs) q = absurd q
    at (Err e) q = q

pub stopped_by_the_delay : (r : Rule) (s : Sight) (given : Given) (stop : RuleStop) (changed : List Value)
    → GivesValues (values_of r.gives s) (Ok given) → delay_by r.delay s ≡ Err stop
    → Evaluates (given_by r s) (Err stop) changed
stopped_by_the_delay r s given stop changed p is =
    with_parts r s (Err stop) (Err stop) changed is (at (values_of r.gives s) p)
  where
    at : (a : Result (List (ℕ × Value)) RuleStop) → GivesValues a (Ok given)
        → Evaluates (given_of a (Err stop) (variables_after r.sets s)) (Err stop) changed
    at (Ok vs) q = refl
    at (Err e) q = absurd q

pub stopped_by_a_set : (r : Rule) (s : Sight) (given : Given) (ms : ℕ) (stop : RuleStop) (changed : List Value)
    → GivesValues (values_of r.gives s) (Ok given) → delay_by r.delay s ≡ Ok ms
    → SetsVariables {U = Unit {0}} (variables_after r.sets s) (Err stop) changed
    → Evaluates (given_by r s) (Err stop) changed
stopped_by_a_set r s given ms stop changed p is set_is =
    with_parts r s (Ok ms) (Err stop) changed is (both (values_of r.gives s) (variables_after r.sets s) p set_is)
  where
    both : (a : Result (List (ℕ × Value)) RuleStop) (b : Result (List Value) RuleStop)
        → GivesValues a (Ok given) → SetsVariables {U = Unit {0}} b (Err stop) changed
        → Evaluates (given_of a (Ok ms) b) (Err stop) changed
    both (Ok vs) (Ok xs) q w = absurd w
    both (Ok vs) (Err e) q w = w
    both (Err e) b q w = absurd q

-- ---- one value alone

-- what is put where one value is given, at the port out
alone_put : (r : Rule) (s : Sight) (e : Expr) (n : Result Value RuleStop) → StandsAlone e r.gives r.sets → n ≡ number_by e s
    → put_by r.gives s no_values ≡ for_ok n (λ v. Ok (only v).values)
alone_put r s e n alone is =
    ap (λ (gs : List (ℕ × Expr)). put_by gs s no_values) alone.alone
    ∙ ap (λ (m : Result Value RuleStop). for_ok m (λ v. Ok (only v).values)) (sym is)

pub alone_given : (r : Rule) (s : Sight) (e : Expr) (v : Value) (ms : ℕ) → StandsAlone e r.gives r.sets → AlwaysWaits r.delay ms
    → (let n : Result Value RuleStop = Ok v in n ≡ number_by e s) → Evaluates (given_by r s) (Ok (only v, ms)) s.variables
alone_given r s e v ms alone waits is =
    made_well r s (only v) ms s.variables
    (values_given r.gives s (only v) (sym (alone_put r s e (Ok v) alone is)))
    (waits.delay s)
    (subst (λ (xs : List (ℕ × Expr)). SetsVariables {U = Unit {0}} (variables_after xs s) (Ok tt) s.variables) (sym alone.nothing) refl)

pub alone_stopped : (r : Rule) (s : Sight) (e : Expr) (stop : RuleStop) (changed : List Value) → StandsAlone e r.gives r.sets
    → (let n : Result Value RuleStop = Err stop in n ≡ number_by e s) → Evaluates (given_by r s) (Err stop) changed
alone_stopped r s e stop changed alone is =
    stopped_by_a_value r s stop changed (values_stopped r.gives s stop (alone_put r s e (Err stop) alone is))

-- its form needs no more room than the rule
pub alone_depth : (r : Rule) (e : Expr) → StandsAlone e r.gives r.sets → depth_of e ≤ rule_depth r
alone_depth r e alone = omega (arith, ap deepest alone.alone)
