-- What a rule gives, by its values put at their ports one after another.
use Rattle.std.proofs.Common.{◌≡◌, ◌<◌, arith, ℕ, zero, suc, Bool, true, false, Option, Some, None, Ok, Err, List, [], ◌∷◌, set, refl, sym, ap, subst, ◌∙◌}
use Rattle.std.proofs.lemmas.Bool.{ne_eqb}
use Rattle.std.specs.Prelude.{◌==◌, if◌then◌else◌}
use Rattle.std.specs.declared.result.Result.{Result}
use Rattle.quantity.specs.declared.value.Value.{Value}
use Rattle.rule_tree.specs.declared.outcome.Answer.{Answer}
use Rattle.rule_tree.specs.declared.outcome.RuleStop.{RuleStop}
use Rattle.rule_tree.specs.Expression.{Expr, Rule}
use Rattle.rule_tree.specs.Meaning.{Sight, number_answered, meaning}
use Rattle.rule_tree.specs.Chosen as rules
use Rattle.quantity.specs.Written.{for_ok}
use Rattle.rule_tree.specs.Chosen.{Chosen, unless_overflow, with_delay, delay_of, values_of, variables_after}
use Rattle.rule_tree.specs.Ports.{or_earlier, given_at, by_port}
use Rattle.rule_forms.specs.declared.given.Given.{Given}
use Rattle.rule_forms.specs.Stops.{number_or_stop, delay_or_stop, delay_in, delay_by}
use Rattle.rule_forms.specs.ByPort.{Evaluates}
use Rattle.rule_forms.specs.Puts.{no_values, put_by}

-- values put one after another at the places of their ports
abbrev pub put_all : List (ℕ × Value) → List (Option Value) → List (Option Value)
put_all [] values = values
put_all (g ∷ gs) values = put_all gs (set values g.0 (Some g.1))

-- what stands at a place after a put
abbrev put_at : ℕ → Value → ℕ → Option Value → Option Value
put_at p v k before = if p == k then Some v else before

elsewhere : (p : ℕ) (v : Value) (k : ℕ) (before : Option Value) → k < p → before ≡ put_at p v k before
elsewhere p v k before h = sym (ap (λ (b : Bool). if b then Some v else before) (ne_eqb p k (λ e. omega arith)))

four_places : (p : ℕ) (v : Value) (a b c d : Option Value) → set (a ∷ b ∷ c ∷ d ∷ []) p (Some v) ≡ put_at p v 0 a ∷ put_at p v 1 b ∷ put_at p v 2 c ∷ put_at p v 3 d ∷ []
four_places zero v a b c d = refl
four_places (suc zero) v a b c d = refl
four_places (suc (suc zero)) v a b c d = refl
four_places (suc (suc (suc zero))) v a b c d = refl
four_places (suc (suc (suc (suc p)))) v a b c d =
    let q = suc (suc (suc (suc p))) in
    λ t. elsewhere q v 0 a (omega arith) t ∷ elsewhere q v 1 b (omega arith) t ∷ elsewhere q v 2 c (omega arith) t ∷ elsewhere q v 3 d (omega arith) t ∷ []

put_before : (given : Option Value) (p : ℕ) (v : Value) (k : ℕ) (before : Option Value) → or_earlier given (put_at p v k before) ≡ or_earlier (or_earlier given (if p == k then Some v else None)) before
put_before (Some w) p v k before = refl
put_before None p v k before = at (p == k)
  where
    at : (b : Bool) → (if b then Some v else before) ≡ or_earlier (if b then Some v else None) before
    at true = refl
    at false = refl

puts_are : (gs : List (ℕ × Value)) (a b c d : Option Value)
    → put_all gs (a ∷ b ∷ c ∷ d ∷ []) ≡ or_earlier (given_at gs 0) a ∷ or_earlier (given_at gs 1) b ∷ or_earlier (given_at gs 2) c ∷ or_earlier (given_at gs 3) d ∷ []
puts_are [] a b c d = refl
puts_are (g ∷ gs) a b c d =
    ap (put_all gs) (four_places g.0 g.1 a b c d) ∙ puts_are gs (put_at g.0 g.1 0 a) (put_at g.0 g.1 1 b) (put_at g.0 g.1 2 c) (put_at g.0 g.1 3 d)
    ∙ (λ t. put_before (given_at gs 0) g.0 g.1 0 a t ∷ put_before (given_at gs 1) g.0 g.1 1 b t ∷ put_before (given_at gs 2) g.0 g.1 2 c t ∷ put_before (given_at gs 3) g.0 g.1 3 d t ∷ [])

or_nothing : (given : Option Value) → or_earlier given None ≡ given
or_nothing None = refl
or_nothing (Some v) = refl

-- putting all values at the places of their ports gives what each port is given
pub by_port_is : (gs : List (ℕ × Value)) → put_all gs no_values ≡ by_port gs
by_port_is gs =
    puts_are gs None None None None
    ∙ (λ t. or_nothing (given_at gs 0) t ∷ or_nothing (given_at gs 1) t ∷ or_nothing (given_at gs 2) t ∷ or_nothing (given_at gs 3) t ∷ [])

abbrev pub put_in : List (Option Value) → Result (List (ℕ × Value)) RuleStop → Result (List (Option Value)) RuleStop
put_in values (Ok vs) = Ok (put_all vs values)
put_in values (Err stop) = Err stop

one_more_value : (p : ℕ) (v : Value) (rest : Result (List (ℕ × Value)) RuleStop) (values : List (Option Value)) → put_in (set values p (Some v)) rest ≡ put_in values (for_ok rest (λ vs. Ok ((p, v) ∷ vs)))
one_more_value p v (Ok vs) values = refl
one_more_value p v (Err stop) values = refl

-- the values that are put are those that the rule gives
pub values_are : (gs : List (ℕ × Expr)) (s : Sight) (values : List (Option Value)) → put_by gs s values ≡ put_in values (values_of gs s)
values_are [] s values = refl
values_are (g ∷ gs) s values = at (meaning g.1 s) (λ v. values_are gs s (set values g.0 (Some v)))
  where
    at : (o : Option Answer) → ((v : Value) → put_by gs s (set values g.0 (Some v)) ≡ put_in (set values g.0 (Some v)) (values_of gs s))
        → for_ok (number_or_stop o) (λ v. put_by gs s (set values g.0 (Some v))) ≡ put_in values (unless_overflow o (λ a. for_ok (values_of gs s) (λ vs. Ok ((g.0, number_answered a) ∷ vs))))
    at None rest = refl
    at (Some a) rest = rest (number_answered a) ∙ one_more_value g.0 (number_answered a) (values_of gs s) values

-- ---- the parts of what a rule gives

abbrev pub given_of : Result (List (ℕ × Value)) RuleStop → Result ℕ RuleStop → Result (List Value) RuleStop → Chosen
given_of values delay variables =
    for_ok values (λ vs. for_ok delay (λ ms. for_ok variables (λ xs. Ok (record { values = vs; delay = ms; variables = xs }))))

parts_are : (values : Result (List (ℕ × Value)) RuleStop) (o : Option Answer) (variables : Result (List Value) RuleStop)
    → (let whole : Chosen = for_ok values (λ vs. unless_overflow o (λ d. with_delay (number_answered d) (delay_of (number_answered d)) (λ ms. for_ok variables (λ xs. Ok (record { values = vs; delay = ms; variables = xs }))))) in
    whole ≡ given_of values (for_ok (number_or_stop o) delay_in) variables)
parts_are (Err stop) o variables = refl
parts_are (Ok vs) None variables = refl
parts_are (Ok vs) (Some d) variables = at (delay_of (number_answered d)) variables
  where
    at : (ms : Option ℕ) (b : Result (List Value) RuleStop)
        → (let whole : Chosen = with_delay (number_answered d) ms (λ n. for_ok b (λ xs. Ok (record { values = vs; delay = n; variables = xs }))) in
        whole ≡ given_of (Ok vs) (delay_or_stop (number_answered d) ms) b)
    at None b = refl
    at (Some n) b = refl

-- what a rule gives, part by part
pub given_is : (r : Rule) (s : Sight) → rules.rule_outcome r s ≡ given_of (values_of r.gives s) (delay_by r.delay s) (variables_after r.sets s)
given_is r s = parts_are (values_of r.gives s) (meaning r.delay s) (variables_after r.sets s)

-- ---- what it gives whatever a cell sees

abbrev values_or_none : Result (List (Option Value)) RuleStop → List (Option Value)
values_or_none (Ok values) = values
values_or_none (Err stop) = []

with_values : (a : Result (List (ℕ × Value)) RuleStop) (given : Given) (ms : ℕ) (variables : List Value) → put_in no_values a ≡ Ok given.values
    → Evaluates (given_of a (Ok ms) (Ok variables)) (Ok (given, ms)) variables
with_values (Ok vs) given ms variables is =
    record { values = sym (ap values_or_none is) ∙ by_port_is vs; delay = refl; variables = refl }
with_values (Err stop) given ms variables is = absurd cc

pub always_gives : (r : Rule) (s : Sight) (given : Given) (ms : ℕ)
    → put_by r.gives s no_values ≡ Ok given.values → delay_by r.delay s ≡ Ok ms → variables_after r.sets s ≡ Ok s.variables
    → Evaluates (rules.rule_outcome r s) (Ok (given, ms)) s.variables
always_gives r s given ms values_is delay_is sets_is =
    let a = values_of r.gives s in
    let P : Chosen → Type 0 = λ o. Evaluates o (Ok (given, ms)) s.variables in
    let parts = given_is r s ∙ ap (λ (d : Result ℕ RuleStop). given_of a d (variables_after r.sets s)) delay_is ∙ ap (λ (xs : Result (List Value) RuleStop). given_of a (Ok ms) xs) sets_is in
    subst P (sym parts) (with_values a given ms s.variables (sym (values_are r.gives s no_values) ∙ values_is))
