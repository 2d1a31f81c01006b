-- What rules give that name different ports, and what a cell takes of it.
use Rattle.std.proofs.Common.{◌≡◌, ℕ, ◌+◌, ◌/◌, ◌%◌, ◌≤◌, Bool, true, false, Option, Some, None, Ok, Err, List, [], ◌∷◌, map, set, refl, sym, ◌∙◌, ap, subst, arith, pos, negsuc}
use Rattle.std.specs.Prelude.{◌&&◌, ◌==◌, nat_le, IfSome, if◌then◌else◌}
use Rattle.std.specs.List.{list_all}
use Rattle.std.specs.declared.result.Result.{Result}
use Rattle.std.proofs.lemmas.Bool.{and_parts}
use Rattle.std.proofs.lemmas.Bool.Decides.{nat_tests}
use Rattle.quantity.specs.declared.delay.DelayKind.{DelayKind}
use Rattle.quantity.specs.declared.truth.Tri.{Tri}
use Rattle.quantity.specs.declared.truth.Tri.TheVariants.{True, False, Undef}
use Rattle.quantity.specs.declared.value.Value.{Value}
use Rattle.quantity.specs.declared.value.Value.TheVariants.{Undefined, Num}
use Rattle.rule_tree.specs.declared.outcome.Answer.{Answer}
use Rattle.rule_tree.specs.declared.outcome.RuleStop.{RuleStop}
use Rattle.rule_tree.specs.Expression.{Expr, Rule}
use Rattle.rule_tree.specs.Meaning.{Sight, number_answered, truth_in, meaning}
use Rattle.rule_tree.specs.Scope.{differ}
use Rattle.quantity.specs.Written.{for_ok}
use Rattle.rule_tree.specs.Chosen.{Chosen, unless_overflow, with_delay, delay_of, if_true, values_of, variables_after, rule_outcome, outcome_of_rules}
use Rattle.rule_forms.specs.declared.given.Given.{Given}
use Rattle.rule_forms.specs.ByPort.{Evaluates}
use Rattle.run_model.specs.CellStep.{CellState, took, and_took}
use Rattle.run_model.specs.declared.stop.LeafStop.{LeafStop}
use Rattle.run_model.specs.declared.stop.LeafStop.TheVariants as leaf
use Rattle.cell_engine.specs.Cells.{Computes}
use Rattle.cell_engine.specs.Step.{AreGiven, gives_apart}

at_most : (a b : ℕ) → nat_le a b ≡ true → a ≤ b
at_most a b h = grind (arith, nat_tests)

-- ---- what is given has the ports of the gives

abbrev HasPorts : List ℕ → Result (List (ℕ × Value)) RuleStop → Type 0
HasPorts ports (Ok vs) = map (λ (v : ℕ × Value). v.0) vs ≡ ports
HasPorts ports (Err stop) = Unit {0}

abbrev ports_of : List (ℕ × Expr) → List ℕ
ports_of gs = map (λ (g : ℕ × Expr). g.0) gs

one_more : (p : ℕ) (v : Value) (ports : List ℕ) (rest : Result (List (ℕ × Value)) RuleStop) → HasPorts ports rest → HasPorts (p ∷ ports) (for_ok rest (λ vs. Ok ((p, v) ∷ vs)))
one_more p v ports (Ok vs) h = ap (λ ps. p ∷ ps) h
one_more p v ports (Err stop) h = tt

has_ports : (gs : List (ℕ × Expr)) (s : Sight) → HasPorts (ports_of gs) (values_of gs s)
has_ports [] s = refl
has_ports (g ∷ gs) s = at (meaning g.1 s) (has_ports gs s)
  where
    at : (o : Option Answer) → HasPorts (ports_of gs) (values_of gs s) → HasPorts (g.0 ∷ ports_of gs) (unless_overflow o (λ v. for_ok (values_of gs s) (λ vs. Ok ((g.0, number_answered v) ∷ vs))))
    at None h = tt
    at (Some v) h = one_more g.0 (number_answered v) (ports_of gs) (values_of gs s) h

-- ---- a delay is no longer than a delay may be

few : (v : Value) → IfSome (delay_of v) (λ ms. ms ≤ 359999999)
few Undefined = tt
few (Num (pos n)) = at (n % 100000 == 0) (nat_le (n / 100000) 359999999) refl
  where
    at : (a b : Bool) → nat_le (n / 100000) 359999999 ≡ b → IfSome (if a && b then Some (n / 100000) else None) (λ ms. ms ≤ 359999999)
    at true true e = at_most (n / 100000) 359999999 e
    at true false e = tt
    at false b e = tt
few (Num (negsuc n)) = tt

-- ---- what is chosen

abbrev pub IsRight : Chosen → Type 0
IsRight (Ok g) = (differ (map (λ (v : ℕ × Value). v.0) g.values) ≡ true) × (g.delay ≤ 359999999)
IsRight (Err stop) = Unit {0}

right_given : (values : Result (List (ℕ × Value)) RuleStop) (o : Option Answer) (variables : Result (List Value) RuleStop) (ports : List ℕ) → differ ports ≡ true → HasPorts ports values
    → IsRight (for_ok values (λ vs. unless_overflow o (λ d. with_delay (number_answered d) (delay_of (number_answered d)) (λ ms. for_ok variables (λ xs. Ok (record { values = vs; delay = ms; variables = xs }))))))
right_given (Err stop) o variables ports d h = tt
right_given (Ok vs) None variables ports d h = tt
right_given (Ok vs) (Some a) variables ports d h = at (delay_of (number_answered a)) (few (number_answered a)) variables
  where
    at : (ms : Option ℕ) → IfSome ms (λ n. n ≤ 359999999) → (b : Result (List Value) RuleStop)
        → IsRight (with_delay (number_answered a) ms (λ n. for_ok b (λ xs. Ok (record { values = vs; delay = n; variables = xs }))))
    at None f b = tt
    at (Some n) f (Ok xs) = (ap differ h ∙ d, f)
    at (Some n) f (Err stop) = tt

pub right_choice : (rs : List Rule) (s : Sight) → list_all gives_apart rs ≡ true → IsRight (outcome_of_rules rs s)
right_choice [] s h = tt
right_choice (r ∷ rs) s h =
    let both = and_parts (gives_apart r) (list_all gives_apart rs) h in
    at (meaning r.condition s) (right_given (values_of r.gives s) (meaning r.delay s) (variables_after r.sets s) (ports_of r.gives) both.0 (has_ports r.gives s)) (right_choice rs s both.1)
  where
    by_truth : (t : Tri) → IsRight (rule_outcome r s) → IsRight (outcome_of_rules rs s) → IsRight (if_true t (rule_outcome r s) (outcome_of_rules rs s))
    by_truth True now later = now
    by_truth False now later = later
    by_truth Undef now later = later

    at : (o : Option Answer) → IsRight (rule_outcome r s) → IsRight (outcome_of_rules rs s) → IsRight (unless_overflow o (λ c. if_true (truth_in c) (rule_outcome r s) (outcome_of_rules rs s)))
    at None now later = tt
    at (Some c) now later = by_truth (truth_in c) now later

-- ---- what a cell takes of it

-- what evaluation gave is taken
pub takes : (U : Type 0) (i : ℕ) (old new : List CellState) (kind : DelayKind) (t at : ℕ) (c : CellState) (ch : Chosen) (made : Given × ℕ) (changed : List Value) (u : U) → IsRight ch
    → (let r : Result (Given × ℕ) RuleStop = Ok made in Evaluates ch r changed) → (made.1 ≤ 359999999 → at ≡ t + made.1)
    → ((gs : List (ℕ × Value)) → AreGiven gs made.0.values → new ≡ set old i (record { ports = took kind at gs c.ports; variables = changed }))
    → (let r : Result U LeafStop = Ok u in Computes i old new (and_took kind t c ch) r)
takes U i old new kind t at c (Ok g) made changed u right is later took_is =
    let when : at ≡ t + g.delay = later (subst (λ (n : ℕ). n ≤ 359999999) (sym is.delay) right.1) ∙ ap (λ n. t + n) is.delay in
    took_is g.values (record { values_are = is.values; apart = right.0 })
    ∙ (λ k. set old i (record { ports = took kind (when k) g.values c.ports; variables = is.variables k }))
takes U i old new kind t at c (Err why) made changed u right is later took_is = absurd is

-- where evaluation stops, the step stops so
pub stops : (U : Type 0) (i : ℕ) (old new : List CellState) (kind : DelayKind) (t : ℕ) (c : CellState) (ch : Chosen) (stop : RuleStop) (changed : List Value)
    → (let r : Result (Given × ℕ) RuleStop = Err stop in Evaluates ch r changed) → (let r : Result U LeafStop = Err (leaf.Rule stop) in Computes i old new (and_took kind t c ch) r)
stops U i old new kind t c (Ok g) stop changed is = absurd is
stops U i old new kind t c (Err why) stop changed is = is

-- a value that is given alone, at out
pub alone : (v : Value) → AreGiven ((0, v) ∷ []) (Some v ∷ None ∷ None ∷ None ∷ [])
alone v = record { values_are = refl; apart = refl }
