-- A cell with bounded values keeps them bounded.
use Rattle.std.proofs.Common.{◌≡◌, ℕ, ◌+◌, ◌/◌, ◌%◌, Bool, true, false, Option, Some, None, List, [], ◌∷◌, set, refl, arith}
use Rattle.std.specs.Prelude.{Result, Ok, Err, IfOk, IfSome, if◌then◌else◌, nat_le, nat_lt, ◌==◌, ◌&&◌, pos, negsuc}
use Rattle.std.specs.List.{All, enumerate_from}
use Rattle.std.proofs.lemmas.List.Elements.{All-nil, All-cons, All-head, All-tail, All-set}
use Rattle.std.proofs.lemmas.Bool.Decides.{nat_tests}
use Rattle.quantity.specs.declared.value.Value.{Value}
use Rattle.quantity.specs.declared.value.Value.TheVariants.{Undefined, Num}
use Rattle.quantity.specs.declared.truth.Tri.{Tri}
use Rattle.quantity.specs.declared.truth.Tri.TheVariants.{True, False, Undef}
use Rattle.quantity.specs.Roots.{IsBounded}
use Rattle.quantity.specs.Arithmetic.{same_value}
use Rattle.quantity.specs.Delay.{put_pair, delay_list_after}
use Rattle.rule_tree.specs.declared.outcome.Answer.{Answer}
use Rattle.rule_tree.specs.declared.outcome.Answer.TheVariants.{Num as Number', Logic}
use Rattle.rule_tree.specs.declared.outcome.RuleStop.{RuleStop}
use Rattle.rule_tree.specs.Expression.{Expr, Rule}
use Rattle.rule_tree.specs.Meaning.{Sight, number_answered, truth_in, meaning}
use Rattle.quantity.specs.Written.{for_ok}
use Rattle.rule_tree.specs.Chosen.{Given, Chosen, delay_of, unless_overflow, values_of, variables_after, with_delay, rule_outcome, if_true, outcome_of_rules}
use Rattle.atomic_face.specs.Classes.{Bag, is_at}
use Rattle.atomic_face.specs.declared.class.PortNo.{PortNo}
use Rattle.quantity.specs.declared.delay.DelayKind.{DelayKind}
use Rattle.quantity.specs.declared.delay.DelayKind.TheVariants.{Transport, Inertial}
use Rattle.model_tree.specs.Tree.{Group}
use Rattle.run_model.specs.CellStep.{PortState, CellState, initial_port, initial_cell, first_time, next_of_ports, first_emitted, port_emitted, cell_emitted, port_output, cell_output, port_took, took, and_took, cell_moved}
use Rattle.quantity.specs.TimeBounds.{IsDelay, IsTime}
use Rattle.quantity.specs.Times.{earlier}
use Rattle.run_model.specs.Bounds.{IsBoundedPart, IsBoundedRule, IsBoundedGroup, IsBoundedPair, IsBoundedPort, IsBoundedCell}
use Rattle.run_model.proofs.CellKeeps.{took-keeps, cell_moved-keeps}
use Rattle.run_model.proofs.BoundedLists.{flat_map-each, enumerated-each, map-each}
use Rattle.run_model.proofs.BoundedMeaning.{IsBoundedAnswer, IsBoundedSight, at_or, meaning-is}

-- ---- the chosen rule

abbrev IsBoundedGive : ℕ × Value → Type 0
IsBoundedGive g = IsBounded g.1

pub record IsBoundedGiven (g : Given) : Type 0 where
  pub values : All IsBoundedGive g.values
  pub delay : IsDelay g.delay
  pub variables : All IsBounded g.variables

number-is : (a : Answer) → IsBoundedAnswer a → IsBounded (number_answered a)
number-is (Number' v) h = h
number-is (Logic t) h = tt

unless_overflow-is : {B : Type 0} (P : B → Type 0) (o : Option Answer) (go : Answer → Result B RuleStop) → IfSome o IsBoundedAnswer → ((a : Answer) → IsBounded (number_answered a) → IfOk (go a) P) → IfOk (unless_overflow o go) P
unless_overflow-is P None go h goes = tt
unless_overflow-is P (Some a) go h goes = goes a (number-is a h)

after-is : {B C : Type 0} (Q : B → Type 0) (P : C → Type 0) (r : Result B RuleStop) (go : B → Result C RuleStop) → IfOk r Q → ((b : B) → Q b → IfOk (go b) P) → IfOk (for_ok r go) P
after-is Q P (Ok b) go h goes = goes b h
after-is Q P (Err stop) go h goes = tt

values-are : (gs : List (ℕ × Expr)) (s : Sight) → All IsBoundedPart gs → IsBoundedSight s → IfOk (values_of gs s) (All IsBoundedGive)
values-are [] s h see = All-nil IsBoundedGive
values-are (g ∷ gs) s h see =
    unless_overflow-is (All IsBoundedGive) (meaning g.1 s) (λ v. for_ok (values_of gs s) (λ vs. Ok ((g.0, number_answered v) ∷ vs))) (meaning-is g.1 s (All-head IsBoundedPart g gs h) see)
    (λ v k. after-is (All IsBoundedGive) (All IsBoundedGive) (values_of gs s) (λ vs. Ok ((g.0, number_answered v) ∷ vs)) (values-are gs s (All-tail IsBoundedPart g gs h) see)
    (λ vs l. All-cons IsBoundedGive (g.0, number_answered v) vs k l))

with_variables : (s : Sight) (xs : List Value) → IsBoundedSight s → All IsBounded xs → IsBoundedSight (record s { variables = xs })
with_variables s xs see h = record { time = see.time; place = see.place; neighbours = see.neighbours; few = see.few; port = see.port; variables = h }

with_port : (s : Sight) (v : Value) → IsBoundedSight s → IsBounded v → IsBoundedSight (record s { port = v })
with_port s v see h = record { time = see.time; place = see.place; neighbours = see.neighbours; few = see.few; port = h; variables = see.variables }

variables-are : (xs : List (ℕ × Expr)) (s : Sight) → All IsBoundedPart xs → IsBoundedSight s → IfOk (variables_after xs s) (All IsBounded)
variables-are [] s h see = see.variables
variables-are (x ∷ xs) s h see =
    unless_overflow-is (All IsBounded) (meaning x.1 s) (λ v. variables_after xs (record s { variables = set s.variables x.0 (number_answered v) })) (meaning-is x.1 s (All-head IsBoundedPart x xs h) see)
    (λ v k. variables-are xs (record s { variables = set s.variables x.0 (number_answered v) }) (All-tail IsBoundedPart x xs h)
    (with_variables s (set s.variables x.0 (number_answered v)) see (All-set IsBounded s.variables x.0 (number_answered v) k see.variables)))

delay-is : (v : Value) → IfSome (delay_of v) IsDelay
delay-is Undefined = tt
delay-is (Num (pos n)) = test (n % 100000 == 0) (nat_le (n / 100000) 359999999) refl
  where
    test : (b d : Bool) → nat_le (n / 100000) 359999999 ≡ d → IfSome (if b && d then Some (n / 100000) else None) IsDelay
    test true true e = grind (arith, nat_tests)
    test true false e = tt
    test false d e = tt
delay-is (Num (negsuc n)) = tt

with_delay-is : (v : Value) (o : Option ℕ) (go : ℕ → Chosen) → IfSome o IsDelay → ((ms : ℕ) → IsDelay ms → IfOk (go ms) IsBoundedGiven) → IfOk (with_delay v o go) IsBoundedGiven
with_delay-is v None go h goes = tt
with_delay-is v (Some ms) go h goes = goes ms h

given-is : (r : Rule) (s : Sight) → IsBoundedRule r → IsBoundedSight s → IfOk (rule_outcome r s) IsBoundedGiven
given-is r s h see =
    after-is (All IsBoundedGive) IsBoundedGiven (values_of r.gives s) _ (values-are r.gives s h.gives see) (λ vs values.
    unless_overflow-is IsBoundedGiven (meaning r.delay s) _ (meaning-is r.delay s h.delay see) (λ d bound.
    with_delay-is (number_answered d) (delay_of (number_answered d)) _ (delay-is (number_answered d)) (λ ms delay.
    after-is (All IsBounded) IsBoundedGiven (variables_after r.sets s) _ (variables-are r.sets s h.sets see) (λ xs variables.
    record { values = values; delay = delay; variables = variables }))))

if_true-is : (t : Tri) (now later : Chosen) → IfOk now IsBoundedGiven → IfOk later IsBoundedGiven → IfOk (if_true t now later) IsBoundedGiven
if_true-is True now later h k = h
if_true-is False now later h k = k
if_true-is Undef now later h k = k

chosen-is : (rules : List Rule) (s : Sight) → All IsBoundedRule rules → IsBoundedSight s → IfOk (outcome_of_rules rules s) IsBoundedGiven
chosen-is [] s h see = tt
chosen-is (r ∷ rs) s h see = conditioned (meaning r.condition s) (given-is r s (All-head IsBoundedRule r rs h) see) (chosen-is rs s (All-tail IsBoundedRule r rs h) see)
  where
    conditioned : (o : Option Answer) → IfOk (rule_outcome r s) IsBoundedGiven → IfOk (outcome_of_rules rs s) IsBoundedGiven → IfOk (unless_overflow o (λ c. if_true (truth_in c) (rule_outcome r s) (outcome_of_rules rs s))) IsBoundedGiven
    conditioned None now later = tt
    conditioned (Some c) now later = if_true-is (truth_in c) (rule_outcome r s) (outcome_of_rules rs s) now later

-- ---- delay lists

put-bounded : (at : ℕ) (v : Value) (ps : List (ℕ × Value)) → IsTime at → IsBounded v → All IsBoundedPair ps → All IsBoundedPair (put_pair at v ps)
put-bounded at v [] le b h = All-cons IsBoundedPair (at, v) [] (le, b) (All-nil IsBoundedPair)
put-bounded at v (p ∷ ps) le b h = test (nat_lt p.0 at) (p.0 == at) (put-bounded at v ps le b (All-tail IsBoundedPair p ps h))
  where
    test : (c d : Bool) → All IsBoundedPair (put_pair at v ps) → All IsBoundedPair (if c then p ∷ put_pair at v ps else if d then (at, v) ∷ ps else (at, v) ∷ p ∷ ps)
    test true d rest = All-cons IsBoundedPair p (put_pair at v ps) (All-head IsBoundedPair p ps h) rest
    test false true rest = All-cons IsBoundedPair (at, v) ps (le, b) (All-tail IsBoundedPair p ps h)
    test false false rest = All-cons IsBoundedPair (at, v) (p ∷ ps) (le, b) h

delayed-bounded : (kind : DelayKind) (at : ℕ) (v : Value) (ps : List (ℕ × Value)) → IsTime at → IsBounded v → All IsBoundedPair ps → All IsBoundedPair (delay_list_after kind ps at v)
delayed-bounded Transport at v ps le b h = put-bounded at v ps le b h
delayed-bounded Inertial at v ps le b h = All-cons IsBoundedPair (at, v) [] (le, b) (All-nil IsBoundedPair)

port_took-bounded : (kind : DelayKind) (at : ℕ) (v : Value) (p : PortState) → IsTime at → IsBounded v → IsBoundedPort p → IsBoundedPort (port_took kind at v p)
port_took-bounded kind at v p le b h = test (same_value v p.computed)
  where
    test : (c : Bool) → IsBoundedPort (if c then p else record p { computed = v; pairs = delay_list_after kind p.pairs at v })
    test true = h
    test false = record { emitted = h.emitted; computed = b; pairs = delayed-bounded kind at v p.pairs le b h.pairs }

took-bounded : (kind : DelayKind) (at : ℕ) (gs : List (ℕ × Value)) (ps : List PortState) → IsTime at → All IsBoundedGive gs → All IsBoundedPort ps → All IsBoundedPort (took kind at gs ps)
took-bounded kind at gs ps le good h = took-keeps IsBoundedPort IsBounded kind at (λ v p. port_took-bounded kind at v p le) gs ps good h

-- ---- emission

port_emitted-bounded : (t : ℕ) (p : PortState) → IsBoundedPort p → IsBoundedPort (port_emitted t p)
port_emitted-bounded t p h = test (is_at t (first_time p.pairs))
  where
    first : (ps : List (ℕ × Value)) → All IsBoundedPair ps → IsBoundedPort (first_emitted p.computed ps)
    first [] k = record { emitted = tt; computed = h.computed; pairs = All-nil IsBoundedPair }
    first (q ∷ ps) k = record { emitted = (All-head IsBoundedPair q ps k).1; computed = h.computed; pairs = All-tail IsBoundedPair q ps k }

    test : (b : Bool) → IsBoundedPort (if b then first_emitted p.computed p.pairs else p)
    test true = first p.pairs h.pairs
    test false = h

pub cell_emitted-bounded : (t : ℕ) (c : CellState) → IsBoundedCell c → IsBoundedCell (cell_emitted t c)
cell_emitted-bounded t c h = record { ports = map-each IsBoundedPort (port_emitted t) IsBoundedPort (port_emitted-bounded t) c.ports h.ports; variables = h.variables }

abbrev pub IsBoundedInput : PortNo × Value → Type 0
IsBoundedInput i = IsBounded i.1

pub cell_output-bounded : (t : ℕ) (c : CellState) → IsBoundedCell c → All IsBoundedInput (cell_output t c)
cell_output-bounded t c h =
    flat_map-each IsBoundedInput (port_output t) (λ (p : ℕ × PortState). IsBoundedPort p.1) given (enumerate_from 0 c.ports) (enumerated-each IsBoundedPort 0 c.ports h.ports)
  where
    given : (p : ℕ × PortState) → IsBoundedPort p.1 → All IsBoundedInput (port_output t p)
    given p k = test (is_at t (first_time p.1.pairs))
      where
        test : (b : Bool) → All IsBoundedInput (if b then (record { 0 = p.0 }, (port_emitted t p.1).emitted) ∷ [] else [])
        test true = All-cons IsBoundedInput _ [] (port_emitted-bounded t p.1 k).emitted (All-nil IsBoundedInput)
        test false = All-nil IsBoundedInput

-- ---- a move

pub cell_moved-bounded : (g : Group) (cell t : ℕ) (woken : Bool) (s : Sight) (bag : Bag) (c : CellState) → IsBoundedGroup g → IsDelay t → IsBoundedSight s → All IsBoundedInput bag → IsBoundedCell c → IfOk (cell_moved g cell t woken s bag c) IsBoundedCell
cell_moved-bounded g cell t woken s bag c group time see good h =
    cell_moved-keeps g cell t IsBoundedCell IsBounded IsBoundedSight (All IsBoundedRule) with_port
    (λ n. at_or (All IsBoundedRule) g.rule_sets n [] (All-nil IsBoundedRule) group.rules)
    (λ s rules d see r k. taken (outcome_of_rules rules (record s { variables = d.variables })) d k (chosen-is rules (record s { variables = d.variables }) r (with_variables s d.variables see k.variables)))
    (λ v d b k. record {
      ports = took-bounded g.settings.kind (t + g.settings.default_delay) ((0, v) ∷ []) d.ports (omega (arith, group.default_delay)) (All-cons IsBoundedGive (0, v) [] b (All-nil IsBoundedGive)) k.ports;
      variables = k.variables;
    })
    woken s bag c see good h
  where
    taken : (r : Chosen) (d : CellState) → IsBoundedCell d → IfOk r IsBoundedGiven → IfOk (and_took g.settings.kind t d r) IsBoundedCell
    taken (Ok given) d k l = record { ports = took-bounded g.settings.kind (t + given.delay) given.values d.ports (omega (arith, l.delay)) l.values k.ports; variables = l.variables }
    taken (Err stop) d k l = tt

-- ---- the start, and next times

pub initial_cell-bounded : (g : Group) (v : Value) → IsBoundedGroup g → IsBounded v → IsBoundedCell (initial_cell g v)
initial_cell-bounded g v group h = record {
  ports = map-each IsBoundedPort initial_port IsBounded port (v ∷ g.port_values) (All-cons IsBounded v g.port_values h group.port_values);
  variables = group.variable_values;
}
  where
    port : (w : Value) → IsBounded w → IsBoundedPort (initial_port w)
    port w k = record { emitted = tt; computed = k; pairs = All-cons IsBoundedPair (0, w) [] (omega arith, k) (All-nil IsBoundedPair) }

pub least-bounded : (a b : Option ℕ) → IfSome a IsTime → IfSome b IsTime → IfSome (earlier a b) IsTime
least-bounded None b h k = k
least-bounded (Some m) None h k = h
least-bounded (Some m) (Some n) h k = omega (arith, h, k)

pub next-bounded : (ps : List PortState) → All IsBoundedPort ps → IfSome (next_of_ports ps) IsTime
next-bounded [] h = tt
next-bounded (p ∷ ps) h = least-bounded (first_time p.pairs) (next_of_ports ps) (first p.pairs (All-head IsBoundedPort p ps h).pairs) (next-bounded ps (All-tail IsBoundedPort p ps h))
  where
    first : (qs : List (ℕ × Value)) → All IsBoundedPair qs → IfSome (first_time qs) IsTime
    first [] k = tt
    first (q ∷ qs) k = (All-head IsBoundedPair q qs k).0
