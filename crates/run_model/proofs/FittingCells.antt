-- A cell keeps its number of ports and of variables.
use Rattle.std.proofs.Common.{◌≡◌, ℕ, zero, suc, ◌+◌, Bool, Option, Some, None, List, [], ◌∷◌, length, set, refl, ◌∙◌, ap}
use Rattle.std.specs.Prelude.{Result, Ok, Err, IfOk, ⊤}
use Rattle.std.proofs.lemmas.List.{length-map, length-set}
use Rattle.quantity.specs.declared.value.Value.{Value}
use Rattle.quantity.specs.declared.truth.Tri.{Tri}
use Rattle.quantity.specs.declared.truth.Tri.TheVariants.{True, False, Undef}
use Rattle.rule_tree.specs.declared.outcome.Answer.{Answer}
use Rattle.rule_tree.specs.declared.outcome.RuleStop.{RuleStop}
use Rattle.rule_tree.specs.Expression.{Expr, Rule}
use Rattle.rule_tree.specs.Meaning.{Sight, number_answered, truth_in, meaning}
use Rattle.quantity.specs.Written.{for_ok}
use Rattle.rule_tree.specs.Chosen.{Given, Chosen, delay_of, unless_overflow, values_of, variables_after, with_delay, rule_outcome, if_true, outcome_of_rules}
use Rattle.atomic_face.specs.Classes.{Bag}
use Rattle.quantity.specs.declared.delay.DelayKind.{DelayKind}
use Rattle.model_tree.specs.Tree.{Group}
use Rattle.run_model.specs.CellStep.{PortState, CellState, port_emitted, cell_emitted, port_took, took_at, took, and_took, cell_moved}
use Rattle.run_model.specs.Fitting.{HasNumbers}
use Rattle.run_model.proofs.CellKeeps.{cell_moved-keeps}

pub length-took_at : (port : ℕ) (f : PortState → PortState) (ps : List PortState) → length (took_at port f ps) ≡ length ps
length-took_at port f [] = refl
length-took_at zero f (p ∷ ps) = refl
length-took_at (suc port) f (p ∷ ps) = ap suc (length-took_at port f ps)

length-took : (kind : DelayKind) (at : ℕ) (gs : List (ℕ × Value)) (ps : List PortState) → length (took kind at gs ps) ≡ length ps
length-took kind at [] ps = refl
length-took kind at (g ∷ gs) ps = length-took kind at gs (took_at g.0 (port_took kind at g.1) ps) ∙ length-took_at g.0 (port_took kind at g.1) ps

-- ---- the variables after the chosen rule

unless_overflow-has : {B : Type 0} (P : B → Type 0) (o : Option Answer) (go : Answer → Result B RuleStop) → ((a : Answer) → IfOk (go a) P) → IfOk (unless_overflow o go) P
unless_overflow-has P None go goes = tt
unless_overflow-has P (Some a) go goes = goes a

after-has : {B C : Type 0} (Q : B → Type 0) (P : C → Type 0) (r : Result B RuleStop) (go : B → Result C RuleStop) → IfOk r Q → ((b : B) → Q b → IfOk (go b) P) → IfOk (for_ok r go) P
after-has Q P (Ok b) go h goes = goes b h
after-has Q P (Err why) go h goes = tt

any-ok : {B : Type 0} (r : Result B RuleStop) → IfOk r (λ b. ⊤)
any-ok (Ok b) = tt
any-ok (Err why) = tt

variables-as-many : (xs : List (ℕ × Expr)) (s : Sight) (n : ℕ) → length s.variables ≡ n → IfOk (variables_after xs s) (λ vs. length vs ≡ n)
variables-as-many [] s n h = h
variables-as-many (x ∷ xs) s n h =
    unless_overflow-has (λ vs. length vs ≡ n) (meaning x.1 s) (λ v. variables_after xs (record s { variables = set s.variables x.0 (number_answered v) }))
    (λ v. variables-as-many xs (record s { variables = set s.variables x.0 (number_answered v) }) n (length-set s.variables x.0 (number_answered v) ∙ h))

abbrev HasVariables : ℕ → Given → Type 0
HasVariables n given = length given.variables ≡ n

with_delay-has : (n : ℕ) (v : Value) (o : Option ℕ) (go : ℕ → Chosen) → ((ms : ℕ) → IfOk (go ms) (HasVariables n)) → IfOk (with_delay v o go) (HasVariables n)
with_delay-has n v None go goes = tt
with_delay-has n v (Some ms) go goes = goes ms

given-has : (r : Rule) (s : Sight) (n : ℕ) → length s.variables ≡ n → IfOk (rule_outcome r s) (HasVariables n)
given-has r s n h =
    after-has (λ vs. ⊤) (HasVariables n) (values_of r.gives s) _ (any-ok (values_of r.gives s)) (λ vs t.
    unless_overflow-has (HasVariables n) (meaning r.delay s) _ (λ d.
    with_delay-has n (number_answered d) (delay_of (number_answered d)) _ (λ ms.
    after-has (λ xs. length xs ≡ n) (HasVariables n) (variables_after r.sets s) _ (variables-as-many r.sets s n h) (λ xs k. k))))

if_true-has : (n : ℕ) (t : Tri) (now later : Chosen) → IfOk now (HasVariables n) → IfOk later (HasVariables n) → IfOk (if_true t now later) (HasVariables n)
if_true-has n True now later h k = h
if_true-has n False now later h k = k
if_true-has n Undef now later h k = k

chosen-has : (rules : List Rule) (s : Sight) (n : ℕ) → length s.variables ≡ n → IfOk (outcome_of_rules rules s) (HasVariables n)
chosen-has [] s n h = tt
chosen-has (r ∷ rs) s n h =
    unless_overflow-has (HasVariables n) (meaning r.condition s) (λ c. if_true (truth_in c) (rule_outcome r s) (outcome_of_rules rs s))
    (λ c. if_true-has n (truth_in c) (rule_outcome r s) (outcome_of_rules rs s) (given-has r s n h) (chosen-has rs s n h))

-- ---- a move

pub cell_emitted-has : (ports variables t : ℕ) (c : CellState) → HasNumbers ports variables c → HasNumbers ports variables (cell_emitted t c)
cell_emitted-has ports variables t c h = (length-map c.ports (port_emitted t) ∙ h.0, h.1)

pub cell_moved-has : (ports variables : ℕ) (g : Group) (cell t : ℕ) (woken : Bool) (s : Sight) (bag : Bag) (c : CellState) → HasNumbers ports variables c → IfOk (cell_moved g cell t woken s bag c) (HasNumbers ports variables)
cell_moved-has ports variables g cell t woken s bag c h =
    cell_moved-keeps g cell t (HasNumbers ports variables) (λ v. ⊤) (λ s. ⊤) (λ rules. ⊤) (λ s v see good. tt) (λ n. tt)
    (λ s rules d see r k. taken (outcome_of_rules rules (record s { variables = d.variables })) d k (chosen-has rules (record s { variables = d.variables }) variables k.1))
    (λ v d good k. (length-took g.settings.kind (t + g.settings.default_delay) ((0, v) ∷ []) d.ports ∙ k.0, k.1)) woken s bag c tt (λ k d lt. tt) h
  where
    taken : (r : Chosen) (d : CellState) → HasNumbers ports variables d → IfOk r (HasVariables variables) → IfOk (and_took g.settings.kind t d r) (HasNumbers ports variables)
    taken (Ok given) d k l = (length-took g.settings.kind (t + given.delay) given.values d.ports ∙ k.0, l)
    taken (Err why) d k l = tt
