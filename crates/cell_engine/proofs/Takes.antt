-- What changes of a table where a cell takes what is given to it.
use Rattle.std.proofs.Common.{◌≡◌, ℕ, ◌+◌, ◌<◌, ◌≤◌, Bool, true, Option, Some, None, List, [], ◌∷◌, length, get_or, set, refl, sym, ◌∙◌, ap, subst, arith, Ok, Err}
use Rattle.std.specs.Prelude.{IfSome, OnOk, OnErr}
use Rattle.std.specs.List.{All, find, list_all}
use Rattle.std.specs.Option.{option_map}
use Rattle.std.specs.declared.result.Result.{Result}
use Rattle.quantity.specs.declared.delay.DelayKind.{DelayKind}
use Rattle.quantity.specs.declared.value.Value.{Value}
use Rattle.rule_tree.specs.declared.outcome.RuleStop.{RuleStop}
use Rattle.rule_tree.specs.Ports.{changed_at, taken_by_port}
use Rattle.rule_tree.specs.Expression.{Rule}
use Rattle.rule_tree.specs.Meaning.{Sight}
use Rattle.rule_tree.specs.Chosen.{Chosen, outcome_of_rules}
use Rattle.rule_forms.specs.Depth.{rule_depth}
use Rattle.rule_forms.specs.declared.given.Given.{Given}
use Rattle.rule_forms.specs.declared.known.Constant.{Constant}
use Rattle.rule_forms.specs.ByPort.{Evaluates}
use Rattle.rule_eval.specs.Evaluated.{Meant, IsFound}
use Rattle.rule_eval.specs.declared.lent.Lent.{Lent}
use Rattle.rule_eval.specs.declared.lent.Lent.TheVariants.{Known, Alone, Placed}
use Rattle.model_tree.specs.declared.group.CellSettings.{CellSettings}
use Rattle.model_tree.specs.Tree.{Word, Group}
use Rattle.run_model.specs.CellStep.{CellState, port_took, took, and_took, rule_set, cell_rules, port_rules, by_port_rules}
use Rattle.cell_table.specs.Told.{no_cell, cell_at, OnlyCell}
use Rattle.cell_table.specs.Table.{Table, IsTable, HasShape, changed_cell, changed_ports, with_variables}
use Rattle.cell_table.proofs.Changes.{changed-alike, changed-twice, changed-set, length-changed}
use Rattle.cell_table.proofs.Taking.{only_changed, only_after}
use Rattle.run_model.specs.declared.stop.LeafStop.{LeafStop}
use Rattle.run_model.specs.declared.stop.LeafStop.TheVariants as leaf
use Rattle.run_model.specs.declared.stop.LeafStop.TheVariants.{Memory}
use Rattle.cell_engine.specs.Layout.{Layout, StandsFor}
use Rattle.cell_engine.specs.Cells.{Computes}
use Rattle.cell_engine.specs.Known.{IsConstant}
use Rattle.cell_engine.specs.Step.{AreGiven, gives_apart, given_found, is_for, step_by_rules, variables_found, woken_at}
use Rattle.cell_engine.proofs.Took.{took_by_port}
use Rattle.cell_engine.proofs.Computing.{free}
use Rattle.cell_engine.proofs.Choosing.{IsRight, right_choice, takes, stops}
use Rattle.cell_engine.proofs.Ruling.{number_of, port_rules_are}

-- values that are taken port by port are taken in their order
pub in_order : (U E : Type 0) (r : Result U E) (kind : DelayKind) (at i : ℕ) (gs : List (ℕ × Value)) (values : List (Option Value)) (t u : Table) → IsTable t → i < length t.cells → AreGiven gs values
    → OnOk r (u ≡ changed_cell i (changed_ports (taken_by_port (port_took kind at) values)) t) → OnOk r (u ≡ changed_cell i (changed_ports (took kind at gs)) t)
in_order U E (Ok x) kind at i gs values t u is here given h =
    let c = cell_at t.cells i in
    let few : length c.ports ≤ 4 = omega (arith, (is.numbers i no_cell here).0, is.width) in
    let ports : taken_by_port (port_took kind at) values c.ports ≡ took kind at gs c.ports = ap (λ vs. taken_by_port (port_took kind at) vs c.ports) given.values_are ∙ sym (took_by_port kind at gs c.ports given.apart few) in
    let cells = changed-alike i (changed_ports (taken_by_port (port_took kind at) values)) (changed_ports (took kind at gs)) no_cell t.cells (λ k. record c { ports = ports k }) in
    h ∙ (λ k. record t { cells = cells k })
in_order U E (Err e) kind at i gs values t u is here given h = tt

-- two changes of one cell
pub two_changes : (i : ℕ) (f g : CellState → CellState) (t u w : Table) → u ≡ changed_cell i f t → w ≡ changed_cell i g u → w.cells ≡ set t.cells i (g (f (cell_at t.cells i)))
two_changes i f g t u w first second =
    ap (λ (x : Table). x.cells) second ∙ ap (λ (x : Table). changed_at i g x.cells) first
    ∙ changed-twice i g f t.cells ∙ changed-set i (λ c. g (f c)) no_cell t.cells

-- what is taken changes the ports of one cell
pub ports_only : (i : ℕ) (kind : DelayKind) (at : ℕ) (gs : List (ℕ × Value)) (t u : Table)
    → u ≡ changed_cell i (changed_ports (took kind at gs)) t
    → u.cells
    ≡ set t.cells i (record {
      ports = took kind at gs (cell_at t.cells i).ports;
      variables = (cell_at t.cells i).variables;
    })
ports_only i kind at gs t u is =
    ap (λ (x : Table). x.cells) is
    ∙ changed-set i (changed_ports (took kind at gs)) no_cell t.cells

-- variables that are set leave all else
pub only_variables : (i : ℕ) (vs : List Value) (t u w : Table) → i < length t.cells → OnlyCell i t.cells u.cells → HasShape t u → w ≡ changed_cell i (with_variables vs) u → OnlyCell i t.cells w.cells
only_variables i vs t u w here only shape is =
    let inside : i < length u.cells = omega (arith, here, shape.cells) in
    let P : Table → Type 0 = λ x. OnlyCell i u.cells x.cells in
    only_after i t.cells u.cells w.cells here only (subst P (sym is) (only_changed i (with_variables vs) u.cells inside refl))

pub shape_variables : (i : ℕ) (vs : List Value) (t u w : Table) → HasShape t u → w ≡ changed_cell i (with_variables vs) u → HasShape t w
shape_variables i vs t u w shape is =
    let P : Table → Type 0 = λ x. HasShape t x in
    subst P (sym is) (record { width = shape.width; variables = shape.variables; cells = length-changed i (with_variables vs) u.cells ∙ shape.cells })

-- what evaluation gave is taken, or there is no memory
pub finishes : (U : Type 0) (r : Result U LeafStop) (i : ℕ) (old new : List CellState) (kind : DelayKind) (t at : ℕ) (c : CellState) (ch : Chosen) (made : Given × ℕ) (changed : List Value) → IsRight ch
    → (let e : Result (Given × ℕ) RuleStop = Ok made in Evaluates ch e changed) → (made.1 ≤ 359999999 → at ≡ t + made.1) → OnErr r (r ≡ Err Memory)
    → ((gs : List (ℕ × Value)) → AreGiven gs made.0.values → OnOk r (new ≡ set old i (record { ports = took kind at gs c.ports; variables = changed })))
    → Computes i old new (and_took kind t c ch) r
finishes U (Ok u) i old new kind t at c ch made changed right is later memory took_is = takes U i old new kind t at c ch made changed u right is later took_is
finishes U (Err e) i old new kind t at c ch made changed right is later memory took_is =
    subst (λ (x : Result U LeafStop). Computes i old new (and_took kind t c ch) x) (sym memory) (free U i old new (and_took kind t c ch))

-- what is lent means what stands where it was found
pub found_is : (P : Meant) (lent : Lent) (ms : ℕ) (given : Given) (after seen : List Value) → IsFound P lent ms given after seen
    → P (Ok (given_found lent given, ms)) (variables_found lent after seen)
found_is P (Known known) ms given after seen h = h
found_is P (Alone v) ms given after seen h = h
found_is P Placed ms given after seen h = h

-- the same of what stands in a rule's text
pub constant_means : (P : Meant) (lent : Lent) (o : Option Constant) (ms : ℕ) (given : Given) (after seen : List Value) → IfSome o (IsConstant lent ms) → IsFound P lent ms given after seen
    → IfSome o (λ c. P (Ok (c.given, c.delay)) seen)
constant_means P lent None ms given after seen is h = tt
constant_means P (Known known) (Some c) ms given after seen is h = subst (λ (k : Constant). P (Ok (k.given, k.delay)) seen) (sym is) h
constant_means P (Alone v) (Some c) ms given after seen is h = absurd is
constant_means P Placed (Some c) ms given after seen is h = absurd is

pub constant_delay : (lent : Lent) (o : Option Constant) (ms : ℕ) → IfSome o (IsConstant lent ms) → ms ≤ 359999999 → IfSome o (λ c. c.delay ≤ 359999999)
constant_delay lent None ms is h = tt
constant_delay (Known known) (Some c) ms is h = subst (λ (k : Constant). k.delay ≤ 359999999) (sym is) h
constant_delay (Alone v) (Some c) ms is h = absurd is
constant_delay Placed (Some c) ms is h = absurd is

-- the same of rules over what the cell sees
pub rules_finish : (U : Type 0) (r : Result U LeafStop) (i : ℕ) (old new : List CellState) (kind : DelayKind) (at : ℕ) (s : Sight) (vs : List Value) (c : CellState) (trees : List Rule) (made : Given × ℕ) (changed : List Value)
    → vs ≡ c.variables → list_all gives_apart trees ≡ true → (let e : Result (Given × ℕ) RuleStop = Ok made in Evaluates (outcome_of_rules trees (record s { variables = vs })) e changed)
    → (made.1 ≤ 359999999 → at ≡ s.time + made.1) → OnErr r (r ≡ Err Memory)
    → ((gs : List (ℕ × Value)) → AreGiven gs made.0.values → OnOk r (new ≡ set old i (record { ports = took kind at gs c.ports; variables = changed })))
    → Computes i old new (step_by_rules kind s trees c) r
rules_finish U r i old new kind at s vs c trees made changed same apart is later memory took_is =
    finishes U r i old new kind s.time at c (outcome_of_rules trees (record s { variables = c.variables })) made changed (right_choice trees (record s { variables = c.variables }) apart)
    (subst (λ (xs : List Value). let e : Result (Given × ℕ) RuleStop = Ok made in Evaluates (outcome_of_rules trees (record s { variables = xs })) e changed) same is) later memory took_is

pub rules_stop : (U : Type 0) (i : ℕ) (old new : List CellState) (kind : DelayKind) (s : Sight) (vs : List Value) (c : CellState) (trees : List Rule) (stop : RuleStop) (changed : List Value)
    → vs ≡ c.variables → (let e : Result (Given × ℕ) RuleStop = Err stop in Evaluates (outcome_of_rules trees (record s { variables = vs })) e changed)
    → (let r : Result U LeafStop = Err (leaf.Rule stop) in Computes i old new (step_by_rules kind s trees c) r)
rules_stop U i old new kind s vs c trees stop changed same is =
    stops U i old new kind s.time c (outcome_of_rules trees (record s { variables = c.variables })) stop changed
    (subst (λ (xs : List Value). let e : Result (Given × ℕ) RuleStop = Err stop in Evaluates (outcome_of_rules trees (record s { variables = xs })) e changed) same is)

-- a value is taken after the default delay
pub itself_taken : (g : Group) (i t at : ℕ) (v : Value) (kind : DelayKind) (tb u : Table) → kind ≡ g.settings.kind → at ≡ t + g.settings.default_delay → u ≡ changed_cell i (changed_ports (took kind at ((0, v) ∷ []))) tb
    → u.cells ≡ set tb.cells i (record { ports = took g.settings.kind (t + g.settings.default_delay) ((0, v) ∷ []) (cell_at tb.cells i).ports; variables = (cell_at tb.cells i).variables })
itself_taken g i t at v kind tb u same when is =
    let c = cell_at tb.cells i in
    ap (λ (x : Table). x.cells) is ∙ changed-set i (changed_ports (took kind at ((0, v) ∷ []))) no_cell tb.cells
    ∙ (λ k. set tb.cells i (record { ports = took (same k) (when k) ((0, v) ∷ []) c.ports; variables = c.variables }))

-- ---- by the group

-- the rules of a set need no more room than all
pub depth_at : (sets : List (List Rule)) (k n : ℕ) (rules : List Rule) → All (λ (rs : List Rule). All (λ (r : Rule). rule_depth r ≤ n) rs) sets → k < length sets → rules ≡ get_or sets k []
    → All (λ (r : Rule). rule_depth r ≤ n) rules
depth_at sets k n rules all lt is =
    subst (λ (rs : List Rule). All (λ (r : Rule). rule_depth r ≤ n) rs) (sym is) (all k [] lt)

-- a cell's rules, where it is woken
pub is_woken : (U : Type 0) (r : Result U LeafStop) (g : Group) (l : Layout) (i : ℕ) (old new : List CellState) (kind : DelayKind) (s : Sight) (woken : Bool) (c : CellState) → StandsFor g l → kind ≡ l.settings.kind → woken ≡ true
    → Computes i old new (step_by_rules kind s (cell_rules g i) c) r → Computes i old new (woken_at g s.time woken s i c) r
is_woken U r g l i old new kind s woken c st same is h =
    subst (λ (b : Bool). Computes i old new (woken_at g s.time b s i c) r) (sym is)
    (subst (λ (k : DelayKind). Computes i old new (step_by_rules k s (cell_rules g i) c) r) (same ∙ ap (λ (d : CellSettings). d.kind) st.settings) h)

-- a value at a port that has rules
pub has_rules : (U : Type 0) (r : Result U LeafStop) (g : Group) (l : Layout) (i k : ℕ) (port : Word) (old new : List CellState) (kind : DelayKind) (s : Sight) (v : Value) (c : CellState) → StandsFor g l → kind ≡ l.settings.kind
    → Some k ≡ option_map number_of (find (is_for i port) l.port_rules) → Computes i old new (step_by_rules kind (record s { port = v }) (rule_set g k) c) r → Computes i old new (by_port_rules g s.time s v (port_rules g i port) c) r
has_rules U r g l i k port old new kind s v c st same found h =
    subst (λ (rs : Option (List Rule)). Computes i old new (by_port_rules g s.time s v rs c) r) (sym (port_rules_are g l i port (Some k) st found))
    (subst (λ (d : DelayKind). Computes i old new (step_by_rules d (record s { port = v }) (rule_set g k) c) r) (same ∙ ap (λ (d : CellSettings). d.kind) st.settings) h)

-- and at one that has none
pub has_none : (U : Type 0) (r : Result U LeafStop) (g : Group) (l : Layout) (i t : ℕ) (port : Word) (old new : List CellState) (s : Sight) (v : Value) (c : CellState) → StandsFor g l
    → None ≡ option_map number_of (find (is_for i port) l.port_rules) → Computes i old new (by_port_rules g t s v None c) r → Computes i old new (by_port_rules g t s v (port_rules g i port) c) r
has_none U r g l i t port old new s v c st found h =
    subst (λ (rs : Option (List Rule)). Computes i old new (by_port_rules g t s v rs c) r) (sym (port_rules_are g l i port None st found)) h
