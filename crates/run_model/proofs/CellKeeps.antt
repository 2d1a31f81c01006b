-- What every taking of a result keeps, a whole move of a cell keeps.
use Rattle.std.proofs.Common.{ℕ, zero, suc, ◌+◌, Bool, true, false, Option, Some, None, List, [], ◌∷◌}
use Rattle.std.specs.Prelude.{Ok, Err, IfOk, IfSome, if◌then◌else◌, slice_get, unwrap_or, ◌==◌, ◌&&◌}
use Rattle.std.specs.List.{All, find}
use Rattle.std.specs.Option.{option_map}
use Rattle.std.specs.Str.{bytes_eq}
use Rattle.std.proofs.lemmas.List.Elements.{All-cons, All-head, All-tail}
use Rattle.quantity.specs.declared.value.Value.{Value}
use Rattle.rule_tree.specs.Meaning.{Sight}
use Rattle.rule_tree.specs.Expression.{Rule}
use Rattle.cell_grid.specs.Zones.{zone_of}
use Rattle.atomic_face.specs.Classes.{Bag}
use Rattle.atomic_face.specs.declared.class.PortNo.{PortNo}
use Rattle.quantity.specs.declared.delay.DelayKind.{DelayKind}
use Rattle.model_tree.specs.declared.group.PortRule.{PortRule}
use Rattle.model_tree.specs.Tree.{Word, Group}
use Rattle.model_tree.specs.Pull.{cell_ports}
use Rattle.quantity.specs.Written.{for_ok}
use Rattle.run_model.specs.CellStep.{PortState, CellState, Stepped, took_at, took, port_took, rule_set, zone_rule_set, cell_rules, port_rules, by_rules, by_port_rules, step_by_value, all_treated, cell_moved}

pub took_at-keeps : (P : PortState → Type 0) (f : PortState → PortState) → ((p : PortState) → P p → P (f p)) → (port : ℕ) (ps : List PortState) → All P ps → All P (took_at port f ps)
took_at-keeps P f keeps port [] h = h
took_at-keeps P f keeps zero (p ∷ ps) h = All-cons P (f p) ps (keeps p (All-head P p ps h)) (All-tail P p ps h)
took_at-keeps P f keeps (suc port) (p ∷ ps) h =
    All-cons P p (took_at port f ps) (All-head P p ps h) (took_at-keeps P f keeps port ps (All-tail P p ps h))

-- each value that is taken keeps P where it has V
pub took-keeps : (P : PortState → Type 0) (V : Value → Type 0) (kind : DelayKind) (at : ℕ) → ((v : Value) (p : PortState) → V v → P p → P (port_took kind at v p)) → (gs : List (ℕ × Value)) (ps : List PortState) → All (λ (g : ℕ × Value). V g.1) gs → All P ps → All P (took kind at gs ps)
took-keeps P V kind at keeps [] ps good h = h
took-keeps P V kind at keeps (g ∷ gs) ps good h =
    took-keeps P V kind at keeps gs (took_at g.0 (port_took kind at g.1) ps) (All-tail (λ (g : ℕ × Value). V g.1) g gs good)
    (took_at-keeps P (port_took kind at g.1) (λ p. keeps g.1 p (All-head (λ (g : ℕ × Value). V g.1) g gs good)) g.0 ps h)

module _ (g : Group) (cell t : ℕ) (P : CellState → Type 0) (V : Value → Type 0) (S : Sight → Type 0) (R : List Rule → Type 0) (sees : (s : Sight) (v : Value) → S s → V v → S (record s { port = v })) (sets : (n : ℕ) → R (rule_set g n)) (ruled : (s : Sight) (rules : List Rule) (c : CellState) → S s → R rules → P c → IfOk (by_rules g t s rules c) P) (plain : (v : Value) (c : CellState) → V v → P c → P (record c { ports = took g.settings.kind (t + g.settings.default_delay) ((0, v) ∷ []) c.ports })) where
  and_then-keeps : (r : Stepped) (go : CellState → Stepped) → IfOk r P → ((c : CellState) → P c → IfOk (go c) P) → IfOk (for_ok r go) P
  and_then-keeps (Ok c) go h goes = goes c h
  and_then-keeps (Err stop) go h goes = tt

  by_port-keeps : (s : Sight) (v : Value) (o : Option (List Rule)) (c : CellState) → S s → V v → IfSome o R → P c → IfOk (by_port_rules g t s v o c) P
  by_port-keeps s v None c see good r h = plain v c good h
  by_port-keeps s v (Some rules) c see good r h = ruled (record s { port = v }) rules c (sees s v see good) r h

  port_rules-are : (o : Option PortRule) → IfSome (option_map (λ (r : PortRule). rule_set g r.rules) o) R
  port_rules-are None = tt
  port_rules-are (Some r) = sets r.rules

  abbrev port_name : ℕ → Word
  port_name n = unwrap_or (slice_get (cell_ports g cell) n) []

  all_treated-keeps : (s : Sight) (bag : Bag) (c : CellState) → S s → All (λ (i : PortNo × Value). V i.1) bag → P c → IfOk (all_treated g cell t s bag c) P
  all_treated-keeps s [] c see good h = h
  all_treated-keeps s (i ∷ is) c see good h =
      and_then-keeps (step_by_value g cell t s i c) (all_treated g cell t s is)
      (by_port-keeps s i.1 (port_rules g cell (port_name i.0.0)) c see (All-head (λ (i : PortNo × Value). V i.1) i is good)
      (port_rules-are (find (λ (r : PortRule). bytes_eq r.port (port_name i.0.0) && (r.cell == cell)) g.port_rules)) h)
      (λ d. all_treated-keeps s is d see (All-tail (λ (i : PortNo × Value). V i.1) i is good))

  zone_rules-are : (o : Option ℕ) → R (zone_rule_set g o)
  zone_rules-are None = sets 0
  zone_rules-are (Some z) = sets (unwrap_or (slice_get g.zone_rules z) 0)

  woken-keeps : (b : Bool) (s : Sight) (c : CellState) → S s → P c → IfOk (if b then by_rules g t s (cell_rules g cell) c else Ok c) P
  woken-keeps true s c see h = ruled s (cell_rules g cell) c see (zone_rules-are (zone_of g.zones g.space cell)) h
  woken-keeps false s c see h = h

  pub cell_moved-keeps : (woken : Bool) (s : Sight) (bag : Bag) (c : CellState) → S s → All (λ (i : PortNo × Value). V i.1) bag → P c → IfOk (cell_moved g cell t woken s bag c) P
  cell_moved-keeps woken s bag c see good h =
      and_then-keeps (if woken then by_rules g t s (cell_rules g cell) c else Ok c) (all_treated g cell t s bag) (woken-keeps woken s c see h) (λ d. all_treated-keeps s bag d see good)
