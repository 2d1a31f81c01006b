-- What a cell gives, port by port, and when it is due next.
use Rattle.std.proofs.Common.{◌≡◌, ℕ, ◌≤◌, Bool, true, false, Option, Some, None, List, [], ◌∷◌, ◌++◌, map, length, get_or, refl, sym, ap, arith}
use Rattle.std.specs.Prelude.{if◌then◌else◌}
use Rattle.std.specs.List.{flat_map, enumerate_from}
use Rattle.rule_tree.specs.Ports.{changed_at}
use Rattle.atomic_face.specs.Classes.{is_at}
use Rattle.quantity.specs.Times.{earlier}
use Rattle.run_model.specs.CellStep.{PortState, first_time, next_of_ports, port_emitted, port_output}
use Rattle.cell_table.specs.Told.{if_given}
use Rattle.cell_table.specs.Table.{no_port, given_by_port}

pub one_given : (t k : ℕ) (p : PortState) → if_given (k, given_by_port t p) ≡ port_output t (k, p)
one_given t k p = by (is_at t (first_time p.pairs))
  where
    by : (b : Bool) → if_given (k, (if b then Some (port_emitted t p).emitted else None)) ≡ (if b then (record { 0 = k }, (port_emitted t p).emitted) ∷ [] else [])
    by true = refl
    by false = refl

pub bag_is : (t : ℕ) (ps : List PortState) → length ps ≤ 4
    → if_given (0, given_by_port t (get_or ps 0 no_port))
    ++ (if_given (1, given_by_port t (get_or (changed_at 0 (port_emitted t) ps) 1 no_port))
    ++ (if_given (2, given_by_port t (get_or (changed_at 1 (port_emitted t) (changed_at 0 (port_emitted t) ps)) 2 no_port))
    ++ (if_given (3, given_by_port t (get_or (changed_at 2 (port_emitted t) (changed_at 1 (port_emitted t) (changed_at 0 (port_emitted t) ps))) 3 no_port)) ++ [])))
    ≡ flat_map (port_output t) (enumerate_from 0 ps)
bag_is t [] h = refl
bag_is t (a ∷ []) h = λ i. one_given t 0 a i ++ []
bag_is t (a ∷ b ∷ []) h = λ i. one_given t 0 a i ++ (one_given t 1 b i ++ [])
bag_is t (a ∷ b ∷ c ∷ []) h = λ i. one_given t 0 a i ++ (one_given t 1 b i ++ (one_given t 2 c i ++ []))
bag_is t (a ∷ b ∷ c ∷ d ∷ []) h = λ i. one_given t 0 a i ++ (one_given t 1 b i ++ (one_given t 2 c i ++ (one_given t 3 d i ++ [])))
bag_is t (a ∷ b ∷ c ∷ d ∷ e ∷ ps) h = absurd (omega (arith, h))

pub all_emitted : (f : PortState → PortState) (ps : List PortState) → length ps ≤ 4 → changed_at 3 f (changed_at 2 f (changed_at 1 f (changed_at 0 f ps))) ≡ map f ps
all_emitted f [] h = refl
all_emitted f (a ∷ []) h = refl
all_emitted f (a ∷ b ∷ []) h = refl
all_emitted f (a ∷ b ∷ c ∷ []) h = refl
all_emitted f (a ∷ b ∷ c ∷ d ∷ []) h = refl
all_emitted f (a ∷ b ∷ c ∷ d ∷ e ∷ ps) h = absurd (omega (arith, h))

pub least_none : (o : Option ℕ) → earlier o None ≡ o
least_none None = refl
least_none (Some n) = refl

abbrev next_in : List PortState → ℕ → Option ℕ
next_in ps p = first_time (get_or ps p no_port).pairs

pub next_is : (ps : List PortState) → length ps ≤ 4 → earlier (next_in ps 0) (earlier (next_in ps 1) (earlier (next_in ps 2) (next_in ps 3))) ≡ next_of_ports ps
next_is [] h = refl
next_is (a ∷ []) h = refl
next_is (a ∷ b ∷ []) h = refl
next_is (a ∷ b ∷ c ∷ []) h = refl
next_is (a ∷ b ∷ c ∷ d ∷ []) h = ap (λ o. earlier (first_time a.pairs) (earlier (first_time b.pairs) (earlier (first_time c.pairs) o))) (sym (least_none (first_time d.pairs)))
next_is (a ∷ b ∷ c ∷ d ∷ e ∷ ps) h = absurd (omega (arith, h))
