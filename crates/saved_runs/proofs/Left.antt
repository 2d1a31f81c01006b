-- What a run that is done leaves are states after its end; and states after a time are such as a
-- run may go on from.
use Rattle.std.proofs.Common.{◌≡◌, ℕ, suc, ◌+◌, ◌^◌, ◌≤◌, true, Option, Some, None, List, [], ◌∷◌}
use Rattle.std.proofs.Common.{length, refl, sym, ap, ◌∙◌, subst, arith}
use Rattle.std.specs.Prelude.{◌&&◌, ◌==◌, nat_lt, nat_le, ℤ, unsigned_abs}
use Rattle.std.specs.List.{All, AllZip, list_all}
use Rattle.std.proofs.lemmas.List.Elements.{All-nil, All-cons, All-head, All-tail}
use Rattle.std.proofs.lemmas.Bool.{and_parts}
use Rattle.std.proofs.lemmas.Bool.Decides.{nat_tests}
use Rattle.quantity.specs.declared.value.Value.{Value}
use Rattle.quantity.specs.declared.value.Value.TheVariants.{Undefined, Num}
use Rattle.quantity.specs.Roots.{IsBounded}
use Rattle.atomic_face.specs.Classes.{next_of}
use Rattle.atomic_face.specs.BoxStates.{is_box_state}
use Rattle.model_tree.specs.Tree.{Leaf, atomic_leaf, cell_leaf}
use Rattle.run_model.specs.CellStep.{PortState}
use Rattle.run_model.specs.Cycle.{LeafState, box_state, cell_state}
use Rattle.run_model.specs.Waiting.{RisesFrom, IsNotBefore, LeafWaitsFrom}
use Rattle.run_model.specs.Bounds.{AreBoundedSettings, IsBoundedPair, IsBoundedPort, IsBoundedLeaf}
use Rattle.run_model.specs.Fitting.{Fits}
use Rattle.run_model.proofs.Basics.{both_are}
use Rattle.run_model.proofs.BoxLaws.{box-from, settings_bounded}
use Rattle.text_forms.specs.LogLine.{is_value}
use Rattle.text_forms.specs.LeafStates.{rises, is_port_state, is_later}
use Rattle.text_forms.specs.StateOfLeaf.{has_values_in_range}
use Rattle.text_forms.specs.StateOfLeaf.{is_box_number, IsStateOf}
use Rattle.saved_runs.specs.Settled.{AreSettled, IsSettled, IsInState}
use Rattle.saved_runs.specs.Kept.{IsSmall, StatesAreSmall, StatesAreBounded}
use Rattle.saved_runs.specs.Accepted.{HasValues}
use Rattle.saved_runs.specs.TextOnce.{IsStateAfter}

-- ---- what waits for later, and is bounded, may be written

later : (t : ℕ) (o : Option ℕ) → IsNotBefore (t + 1) o → is_later t o ≡ true
later t None h = refl
later t (Some n) h = grind (arith, nat_tests)

less : (t n : ℕ) → t + 1 ≤ n → nat_lt t n ≡ true
less t n h = grind (arith, nat_tests)

at_most : (n m : ℕ) → n ≤ m → nat_le n m ≡ true
at_most n m h = grind (arith, nat_tests)

same_number : (n m : ℕ) → n ≡ m → (n == m) ≡ true
same_number n m h = grind (arith, nat_tests)

rises-are : (t : ℕ) (ps : List (ℕ × Value)) → RisesFrom (t + 1) ps → All IsBoundedPair ps
    → rises t ps ≡ true
rises-are t [] h b = refl
rises-are t (p ∷ ps) h b =
    both_are (nat_lt t p.0 && nat_le p.0 719999998) (rises p.0 ps)
    (both_are (nat_lt t p.0) (nat_le p.0 719999998) (less t p.0 h.0)
    (at_most p.0 719999998 (All-head IsBoundedPair p ps b).0))
    (rises-are p.0 ps h.1 (All-tail IsBoundedPair p ps b))

value-is : (v : Value) → IsBounded v → is_value v ≡ true
value-is Undefined h = refl
value-is (Num x) h = at_most (unsigned_abs x) (10 ^ 15) h

values-are : (vs : List Value) → All IsBounded vs → list_all is_value vs ≡ true
values-are [] h = refl
values-are (v ∷ vs) h =
    both_are (is_value v) (list_all is_value vs) (value-is v (All-head IsBounded v vs h))
    (values-are vs (All-tail IsBounded v vs h))

pairs-are : (ps : List (ℕ × Value)) → All IsBoundedPair ps
    → list_all (λ (q : ℕ × Value). is_value q.1) ps ≡ true
pairs-are [] h = refl
pairs-are (p ∷ ps) h =
    both_are (is_value p.1) (list_all (λ (q : ℕ × Value). is_value q.1) ps)
    (value-is p.1 (All-head IsBoundedPair p ps h).1)
    (pairs-are ps (All-tail IsBoundedPair p ps h))

port-is : (p : PortState) → IsBoundedPort p → has_values_in_range p ≡ true
port-is p h =
    both_are (is_value p.emitted && is_value p.computed) (list_all (λ (q : ℕ × Value). is_value q.1)
    p.pairs)
    (both_are (is_value p.emitted) (is_value p.computed) (value-is p.emitted h.emitted)
    (value-is p.computed h.computed)) (pairs-are p.pairs h.pairs)

abbrev Rises : ℕ → PortState → Type 0
Rises low p = RisesFrom low p.pairs

ports-wait : (t : ℕ) (ps : List PortState) → All (Rises (t + 1)) ps → All IsBoundedPort ps
    → list_all (is_port_state t) ps ≡ true
ports-wait t [] h b = refl
ports-wait t (p ∷ ps) h b =
    both_are (is_port_state t p) (list_all (is_port_state t) ps)
    (rises-are t p.pairs (All-head (Rises (t + 1)) p ps h)
    (All-head IsBoundedPort p ps b).pairs)
    (ports-wait t ps (All-tail (Rises (t + 1)) p ps h) (All-tail IsBoundedPort p ps b))

ports-are : (ps : List PortState) → All IsBoundedPort ps → list_all has_values_in_range ps ≡ true
ports-are [] b = refl
ports-are (p ∷ ps) b =
    both_are (has_values_in_range p) (list_all has_values_in_range ps)
    (port-is p (All-head IsBoundedPort p ps b)) (ports-are ps (All-tail IsBoundedPort p ps b))

leaf-after : (t : ℕ) (l : Leaf) (s : LeafState) → Fits l s → LeafWaitsFrom (t + 1) s
    → IsBoundedLeaf s → IsInState s → HasValues l → IsStateAfter t l s
leaf-after t (atomic_leaf name class settings) (box_state b) fit wait small state has =
    let words : is_box_state class settings b.state ≡ true =
    subst (λ ws. is_box_state class ws b.state ≡ true) fit.1
    (subst (λ k. is_box_state k b.settings b.state ≡ true) fit.0 state.1) in
    let next : is_later t (next_of class b.state) ≡ true =
    subst (λ k. is_later t (next_of k b.state) ≡ true) fit.0
    (later t (next_of b.kind b.state) (box-from b.kind b.state (t + 1) wait)) in (
      fit.0,
      fit.1,
      both_are (is_box_state class settings b.state)
          (is_later t (next_of class b.state)) words next,
    )
leaf-after t (atomic_leaf name class settings) (cell_state c) fit wait small state has = absurd fit
leaf-after t (cell_leaf g first cell) (box_state b) fit wait small state has = absurd fit
leaf-after t (cell_leaf g first cell) (cell_state c) fit wait small state has =
    let ports : (length c.ports == suc (length g.ports)) ≡ true =
    same_number (length c.ports) (suc (length g.ports)) (fit.0 ∙ ap suc has.0) in
    let variables : (length c.variables == length g.variables) ≡ true =
    same_number (length c.variables) (length g.variables) (fit.1 ∙ has.1) in (
      both_are (list_all (is_port_state t) c.ports && (length c.ports == suc (length g.ports)))
          (length c.variables == length g.variables)
          (both_are (list_all (is_port_state t) c.ports) (length c.ports == suc (length g.ports))
          (ports-wait t c.ports wait small.ports) ports) variables,
      ports-are c.ports small.ports,
      values-are c.variables small.variables,
    )

pub states-after : (t : ℕ) (ls : List Leaf) (ss : List LeafState) → AllZip Fits ls ss
    → All (LeafWaitsFrom (t + 1)) ss → All IsBoundedLeaf ss → All IsInState ss → All HasValues ls
    → AllZip (IsStateAfter t) ls ss
states-after t [] [] fit wait small state has = tt
states-after t [] (s ∷ ss) fit wait small state has = absurd fit
states-after t (l ∷ ls) [] fit wait small state has = absurd fit
states-after t (l ∷ ls) (s ∷ ss) fit wait small state has = (
  leaf-after t l s fit.0 (All-head (LeafWaitsFrom (t + 1)) s ss wait)
      (All-head IsBoundedLeaf s ss small) (All-head IsInState s ss state)
      (All-head HasValues l ls has),
  states-after t ls ss fit.1 (All-tail (LeafWaitsFrom (t + 1)) s ss wait)
      (All-tail IsBoundedLeaf s ss small) (All-tail IsInState s ss state)
      (All-tail HasValues l ls has),
)

-- ---- its words are small

words-are : (ws : List ℤ) → All IsSmall ws → list_all is_box_number ws ≡ true
words-are [] h = refl
words-are (w ∷ ws) h =
    both_are (is_box_number w) (list_all is_box_number ws) (at_most (unsigned_abs w) (10 ^ 17)
    (All-head IsSmall w ws h)) (words-are ws (All-tail IsSmall w ws h))

leaf-of : StatesAreSmall → (t : ℕ) (l : Leaf) (s : LeafState) → IsSettled l → IsStateAfter t l s
    → IsStateOf t l s
leaf-of few t (atomic_leaf name class settings) (box_state b) set h =
    let state = (and_parts (is_box_state class settings b.state)
    (is_later t (next_of class b.state)) h.2).0 in
    (h.0, h.1, h.2, words-are b.state (few class settings b.state set state))
leaf-of few t (atomic_leaf name class settings) (cell_state c) set h = absurd h
leaf-of few t (cell_leaf g first cell) (box_state b) set h = absurd h
leaf-of few t (cell_leaf g first cell) (cell_state c) set h = h

pub states-of : StatesAreSmall → (t : ℕ) (ls : List Leaf) (ss : List LeafState) → All IsSettled ls
    → AllZip (IsStateAfter t) ls ss → AllZip (IsStateOf t) ls ss
states-of few t [] [] set h = tt
states-of few t [] (s ∷ ss) set h = absurd h
states-of few t (l ∷ ls) [] set h = absurd h
states-of few t (l ∷ ls) (s ∷ ss) set h = (
  leaf-of few t l s (All-head IsSettled l ls set) h.0,
  states-of few t ls ss (All-tail IsSettled l ls set) h.1,
)

-- ---- a run may go on from states after a time

number-same : (n m : ℕ) → (n == m) ≡ true → n ≡ m
number-same n m h = grind (arith, nat_tests)

number-most : (n m : ℕ) → nat_le n m ≡ true → n ≤ m
number-most n m h = grind (arith, nat_tests)

value-from : (v : Value) → is_value v ≡ true → IsBounded v
value-from Undefined h = tt
value-from (Num x) h = number-most (unsigned_abs x) (10 ^ 15) h

values-from : (vs : List Value) → list_all is_value vs ≡ true → All IsBounded vs
values-from [] h = All-nil IsBounded
values-from (v ∷ vs) h =
    let p = and_parts (is_value v) (list_all is_value vs) h in
    All-cons IsBounded v vs (value-from v p.0) (values-from vs p.1)

pairs-from : (t : ℕ) (ps : List (ℕ × Value)) → rises t ps ≡ true
    → list_all (λ (q : ℕ × Value). is_value q.1) ps ≡ true → All IsBoundedPair ps
pairs-from t [] h k = All-nil IsBoundedPair
pairs-from t (p ∷ ps) h k =
    let a = and_parts (nat_lt t p.0 && nat_le p.0 719999998) (rises p.0 ps) h in
    let b = and_parts (nat_lt t p.0) (nat_le p.0 719999998) a.0 in
    let c = and_parts (is_value p.1) (list_all (λ (q : ℕ × Value). is_value q.1) ps) k in
    All-cons IsBoundedPair p ps (number-most p.0 719999998 b.1, value-from p.1 c.0)
    (pairs-from p.0 ps a.1 c.1)

port-from : (t : ℕ) (p : PortState) → is_port_state t p ≡ true → has_values_in_range p ≡ true
    → IsBoundedPort p
port-from t p h k =
    let a = and_parts (is_value p.emitted && is_value p.computed)
    (list_all (λ (q : ℕ × Value). is_value q.1) p.pairs) k in
    let b = and_parts (is_value p.emitted) (is_value p.computed) a.0 in
    record {
      emitted = value-from p.emitted b.0;
      computed = value-from p.computed b.1;
      pairs =
          pairs-from t p.pairs h a.1;
    }

ports-from : (t : ℕ) (ps : List PortState) → list_all (is_port_state t) ps ≡ true
    → list_all has_values_in_range ps ≡ true → All IsBoundedPort ps
ports-from t [] h k = All-nil IsBoundedPort
ports-from t (p ∷ ps) h k =
    let a = and_parts (is_port_state t p) (list_all (is_port_state t) ps) h in
    let b = and_parts (has_values_in_range p) (list_all has_values_in_range ps) k in
    All-cons IsBoundedPort p ps (port-from t p a.0 b.0) (ports-from t ps a.1 b.1)

-- a leaf that a run may go on from
pub record MayGoOn (l : Leaf) (s : LeafState) : Type 0 where
  pub fits : Fits l s
  pub small : IsBoundedLeaf s
  pub state : IsInState s

leaf-goes : StatesAreBounded → (t : ℕ) (l : Leaf) (s : LeafState) → IsSettled l → HasValues l
    → IsStateAfter t l s → MayGoOn l s
leaf-goes bounded t (atomic_leaf name class settings) (box_state b) set has h =
    let words = (and_parts (is_box_state class settings b.state)
    (is_later t (next_of class b.state)) h.2).0 in
    let state = subst (λ ws. is_box_state b.kind ws b.state ≡ true) (sym h.1)
    (subst (λ k. is_box_state k settings b.state ≡ true) (sym h.0) words) in
    let settled : AreSettled b.kind b.settings =
    subst (λ k. AreSettled k b.settings) (sym h.0) (subst (AreSettled class) (sym h.1) set) in
    let small : AreBoundedSettings b.kind b.settings =
    subst (AreBoundedSettings b.kind) (sym settled.given)
    (settings_bounded b.kind settled.parameters) in
    record {
      fits = (h.0, h.1);
      small = (small, bounded b.kind b.settings b.state state);
      state =
          (settled, state);
    }
leaf-goes bounded t (atomic_leaf name class settings) (cell_state c) set has h = absurd h
leaf-goes bounded t (cell_leaf g first cell) (box_state b) set has h = absurd h
leaf-goes bounded t (cell_leaf g first cell) (cell_state c) set has h =
    let a = and_parts (list_all (is_port_state t) c.ports &&
    (length c.ports == suc (length g.ports))) (length c.variables == length g.variables) h.0 in
    let b = and_parts (list_all (is_port_state t) c.ports) (length c.ports == suc (length g.ports))
    a.0 in
    record {
      fits = (
        number-same (length c.ports) (suc (length g.ports)) b.1
            ∙ ap suc (sym has.0),
        number-same (length c.variables) (length g.variables) a.1
            ∙ sym has.1,
      );
      small = record {
        ports = ports-from t c.ports b.0 h.1;
        variables =
            values-from c.variables h.2;
      };
      state = tt;
    }

-- all leaves
pub record AllMayGoOn (ls : List Leaf) (ss : List LeafState) : Type 0 where
  pub fits : AllZip Fits ls ss
  pub small : All IsBoundedLeaf ss
  pub state : All IsInState ss

pub states-go : StatesAreBounded → (t : ℕ) (ls : List Leaf) (ss : List LeafState) → All IsSettled ls
    → All HasValues ls → AllZip (IsStateAfter t) ls ss → AllMayGoOn ls ss
states-go bounded t [] [] set has h = record {
  fits = tt;
  small = All-nil IsBoundedLeaf;
  state =
      All-nil IsInState;
}
states-go bounded t [] (s ∷ ss) set has h = absurd h
states-go bounded t (l ∷ ls) [] set has h = absurd h
states-go bounded t (l ∷ ls) (s ∷ ss) set has h =
    let one = leaf-goes bounded t l s (All-head IsSettled l ls set) (All-head HasValues l ls has)
    h.0 in
    let rest = states-go bounded t ls ss (All-tail IsSettled l ls set) (All-tail HasValues l ls has)
    h.1 in
    record {
      fits = (one.fits, rest.fits);
      small = All-cons IsBoundedLeaf s ss one.small rest.small;
      state = All-cons IsInState s ss one.state rest.state;
    }
