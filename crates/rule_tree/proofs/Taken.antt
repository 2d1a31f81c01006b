-- Values for different ports are taken port by port.
use Rattle.std.proofs.Common.{◌≡◌, ◌+◌, ◌<◌, ◌≤◌, ℕ, zero, suc, Bool, true, false, not, ◌&&◌, ◌||◌, Option, Some, None, List, [], ◌∷◌, map, length, refl, sym, ap, ◌∙◌, arith, eq-eqb}
use Rattle.std.proofs.lemmas.Bool.{ne_eqb}
use Rattle.std.specs.Prelude.{◌==◌, if◌then◌else◌}
use Rattle.std.specs.List.{list_any}
use Rattle.quantity.specs.declared.value.Value.{Value}
use Rattle.rule_tree.specs.Scope.{differ}
use Rattle.rule_tree.specs.Ports.{or_earlier, given_at, by_port, changed_at, taken_in_order, taken_at, taken_by_port, IsTakenByPort}

abbrev ports_of : List (ℕ × Value) → List ℕ
ports_of gs = map (λ (g : ℕ × Value). g.0) gs

-- the ports from a number on, each with what is given there
abbrev taken_from : {P : Type 0} → (Value → P → P) → List (ℕ × Value) → ℕ → List P → List P
taken_from take gs k [] = []
taken_from take gs k (p ∷ ps) = taken_at take (given_at gs k) p ∷ taken_from take gs (suc k) ps

or_nothing : (given : Option Value) → or_earlier given None ≡ given
or_nothing None = refl
or_nothing (Some v) = refl

-- a give elsewhere is none here
elsewhere : (n : ℕ) (v : Value) (gs : List (ℕ × Value)) (k : ℕ) → (n == k) ≡ false → given_at ((n, v) ∷ gs) k ≡ given_at gs k
elsewhere n v gs k e = ap (λ (b : Bool). or_earlier (given_at gs k) (if b then Some v else None)) e ∙ or_nothing (given_at gs k)

none_given : (gs : List (ℕ × Value)) (k : ℕ) → list_any (λ j. j == k) (ports_of gs) ≡ false → given_at gs k ≡ None
none_given [] k e = refl
none_given (g ∷ gs) k e = at (g.0 == k) (list_any (λ j. j == k) (ports_of gs)) e (none_given gs k)
  where
    at : (b c : Bool) → (b || c) ≡ false → (c ≡ false → given_at gs k ≡ None) → or_earlier (given_at gs k) (if b then Some g.1 else None) ≡ None
    at true c e rest = absurd (cc)
    at false c e rest = or_nothing (given_at gs k) ∙ rest e

-- a give before the first of these ports changes none
past : {P : Type 0} (take : Value → P → P) (n : ℕ) (v : Value) (gs : List (ℕ × Value)) (k : ℕ) (ps : List P) → n < k
    → taken_from take gs k ps ≡ taken_from take ((n, v) ∷ gs) k ps
past take n v gs k [] h = refl
past take n v gs k (p ∷ ps) h =
    let differ_here : (n == k) ≡ false = ne_eqb n k (λ e. omega arith) in
    ap (λ o. taken_at take o p ∷ taken_from take gs (suc k) ps) (sym (elsewhere n v gs k differ_here))
    ∙ ap (λ rest. taken_at take (given_at ((n, v) ∷ gs) k) p ∷ rest) (past take n v gs (suc k) ps (omega arith))

-- a port that nothing else is given to takes its value first
first_taken : {P : Type 0} (take : Value → P → P) (n : ℕ) (v : Value) (gs : List (ℕ × Value)) (k j : ℕ) (ps : List P)
    → n ≡ k + j → list_any (λ i. i == n) (ports_of gs) ≡ false → taken_from take gs k (changed_at j (take v) ps) ≡ taken_from take ((n, v) ∷ gs) k ps
first_taken take n v gs k j [] e none = refl
first_taken take n v gs k zero (p ∷ ps) e none =
    let here : n ≡ k = omega arith in
    let nothing : given_at gs k ≡ None = ap (given_at gs) (sym here) ∙ none_given gs n none in
    let this : given_at ((n, v) ∷ gs) k ≡ Some v = ap (λ (o : Option Value). or_earlier o (if n == k then Some v else None)) nothing ∙ ap (λ (b : Bool). if b then Some v else None) (eq-eqb n k here) in
    ap (λ o. taken_at take o (take v p) ∷ taken_from take gs (suc k) ps) nothing
    ∙ ap (λ o. taken_at take o p ∷ taken_from take gs (suc k) ps) (sym this)
    ∙ ap (λ rest. taken_at take (given_at ((n, v) ∷ gs) k) p ∷ rest) (past take n v gs (suc k) ps (omega arith))
first_taken take n v gs k (suc j) (p ∷ ps) e none =
    let differ_here : (n == k) ≡ false = ne_eqb n k (λ same. omega arith) in
    ap (λ o. taken_at take o p ∷ taken_from take gs (suc k) (changed_at j (take v) ps)) (sym (elsewhere n v gs k differ_here))
    ∙ ap (λ rest. taken_at take (given_at ((n, v) ∷ gs) k) p ∷ rest) (first_taken take n v gs (suc k) j ps (omega arith) none)

nothing_taken : {P : Type 0} (take : Value → P → P) (k : ℕ) (ps : List P) → ps ≡ taken_from take [] k ps
nothing_taken take k [] = refl
nothing_taken take k (p ∷ ps) = ap (λ rest. p ∷ rest) (nothing_taken take (suc k) ps)

-- values for different ports, taken in written order
pub in_order : {P : Type 0} (take : Value → P → P) (gs : List (ℕ × Value)) (ps : List P) → differ (ports_of gs) ≡ true → taken_in_order take gs ps ≡ taken_from take gs 0 ps
in_order take [] ps d = nothing_taken take 0 ps
in_order take (g ∷ gs) ps d =
    let parts = both (list_any (λ i. i == g.0) (ports_of gs)) (differ (ports_of gs)) d in
    in_order take gs (changed_at g.0 (take g.1) ps) parts.1 ∙ first_taken take g.0 g.1 gs 0 g.0 ps (omega arith) parts.0
  where
    both : (b c : Bool) → (not b && c) ≡ true → (b ≡ false) × (c ≡ true)
    both true c e = absurd (cc)
    both false c e = (refl, e)

-- the first four ports
four_ports : {P : Type 0} (take : Value → P → P) (gs : List (ℕ × Value)) (ps : List P) → length ps ≤ 4 → taken_from take gs 0 ps ≡ taken_by_port take (by_port gs) ps
four_ports take gs [] h = refl
four_ports take gs (a ∷ []) h = refl
four_ports take gs (a ∷ b ∷ []) h = refl
four_ports take gs (a ∷ b ∷ c ∷ []) h = refl
four_ports take gs (a ∷ b ∷ c ∷ d ∷ []) h = refl
four_ports take gs (a ∷ b ∷ c ∷ d ∷ e ∷ ps) h = absurd (omega arith)

pub is_taken_by_port : (P : Type 0) → IsTakenByPort P
is_taken_by_port P take gs ps d h = in_order take gs ps d ∙ four_ports take gs ps h
