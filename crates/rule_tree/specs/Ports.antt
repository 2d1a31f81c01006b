-- What rules give at ports, in written order and port by port.
use Rattle.std.specs.Prelude.{◌≡◌, ◌≤◌, ℕ, zero, suc, true, Option, Some, None, List, [], ◌∷◌, map, length, ◌==◌, if◌then◌else◌}
use Rattle.quantity.specs.declared.value.Value.{Value}
use Rattle.rule_tree.specs.Scope.{differ}

-- the value that is given, or else the earlier one
abbrev pub or_earlier : Option Value → Option Value → Option Value
or_earlier None earlier = earlier
or_earlier (Some v) earlier = Some v

-- what is given at a port, if anything is (the ports of a sound rule's gives differ; else the last
-- counts)
abbrev pub given_at : List (ℕ × Value) → ℕ → Option Value
given_at [] port = None
given_at (g ∷ gs) port = or_earlier (given_at gs port) (if g.0 == port then Some g.1 else None)

-- what is given at each port: out and at most three more
abbrev pub by_port : List (ℕ × Value) → List (Option Value)
by_port gs = given_at gs 0 ∷ given_at gs 1 ∷ given_at gs 2 ∷ given_at gs 3 ∷ []

-- a list with one of its items changed
abbrev pub changed_at : {P : Type 0} → ℕ → (P → P) → List P → List P
changed_at k change [] = []
changed_at zero change (p ∷ ps) = change p ∷ ps
changed_at (suc k) change (p ∷ ps) = p ∷ changed_at k change ps

-- ports that take the values given to them, in written order
abbrev pub taken_in_order : {P : Type 0} → (Value → P → P) → List (ℕ × Value) → List P → List P
taken_in_order take [] ps = ps
taken_in_order take (g ∷ gs) ps = taken_in_order take gs (changed_at g.0 (take g.1) ps)

-- a port that takes a value, if there is one
abbrev pub taken_at : {P : Type 0} → (Value → P → P) → Option Value → P → P
taken_at take None p = p
taken_at take (Some v) p = take v p

-- ports that take what stands for each of them, one for one
abbrev pub taken_by_port : {P : Type 0} → (Value → P → P) → List (Option Value) → List P → List P
taken_by_port take [] ps = ps
taken_by_port take (v ∷ vs) [] = []
taken_by_port take (v ∷ vs) (p ∷ ps) = taken_at take v p ∷ taken_by_port take vs ps

-- values for different ports are taken in any order, so port by port
abbrev pub IsTakenByPort : (P : Type 0) → Type 0
IsTakenByPort P =
    (take : Value → P → P) (gs : List (ℕ × Value)) (ps : List P)
    → differ (map (λ (g : ℕ × Value). g.0) gs) ≡ true → length ps ≤ 4
    → taken_in_order take gs ps ≡ taken_by_port take (by_port gs) ps
