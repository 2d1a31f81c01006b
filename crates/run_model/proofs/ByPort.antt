-- Taking values at different ports in written order is taking them port by port.
use Rattle.std.proofs.Common.{◌≡◌, ℕ, zero, suc, ◌+◌, ◌<◌, ◌≤◌, Bool, true, false, true≢false, Option, Some, None, List, [], ◌∷◌, map, length, refl, sym, ◌∙◌, ap, arith}
use Rattle.std.specs.Prelude.{not, ◌&&◌, ◌||◌, ◌==◌, if◌then◌else◌}
use Rattle.std.specs.List.{list_any, range_with_len}
use Rattle.std.proofs.lemmas.Bool.Decides.{nat_tests}
use Rattle.quantity.specs.declared.value.Value.{Value}
use Rattle.rule_tree.specs.Scope.{differ}
use Rattle.quantity.specs.declared.delay.DelayKind.{DelayKind}
use Rattle.run_model.specs.CellStep.{PortState, port_took, took_at, took}
use Rattle.rule_tree.specs.Ports.{or_earlier, given_at, by_port}
use Rattle.run_model.specs.Ports.{port_took_some, each_took, ports_differ, TakesByPort}
use Rattle.run_model.proofs.FittingCells.{length-took_at}

module _ (kind : DelayKind) (at : ℕ) where
  none-taken : (ks : List ℕ) (ps : List PortState) → each_took kind at (map (given_at []) ks) ps ≡ ps
  none-taken [] ps = refl
  none-taken (k ∷ ks) [] = refl
  none-taken (k ∷ ks) (p ∷ ps) = ap (λ qs. p ∷ qs) (none-taken ks ps)

  or-none : (o : Option Value) → or_earlier o None ≡ o
  or-none None = refl
  or-none (Some v) = refl

  -- another port takes what it took
  elsewhere : (g : ℕ × Value) (gs : List (ℕ × Value)) (k : ℕ) → (g.0 == k) ≡ false → given_at (g ∷ gs) k ≡ given_at gs k
  elsewhere g gs k e = ap (λ b. or_earlier (given_at gs k) (if b then Some g.1 else None)) e ∙ or-none (given_at gs k)

  here : (g : ℕ × Value) (gs : List (ℕ × Value)) (k : ℕ) → (g.0 == k) ≡ true → given_at gs k ≡ None → given_at (g ∷ gs) k ≡ Some g.1
  here g gs k e none = ap (λ b. or_earlier (given_at gs k) (if b then Some g.1 else None)) e ∙ ap (λ o. or_earlier o (Some g.1)) none

  beyond : (g : ℕ × Value) (gs : List (ℕ × Value)) (c n : ℕ) → g.0 < c → map (given_at (g ∷ gs)) (range_with_len c n) ≡ map (given_at gs) (range_with_len c n)
  beyond g gs c zero h = refl
  beyond g gs c (suc n) h =
      let other : (g.0 == c) ≡ false = grind (arith, nat_tests) in
      let head = elsewhere g gs c other in
      let rest = beyond g gs (c + 1) n (omega (arith, h)) in
      λ i. head i ∷ rest i

  first-taken : (g : ℕ × Value) (gs : List (ℕ × Value)) (b j : ℕ) (ps : List PortState) → g.0 ≡ b + j → given_at gs g.0 ≡ None
      → each_took kind at (map (given_at gs) (range_with_len b (length ps))) (took_at j (port_took kind at g.1) ps) ≡ each_took kind at (map (given_at (g ∷ gs)) (range_with_len b (length ps))) ps
  first-taken g gs b zero [] is none = refl
  first-taken g gs b (suc j) [] is none = refl
  first-taken g gs b zero (p ∷ ps) is none =
      let same : g.0 ≡ b = omega (arith, is) in
      let hit : (g.0 == b) ≡ true = grind (arith, nat_tests) in
      let nothing : given_at gs b ≡ None = sym (ap (given_at gs) same) ∙ none in
      let head = ap (λ o. port_took_some kind at o (port_took kind at g.1 p)) nothing ∙ sym (ap (λ o. port_took_some kind at o p) (here g gs b hit nothing)) in
      let rest = ap (λ os. each_took kind at os ps) (sym (beyond g gs (b + 1) (length ps) (omega (arith, is)))) in
      λ i. head i ∷ rest i
  first-taken g gs b (suc j) (p ∷ ps) is none =
      let miss : (g.0 == b) ≡ false = grind (arith, nat_tests, is) in
      let head = ap (λ o. port_took_some kind at o p) (sym (elsewhere g gs b miss)) in
      let rest = first-taken g gs (b + 1) j ps (omega (arith, is)) none in
      λ i. head i ∷ rest i

  not-among : (gs : List (ℕ × Value)) (k : ℕ) → list_any (λ j. j == k) (map (λ (g : ℕ × Value). g.0) gs) ≡ false → given_at gs k ≡ None
  not-among [] k h = refl
  not-among (g ∷ gs) k h = apart (g.0 == k) refl (not-among gs k) h
    where
      apart : (a : Bool) → (g.0 == k) ≡ a → (list_any (λ j. j == k) (map (λ (g : ℕ × Value). g.0) gs) ≡ false → given_at gs k ≡ None)
          → (a || list_any (λ j. j == k) (map (λ (g : ℕ × Value). g.0) gs)) ≡ false → given_at (g ∷ gs) k ≡ None
      apart true ea later e = absurd (true≢false e)
      apart false ea later e = elsewhere g gs k ea ∙ later e

  different : (k : ℕ) (ks : List ℕ) → differ (k ∷ ks) ≡ true → (list_any (λ j. j == k) ks ≡ false) × (differ ks ≡ true)
  different k ks h = apart (list_any (λ j. j == k) ks) (differ ks) refl refl h
    where
      apart : (a b : Bool) → list_any (λ j. j == k) ks ≡ a → differ ks ≡ b → (not a && b) ≡ true → (list_any (λ j. j == k) ks ≡ false) × (differ ks ≡ true)
      apart true b ea eb e = absurd (cc)
      apart false b ea eb e = (ea, eb ∙ e)

  by-port : (gs : List (ℕ × Value)) (ps : List PortState) → ports_differ gs ≡ true → took kind at gs ps ≡ each_took kind at (map (given_at gs) (range_with_len 0 (length ps))) ps
  by-port [] ps h = sym (none-taken (range_with_len 0 (length ps)) ps)
  by-port (g ∷ gs) ps h =
      let d = different g.0 (map (λ (g : ℕ × Value). g.0) gs) h in
      let after = took_at g.0 (port_took kind at g.1) ps in
      by-port gs after d.1
      ∙ ap (λ n. each_took kind at (map (given_at gs) (range_with_len 0 n)) after) (length-took_at g.0 (port_took kind at g.1) ps)
      ∙ first-taken g gs 0 g.0 ps (omega arith) (not-among gs g.0 d.0)

  four : (gs : List (ℕ × Value)) (ps : List PortState) → length ps ≤ 4 → each_took kind at (map (given_at gs) (range_with_len 0 (length ps))) ps ≡ each_took kind at (by_port gs) ps
  four gs [] h = refl
  four gs (p ∷ []) h = refl
  four gs (p ∷ q ∷ []) h = refl
  four gs (p ∷ q ∷ r ∷ []) h = refl
  four gs (p ∷ q ∷ r ∷ s ∷ []) h = refl
  four gs (p ∷ q ∷ r ∷ s ∷ t ∷ ps) h = absurd (omega (arith, h))

pub takes-by-port : TakesByPort
takes-by-port = record {
  any_ports = by-port;
  four_ports = λ kind at gs ps differ few. by-port kind at gs ps differ ∙ four kind at gs ps few;
}
