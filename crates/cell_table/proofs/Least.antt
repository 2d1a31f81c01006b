-- A first pair that has a time.
use Rattle.std.proofs.Common.{◌≡◌, ℕ, true, Option, Some, None, List, [], ◌∷◌, refl, sym, ◌∙◌, ap, arith}
use Rattle.std.specs.Prelude.{◌==◌, if◌then◌else◌}
use Rattle.std.proofs.lemmas.Bool.Decides.{nat_tests}
use Rattle.quantity.specs.declared.value.Value.{Value}
use Rattle.delay_lines.specs.Lists.{first_pair}
use Rattle.cell_table.specs.Table.{pair_at}

equal : (a b : ℕ) → a ≡ b → (a == b) ≡ true
equal a b e = grind (arith, nat_tests)

abbrev kept_at : ℕ → Option (ℕ × Value) → Option (ℕ × Value)
kept_at t None = None
kept_at t (Some p) = if p.0 == t then Some p else None

read : (t : ℕ) (ps : List (ℕ × Value)) → kept_at t (first_pair ps) ≡ pair_at t ps
read t [] = refl
read t (p ∷ ps) = refl

pub pair_there : (t m n : ℕ) (p : ℕ × Value) (ps : List (ℕ × Value)) → Some p ≡ first_pair ps → m ≡ p.0 → n ≡ t → m ≡ n → Some p ≡ pair_at t ps
pair_there t m n p ps is em en e =
    ap (λ b. if b then Some p else None) (sym (equal p.0 t (sym em ∙ e ∙ en))) ∙ ap (kept_at t) is ∙ read t ps
