-- Texts that stand in no table.
use Rattle.std.proofs.Common.{◌≡◌, Bool, true, false, cond, Some, None, List, [], ◌∷◌, refl, sym, ap, ◌∙◌}
use Rattle.std.specs.List.{find, AllByRecursion}
use Rattle.std.specs.Option.{option_map}
use Rattle.std.specs.Str.{bytes_eq}
use Rattle.quantity.specs.Bytes.{Bytes}
use Rattle.rule_tree.specs.Phrases.{looked_up}
use Rattle.rule_words.proofs.Sound.{same_bytes}

pub absent : {A : Type 0} (table : List (Bytes × A)) (w : Bytes) → AllByRecursion (λ (p : Bytes × A). bytes_eq p.0 w ≡ false) table → None ≡ looked_up table w
absent [] w h = refl
absent {A} (p ∷ ps) w h =
    absent ps w h.1 ∙ ap (λ b. option_map (λ (q : Bytes × A). q.1) (cond b (Some p) (find (λ (q : Bytes × A). bytes_eq q.0 w) ps))) (sym h.0)

pub other : (w a text : Bytes) → a ≡ text → false ≡ bytes_eq w a → bytes_eq text w ≡ false
other w a text same differs = go (bytes_eq text w) refl
  where
    go : (b : Bool) → bytes_eq text w ≡ b → bytes_eq text w ≡ false
    go false e = e
    go true e = e ∙ sym (differs ∙ ap (bytes_eq w) same ∙ ap (λ v. bytes_eq v text) (sym (same_bytes text w e)) ∙ ap (bytes_eq text) (same_bytes text w e) ∙ e)
