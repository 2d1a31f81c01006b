-- The table of functions is the functions by their words.
use Rattle.std.proofs.Common.{◌≡◌, Bool, true, false, cond, Some, List, [], ◌∷◌, map, refl}
use Rattle.std.specs.List.{find}
use Rattle.std.specs.Option.{option_map}
use Rattle.std.specs.Str.{bytes_eq}
use Rattle.quantity.specs.Bytes.{Bytes}
use Rattle.rule_tree.specs.declared.function.Function.{Function}
use Rattle.rule_tree.specs.declared.function.TheConstants.Function.{ALL}
use Rattle.rule_tree.specs.Functions.{row}
use Rattle.rule_tree.specs.Phrases.{functions, looked_up}

abbrev worded : Function → Bytes × Function
worded f = ((row f).word, f)

found_worded : (fs : List Function) (w : Bytes) → find (λ f. bytes_eq (row f).word w) fs ≡ looked_up (map worded fs) w
found_worded [] w = refl
found_worded (f ∷ fs) w = go (bytes_eq (row f).word w) (found_worded fs w)
  where
    go : (b : Bool) → find (λ f. bytes_eq (row f).word w) fs ≡ looked_up (map worded fs) w → cond b (Some f) (find (λ f. bytes_eq (row f).word w) fs) ≡ option_map (λ (p : Bytes × Function). p.1) (cond b (Some (worded f)) (find (λ (p : Bytes × Function). bytes_eq p.0 w) (map worded fs)))
    go true h = refl
    go false h = h

pub functions_found : (w : Bytes) → find (λ f. bytes_eq (row f).word w) ALL ≡ looked_up functions w
functions_found w = found_worded ALL w
