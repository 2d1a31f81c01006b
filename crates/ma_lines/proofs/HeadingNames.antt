-- Names between brackets, and lines without a name.
use Rattle.std.proofs.Common.{◌≡◌, ◌+◌, Bool, true, cond, Some, None, [], ◌∷◌, ◌++◌, refl, sym, ap, ◌∙◌}
use Rattle.std.specs.List.{before_last}
use Rattle.std.specs.Str.{bytes_eq}
use Rattle.source_text.proofs.TupleParts.{before_the_last, same_bytes}
use Rattle.quantity.specs.Bytes.{Bytes, inside, is_byte}

closed : (rest inner : Bytes) (b : Bool) → before_last (is_byte 93) rest ≡ inner → bytes_eq rest (before_last (is_byte 93) rest ++ 93 ∷ []) ≡ b → b ≡ true
    → Some inner ≡ inside 91 93 (91 ∷ rest)
closed rest inner b e f g = sym (ap (λ x. cond x (Some (before_last (is_byte 93) rest)) None) (f ∙ g) ∙ ap (λ x. Some x) e)

pub inside-brackets : (text rest inner : Bytes) → text ≡ 91 ∷ rest → rest ≡ inner ++ 93 ∷ [] → Some inner ≡ inside 91 93 text
inside-brackets text rest inner begins ends =
    let is : before_last (is_byte 93) rest ≡ inner = ap (before_last (is_byte 93)) ends ∙ before_the_last 93 inner refl in
    closed rest inner _ is refl (same_bytes rest _ (ends ∙ ap (λ x. x ++ 93 ∷ []) (sym is)))
    ∙ ap (inside 91 93) (sym begins)
