-- Marks by their texts.
use Rattle.std.proofs.Common.{◌≡◌, ◌||◌, Bool, true, false, cond, Option, Some, List, [], ◌∷◌, refl, sym, ap, map}
use Rattle.std.proofs.lemmas.Slice.Eq.{bytes_eq-Decides}
use Rattle.std.specs.Bool.{then_some}
use Rattle.std.specs.List.{find}
use Rattle.std.specs.Option.{option_map}
use Rattle.std.specs.Str.{bytes_eq}
use Rattle.quantity.specs.Bytes.{Bytes, is_among}
use Rattle.rule_words.specs.declared.token.Mark.{Mark}
use Rattle.rule_words.specs.declared.token.Mark.TheVariants.{Question, OpenParenthesis, CloseParenthesis, OpenBrace, CloseBrace, Comma, Plus, Minus, Times, Over, Equal, Unequal, Less, LessEqual, Greater, GreaterEqual, Dollar, Tilde, Becomes, Semicolon}
use Rattle.rule_words.specs.Shown.{text_of}
use Rattle.rule_words.specs.Tokens.{marks}

abbrev all_marks : List Mark
all_marks =
    Question ∷ OpenParenthesis ∷ CloseParenthesis ∷ OpenBrace ∷ CloseBrace ∷ Comma ∷ Plus ∷ Minus ∷ Times ∷ Over ∷ Equal ∷ Unequal ∷ Less ∷ LessEqual ∷ Greater ∷ GreaterEqual ∷ Dollar
    ∷ Tilde ∷ Becomes ∷ Semicolon ∷ []

first_mark : (m : Mark) (o : Option Mark) (r : Bool) (w : Bytes) (b : Bool) → bytes_eq w (text_of m) ≡ b → option_map text_of o ≡ then_some r w → option_map text_of (cond b (Some m) o) ≡ then_some (b || r) w
first_mark m o r w true e rest = let same : w ≡ text_of m = (bytes_eq-Decides w (text_of m)).0 e in ap (λ t. Some t) (sym same)
first_mark m o r w false e rest = rest

found_in : (w : Bytes) (ms : List Mark) → option_map text_of (find (λ m. bytes_eq w (text_of m)) ms) ≡ then_some (is_among (map text_of ms) w) w
found_in w [] = refl
found_in w (m ∷ ms) = first_mark m (find (λ n. bytes_eq w (text_of n)) ms) (is_among (map text_of ms) w) w (bytes_eq w (text_of m)) refl (found_in w ms)

pub mark_read : (w : Bytes) → option_map text_of (find (λ m. bytes_eq w (text_of m)) all_marks) ≡ then_some (is_among marks w) w
mark_read w = found_in w all_marks
