-- Numbers with a sign.
use Rattle.std.proofs.Common.{◌≡◌, ℕ, Bool, true, false, Option, Some, refl, sym, ap, ◌∙◌}
use Rattle.std.specs.Prelude.{ℤ, pos, neg_ℤ, if◌then◌else◌, codes}
use Rattle.std.specs.Bool.{then_some}
use Rattle.std.specs.Str.{bytes_eq}
use Rattle.std.specs.Option.{option_map}
use Rattle.quantity.specs.Bytes.{Bytes, begins_with}
use Rattle.quantity.specs.Digits.{signed_number, whole_number, with_sign_of, without_sign}
use Rattle.quantity.specs.Literals.{is_number_text, literal, raw_in, signed_raw, unsigned_raw, value_in}
use Rattle.quantity.specs.declared.value.Value.TheVariants.{Undefined, Num}

pub signed_raw-is : (most : ℕ) (text unsigned : Bytes) (n : ℕ) (z : ℤ) (b : Bool) → unsigned_raw most unsigned ≡ Some n → unsigned ≡ without_sign text → begins_with 45 text ≡ b → z ≡ (if b then neg_ℤ (pos n) else pos n) → Some z ≡ signed_raw most text
signed_raw-is most text unsigned n z b e f g h =
    ap (λ x. Some x) (h ∙ ap (λ c. if c then neg_ℤ (pos n) else pos n) (sym g))
    ∙ ap (option_map (λ n. with_sign_of text (pos n))) (sym e ∙ ap (unsigned_raw most) f)

pub signed_number-is : (most : ℕ) (text unsigned : Bytes) (n : ℕ) (z : ℤ) (b : Bool) → whole_number most unsigned ≡ Some n → unsigned ≡ without_sign text → begins_with 45 text ≡ b → z ≡ (if b then neg_ℤ (pos n) else pos n) → Some z ≡ signed_number most text
signed_number-is most text unsigned n z b e f g h =
    ap (λ x. Some x) (h ∙ ap (λ c. if c then neg_ℤ (pos n) else pos n) (sym g))
    ∙ ap (option_map (λ n. with_sign_of text (pos n))) (sym e ∙ ap (whole_number most) f)

by_form : (b : Bool) (text unsigned : Bytes) → option_map (λ n. Num (with_sign_of text n)) (then_some b (pos (raw_in unsigned))) ≡ option_map Num (option_map (λ n. with_sign_of text (pos n)) (then_some b (raw_in unsigned)))
by_form true text unsigned = refl
by_form false text unsigned = refl

-- a literal is a number of at most ten digits before its point
literal-is : (text : Bytes) → literal text ≡ option_map Num (signed_raw 10 text)
literal-is text = by_form (is_number_text 10 (without_sign text)) text (without_sign text)

-- a text that is no `?` has the value of its number
pub value_in-number : (text : Bytes) (found : Option ℤ) (asked : Bool) → asked ≡ bytes_eq text (codes "?") → asked ≡ false → found ≡ signed_raw 10 text → option_map Num found ≡ value_in text
value_in-number text found asked is not_asked number =
    ap (option_map Num) number ∙ sym (literal-is text) ∙ ap (λ b. if b then Some Undefined else literal text) (sym not_asked ∙ is)
