-- Tests of names, which stand behind references.
use Rattle.std.proofs.Common.{◌≡◌, suc, ◌+◌, Bool, true, false, not, cond, Some, None, List, [], ◌∷◌, length, refl, sym, ap, ◌∙◌}
use Rattle.std.specs.Prelude.{◌&&◌, ◌||◌, nat_lt}
use Rattle.std.specs.Borrow.{Bor}
use Rattle.std.specs.Str.{bytes_eq}
use Rattle.std.specs.List.{list_all, list_any, position, position_or_len}
use Rattle.quantity.specs.Bytes.{Bytes, has_repeat}
use Rattle.quantity.specs.Digits.{is_between}
use Rattle.quantity.specs.Names.{is_name}
use Rattle.atomic_face.specs.TableSettings.{are_states}
use Rattle.source_text.specs.Shown.{texts}

pub all_texts : (test : Bytes → Bool) (names : List (Bor Bytes)) → list_all (λ (r : Bor Bytes). test r.now) names ≡ list_all test (texts names)
all_texts test [] = refl
all_texts test (r ∷ rs) = ap (λ b. test r.now && b) (all_texts test rs)

pub any_texts : (test : Bytes → Bool) (names : List (Bor Bytes)) → list_any (λ (r : Bor Bytes). test r.now) names ≡ list_any test (texts names)
any_texts test [] = refl
any_texts test (r ∷ rs) = ap (λ b. test r.now || b) (any_texts test rs)

pub length_texts : (names : List (Bor Bytes)) → length (texts names) ≡ length names
length_texts [] = refl
length_texts (r ∷ rs) = ap suc (length_texts rs)

place_texts : (test : Bytes → Bool) (names : List (Bor Bytes)) → position_or_len (λ (r : Bor Bytes). test r.now) names ≡ position_or_len test (texts names)
place_texts test [] = refl
place_texts test (r ∷ rs) = ap (λ n. cond (not (test r.now)) (1 + n) 0) (place_texts test rs)

pub position_texts : (test : Bytes → Bool) (names : List (Bor Bytes)) → position (λ (r : Bor Bytes). test r.now) names ≡ position test (texts names)
position_texts test names =
    ap (λ n. cond (nat_lt n (length names)) (Some n) None) (place_texts test names)
    ∙ ap (λ m. cond (nat_lt (position_or_len test (texts names)) m) (Some (position_or_len test (texts names))) None) (sym (length_texts names))

pub are_states_by : (names : List (Bor Bytes)) → are_states (texts names) ≡ (is_between 1 64 (length names) && list_all (λ (r : Bor Bytes). is_name r.now) names && not (has_repeat (texts names)))
are_states_by names =
    ap (λ n. is_between 1 64 n && list_all is_name (texts names) && not (has_repeat (texts names))) (length_texts names)
    ∙ ap (λ b. is_between 1 64 (length names) && b && not (has_repeat (texts names))) (sym (all_texts is_name names))

repeat_by : (names rest : List (Bor Bytes)) (first : Bor Bytes) → names ≡ first ∷ rest → has_repeat (texts names) ≡ (list_any (λ (r : Bor Bytes). bytes_eq first.now r.now) rest || has_repeat (texts rest))
repeat_by names rest first e =
    ap (λ ns. has_repeat (texts ns)) e ∙ ap (λ b. b || has_repeat (texts rest)) (sym (any_texts (bytes_eq first.now) rest))

pub first_repeats : (names rest : List (Bor Bytes)) (first : Bor Bytes) (among : Bool) → names ≡ first ∷ rest → among ≡ list_any (λ (r : Bor Bytes). bytes_eq first.now r.now) rest → among ≡ true → among ≡ has_repeat (texts names)
first_repeats names rest first among e a t = t ∙ sym (repeat_by names rest first e ∙ ap (λ b. b || has_repeat (texts rest)) (sym a ∙ t))

pub first_is_alone : (names rest : List (Bor Bytes)) (first : Bor Bytes) (among later : Bool) → names ≡ first ∷ rest → among ≡ list_any (λ (r : Bor Bytes). bytes_eq first.now r.now) rest → among ≡ false → later ≡ has_repeat (texts rest) → later ≡ has_repeat (texts names)
first_is_alone names rest first among later e a f l = l ∙ sym (repeat_by names rest first e ∙ ap (λ b. b || has_repeat (texts rest)) (sym a ∙ f))
