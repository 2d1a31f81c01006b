-- Lines of the usual form.
use Rattle.std.proofs.Common.{◌≡◌, ℕ, ◌≤◌, Bool, true, cond, Option, Some, None, refl, sym, ap, ◌∙◌, subst, arith, codes}
use Rattle.std.specs.Prelude.{IfSome}
use Rattle.std.specs.Option.{option_map}
use Rattle.std.specs.Str.{bytes_eq}
use Rattle.std.proofs.lemmas.Bool.Decides.{nat_tests}
use Rattle.quantity.specs.declared.value.Value.{Value}
use Rattle.quantity.specs.Bytes.{Bytes}
use Rattle.quantity.specs.Names.{is_name}
use Rattle.quantity.specs.TimeBounds.{IsTime}
use Rattle.quantity.specs.ReadBack.{read_text5}
use Rattle.quantity.proofs.Written.{and_true}
use Rattle.text_forms.specs.declared.letter.Letter.{Letter}
use Rattle.text_forms.specs.declared.letter.Letter.TheVariants.{S}
use Rattle.text_forms.specs.LogLine.{LeafName, LogLine, given, moved, is_leaf, is_letter, is_time, state_text}
use Rattle.drawlog_top.specs.Fronts.{front_with_rest, stroke, is_state_value, IsLineText}
use Rattle.drawlog_top.specs.Strict.{agrees, given_as, moved_as, read_next}
use Rattle.drawlog_top.proofs.StrictLemmas.{if_some}
use Rattle.drawlog_top.proofs.StrictLines.{next_by, state_fits, value_is}

-- the line, if there is one, is one of this text
abbrev pub AreOf : {A : Type 0} → (A → LogLine) → Option A → Bytes → Type 0
AreOf line_of result text = IfSome result (λ line. IsLineText text (line_of line))

if_fits : {A : Type 0} (line_of : A → LogLine) (result : Option A) (text : Bytes) (b : Bool) (l : LogLine) → option_map line_of result ≡ cond b (Some l) None → (b ≡ true → IsLineText text l) → AreOf line_of result text
if_fits line_of None text b l h k = tt
if_fits line_of (Some line) text b l h k = let e = if_some b l (line_of line) (sym h) in subst (IsLineText text) e.1 (k e.0)

time_fits : (t : ℕ) → IsTime t → is_time t ≡ true
time_fits t h = let le : t ≤ 719999998 = h in grind (arith, nat_tests)

pub given_in_front : {A : Type 0} (line_of : A → LogLine) (result : Option A) (letter : Letter) (t : ℕ) (l : LeafName) (port : Bytes) (v : Value) (text rest : Bytes)
    → option_map line_of result ≡ given_as letter t l port v → is_leaf l ≡ true → IsTime t → is_name port ≡ true → text ≡ stroke port rest → read_text5 rest ≡ Some v → AreOf line_of result (front_with_rest letter t l text)
given_in_front line_of result letter t l port v text rest h leaf time name cut read =
    let value = value_is rest v read in
    if_fits line_of result (front_with_rest letter t l text) (is_letter letter l) (given letter t l port v) h (λ fits. record {
      text_is = ap (front_with_rest letter t l) (cut ∙ ap (stroke port) value.0);
      is = and_true _ _ (and_true _ _ (and_true _ _ (and_true _ _ fits (time_fits t time)) leaf) name) value.1;
    })

pub moved_in_front : {A : Type 0} (line_of : A → LogLine) (result : Option A) (t : ℕ) (l : LeafName) (s : Option Value) (n : Option ℕ) (text rest : Bytes)
    → option_map line_of result ≡ moved_as t l s n → is_leaf l ≡ true → IsTime t → is_state_value s ≡ true → text ≡ stroke (state_text s) rest → read_next rest ≡ Some n → AreOf line_of result (front_with_rest S t l text)
moved_in_front line_of result t l s n text rest h leaf time state cut read =
    let next = next_by rest n (bytes_eq rest (codes "...")) refl read in
    if_fits line_of result (front_with_rest S t l text) (agrees l s) (moved t l s n) h (λ fits. record {
      text_is = ap (front_with_rest S t l) (cut ∙ ap (stroke (state_text s)) next.0);
      is = and_true _ _ (and_true _ _ (and_true _ _ (time_fits t time) leaf) (state_fits l s state fits)) next.1;
    })
