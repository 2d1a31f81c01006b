-- Only what is written is read.
use Rattle.std.proofs.Common.{◌≡◌, ℕ, ◌≤◌, ◌==◌, Bool, true, false, cond, Option, Some, None, refl, sym, ap, ◌∙◌, arith, subst, nat_le, unsigned_abs, ◌^◌}
use Rattle.std.proofs.lemmas.Bool.Decides.{nat_tests}
use Rattle.std.proofs.lemmas.Slice.Eq.{bytes_eq-Decides}
use Rattle.std.specs.List.{slice_split}
use Rattle.std.specs.Option.{option_and_then}
use Rattle.std.specs.Prelude.{ℤ, codes}
use Rattle.std.specs.Str.{bytes_eq}
use Rattle.quantity.specs.declared.value.Value.{Value}
use Rattle.quantity.specs.declared.value.Value.TheVariants.{Undefined, Num}
use Rattle.quantity.specs.Roots.{IsBounded}
use Rattle.quantity.specs.Arithmetic.{value_in_bounds}
use Rattle.quantity.specs.Bytes.{Bytes}
use Rattle.quantity.specs.Literals.{signed_raw}
use Rattle.quantity.specs.ReadBack.{ReadsNothingElse}
use Rattle.quantity.specs.Times.{time_text, read_time, time_of, milliseconds_of, parsed_parts}
use Rattle.quantity.specs.ValueTexts.{text5, guessed_value}
use Rattle.quantity.specs.ReadBack.{read_text5}
use Rattle.quantity.specs.Written.{if_written, number_at_most}

abbrev value_or : {A : Type 0} → Option A → A → A
value_or None d = d
value_or (Some x) d = x

same_some : {A : Type 0} (x y : A) → Some x ≡ Some y → x ≡ y
same_some x y e = ap (λ o. value_or o x) e

-- a guess that was kept is written so
module _ {A : Type 0} (write : A → Bytes) (text : Bytes) (x : A) where
  kept_by : (y : A) (b : Bool) → bytes_eq (write y) text ≡ b → cond b (Some y) None ≡ Some x → (y ≡ x) × (write y ≡ text)
  kept_by y true e h = (same_some y x h, (bytes_eq-Decides (write y) text).0 e)
  kept_by y false e h = absurd cc

  pub kept : (o : Option A) → if_written write text o ≡ Some x → (o ≡ Some x) × (text ≡ write x)
  kept None h = absurd cc
  kept (Some y) h = let k = kept_by y (bytes_eq (write y) text) refl h in (ap Some k.0, sym k.1 ∙ ap write k.0)

bounded_by : (z : ℤ) (v : Value) (b : Bool) → nat_le (unsigned_abs z) (10 ^ 15) ≡ b → cond b (Some (Num z)) None ≡ Some v → IsBounded v
bounded_by z v true e h = let le : unsigned_abs z ≤ 10 ^ 15 = grind (arith, nat_tests) in subst IsBounded (same_some (Num z) v h) le
bounded_by z v false e h = absurd cc

number_bounded : (o : Option ℤ) (v : Value) → option_and_then value_in_bounds o ≡ Some v → IsBounded v
number_bounded None v h = absurd cc
number_bounded (Some z) v h = bounded_by z v (nat_le (unsigned_abs z) (10 ^ 15)) refl h

guess_bounded : (text : Bytes) (v : Value) (b : Bool) → cond b (Some Undefined) (option_and_then value_in_bounds (signed_raw 11 text)) ≡ Some v → IsBounded v
guess_bounded text v true h = subst IsBounded (same_some Undefined v h) tt
guess_bounded text v false h = number_bounded (signed_raw 11 text) v h

most_by : (most n t : ℕ) (b : Bool) → nat_le n most ≡ b → cond b (Some n) None ≡ Some t → t ≤ most
most_by most n t true e h = let le : n ≤ most = grind (arith, nat_tests) in subst (λ (m : ℕ). m ≤ most) (same_some n t h) le
most_by most n t false e h = absurd cc

at_most_is : (most t : ℕ) (o : Option ℕ) → option_and_then (number_at_most most) o ≡ Some t → t ≤ most
at_most_is most t None h = absurd cc
at_most_is most t (Some n) h = most_by most n t (nat_le n most) refl h

value_kept : (text : Bytes) (v : Value) → read_text5 text ≡ Some v → (text ≡ text5 v) × IsBounded v
value_kept text v h = let k = kept text5 text v (guessed_value text) h in (k.1, guess_bounded text v (bytes_eq text (codes "?")) k.0)

time_kept : (text : Bytes) (t : ℕ) → read_time text ≡ Some t → (text ≡ time_text t) × (t ≤ 719999998)
time_kept text t h =
    let k = kept time_text text t (time_of (slice_split (λ c. c == 58) text)) h in
    (k.1, at_most_is 719999998 t (option_and_then milliseconds_of (parsed_parts 3 (slice_split (λ c. c == 58) text))) k.0)

pub nothing_else : ReadsNothingElse
nothing_else = record { value = value_kept; time = time_kept }
