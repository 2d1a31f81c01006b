-- What the numbers are that the parameters of a class give.
use Rattle.std.proofs.Common.{◌≡◌, ◌⊎◌, inl, inr, ℕ, ◌^◌, ◌<◌, ◌≤◌, Option, Some, None, List, refl}
use Rattle.std.proofs.Common.{sym, subst, arith}
use Rattle.std.specs.Prelude.{true, nat_le, ℤ, pos, negsuc}
use Rattle.std.specs.List.{find}
use Rattle.std.specs.Option.{option_and_then, unwrap_or}
use Rattle.std.specs.Str.{bytes_eq}
use Rattle.std.proofs.lemmas.Bool.Decides.{nat_tests}
use Rattle.quantity.specs.Bytes.{Bytes}
use Rattle.quantity.specs.Digits.{whole_number}
use Rattle.quantity.specs.Literals.{value_in}
use Rattle.quantity.specs.Times.{time_in}
use Rattle.atomic_face.specs.declared.params.Param.{Param}
use Rattle.atomic_face.specs.Words.{word_of, is_value_word}
use Rattle.atomic_face.specs.Parameters.{Parameter, parameter, time_word, period_word, at_least_one}
use Rattle.atomic_face.specs.Parameters.{value_word, count_word, setting_of}
use Rattle.run_model.proofs.Basics.{none_some, then_there, map_there, on_there}
use Rattle.run_model.proofs.BoundedTexts.{value_bounded, time_early, whole_below}
use Rattle.saved_runs.proofs.Words.{value-word}

-- a word that is a time of at most 99:59:59:999
pub record IsTimeWord (w : ℤ) : Type 0 where
  pub time : ℕ
  pub is : w ≡ pos time
  pub early : time ≤ 359999999

-- a word that is none, or a number from 1
pub record IsCount (n : ℕ) (w : ℤ) : Type 0 where
  pub is : w ≡ pos n
  pub some : 1 ≤ n
  pub few : n ≤ 10 ^ 9

abbrev pub IsCountWord : ℤ → Type 0
IsCountWord w = (w ≡ negsuc 0) ⊎ ((n : ℕ) × IsCount n w)

-- what holds of each number that a parameter's value gives, and of the default
pub setting_is : (P : ℤ → Type 0) (ps : List Param) (p : Parameter)
    → ((text : Bytes) (w : ℤ) → p.word text ≡ Some w → P w) → P p.default → P (setting_of ps p)
setting_is P ps p each default = go (find (λ (e : Param). bytes_eq e.key p.key) ps)
  where
    given : (text : Bytes) (o : Option ℤ) → p.word text ≡ o → P (unwrap_or o p.default)
    given text None e = default
    given text (Some w) e = each text w e

    go : (o : Option Param)
        → P (unwrap_or (option_and_then (λ (e : Param). p.word e.value) o) p.default)
    go None = default
    go (Some e) = given e.value (p.word e.value) refl

time_given : (text : Bytes) (w : ℤ) → time_word text ≡ Some w → IsTimeWord w
time_given text w e =
    let p = map_there (λ n. pos n) (time_in text) w e in
    record { time = p.0; is = sym p.2; early = time_early text p.0 p.1 }

positive_is : (v w : ℤ) → at_least_one v ≡ Some w → v ≡ w
positive_is (pos n) w e = (then_there (nat_le 1 n) (pos n) w e).1
positive_is (negsuc n) w e = absurd (none_some e)

period_given : (text : Bytes) (w : ℤ) → period_word text ≡ Some w → IsTimeWord w
period_given text w e =
    let p = on_there at_least_one (time_word text) w e in
    subst IsTimeWord (positive_is p.0 w p.2) (time_given text p.0 p.1)

value_given : (text : Bytes) (w : ℤ) → value_word text ≡ Some w → is_value_word w ≡ true
value_given text w e =
    let p = map_there word_of (value_in text) w e in
    subst (λ w. is_value_word w ≡ true) p.2 (value-word p.0 (value_bounded text p.0 p.1))

count_given : (text : Bytes) (w : ℤ) → count_word text ≡ Some w → IsCountWord w
count_given text w e =
    let p = on_there (λ n. at_least_one (pos n)) (whole_number 9 text) w e in
    let q = then_there (nat_le 1 p.0) (pos p.0) w p.2 in
    inr (p.0, counted p.0 (sym q.1) q.0 (whole_below 9 text p.0 p.1))
  where
    counted : (n : ℕ) → w ≡ pos n → nat_le 1 n ≡ true → n < 10 ^ 9 → IsCount n w
    counted n is some few = record {
      is = is;
      some = grind (arith, nat_tests);
      few =
          omega (arith, few);
    }

pub time_of : (ps : List Param) (key : Bytes)
    → IsTimeWord (setting_of ps (parameter key time_word (pos 0)))
time_of ps key = setting_is IsTimeWord ps (parameter key time_word (pos 0)) time_given
    (record { time = 0; is = refl; early = omega arith })

pub period_of : (ps : List Param) (key : Bytes)
    → IsTimeWord (setting_of ps (parameter key period_word (pos 1000)))
period_of ps key = setting_is IsTimeWord ps (parameter key period_word (pos 1000)) period_given
    (record { time = 1000; is = refl; early = omega arith })

pub value_of : (ps : List Param) (key : Bytes) (default : ℤ) → is_value_word default ≡ true
    → is_value_word (setting_of ps (parameter key value_word default)) ≡ true
value_of ps key default h =
    setting_is (λ w. is_value_word w ≡ true) ps (parameter key value_word default) value_given h

pub count_of : (ps : List Param) (key : Bytes)
    → IsCountWord (setting_of ps (parameter key count_word (negsuc 0)))
count_of ps key = setting_is IsCountWord ps (parameter key count_word (negsuc 0)) count_given
    (inl refl)
