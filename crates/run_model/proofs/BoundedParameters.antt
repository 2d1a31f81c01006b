-- The settings that parameters of one number give are bounded.
use Rattle.std.proofs.Common.{◌≡◌, ℕ, ◌^◌, ◌≤◌, Option, Some, None, List, refl, subst, arith}
use Rattle.std.specs.Prelude.{nat_le, ℤ, pos, negsuc, IfSome}
use Rattle.std.specs.List.{find}
use Rattle.std.specs.Option.{option_map, option_and_then, unwrap_or}
use Rattle.std.specs.Str.{bytes_eq}
use Rattle.quantity.specs.declared.value.Value.TheVariants.{Num}
use Rattle.quantity.specs.Bytes.{Bytes}
use Rattle.quantity.specs.Literals.{value_in}
use Rattle.quantity.specs.Times.{time_in}
use Rattle.quantity.specs.TimeBounds.{IsDelay, IsTime}
use Rattle.atomic_face.specs.declared.params.Param.{Param}
use Rattle.atomic_face.specs.Words as W
use Rattle.atomic_face.specs.Words.{word_of, natural_in}
use Rattle.atomic_face.specs.Parameters.{Parameter, parameter, time_word, period_word, at_least_one, value_word, setting_of}
use Rattle.run_model.specs.ClassBounds.{IsValueWord}
use Rattle.run_model.proofs.Basics.{none_some, then_there, map_there, on_there}
use Rattle.run_model.proofs.BoundedTexts.{value_bounded, time_early}
use Rattle.run_model.proofs.BoxWords.{word-is}

-- ---- words

pub early_is_time : (t : ℕ) → IsDelay t → IsTime t
early_is_time t h = omega arith

-- a word that is a time is that of an end at most
abbrev pub IsTimeWord : ℤ → Type 0
IsTimeWord w = IfSome (W.time_of_word w) IsDelay

abbrev pub IsDelayWord : ℤ → Type 0
IsDelayWord w = IsDelay (natural_in w)

abbrev pub timed : Option ℕ → Option ℤ
timed o = option_map (λ n. pos n) o

pub timed_is : (o : Option ℕ) (w : ℤ) → ((t : ℕ) → o ≡ Some t → IsDelay t) → timed o ≡ Some w → IsTimeWord w × IsDelayWord w
timed_is o w h e =
    let p = map_there (λ n. pos n) o w e in
    subst (λ w. IsTimeWord w × IsDelayWord w) p.2 (h p.0 p.1, h p.0 p.1)

pub time_word_is : (text : Bytes) (w : ℤ) → time_word text ≡ Some w → IsTimeWord w × IsDelayWord w
time_word_is text w e = timed_is (time_in text) w (time_early text) e

positive_is : (v w : ℤ) → at_least_one v ≡ Some w → v ≡ w
positive_is (pos n) w e = (then_there (nat_le 1 n) (pos n) w e).1
positive_is (negsuc n) w e = absurd (none_some e)

pub period_word_is : (text : Bytes) (w : ℤ) → period_word text ≡ Some w → IsDelayWord w
period_word_is text w e =
    let p = on_there at_least_one (time_word text) w e in
    subst IsDelayWord (positive_is p.0 w p.2) (time_word_is text p.0 p.1).1

pub valued_is : (text : Bytes) (w : ℤ) → option_map word_of (value_in text) ≡ Some w → IsValueWord w
valued_is text w e =
    let p = map_there word_of (value_in text) w e in
    subst IsValueWord p.2 (word-is p.0 (value_bounded text p.0 p.1))

-- ---- parameters of one number

-- what holds of each number that a parameter's value gives, and of the default
pub setting_is : (P : ℤ → Type 0) (ps : List Param) (p : Parameter) → ((text : Bytes) (w : ℤ) → p.word text ≡ Some w → P w) → P p.default → P (setting_of ps p)
setting_is P ps p each default = go (find (λ (e : Param). bytes_eq e.key p.key) ps)
  where
    given : (text : Bytes) (o : Option ℤ) → p.word text ≡ o → P (unwrap_or o p.default)
    given text None e = default
    given text (Some w) e = each text w e

    go : (o : Option Param) → P (unwrap_or (option_and_then (λ (e : Param). p.word e.value) o) p.default)
    go None = default
    go (Some e) = given e.value (p.word e.value) refl

pub time_of : (ps : List Param) (key : Bytes) → IsTimeWord (setting_of ps (parameter key time_word (pos 0))) × IsDelayWord (setting_of ps (parameter key time_word (pos 0)))
time_of ps key = setting_is (λ w. IsTimeWord w × IsDelayWord w) ps (parameter key time_word (pos 0)) time_word_is (zero_early, zero_early)
  where
    zero_early : 0 ≤ 359999999
    zero_early = omega arith

pub value_of : (ps : List Param) (key : Bytes) (n : ℕ) → n ≤ 100000 → IsValueWord (setting_of ps (parameter key value_word (pos n)))
value_of ps key n h = setting_is IsValueWord ps (parameter key value_word (pos n)) valued_is (word-is (Num (pos n)) small)
  where
    small : n ≤ 10 ^ 15
    small = omega arith
