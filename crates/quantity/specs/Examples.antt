-- Values worked out by the definitions.
use Rattle.std.specs.Prelude.{◌≡◌, ℕ, ◌+◌, ◌^◌, ◌-◌, true, false, Some, None, [], ◌∷◌, replicate, pos, neg_ℤ, codes}
use Rattle.std.specs.List.{after_first, before_first}
use Rattle.quantity.specs.declared.bounds.TheConstants.{MAX_DELAY, MAX_RAW, MAX_TIME}
use Rattle.quantity.specs.declared.delay.DelayKind.TheVariants.{Transport, Inertial}
use Rattle.quantity.specs.declared.truth.Tri.TheVariants.{True, False, Undef}
use Rattle.quantity.specs.declared.value.Compare.TheVariants.{Equal, Unequal, Less, LessEqual, Greater, GreaterEqual}
use Rattle.quantity.specs.declared.value.Value.{Value}
use Rattle.quantity.specs.declared.value.Value.TheVariants.{Undefined, Num}
use Rattle.quantity.specs.Arithmetic.{sum_of, difference_of, product_of, quotient_of, remainder_of, least_of, greatest_of, negative_of, size_of, sign_of, root_of, whole_part, nearest_whole, fraction_of, comparison}
use Rattle.quantity.specs.ByteNames.{percent_sign}
use Rattle.quantity.specs.Bytes.{is_byte}
use Rattle.quantity.specs.Delay.{delay_list_after, put_pair}
use Rattle.quantity.specs.Digits.{signed_number, whole_number}
use Rattle.quantity.specs.Literals.{value_in}
use Rattle.quantity.specs.Names.{is_name}
use Rattle.quantity.specs.Times.{time_in, time_text, read_time}
use Rattle.quantity.specs.ValueTexts.{text5, value_text}
use Rattle.quantity.specs.ReadBack.{read_text5}

-- so many hundred-thousandths above zero
abbrev pub plus : ℕ → Value
plus n = Num (pos n)

-- so many hundred-thousandths below zero
abbrev pub minus : ℕ → Value
minus n = Num (neg_ℤ (pos n))

-- the greatest number
abbrev pub greatest : Value
greatest = plus MAX_RAW

-- the least number
abbrev pub least : Value
least = minus MAX_RAW

-- sums and differences: exact, up to the greatest number and down to the least
pub record SumsAsSaid : Type 0 where
  pub sum : sum_of (plus 150000) (minus 200000) ≡ Some (minus 50000)
  pub to_the_bound : sum_of (plus (MAX_RAW - 1)) (plus 1) ≡ Some greatest
  pub past_the_bound : sum_of greatest (plus 1) ≡ None
  pub below_the_bound : difference_of least (plus 1) ≡ None
  pub of_a_negative : difference_of (plus 150000) (minus 200000) ≡ Some (plus 350000)
  pub difference : difference_of greatest greatest ≡ Some (plus 0)
  pub with_undefined : sum_of greatest Undefined ≡ Some Undefined
  pub from_undefined : difference_of Undefined greatest ≡ Some Undefined

-- products, quotients and what is left: cut toward zero, up to the greatest number
pub record ProductsAsSaid : Type 0 where
  pub cut : product_of (plus 100001) (plus 100001) ≡ Some (plus 100002)
  pub cut_below_zero : product_of (minus 100001) (plus 100001) ≡ Some (minus 100002)
  pub too_small : product_of (minus 1) (plus 99999) ≡ Some (plus 0)
  pub to_the_bound : product_of (plus (10 ^ 10)) (plus (10 ^ 10)) ≡ Some greatest
  -- the product is 10 ^ 20 + 1, and what is cut off is what passes the bound
  pub cut_to_the_bound : product_of (plus 16764886321) (plus 5964848081) ≡ Some greatest
  pub little_past_the_bound : product_of (plus (10 ^ 10)) (plus (10 ^ 10 + 100000)) ≡ None
  pub past_the_bound : product_of greatest (plus 100001) ≡ None
  pub with_undefined : product_of Undefined greatest ≡ Some Undefined
  pub third : quotient_of (plus 100000) (plus 300000) ≡ Some (plus 33333)
  pub third_below_zero : quotient_of (plus 100000) (minus 300000) ≡ Some (minus 33333)
  pub third_of_a_negative : quotient_of (minus 100000) (plus 300000) ≡ Some (minus 33333)
  pub large : quotient_of greatest (plus 99999) ≡ None
  pub by_zero : quotient_of greatest (plus 0) ≡ Some Undefined
  pub by_undefined : quotient_of greatest Undefined ≡ Some Undefined
  pub rest : remainder_of (plus 750000) (minus 200000) ≡ plus 150000
  pub rest_below_zero : remainder_of (minus 750000) (plus 200000) ≡ minus 150000
  pub rest_of_five_by_three : remainder_of (minus 500000) (plus 300000) ≡ minus 200000
  pub rest_by_zero : remainder_of (plus 750000) (plus 0) ≡ Undefined

-- the functions of one number and of two, cut and rounded as they are
pub record FunctionsAsSaid : Type 0 where
  pub min : least_of (plus 1) (minus 2) ≡ minus 2
  pub max : greatest_of (plus 1) (minus 2) ≡ plus 1
  pub min_undefined : least_of (plus 1) Undefined ≡ Undefined
  pub max_undefined : greatest_of Undefined (plus 1) ≡ Undefined
  pub neg : negative_of (plus 150000) ≡ minus 150000
  pub neg_zero : negative_of (plus 0) ≡ plus 0
  pub abs : size_of least ≡ greatest
  pub sign : sign_of (minus 1) ≡ minus 100000
  pub sign_zero : sign_of (plus 0) ≡ plus 0
  pub sign_above : sign_of greatest ≡ plus 100000
  pub trunc : whole_part (minus 199999) ≡ minus 100000
  pub fractional : fraction_of (minus 150000) ≡ minus 50000
  pub half : nearest_whole (plus 50000) ≡ plus 100000
  pub less_than_half : nearest_whole (plus 49999) ≡ plus 0
  pub less_than_half_above_one : nearest_whole (plus 149999) ≡ plus 100000
  pub half_below_zero : nearest_whole (minus 50000) ≡ minus 100000
  pub two_and_a_half : nearest_whole (plus 250000) ≡ plus 300000
  pub at_the_bound : nearest_whole least ≡ least
  pub root_of_two : root_of (plus 200000) ≡ plus 141421
  pub root_of_the_smallest : root_of (plus 1) ≡ plus 316
  pub root_of_the_greatest : root_of greatest ≡ plus (10 ^ 10)
  pub root_below_zero : root_of (minus 1) ≡ Undefined
  pub root_of_undefined : root_of Undefined ≡ Undefined

-- comparisons, undefined at ?
pub record ComparisonsAsSaid : Type 0 where
  pub equal : comparison Equal (plus 1) (plus 1) ≡ True
  pub unequal : comparison Unequal (plus 1) (plus 1) ≡ False
  pub less : comparison Less (minus 2) (minus 1) ≡ True
  pub less_equal : comparison LessEqual (plus 1) (plus 1) ≡ True
  pub greater : comparison Greater (minus 2) (plus 1) ≡ False
  pub greater_equal : comparison GreaterEqual (plus 0) (minus 1) ≡ True
  pub one_undefined : comparison Equal (plus 1) Undefined ≡ Undef
  pub with_undefined : comparison Equal Undefined Undefined ≡ Undef

-- values as people write them, and texts that are none
pub record LiteralsAsSaid : Type 0 where
  pub undefined : value_in (codes "?") ≡ Some Undefined
  pub number : value_in (codes "1.5") ≡ Some (plus 150000)
  pub cut : value_in (codes "-1.2345678") ≡ Some (minus 123456)
  pub point_first : value_in (codes "+.5") ≡ Some (plus 50000)
  pub point_last : value_in (codes "7.") ≡ Some (plus 700000)
  pub zero_below : value_in (codes "-0") ≡ Some (plus 0)
  pub zero_above : value_in (codes "+0") ≡ Some (plus 0)
  pub ten_digits : value_in (codes "9999999999") ≡ Some (plus 999999999900000)
  pub eleven_digits : value_in (codes "12345678901") ≡ None
  pub no_digit : value_in (codes ".") ≡ None
  pub sign_alone : value_in (codes "-") ≡ None
  pub sign_and_point : value_in (codes "-.") ≡ None
  pub two_signs : value_in (codes "--1") ≡ None
  pub blank : value_in (codes " 1") ≡ None
  pub exponent : value_in (codes "1e5") ≡ None
  pub empty : value_in [] ≡ None

-- whole numbers of so many digits, and texts that are cut at a byte
pub record WholeNumbersAsSaid : Type 0 where
  pub three_digits : whole_number 3 (codes "359") ≡ Some 359
  pub a_digit_more : whole_number 3 (codes "0359") ≡ None
  pub no_digit : whole_number 3 [] ≡ None
  pub zeros_first : signed_number 7 (codes "-0012") ≡ Some (neg_ℤ (pos 12))
  pub plus_first : signed_number 7 (codes "+9999999") ≡ Some (pos 9999999)
  pub longest : signed_number 18 (codes "-999999999999999999") ≡ Some (neg_ℤ (pos (10 ^ 18 - 1)))
  pub too_long : signed_number 7 (codes "12345678") ≡ None
  pub blank : signed_number 7 (codes "- 1") ≡ None
  pub two_signs : signed_number 7 (codes "--1") ≡ None
  pub sign_alone : signed_number 7 (codes "-") ≡ None
  pub before_a_byte : before_first (is_byte percent_sign) (codes "a % b") ≡ codes "a "
  pub after_a_byte : after_first (is_byte percent_sign) (codes "a % b") ≡ codes " b"
  pub before_none : before_first (is_byte percent_sign) (codes "a") ≡ codes "a"
  pub after_none : after_first (is_byte percent_sign) (codes "a") ≡ []

-- values as they are written, and read back
pub record TextsAsSaid : Type 0 where
  pub five_decimals : text5 (minus 150000) ≡ codes "-1.50000"
  pub undefined : text5 Undefined ≡ codes "?"
  pub longest : text5 least ≡ codes "-10000000000.00000"
  -- cut to zero, a number has no sign
  pub cut_to_zero : value_text 0 3 (minus 40000) ≡ codes "  0"
  pub cut : value_text 1 0 (minus 199999) ≡ codes "-1.9"
  pub right : value_text 2 7 (plus 100500) ≡ codes "   1.00"
  pub whole : value_text 5 3 (plus 1) ≡ codes "0.00001"
  pub undefined_right : value_text 3 4 Undefined ≡ codes "   ?"
  pub read : read_text5 (codes "-1.50000") ≡ Some (minus 150000)
  pub few_decimals : read_text5 (codes "-1.5") ≡ None
  pub zero_first : read_text5 (codes "01.00000") ≡ None
  pub zero_below : read_text5 (codes "-0.00000") ≡ None
  pub too_large : read_text5 (codes "10000000000.00001") ≡ None

-- times as people write them, and as logs have them
pub record TimesAsSaid : Type 0 where
  pub short : time_in (codes "0:0:0:100") ≡ Some 100
  pub greatest_written : time_in (codes "99:59:59:999") ≡ Some MAX_DELAY
  pub sixty_minutes : time_in (codes "00:60:00:000") ≡ None
  pub sixty_seconds : time_in (codes "00:00:60:000") ≡ None
  pub three_hours_digits : time_in (codes "100:00:00:000") ≡ None
  pub three_parts : time_in (codes "1:2:3") ≡ None
  pub five_parts : time_in (codes "1:2:3:4:5") ≡ None
  pub no_digits : time_in (codes ":0:0:0") ≡ None
  pub text : time_text MAX_DELAY ≡ codes "99:59:59:999"
  pub longest : time_text MAX_TIME ≡ codes "199:59:59:998"
  pub zero : time_text 0 ≡ codes "00:00:00:000"
  pub read : read_time (codes "199:59:59:998") ≡ Some MAX_TIME
  pub not_written_so : read_time (codes "0:0:0:100") ≡ None
  pub too_late : read_time (codes "199:59:59:999") ≡ None

-- names, and texts that are none
pub record NamesAsSaid : Type 0 where
  pub name : is_name (codes "life-rule") ≡ true
  pub marks : is_name (codes "_a.9-") ≡ true
  pub blank : is_name (codes "a b") ≡ false
  pub capital : is_name (codes "Life") ≡ false
  pub empty : is_name [] ≡ false
  pub longest : is_name (replicate 64 97) ≡ true
  pub too_long : is_name (replicate 65 97) ≡ false

-- pairs that are put into a list by their times, and results that wait
pub record PairsArePut : Type 0 where
  pub alone : put_pair 5 (plus 1) [] ≡ (5, plus 1) ∷ []
  pub first : put_pair 2 (plus 1) ((3, plus 2) ∷ (7, plus 3) ∷ [])
      ≡ (2, plus 1) ∷ (3, plus 2) ∷ (7, plus 3) ∷ []
  pub between : put_pair 5 (plus 1) ((3, plus 2) ∷ (7, plus 3) ∷ [])
      ≡ (3, plus 2) ∷ (5, plus 1) ∷ (7, plus 3) ∷ []
  pub last : put_pair 9 (plus 1) ((3, plus 2) ∷ (7, plus 3) ∷ [])
      ≡ (3, plus 2) ∷ (7, plus 3) ∷ (9, plus 1) ∷ []
  pub at_its_time : put_pair 7 (plus 1) ((3, plus 2) ∷ (7, plus 3) ∷ (8, plus 4) ∷ [])
      ≡ (3, plus 2) ∷ (7, plus 1) ∷ (8, plus 4) ∷ []
  pub by_transport : delay_list_after Transport ((3, plus 2) ∷ (7, plus 3) ∷ []) 3 (plus 1)
      ≡ (3, plus 1) ∷ (7, plus 3) ∷ []
  pub by_inertia : delay_list_after Inertial ((3, plus 2) ∷ (7, plus 3) ∷ []) 9 (plus 1)
      ≡ (9, plus 1) ∷ []
