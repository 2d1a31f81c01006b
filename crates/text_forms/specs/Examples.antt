-- Texts that compute.
use Rattle.std.specs.Prelude.{◌≡◌, Some, None, pos, negsuc, codes}
use Rattle.quantity.specs.declared.bounds.TheConstants.{MAX_DELAY, MAX_TIME}
use Rattle.quantity.specs.declared.value.Value.TheVariants.{Undefined, Num}
use Rattle.quantity.specs.ValueTexts.{text5, value_text}
use Rattle.quantity.specs.ReadBack.{read_text5}
use Rattle.quantity.specs.Times.{time_text, read_time, time_in}

pub record TextsAsSaid : Type 0 where
  pub five : text5 (Num (negsuc 149999)) ≡ codes "-1.50000"
  pub unknown : text5 Undefined ≡ codes "?"
  pub cut_to_zero : value_text 0 3 (Num (negsuc 39999)) ≡ codes "  0"
  pub in_places : value_text 2 6 (Num (negsuc 123455)) ≡ codes " -1.23"
  pub too_long : value_text 0 1 (Num (pos 1200000)) ≡ codes "12"
  pub last_time : time_text MAX_DELAY ≡ codes "99:59:59:999"
  pub small_time : time_text 100 ≡ codes "00:00:00:100"
  pub latest : time_text MAX_TIME ≡ codes "199:59:59:998"
  pub read : read_text5 (codes "-1.50000") ≡ Some (Num (negsuc 149999))
  pub no_sign : read_text5 (codes "-0.00000") ≡ None
  pub no_zeros : read_text5 (codes "01.50000") ≡ None
  pub four : read_text5 (codes "1.5000") ≡ None
  pub read_back : read_time (codes "99:59:59:999") ≡ Some MAX_DELAY
  pub minutes : read_time (codes "00:60:00:000") ≡ None
  pub short : read_time (codes "0:0:0:100") ≡ None
  pub parsed : time_in (codes "0:0:0:100") ≡ Some 100
  pub parsed_minutes : time_in (codes "00:60:00:000") ≡ None
