-- Private: times of the usual form.
use Rattle.std.specs.Prelude.{◌≡◌, ℕ, ◌/◌, ◌%◌, get_or, length}
use Rattle.quantity.specs.Bytes.{Bytes}
use Rattle.quantity.specs.TimeBounds.{IsTime}

-- twelve bytes with a mark behind hours, minutes and seconds
pub record IsMarked (text : Bytes) : Type 0 where
  pub long : length text ≡ 12
  pub hours_end : get_or text 2 0 ≡ 58
  pub minutes_end : get_or text 5 0 ≡ 58
  pub seconds_end : get_or text 8 0 ≡ 58

-- a time of so many hours, minutes, seconds and milliseconds
pub record IsMadeOf (time hours minutes seconds milliseconds : ℕ) : Type 0 where
  pub is_time : IsTime time
  pub hours_are : time / 3600000 ≡ hours
  pub minutes_are : time / 60000 % 60 ≡ minutes
  pub seconds_are : time / 1000 % 60 ≡ seconds
  pub rest_is : time % 1000 ≡ milliseconds
