-- Functions of arguments, computed. The cell stands at row 4, column 5, plane 6, and its neighbours
-- give 1, ?, 1 and 0.
use Rattle.std.specs.Prelude.{◌≡◌, Some, [], ◌∷◌, pos, negsuc}
use Rattle.quantity.specs.declared.truth.Tri.TheVariants.{True, False, Undef}
use Rattle.quantity.specs.declared.value.Value.TheVariants.{Undefined, Num}
use Rattle.rule_tree.specs.declared.outcome.Answer.TheVariants.{Num as Number', Logic}
use Rattle.rule_tree.specs.declared.function.Function.TheVariants.{StateCount, CellPos, If, Ifu, Abs, Sign, Sqrt, Trunc, Fractional, Round, Min, Max, Remainder, Even, Odd, IsInt, IsUndefined}
use Rattle.rule_tree.specs.Sight.{Sight, whole}
use Rattle.rule_tree.specs.Functions.{call_meaning}

abbrev pub sight : Sight
sight =
    record {
      time = 0;
      place = record { row = 4; column = 5; plane = 6 };
      dims = 3;
      neighbours = (whole 1 ∷ []) ∷ (Undefined ∷ []) ∷ (whole 1 ∷ []) ∷ (whole 0 ∷ []) ∷ [];
      port = Undefined;
      variables = [];
    }

pub record CallsMeanWhatTheySay : Type 0 where
  pub count_of_ones : call_meaning StateCount (Number' (Num (pos 100000)) ∷ []) sight
      ≡ Some (Number' (Num (pos 200000)))
  pub count_of_others : call_meaning StateCount (Number' (Num (pos 700000)) ∷ []) sight
      ≡ Some (Number' (Num (pos 0)))
  pub count_of_none : call_meaning StateCount (Number' Undefined ∷ []) sight
      ≡ Some (Number' Undefined)
  pub row_of_cell : call_meaning CellPos (Number' (Num (pos 0)) ∷ []) sight
      ≡ Some (Number' (Num (pos 400000)))
  pub plane_of_cell : call_meaning CellPos (Number' (Num (pos 200000)) ∷ []) sight
      ≡ Some (Number' (Num (pos 600000)))
  pub no_fourth_coordinate : call_meaning CellPos (Number' (Num (pos 300000)) ∷ []) sight
      ≡ Some (Number' Undefined)
  pub no_coordinate_below_none : call_meaning CellPos (Number' (Num (negsuc 99999)) ∷ []) sight
      ≡ Some (Number' Undefined)
  pub no_half_coordinate : call_meaning CellPos (Number' (Num (pos 50000)) ∷ []) sight
      ≡ Some (Number' Undefined)
  pub if_true : call_meaning If (Logic True ∷ Number' (Num (pos 100000))
      ∷ Number' (Num (pos 200000)) ∷ []) sight ≡ Some (Number' (Num (pos 100000)))
  pub if_false : call_meaning If (Logic False ∷ Number' (Num (pos 100000))
      ∷ Number' (Num (pos 200000)) ∷ []) sight ≡ Some (Number' (Num (pos 200000)))
  pub if_undefined : call_meaning If
      (Logic Undef ∷ Number' (Num (pos 100000)) ∷ Number' (Num (pos 200000)) ∷ []) sight
      ≡ Some (Number' (Num (pos 200000)))
  pub arm_as_it_is : call_meaning If
      (Logic True ∷ Number' Undefined ∷ Number' (Num (pos 200000)) ∷ []) sight
      ≡ Some (Number' Undefined)
  pub ifu_true : call_meaning Ifu (Logic True ∷ Number' (Num (pos 100000))
      ∷ Number' (Num (pos 200000)) ∷ Number' (Num (pos 300000)) ∷ []) sight
      ≡ Some (Number' (Num (pos 100000)))
  pub ifu_false : call_meaning Ifu (Logic False ∷ Number' (Num (pos 100000))
      ∷ Number' (Num (pos 200000)) ∷ Number' (Num (pos 300000)) ∷ []) sight
      ≡ Some (Number' (Num (pos 200000)))
  pub ifu_undefined : call_meaning Ifu
      (Logic Undef ∷ Number' (Num (pos 100000)) ∷ Number' (Num (pos 200000))
      ∷ Number' (Num (pos 300000)) ∷ []) sight ≡ Some (Number' (Num (pos 300000)))
  pub size : call_meaning Abs (Number' (Num (negsuc 249999)) ∷ []) sight
      ≡ Some (Number' (Num (pos 250000)))
  pub sign_below_zero : call_meaning Sign (Number' (Num (negsuc 699999)) ∷ []) sight
      ≡ Some (Number' (Num (negsuc 99999)))
  pub sign_of_zero : call_meaning Sign (Number' (Num (pos 0)) ∷ []) sight
      ≡ Some (Number' (Num (pos 0)))
  pub root : call_meaning Sqrt (Number' (Num (pos 200000)) ∷ []) sight
      ≡ Some (Number' (Num (pos 141421)))
  pub no_root : call_meaning Sqrt (Number' (Num (negsuc 99999)) ∷ []) sight
      ≡ Some (Number' Undefined)
  pub whole_part : call_meaning Trunc (Number' (Num (negsuc 269999)) ∷ []) sight
      ≡ Some (Number' (Num (negsuc 199999)))
  pub fraction : call_meaning Fractional (Number' (Num (negsuc 269999)) ∷ []) sight
      ≡ Some (Number' (Num (negsuc 69999)))
  pub rounded_away : call_meaning Round (Number' (Num (negsuc 249999)) ∷ []) sight
      ≡ Some (Number' (Num (negsuc 299999)))
  pub rounded_down : call_meaning Round (Number' (Num (pos 249999)) ∷ []) sight
      ≡ Some (Number' (Num (pos 200000)))
  pub less : call_meaning Min (Number' (Num (pos 100000)) ∷ Number' (Num (pos 200000)) ∷ []) sight
      ≡ Some (Number' (Num (pos 100000)))
  pub less_than_none : call_meaning Min (Number' Undefined ∷ Number' (Num (pos 100000)) ∷ []) sight
      ≡ Some (Number' Undefined)
  pub greater : call_meaning Max (Number' (Num (pos 100000)) ∷ Number' (Num (pos 200000))
      ∷ []) sight ≡ Some (Number' (Num (pos 200000)))
  pub remainder : call_meaning Remainder
      (Number' (Num (negsuc 699999)) ∷ Number' (Num (pos 300000)) ∷ []) sight
      ≡ Some (Number' (Num (negsuc 99999)))
  pub remainder_of_none : call_meaning Remainder
      (Number' (Num (pos 700000)) ∷ Number' (Num (pos 0)) ∷ []) sight ≡ Some (Number' Undefined)
  pub even : call_meaning Even (Number' (Num (negsuc 399999)) ∷ []) sight ≡ Some (Logic True)
  pub not_even : call_meaning Even (Number' (Num (pos 150000)) ∷ []) sight ≡ Some (Logic False)
  pub odd : call_meaning Odd (Number' (Num (negsuc 299999)) ∷ []) sight ≡ Some (Logic True)
  pub not_odd : call_meaning Odd (Number' (Num (pos 200000)) ∷ []) sight ≡ Some (Logic False)
  pub whole_number : call_meaning IsInt (Number' (Num (pos 200000)) ∷ []) sight ≡ Some (Logic True)
  pub no_whole_number : call_meaning IsInt (Number' (Num (pos 150000)) ∷ []) sight
      ≡ Some (Logic False)
  pub unsure_whole_number : call_meaning IsInt (Number' Undefined ∷ []) sight ≡ Some (Logic Undef)
  pub undefined : call_meaning IsUndefined (Number' Undefined ∷ []) sight ≡ Some (Logic True)
  pub defined : call_meaning IsUndefined (Number' (Num (pos 100000)) ∷ []) sight
      ≡ Some (Logic False)

-- a number of arguments that no sound rule has
pub record MiscountedCallsMeanNothing : Type 0 where
  pub none : call_meaning IsUndefined [] sight ≡ Some (Number' Undefined)
  pub too_few : call_meaning Min (Number' (whole 1) ∷ []) sight ≡ Some (Number' Undefined)
  pub too_many : call_meaning Abs (Number' (whole 1) ∷ Number' (whole 2) ∷ []) sight
      ≡ Some (Number' Undefined)
  pub choice_without_its_last_arm : call_meaning Ifu
      (Logic True ∷ Number' (whole 1) ∷ Number' (whole 2) ∷ []) sight ≡ Some (Number' Undefined)
