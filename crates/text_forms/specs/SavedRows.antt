-- Texts of states that compute.
use Rattle.std.specs.Prelude.{◌≡◌, true, false, List, [], ◌∷◌, ◌++◌, ℤ, pos, negsuc, codes, Ok, Err}
use Rattle.atomic_face.specs.declared.class.Class.TheVariants.{Queue}
use Rattle.model_tree.specs.Examples.{twice_and_once}
use Rattle.run_model.specs.Cycle.{LeafState}
use Rattle.run_model.specs.WholeRun.{run}
use Rattle.run_model.specs.Examples.{with_port, tree_with_variables}
use Rattle.quantity.specs.Bytes.{Bytes}
use Rattle.text_forms.specs.Rows.{lines}
use Rattle.text_forms.specs.Models.{line}
use Rattle.atomic_face.specs.StateTable.{is_table}
use Rattle.atomic_face.specs.BoxStates.{is_box_state}
use Rattle.text_forms.specs.declared.refusal.StateRefusal.TheVariants.{BadStateLine, EndBefore}
use Rattle.text_forms.specs.StateText.{text_of_state}
use Rattle.text_forms.specs.StateOf.{state_of}

abbrev pub saved_state_text : Bytes → Bytes → Bytes
saved_state_text fourth more =
    lines
    (codes "state 1" ∷ codes "at 00:00:00:100"
    ∷ codes "cell line(0,0) 1.00000 0.00000 1 200 0.00000"
    ∷ fourth ∷ codes "cell line(0,2) 1.00000 0.00000 1 200 0.00000" ∷ [])
    ++ more

abbrev pub fourth : Bytes
fourth = codes "cell line(0,1) 1.00000 0.00000 1 200 0.00000"

abbrev pub line_saved : Bytes
line_saved = saved_state_text fourth (codes "end\n")

abbrev pub line_states : List LeafState
line_states = (run line [] 100 10000).left.leaf_states

abbrev pub queue_saved : Bytes
queue_saved =
    lines
    (codes "state 1" ∷ codes "at 00:00:00:000" ∷ codes "box g -1 700000 0"
    ∷ codes "box h -1 800000 0"
    ∷ codes "box q 2 -1 700000 700000" ∷ codes "end" ∷ [])

abbrev pub port_saved : Bytes
port_saved =
    lines
    (codes "state 1" ∷ codes "at 00:00:00:150"
    ∷ codes "cell g(0,0) 0.00000 1.00000 1 200 1.00000 1.00000 2.00000 1 200 2.00000" ∷ codes "end"
    ∷ [])

abbrev pub variables_saved : Bytes
variables_saved =
    lines (codes "state 1" ∷ codes "at 00:00:00:150"
    ∷ codes "cell g(0,0) 0.00000 1.00000 1 200 1.00000 2.00000 2.00000" ∷ codes "end" ∷ [])

abbrev pub table_settings : List ℤ
table_settings =
    pos 2 ∷ pos 0 ∷ pos 30 ∷ pos 100000 ∷ pos 1 ∷ pos 50 ∷ pos 200000 ∷ pos 0 ∷ pos 1 ∷ pos 0
    ∷ pos 900000 ∷ pos 0 ∷ []

pub record SavedAsSaid : Type 0 where
  pub written : text_of_state line 100 line_states ≡ line_saved
  pub read : state_of line_saved line 200 ≡ Ok (record { time = 100; states = line_states })
  pub end_before : state_of line_saved line 50 ≡ Err (EndBefore 2)
  pub no_end : state_of (saved_state_text fourth []) line 200 ≡ Err (BadStateLine 6)
  pub not_after : state_of (saved_state_text (codes "cell line(0,1) 1.00000 0.00000 1 100 0.00000")
      (codes "end\n")) line 200 ≡ Err (BadStateLine 4)
  pub torn : state_of (saved_state_text fourth (codes "end")) line 200 ≡ Err (BadStateLine 6)
  pub follows : state_of (saved_state_text fourth (codes "end\n\n")) line 200 ≡ Err (BadStateLine 7)
  pub sign : state_of (saved_state_text (codes "cell line(0,1) 1.00000 -0.00000 1 200 0.00000")
      (codes "end\n")) line 200 ≡ Err (BadStateLine 4)
  pub empty : state_of [] line 200 ≡ Err (BadStateLine 1)
  pub boxes : text_of_state twice_and_once 0 (run twice_and_once [] 0 10000).left.leaf_states
      ≡ queue_saved
  pub boxes_read : state_of queue_saved twice_and_once 2000
      ≡ Ok (record { time = 0; states = (run twice_and_once [] 0 10000).left.leaf_states })
  pub ports : text_of_state with_port 150 (run with_port [] 150 10000).left.leaf_states ≡ port_saved
  pub ports_read : state_of port_saved with_port 150
      ≡ Ok (record { time = 150; states = (run with_port [] 150 10000).left.leaf_states })
  pub variables : text_of_state tree_with_variables 150
      (run tree_with_variables [] 150 10000).left.leaf_states ≡ variables_saved
  pub two_lists : state_of variables_saved with_port 200 ≡ Err (BadStateLine 3)
  pub idle : is_box_state Queue [] (pos 0 ∷ negsuc 0 ∷ []) ≡ true
  pub idle_with_value : is_box_state Queue [] (pos 0 ∷ negsuc 0 ∷ pos 5 ∷ []) ≡ false
  pub hold : is_table table_settings (pos 0 ∷ pos 30 ∷ pos 0 ∷ []) ≡ true
  pub no_due : is_table table_settings (pos 0 ∷ negsuc 0 ∷ pos 0 ∷ []) ≡ false
