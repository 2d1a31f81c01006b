-- Runs of cell groups, from whole files.
use Rattle.std.specs.Prelude.{◌≡◌, List, [], ◌∷◌, ◌++◌, take, drop, codes}
use Rattle.quantity.specs.Bytes.{Bytes}
use Rattle.model_tree.specs.Tree.{Word}
use Rattle.model_text.specs.Models.{line_model, port_model, cell_model, with_line}
use Rattle.model_text.specs.LifeModel.{life_model}
use Rattle.text_forms.specs.Rows.{line_log, line_states}
use Rattle.answer_model.specs.WholeFiles.{to, file_of_lines, model, model_and, just_model, log, shows, complains, y, x, s}
use Rattle.answer_model.specs.declared.status.Status.TheVariants.{ModelRefused, NoTrueRule, Overflow, BadDelay, TooManyCycles}

-- ---- a ring of three cells

abbrev pub both_states : Bytes
both_states = take 135 line_log ++ take 153 line_states ++ drop 135 line_log ++ drop 153 line_states

-- ---- two cells that see each other only

abbrev pub two_cells : List Bytes
two_cells =
    with_line 14 (codes "rule : 1 100 { truecount = 2 }")
    (with_line 11 (codes "initialrowvalue : 0 01")
    (with_line 9 (codes "neighbors : line(0,-1) line(0,1)")
    (with_line 5 (codes "dim : (1,2)") line_model)))

abbrev pub left_cell : Bytes
left_cell = codes "line(0,0)"

abbrev pub right : Bytes
right = codes "line(0,1)"

abbrev pub third : Bytes
third = codes "line(0,2)"

abbrev pub two_log : List Bytes
two_log =
    y (codes "000") left_cell (codes "0") ∷ y (codes "000") right (codes "1")
    ∷ s (codes "000") left_cell (codes "1") (codes "00:00:00:100")
    ∷ s (codes "000") right (codes "0") (codes "00:00:00:100")
    ∷ y (codes "100") left_cell (codes "1")
    ∷ y (codes "100") right (codes "0")
    ∷ s (codes "100") left_cell (codes "0") (codes "00:00:00:200")
    ∷ s (codes "100") right (codes "1") (codes "00:00:00:200") ∷ []

-- ---- cells that see the one to their right

abbrev pub one_sided : List Bytes
one_sided =
    with_line 14 (codes "rule : { (0,1) } 100 { not isundefined((0,1)) }")
    (with_line 11 (codes "initialrowvalue : 0 001")
    (with_line 9 (codes "neighbors : line(0,1)")
    (with_line 8 (codes "border : nowrapped") line_model)))

abbrev pub one_sided_log : List Bytes
one_sided_log =
    y (codes "000") left_cell (codes "0") ∷ y (codes "000") right (codes "0")
    ∷ y (codes "000") third (codes "1")
    ∷ s (codes "000") left_cell (codes "0") (codes "...")
    ∷ s (codes "000") right (codes "1") (codes "00:00:00:100")
    ∷ s (codes "000") third (codes "1") (codes "...")
    ∷ y (codes "100") right (codes "1")
    ∷ s (codes "100") left_cell (codes "1") (codes "00:00:00:200")
    ∷ s (codes "100") right (codes "1") (codes "...")
    ∷ y (codes "200") left_cell (codes "1") ∷ s (codes "200") left_cell (codes "1") (codes "...")
    ∷ []

-- ---- a corner: eight neighbours of which five are outside

abbrev pub corner : List Bytes
corner =
    take 15 (with_line 9 (codes "border : nowrapped") (life_model (codes "2") []))
    ++ codes "rule : { undefcount } 100 { t }" ∷ []

abbrev pub of_corner : Bytes → Bytes → List Bytes
of_corner time v =
    y time (codes "life(0,0)") v ∷ y time (codes "life(0,1)") v ∷ y time (codes "life(1,0)") v
    ∷ y time (codes "life(1,1)") v ∷ []

-- ---- one cell that takes values at a port

abbrev pub events : List Bytes → Word × Bytes
events ls = file_of_lines (codes "e") ls

abbrev pub model_and_events : List Word
model_and_events = codes "m.ma" ∷ codes "e" ∷ []

abbrev pub cell : Bytes → Bytes → Bytes
cell time v = y time (codes "g(0,0)") v

abbrev pub on_off : Word × Bytes
on_off = events (codes "00:00:00:010 p 1" ∷ codes "00:00:00:050 p 0" ∷ [])

abbrev pub inertial : List Bytes
inertial = with_line 8 (codes "delay : inertial") port_model

abbrev pub with_port_rules : List Bytes
with_port_rules =
    take 13 port_model ++ codes "portInTransition : v@g(0,0) pr" ∷ drop 13 port_model
    ++ codes "[pr]" ∷ codes "rule : { portValue(thisPort) } { 110 - time } { t }" ∷ []

abbrev pub two_events : List Bytes
two_events = codes "00:00:00:010 p 1" ∷ codes "00:00:00:060 p 2" ∷ []

abbrev pub out_of_order : Word × Bytes
out_of_order =
    events (codes "00:00:00:050 p 2" ∷ codes "00:00:00:010 p 1" ∷ codes "00:00:00:050 p 3"
    ∷ codes "00:00:00:051 p 4" ∷ [])

abbrev pub taken_in_order : List Bytes
taken_in_order =
    cell (codes "000") (codes "0") ∷ s (codes "000") (codes "g(0,0)") (codes "0") (codes "...")
    ∷ x (codes "010") (codes "1")
    ∷ s (codes "010") (codes "g(0,0)") (codes "1") (codes "00:00:00:110")
    ∷ x (codes "050") (codes "2") ∷ x (codes "050") (codes "3")
    ∷ s (codes "050") (codes "g(0,0)") (codes "3") (codes "00:00:00:110") ∷ []

-- ---- one cell that sees itself

abbrev pub by_rule : Bytes → List Bytes
by_rule rule = cell_model [] (rule ∷ [])

abbrev pub flips : List Bytes
flips = by_rule (codes "rule : { 1 - (0,0) } 0 { t }")

abbrev pub has_no_rule : List Bytes
has_no_rule = by_rule (codes "rule : 1 100 { (0,0) > ? }")

abbrev pub flip_rows : List Bytes
flip_rows =
    cell (codes "000") (codes "0") ∷ cell (codes "000") (codes "1") ∷ cell (codes "000") (codes "0")
    ∷ cell (codes "000") (codes "1") ∷ cell (codes "000") (codes "0") ∷ []

-- ---- three cells, the middle one in two zones: the first holds

abbrev pub two_zones : List Bytes
two_zones =
    codes "[top]" ∷ codes "components : line" ∷ codes "[line]" ∷ codes "type : cell"
    ∷ codes "dim : (1,3)" ∷ codes "neighbors : line(0,0)"
    ∷ codes "initialvalue : 0" ∷ codes "localtransition : r" ∷ codes "zone : a { (0,0)..(0,1) }"
    ∷ codes "zone : b { (0,1) }" ∷ codes "[r]" ∷ codes "rule : 0 100 { t }"
    ∷ codes "[a]" ∷ codes "rule : 1 100 { t }" ∷ codes "[b]" ∷ codes "rule : 2 100 { t }" ∷ []

abbrev pub two_zones_log : List Bytes
two_zones_log =
    y (codes "000") left_cell (codes "0") ∷ y (codes "000") right (codes "0")
    ∷ y (codes "000") third (codes "0")
    ∷ y (codes "100") left_cell (codes "1") ∷ y (codes "100") right (codes "1") ∷ []

-- ---- three dimensions

abbrev pub solid : List Bytes
solid =
    codes "[top]" ∷ codes "components : g" ∷ codes "[g]" ∷ codes "type : cell"
    ∷ codes "dim : (1,2,2)" ∷ codes "initialvalue : 1"
    ∷ codes "initialcellsvalue : v.val" ∷ codes "localtransition : r" ∷ codes "[r]"
    ∷ codes "rule : 0 100 { t }" ∷ []

abbrev pub solid_values : Word × Bytes
solid_values = file_of_lines (codes "v.val") (codes "(0,0,1) = -0.4" ∷ codes "(0,1,1) = 12" ∷ [])

abbrev pub solid_frame : List Bytes
solid_frame =
    codes "Time: 00:00:00:000" ∷ codes "+------+" ∷ codes "|  0 12|" ∷ codes "+------+" ∷ [] ∷ []

-- a cell that sees itself, whose earlier pair is replaced, gives the value that it had, and is
-- woken by that too
abbrev pub sees_itself : List Bytes
sees_itself = with_line 9 (codes "neighbors : g(0,0)") inertial

abbrev pub woken_log : List Bytes
woken_log =
    y (codes "000") (codes "g(0,0)") (codes "0")
    ∷ s (codes "000") (codes "g(0,0)") (codes "0") (codes "...")
    ∷ s (codes "010") (codes "g(0,0)") (codes "1") (codes "00:00:00:110")
    ∷ s (codes "050") (codes "g(0,0)") (codes "0") (codes "00:00:00:150")
    ∷ y (codes "150") (codes "g(0,0)") (codes "0")
    ∷ s (codes "150") (codes "g(0,0)") (codes "0") (codes "...") ∷ []

pub record CellsRun : Type 0 where
  pub ring : to (codes "cdpp -m m.ma -t 00:00:00:100 -l log.txt") (model line_model)
      ≡ shows (codes "end 00:00:00:100 cycles 2") ((codes "log.txt", line_log) ∷ []) just_model
  pub ring_states : to (codes "cdpp -m m.ma -t 00:00:00:100 -l log.txt -L YS") (model line_model)
      ≡ shows (codes "end 00:00:00:100 cycles 2") ((codes "log.txt", both_states) ∷ []) just_model
  pub woken_once : to (codes "cdpp -m m.ma -t 00:00:00:100 -l log.txt -L YS") (model two_cells)
      ≡ shows (codes "end 00:00:00:100 cycles 2") (log two_log) just_model
  pub asymmetric : to (codes "cdpp -m m.ma -t 00:00:00:200 -l log.txt -L YS") (model one_sided)
      ≡ shows (codes "end 00:00:00:200 cycles 3") (log one_sided_log) just_model
  pub first_zone : to (codes "cdpp -m m.ma -t 00:00:00:100 -l log.txt") (model two_zones)
      ≡ shows (codes "end 00:00:00:100 cycles 2") (log two_zones_log) just_model
  pub corners : to (codes "cdpp -m m.ma -t 00:00:00:100 -l log.txt") (model corner)
      ≡ shows (codes "end 00:00:00:100 cycles 2")
      (log (of_corner (codes "000") (codes "0") ++ of_corner (codes "100") (codes "5")))
      just_model
  pub transport : to (codes "cdpp -m m.ma -t 00:00:00:200 -e e -l log.txt")
      (model_and port_model on_off)
      ≡ shows (codes "end 00:00:00:200 cycles 5")
      (log (cell (codes "000") (codes "0") ∷ cell (codes "110") (codes "1")
      ∷ cell (codes "150") (codes "0") ∷ [])) model_and_events
  pub inertial : to (codes "cdpp -m m.ma -t 00:00:00:200 -e e -l log.txt")
      (model_and inertial on_off)
      ≡ shows (codes "end 00:00:00:200 cycles 4")
      (log (cell (codes "000") (codes "0") ∷ cell (codes "150") (codes "0") ∷ []))
      model_and_events
  pub woken_by_the_same_value : to (codes "cdpp -m m.ma -t 00:00:00:200 -e e -l log.txt -L YS")
      (model_and sees_itself on_off)
      ≡ shows (codes "end 00:00:00:200 cycles 4") (log woken_log) model_and_events
  pub port_rules : to (codes "cdpp -m m.ma -t 00:00:00:200 -e e -l log.txt")
      (model_and with_port_rules (events two_events))
      ≡ shows (codes "end 00:00:00:200 cycles 4")
      (log (cell (codes "000") (codes "0") ∷ cell (codes "110") (codes "2") ∷ []))
      model_and_events
  pub bad_delay : to (codes "cdpp -m m.ma -t 00:00:00:200 -e e -l log.txt")
      (model_and with_port_rules (events (two_events ++ codes "00:00:00:120 p 3" ∷ [])))
      ≡ complains BadDelay (codes "bad delay: g(0,0) at 00:00:00:120: -10.00000")
      (log (cell (codes "000") (codes "0") ∷ cell (codes "110") (codes "2") ∷ []))
      model_and_events
  pub too_many : to (codes "cdpp -m m.ma -t 00:00:00:100 -l log.txt -c 5") (model flips)
      ≡ complains TooManyCycles (codes "too many cycles: limit 5 at 00:00:00:000")
      (log flip_rows) just_model
  pub no_rule : to (codes "cdpp -m m.ma -t 00:00:00:100 -l log.txt -o out.txt") (model has_no_rule)
      ≡ complains NoTrueRule (codes "no true rule: g(0,0) at 00:00:00:000")
      ((codes "log.txt", []) ∷ (codes "out.txt", []) ∷ []) just_model
  pub overflow : to (codes "cdpp -m m.ma -t 00:00:00:100 -l log.txt")
      (model (by_rule (codes "rule : { 100000 * 100001 } 100 { t }")))
      ≡ complains Overflow (codes "overflow: g(0,0) at 00:00:00:000")
      ((codes "log.txt", []) ∷ []) just_model
  pub greatest : to (codes "cdpp -m m.ma -t 00:00:00:100 -l log.txt")
      (model (by_rule (codes "rule : { 100000 * 100000 } 100 { t }")))
      ≡ shows (codes "end 00:00:00:100 cycles 2")
      (log (cell (codes "000") (codes "0") ∷ cell (codes "100") (codes "10000000000") ∷ []))
      just_model
  pub events_in_order : to (codes "cdpp -m m.ma -t 00:00:00:050 -e e -l log.txt -L YXS")
      (model_and port_model out_of_order)
      ≡ shows (codes "end 00:00:00:050 cycles 3") (log taken_in_order) model_and_events
  pub second_plane : to (codes "cdpp -m m.ma -t 00:00:00:000 -d f.txt -g g -f 1")
      (model_and solid solid_values)
      ≡ shows (codes "end 00:00:00:000 cycles 1") (file_of_lines (codes "f.txt") solid_frame ∷ [])
      (codes "m.ma" ∷ codes "v.val" ∷ [])
  pub third_plane : to (codes "cdpp -m m.ma -t 00:00:00:000 -d f.txt -g g -f 2")
      (model_and solid solid_values)
      ≡ complains ModelRefused (codes "model refused: line 0: 29 NoSuchPlane") []
      (codes "m.ma" ∷ codes "v.val" ∷ [])
