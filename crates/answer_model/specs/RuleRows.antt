-- Runs of three cells with other rules, other delays and cut files, from whole files.
use Rattle.std.specs.Prelude.{◌≡◌, List, [], ◌∷◌, ◌++◌, take, codes}
use Rattle.quantity.specs.Bytes.{Bytes}
use Rattle.model_text.specs.Models.{line_model, cell_model, with_line}
use Rattle.text_forms.specs.Rows.{lines, line_log}
use Rattle.answer_model.specs.Answer.{MadeFiles}
use Rattle.answer_model.specs.WholeFiles.{to, model, model_and, just_model, log, shows, complains, y}
use Rattle.answer_model.specs.CellRows.{left_cell, right, third, solid, solid_values}
use Rattle.answer_model.specs.declared.status.Status.TheVariants.{ModelRefused, NoTrueRule, Overflow, BadDelay}

abbrev pub asks : Bytes
asks = codes "cdpp -m m.ma -t 00:00:00:100 -l log.txt"

abbrev pub of_line : Bytes → Bytes → Bytes → Bytes → List Bytes
of_line time a b c = y time left_cell a ∷ y time right b ∷ y time third c ∷ []

-- the ring of three cells with this rule alone
abbrev pub ring_with_rule : Bytes → MadeFiles
ring_with_rule rule = model (take 13 line_model ++ rule ∷ [])

-- the first bytes of the ring's model
abbrev pub cut_to : Bytes → MadeFiles
cut_to bytes = (codes "m.ma", bytes) ∷ []

-- ---- three cells in a row: its ends change at 10 and at 30, and the middle one counts them

abbrev pub counting_line : Bytes → MadeFiles
counting_line delay =
    model
    (codes "[top]" ∷ codes "components : line" ∷ codes "[line]" ∷ codes "type : cell"
    ∷ codes "dim : (1,3)" ∷ codes "border : nowrapped" ∷ delay
    ∷ codes "neighbors : line(0,-1) line(0,1)" ∷ codes "initialvalue : 0"
    ∷ codes "localtransition : r" ∷ codes "[r]"
    ∷ codes "rule : 1 10 { cellpos(1) = 0 }" ∷ codes "rule : 1 30 { cellpos(1) = 2 }"
    ∷ codes "rule : { truecount } 100 { t }" ∷ [])

abbrev pub ends_change : List Bytes
ends_change =
    of_line (codes "000") (codes "0") (codes "0") (codes "0")
    ++ y (codes "010") left_cell (codes "1")
    ∷ y (codes "030") third (codes "1") ∷ []

abbrev pub asks_more : Bytes
asks_more = codes "cdpp -m m.ma -t 00:00:00:200 -l log.txt"

-- ---- limits

abbrev pub of_size : Bytes → MadeFiles
of_size dim =
    model (with_line 5 (codes "dim : " ++ dim) (cell_model [] (codes "rule : 0 100 { t }" ∷ [])))

-- ---- four cells in two planes

abbrev pub solid_log : List Bytes
solid_log =
    codes "Y / 00:00:00:000 / g(0,0,0) / out / 1.00000"
    ∷ codes "Y / 00:00:00:000 / g(0,0,1) / out / -0.40000"
    ∷ codes "Y / 00:00:00:000 / g(0,1,0) / out / 1.00000"
    ∷ codes "Y / 00:00:00:000 / g(0,1,1) / out / 12.00000" ∷ []

pub record RulesRun : Type 0 where
  pub turns : to asks (ring_with_rule (codes "rule : { 1 - (0,0) } 100 { undefcount = 0 }"))
      ≡ shows (codes "end 00:00:00:100 cycles 2")
      (log (of_line (codes "000") (codes "0") (codes "1") (codes "0")
      ++ of_line (codes "100") (codes "1") (codes "0") (codes "1"))) just_model
  pub no_rule : to asks (ring_with_rule (codes "rule : 0 100 { (0,0) > ? }"))
      ≡ complains NoTrueRule (codes "no true rule: line(0,0) at 00:00:00:000")
      ((codes "log.txt", []) ∷ []) just_model
  pub overflow : to asks (ring_with_rule (codes "rule : { 100000 * 100001 } 100 { t }"))
      ≡ complains Overflow (codes "overflow: line(0,0) at 00:00:00:000")
      ((codes "log.txt", []) ∷ []) just_model
  pub part_of_a_millisecond : to asks (ring_with_rule (codes "rule : 1 0.5 { t }"))
      ≡ complains BadDelay (codes "bad delay: line(0,0) at 00:00:00:000: 0.50000")
      ((codes "log.txt", []) ∷ []) just_model
  pub cut_before_the_rules : to asks (cut_to (take 217 (lines line_model)))
      ≡ complains ModelRefused (codes "model refused: line 12: 28 NoSection") [] just_model
  pub cut_in_a_rule : to asks (cut_to (take 250 (lines line_model)))
      ≡ complains ModelRefused (codes "model refused: line 14: 1 BadLine") [] just_model
  pub cut_behind_a_rule : to asks (cut_to (take 252 (lines line_model)))
      ≡ complains NoTrueRule (codes "no true rule: line(0,0) at 00:00:00:100")
      ((codes "log.txt", take 135 line_log) ∷ []) just_model
  pub inertial : to asks_more (counting_line (codes "delay : inertial"))
      ≡ shows (codes "end 00:00:00:200 cycles 4")
      (log (ends_change ++ y (codes "130") right (codes "2") ∷ [])) just_model
  pub transport : to asks_more (counting_line (codes "delay : transport"))
      ≡ shows (codes "end 00:00:00:200 cycles 5")
      (log (ends_change ++ y (codes "110") right (codes "1") ∷ y (codes "130") right (codes "2")
      ∷ [])) just_model
  pub too_large : to asks (of_size (codes "(1024,1025)"))
      ≡ complains ModelRefused (codes "model refused: line 3: 26 TooLarge") [] just_model
  pub planes : to (codes "cdpp -m m.ma -t 00:00:00:000 -l log.txt") (model_and solid solid_values)
      ≡ shows (codes "end 00:00:00:000 cycles 1") (log solid_log)
      (codes "m.ma" ∷ codes "v.val" ∷ [])
