-- Words, models, events and states that are refused, from whole files.
use Rattle.std.specs.Prelude.{◌≡◌, List, [], ◌∷◌, ◌++◌, take, codes}
use Rattle.quantity.specs.Bytes.{Bytes}
use Rattle.model_text.specs.Models.{line_model, port_model, cell_model}
use Rattle.answer_model.specs.ByWords.{usage}
use Rattle.answer_model.specs.Answer.{Answer}
use Rattle.answer_model.specs.WholeFiles.{to, file_of_lines, model, model_and, just_model, complains}
use Rattle.answer_model.specs.CellRows.{by_rule}
use Rattle.answer_model.specs.declared.status.Status.TheVariants.{Usage, Missing, ModelRefused, EventsRefused}

abbrev pub asks : Bytes
asks = codes "cdpp -m m.ma -t 00:00:00:100 -l log.txt"

abbrev pub with_events : Bytes → Answer
with_events line =
    to (codes "cdpp -m m.ma -t 00:00:00:100 -e e -l log.txt")
    (model_and port_model (file_of_lines (codes "e") (line ∷ [])))

abbrev pub refuses : Bytes → Answer
refuses line = complains ModelRefused (codes "model refused: line " ++ line) [] just_model

abbrev pub top : List Bytes → List Bytes
top ls = codes "[top]" ∷ ls

pub record FilesAreRefused : Type 0 where
  pub self_link : to asks
      (model (top (codes "components : q@queue" ∷ codes "link : out@q in@q" ∷ [])))
      ≡ refuses (codes "3: 15 SelfLink")
  pub pass_through : to asks
      (model (top
      (codes "components : q@queue" ∷ codes "in : a" ∷ codes "out : b" ∷ codes "link : a b"
      ∷ []))) ≡ refuses (codes "5: 16 PassThrough")
  pub no_box : to asks
      (model (top (codes "components : a@queue b@queue" ∷ codes "components : c@queue" ∷ [])))
      ≡ refuses (codes "3: 12 OutOfStock")
  pub no_class : to asks (model (top (codes "components : a@server" ∷ [])))
      ≡ refuses (codes "2: 11 UnknownClass")
  pub random : to asks (model (by_rule (codes "rule : { uniform(0,1) } 100 { t }")))
      ≡ refuses (codes "10: 21 RandomRefused")
  pub no_neighbour : to asks (model (by_rule (codes "rule : { (0,1) } 100 { t }")))
      ≡ refuses (codes "10: 23 NotANeighbour")
  pub sort : to asks (model (by_rule (codes "rule : { (0,0) + t } 100 { t }")))
      ≡ refuses (codes "10: 20 BadSort")
  pub function : to asks (model (by_rule (codes "rule : { power(2,3) } 100 { t }")))
      ≡ refuses (codes "10: 22 UnknownFunction")
  pub brace : to asks (model (by_rule (codes "rule : 1 100 { t"))) ≡ refuses (codes "10: 1 BadLine")
  pub empty : to asks (model []) ≡ refuses (codes "0: 3 NoTop")
  pub no_components : to asks (model (top (codes "components :" ∷ [])))
      ≡ refuses (codes "1: 6 MissingKey")
  pub no_variable : to asks
      (model (cell_model (codes "statevariables : n" ∷ [])
      (codes "rule : { $z } 100 { t }" ∷ []))) ≡ refuses (codes "11: 30 UnknownVariable")
  pub absent : to (codes "cdpp -m row1.ma -t 00:00:00:100 -l log.txt") (model line_model)
      ≡ complains Missing (codes "missing: row1.ma") [] (codes "row1.ma" ∷ [])
  pub no_values : to (codes "cdpp -m m.ma -t 00:00:00:100")
      (model (take 10 line_model ++ codes "initialmapvalue : v.map" ∷ codes "localtransition : r"
      ∷ codes "[r]" ∷ codes "rule : 0 100 { t }" ∷ []))
      ≡ complains Missing (codes "missing: v.map") [] (codes "m.ma" ∷ codes "v.map" ∷ [])
  pub no_end : to (codes "cdpp -m m.ma") (model line_model)
      ≡ complains Usage (codes "usage: " ++ usage) [] []
  pub too_small : to (codes "cdpp -G 4 -t 00:00:01:000") []
      ≡ complains Usage (codes "usage: " ++ usage) [] []
  pub no_input : with_events (codes "00:00:00:010 q 1")
      ≡ complains EventsRefused (codes "events refused: line 1: 2 UnknownPort") []
      (codes "m.ma" ∷ codes "e" ∷ [])
  pub no_time : with_events (codes "00:60:00:000 p 1")
      ≡ complains EventsRefused (codes "events refused: line 1: 1 BadEventLine") []
      (codes "m.ma" ∷ codes "e" ∷ [])
  pub no_events : to (codes "cdpp -m m.ma -t 00:00:00:100 -e e") (model port_model)
      ≡ complains Missing (codes "missing: e") [] (codes "m.ma" ∷ codes "e" ∷ [])
