-- From what is read to what is started.
use Rattle.std.proofs.Common.{◌≡◌, ◌⊎◌, Option, None, List, [], ◌++◌, Result, Ok, Err, sym, ap, ◌∙◌, subst}
use Rattle.std.specs.Prelude.{IfSome}
use Rattle.std.proofs.lemmas.Option.{IfSome_then}
use Rattle.source_text.specs.Lines.{Files}
use Rattle.atomic_face.specs.declared.class.Class.{Class}
use Rattle.atomic_face.specs.StockView.{Stocked}
use Rattle.room_edge.specs.Faults.{ReadFaultCounted, WriteFaultCounted}
use Rattle.room_edge.specs.Outside.{Outside}
use Rattle.room_edge.specs.Only.{OnlyInput}
use Rattle.model_tree.specs.Tree.{Word, Tree, ins_of}
use Rattle.model_leaves.specs.declared.table.Model.{Model}
use Rattle.run_model.specs.Run.{Event}
use Rattle.event_list.specs.Events.{events_of}
use Rattle.text_forms.specs.StateOf.{Saved, state_of}
use Rattle.run_leaves.specs.Standing.{Standing}
use Rattle.model_read.specs.declared.refusal.ModelRefusal.{ModelRefusal}
use Rattle.model_read.specs.Read.{Reads}
use Rattle.model_text.specs.ModelOf.{ModelRead, model}
use Rattle.model_read.specs.declared.found.ReadModel.{ReadModel}
use Rattle.asked_words.specs.declared.asked.Asked as code
use Rattle.asked_words.specs.Shown.{text_of_name, asked_of, source_of}
use Rattle.answer_model.specs.declared.status.Status.{Status}
use Rattle.answer_model.specs.declared.status.Status.TheVariants.{NoMemory}
use Rattle.answer_model.specs.Answer.{Answer}
use Rattle.quantity.specs.Written.{for_ok}
use Rattle.answer_model.specs.Started.{Started, Stopped, bad_events, bad_state, there, by, model_found, drawing_of, model_read, inputs_read}
use Rattle.answer_model.specs.Cdpp.{stop_answer, start_answer, answer_of, answer}
use Rattle.answer_model.specs.Endings.{looked_for, LeadsTo, EndsWith}
use Rattle.answer_model.specs.Headline.{Begins, Writes}
use Rattle.answer_model.specs.Programs.{CdppEnds}
use Rattle.answer_model.proofs.Endings.{endings_follow}
use Rattle.answer_model.proofs.Stages.{then_leads, then_ends}
use Rattle.run_inputs.specs.declared.unread.Unread.{Unread}
use Rattle.run_inputs.specs.declared.unread.Unread.TheVariants as why
use Rattle.run_inputs.specs.Unread.{TellsUnread}
use Rattle.asked_run.specs.Starting.{tree_on, IsMadeOf}
use Rattle.cdpp_top.specs.Stages.{model_in, unread_model, started_from, with_events, with_model, ReadsRest, ReadsWithModel, ReadsWithEvents, ReadsStart}
use Rattle.run_inputs.specs.Read.{events_in, GoesOn, LooksFor, EndsUnread, ReadsEvents}
use Rattle.asked_run.specs.Stages.{state_in, ReadsState, StandsAt}
use Rattle.run_inputs.proofs.Going.{by_on, if_some_all, if_some_two, if_some_three}
use Rattle.cdpp_top.proofs.Models as models
use Rattle.cdpp_top.proofs.Models.{model_is, after, read_runs, read_stops}
use Rattle.run_inputs.proofs.NamedFiles.{named_begins}
use Rattle.asked_run.proofs.Started.{tree_made, stands_at}
use Rattle.run_inputs.proofs.Stops.{no_memory, no_line}
use Rattle.run_inputs.proofs.Tried.{begins_all, begins_more, tried_all}

-- ---- once there is a model

abbrev pub rest_answer : code.Asked → Files → Tree × List Word → Answer
rest_answer x files p = answer_of (with_model (asked_of x) files p)

abbrev pub last_answer : code.Asked → Files → Tree → List Event × List Word → Answer
last_answer x files tree q = answer_of (with_events (asked_of x) files tree q)

-- what is answered once there is a state too
abbrev pub run_answer : code.Asked → Tree → List Event → Option Saved × List Word → Answer
run_answer x tree events r = start_answer (started_from (asked_of x) tree events r)

run_goes : (x : code.Asked) (tree : Tree) (events : List Event) → GoesOn (run_answer x tree events)
run_goes x tree events r = begins_all r.1

last_is : (x : code.Asked) (files : Files) (tree : Tree) (q : List Event × List Word) → last_answer x files tree q ≡ by stop_answer (state_in tree x.end files q.1 (text_of_name x.given.state)) (run_answer x tree q.0)
last_is x files tree q = by_on stop_answer (state_in tree x.end files q.1 (text_of_name x.given.state)) (λ r. Ok (started_from (asked_of x) tree q.0 r)) start_answer

last_goes : (x : code.Asked) (files : Files) (tree : Tree) → GoesOn (last_answer x files tree)
last_goes x files tree q =
    subst (λ (y : Answer). Begins q.1 y.inputs) (sym (last_is x files tree q))
    (named_begins (λ bytes. there (state_of bytes tree x.end)) bad_state None files q.1 (text_of_name x.given.state) (run_answer x tree q.0) (run_goes x tree q.0))

rest_is : (x : code.Asked) (files : Files) (p : Tree × List Word) → rest_answer x files p ≡ by stop_answer (events_in (ins_of p.0) files p.1 (text_of_name x.given.events)) (last_answer x files p.0)
rest_is x files p = by_on stop_answer (events_in (ins_of p.0) files p.1 (text_of_name x.given.events)) (with_events (asked_of x) files p.0) start_answer

rest_begins : (x : code.Asked) (files : Files) → models.Begun (rest_answer x files)
rest_begins x files tree looked =
    subst (λ (y : Answer). Begins looked y.inputs) (sym (rest_is x files (tree, looked)))
    (named_begins (λ bytes. events_of bytes (ins_of tree)) bad_events [] files looked (text_of_name x.given.events) (last_answer x files tree) (last_goes x files tree))

answer_is : (x : code.Asked) (files : Files) (classes : List Class) → (let read = model_in (asked_of x).source classes (drawing_of (asked_of x).frames) files in answer_of (inputs_read (asked_of x) files classes) ≡ after read.found read.looked (rest_answer x files))
answer_is x files classes =
    by_on stop_answer (model_read (asked_of x) files classes) (with_model (asked_of x) files) start_answer ∙ ap (λ r. by stop_answer r (rest_answer x files)) (model_is (asked_of x) files classes)

-- ---- one part after another

module _ {A X : Type 0} (stands : X → Started → Type 0) (gives : List Word → Result (A × List Word) Stopped) (next : A × List Word → Result Started Stopped) (goes : GoesOn (λ q. answer_of (next q))) where
  -- it stops
  pub part_stops : (why : Unread) (old new : Outside) → EndsUnread gives why old new → ReadsRest {A = X} stands (λ inputs. for_ok (gives inputs) next) old new (Err why)
  part_stops why old new ends = λ inputs after s tells.
      subst (λ (y : Answer). EndsWith y (looked_for inputs) old after s) (sym (by_on stop_answer (gives inputs) next start_answer)) (ends inputs (λ q. answer_of (next q)) goes after s tells)

  -- it goes on
  pub part_goes : (x : A) (old mid new : Outside) (result : Result X Unread) → ((inputs : List Word) → (more : List Word) × (gives inputs ≡ Ok (x, more)) × LooksFor inputs more old mid)
      → ReadsRest stands (λ inputs. next (x, inputs)) mid new result → ReadsRest stands (λ inputs. for_ok (gives inputs) next) old new result
  part_goes x old mid new (Ok r) first later = λ inputs.
      let e = first inputs in
      let f = later e.0 in
      let begins : Begins e.0 f.0.inputs = subst (λ (q : Result Started Stopped). Begins e.0 (answer_of q).inputs) f.1 (goes (x, e.0)) in (
        f.0,
        ap (λ q. for_ok q next) e.1 ∙ f.1,
        f.2,
        λ a whole. then_leads a (looked_for inputs) (looked_for e.0) (looked_for f.0.inputs) old mid new (e.2 a (begins_more e.0 f.0.inputs a.inputs begins whole)) (f.3 a whole),
      )
  part_goes x old mid new (Err why) first later = λ inputs after s tells.
      let e = first inputs in
      let y = answer_of (next (x, e.0)) in
      let is : for_ok (gives inputs) next ≡ next (x, e.0) = ap (λ q. for_ok q next) e.1 in
      subst (λ (q : Result Started Stopped). EndsWith (answer_of q) (looked_for inputs) old after s) (sym is)
      (then_ends y (looked_for inputs) (looked_for e.0) old mid after s (e.2 y (goes (x, e.0))) (later e.0 after s tells))

-- ---- the model

abbrev pub ReadsAsked : code.Asked → List Class → List Stocked → Result ReadModel ModelRefusal → Outside → Outside → Type 0
ReadsAsked x classes stock result old new = Reads (model_in (source_of x.source) classes (drawing_of (asked_of x).frames)) (drawing_of (asked_of x).frames) stock result old new

-- whoever tells why there is nothing to start ends the program
abbrev pub StopsSo : code.Asked → List Class → Unread → Outside → Outside → Files → Type 0
StopsSo x classes why old new files =
    (after : Outside) (status : Status) → TellsUnread why new after status → EndsWith (answer_of (inputs_read (asked_of x) files classes)) (looked_for []) old after status

-- there is none
pub stops_at_model : (x : code.Asked) (classes : List Class) (stock : List Stocked) (reason : ModelRefusal) (old mid : Outside) → ReadsAsked x classes stock (Err reason) old mid
    → IfSome old.files (StopsSo x classes (unread_model reason) old mid)
stops_at_model x classes stock reason old mid reads =
    let a = asked_of x in
    let definition = model_in (source_of x.source) classes (drawing_of a.frames) in
    if_some_two old.files _ _ (StopsSo x classes (unread_model reason) old mid)
    (λ files gives tried after status tells.
    subst (λ (y : Answer). EndsWith y (looked_for []) old after status) (sym (answer_is x files classes))
    (read_stops ReadModel reason stock (definition files).found (definition files).looked (rest_answer x files) old mid after status (rest_begins x files) gives tried reads.counted reads.only reads.faults tells))
    reads.found reads.tried

module _ {X : Type 0} (stands : X → Started → Type 0) (x : code.Asked) (classes : List Class) (stock : List Stocked) (read : ReadModel) (old mid new : Outside) (reads : ReadsAsked x classes stock (Ok read) old mid) where
  abbrev tree : Tree
  tree = tree_on read.model stock

  abbrev definition : Files → ModelRead
  definition = model_in (source_of x.source) classes (drawing_of (asked_of x).frames)

  -- what is left was read after it
  rest_read : (files : Files) (result : Result X Unread) → (definition files).found ≡ model tree → mid.tried ≡ old.tried ++ (definition files).looked → ReadsRest stands (λ inputs. with_model (asked_of x) files (tree, inputs)) mid new result
      → ReadsStart stands (inputs_read (asked_of x) files classes) old new result
  rest_read files (Ok r) gives tried later =
      let a = asked_of x in
      let first = (definition files).looked in
      let f = later first in
      let s = f.0 in
      let y = start_answer s in
      let found : model_read a files classes ≡ Ok (tree, first) = model_is a files classes ∙ ap (λ f. model_found f first) gives in
      let all : inputs_read a files classes ≡ Ok s = ap (λ q. for_ok q (with_model a files)) found ∙ f.1 in
      let begins : Begins first y.inputs = subst (λ (q : Result Started Stopped). Begins first (answer_of q).inputs) f.1 (rest_begins x files tree first) in (
        s,
        all,
        f.2,
        subst (λ (q : Result Started Stopped). LeadsTo (answer_of q) (looked_for []) (looked_for s.inputs) old new) (sym all)
            (then_leads y (looked_for []) (looked_for first) (looked_for s.inputs) old mid new (tried_all y first old mid begins tried reads.only reads.faults) (f.3 y (begins_all s.inputs))),
      )
  rest_read files (Err why) gives tried later = λ after s tells.
      let first = (definition files).looked in
      subst (λ (y : Answer). EndsWith y (looked_for []) old after s) (sym (answer_is x files classes))
      (read_runs (definition files).found first (rest_answer x files) tree old mid after s (rest_begins x files) gives tried reads.only reads.faults (later first after s tells))

  pub goes_from_model : (result : Result X Unread) → ReadsWithModel stands (asked_of x) tree mid new result → IfSome old.files (λ files. ReadsStart stands (inputs_read (asked_of x) files classes) old new result)
  goes_from_model result later =
      let Later : Files → Type 0 = λ files. ReadsRest stands (λ inputs. with_model (asked_of x) files (tree, inputs)) mid new result in
      if_some_three old.files _ _ Later (λ files. ReadsStart stands (inputs_read (asked_of x) files classes) old new result) (λ files gives tried later. rest_read files result gives tried later) reads.found reads.tried
      (subst (λ (o : Option Files). IfSome o Later) reads.only.files later)

-- ---- the events

module _ {X : Type 0} (stands : X → Started → Type 0) (x : code.Asked) (tree : Tree) (old mid : Outside) where
  -- there are none
  pub stops_at_events : (why : Unread) → IfSome old.files (λ files. ReadsEvents (text_of_name x.given.events) (ins_of tree) files old mid (Err why)) → ReadsWithModel {A = X} stands (asked_of x) tree old mid (Err why)
  stops_at_events why ends =
      IfSome_then old.files ends (λ files e. part_stops stands (λ inputs. events_in (ins_of tree) files inputs (text_of_name x.given.events)) (with_events (asked_of x) files tree) (last_goes x files tree) why old mid e)

  -- what is left was read after them
  pub goes_from_events : (events : List Event) (new : Outside) (result : Result X Unread) → OnlyInput old mid → IfSome old.files (λ files. ReadsEvents (text_of_name x.given.events) (ins_of tree) files old mid (Ok events))
      → ReadsWithEvents stands (asked_of x) tree events mid new result → ReadsWithModel stands (asked_of x) tree old new result
  goes_from_events events new result only first later =
      let Later : Files → Type 0 = λ files. ReadsRest stands (λ inputs. with_events (asked_of x) files tree (events, inputs)) mid new result in
      if_some_two old.files _ Later (λ files. ReadsRest stands (λ inputs. with_model (asked_of x) files (tree, inputs)) old new result)
      (λ files e l. part_goes stands (λ inputs. events_in (ins_of tree) files inputs (text_of_name x.given.events)) (with_events (asked_of x) files tree) (last_goes x files tree) events old mid new result e l)
      first (subst (λ (o : Option Files). IfSome o Later) only.files later)

-- ---- the run, and its state

-- memory runs out
pub stops_at_run : {X : Type 0} (stands : X → Started → Type 0) (x : code.Asked) (tree : Tree) (events : List Event) (now : Outside) → ReadsWithEvents {A = X} stands (asked_of x) tree events now now (Err why.Memory)
stops_at_run stands x tree events now =
    if_some_all now.files _ (λ files inputs after s tells. let y = last_answer x files tree (events, inputs) in no_line y inputs now now after s (no_memory y inputs now) tells)

module _ (x : code.Asked) (s : Standing) (m : Model) (stock : List Stocked) (events : List Event) (old new : Outside) (made : IsMadeOf s m stock events x.end x.given.limit) where
  abbrev name : Option Word
  name = text_of_name x.given.state

  -- there is no state
  pub stops_at_state : {X : Type 0} (stands : X → Started → Type 0) (why : Unread) → IfSome old.files (λ files. ReadsState name s x.end files old new (Err why)) → ReadsWithEvents {A = X} stands (asked_of x) (tree_on m stock) events old new (Err why)
  stops_at_state stands why ends =
      let tree = tree_on m stock in
      IfSome_then old.files ends (λ files e.
      part_stops stands (λ inputs. state_in tree x.end files inputs name) (λ r. Ok (started_from (asked_of x) tree events r)) (run_goes x tree events) why old new
      (subst (λ (t : Tree). EndsUnread (λ inputs. state_in t x.end files inputs name) why old new) (tree_made s m stock events x.end x.given.limit made) e))

  -- there is all, and this run stands at what is started
  pub starts : {X : Type 0} (stands : X → Started → Type 0) (start : X) (r : Standing) → ((s : Started) → StandsAt x r s → stands start s) → IfSome old.files (λ files. ReadsState name s x.end files old new (Ok r))
      → ReadsWithEvents stands (asked_of x) (tree_on m stock) events old new (Ok start)
  starts stands start r is reads =
      let a = asked_of x in
      let tree = tree_on m stock in
      IfSome_then old.files reads (λ files then inputs.
      let e = then inputs in
      let p : Option Saved × List Word = (e.0, e.1) in
      let read : state_in tree x.end files inputs name ≡ Ok p =
      subst (λ (t : Tree). state_in t x.end files inputs name ≡ Ok p) (tree_made s m stock events x.end x.given.limit made) e.2 in
      (started_from a tree events p, ap (λ q. for_ok q (λ r. Ok (started_from a tree events r))) read, is (started_from a tree events p) (stands_at x s r m stock events e.0 e.1 made e.3 e.4), e.5))

-- ---- without faults

-- where no fault of reading or writing was counted, what comes is the answer, or memory ran out
pub surely_answered : (words : List Word) (classes : List Class) (old new : Outside) (s : Status) → ¬ ReadFaultCounted old new → ¬ WriteFaultCounted old new → CdppEnds words classes old new s
    → IfSome old.files (λ files. (s ≡ NoMemory) ⊎ Writes (answer words files classes) old new s)
surely_answered words classes old new s no_read no_write ends =
    IfSome_then old.files ends (λ files o. endings_follow.surely (answer words files classes) old new s o no_read no_write)
