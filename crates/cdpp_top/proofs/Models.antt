-- What the reading of a model comes to.
use Rattle.std.proofs.Common.{◌≡◌, Option, Some, None, List, [], ◌∷◌, ◌++◌, Ok, Err, refl, sym, ap, subst}
use Rattle.quantity.specs.Bytes.{Bytes}
use Rattle.source_text.specs.Lines.{Files}
use Rattle.atomic_face.specs.declared.class.Class.{Class}
use Rattle.atomic_face.specs.StockView.{Stocked}
use Rattle.room_edge.specs.FaultCounts.{KeepsReadFaults}
use Rattle.room_edge.specs.Outside.{Outside}
use Rattle.room_edge.specs.Only.{OnlyInput}
use Rattle.model_tree.specs.Tree.{Word, Tree}
use Rattle.model_text.specs.Refusals.{refusal}
use Rattle.model_text.specs.Drawings.{Drawing}
use Rattle.model_text.specs.ModelOf.{ModelOf, model, missing, refused, model_of}
use Rattle.model_read.specs.declared.refusal.ModelRefusal.{ModelRefusal}
use Rattle.model_read.specs.declared.refusal.ModelRefusal.TheVariants as M
use Rattle.model_read.specs.Reading.{Tried, Counted}
use Rattle.model_read.specs.Whole.{found_in, looked_in}
use Rattle.model_read.specs.Read.{ModelGives}
use Rattle.answer_model.specs.declared.status.Status.{Status}
use Rattle.answer_model.specs.Answer.{Answer}
use Rattle.answer_model.specs.Asked.{ModelSource, file, made, Asked}
use Rattle.quantity.specs.Written.{for_ok}
use Rattle.answer_model.specs.Started.{Stop, no_file, bad_model, or_stops, by, source_read, model_found, drawing_of, model_read}
use Rattle.answer_model.specs.Cdpp.{stop_answer}
use Rattle.answer_model.specs.Endings.{looked_for, EndsWith}
use Rattle.answer_model.specs.Headline.{Begins}
use Rattle.answer_model.proofs.Endings.{endings_follow, rose_later}
use Rattle.answer_model.proofs.Stages.{then_ends, last_pushed}
use Rattle.cdpp_top.specs.Stages.{model_in, unread_model}
use Rattle.run_inputs.specs.Unread.{TellsStop, TellsUnread}
use Rattle.run_inputs.proofs.Stops.{stop_told, no_memory, no_line}
use Rattle.run_inputs.proofs.Tried.{begins_all, begins_more, tried_all}

-- ---- by what is found

file_is : (o : Option Bytes) (name : Word) (files : Files) (classes : List Class) (d : Option Drawing)
    → for_ok {A = Bytes × List Word} (for_ok (or_stops (no_file name) (name ∷ []) o) (λ (bytes : Bytes). Ok (bytes, name ∷ []))) (λ p. model_found (model_of p.0 files classes d).found (p.1 ++ (model_of p.0 files classes d).looked))
    ≡ model_found (found_in o name files classes d) (name ∷ looked_in o files classes d)
file_is None name files classes d = refl
file_is (Some bytes) name files classes d = refl

source_is : (source : ModelSource) (files : Files) (classes : List Class) (d : Option Drawing)
    → for_ok (source_read source files) (λ p. model_found (model_of p.0 files classes d).found (p.1 ++ (model_of p.0 files classes d).looked))
    ≡ (let read = model_in source classes d files in model_found read.found read.looked)
source_is (file name) files classes d = file_is (files name) name files classes d
source_is (made size) files classes d = refl

pub model_is : (a : Asked) (files : Files) (classes : List Class) → model_read a files classes ≡ (let read = model_in a.source classes (drawing_of a.frames) files in model_found read.found read.looked)
model_is a files classes = source_is a.source files classes (drawing_of a.frames)

-- ---- how the reading ends

abbrev pub Going : Type 0
Going = Tree × List Word → Answer

-- what is answered to what is found, where these names were looked for
abbrev pub after : ModelOf → List Word → Going → Answer
after found looked go = by stop_answer (model_found found looked) go

-- what goes on has looked for these names
abbrev pub Begun : Going → Type 0
Begun go = (t : Tree) (looked : List Word) → Begins looked (go (t, looked)).inputs

after_begins : (found : ModelOf) (looked : List Word) (go : Going) → Begun go → Begins looked (after found looked go).inputs
after_begins (model t) looked go begun = begun t looked
after_begins (missing name) looked go begun = begins_all looked
after_begins (refused r) looked go begun = begins_all looked

-- there is a model, and the program goes on
pub read_runs : (found : ModelOf) (looked : List Word) (go : Going) (t : Tree) (old mid new : Outside) (s : Status) → Begun go → found ≡ model t → mid.tried ≡ old.tried ++ looked → OnlyInput old mid → KeepsReadFaults old mid
    → EndsWith (go (t, looked)) (looked_for looked) mid new s → EndsWith (after found looked go) (looked_for []) old new s
read_runs found looked go t old mid new s begun is tried only keeps ends =
    let x = go (t, looked) in
    subst (λ (f : ModelOf). EndsWith (after f looked go) (looked_for []) old new s) (sym is)
    (then_ends x (looked_for []) (looked_for looked) old mid new s (tried_all x looked old mid (begun t looked) tried only keeps) ends)

-- a stop that a line tells of
stopped_so : (found : ModelOf) (looked : List Word) (go : Going) (stop : Stop) (old mid new : Outside) (s : Status) → after found looked go ≡ stop_answer (record { why = stop; inputs = looked }) → mid.tried ≡ old.tried ++ looked → OnlyInput old mid → KeepsReadFaults old mid → TellsStop stop mid new s
    → EndsWith (after found looked go) (looked_for []) old new s
stopped_so found looked go stop old mid new s is tried only keeps says =
    let x = stop_answer (record { why = stop; inputs = looked }) in
    subst (λ (y : Answer). EndsWith y (looked_for []) old new s) (sym is)
    (then_ends x (looked_for []) (looked_for looked) old mid new s (tried_all x looked old mid (begins_all looked) tried only keeps) (stop_told stop looked mid new s says))

-- there is none, and a line tells why
pub read_stops : (T : Type 0) (reason : ModelRefusal) (stock : List Stocked) (found : ModelOf) (looked : List Word) (go : Going) (old mid new : Outside) (s : Status) → Begun go
    → ModelGives found stock (Err reason) → Tried {T = T} (Err reason) looked old.tried mid.tried → Counted {T = T} (Err reason) old mid → OnlyInput old mid → KeepsReadFaults old mid
    → TellsUnread (unread_model reason) mid new s → EndsWith (after found looked go) (looked_for []) old new s
read_stops T (M.Missing name) stock found looked go old mid new s begun gives tried counted only keeps says =
    stopped_so found looked go (no_file name) old mid new s (ap (λ f. after f looked go) gives) tried only keeps says
read_stops T (M.Refused line kind) stock found looked go old mid new s begun gives tried counted only keeps says =
    stopped_so found looked go (bad_model (refusal line kind)) old mid new s (ap (λ f. after f looked go) gives) tried only keeps says
read_stops T (M.ReadFault name) stock found looked go old mid new s begun gives (part, begins, tried) counted only keeps says =
    let x = after found looked go in
    let names = part ++ name ∷ [] in
    let leads = tried_all x names old mid (begins_more names looked x.inputs begins (after_begins found looked go begun)) tried only keeps in
    λ start way. endings_follow.reading x (looked_for names) start mid new name s (leads start way) refl refl (last_pushed None part name) (rose_later start.read_faults old.read_faults mid.read_faults way.reads counted.1) says
read_stops T M.Memory stock found looked go old mid new s begun gives (part, begins, tried) counted only keeps tells =
    let x = after found looked go in
    let leads = tried_all x part old mid (begins_more part looked x.inputs begins (after_begins found looked go begun)) tried only keeps in
    no_line x [] old mid new s (then_ends x (looked_for []) (looked_for part) old mid mid _ leads (no_memory x part mid)) tells
