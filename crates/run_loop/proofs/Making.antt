-- Files that are made, and what follows where one could not be made or lacks bytes.
use Rattle.std.proofs.Common.{◌≡◌, ◌≢◌, Bool, false, Option, Some, None, List, [], ◌∷◌, ◌++◌, refl, sym, ap, ◌∙◌, subst, arith, inr}
use Rattle.std.specs.Prelude.{Contains, IsSome, IfSome, Result, Ok, Err}
use Rattle.std.specs.Option.{option_to_list}
use Rattle.std.proofs.lemmas.List.Elements.{Contains-append_left, Contains-append_right}
use Rattle.quantity.specs.Bytes.{Bytes}
use Rattle.model_tree.specs.Tree.{Word}
use Rattle.room_edge.specs.Faults.{WriteFaultCounted}
use Rattle.room_edge.specs.FaultCounts.{KeepsWriteFaults}
use Rattle.room_edge.specs.Outside.{Outside, puts}
use Rattle.room_edge.specs.Only.{OnlyMade}
use Rattle.room_edge.proofs.Only.{OnlyMade-refl, OnlyMade-trans}
use Rattle.answer_model.specs.declared.status.Status.{Status}
use Rattle.answer_model.specs.declared.status.Status.TheVariants.{WriteFault, NoMemory}
use Rattle.answer_model.specs.Status.{Stage, IsOf}
use Rattle.answer_model.specs.Answer.{MadeFiles, Answer, write_fault_line}
use Rattle.answer_model.specs.Headline.{Begins, BeginFiles}
use Rattle.answer_model.specs.Outcome.{Lacks}
use Rattle.answer_model.specs.RunFiles.{file_if}
use Rattle.answer_model.specs.Steps.{is_made}
use Rattle.answer_model.specs.Endings.{Says, made_after, looked_for, LeadsTo, EndsWith}
use Rattle.answer_model.proofs.Endings.{steps_lead, endings_follow, le_more}
use Rattle.answer_model.specs.FaultsAnswered.{NoWriteFault, AnswersFaults}
use Rattle.answer_model.proofs.FaultLemmas.{IsClean, IsStopped, clean_answers, wrote_answers}
use Rattle.answer_model.proofs.Said.{said_among}
use Rattle.answer_model.proofs.Stages.{then_leads, then_ends, write_failed, lacks_rest, lacks_unmade, rose_by_said}
use Rattle.run_loop.specs.declared.outputs.Output.{Output}
use Rattle.run_loop.specs.declared.outputs.Output.TheVariants.{Out, Frames, State}
use Rattle.run_loop.specs.declared.outputs.Unwritten.{Unwritten}
use Rattle.run_loop.specs.declared.outputs.Unwritten.TheVariants.{Fault, Memory}
use Rattle.run_loop.specs.Texts.{FileNames, Texts, no_texts, files, name_at, text_at, made_before, AreApart, IsAmong, AreCreated}
use Rattle.run_loop.specs.Order.{Piece, texts_of}
use Rattle.run_loop.specs.Written.{AddsAll, Falls, FaultCounted, Makes, MakesNone, IsThere, MakesOne, MakesAll, FallsMaking, MakesFiles, Tells, Blames}
use Rattle.run_loop.proofs.Around.{files_before, files_behind, in_turn, around, files_at, has_file, before_is, not_before, not_behind}
use Rattle.run_loop.proofs.Adding.{no_fewer, fault_after, BeginTexts, none_begins, none_begin, order_begins, order_lacks}

-- ---- one file

pub made_file : (o : Option Word) (name : Word) (old new : Outside) → o ≡ Some name → new.made ≡ puts old.made name [] → new.created ≡ old.created ++ name ∷ [] → OnlyMade old new → NoWriteFault old new → Makes o old new
made_file o name old new is made created only_made sure =
    let there : Makes (Some name) old new = record {
      leads = λ fs a inputs. steps_lead.creating a (made_after inputs fs) old new name (made, created, only_made) (no_fewer old new sure);
      created = created;
      sure = sure;
      only = only_made;
    } in
    subst (λ (p : Option Word). Makes p old new) (sym is) there

-- ---- all files, one after another

-- these were made, all empty, so that these names were created
pub record HasMade (parts : MadeFiles) (names : List Word) (old new : Outside) : Type 0 where
  pub leads : (a : Answer) (inputs : List Word) → LeadsTo a (looked_for inputs) (made_after inputs parts) old new
  pub created : new.created ≡ names
  pub sure : NoWriteFault old new
  pub only : OnlyMade old new

pub none_made : (now : Outside) → HasMade [] now.created now now
none_made now = record { leads = λ a inputs start way. way; created = refl; sure = refl; only = OnlyMade-refl now }

one_more : (parts : MadeFiles) (names : List Word) (name : Option Word) (old mid new : Outside) → HasMade parts names old mid → Makes name mid new → HasMade (parts ++ file_if name []) (names ++ option_to_list name) old new
one_more parts names name old mid new made one =
    record {
      leads = λ a inputs. then_leads a (looked_for inputs) (made_after inputs parts) (made_after inputs (parts ++ file_if name [])) old mid new (made.leads a inputs) (one.leads parts a inputs);
      created = one.created ∙ ap (λ (xs : List Word). xs ++ option_to_list name) made.created;
      sure = one.sure ∙ made.sure;
      only = OnlyMade-trans old mid new made.only one.only;
    }

pub log_made : (n : FileNames) (old new : Outside) → Makes n.log old new → HasMade (made_before n Out) (old.created ++ option_to_list n.log) old new
log_made n old new log = one_more [] old.created n.log old old new (none_made old) log

pub out_made : (n : FileNames) (old mid new : Outside) → Makes n.log old mid → Makes n.out mid new → HasMade (made_before n Frames) (old.created ++ option_to_list n.log ++ option_to_list n.out) old new
out_made n old mid new log out = one_more (made_before n Out) (old.created ++ option_to_list n.log) n.out old mid new (log_made n old mid log) out

pub frames_made : (n : FileNames) (old mid next new : Outside) → Makes n.log old mid → Makes n.out mid next → Makes n.frames next new → HasMade (made_before n State) (old.created ++ option_to_list n.log ++ option_to_list n.out ++ option_to_list n.frames) old new
frames_made n old mid next new log out frames = one_more (made_before n Frames) (old.created ++ option_to_list n.log ++ option_to_list n.out) n.frames old next new (out_made n old mid next log out) frames

-- the one behind them was not
pub one_unmade : (n : FileNames) (why : Unwritten) (last : Output) (names : List Word) (old mid new : Outside) → HasMade (made_before n last) names old mid → MakesNone mid new × IsThere why n last × FaultCounted why mid new → FallsMaking n why old new
one_unmade n why last names old mid new made (none, there, fault) =
    record {
      file = last;
      there = there;
      leads = λ a inputs. then_leads a (looked_for inputs) (made_after inputs (made_before n last)) (made_after inputs (made_before n last)) old mid new (made.leads a inputs) (none.leads (made_before n last) a inputs);
      keeps = le_more old.write_faults mid.write_faults new.write_faults (no_fewer old mid made.sure) none.keeps;
      only = OnlyMade-trans old mid new made.only none.only;
      fault = fault_after why old mid new made.sure fault;
    }

-- whatever became of the last
pub state_made : {T : Type 0} (n : FileNames) (old mid new : Outside) (r : Result T Unwritten) → HasMade (made_before n State) (old.created ++ option_to_list n.log ++ option_to_list n.out ++ option_to_list n.frames) old mid → MakesOne n State mid new r → MakesFiles n old new r
state_made n old mid new (Ok x) made state =
    let all = one_more (made_before n State) (old.created ++ option_to_list n.log ++ option_to_list n.out ++ option_to_list n.frames) n.state old mid new made state in
    record { leads = all.leads; created = all.created; sure = all.sure; only = all.only }
state_made n old mid new (Err why) made unmade =
    one_unmade n why State (old.created ++ option_to_list n.log ++ option_to_list n.out ++ option_to_list n.frames) old mid new made unmade

-- ---- all names are among those that were made

among-right : (o : Option Word) (xs ys : List Word) → IsAmong o ys → IsAmong o (xs ++ ys)
among-right None xs ys h = tt
among-right (Some name) xs ys h = Contains-append_right xs ys name h

among-left : (o : Option Word) (xs ys : List Word) → IsAmong o xs → IsAmong o (xs ++ ys)
among-left None xs ys h = tt
among-left (Some name) xs ys h = Contains-append_left xs ys name h

among_own : (o : Option Word) → IsAmong o (option_to_list o)
among_own None = tt
among_own (Some name) = (0, omega arith, refl)

pub all_created : (n : FileNames) (old new : Outside) → MakesAll n old new → AreCreated n new.created
all_created n old new m =
    let l = option_to_list n.log in
    let o = option_to_list n.out in
    let f = option_to_list n.frames in
    let s = option_to_list n.state in
    let here = old.created in
    subst (AreCreated n) (sym m.created) (record {
      log_there = among-left n.log (here ++ l ++ o ++ f) s (among-left n.log (here ++ l ++ o) f (among-left n.log (here ++ l) o (among-right n.log here l (among_own n.log))));
      out_there = among-left n.out (here ++ l ++ o ++ f) s (among-left n.out (here ++ l ++ o) f (among-right n.out (here ++ l) o (among_own n.out)));
      frames_there = among-left n.frames (here ++ l ++ o ++ f) s (among-right n.frames (here ++ l ++ o) f (among_own n.frames));
      state_there = among-right n.state (here ++ l ++ o ++ f) s (among_own n.state);
    })

-- ---- a beginning of the files of an answer

begins_if : (o : Option Word) (part whole : Bytes) (parts wholes : MadeFiles) → Begins part whole → BeginFiles parts wholes → BeginFiles (file_if o part ++ parts) (file_if o whole ++ wholes)
begins_if None part whole parts wholes b rest = rest
begins_if (Some name) part whole parts wholes b rest = (refl, b, rest)

begins_last : (o : Option Word) (part whole : Bytes) → Begins part whole → BeginFiles (file_if o part) (file_if o whole)
begins_last None part whole b = tt
begins_last (Some name) part whole b = (refl, b, tt)

begins_files : (n : FileNames) (part whole : Texts) → BeginTexts part whole → BeginFiles (files n part) (files n whole)
begins_files n part whole b =
    subst (λ (fs : MadeFiles). BeginFiles fs (files n whole)) (sym (in_turn n part))
    (subst (BeginFiles (file_if n.log part.log ++ (file_if n.out part.out ++ (file_if n.frames part.frames ++ file_if n.state part.state)))) (sym (in_turn n whole))
    (begins_if n.log part.log whole.log (file_if n.out part.out ++ (file_if n.frames part.frames ++ file_if n.state part.state)) (file_if n.out whole.out ++ (file_if n.frames whole.frames ++ file_if n.state whole.state)) b.log_begins
    (begins_if n.out part.out whole.out (file_if n.frames part.frames ++ file_if n.state part.state) (file_if n.frames whole.frames ++ file_if n.state whole.state) b.out_begins
    (begins_if n.frames part.frames whole.frames (file_if n.state part.state) (file_if n.state whole.state) b.frames_begin (begins_last n.state part.state whole.state b.state_begins)))))

-- the first of files that begin others
begins_front : (parts more wholes : MadeFiles) → BeginFiles (parts ++ more) wholes → BeginFiles parts wholes
begins_front [] more wholes b = tt
begins_front (p ∷ ps) more [] b = b
begins_front (p ∷ ps) more (w ∷ ws) b = (b.0, b.1, begins_front ps more ws b.2)

begins_before : (n : FileNames) (file : Output) (whole : Texts) → BeginFiles (made_before n file) (files n whole)
begins_before n file whole =
    subst (λ (fs : MadeFiles). BeginFiles fs (files n whole)) (sym (before_is n file))
    (begins_front (files_before n no_texts file) (file_if (name_at n file) (text_at no_texts file) ++ files_behind n no_texts file) (files n whole)
    (subst (λ (fs : MadeFiles). BeginFiles fs (files n whole)) (around n no_texts file) (begins_files n no_texts whole (none_begin whole))))

-- ---- what lacks bytes

wanted : (a : Answer) (n : FileNames) (whole : Texts) (file : Output) (name : Word) → a.made ≡ files n whole → name_at n file ≡ Some name → Contains {X = Word × Bytes} a.made (name, text_at whole file)
wanted a n whole file name made is = subst (λ (fs : MadeFiles). Contains {X = Word × Bytes} fs (name, text_at whole file)) (sym made) (has_file n whole file name is)

lacks_file : (a : Answer) (n : FileNames) (inputs : List Word) (part whole : Texts) (file : Output) (name : Word) → a.made ≡ files n whole → AreApart n → name_at n file ≡ Some name → text_at part file ≢ text_at whole file → Lacks a (made_after inputs (files n part)) name
lacks_file a n inputs part whole file name made apart is short =
    lacks_rest a (made_after inputs (files n part)) (files_before n part file) (files_behind n part file) name (text_at part file) (text_at whole file)
    (wanted a n whole file name made is) (files_at n part file name is) (not_before n part file name apart is) (not_behind n part file name apart is) short

unmade_before : (n : FileNames) (file : Output) (name : Word) → AreApart n → name_at n file ≡ Some name → is_made name (made_before n file) ≡ false
unmade_before n file name apart is = ap (is_made name) (before_is n file) ∙ not_before n no_texts file name apart is

-- ---- endings

pub some_of : {A : Type 0} (o : Option A) → IsSome o → (x : A) × (o ≡ Some x)
some_of None h = absurd (cc)
some_of (Some x) h = (x, refl)

pub if_some : {A : Type 0} (o : Option A) (P : A → Type 0) (x : A) → o ≡ Some x → IfSome o P → P x
if_some {A} o P x is h = subst (λ (p : Option A). IfSome p P) is h

-- a file lacks bytes, or memory ran out
pub fell_ends : (a : Answer) (n : FileNames) (pieces : List Piece) (why : Unwritten) (inputs : List Word) (old mid new : Outside) (status : Status) → a.made ≡ files n (texts_of pieces) → AreApart n → Falls n why pieces old mid → Tells n why mid new status
    → EndsWith a (made_after inputs (files n no_texts)) old new status
fell_ends a n pieces (Fault file) inputs old mid new status made apart f tells =
    let whole = texts_of pieces in
    let s = some_of (name_at n file) f.lacks.0 in
    let there = made_after inputs (files n f.part) in
    write_failed a (made_after inputs (files n no_texts)) there old mid new s.0 status (f.adds.leads no_texts a inputs) f.fault
    (subst (BeginFiles (files n f.part)) (sym made) (begins_files n f.part whole (order_begins pieces f.part f.order)), none_begins a.shown, inr refl)
    (lacks_file a n inputs f.part whole file s.0 made apart s.1 (order_lacks pieces f.part f.order file f.lacks.1 f.lacks.2))
    (if_some (name_at n file) (λ name. Says (write_fault_line name) WriteFault mid new status) s.0 s.1 tells)
fell_ends a n pieces Memory inputs old mid new status made apart f (own, same) =
    let whole = texts_of pieces in
    let there = made_after inputs (files n f.part) in
    let ends : EndsWith a (made_after inputs (files n no_texts)) old mid NoMemory = then_ends a (made_after inputs (files n no_texts)) there old mid mid NoMemory (f.adds.leads no_texts a inputs)
    (endings_follow.memory a there mid (subst (BeginFiles (files n f.part)) (sym made) (begins_files n f.part whole (order_begins pieces f.part f.order)), none_begins a.shown, inr refl)) in
    subst (λ s. EndsWith a (made_after inputs (files n no_texts)) old new s) (sym own) (subst (λ o. EndsWith a (made_after inputs (files n no_texts)) old o NoMemory) (sym same) ends)

-- a file could not be made, or memory ran out
pub unmade_ends : (a : Answer) (n : FileNames) (whole : Texts) (why : Unwritten) (inputs : List Word) (old mid new : Outside) (status : Status) → a.made ≡ files n whole → AreApart n → FallsMaking n why old mid → Tells n why mid new status
    → EndsWith a (looked_for inputs) old new status
unmade_ends a n whole (Fault file) inputs old mid new status made apart f tells =
    let s = some_of (name_at n file) f.there.0 in
    let there = made_after inputs (made_before n f.file) in
    let is : name_at n f.file ≡ Some s.0 = ap (name_at n) (sym f.there.1) ∙ s.1 in
    write_failed a (looked_for inputs) there old mid new s.0 status (f.leads a inputs) f.fault
    (subst (BeginFiles (made_before n f.file)) (sym made) (begins_before n f.file whole), none_begins a.shown, inr refl)
    (lacks_unmade a there s.0 (text_at whole f.file) (wanted a n whole f.file s.0 made is) (unmade_before n f.file s.0 apart is))
    (if_some (name_at n file) (λ name. Says (write_fault_line name) WriteFault mid new status) s.0 s.1 tells)
unmade_ends a n whole Memory inputs old mid new status made apart f (own, same) =
    let there = made_after inputs (made_before n f.file) in
    let ends : EndsWith a (looked_for inputs) old mid NoMemory = then_ends a (looked_for inputs) there old mid mid NoMemory (f.leads a inputs)
    (endings_follow.memory a there mid (subst (BeginFiles (made_before n f.file)) (sym made) (begins_before n f.file whole), none_begins a.shown, inr refl)) in
    subst (λ s. EndsWith a (looked_for inputs) old new s) (sym own) (subst (λ o. EndsWith a (looked_for inputs) old o NoMemory) (sym same) ends)

-- ---- statuses

pub falls_blames : (n : FileNames) (why : Unwritten) (pieces : List Piece) (old new : Outside) → Falls n why pieces old new → Blames n why
falls_blames n (Fault file) pieces old new f = f.lacks.0
falls_blames n Memory pieces old new f = tt

pub making_blames : (n : FileNames) (why : Unwritten) (old new : Outside) → FallsMaking n why old new → Blames n why
making_blames n (Fault file) old new f = f.there.0
making_blames n Memory old new f = tt

pub tells_among : (of : Stage → Bool) (n : FileNames) (why : Unwritten) (old new : Outside) (status : Status) → Blames n why → IsOf of WriteFault → IsOf of NoMemory → Tells n why old new status → IsOf of status
tells_among of n (Fault file) old new status blames fault memory tells =
    let s = some_of (name_at n file) blames in
    said_among of (write_fault_line s.0) WriteFault old new status fault fault memory (if_some (name_at n file) (λ name. Says (write_fault_line name) WriteFault old new status) s.0 s.1 tells)
tells_among of n Memory old new status blames fault memory (own, same) = subst (IsOf of) (sym own) memory

pub tells_rose : (n : FileNames) (why : Unwritten) (old mid new : Outside) (status : Status) → Blames n why → KeepsWriteFaults old mid → FaultCounted why old mid → Tells n why mid new status → status ≡ WriteFault → WriteFaultCounted old new
tells_rose n (Fault file) old mid new status blames keeps rose tells five =
    let s = some_of (name_at n file) blames in
    rose_by_said (write_fault_line s.0) WriteFault old mid new status keeps (λ e. rose) (if_some (name_at n file) (λ name. Says (write_fault_line name) WriteFault mid new status) s.0 s.1 tells) five
tells_rose n Memory old mid new status blames keeps rose (own, same) five = absurd cc

-- ---- faults that were counted

clean_by : (old new : Outside) → OnlyMade old new → NoWriteFault old new → IsClean old new
clean_by old new only_made sure = record { writes = sure; complaints = only_made.complain_faults; reads = only_made.output.read_faults; quiet = only_made.complained }

stopped_by : (old new : Outside) → OnlyMade old new → IsStopped old new
stopped_by old new only_made = record { complaints = only_made.complain_faults; reads = only_made.output.read_faults; quiet = only_made.complained }

pub clean_adds : (n : FileNames) (pieces : List Piece) (old new : Outside) → AddsAll n pieces old new → IsClean old new
clean_adds n pieces old new p = clean_by old new p.adds.only p.sure

pub clean_makes : (n : FileNames) (old new : Outside) → MakesAll n old new → IsClean old new
clean_makes n old new p = clean_by old new p.only p.sure

-- what could not be written is told
told_answers : (n : FileNames) (why : Unwritten) (old mid new : Outside) (status : Status) → Blames n why → OnlyMade old mid → FaultCounted why old mid → Tells n why mid new status → AnswersFaults old new status
told_answers n (Fault file) old mid new status blames only_made fault tells =
    let s = some_of (name_at n file) blames in
    wrote_answers s.0 old mid new status (stopped_by old mid only_made) (if_some (name_at n file) (λ name. Says (write_fault_line name) WriteFault mid new status) s.0 s.1 tells)
told_answers n Memory old mid new status blames only_made fault (own, same) =
    subst (λ (o : Outside). AnswersFaults old o status) (sym same) (clean_answers old mid status (clean_by old mid only_made fault))

pub falls_answers : (n : FileNames) (why : Unwritten) (pieces : List Piece) (old mid new : Outside) (status : Status) → Falls n why pieces old mid → Tells n why mid new status → AnswersFaults old new status
falls_answers n why pieces old mid new status f tells = told_answers n why old mid new status (falls_blames n why pieces old mid f) f.adds.only f.fault tells

pub making_answers : (n : FileNames) (why : Unwritten) (old mid new : Outside) (status : Status) → FallsMaking n why old mid → Tells n why mid new status → AnswersFaults old new status
making_answers n why old mid new status f tells = told_answers n why old mid new status (making_blames n why old mid f) f.only f.fault tells
