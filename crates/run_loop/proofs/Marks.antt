-- The mark of a run whose messages are served in an order, from cycle to cycle.
use Rattle.std.proofs.Common.{◌≡◌, ℕ, zero, suc, ◌+◌, ◌-◌, ◌<◌, true, false, Option, Some, None, List, [], ◌++◌, refl, sym, ap, ◌∙◌, subst, arith}
use Rattle.std.specs.Prelude.{Result, Ok, Err, IfOk, IfSome, IsTrue, codes, decimal}
use Rattle.std.specs.Borrow.{Bor}
use Rattle.std.specs.Option.{is_some, option_map}
use Rattle.std.proofs.lemmas.Option.{IfSome_then}
use Rattle.model_tree.specs.Tree.{Word, Tree}
use Rattle.run_model.specs.Run.{Event, Cycle, RunState, Verdict, done, too_many, stop, Next, ended, cycled, next_cycle, most_cycles, start}
use Rattle.text_forms.specs.declared.records.Records.{Records}
use Rattle.served_tree.specs.Order.{Serving, serve_cycle, mark_from, mark_of}
use Rattle.text_forms.specs.StateOf.{Saved}
use Rattle.answer_model.specs.Asked.{Asked}
use Rattle.answer_model.specs.Cdpp.{begins}
use Rattle.answer_model.specs.RunEnd.{shows, verdict_message, done_line}
use Rattle.asked_words.specs.declared.asked.Asked as code
use Rattle.asked_words.specs.declared.group.GroupAt.{GroupAt}
use Rattle.asked_words.specs.Shown.{text_of_name, asked_of}
use Rattle.run_leaves.specs.Marking.{Marking, at_seed, serving_from, service_marking, marking_behind, Marks}
use Rattle.run_leaves.specs.Standing.{Standing, tree_in, next_of_run}
use Rattle.run_leaves.specs.Steps.{Keeps, Cycles}
use Rattle.run_leaves.specs.declared.progress.Progress.TheVariants as progress
use Rattle.run_model.specs.declared.stop.Stop.{Stop}
use Rattle.run_model.specs.declared.stop.Stop.TheVariants.{NoTrueRule, Overflow, BadDelay, TooManyCycles, Memory}
use Rattle.run_loop.specs.declared.outputs.Unwritten.{Unwritten}
use Rattle.run_loop.specs.declared.outputs.Unwritten.TheVariants as why
use Rattle.run_loop.specs.declared.ending.Ending.{Ending}
use Rattle.run_loop.specs.declared.ending.Ending.TheVariants.{Done, Stopped}
use Rattle.run_loop.specs.Answers.{MayRun, BeginsFrom}
use Rattle.run_loop.specs.Ends.{IsVerdict, mark_behind, said_with}
use Rattle.run_loop.specs.Marked.{IsOrdered, last_mark, IsMarked}
use Rattle.run_loop.specs.Stopping.{StopsAs}
use Rattle.run_loop.proofs.GoesOn.{same_tree}

-- ---- the mark of so many cycles, before and after one

mark_ended : (n : ℕ) (tree : Tree) (end limit : ℕ) (s : RunState) (v : Serving) (verdict : Verdict) → next_cycle tree end limit s ≡ ended verdict → mark_from n tree end limit s v ≡ v.mark
unfolding mark_from
mark_ended zero tree end limit s v verdict is = refl
mark_ended (suc n) tree end limit s v verdict is =
    ap (λ (x : Next). elim x [ ended verdict ↦ v.mark | cycled c next ↦ mark_from n tree end limit next (serve_cycle tree c.time s v) ]) is

mark_cycled : (n : ℕ) (tree : Tree) (end limit : ℕ) (s m : RunState) (v : Serving) (c : Cycle) → next_cycle tree end limit s ≡ cycled c m → mark_from (suc n) tree end limit s v ≡ mark_from n tree end limit m (serve_cycle tree c.time s v)
unfolding mark_from
mark_cycled n tree end limit s m v c is =
    ap (λ (x : Next). elim x [ ended verdict ↦ v.mark | cycled c next ↦ mark_from n tree end limit next (serve_cycle tree c.time s v) ]) is

-- of a service, seed and mark count alone
mark_left : (n : ℕ) (tree : Tree) (end limit : ℕ) (s : RunState) (v : Serving) → mark_from n tree end limit s (serving_from (service_marking v)) ≡ mark_from n tree end limit s v
unfolding mark_from
mark_left zero tree end limit s v = refl
mark_left (suc n) tree end limit s v = refl

at_end : (n : ℕ) (s : Standing) (m : Marking) (v : Verdict) → next_of_run s ≡ ended v → last_mark n s m ≡ m.mark
at_end n s m v is = mark_ended n (tree_in s) s.end s.limit s.state (serving_from m) v is

behind : (n : ℕ) (s s' : Standing) (m : Marking) (c : Cycle) → 0 < n → next_of_run s ≡ cycled c s'.state → Keeps s s' → last_mark (n - 1) s' (marking_behind (tree_in s) c.time s.state m) ≡ last_mark n s m
behind n s s' m c some is keeps =
    let tree = tree_in s in
    let v = serve_cycle tree c.time s.state (serving_from m) in
    let e : n ≡ suc (n - 1) = omega arith in
    let one : last_mark n s m ≡ mark_from (n - 1) tree s.end s.limit s'.state v =
    ap (λ k. last_mark k s m) e ∙ mark_cycled (n - 1) tree s.end s.limit s.state s'.state (serving_from m) c is in
    (λ i. mark_from (n - 1) (same_tree s s' keeps i) (keeps.end i) (keeps.limit i) s'.state (serving_from (service_marking v)))
    ∙ mark_left (n - 1) tree s.end s.limit s'.state v ∙ sym one

-- ---- between two cycles

-- the mark of what is left of the run is that of all of it
abbrev pub MarksOn : ℕ → ℕ → Standing → Standing → Option Marking → Option Marking → Type 0
MarksOn most left s0 s m0 m = option_map (last_mark left s) m ≡ option_map (last_mark most s0) m0

pub marks_next : (left : ℕ) (s s' : Standing) (m m' : Option Marking) (t : ℕ) (records : Records) → 0 < left → s.stopped ≡ None → (step : Cycles s t s' records) → Marks m s.stopped s (Ok (progress.Cycled t)) m'
    → option_map (last_mark (left - 1) s') m' ≡ option_map (last_mark left s) m
marks_next left s s' None m' t records some none step marks = ap (option_map (last_mark (left - 1) s')) marks
marks_next left s s' (Some m) m' t records some none step marks =
    let is : m' ≡ Some (marking_behind (tree_in s) t s.state m) = subst (λ (w : Option Stop). Marks (Some m) w s (Ok (progress.Cycled t)) m') none marks in
    let mark : last_mark (left - 1) s' (marking_behind (tree_in s) t s.state m) ≡ last_mark left s m =
    (λ i. last_mark (left - 1) s' (marking_behind (tree_in s) (sym step.time i) s.state m)) ∙ behind left s s' m step.cycle some step.next step.keeps in
    ap (option_map (last_mark (left - 1) s')) is ∙ ap (λ (k : ℕ). Some k) mark

pub marks_done : (left : ℕ) (s : Standing) (m m' : Option Marking) → s.stopped ≡ None → next_of_run s ≡ ended done → Marks m s.stopped s (Ok progress.Done) m'
    → option_map (λ (x : Marking). x.mark) m' ≡ option_map (last_mark left s) m
marks_done left s None m' none is marks = ap (option_map (λ (x : Marking). x.mark)) marks
marks_done left s (Some m) m' none is marks =
    let same : m' ≡ Some m = subst (λ (w : Option Stop). Marks (Some m) w s (Ok progress.Done) m') none marks in
    ap (option_map (λ (x : Marking). x.mark)) same ∙ ap (λ (k : ℕ). Some k) (sym (at_end left s m done is))

-- a stop is no end with a mark
pub stop_no_mark : (answer : Stop) (result : Result Ending Unwritten) (n : ℕ) (s : Standing) (m m' : Option Marking) → StopsAs answer result → IfOk result (λ e. IsMarked e n s m m')
stop_no_mark answer (Ok Done) n s m m' how = absurd how
stop_no_mark answer (Ok (Stopped st)) n s m m' how = tt
stop_no_mark answer (Err w) n s m m' how = tt

-- ---- what is asked for

none_asked : (name : Option (Bor Word)) (seed : Option ℕ) (m : Option Marking) → m ≡ option_map at_seed seed → IfSome seed (λ n. text_of_name name ≡ None) → is_some name ≡ true → m ≡ None
none_asked name None m is unnamed given = is
none_asked None (Some n) m is unnamed given = absurd (cc)
none_asked (Some w) (Some n) m is unnamed given =
    let e : Some w.now ≡ None = unnamed in absurd (cc)

pub none_read : (a : code.Asked) (m : Option Marking) → IsOrdered a m → IsTrue (is_some a.given.state) → m ≡ None
none_read a m o given = none_asked a.given.state a.given.seed m o.marked (IfSome_then a.given.seed o.unsaved (λ n both. both.1)) given

pub none_saved : (a : code.Asked) (m : Option Marking) → IsOrdered a m → IsTrue (is_some a.given.save) → m ≡ None
none_saved a m o given = none_asked a.given.save a.given.seed m o.marked (IfSome_then a.given.seed o.unsaved (λ n both. both.0)) given

-- a run that had no mark has none at its end
pub still_none : (n : ℕ) (s : Standing) (m m' : Option Marking) → m ≡ None → IsMarked Done n s m m' → m' ≡ None
still_none n s m m' none is = by m' (is ∙ ap (option_map (last_mark n s)) none)
  where
    by : (x : Option Marking) → option_map (λ (y : Marking). y.mark) x ≡ None → x ≡ None
    by None e = refl
    by (Some y) e =
        let f : Some y.mark ≡ None = e in absurd (cc)

-- ---- what is said

-- only a run that is done has this verdict
only_done : (ending : Ending) (v : Verdict) → IsVerdict ending v → v ≡ done → ending ≡ Done
only_done Done v is e = refl
only_done (Stopped (NoTrueRule leaf t)) v is e = absurd (cc)
only_done (Stopped (Overflow leaf t)) v is e = absurd (cc)
only_done (Stopped (BadDelay leaf t delay)) v is e = absurd (cc)
only_done (Stopped (TooManyCycles t)) v is e = absurd (cc)
only_done (Stopped Memory) v is e = absurd is

text_is : (o : Option ℕ) (mark : ℕ → ℕ) → mark_behind (option_map mark o) ≡ (elim o [ None ↦ [] | Some seed ↦ codes " mark " ++ decimal (mark seed) ])
text_is None mark = refl
text_is (Some seed) mark = refl

-- the mark of all cycles is what a run says that is done
said_so : (a : Asked) (tree : Tree) (events : List Event) (cycles : List Cycle) (v : Verdict) (mark : Option ℕ) → (v ≡ done → mark ≡ option_map (mark_of tree events a.end a.limit) a.seed) → said_with mark a tree cycles v ≡ verdict_message a tree events cycles v
said_so a tree events cycles done mark is =
    ap (λ text. shows (done_line a tree cycles ++ text)) (ap mark_behind (is refl) ∙ text_is a.seed (mark_of tree events a.end a.limit))
said_so a tree events cycles (too_many t) mark is = refl
said_so a tree events cycles (stop leaf t why) mark is = refl

-- a run that is served begins at its start
at_start : (name : Option (Bor Word)) (tree : Tree) (events : List Event) (from : Option Saved) (s : RunState) → text_of_name name ≡ None → is_some (text_of_name name) ≡ is_some from → s ≡ begins tree events from → s ≡ start tree events
at_start name tree events None s none asked is = is
at_start name tree events (Some saved) s none asked is =
    let e : is_some (text_of_name name) ≡ false = ap is_some none in
    let f : is_some (text_of_name name) ≡ true = asked in
    absurd (cc)

marks_of : (a : code.Asked) (group : Option GroupAt) (s : Standing) (events : List Event) (from : Option Saved) (k : ℕ) (seed : Option ℕ) → MayRun a group s → BeginsFrom (asked_of a) events from s → k ≡ most_cycles a.end a.given.limit
    → IfSome seed (λ n. (text_of_name a.given.save ≡ None) × (text_of_name a.given.state ≡ None))
    → option_map (last_mark k s) (option_map at_seed seed) ≡ option_map (mark_of (tree_in s) events a.end a.given.limit) seed
marks_of a group s events from k None may begun k_is unsaved = refl
marks_of a group s events from k (Some seed) may begun k_is unsaved =
    let u : (text_of_name a.given.save ≡ None) × (text_of_name a.given.state ≡ None) = unsaved in
    let state = at_start a.given.state (tree_in s) events from s.state u.1 begun.asked begun.state in
    ap (λ (n : ℕ). Some n) (λ i. mark_from (k_is i) (tree_in s) (may.end i) (may.limit i) (state i) (serving_from (at_seed seed)))

-- what is said with the mark of a run is what the definitions say
pub marked_said : (a : code.Asked) (group : Option GroupAt) (s : Standing) (events : List Event) (from : Option Saved) (k : ℕ) (cycles : List Cycle) (v : Verdict) (ending : Ending) (m m' : Option Marking) (mark : Option ℕ)
    → MayRun a group s → IsOrdered a m → BeginsFrom (asked_of a) events from s → k ≡ most_cycles a.end a.given.limit → IsVerdict ending v → IsMarked ending k s m m' → mark ≡ option_map (λ (x : Marking). x.mark) m'
    → said_with mark (asked_of a) (tree_in s) cycles v ≡ verdict_message (asked_of a) (tree_in s) events cycles v
marked_said a group s events from k cycles v ending m m' mark may ordered begun k_is verdict marked is =
    said_so (asked_of a) (tree_in s) events cycles v mark (λ e.
    let all = subst (λ (x : Ending). IsMarked x k s m m') (only_done ending v verdict e) marked in
    is ∙ all ∙ ap (option_map (last_mark k s)) ordered.marked ∙ marks_of a group s events from k a.given.seed may begun k_is ordered.unsaved)
