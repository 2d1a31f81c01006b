-- A run goes on, cycle by cycle: what was written, and what the cycles cost.
use Rattle.std.proofs.Common.{◌≡◌, ℕ, ◌+◌, ◌-◌, ◌<◌, ◌≤◌, Bool, Option, Some, None, List, [], ◌∷◌, ◌++◌, length, length-append, append_assoc, refl, sym, ap, ◌∙◌, subst, arith}
use Rattle.std.specs.Prelude.{Result, Ok, Err}
use Rattle.std.specs.Bool.{OnTrue}
use Rattle.std.specs.List.{All, sum_by}
use Rattle.std.specs.Option.{option_map}
use Rattle.std.proofs.lemmas.Bool.{OnTrue_at, OnTrue_from}
use Rattle.std.proofs.lemmas.List.{append-nil}
use Rattle.std.proofs.lemmas.List.Elements.{All-head, All-tail}
use Rattle.std.proofs.lemmas.List.Sums.{sum_by-append, sum_by_push}
use Rattle.model_leaves.specs.declared.table.Model.{Model}
use Rattle.model_tree.specs.Tree.{Tree}
use Rattle.model_leaves.specs.Models.{tree_of}
use Rattle.run_model.specs.Run.{Cycle, Run, RunState, Verdict, done, too_many, stop, Next, ended, cycled}
use Rattle.run_model.specs.Fitting.{NamesItsParts}
use Rattle.run_model.specs.Visits.{cycle_visits, last_visits, visits}
use Rattle.text_forms.specs.declared.records.Records.{Records}
use Rattle.text_forms.specs.Named.{NamesLeaves}
use Rattle.text_forms.specs.Chosen.{letters_of}
use Rattle.text_forms.proofs.NamedLeaves.{cycles_name_leaves}
use Rattle.room_edge.specs.Outside.{Outside}
use Rattle.quantity.specs.Bytes.{Bytes}
use Rattle.answer_model.specs.RunFiles.{saved_text}
use Rattle.asked_words.specs.declared.asked.Asked as code
use Rattle.run_leaves.specs.Seated.{settings_at}
use Rattle.run_leaves.specs.Standing.{Standing, tree_in, next_of_run}
use Rattle.run_leaves.specs.Steps as run
use Rattle.run_leaves.specs.Steps.{Keeps, Cycles, visits_of}
use Rattle.run_model.specs.declared.stop.Stop.{Stop}
use Rattle.run_loop.specs.declared.outputs.Output.TheVariants.{Frames, State}
use Rattle.run_loop.specs.declared.outputs.Unwritten.{Unwritten}
use Rattle.run_loop.specs.declared.outputs.Unwritten.TheVariants as why
use Rattle.run_loop.specs.AskedFiles.{names_of}
use Rattle.run_loop.specs.Texts.{FileNames, AreCreated}
use Rattle.run_loop.specs.Order.{Piece, piece_of, one_piece}
use Rattle.run_loop.specs.Written.{AddsAll, Falls}
use Rattle.run_loop.specs.Showing.{Showing, after_cycle, last_frame}
use Rattle.run_loop.specs.Pieces.{cycle_pieces, drawn_after, cycles_pieces, end_pieces, run_pieces}
use Rattle.run_loop.specs.Counts.{Counts, counts_after, counts_of}
use Rattle.run_loop.proofs.Adding.{all_none, all_both, all_as, fell_at_once, falls_after, falls_before, falls_as}
use Rattle.run_loop.proofs.Cycles.{none_of_cycle}
use Rattle.run_loop.proofs.Pieces.{after_split, pieces_split, pieces_next}
use Rattle.run_loop.specs.declared.ending.Ending.{Ending}
use Rattle.run_loop.specs.declared.ending.Ending.TheVariants.{Done, Stopped}
use Rattle.run_loop.specs.declared.going.Going.{Going}
use Rattle.run_loop.specs.Left.{rest_of, EndsWithin, HaveValues, IsFitTo}
use Rattle.run_loop.specs.Ends.{IsVerdict}
use Rattle.run_loop.specs.DoneIn.{DoneIn}
use Rattle.run_loop.specs.Leaves.{Spent, spent_between as spent_of, BreakPoint, in_a_cycle, after_cycles, IsPointOf, pieces_before, pieces_begun}
use Rattle.run_loop.specs.Ran.{asking_of, BreaksOff, RunsTo}
use Rattle.run_loop.specs.Stopping.{StopsAs}
use Rattle.run_loop.proofs.GoesOn.{run_ended, run_more, same_tree, stops_with, keeps-refl, keeps-trans}
use Rattle.run_loop.proofs.Costs.{call_within, some_left, has_cycle, whole_next}

-- ---- cycles and their cost

abbrev pub cost_of : Standing → List Cycle → ℕ
cost_of s cycles = sum_by (cycle_visits (tree_in s)) cycles

cost_next : (s : Standing) (ds : List Cycle) (c : Cycle) → cost_of s (ds ++ c ∷ []) ≡ cost_of s ds + cycle_visits (tree_in s) c
cost_next s ds c = sum_by_push (cycle_visits (tree_in s)) ds c

counted_next : (ds : List Cycle) (c : Cycle) (k : Counts) → counts_of (ds ++ c ∷ []) k ≡ counts_after c (counts_of ds k)
counted_next [] c k = refl
counted_next (d ∷ ds) c k = counted_next ds c (counts_after d k)

tally_next : (ds : List Cycle) (c : Cycle) (k : Option Counts) → option_map (counts_after c) (option_map (counts_of ds) k) ≡ option_map (counts_of (ds ++ c ∷ [])) k
tally_next ds c None = refl
tally_next ds c (Some k) = ap (λ (x : Counts). Some x) (sym (counted_next ds c k))

none_counted : (k : Option Counts) → k ≡ option_map (counts_of []) k
none_counted None = refl
none_counted (Some k) = refl

-- ---- between two cycles

-- these cycles are done, and the run stands before those that are left
pub record Stands (a : code.Asked) (most left : ℕ) (s0 s : Standing) (old : Going) (drawn : Option Showing) (counted : Option Counts) (cycles : ℕ) (outside later : Outside) (spent : Spent) : Type 0 where
  pub finished : List Cycle
  pub all : (rest_of most s0).cycles ≡ finished ++ (rest_of left s).cycles
  pub verdict : (rest_of left s).verdict ≡ (rest_of most s0).verdict
  pub stood : (rest_of left s).left ≡ (rest_of most s0).left
  pub number : cycles + left ≡ old.cycles + most
  pub count : cycles ≡ old.cycles + length finished
  pub tally : counted ≡ option_map (counts_of finished) old.counted
  pub shows : drawn ≡ drawn_after finished old.drawn
  pub goes : s.stopped ≡ None
  pub keeps : Keeps s0 s
  pub adds : AddsAll (names_of a) (cycles_pieces (tree_in s0) (letters_of a.given.letters) old.drawn finished) outside later
  pub names : All (NamesItsParts (tree_in s0)) (rest_of left s).cycles
  pub whole : EndsWithin left s
  pub within : OnTrue spent.is_counted (spent.after ≤ spent.before + cost_of s0 finished)

pub stands_first : (a : code.Asked) (most : ℕ) (s : Standing) (old : Going) (now : Outside) (is_counted : Bool) (visited : ℕ) → s.stopped ≡ None → IsFitTo most s
    → Stands a most most s s old old.drawn old.counted old.cycles now now (spent_of is_counted visited visited)
stands_first a most s old now is_counted visited none fit =
    record {
      finished = [];
      all = refl;
      verdict = refl;
      stood = refl;
      number = refl;
      count = omega arith;
      tally = none_counted old.counted;
      shows = refl;
      goes = none;
      keeps = keeps-refl s;
      adds = all_none (names_of a) now;
      names = fit.names;
      whole = fit.whole;
      within = OnTrue_from is_counted _ (λ on. omega arith);
    }

-- ---- where a run breaks off

-- the state that is saved of a run
abbrev pub saved_in : code.Asked → Standing → Run → Bytes
saved_in a s r = saved_text a.end (tree_in s) r

-- all that a run writes
abbrev pub all_pieces : code.Asked → Standing → Run → Option Showing → List Piece
all_pieces a s r w = run_pieces (tree_in s) (letters_of a.given.letters) w r.cycles (saved_in a s r)

whole_by : (n : FileNames) (tree : Tree) (letters : List ℕ) (saved : Bytes) (why : Unwritten) (w : Option Showing) (before : List Cycle) (c : Cycle) (behind : List Cycle) (outside later : Outside) → Falls n why (cycles_pieces tree letters w before ++ cycle_pieces tree letters (drawn_after before w) c) outside later
    → Falls n why (run_pieces tree letters w (before ++ c ∷ behind) saved) outside later
whole_by n tree letters saved why w before c behind outside later falls =
    let first = cycles_pieces tree letters w before in
    let here = cycle_pieces tree letters (drawn_after before w) c in
    let rest = cycles_pieces tree letters (option_map (after_cycle c) (drawn_after before w)) behind in
    falls_before n why (cycles_pieces tree letters w (before ++ c ∷ behind)) (end_pieces (drawn_after (before ++ c ∷ behind) w) saved) outside later
    (falls_as n why ((first ++ here) ++ rest) (cycles_pieces tree letters w (before ++ c ∷ behind)) outside later (append_assoc first here rest ∙ sym (pieces_split tree letters w before (c ∷ behind)))
    (falls_before n why (first ++ here) rest outside later falls))

-- so a beginning of all that the run writes is written
pub begun_whole : (a : code.Asked) (s : Standing) (why : Unwritten) (r : Run) (w : Option Showing) (outside later : Outside) (spent : Spent) → BreaksOff (asking_of a s) why r w outside later spent
    → Falls (names_of a) why (all_pieces a s r w) outside later
begun_whole a s why r w outside later spent b =
    by b.point b.is_point
    (falls_after (names_of a) why (pieces_before (asking_of a s) r w b.point) (pieces_begun (asking_of a s) r w b.point) outside b.between later b.whole b.falls)
  where
    by : (p : BreakPoint) → IsPointOf r p → Falls (names_of a) why (pieces_before (asking_of a s) r w p ++ pieces_begun (asking_of a s) r w p) outside later → Falls (names_of a) why (all_pieces a s r w) outside later
    by (in_a_cycle before c behind) is falls =
        subst (λ (cs : List Cycle). Falls (names_of a) why (run_pieces (tree_in s) (letters_of a.given.letters) w cs (saved_in a s r)) outside later) (sym is)
        (whole_by (names_of a) (tree_in s) (letters_of a.given.letters) (saved_in a s r) why w before c behind outside later falls)
    by after_cycles is falls = falls

-- the visits of all
whole_cost : (s : Standing) (r : Run) (ds cs : List Cycle) (v : Verdict) (l : RunState) → r.cycles ≡ ds ++ cs → v ≡ r.verdict → l ≡ r.left
    → cost_of s ds + visits (tree_in s) (record { cycles = cs; verdict = v; left = l }) ≡ visits (tree_in s) r
whole_cost s r ds cs v l is verdict stood =
    let k = ap (cost_of s) is ∙ sum_by-append (cycle_visits (tree_in s)) ds cs in
    let last : last_visits (tree_in s) v l ≡ last_visits (tree_in s) r.verdict r.left = λ i. last_visits (tree_in s) (verdict i) (stood i) in
    omega (arith, k, last)

last_cost : (s : Standing) (v : Verdict) → visits_of s (ended v) ≡ last_visits (tree_in s) v s.state
last_cost s done = refl
last_cost s (too_many t) = refl
last_cost s (stop leaf t why) = refl

module _ (a : code.Asked) (most left : ℕ) (s0 s : Standing) (old : Going) (drawn : Option Showing) (counted : Option Counts) (cycles : ℕ) (outside mid : Outside) (spent : Spent) (was : Stands a most left s0 s old drawn counted cycles outside mid spent) where
  abbrev n : FileNames
  n = names_of a

  abbrev letters : List ℕ
  letters = letters_of a.given.letters

  abbrev all : Run
  all = rest_of most s0

  abbrev tree : Tree
  tree = tree_in s0

  -- what was spent, after one call more
  abbrev then_spent : ℕ → Spent
  then_spent after = spent_of spent.is_counted spent.before after

  abbrev Calls : ℕ → Type 0
  Calls after = OnTrue spent.is_counted (after ≤ spent.after + visits_of s (next_of_run s))

  -- the cycle that is due is the first of those that are left
  abbrev later : Standing → List Cycle
  later m = (rest_of (left - 1) m).cycles

  due : (m : Standing) (c : Cycle) → 0 < left → next_of_run s ≡ cycled c m.state → Keeps s m → (rest_of left s).cycles ≡ c ∷ later m
  due m c some is keeps = ap (λ (r : Run). r.cycles) (run_more left s m c some is keeps)

  -- the records of the cycle name leaves and ports
  pub names_due : (m : Standing) (t : ℕ) (records : Records) (model : Model) → 0 < left → HaveValues tree → (step : Cycles s t m records) → model ≡ m.model → NamesLeaves model records
  names_due m t records model some values step is =
      let c = step.cycle in
      let names = All-head (NamesItsParts tree) c (later m) (subst (All (NamesItsParts tree)) (due m c some step.next step.keeps) was.names) in
      subst (λ (x : Model). NamesLeaves x records) (sym (is ∙ step.keeps.model ∙ was.keeps.model))
      (cycles_name_leaves s0.model (settings_at s0.settings) records c values names step.records_are)

  all_next : (cs : List Cycle) (c : Cycle) → (rest_of left s).cycles ≡ c ∷ cs → all.cycles ≡ (was.finished ++ c ∷ []) ++ cs
  all_next cs c is = was.all ∙ ap (λ xs. was.finished ++ xs) is ∙ sym (append_assoc was.finished (c ∷ []) cs)

  cost_due : (c : Cycle) (m : RunState) → next_of_run s ≡ cycled c m → visits_of s (next_of_run s) ≡ cycle_visits tree c
  cost_due c m is = ap (visits_of s) is ∙ ap (λ (t : Tree). cycle_visits t c) (same_tree s0 s was.keeps)

  within_due : (c : Cycle) (m : RunState) (after : ℕ) → next_of_run s ≡ cycled c m → Calls after → OnTrue spent.is_counted (after ≤ spent.before + cost_of s0 (was.finished ++ c ∷ []))
  within_due c m after is calls =
      OnTrue_from spent.is_counted _ (λ on.
      let one = OnTrue_at on calls in
      let before = OnTrue_at on was.within in
      let cost = cost_due c m is in
      let more = cost_next s0 was.finished c in
      omega (arith, one, before, cost, more))

  pieces_with : (c : Cycle) → cycles_pieces tree letters old.drawn was.finished ++ cycle_pieces tree letters drawn c ≡ cycles_pieces tree letters old.drawn (was.finished ++ c ∷ [])
  pieces_with c = ap (λ w. cycles_pieces tree letters old.drawn was.finished ++ cycle_pieces tree letters w c) was.shows ∙ sym (pieces_next tree letters old.drawn was.finished c)

  same_model : (m : Standing) (model : Model) → model ≡ m.model → Keeps s m → tree_of model (settings_at s0.settings) ≡ tree
  same_model m model is keeps = ap (λ (x : Model). tree_of x (settings_at s0.settings)) (is ∙ keeps.model ∙ was.keeps.model)

  pub stands_next : (m : Standing) (t : ℕ) (records : Records) (model : Model) (new : Outside) (drawn' : Option Showing) (counted' : Option Counts) (cycles' : ℕ) (after : ℕ) → 0 < left → (step : Cycles s t m records) → model ≡ m.model
      → AddsAll n (cycle_pieces (tree_of model (settings_at s0.settings)) letters drawn step.cycle) mid new → drawn' ≡ option_map (after_cycle step.cycle) drawn → counted' ≡ option_map (counts_after step.cycle) counted → cycles' ≡ cycles + 1 → Calls after
      → Stands a most (left - 1) s0 m old drawn' counted' cycles' outside new (then_spent after)
  stands_next m t records model new drawn' counted' cycles' after some step model_is adds drawn_is counted_is cycles_is calls =
      let c = step.cycle in
      let is = due m c some step.next step.keeps in
      let more = run_more left s m c some step.next step.keeps in
      let now = was.number in
      let count = was.count in
      record {
        finished = was.finished ++ c ∷ [];
        all = all_next (later m) c is;
        verdict = sym (ap (λ (r : Run). r.verdict) more) ∙ was.verdict;
        stood = sym (ap (λ (r : Run). r.left) more) ∙ was.stood;
        number = omega (arith, now, cycles_is, some);
        count = omega (arith, count, cycles_is, length-append was.finished (c ∷ []));
        tally = counted_is ∙ ap (option_map (counts_after c)) was.tally ∙ tally_next was.finished c old.counted;
        shows = drawn_is ∙ ap (option_map (after_cycle c)) was.shows ∙ sym (after_split was.finished (c ∷ []) old.drawn);
        goes = step.goes_on;
        keeps = keeps-trans s0 s m was.keeps step.keeps;
        adds = all_as n (cycles_pieces tree letters old.drawn was.finished ++ cycle_pieces tree letters drawn c) (cycles_pieces tree letters old.drawn (was.finished ++ c ∷ [])) outside new (pieces_with c)
            (all_both n (cycles_pieces tree letters old.drawn was.finished) (cycle_pieces tree letters drawn c) outside mid new was.adds (subst (λ (x : Tree). AddsAll n (cycle_pieces x letters drawn c) mid new) (same_model m model model_is step.keeps) adds));
        names = All-tail (NamesItsParts tree) c (later m) (subst (All (NamesItsParts tree)) is was.names);
        whole = whole_next left s m c was.whole some step.next step.keeps;
        within = within_due c m.state after step.next calls;
      }

  -- a cycle that was begun is written in part
  breaks_in : (why : Unwritten) (c : Cycle) (m : RunState) (cs : List Cycle) (new : Outside) (after : ℕ) → (rest_of left s).cycles ≡ c ∷ cs → next_of_run s ≡ cycled c m → Falls n why (cycle_pieces tree letters drawn c) mid new → Calls after
      → BreaksOff (asking_of a s0) why all old.drawn outside new (then_spent after)
  breaks_in why c m cs new after is next falls calls =
      record {
        point = in_a_cycle was.finished c cs;
        is_point = was.all ∙ ap (λ xs. was.finished ++ xs) is;
        between = mid;
        whole = was.adds;
        falls = subst (λ (w : Option Showing). Falls n why (cycle_pieces tree letters w c) mid new) was.shows falls;
        within = within_due c m after next calls;
      }

  pub breaks_next : (m : Standing) (t : ℕ) (records : Records) (model : Model) (new : Outside) (why : Unwritten) (after : ℕ) → 0 < left → (step : Cycles s t m records) → model ≡ m.model
      → Falls n why (cycle_pieces (tree_of model (settings_at s0.settings)) letters drawn step.cycle) mid new → Calls after
      → BreaksOff (asking_of a s0) why all old.drawn outside new (then_spent after)
  breaks_next m t records model new why after some step model_is falls calls =
      breaks_in why step.cycle m.state (later m) new after (due m step.cycle some step.next step.keeps) step.next
      (subst (λ (x : Tree). Falls n why (cycle_pieces x letters drawn step.cycle) mid new) (same_model m model model_is step.keeps) falls) calls

  -- what the last call costs
  within_last : (v : Verdict) (after : ℕ) → next_of_run s ≡ ended v → Calls after → OnTrue spent.is_counted (after ≤ spent.before + (cost_of s0 was.finished + last_visits tree all.verdict all.left))
  within_last v after is calls =
      let verdict : v ≡ all.verdict = sym (ap (λ (r : Run). r.verdict) (run_ended left s v is)) ∙ was.verdict in
      let stood : s.state ≡ all.left = sym (ap (λ (r : Run). r.left) (run_ended left s v is)) ∙ was.stood in
      let cost : visits_of s (next_of_run s) ≡ last_visits tree all.verdict all.left = ap (visits_of s) is ∙ last_cost s v ∙ (λ i. last_visits (same_tree s0 s was.keeps i) (verdict i) (stood i)) in
      OnTrue_from spent.is_counted _ (λ on.
      let one = OnTrue_at on calls in
      let before = OnTrue_at on was.within in
      omega (arith, one, before, cost))

  -- no cycle is left, and not all of the end is written
  breaks_last : (why : Unwritten) (v : Verdict) (new : Outside) (after : ℕ) → next_of_run s ≡ ended v → Falls n why (end_pieces drawn (saved_in a s0 all)) mid new → Calls after
      → BreaksOff (asking_of a s0) why all old.drawn outside new (then_spent after)
  breaks_last why v new after is falls calls =
      let none : (rest_of left s).cycles ≡ [] = ap (λ (r : Run). r.cycles) (run_ended left s v is) in
      let same : all.cycles ≡ was.finished = was.all ∙ ap (λ cs. was.finished ++ cs) none ∙ append-nil was.finished in
      record {
        point = after_cycles;
        is_point = tt;
        between = mid;
        whole = all_as n (cycles_pieces tree letters old.drawn was.finished) (cycles_pieces tree letters old.drawn all.cycles) outside mid (ap (cycles_pieces tree letters old.drawn) (sym same)) was.adds;
        falls = subst (λ (w : Option Showing). Falls n why (end_pieces w (saved_in a s0 all)) mid new) (was.shows ∙ ap (λ cs. drawn_after cs old.drawn) (sym same)) falls;
        within = OnTrue_from spent.is_counted _ (λ on.
            let cost = OnTrue_at on (within_last v after is calls) in
            omega (arith, cost, ap (cost_of s0) same));
      }

  -- memory ran out in the call
  pub breaks_here : (after : ℕ) → Calls after → BreaksOff (asking_of a s0) why.Memory all old.drawn outside mid (then_spent after)
  breaks_here after calls = by (next_of_run s) refl
    where
      by : (x : Next) → next_of_run s ≡ x → BreaksOff (asking_of a s0) why.Memory all old.drawn outside mid (then_spent after)
      by (ended v) is = breaks_last why.Memory v mid after is (fell_at_once n (piece_of Frames (last_frame drawn)) (one_piece State (saved_in a s0 all)) mid) calls
      by (cycled c m) is =
          let first = has_cycle left s c m was.whole is in
          breaks_in why.Memory c m first.0 mid after first.1 is (none_of_cycle n tree letters drawn c mid) calls

  -- the run ends here
  pub ends_by_verdict : (v : Verdict) (ending : Ending) (new : Going) (after : ℕ) → next_of_run s ≡ ended v → IsVerdict ending v → new.drawn ≡ drawn → new.counted ≡ counted → new.cycles ≡ cycles → Calls after
      → RunsTo (asking_of a s0) all old new outside mid (then_spent after) (Ok ending)
  ends_by_verdict v ending new after is verdict drawn_is counted_is cycles_is calls =
      let none : (rest_of left s).cycles ≡ [] = ap (λ (r : Run). r.cycles) (run_ended left s v is) in
      let same : all.cycles ≡ was.finished = was.all ∙ ap (λ cs. was.finished ++ cs) none ∙ append-nil was.finished in
      let last : v ≡ all.verdict = sym (ap (λ (r : Run). r.verdict) (run_ended left s v is)) ∙ was.verdict in
      let count = was.count in (
        record {
          verdict = subst (IsVerdict ending) last verdict;
          cycles = omega (arith, count, cycles_is, ap length same);
          counted = counted_is ∙ was.tally ∙ ap (λ cs. option_map (counts_of cs) old.counted) (sym same);
        },
        record {
          adds = all_as n (cycles_pieces tree letters old.drawn was.finished) (cycles_pieces tree letters old.drawn all.cycles) outside mid (ap (cycles_pieces tree letters old.drawn) (sym same)) was.adds;
          drawn = drawn_is ∙ was.shows ∙ ap (λ cs. drawn_after cs old.drawn) (sym same);
          within = OnTrue_from spent.is_counted _ (λ on.
              let one = OnTrue_at on (within_last v after is calls) in
              omega (arith, one, ap (cost_of s0) same));
        },
      )

  pub not_late : (m : Standing) (t : ℕ) (records : Records) → left ≡ 0 → Cycles s t m records → ⊥
  not_late m t records none step = some_left s step.cycle m.state (subst (λ k. EndsWithin k s) none was.whole) step.next

  -- a stop ends the run, or memory ran out
  pub stops_here : (m : Standing) (records : Records) (answer : Stop) (result : Result Ending Unwritten) (new : Going) (after : ℕ) → run.Steps s (Err answer) m records → StopsAs answer result → new.drawn ≡ drawn → new.counted ≡ counted → new.cycles ≡ cycles → Calls after
      → RunsTo (asking_of a s0) all old new outside mid (then_spent after) result
  stops_here m records answer (Ok Done) new after step how drawn_is counted_is cycles_is calls = absurd how
  stops_here m records answer (Ok (Stopped st)) new after step how drawn_is counted_is cycles_is calls =
      let v = stops_with s m records answer step how.1 in
      ends_by_verdict v.0 (Stopped st) new after v.1 (subst (λ (x : Stop). IsVerdict (Stopped x) v.0) (sym how.0) v.2) drawn_is counted_is cycles_is calls
  stops_here m records answer (Err (why.Fault file)) new after step how drawn_is counted_is cycles_is calls = absurd how
  stops_here m records answer (Err why.Memory) new after step how drawn_is counted_is cycles_is calls = breaks_here after calls

  -- a run that is done stands where it was left
  pub done_in : (m : Standing) → next_of_run s ≡ ended done → m ≡ s → DoneIn (Ok Done) all.left m
  done_in m is same = (
    (λ i. (same i).state) ∙ sym (ap (λ (r : Run). r.left) (run_ended left s done is)) ∙ was.stood,
    (λ i. (same i).stopped) ∙ was.goes,
  )

  -- no more visits than the run may cost
  pub costs_here : (after : ℕ) → Calls after → OnTrue spent.is_counted (after ≤ spent.before + visits tree all)
  costs_here after calls =
      OnTrue_from spent.is_counted _ (λ on.
      let one = OnTrue_at on calls in
      let before = OnTrue_at on was.within in
      let rest = subst (λ (t : Tree). visits_of s (next_of_run s) ≤ visits t (rest_of left s)) (same_tree s0 s was.keeps) (call_within left s was.whole) in
      let cost = whole_cost s0 all was.finished (rest_of left s).cycles (rest_of left s).verdict (rest_of left s).left was.all was.verdict was.stood in
      omega (arith, one, before, rest, cost))

  -- the files are still those that were made
  pub made_still : AreCreated n outside.created → AreCreated n mid.created
  made_still made = subst (AreCreated n) (sym was.adds.adds.created) made

-- a stop is no end that is saved
pub stop_no_end : (answer : Stop) (result : Result Ending Unwritten) (left : RunState) (s : Standing) → StopsAs answer result → DoneIn result left s
stop_no_end answer (Ok Done) left s how = absurd how
stop_no_end answer (Ok (Stopped st)) left s how = tt
stop_no_end answer (Err why) left s how = tt
