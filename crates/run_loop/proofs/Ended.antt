-- What is told of a run that ended, and the outcome.
use Rattle.std.proofs.Common.{◌≡◌, ℕ, ◌+◌, ◌<◌, ◌≤◌, Option, Some, List, [], ◌++◌, length, refl, sym, ap, ◌∙◌, subst, arith}
use Rattle.std.specs.Prelude.{decimal, codes, slice_get, OnOk, Result, Ok, Err}
use Rattle.std.specs.Option.{option_map, unwrap_or}
use Rattle.std.proofs.lemmas.List.{append-nil}
use Rattle.std.proofs.lemmas.Option.{slice_get_past}
use Rattle.model_leaves.specs.PlaneTexts.{leaf_text}
use Rattle.model_leaves.proofs.Read.{leaves-length}
use Rattle.text_forms.specs.LogLine as log
use Rattle.text_forms.specs.Lines.{leaf_name}
use Rattle.run_loop.proofs.Groups.{leaf_in}
use Rattle.quantity.specs.Bytes.{Bytes}
use Rattle.rule_tree.specs.declared.outcome.RuleStop.{RuleStop}
use Rattle.rule_tree.specs.declared.outcome.RuleStop.TheVariants.{NoTrueRule, Overflow, BadDelay}
use Rattle.model_tree.specs.Tree.{Word, Tree, Leaf, atomic_leaf, cell_leaf, leaves, leaf_count}
use Rattle.run_model.specs.Run.{Event, Cycle, Run, Verdict, done, too_many, stop}
use Rattle.text_forms.specs.Lines.{line_with_end}
use Rattle.room_edge.specs.Faults.{WriteFaultCounted}
use Rattle.room_edge.specs.FaultCounts.{KeepsWriteFaults}
use Rattle.room_edge.specs.Outside.{Outside}
use Rattle.answer_model.specs.declared.status.Status.{Status}
use Rattle.answer_model.specs.declared.status.Status.TheVariants as exit
use Rattle.answer_model.specs.Status.{of_run, IsOf}
use Rattle.answer_model.specs.Asked.{ModelSource, made, Asked}
use Rattle.answer_model.specs.Answer.{Answer}
use Rattle.answer_model.specs.Endings.{Says, ShowsEnd, made_after, EndsWith}
use Rattle.answer_model.specs.RunEnd.{Said, verdict_message, done_line, made_line, many_line, stop_line, stop_status}
use Rattle.answer_model.proofs.Endings.{endings_follow}
use Rattle.answer_model.proofs.Said.{said_among, shown_among}
use Rattle.answer_model.proofs.Stages.{then_ends, rose_by_said, rose_by_shown}
use Rattle.run_loop.specs.Texts.{FileNames, Texts, no_texts, files}
use Rattle.answer_model.specs.FaultsAnswered.{AnswersFaults}
use Rattle.answer_model.proofs.FaultLemmas.{then_answers, said_answers, shown_answers}
use Rattle.run_loop.proofs.Making.{clean_adds}
use Rattle.run_loop.specs.Order.{Piece, texts_of}
use Rattle.run_loop.specs.Written.{Adds, AddsAll}
use Rattle.run_loop.specs.Counts.{Counts, no_counts, counts_of}
use Rattle.run_loop.proofs.Counting.{counts_y, counts_s, ones_counted}
use Rattle.run_loop.specs.declared.going.Going.{Going}
use Rattle.run_loop.specs.declared.ending.Ending.{Ending}
use Rattle.run_loop.specs.Begins.{CountsNone, counts_at_start}
use Rattle.run_loop.specs.Ran.{HasEnded}
use Rattle.run_loop.specs.Ends.{IsVerdict, made_text, mark_behind, leaf_called, said_with, IsSaid, is_shown, is_complained, HasCounted}
use Rattle.run_loop.specs.ToBe.{IsAnswerOf}
use Rattle.run_loop.proofs.Leaving.{told_made}

-- ---- the last line

-- what was counted of a made model
counted_made : (a : Asked) (tree : Tree) (cycles : List Cycle) (going : Going) (size : ℕ) → a.source ≡ made size → HasCounted a tree cycles going → going.counted ≡ Some (counts_of cycles (no_counts (leaf_count tree)))
counted_made a tree cycles going size of_size has = has.counted ∙ ap (λ (s : ModelSource). option_map (counts_of cycles) (counts_at_start tree s)) of_size

made_is : (size : ℕ) (tree : Tree) (cycles : List Cycle) → made_text size (leaf_count tree) (length cycles) (counts_of cycles (no_counts (leaf_count tree))) ≡ made_line size tree cycles
made_is size tree cycles =
    let k = counts_of cycles (no_counts (leaf_count tree)) in
    let y = counts_y cycles (no_counts (leaf_count tree)) ∙ from_zero _ in
    let s = counts_s cycles (no_counts (leaf_count tree)) ∙ from_zero _ in
    let ones = ones_counted (leaf_count tree) cycles in
    λ i. codes "made " ++ decimal size ++ codes " cells " ++ decimal (leaf_count tree) ++ codes " cycles " ++ decimal (length cycles)
    ++ codes " y " ++ decimal (y i) ++ codes " s " ++ decimal (s i) ++ codes " ones " ++ decimal (ones i)
  where
    from_zero : (n : ℕ) → 0 + n ≡ n
    from_zero n = omega arith

-- of a model that is made
pub made_told : (a : Asked) (tree : Tree) (cycles : List Cycle) (going : Going) (line : Bytes) (size cells : ℕ) (k : Counts) → a.source ≡ made size → going.counted ≡ Some k → cells ≡ leaf_count tree → HasCounted a tree cycles going → line ≡ made_text size cells going.cycles k
    → line ≡ done_line a tree cycles
made_told a tree cycles going line size cells k of_size counted all has is =
    let both : Some k ≡ Some (counts_of cycles (no_counts (leaf_count tree))) = sym counted ∙ counted_made a tree cycles going size of_size has in
    let same : k ≡ counts_of cycles (no_counts (leaf_count tree)) = cc in
    is ∙ (λ i. made_text size (all i) (has.number i) (same i)) ∙ made_is size tree cycles ∙ sym (ap (λ (s : ModelSource). done_line (record a { source = s }) tree cycles) of_size)

-- ---- what is said

-- of a run that is done, with its mark
pub done_said : (mark : Option ℕ) (a : Asked) (tree : Tree) (cycles : List Cycle) (v : Verdict) (old new : Outside) (status : Status) → v ≡ done → ShowsEnd (line_with_end (done_line a tree cycles ++ mark_behind mark)) exit.Done old new status
    → IsSaid (said_with mark a tree cycles v) old new status
done_said mark a tree cycles v old new status is shows =
    subst (λ (x : Verdict). IsSaid (said_with mark a tree cycles x) old new status) (sym is) (is_shown refl shows)

-- of a stop
pub stop_said : (mark : Option ℕ) (a : Asked) (tree : Tree) (cycles : List Cycle) (v : Verdict) (leaf t : ℕ) (why : RuleStop) (old new : Outside) (status : Status) → v ≡ stop leaf t why → Says (line_with_end (stop_line tree leaf t why)) (stop_status why) old new status
    → IsSaid (said_with mark a tree cycles v) old new status
stop_said mark a tree cycles v leaf t why old new status is says =
    subst (λ (x : Verdict). IsSaid (said_with mark a tree cycles x) old new status) (sym is) (is_complained refl says)

-- of too many cycles
pub many_said : (mark : Option ℕ) (a : Asked) (tree : Tree) (cycles : List Cycle) (v : Verdict) (t : ℕ) (old new : Outside) (status : Status) → v ≡ too_many t → Says (line_with_end (many_line a.limit t)) exit.TooManyCycles old new status
    → IsSaid (said_with mark a tree cycles v) old new status
many_said mark a tree cycles v t old new status is says =
    subst (λ (x : Verdict). IsSaid (said_with mark a tree cycles x) old new status) (sym is) (is_complained refl says)

-- ---- the outcome

-- all is written, and what is to be said was said
told_ends : (a : Answer) (n : FileNames) (texts : Texts) (s : Said) (inputs : List Word) (old mid new : Outside) (status : Status) → IsAnswerOf n texts s a → Adds n texts old mid → IsSaid s mid new status
    → EndsWith a (made_after inputs (files n no_texts)) old new status
told_ends a n texts s inputs old mid new status is adds (is_shown none shows) =
    then_ends a (made_after inputs (files n no_texts)) (made_after inputs (files n texts)) old mid new status (adds.leads no_texts a inputs)
    (endings_follow.ended a (made_after inputs (files n texts)) mid new s.shown status (sym is.made) is.shown (is.complained ∙ none)
    (subst (λ x. ShowsEnd s.shown x mid new status) (sym is.status) shows))
told_ends a n texts s inputs old mid new status is adds (is_complained none says) =
    then_ends a (made_after inputs (files n no_texts)) (made_after inputs (files n texts)) old mid new status (adds.leads no_texts a inputs)
    (endings_follow.said a (made_after inputs (files n texts)) mid new status (sym is.made) (sym (is.shown ∙ none))
    (subst (λ l. Says l a.status mid new status) (sym is.complained) (subst (λ x. Says s.complained x mid new status) (sym is.status) says)))

-- ---- statuses

-- the status is one of a run, and it is no write fault
abbrev IsOwn : Status → Type 0
IsOwn own = IsOf of_run own × (own ≡ exit.WriteFault → ⊥)

own_stop : (why : RuleStop) → IsOwn (stop_status why)
own_stop NoTrueRule = (refl, λ e. absurd cc)
own_stop Overflow = (refl, λ e. absurd cc)
own_stop (BadDelay d) = (refl, λ e. absurd cc)

own : (mark : Option ℕ) (a : Asked) (tree : Tree) (cycles : List Cycle) (v : Verdict) → IsOwn (said_with mark a tree cycles v).status
own mark a tree cycles done = (refl, λ e. absurd cc)
own mark a tree cycles (too_many t) = (refl, λ e. absurd cc)
own mark a tree cycles (stop leaf t why) = own_stop why

told_known : (s : Said) (old new : Outside) (status : Status) → IsOwn s.status → IsSaid s old new status → IsOf of_run status
told_known s old new status is (is_shown none shows) = shown_among of_run s.shown s.status old new status is.0 refl refl shows
told_known s old new status is (is_complained none says) = said_among of_run s.complained s.status old new status is.0 refl refl says

told_rose : (s : Said) (old mid new : Outside) (status : Status) → IsOwn s.status → KeepsWriteFaults old mid → IsSaid s mid new status → status ≡ exit.WriteFault → WriteFaultCounted old new
told_rose s old mid new status is keeps (is_shown none shows) five = rose_by_shown s.shown s.status old mid new status keeps (λ e. absurd (is.1 e)) shows five
told_rose s old mid new status is keeps (is_complained none says) five = rose_by_said s.complained s.status old mid new status keeps (λ e. absurd (is.1 e)) says five

-- what is told counts each fault
told_answers : (s : Said) (old new : Outside) (status : Status) → IsSaid s old new status → AnswersFaults old new status
told_answers s old new status (is_shown none shows) = shown_answers s.shown s.status old new status shows
told_answers s old new status (is_complained none says) = said_answers s.complained s.status old new status says

-- ---- a run whose files are made

has_counted : (a : Asked) (tree : Tree) (r : Run) (was going : Going) (ending : Ending) → CountsNone a tree was → HasEnded r was going ending → HasCounted a tree r.cycles going
has_counted a tree r was going ending begins has =
    record {
      number = let n = has.cycles in let z = begins.cycles in omega (arith, n, z);
      counted = has.counted ∙ ap (option_map (counts_of r.cycles)) begins.counted;
    }

-- what is told of a verdict, of the cycles that were counted and of a mark
abbrev pub TellsAny : Option ℕ → Asked → Tree → Going → Ending → Outside → Outside → Status → Type 0
TellsAny mark a tree going ending old new status =
    (cycles : List Cycle) (v : Verdict) → IsVerdict ending v → HasCounted a tree cycles going → IsSaid (said_with mark a tree cycles v) old new status

module _ (n : FileNames) (pieces : List Piece) (mark : Option ℕ) (a : Asked) (tree : Tree) (r : Run) (old mid new : Outside) (was going : Going) (ending : Ending) (status : Status) (begins : CountsNone a tree was) (has : HasEnded r was going ending) (adds : AddsAll n pieces old mid) (tells : TellsAny mark a tree going ending mid new status) where
  told : IsSaid (said_with mark a tree r.cycles r.verdict) mid new status
  told = tells r.cycles r.verdict has.verdict (has_counted a tree r was going ending begins has)

  pub created_ends : (x : Answer) (events : List Event) (inputs : List Word) → said_with mark a tree r.cycles r.verdict ≡ verdict_message a tree events r.cycles r.verdict → IsAnswerOf n (texts_of pieces) (verdict_message a tree events r.cycles r.verdict) x → EndsWith x (made_after inputs (files n no_texts)) old new status
  created_ends x events inputs same is =
      told_ends x n (texts_of pieces) (verdict_message a tree events r.cycles r.verdict) inputs old mid new status is adds.adds (subst (λ (s : Said). IsSaid s mid new status) same told)

  pub created_known : IsOf of_run status
  created_known = told_known (said_with mark a tree r.cycles r.verdict) mid new status (own mark a tree r.cycles r.verdict) told

  pub created_rose : status ≡ exit.WriteFault → WriteFaultCounted old new
  created_rose five = told_rose (said_with mark a tree r.cycles r.verdict) old mid new status (own mark a tree r.cycles r.verdict) adds.adds.keeps told five

pub created_made : (mark : Option ℕ) (a : Asked) (tree : Tree) (r : Run) (mid new : Outside) (was going : Going) (ending : Ending) (status : Status) → CountsNone a tree was → HasEnded r was going ending → TellsAny mark a tree going ending mid new status → new.made ≡ mid.made
created_made mark a tree r mid new was going ending status begins has tells =
    told_made (said_with mark a tree r.cycles r.verdict) mid new status (tells r.cycles r.verdict has.verdict (has_counted a tree r was going ending begins has))

pub created_answers : (n : FileNames) (pieces : List Piece) (mark : Option ℕ) (a : Asked) (tree : Tree) (r : Run) (old mid new : Outside) (was going : Going) (ending : Ending) (status : Status) → CountsNone a tree was → HasEnded r was going ending → AddsAll n pieces old mid → TellsAny mark a tree going ending mid new status
    → AnswersFaults old new status
created_answers n pieces mark a tree r old mid new was going ending status begins has adds tells =
    then_answers old mid new status (clean_adds n pieces old mid adds)
    (told_answers (said_with mark a tree r.cycles r.verdict) mid new status (tells r.cycles r.verdict has.verdict (has_counted a tree r was going ending begins has)))

-- ---- how a leaf is called

same_name : (l : Leaf) → log.leaf_name_text (leaf_name l) ≡ leaf_text l
same_name (atomic_leaf name class settings) = append-nil name
same_name (cell_leaf g first cell) = refl

pub called_there : (tree : Tree) (leaf : ℕ) (old new : Bytes) → leaf < leaf_count tree → ((l : Leaf) → slice_get (leaves tree) leaf ≡ Some l → new ≡ old ++ leaf_text l) → new ≡ old ++ leaf_called tree leaf
called_there tree leaf old new lt at =
    let there = leaf_in tree leaf lt in
    at there.0 there.1 ∙ ap (λ x. old ++ x) (sym (ap (λ (o : Option Leaf). unwrap_or (option_map (λ l. log.leaf_name_text (leaf_name l)) o) []) there.1 ∙ same_name there.0))

pub called_past : (tree : Tree) (leaf : ℕ) (old : Bytes) → leaf_count tree ≤ leaf → old ≡ old ++ leaf_called tree leaf
called_past tree leaf old le =
    let past = slice_get_past (leaves tree) leaf (omega (arith, le, leaves-length tree 0)) in
    sym (ap (λ (o : Option Leaf). old ++ unwrap_or (option_map (λ l. log.leaf_name_text (leaf_name l)) o) []) past ∙ append-nil old)

pub on_ok_from : {T E : Type 0} (r : Result T E) (P Q : Type 0) → (P → Q) → OnOk r P → OnOk r Q
on_ok_from (Ok x) P Q f h = f h
on_ok_from (Err e) P Q f h = tt
