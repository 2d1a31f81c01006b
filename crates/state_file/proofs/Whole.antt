-- The whole text of a saved state, by its lines.
use Rattle.std.proofs.Common.{◌≡◌, ℕ, ◌<◌, ◌≤◌, ◌==◌, true, false, cond, Some, None, List, refl}
use Rattle.std.proofs.Common.{sym, ap, ◌∙◌, subst, arith, length, codes, nat_lt}
use Rattle.std.specs.Prelude.{Result, Ok, Err}
use Rattle.std.specs.List.{slice_split, filter}
use Rattle.std.proofs.lemmas.Bool.Decides.{nat_tests}
use Rattle.quantity.specs.Bytes.{Bytes, is_byte}
use Rattle.event_list.specs.Events.{Event}
use Rattle.model_tree.specs.Tree.{Tree, leaves}
use Rattle.run_model.specs.Cycle.{LeafState}
use Rattle.text_forms.specs.declared.refusal.StateRefusal.{StateRefusal}
use Rattle.text_forms.specs.declared.refusal.StateRefusal.TheVariants.{BadStateLine, EndBefore}
use Rattle.text_forms.specs.declared.refusal.StateRefusal.TheVariants.{TooLarge, Memory}
use Rattle.text_forms.specs.StateOf.{Saved, just, leaves_in, next_line, read_at, state_at, state_of}
use Rattle.run_leaves.specs.Standing.{Standing}
use Rattle.flat_run.specs.Changes.{with_events}
use Rattle.state_lines.specs.Parts.{behind_text, line_in, parts_of}
use Rattle.state_lines.proofs.Heads.{by_text, line_none, line_some}
use Rattle.state_file.specs.Loads.{GoesOnFrom, TakesText, with_time}
use Rattle.state_file.specs.Taken.{HasThese}

-- ---- the whole text

end_is : (c : ℕ) → (c == 10) ≡ is_byte 10 c
end_is c = grind (arith, nat_tests)

abbrev opened : Tree → ℕ → List Bytes → Result Saved StateRefusal
opened tree end parts =
    next_line 1 (just (codes "state 1")) parts (λ first rest. next_line 2 read_at rest
    (λ t rest. state_at end t (leaves tree) rest))

sized : (tree : Tree) (end : ℕ) (bytes : Bytes) → length bytes ≤ 268435456
    → state_of bytes tree end ≡ opened tree end (parts_of bytes)
sized tree end bytes h =
    ap (λ b. cond b (Err (TooLarge 0)) (opened tree end (slice_split (λ c. c == 10) bytes)))
    (test (length bytes) h)
    ∙ (λ i. opened tree end (slice_split (λ c. end_is c i) bytes))
  where
    test : (n : ℕ) → n ≤ 268435456 → nat_lt 268435456 n ≡ false
    test n h = grind (arith, nat_tests)

pub too_large : (tree : Tree) (end : ℕ) (bytes : Bytes) → 268435456 < length bytes
    → state_of bytes tree end ≡ Err (TooLarge 0)
too_large tree end bytes h =
    ap (λ b. cond b (Err (TooLarge 0)) (opened tree end (slice_split (λ c. c == 10) bytes)))
    (test (length bytes) h)
  where
    test : (n : ℕ) → 268435456 < n → nat_lt 268435456 n ≡ true
    test n h = grind (arith, nat_tests)

abbrev second : Tree → ℕ → List Bytes → Result Saved StateRefusal
second tree end rest = next_line 2 read_at rest (λ t rest. state_at end t (leaves tree) rest)

pub no_first : (tree : Tree) (end : ℕ) (bytes : Bytes) → length bytes ≤ 268435456
    → None ≡ behind_text (codes "state 1") (parts_of bytes)
    → state_of bytes tree end ≡ Err (BadStateLine 1)
no_first tree end bytes h e = sized tree end bytes h
    ∙ by_text 1 (codes "state 1") (parts_of bytes) (second tree end) None e

behind_first : (tree : Tree) (end : ℕ) (bytes behind : Bytes) → length bytes ≤ 268435456
    → Some (parts_of behind) ≡ behind_text (codes "state 1") (parts_of bytes)
    → state_of bytes tree end ≡ second tree end (parts_of behind)
behind_first tree end bytes behind h e = sized tree end bytes h
    ∙ by_text 1 (codes "state 1") (parts_of bytes) (second tree end) (Some (parts_of behind)) e

pub no_second : (tree : Tree) (end : ℕ) (bytes behind : Bytes) → length bytes ≤ 268435456
    → Some (parts_of behind) ≡ behind_text (codes "state 1") (parts_of bytes)
    → None ≡ line_in read_at (parts_of behind) → state_of bytes tree end ≡ Err (BadStateLine 2)
no_second tree end bytes behind h e f =
    behind_first tree end bytes behind h e
    ∙ line_none 2 read_at (parts_of behind) (λ t rest. state_at end t (leaves tree) rest)
    (sym f)

-- the time is read, and the leaves are left
at_leaves : (tree : Tree) (end : ℕ) (bytes behind : Bytes) (t : ℕ) (rest : Bytes)
    → length bytes ≤ 268435456
    → Some (parts_of behind) ≡ behind_text (codes "state 1") (parts_of bytes)
    → Some (t, parts_of rest) ≡ line_in read_at (parts_of behind)
    → state_of bytes tree end ≡ state_at end t (leaves tree) (parts_of rest)
at_leaves tree end bytes behind t rest h e f = behind_first tree end bytes behind h e
    ∙ line_some 2 read_at (parts_of behind) (λ t rest. state_at end t (leaves tree) rest) t
    (parts_of rest) (sym f)

abbrev timed : ℕ → Result (List LeafState) StateRefusal → Result Saved StateRefusal
timed t r = elim r as (λ x. Result Saved StateRefusal)
    [ Err e ↦ Err e | Ok ss ↦ Ok (record { time = t; states = ss }) ]

timed_so : (t : ℕ) (r : Result (List LeafState) StateRefusal) → timed t r ≡ with_time t r
timed_so t (Err e) = refl
timed_so t (Ok ss) = refl

pub past_end : (tree : Tree) (end : ℕ) (bytes behind : Bytes) (t : ℕ) (rest : Bytes)
    → length bytes ≤ 268435456
    → Some (parts_of behind) ≡ behind_text (codes "state 1") (parts_of bytes)
    → Some (t, parts_of rest) ≡ line_in read_at (parts_of behind) → end < t
    → state_of bytes tree end ≡ Err (EndBefore 2)
past_end tree end bytes behind t rest h e f past = at_leaves tree end bytes behind t rest h e f
    ∙ ap (λ b. cond b (Err (EndBefore 2))
    (timed t (leaves_in 3 t (leaves tree) (parts_of rest)))) (test end t past)
  where
    test : (n m : ℕ) → n < m → nat_lt n m ≡ true
    test n m h = grind (arith, nat_tests)

pub in_time : (tree : Tree) (end : ℕ) (bytes behind : Bytes) (t : ℕ) (rest : Bytes)
    → length bytes ≤ 268435456
    → Some (parts_of behind) ≡ behind_text (codes "state 1") (parts_of bytes)
    → Some (t, parts_of rest) ≡ line_in read_at (parts_of behind) → t ≤ end
    → state_of bytes tree end ≡ with_time t (leaves_in 3 t (leaves tree) (parts_of rest))
in_time tree end bytes behind t rest h e f within = at_leaves tree end bytes behind t rest h e f
    ∙ ap (λ b. cond b (Err (EndBefore 2))
    (timed t (leaves_in 3 t (leaves tree) (parts_of rest)))) (test end t within)
    ∙ timed_so t (leaves_in 3 t (leaves tree) (parts_of rest))
  where
    test : (n m : ℕ) → m ≤ n → nat_lt n m ≡ false
    test n m h = grind (arith, nat_tests)

-- ---- what is read, and the run

abbrev States : Type 0
States = Result (List LeafState) StateRefusal

-- a line of a leaf, or one behind, is refused
pub line_refused : (t line : ℕ) (states : States) → states ≡ Err (BadStateLine line)
    → with_time t states ≡ Err (BadStateLine line)
line_refused t line states e = ap (with_time t) e

-- what is told of the leaves is told of the whole text
pub text_taken : (s n : Standing) (read later : Result Saved StateRefusal)
    (r : Result ℕ StateRefusal) → read ≡ later → TakesText s n later r → TakesText s n read r
text_taken s n read later r e h = subst (λ x. TakesText s n x r) (sym e) h

-- no cycle was run
pub still_fresh : (s n : Standing) (states : States) → HasThese s n states → s.state.last ≡ None
    → s.stopped ≡ None → (n.state.last ≡ None) × (n.stopped ≡ None)
still_fresh s n (Err why) h last goes = absurd h
still_fresh s n (Ok ss) h last goes =
    (ap (λ (x : Standing). x.state.last) h ∙ last, ap (λ (x : Standing). x.stopped) h ∙ goes)

-- the run goes on from the states, with the events after the time
pub goes_on : (t : ℕ) (states : States) (s n m : Standing) → HasThese s n states
    → m ≡ with_events n (filter (λ (e : Event). nat_lt t e.time) n.state.events)
    → s.state.last ≡ None → s.state.count ≡ 0 → GoesOnFrom s (with_time t states) (m, t)
goes_on t (Err why) s n m these skipped last count = absurd these
goes_on t (Ok ss) s n m these skipped last count = (
  skipped ∙ ap (λ (x : Standing). with_events x (filter (λ (e : Event). nat_lt t e.time)
      x.state.events)) these
      ∙ (λ i. record {
        model = s.model;
        settings = s.settings;
        state = record {
          leaf_states = ss;
          events = filter (λ (e : Event). nat_lt t e.time) s.state.events;
          last = last i;
          count = count i;
        };
        end = s.end;
        limit = s.limit;
        stopped = s.stopped;
      }),
  refl,
)
