-- What the reading of a state comes to.
use Rattle.std.proofs.Common.{◌≡◌, ℕ, ◌<◌, arith, ◌==◌, true, cond, length, Option, Some, None, [], ◌∷◌, ◌++◌, Result, Ok, Err, refl, ap}
use Rattle.std.specs.Prelude.{nat_lt, codes, IfOk}
use Rattle.std.specs.List.{slice_split}
use Rattle.std.proofs.lemmas.Bool.Decides.{Decides-ltb}
use Rattle.quantity.specs.Bytes.{Bytes}
use Rattle.source_text.specs.Lines.{Files}
use Rattle.room_edge.specs.FaultCounts.{KeepsReadFaults, KeepsMisses}
use Rattle.room_edge.specs.Outside.{Outside}
use Rattle.room_edge.specs.Only.{OnlyInput}
use Rattle.model_tree.specs.Tree.{Word, Tree, leaves}
use Rattle.text_forms.specs.declared.refusal.StateRefusal.{StateRefusal}
use Rattle.text_forms.specs.declared.refusal.StateRefusal.TheVariants as S
use Rattle.text_forms.specs.StateOf.{Saved, next_line, just, read_at, state_at, state_of}
use Rattle.run_leaves.specs.Standing.{Standing, tree_in}
use Rattle.state_file.specs.Loads.{resumed_from, GoesOnFrom, IsRefusalOf, Loads}
use Rattle.answer_model.specs.Started.{bad_state, there}
use Rattle.answer_model.specs.FaultsAnswered.{NoReadFault}
use Rattle.run_inputs.specs.declared.unread.Unread.{Unread}
use Rattle.run_inputs.specs.declared.unread.Unread.TheVariants as why
use Rattle.asked_run.specs.Starting.{IsResumed}
use Rattle.asked_run.specs.Stages.{ReadsState, GoesOnBy}
use Rattle.run_inputs.specs.Read.{IsUnread, ReadCauses}
use Rattle.run_inputs.proofs.Causing.{state_told}
use Rattle.run_inputs.proofs.NamedFiles as named

-- that of some bytes
abbrev read_as : Tree → ℕ → Bytes → Result (Option Saved) StateRefusal
read_as tree end = λ bytes. there (state_of bytes tree end)

-- ---- a state that is there

-- the run goes on from the state of the text that was read
pub record Loaded (bytes : Bytes) (s : Standing) (end : ℕ) (r : Standing) : Type 0 where
  pub saved : Saved
  pub read : ◌≡◌ {A = Result Saved StateRefusal} (state_of bytes (tree_in s) end) (Ok saved)
  pub goes : r ≡ resumed_from s saved

pub loaded : (bytes : Bytes) (s : Standing) (end : ℕ) (r : Standing) (time : ℕ) → Loads s (state_of bytes (tree_in s) end) (Ok (r, time)) → Loaded bytes s end r
loaded bytes s end r time loads = by (state_of bytes (tree_in s) end) refl loads
  where
    by : (read : Result Saved StateRefusal) → state_of bytes (tree_in s) end ≡ read → GoesOnFrom s read (r, time) → Loaded bytes s end r
    by (Ok saved) is goes = record { saved = saved; read = is; goes = goes.0 }
    by (Err e) is goes = absurd goes

pub is_resumed : (name : Word) (bytes : Bytes) (s : Standing) (end : ℕ) (r : Standing) → Loaded bytes s end r → IsResumed (Some name) s end r
is_resumed name bytes s end r l = record { from = Some l.saved; named = refl; read = (bytes, l.read); goes = l.goes }

-- no file is named
pub not_resumed : (s : Standing) (end : ℕ) → IsResumed None s end s
not_resumed s end = record { from = None; named = refl; read = tt; goes = refl }

-- ---- where the files are told

module _ (name : Word) (s : Standing) (end : ℕ) (files : Files) (old mid : Outside) (tried : mid.tried ≡ old.tried ++ name ∷ []) (only : OnlyInput old mid) (keeps : KeepsReadFaults old mid) where
  -- there is a state
  pub state_there : (bytes : Bytes) (r : Standing) → files name ≡ Some bytes → Loaded bytes s end r → ReadsState (Some name) s end files old mid (Ok r)
  state_there bytes r found l = λ inputs. (
    Some l.saved,
    inputs ++ name ∷ [],
    named.is_read (read_as (tree_in s) end) bad_state name files old mid tried only keeps bytes (Some l.saved) inputs found (ap there l.read),
    refl,
    l.goes,
    named.looks (read_as (tree_in s) end) bad_state name files old mid tried only keeps inputs,
  )

  -- it is refused
  pub state_off : (bytes : Bytes) (reason : StateRefusal) → files name ≡ Some bytes → IsRefusalOf (state_of bytes (tree_in s) end) reason → ReadsState (Some name) s end files old mid (Err (why.State reason))
  state_off bytes (S.BadStateLine line) found is =
      named.is_refused (read_as (tree_in s) end) bad_state name files old mid tried only keeps bytes (S.BadStateLine line) (why.State (S.BadStateLine line)) found (ap there is) (λ after s says. says)
  state_off bytes (S.EndBefore line) found is =
      named.is_refused (read_as (tree_in s) end) bad_state name files old mid tried only keeps bytes (S.EndBefore line) (why.State (S.EndBefore line)) found (ap there is) (λ after s says. says)
  state_off bytes (S.TooLarge line) found is =
      named.is_refused (read_as (tree_in s) end) bad_state name files old mid tried only keeps bytes (S.TooLarge line) (why.State (S.TooLarge line)) found (ap there is) (λ after s says. says)
  state_off bytes S.Memory found is = named.is_forgotten (read_as (tree_in s) end) bad_state name files old mid tried only keeps (why.State S.Memory) (λ after s tells. tells)

-- no file is named
pub no_state : (s : Standing) (end : ℕ) (files : Files) (now : Outside) → ReadsState None s end files now now (Ok s)
no_state s end files now = λ inputs. (None, inputs, refl, refl, refl, λ a begins start way. way)

-- ---- a file that is too long

long_is : (n : ℕ) → 268435456 < n → nat_lt 268435456 n ≡ true
long_is n lt = (Decides-ltb 268435456 n).1 lt

pub long_refused : (bytes : Bytes) (tree : Tree) (end : ℕ) → 268435456 < length bytes → ◌≡◌ {A = Result Saved StateRefusal} (state_of bytes tree end) (Err (S.TooLarge 0))
long_refused bytes tree end lt =
    ap (λ b. cond b (Err (S.TooLarge 0)) (next_line 1 (just (codes "state 1")) (slice_split (λ c. c == 10) bytes) (λ first rest. next_line 2 read_at rest (λ t rest. state_at end t (leaves tree) rest)))) (long_is (length bytes) lt)

-- ---- a file that was not read

pub state_long : (name : Word) (s : Standing) (end : ℕ) (files : Files) (old mid : Outside) → mid.tried ≡ old.tried ++ name ∷ [] → OnlyInput old mid → KeepsReadFaults old mid → (bytes : Bytes) → files name ≡ Some bytes → 268435456 < length bytes
    → ReadsState (Some name) s end files old mid (Err (why.State (S.TooLarge 0)))
state_long name s end files old mid tried only keeps bytes found lt = state_off name s end files old mid tried only keeps bytes (S.TooLarge 0) found (long_refused bytes (tree_in s) end lt)

pub state_unread : (name : Word) (s : Standing) (end : ℕ) (files : Files) (old mid : Outside) (reason : Unread) → OnlyInput old mid → KeepsReadFaults old mid → IsUnread name files old mid reason → ReadsState (Some name) s end files old mid (Err reason)
state_unread name s end files old mid reason only keeps is = named.is_stopped (read_as (tree_in s) end) bad_state name files old mid reason only keeps is

-- ---- what the bytes give

pub goes_on : (bytes : Bytes) (s : Standing) (end : ℕ) (r : Standing) (time : ℕ) → Loads s (state_of bytes (tree_in s) end) (Ok (r, time)) → GoesOnBy bytes s end (Ok r)
goes_on bytes s end r time loads = let l = loaded bytes s end r time loads in (l.saved, l.read, l.goes)

pub goes_reads : (name : Word) (s : Standing) (end : ℕ) (files : Files) (old mid : Outside) → OnlyInput old mid → NoReadFault old mid → (bytes : Bytes) → files name ≡ Some bytes → mid.tried ≡ old.tried ++ name ∷ []
    → (result : Result Standing Unread) → GoesOnBy bytes s end result → ReadsState (Some name) s end files old mid result
goes_reads name s end files old mid only none bytes found tried (Ok r) (saved, read, goes) =
    state_there name s end files old mid tried only (omega (arith, none)) bytes r found (record { saved = saved; read = read; goes = goes })
goes_reads name s end files old mid only none bytes found tried (Err (why.State reason)) off = state_off name s end files old mid tried only (omega (arith, none)) bytes reason found off
goes_reads name s end files old mid only none bytes found tried (Err why.Usage) off = absurd off
goes_reads name s end files old mid only none bytes found tried (Err (why.Missing n)) off = absurd off
goes_reads name s end files old mid only none bytes found tried (Err (why.ReadFault n)) off = absurd off
goes_reads name s end files old mid only none bytes found tried (Err (why.Model line kind)) off = absurd off
goes_reads name s end files old mid only none bytes found tried (Err (why.Events e)) off = absurd off
goes_reads name s end files old mid only none bytes found tried (Err why.Memory) off = absurd off

pub goes_causes : (bytes : Bytes) (s : Standing) (end : ℕ) (old mid : Outside) → OnlyInput old mid → KeepsMisses old mid → NoReadFault old mid → (result : Result Standing Unread) → GoesOnBy bytes s end result → ReadCauses old mid result
goes_causes bytes s end old mid only misses none (Ok r) goes = (misses, none)
goes_causes bytes s end old mid only misses none (Err (why.State reason)) off = λ after s tells. state_told reason old mid after s only none tells
goes_causes bytes s end old mid only misses none (Err why.Usage) off = absurd off
goes_causes bytes s end old mid only misses none (Err (why.Missing n)) off = absurd off
goes_causes bytes s end old mid only misses none (Err (why.ReadFault n)) off = absurd off
goes_causes bytes s end old mid only misses none (Err (why.Model line kind)) off = absurd off
goes_causes bytes s end old mid only misses none (Err (why.Events e)) off = absurd off
goes_causes bytes s end old mid only misses none (Err why.Memory) off = absurd off

pub goes_resumed : (name : Word) (bytes : Bytes) (s : Standing) (end : ℕ) (result : Result Standing Unread) → GoesOnBy bytes s end result → IfOk result (IsResumed (Some name) s end)
goes_resumed name bytes s end (Ok r) (saved, read, goes) = is_resumed name bytes s end r (record { saved = saved; read = read; goes = goes })
goes_resumed name bytes s end (Err e) off = tt
