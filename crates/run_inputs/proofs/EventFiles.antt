-- What the reading of events comes to.
use Rattle.std.proofs.Common.{◌≡◌, ◌≢◌, ℕ, ◌<◌, true, length, Option, Some, None, List, [], ◌∷◌, ◌++◌, Result, Ok, Err, sym, ap, subst, refl}
use Rattle.std.specs.Prelude.{nat_lt, if◌then◌else◌}
use Rattle.std.specs.List.{filter_map}
use Rattle.std.specs.Result.{result_ok}
use Rattle.std.proofs.lemmas.Bool.Decides.{Decides-ltb}
use Rattle.quantity.specs.Bytes.{Bytes}
use Rattle.source_text.specs.Lines.{Files, filled_lines}
use Rattle.room_edge.specs.FaultCounts.{KeepsReadFaults}
use Rattle.room_edge.specs.Outside.{Outside}
use Rattle.room_edge.specs.Only.{OnlyInput}
use Rattle.model_tree.specs.Tree.{Word}
use Rattle.run_model.specs.Run.{Event}
use Rattle.event_list.specs.declared.refusal.EventRefusal.{EventRefusal}
use Rattle.event_list.specs.declared.refusal.EventRefusal.TheVariants as E
use Rattle.event_list.specs.Events as list
use Rattle.event_list.specs.Events.{event_at, file_refused, by_time, events_of}
use Rattle.answer_model.specs.Started.{bad_events}
use Rattle.run_inputs.specs.declared.unread.Unread.{Unread}
use Rattle.run_inputs.specs.declared.unread.Unread.TheVariants as why
use Rattle.run_inputs.specs.Read.{ReadsEvents, IsUnread}
use Rattle.run_inputs.proofs.NamedFiles as named

-- those of some bytes
abbrev read_as : List Bytes → Bytes → Result (List Event) EventRefusal
read_as ports = λ bytes. events_of bytes ports

module _ (name : Word) (ports : List Bytes) (files : Files) (old mid : Outside) (tried : mid.tried ≡ old.tried ++ name ∷ []) (only : OnlyInput old mid) (keeps : KeepsReadFaults old mid) where
  -- there are events
  pub events_there : (bytes : Bytes) (events : List Event) → files name ≡ Some bytes → ◌≡◌ {A = Result (List Event) EventRefusal} (events_of bytes ports) (Ok events) → ReadsEvents (Some name) ports files old mid (Ok events)
  events_there bytes events there is = λ inputs.
      (inputs ++ name ∷ [], named.is_read (read_as ports) bad_events name files old mid tried only keeps bytes events inputs there is, named.looks (read_as ports) bad_events name files old mid tried only keeps inputs)

  -- they are refused
  pub events_off : (bytes : Bytes) (reason : EventRefusal) → files name ≡ Some bytes → (reason ≢ E.Memory → ◌≡◌ {A = Result (List Event) EventRefusal} (events_of bytes ports) (Err reason)) → ReadsEvents (Some name) ports files old mid (Err (why.Events reason))
  events_off bytes (E.BadEventLine line) there is =
      named.is_refused (read_as ports) bad_events name files old mid tried only keeps bytes (E.BadEventLine line) (why.Events (E.BadEventLine line)) there (is (λ e. cc)) (λ after s says. says)
  events_off bytes (E.UnknownPort line) there is =
      named.is_refused (read_as ports) bad_events name files old mid tried only keeps bytes (E.UnknownPort line) (why.Events (E.UnknownPort line)) there (is (λ e. cc)) (λ after s says. says)
  events_off bytes (E.TooLarge line) there is =
      named.is_refused (read_as ports) bad_events name files old mid tried only keeps bytes (E.TooLarge line) (why.Events (E.TooLarge line)) there (is (λ e. cc)) (λ after s says. says)
  events_off bytes E.Memory there is = named.is_forgotten (read_as ports) bad_events name files old mid tried only keeps (why.Events E.Memory) (λ after s tells. tells)

-- the file was not read
pub events_unread : (name : Word) (ports : List Bytes) (files : Files) (old mid : Outside) (reason : Unread) → OnlyInput old mid → KeepsReadFaults old mid → IsUnread name files old mid reason → ReadsEvents (Some name) ports files old mid (Err reason)
events_unread name ports files old mid reason only keeps is = named.is_stopped (read_as ports) bad_events name files old mid reason only keeps is

-- no file is named
pub no_events : (ports : List Bytes) (files : Files) (now : Outside) → ReadsEvents None ports files now now (Ok [])
no_events ports files now = λ inputs. (inputs, refl, λ a begins start way. way)

-- ---- a file that is too long

long_is : (n : ℕ) → 16777216 < n → nat_lt 16777216 n ≡ true
long_is n lt = (Decides-ltb 16777216 n).1 lt

pub long_refused : (bytes : Bytes) (ports : List Bytes) → 16777216 < length bytes → ◌≡◌ {A = Result (List Event) EventRefusal} (events_of bytes ports) (Err (E.TooLarge 0))
unfolding events_of
long_refused bytes ports lt =
    let is : file_refused ports bytes ≡ Some (E.TooLarge 0) = ap (λ b. if b then Some (E.TooLarge 0) else list.events_refused ports 0 (filled_lines bytes)) (long_is (length bytes) lt) in
    subst (λ (o : Option EventRefusal). ◌≡◌ {A = Result (List Event) EventRefusal} (elim o [ None ↦ Ok (by_time (filter_map (λ l. result_ok (event_at ports l)) (filled_lines bytes))) | Some r ↦ Err r ]) (Err (E.TooLarge 0))) (sym is) refl
