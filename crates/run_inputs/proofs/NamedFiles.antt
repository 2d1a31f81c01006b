-- What the reading of a file comes to that may be named: of events, or of a state.
use Rattle.std.proofs.Common.{◌≡◌, Option, Some, None, List, [], ◌∷◌, ◌++◌, Result, Ok, Err, refl, sym, ap, ◌∙◌, subst, ◌⊎◌}
use Rattle.quantity.specs.Bytes.{Bytes}
use Rattle.source_text.specs.Lines.{Files}
use Rattle.room_edge.specs.Faults.{ReadFaultCounted}
use Rattle.room_edge.specs.FaultCounts.{KeepsReadFaults}
use Rattle.room_edge.specs.Outside.{Outside}
use Rattle.room_edge.specs.Only.{OnlyInput}
use Rattle.model_tree.specs.Tree.{Word}
use Rattle.answer_model.specs.declared.status.Status.{Status}
use Rattle.answer_model.specs.Answer.{Answer}
use Rattle.quantity.specs.Written.{for_ok}
use Rattle.answer_model.specs.Started.{Stop, Stopped, no_file, or_stops, read_or, by, if_named}
use Rattle.answer_model.specs.Cdpp.{stop_answer}
use Rattle.answer_model.specs.Endings.{looked_for, EndsWith}
use Rattle.answer_model.specs.Headline.{Begins}
use Rattle.answer_model.proofs.Stages.{then_ends, was_tried, read_failed, read_unread}
use Rattle.run_inputs.specs.declared.unread.Unread.{Unread}
use Rattle.run_inputs.specs.declared.unread.Unread.TheVariants as why
use Rattle.run_inputs.specs.Unread.{TellsStop, TellsNothing, TellsUnread}
use Rattle.run_inputs.specs.Read.{GoesOn, LooksFor, EndsUnread, IsUnread}
use Rattle.run_inputs.proofs.Stops.{stop_told, no_memory, no_line}
use Rattle.run_inputs.proofs.Tried.{begins_all, begins_more}

-- by the bytes of the file, which may be missing
abbrev pub read_by : {A E : Type 0} → (Bytes → Result A E) → (E → Stop) → List Word → Word → Option Bytes → Result (A × List Word) Stopped
read_by read stop inputs name o =
    for_ok {A = Bytes × List Word} (for_ok (or_stops (no_file name) (inputs ++ name ∷ []) o) (λ (bytes : Bytes). Ok (bytes, inputs ++ name ∷ [])))
    (λ p. read_or stop p.1 (read p.0))

-- ---- the names looked for

module _ {A E : Type 0} (read : Bytes → Result A E) (stop : E → Stop) where
  read_begins : (inputs : List Word) (r : Result A E) (go : A × List Word → Answer) → GoesOn go → Begins inputs (by stop_answer (read_or stop inputs r) go).inputs
  read_begins inputs (Ok x) go goes = goes (x, inputs)
  read_begins inputs (Err e) go goes = begins_all inputs

  -- the name of the file was looked for
  pub file_begins : (inputs : List Word) (name : Word) (o : Option Bytes) (go : A × List Word → Answer) → GoesOn go → Begins (inputs ++ name ∷ []) (by stop_answer (read_by read stop inputs name o) go).inputs
  file_begins inputs name None go goes = begins_all (inputs ++ name ∷ [])
  file_begins inputs name (Some bytes) go goes = read_begins (inputs ++ name ∷ []) (read bytes) go goes

  -- the names looked for before are those that the answer begins with
  pub named_begins : (without : A) (files : Files) (inputs : List Word) (name : Option Word) (go : A × List Word → Answer) → GoesOn go → Begins inputs (by stop_answer (if_named without read stop files inputs name) go).inputs
  named_begins without files inputs None go goes = goes (without, inputs)
  named_begins without files inputs (Some name) go goes =
      begins_more inputs (inputs ++ name ∷ []) (by stop_answer (read_by read stop inputs name (files name)) go).inputs (name ∷ [], refl) (file_begins inputs name (files name) go goes)

-- ---- what the reading gives

module _ {A E : Type 0} (read : Bytes → Result A E) (stop : E → Stop) (name : Word) (files : Files) (old mid : Outside) (tried : mid.tried ≡ old.tried ++ name ∷ []) (only : OnlyInput old mid) (keeps : KeepsReadFaults old mid) where
  pub looks : (inputs : List Word) → LooksFor inputs (inputs ++ name ∷ []) old mid
  looks inputs a begins = was_tried a inputs old mid name begins tried only keeps

  -- it was read
  pub is_read : (bytes : Bytes) (x : A) (inputs : List Word) → files name ≡ Some bytes → ◌≡◌ {A = Result A E} (read bytes) (Ok x) → read_by read stop inputs name (files name) ≡ Ok (x, inputs ++ name ∷ [])
  is_read bytes x inputs there is = ap (read_by read stop inputs name) there ∙ ap (read_or stop (inputs ++ name ∷ [])) is

  -- a stop that a line tells of
  stopped_so : (inputs : List Word) (reason : Stop) (go : A × List Word → Answer) (after : Outside) (s : Status) → read_by read stop inputs name (files name) ≡ Err (record { why = reason; inputs = inputs ++ name ∷ [] }) → TellsStop reason mid after s
      → EndsWith (by stop_answer (read_by read stop inputs name (files name)) go) (looked_for inputs) old after s
  stopped_so inputs reason go after s is says =
      let x = stop_answer (record { why = reason; inputs = inputs ++ name ∷ [] }) in
      subst (λ (r : Result (A × List Word) Stopped). EndsWith (by stop_answer r go) (looked_for inputs) old after s) (sym is)
      (then_ends x (looked_for inputs) (looked_for (inputs ++ name ∷ [])) old mid after s (looks inputs x (begins_all (inputs ++ name ∷ []))) (stop_told reason (inputs ++ name ∷ []) mid after s says))

  -- there is no such file
  pub is_missing : files name ≡ None → EndsUnread (λ inputs. read_by read stop inputs name (files name)) (why.Missing name) old mid
  is_missing there = λ inputs go goes after s says. stopped_so inputs (no_file name) go after s (ap (read_by read stop inputs name) there) says

  -- its read failed
  pub is_unread : ReadFaultCounted old mid → EndsUnread (λ inputs. read_by read stop inputs name (files name)) (why.ReadFault name) old mid
  is_unread rose = λ inputs go goes after s says.
      read_failed (by stop_answer (read_by read stop inputs name (files name)) go) inputs old mid after name s (file_begins read stop inputs name (files name) go goes) tried only keeps rose says

  -- it is refused, and what is told is the stop of the refusal
  pub is_refused : (bytes : Bytes) (e : E) (reason : Unread) → files name ≡ Some bytes → ◌≡◌ {A = Result A E} (read bytes) (Err e)
      → ((after : Outside) (s : Status) → TellsUnread reason mid after s → TellsStop (stop e) mid after s) → EndsUnread (λ inputs. read_by read stop inputs name (files name)) reason old mid
  is_refused bytes e reason there is told = λ inputs go goes after s says.
      stopped_so inputs (stop e) go after s (ap (read_by read stop inputs name) there ∙ ap (read_or stop (inputs ++ name ∷ [])) is) (told after s says)

  -- memory ran out after it was looked for, of which no line tells
  pub is_forgotten : (reason : Unread) → ((after : Outside) (s : Status) → TellsUnread reason mid after s → TellsNothing mid after s) → EndsUnread (λ inputs. read_by read stop inputs name (files name)) reason old mid
  is_forgotten reason told = λ inputs go goes after s tells.
      let x = by stop_answer (read_by read stop inputs name (files name)) go in
      let looked = inputs ++ name ∷ [] in
      then_ends x (looked_for inputs) (looked_for looked) old mid after s (looks inputs x (file_begins read stop inputs name (files name) go goes))
      (no_line x looked mid mid after s (no_memory x looked mid) (told after s tells))

-- memory ran out, before the file was looked for or after it
pub is_unfound : {A E : Type 0} (read : Bytes → Result A E) (stop : E → Stop) (name : Word) (files : Files) (old mid : Outside) → (mid.tried ≡ old.tried) ⊎ (mid.tried ≡ old.tried ++ name ∷ []) → OnlyInput old mid → KeepsReadFaults old mid
    → EndsUnread (λ inputs. read_by read stop inputs name (files name)) why.Memory old mid
is_unfound read stop name files old mid tried only keeps = λ inputs go goes after s tells.
    let x = by stop_answer (read_by read stop inputs name (files name)) go in
    no_line x inputs old mid after s (read_unread x inputs old mid name (file_begins read stop inputs name (files name) go goes) tried only keeps) tells

-- it was not read
pub is_stopped : {A E : Type 0} (read : Bytes → Result A E) (stop : E → Stop) (name : Word) (files : Files) (old mid : Outside) (reason : Unread) → OnlyInput old mid → KeepsReadFaults old mid → IsUnread name files old mid reason
    → EndsUnread (λ inputs. read_by read stop inputs name (files name)) reason old mid
is_stopped read stop name files old mid (why.Missing n) only keeps (is, found, tried) =
    subst (λ (m : Word). EndsUnread (λ inputs. read_by read stop inputs name (files name)) (why.Missing m) old mid) (sym is) (is_missing read stop name files old mid tried only keeps found)
is_stopped read stop name files old mid (why.ReadFault n) only keeps (is, rose, tried) =
    subst (λ (m : Word). EndsUnread (λ inputs. read_by read stop inputs name (files name)) (why.ReadFault m) old mid) (sym is) (is_unread read stop name files old mid tried only keeps rose)
is_stopped read stop name files old mid why.Memory only keeps tried = is_unfound read stop name files old mid tried only keeps
is_stopped read stop name files old mid why.Usage only keeps off = absurd off
is_stopped read stop name files old mid (why.Model line kind) only keeps off = absurd off
is_stopped read stop name files old mid (why.Events e) only keeps off = absurd off
is_stopped read stop name files old mid (why.State e) only keeps off = absurd off
