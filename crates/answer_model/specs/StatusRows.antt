-- The numbers of all statuses, and which of them each part of a program ends with.
use Rattle.std.specs.Prelude.{◌≡◌, ℕ, Bool, List, [], ◌∷◌, map}
use Rattle.std.specs.List.{filter}
use Rattle.answer_model.specs.declared.status.Status.{Status}
use Rattle.answer_model.specs.declared.status.Status.TheVariants.{Done, Usage, Missing, ReadFault, WriteFault, ModelRefused, EventsRefused, NoTrueRule, Overflow, BadDelay, TooManyCycles, NoMemory, LogRefused, StateRefused}
use Rattle.answer_model.specs.Status.{Stage, status_row, of_words, of_run, of_reading, of_cdpp, of_drawing, of_log, of_drawlog}
use Rattle.answer_model.specs.StatusNumbers.{number_of, of_faults, of_refusals}

abbrev pub all_statuses : List Status
all_statuses =
    Done ∷ Usage ∷ Missing ∷ ReadFault ∷ WriteFault ∷ ModelRefused ∷ EventsRefused ∷ NoTrueRule
    ∷ Overflow ∷ BadDelay ∷ TooManyCycles ∷ NoMemory ∷ LogRefused ∷ StateRefused ∷ []

-- the numbers of the statuses of some parts
abbrev pub numbers : (Stage → Bool) → List ℕ
numbers of = map number_of (filter (λ s. of (status_row s).part) all_statuses)

pub record StatusesAreNumbered : Type 0 where
  pub all : map number_of all_statuses
      ≡ 0 ∷ 2 ∷ 3 ∷ 4 ∷ 5 ∷ 6 ∷ 7 ∷ 8 ∷ 9 ∷ 10 ∷ 11 ∷ 12 ∷ 13 ∷ 14 ∷ []
  pub done : number_of Done ≡ 0
  pub usage : number_of Usage ≡ 2
  pub missing : number_of Missing ≡ 3
  pub read_fault : number_of ReadFault ≡ 4
  pub write_fault : number_of WriteFault ≡ 5
  pub model_refused : number_of ModelRefused ≡ 6
  pub events_refused : number_of EventsRefused ≡ 7
  pub no_true_rule : number_of NoTrueRule ≡ 8
  pub overflow : number_of Overflow ≡ 9
  pub bad_delay : number_of BadDelay ≡ 10
  pub too_many_cycles : number_of TooManyCycles ≡ 11
  pub no_memory : number_of NoMemory ≡ 12
  pub log_refused : number_of LogRefused ≡ 13
  pub state_refused : number_of StateRefused ≡ 14
  -- which of them are of which parts
  pub faults : numbers of_faults ≡ 4 ∷ 5 ∷ 12 ∷ []
  pub refusals : numbers of_refusals ≡ 2 ∷ 3 ∷ 6 ∷ 7 ∷ 13 ∷ 14 ∷ []
  pub words : numbers of_words ≡ 2 ∷ 5 ∷ 12 ∷ []
  pub run : numbers of_run ≡ 0 ∷ 5 ∷ 8 ∷ 9 ∷ 10 ∷ 11 ∷ 12 ∷ []
  pub reading : numbers of_reading
      ≡ 0 ∷ 3 ∷ 4 ∷ 5 ∷ 6 ∷ 7 ∷ 8 ∷ 9 ∷ 10 ∷ 11 ∷ 12 ∷ 14 ∷ []
  pub cdpp : numbers of_cdpp
      ≡ 0 ∷ 2 ∷ 3 ∷ 4 ∷ 5 ∷ 6 ∷ 7 ∷ 8 ∷ 9 ∷ 10 ∷ 11 ∷ 12 ∷ 14 ∷ []
  pub drawing : numbers of_drawing ≡ 0 ∷ 5 ∷ 12 ∷ 13 ∷ []
  pub log : numbers of_log ≡ 0 ∷ 3 ∷ 4 ∷ 5 ∷ 12 ∷ 13 ∷ []
  pub drawlog : numbers of_drawlog ≡ 0 ∷ 2 ∷ 3 ∷ 4 ∷ 5 ∷ 12 ∷ 13 ∷ []
