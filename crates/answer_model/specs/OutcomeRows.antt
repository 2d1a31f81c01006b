-- Rooms in which a run of three cells was whole, was cut at each of its appends, was not created,
-- not shown and not read; in which a complaint failed; and in which a saved state was refused.
use Rattle.std.specs.Prelude.{ℕ, Some, None, [], ◌∷◌, ◌++◌, take, codes, true}
use Rattle.quantity.specs.Bytes.{Bytes}
use Rattle.room_edge.specs.Outside.{Outside}
use Rattle.text_forms.specs.Rows.{line_log}
use Rattle.answer_model.specs.AskedRows.{words}
use Rattle.answer_model.specs.Answer.{MadeFiles, names}
use Rattle.answer_model.specs.WholeFiles.{folder, boxes, model}
use Rattle.model_text.specs.Models.{line_model}
use Rattle.answer_model.specs.Headline.{puts_all}
use Rattle.answer_model.specs.FaultsAnswered.{AnswersFaults}
use Rattle.answer_model.specs.Programs.{CdppEnds, CdppCauses}
use Rattle.answer_model.specs.declared.status.Status.TheVariants.{Done, ReadFault, WriteFault, NoMemory, StateRefused}

abbrev pub before : Outside
before =
    record {
      files = Some (folder (model line_model));
      made = Some (folder []);
      shown = Some [];
      complained = Some [];
      rest = None;
      read_faults = 0;
      write_faults = 0;
      complain_faults = 0;
      misses = 0;
      tried = [];
      created = [];
      opened = true;
    }

abbrev pub with_log : MadeFiles → Bytes → Bytes → Outside
with_log made shown complained =
    record before {
      made = puts_all before.made made;
      shown = Some shown;
      complained = Some complained;
      tried = codes "m.ma" ∷ [];
      created = names made;
    }

-- the log with so many of its first bytes
abbrev pub start_of_log : ℕ → MadeFiles
start_of_log n = (codes "log.txt", take n line_log) ∷ []

-- the log holds so many of its first bytes, and one line says that it lacks some
abbrev pub log_cut_short : ℕ → Outside
log_cut_short n =
    record (with_log (start_of_log n) [] (codes "write fault: log.txt\n")) { write_faults = 1 }

-- no log could be made
abbrev pub not_made : Outside
not_made = record (with_log [] [] (codes "write fault: log.txt\n")) { write_faults = 1 }

abbrev pub whole : Outside
whole = with_log ((codes "log.txt", line_log) ∷ []) (codes "end 00:00:00:100 cycles 2\n") []

-- the log is whole, and its end could not be shown
abbrev pub not_shown : Outside
not_shown =
    record (with_log ((codes "log.txt", line_log) ∷ []) []
    (codes "write fault: standard output\n")) { write_faults = 1 }

-- the first read failed
abbrev pub unread : Outside
unread = record (with_log [] [] (codes "read fault: m.ma\n")) { read_faults = 1 }

-- words without a time are refused, and the complaint failed
abbrev pub no_complaint : Outside
no_complaint = record before { write_faults = 1; complain_faults = 1 }

-- beside the model there is an empty state
abbrev pub files_with_state : MadeFiles
files_with_state = model line_model ++ (codes "s.txt", []) ∷ []

abbrev pub before_state : Outside
before_state = record before { files = Some (folder files_with_state) }

-- the state is refused
abbrev pub no_run : Outside
no_run =
    record before_state {
      complained = Some (codes "state refused: line 1: 1 BadStateLine\n");
      tried = codes "m.ma" ∷ codes "s.txt" ∷ [];
    }

abbrev pub asks_from_state : Bytes
asks_from_state = codes "cdpp -m m.ma -t 00:00:00:100 -R s.txt"

abbrev pub asks_no_time : Bytes
asks_no_time = codes "cdpp -m m.ma"

abbrev pub asks : Bytes
asks = codes "cdpp -m m.ma -t 00:00:00:100 -l log.txt"

pub record EndsAsSaid : Type 0 where
  pub first_append : CdppEnds (words asks) boxes before (log_cut_short 0) WriteFault
  pub second_append : CdppEnds (words asks) boxes before (log_cut_short 64) WriteFault
  pub third_append : CdppEnds (words asks) boxes before (log_cut_short 128) WriteFault
  pub fourth_append : CdppEnds (words asks) boxes before (log_cut_short 135) WriteFault
  pub fifth_append : CdppEnds (words asks) boxes before (log_cut_short 199) WriteFault
  pub cut_causes : CdppCauses (words asks) before (log_cut_short 199) WriteFault
  pub no_log : CdppEnds (words asks) boxes before not_made WriteFault
  pub nothing_shown : CdppEnds (words asks) boxes before not_shown WriteFault
  pub nothing_complained : CdppEnds (words asks_no_time) boxes before no_complaint WriteFault
  pub complete : CdppEnds (words asks) boxes before whole Done
  pub not_read : CdppEnds (words asks) boxes before unread ReadFault
  pub no_state : CdppEnds (words asks_from_state) boxes before_state no_run StateRefused
  pub no_state_causes : CdppCauses (words asks_from_state) before_state no_run StateRefused
  -- faults show in the status: no other one answers a read or a complaint that failed, or an append
  -- that failed and was tried again
  pub read_answered : AnswersFaults before unread ReadFault
  pub read_hidden : ¬ AnswersFaults before (record whole { read_faults = 1 }) Done
  pub complaint_answered : AnswersFaults before no_complaint WriteFault
  pub complaint_hidden : ¬ AnswersFaults before no_complaint NoMemory
  pub append_hidden : ¬ AnswersFaults before (record whole { write_faults = 1 }) Done
