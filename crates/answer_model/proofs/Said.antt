-- What a complaint came to, and what the last bytes that are shown came to.
use Rattle.std.proofs.Common.{◌≡◌, ℕ, ◌<◌, List, [], ◌∷◌, length, take, drop, refl, sym, ap, ◌∙◌, take-append-drop, arith}
use Rattle.std.specs.Prelude.{Bool, codes}
use Rattle.std.proofs.lemmas.List.{length-take-le}
use Rattle.std.proofs.Math.Seq.{take-length}
use Rattle.room_edge.specs.Faults.{WriteFaultCounted}
use Rattle.room_edge.specs.FaultCounts.{ComplaintFaultCounted, KeepsWriteFaults}
use Rattle.room_edge.specs.Outside.{Outside, streams}
use Rattle.room_edge.specs.Only.{OnlyShown, OnlyComplained}
use Rattle.room_edge.proofs.Adding.{streams-nil}
use Rattle.text_forms.specs.Lines.{line_with_end}
use Rattle.room_edge.proofs.Only.{OnlyShown-refl, OnlyComplained-refl}
use Rattle.answer_model.specs.Answer.{write_fault_line}
use Rattle.answer_model.specs.Headline.{FallsShort}
use Rattle.answer_model.specs.FaultsAnswered.{NoWriteFault, NoComplaintFault}
use Rattle.answer_model.specs.Endings.{Says, whole, cut, unsaid, ShowsEnd, all_shown, stopped, unshown}
use Rattle.answer_model.specs.declared.status.Status.{Status}
use Rattle.answer_model.specs.declared.status.Status.TheVariants.{WriteFault, NoMemory}
use Rattle.answer_model.specs.Status.{Stage, IsOf}

-- ---- pieces

shorter : (n : ℕ) (bytes : List ℕ) → n < length bytes → take n bytes ≡ bytes → ⊥
shorter n bytes lt e = absurd (omega (arith, lt, ap length e, length-take-le n bytes (omega (arith, lt))))

-- the first bytes and not all
pub short_of : (n : ℕ) (bytes : List ℕ) → n < length bytes → FallsShort (take n bytes) bytes
short_of n bytes lt = ((drop n bytes, sym (take-append-drop n bytes)), shorter n bytes lt)

-- ---- complaints

pub said_whole : (old new : Outside) (line : List ℕ) (own : Status) → new.complained ≡ streams old.complained (take (length line) line) → OnlyComplained old new → NoWriteFault old new → NoComplaintFault old new → Says line own old new own
said_whole old new line own is only writes complaints = whole (is ∙ ap (streams old.complained) (take-length line), only) writes complaints

pub said_cut : (old new : Outside) (line : List ℕ) (own : Status) (n : ℕ) → new.complained ≡ streams old.complained (take n line) → n < length line → OnlyComplained old new → WriteFaultCounted old new → ComplaintFaultCounted old new → Says line own old new WriteFault
said_cut old new line own n is lt only writes complaints = cut (take n line) (short_of n line lt) (is, only) writes complaints

pub said_part : (old new : Outside) (line : List ℕ) (own : Status) (n : ℕ) → new.complained ≡ streams old.complained (take n line) → n < length line → OnlyComplained old new → NoWriteFault old new → NoComplaintFault old new → Says line own old new NoMemory
said_part old new line own n is lt only writes complaints = unsaid (take n line) (short_of n line lt) (is, only) writes complaints

-- a line has its end at least
not_ended : (text : List ℕ) → [] ≡ line_with_end text → ⊥
not_ended [] e = cc
not_ended (x ∷ xs) e = cc

pub said_nothing : (now : Outside) (text : List ℕ) (own : Status) → Says (line_with_end text) own now now NoMemory
said_nothing now text own = unsaid [] ((line_with_end text, refl), not_ended text) (sym (streams-nil now.complained), OnlyComplained-refl now) refl refl

-- the status is that of the line, of a write fault or of want of memory
pub said_among : (of : Stage → Bool) (line : List ℕ) (own : Status) (old new : Outside) (status : Status) → IsOf of own → IsOf of WriteFault → IsOf of NoMemory → Says line own old new status → IsOf of status
said_among of line own old new _ here fault memory (whole said writes complaints) = here
said_among of line own old new _ here fault memory (cut part short said writes complaints) = fault
said_among of line own old new _ here fault memory (unsaid part begins said writes complaints) = memory

pub said_only : (line : List ℕ) (own : Status) (old new : Outside) (status : Status) → Says line own old new status → OnlyComplained old new
said_only line own old new _ (whole said writes complaints) = said.1
said_only line own old new _ (cut part short said writes complaints) = said.1
said_only line own old new _ (unsaid part begins said writes complaints) = said.1

-- ---- the last bytes that are shown

pub shown_whole : (old new : Outside) (bytes : List ℕ) (own : Status) → new.shown ≡ streams old.shown (take (length bytes) bytes) → OnlyShown old new → NoWriteFault old new → ShowsEnd bytes own old new own
shown_whole old new bytes own is only sure = all_shown (is ∙ ap (streams old.shown) (take-length bytes), only) sure

pub shown_stopped : (old mid new : Outside) (bytes : List ℕ) (own : Status) (n : ℕ) (status : Status) → mid.shown ≡ streams old.shown (take n bytes) → n < length bytes → OnlyShown old mid → KeepsWriteFaults old mid → WriteFaultCounted old mid
    → Says (write_fault_line (codes "standard output")) WriteFault mid new status → ShowsEnd bytes own old new status
shown_stopped old mid new bytes own n status is lt only keeps rose says = stopped (take n bytes) mid (short_of n bytes lt) (is, only) keeps rose says

pub shown_part : (old new : Outside) (bytes : List ℕ) (own : Status) (n : ℕ) → new.shown ≡ streams old.shown (take n bytes) → OnlyShown old new → NoWriteFault old new → ShowsEnd bytes own old new NoMemory
shown_part old new bytes own n is only sure = unshown (take n bytes) (drop n bytes, sym (take-append-drop n bytes)) (is, only) sure

pub shown_nothing : (now : Outside) (bytes : List ℕ) (own : Status) → ShowsEnd bytes own now now NoMemory
shown_nothing now bytes own = unshown [] (bytes, refl) (sym (streams-nil now.shown), OnlyShown-refl now) refl

pub shown_among : (of : Stage → Bool) (bytes : List ℕ) (own : Status) (old new : Outside) (status : Status) → IsOf of own → IsOf of WriteFault → IsOf of NoMemory → ShowsEnd bytes own old new status → IsOf of status
shown_among of bytes own old new _ here fault memory (all_shown showed keeps) = here
shown_among of bytes own old new status here fault memory (stopped part mid short showed keeps rose says) =
    said_among of (write_fault_line (codes "standard output")) WriteFault mid new status fault fault memory says
shown_among of bytes own old new _ here fault memory (unshown part begins showed keeps) = memory
