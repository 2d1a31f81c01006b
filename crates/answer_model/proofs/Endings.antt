-- How a program ends, stage by stage.
use Rattle.std.proofs.Common.{◌≡◌, ℕ, ◌≤◌, true, [], ◌∷◌, ◌++◌, append_assoc, refl, sym, ap, ◌∙◌, subst, arith, ◌⊎◌, inl, inr}
use Rattle.std.specs.Prelude.{codes}
use Rattle.std.proofs.lemmas.List.{append_cancel_left}
use Rattle.quantity.specs.Bytes.{Bytes}
use Rattle.model_tree.specs.Tree.{Word}
use Rattle.room_edge.specs.Faults.{Rose, ReadFaultCounted, WriteFaultCounted}
use Rattle.room_edge.specs.FaultCounts.{ComplaintFaultCounted, KeepsReadFaults, KeepsWriteFaults}
use Rattle.room_edge.specs.Outside.{Outside}
use Rattle.answer_model.specs.Answer.{Answer, read_fault_line, write_fault_line}
use Rattle.answer_model.specs.Headline.{Begins, FallsShort, Writes}
use Rattle.answer_model.specs.Outcome.{Did, HasMore, Ending, as_answered, reading_failed, writing_failed, complaining_failed, memory_failed, Complaint, of_answer, of_reading, of_writing, IsBegun, IsLast, Lacks, a_file, the_output, Outcome}
use Rattle.answer_model.specs.Steps.{is_made, did_nothing, and_tried, and_created, and_appended, and_showed, Tried, Created, Appended, Showed, Complained}
use Rattle.answer_model.specs.Endings.{Says, whole, cut, unsaid, ShowsEnd, all_shown, stopped, unshown, IsOnWay, LeadsTo, EndsWith, StepsLead, EndingsFollow}
use Rattle.answer_model.specs.declared.status.Status.{Status}
use Rattle.answer_model.specs.declared.status.Status.TheVariants.{ReadFault, WriteFault, NoMemory}
use Rattle.answer_model.proofs.Outcomes.{whole_begun, none_begun, writes}
use Rattle.answer_model.proofs.Steps.{steps_add}

-- ---- counts

pub rose_later : (a b c : ℕ) → a ≤ b → Rose b c → Rose a c
rose_later a b c le rose = grind (arith)

pub rose_kept : (a b c : ℕ) → Rose a b → b ≤ c → Rose a c
rose_kept a b c rose le = grind (arith)

pub same_kept : (a b : ℕ) → b ≡ a → a ≤ b
same_kept a b same = omega (arith, same)

-- ---- what was done, with a line complained

abbrev with_line : Bytes → Did → Did
with_line line did = record did { complained = line }

complained_more : (a : Answer) (did : Did) (old now new : Outside) (line : Bytes) → IsOnWay a did old now → Complained line now new → HasMore (with_line line did) old new
complained_more a did old now new line way said =
    subst (λ c. HasMore (record did { complained = c }) old new) (ap (λ q. q ++ line) way.quiet)
    (steps_add.complaining did old now new line way.more said)

begun_too : (a : Answer) (did : Did) (line : Bytes) → IsBegun a did → IsBegun a (with_line line did)
begun_too a did line b = b

lacks_too : (a : Answer) (did : Did) (line : Bytes) (name : Word) → Lacks a did name → Lacks a (with_line line did) name
lacks_too a did line name (a_file has missing) = a_file has missing
lacks_too a did line _ (the_output made shown) = the_output made shown

-- ---- the endings

-- a line that is not said whole
short_cut : (a : Answer) (did : Did) (old now new : Outside) (line part : Bytes) → IsOnWay a did old now → IsBegun a did → ((more : Bytes) → Complaint a old new (with_line more did) line)
    → FallsShort part line → Complained part now new → WriteFaultCounted now new → ComplaintFaultCounted now new → Outcome a old new WriteFault
short_cut a did old now new line part way begun may short said writes complaints =
    record {
      did = with_line part did;
      more = complained_more a did old now new part way said;
      inputs = way.inputs;
      ending = complaining_failed (rose_later old.write_faults now.write_faults new.write_faults way.writes writes)
          (rose_later old.complain_faults now.complain_faults new.complain_faults way.complaints complaints)
          begun (may part) short;
    }

not_said : (a : Answer) (did : Did) (old now new : Outside) (line part : Bytes) → IsOnWay a did old now → IsBegun a did → ((more : Bytes) → Complaint a old new (with_line more did) line)
    → Begins part line → Complained part now new → Outcome a old new NoMemory
not_said a did old now new line part way begun may begins said =
    record { did = with_line part did; more = complained_more a did old now new part way said; inputs = way.inputs; ending = memory_failed begun (may part) begins }

as_shown : (a : Answer) (did : Did) (old now : Outside) → IsOnWay a did old now → did.made ≡ a.made → did.shown ≡ a.shown → a.complained ≡ [] → Outcome a old now a.status
as_shown a did old now way made shown none = record { did = did; more = way.more; inputs = way.inputs; ending = as_answered made shown (way.quiet ∙ sym none) }

said_way : (a : Answer) (did : Did) (old now new : Outside) (status : Status) → IsOnWay a did old now → did.made ≡ a.made → did.shown ≡ a.shown → Says a.complained a.status now new status → Outcome a old new status
said_way a did old now new _ way made shown (whole said writes complaints) =
    record { did = with_line a.complained did; more = complained_more a did old now new a.complained way said; inputs = way.inputs; ending = as_answered made shown refl }
said_way a did old now new _ way made shown (cut part short said writes complaints) =
    short_cut a did old now new a.complained part way (whole_begun a did made shown) (λ more. of_answer) short said writes complaints
said_way a did old now new _ way made shown (unsaid part short said writes complaints) =
    not_said a did old now new a.complained part way (whole_begun a did made shown) (λ more. of_answer) short.0 said

as_said : (a : Answer) (did : Did) (now new : Outside) (status : Status) → did.made ≡ a.made → did.shown ≡ a.shown → Says a.complained a.status now new status → EndsWith a did now new status
as_said a did now new status made shown says = λ start way. said_way a did start now new status way made shown says

after_reading : (a : Answer) (did : Did) (old now new : Outside) (name : Word) (status : Status) → IsOnWay a did old now → did.made ≡ [] → did.shown ≡ [] → IsLast name did.tried → ReadFaultCounted old now → Says (read_fault_line name) ReadFault now new status → Outcome a old new status
after_reading a did old now new name _ way made shown last rose (whole said writes complaints) =
    record {
      did = with_line (read_fault_line name) did;
      more = complained_more a did old now new (read_fault_line name) way said;
      inputs = way.inputs;
      ending = reading_failed (subst (Rose old.read_faults) (sym said.1.output.read_faults) rose) made shown last refl;
    }
after_reading a did old now new name _ way made shown last rose (cut part short said writes complaints) =
    short_cut a did old now new (read_fault_line name) part way (none_begun a did made shown) (λ more. of_reading (subst (Rose old.read_faults) (sym said.1.output.read_faults) rose) last) short said writes complaints
after_reading a did old now new name _ way made shown last rose (unsaid part short said writes complaints) =
    not_said a did old now new (read_fault_line name) part way (none_begun a did made shown) (λ more. of_reading (subst (Rose old.read_faults) (sym said.1.output.read_faults) rose) last) short.0 said

after_writing : (a : Answer) (did : Did) (old now new : Outside) (name : Word) (status : Status) → IsOnWay a did old now → IsBegun a did → Lacks a did name → WriteFaultCounted old now → Says (write_fault_line name) WriteFault now new status → Outcome a old new status
after_writing a did old now new name _ way begun lacks rose (whole said writes complaints) =
    record {
      did = with_line (write_fault_line name) did;
      more = complained_more a did old now new (write_fault_line name) way said;
      inputs = way.inputs;
      ending = writing_failed (rose_kept old.write_faults now.write_faults new.write_faults rose (same_kept now.write_faults new.write_faults writes)) begun (lacks_too a did (write_fault_line name) name lacks) refl;
    }
after_writing a did old now new name _ way begun lacks rose (cut part short said writes complaints) =
    short_cut a did old now new (write_fault_line name) part way begun (λ more. of_writing (rose_later old.write_faults now.write_faults new.write_faults way.writes writes) (lacks_too a did more name lacks)) short said writes complaints
after_writing a did old now new name _ way begun lacks rose (unsaid part short said writes complaints) =
    not_said a did old now new (write_fault_line name) part way begun (λ more. of_writing (rose_kept old.write_faults now.write_faults new.write_faults rose (same_kept now.write_faults new.write_faults writes)) (lacks_too a did more name lacks)) short.0 said

out_of_memory : (a : Answer) (did : Did) (now : Outside) → IsBegun a did → EndsWith a did now now NoMemory
out_of_memory a did now begun =
    λ start way. record { did = did; more = way.more; inputs = way.inputs; ending = memory_failed begun of_answer (a.complained, ap (λ c. c ++ a.complained) (sym way.quiet)) }

-- ---- the steps

pub le_same : (a b c : ℕ) → a ≤ b → c ≡ b → a ≤ c
le_same a b c le same = omega (arith, le, same)

pub le_more : (a b c : ℕ) → a ≤ b → b ≤ c → a ≤ c
le_more a b c p q = omega (arith, p, q)

begin : (a : Answer) (now : Outside) → IsOnWay a did_nothing now now
begin a now = record { more = steps_add.nothing now; quiet = refl; inputs = (a.inputs, refl); reads = omega arith; writes = omega arith; complaints = omega arith }

try : (a : Answer) (did : Did) (now new : Outside) (name : Word) → Begins (did.tried ++ name ∷ []) a.inputs → Tried name now new → KeepsReadFaults now new → LeadsTo a did (and_tried name did) now new
try a did now new name begins tried keeps = λ old way.
    record {
      more = steps_add.trying did old now new name way.more tried;
      quiet = way.quiet;
      inputs = begins;
      reads = le_more old.read_faults now.read_faults new.read_faults way.reads keeps;
      writes = le_same old.write_faults now.write_faults new.write_faults way.writes tried.1.write_faults;
      complaints = le_same old.complain_faults now.complain_faults new.complain_faults way.complaints tried.1.complain_faults;
    }

create : (a : Answer) (did : Did) (now new : Outside) (name : Word) → Created name now new → KeepsWriteFaults now new → LeadsTo a did (and_created name did) now new
create a did now new name step keeps = λ old way.
    record {
      more = steps_add.creating did old now new name way.more step;
      quiet = way.quiet;
      inputs = way.inputs;
      reads = le_same old.read_faults now.read_faults new.read_faults way.reads step.2.output.read_faults;
      writes = le_more old.write_faults now.write_faults new.write_faults way.writes keeps;
      complaints = le_same old.complain_faults now.complain_faults new.complain_faults way.complaints step.2.complain_faults;
    }

append : (a : Answer) (did : Did) (now new : Outside) (name : Word) (bytes : Bytes) → is_made name did.made ≡ true → Appended name bytes now new → KeepsWriteFaults now new → LeadsTo a did (and_appended name bytes did) now new
append a did now new name bytes made step keeps = λ old way.
    record {
      more = steps_add.appending did old now new name bytes made way.more step;
      quiet = way.quiet;
      inputs = way.inputs;
      reads = le_same old.read_faults now.read_faults new.read_faults way.reads step.2.output.read_faults;
      writes = le_more old.write_faults now.write_faults new.write_faults way.writes keeps;
      complaints = le_same old.complain_faults now.complain_faults new.complain_faults way.complaints step.2.complain_faults;
    }

show : (a : Answer) (did : Did) (now new : Outside) (bytes : Bytes) → Showed bytes now new → KeepsWriteFaults now new → LeadsTo a did (and_showed bytes did) now new
show a did now new bytes step keeps = λ old way.
    record {
      more = steps_add.showing did old now new bytes way.more step;
      quiet = way.quiet;
      inputs = way.inputs;
      reads = le_same old.read_faults now.read_faults new.read_faults way.reads step.1.output.read_faults;
      writes = le_more old.write_faults now.write_faults new.write_faults way.writes keeps;
      complaints = le_same old.complain_faults now.complain_faults new.complain_faults way.complaints step.1.complain_faults;
    }

pub steps_lead : StepsLead
steps_lead = record { start = begin; trying = try; creating = create; appending = append; showing = show }

-- ---- the last bytes are shown

-- what was shown with a part of the rest begins what the answer shows
part_shown : (a : Answer) (did : Did) (bytes part : Bytes) → did.made ≡ a.made → a.shown ≡ did.shown ++ bytes → Begins part bytes → IsBegun a (and_showed part did)
part_shown a did bytes part made shown (rest, is) =
    ((whole_begun a (and_shown_all a did) made refl).0, (rest, shown ∙ ap (λ b. did.shown ++ b) is ∙ sym (append_assoc did.shown part rest)), inl made)
  where
    and_shown_all : Answer → Did → Did
    and_shown_all a did = record did { shown = a.shown }

-- the output lacks bytes
output_lacks : (a : Answer) (did : Did) (bytes part : Bytes) → did.made ≡ a.made → a.shown ≡ did.shown ++ bytes → FallsShort part bytes → Lacks a (and_showed part did) (codes "standard output")
output_lacks a did bytes part made shown short = the_output made (λ e. short.1 (append_cancel_left did.shown part bytes (e ∙ shown)))

ended_way : (a : Answer) (did : Did) (old now new : Outside) (bytes : Bytes) (status : Status) → IsOnWay a did old now → did.made ≡ a.made → a.shown ≡ did.shown ++ bytes → a.complained ≡ [] → ShowsEnd bytes a.status now new status → Outcome a old new status
ended_way a did old now new bytes _ way made all none (all_shown showed sure) =
    as_shown a (and_showed bytes did) old new (show a did now new bytes showed (same_kept now.write_faults new.write_faults sure) old way) made (sym all) none
ended_way a did old now new bytes status way made all none (stopped part mid short showed keeps rose says) =
    after_writing a (and_showed part did) old mid new (codes "standard output") status (show a did now mid part showed keeps old way) (part_shown a did bytes part made all short.0)
    (output_lacks a did bytes part made all short) (rose_later old.write_faults now.write_faults mid.write_faults way.writes rose) says
ended_way a did old now new bytes _ way made all none (unshown part begins showed sure) =
    out_of_memory a (and_showed part did) new (part_shown a did bytes part made all begins) old (show a did now new part showed (same_kept now.write_faults new.write_faults sure) old way)

as_ended : (a : Answer) (did : Did) (now new : Outside) (bytes : Bytes) (status : Status) → did.made ≡ a.made → a.shown ≡ did.shown ++ bytes → a.complained ≡ [] → ShowsEnd bytes a.status now new status → EndsWith a did now new status
as_ended a did now new bytes status made all none ends = λ start way. ended_way a did start now new bytes status way made all none ends

sure_ending : (a : Answer) (old new : Outside) (did : Did) (status : Status) → HasMore did old new → Ending a old new did status → ¬ ReadFaultCounted old new → ¬ WriteFaultCounted old new → (status ≡ NoMemory) ⊎ Writes a old new status
sure_ending a old new did _ more (as_answered m s c) no_read no_write = inr (writes a old new did more m s c)
sure_ending a old new did _ more (reading_failed rose m s l c) no_read no_write = absurd (no_read rose)
sure_ending a old new did _ more (writing_failed rose b l c) no_read no_write = absurd (no_write rose)
sure_ending a old new did _ more (complaining_failed rose also b l c) no_read no_write = absurd (no_write rose)
sure_ending a old new did _ more (memory_failed b l c) no_read no_write = inl refl

sure : (a : Answer) (old new : Outside) (status : Status) → Outcome a old new status → ¬ ReadFaultCounted old new → ¬ WriteFaultCounted old new → (status ≡ NoMemory) ⊎ Writes a old new status
sure a old new status o = sure_ending a old new o.did status o.more o.ending

pub endings_follow : EndingsFollow
endings_follow = record { shown = as_shown; ended = as_ended; said = as_said; reading = after_reading; writing = after_writing; memory = out_of_memory; surely = sure }
