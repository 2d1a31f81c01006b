-- Stages of a program: one after another, a file read, files made and written.
use Rattle.std.proofs.Common.{◌≡◌, ◌≢◌, zero, suc, Bool, true, false, Option, Some, None, List, [], ◌∷◌, ◌++◌, refl, sym, ap, ◌∙◌, subst, arith, ◌⊎◌, inl, inr}
use Rattle.std.specs.List.{last_or}
use Rattle.std.specs.Prelude.{codes, Contains, if◌then◌else◌}
use Rattle.std.specs.Str.{bytes_eq}
use Rattle.std.proofs.lemmas.List.Elements.{Contains-append_cases, Contains-append_right}
use Rattle.std.proofs.lemmas.List.Folds.{list_any_at}
use Rattle.std.proofs.lemmas.Slice.Eq.{bytes_eq-Decides}
use Rattle.quantity.specs.Bytes.{Bytes}
use Rattle.model_tree.specs.Tree.{Word}
use Rattle.room_edge.specs.Faults.{ReadFaultCounted, WriteFaultCounted}
use Rattle.room_edge.specs.FaultCounts.{KeepsReadFaults, KeepsWriteFaults}
use Rattle.room_edge.specs.Outside.{Outside}
use Rattle.room_edge.specs.Only.{OnlyInput, OnlyMade}
use Rattle.answer_model.specs.Answer.{MadeFiles, Answer, read_fault_line, write_fault_line}
use Rattle.answer_model.specs.Headline.{Begins}
use Rattle.answer_model.specs.Outcome.{Did, IsBegun, Lacks, a_file, Outcome}
use Rattle.answer_model.specs.Steps.{is_made, files_with_more}
use Rattle.answer_model.specs.Endings.{Says, whole, cut, unsaid, ShowsEnd, all_shown, stopped, unshown, looked_for, LeadsTo, EndsWith}
use Rattle.answer_model.specs.declared.status.Status.{Status}
use Rattle.answer_model.specs.declared.status.Status.TheVariants.{ReadFault, WriteFault, NoMemory}
use Rattle.answer_model.proofs.Outcomes.{none_begun}
use Rattle.answer_model.proofs.Steps.{steps_add}
use Rattle.answer_model.proofs.Endings.{steps_lead, endings_follow, rose_later, rose_kept, le_same, le_more, same_kept}

-- ---- one stage after another

pub then_leads : (a : Answer) (did more most : Did) (old mid new : Outside) → LeadsTo a did more old mid → LeadsTo a more most mid new → LeadsTo a did most old new
then_leads a did more most old mid new first second = λ start way. second start (first start way)

pub then_ends : (a : Answer) (did more : Did) (old mid new : Outside) (status : Status) → LeadsTo a did more old mid → EndsWith a more mid new status → EndsWith a did old new status
then_ends a did more old mid new status first second = λ start way. second start (first start way)

-- a stage that starts with nothing done
pub at_start : (a : Answer) (old new : Outside) (status : Status) → EndsWith a (looked_for []) old new status → Outcome a old new status
at_start a old new status ends = ends old (steps_lead.start a old)

-- ---- a file is read

pub last_pushed : (o : Option Word) (names : List Word) (name : Word) → last_or o (names ++ name ∷ []) ≡ Some name
last_pushed o [] name = refl
last_pushed o (n ∷ ns) name = last_pushed (Some n) ns name

-- it was looked for
pub was_tried : (a : Answer) (inputs : List Word) (old mid : Outside) (name : Word) → Begins (inputs ++ name ∷ []) a.inputs → mid.tried ≡ old.tried ++ name ∷ [] → OnlyInput old mid → KeepsReadFaults old mid
    → LeadsTo a (looked_for inputs) (looked_for (inputs ++ name ∷ [])) old mid
was_tried a inputs old mid name begins tried only keeps = steps_lead.trying a (looked_for inputs) old mid name begins (tried, only) keeps

-- the read failed, and a line tells of it
pub read_failed : (a : Answer) (inputs : List Word) (old mid new : Outside) (name : Word) (status : Status) → Begins (inputs ++ name ∷ []) a.inputs → mid.tried ≡ old.tried ++ name ∷ [] → OnlyInput old mid → KeepsReadFaults old mid
    → ReadFaultCounted old mid → Says (read_fault_line name) ReadFault mid new status → EndsWith a (looked_for inputs) old new status
read_failed a inputs old mid new name status begins tried only keeps rose says = λ start way.
    endings_follow.reading a (looked_for (inputs ++ name ∷ [])) start mid new name status (was_tried a inputs old mid name begins tried only keeps start way) refl refl
    (last_pushed None inputs name) (rose_later start.read_faults old.read_faults mid.read_faults way.reads rose) says

-- the file was looked for, and the answer's line is said
pub read_and_said : (a : Answer) (inputs : List Word) (old mid new : Outside) (name : Word) (status : Status) → Begins (inputs ++ name ∷ []) a.inputs → a.made ≡ [] → a.shown ≡ [] → mid.tried ≡ old.tried ++ name ∷ [] → OnlyInput old mid → KeepsReadFaults old mid
    → Says a.complained a.status mid new status → EndsWith a (looked_for inputs) old new status
read_and_said a inputs old mid new name status begins none quiet tried only keeps says =
    then_ends a (looked_for inputs) (looked_for (inputs ++ name ∷ [])) old mid new status (was_tried a inputs old mid name begins tried only keeps)
    (endings_follow.said a (looked_for (inputs ++ name ∷ [])) mid new status (sym none) (sym quiet) says)

-- nothing was looked for
pub was_untried : (a : Answer) (did : Did) (old mid : Outside) → mid.tried ≡ old.tried → OnlyInput old mid → KeepsReadFaults old mid → LeadsTo a did did old mid
was_untried a did old mid same only keeps = λ start way.
    record {
      more = steps_add.reading did start old mid way.more (same, only);
      quiet = way.quiet;
      inputs = way.inputs;
      reads = le_more start.read_faults old.read_faults mid.read_faults way.reads keeps;
      writes = le_same start.write_faults old.write_faults mid.write_faults way.writes only.write_faults;
      complaints = le_same start.complain_faults old.complain_faults mid.complain_faults way.complaints only.complain_faults;
    }

-- memory ran out, before the file was looked for or after it
pub read_unread : (a : Answer) (inputs : List Word) (old mid : Outside) (name : Word) → Begins (inputs ++ name ∷ []) a.inputs → (mid.tried ≡ old.tried) ⊎ (mid.tried ≡ old.tried ++ name ∷ []) → OnlyInput old mid → KeepsReadFaults old mid
    → EndsWith a (looked_for inputs) old mid NoMemory
read_unread a inputs old mid name begins (inl same) only keeps =
    then_ends a (looked_for inputs) (looked_for inputs) old mid mid NoMemory (was_untried a (looked_for inputs) old mid same only keeps) (endings_follow.memory a (looked_for inputs) mid (none_begun a (looked_for inputs) refl refl))
read_unread a inputs old mid name begins (inr tried) only keeps =
    let there = looked_for (inputs ++ name ∷ []) in
    then_ends a (looked_for inputs) there old mid mid NoMemory (was_tried a inputs old mid name begins tried only keeps) (endings_follow.memory a there mid (none_begun a there refl refl))

-- ---- files are made and written

-- no file was made, and none grew
pub was_unmade : (a : Answer) (did : Did) (old mid : Outside) → mid.made ≡ old.made → mid.created ≡ old.created → OnlyMade old mid → KeepsWriteFaults old mid → LeadsTo a did did old mid
was_unmade a did old mid made created only keeps = λ start way.
    record {
      more = record {
        made = made ∙ way.more.made;
        created = created ∙ way.more.created;
        shown = only.shown ∙ way.more.shown;
        complained = only.complained ∙ way.more.complained;
        tried = only.output.tried ∙ way.more.tried;
      };
      quiet = way.quiet;
      inputs = way.inputs;
      reads = le_same start.read_faults old.read_faults mid.read_faults way.reads only.output.read_faults;
      writes = le_more start.write_faults old.write_faults mid.write_faults way.writes keeps;
      complaints = le_same start.complain_faults old.complain_faults mid.complain_faults way.complaints only.complain_faults;
    }

-- a file is among those made
pub made_there : (files : MadeFiles) (name : Word) (bytes : Bytes) → Contains {X = Word × Bytes} files (name, bytes) → is_made name files ≡ true
made_there files name bytes (k, lt, is) =
    let here : bytes_eq name name ≡ true = (bytes_eq-Decides name name).1 refl in
    list_any_at (λ (f : Word × Bytes). bytes_eq f.0 name) files k (name, bytes) lt (ap (λ (f : Word × Bytes). bytes_eq f.0 name) is ∙ here)

pub not_made : (files : MadeFiles) (name : Word) (bytes : Bytes) → is_made name files ≡ false → Contains {X = Word × Bytes} files (name, bytes) → ⊥
not_made files name bytes off has = let on = made_there files name bytes has in cc

-- a file that is to be made and isn't yet lacks its bytes
pub lacks_unmade : (a : Answer) (did : Did) (name : Word) (bytes : Bytes) → Contains {X = Word × Bytes} a.made (name, bytes) → is_made name did.made ≡ false → Lacks a did name
lacks_unmade a did name bytes wanted off = a_file {bytes = bytes} wanted (not_made did.made name bytes off)

-- a file that was made, and of which only a part was written, lacks the rest
pub lacks_rest : (a : Answer) (did : Did) (before after : MadeFiles) (name : Word) (part bytes : Bytes) → Contains {X = Word × Bytes} a.made (name, bytes) → did.made ≡ before ++ (name, part) ∷ after → is_made name before ≡ false → is_made name after ≡ false → part ≢ bytes → Lacks a did name
lacks_rest a did before after name part bytes wanted made off_before off_after short =
    a_file {bytes = bytes} wanted (λ has. none (Contains-append_cases before ((name, part) ∷ after) (name, bytes) (subst (λ (fs : MadeFiles). Contains {X = Word × Bytes} fs (name, bytes)) made has)))
  where
    single : Contains {X = Word × Bytes} ((name, part) ∷ []) (name, bytes) → ⊥
    single (zero, lt, is) = short (ap (λ (f : Word × Bytes). f.1) is)
    single (suc k, lt, is) = absurd (omega (arith, lt))

    rest : Contains {X = Word × Bytes} ((name, part) ∷ []) (name, bytes) ⊎ Contains {X = Word × Bytes} after (name, bytes) → ⊥
    rest (inl h) = single h
    rest (inr h) = not_made after name bytes off_after h

    none : Contains {X = Word × Bytes} before (name, bytes) ⊎ Contains {X = Word × Bytes} ((name, part) ∷ after) (name, bytes) → ⊥
    none (inl h) = not_made before name bytes off_before h
    none (inr h) = rest (Contains-append_cases ((name, part) ∷ []) after (name, bytes) h)

-- the last file of a name has the bytes more
pub grown_at : (before after : MadeFiles) (name : Word) (part bytes : Bytes) → is_made name after ≡ false → files_with_more name bytes (before ++ (name, part) ∷ after) ≡ before ++ (name, part ++ bytes) ∷ after
grown_at [] after name part bytes off = by (is_made name after) (bytes_eq name name) off ((bytes_eq-Decides name name).1 refl)
  where
    by : (later here : Bool) → later ≡ false → here ≡ true
        → (if later then (name, part) ∷ files_with_more name bytes after else if here then (name, part ++ bytes) ∷ after else (name, part) ∷ after) ≡ (name, part ++ bytes) ∷ after
    by true here e f = cc
    by false true e f = refl
    by false false e f = cc
grown_at (f ∷ fs) after name part bytes off = by (is_made name (fs ++ (name, part) ∷ after)) (bytes_eq f.0 name) there (grown_at fs after name part bytes off)
  where
    there : is_made name (fs ++ (name, part) ∷ after) ≡ true
    there = made_there (fs ++ (name, part) ∷ after) name part (Contains-append_right fs ((name, part) ∷ after) (name, part) (0, omega arith, refl))

    by : (later here : Bool) → later ≡ true → files_with_more name bytes (fs ++ (name, part) ∷ after) ≡ fs ++ (name, part ++ bytes) ∷ after
        → (if later then f ∷ files_with_more name bytes (fs ++ (name, part) ∷ after) else if here then (f.0, f.1 ++ bytes) ∷ (fs ++ (name, part) ∷ after) else f ∷ (fs ++ (name, part) ∷ after)) ≡ f ∷ (fs ++ (name, part ++ bytes) ∷ after)
    by true here e rest = ap (λ xs. f ∷ xs) rest
    by false here e rest = cc

-- a write failed, and a line tells of what lacks bytes
pub write_failed : (a : Answer) (did more : Did) (old mid new : Outside) (name : Word) (status : Status) → LeadsTo a did more old mid → WriteFaultCounted old mid → IsBegun a more → Lacks a more name → Says (write_fault_line name) WriteFault mid new status → EndsWith a did old new status
write_failed a did more old mid new name status leads rose begun lacks says = λ start way.
    endings_follow.writing a more start mid new name status (leads start way) begun lacks (rose_later start.write_faults old.write_faults mid.write_faults way.writes rose) says

-- ---- causes

-- the status of a write fault comes of a counted fault of writing: of the line, or of what it tells
pub rose_by_said : (line : Bytes) (own : Status) (old mid new : Outside) (status : Status) → KeepsWriteFaults old mid → (own ≡ WriteFault → WriteFaultCounted old mid) → Says line own mid new status → status ≡ WriteFault → WriteFaultCounted old new
rose_by_said line own old mid new _ before rose (whole said writes complaints) five = rose_kept old.write_faults mid.write_faults new.write_faults (rose five) (same_kept mid.write_faults new.write_faults writes)
rose_by_said line own old mid new _ before rose (cut part short said writes complaints) five = rose_later old.write_faults mid.write_faults new.write_faults before writes
rose_by_said line own old mid new _ before rose (unsaid part begins said writes complaints) five = absurd cc

pub rose_by_shown : (bytes : Bytes) (own : Status) (old mid new : Outside) (status : Status) → KeepsWriteFaults old mid → own ≢ WriteFault → ShowsEnd bytes own mid new status → status ≡ WriteFault → WriteFaultCounted old new
rose_by_shown bytes own old mid new _ before other (all_shown showed keeps) five = absurd (other five)
rose_by_shown bytes own old mid new status before other (stopped part end short showed keeps rose says) five =
    let writes = rose_later old.write_faults mid.write_faults end.write_faults before rose in
    rose_by_said (write_fault_line (codes "standard output")) WriteFault old end new status (le_more old.write_faults mid.write_faults end.write_faults before keeps) (λ e. writes) says five
rose_by_shown bytes own old mid new _ before other (unshown part begins showed keeps) five = absurd cc
