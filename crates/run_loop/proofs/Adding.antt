-- Bytes that are added to one of the files, and texts that are added one after another.
use Rattle.std.proofs.Common.{◌≡◌, ◌≢◌, ℕ, ◌<◌, ◌≤◌, Some, None, List, [], ◌∷◌, ◌++◌, length, take, refl, sym, ap, ◌∙◌, subst, append_assoc, length-append, arith}
use Rattle.std.specs.Prelude.{IsSome, Result, Ok, Err}
use Rattle.std.proofs.lemmas.List.{append-nil, append_cancel_left}
use Rattle.quantity.specs.Bytes.{Bytes}
use Rattle.model_tree.specs.Tree.{Word}
use Rattle.room_edge.specs.Faults.{WriteFaultCounted}
use Rattle.room_edge.specs.FaultCounts.{KeepsWriteFaults}
use Rattle.room_edge.specs.Outside.{Outside}
use Rattle.room_edge.specs.Only.{OnlyMade, adds}
use Rattle.room_edge.proofs.Only.{OnlyMade-refl, OnlyMade-trans}
use Rattle.answer_model.specs.Answer.{MadeFiles}
use Rattle.answer_model.specs.Headline.{Begins}
use Rattle.answer_model.specs.Steps.{files_with_more}
use Rattle.answer_model.specs.FaultsAnswered.{NoWriteFault}
use Rattle.answer_model.specs.Endings.{made_after, LeadsTo}
use Rattle.answer_model.proofs.Endings.{steps_lead, rose_later, le_more}
use Rattle.answer_model.proofs.Said.{short_of}
use Rattle.answer_model.proofs.Stages.{then_leads, grown_at, made_there}
use Rattle.run_loop.specs.declared.outputs.Output.{Output}
use Rattle.run_loop.specs.declared.outputs.Output.TheVariants.{Log, Out, Frames, State}
use Rattle.run_loop.specs.declared.outputs.Unwritten.{Unwritten}
use Rattle.run_loop.specs.declared.outputs.Unwritten.TheVariants.{Fault, Memory}
use Rattle.run_loop.specs.Texts.{FileNames, Texts, no_texts, both, only, files, name_at, text_at, AreApart}
use Rattle.run_loop.specs.Order.{Piece, piece_of, one_piece, texts_of, WritesInOrder}
use Rattle.run_loop.specs.Written.{Adds, AddsAll, Falls, FaultCounted, Writes}
use Rattle.run_loop.proofs.Around.{files_before, files_behind, files_at, files_without, has_file, not_behind}

-- ---- texts

-- more bytes in one of the texts
abbrev pub grown_text : Texts → Output → Bytes → Texts
grown_text t Log bytes = record t { log = t.log ++ bytes }
grown_text t Out bytes = record t { out = t.out ++ bytes }
grown_text t Frames bytes = record t { frames = t.frames ++ bytes }
grown_text t State bytes = record t { state = t.state ++ bytes }

pub both_only : (t : Texts) (file : Output) (bytes : Bytes) → both t (only file bytes) ≡ grown_text t file bytes
both_only t Log bytes = λ i. record { log = t.log ++ bytes; out = append-nil t.out i; frames = append-nil t.frames i; state = append-nil t.state i }
both_only t Out bytes = λ i. record { log = append-nil t.log i; out = t.out ++ bytes; frames = append-nil t.frames i; state = append-nil t.state i }
both_only t Frames bytes = λ i. record { log = append-nil t.log i; out = append-nil t.out i; frames = t.frames ++ bytes; state = append-nil t.state i }
both_only t State bytes = λ i. record { log = append-nil t.log i; out = append-nil t.out i; frames = append-nil t.frames i; state = t.state ++ bytes }

pub both_assoc : (a b c : Texts) → both (both a b) c ≡ both a (both b c)
both_assoc a b c =
    λ i. record {
      log = append_assoc a.log b.log c.log i;
      out = append_assoc a.out b.out c.out i;
      frames = append_assoc a.frames b.frames c.frames i;
      state = append_assoc a.state b.state c.state i;
    }

both_none : (t : Texts) → both t no_texts ≡ t
both_none t = λ i. record { log = append-nil t.log i; out = append-nil t.out i; frames = append-nil t.frames i; state = append-nil t.state i }

pub one_text : (file : Output) (bytes : Bytes) → texts_of (one_piece file bytes) ≡ only file bytes
one_text file bytes = both_none (only file bytes)

pub texts-append : (ps qs : List Piece) → texts_of (ps ++ qs) ≡ both (texts_of ps) (texts_of qs)
texts-append [] qs = refl
texts-append (p ∷ ps) qs =
    ap (both (only p.file p.bytes)) (texts-append ps qs) ∙ sym (both_assoc (only p.file p.bytes) (texts_of ps) (texts_of qs))

-- ---- counts

pub no_fewer : (old new : Outside) → NoWriteFault old new → KeepsWriteFaults old new
no_fewer old new sure = by old.write_faults new.write_faults sure
  where
    by : (a b : ℕ) → b ≡ a → a ≤ b
    by a b e = omega (arith, e)

-- ---- one of the files grows

text_grown : (t : Texts) (file : Output) (bytes : Bytes) → text_at (grown_text t file bytes) file ≡ text_at t file ++ bytes
text_grown t Log bytes = refl
text_grown t Out bytes = refl
text_grown t Frames bytes = refl
text_grown t State bytes = refl

-- the others stay
others_stay : (n : FileNames) (t : Texts) (file : Output) (bytes : Bytes) (here : MadeFiles)
    → files_before n (grown_text t file bytes) file ++ (here ++ files_behind n (grown_text t file bytes) file) ≡ files_before n t file ++ (here ++ files_behind n t file)
others_stay n t Log bytes here = refl
others_stay n t Out bytes here = refl
others_stay n t Frames bytes here = refl
others_stay n t State bytes here = refl

pub grown_file : (n : FileNames) (t : Texts) (file : Output) (name : Word) (bytes : Bytes) → AreApart n → name_at n file ≡ Some name → files_with_more name bytes (files n t) ≡ files n (grown_text t file bytes)
grown_file n t file name bytes apart is =
    let more = grown_text t file bytes in
    ap (files_with_more name bytes) (files_at n t file name is)
    ∙ grown_at (files_before n t file) (files_behind n t file) name (text_at t file) bytes (not_behind n t file name apart is)
    ∙ ap (λ (text : Bytes). files_before n t file ++ (name, text) ∷ files_behind n t file) (sym (text_grown t file bytes))
    ∙ sym (files_at n more file name is ∙ others_stay n t file bytes ((name, text_at more file) ∷ []))

-- a file that isn't made has no bytes
none_same : (n : FileNames) (t : Texts) (file : Output) (bytes : Bytes) → name_at n file ≡ None → files n (grown_text t file bytes) ≡ files n t
none_same n t file bytes is = files_without n (grown_text t file bytes) file is ∙ others_stay n t file bytes [] ∙ sym (files_without n t file is)

-- ---- what is added

-- bytes were added to a file
pub added : (n : FileNames) (file : Output) (name : Word) (bytes : Bytes) (old new : Outside) → AreApart n → name_at n file ≡ Some name
    → new.made ≡ adds old.made name bytes → new.created ≡ old.created → OnlyMade old new → KeepsWriteFaults old new → Adds n (only file bytes) old new
added n file name bytes old new apart is made created only_made keeps =
    record {
      leads = λ t a inputs.
          let there = made_there (files n t) name (text_at t file) (has_file n t file name is) in
          let grows = grown_file n t file name bytes apart is in
          let texts = ap (files n) (sym (both_only t file bytes)) in
          subst (λ (fs : MadeFiles). LeadsTo a (made_after inputs (files n t)) (made_after inputs fs) old new) (grows ∙ texts)
          (steps_lead.appending a (made_after inputs (files n t)) old new name bytes there (made, created, only_made) keeps);
      created = created;
      keeps = keeps;
      only = only_made;
    }

-- nothing is added where there is no such file
none_more : (n : FileNames) (file : Output) (bytes : Bytes) (now : Outside) → name_at n file ≡ None → Adds n (only file bytes) now now
none_more n file bytes now is =
    record {
      leads = λ t a inputs.
          let texts = ap (files n) (both_only t file bytes) ∙ none_same n t file bytes is in
          subst (λ (fs : MadeFiles). LeadsTo a (made_after inputs (files n t)) (made_after inputs fs) now now) (sym texts) (λ start way. way);
      created = refl;
      keeps = omega arith;
      only = OnlyMade-refl now;
    }

-- no text is added
adds_none : (n : FileNames) (now : Outside) → Adds n no_texts now now
adds_none n now =
    record {
      leads = λ t a inputs.
          subst (λ (fs : MadeFiles). LeadsTo a (made_after inputs (files n t)) (made_after inputs fs) now now) (sym (ap (files n) (both_none t))) (λ start way. way);
      created = refl;
      keeps = omega arith;
      only = OnlyMade-refl now;
    }

no_bytes : (file : Output) → no_texts ≡ only file []
no_bytes Log = refl
no_bytes Out = refl
no_bytes Frames = refl
no_bytes State = refl

-- one after another
pub adds_both : (n : FileNames) (first second : Texts) (old mid new : Outside) → Adds n first old mid → Adds n second mid new → Adds n (both first second) old new
adds_both n first second old mid new p q =
    record {
      leads = λ t a inputs.
          subst (λ (u : Texts). LeadsTo a (made_after inputs (files n t)) (made_after inputs (files n u)) old new) (both_assoc t first second)
          (then_leads a (made_after inputs (files n t)) (made_after inputs (files n (both t first))) (made_after inputs (files n (both (both t first) second))) old mid new (p.leads t a inputs) (q.leads (both t first) a inputs));
      created = q.created ∙ p.created;
      keeps = le_more old.write_faults mid.write_faults new.write_faults p.keeps q.keeps;
      only = OnlyMade-trans old mid new p.only q.only;
    }

pub adds_as : (n : FileNames) (first second : Texts) (old new : Outside) → first ≡ second → Adds n first old new → Adds n second old new
adds_as n first second old new is p = subst (λ (u : Texts). Adds n u old new) is p

-- no bytes for one of the files
adds_nothing : (n : FileNames) (file : Output) (now : Outside) → Adds n (only file []) now now
adds_nothing n file now = adds_as n no_texts (only file []) now now (no_bytes file) (adds_none n now)

-- ---- pieces that are written whole

pub all_added : (n : FileNames) (file : Output) (bytes : Bytes) (old new : Outside) → Adds n (only file bytes) old new → NoWriteFault old new → AddsAll n (one_piece file bytes) old new
all_added n file bytes old new p sure =
    record { adds = adds_as n (only file bytes) (texts_of (one_piece file bytes)) old new (sym (one_text file bytes)) p; sure = sure }

-- one behind the other
pub all_both : (n : FileNames) (first second : List Piece) (old mid new : Outside) → AddsAll n first old mid → AddsAll n second mid new → AddsAll n (first ++ second) old new
all_both n first second old mid new p q =
    record {
      adds = adds_as n (both (texts_of first) (texts_of second)) (texts_of (first ++ second)) old new (sym (texts-append first second)) (adds_both n (texts_of first) (texts_of second) old mid new p.adds q.adds);
      sure = q.sure ∙ p.sure;
    }

pub all_as : (n : FileNames) (first second : List Piece) (old new : Outside) → first ≡ second → AddsAll n first old new → AddsAll n second old new
all_as n first second old new is p = subst (λ (ps : List Piece). AddsAll n ps old new) is p

-- no piece, and nothing of a file without a name
pub all_none : (n : FileNames) (now : Outside) → AddsAll n [] now now
all_none n now = record { adds = adds_none n now; sure = refl }

pub none_added : (n : FileNames) (file : Output) (bytes : Bytes) (now : Outside) → name_at n file ≡ None → AddsAll n (one_piece file bytes) now now
none_added n file bytes now is = all_added n file bytes now now (none_more n file bytes now is) refl

-- a piece without bytes is written by doing nothing
pub nothing_added : (n : FileNames) (file : Output) (now : Outside) → AddsAll n (one_piece file []) now now
nothing_added n file now = all_added n file [] now now (adds_nothing n file now) refl

-- ---- what falls short

-- a write failed
pub fell : (n : FileNames) (file : Output) (name : Word) (bytes : Bytes) (k : ℕ) (old new : Outside) → AreApart n → name_at n file ≡ Some name
    → new.made ≡ adds old.made name (take k bytes) → k < length bytes → new.created ≡ old.created → OnlyMade old new → KeepsWriteFaults old new → WriteFaultCounted old new
    → Falls n (Fault file) (one_piece file bytes) old new
fell n file name bytes k old new apart is made lt created only_made keeps rose =
    let short = short_of k bytes lt in
    record {
      part = only file (take k bytes);
      order = record { before = []; last = piece_of file bytes; behind = []; begun = take k bytes; pieces_are = refl; begins = short.0; texts = refl };
      lacks = (subst IsSome (sym is) refl, refl, short.1);
      adds = added n file name (take k bytes) old new apart is made created only_made keeps;
      fault = rose;
    }

-- memory ran out
pub fell_of_memory : (n : FileNames) (file : Output) (name : Word) (bytes : Bytes) (k : ℕ) (old new : Outside) → AreApart n → name_at n file ≡ Some name
    → new.made ≡ adds old.made name (take k bytes) → k < length bytes → new.created ≡ old.created → OnlyMade old new → NoWriteFault old new
    → Falls n Memory (one_piece file bytes) old new
fell_of_memory n file name bytes k old new apart is made lt created only_made sure =
    record {
      part = only file (take k bytes);
      order = record { before = []; last = piece_of file bytes; behind = []; begun = take k bytes; pieces_are = refl; begins = (short_of k bytes lt).0; texts = refl };
      lacks = tt;
      adds = added n file name (take k bytes) old new apart is made created only_made (no_fewer old new sure);
      fault = sure;
    }

-- memory ran out before anything was added
pub fell_at_once : (n : FileNames) (p : Piece) (ps : List Piece) (now : Outside) → Falls n Memory (p ∷ ps) now now
fell_at_once n p ps now =
    record {
      part = only p.file [];
      order = record { before = []; last = p; behind = ps; begun = []; pieces_are = refl; begins = (p.bytes, refl); texts = refl };
      lacks = tt;
      adds = adds_nothing n p.file now;
      fault = refl;
    }

pub fault_after : (why : Unwritten) (old mid new : Outside) → NoWriteFault old mid → FaultCounted why mid new → FaultCounted why old new
fault_after (Fault file) old mid new sure rose = rose_later old.write_faults mid.write_faults new.write_faults (no_fewer old mid sure) rose
fault_after Memory old mid new sure fault = fault ∙ sure

-- behind pieces that were written whole
pub falls_after : (n : FileNames) (why : Unwritten) (first pieces : List Piece) (old mid new : Outside) → AddsAll n first old mid → Falls n why pieces mid new → Falls n why (first ++ pieces) old new
falls_after n why first pieces old mid new p f =
    let o = f.order in
    let done = texts_of first in
    let part = only o.last.file o.begun in
    record {
      part = both done f.part;
      order = record {
        before = first ++ o.before;
        last = o.last;
        behind = o.behind;
        begun = o.begun;
        pieces_are = ap (λ ps. first ++ ps) o.pieces_are ∙ sym (append_assoc first o.before (o.last ∷ o.behind));
        begins = o.begins;
        texts = ap (both done) o.texts ∙ sym (both_assoc done (texts_of o.before) part) ∙ ap (λ t. both t part) (sym (texts-append first o.before));
      };
      lacks = f.lacks;
      adds = adds_both n done f.part old mid new p.adds f.adds;
      fault = fault_after why old mid new p.sure f.fault;
    }

-- before pieces that were not written
pub falls_before : (n : FileNames) (why : Unwritten) (pieces more : List Piece) (old new : Outside) → Falls n why pieces old new → Falls n why (pieces ++ more) old new
falls_before n why pieces more old new f =
    let o = f.order in
    record {
      part = f.part;
      order = record {
        before = o.before;
        last = o.last;
        behind = o.behind ++ more;
        begun = o.begun;
        pieces_are = ap (λ ps. ps ++ more) o.pieces_are ∙ append_assoc o.before (o.last ∷ o.behind) more;
        begins = o.begins;
        texts = o.texts;
      };
      lacks = f.lacks;
      adds = f.adds;
      fault = f.fault;
    }

pub falls_as : (n : FileNames) (why : Unwritten) (first second : List Piece) (old new : Outside) → first ≡ second → Falls n why first old new → Falls n why second old new
falls_as n why first second old new is f = subst (λ (ps : List Piece). Falls n why ps old new) is f

-- memory ran out after all was written
pub all_fell : (n : FileNames) (before : List Piece) (last : Piece) (old new : Outside) → AddsAll n (before ++ last ∷ []) old new → Falls n Memory (before ++ last ∷ []) old new
all_fell n before last old new p =
    record {
      part = texts_of (before ++ last ∷ []);
      order = record {
        before = before;
        last = last;
        behind = [];
        begun = last.bytes;
        pieces_are = refl;
        begins = ([], sym (append-nil last.bytes));
        texts = texts-append before (last ∷ []) ∙ ap (both (texts_of before)) (one_text last.file last.bytes);
      };
      lacks = tt;
      adds = p.adds;
      fault = p.sure;
    }

-- whatever became of pieces behind those that were written whole
pub writes_after : {T : Type 0} (n : FileNames) (first second : List Piece) (old mid new : Outside) (r : Result T Unwritten) → AddsAll n first old mid → Writes n second mid new r → Writes n (first ++ second) old new r
writes_after n first second old mid new (Ok x) p q = all_both n first second old mid new p q
writes_after n first second old mid new (Err why) p f = falls_after n why first second old mid new p f

-- whatever was written, the same files were made
pub writes_created : {T : Type 0} (n : FileNames) (pieces : List Piece) (old new : Outside) (r : Result T Unwritten) → Writes n pieces old new r → new.created ≡ old.created
writes_created n pieces old new (Ok x) p = p.adds.created
writes_created n pieces old new (Err why) f = f.adds.created

-- ---- what pieces in their order leave

-- a beginning of each text
pub record BeginTexts (part whole : Texts) : Type 0 where
  pub log_begins : Begins part.log whole.log
  pub out_begins : Begins part.out whole.out
  pub frames_begin : Begins part.frames whole.frames
  pub state_begins : Begins part.state whole.state

begins_after : (first part whole : Bytes) → Begins part whole → Begins (first ++ part) (first ++ whole)
begins_after first part whole (rest, is) = (rest, ap (λ w. first ++ w) is ∙ sym (append_assoc first part rest))

begins_more : (part whole more : Bytes) → Begins part whole → Begins part (whole ++ more)
begins_more part whole more (rest, is) = (rest ++ more, ap (λ w. w ++ more) is ∙ append_assoc part rest more)

pub none_begins : (bytes : Bytes) → Begins [] bytes
none_begins bytes = (bytes, refl)

begins_here : (file : Output) (part whole : Bytes) (more : Texts) → Begins part whole → BeginTexts (only file part) (both (only file whole) more)
begins_here Log part whole more b =
    record { log_begins = begins_more part whole more.log b; out_begins = none_begins more.out; frames_begin = none_begins more.frames; state_begins = none_begins more.state }
begins_here Out part whole more b =
    record { log_begins = none_begins more.log; out_begins = begins_more part whole more.out b; frames_begin = none_begins more.frames; state_begins = none_begins more.state }
begins_here Frames part whole more b =
    record { log_begins = none_begins more.log; out_begins = none_begins more.out; frames_begin = begins_more part whole more.frames b; state_begins = none_begins more.state }
begins_here State part whole more b =
    record { log_begins = none_begins more.log; out_begins = none_begins more.out; frames_begin = none_begins more.frames; state_begins = begins_more part whole more.state b }

-- nothing begins all texts
pub none_begin : (whole : Texts) → BeginTexts no_texts whole
none_begin whole =
    record { log_begins = none_begins whole.log; out_begins = none_begins whole.out; frames_begin = none_begins whole.frames; state_begins = none_begins whole.state }

begins_behind : (first part whole : Texts) → BeginTexts part whole → BeginTexts (both first part) (both first whole)
begins_behind first part whole b =
    record {
      log_begins = begins_after first.log part.log whole.log b.log_begins;
      out_begins = begins_after first.out part.out whole.out b.out_begins;
      frames_begin = begins_after first.frames part.frames whole.frames b.frames_begin;
      state_begins = begins_after first.state part.state whole.state b.state_begins;
    }

-- the whole, by the piece that was begun last
whole_is : (pieces : List Piece) (part : Texts) (o : WritesInOrder pieces part) → texts_of pieces ≡ both (texts_of o.before) (both (only o.last.file o.last.bytes) (texts_of o.behind))
whole_is pieces part o = ap texts_of o.pieces_are ∙ texts-append o.before (o.last ∷ o.behind)

pub order_begins : (pieces : List Piece) (part : Texts) → WritesInOrder pieces part → BeginTexts part (texts_of pieces)
order_begins pieces part o =
    subst (λ (t : Texts). BeginTexts t (texts_of pieces)) (sym o.texts)
    (subst (BeginTexts (both (texts_of o.before) (only o.last.file o.begun))) (sym (whole_is pieces part o))
    (begins_behind (texts_of o.before) (only o.last.file o.begun) (both (only o.last.file o.last.bytes) (texts_of o.behind))
    (begins_here o.last.file o.begun o.last.bytes (texts_of o.behind) o.begins)))

no_more : (part rest more : Bytes) → part ≡ (part ++ rest) ++ more → rest ≡ []
no_more part [] more e = refl
no_more part (x ∷ rest) more e = absurd (omega (arith, ap length e, length-append (part ++ x ∷ rest) more, length-append part (x ∷ rest)))

short_of_more : (part whole more : Bytes) → Begins part whole → part ≢ whole → part ≢ whole ++ more
short_of_more part whole more (rest, is) short e =
    let none : rest ≡ [] = no_more part rest more (e ∙ ap (λ w. w ++ more) is) in
    short (sym (is ∙ ap (λ l. part ++ l) none ∙ append-nil part))

-- where the last piece lacks bytes, its file does
lacks_here : (file : Output) (first more : Texts) (part whole : Bytes) → Begins part whole → part ≢ whole → text_at (both first (only file part)) file ≢ text_at (both first (both (only file whole) more)) file
lacks_here Log first more part whole b short = λ e. short_of_more part whole more.log b short (append_cancel_left first.log part (whole ++ more.log) e)
lacks_here Out first more part whole b short = λ e. short_of_more part whole more.out b short (append_cancel_left first.out part (whole ++ more.out) e)
lacks_here Frames first more part whole b short = λ e. short_of_more part whole more.frames b short (append_cancel_left first.frames part (whole ++ more.frames) e)
lacks_here State first more part whole b short = λ e. short_of_more part whole more.state b short (append_cancel_left first.state part (whole ++ more.state) e)

pub order_lacks : (pieces : List Piece) (part : Texts) (o : WritesInOrder pieces part) (file : Output) → file ≡ o.last.file → o.begun ≢ o.last.bytes → text_at part file ≢ text_at (texts_of pieces) file
order_lacks pieces part o file is short e =
    lacks_here o.last.file (texts_of o.before) (texts_of o.behind) o.begun o.last.bytes o.begins short
    (sym (λ i. text_at (o.texts i) (is i)) ∙ e ∙ (λ i. text_at (whole_is pieces part o i) (is i)))
