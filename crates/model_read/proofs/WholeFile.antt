-- A whole read as the reading of one file.
use Rattle.std.proofs.Common.{◌≡◌, ℕ, ◌+◌, ◌≤◌, true, false, cond, Option, Some, None, List, [], ◌∷◌, ◌++◌, Vec, Ok, Err, IfSome, length, inl, inr, ◌⊎◌, refl, sym, ap, ◌∙◌, arith}
use Rattle.std.specs.declared.alloc.Global.{Global}
use Rattle.std.specs.declared.result.Result.{Result}
use Rattle.std.specs.Option.{option_or}
use Rattle.std.proofs.lemmas.List.{append-nil}
use Rattle.std.proofs.lemmas.Grind.{common_steps}
use Rattle.quantity.specs.Bytes.{Bytes}
use Rattle.source_text.specs.Lines.{Files}
use Rattle.room_edge.specs.Outside.{Outside}
use Rattle.room_edge.specs.Only.{OnlyInput}
use Rattle.room_edge.specs.FaultCounts.{KeepsMisses, KeepsReadFaults}
use Rattle.room_edge.specs.Whole.{IsReadOf, Tries, CountsMissOfWhole, CountsFaultOfWhole}
use Rattle.room_edge.specs.declared.whole.ReadWhole.{ReadWhole}
use Rattle.room_edge.specs.declared.whole.ReadWhole.TheVariants.{Missing, ReadFault, TooLong, Memory}
use Rattle.model_text.specs.declared.kind.Kind.TheVariants as kinds
use Rattle.model_text.specs.Refusals.{refusal}
use Rattle.model_text.specs.InitialFiles.{FileStop, off, is_long, content_stops, first_file_stop, names_looked_for}
use Rattle.model_read.specs.declared.refusal.ModelRefusal.TheVariants as why
use Rattle.model_read.specs.Reading.{Tried, IsLastTried, Counted, StopsAs, ReadsFiles}
use Rattle.model_read.specs.WholeFile.{any_file, answer_to_read}
use Rattle.model_read.proofs.Looking.{looks_for_one}
use Rattle.model_read.proofs.Readings.{on_one}

pub short_bytes : (bytes : Bytes) → length bytes ≤ 16777216 → is_long bytes ≡ false
short_bytes bytes h = grind (arith, common_steps)

long_bytes : (bytes : Bytes) (n : ℕ) → n ≡ 16777216 + 1 → n ≤ length bytes → is_long bytes ≡ true
long_bytes bytes n e h = grind (arith, common_steps)

abbrev stop_of : ℕ → Bytes → Option Bytes → Option FileStop
stop_of line name o = option_or (content_stops (any_file line name) o) None

stops_none : (line : ℕ) (name bytes : Bytes) (o : Option Bytes) → o ≡ Some bytes → length bytes ≤ 16777216 → stop_of line name o ≡ None
stops_none line name bytes o e h =
    ap (stop_of line name) e ∙ ap (λ b. option_or (cond b (Some (off (refusal line kinds.TooLong))) None) None) (short_bytes bytes h)

stops_long : (line : ℕ) (name bytes : Bytes) (o : Option Bytes) (n : ℕ) → o ≡ Some bytes → n ≡ 16777216 + 1 → n ≤ length bytes
    → stop_of line name o ≡ Some (off (refusal line kinds.TooLong))
stops_long line name bytes o n e k h =
    ap (stop_of line name) e ∙ ap (λ b. option_or (cond b (Some (off (refusal line kinds.TooLong))) None) None) (long_bytes bytes n k h)

stops : (line : ℕ) (name : Bytes) (folder : Files) (r : Result (Vec ℕ Global) ReadWhole) → IsReadOf folder name 16777216 r
    → StopsAs (answer_to_read line name r) (first_file_stop folder (any_file line name ∷ []))
stops line name folder (Ok bytes) h = stops_none line name bytes.items (folder name) h.0 h.1
stops line name folder (Err Missing) h = ap (stop_of line name) h
stops line name folder (Err ReadFault) h = tt
stops line name folder (Err (TooLong n)) h = stops_long line name h.0 (folder name) n h.1 h.2 h.3
stops line name folder (Err Memory) h = tt

tried : (line : ℕ) (name : Bytes) (folder : Files) (r : Result (Vec ℕ Global) ReadWhole) (old new : List Bytes) → Tries r name old new
    → Tried (answer_to_read line name r) (names_looked_for folder (any_file line name ∷ [])) old new
tried line name folder (Ok bytes) old new h = h ∙ ap (λ ns. old ++ ns) (sym (looks_for_one folder (any_file line name)))
tried line name folder (Err Missing) old new h = h ∙ ap (λ ns. old ++ ns) (sym (looks_for_one folder (any_file line name)))
tried line name folder (Err ReadFault) old new h = ([], ([], looks_for_one folder (any_file line name)), h)
tried line name folder (Err (TooLong n)) old new h = h ∙ ap (λ ns. old ++ ns) (sym (looks_for_one folder (any_file line name)))
tried line name folder (Err Memory) old new h = go h
  where
    go : ((new ≡ old) ⊎ (new ≡ old ++ name ∷ [])) → Tried {T = Vec ℕ Global} (Err why.Memory) (names_looked_for folder (any_file line name ∷ [])) old new
    go (inl e) = ([], (names_looked_for folder (any_file line name ∷ []), refl), e ∙ sym (append-nil old))
    go (inr e) = (name ∷ [], ([], looks_for_one folder (any_file line name)), e)

last : (line : ℕ) (name : Bytes) (r : Result (Vec ℕ Global) ReadWhole) (old new : List Bytes) → Tries r name old new → IsLastTried (answer_to_read line name r) new
last line name (Ok bytes) old new h = tt
last line name (Err Missing) old new h = (old, h)
last line name (Err ReadFault) old new h = (old, h)
last line name (Err (TooLong n)) old new h = tt
last line name (Err Memory) old new h = tt

counted : (line : ℕ) (name : Bytes) (r : Result (Vec ℕ Global) ReadWhole) (o n : Outside) → CountsMissOfWhole r o.misses n.misses → CountsFaultOfWhole r o.read_faults n.read_faults
    → Counted (answer_to_read line name r) o n
counted line name (Ok bytes) o n h k = (h, k)
counted line name (Err Missing) o n h k = (h, k)
counted line name (Err ReadFault) o n h k = (h, k)
counted line name (Err (TooLong m)) o n h k = (h, k)
counted line name (Err Memory) o n h k = (h, k)

pub whole_reads : (line : ℕ) (name : Bytes) (r : Result (Vec ℕ Global) ReadWhole) (o n : Outside)
    → IfSome o.files (λ folder. IsReadOf folder name 16777216 r) → Tries r name o.tried n.tried
    → CountsMissOfWhole r o.misses n.misses → CountsFaultOfWhole r o.read_faults n.read_faults → KeepsMisses o n → KeepsReadFaults o n → OnlyInput o n
    → ReadsFiles (any_file line name ∷ []) (answer_to_read line name r) o n
whole_reads line name r o n bytes tries counts_misses counts_faults misses faults only =
    record {
      stops = on_one o.files bytes (λ folder h. stops line name folder r h);
      tried = on_one o.files bytes (λ folder h. tried line name folder r o.tried n.tried tries);
      last = last line name r o.tried n.tried tries;
      counted = counted line name r o n counts_misses counts_faults;
      misses = misses;
      faults = faults;
      only = only;
    }
