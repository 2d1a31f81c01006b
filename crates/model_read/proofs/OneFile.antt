-- A file whose form counts: it is read like any other, and stops the reading too where it is off its form.
use Rattle.std.proofs.Common.{◌≡◌, ℕ, ◌≤◌, Bool, true, false, cond, Option, Some, None, List, [], ◌∷◌, ◌++◌, Ok, Err, IfSome, IfOk, length, refl, sym, ap, ◌∙◌, subst}
use Rattle.std.specs.declared.result.Result.{Result}
use Rattle.std.specs.Option.{option_or, option_map, option_and_then, is_some}
use Rattle.std.specs.Result.{result_ok}
use Rattle.std.proofs.lemmas.Option.{none-some, same_Some}
use Rattle.quantity.specs.Bytes.{Bytes}
use Rattle.quantity.specs.declared.value.Value.{Value}
use Rattle.source_text.specs.Lines.{Files}
use Rattle.cell_grid.specs.declared.initial.InitialRefusal.{InitialRefusal}
use Rattle.room_edge.specs.Outside.{Outside}
use Rattle.model_text.specs.declared.kind.Kind.TheVariants as kinds
use Rattle.model_text.specs.Refusals.{refusal}
use Rattle.model_text.specs.InitialFiles.{InitialFile, FileStop, absent, off, is_long, content_stops, first_file_stop, names_looked_for}
use Rattle.model_read.specs.declared.refusal.ModelRefusal.{ModelRefusal}
use Rattle.model_read.specs.declared.refusal.ModelRefusal.TheVariants.{Missing, ReadFault, Refused, Memory}
use Rattle.model_read.specs.Reading.{Tried, IsLastTried, Counted, StopsAs, ReadsFiles}
use Rattle.model_read.specs.WholeFile.{any_file}
use Rattle.model_read.specs.Laid.{laid_at}
use Rattle.model_read.proofs.Looking.{looks_for_one}
use Rattle.model_read.proofs.Readings.{on_one, on_both}
use Rattle.model_read.proofs.WholeFile.{short_bytes}

-- of this form
abbrev pub formed_file : ℕ → Bytes → (Bytes → Bool) → InitialFile
formed_file line name is_right = record { line = line; name = name; is_right = is_right }

abbrev stop_of : InitialFile → Option Bytes → Option FileStop
stop_of f o = option_or (content_stops f o) None

-- a file that stops the reading whatever its form stops it with each form
same_stop : (line : ℕ) (name : Bytes) (is_right : Bytes → Bool) (s : FileStop) (o : Option Bytes)
    → stop_of (any_file line name) o ≡ Some s → stop_of (formed_file line name is_right) o ≡ Some s
same_stop line name is_right s None e = e
same_stop line name is_right s (Some bytes) e = go (is_long bytes) e
  where
    go : (b : Bool) → option_or (cond b (Some (off (refusal line kinds.TooLong))) None) None ≡ Some s
        → option_or (cond b (Some (off (refusal line kinds.TooLong))) (cond (is_right bytes) None (Some (off (refusal line kinds.BadInitial))))) None ≡ Some s
    go true e = e
    go false e = absurd (none-some s e)

-- and one that does not is off its form or not
formed_stop : (line : ℕ) (name : Bytes) (is_right : Bytes → Bool) (bytes : Bytes) (o : Option Bytes) → o ≡ Some bytes → length bytes ≤ 16777216
    → stop_of (formed_file line name is_right) o ≡ option_or (cond (is_right bytes) None (Some (off (refusal line kinds.BadInitial)))) None
formed_stop line name is_right bytes o e h =
    ap (stop_of (formed_file line name is_right)) e
    ∙ ap (λ b. option_or (cond b (Some (off (refusal line kinds.TooLong))) (cond (is_right bytes) None (Some (off (refusal line kinds.BadInitial))))) None) (short_bytes bytes h)

looks_alike : (line : ℕ) (name : Bytes) (is_right : Bytes → Bool) (folder : Files)
    → names_looked_for folder (any_file line name ∷ []) ≡ names_looked_for folder (formed_file line name is_right ∷ [])
looks_alike line name is_right folder = looks_for_one folder (any_file line name) ∙ sym (looks_for_one folder (formed_file line name is_right))

stops_alike : (T U : Type 0) (line : ℕ) (name : Bytes) (is_right : Bytes → Bool) (w : ModelRefusal) (o : Option Bytes)
    → StopsAs {T = T} (Err w) (stop_of (any_file line name) o) → StopsAs {T = U} (Err w) (stop_of (formed_file line name is_right) o)
stops_alike T U line name is_right (Missing n) o s = same_stop line name is_right (absent n) o s
stops_alike T U line name is_right (Refused l k) o s = same_stop line name is_right (off (refusal l k)) o s
stops_alike T U line name is_right (ReadFault n) o s = tt
stops_alike T U line name is_right Memory o s = tt

tried_alike : (T U : Type 0) (w : ModelRefusal) (a b old new : List Bytes) → a ≡ b → Tried {T = T} (Err w) a old new → Tried {T = U} (Err w) b old new
tried_alike T U (Missing n) a b old new e t = t ∙ ap (λ ns. old ++ ns) e
tried_alike T U (Refused l k) a b old new e t = t ∙ ap (λ ns. old ++ ns) e
tried_alike T U (ReadFault n) a b old new e t = (t.0, (t.1.0, sym e ∙ t.1.1), t.2)
tried_alike T U Memory a b old new e t = (t.0, (t.1.0, sym e ∙ t.1.1), t.2)

last_alike : (T U : Type 0) (w : ModelRefusal) (tried : List Bytes) → IsLastTried {T = T} (Err w) tried → IsLastTried {T = U} (Err w) tried
last_alike T U (Missing name) tried l = l
last_alike T U (ReadFault name) tried l = l
last_alike T U (Refused line kind) tried l = tt
last_alike T U Memory tried l = tt

counted_alike : (T U : Type 0) (w : ModelRefusal) (o n : Outside) → Counted {T = T} (Err w) o n → Counted {T = U} (Err w) o n
counted_alike T U (Missing name) o n c = c
counted_alike T U (ReadFault name) o n c = c
counted_alike T U (Refused line kind) o n c = c
counted_alike T U Memory o n c = c

-- a file that could not be read
pub unread : {T U : Type 0} (line : ℕ) (name : Bytes) (is_right : Bytes → Bool) (w : ModelRefusal) (o n : Outside)
    → ReadsFiles {T = T} (any_file line name ∷ []) (Err w) o n → ReadsFiles {T = U} (formed_file line name is_right ∷ []) (Err w) o n
unread {T} {U} line name is_right w o n a =
    record {
      stops = on_one o.files a.stops (λ folder s. stops_alike T U line name is_right w (folder name) s);
      tried = on_one o.files a.tried (λ folder t. tried_alike T U w (names_looked_for folder (any_file line name ∷ [])) (names_looked_for folder (formed_file line name is_right ∷ [])) o.tried n.tried (looks_alike line name is_right folder) t);
      last = last_alike T U w n.tried a.last;
      counted = counted_alike T U w o n a.counted;
      misses = a.misses;
      faults = a.faults;
      only = a.only;
    }

-- one that was read, and laid or not
pub formed : {T X : Type 0} (x : T) (line : ℕ) (name : Bytes) (is_right : Bytes → Bool) (bytes : Bytes) (r : Result X InitialRefusal) (o n : Outside)
    → IfSome o.files (λ folder. folder name ≡ Some bytes) → length bytes ≤ 16777216 → is_some (result_ok r) ≡ is_right bytes
    → ReadsFiles (any_file line name ∷ []) (Ok x) o n → ReadsFiles (formed_file line name is_right ∷ []) (laid_at line r) o n
formed {T} {X} x line name is_right bytes (Ok y) o n there short is a =
    record {
      stops = on_one o.files there (λ folder e. formed_stop line name is_right bytes (folder name) e short ∙ ap (λ b. option_or (cond b None (Some (off (refusal line kinds.BadInitial)))) None) (sym is));
      tried = on_one o.files a.tried (λ folder t. t ∙ ap (λ ns. o.tried ++ ns) (looks_alike line name is_right folder));
      last = tt;
      counted = a.counted;
      misses = a.misses;
      faults = a.faults;
      only = a.only;
    }
formed {T} {X} x line name is_right bytes (Err w) o n there short is a =
    record {
      stops = on_one o.files there (λ folder e. formed_stop line name is_right bytes (folder name) e short ∙ ap (λ b. option_or (cond b None (Some (off (refusal line kinds.BadInitial)))) None) (sym is));
      tried = on_one o.files a.tried (λ folder t. t ∙ ap (λ ns. o.tried ++ ns) (looks_alike line name is_right folder));
      last = tt;
      counted = a.counted;
      misses = a.misses;
      faults = a.faults;
      only = a.only;
    }

-- ---- what is laid

-- whether something was laid: just where the file has its form
pub is_laid : {A X C : Type 0} (lay : C → A) (r : Result A X) (file : Option C) → result_ok r ≡ option_map lay file → is_some (result_ok r) ≡ is_some file
is_laid lay r None e = ap is_some e
is_laid lay r (Some c) e = ap is_some e

laid_is : {A C : Type 0} (lay : Option C → A) (v : A) (file : Option C) → Some v ≡ option_map (λ c. lay (Some c)) file → v ≡ lay file
laid_is lay v None e = absurd (none-some v (sym e))
laid_is lay v (Some c) e = same_Some v (lay (Some c)) e

-- what it is then
pub laid_right : {A C : Type 0} (line : ℕ) (name bytes : Bytes) (lay : Option C → A) (parse : Bytes → Option C) (r : Result A InitialRefusal) (o : Option Files)
    → IfSome o (λ folder. folder name ≡ Some bytes) → result_ok r ≡ option_map (λ c. lay (Some c)) (parse bytes)
    → IfSome o (λ folder. IfOk (laid_at line r) (λ v. v ≡ lay (option_and_then parse (folder name))))
laid_right line name bytes lay parse (Ok v) o there e = on_one o there (λ folder is. laid_is lay v (parse bytes) e ∙ ap (λ b. lay (option_and_then parse b)) (sym is))
laid_right line name bytes lay parse (Err w) o there e = on_one o there (λ folder is. tt)
