-- Readings one behind the other.
use Rattle.std.proofs.Common.{◌≡◌, Option, Some, None, List, [], ◌∷◌, ◌++◌, Ok, Err, IfSome, refl, sym, ap, ◌∙◌, subst, le_trans, le_refl}
use Rattle.std.specs.declared.result.Result.{Result}
use Rattle.std.specs.Option.{option_or}
use Rattle.std.proofs.lemmas.List.{append-nil, append_assoc}
use Rattle.quantity.specs.Bytes.{Bytes}
use Rattle.source_text.specs.Lines.{Files}
use Rattle.room_edge.specs.Outside.{Outside}
use Rattle.room_edge.specs.Only.{OnlyInput}
use Rattle.room_edge.specs.Faults.{Rose}
use Rattle.model_text.specs.InitialFiles.{InitialFile, FileStop, first_file_stop, names_looked_for}
use Rattle.model_read.specs.declared.refusal.ModelRefusal.{ModelRefusal}
use Rattle.model_read.specs.declared.refusal.ModelRefusal.TheVariants.{Missing, ReadFault, Refused, Memory}
use Rattle.model_read.specs.Reading.{Tried, IsLastTried, Counted, StopsAs, ReadsFiles}
use Rattle.model_read.proofs.NothingRead.{nothing_changed}
use Rattle.model_read.proofs.Looking.{first_join, looks_on, looks_no_further, looks_first}

-- ---- what is told of the files

pub told : (o : Option Files) (P : Files → Type 0) → ((folder : Files) → P folder) → IfSome o P
told None P all = tt
told (Some folder) P all = all folder

pub on_one : {P Q : Files → Type 0} (o : Option Files) → IfSome o P → ((folder : Files) → P folder → Q folder) → IfSome o Q
on_one None p go = tt
on_one (Some folder) p go = go folder p

pub on_both : {P Q R : Files → Type 0} (o : Option Files) → IfSome o P → IfSome o Q → ((folder : Files) → P folder → Q folder → R folder) → IfSome o R
on_both None p q go = tt
on_both (Some folder) p q go = go folder p q

pub on_all : {P Q R S : Files → Type 0} (o : Option Files) → IfSome o P → IfSome o Q → IfSome o R → ((folder : Files) → P folder → Q folder → R folder → S folder) → IfSome o S
on_all None p q r go = tt
on_all (Some folder) p q r go = go folder p q r

-- ---- what stays of the room

pub only_both : (o m n : Outside) → OnlyInput o m → OnlyInput m n → OnlyInput o n
only_both o m n a b =
    record {
      files = b.files ∙ a.files;
      made = b.made ∙ a.made;
      shown = b.shown ∙ a.shown;
      complained = b.complained ∙ a.complained;
      write_faults = b.write_faults ∙ a.write_faults;
      complain_faults = b.complain_faults ∙ a.complain_faults;
      created = b.created ∙ a.created;
    }

-- ---- names and counts

pub tried_behind : (T : Type 0) (r : Result T ModelRefusal) (a b old mid new : List Bytes) → mid ≡ old ++ a → Tried r b mid new → Tried r (a ++ b) old new
tried_behind T (Ok x) a b old mid new e t = t ∙ ap (λ xs. xs ++ b) e ∙ append_assoc old a b
tried_behind T (Err (Missing name)) a b old mid new e t = t ∙ ap (λ xs. xs ++ b) e ∙ append_assoc old a b
tried_behind T (Err (Refused line kind)) a b old mid new e t = t ∙ ap (λ xs. xs ++ b) e ∙ append_assoc old a b
tried_behind T (Err (ReadFault name)) a b old mid new e t =
    let split : (a ++ t.0) ++ name ∷ [] ≡ a ++ (t.0 ++ name ∷ []) = append_assoc a t.0 (name ∷ []) in (
      a ++ t.0,
      (t.1.0, ap (λ xs. a ++ xs) t.1.1 ∙ sym (append_assoc a (t.0 ++ name ∷ []) t.1.0) ∙ ap (λ xs. xs ++ t.1.0) (sym split)),
      t.2 ∙ ap (λ xs. xs ++ (t.0 ++ name ∷ [])) e ∙ append_assoc old a (t.0 ++ name ∷ []) ∙ ap (λ xs. old ++ xs) (sym split),
    )
tried_behind T (Err Memory) a b old mid new e t = (
  a ++ t.0,
  (t.1.0, ap (λ xs. a ++ xs) t.1.1 ∙ sym (append_assoc a t.0 t.1.0)),
  t.2 ∙ ap (λ xs. xs ++ t.0) e ∙ append_assoc old a t.0,
)

tried_before : (T U : Type 0) (w : ModelRefusal) (folder : Files) (fs gs : List InitialFile) (old new : List Bytes)
    → StopsAs {T = T} (Err w) (first_file_stop folder fs) → Tried {T = T} (Err w) (names_looked_for folder fs) old new → Tried {T = U} (Err w) (names_looked_for folder (fs ++ gs)) old new
tried_before T U (Missing name) folder fs gs old new s t = t ∙ ap (λ xs. old ++ xs) (sym (looks_no_further folder fs gs _ s))
tried_before T U (Refused line kind) folder fs gs old new s t = t ∙ ap (λ xs. old ++ xs) (sym (looks_no_further folder fs gs _ s))
tried_before T U (ReadFault name) folder fs gs old new s t =
    let more = looks_first folder fs gs in
    (t.0, (t.1.0 ++ more.0, more.1 ∙ ap (λ xs. xs ++ more.0) t.1.1 ∙ append_assoc (t.0 ++ name ∷ []) t.1.0 more.0), t.2)
tried_before T U Memory folder fs gs old new s t =
    let more = looks_first folder fs gs in
    (t.0, (t.1.0 ++ more.0, more.1 ∙ ap (λ xs. xs ++ more.0) t.1.1 ∙ append_assoc t.0 t.1.0 more.0), t.2)

stops_before : (T U : Type 0) (w : ModelRefusal) (a b : Option FileStop) → StopsAs {T = T} (Err w) a → StopsAs {T = U} (Err w) (option_or a b)
stops_before T U (Missing name) a b s = ap (λ o. option_or o b) s
stops_before T U (Refused line kind) a b s = ap (λ o. option_or o b) s
stops_before T U (ReadFault name) a b s = tt
stops_before T U Memory a b s = tt

pub counted_behind : (T : Type 0) (r : Result T ModelRefusal) (o m n : Outside) → (m.misses ≡ o.misses) × (m.read_faults ≡ o.read_faults) → Counted r m n → Counted r o n
counted_behind T (Ok x) o m n e c = (c.0 ∙ e.0, c.1 ∙ e.1)
counted_behind T (Err (Missing name)) o m n e c = (subst (λ k. Rose k n.misses) e.0 c.0, c.1 ∙ e.1)
counted_behind T (Err (ReadFault name)) o m n e c = (c.0 ∙ e.0, subst (λ k. Rose k n.read_faults) e.1 c.1)
counted_behind T (Err (Refused line kind)) o m n e c = (c.0 ∙ e.0, c.1 ∙ e.1)
counted_behind T (Err Memory) o m n e c = (c.0 ∙ e.0, c.1 ∙ e.1)

pub counted_as : (T U : Type 0) (w : ModelRefusal) (o n : Outside) → Counted {T = T} (Err w) o n → Counted {T = U} (Err w) o n
counted_as T U (Missing name) o n c = c
counted_as T U (ReadFault name) o n c = c
counted_as T U (Refused line kind) o n c = c
counted_as T U Memory o n c = c

pub last_as : (T U : Type 0) (w : ModelRefusal) (tried : List Bytes) → IsLastTried {T = T} (Err w) tried → IsLastTried {T = U} (Err w) tried
last_as T U (Missing name) tried l = l
last_as T U (ReadFault name) tried l = l
last_as T U (Refused line kind) tried l = tt
last_as T U Memory tried l = tt

-- ---- readings

-- no file, and nothing happened
pub reads_none : {T : Type 0} (x : T) (o : Outside) → ReadsFiles [] (Ok x) o o
reads_none {T} x o =
    record {
      stops = told o.files (λ folder. first_file_stop folder [] ≡ None) (λ folder. refl);
      tried = told o.files (λ folder. o.tried ≡ o.tried ++ names_looked_for folder []) (λ folder. sym (append-nil o.tried));
      last = tt;
      counted = (refl, refl);
      misses = le_refl o.misses;
      faults = le_refl o.read_faults;
      only = nothing_changed o;
    }

-- all these files were read, and then those
pub reads_on : {T U : Type 0} (x : T) (r : Result U ModelRefusal) (fs gs : List InitialFile) (o m n : Outside) → ReadsFiles fs (Ok x) o m → ReadsFiles gs r m n → ReadsFiles (fs ++ gs) r o n
reads_on {T} {U} x r fs gs o m n a b =
    let same : m.files ≡ o.files = a.only.files in
    record {
      stops = on_both o.files a.stops (subst (λ folder. IfSome folder (λ folder. StopsAs r (first_file_stop folder gs))) same b.stops)
          (λ folder s t. subst (StopsAs r) (sym (first_join folder fs gs ∙ ap (λ s. option_or s (first_file_stop folder gs)) s)) t);
      tried = on_all o.files a.stops a.tried (subst (λ folder. IfSome folder (λ folder. Tried r (names_looked_for folder gs) m.tried n.tried)) same b.tried)
          (λ folder s t u. subst (λ looked. Tried r looked o.tried n.tried) (sym (looks_on folder fs gs s)) (tried_behind U r (names_looked_for folder fs) (names_looked_for folder gs) o.tried m.tried n.tried t u));
      last = b.last;
      counted = counted_behind U r o m n a.counted b.counted;
      misses = le_trans a.misses b.misses;
      faults = le_trans a.faults b.faults;
      only = only_both o m n a.only b.only;
    }

-- one of these files stops the reading
pub reads_no_further : {T U : Type 0} (w : ModelRefusal) (fs gs : List InitialFile) (o n : Outside) → ReadsFiles {T = T} fs (Err w) o n → ReadsFiles {T = U} (fs ++ gs) (Err w) o n
reads_no_further {T} {U} w fs gs o n a =
    record {
      stops = on_one o.files a.stops (λ folder s. subst (StopsAs {T = U} (Err w)) (sym (first_join folder fs gs)) (stops_before T U w (first_file_stop folder fs) (first_file_stop folder gs) s));
      tried = on_both o.files a.stops a.tried (λ folder s t. tried_before T U w folder fs gs o.tried n.tried s t);
      last = last_as T U w n.tried a.last;
      counted = counted_as T U w o n a.counted;
      misses = a.misses;
      faults = a.faults;
      only = a.only;
    }

-- the same files, whatever is made of them
pub reads_other : {T U : Type 0} (x : T) (y : U) (fs : List InitialFile) (o n : Outside) → ReadsFiles fs (Ok x) o n → ReadsFiles fs (Ok y) o n
reads_other x y fs o n a =
    record { stops = a.stops; tried = a.tried; last = tt; counted = a.counted; misses = a.misses; faults = a.faults; only = a.only }
