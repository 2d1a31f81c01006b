-- The reading of a model file by its name: the file first, and then its bytes.
use Rattle.std.proofs.Common.{◌≡◌, ℕ, Bool, true, false, cond, Option, Some, None, List, [], ◌∷◌, ◌++◌, Ok, Err, IfSome, refl, sym, ap, ◌∙◌, subst, le_trans, arith}
use Rattle.std.specs.declared.result.Result.{Result}
use Rattle.std.specs.Option.{option_or}
use Rattle.std.proofs.lemmas.List.{append_assoc}
use Rattle.quantity.specs.Bytes.{Bytes}
use Rattle.source_text.specs.Lines.{Files}
use Rattle.atomic_face.specs.StockView.{Stocked}
use Rattle.atomic_face.specs.declared.class.Class.{Class}
use Rattle.room_edge.specs.Outside.{Outside}
use Rattle.model_leaves.specs.declared.table.Model.{Model}
use Rattle.route_flat.specs.declared.routes.Routes.{Routes}
use Rattle.model_text.specs.declared.kind.Kind.TheVariants.{TooLong}
use Rattle.model_text.specs.Refusals.{Refusal, refusal}
use Rattle.model_text.specs.Drawings.{Drawing}
use Rattle.model_text.specs.InitialFiles.{FileStop, absent, off, is_long, content_stops, names_looked_for}
use Rattle.model_text.specs.ModelOf.{ModelOf, missing, refused, ModelRead, model_of}
use Rattle.model_read.specs.declared.refusal.ModelRefusal.{ModelRefusal}
use Rattle.model_read.specs.declared.refusal.ModelRefusal.TheVariants.{Missing, ReadFault, Refused, Memory}
use Rattle.model_read.specs.Reading.{Tried, StopsAs, ReadsFiles}
use Rattle.model_read.specs.WholeFile.{any_file}
use Rattle.model_read.proofs.Looking.{looks_for_one}
use Rattle.model_read.proofs.Readings.{only_both, tried_behind, counted_behind, counted_as, last_as}
use Rattle.model_read.specs.declared.found.ReadModel.{ReadModel}
use Rattle.model_read.specs.Read.{ModelGives, Reads}
use Rattle.model_read.specs.Whole.{found_in, looked_in, of_name}
use Rattle.model_read.proofs.UpToLimit.{too_long}

abbrev Answer : Type 0
Answer = Result (ReadModel) ModelRefusal

on_one : {P Q : Files → Type 0} (o : Option Files) → IfSome o P → ((folder : Files) → P folder → Q folder) → IfSome o Q
on_one None p go = tt
on_one (Some folder) p go = go folder p

on_both : {P Q R : Files → Type 0} (o : Option Files) → IfSome o P → IfSome o Q → ((folder : Files) → P folder → Q folder → R folder) → IfSome o R
on_both None p q go = tt
on_both (Some folder) p q go = go folder p q

-- ---- stops apart

abbrev stop_number : Option FileStop → ℕ
stop_number None = 0
stop_number (Some (absent name)) = 1
stop_number (Some (off r)) = 2

abbrev missing_of : Bytes → Option FileStop → ModelOf
missing_of d None = missing d
missing_of d (Some (absent name)) = missing name
missing_of d (Some (off r)) = missing d

abbrev refused_of : Refusal → Option FileStop → ModelOf
refused_of d None = refused d
refused_of d (Some (absent name)) = refused d
refused_of d (Some (off r)) = refused r

abbrev stop_of : Bytes → Option Bytes → Option FileStop
stop_of name o = option_or (content_stops (any_file 0 name) o) None

abbrev long_stop : Bool → Option FileStop
long_stop b = option_or (cond b (Some (off (refusal 0 TooLong))) None) None

module _ (name : Bytes) (folder : Files) (classes : List Class) (drawing : Option Drawing) (stock : List Stocked) where
  found_missing : (n : Bytes) (o : Option Bytes) → stop_of name o ≡ Some (absent n) → (found_in o name folder classes drawing ≡ missing n) × (looked_in o folder classes drawing ≡ [])
  found_missing n None s = (ap (missing_of name) s, refl)
  found_missing n (Some bytes) s = go (is_long bytes) s
    where
      go : (b : Bool) → long_stop b ≡ Some (absent n) → (found_in (Some bytes) name folder classes drawing ≡ missing n) × (looked_in (Some bytes) folder classes drawing ≡ [])
      go true f = let bad : ⊥ = omega (arith, ap stop_number f) in absurd bad
      go false f = let bad : ⊥ = omega (arith, ap stop_number f) in absurd bad

  found_refused : (r : Refusal) (o : Option Bytes) → stop_of name o ≡ Some (off r) → (found_in o name folder classes drawing ≡ refused r) × (looked_in o folder classes drawing ≡ [])
  found_refused r None s = let bad : ⊥ = omega (arith, ap stop_number s) in absurd bad
  found_refused r (Some bytes) s = go (is_long bytes) refl s
    where
      go : (b : Bool) → is_long bytes ≡ b → long_stop b ≡ Some (off r) → (found_in (Some bytes) name folder classes drawing ≡ refused r) × (looked_in (Some bytes) folder classes drawing ≡ [])
      go true e f =
          let is = too_long bytes folder classes drawing e in
          (ap (λ (x : ModelRead). x.found) is ∙ ap (refused_of (refusal 0 TooLong)) f, ap (λ (x : ModelRead). x.looked) is)
      go false e f = let bad : ⊥ = omega (arith, ap stop_number f) in absurd bad

  found_as : (T : Type 0) (w : ModelRefusal) → StopsAs {T = T} (Err w) (stop_of name (folder name)) → ModelGives (found_in (folder name) name folder classes drawing) stock (Err w)
  found_as T (Missing n) s = (found_missing n (folder name) s).0
  found_as T (Refused line kind) s = (found_refused (refusal line kind) (folder name) s).0
  found_as T (ReadFault n) s = tt
  found_as T Memory s = tt

  tried_as : (T : Type 0) (w : ModelRefusal) (old new : List Bytes) → StopsAs {T = T} (Err w) (stop_of name (folder name)) → Tried {T = T} (Err w) (names_looked_for folder (any_file 0 name ∷ [])) old new
      → Tried {T = ReadModel} (Err w) (name ∷ looked_in (folder name) folder classes drawing) old new
  tried_as T (Missing n) old new s t = t ∙ ap (λ ns. old ++ ns) (looks_for_one folder (any_file 0 name) ∙ ap (λ ns. name ∷ ns) (sym (found_missing n (folder name) s).1))
  tried_as T (Refused line kind) old new s t = t ∙ ap (λ ns. old ++ ns) (looks_for_one folder (any_file 0 name) ∙ ap (λ ns. name ∷ ns) (sym (found_refused (refusal line kind) (folder name) s).1))
  tried_as T (ReadFault n) old new s t = (
    t.0,
    (
      t.1.0 ++ looked_in (folder name) folder classes drawing,
      ap (λ ns. ns ++ looked_in (folder name) folder classes drawing) (sym (looks_for_one folder (any_file 0 name)) ∙ t.1.1) ∙ append_assoc (t.0 ++ n ∷ []) t.1.0 (looked_in (folder name) folder classes drawing),
    ),
    t.2,
  )
  tried_as T Memory old new s t = (
    t.0,
    (
      t.1.0 ++ looked_in (folder name) folder classes drawing,
      ap (λ ns. ns ++ looked_in (folder name) folder classes drawing) (sym (looks_for_one folder (any_file 0 name)) ∙ t.1.1) ∙ append_assoc t.0 t.1.0 (looked_in (folder name) folder classes drawing),
    ),
    t.2,
  )

-- the file could not be read
pub named_stop : (T : Type 0) (name : Bytes) (classes : List Class) (drawing : Option Drawing) (stock : List Stocked) (w : ModelRefusal) (o n : Outside)
    → ReadsFiles {T = T} (any_file 0 name ∷ []) (Err w) o n → Reads (of_name name classes drawing) drawing stock (Err w) o n
named_stop T name classes drawing stock w o n a =
    record {
      found = on_one o.files a.stops (λ folder s. found_as name folder classes drawing stock T w s);
      tried = on_both o.files a.stops a.tried (λ folder s t. tried_as name folder classes drawing stock T w o.tried n.tried s t);
      ready = tt;
      drawn = tt;
      group = tt;
      last = last_as T (ReadModel) w n.tried a.last;
      counted = counted_as T (ReadModel) w o n a.counted;
      misses = a.misses;
      faults = a.faults;
      only = a.only;
    }

-- it was read, and then its bytes
pub named_bytes : (T : Type 0) (x : T) (name : Bytes) (classes : List Class) (drawing : Option Drawing) (stock : List Stocked) (bytes : Bytes) (r : Answer) (o m n : Outside)
    → ReadsFiles (any_file 0 name ∷ []) (Ok x) o m → IfSome o.files (λ folder. folder name ≡ Some bytes)
    → Reads (λ folder. model_of bytes folder classes drawing) drawing stock r m n → Reads (of_name name classes drawing) drawing stock r o n
named_bytes T x name classes drawing stock bytes r o m n a there b =
    let same = a.only.files in
    record {
      found = on_both o.files there (subst (λ f. IfSome f (λ folder. ModelGives (model_of bytes folder classes drawing).found stock r)) same b.found)
          (λ folder e g. subst (λ y. ModelGives (found_in y name folder classes drawing) stock r) (sym e) g);
      tried = all_told o.files there a.tried (subst (λ f. IfSome f (λ folder. Tried r (model_of bytes folder classes drawing).looked m.tried n.tried)) same b.tried)
          (λ folder e t u. subst (λ y. Tried r (name ∷ looked_in y folder classes drawing) o.tried n.tried) (sym e)
          (tried_behind (ReadModel) r (name ∷ []) (model_of bytes folder classes drawing).looked o.tried m.tried n.tried (t ∙ ap (λ ns. o.tried ++ ns) (looks_for_one folder (any_file 0 name))) u));
      ready = b.ready;
      drawn = b.drawn;
      group = b.group;
      last = b.last;
      counted = counted_behind (ReadModel) r o m n a.counted b.counted;
      misses = le_trans a.misses b.misses;
      faults = le_trans a.faults b.faults;
      only = only_both o m n a.only b.only;
    }
  where
    all_told : {P Q R S : Files → Type 0} (o : Option Files) → IfSome o P → IfSome o Q → IfSome o R → ((folder : Files) → P folder → Q folder → R folder → S folder) → IfSome o S
    all_told None p q r go = tt
    all_told (Some folder) p q r go = go folder p q r
