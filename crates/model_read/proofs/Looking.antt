-- The first file that stops, and the names looked for, over files one behind the other.
use Rattle.std.proofs.Common.{◌≡◌, ℕ, Bool, true, false, cond, Option, Some, None, List, [], ◌∷◌, ◌++◌, refl, sym, ap, ◌∙◌}
use Rattle.std.specs.Option.{option_or, is_some}
use Rattle.std.proofs.lemmas.List.{append-nil, append_assoc}
use Rattle.std.proofs.lemmas.Option.{none-some}
use Rattle.quantity.specs.Bytes.{Bytes}
use Rattle.source_text.specs.Lines.{Files}
use Rattle.model_text.specs.InitialFiles.{InitialFile, FileStop, file_stops, first_file_stop, names_looked_for}

or_assoc : (a b c : Option FileStop) → option_or (option_or a b) c ≡ option_or a (option_or b c)
or_assoc None b c = refl
or_assoc (Some x) b c = refl

pub first_join : (folder : Files) (fs gs : List InitialFile) → first_file_stop folder (fs ++ gs) ≡ option_or (first_file_stop folder fs) (first_file_stop folder gs)
first_join folder [] gs = refl
first_join folder (f ∷ fs) gs =
    ap (option_or (file_stops folder f)) (first_join folder fs gs) ∙ sym (or_assoc (file_stops folder f) (first_file_stop folder fs) (first_file_stop folder gs))

-- all of the first, and then the others
pub looks_on : (folder : Files) (fs gs : List InitialFile) → first_file_stop folder fs ≡ None → names_looked_for folder (fs ++ gs) ≡ names_looked_for folder fs ++ names_looked_for folder gs
looks_on folder [] gs e = refl
looks_on folder (f ∷ fs) gs e = go (file_stops folder f) e (looks_on folder fs gs)
  where
    go : (o : Option FileStop) → option_or o (first_file_stop folder fs) ≡ None
        → (first_file_stop folder fs ≡ None → names_looked_for folder (fs ++ gs) ≡ names_looked_for folder fs ++ names_looked_for folder gs)
        → f.name ∷ cond (is_some o) [] (names_looked_for folder (fs ++ gs)) ≡ f.name ∷ (cond (is_some o) [] (names_looked_for folder fs) ++ names_looked_for folder gs)
    go None e later = ap (λ ns. f.name ∷ ns) (later e)
    go (Some x) e later = absurd (none-some x (sym e))

-- those of the first, where one of these stops
pub looks_no_further : (folder : Files) (fs gs : List InitialFile) (s : FileStop) → first_file_stop folder fs ≡ Some s → names_looked_for folder (fs ++ gs) ≡ names_looked_for folder fs
looks_no_further folder [] gs s e = absurd (none-some s e)
looks_no_further folder (f ∷ fs) gs s e = go (file_stops folder f) e (looks_no_further folder fs gs s)
  where
    go : (o : Option FileStop) → option_or o (first_file_stop folder fs) ≡ Some s
        → (first_file_stop folder fs ≡ Some s → names_looked_for folder (fs ++ gs) ≡ names_looked_for folder fs)
        → f.name ∷ cond (is_some o) [] (names_looked_for folder (fs ++ gs)) ≡ f.name ∷ cond (is_some o) [] (names_looked_for folder fs)
    go None e later = ap (λ ns. f.name ∷ ns) (later e)
    go (Some x) e later = refl

-- those of the first come first
pub looks_first : (folder : Files) (fs gs : List InitialFile) → (more : List Bytes) × (names_looked_for folder (fs ++ gs) ≡ names_looked_for folder fs ++ more)
looks_first folder fs gs = go (first_file_stop folder fs) refl
  where
    go : (o : Option FileStop) → first_file_stop folder fs ≡ o → (more : List Bytes) × (names_looked_for folder (fs ++ gs) ≡ names_looked_for folder fs ++ more)
    go None e = (names_looked_for folder gs, looks_on folder fs gs e)
    go (Some s) e = ([], looks_no_further folder fs gs s e ∙ sym (append-nil (names_looked_for folder fs)))

-- of one file just its name
pub looks_for_one : (folder : Files) (f : InitialFile) → names_looked_for folder (f ∷ []) ≡ f.name ∷ []
looks_for_one folder f = go (is_some (file_stops folder f))
  where
    go : (b : Bool) → f.name ∷ cond b [] [] ≡ f.name ∷ []
    go true = refl
    go false = refl
