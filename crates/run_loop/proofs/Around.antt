-- The files of a run around one of them, and names that differ.
use Rattle.std.proofs.Common.{◌≡◌, Bool, false, Option, Some, None, [], ◌∷◌, ◌++◌, refl, sym, ap, ◌∙◌, subst, append_assoc, arith, rules}
use Rattle.std.specs.Prelude.{Contains, ◌||◌}
use Rattle.std.specs.Str.{bytes_eq}
use Rattle.std.proofs.lemmas.List.{append-nil}
use Rattle.std.proofs.lemmas.List.Elements.{Contains-append_right}
use Rattle.std.proofs.lemmas.List.Folds.{list_any-append}
use Rattle.std.proofs.lemmas.Slice.Eq.{bytes_eq-Decides}
use Rattle.quantity.specs.Bytes.{Bytes}
use Rattle.model_tree.specs.Tree.{Word}
use Rattle.answer_model.specs.Answer.{MadeFiles}
use Rattle.answer_model.specs.RunFiles.{file_if}
use Rattle.answer_model.specs.Steps.{is_made}
use Rattle.run_loop.specs.declared.outputs.Output.{Output}
use Rattle.run_loop.specs.declared.outputs.Output.TheVariants.{Log, Out, Frames, State}
use Rattle.run_loop.specs.Texts.{FileNames, Texts, no_texts, files, name_at, text_at, made_before, Differ, AreApart}

-- ---- the files before one of them and behind it

abbrev pub files_before : FileNames → Texts → Output → MadeFiles
files_before n t Log = []
files_before n t Out = file_if n.log t.log
files_before n t Frames = file_if n.log t.log ++ file_if n.out t.out
files_before n t State = file_if n.log t.log ++ file_if n.out t.out ++ file_if n.frames t.frames

abbrev pub files_behind : FileNames → Texts → Output → MadeFiles
files_behind n t Log = file_if n.out t.out ++ (file_if n.frames t.frames ++ file_if n.state t.state)
files_behind n t Out = file_if n.frames t.frames ++ file_if n.state t.state
files_behind n t Frames = file_if n.state t.state
files_behind n t State = []

-- all files, each before those behind it
pub in_turn : (n : FileNames) (t : Texts) → files n t ≡ file_if n.log t.log ++ (file_if n.out t.out ++ (file_if n.frames t.frames ++ file_if n.state t.state))
in_turn n t = append_assoc (file_if n.log t.log ++ file_if n.out t.out) (file_if n.frames t.frames) (file_if n.state t.state) ∙ append_assoc (file_if n.log t.log) (file_if n.out t.out) (file_if n.frames t.frames ++ file_if n.state t.state)

-- around one of them
pub around : (n : FileNames) (t : Texts) (file : Output) → files n t ≡ files_before n t file ++ (file_if (name_at n file) (text_at t file) ++ files_behind n t file)
around n t Log = in_turn n t
around n t Out = in_turn n t
around n t Frames = append_assoc (file_if n.log t.log ++ file_if n.out t.out) (file_if n.frames t.frames) (file_if n.state t.state)
around n t State = ap (λ (fs : MadeFiles). file_if n.log t.log ++ file_if n.out t.out ++ file_if n.frames t.frames ++ fs) (sym (append-nil (file_if n.state t.state)))

-- one that is asked for
pub files_at : (n : FileNames) (t : Texts) (file : Output) (name : Word) → name_at n file ≡ Some name → files n t ≡ files_before n t file ++ (name, text_at t file) ∷ files_behind n t file
files_at n t file name is = around n t file ∙ ap (λ (o : Option Word). files_before n t file ++ (file_if o (text_at t file) ++ files_behind n t file)) is

-- one that isn't
pub files_without : (n : FileNames) (t : Texts) (file : Output) → name_at n file ≡ None → files n t ≡ files_before n t file ++ files_behind n t file
files_without n t file is = around n t file ∙ ap (λ (o : Option Word). files_before n t file ++ (file_if o (text_at t file) ++ files_behind n t file)) is

-- the file is among those that are made
pub has_file : (n : FileNames) (t : Texts) (file : Output) (name : Word) → name_at n file ≡ Some name → Contains {X = Word × Bytes} (files n t) (name, text_at t file)
has_file n t file name is =
    subst (λ (fs : MadeFiles). Contains {X = Word × Bytes} fs (name, text_at t file)) (sym (files_at n t file name is))
    (Contains-append_right (files_before n t file) ((name, text_at t file) ∷ files_behind n t file) (name, text_at t file) (0, omega arith, refl))

-- those that are made before it are those before it, all empty
pub before_is : (n : FileNames) (file : Output) → made_before n file ≡ files_before n no_texts file
before_is n Log = refl
before_is n Out = refl
before_is n Frames = refl
before_is n State = refl

-- ---- names that differ

differs_back : (a b : Word) → bytes_eq a b ≡ false → bytes_eq b a ≡ false
differs_back a b e = search (rules, bytes_eq-Decides)

-- the name of the second is not that of the first
not_first : (name : Word) (o p : Option Word) (bytes : Bytes) → p ≡ Some name → Differ o p → is_made name (file_if o bytes) ≡ false
not_first name None p bytes is d = refl
not_first name (Some other) p bytes is d = ap (λ b. b || false) (subst (λ (q : Option Word). Differ (Some other) q) is d)

-- nor the name of the first that of the second
not_second : (name : Word) (o p : Option Word) (bytes : Bytes) → o ≡ Some name → Differ o p → is_made name (file_if p bytes) ≡ false
not_second name o None bytes is d = refl
not_second name o (Some other) bytes is d = ap (λ b. b || false) (differs_back name other (subst (λ (q : Option Word). Differ q (Some other)) is d))

not_both : (name : Word) (fs gs : MadeFiles) → is_made name fs ≡ false → is_made name gs ≡ false → is_made name (fs ++ gs) ≡ false
not_both name fs gs a b = list_any-append (λ (f : Word × Bytes). bytes_eq f.0 name) fs gs ∙ both_off (is_made name fs) (is_made name gs) a b
  where
    both_off : (p q : Bool) → p ≡ false → q ≡ false → (p || q) ≡ false
    both_off p q a b = rw (a, b) refl

-- no file before this one has its name
pub not_before : (n : FileNames) (t : Texts) (file : Output) (name : Word) → AreApart n → name_at n file ≡ Some name → is_made name (files_before n t file) ≡ false
not_before n t Log name apart is = refl
not_before n t Out name apart is = not_first name n.log n.out t.log is apart.log_out
not_before n t Frames name apart is =
    not_both name (file_if n.log t.log) (file_if n.out t.out) (not_first name n.log n.frames t.log is apart.log_frames) (not_first name n.out n.frames t.out is apart.out_frames)
not_before n t State name apart is =
    not_both name (file_if n.log t.log ++ file_if n.out t.out) (file_if n.frames t.frames)
    (not_both name (file_if n.log t.log) (file_if n.out t.out) (not_first name n.log n.state t.log is apart.log_state) (not_first name n.out n.state t.out is apart.out_state))
    (not_first name n.frames n.state t.frames is apart.frames_state)

-- and none behind it
pub not_behind : (n : FileNames) (t : Texts) (file : Output) (name : Word) → AreApart n → name_at n file ≡ Some name → is_made name (files_behind n t file) ≡ false
not_behind n t Log name apart is =
    not_both name (file_if n.out t.out) (file_if n.frames t.frames ++ file_if n.state t.state) (not_second name n.log n.out t.out is apart.log_out)
    (not_both name (file_if n.frames t.frames) (file_if n.state t.state) (not_second name n.log n.frames t.frames is apart.log_frames) (not_second name n.log n.state t.state is apart.log_state))
not_behind n t Out name apart is =
    not_both name (file_if n.frames t.frames) (file_if n.state t.state) (not_second name n.out n.frames t.frames is apart.out_frames) (not_second name n.out n.state t.state is apart.out_state)
not_behind n t Frames name apart is = not_second name n.frames n.state t.state is apart.frames_state
not_behind n t State name apart is = refl
