-- The files and values of one group, and of groups one after another.
use Rattle.std.proofs.Common.{◌≡◌, ℕ, zero, suc, ◌<◌, ◌+◌, Option, Some, None, List, [], ◌∷◌, ◌++◌, map, length, take, drop, get_or, refl, sym, ap, ◌∙◌, subst, arith, IfSome}
use Rattle.std.specs.Prelude.{codes}
use Rattle.std.specs.List.{flat_map, AllByRecursion}
use Rattle.std.specs.Option.{option_and_then, is_some}
use Rattle.std.proofs.lemmas.List.{map-append, take_more, append-nil, append_assoc}
use Rattle.quantity.specs.Bytes.{Bytes}
use Rattle.quantity.specs.declared.value.Value.{Value}
use Rattle.source_text.specs.Lines.{Files}
use Rattle.ma_lines.specs.Laws.{IsPlainSection}
use Rattle.ma_lines.specs.Sections.{Section}
use Rattle.ma_lines.specs.InCode.{section_of}
use Rattle.cell_grid.specs.Space.{Space, cell_count}
use Rattle.cell_grid.specs.Initial.{map_file, cells_file, with_map, with_cells}
use Rattle.model_text.specs.InitialFiles.{InitialFile, files_of_group}
use Rattle.model_text.specs.Keyed.{value_of}
use Rattle.model_text.specs.Spaces.{space_of}
use Rattle.model_text.specs.Trees.{initial_of, no_files}
use Rattle.model_walk.specs.Placed.{values_before_files}
use Rattle.model_read.specs.declared.group_space.GroupSpace.{GroupSpace}
use Rattle.model_read.specs.Spaces.{kept_space, said_space, sections_in}
use Rattle.model_read.specs.Laid.{named_files, IsRight, Adds}
use Rattle.model_read.proofs.Readings.{on_both}

-- ---- one group

abbrev pub map_files : Space → Section → List InitialFile
map_files g s = named_files (codes "initialmapvalue") (λ bytes. is_some (map_file g bytes)) s

abbrev pub cells_files : Space → Section → List InitialFile
cells_files g s = named_files (codes "initialcellsvalue") (λ bytes. is_some (cells_file g bytes)) s

pub files_of : (g : Space) (s : Section) → g ≡ space_of s → map_files g s ++ cells_files g s ≡ files_of_group s
files_of g s e = ap (λ h. map_files h s ++ cells_files h s) e

nothing_there : (o : Option Bytes) → option_and_then no_files o ≡ None
nothing_there None = refl
nothing_there (Some name) = refl

-- where there are no files, the values are those before them
pub without_files : (s : Section) → initial_of no_files s ≡ values_before_files s
without_files s =
    ap (λ o. with_cells (with_map (values_before_files s) (option_and_then (map_file (space_of s)) (option_and_then no_files (value_of (codes "initialmapvalue") s)))) (option_and_then (cells_file (space_of s)) o))
    (nothing_there (value_of (codes "initialcellsvalue") s))
    ∙ ap (λ o. with_map (values_before_files s) (option_and_then (map_file (space_of s)) o)) (nothing_there (value_of (codes "initialmapvalue") s))

-- ---- groups one after another

pub section_more : (gs : List GroupSpace) (i : ℕ) (d : GroupSpace) → i < length gs → sections_in (take (i + 1) gs) ≡ sections_in (take i gs) ++ section_of (get_or gs i d).section.now ∷ []
section_more gs i d h =
    ap sections_in (take_more gs i d h) ∙ map-append (λ (g : GroupSpace). section_of g.section.now) (take i gs) (get_or gs i d ∷ [])

pub section_next : (gs : List GroupSpace) (i : ℕ) (d : GroupSpace) → i < length gs → sections_in (drop i gs) ≡ section_of (get_or gs i d).section.now ∷ sections_in (drop (i + 1) gs)
section_next [] i d h = let bad : ⊥ = omega (arith, h) in absurd bad
section_next (g ∷ gs) zero d h = refl
section_next (g ∷ gs) (suc i) d h =
    let same : suc i + 1 ≡ suc (i + 1) = omega arith in
    section_next gs i d (omega (arith, h)) ∙ ap (λ n. section_of (get_or gs i d).section.now ∷ sections_in (drop n (g ∷ gs))) (sym same)

pub files_more : (ss : List Section) (s : Section) → flat_map files_of_group (ss ++ s ∷ []) ≡ flat_map files_of_group ss ++ files_of_group s
files_more [] s = append-nil (files_of_group s)
files_more (x ∷ ss) s = ap (λ fs. files_of_group x ++ fs) (files_more ss s) ∙ sym (append_assoc (files_of_group x) (flat_map files_of_group ss) (files_of_group s))

pub sizes_more : (folder : Option Files) (s : Section) (ss : List Section) (old new : List (List Value)) → map (λ v. length v) old ≡ map (λ s. cell_count (space_of s)) ss → Adds folder s old new
    → map (λ v. length v) new ≡ map (λ s. cell_count (space_of s)) (ss ++ s ∷ [])
sizes_more folder s ss old new e a =
    ap (map (λ v. length v)) a.added ∙ map-append (λ v. length v) old (a.values ∷ [])
    ∙ ap (λ ns. ns ++ length a.values ∷ []) e ∙ ap (λ n. map (λ s. cell_count (space_of s)) ss ++ n ∷ []) a.cells
    ∙ sym (map-append (λ s. cell_count (space_of s)) ss (s ∷ []))

pub values_more : (folder : Option Files) (s : Section) (ss : List Section) (old new : List (List Value)) → IfSome folder (λ files. old ≡ map (initial_of files) ss) → Adds folder s old new
    → IfSome folder (λ files. new ≡ map (initial_of files) (ss ++ s ∷ []))
values_more folder s ss old new e a =
    on_both folder e a.right (λ files old_is is.
    a.added ∙ ap (λ vs. vs ++ a.values ∷ []) old_is ∙ ap (λ v. map (initial_of files) ss ++ v ∷ []) is ∙ sym (map-append (initial_of files) ss (s ∷ [])))

-- the files of all groups, with those of one of them between
pub files_split : (gs : List GroupSpace) (i : ℕ) (d : GroupSpace) → i < length gs
    → flat_map files_of_group (sections_in gs) ≡ (flat_map files_of_group (sections_in (take i gs)) ++ files_of_group (section_of (get_or gs i d).section.now)) ++ flat_map files_of_group (sections_in (drop (i + 1) gs))
files_split [] i d h = let bad : ⊥ = omega (arith, h) in absurd bad
files_split (g ∷ gs) zero d h = refl
files_split (g ∷ gs) (suc i) d h =
    let F = flat_map files_of_group in
    let one = files_of_group (section_of g.section.now) in
    let a = F (sections_in (take i gs)) in
    let b = files_of_group (section_of (get_or gs i d).section.now) in
    let c = F (sections_in (drop (i + 1) gs)) in
    let same : suc i + 1 ≡ suc (i + 1) = omega arith in
    ap (λ fs. one ++ fs) (files_split gs i d (omega (arith, h)))
    ∙ sym (append_assoc one (a ++ b) c) ∙ ap (λ fs. fs ++ c) (sym (append_assoc one a b))
    ∙ ap (λ n. ((one ++ a) ++ b) ++ F (sections_in (drop n (g ∷ gs)))) (sym same)

-- ---- groups with their spaces

abbrev head_or : {A : Type 0} → A → List A → A
head_or d [] = d
head_or d (x ∷ xs) = x

abbrev tail_of : {A : Type 0} → List A → List A
tail_of [] = []
tail_of (x ∷ xs) = xs

-- each of them
pub right_at : (gs : List GroupSpace) (i : ℕ) (d : GroupSpace) → i < length gs → AllByRecursion IsRight gs → IsRight (get_or gs i d)
right_at [] i d h all = let bad : ⊥ = omega (arith, h) in absurd bad
right_at (g ∷ gs) zero d h all = all.0
right_at (g ∷ gs) (suc i) d h all = right_at gs i d (omega (arith, h)) all.1

pub sections_are : (gs : List GroupSpace) (ss : List Section) → map kept_space gs ≡ map said_space ss → sections_in gs ≡ ss
sections_are gs ss e = sym (firsts gs) ∙ ap (map (λ (p : Section × Space). p.0)) e ∙ said_firsts ss
  where
    firsts : (gs : List GroupSpace) → map (λ (p : Section × Space). p.0) (map kept_space gs) ≡ sections_in gs
    firsts [] = refl
    firsts (g ∷ gs) = ap (λ ss. section_of g.section.now ∷ ss) (firsts gs)

    said_firsts : (ss : List Section) → map (λ (p : Section × Space). p.0) (map said_space ss) ≡ ss
    said_firsts [] = refl
    said_firsts (s ∷ ss) = ap (λ xs. s ∷ xs) (said_firsts ss)

pub groups_are_right : (gs : List GroupSpace) → map kept_space gs ≡ map said_space (sections_in gs) → AllByRecursion IsPlainSection (sections_in gs) → AllByRecursion IsRight gs
groups_are_right [] e plain = tt
groups_are_right (g ∷ gs) e plain =
    (record { plain = plain.0; space = ap (λ xs. (head_or (kept_space g) xs).1) e }, groups_are_right gs (ap tail_of e) plain.1)
