-- The phases stand in their order, and an accepted model has passed each.
use Rattle.std.proofs.Common.{◌≡◌, Option, None, List, [], ◌∷◌, refl, sym, subst, arith}
use Rattle.std.specs.declared.result.Result.{Result}
use Rattle.std.specs.declared.result.Result.TheVariants.{Ok, Err}
use Rattle.std.specs.List.{AllByRecursion}
use Rattle.quantity.specs.Bytes.{Bytes}
use Rattle.source_text.specs.Lines.{Files}
use Rattle.ma_lines.specs.declared.section.LineRefusal.{LineRefusal}
use Rattle.ma_lines.specs.Sections.{Section, sections_of}
use Rattle.atomic_face.specs.declared.class.Class.{Class}
use Rattle.model_tree.specs.Tree.{Tree}
use Rattle.model_text.specs.Refusals.{Refusal}
use Rattle.model_text.specs.InitialFiles.{initial_files, first_file_stop, FileStop}
use Rattle.model_text.specs.Drawings.{Drawing, drawing_refused}
use Rattle.model_text.specs.Trees.{tree_of_sections}
use Rattle.model_text.specs.ModelOf.{model, ModelRead, unless, with_files, length_refused, after_lines, after_files, model_of}
use Rattle.model_text.specs.Accepted.{phases, first_of, FirstPhaseDecides, Accepted, PassesEachPhase}

-- each phase after the other, and then what follows them
abbrev chain : List (Option Refusal) → (Unit {0} → ModelRead) → ModelRead
chain [] next = next tt
chain (o ∷ os) next = unless o (λ _. chain os next)

decides : (os : List (Option Refusal)) (next : Unit {0} → ModelRead) → chain os next ≡ unless (first_of os) next
decides [] next = refl
decides (o ∷ os) next = grind (arith, decides os next)

pub first_phase_decides : FirstPhaseDecides
first_phase_decides ss files classes drawing = decides (phases classes ss) (λ _. with_files ss files drawing)

-- ---- what is accepted has passed

-- what goes on where nothing is refused
goes_on : (o : Option Refusal) (next : Unit {0} → ModelRead) (t : Tree) → (unless o next).found ≡ model t → (o ≡ None) × ((next tt).found ≡ model t)
goes_on o next t e = grind arith

all_pass : (os : List (Option Refusal)) (next : Unit {0} → ModelRead) (t : Tree) → (chain os next).found ≡ model t → AllByRecursion (λ o. o ≡ None) os × ((next tt).found ≡ model t)
all_pass [] next t e = (tt, e)
all_pass (o ∷ os) next t e = grind (arith, all_pass os next t)

after_initial : (o : Option FileStop) (drawing : Option Drawing) (t u : Tree) → after_files o drawing t ≡ model u → (o ≡ None) × (drawing_refused drawing t ≡ None) × (u ≡ t)
after_initial o drawing t u e = grind arith

accepted : (bytes : Bytes) (files : Files) (classes : List Class) (drawing : Option Drawing) (t : Tree) (r : Result (List Section) LineRefusal) → sections_of bytes ≡ r → (after_lines r files classes drawing).found ≡ model t → Accepted bytes files classes drawing t
accepted bytes files classes drawing t (Err r) lines e = absurd cc
accepted bytes files classes drawing t (Ok ss) lines e =
    let all = all_pass (phases classes ss) (λ _. with_files ss files drawing) t e in
    let last = after_initial (first_file_stop files (initial_files ss)) drawing (tree_of_sections files ss) t all.1 in
    record {
      sections = ss;
      lines = lines;
      passed = assumption all.0;
      initial = last.0;
      drawn = subst (λ u. drawing_refused drawing u ≡ None) (sym last.2) last.1;
      tree = last.2;
    }

pub passes_each_phase : PassesEachPhase
unfolding model_of
passes_each_phase bytes files classes drawing t e =
    accepted bytes files classes drawing t (sections_of bytes) refl (goes_on (length_refused bytes) (λ _. after_lines (sections_of bytes) files classes drawing) t e).1
