-- The phases up to the limit of links, and those behind it.
use Rattle.std.proofs.Common.{◌≡◌, ◌≤◌, Option, Some, None, List, [], ◌∷◌, length, refl, ap, ◌∙◌, cond, true, false, arith, tests}
use Rattle.std.specs.Option.{option_or}
use Rattle.quantity.specs.Bytes.{Bytes}
use Rattle.source_text.specs.Lines.{Files}
use Rattle.ma_lines.specs.Sections.{Section, sections_of}
use Rattle.atomic_face.specs.declared.class.Class.{Class}
use Rattle.model_text.specs.declared.kind.Kind.TheVariants.{TooLong}
use Rattle.model_text.specs.Refusals.{Refusal, refusal}
use Rattle.model_text.specs.InitialFiles.{is_long}
use Rattle.model_text.specs.Drawings.{Drawing}
use Rattle.model_text.specs.Accepted.{first_of, FirstPhaseDecides}
use Rattle.model_text.specs.BuildLaws.{PassedLinks}
use Rattle.model_text.specs.ModelOf.{refuses, unless, routes_refused, with_files, model_in, after_lines, model_of}
use Rattle.model_read.specs.Order.{up_to_limit}
use Rattle.model_read.proofs.First.{none_first, some_first}
use Rattle.model_read.specs.Whole.{behind_limit}

alone : (o : Option Refusal) → option_or o None ≡ o
alone None = refl
alone (Some r) = refl

-- where none of them refuses, the phases behind them decide
pub passes : FirstPhaseDecides → (classes : List Class) (ss : List Section) → PassedLinks classes ss → (files : Files) (drawing : Option Drawing)
    → model_in ss files classes drawing ≡ behind_limit ss drawing files
passes decides classes ss p files drawing =
    decides ss files classes drawing
    ∙ ap (λ o. unless o (λ _. with_files ss files drawing))
    (none_first (up_to_limit classes ss) (routes_refused ss ∷ [])
    (p.top, (p.tree, (p.keys, (p.cells, (p.spaces, (p.stock, (p.rules, (p.links, (p.link_limit, tt)))))))))
    ∙ alone (routes_refused ss))

-- and the first that refuses decides
pub stops : FirstPhaseDecides → (classes : List Class) (ss : List Section) (r : Refusal) → first_of (up_to_limit classes ss) ≡ Some r → (files : Files) (drawing : Option Drawing)
    → model_in ss files classes drawing ≡ refuses r
stops decides classes ss r e files drawing =
    decides ss files classes drawing
    ∙ ap (λ o. unless o (λ _. with_files ss files drawing)) (some_first (up_to_limit classes ss) (routes_refused ss ∷ []) r e)

-- ---- the whole file

not_long : (bytes : Bytes) → length bytes ≤ 16777216 → is_long bytes ≡ false
not_long bytes h = grind (arith, tests)

pub of_lines : (bytes : Bytes) (files : Files) (classes : List Class) (drawing : Option Drawing) → length bytes ≤ 16777216
    → model_of bytes files classes drawing ≡ after_lines (sections_of bytes) files classes drawing
unfolding model_of
of_lines bytes files classes drawing h =
    ap (λ b. unless (cond b (Some (refusal 0 TooLong)) None) (λ _. after_lines (sections_of bytes) files classes drawing)) (not_long bytes h)

pub too_long : (bytes : Bytes) (files : Files) (classes : List Class) (drawing : Option Drawing) → is_long bytes ≡ true
    → model_of bytes files classes drawing ≡ refuses (refusal 0 TooLong)
unfolding model_of
too_long bytes files classes drawing e =
    ap (λ b. unless (cond b (Some (refusal 0 TooLong)) None) (λ _. after_lines (sections_of bytes) files classes drawing)) e
