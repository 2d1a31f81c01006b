-- What stops the reading before the limit of links: a line, or one of the phases.
use Rattle.std.proofs.Common.{◌≡◌, ◌≤◌, ◌≢◌, Some, List, length, Err, refl, sym, ap, ◌∙◌}
use Rattle.std.specs.Prelude.{Option}
use Rattle.std.specs.declared.result.Result.{Result}
use Rattle.quantity.specs.Bytes.{Bytes}
use Rattle.source_text.specs.Lines.{Files}
use Rattle.ma_lines.specs.declared.section.LineRefusal.{LineRefusal}
use Rattle.ma_lines.specs.declared.section.LineRefusal.TheVariants as L
use Rattle.ma_lines.specs.Sections.{Section, sections_of}
use Rattle.atomic_face.specs.StockView.{Stocked}
use Rattle.atomic_face.specs.declared.class.Class.{Class}
use Rattle.room_edge.specs.Outside.{Outside}
use Rattle.model_text.specs.declared.kind.Kind.TheVariants.{BadLine, DuplicateSection}
use Rattle.model_text.specs.Drawings.{Drawing}
use Rattle.model_text.specs.Accepted.{first_of, FirstPhaseDecides}
use Rattle.model_text.specs.ModelOf.{after_lines, model_in, model_of}
use Rattle.model_walk.specs.declared.refused.Refused.{Refused}
use Rattle.model_walk.specs.declared.refused.Stop.{Stop}
use Rattle.model_walk.specs.declared.refused.Stop.TheVariants as stop
use Rattle.model_walk.specs.Shown.{refusal_of}
use Rattle.model_read.specs.Stops.{refusal_of_stop}
use Rattle.model_read.specs.Order.{up_to_limit}
use Rattle.model_read.specs.Read.{Reads}
use Rattle.model_read.specs.Whole.{refusal_of_lines}
use Rattle.model_read.proofs.Nothing.{read_nothing}
use Rattle.model_read.proofs.Tells.{refused_at_once}
use Rattle.model_read.proofs.UpToLimit.{stops, of_lines}

-- a phase refuses, or memory ran out
pub phase_stops : FirstPhaseDecides → (classes : List Class) (ss : List Section) (drawing : Option Drawing) (stock : List Stocked) (o : Outside) (s : Stop)
    → ((why : Refused) → s ≡ stop.Refused why → first_of (up_to_limit classes ss) ≡ Some (refusal_of why))
    → Reads (λ folder. model_in ss folder classes drawing) drawing stock (Err (refusal_of_stop s)) o o
phase_stops decides classes ss drawing stock o (stop.Refused why) is =
    refused_at_once (λ folder. model_in ss folder classes drawing) drawing stock o why.line why.kind
    (λ folder. stops decides classes ss (refusal_of why) (is why refl) folder drawing)
phase_stops decides classes ss drawing stock o stop.Memory is = read_nothing (λ folder. model_in ss folder classes drawing) drawing stock o

-- a line is refused, or memory ran out
module _ (bytes : Bytes) (classes : List Class) (drawing : Option Drawing) (stock : List Stocked) (o : Outside) (short : length bytes ≤ 16777216) where
  refused_line : (why : LineRefusal) → sections_of bytes ≡ Err why → (folder : Files) → model_of bytes folder classes drawing ≡ after_lines (Err why) folder classes drawing
  refused_line why is folder = of_lines bytes folder classes drawing short ∙ ap (λ r. after_lines r folder classes drawing) is

  pub line_stops : (why : LineRefusal) → (◌≢◌ {A = Result (List Section) LineRefusal} (Err why) (Err L.Memory) → ◌≡◌ {A = Result (List Section) LineRefusal} (Err why) (sections_of bytes))
      → Reads (λ folder. model_of bytes folder classes drawing) drawing stock (Err (refusal_of_lines why)) o o
  line_stops (L.BadLine line) is =
      refused_at_once (λ folder. model_of bytes folder classes drawing) drawing stock o line BadLine (refused_line (L.BadLine line) (sym (is (λ e. cc))))
  line_stops (L.DuplicateSection line) is =
      refused_at_once (λ folder. model_of bytes folder classes drawing) drawing stock o line DuplicateSection (refused_line (L.DuplicateSection line) (sym (is (λ e. cc))))
  line_stops L.Memory is = read_nothing (λ folder. model_of bytes folder classes drawing) drawing stock o
