-- The frames of a run can be shown, where what is to be drawn is accepted.
use Rattle.std.proofs.Common.{◌≡◌, ℕ, ◌≤◌, true, Option, Some, None, refl}
use Rattle.std.specs.Prelude.{IfSome}
use Rattle.std.specs.Option.{option_map}
use Rattle.model_tree.specs.Tree.{Group, Tree, leaves}
use Rattle.model_tree.specs.Sound.{is_sound_model}
use Rattle.model_text.specs.Drawings.{drawing_refused}
use Rattle.answer_model.specs.Asked as A
use Rattle.answer_model.specs.Started.{drawing_of}
use Rattle.asked_words.specs.declared.asked.FramesFile as code
use Rattle.answer_model.specs.RunFiles.{group_at}
use Rattle.asked_words.specs.Shown.{frames_file_of, CanBeShown}
use Rattle.run_loop.specs.Groups.{CanDrawOf, CanShow}
use Rattle.asked_run.proofs.Groups.{plane_inside, group_there}

-- ---- what can be shown

-- the bounds of what is asked for, without where it lies
pub record Bounded (f : A.FramesFile) : Type 0 where
  pub some : 1 ≤ f.width
  pub narrow : f.width ≤ 20
  pub short : f.decimals ≤ 5

pub bounded : (o : Option code.FramesFile) → IfSome o CanBeShown → IfSome (option_map frames_file_of o) Bounded
bounded None h = tt
bounded (Some f) h = record { some = h.some; narrow = h.narrow; short = h.short }

-- frames with these bounds, whose group has the plane
pub can_show : (t : Tree) (frames : Option A.FramesFile) → is_sound_model t ≡ true → IfSome frames Bounded → drawing_refused (drawing_of frames) t ≡ None → CanShow t frames
can_show t None sound bounds drawn = tt
can_show t (Some f) sound bounds drawn = by (group_at f.drawing.group (leaves t)) refl
  where
    by : (g : Option (ℕ × Group)) → group_at f.drawing.group (leaves t) ≡ g → CanDrawOf f g
    by None none = absurd (group_there t f.drawing sound drawn none)
    by (Some p) there = record { plane_inside = plane_inside t f.drawing p sound drawn there; some_width = bounds.some; narrow = bounds.narrow; short = bounds.short }
