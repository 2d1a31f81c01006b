-- What is answered, by what is drawn.
use Rattle.std.specs.Prelude.{◌≡◌, ℕ, ◌++◌, Result, Ok, Err, Vec, ⊤}
use Rattle.std.specs.declared.alloc.Global.{Global}
use Rattle.quantity.specs.Bytes.{Bytes}
use Rattle.frame_draw.specs.Drawing.{frame_of}
use Rattle.drawlog_top.specs.SoFar.{SoFar}
use Rattle.drawlog_top.specs.declared.refusal.DrawRefusal.{DrawRefusal}
use Rattle.drawlog_top.specs.declared.refusal.DrawRefusal.TheVariants.{LogRefused, Memory}

-- the frames that are drawn, or just the line that is refused; for want of memory neither
abbrev pub IsDrawn : Result Bytes ℕ → Result (Vec ℕ Global) DrawRefusal → Type 0
IsDrawn drawing (Ok text) = drawing ≡ Ok text.items
IsDrawn drawing (Err (LogRefused line)) = drawing ≡ Err line
IsDrawn drawing (Err Memory) = ⊤

-- all is read, and the frame of the last instant is what is left to draw; or the line that is
-- refused
abbrev pub IsReadTo : {T : Type 0} → Result Bytes ℕ → SoFar → Result T DrawRefusal → Type 0
IsReadTo drawing d (Ok _) = drawing ≡ Ok (d.text ++ frame_of d.drawing)
IsReadTo drawing d (Err (LogRefused line)) = drawing ≡ Err line
IsReadTo drawing d (Err Memory) = ⊤
