-- The runs of accepted models: their values are bounded, their leaves and ports have names, and
-- what their logs say is drawn.
use Rattle.std.specs.Prelude.{◌≡◌, ℕ, ◌<◌, true, Option, Some, None, List, [], ◌∷◌, length}
use Rattle.std.specs.List.{All}
use Rattle.std.specs.declared.result.Result.TheVariants.{Ok}
use Rattle.quantity.specs.Bytes.{Bytes}
use Rattle.source_text.specs.Lines.{Files}
use Rattle.cell_grid.specs.Space.{plane_count}
use Rattle.atomic_face.specs.declared.class.Class.{Class}
use Rattle.event_list.specs.Events.{Event, events_of}
use Rattle.model_tree.specs.Tree.{Word, Group, Tree, leaves, ins_of}
use Rattle.quantity.specs.TimeBounds.{IsDelay}
use Rattle.run_model.specs.Bounds.{IsBoundedEvent, HasBoundedValues}
use Rattle.model_text.specs.Drawings.{Drawing}
use Rattle.model_text.specs.ModelOf.{model, model_of}
use Rattle.text_forms.specs.declared.letter.Letter.TheVariants.{Y}
use Rattle.text_forms.specs.Letters.{has_letter}
use Rattle.text_forms.specs.Lines.{log_bytes}
use Rattle.text_forms.specs.LeafNames.{IsNamed}
use Rattle.text_forms.specs.Frames.{Picture, frames_of, frames_of_log}
use Rattle.answer_model.specs.RunFiles.{group_at, emitted_before, frames_file}
use Rattle.answer_model.specs.Asked.{FramesFile}
use Rattle.answer_model.specs.Cdpp.{run_on}
use Rattle.text_forms.specs.DrawnLines.{NamesCells}

-- each value that a model file says, and each delay
abbrev pub ModelsAreBounded : Type 0
ModelsAreBounded =
    (bytes : Bytes) (files : Files) (classes : List Class) (drawing : Option Drawing) (t : Tree)
    → (model_of bytes files classes drawing).found ≡ model t → HasBoundedValues t

-- an event's time is that of an end at most
abbrev pub IsEarly : Event → Type 0
IsEarly e = IsDelay e.time

-- an accepted event file has bounded values, and no event later than a run may end
abbrev pub EventsAreBounded : Type 0
EventsAreBounded =
    (bytes : Bytes) (ports : List Bytes) (events : List Event) → events_of bytes ports ≡ Ok events
    → All IsBoundedEvent events × All IsEarly events

-- each event is at one of these ports, by number
abbrev pub EventsAreAtPorts : Type 0
EventsAreAtPorts =
    (bytes : Bytes) (ports : List Bytes) (events : List Event) → events_of bytes ports ≡ Ok events
    → All (λ (e : Event). e.port < length ports) events

-- ---- names

-- each leaf of an accepted model has a name
abbrev pub ModelsAreNamed : Type 0
ModelsAreNamed =
    (bytes : Bytes) (files : Files) (classes : List Class) (drawing : Option Drawing) (t : Tree)
    → (model_of bytes files classes drawing).found ≡ model t → All IsNamed (leaves t)

-- the group's name is that of no other leaf
abbrev pub GroupsAreNamed : Type 0
GroupsAreNamed =
    (bytes : Bytes) (files : Files) (classes : List Class) (drawing : Option Drawing) (t : Tree)
    → (model_of bytes files classes drawing).found ≡ model t → (name : Word) (g : ℕ × Group)
    → group_at name (leaves t) ≡ Some g → NamesCells g.1.space name g.0 (leaves t)

-- the group of an accepted drawing stands among the leaves, and has the plane
abbrev pub DrawingsHaveGroups : Type 0
DrawingsHaveGroups =
    (bytes : Bytes) (files : Files) (classes : List Class) (d : Drawing) (t : Tree)
    → (model_of bytes files classes (Some d)).found ≡ model t
    → (g : ℕ × Group) × (group_at d.group (leaves t) ≡ Some g) × (d.plane < plane_count g.1.space)

-- ---- drawn runs

-- the frames drawn from the log of a run are those of the run: of a model, events, an end and
-- limit, letters with Y, and a group
abbrev pub IsDrawn : Tree → List Event → ℕ → Type 0
IsDrawn t events end =
    (limit : ℕ) (letters : List ℕ) → has_letter letters Y ≡ true → (name : Word) (g : ℕ × Group)
    → group_at name (leaves t) ≡ Some g → (p : Picture)
    → p.space ≡ g.1.space
    → frames_of_log p name (log_bytes t letters (run_on t events end limit None).cycles)
    ≡ Ok (frames_of p g.0 (emitted_before None g) (run_on t events end limit None).cycles)

-- the frames of a run of an accepted model are those that its log draws
abbrev pub RunsAreDrawn : Type 0
RunsAreDrawn =
    (bytes : Bytes) (files : Files) (classes : List Class) (drawing : Option Drawing) (t : Tree)
    → (model_of bytes files classes drawing).found ≡ model t → (events : List Event)
    → All IsBoundedEvent events → (end : ℕ) → IsDelay end → IsDrawn t events end

-- the same of an accepted file of events
abbrev pub FilesAreDrawn : Type 0
FilesAreDrawn =
    (bytes : Bytes) (files : Files) (classes : List Class) (drawing : Option Drawing) (t : Tree)
    → (model_of bytes files classes drawing).found ≡ model t
    → (event_bytes : Bytes) (events : List Event) → events_of event_bytes (ins_of t) ≡ Ok events
    → (end : ℕ) → IsDelay end → IsDrawn t events end

-- how the frames that are asked are drawn
abbrev pub picture_of : FramesFile → Group → Picture
picture_of f g =
    record { space = g.space; plane = f.drawing.plane; width = f.width; decimals = f.decimals }

-- the file of frames that a run makes is what is drawn from its log
abbrev pub FramesAreDrawn : Type 0
FramesAreDrawn =
    (bytes : Bytes) (files : Files) (classes : List Class) (f : FramesFile) (t : Tree)
    → (model_of bytes files classes (Some f.drawing)).found ≡ model t → (events : List Event)
    → All IsBoundedEvent events → (end : ℕ) → IsDelay end
    → (limit : ℕ) (letters : List ℕ) → has_letter letters Y ≡ true
    → (g : Group) × (text : Bytes)
    × (frames_of_log (picture_of f g) f.drawing.group
    (log_bytes t letters (run_on t events end limit None).cycles) ≡ Ok text)
    × (frames_file t None (run_on t events end limit None).cycles f ≡ (f.name, text) ∷ [])
