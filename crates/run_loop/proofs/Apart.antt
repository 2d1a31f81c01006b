-- The names of the files that are made differ, two by two.
use Rattle.std.proofs.Common.{◌≡◌, Bool, true, false, Option, Some, None, List, [], ◌∷◌, refl, subst}
use Rattle.std.specs.Prelude.{◌||◌, not, IsTrue, ⊤}
use Rattle.std.specs.List.{list_any, filter_map}
use Rattle.std.specs.Option.{option_map}
use Rattle.std.specs.Str.{bytes_eq}
use Rattle.std.proofs.lemmas.Bool.{and_parts}
use Rattle.model_tree.specs.Tree.{Word}
use Rattle.answer_model.specs.Options.{differ_all}
use Rattle.asked_words.specs.declared.asked.Asked as code
use Rattle.asked_words.specs.declared.asked.FramesFile as frames
use Rattle.asked_words.specs.Shown.{text_of_name, given_names, frames_file_of, made_names}
use Rattle.run_loop.specs.AskedFiles.{frames_name, names_of}
use Rattle.run_loop.specs.Texts.{FileNames, AreApart, Differ}

-- those that are given
abbrev given : List (Option Word) → List Word
given os = filter_map (λ (o : Option Word). o) os

-- a name differs from each of these
abbrev DiffersFrom : Option Word → List (Option Word) → Type 0
DiffersFrom a [] = ⊤
DiffersFrom a (o ∷ os) = Differ a o × DiffersFrom a os

none_differs : (os : List (Option Word)) → DiffersFrom None os
none_differs [] = tt
none_differs (o ∷ os) = (tt, none_differs os)

neither : (x y : Bool) → not (x || y) ≡ true → (x ≡ false) × (not y ≡ true)
neither true y e = absurd (cc)
neither false y e = (refl, e)

not_among : (w : Word) (os : List (Option Word)) → not (list_any (bytes_eq w) (given os)) ≡ true → DiffersFrom (Some w) os
not_among w [] e = tt
not_among w (None ∷ os) e = (tt, not_among w os e)
not_among w (Some v ∷ os) e =
    let p = neither (bytes_eq w v) (list_any (bytes_eq w) (given os)) e in
    (p.0, not_among w os p.1)

-- the first differs from those behind it, and these differ
first_apart : (a : Option Word) (os : List (Option Word)) → differ_all (given (a ∷ os)) ≡ true → DiffersFrom a os × (differ_all (given os) ≡ true)
first_apart None os e = (none_differs os, e)
first_apart (Some w) os e =
    let p = and_parts (not (list_any (bytes_eq w) (given os))) (differ_all (given os)) e in
    (not_among w os p.0, p.1)

head : (a o : Option Word) (os : List (Option Word)) → DiffersFrom a (o ∷ os) → Differ a o
head a o os h = h.0

tail : (a o : Option Word) (os : List (Option Word)) → DiffersFrom a (o ∷ os) → DiffersFrom a os
tail a o os h = h.1

abbrev named : Option Word → Option Word → Option Word → Option Word → FileNames
named l o f s = record { log = l; out = o; frames = f; state = s }

all_apart : (l o f s : Option Word) → differ_all (given_names l o f s) ≡ true → AreApart (named l o f s)
all_apart l o f s e =
    let p = first_apart l (o ∷ f ∷ s ∷ []) e in
    let q = first_apart o (f ∷ s ∷ []) p.1 in
    let r = first_apart f (s ∷ []) q.1 in
    let behind = tail l o (f ∷ s ∷ []) p.0 in
    record {
      log_out = head l o (f ∷ s ∷ []) p.0;
      log_frames = head l f (s ∷ []) behind;
      out_frames = head o f (s ∷ []) q.0;
      log_state = head l s [] (tail l f (s ∷ []) behind);
      out_state = head o s [] (tail o f (s ∷ []) q.0);
      frames_state = head f s [] r.0;
    }

-- the name of a file of frames, in code as in the definitions
name_asked : (o : Option frames.FramesFile) → option_map (λ (f : frames.FramesFile). f.name.now) o ≡ frames_name (option_map frames_file_of o)
name_asked None = refl
name_asked (Some f) = refl

pub names_apart : (a : code.Asked) → IsTrue (differ_all (made_names a)) → AreApart (names_of a)
names_apart a e =
    let l = text_of_name a.given.log in
    let o = text_of_name a.given.out in
    let s = text_of_name a.given.save in
    subst (λ (f : Option Word). AreApart (named l o f s)) (name_asked a.frames) (all_apart l o (option_map (λ (f : frames.FramesFile). f.name.now) a.frames) s e)
