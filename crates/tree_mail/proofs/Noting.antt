-- What is kept of processors, by the code's list.
use Rattle.std.proofs.Common.{◌≡◌, ℕ, zero, suc, ◌<◌, ◌≤◌, Option, Some, None, List, [], ◌∷◌, map, length, set, refl, sym, ◌∙◌, ap, arith}
use Rattle.std.specs.Prelude.{slice_get, unwrap_or}
use Rattle.std.specs.Option.{option_map}
use Rattle.std.proofs.lemmas.List.{map-set, length-map}
use Rattle.std.proofs.lemmas.Option.{slice_get-map}
use Rattle.served_tree.specs.Service as service
use Rattle.served_tree.specs.Service.{gave_of, child_answer}
use Rattle.tree_mail.specs.declared.kept.Kept.{Kept}
use Rattle.tree_mail.specs.declared.message.Answer.{Answer}
use Rattle.tree_mail.specs.Notes.{Note, answer_in, note_of, heard, all_heard, notes_with_change, left_at}

-- ---- one is changed

note-there : (kept : List Kept) (n : ℕ) (k : Kept) → slice_get kept n ≡ Some k
    → slice_get (map note_of kept) n ≡ Some (note_of k)
note-there kept n k is = slice_get-map note_of kept n ∙ ap (option_map note_of) is

pub noted-set : (kept : List Kept) (n : ℕ) (k k' : Kept) (change : Note → Note)
    → slice_get kept n ≡ Some k → note_of k' ≡ change (note_of k)
    → map note_of (set kept n k') ≡ notes_with_change (map note_of kept) n change
noted-set kept n k k' change is made =
    map-set note_of kept n k' ∙ ap (set (map note_of kept) n) made
    ∙ ap (λ (o : Option Note). elim o [ None ↦ map note_of kept | Some x ↦ set (map note_of kept) n (change x) ]) (sym (note-there kept n k is))

-- ---- one is read

abbrev from_there : {X : Type 0} → X → (service.Kept → X) → Option service.Kept → X
from_there d f o = elim o [ None ↦ d | Some k ↦ f k ]

heard-there : (kept : List Kept) (n : ℕ) (o : Option Kept) → slice_get kept n ≡ o
    → slice_get (all_heard (map note_of kept)) n ≡ option_map heard (option_map note_of o)
heard-there kept n o is =
    slice_get-map heard (map note_of kept) n
    ∙ ap (option_map heard) (slice_get-map note_of kept n ∙ ap (option_map note_of) is)

pub given-there : (kept : List Kept) (n : ℕ) (k : Kept) → slice_get kept n ≡ Some k
    → gave_of (all_heard (map note_of kept)) n ≡ unwrap_or (note_of k).gave []
given-there kept n k is = ap (from_there [] (λ k. unwrap_or k.gave [])) (heard-there kept n (Some k) is)

pub answer-there : (kept : List Kept) (n : ℕ) (k : Kept) → slice_get kept n ≡ Some k
    → child_answer (all_heard (map note_of kept)) n ≡ unwrap_or (note_of k).answered (None, None)
answer-there kept n k is = ap (from_there (None, None) (λ k. unwrap_or k.answered (None, None))) (heard-there kept n (Some k) is)

-- what isn't there is read as nothing
pub answered-or : (o : Option Answer) (a : Answer)
    → unwrap_or (option_map answer_in o) (answer_in a) ≡ answer_in (unwrap_or o a)
answered-or None a = refl
answered-or (Some b) a = refl

-- there are as many as are noted
pub kept-there : (kept : List Kept) (n : ℕ) → n < length (map note_of kept) → n < length kept
kept-there kept n within = let same = length-map kept note_of in omega (arith, within, same)

-- ---- how many are left

left-within-notes : (notes : List Note) (n : ℕ) → 1 ≤ left_at notes n → n < length notes
left-within-notes [] n some = absurd (omega (arith, some))
left-within-notes (k ∷ ks) zero some = omega arith
left-within-notes (k ∷ ks) (suc n) some = let h = left-within-notes ks n some in omega (arith, h)

-- something is left only of a processor of which something is kept
pub left-within : (kept : List Kept) (n : ℕ) → 1 ≤ left_at (map note_of kept) n → n < length kept
left-within kept n some =
    let a = left-within-notes (map note_of kept) n some in
    let b = length-map kept note_of in
    omega (arith, a, b)
