-- Texts of items that are appended one after another.
use Rattle.std.proofs.Common.{◌≡◌, ℕ, zero, suc, ◌+◌, ◌<◌, ◌≤◌, Some, slice_get, List, [], ◌∷◌}
use Rattle.std.proofs.Common.{◌++◌, refl, sym, ap, ◌∙◌, Ok, Err, append_assoc, append-nil, arith}
use Rattle.std.proofs.Common.{length, map, take, get_or}
use Rattle.std.specs.Prelude.{Result, OnOk, OnErr}
use Rattle.std.specs.List.{flat_map, join_with_byte}
use Rattle.std.proofs.Math.Seq.{take-append_seam, take-length}
use Rattle.std.proofs.lemmas.List.{length-take, take_all, take-take, take_more, flat_map_more}
use Rattle.std.proofs.lemmas.Grind.{flat_map-append}
use Rattle.quantity.specs.Bytes.{Bytes}
use Rattle.model_tree.specs.Tree.{Leaf, atomic_leaf, cell_leaf}
use Rattle.model_leaves.specs.declared.table.Model.{Model}
use Rattle.model_tree.specs.Tree.{leaves}
use Rattle.model_leaves.specs.PlaneTexts.{leaf_text}
use Rattle.model_leaves.specs.Models.{tree_of}
use Rattle.model_leaves.specs.Leaves.{Settings, IsLeafOf, Appends, no_settings}
use Rattle.model_leaves.proofs.Read.{rows-length, leaves-length}
use Rattle.text_forms.specs.LogLine as log
use Rattle.text_forms.specs.Lines.{leaf_name}
use Rattle.state_lines.specs.Words.{spaced_words}

-- ---- what was there stays

shorter : (a b : Bytes) → take (length a) b ≡ a → length a ≤ length b
shorter a b h = let n = ap length h in let m = length-take (length a) b in omega (arith, n, m)

-- what is kept twice is kept
pub kept_on : (a b c : Bytes) → take (length a) b ≡ a → take (length b) c ≡ b
    → take (length a) c ≡ a
kept_on a b c h k = sym (take-take (length a) (length b) c (shorter a b h)) ∙ ap (take (length a)) k
    ∙ h

-- what is there keeps itself
pub keeps_itself : (a : Bytes) → take (length a) a ≡ a
keeps_itself a = take-length a

-- what follows from an answer that is not a refusal
pub on_ok : {A E : Type 0} (r : Result A E) (P Q : Type 0) → (P → Q) → OnOk r P → OnOk r Q
on_ok (Ok x) P Q f h = f h
on_ok (Err e) P Q f h = tt

-- what is there stays, where a refusal changes nothing
pub either_keeps : {A E : Type 0} (r : Result A E) (P : Type 0) (old new : Bytes)
    → (P → take (length old) new ≡ old) → OnOk r P → OnErr r (new ≡ old)
    → take (length old) new ≡ old
either_keeps (Ok x) P old new f h e = f h
either_keeps (Err x) P old new f h e = ap (take (length old)) e ∙ take-length old

-- what is appended leaves what was there
pub append_keeps : (a b more : Bytes) → b ≡ a ++ more → take (length a) b ≡ a
append_keeps a b more h = ap (take (length a)) h ∙ take-append_seam a more

-- ---- a leaf of the model, whatever the settings

at : (ls : List Leaf) (k : ℕ) → k < length ls → (l : Leaf) × (slice_get ls k ≡ Some l)
at [] k h = absurd (omega arith)
at (l ∷ ls) zero h = (l, refl)
at (l ∷ ls) (suc k) h = at ls k (omega arith)

pub leaf_of : (m : Model) (leaf : ℕ) (settings : Settings) → IsLeafOf m leaf → (l : Leaf)
    × (slice_get (leaves (tree_of m settings)) leaf ≡ Some l)
leaf_of m leaf settings h =
    at (leaves (tree_of m settings)) leaf (omega (
      arith,
      h,
      rows-length m no_settings,
      rows-length m settings,
      leaves-length (tree_of m settings) 0,
    ))

-- what was appended for a leaf leaves what was there
pub appended_keeps : (m : Model) (leaf : ℕ) (text : Leaf → Bytes) (old new : Bytes)
    → IsLeafOf m leaf → Appends m leaf text old new → take (length old) new ≡ old
appended_keeps m leaf text old new h a =
    let l = leaf_of m leaf no_settings h in ap (take (length old)) (a no_settings l.0 l.1)
    ∙ take-append_seam old (text l.0)

-- ---- one item behind another

-- one more text behind those of the items before it
pub texts_more : {A : Type 0} (f : A → Bytes) (start old new : Bytes) (rs : List A) (i : ℕ) (r : A)
    → i < length rs → r ≡ get_or rs i r → old ≡ start ++ flat_map f (take i rs) → new ≡ old ++ f r
    → new ≡ start ++ flat_map f (take (i + 1) rs)
texts_more f start old new rs i r lt is a b =
    b ∙ ap (λ x. x ++ f r) a ∙ flat_map_more f start (take i rs) r
    ∙ ap (λ x. start ++ flat_map f (take i rs ++ x ∷ [])) is
    ∙ ap (λ ys. start ++ flat_map f ys) (sym (take_more rs i r lt))

-- the texts of no items, in front of a loop
pub none_yet : (start : Bytes) → start ≡ start ++ []
none_yet start = sym (append-nil start)

-- behind the last item the texts are those of all, by another name
pub texts_all : {A : Type 0} (f : A → Bytes) (start new text : Bytes) (rs : List A) (i : ℕ)
    → length rs ≤ i → new ≡ start ++ flat_map f (take i rs) → flat_map f rs ≡ text → new ≡ start
    ++ text
texts_all f start new text rs i past h e = h
    ∙ ap (λ ys. start ++ flat_map f ys) (take_all i rs past) ∙ ap (λ x. start ++ x) e

-- ---- words behind blanks

pub words_of_each : {A : Type 0} (words : A → List Bytes) (xs : List A)
    → flat_map (λ x. spaced_words (words x)) xs ≡ spaced_words (flat_map words xs)
words_of_each words [] = refl
words_of_each words (x ∷ xs) = ap (λ y. spaced_words (words x) ++ y) (words_of_each words xs)
    ∙ sym (flat_map-append (λ w. 32 ∷ w) (words x) (flat_map words xs))

pub word_of_each : {A : Type 0} (word : A → Bytes) (xs : List A)
    → flat_map (λ x. spaced_words (word x ∷ [])) xs ≡ spaced_words (map word xs)
word_of_each word [] = refl
word_of_each word (x ∷ xs) = ap (λ y. spaced_words (word x ∷ []) ++ y) (word_of_each word xs)
    ∙ sym (flat_map-append (λ w. 32 ∷ w) (word x ∷ []) (map word xs))

pub words_of_kept : {A B : Type 0} (keep : A → B) (words : B → List Bytes) (xs : List A)
    → flat_map (λ x. spaced_words (words (keep x))) xs ≡ spaced_words (flat_map words (map keep xs))
words_of_kept keep words [] = refl
words_of_kept keep words (x ∷ xs) =
    ap (λ y. spaced_words (words (keep x)) ++ y) (words_of_kept keep words xs)
    ∙ sym (flat_map-append (λ w. 32 ∷ w) (words (keep x)) (flat_map words (map keep xs)))

-- a line of two words or more
pub line_of : (first second : Bytes) (ws : List Bytes) → join_with_byte 32 (first ∷ second ∷ ws)
    ≡ first ++ spaced_words (second ∷ ws)
line_of first second [] = ap (λ x. first ++ 32 ∷ x) (sym (append-nil second))
line_of first second (w ∷ ws) = ap (λ x. first ++ 32 ∷ x) (line_of second w ws)

-- ---- the line of a leaf

same_name : (l : Leaf) → log.leaf_name_text (leaf_name l) ≡ leaf_text l
same_name (atomic_leaf name class settings) = append-nil name
same_name (cell_leaf g first cell) = refl

two_words : (old a name ps : Bytes) → ((old ++ (a ++ 32 ∷ [])) ++ name) ++ ps ≡ old
    ++ (a ++ ((32 ∷ name) ++ ps))
two_words old a name ps =
    append_assoc (old ++ (a ++ 32 ∷ [])) name ps ∙ append_assoc old (a ++ 32 ∷ []) (name ++ ps)
    ∙ ap (λ x. old ++ x) (append_assoc a (32 ∷ []) (name ++ ps))

-- a first word, the leaf, and words
pub leaf_made : (old first : Bytes) (l : Leaf) (ws : List Bytes) (new1 new2 new3 : Bytes)
    → new1 ≡ old ++ (first ++ 32 ∷ []) → new2 ≡ new1 ++ leaf_text l → new3 ≡ new2 ++ spaced_words ws
    → new3 ≡ old ++ join_with_byte 32 (first ∷ log.leaf_name_text (leaf_name l) ∷ ws)
leaf_made old first l ws new1 new2 new3 a b c =
    c ∙ ap (λ x. x ++ spaced_words ws) b ∙ ap (λ x. (x ++ leaf_text l) ++ spaced_words ws) a
    ∙ two_words old first (leaf_text l) (spaced_words ws)
    ∙ ap (λ x. old ++ (first ++ ((32 ∷ x) ++ spaced_words ws))) (sym (same_name l))
    ∙ ap (λ x. old ++ x) (sym (line_of first (log.leaf_name_text (leaf_name l)) ws))

-- the same where the words are appended in two parts
pub leaf_made_twice : (old first : Bytes) (l : Leaf) (vs ws : List Bytes)
    (new1 new2 new3 new4 : Bytes) → new1 ≡ old ++ (first ++ 32 ∷ []) → new2 ≡ new1 ++ leaf_text l
    → new3 ≡ new2 ++ spaced_words vs → new4 ≡ new3 ++ spaced_words ws
    → new4 ≡ old ++ join_with_byte 32 (first ∷ log.leaf_name_text (leaf_name l) ∷ (vs ++ ws))
leaf_made_twice old first l vs ws new1 new2 new3 new4 a b c d =
    leaf_made old first l (vs ++ ws) new1 new2 new4 a b
    (d ∙ ap (λ x. x ++ spaced_words ws) c ∙ append_assoc new2 (spaced_words vs) (spaced_words ws)
    ∙ ap (λ x. new2 ++ x) (sym (flat_map-append (λ w. 32 ∷ w) vs ws)))
