-- Texts of leaves that are appended one after another.
use Rattle.std.proofs.Common.{◌≡◌, ℕ, ◌+◌, ◌<◌, ◌≤◌, Option, Some, List, [], ◌∷◌, ◌++◌, refl, sym, ap, ◌∙◌, subst, Bool, Ok, Err, append_assoc, append-nil, arith, length, take, zero, suc, codes, get_or, slice_get}
use Rattle.std.specs.Prelude.{Result, OnOk, OnErr}
use Rattle.std.specs.List.{flat_map, join_with_byte}
use Rattle.std.proofs.Math.Seq.{take-append_seam, take-length}
use Rattle.std.proofs.lemmas.List.{length-take, take_all, take-take, take_more, flat_map_more}
use Rattle.quantity.specs.declared.value.Value.{Value}
use Rattle.quantity.specs.Bytes.{Bytes}
use Rattle.quantity.specs.Times.{time_text}
use Rattle.quantity.specs.ValueTexts.{text5}
use Rattle.model_leaves.specs.declared.table.Model.{Model}
use Rattle.model_tree.specs.Tree.{Leaf, atomic_leaf, cell_leaf, leaves}
use Rattle.model_leaves.specs.PlaneTexts.{leaf_text}
use Rattle.model_leaves.specs.Models.{tree_of}
use Rattle.model_leaves.specs.Leaves.{Settings, IsLeafOf, OfTree, Appends, no_settings}
use Rattle.model_leaves.proofs.Read.{rows-length, leaves-length}
use Rattle.text_forms.specs.declared.letter.Letter.{Letter}
use Rattle.text_forms.specs.declared.letter.Letter.TheVariants.{Y, N, X, S}
use Rattle.text_forms.specs.Letters.{letter_byte}
use Rattle.text_forms.specs.LogLine as log
use Rattle.text_forms.specs.LogLine.{given, moved, state_text, next_text, with_strokes}
use Rattle.text_forms.specs.Lines.{line_with_end, leaf_name, out_port_name}
use Rattle.text_forms.specs.declared.records.Letters.{Letters}
use Rattle.text_forms.specs.declared.records.Records.{Records}
use Rattle.text_forms.specs.RecordTexts.{all_if, texts_of_letter, log_text, text_at}
use Rattle.text_forms.specs.Begun.{line_front, head_text}

-- ---- a leaf of the model, whatever the settings

at : (ls : List Leaf) (k : ℕ) → k < length ls → (l : Leaf) × (slice_get ls k ≡ Some l)
at [] k h = absurd (omega arith)
at (l ∷ ls) zero h = (l, refl)
at (l ∷ ls) (suc k) h = at ls k (omega arith)

pub leaf_of : (m : Model) (leaf : ℕ) (settings : Settings) → IsLeafOf m leaf → (l : Leaf) × (slice_get (leaves (tree_of m settings)) leaf ≡ Some l)
leaf_of m leaf settings h =
    at (leaves (tree_of m settings)) leaf (omega (arith, h, rows-length m no_settings, rows-length m settings, leaves-length (tree_of m settings) 0))

-- what was appended for a leaf is what is written of it
pub appended_at : (m : Model) (leaf : ℕ) (settings : Settings) (text : Leaf → Bytes) (old new : Bytes) → IsLeafOf m leaf → Appends m leaf text old new → new ≡ old ++ text_at text (slice_get (leaves (tree_of m settings)) leaf)
appended_at m leaf settings text old new h a =
    let l = leaf_of m leaf settings h in a settings l.0 l.1 ∙ ap (λ o. old ++ text_at text o) (sym l.1)

-- what was appended for a leaf leaves what was there
pub appended_keeps : (m : Model) (leaf : ℕ) (text : Leaf → Bytes) (old new : Bytes) → IsLeafOf m leaf → Appends m leaf text old new → take (length old) new ≡ old
appended_keeps m leaf text old new h a =
    let l = leaf_of m leaf no_settings h in ap (take (length old)) (a no_settings l.0 l.1) ∙ take-append_seam old (text l.0)

shorter : (a b : Bytes) → take (length a) b ≡ a → length a ≤ length b
shorter a b h = let n = ap length h in let m = length-take (length a) b in omega (arith, n, m)

-- what is kept twice is kept
pub kept_on : (a b c : Bytes) → take (length a) b ≡ a → take (length b) c ≡ b → take (length a) c ≡ a
kept_on a b c h k = sym (take-take (length a) (length b) c (shorter a b h)) ∙ ap (take (length a)) k ∙ h

-- what is appended leaves what was there
pub append_keeps : (a b more : Bytes) → b ≡ a ++ more → take (length a) b ≡ a
append_keeps a b more h = ap (take (length a)) h ∙ take-append_seam a more

-- what is kept stays kept where more is appended
pub kept_more : (a b c more : Bytes) → take (length a) b ≡ a → c ≡ b ++ more → take (length a) c ≡ a
kept_more a b c more h e = kept_on a b c h (append_keeps b c more e)

-- what is kept stays kept where nothing is appended
pub kept_same : (a b c : Bytes) → take (length a) b ≡ a → c ≡ b → take (length a) c ≡ a
kept_same a b c h e = ap (take (length a)) e ∙ h

-- what follows from an answer that is not a refusal
pub on_ok : {A E : Type 0} (r : Result A E) (P Q : Type 0) → (P → Q) → OnOk r P → OnOk r Q
on_ok (Ok x) P Q f h = f h
on_ok (Err e) P Q f h = tt

-- what is there stays, where a refusal changes nothing
pub either_keeps : {A E : Type 0} (r : Result A E) (P : Type 0) (old new : Bytes) → (P → take (length old) new ≡ old) → OnOk r P → OnErr r (new ≡ old) → take (length old) new ≡ old
either_keeps (Ok x) P old new f h e = f h
either_keeps (Err x) P old new f h e = ap (take (length old)) e ∙ take-length old

-- ---- the pieces of a line

begun_joined : (old a b c : Bytes) → ((old ++ a) ++ b) ++ c ≡ old ++ (a ++ b ++ c)
begun_joined old a b c = simp append_assoc

pub begun_made : (old : Bytes) (letter : Letter) (t : ℕ) (new1 new2 new3 : Bytes)
    → new1 ≡ old ++ letter_byte letter ∷ codes " / " → new2 ≡ new1 ++ time_text t → new3 ≡ new2 ++ codes " / " → new3 ≡ old ++ line_front letter t
unfolding line_front
begun_made old letter t new1 new2 new3 a b c =
    c ∙ ap (λ x. x ++ codes " / ") (b ∙ ap (λ x. x ++ time_text t) a) ∙ begun_joined old (letter_byte letter ∷ codes " / ") (time_text t) (codes " / ")

head_joined : (old a t s l : Bytes) → ((old ++ (a ++ t ++ s)) ++ l) ++ codes " / " ≡ old ++ (a ++ t ++ s ++ l ++ codes " / ")
head_joined old a t s l = simp append_assoc

pub head_made : (old : Bytes) (letter : Letter) (t : ℕ) (l : Leaf) (new1 new2 new3 : Bytes) → new1 ≡ old ++ line_front letter t → new2 ≡ new1 ++ leaf_text l → new3 ≡ new2 ++ codes " / " → new3 ≡ old ++ head_text letter t l
unfolding line_front head_text
head_made old letter t l new1 new2 new3 a b c =
    c ∙ ap (λ x. x ++ codes " / ") (b ∙ ap (λ x. x ++ leaf_text l) a) ∙ head_joined old (letter_byte letter ∷ codes " / ") (time_text t) (codes " / ") (leaf_text l)

given_parts : (old : Bytes) (letter : ℕ) (t l p v : Bytes) → ((old ++ ((letter ∷ codes " / ") ++ t ++ codes " / " ++ l ++ codes " / ")) ++ (p ++ codes " / ")) ++ (v ++ codes "\n") ≡ old ++ line_with_end (join_with_byte 32 (with_strokes ((letter ∷ []) ∷ t ∷ l ∷ p ∷ v ∷ [])))
given_parts old letter t l p v = simp append_assoc

moved_parts : (old t l s n : Bytes) → ((((old ++ ((83 ∷ codes " / ") ++ t ++ codes " / " ++ l ++ codes " / ")) ++ s) ++ codes " / ") ++ n) ++ codes "\n" ≡ old ++ line_with_end (join_with_byte 32 (with_strokes (codes "S" ∷ t ∷ l ∷ s ∷ n ∷ [])))
moved_parts old t l s n = simp append_assoc

out_joined : (old t p v : Bytes) → (((((old ++ t) ++ codes " ") ++ p) ++ codes " ") ++ v) ++ codes "\n" ≡ old ++ line_with_end (join_with_byte 32 (t ∷ p ∷ v ∷ []))
out_joined old t p v = simp append_assoc

pub out_made : (old t p v new1 new2 new3 new4 new5 new6 : Bytes) → new1 ≡ old ++ t → new2 ≡ new1 ++ codes " " → new3 ≡ new2 ++ p → new4 ≡ new3 ++ codes " " → new5 ≡ new4 ++ v → new6 ≡ new5 ++ codes "\n" → new6 ≡ old ++ line_with_end (join_with_byte 32 (t ∷ p ∷ v ∷ []))
out_made old t p v new1 new2 new3 new4 new5 new6 a b c d e f =
    f ∙ ap (λ x. x ++ codes "\n") (e ∙ ap (λ x. x ++ v) (d ∙ ap (λ x. x ++ codes " ") (c ∙ ap (λ x. x ++ p) (b ∙ ap (λ x. x ++ codes " ") a)))) ∙ out_joined old t p v

same_name : (l : Leaf) → log.leaf_name_text (leaf_name l) ≡ leaf_text l
same_name (atomic_leaf name class settings) = append-nil name
same_name (cell_leaf g first cell) = refl

pub given_joined : (old : Bytes) (letter : Letter) (t : ℕ) (l : Leaf) (port : Bytes) (v : Value) (new1 new2 new3 : Bytes) → new1 ≡ old ++ head_text letter t l → new2 ≡ new1 ++ (port ++ codes " / ") → new3 ≡ new2 ++ (text5 v ++ codes "\n") → new3 ≡ old ++ line_with_end (log.line_text (given letter t (leaf_name l) port v))
unfolding head_text
given_joined old letter t l port v new1 new2 new3 a b c =
    c ∙ ap (λ x. x ++ (text5 v ++ codes "\n")) (b ∙ ap (λ x. x ++ (port ++ codes " / ")) a) ∙ given_parts old (letter_byte letter) (time_text t) (leaf_text l) port (text5 v)
    ∙ ap (λ x. old ++ line_with_end (join_with_byte 32 (with_strokes (log.letter_text letter ∷ time_text t ∷ x ∷ port ∷ text5 v ∷ [])))) (sym (same_name l))

pub moved_joined : (old : Bytes) (t : ℕ) (l : Leaf) (state : Option Value) (next : Option ℕ) (new1 new2 new3 new4 new5 : Bytes) → new1 ≡ old ++ head_text S t l → new2 ≡ new1 ++ state_text state → new3 ≡ new2 ++ codes " / " → new4 ≡ new3 ++ next_text next → new5 ≡ new4 ++ codes "\n" → new5 ≡ old ++ line_with_end (log.line_text (moved t (leaf_name l) state next))
unfolding head_text
moved_joined old t l state next new1 new2 new3 new4 new5 a b c d e =
    e ∙ ap (λ x. x ++ codes "\n") (d ∙ ap (λ x. x ++ next_text next) (c ∙ ap (λ x. x ++ codes " / ") (b ∙ ap (λ x. x ++ state_text state) a)))
    ∙ moved_parts old (time_text t) (leaf_text l) (state_text state) (next_text next)
    ∙ ap (λ x. old ++ line_with_end (join_with_byte 32 (with_strokes (codes "S" ∷ time_text t ∷ x ∷ state_text state ∷ next_text next ∷ [])))) (sym (same_name l))

-- a line of a value behind the leaf
pub given_told : (letter : Letter) (t : ℕ) (l : Leaf) (port : Bytes) (v : Value) → head_text letter t l ++ ((port ++ codes " / ") ++ (text5 v ++ codes "\n")) ≡ line_with_end (log.line_text (given letter t (leaf_name l) port v))
given_told letter t l port v =
    let head = head_text letter t l in
    sym (append_assoc head (port ++ codes " / ") (text5 v ++ codes "\n"))
    ∙ given_joined [] letter t l port v head (head ++ (port ++ codes " / ")) ((head ++ (port ++ codes " / ")) ++ (text5 v ++ codes "\n")) refl refl refl

four_parts : (head state next : Bytes) → head ++ (state ++ (codes " / " ++ (next ++ codes "\n"))) ≡ (((head ++ state) ++ codes " / ") ++ next) ++ codes "\n"
four_parts head state next = simp append_assoc

-- a line of a leaf that moved behind the leaf
pub moved_told : (t : ℕ) (l : Leaf) (state : Option Value) (next : Option ℕ) → head_text S t l ++ (state_text state ++ (codes " / " ++ (next_text next ++ codes "\n"))) ≡ line_with_end (log.line_text (moved t (leaf_name l) state next))
moved_told t l state next =
    let head = head_text S t l in
    let s = state_text state in
    four_parts head s (next_text next)
    ∙ moved_joined [] t l state next head (head ++ s) ((head ++ s) ++ codes " / ") (((head ++ s) ++ codes " / ") ++ next_text next) ((((head ++ s) ++ codes " / ") ++ next_text next) ++ codes "\n") refl refl refl refl refl

-- the same of a value at the port `out`
pub out_told : (letter : Letter) (t : ℕ) (l : Leaf) (port : ℕ) (v : Value) (tail : Bytes) → port ≡ 0 → tail ≡ codes "out / " ++ (text5 v ++ codes "\n") → head_text letter t l ++ tail ≡ line_with_end (log.line_text (given letter t (leaf_name l) (out_port_name l port) v))
out_told letter t l port v tail is e =
    ap (λ (x : Bytes). head_text letter t l ++ x) e ∙ given_told letter t l (codes "out") v
    ∙ ap (λ (k : ℕ). line_with_end (log.line_text (given letter t (leaf_name l) (out_port_name l k) v))) (sym is)

-- a line of a leaf that moved, by its letter and what stands behind the state
pub moved_line_told : (letter : Letter) (t : ℕ) (l : Leaf) (state : Option Value) (next : Option ℕ) (behind : Bytes) → letter ≡ S → behind ≡ codes " / " ++ (next_text next ++ codes "\n") → head_text letter t l ++ (state_text state ++ behind) ≡ line_with_end (log.line_text (moved t (leaf_name l) state next))
moved_line_told letter t l state next behind is e =
    ap (λ (k : Letter). head_text k t l ++ (state_text state ++ behind)) is
    ∙ ap (λ (x : Bytes). head_text S t l ++ (state_text state ++ x)) e ∙ moved_told t l state next

-- more behind what stands behind the leaf
pub line_more : (old new1 new2 head tail more : Bytes) → new1 ≡ old ++ (head ++ tail) → new2 ≡ new1 ++ more → new2 ≡ old ++ (head ++ (tail ++ more))
line_more old new1 new2 head tail more a b = b ∙ ap (λ (x : Bytes). x ++ more) a ∙ three old head tail more
  where
    three : (old a b c : Bytes) → (old ++ (a ++ b)) ++ c ≡ old ++ (a ++ (b ++ c))
    three old a b c = simp append_assoc

-- nothing behind the leaf
pub no_tail : (old new head tail : Bytes) → tail ≡ [] → new ≡ old ++ (head ++ tail) → new ≡ old ++ head
no_tail old new head tail none h = h ∙ ap (λ (x : Bytes). old ++ (head ++ x)) none ∙ ap (λ (x : Bytes). old ++ x) (append-nil head)

-- ---- texts of many leaves

-- one more text behind those of the records before it
pub texts_more : {A : Type 0} (f : A → Bytes) (start old new : Bytes) (rs : List A) (i : ℕ) (r : A) → i < length rs → r ≡ get_or rs i r → old ≡ start ++ flat_map f (take i rs) → new ≡ old ++ f r → new ≡ start ++ flat_map f (take (i + 1) rs)
texts_more f start old new rs i r lt is a b =
    b ∙ ap (λ x. x ++ f r) a ∙ flat_map_more f start (take i rs) r ∙ ap (λ x. start ++ flat_map f (take i rs ++ x ∷ [])) is ∙ ap (λ ys. start ++ flat_map f ys) (sym (take_more rs i r lt))

-- the texts of no records, in front of a loop
pub none_yet : (start : Bytes) → start ≡ start ++ []
none_yet start = sym (append-nil start)

-- what is there keeps itself
pub keeps_itself : (a : Bytes) → take (length a) a ≡ a
keeps_itself a = take-length a

-- behind the last record the texts are those of all
pub texts_all : {A : Type 0} (f : A → Bytes) (start new : Bytes) (rs : List A) (i : ℕ) → length rs ≤ i → new ≡ start ++ flat_map f (take i rs) → new ≡ start ++ flat_map f rs
texts_all f start new rs i past h = h ∙ ap (λ ys. start ++ flat_map f ys) (take_all i rs past)

-- ---- letters

-- what is appended of a letter by its name is appended of the letter
pub of_letter : {A E : Type 0} (r : Result A E) (m : Model) (old new : Bytes) (letters : Letters) (records : Records) (letter named : Letter) → letter ≡ named → OnOk r (OfTree m (λ tree. new ≡ old ++ texts_of_letter (leaves tree) letters records named)) → OnOk r (OfTree m (λ tree. new ≡ old ++ texts_of_letter (leaves tree) letters records letter))
of_letter r m old new letters records letter named is h =
    subst (λ (n : Letter). OnOk r (OfTree m (λ tree. new ≡ old ++ texts_of_letter (leaves tree) letters records n))) (sym is) h

-- the texts of the chosen ones are those of what is chosen
pub ok_chosen : {A E B : Type 0} (r : Result A E) (m : Model) (old new : Bytes) (texts : List Leaf → List B → Bytes) (chosen : Bool) (xs ys zs : List B) → ys ≡ xs → zs ≡ all_if chosen ys → OnOk r (OfTree m (λ tree. new ≡ old ++ texts (leaves tree) zs)) → OnOk r (OfTree m (λ tree. new ≡ old ++ texts (leaves tree) (all_if chosen xs)))
ok_chosen {B = B} r m old new texts chosen xs ys zs e f h =
    subst (λ (is : List B). OnOk r (OfTree m (λ tree. new ≡ old ++ texts (leaves tree) is))) (f ∙ ap (all_if chosen) e) h

-- the lines of the four letters, one after another
pub letters_made : (old new1 new2 new3 new4 : Bytes) (ls : List Leaf) (letters : Letters) (r : Records) → new1 ≡ old ++ texts_of_letter ls letters r Y → new2 ≡ new1 ++ texts_of_letter ls letters r N → new3 ≡ new2 ++ texts_of_letter ls letters r X → new4 ≡ new3 ++ texts_of_letter ls letters r S → new4 ≡ old ++ log_text ls letters r
unfolding log_text
letters_made old new1 new2 new3 new4 ls letters r a b c d =
    let t = texts_of_letter ls letters r in
    d ∙ ap (λ x. x ++ t S) (c ∙ ap (λ x. x ++ t X) (b ∙ ap (λ x. x ++ t N) a)) ∙ four_joined old (t Y) (t N) (t X) (t S)
  where
    four_joined : (old a b c d : Bytes) → (((old ++ a) ++ b) ++ c) ++ d ≡ old ++ (a ++ b ++ c ++ d)
    four_joined old a b c d = simp append_assoc
