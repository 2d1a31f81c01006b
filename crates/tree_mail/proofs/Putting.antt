-- Messages that are put behind those that wait, and what is put once a child more gave or answered.
use Rattle.std.proofs.Common.{◌≡◌, ℕ, zero, suc, Bool, true, false, Option, Some, None, List, [], ◌∷◌, ◌++◌, length, set, refl, sym, ◌∙◌, ap, append-nil}
use Rattle.std.specs.Prelude.{slice_get, if◌then◌else◌}
use Rattle.std.proofs.lemmas.List.{map_push}
use Rattle.tree_tables.specs.declared.entry.Entry.{Entry}
use Rattle.served_tree.specs.Service.{Message, output}
use Rattle.tree_mail.specs.declared.message.Message as code
use Rattle.tree_mail.specs.Notes.{Note, notes_with_change, left_at, with_one_less, left_noted}
use Rattle.tree_mail.specs.Mail.{message_in, messages_in}
use Rattle.tree_mail.specs.Puts.{Puts, is_last, outs_read, component_gives, component_gave, done_with, joined_answer, component_answers}

-- ---- messages

-- one is put
pub put-one : (old new : List code.Message) (m : code.Message) (n : Message) → new ≡ old ++ m ∷ []
    → message_in m ≡ n → Puts old new (n ∷ [])
put-one old new m n is same =
    ap messages_in is ∙ map_push message_in old m ∙ ap (λ x. messages_in old ++ x ∷ []) same

-- none is put
pub put-none : (old new : List code.Message) → new ≡ old → Puts old new []
put-none old new is = ap messages_in is ∙ sym (append-nil (messages_in old))

-- these are put, which are those
pub put-same : (old new : List code.Message) (ms ns : List Message) → ms ≡ ns → Puts old new ms
    → Puts old new ns
put-same old new ms ns same puts = puts ∙ ap (λ xs. messages_in old ++ xs) same

-- ---- one of two, by a test

pub if-so : {X : Type 0} (b : Bool) (x y : X) → b ≡ true → (if b then x else y) ≡ x
if-so b x y is = ap (λ c. if c then x else y) is

pub if-not : {X : Type 0} (b : Bool) (x y : X) → b ≡ false → (if b then x else y) ≡ y
if-not b x y is = ap (λ c. if c then x else y) is

-- ---- a child more of a component gave, or answered

module _ (n : ℕ) (e : Entry) (notes after : List Note) (less : after ≡ with_one_less n notes) where
  -- it was the last to give
  pub gives-on : is_last notes n ≡ true → output n (outs_read after e) ∷ [] ≡ component_gives n e notes
  gives-on last =
      ap (λ ks. output n (outs_read ks e) ∷ []) less
      ∙ sym (if-so (is_last notes n) (output n (outs_read (with_one_less n notes) e) ∷ []) [] last)

  pub gave-on : is_last notes n ≡ true
      → left_noted n (length e.children.items) after ≡ component_gave n e notes
  gave-on last =
      ap (left_noted n (length e.children.items)) less
      ∙ sym (if-so (is_last notes n) (left_noted n (length e.children.items) (with_one_less n notes)) (with_one_less n notes) last)

  -- others have still to give
  pub gives-not : is_last notes n ≡ false → ◌≡◌ {A = List Message} [] (component_gives n e notes)
  gives-not last =
      sym (if-not (is_last notes n) (output n (outs_read (with_one_less n notes) e) ∷ []) [] last)

  pub gave-not : is_last notes n ≡ false → after ≡ component_gave n e notes
  gave-not last =
      less
      ∙ sym (if-not (is_last notes n) (left_noted n (length e.children.items) (with_one_less n notes)) (with_one_less n notes) last)

module _ (n : ℕ) (children : List ℕ) (notes after : List Note) (less : after ≡ with_one_less n notes) where
  -- it was the last to answer
  pub answers-on : is_last notes n ≡ true
      → done_with n (joined_answer after children) ∷ [] ≡ component_answers n children notes
  answers-on last =
      ap (λ ks. done_with n (joined_answer ks children) ∷ []) less
      ∙ sym (if-so (is_last notes n) (done_with n (joined_answer (with_one_less n notes) children) ∷ []) [] last)

  -- others have still to answer
  pub answers-not : is_last notes n ≡ false
      → ◌≡◌ {A = List Message} [] (component_answers n children notes)
  answers-not last =
      sym (if-not (is_last notes n) (done_with n (joined_answer (with_one_less n notes) children) ∷ []) [] last)

-- ---- how many are left

left-set : (notes : List Note) (n : ℕ) (k k' : Note) (m : ℕ) → slice_get notes n ≡ Some k
    → k'.left ≡ k.left → left_at (set notes n k') m ≡ left_at notes m
left-set [] n k k' m is same = refl
left-set (x ∷ xs) zero k k' zero is same =
    let here : x ≡ k = cc in
    same ∙ ap (λ (j : Note). j.left) (sym here)
left-set (x ∷ xs) zero k k' (suc m) is same = refl
left-set (x ∷ xs) (suc n) k k' zero is same = refl
left-set (x ∷ xs) (suc n) k k' (suc m) is same = left-set xs n k k' m is same

-- a change of something else leaves as many
pub left-stays : (notes : List Note) (n : ℕ) (change : Note → Note)
    → ((k : Note) → (change k).left ≡ k.left) → (m : ℕ)
    → left_at (notes_with_change notes n change) m ≡ left_at notes m
left-stays notes n change stays m = by (slice_get notes n) refl
  where
    by : (o : Option Note) → slice_get notes n ≡ o → left_at (notes_with_change notes n change) m ≡ left_at notes m
    by None is =
        ap (λ (o : Option Note). left_at (elim o [ None ↦ notes | Some k ↦ set notes n (change k) ]) m) is
    by (Some k) is =
        ap (λ (o : Option Note). left_at (elim o [ None ↦ notes | Some j ↦ set notes n (change j) ]) m) is
        ∙ left-set notes n k (change k) m is (stays k)
