-- Only what is written is read.
use Rattle.std.proofs.Common.{◌≡◌, ℕ, ◌+◌, ◌==◌, Bool, true, false, cond, Option, Some, None, List}
use Rattle.std.proofs.Common.{[], ◌∷◌, ◌++◌, refl, sym, ap, ◌∙◌, subst, length, codes, IsTrue}
use Rattle.std.proofs.Common.{Result, Ok, Err, drop, nat_lt, nat_le, if◌then◌else◌}
use Rattle.std.proofs.lemmas.List.{append-nil, append_assoc}
use Rattle.std.proofs.lemmas.Slice.Eq.{bytes_eq-Decides}
use Rattle.std.proofs.lemmas.List.Splits.{join_with_byte-slice_split}
use Rattle.std.specs.List.{slice_split, flat_map, join_with_byte}
use Rattle.std.specs.Str.{bytes_eq}
use Rattle.model_tree.specs.Tree.{Tree, Leaf, leaves}
use Rattle.run_model.specs.Cycle.{LeafState}
use Rattle.quantity.specs.Bytes.{Bytes}
use Rattle.quantity.specs.Times.{read_time}
use Rattle.quantity.specs.Written.{if_written, for_some}
use Rattle.text_forms.specs.LogLine.{LogLine, parts_in, is_line, line_in, if_line, line_text}
use Rattle.text_forms.specs.Lines.{line_with_end}
use Rattle.text_forms.specs.declared.refusal.StateRefusal.{StateRefusal}
use Rattle.text_forms.specs.declared.refusal.StateRefusal.TheVariants.{BadStateLine, EndBefore}
use Rattle.text_forms.specs.declared.refusal.StateRefusal.TheVariants.{TooLarge}
use Rattle.text_forms.specs.StateText.{text_of_state, state_lines, leaf_line, leaf_lines, at_line}
use Rattle.text_forms.specs.StateOf.{Saved, next_line, just, nothing_more, leaves_in, read_at}
use Rattle.text_forms.specs.StateOf.{state_at, read_leaf, leaf_state_in, if_leaf_state, line_words}
use Rattle.text_forms.specs.ReadBack.{ReadsNothingElse}

abbrev value_or : {A : Type 0} → Option A → A → A
value_or None d = d
value_or (Some x) d = x

pub same_some : {A : Type 0} (x y : A) → Some x ≡ Some y → x ≡ y
same_some x y e = ap (λ o. value_or o x) e

eq_true : (xs ys : Bytes) → bytes_eq xs ys ≡ true → xs ≡ ys
eq_true xs ys e = (bytes_eq-Decides xs ys).0 e

-- a guess that was kept is written so
module _ {A : Type 0} (write : A → Bytes) (text : Bytes) (x : A) where
  kept_by : (y : A) (b : Bool) → bytes_eq (write y) text ≡ b → cond b (Some y) None ≡ Some x
      → (y ≡ x) × (write y ≡ text)
  kept_by y true e h = (same_some y x h, eq_true (write y) text e)
  kept_by y false e h = absurd cc

  kept : (o : Option A) → if_written write text o ≡ Some x → (o ≡ Some x) × (text ≡ write x)
  kept None h = absurd cc
  kept (Some y) h =
      let k = kept_by y (bytes_eq (write y) text) refl h in (ap Some k.0, sym k.1 ∙ ap write k.0)

line_kept : (o : Option LogLine) (l : LogLine) → if_line o ≡ Some l → IsTrue (is_line l)
line_kept None l h = absurd cc
line_kept (Some m) l h = by (is_line m) refl h
  where
    by : (b : Bool) → is_line m ≡ b → cond b (Some m) None ≡ Some l → IsTrue (is_line l)
    by true e h = subst (λ x. IsTrue (is_line x)) (same_some m l h) e
    by false e h = absurd cc

-- ---- a state's lines

-- a line that is taken has a line end and is read
pub record Taken {A B : Type 0} (read : Bytes → Option A) (parts : List Bytes)
    (go : A → List Bytes → Result B StateRefusal) (b : B) : Type 0 where
  pub line : Bytes
  pub rest : List Bytes
  pub x : A
  pub cut : parts ≡ line ∷ rest
  pub read_as : read line ≡ Some x
  pub on : go x rest ≡ Ok b

module _ {A B : Type 0} (n : ℕ) (read : Bytes → Option A)
    (go : A → List Bytes → Result B StateRefusal) (b : B) where
  taken : (parts : List Bytes) → next_line n read parts go ≡ Ok b → Taken read parts go b
  taken [] h = absurd cc
  taken (line ∷ []) h = absurd cc
  taken (line ∷ next ∷ more) h = by (read line) refl h
    where
      by : (o : Option A) → read line ≡ o
          → (elim o as (λ x. Result B StateRefusal) [ None ↦ Err (BadStateLine n) | Some x ↦ go x (next ∷ more) ]) ≡ Ok b → Taken read (line ∷ next ∷ more) go b
      by None e h = absurd cc
      by (Some x) e h =
          record { line = line; rest = next ∷ more; x = x; cut = refl; read_as = e; on = h }

just_is : (text line x : Bytes) → just text line ≡ Some x → line ≡ text
just_is text line x h = by (bytes_eq line text) refl h
  where
    by : (b : Bool) → bytes_eq line text ≡ b → cond b (Some line) None ≡ Some x → line ≡ text
    by true e h = eq_true line text e
    by false e h = absurd cc

abbrev ok_or : {A : Type 0} → Result A StateRefusal → A → A
ok_or (Ok a) d = a
ok_or (Err e) d = d

same_ok : {A : Type 0} (x y : A) → ◌≡◌ {A = Result A StateRefusal} (Ok x) (Ok y) → x ≡ y
same_ok x y e = ap (λ r. ok_or r x) e

nothing_after : {A : Type 0} (n : ℕ) (x y : A) (parts : List Bytes) → nothing_more n x parts ≡ Ok y
    → (parts ≡ [] ∷ []) × (x ≡ y)
nothing_after n x y ([] ∷ []) h = (refl, same_ok x y h)
nothing_after n x y [] h = absurd cc
nothing_after n x y ([] ∷ next ∷ more) h = absurd cc
nothing_after n x y ((c ∷ cs) ∷ more) h = absurd cc

leaf_kept : (t : ℕ) (l : Leaf) (line : Bytes) (s : LeafState) → read_leaf t l line ≡ Some s
    → line ≡ leaf_line l s
leaf_kept t l line s h =
    (kept (leaf_line l) line s (if_leaf_state t l (leaf_state_in l (drop 2 (line_words line)))) h).1

and_rest : (n t : ℕ) (ls : List Leaf) (s : LeafState) (rest : List Bytes) (ss : List LeafState) (r : Result (List LeafState) StateRefusal) → ((xs : List LeafState) → r ≡ Ok xs → rest ≡ leaf_lines ls xs ++ [] ∷ []) → (elim r as (λ x. Result (List LeafState) StateRefusal) [ Err e ↦ Err e | Ok xs ↦ Ok (s ∷ xs) ]) ≡ Ok ss → (xs : List LeafState) × (rest ≡ leaf_lines ls xs ++ [] ∷ []) × (s ∷ xs ≡ ss)
and_rest n t ls s rest ss (Err e) go h = absurd cc
and_rest n t ls s rest ss (Ok xs) go h = (xs, go xs refl, same_ok (s ∷ xs) ss h)

leaves_lines : (n t : ℕ) (ls : List Leaf) (parts : List Bytes) (ss : List LeafState)
    → leaves_in n t ls parts ≡ Ok ss → parts ≡ leaf_lines ls ss ++ [] ∷ []
leaves_lines n t [] parts ss h =
    let k = taken n (just (codes "end")) (λ e rest. nothing_more (n + 1) [] rest) ss parts h in
    let m = nothing_after (n + 1) [] ss k.rest k.on in
    k.cut ∙ ap (λ l. l ∷ k.rest) (just_is (codes "end") k.line k.x k.read_as)
    ∙ ap (λ r. codes "end" ∷ r) m.0
leaves_lines n t (l ∷ ls) parts ss h =
    let k = taken n (read_leaf t l)
    (λ s rest. elim (leaves_in (n + 1) t ls rest) [
      | Err e ↦ Err e
      | Ok ss ↦ Ok
          (s ∷ ss)
    ]) ss parts h in
    let m = and_rest (n + 1) t ls k.x k.rest ss (leaves_in (n + 1) t ls k.rest)
    (leaves_lines (n + 1) t ls k.rest) k.on in
    k.cut ∙ ap (λ x. x ∷ k.rest) (leaf_kept t l k.line k.x k.read_as)
    ∙ ap (λ r. leaf_line l k.x ∷ r) m.1 ∙ ap (λ xs. leaf_lines (l ∷ ls) xs ++ [] ∷ []) m.2

-- ---- the whole text

cut_at : (bytes : Bytes) (parts : List Bytes) → slice_split (λ c. c == 10) bytes ≡ parts
    → bytes ≡ join_with_byte 10 parts
cut_at bytes parts e = sym (join_with_byte-slice_split 10 bytes) ∙ ap (join_with_byte 10) e

joined : (lines : List Bytes) → join_with_byte 10 (lines ++ [] ∷ []) ≡ flat_map line_with_end lines
joined [] = refl
joined (l ∷ []) = sym (append-nil (line_with_end l))
joined (l ∷ m ∷ ls) =
    ap (λ r. l ++ 10 ∷ r) (joined (m ∷ ls))
    ∙ sym (append_assoc l (10 ∷ []) (flat_map line_with_end (m ∷ ls)))

state_kept : (end t : ℕ) (ls : List Leaf) (parts : List Bytes) (s : Saved)
    → state_at end t ls parts ≡ Ok s → (t ≡ s.time) × (parts ≡ leaf_lines ls s.states ++ [] ∷ [])
state_kept end t ls parts s h = by (nat_lt end t) h
  where
    then_by : (r : Result (List LeafState) StateRefusal) → leaves_in 3 t ls parts ≡ r
        → (elim r as (λ x. Result Saved StateRefusal) [ Err e ↦ Err e | Ok ss ↦ Ok (record { time = t; states = ss }) ]) ≡ Ok s → (t ≡ s.time) × (parts ≡ leaf_lines ls s.states ++ [] ∷ [])
    then_by (Err e) f h = absurd cc
    then_by (Ok ss) f h =
        let same = same_ok (record { time = t; states = ss }) s h in (
          ap (λ (x : Saved). x.time) same,
          leaves_lines 3 t ls parts ss f
              ∙ ap (λ (x : Saved). leaf_lines ls x.states ++ [] ∷ []) same,
        )

    by : (b : Bool)
        → cond b (Err (EndBefore 2)) (elim (leaves_in 3 t ls parts) as (λ x. Result Saved StateRefusal) [ Err e ↦ Err e | Ok ss ↦ Ok (record { time = t; states = ss }) ]) ≡ Ok s → (t ≡ s.time) × (parts ≡ leaf_lines ls s.states ++ [] ∷ [])
    by true h = absurd cc
    by false h = then_by (leaves_in 3 t ls parts) refl h

in_size : (tree : Tree) (end : ℕ) (bytes : Bytes) (s : Saved) (b : Bool)
    → cond b (Err (TooLarge 0)) (next_line 1 (just (codes "state 1")) (slice_split (λ c. c == 10) bytes) (λ first rest. next_line 2 read_at rest (λ t rest. state_at end t (leaves tree) rest))) ≡ Ok s → bytes ≡ text_of_state tree s.time s.states
in_size tree end bytes s true h = absurd cc
in_size tree end bytes s false h =
    let k = taken 1 (just (codes "state 1"))
    (λ first rest. next_line 2 read_at rest (λ t rest. state_at end t (leaves tree) rest)) s
    (slice_split (λ c. c == 10) bytes) h in
    let m = taken 2 read_at (λ t rest. state_at end t (leaves tree) rest) s k.rest k.on in
    let l = state_kept end m.x (leaves tree) m.rest s m.on in
    let at = (kept at_line m.line m.x
    (for_some (read_time (drop 3 m.line))
    (λ t. if nat_le t 359999999 then Some t else None)) m.read_as).1 in
    let lines = k.cut ∙ ap (λ x. x ∷ k.rest) (just_is (codes "state 1") k.line k.x k.read_as)
    ∙ ap (λ r. codes "state 1" ∷ r)
    (m.cut ∙ ap (λ x. x ∷ m.rest) (at ∙ ap at_line l.0) ∙ ap (λ r. at_line s.time ∷ r) l.1) in
    cut_at bytes _ lines ∙ joined (state_lines s.time (leaves tree) s.states)

pub nothing_else : ReadsNothingElse
nothing_else =
    record {
      line =
          λ text l h. let k =
          kept line_text text l (if_line (line_in (parts_in text))) h in
          (k.1, line_kept (line_in (parts_in text)) l k.0);
      state = λ tree end bytes s h. in_size tree end bytes s (nat_lt 268435456 (length bytes)) h;
    }
