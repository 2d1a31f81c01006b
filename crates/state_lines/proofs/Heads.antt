-- The lines of a saved state that are of no leaf.
use Rattle.std.proofs.Common.{◌≡◌, ℕ, suc, ◌+◌, ◌<◌, ◌≤◌, Bool, true, false, cond, Option, Some}
use Rattle.std.proofs.Common.{None, List, [], ◌∷◌, ◌++◌, refl, sym, ap, ◌∙◌, arith, length, codes}
use Rattle.std.specs.Prelude.{Result, Ok, Err}
use Rattle.std.specs.List.{onto_first}
use Rattle.std.specs.Option.{option_map}
use Rattle.std.specs.Str.{bytes_eq}
use Rattle.quantity.specs.Bytes.{Bytes, is_byte}
use Rattle.quantity.specs.Written.{for_some}
use Rattle.run_model.specs.Cycle.{LeafState}
use Rattle.run_model.proofs.Basics.{some_same}
use Rattle.text_forms.specs.declared.refusal.StateRefusal.{StateRefusal}
use Rattle.text_forms.specs.declared.refusal.StateRefusal.TheVariants.{BadStateLine}
use Rattle.text_forms.specs.StateOf.{just, next_line, nothing_more}
use Rattle.state_lines.specs.Parts.{behind_text, ended_at, line_in, parts_of, refused_at}

-- ---- one line

-- a line that is missing or not read is refused
pub line_none : {A B : Type 0} (n : ℕ) (read : Bytes → Option A) (parts : List Bytes) (go : A
    → List Bytes → Result B StateRefusal)
    → line_in read parts ≡ None → next_line n read parts go ≡ Err (BadStateLine n)
line_none n read [] go e = refl
line_none n read (line ∷ []) go e = refl
line_none {A = A} {B = B} n read (line ∷ next ∷ more) go e = by (read line) e
  where
    by : (o : Option A) → for_some {B = A × List Bytes} o (λ x. Some (x, next ∷ more)) ≡ None
        → elim o as (λ x. Result B StateRefusal) [
          | None ↦ Err (BadStateLine n)
          | Some x ↦ go x
              (next ∷ more)
        ] ≡ Err (BadStateLine n)
    by None e = refl
    by (Some x) e = absurd cc

-- where it is read, its reader goes on
pub line_some : {A B : Type 0} (n : ℕ) (read : Bytes → Option A) (parts : List Bytes) (go : A
    → List Bytes → Result B StateRefusal) (x : A) (rest : List Bytes)
    → line_in read parts ≡ Some (x, rest) → next_line n read parts go ≡ go x rest
line_some n read [] go x rest e = absurd cc
line_some n read (line ∷ []) go x rest e = absurd cc
line_some {A = A} {B = B} n read (line ∷ next ∷ more) go x rest e = by (read line) e
  where
    by : (o : Option A) → for_some {B = A × List Bytes} o (λ x. Some (x, next ∷ more))
        ≡ Some (x, rest)
        → elim o as (λ x. Result B StateRefusal) [
          | None ↦ Err (BadStateLine n)
          | Some x ↦ go x
              (next ∷ more)
        ] ≡ go x rest
    by None e = absurd cc
    by (Some y) e = ap (λ (p : A × List Bytes). go p.0 p.1) (some_same (y, next ∷ more) (x, rest) e)

-- a text that is to stand there
text_by : {B : Type 0} (n : ℕ) (text : Bytes) (parts : List Bytes) (go : List Bytes
    → Result B StateRefusal) (o : Option (Bytes × List Bytes)) → line_in (just text) parts ≡ o
    → next_line n (just text) parts (λ e rest. go rest)
    ≡ elim (option_map (λ (p : Bytes × List Bytes). p.1) o) as (λ x. Result B StateRefusal)
    [ None ↦ Err (BadStateLine n) | Some rest ↦ go rest ]
text_by n text parts go None e = line_none n (just text) parts (λ e rest. go rest) e
text_by n text parts go (Some p) e = line_some n (just text) parts (λ e rest. go rest) p.0 p.1 e

pub by_text : {B : Type 0} (n : ℕ) (text : Bytes) (parts : List Bytes) (go : List Bytes
    → Result B StateRefusal) (o : Option (List Bytes)) → o ≡ behind_text text parts
    → next_line n (just text) parts (λ e rest. go rest) ≡ elim o as (λ x. Result B StateRefusal)
    [ None ↦ Err (BadStateLine n) | Some rest ↦ go rest ]
by_text {B = B} n text parts go o e =
    text_by n text parts go (line_in (just text) parts) refl
    ∙ ap (λ (o : Option (List Bytes)). elim o as (λ x. Result B StateRefusal)
    [ None ↦ Err (BadStateLine n) | Some rest ↦ go rest ]) (sym e)

-- ---- the end

-- a text has a first part
pub record HasPart (parts : List Bytes) : Type 0 where
  pub first : Bytes
  pub others : List Bytes
  pub is : parts ≡ first ∷ others

pub some_part : (text : Bytes) → HasPart (parts_of text)
some_part [] = record { first = []; others = []; is = refl }
some_part (c ∷ cs) = by (some_part cs) (is_byte 10 c)
  where
    by : HasPart (parts_of cs) → (b : Bool)
        → HasPart (cond b ([] ∷ parts_of cs) (onto_first c (parts_of cs)))
    by has true = record { first = []; others = parts_of cs; is = refl }
    by has false = record {
      first = c ∷ has.first;
      others = has.others;
      is =
          ap (onto_first c) has.is;
    }

-- and more than an empty one, where it isn't empty
filled : (n c : ℕ) (cs : Bytes) → nothing_more {A = List LeafState} n [] (parts_of (c ∷ cs))
    ≡ Err (BadStateLine n)
filled n c cs = by (some_part cs) (is_byte 10 c)
  where
    by : HasPart (parts_of cs) → (b : Bool)
        → nothing_more {A = List LeafState} n []
        (cond b ([] ∷ parts_of cs) (onto_first c (parts_of cs))) ≡ Err (BadStateLine n)
    by has true = ap (λ ps. nothing_more {A = List LeafState} n [] ([] ∷ ps)) has.is
    by has false = ap (λ ps. nothing_more {A = List LeafState} n [] (onto_first c ps)) has.is
        ∙ two has.others
      where
        two : (ps : List Bytes) → nothing_more {A = List LeafState} n [] ((c ∷ has.first) ∷ ps)
            ≡ Err (BadStateLine n)
        two [] = refl
        two (p ∷ ps) = refl

pub end_followed : (n : ℕ) (parts : List Bytes) (behind : Bytes)
    → Some (parts_of behind) ≡ behind_text (codes "end") parts → 0 < length behind
    → ended_at n parts ≡ refused_at (Some (n + 1))
end_followed n parts [] e h = absurd (none h)
  where
    none : 0 < 0 → ⊥
    none h = omega (arith, h)
end_followed n parts (c ∷ cs) e h =
    by_text n (codes "end") parts (nothing_more (n + 1) []) (Some (parts_of (c ∷ cs))) e
    ∙ filled (n + 1) c cs

-- ---- the line in front

pub here : {A : Type 0} (read : Bytes → Option A) (parts : List Bytes) (first behind : Bytes)
    (o : Option A) → parts ≡ first ∷ parts_of behind → o ≡ read first
    → for_some {B = A × List Bytes} o (λ x. Some (x, parts_of behind)) ≡ line_in read parts
here {A = A} read parts first behind o h e =
    let p = some_part behind in
    ap (λ o. for_some {B = A × List Bytes} o (λ x. Some (x, parts_of behind))) e
    ∙ ap (λ ps. for_some {B = A × List Bytes} (read first) (λ x. Some (x, ps))) p.is
    ∙ sym (ap (line_in read) (h ∙ ap (λ ps. first ∷ ps) p.is))

pub this_text : (line : Bytes) (parts : List Bytes) (first behind : Bytes)
    → parts ≡ first ∷ parts_of behind → bytes_eq first line ≡ true
    → Some (parts_of behind) ≡ behind_text line parts
this_text line parts first behind h e =
    ap (option_map (λ (p : Bytes × List Bytes). p.1))
    (here (just line) parts first behind (Some first) h
    (sym (ap (λ b. cond b (Some first) None) e)))
