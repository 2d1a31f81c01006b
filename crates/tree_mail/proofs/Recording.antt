-- The records of a cycle, processor by processor.
use Rattle.std.proofs.Common.{◌≡◌, ℕ, ◌+◌, ◌<◌, Bool, List, [], ◌∷◌, ◌++◌, map, drop, length, get_or, sym, ◌∙◌, ap, append_assoc}
use Rattle.std.specs.List.{filter}
use Rattle.std.proofs.lemmas.List.{map-append}
use Rattle.std.proofs.lemmas.List.Elements.{filter-append}
use Rattle.quantity.specs.declared.value.Value.{Value}
use Rattle.atomic_face.specs.declared.class.PortNo.{PortNo}
use Rattle.atomic_face.specs.Classes.{Bag}
use Rattle.run_model.specs.Run.{PortRecord, port_records, is_of_out}
use Rattle.text_forms.specs.declared.records.Records.{Records}
use Rattle.text_forms.specs.Held.{y_at, x_at, s_at}
use Rattle.tree_tables.specs.declared.entry.Entry.{Entry}
use Rattle.tree_mail.specs.Notes.{Note}
use Rattle.tree_mail.specs.Recorded.{given_records, taken_records, move_records, of_leaf_at, by_leaf, is_further, Adds}
use Rattle.tree_mail.proofs.Rest.{rest-at}

-- ---- one leaf's

abbrev pub record_at : ℕ → PortNo × Value → PortRecord
record_at l o = record { leaf = l; port = o.0.0; value = o.1 }

-- the first before the others
pub ports-first : (t l : ℕ) (p : PortRecord → Bool) (x : PortNo × Value) (rest : Bag)
    → map (y_at t) (filter p (port_records (l, x ∷ rest)))
    ≡ map (y_at t) (filter p (port_records (l, x ∷ []))) ++ map (y_at t) (filter p (port_records (l, rest)))
ports-first t l p x rest =
    ap (map (y_at t)) (filter-append p (record_at l x ∷ []) (port_records (l, rest)))
    ∙ map-append (y_at t) (filter p (record_at l x ∷ [])) (filter p (port_records (l, rest)))

-- ---- all leaves'

-- one processor's were added, and the others are still to be
by-leaf-further : {A B : Type 0} (of : ℕ → Note → List A) (make : List A → List B)
    → ((xs ys : List A) → make (xs ++ ys) ≡ make xs ++ make ys) → (es : List Entry) (ks : List Note) (i : ℕ)
    (de e : Entry) (dk k : Note) → i < length es → e ≡ get_or es i de → i < length ks → k ≡ get_or ks i dk
    → (old new whole : List B) → new ≡ old ++ make (of_leaf_at of e.leaf k)
    → old ++ make (by_leaf of (drop i es) (drop i ks)) ≡ whole
    → new ++ make (by_leaf of (drop (i + 1) es) (drop (i + 1) ks)) ≡ whole
by-leaf-further of make both es ks i de e dk k e-in e-is k-in k-is old new whole more so =
    let rest = by_leaf of (drop (i + 1) es) (drop (i + 1) ks) in
    ap (λ ys. ys ++ make rest) more
    ∙ append_assoc old (make (of_leaf_at of e.leaf k)) (make rest)
    ∙ ap (λ ys. old ++ ys) (sym (both (of_leaf_at of e.leaf k) rest))
    ∙ (λ j. old ++ make (by_leaf of (sym (rest-at es i de e e-in e-is) j) (sym (rest-at ks i dk k k-in k-is) j)))
    ∙ so

-- of the processors from this number on the records are still to be added
pub record AddedTo (t : ℕ) (entries : List Entry) (notes : List Note) (i : ℕ) (records : Records) : Type 0 where
  pub y : records.y.items ++ map (y_at t) (filter is_of_out (by_leaf given_records (drop i entries) (drop i notes)))
      ≡ map (y_at t) (filter is_of_out (by_leaf given_records entries notes))
  pub n : records.n.items ++ map (y_at t) (filter is_further (by_leaf given_records (drop i entries) (drop i notes)))
      ≡ map (y_at t) (filter is_further (by_leaf given_records entries notes))
  pub x : records.x.items ++ map (x_at t) (by_leaf taken_records (drop i entries) (drop i notes))
      ≡ map (x_at t) (by_leaf taken_records entries notes)
  pub s : records.s.items ++ map (s_at t) (by_leaf move_records (drop i entries) (drop i notes))
      ≡ map (s_at t) (by_leaf move_records entries notes)
  pub out : records.out.items ≡ []

pub added-further : (t : ℕ) (entries : List Entry) (notes : List Note) (i : ℕ) (de e : Entry) (dk k : Note)
    → i < length entries → e ≡ get_or entries i de → i < length notes → k ≡ get_or notes i dk
    → (old new : Records)
    → Adds t (of_leaf_at given_records e.leaf k) (of_leaf_at taken_records e.leaf k) (of_leaf_at move_records e.leaf k) old new
    → AddedTo t entries notes i old → AddedTo t entries notes (i + 1) new
added-further t entries notes i de e dk k e-in e-is k-in k-is old new adds so =
    record {
      y = by-leaf-further given_records (λ rs. map (y_at t) (filter is_of_out rs)) (λ xs ys. ap (map (y_at t)) (filter-append is_of_out xs ys) ∙ map-append (y_at t) (filter is_of_out xs) (filter is_of_out ys)) entries notes i de e dk k e-in e-is k-in k-is old.y.items new.y.items (map (y_at t) (filter is_of_out (by_leaf given_records entries notes))) adds.y so.y;
      n = by-leaf-further given_records (λ rs. map (y_at t) (filter is_further rs)) (λ xs ys. ap (map (y_at t)) (filter-append is_further xs ys) ∙ map-append (y_at t) (filter is_further xs) (filter is_further ys)) entries notes i de e dk k e-in e-is k-in k-is old.n.items new.n.items (map (y_at t) (filter is_further (by_leaf given_records entries notes))) adds.n so.n;
      x = by-leaf-further taken_records (map (x_at t)) (map-append (x_at t)) entries notes i de e dk k e-in e-is k-in k-is old.x.items new.x.items (map (x_at t) (by_leaf taken_records entries notes)) adds.x so.x;
      s = by-leaf-further move_records (map (s_at t)) (map-append (s_at t)) entries notes i de e dk k e-in e-is k-in k-is old.s.items new.s.items (map (s_at t) (by_leaf move_records entries notes)) adds.s so.s;
      out = adds.out ∙ so.out;
    }
