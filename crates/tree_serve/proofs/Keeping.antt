-- What is kept of processors, in code and in the definitions.
use Rattle.std.proofs.Common.{◌≡◌, ◌⊎◌, inl, inr, ℕ, zero, suc, ◌<◌, Bool, false, ◌||◌, Option, Some, None, List, [], ◌∷◌, ◌++◌, map, length, set, refl, sym, ◌∙◌, ap, arith}
use Rattle.std.specs.Prelude.{slice_get, unwrap_or}
use Rattle.std.specs.List.{list_any, flat_map}
use Rattle.std.specs.Option.{option_map, is_some}
use Rattle.std.proofs.lemmas.Bool.{cases_eq}
use Rattle.std.proofs.lemmas.List.{length-set}
use Rattle.quantity.specs.declared.place.Offset.{Offset}
use Rattle.cell_grid.specs.Space.{Space, neighbour}
use Rattle.atomic_face.specs.Classes.{Bag}
use Rattle.quantity.specs.Times.{earlier}
use Rattle.run_model.specs.Cycle.{LeafState, has_values, bag_of}
use Rattle.tree_tables.specs.declared.entry.Entry.{Entry}
use Rattle.served_tree.specs.Service as service
use Rattle.served_tree.specs.Service.{StoppedLeaf, kept_of, gave_of, kept_with_change, cell_gave, cell_gave_output, all_gave, all_answered, child_answer, next_of_children, stop_of_children, at_number}
use Rattle.served_tree.specs.Rows.{Ref, own_input, output_of, values_at_ref, read_rows}
use Rattle.served_tree.proofs.Counting.{found-in, changed-same, changed-other, changed-long}
use Rattle.served_tree.proofs.Lists.{same-by-places}
use Rattle.tree_mail.specs.Notes.{Note, heard, all_heard, notes_with_change, has_given, has_answered, left_at}
use Rattle.tree_mail.specs.Mail.{kept_in, all_kept}
use Rattle.tree_serve.proofs.Choosing.{get-same, get-other}

-- ---- one processor's note

pub noted-is : (notes : List Note) (n : ℕ) (k : Note) (f : Note → Note) → slice_get notes n ≡ Some k
    → notes_with_change notes n f ≡ set notes n (f k)
noted-is notes n k f is = ap (λ (o : Option Note). elim o [ None ↦ notes | Some j ↦ set notes n (f j) ]) is

pub noted-same : (notes : List Note) (n : ℕ) (k : Note) (f : Note → Note)
    → slice_get notes n ≡ Some k → slice_get (notes_with_change notes n f) n ≡ Some (f k)
noted-same notes n k f is = ap (λ l. slice_get l n) (noted-is notes n k f is) ∙ get-same notes n k (f k) is

pub noted-other : (notes : List Note) (n x : ℕ) (k : Note) (f : Note → Note)
    → slice_get notes n ≡ Some k → (x ≡ n → ⊥) → slice_get (notes_with_change notes n f) x ≡ slice_get notes x
noted-other notes n x k f is ne = ap (λ l. slice_get l x) (noted-is notes n k f is) ∙ get-other notes n x (f k) ne

pub noted-long : (notes : List Note) (n : ℕ) (k : Note) (f : Note → Note)
    → slice_get notes n ≡ Some k → length (notes_with_change notes n f) ≡ length notes
noted-long notes n k f is = ap length (noted-is notes n k f is) ∙ length-set notes n (f k)

-- ... which may not be there
noted-none : (notes : List Note) (n : ℕ) (f : Note → Note) → slice_get notes n ≡ None
    → notes_with_change notes n f ≡ notes
noted-none notes n f is = ap (λ (o : Option Note). elim o [ None ↦ notes | Some j ↦ set notes n (f j) ]) is

pub noted-length : (notes : List Note) (n : ℕ) (f : Note → Note)
    → length (notes_with_change notes n f) ≡ length notes
noted-length notes n f = by (slice_get notes n) refl
  where
    by : (o : Option Note) → slice_get notes n ≡ o → length (notes_with_change notes n f) ≡ length notes
    by None is = ap length (noted-none notes n f is)
    by (Some k) is = noted-long notes n k f is

pub left-is : (notes : List Note) (n : ℕ) (k : Note) → slice_get notes n ≡ Some k
    → left_at notes n ≡ k.left
left-is notes n k is = ap (λ (o : Option Note). elim o [ None ↦ 0 | Some j ↦ j.left ]) is

-- ---- all of them

pub kept-long : (states : List LeafState) (es : List Entry) (ks : List Note) → length ks ≡ length es
    → length (all_kept states es ks) ≡ length es
kept-long states [] [] e = refl
kept-long states [] (k ∷ ks) e = refl
kept-long states (x ∷ es) [] e = absurd (omega (arith, e))
kept-long states (x ∷ es) (k ∷ ks) e = ap suc (kept-long states es ks (omega (arith, e)))

pub kept-at : (states : List LeafState) (es : List Entry) (ks : List Note) (n : ℕ) (e : Entry)
    (k : Note) → slice_get es n ≡ Some e → slice_get ks n ≡ Some k
    → slice_get (all_kept states es ks) n ≡ Some (kept_in states e k)
kept-at states [] ks n e k e-is k-is = absurd cc
kept-at states (x ∷ es) [] n e k e-is k-is = absurd cc
kept-at states (x ∷ es) (y ∷ ks) zero e k e-is k-is =
    let a : x ≡ e = cc in
    let b : y ≡ k = cc in
    λ i. Some (kept_in states (a i) (b i))
kept-at states (x ∷ es) (y ∷ ks) (suc n) e k e-is k-is = kept-at states es ks n e k e-is k-is

-- nothing is kept
pub none-kept : (states : List LeafState) (es : List Entry) → all_kept states es [] ≡ []
none-kept states [] = refl
none-kept states (e ∷ es) = refl

-- what is kept of each is the same
pub kept-same : (states states' : List LeafState) (es : List Entry) (ks ks' : List Note)
    → length ks ≡ length es → length ks' ≡ length es
    → ((n : ℕ) (e : Entry) (k k' : Note) → slice_get es n ≡ Some e → slice_get ks n ≡ Some k
    → slice_get ks' n ≡ Some k' → kept_in states e k ≡ kept_in states' e k')
    → all_kept states es ks ≡ all_kept states' es ks'
kept-same states states' es ks ks' long long' each =
    let a = kept-long states es ks long in
    let b = kept-long states' es ks' long' in
    same-by-places (all_kept states es ks) (all_kept states' es ks') (a ∙ sym b) (λ n lt.
    let e = found-in es n (omega (arith, lt, a)) in
    let k = found-in ks n (omega (arith, lt, a, long)) in
    let k' = found-in ks' n (omega (arith, lt, a, long')) in
    kept-at states es ks n e.0 k.0 e.1 k.1
    ∙ ap Some (each n e.0 k.0 k'.0 e.1 k.1 k'.1)
    ∙ sym (kept-at states' es ks' n e.0 k'.0 e.1 k'.1))

-- one processor's is changed
pub kept-changed : (states states' : List LeafState) (es : List Entry) (ks ks' : List Note) (n : ℕ)
    (e : Entry) (k k' : Note) (f : service.Kept → service.Kept)
    → length ks ≡ length es → length ks' ≡ length es
    → slice_get es n ≡ Some e → slice_get ks n ≡ Some k → slice_get ks' n ≡ Some k'
    → kept_in states' e k' ≡ f (kept_in states e k)
    → ((m : ℕ) (x : Entry) (y y' : Note) → (m ≡ n → ⊥) → slice_get es m ≡ Some x
    → slice_get ks m ≡ Some y → slice_get ks' m ≡ Some y'
    → kept_in states' x y' ≡ kept_in states x y)
    → all_kept states' es ks' ≡ kept_with_change (all_kept states es ks) n f
kept-changed states states' es ks ks' n e k k' f long long' e-is k-is k'-is here others =
    let a = kept-long states es ks long in
    let b = kept-long states' es ks' long' in
    let at-n = kept-at states es ks n e k e-is k-is in
    let c = changed-long (all_kept states es ks) n (kept_in states e k) f at-n in
    same-by-places (all_kept states' es ks') (kept_with_change (all_kept states es ks) n f) (b ∙ sym (c ∙ a)) (λ m lt.
    let x = found-in es m (omega (arith, lt, b)) in
    let y = found-in ks m (omega (arith, lt, b, long)) in
    let y' = found-in ks' m (omega (arith, lt, b, long')) in
    by m lt x.0 y.0 y'.0 x.1 y.1 y'.1 at-n (cases_eq m n))
  where
    by : (m : ℕ) → m < length (all_kept states' es ks') → (x : Entry) (y y' : Note)
        → slice_get es m ≡ Some x → slice_get ks m ≡ Some y → slice_get ks' m ≡ Some y'
        → slice_get (all_kept states es ks) n ≡ Some (kept_in states e k)
        → (m ≡ n) ⊎ (m ≡ n → ⊥)
        → slice_get (all_kept states' es ks') m ≡ slice_get (kept_with_change (all_kept states es ks) n f) m
    by m lt x y y' x-is y-is y'-is at-n (inl same) =
        ap (slice_get (all_kept states' es ks')) same
        ∙ kept-at states' es ks' n e k' e-is k'-is
        ∙ ap Some here
        ∙ sym (changed-same (all_kept states es ks) n (kept_in states e k) f at-n)
        ∙ ap (slice_get (kept_with_change (all_kept states es ks) n f)) (sym same)
    by m lt x y y' x-is y-is y'-is at-n (inr ne) =
        kept-at states' es ks' m x y' x-is y'-is
        ∙ ap Some (others m x y y' ne x-is y-is y'-is)
        ∙ sym (kept-at states es ks m x y x-is y-is)
        ∙ sym (changed-other (all_kept states es ks) n m (kept_in states e k) f at-n ne)

-- a change that isn't seen
pub unseen : (states : List LeafState) (es : List Entry) (notes : List Note) (q : ℕ)
    (f : Note → Note) → length notes ≡ length es
    → ((e : Entry) (x : Note) → kept_in states e (f x) ≡ kept_in states e x)
    → all_kept states es (notes_with_change notes q f) ≡ all_kept states es notes
unseen states es notes q f long same = by (slice_get notes q) refl
  where
    by : (o : Option Note) → slice_get notes q ≡ o
        → all_kept states es (notes_with_change notes q f) ≡ all_kept states es notes
    by None is = ap (all_kept states es) (noted-none notes q f is)
    by (Some k) is =
        kept-same states states es (notes_with_change notes q f) notes (noted-length notes q f ∙ long) long
        (λ n e j j' e-is j-is j'-is. elim (cases_eq n q) [
          | inl here ↦
              let there : slice_get (notes_with_change notes q f) n ≡ Some (f k) = ap (slice_get (notes_with_change notes q f)) here ∙ noted-same notes q k f is in
              let a : ◌≡◌ {A = Note} j (f k) = cc (there, j-is) in
              let at-q : slice_get notes n ≡ Some k = ap (slice_get notes) here ∙ is in
              let b : ◌≡◌ {A = Note} j' k = cc (at-q, j'-is) in
              ap (kept_in states e) a ∙ same e k ∙ ap (kept_in states e) (sym b)
          | inr ne ↦
              let there : slice_get notes n ≡ Some j = sym (noted-other notes q n k f is ne) ∙ j-is in
              let a : ◌≡◌ {A = Note} j j' = cc (there, j'-is) in
              ap (kept_in states e) a
        ])

-- a note before a change of one
pub record Before (notes : List Note) (q n : ℕ) (f : Note → Note) (j : Note) : Type 0 where
  pub note : Note
  pub there : slice_get notes n ≡ Some note
  pub is : (j ≡ note) ⊎ ((n ≡ q) × (j ≡ f note))

pub before : (notes : List Note) (q n : ℕ) (f : Note → Note) (j : Note)
    → slice_get (notes_with_change notes q f) n ≡ Some j → Before notes q n f j
before notes q n f j j-is = by (slice_get notes q) refl
  where
    by : (o : Option Note) → slice_get notes q ≡ o → Before notes q n f j
    by None is =
        record { note = j; there = sym (ap (λ ks. slice_get ks n) (noted-none notes q f is)) ∙ j-is; is = inl refl }
    by (Some k) is = elim (cases_eq n q) [
      | inl here ↦
          let there : slice_get (notes_with_change notes q f) n ≡ Some (f k) = ap (slice_get (notes_with_change notes q f)) here ∙ noted-same notes q k f is in
          let a : ◌≡◌ {A = Note} j (f k) = cc (there, j-is) in
          record { note = k; there = ap (slice_get notes) here ∙ is; is = inr (here, a) }
      | inr ne ↦ record { note = j; there = sym (noted-other notes q n k f is ne) ∙ j-is; is = inl refl }
    ]

-- ---- two ways to keep that are heard alike

-- what each gave and answered is the same
pub record Alike (a b : List service.Kept) : Type 0 where
  pub gave : (n : ℕ) → option_map (λ (k : service.Kept). k.gave) (slice_get a n) ≡ option_map (λ (k : service.Kept). k.gave) (slice_get b n)
  pub answered : (n : ℕ) → option_map (λ (k : service.Kept). k.answered) (slice_get a n) ≡ option_map (λ (k : service.Kept). k.answered) (slice_get b n)

pub alike-both : (a b c : List service.Kept) → Alike a b → Alike b c → Alike a c
alike-both a b c h k = record { gave = λ n. h.gave n ∙ k.gave n; answered = λ n. h.answered n ∙ k.answered n }

-- notes are heard as what is kept
pub heard-alike : (states : List LeafState) (es : List Entry) (ks : List Note)
    → length ks ≡ length es → Alike (all_heard ks) (all_kept states es ks)
heard-alike states es ks long =
    record {
      gave = λ n. by (λ k. k.gave) (λ e k. refl) n es ks long;
      answered = λ n. by (λ k. k.answered) (λ e k. refl) n es ks long;
    }
  where
    by : {A : Type 0} (part : service.Kept → A)
        → ((e : Entry) (k : Note) → part (heard k) ≡ part (kept_in states e k)) → (n : ℕ)
        → (es : List Entry) (ks : List Note) → length ks ≡ length es
        → option_map part (slice_get (all_heard ks) n) ≡ option_map part (slice_get (all_kept states es ks) n)
    by part same n [] [] e = refl
    by part same n [] (k ∷ ks) e = absurd (omega (arith, e))
    by part same n (x ∷ es) [] e = refl
    by part same zero (x ∷ es) (k ∷ ks) e = ap Some (same x k)
    by part same (suc n) (x ∷ es) (k ∷ ks) e = by part same n es ks (omega (arith, e))

module _ (a b : List service.Kept) (alike : Alike a b) where
  gave-by : (o p : Option service.Kept)
      → option_map (λ (k : service.Kept). k.gave) o ≡ option_map (λ (k : service.Kept). k.gave) p
      → ◌≡◌ {A = Bag} (elim o [ None ↦ [] | Some k ↦ unwrap_or k.gave [] ]) (elim p [ None ↦ [] | Some k ↦ unwrap_or k.gave [] ])
  gave-by None None e = refl
  gave-by None (Some k) e = absurd cc
  gave-by (Some j) None e = absurd cc
  gave-by (Some j) (Some k) e =
      let same : j.gave ≡ k.gave = cc in
      ap (λ o. unwrap_or o []) same

  pub gave-same : (n : ℕ) → gave_of a n ≡ gave_of b n
  gave-same n = gave-by (slice_get a n) (slice_get b n) (alike.gave n)

  answer-by : (o p : Option service.Kept)
      → option_map (λ (k : service.Kept). k.answered) o ≡ option_map (λ (k : service.Kept). k.answered) p
      → ◌≡◌ {A = Option ℕ × StoppedLeaf} (elim o [ None ↦ (None, None) | Some k ↦ unwrap_or k.answered (None, None) ]) (elim p [ None ↦ (None, None) | Some k ↦ unwrap_or k.answered (None, None) ])
  answer-by None None e = refl
  answer-by None (Some k) e = absurd cc
  answer-by (Some j) None e = absurd cc
  answer-by (Some j) (Some k) e =
      let same : j.answered ≡ k.answered = cc in
      ap (λ o. unwrap_or o (None, None)) same

  pub answer-same : (n : ℕ) → child_answer a n ≡ child_answer b n
  answer-same n = answer-by (slice_get a n) (slice_get b n) (alike.answered n)

  read-same : (bag : Bag) (r : Ref) → values_at_ref bag a r ≡ values_at_ref bag b r
  read-same bag (own_input k) = refl
  read-same bag (output_of n port) = ap (λ g. at_number g port) (gave-same n)

  row-same : (bag : Bag) (rs : List Ref) → flat_map (values_at_ref bag a) rs ≡ flat_map (values_at_ref bag b) rs
  row-same bag [] = refl
  row-same bag (r ∷ rs) = λ i. read-same bag r i ++ row-same bag rs i

  rows-same : (bag : Bag) (rows : List (List Ref))
      → map (flat_map (values_at_ref bag a)) rows ≡ map (flat_map (values_at_ref bag b)) rows
  rows-same bag [] = refl
  rows-same bag (r ∷ rows) = λ i. row-same bag r i ∷ rows-same bag rows i

  -- what rows read
  pub reads-same : (bag : Bag) (rows : List (List Ref)) → read_rows bag a rows ≡ read_rows bag b rows
  reads-same bag rows = ap bag_of (rows-same bag rows)

  cell-by : (o : Option ℕ) → ◌≡◌ {A = Bag} (elim o [ None ↦ [] | Some n ↦ gave_of a n ]) (elim o [ None ↦ [] | Some n ↦ gave_of b n ])
  cell-by None = refl
  cell-by (Some n) = gave-same n

  output-same : (children : List ℕ) (o : Option ℕ) → cell_gave_output a children o ≡ cell_gave_output b children o
  output-same children None = refl
  output-same children (Some m) = ap has_values (cell-by (slice_get children m))

  -- whether a cell is woken
  pub woken-same : (children : List ℕ) (space : Space) (offsets : List Offset) (cell : ℕ)
      → list_any (λ o. cell_gave_output a children (neighbour space cell o)) offsets
      ≡ list_any (λ o. cell_gave_output b children (neighbour space cell o)) offsets
  woken-same children space [] cell = refl
  woken-same children space (o ∷ os) cell =
      λ i. output-same children (neighbour space cell o) i || woken-same children space os cell i

  -- the answer of children
  pub least-same : (ns : List ℕ) → next_of_children a ns ≡ next_of_children b ns
  least-same [] = refl
  least-same (n ∷ ns) = λ i. earlier (answer-same n i).0 (least-same ns i)

  pub first-same : (ns : List ℕ) → stop_of_children a ns ≡ stop_of_children b ns
  first-same [] = refl
  first-same (n ∷ ns) =
      λ i. elim (answer-same n i).1 [ None ↦ first-same ns i | Some s ↦ Some s ]

-- ---- whether processors gave and answered

given-by : (o : Option Note) (p : Option service.Kept)
    → option_map (λ (k : Note). k.gave) o ≡ option_map (λ (k : service.Kept). k.gave) p
    → ◌≡◌ {A = Bool} (elim o [ None ↦ false | Some k ↦ is_some k.gave ]) (elim p [ None ↦ false | Some k ↦ is_some k.gave ])
given-by None None e = refl
given-by None (Some k) e = absurd cc
given-by (Some j) None e = absurd cc
given-by (Some j) (Some k) e =
    let same : j.gave ≡ k.gave = cc in
    ap is_some same

answered-by : (o : Option Note) (p : Option service.Kept)
    → option_map (λ (k : Note). k.answered) o ≡ option_map (λ (k : service.Kept). k.answered) p
    → ◌≡◌ {A = Bool} (elim o [ None ↦ false | Some k ↦ is_some k.answered ]) (elim p [ None ↦ false | Some k ↦ is_some k.answered ])
answered-by None None e = refl
answered-by None (Some k) e = absurd cc
answered-by (Some j) None e = absurd cc
answered-by (Some j) (Some k) e =
    let same : j.answered ≡ k.answered = cc in
    ap is_some same

heard-gave : (ks : List Note) (n : ℕ)
    → option_map (λ (k : Note). k.gave) (slice_get ks n) ≡ option_map (λ (k : service.Kept). k.gave) (slice_get (all_heard ks) n)
heard-gave [] n = refl
heard-gave (k ∷ ks) zero = refl
heard-gave (k ∷ ks) (suc n) = heard-gave ks n

heard-answered : (ks : List Note) (n : ℕ)
    → option_map (λ (k : Note). k.answered) (slice_get ks n) ≡ option_map (λ (k : service.Kept). k.answered) (slice_get (all_heard ks) n)
heard-answered [] n = refl
heard-answered (k ∷ ks) zero = refl
heard-answered (k ∷ ks) (suc n) = heard-answered ks n

module _ (states : List LeafState) (es : List Entry) (ks : List Note) (long : length ks ≡ length es) where
  abbrev alike-here : Alike (all_heard ks) (all_kept states es ks)
  alike-here = heard-alike states es ks long

  pub has-given-same : (n : ℕ)
      → has_given ks n ≡ kept_of (λ k. is_some k.gave) false (all_kept states es ks) n
  has-given-same n =
      given-by (slice_get ks n) (slice_get (all_kept states es ks) n) (heard-gave ks n ∙ alike-here.gave n)

  pub has-answered-same : (n : ℕ)
      → has_answered ks n ≡ kept_of (λ k. is_some k.answered) false (all_kept states es ks) n
  has-answered-same n =
      answered-by (slice_get ks n) (slice_get (all_kept states es ks) n) (heard-answered ks n ∙ alike-here.answered n)
