-- How many children of each processor have still to give, or to answer.
use Rattle.std.proofs.Common.{◌≡◌, ◌⊎◌, inl, inr, ℕ, zero, suc, ◌+◌, ◌-◌, ◌<◌, ◌≤◌, Bool, true, false, Option, Some, None, List, [], ◌∷◌, length, set, refl, sym, ◌∙◌, ap, subst, arith, eq-eqb, ne_eqb}
use Rattle.std.specs.Prelude.{slice_get, ◌==◌, ◌&&◌, if◌then◌else◌}
use Rattle.std.specs.List.{list_all}
use Rattle.std.specs.Option.{is_some}
use Rattle.std.proofs.lemmas.Bool.{cases_eq}
use Rattle.std.proofs.lemmas.List.{set-set}
use Rattle.atomic_face.specs.Classes.{Bag}
use Rattle.tree_tables.specs.declared.entry.Entry.{Entry}
use Rattle.served_tree.specs.Service.{StoppedLeaf}
use Rattle.served_tree.specs.Course.{times}
use Rattle.served_tree.proofs.Times.{one_if-same, one_if-other}
use Rattle.served_tree.proofs.Counting.{found-in, found-within}
use Rattle.tree_mail.specs.declared.kept.Became.{Became}
use Rattle.tree_mail.specs.Notes.{Note, notes_with_change, given_noted, answer_noted, move_noted, left_at, with_one_less, left_noted, has_given, has_answered, count_lacking, still, AreLeft}
use Rattle.tree_mail.specs.Mail.{parent_at}
use Rattle.tree_mail.specs.Puts.{is_last, component_gave, after_given}
use Rattle.tree_messages.specs.Changes.{after_answered}
use Rattle.tree_serve.proofs.Keeping.{noted-is, noted-same, noted-other, noted-long, left-is}

-- ---- how many lack something

by-test : (b c : Bool) (m n : ℕ) → b ≡ c → m ≡ n → (if b then 0 else 1) + m ≡ (if c then 0 else 1) + n
by-test b c m n e f = λ i. (if e i then 0 else 1) + f i

lacking-same : (f g : ℕ → Bool) (ns : List ℕ) → ((m : ℕ) → 1 ≤ times m ns → f m ≡ g m)
    → count_lacking f ns ≡ count_lacking g ns
lacking-same f g [] each = refl
lacking-same f g (n ∷ ns) each =
    by-test (f n) (g n) (count_lacking f ns) (count_lacking g ns)
    (each n (omega (arith, one_if-same n n refl)))
    (lacking-same f g ns (λ m le. each m (omega (arith, le))))

-- one more has it
lacking-less : (f g : ℕ → Bool) (x : ℕ) (ns : List ℕ) → times x ns ≡ 1 → f x ≡ false → g x ≡ true
    → ((m : ℕ) → (m ≡ x → ⊥) → f m ≡ g m) → count_lacking f ns ≡ suc (count_lacking g ns)
lacking-less f g x [] once off on others = absurd (omega (arith, once))
lacking-less f g x (n ∷ ns) once off on others =
    by (cases_eq n x) (λ one. lacking-less f g x ns one off on others)
  where
    none : times x ns ≡ 0 → (m : ℕ) → 1 ≤ times m ns → f m ≡ g m
    none zero-times m le = others m (λ e. let h : times m ns ≡ times x ns = ap (λ k. times k ns) e in omega (arith, h, zero-times, le))

    by : (n ≡ x) ⊎ (n ≡ x → ⊥) → (times x ns ≡ 1 → count_lacking f ns ≡ suc (count_lacking g ns))
        → count_lacking f (n ∷ ns) ≡ suc (count_lacking g (n ∷ ns))
    by (inl e) go =
        let one = one_if-same x n e in
        let rest = lacking-same f g ns (none (omega (arith, once, one))) in
        let fn : f n ≡ false = ap f e ∙ off in
        let gn : g n ≡ true = ap g e ∙ on in
        let a : count_lacking f (n ∷ ns) ≡ 1 + count_lacking f ns = ap (λ b. (if b then 0 else 1) + count_lacking f ns) fn in
        let c : count_lacking g (n ∷ ns) ≡ 0 + count_lacking g ns = ap (λ b. (if b then 0 else 1) + count_lacking g ns) gn in
        omega (arith, a, c, rest)
    by (inr ne) go =
        let one = one_if-other x n ne in
        let rest = go (omega (arith, once, one)) in
        let same = by-test (f n) (g n) (count_lacking f ns) (suc (count_lacking g ns)) (others n ne) rest in
        let c : count_lacking g (n ∷ ns) ≡ (if g n then 0 else 1) + count_lacking g ns = refl in
        omega (arith, same, c)

-- none lacks it
all-if : (b c : Bool) (m : ℕ) → (m == 0) ≡ c → ((if b then 0 else 1) + m == 0) ≡ (b && c)
all-if true c m e = ap (λ k. k == 0) (let f : 0 + m ≡ m = omega arith in f) ∙ e
all-if false c m e = ne_eqb (1 + m) 0 (λ h. omega (arith, h))

one-is : (n : ℕ) → (suc n == 1) ≡ (n == 0)
one-is n = elim (cases_eq n 0) [
  | inl e ↦ eq-eqb (suc n) 1 (omega (arith, e)) ∙ sym (eq-eqb n 0 e)
  | inr ne ↦ ne_eqb (suc n) 1 (λ h. ne (omega (arith, h))) ∙ sym (ne_eqb n 0 ne)
]

pub none-lacks : (f : ℕ → Bool) (ns : List ℕ) → (count_lacking f ns == 0) ≡ list_all f ns
none-lacks f [] = refl
none-lacks f (n ∷ ns) = all-if (f n) (list_all f ns) (count_lacking f ns) (none-lacks f ns)

-- all lack it
pub lacking-all : (f : ℕ → Bool) (ns : List ℕ) → ((m : ℕ) → 1 ≤ times m ns → f m ≡ false)
    → count_lacking f ns ≡ length ns
lacking-all f [] each = refl
lacking-all f (n ∷ ns) each =
    let rest = lacking-all f ns (λ m le. each m (omega (arith, le))) in
    let here : count_lacking f (n ∷ ns) ≡ 1 + count_lacking f ns = ap (λ b. (if b then 0 else 1) + count_lacking f ns) (each n (omega (arith, one_if-same n n refl))) in
    omega (arith, here, rest)

-- and none does
lacking-none : (f : ℕ → Bool) (ns : List ℕ) → ((m : ℕ) → 1 ≤ times m ns → f m ≡ true)
    → count_lacking f ns ≡ 0
lacking-none f [] each = refl
lacking-none f (n ∷ ns) each =
    let rest = lacking-none f ns (λ m le. each m (omega (arith, le))) in
    let here : count_lacking f (n ∷ ns) ≡ 0 + count_lacking f ns = ap (λ b. (if b then 0 else 1) + count_lacking f ns) (each n (omega (arith, one_if-same n n refl))) in
    omega (arith, here, rest)

-- ---- what is still to come

still-by : (a b c d : ℕ) → a ≡ c → b ≡ d
    → ◌≡◌ {A = ℕ} (if a == 0 then b else a) (if c == 0 then d else c)
still-by a b c d e f = λ i. if e i == 0 then f i else e i

still-giving : (a b k : ℕ) → a ≡ suc k → ◌≡◌ {A = ℕ} (if a == 0 then b else a) (suc k)
still-giving a b k e =
    ap (λ m. if m == 0 then b else m) e
    ∙ ap (λ t. if t then b else suc k) (ne_eqb (suc k) 0 (λ h. omega (arith, h)))

still-answering : (a b : ℕ) → a ≡ 0 → ◌≡◌ {A = ℕ} (if a == 0 then b else a) b
still-answering a b e = ap (λ m. if m == 0 then b else m) e

pub still-same : (notes notes' : List Note) (ns : List ℕ)
    → ((m : ℕ) → 1 ≤ times m ns → has_given notes' m ≡ has_given notes m)
    → ((m : ℕ) → 1 ≤ times m ns → has_answered notes' m ≡ has_answered notes m)
    → still notes' ns ≡ still notes ns
still-same notes notes' ns given answered =
    still-by (count_lacking (has_given notes') ns) (count_lacking (has_answered notes') ns)
    (count_lacking (has_given notes) ns) (count_lacking (has_answered notes) ns)
    (lacking-same (has_given notes') (has_given notes) ns given)
    (lacking-same (has_answered notes') (has_answered notes) ns answered)

-- ---- one processor's note

given-part : (o p : Option Note) → o ≡ p
    → ◌≡◌ {A = Bool} (elim o [ None ↦ false | Some k ↦ is_some k.gave ]) (elim p [ None ↦ false | Some k ↦ is_some k.gave ])
given-part o p e = ap (λ (q : Option Note). elim q [ None ↦ false | Some k ↦ is_some k.gave ]) e

answered-part : (o p : Option Note) → o ≡ p
    → ◌≡◌ {A = Bool} (elim o [ None ↦ false | Some k ↦ is_some k.answered ]) (elim p [ None ↦ false | Some k ↦ is_some k.answered ])
answered-part o p e = ap (λ (q : Option Note). elim q [ None ↦ false | Some k ↦ is_some k.answered ]) e

module _ (notes : List Note) (n : ℕ) (k : Note) (is : slice_get notes n ≡ Some k)
    (f : Note → Note) where
  pub has_given-other : (m : ℕ) → (m ≡ n → ⊥) → has_given (notes_with_change notes n f) m ≡ has_given notes m
  has_given-other m ne = given-part (slice_get (notes_with_change notes n f) m) (slice_get notes m) (noted-other notes n m k f is ne)

  pub has_answered-other : (m : ℕ) → (m ≡ n → ⊥)
      → has_answered (notes_with_change notes n f) m ≡ has_answered notes m
  has_answered-other m ne = answered-part (slice_get (notes_with_change notes n f) m) (slice_get notes m) (noted-other notes n m k f is ne)

  pub has_given-here : has_given (notes_with_change notes n f) n ≡ is_some (f k).gave
  has_given-here = given-part (slice_get (notes_with_change notes n f) n) (Some (f k)) (noted-same notes n k f is)

  pub has_answered-here : has_answered (notes_with_change notes n f) n ≡ is_some (f k).answered
  has_answered-here = answered-part (slice_get (notes_with_change notes n f) n) (Some (f k)) (noted-same notes n k f is)

  -- where neither changes
  pub has_given-all : (f k).gave ≡ k.gave → (m : ℕ) → has_given (notes_with_change notes n f) m ≡ has_given notes m
  has_given-all same m = elim (cases_eq m n) [
    | inl e ↦ ap (has_given (notes_with_change notes n f)) e ∙ has_given-here ∙ ap is_some same ∙ sym (given-part (slice_get notes n) (Some k) is) ∙ ap (has_given notes) (sym e)
    | inr ne ↦ has_given-other m ne
  ]

  pub has_answered-all : (f k).answered ≡ k.answered
      → (m : ℕ) → has_answered (notes_with_change notes n f) m ≡ has_answered notes m
  has_answered-all same m = elim (cases_eq m n) [
    | inl e ↦ ap (has_answered (notes_with_change notes n f)) e ∙ has_answered-here ∙ ap is_some same ∙ sym (answered-part (slice_get notes n) (Some k) is) ∙ ap (has_answered notes) (sym e)
    | inr ne ↦ has_answered-other m ne
  ]

pub has_given-is : (notes : List Note) (n : ℕ) (k : Note) → slice_get notes n ≡ Some k
    → has_given notes n ≡ is_some k.gave
has_given-is notes n k is = given-part (slice_get notes n) (Some k) is

pub has_answered-is : (notes : List Note) (n : ℕ) (k : Note) → slice_get notes n ≡ Some k
    → has_answered notes n ≡ is_some k.answered
has_answered-is notes n k is = answered-part (slice_get notes n) (Some k) is

twice-noted : (notes : List Note) (n : ℕ) (k : Note) (f g : Note → Note) → slice_get notes n ≡ Some k
    → notes_with_change (notes_with_change notes n f) n g ≡ notes_with_change notes n (λ x. g (f x))
twice-noted notes n k f g is =
    noted-is (notes_with_change notes n f) n (f k) g (noted-same notes n k f is)
    ∙ ap (λ l. set l n (g (f k))) (noted-is notes n k f is)
    ∙ set-set notes n (f k) (g (f k))
    ∙ sym (noted-is notes n k (λ x. g (f x)) is)

-- ---- families

-- each processor but top stands once among the children of its parent, and nowhere else
pub record Family (entries : List Entry) : Type 0 where
  pub only : (n m : ℕ) (e : Entry) → slice_get entries n ≡ Some e → 1 ≤ times m e.children.items
      → (0 < m) × (m < length entries) × (parent_at entries m ≡ n)
  pub once : (m : ℕ) (e : Entry) → 0 < m → m < length entries
      → slice_get entries (parent_at entries m) ≡ Some e → times m e.children.items ≡ 1
  pub top : length entries ≤ parent_at entries 0

-- one with a parent isn't top
pub not-top : (entries : List Entry) → Family entries → (m : ℕ) (e : Entry)
    → slice_get entries (parent_at entries m) ≡ Some e → 0 < m
not-top entries family zero e is =
    let within = found-within entries (parent_at entries 0) e is in
    let top = family.top in
    absurd (omega (arith, within, top))
not-top entries family (suc m) e is = omega arith

module _ (entries : List Entry) (family : Family entries) (notes : List Note)
    (long : length notes ≡ length entries) (left : AreLeft entries notes) (from : ℕ) (k : Note)
    (k-is : slice_get notes from ≡ Some k) where
  within : from < length entries
  within = let h = found-within notes from k k-is in omega (arith, h, long)

  -- where this one isn't a child, nothing changes
  elsewhere : (f : Note → Note) (n : ℕ) (e : Entry) → slice_get entries n ≡ Some e
      → (parent_at entries from ≡ n → ⊥)
      → still (notes_with_change notes from f) e.children.items ≡ still notes e.children.items
  elsewhere f n e is ne =
      let other : (m : ℕ) → 1 ≤ times m e.children.items → m ≡ from → ⊥ = λ m le same. ne (ap (parent_at entries) (sym same) ∙ (family.only n m e is le).2) in
      still-same notes (notes_with_change notes from f) e.children.items
      (λ m le. has_given-other notes from k k-is f m (other m le))
      (λ m le. has_answered-other notes from k k-is f m (other m le))

  -- ---- it changes neither what it gave nor what it answered

  left-all : (f : Note → Note) → (f k).gave ≡ k.gave → (f k).answered ≡ k.answered
      → (f k).left ≡ k.left → AreLeft entries (notes_with_change notes from f)
  left-all f gave answered same n e j e-is j-is =
      let stays = still-same notes (notes_with_change notes from f) e.children.items (λ m le. has_given-all notes from k k-is f gave m) (λ m le. has_answered-all notes from k k-is f answered m) in
      elim (cases_eq n from) [
        | inl here ↦
            let there : slice_get (notes_with_change notes from f) n ≡ Some (f k) = ap (slice_get (notes_with_change notes from f)) here ∙ noted-same notes from k f k-is in
            let is : ◌≡◌ {A = Note} j (f k) = cc (there, j-is) in
            ap (λ (x : Note). x.left) is ∙ same ∙ left n e k e-is (ap (slice_get notes) here ∙ k-is) ∙ sym stays
        | inr ne ↦ left n e j e-is (sym (noted-other notes from n k f k-is ne) ∙ j-is) ∙ sym stays
      ]

  pub left-after-move : (bag : Bag) (became : Became) → AreLeft entries (move_noted from bag became notes)
  left-after-move bag became = left-all (λ x. record x { took = bag; became = became }) refl refl refl

  -- ---- it gave

  module _ (bag : Bag) (first : k.gave ≡ None) where
    abbrev gave : List Note
    gave = given_noted from bag notes

    gave-note : Note → Note
    gave-note x = record x { gave = Some bag }

    lacked : has_given notes from ≡ false
    lacked = has_given-is notes from k k-is ∙ ap is_some first

    has : has_given gave from ≡ true
    has = has_given-here notes from k k-is (λ x. record x { gave = Some bag })

    given-others : (m : ℕ) → (m ≡ from → ⊥) → has_given notes m ≡ has_given gave m
    given-others m ne = sym (has_given-other notes from k k-is (λ x. record x { gave = Some bag }) m ne)

    answered-all : (m : ℕ) → has_answered gave m ≡ has_answered notes m
    answered-all m = has_answered-all notes from k k-is (λ x. record x { gave = Some bag }) refl m

    gave-long : length gave ≡ length entries
    gave-long = noted-long notes from k (λ x. record x { gave = Some bag }) k-is ∙ long

    -- what is noted of another is as before
    other-note : (n : ℕ) (j : Note) → slice_get gave n ≡ Some j
        → (i : Note) × (slice_get notes n ≡ Some i) × (j.left ≡ i.left)
    other-note n j is = elim (cases_eq n from) [
      | inl here ↦
          let there : slice_get gave n ≡ Some (record k { gave = Some bag }) = ap (slice_get gave) here ∙ noted-same notes from k (λ x. record x { gave = Some bag }) k-is in
          let same : ◌≡◌ {A = Note} j (record k { gave = Some bag }) = cc (there, is) in
          (k, ap (slice_get notes) here ∙ k-is, ap (λ (x : Note). x.left) same)
      | inr ne ↦ (j, sym (noted-other notes from n k (λ x. record x { gave = Some bag }) k-is ne) ∙ is, refl)
    ]

    -- top gave
    left-of-top : slice_get entries (parent_at entries from) ≡ None → AreLeft entries gave
    left-of-top root n e j e-is j-is =
        let i = other-note n j j-is in
        let ne : parent_at entries from ≡ n → ⊥ = λ h. let x : ◌≡◌ {A = Option Entry} None (Some e) = sym root ∙ ap (slice_get entries) h ∙ e-is in absurd cc in
        i.2 ∙ left n e i.0 e-is i.1 ∙ sym (elsewhere (λ x. record x { gave = Some bag }) n e e-is ne)

    module _ (q : ℕ) (qe : Entry) (q-is : parent_at entries from ≡ q) (qe-is : slice_get entries q ≡ Some qe) where
      here-once : times from qe.children.items ≡ 1
      here-once =
          let there : slice_get entries (parent_at entries from) ≡ Some qe = ap (slice_get entries) q-is ∙ qe-is in
          family.once from qe (not-top entries family from qe there) within there

      one-fewer : count_lacking (has_given notes) qe.children.items ≡ suc (count_lacking (has_given gave) qe.children.items)
      one-fewer = lacking-less (has_given notes) (has_given gave) from qe.children.items here-once lacked has given-others

      q-note : (j : Note) × (slice_get notes q ≡ Some j)
      q-note = found-in notes q (let h = found-within entries q qe qe-is in omega (arith, h, long))

      -- as many as haven't given
      left-there : left_at notes q ≡ suc (count_lacking (has_given gave) qe.children.items)
      left-there =
          left-is notes q q-note.0 q-note.1 ∙ left q qe q-note.0 qe-is q-note.1
          ∙ still-giving (count_lacking (has_given notes) qe.children.items) (count_lacking (has_answered notes) qe.children.items) (count_lacking (has_given gave) qe.children.items) one-fewer

      pub some-left : 1 ≤ left_at notes q
      some-left = omega (arith, left-there)

      left-gave : left_at gave q ≡ left_at notes q
      left-gave =
          let j = found-in gave q (let h = found-within entries q qe qe-is in omega (arith, h, gave-long)) in
          let i = other-note q j.0 j.1 in
          left-is gave q j.0 j.1 ∙ i.2 ∙ sym (left-is notes q i.0 i.1)

      last-by : is_last gave q ≡ (count_lacking (has_given gave) qe.children.items == 0)
      last-by =
          ap (λ m. m == 1) (left-gave ∙ left-there)
          ∙ one-is (count_lacking (has_given gave) qe.children.items)

      -- it is the last just where all have given
      pub last-gave : is_last gave q ≡ list_all (has_given gave) qe.children.items
      last-gave = last-by ∙ none-lacks (has_given gave) qe.children.items

      module _ (none-answered : (m : ℕ) → 1 ≤ times m qe.children.items → has_answered notes m ≡ false) where
        fewer : List Note
        fewer = with_one_less q gave

        q-gave : (j : Note) × (slice_get gave q ≡ Some j)
        q-gave = found-in gave q (let h = found-within entries q qe qe-is in omega (arith, h, gave-long))

        -- left counts don't matter to what is still to come
        still-left : (f : Note → Note) → ((x : Note) → (f x).gave ≡ x.gave) → ((x : Note) → (f x).answered ≡ x.answered)
            → (ns : List ℕ) → still (notes_with_change gave q f) ns ≡ still gave ns
        still-left f a b ns =
            still-same gave (notes_with_change gave q f) ns
            (λ m le. has_given-all gave q q-gave.0 q-gave.1 f (a q-gave.0) m)
            (λ m le. has_answered-all gave q q-gave.0 q-gave.1 f (b q-gave.0) m)

        -- so many are left of the parent, and of others as before
        left-set : (f : Note → Note) → ((x : Note) → (f x).gave ≡ x.gave) → ((x : Note) → (f x).answered ≡ x.answered)
            → (f q-gave.0).left ≡ still gave qe.children.items → AreLeft entries (notes_with_change gave q f)
        left-set f a b now n e j e-is j-is = elim (cases_eq n q) [
          | inl here ↦
              let there : slice_get (notes_with_change gave q f) n ≡ Some (f q-gave.0) = ap (slice_get (notes_with_change gave q f)) here ∙ noted-same gave q q-gave.0 f q-gave.1 in
              let same : ◌≡◌ {A = Note} j (f q-gave.0) = cc (there, j-is) in
              let entry : slice_get entries n ≡ Some qe = ap (slice_get entries) here ∙ qe-is in
              let same-entry : ◌≡◌ {A = Entry} e qe = cc (entry, e-is) in
              ap (λ (x : Note). x.left) same ∙ now ∙ ap (λ (x : Entry). still gave x.children.items) (sym same-entry) ∙ sym (still-left f a b e.children.items)
          | inr ne ↦
              let i = other-note n j (sym (noted-other gave q n q-gave.0 f q-gave.1 ne) ∙ j-is) in
              i.2 ∙ left n e i.0 e-is i.1
              ∙ sym (elsewhere (λ x. record x { gave = Some bag }) n e e-is (λ h. ne (sym h ∙ q-is)))
              ∙ sym (still-left f a b e.children.items)
        ]

        -- some have still to give
        left-while : (j : ℕ) → count_lacking (has_given gave) qe.children.items ≡ suc j → AreLeft entries (with_one_less q gave)
        left-while j some =
            left-set (λ x. record x { left = x.left - 1 }) (λ x. refl) (λ x. refl)
            (let l : q-gave.0.left ≡ suc (count_lacking (has_given gave) qe.children.items) = sym (left-is gave q q-gave.0 q-gave.1) ∙ left-gave ∙ left-there in
            let s = still-giving (count_lacking (has_given gave) qe.children.items) (count_lacking (has_answered gave) qe.children.items) j some in
            omega (arith, l, s, some))

        -- all have given, and none has answered
        still-to-answer : count_lacking (has_given gave) qe.children.items ≡ 0 → still gave qe.children.items ≡ length qe.children.items
        still-to-answer none =
            still-answering (count_lacking (has_given gave) qe.children.items) (count_lacking (has_answered gave) qe.children.items) none
            ∙ lacking-all (has_answered gave) qe.children.items (λ m le. answered-all m ∙ none-answered m le)

        left-once-all : count_lacking (has_given gave) qe.children.items ≡ 0
            → AreLeft entries (left_noted q (length qe.children.items) (with_one_less q gave))
        left-once-all none =
            subst (AreLeft entries)
            (sym (twice-noted gave q q-gave.0 (λ x. record x { left = x.left - 1 }) (λ x. record x { left = length qe.children.items }) q-gave.1))
            (left-set (λ x. record x { left = length qe.children.items }) (λ x. refl) (λ x. refl) (sym (still-to-answer none)))

        pub left-after-child : AreLeft entries (component_gave q qe gave)
        left-after-child = by (count_lacking (has_given gave) qe.children.items) refl
          where
            by : (m : ℕ) → count_lacking (has_given gave) qe.children.items ≡ m → AreLeft entries (component_gave q qe gave)
            by zero none =
                subst (λ b. AreLeft entries (if b then left_noted q (length qe.children.items) (with_one_less q gave) else with_one_less q gave))
                (sym (last-by ∙ eq-eqb (count_lacking (has_given gave) qe.children.items) 0 none)) (left-once-all none)
            by (suc j) some =
                subst (λ b. AreLeft entries (if b then left_noted q (length qe.children.items) (with_one_less q gave) else with_one_less q gave))
                (sym (last-by ∙ ne_eqb (count_lacking (has_given gave) qe.children.items) 0 (λ h. omega (arith, h, some)))) (left-while j some)

    -- once it gave
    pub left-after-given : ((qe : Entry) → slice_get entries (parent_at entries from) ≡ Some qe
        → (m : ℕ) → 1 ≤ times m qe.children.items → has_answered notes m ≡ false)
        → AreLeft entries (after_given entries from gave)
    left-after-given none-answered = by (slice_get entries (parent_at entries from)) refl
      where
        by : (o : Option Entry) → slice_get entries (parent_at entries from) ≡ o → AreLeft entries (after_given entries from gave)
        by None is =
            subst (λ (o : Option Entry). AreLeft entries (elim o [ None ↦ gave | Some e ↦ component_gave (parent_at entries from) e gave ]))
            (sym is) (left-of-top is)
        by (Some qe) is =
            subst (λ (o : Option Entry). AreLeft entries (elim o [ None ↦ gave | Some e ↦ component_gave (parent_at entries from) e gave ]))
            (sym is) (left-after-child (parent_at entries from) qe refl is (none-answered qe is))

  -- ---- it answered

  module _ (answer : Option ℕ × StoppedLeaf) (first : k.answered ≡ None) where
    abbrev told : List Note
    told = answer_noted from answer notes

    unanswered : has_answered notes from ≡ false
    unanswered = has_answered-is notes from k k-is ∙ ap is_some first

    answered : has_answered told from ≡ true
    answered = has_answered-here notes from k k-is (λ x. record x { answered = Some answer })

    told-others : (m : ℕ) → (m ≡ from → ⊥) → has_answered notes m ≡ has_answered told m
    told-others m ne = sym (has_answered-other notes from k k-is (λ x. record x { answered = Some answer }) m ne)

    given-all : (m : ℕ) → has_given told m ≡ has_given notes m
    given-all m = has_given-all notes from k k-is (λ x. record x { answered = Some answer }) refl m

    told-long : length told ≡ length entries
    told-long = noted-long notes from k (λ x. record x { answered = Some answer }) k-is ∙ long

    told-note : (n : ℕ) (j : Note) → slice_get told n ≡ Some j
        → (i : Note) × (slice_get notes n ≡ Some i) × (j.left ≡ i.left)
    told-note n j is = elim (cases_eq n from) [
      | inl here ↦
          let there : slice_get told n ≡ Some (record k { answered = Some answer }) = ap (slice_get told) here ∙ noted-same notes from k (λ x. record x { answered = Some answer }) k-is in
          let same : ◌≡◌ {A = Note} j (record k { answered = Some answer }) = cc (there, is) in
          (k, ap (slice_get notes) here ∙ k-is, ap (λ (x : Note). x.left) same)
      | inr ne ↦ (j, sym (noted-other notes from n k (λ x. record x { answered = Some answer }) k-is ne) ∙ is, refl)
    ]

    told-of-top : slice_get entries (parent_at entries from) ≡ None → AreLeft entries told
    told-of-top root n e j e-is j-is =
        let i = told-note n j j-is in
        let ne : parent_at entries from ≡ n → ⊥ = λ h. let x : ◌≡◌ {A = Option Entry} None (Some e) = sym root ∙ ap (slice_get entries) h ∙ e-is in absurd cc in
        i.2 ∙ left n e i.0 e-is i.1 ∙ sym (elsewhere (λ x. record x { answered = Some answer }) n e e-is ne)

    module _ (q : ℕ) (qe : Entry) (q-is : parent_at entries from ≡ q) (qe-is : slice_get entries q ≡ Some qe)
        (all-given : (m : ℕ) → 1 ≤ times m qe.children.items → has_given notes m ≡ true) where
      told-once : times from qe.children.items ≡ 1
      told-once =
          let there : slice_get entries (parent_at entries from) ≡ Some qe = ap (slice_get entries) q-is ∙ qe-is in
          family.once from qe (not-top entries family from qe there) within there

      one-fewer-waits : count_lacking (has_answered notes) qe.children.items ≡ suc (count_lacking (has_answered told) qe.children.items)
      one-fewer-waits = lacking-less (has_answered notes) (has_answered told) from qe.children.items told-once unanswered answered told-others

      none-to-give : count_lacking (has_given notes) qe.children.items ≡ 0
      none-to-give = lacking-none (has_given notes) qe.children.items all-given

      still-told : still told qe.children.items ≡ count_lacking (has_answered told) qe.children.items
      still-told =
          still-answering (count_lacking (has_given told) qe.children.items) (count_lacking (has_answered told) qe.children.items)
          (lacking-same (has_given told) (has_given notes) qe.children.items (λ m le. given-all m) ∙ none-to-give)

      told-q : (j : Note) × (slice_get notes q ≡ Some j)
      told-q = found-in notes q (let h = found-within entries q qe qe-is in omega (arith, h, long))

      waits-there : left_at notes q ≡ suc (count_lacking (has_answered told) qe.children.items)
      waits-there =
          left-is notes q told-q.0 told-q.1 ∙ left q qe told-q.0 qe-is told-q.1
          ∙ still-answering (count_lacking (has_given notes) qe.children.items) (count_lacking (has_answered notes) qe.children.items) none-to-give
          ∙ one-fewer-waits

      pub some-waits-there : 1 ≤ left_at notes q
      some-waits-there = omega (arith, waits-there)

      q-told : (j : Note) × (slice_get told q ≡ Some j)
      q-told = found-in told q (let h = found-within entries q qe qe-is in omega (arith, h, told-long))

      left-told : left_at told q ≡ left_at notes q
      left-told =
          let i = told-note q q-told.0 q-told.1 in
          left-is told q q-told.0 q-told.1 ∙ i.2 ∙ sym (left-is notes q i.0 i.1)

      -- it is the last just where all have answered
      pub last-told : is_last told q ≡ list_all (has_answered told) qe.children.items
      last-told =
          ap (λ m. m == 1) (left-told ∙ waits-there)
          ∙ one-is (count_lacking (has_answered told) qe.children.items)
          ∙ none-lacks (has_answered told) qe.children.items

      told-left : (ns : List ℕ) → still (with_one_less q told) ns ≡ still told ns
      told-left ns =
          still-same told (with_one_less q told) ns
          (λ m le. has_given-all told q q-told.0 q-told.1 (λ x. record x { left = x.left - 1 }) refl m)
          (λ m le. has_answered-all told q q-told.0 q-told.1 (λ x. record x { left = x.left - 1 }) refl m)

      pub told-after-child : AreLeft entries (with_one_less q told)
      told-after-child n e j e-is j-is = elim (cases_eq n q) [
        | inl here ↦
            let f : Note → Note = λ x. record x { left = x.left - 1 } in
            let there : slice_get (with_one_less q told) n ≡ Some (f q-told.0) = ap (slice_get (with_one_less q told)) here ∙ noted-same told q q-told.0 f q-told.1 in
            let same : ◌≡◌ {A = Note} j (f q-told.0) = cc (there, j-is) in
            let entry : slice_get entries n ≡ Some qe = ap (slice_get entries) here ∙ qe-is in
            let same-entry : ◌≡◌ {A = Entry} e qe = cc (entry, e-is) in
            let l : q-told.0.left ≡ suc (count_lacking (has_answered told) qe.children.items) = sym (left-is told q q-told.0 q-told.1) ∙ left-told ∙ waits-there in
            let now : (f q-told.0).left ≡ still told qe.children.items = (let m : q-told.0.left - 1 ≡ count_lacking (has_answered told) qe.children.items = omega (arith, l) in m) ∙ sym still-told in
            ap (λ (x : Note). x.left) same ∙ now ∙ ap (λ (x : Entry). still told x.children.items) (sym same-entry) ∙ sym (told-left e.children.items)
        | inr ne ↦
            let i = told-note n j (sym (noted-other told q n q-told.0 (λ x. record x { left = x.left - 1 }) q-told.1 ne) ∙ j-is) in
            i.2 ∙ left n e i.0 e-is i.1
            ∙ sym (elsewhere (λ x. record x { answered = Some answer }) n e e-is (λ h. ne (sym h ∙ q-is)))
            ∙ sym (told-left e.children.items)
      ]

    -- once it answered
    pub left-after-answered : ((qe : Entry) → slice_get entries (parent_at entries from) ≡ Some qe
        → (m : ℕ) → 1 ≤ times m qe.children.items → has_given notes m ≡ true)
        → AreLeft entries (after_answered entries from told)
    left-after-answered all-given = by (slice_get entries (parent_at entries from)) refl
      where
        by : (o : Option Entry) → slice_get entries (parent_at entries from) ≡ o → AreLeft entries (after_answered entries from told)
        by None is =
            subst (λ (o : Option Entry). AreLeft entries (elim o [ None ↦ told | Some e ↦ with_one_less (parent_at entries from) told ]))
            (sym is) (told-of-top is)
        by (Some qe) is =
            subst (λ (o : Option Entry). AreLeft entries (elim o [ None ↦ told | Some e ↦ with_one_less (parent_at entries from) told ]))
            (sym is) (told-after-child (parent_at entries from) qe refl is (all-given qe is))
