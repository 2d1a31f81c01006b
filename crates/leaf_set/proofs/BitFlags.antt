-- Bits as flags, one for each leaf.
use Rattle.std.proofs.Common.{◌≡◌, ℕ, ◌+◌, ◌-◌, ◌*◌, ◌/◌, ◌<◌, ◌≤◌, Bool, true, false, ◌||◌, List, ◌++◌, length, get_or, set, replicate, refl, sym, subst, ◌∙◌, ap, inl, inr, arith, append-nil, length-set, get_or-set_same, get_or-set_other}
use Rattle.std.specs.List.{filter, range_with_len}
use Rattle.std.proofs.lemmas.Bool.{both_ways, false_from_ne_true, cases_eq, cases_lt}
use Rattle.std.proofs.lemmas.List.{ext_get_or, get_or_past, length-replicate, get_or-replicate}
use Rattle.std.proofs.lemmas.List.FromFn.{length-map-range_with_len, get_or-map-range_with_len}
use Rattle.leaf_set.specs.Members.{is_in, members_of}
use Rattle.leaf_set.specs.Words.{has, those_from, flags_of, SetsBit, Unites, AreMarked}
use Rattle.leaf_set.proofs.ThoseFrom.{those-split, those-none, those-same, length-those}
use Rattle.leaf_set.proofs.WordBits.{none-of-zeros}

pub is_in-flags : (words : List ℕ) (n i : ℕ) → i < n → is_in (flags_of words n) i ≡ has words i
is_in-flags words n i lt = get_or-map-range_with_len (has words) 0 n i i false lt (omega arith)

pub length-flags : (words : List ℕ) (n : ℕ) → length (flags_of words n) ≡ n
length-flags words n = length-map-range_with_len (has words) 0 n

pub flags-none : (words : List ℕ) (n : ℕ) → ((i : ℕ) → has words i ≡ false) → flags_of words n ≡ replicate n false
flags-none words n none =
    let long = length-flags words n in
    ext_get_or false (flags_of words n) (replicate n false) (long ∙ sym (length-replicate n false))
    (λ i lt. is_in-flags words n i (omega (arith, long)) ∙ none i ∙ sym (get_or-replicate n i false false (omega (arith, long))))

pub flags-set : (old new : List ℕ) (n at : ℕ) (bit : Bool) → SetsBit old new at bit → at < n
    → flags_of new n ≡ set (flags_of old n) at bit
flags-set old new n at bit h within =
    let long = length-flags new n in
    let before = length-flags old n in
    ext_get_or false (flags_of new n) (set (flags_of old n) at bit)
    (long ∙ sym before ∙ sym (length-set (flags_of old n) at bit))
    (λ i lt.
    is_in-flags new n i (omega (arith, long))
    ∙ elim (cases_eq i at) as (λ _. has new i ≡ get_or (set (flags_of old n) at bit) i false) [
      | inl same ↦
          ap (has new) same ∙ h.there ∙ sym (get_or-set_same (flags_of old n) at bit false (omega (arith, before)))
          ∙ ap (λ j. get_or (set (flags_of old n) at bit) j false) (sym same)
      | inr other ↦
          h.elsewhere i other ∙ sym (is_in-flags old n i (omega (arith, long)))
          ∙ sym (get_or-set_other (flags_of old n) at i bit false other)
    ])

-- a leaf that is in stays so
pub kept-in-set : (flags : List Bool) (at : ℕ) → at < length flags → is_in flags at ≡ true → flags ≡ set flags at true
kept-in-set flags at within is =
    ext_get_or false flags (set flags at true) (sym (length-set flags at true))
    (λ i lt.
    elim (cases_eq i at) as (λ _. get_or flags i false ≡ get_or (set flags at true) i false) [
      | inl same ↦
          ap (λ j. get_or flags j false) same ∙ is ∙ sym (get_or-set_same flags at true false within)
          ∙ ap (λ j. get_or (set flags at true) j false) (sym same)
      | inr other ↦ sym (get_or-set_other flags at i true false other)
    ])

pub empty-marked : (n blocks : ℕ) → n < 4294967296 → blocks ≡ n / 4096 + 1
    → AreMarked n (replicate (64 * blocks) 0) (replicate blocks 0)
empty-marked n blocks small is =
    let words = length-replicate {A = ℕ} (64 * blocks) 0 in
    let marks = length-replicate {A = ℕ} blocks 0 in
    record {
      whole = omega (arith, words, marks);
      few = omega (arith, words);
      room = omega (arith, words);
      blocks = marks ∙ is;
      within = λ i in_it. absurd (both_ways (has (replicate (64 * blocks) 0) i) (none-of-zeros (64 * blocks) i) in_it);
      marked = λ i in_it. absurd (both_ways (has (replicate (64 * blocks) 0) i) (none-of-zeros (64 * blocks) i) in_it);
    }

pub inserted-marked : (n at : ℕ) (words marks more seen : List ℕ) → AreMarked n words marks → at < n
    → SetsBit words more at true → SetsBit marks seen (at / 64) true → length more ≡ length words → length seen ≡ length marks
    → AreMarked n more seen
inserted-marked n at words marks more seen h within put mark long wide = record {
  whole = let whole = h.whole in omega (arith, long, wide, whole);
  few = let few = h.few in omega (arith, long, few);
  room = let room = h.room in omega (arith, long, room);
  blocks = wide ∙ h.blocks;
  within =
      λ i in_it.
      elim (cases_eq i at) [
        | inl same ↦ omega arith
        | inr other ↦ h.within i (sym (put.elsewhere i other) ∙ in_it)
      ];
  marked =
      λ i in_it.
      elim (cases_eq (i / 64) (at / 64)) [
        | inl same ↦ ap (has seen) same ∙ mark.there
        | inr other ↦
            mark.elsewhere (i / 64) other
            ∙ h.marked i (sym (put.elsewhere i (λ same. other (ap (λ j. j / 64) same))) ∙ in_it)
      ];
}

kept-in : (words less : List ℕ) (at i : ℕ) → SetsBit words less at false → has less i ≡ true → has words i ≡ true
kept-in words less at i cut in_it =
    elim (cases_eq i at) [
      | inl same ↦ absurd (both_ways (has less i) (ap (has less) same ∙ cut.there) in_it)
      | inr other ↦ sym (cut.elsewhere i other) ∙ in_it
    ]

pub removed-marked : (n at : ℕ) (words marks less : List ℕ) → AreMarked n words marks → SetsBit words less at false
    → length less ≡ length words → AreMarked n less marks
removed-marked n at words marks less h cut long = record {
  whole = let whole = h.whole in omega (arith, long, whole);
  few = let few = h.few in omega (arith, long, few);
  room = let room = h.room in omega (arith, long, room);
  blocks = h.blocks;
  within = λ i in_it. h.within i (kept-in words less at i cut in_it);
  marked = λ i in_it. h.marked i (kept-in words less at i cut in_it);
}

pub emptied-marked : (n : ℕ) (words marks none unmarked : List ℕ) → AreMarked n words marks → ((i : ℕ) → has none i ≡ false)
    → length none ≡ length words → length unmarked ≡ length marks → AreMarked n none unmarked
emptied-marked n words marks none unmarked h empty long wide = record {
  whole = let whole = h.whole in omega (arith, long, wide, whole);
  few = let few = h.few in omega (arith, long, few);
  room = let room = h.room in omega (arith, long, room);
  blocks = wide ∙ h.blocks;
  within = λ i in_it. absurd (both_ways (has none i) (empty i) in_it);
  marked = λ i in_it. absurd (both_ways (has none i) (empty i) in_it);
}

-- no member is past the leaves
leaves-alone : (n : ℕ) (words marks : List ℕ) → AreMarked n words marks
    → those_from (has words) 0 (64 * length words) ≡ those_from (has words) 0 n
leaves-alone n words marks h =
    let room = h.room in
    let rest = 64 * length words - n in
    let whole : 64 * length words ≡ n + rest = omega (arith, room) in
    ap (those_from (has words) 0) whole ∙ those-split (has words) 0 n rest n (omega arith)
    ∙ ap (λ ls. those_from (has words) 0 n ++ ls)
    (those-none (has words) n rest (λ i low high. false_from_ne_true (has words i) (λ in_it. let under = h.within i in_it in omega (arith, under))))
    ∙ append-nil (those_from (has words) 0 n)

pub length-leaves : (n : ℕ) (words marks : List ℕ) → AreMarked n words marks → length (those_from (has words) 0 (64 * length words)) ≤ n
length-leaves n words marks h = omega (arith, ap length (leaves-alone n words marks h), length-those (has words) 0 n)

ranges : (flags : List Bool) (n : ℕ) → length flags ≡ n → members_of flags ≡ those_from (is_in flags) 0 n
unfolding those_from
ranges flags n long = ap (λ k. filter (is_in flags) (range_with_len 0 k)) long

pub leaves-are : (n : ℕ) (words marks : List ℕ) → AreMarked n words marks
    → those_from (has words) 0 (64 * length words) ≡ members_of (flags_of words n)
leaves-are n words marks h =
    leaves-alone n words marks h
    ∙ sym (those-same (is_in (flags_of words n)) (has words) 0 n (λ i low high. is_in-flags words n i (omega arith)))
    ∙ sym (ranges (flags_of words n) n (length-flags words n))

pub leaf-within : (n at : ℕ) (words : List ℕ) (flags : List Bool) → flags_of words n ≡ flags → at < length flags → at < n
leaf-within n at words flags is lt = omega (arith, ap length is, length-flags words n)

pub word-within : (n at : ℕ) (words marks : List ℕ) → AreMarked n words marks → at < n
    → (at / 64 < length words) × (at / 64 / 64 < length marks)
word-within n at words marks h lt =
    let room = h.room in
    let whole = h.whole in (omega arith, omega arith)

pub marked-at : (n : ℕ) (words marks new seen : List ℕ) → new ≡ words → seen ≡ marks → AreMarked n words marks → AreMarked n new seen
marked-at n words marks new seen long wide h =
    subst (λ (ws : List ℕ). AreMarked n ws seen) (sym long) (subst (λ (ms : List ℕ). AreMarked n words ms) (sym wide) h)

-- ---- sets that are joined

in-left : (a b c : Bool) → c ≡ (a || b) → a ≡ true → c ≡ true
in-left a b c is here = is ∙ ap (λ x. x || b) here

in-right : (a b c : Bool) → c ≡ (a || b) → b ≡ true → c ≡ true
in-right true b c is here = is
in-right false b c is here = is ∙ here

in-either : (P : Type 0) (a b c : Bool) → c ≡ (a || b) → c ≡ true → (a ≡ true → P) → (b ≡ true → P) → P
in-either P true b c is some left right = left refl
in-either P false b c is some left right = right (sym is ∙ some)

pub joined-marked : (n : ℕ) (words marks more other new seen : List ℕ) → AreMarked n words marks → AreMarked n more other → Unites words more new → Unites marks other seen
    → length new ≡ length words → length seen ≡ length marks → AreMarked n new seen
joined-marked n words marks more other new seen h k put mark long wide = record {
  whole = let whole = h.whole in omega (arith, long, wide, whole);
  few = let few = h.few in omega (arith, long, few);
  room = let room = h.room in omega (arith, long, room);
  blocks = wide ∙ h.blocks;
  within = λ i in_it. in-either (i < n) (has words i) (has more i) (has new i) (put i) in_it (h.within i) (k.within i);
  marked =
      λ i in_it.
      let at = i / 64 in
      in-either (has seen at ≡ true) (has words i) (has more i) (has new i) (put i) in_it
      (λ here. in-left (has marks at) (has other at) (has seen at) (mark at) (h.marked i here))
      (λ here. in-right (has marks at) (has other at) (has seen at) (mark at) (k.marked i here));
}

past-flags : (words : List ℕ) (n i : ℕ) → n ≤ i → is_in (flags_of words n) i ≡ false
past-flags words n i le = get_or_past (flags_of words n) i false (omega (arith, le, length-flags words n))

pub flags-joined : (n m : ℕ) (words more new : List ℕ) → m ≡ n → Unites words more new
    → (i : ℕ) → is_in (flags_of new n) i ≡ (is_in (flags_of words n) i || is_in (flags_of more m) i)
flags-joined n m words more new same put i =
    elim (cases_lt i n) as (λ _. is_in (flags_of new n) i ≡ (is_in (flags_of words n) i || is_in (flags_of more m) i)) [
      | inl lt ↦
          is_in-flags new n i lt ∙ put i
          ∙ (λ k. sym (is_in-flags words n i lt) k || sym (is_in-flags more m i (omega (arith, lt, same))) k)
      | inr le ↦
          past-flags new n i le
          ∙ (λ k. sym (past-flags words n i le) k || sym (past-flags more m i (omega (arith, le, same))) k)
    ]

-- two sets of as many leaves have as many words and marks
pub as-many : (n m : ℕ) (words marks more other : List ℕ) → AreMarked n words marks → AreMarked m more other → m ≡ n → (length more ≡ length words) × (length other ≡ length marks)
as-many n m words marks more other h k same =
    let marks_same : length other ≡ length marks = k.blocks ∙ ap (λ j. j / 4096 + 1) same ∙ sym h.blocks in
    let one = h.whole in
    let two = k.whole in (omega (arith, one, two, marks_same), marks_same)

pub count-same : (n m : ℕ) (words more : List ℕ) (flags others : List Bool) → flags_of words n ≡ flags → flags_of more m ≡ others → length others ≡ length flags → m ≡ n
count-same n m words more flags others own its same =
    omega (arith, ap length own, ap length its, length-flags words n, length-flags more m, same)
