-- How boxes are taken and settled, one component after another.
use Rattle.std.proofs.Common.{◌≡◌, ℕ, zero, suc, ◌+◌, Bool, true, false, not, ◌&&◌, ◌==◌, cond, Option, Some, None, List, [], ◌∷◌, length, set, get_or, refl, sym, ap, ◌∙◌, arith, slice_get, nat_lt, nat_le, ◌++◌, map, subst, Ok, Err, ◌<◌, ◌≤◌, take, drop}
use Rattle.std.specs.List.{list_any, position, position_or_len, count_by, HoldsAt, list_all, filter, filter_map, cons_option, AllByRecursion}
use Rattle.std.specs.Option.{is_some, option_map, option_or, option_and_then}
use Rattle.std.proofs.lemmas.Bool.{and_parts, not-true, lt-ltb, le-leb, lt-leb, ne_eqb, or_parts, or_from, and_left}
use Rattle.std.proofs.lemmas.Bool.Decides.{nat_tests}
use Rattle.std.proofs.lemmas.List.Folds.{fold-map, list_any-append}
use Rattle.std.proofs.lemmas.List.Quantifiers.{position-Some}
use Rattle.std.proofs.lemmas.Grind.{common_steps}
use Rattle.std.proofs.lemmas.List.Sums.{sum_by-cons, sum_by-set, sum_by_push}
use Rattle.std.proofs.lemmas.Option.{gets, slice_get-get_or, slice_get_within, get_or_from_slice_get}
use Rattle.atomic_face.specs.declared.class.Class.{Class}
use Rattle.atomic_face.proofs.ClassNumbers.{same_class-swapped, same_class-is}
use Rattle.atomic_face.specs.Held.{same_class, Held}
use Rattle.atomic_face.specs.StockView.{Stocked, is_of, is_free}
use Rattle.model_text.specs.declared.kind.Kind.{Kind}
use Rattle.model_text.specs.declared.kind.Kind.TheVariants.{UnknownClass, OutOfStock, BadParameter}
use Rattle.model_text.specs.Stock.{boxes_of, box_refused, class_of_item, params_of, params_refused, component_refused, first_component_refused, stock_refused}
use Rattle.model_build.specs.Settled.{classes_of, name_and_class, named_item, started_box, box_of_item, are_apart}
use Rattle.model_build.specs.Taken.{lacks, taken_of, HasOnce, Adds, Settles, lacks_class, component_lacks, off_of_box, kind_of_stock, Stands}
use Rattle.std.specs.Prelude.{◌&&◌, ◌≢◌, IfSome, IsTrue, ◌==◌}
use Rattle.std.proofs.lemmas.List.{length-set, length-map, get_or-set_same, get_or-map, drop_more, set-set, map-set, set-get_or, append-nil, append_assoc, map-append, map_push, take_all, take-append-drop}
use Rattle.ma_lines.specs.Sections.{Section}
use Rattle.atomic_face.specs.declared.stock.BoxNo.{BoxNo}
use Rattle.atomic_face.specs.declared.stock.StockRefusal.{StockRefusal}
use Rattle.atomic_face.specs.declared.stock.StockRefusal.TheVariants.{UnknownClass, OutOfStock}
use Rattle.atomic_face.specs.declared.params.Param.{Param}
use Rattle.atomic_face.specs.BoxCalls.{box_at_start}
use Rattle.atomic_face.specs.Settings.{settings_of, first_line_off}
use Rattle.atomic_face.specs.Once.{are_once}
use Rattle.atomic_face.specs.Stocked.{ChangesBox, TakesFirst}
use Rattle.model_tree.specs.declared.group.Atomic.{Atomic}
use Rattle.model_text.specs.declared.kind.Kind.TheVariants as Off
use Rattle.model_text.specs.Refusals.{Refusal, refusal}
use Rattle.model_text.specs.Keyed.{Item}
use Rattle.model_text.specs.Walk.{item_name, is_atomic, atomics}
use Rattle.model_walk.specs.Shown.{item_of}
use Rattle.std.proofs.Math.Bool.{and-true, and-false}
use Rattle.std.proofs.lemmas.List.Elements.{All-get_or, All-from_recursion, filter_map-append}
use Rattle.quantity.specs.Bytes.{Bytes}
use Rattle.model_walk.specs.declared.item.Item as kept
use Rattle.model_walk.specs.declared.walked.Walked.{Walked}
use Rattle.model_walk.specs.Met.{IsWalk}

-- ---- counts

abbrev pub one_if : Bool → ℕ
one_if b = cond b 1 0

pub count-cons : {X : Type 0} (p : X → Bool) (x : X) (xs : List X) → count_by p (x ∷ xs) ≡ one_if (p x) + count_by p xs
count-cons p x xs = sum_by-cons (λ y. one_if (p y)) x xs

-- one item is replaced
pub count-set : {X : Type 0} (p : X → Bool) (xs : List X) (i : ℕ) (x y : X) → slice_get xs i ≡ Some x → count_by p (set xs i y) + one_if (p x) ≡ count_by p xs + one_if (p y)
count-set p xs i x y e =
    ap (λ z. count_by p (set xs i y) + one_if (p z)) (sym (get_or_from_slice_get xs i x x e)) ∙ sum_by-set (λ z. one_if (p z)) xs i y x (slice_get_within xs i x e)

any-counted : {X : Type 0} (p : X → Bool) (xs : List X) → list_any p xs ≡ nat_lt 0 (count_by p xs)
any-counted p [] = refl
any-counted p (x ∷ xs) = grind (arith, nat_tests, count-cons p x xs, any-counted p xs)

-- ---- the first that passes

pub found-at : {X : Type 0} (p : X → Bool) (xs : List X) (i : ℕ) → position p xs ≡ Some i → (x : X) × (slice_get xs i ≡ Some x) × (p x ≡ true)
found-at p [] i e = absurd cc
found-at p (x ∷ xs) i e = let at = position-Some p (x ∷ xs) i x e in (get_or (x ∷ xs) i x, slice_get-get_or (x ∷ xs) i x at.0, at.1)

pub first-there : {X : Type 0} (p : X → Bool) (xs : List X) → nat_lt (position_or_len p xs) (length xs) ≡ list_any p xs
first-there p [] = refl
first-there p (x ∷ xs) = grind (arith, nat_tests, first-there p xs)

-- ---- boxes

boxes-counted : (c : Class) (stock : List Stocked) → boxes_of c (classes_of stock) ≡ count_by (is_of c) stock
boxes-counted c stock =
    fold-map (λ n k. n + one_if (same_class c k)) (λ (s : Stocked). s.box.kind) 0 stock ∙ (λ i. count_by (λ (s : Stocked). same_class-swapped c s.box.kind i) stock)

-- boxes are taken or free
parts-counted : (c : Class) (stock : List Stocked) → count_by (is_of c) stock ≡ taken_of c stock + count_by (is_free c) stock
parts-counted c [] = refl
parts-counted c (s ∷ ss) = grind (arith, count-cons (is_of c) s ss, count-cons (λ (t : Stocked). is_of c t && t.taken) s ss, count-cons (is_free c) s ss, parts-counted c ss)

-- ---- why there is no box

-- of n boxes of a class m are taken and f are free
kinds : (n m f i : ℕ) → n ≡ m + f
    → ◌≡◌ {A = Option Kind} (cond (is_some (cond (nat_lt 0 f) (Some i) None)) None (cond (nat_lt 0 n) (Some OutOfStock) (Some UnknownClass))) (cond (n == 0) (Some UnknownClass) (cond (nat_le n m) (Some OutOfStock) None))
kinds zero m zero i e = refl
kinds zero m (suc f) i e = absurd (let no : ⊥ = omega (arith, e) in no)
kinds (suc n) m zero i e = simp (lt-ltb 0 (suc n) (omega arith), ne_eqb (suc n) 0 (λ f. omega (arith, f)), le-leb (suc n) m (omega (arith, e)))
kinds (suc n) m (suc f) i e = simp (lt-ltb 0 (suc f) (omega arith), ne_eqb (suc n) 0 (λ f. omega (arith, f)), lt-leb (suc n) m (omega (arith, e)))

-- the stock says what the counts say
pub lacks-box : (c : Class) (stock : List Stocked) (taken : List Class) → taken_of c stock ≡ boxes_of c taken → lacks stock c ≡ box_refused (classes_of stock) taken (Some c)
lacks-box c stock taken same =
    let free : nat_lt (position_or_len (is_free c) stock) (length stock) ≡ nat_lt 0 (count_by (is_free c) stock) = first-there (is_free c) stock ∙ any-counted (is_free c) stock in
    (λ k. cond (is_some (cond (free k) (Some (position_or_len (is_free c) stock)) None)) None (cond (any-counted (is_of c) stock k) (Some OutOfStock) (Some UnknownClass)))
    ∙ kinds (count_by (is_of c) stock) (boxes_of c taken) (count_by (is_free c) stock) (position_or_len (is_free c) stock) (parts-counted c stock ∙ ap (λ k. k + count_by (is_free c) stock) same)
    ∙ ap (λ n. cond (n == 0) (Some UnknownClass) (cond (nat_le n (boxes_of c taken)) (Some OutOfStock) None)) (sym (boxes-counted c stock))

-- ---- lists

pub get-set : {X : Type 0} (xs : List X) (i : ℕ) (x a : X) → slice_get xs i ≡ Some x → slice_get (set xs i a) i ≡ Some a
get-set xs i x a e =
    let within : i < length xs = slice_get_within xs i x e in
    slice_get-get_or (set xs i a) i a (omega (arith, length-set xs i a)) ∙ ap Some (get_or-set_same xs i a a within)

pub get-other : {X : Type 0} (xs : List X) (i k : ℕ) (y : X) → k ≢ i → slice_get (set xs i y) k ≡ slice_get xs k
get-other xs i k y ne = grind (arith, common_steps, gets)

pub map-set_same : {A B : Type 0} (f : A → B) (xs : List A) (i : ℕ) (o y : A) → o ≡ get_or xs i o → f y ≡ f o → map f (set xs i y) ≡ map f xs
map-set_same f xs i o y e same =
    map-set f xs i y ∙ ap (λ b. set (map f xs) i b) same ∙ sym (map-set f xs i o) ∙ ap (λ v. map f (set xs i v)) e ∙ ap (λ ys. map f ys) (set-get_or xs i o)

-- ---- taking

-- the box that is taken: what it was, and what the stock is now
pub record Took (c : Class) (at : ℕ) (old new : List Stocked) : Type 0 where
  pub before : Stocked
  pub stood : slice_get old at ≡ Some before
  pub free : is_free c before ≡ true
  pub kind : before.box.kind ≡ c
  pub list : new ≡ set old at (record before { taken = true })
  pub stands : slice_get new at ≡ Some (record before { taken = true })

pub took : (c : Class) (old new : List Stocked) (at : BoxNo) → TakesFirst c old new (Ok at) → Took c at.0 old new
took c old new at h =
    let x = found-at (is_free c) old at.0 h.0 in
    let parts = and_parts (is_of c x.0) (not x.0.taken) x.2 in
    let list : new ≡ set old at.0 (record (x.0) { taken = true }) = h.1 x.0 ∙ ap (λ (s : Stocked). set old at.0 (record s { taken = true })) (get_or_from_slice_get old at.0 x.0 x.0 x.1) in
    record {
      before = x.0;
      stood = x.1;
      free = x.2;
      kind = same_class-is x.0.box.kind c parts.0;
      list = list;
      stands = ap (λ ss. slice_get ss at.0) list ∙ get-set old at.0 x.0 (record (x.0) { taken = true }) x.1;
    }

pub take-keeps : (c : Class) (old new : List Stocked) (at : BoxNo) → TakesFirst c old new (Ok at) → classes_of new ≡ classes_of old
take-keeps c old new at h =
    let t = took c old new at h in
    ap classes_of t.list ∙ map-set_same (λ (s : Stocked). s.box.kind) old at.0 t.before (record (t.before) { taken = true }) (sym (get_or_from_slice_get old at.0 t.before t.before t.stood)) refl

no-free : (c : Class) (stock : List Stocked) → list_any (is_of c) stock ≡ false → list_any (is_free c) stock ≡ false
no-free c [] e = refl
no-free c (s ∷ ss) e =
    let p = or_parts (is_of c s) (list_any (is_of c) ss) e in
    or_from (is_free c s) (list_any (is_free c) ss) (and_left (is_of c s) (not s.taken) p.0) (no-free c ss p.1)

pub some-lacks : (c : Class) (stock : List Stocked) (i : ℕ) → position (is_free c) stock ≡ Some i → lacks stock c ≡ None
some-lacks c stock i e = ap (λ (o : Option ℕ). cond (is_some o) None (cond (list_any (is_of c) stock) (Some (kind_of_stock OutOfStock)) (Some (kind_of_stock UnknownClass)))) e

pub take-lacks : (c : Class) (old new : List Stocked) (r : StockRefusal) → TakesFirst c old new (Err r) → lacks old c ≡ Some (kind_of_stock r)
take-lacks c old new UnknownClass h = rw (first-there (is_free c) old, no-free c old h.0, h.0)
take-lacks c old new OutOfStock h = rw (h.1, h.0)

-- ---- settling

-- a box that is replaced by one of its class
pub change-keeps : {R : Held → Held → Type 0} (at : ℕ) (old new : List Stocked) → ChangesBox R at old new → ((a b : Held) → R a b → b.kind ≡ a.kind) → classes_of new ≡ classes_of old
change-keeps at old new h same =
    ap classes_of h.list
    ∙ map-set_same (λ (s : Stocked). s.box.kind) old at h.before (record (h.before) { box = h.after }) (sym (get_or_from_slice_get old at h.before h.before h.stood)) (same h.before.box h.after h.made)

-- ---- one component

abbrev stocked : Held → Bool → Stocked
stocked b t = record { box = b; taken = t }

pub adds : (ss : List Section) (i : Item) (c : Class) (at : BoxNo) (old mid new : List Stocked) (front all : List Atomic)
    → class_of_item i ≡ Some c → TakesFirst c old mid (Ok at) → ChangesBox (Settles (params_of ss i)) at.0 mid new
    → all ≡ front ++ record { name = item_name i; class = c; at = at } ∷ [] → Adds ss i old new front all
adds ss i c at old mid new front all known t s added =
    let k = took c old mid at t in
    let box = k.before.box in
    let was : s.before ≡ stocked box true = cc (s.stood, k.stands) in
    let kind : s.before.box.kind ≡ c = ap (λ (b : Stocked). b.box.kind) was ∙ k.kind in
    let after : s.after ≡ box_at_start c (settings_of c (params_of ss i)) = s.made.1 ∙ ap (λ d. box_at_start d (settings_of d (params_of ss i))) kind in
    record {
      class = c;
      at = at;
      before = k.before;
      known = known;
      found = t.0;
      stood = k.stood;
      free = k.free;
      right = ap (λ d. first_line_off d (params_of ss i)) (sym kind) ∙ s.made.0;
      settled = s.list ∙ ap (λ ys. set ys at.0 (stocked s.after s.before.taken)) k.list ∙ set-set old at.0 (stocked box true) (stocked s.after s.before.taken)
          ∙ ap (λ t. set old at.0 (stocked s.after t)) (ap (λ (b : Stocked). b.taken) was) ∙ ap (λ b. set old at.0 (stocked b true)) after;
      added = added;
    }

pub has-once : (ss : List Section) (i : Item) (c : Class) (old new : List Stocked) (at : BoxNo) → class_of_item i ≡ Some c → HasOnce ss i → TakesFirst c old new (Ok at)
    → HoldsAt (λ (s : Stocked). IsTrue (are_once s.box.kind (params_of ss i))) new at.0
has-once ss i c old new at known once t = λ d.
    let k = took c old new at t in
    let is : get_or new at.0 d ≡ stocked k.before.box true = get_or_from_slice_get new at.0 (stocked k.before.box true) d k.stands in
    ap (λ (s : Stocked). are_once s.box.kind (params_of ss i)) is ∙ ap (λ b. are_once b (params_of ss i)) k.kind ∙ subst (λ (o : Option Class). IfSome o (λ k. are_once k (params_of ss i) ≡ true)) known once

abbrev pub off_of_kind : List Param → Class → Option Refusal
off_of_kind ps c = option_map (λ line. refusal line Off.BadParameter) (first_line_off c ps)

-- where a box is free the parameters decide
pub passes-box : (ss : List Section) (stock : List Stocked) (i : Item) (c : Class) (at : ℕ) → class_of_item i ≡ Some c → position (is_free c) stock ≡ Some at → component_lacks ss stock i ≡ off_of_kind (params_of ss i) c
passes-box ss stock i c at e f =
    ap (λ o. option_or (option_map (refusal i.line) (lacks_class stock o)) (option_and_then (off_of_kind (params_of ss i)) o)) e
    ∙ ap (λ o. option_or (option_map (refusal i.line) o) (off_of_kind (params_of ss i) c)) (some-lacks c stock at f)

pub off-form : (ss : List Section) (old new : List Stocked) (i : Item) (c : Class) (at : BoxNo) (why : Refusal) → class_of_item i ≡ Some c → TakesFirst c old new (Ok at)
    → HoldsAt (λ (s : Stocked). off_of_box (params_of ss i) s.box ≡ Some why) new at.0 → component_lacks ss old i ≡ Some why
off-form ss old new i c at why e t h =
    let k = took c old new at t in
    let is : get_or new at.0 k.before ≡ stocked k.before.box true = get_or_from_slice_get new at.0 (stocked k.before.box true) k.before k.stands in
    let off : off_of_box (params_of ss i) k.before.box ≡ Some why = ap (λ (s : Stocked). off_of_box (params_of ss i) s.box) (sym is) ∙ h k.before in
    passes-box ss old i c at.0 e t.0 ∙ ap (λ d. off_of_kind (params_of ss i) d) (sym k.kind) ∙ off

-- ---- what is refused

-- the component that comes next is refused for what the stock lacks
pub comes : (ss : List Section) (classes : List Class) (stock : List Stocked) (found : List Atomic) (done : List Item) (i : Item) → Stands ss classes stock found done
    → component_lacks ss stock i ≡ component_refused ss classes (filter_map class_of_item done) i
comes ss classes stock found done i h = ap (λ o. option_or (option_map (refusal i.line) o) (params_refused ss i)) (by (class_of_item i))
  where
    by : (o : Option Class) → lacks_class stock o ≡ box_refused classes (filter_map class_of_item done) o
    by None = refl
    by (Some c) = lacks-box c stock (filter_map class_of_item done) (h.taken c) ∙ ap (λ cs. box_refused cs (filter_map class_of_item done) (Some c)) h.kinds

lacks-none : (ss : List Section) (i : Item) (old new : List Stocked) (front all : List Atomic) → Adds ss i old new front all → component_lacks ss old i ≡ None
lacks-none ss i old new front all a = passes-box ss old i a.class a.at.0 a.known a.found ∙ ap (λ o. option_map (λ line. refusal line BadParameter) o) a.right

-- ---- none yet

none-taken : (c : Class) (stock : List Stocked) → list_all (λ (s : Stocked). not s.taken) stock ≡ true → taken_of c stock ≡ 0
none-taken c [] e = refl
none-taken c (s ∷ ss) e =
    let parts = and_parts (not s.taken) (list_all (λ (t : Stocked). not t.taken) ss) e in
    let here : one_if (is_of c s && s.taken) ≡ 0 = ap (λ b. one_if (is_of c s && b)) (not-true s.taken parts.0) ∙ ap one_if (and-false (is_of c s)) in
    omega (arith, here, count-cons (λ (t : Stocked). is_of c t && t.taken) s ss, none-taken c ss parts.1)

pub stands-none : (ss : List Section) (stock : List Stocked) → list_all (λ (s : Stocked). not s.taken) stock ≡ true → Stands ss (classes_of stock) stock [] []
stands-none ss stock e = record { kinds = refl; named = refl; boxes = refl; apart = refl; taken = λ c. none-taken c stock e; passes = λ later. refl }

-- ---- one more

-- the boxes that were taken before are others, and stay
boxes-stay : (ss : List Section) (done : List Item) (found : List Atomic) (old new : List Stocked) (at : ℕ) (b y : Stocked)
    → slice_get old at ≡ Some b → b.taken ≡ false → new ≡ set old at y → map name_and_class found ≡ map named_item done
    → map (λ (a : Atomic). slice_get old a.at.0) found ≡ map (box_of_item ss) done
    → (map (λ (a : Atomic). slice_get new a.at.0) found ≡ map (box_of_item ss) done) × (list_any (λ m. m == at) (map (λ (a : Atomic). a.at.0) found) ≡ false)
boxes-stay ss [] [] old new at b y stood free is n e = (e, refl)
boxes-stay ss (i ∷ is) [] old new at b y stood free list n e = absurd cc
boxes-stay ss [] (a ∷ rest_found) old new at b y stood free list n e = absurd cc
boxes-stay ss (i ∷ is) (a ∷ rest_found) old new at b y stood free list n e =
    let name : name_and_class a ≡ named_item i = cc in
    let names : map name_and_class rest_found ≡ map named_item is = cc in
    let box : slice_get old a.at.0 ≡ box_of_item ss i = cc in
    let boxes : map (λ (z : Atomic). slice_get old z.at.0) rest_found ≡ map (box_of_item ss) is = cc in
    let class : Some a.class ≡ class_of_item i = ap (λ (p : Bytes × Option Class). p.1) name in
    let stands : slice_get old a.at.0 ≡ Some (started_box ss i a.class) = box ∙ ap (option_map (started_box ss i)) (sym class) in
    let ne : a.at.0 ≢ at = λ same.
    let both : Some b ≡ Some (started_box ss i a.class) = sym stood ∙ ap (slice_get old) (sym same) ∙ stands in
    let is_b : b ≡ started_box ss i a.class = cc in
    let taken : b.taken ≡ true = ap (λ (s : Stocked). s.taken) is_b in
    cc
    in
    let rest = boxes-stay ss is rest_found old new at b y stood free list names boxes in
    let here : slice_get new a.at.0 ≡ box_of_item ss i = ap (λ ys. slice_get ys a.at.0) list ∙ get-other old at a.at.0 y ne ∙ box in
    ((λ k. here k ∷ rest.0 k), or_from (a.at.0 == at) (list_any (λ m. m == at) (map (λ (z : Atomic). z.at.0) rest_found)) (ne_eqb a.at.0 at ne) rest.1)

apart-more : (ns : List ℕ) (at : ℕ) → are_apart ns ≡ true → list_any (λ m. m == at) ns ≡ false → are_apart (ns ++ at ∷ []) ≡ true
apart-more [] at e f = refl
apart-more (n ∷ ns) at e f =
    let p = and_parts (not (list_any (λ m. n == m) ns)) (are_apart ns) e in
    let q = or_parts (n == at) (list_any (λ m. m == at) ns) f in
    rw (list_any-append (λ m. n == m) ns (at ∷ []), not-true (list_any (λ m. n == m) ns) p.0, q.0, apart-more ns at p.1 q.1)

taken-more : (c class : Class) (old : List Stocked) (at : ℕ) (b y : Stocked) (taken : List Class) → slice_get old at ≡ Some b → b.taken ≡ false → y.box.kind ≡ class → y.taken ≡ true
    → taken_of c old ≡ boxes_of c taken → taken_of c (set old at y) ≡ boxes_of c (taken ++ class ∷ [])
taken-more c class old at b y taken stood free kind now e =
    let p = λ (t : Stocked). is_of c t && t.taken in
    let no : one_if (p b) ≡ 0 = ap (λ t. one_if (is_of c b && t)) free ∙ ap one_if (and-false (is_of c b)) in
    let yes : one_if (p y) ≡ one_if (same_class c class) = ap (λ t. one_if (is_of c y && t)) now ∙ ap one_if (and-true (is_of c y)) ∙ ap (λ k. one_if (same_class k c)) kind ∙ ap one_if (same_class-swapped class c) in
    omega (arith, no, yes, e, count-set p old at b y stood, sum_by_push (λ k. one_if (same_class c k)) taken class)

pub stands-more : (ss : List Section) (classes : List Class) (old new : List Stocked) (front all : List Atomic) (done : List Item) (i : Item)
    → Stands ss classes old front done → Adds ss i old new front all → Stands ss classes new all (done ++ i ∷ [])
stands-more ss classes old new front all done i h a =
    let parts = and_parts (is_of a.class a.before) (not a.before.taken) a.free in
    let was_free : a.before.taken ≡ false = not-true a.before.taken parts.1 in
    let y = started_box ss i a.class in
    let made : Atomic = record { name = item_name i; class = a.class; at = a.at } in
    let old_kind : a.before.box.kind ≡ a.class = same_class-is a.before.box.kind a.class parts.0 in
    let stays = boxes-stay ss done front old new a.at.0 a.before y a.stood was_free a.settled h.named h.boxes in
    let last : slice_get new a.at.0 ≡ box_of_item ss i = ap (λ ys. slice_get ys a.at.0) a.settled ∙ get-set old a.at.0 a.before y a.stood ∙ sym (ap (option_map (started_box ss i)) a.known) in
    let one : filter_map class_of_item (done ++ i ∷ []) ≡ filter_map class_of_item done ++ a.class ∷ [] =
    filter_map-append class_of_item done (i ∷ []) ∙ ap (λ o. filter_map class_of_item done ++ cons_option o []) a.known
    in
    let none : component_refused ss classes (filter_map class_of_item done) i ≡ None = sym (comes ss classes old front done i h) ∙ lacks-none ss i old new front all a in
    record {
      kinds = ap classes_of a.settled ∙ map-set_same (λ (s : Stocked). s.box.kind) old a.at.0 a.before y (sym (get_or_from_slice_get old a.at.0 a.before a.before a.stood)) (sym old_kind) ∙ h.kinds;
      named = ap (map name_and_class) a.added ∙ map_push name_and_class front made ∙ (λ k. h.named k ++ (item_name i, sym a.known k) ∷ []) ∙ sym (map_push named_item done i);
      boxes = ap (map (λ (z : Atomic). slice_get new z.at.0)) a.added ∙ map_push (λ (z : Atomic). slice_get new z.at.0) front made ∙ (λ k. stays.0 k ++ last k ∷ []) ∙ sym (map_push (box_of_item ss) done i);
      apart = ap are_apart (ap (map (λ (z : Atomic). z.at.0)) a.added ∙ map_push (λ (z : Atomic). z.at.0) front made) ∙ apart-more (map (λ (z : Atomic). z.at.0) front) a.at.0 h.apart stays.1;
      taken = λ c. ap (taken_of c) a.settled ∙ taken-more c a.class old a.at.0 a.before y (filter_map class_of_item done) a.stood was_free refl refl (h.taken c) ∙ ap (boxes_of c) (sym one);
      passes = λ later. ap (first_component_refused ss classes []) (append_assoc done (i ∷ []) later) ∙ h.passes (i ∷ later)
          ∙ (λ k. option_or (none k) (first_component_refused ss classes (sym (filter_map-append class_of_item done (i ∷ [])) k) later));
    }

-- ---- all of them

filter-map : {A B : Type 0} (p : B → Bool) (f : A → B) (xs : List A) → map f (filter (λ x. p (f x)) xs) ≡ filter p (map f xs)
filter-map p f [] = refl
filter-map p f (x ∷ xs) = by (p (f x)) ∙ ap (λ ys. cond (p (f x)) (f x ∷ ys) ys) (filter-map p f xs)
  where
    by : (b : Bool) → map f (cond b (x ∷ filter (λ x. p (f x)) xs) (filter (λ x. p (f x)) xs)) ≡ cond b (f x ∷ map f (filter (λ x. p (f x)) xs)) (map f (filter (λ x. p (f x)) xs))
    by true = refl
    by false = refl

pub all-items : (ss : List Section) (w : Walked) (items : List kept.Item) → IsWalk ss w → items ≡ filter (λ (i : kept.Item). is_atomic (item_of i)) w.items.items → map item_of items ≡ atomics ss
all-items ss w items h e = ap (map item_of) e ∙ filter-map is_atomic item_of w.items.items ∙ ap (filter is_atomic) h.items

pub has-at : (P : Item → Type 0) (items : List kept.Item) (i : ℕ) (d : kept.Item) → i < length items → AllByRecursion P (map item_of items) → P (item_of (get_or items i d))
has-at P items i d lt h =
    let within : i < length (map item_of items) = omega (arith, length-map items item_of) in
    subst P (get_or-map item_of items i d (item_of d) lt) (All-get_or P (map item_of items) i (item_of d) within (All-from_recursion P (map item_of items) h))

pub stops : (ss : List Section) (classes : List Class) (stock : List Stocked) (found : List Atomic) (items : List kept.Item) (i : ℕ) (d : kept.Item) (why : Refusal)
    → map item_of items ≡ atomics ss → i < length items → Stands ss classes stock found (map item_of (take i items)) → component_lacks ss stock (item_of (get_or items i d)) ≡ Some why
    → stock_refused classes ss ≡ Some why
stops ss classes stock found items i d why e lt h r =
    let x = item_of (get_or items i d) in
    let rest = map item_of (drop (i + 1) items) in
    let all : map item_of items ≡ map item_of (take i items) ++ (x ∷ rest) =
    ap (map item_of) (sym (take-append-drop i items) ∙ ap (λ ys. take i items ++ ys) (drop_more items i d lt)) ∙ map-append item_of (take i items) (get_or items i d ∷ drop (i + 1) items)
    in
    ap (first_component_refused ss classes []) (sym e ∙ all) ∙ h.passes (x ∷ rest)
    ∙ ap (λ o. option_or o (first_component_refused ss classes (filter_map class_of_item (map item_of (take i items)) ++ filter_map class_of_item (x ∷ [])) rest)) (sym (comes ss classes stock found (map item_of (take i items)) x h) ∙ r)

-- all of them are added
pub whole : (ss : List Section) (classes : List Class) (stock : List Stocked) (found : List Atomic) (items : List kept.Item) (i : ℕ) → map item_of items ≡ atomics ss → length items ≤ i
    → Stands ss classes stock found (map item_of (take i items)) → Stands ss classes stock found (atomics ss)
whole ss classes stock found items i e all h = subst (λ done. Stands ss classes stock found done) (ap (map item_of) (take_all i items all) ∙ e) h

pub none-refused : (ss : List Section) (classes : List Class) (stock : List Stocked) (found : List Atomic) → Stands ss classes stock found (atomics ss) → stock_refused classes ss ≡ None
none-refused ss classes stock found h = ap (first_component_refused ss classes []) (sym (append-nil (atomics ss))) ∙ h.passes []
