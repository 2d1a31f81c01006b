-- What cells show, where one of them changes, and their tallies then.
use Rattle.std.proofs.Common.{◌≡◌, ℕ, zero, suc, ◌+◌, ◌<◌, true, Option, Some, None, List, [], ◌∷◌, map, length, get_or, set, replicate, refl, sym, ◌∙◌, ap, subst, arith, Ok, Err}
use Rattle.std.specs.Prelude.{◌&&◌, ◌==◌, IfSome, OnOk, OnErr}
use Rattle.std.specs.declared.result.Result.{Result}
use Rattle.std.proofs.lemmas.Bool.{and_parts, eqb-true}
use Rattle.std.proofs.lemmas.List.{length-map, length-replicate, get_or-replicate, get_or-map, map-set, set-set, set-get_or}
use Rattle.std.proofs.lemmas.Option.{unwrap_or-slice_get}
use Rattle.quantity.specs.declared.value.Value.{Value}
use Rattle.quantity.specs.declared.value.Value.TheVariants.{Undefined}
use Rattle.rule_tree.specs.declared.node.Count.TheVariants.{Ones, Zeros, Undefs}
use Rattle.rule_tree.specs.Meaning.{value_at, outs, neighbour_count}
use Rattle.rule_eval.specs.declared.tally.Tally.{Tally}
use Rattle.rule_eval.specs.Tallies.{IsTally}
use Rattle.rule_eval.proofs.Tallied.{counted-cons}
use Rattle.run_model.specs.CellStep.{CellState}
use Rattle.cell_grid.specs.Space.{cell_count, neighbour}
use Rattle.cell_reach.specs.Neighbourhoods.{Neighbourhood, neighbours}
use Rattle.cell_table.specs.Told.{no_cell, cell_at, values_emitted, OnlyCell}
use Rattle.cell_table.specs.Table.{Table, table_at_start, cell_at_start, changed_cell}
use Rattle.cell_table.proofs.Changes.{changed-set}
use Rattle.cell_engine.specs.Layout.{Layout}
use Rattle.cell_engine.specs.Step.{near, out_of, given_by, sees}
use Rattle.cell_engine.specs.Tallied.{last_value_shown, outs_of, no_tally, AreTallies, AreKept, IsUnseen, AreUnseen}

-- ---- what is shown

-- what is shown is what is seen at the port out
first_shown : (cells : List CellState) (n : ℕ) → value_at (values_emitted (cell_at cells n)) 0 ≡ get_or (map last_value_shown cells) n Undefined
first_shown [] n = refl
first_shown (c ∷ cs) zero = unwrap_or-slice_get (values_emitted c) 0 Undefined
first_shown (c ∷ cs) (suc n) = first_shown cs n

nothing_first : (w : ℕ) → value_at (replicate w Undefined) 0 ≡ Undefined
nothing_first zero = refl
nothing_first (suc w) = refl

outs_shown : (t : Table) (ms : List (Option ℕ)) → map (λ (vs : List Value). value_at vs 0) (map (given_by t) ms) ≡ map (out_of (outs_of t)) ms
outs_shown t [] = refl
outs_shown t (None ∷ ms) = λ k. nothing_first t.width k ∷ outs_shown t ms k
outs_shown t (Some n ∷ ms) = λ k. first_shown t.cells n k ∷ outs_shown t ms k

-- a tally that is kept is that of what the cell sees
pub tally_seen : (l : Layout) (time : ℕ) (t : Table) (i : ℕ) (ts : List Tally) (o : Option Tally) → IfSome o (λ (k : Tally). i < length ts) → IfSome o (λ (k : Tally). k ≡ get_or ts i no_tally) → AreTallies (near l) (outs_of t) ts
    → IfSome o (λ (k : Tally). IsTally k (outs (sees l time t i)))
tally_seen l time t i ts None within is are = tt
tally_seen l time t i ts (Some k) within is are =
    subst (λ (vs : List Value). IsTally k vs) (sym (outs_shown t (neighbours (near l) i))) (subst (λ (q : Tally). IsTally q (map (out_of (outs_of t)) (neighbours (near l) i))) (sym is) (are i within))

-- what cell i shows
pub shows_at : (t : Table) (i : ℕ) (v : Value) → i < length t.cells → v ≡ last_value_shown (cell_at t.cells i) → v ≡ get_or (outs_of t) i Undefined
shows_at t i v here is = is ∙ sym (get_or-map last_value_shown t.cells i no_cell Undefined here)

-- ---- one cell changes

-- not in what it gave
pub outs_still : (i : ℕ) (old new : List CellState) → OnlyCell i old new → map last_value_shown new ≡ map last_value_shown old
outs_still i old new only =
    let c = cell_at new i in
    let same : last_value_shown c ≡ last_value_shown (cell_at old i) = ap (λ (vs : List Value). get_or vs 0 Undefined) only.emitted in
    ap (map last_value_shown) only.others ∙ map-set last_value_shown old i c ∙ stays (map last_value_shown old) i (last_value_shown c) (same ∙ of_cell old i)
  where
    of_cell : (cells : List CellState) (n : ℕ) → last_value_shown (cell_at cells n) ≡ get_or (map last_value_shown cells) n Undefined
    of_cell [] n = refl
    of_cell (c ∷ cs) zero = refl
    of_cell (c ∷ cs) (suc n) = of_cell cs n

    stays : (es : List Value) (n : ℕ) (v : Value) → v ≡ get_or es n Undefined → set es n v ≡ es
    stays es n v is = ap (λ (x : Value). set es n x) is ∙ set-get_or es n Undefined

pub kept_still : (n : Neighbourhood) (i : ℕ) (t u : Table) (ts : List Tally) → OnlyCell i t.cells u.cells → AreKept n (outs_of t) ts → AreKept n (outs_of u) ts
kept_still n i t u ts only kept = subst (λ (es : List Value). AreKept n es ts) (sym (outs_still i t.cells u.cells only)) kept

pub tallies_still : (n : Neighbourhood) (i : ℕ) (t u : Table) (ts : List Tally) → OnlyCell i t.cells u.cells → AreTallies n (outs_of t) ts → AreTallies n (outs_of u) ts
tallies_still n i t u ts only are = subst (λ (es : List Value). AreTallies n es ts) (sym (outs_still i t.cells u.cells only)) are

-- with what it showed before in its place all is shown as before
put_back : (i : ℕ) (c : CellState) (old new : List CellState) (before : Value) → i < length old → new ≡ set old i c → before ≡ last_value_shown (cell_at old i) → set (map last_value_shown new) i before ≡ map last_value_shown old
put_back i c old new before here is was =
    let es = map last_value_shown old in
    ap (λ (cs : List CellState). set (map last_value_shown cs) i before) is
    ∙ ap (λ (vs : List Value). set vs i before) (map-set last_value_shown old i c)
    ∙ set-set es i (last_value_shown c) before
    ∙ ap (λ (x : Value). set es i x) (was ∙ sym (get_or-map last_value_shown old i no_cell Undefined here))
    ∙ set-get_or es i Undefined

pub kept_before : (n : Neighbourhood) (i : ℕ) (c : CellState) (t u : Table) (before : Value) (ts : List Tally) → i < length t.cells → u.cells ≡ set t.cells i c → before ≡ last_value_shown (cell_at t.cells i)
    → AreKept n (outs_of t) ts → AreKept n (set (outs_of u) i before) ts
kept_before n i c t u before ts here is was kept = subst (λ (es : List Value). AreKept n es ts) (sym (put_back i c t.cells u.cells before here is was)) kept

-- the same where it is known only if tallies are kept
pub kept_where_kept : (n : Neighbourhood) (i : ℕ) (c : CellState) (t u : Table) (before : Value) (ts : List Tally) → i < length t.cells → u.cells ≡ set t.cells i c → (0 < length ts → before ≡ last_value_shown (cell_at t.cells i))
    → AreKept n (outs_of t) ts → AreKept n (set (outs_of u) i before) ts
kept_where_kept n i c t u before ts here is was kept =
    record {
      whole = kept.whole;
      each = λ x below. (kept_before n i c t u before ts here is (was (omega (arith, below))) kept).each x below;
    }

-- where a state is put, and where it is refused
pub kept_put : {U E : Type 0} (r : Result U E) (n : Neighbourhood) (i : ℕ) (c : CellState) (t u : Table) (before : Value) (ts : List Tally) → i < length t.cells → before ≡ last_value_shown (cell_at t.cells i)
    → OnOk r (u ≡ changed_cell i (λ _. c) t) → OnErr r (u ≡ t) → AreKept n (outs_of t) ts → AreKept n (set (outs_of u) i before) ts
kept_put (Ok x) n i c t u before ts here was ok err kept =
    kept_before n i c t u before ts here (ap (λ (w : Table). w.cells) ok ∙ changed-set i (λ (_ : CellState). c) no_cell t.cells) was kept
kept_put (Err e) n i c t u before ts here was ok err kept =
    kept_before n i (cell_at t.cells i) t u before ts here (ap (λ (w : Table). w.cells) err ∙ sym (set-get_or t.cells i no_cell)) was kept

-- ---- numbers that are the same

pub same_numbers : (a b : Tally) → ((a.ones == b.ones) && (a.zeros == b.zeros) && (a.undefs == b.undefs)) ≡ true → (a.ones ≡ b.ones) × (a.zeros ≡ b.zeros) × (a.undefs ≡ b.undefs)
same_numbers a b h =
    let p = and_parts ((a.ones == b.ones) && (a.zeros == b.zeros)) (a.undefs == b.undefs) h in
    let q = and_parts (a.ones == b.ones) (a.zeros == b.zeros) p.0 in
    (eqb-true a.ones b.ones q.0, eqb-true a.zeros b.zeros q.1, eqb-true a.undefs b.undefs p.1)

-- ---- the start

record NoneShown (ms : List (Option ℕ)) (es : List Value) : Type 0 where
  ones : neighbour_count Ones (map (out_of es) ms) ≡ 0
  zeros : neighbour_count Zeros (map (out_of es) ms) ≡ 0
  undefs : neighbour_count Undefs (map (out_of es) ms) ≡ length ms

none_shown : (es : List Value) → ((m : Option ℕ) → out_of es m ≡ Undefined) → (ms : List (Option ℕ)) → NoneShown ms es
none_shown es shows [] = record { ones = refl; zeros = refl; undefs = refl }
none_shown es shows (m ∷ ms) =
    let others = none_shown es shows ms in
    let v = out_of es m in
    let vs = map (out_of es) ms in
    let one : neighbour_count Ones (v ∷ []) ≡ 0 = ap (λ (x : Value). neighbour_count Ones (x ∷ [])) (shows m) in
    let none : neighbour_count Zeros (v ∷ []) ≡ 0 = ap (λ (x : Value). neighbour_count Zeros (x ∷ [])) (shows m) in
    let undef : neighbour_count Undefs (v ∷ []) ≡ 1 = ap (λ (x : Value). neighbour_count Undefs (x ∷ [])) (shows m) in
    let next : 1 + length ms ≡ suc (length ms) = omega arith in
    record {
      ones = counted-cons Ones v vs ∙ (λ k. one k + others.ones k);
      zeros = counted-cons Zeros v vs ∙ (λ k. none k + others.zeros k);
      undefs = counted-cons Undefs v vs ∙ (λ k. undef k + others.undefs k) ∙ next;
    }

starts_undefined : (further xs : List Value) (initial : List Value) (m : Option ℕ) → out_of (map last_value_shown (map (cell_at_start further xs) initial)) m ≡ Undefined
starts_undefined further xs initial None = refl
starts_undefined further xs initial (Some n) = at initial n
  where
    at : (vs : List Value) (k : ℕ) → get_or (map last_value_shown (map (cell_at_start further xs) vs)) k Undefined ≡ Undefined
    at [] k = refl
    at (v ∷ vs) zero = refl
    at (v ∷ vs) (suc k) = at vs k

pub first_kept : (l : Layout) (t : Table) (initial further xs : List Value) (places : ℕ) (ts : List Tally) → t ≡ table_at_start initial further xs → places ≡ length l.offsets → AreUnseen places (cell_count l.space) ts → AreKept (near l) (outs_of t) ts
first_kept l t initial further xs places ts start long unseen =
    let nothing : (m : Option ℕ) → out_of (outs_of t) m ≡ Undefined = λ m.
    ap (λ (u : Table). out_of (outs_of u) m) start ∙ starts_undefined further xs initial m in
    record {
      whole = unseen.whole;
      each = λ x below.
          let ms = neighbours (near l) x in
          let none = none_shown (outs_of t) nothing ms in
          let one = unseen.each x no_tally below in
          let many : length ms ≡ length l.offsets = length-map l.offsets (neighbour l.space x) in
          record {
            ones = one.ones ∙ sym none.ones;
            zeros = one.zeros ∙ sym none.zeros;
            undefs = one.undefs ∙ long ∙ sym many ∙ sym none.undefs;
          };
    }

-- so many times a tally of nothing
pub all_unseen : (places cells count : ℕ) (t : Tally) (ts : List Tally) → ts ≡ replicate count t → IsUnseen places t → (0 < count → count ≡ cells) → AreUnseen places cells ts
all_unseen places cells count t ts is unseen few =
    let long : length ts ≡ count = ap length is ∙ length-replicate count t in
    record {
      whole = λ some. long ∙ few (omega (arith, some, long));
      each = λ k d lt.
          let at : get_or ts k d ≡ t = ap (λ (xs : List Tally). get_or xs k d) is ∙ get_or-replicate count k t d (omega (arith, lt, long)) in
          subst (λ (q : Tally). IsUnseen places q) (sym at) unseen;
    }
