-- The texts of cycles that follow each other.
use Rattle.std.proofs.Common.{◌≡◌, ℕ, ◌+◌, ◌-◌, ◌<◌, ◌≤◌, ◌==◌, ◌&&◌, not, Bool, true, false, cond}
use Rattle.std.proofs.Common.{Option, Some, None, List, [], ◌∷◌, ◌++◌, refl, sym, ap, ◌∙◌, arith}
use Rattle.std.proofs.Common.{nat_lt, nat_le}
use Rattle.std.specs.Option.{unwrap_or}
use Rattle.std.specs.List.{All, list_all, filter, filter_map, flat_map, last_or, cons_option}
use Rattle.std.proofs.lemmas.List.{append-nil}
use Rattle.std.proofs.lemmas.List.Elements.{All-head, All-tail, filter-append, filter_map-append}
use Rattle.std.proofs.lemmas.List.Folds.{list_all-append}
use Rattle.std.proofs.lemmas.Grind.{flat_map-append}
use Rattle.std.proofs.lemmas.Bool.Decides.{nat_tests}
use Rattle.quantity.specs.declared.value.Value.{Value}
use Rattle.quantity.specs.Bytes.{Bytes}
use Rattle.cell_grid.specs.Space.{Space, cell_count}
use Rattle.model_tree.specs.Tree.{Tree, leaves, outs_of}
use Rattle.run_model.specs.Run.{Cycle, PortRecord}
use Rattle.text_forms.specs.Letters.{has_letter}
use Rattle.text_forms.specs.LogLine.{LogLine, letter_of, line_text}
use Rattle.text_forms.specs.Lines.{line_with_end, cycle_lines, out_line, log_bytes, out_bytes}
use Rattle.text_forms.specs.Frames.{ShownCell, Picture, instants, value_until, value_drawn, frame_text}
use Rattle.text_forms.specs.Frames.{frames, shown_by, shown_in}
use Rattle.text_forms.specs.TextsJoin.{FramesJoin, TextsJoin}
use Rattle.quantity.proofs.DigitLemmas.{both}
use Rattle.quantity.proofs.Written.{and_true}
use Rattle.text_forms.proofs.WrittenLines.{kept_all}
use Rattle.text_forms.proofs.Drawn.{all_kept}

-- ---- log and output

log_joins : (tree : Tree) (letters : List ℕ) (cs ds : List Cycle)
    → log_bytes tree letters (cs ++ ds) ≡ log_bytes tree letters cs ++ log_bytes tree letters ds
log_joins tree letters cs ds =
    let ls = leaves tree in
    let chosen = λ (l : LogLine). has_letter letters (letter_of l) in
    ap (λ lines. flat_map (λ l. line_with_end (line_text l)) (filter chosen lines))
    (flat_map-append (cycle_lines ls) cs ds)
    ∙ ap (flat_map (λ l. line_with_end (line_text l)))
    (filter-append chosen (flat_map (cycle_lines ls) cs) (flat_map (cycle_lines ls) ds))
    ∙ flat_map-append (λ l. line_with_end (line_text l)) (filter chosen (flat_map (cycle_lines ls) cs))
    (filter chosen (flat_map (cycle_lines ls) ds))

out_joins : (tree : Tree) (cs ds : List Cycle)
    → out_bytes tree (cs ++ ds) ≡ out_bytes tree cs ++ out_bytes tree ds
out_joins tree cs ds =
    flat_map-append (λ (c : Cycle). flat_map (out_line (outs_of tree) c.time) c.out) cs ds

-- ---- instants before and after a time

abbrev is_until : ℕ → ℕ → Bool
is_until time t = nat_le t time

abbrev is_after : ℕ → ℕ → Bool
is_after time t = nat_lt time t

-- a test of the times of all that was shown
abbrev times_pass : (ℕ → Bool) → List ShownCell → Bool
times_pass q ss = list_all (λ (s : ShownCell). q s.time) ss

instants_pass : (q : ℕ → Bool) (ss : List ShownCell) → times_pass q ss ≡ true
    → list_all q (instants ss) ≡ true
instants_pass q [] h = refl
instants_pass q (s ∷ ss) h =
    let k = both (q s.time) (times_pass q ss) h in
    and_true _ _ k.0 (all_kept q (λ t. not (t == s.time)) (instants ss) (instants_pass q ss k.1))

passes_as : {A : Type 0} (p q : A → Bool) (xs : List A) → ((x : A) → p x ≡ true → q x ≡ true)
    → list_all p xs ≡ true → list_all q xs ≡ true
passes_as p q [] so h = refl
passes_as p q (x ∷ xs) so h =
    let k = both (p x) (list_all p xs) h in and_true _ _ (so x k.0) (passes_as p q xs so k.1)

not_that : (time s t : ℕ) → nat_le s time ≡ true → nat_lt time t ≡ true → not (t == s) ≡ true
not_that time s t h k = grind (arith, nat_tests)

instants_join : (time : ℕ) (xs ys : List ShownCell) → times_pass (is_until time) xs ≡ true
    → times_pass (is_after time) ys ≡ true → instants (xs ++ ys) ≡ instants xs ++ instants ys
instants_join time [] ys h k = refl
instants_join time (x ∷ xs) ys h k =
    let m = both (is_until time x.time) (times_pass (is_until time) xs) h in
    let other = λ (t : ℕ). not (t == x.time) in
    ap (λ ts. x.time ∷ filter other ts) (instants_join time xs ys m.1 k)
    ∙ ap (λ ts. x.time ∷ ts) (filter-append other (instants xs) (instants ys)
    ∙ ap (λ ts. filter other (instants xs) ++ ts)
    (kept_all other (instants ys)
    (passes_as (is_after time) other (instants ys) (λ t. not_that time x.time t m.0)
    (instants_pass (is_after time) ys k))))

-- ---- the value of a cell

later_hidden : (time t cell : ℕ) (s : ShownCell) → nat_le t time ≡ true → nat_lt time s.time ≡ true
    → value_until t cell s ≡ None
later_hidden time t cell s h k =
    let late : nat_le s.time t ≡ false = grind (arith, nat_tests) in
    ap (λ b. cond (b && (s.cell == cell)) (Some s.value) None) late

all_hidden : (time t cell : ℕ) (ys : List ShownCell) → nat_le t time ≡ true
    → times_pass (is_after time) ys ≡ true → filter_map (value_until t cell) ys ≡ []
all_hidden time t cell [] h k = refl
all_hidden time t cell (y ∷ ys) h k =
    let m = both (is_after time y.time) (times_pass (is_after time) ys) k in
    ap (λ o. cons_option o (filter_map (value_until t cell) ys)) (later_hidden time t cell y h m.0)
    ∙ all_hidden time t cell ys h m.1

earlier_same : (time t cell : ℕ) (s : ShownCell) → nat_lt time t ≡ true → nat_le s.time time ≡ true
    → value_until t cell s ≡ value_until time cell s
earlier_same time t cell s h k =
    let same : nat_le s.time t ≡ nat_le s.time time = grind (arith, nat_tests) in
    ap (λ b. cond (b && (s.cell == cell)) (Some s.value) None) same

all_same : (time t cell : ℕ) (xs : List ShownCell) → nat_lt time t ≡ true
    → times_pass (is_until time) xs ≡ true
    → filter_map (value_until t cell) xs ≡ filter_map (value_until time cell) xs
all_same time t cell [] h k = refl
all_same time t cell (x ∷ xs) h k =
    let m = both (is_until time x.time) (times_pass (is_until time) xs) k in
    ap (λ o. cons_option o (filter_map (value_until t cell) xs)) (earlier_same time t cell x h m.0)
    ∙ ap (cons_option (value_until time cell x)) (all_same time t cell xs h m.1)

last_after : {A : Type 0} (o : Option A) (xs ys : List A)
    → last_or o (xs ++ ys) ≡ last_or (last_or o xs) ys
last_after o [] ys = refl
last_after o (x ∷ xs) ys = last_after (Some x) xs ys

last_or_else : {A : Type 0} (o : Option A) (ys : List A) (d : A)
    → unwrap_or (last_or o ys) d ≡ unwrap_or (last_or None ys) (unwrap_or o d)
last_or_else o [] d = refl
last_or_else o (y ∷ ys) d = some_last (Some y) ys d (unwrap_or o d) y refl
  where
    some_last : {A : Type 0} (o : Option A) (ys : List A) (d e : A) (y : A) → o ≡ Some y
        → unwrap_or (last_or o ys) d ≡ unwrap_or (last_or o ys) e
    some_last o [] d e y is = ap (λ p. unwrap_or p d) is ∙ sym (ap (λ p. unwrap_or p e) is)
    some_last o (z ∷ zs) d e y is = some_last (Some z) zs d e z refl

value_before : (start : ℕ → Value) (time t cell : ℕ) (xs ys : List ShownCell) → nat_le t time ≡ true
    → times_pass (is_after time) ys ≡ true
    → value_drawn start (xs ++ ys) t cell ≡ value_drawn start xs t cell
value_before start time t cell xs ys h k =
    ap (λ vs. unwrap_or (last_or None vs) (start cell))
    (filter_map-append (value_until t cell) xs ys
    ∙ ap (λ vs. filter_map (value_until t cell) xs ++ vs) (all_hidden time t cell ys h k)
    ∙ append-nil (filter_map (value_until t cell) xs))

value_after : (start : ℕ → Value) (time t cell : ℕ) (xs ys : List ShownCell) → nat_lt time t ≡ true
    → times_pass (is_until time) xs ≡ true
    → value_drawn start (xs ++ ys) t cell ≡ value_drawn (value_drawn start xs time) ys t cell
value_after start time t cell xs ys h k =
    let before = filter_map (value_until time cell) xs in
    let later = filter_map (value_until t cell) ys in
    ap (λ vs. unwrap_or (last_or None vs) (start cell))
    (filter_map-append (value_until t cell) xs ys
    ∙ ap (λ vs. vs ++ later) (all_same time t cell xs h k))
    ∙ ap (λ o. unwrap_or o (start cell)) (last_after None before later)
    ∙ last_or_else (last_or None before) later (start cell)

-- ---- frames

flat_map_same : (f g : ℕ → Bytes) (q : ℕ → Bool) (ts : List ℕ) → ((t : ℕ) → q t ≡ true → f t ≡ g t)
    → list_all q ts ≡ true → flat_map f ts ≡ flat_map g ts
flat_map_same f g q [] same h = refl
flat_map_same f g q (t ∷ ts) same h =
    let k = both (q t) (list_all q ts) h in
    ap (λ bs. bs ++ flat_map f ts) (same t k.0)
    ∙ ap (λ bs. g t ++ bs) (flat_map_same f g q ts same k.1)

frames_shown : (p : Picture) (start : ℕ → Value) (time : ℕ) (xs ys : List ShownCell)
    → times_pass (is_until time) xs ≡ true → times_pass (is_after time) ys ≡ true
    → frames p start (xs ++ ys) ≡ frames p start xs ++ frames p (value_drawn start xs time) ys
frames_shown p start time xs ys h k =
    let all = λ (t : ℕ). frame_text p t (value_drawn start (xs ++ ys) t) in
    ap (flat_map all) (instants_join time xs ys h k)
    ∙ flat_map-append all (instants xs) (instants ys)
    ∙ ap (λ bs. bs ++ flat_map all (instants ys))
    (flat_map_same all (λ t. frame_text p t (value_drawn start xs t)) (is_until time) (instants xs)
    (λ t e. ap (frame_text p t) (λ i cell. value_before start time t cell xs ys e k i))
    (instants_pass (is_until time) xs h))
    ∙ ap (λ bs. frames p start xs ++ bs)
    (flat_map_same all (λ t. frame_text p t (value_drawn (value_drawn start xs time) ys t))
    (is_after time) (instants ys)
    (λ t e. ap (frame_text p t) (λ i cell. value_after start time t cell xs ys e h i))
    (instants_pass (is_after time) ys k))

-- ---- what cycles show

shown_at_time : (q : ℕ → Bool) (s : Space) (first t : ℕ) (rs : List PortRecord) → q t ≡ true
    → times_pass q (filter_map (shown_by s first t) rs) ≡ true
shown_at_time q s first t [] h = refl
shown_at_time q s first t (r ∷ rs) h =
    one (nat_le first r.leaf && nat_lt r.leaf (first + cell_count s))
    (shown_at_time q s first t rs h)
  where
    rest : List ShownCell
    rest = filter_map (shown_by s first t) rs

    one : (b : Bool) → times_pass q rest ≡ true
        → times_pass q (cons_option (cond b (Some (record {
          time = t;
          cell = r.leaf - first;
          value = r.value;
        })) None) rest) ≡ true
    one true more = and_true _ _ h more
    one false more = more

shown_pass : (q : ℕ → Bool) (s : Space) (first : ℕ) (cs : List Cycle)
    → list_all (λ (c : Cycle). q c.time) cs ≡ true → times_pass q (shown_in s first cs) ≡ true
shown_pass q s first [] h = refl
shown_pass q s first (c ∷ cs) h =
    let k = both (q c.time) (list_all (λ (c : Cycle). q c.time) cs) h in
    list_all-append (λ (s : ShownCell). q s.time) (filter_map (shown_by s first c.time) c.y)
    (shown_in s first cs)
    ∙ and_true _ _ (shown_at_time q s first c.time c.y k.0) (shown_pass q s first cs k.1)

all_until : (time : ℕ) (cs : List Cycle) → All (λ (c : Cycle). c.time ≤ time) cs
    → list_all (λ (c : Cycle). is_until time c.time) cs ≡ true
all_until time [] h = refl
all_until time (c ∷ cs) h =
    and_true _ _ (here c.time (All-head (λ (c : Cycle). c.time ≤ time) c cs h))
    (all_until time cs (All-tail (λ (c : Cycle). c.time ≤ time) c cs h))
  where
    here : (t : ℕ) → t ≤ time → nat_le t time ≡ true
    here t le = grind (arith, nat_tests)

all_after : (time : ℕ) (cs : List Cycle) → All (λ (c : Cycle). time < c.time) cs
    → list_all (λ (c : Cycle). is_after time c.time) cs ≡ true
all_after time [] h = refl
all_after time (c ∷ cs) h =
    and_true _ _ (here c.time (All-head (λ (c : Cycle). time < c.time) c cs h))
    (all_after time cs (All-tail (λ (c : Cycle). time < c.time) c cs h))
  where
    here : (t : ℕ) → time < t → nat_lt time t ≡ true
    here t lt = grind (arith, nat_tests)

pub frames_join : FramesJoin
frames_join p first start time cs ds h k =
    ap (frames p start) (flat_map-append
    (λ (c : Cycle). filter_map (shown_by p.space first c.time) c.y) cs ds)
    ∙ frames_shown p start time (shown_in p.space first cs) (shown_in p.space first ds)
    (shown_pass (is_until time) p.space first cs (all_until time cs h))
    (shown_pass (is_after time) p.space first ds (all_after time ds k))

pub texts_join : TextsJoin
texts_join = record { log = log_joins; out = out_joins; frames = frames_join }
