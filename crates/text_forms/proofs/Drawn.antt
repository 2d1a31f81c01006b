-- Frames drawn from a log are those of the cycles.
use Rattle.std.proofs.Common.{◌≡◌, ℕ, zero, suc, ◌+◌, ◌==◌, ◌&&◌, not, Bool, true, false, cond}
use Rattle.std.proofs.Common.{Option, Some, None, List, [], ◌∷◌, ◌++◌, refl, sym, ap, ◌∙◌, arith}
use Rattle.std.proofs.Common.{length, map, nat_lt, nat_le, Result, Ok, Err, option_map, slice_get}
use Rattle.std.proofs.Common.{drop}
use Rattle.std.proofs.lemmas.List.{append-nil, append_assoc}
use Rattle.std.proofs.lemmas.Grind.{flat_map-append}
use Rattle.std.proofs.lemmas.List.Splits.{slice_split_at}
use Rattle.std.proofs.lemmas.List.Folds.{list_all-append}
use Rattle.std.proofs.lemmas.Bool.Decides.{nat_tests}
use Rattle.std.specs.List.{slice_split, list_all, filter, filter_map, flat_map, cons_option}
use Rattle.std.specs.Str.{bytes_eq}
use Rattle.std.specs.Option.{option_to_list, is_some, unwrap_or}
use Rattle.cell_grid.specs.Space.{Space}
use Rattle.model_tree.specs.Tree.{Word, Leaf, leaves}
use Rattle.run_model.specs.Run.{Cycle, PortRecord}
use Rattle.quantity.specs.Bytes.{Bytes}
use Rattle.text_forms.specs.declared.letter.Letter.{Letter}
use Rattle.text_forms.specs.declared.letter.Letter.TheVariants.{Y}
use Rattle.text_forms.specs.Letters.{all_letters, has_letter}
use Rattle.text_forms.specs.LogLine.{LogLine, given, moved, letter_of, line_text, is_line, parts_of}
use Rattle.text_forms.specs.LogLine.{with_strokes}
use Rattle.text_forms.specs.Lines.{line_with_end, leaf_name, given_line, moved_line, out_port_name}
use Rattle.text_forms.specs.Lines.{LetterRecords, of_ports, of_moves, records_of, lines_of_records}
use Rattle.text_forms.specs.Lines.{lines_of_letter, cycle_lines, log_lines}
use Rattle.text_forms.specs.Frames.{ShownCell, shown_of, shown_by, shown_in, is_drawn, line_time}
use Rattle.text_forms.specs.Frames.{not_before}
use Rattle.text_forms.specs.Frames.{and_shown, shown_at, cell_of_coordinates, lines_from, drawn_lines}
use Rattle.text_forms.specs.DrawnLines.{NamesCells, never_fall, have_leaves, DrawnFromCycles}
use Rattle.quantity.proofs.DigitLemmas.{both}
use Rattle.quantity.proofs.Written.{has_no, none_at, and_true}
use Rattle.text_forms.proofs.WrittenLines.{Sep, join_no, given_fits, given_no, moved_fits, moved_no}
use Rattle.text_forms.proofs.WrittenLines.{line_read}

-- ---- the log cut at its line ends

pub line_end : Sep 10
line_end =
    record {
      digit = refl;
      name = refl;
      minus = refl;
      point = refl;
      colon = refl;
      open_at = refl;
      close_at = refl;
      comma = refl;
      question = refl;
    }

strokes_no : (parts : List Bytes) → list_all (has_no 10) parts ≡ true
    → list_all (has_no 10) (with_strokes parts) ≡ true
strokes_no [] h = refl
strokes_no (x ∷ []) h = h
strokes_no (x ∷ y ∷ ys) h =
    let k = both (has_no 10 x) (list_all (has_no 10) (y ∷ ys)) h in
    and_true _ _ k.0 (and_true _ _ refl (strokes_no (y ∷ ys) k.1))

parts_no : (l : LogLine) → is_line l ≡ true → list_all (has_no 10) (parts_of l) ≡ true
parts_no (given letter t leaf port v) h =
    given_no 10 line_end refl letter t leaf port v (given_fits letter t leaf port v h)
parts_no (moved t leaf state next) h =
    moved_no 10 line_end refl t leaf state next (moved_fits t leaf state next h)

line_no : (l : LogLine) → is_line l ≡ true → has_no 10 (line_text l) ≡ true
line_no l h =
    join_no 10 32 refl (with_strokes (parts_of l)) (strokes_no (parts_of l) (parts_no l h))

abbrev bytes_of : List LogLine → Bytes
bytes_of ls = flat_map (λ l. line_with_end (line_text l)) ls

cut_lines : (ls : List LogLine) → list_all is_line ls ≡ true
    → slice_split (λ c. c == 10) (bytes_of ls) ≡ map line_text ls ++ [] ∷ []
cut_lines [] h = refl
cut_lines (l ∷ ls) h =
    let k = both (is_line l) (list_all is_line ls) h in
    ap (slice_split (λ c. c == 10)) (append_assoc (line_text l) (10 ∷ []) (bytes_of ls))
    ∙ slice_split_at (λ c. c == 10) (line_text l) 10 (bytes_of ls)
    (none_at 10 (line_text l) (line_no l k.0)) refl
    ∙ ap (λ ps. line_text l ∷ ps) (cut_lines ls k.1)

-- ---- the lines read, one after another

abbrev shows : Space → Word → LogLine → Bool
shows s group l = is_some (shown_of s group l)

abbrev shown_list : Space → Word → LogLine → List ShownCell
shown_list s group l = unwrap_or (shown_of s group l) []

abbrev times_rise : ℕ → List LogLine → Bool
times_rise before [] = true
times_rise before (l ∷ ls) = nat_le before (line_time l) && times_rise (line_time l) ls

and_more : (n : ℕ) (o : Option (List ShownCell)) (rest : List ShownCell) → is_some o ≡ true
    → and_shown n o (Ok rest) ≡ Ok (unwrap_or o [] ++ rest)
and_more n None rest h = absurd cc
and_more n (Some here) rest h = refl

abbrev go_on : Space → Word → ℕ → List Bytes → Option LogLine → Result (List ShownCell) ℕ
go_on s group n parts o =
    elim o [
      | None ↦ Err n
      | Some l ↦ and_shown n (shown_of s group l)
          (lines_from s group (n + 1) (line_time l) parts)
    ]

one_step : (s : Space) (group : Word) (n before : ℕ) (l : LogLine) (next : Bytes) (more : List Bytes) (rest : List ShownCell) → is_line l ≡ true → nat_le before (line_time l) ≡ true → shows s group l ≡ true → lines_from s group (n + 1) (line_time l) (next ∷ more) ≡ Ok rest → lines_from s group n before (line_text l ∷ next ∷ more) ≡ Ok (shown_list s group l ++ rest)
one_step s group n before l next more rest fits le shown e =
    ap (λ o. go_on s group n (next ∷ more) (not_before before o)) (line_read l fits)
    ∙ ap (λ b. go_on s group n (next ∷ more) (cond b (Some l) None)) le
    ∙ ap (and_shown n (shown_of s group l)) e ∙ and_more n (shown_of s group l) rest shown

walk : (s : Space) (group : Word) (n before : ℕ) (ls : List LogLine) → list_all is_line ls ≡ true
    → times_rise before ls ≡ true → list_all (shows s group) ls ≡ true
    → lines_from s group n before (map line_text ls ++ [] ∷ [])
    ≡ Ok (flat_map (shown_list s group) ls)
walk s group n before [] a b c = refl
walk s group n before (l ∷ []) a b c =
    one_step s group n before l [] [] [] (both (is_line l) true a).0
    (both (nat_le before (line_time l)) true b).0 (both (shows s group l) true c).0 refl
walk s group n before (l ∷ m ∷ ls) a b c =
    let a' = both (is_line l) (list_all is_line (m ∷ ls)) a in
    let b' = both (nat_le before (line_time l)) (times_rise (line_time l) (m ∷ ls)) b in
    let c' = both (shows s group l) (list_all (shows s group) (m ∷ ls)) c in
    one_step s group n before l (line_text m) (map line_text ls ++ [] ∷ [])
    (flat_map (shown_list s group) (m ∷ ls)) a'.0 b'.0 c'.0
    (walk s group (n + 1) (line_time l) (m ∷ ls) a'.1 b'.1 c'.1)

-- ---- the lines of the chosen letters

kept_or_not : {A : Type 0} (q : A → Bool) (b : Bool) (x : A) (xs : List A) → q x ≡ true
    → list_all q xs ≡ true → list_all q (cond b (x ∷ xs) xs) ≡ true
kept_or_not q true x xs e h = and_true _ _ e h
kept_or_not q false x xs e h = h

pub all_kept : {A : Type 0} (q p : A → Bool) (xs : List A) → list_all q xs ≡ true
    → list_all q (filter p xs) ≡ true
all_kept q p [] h = refl
all_kept q p (x ∷ xs) h =
    let k = both (q x) (list_all q xs) h in
    kept_or_not q (p x) x (filter p xs) k.0 (all_kept q p xs k.1)

le_both : (a b c : ℕ) → nat_le a b ≡ true → nat_le b c ≡ true → nat_le a c ≡ true
le_both a b c e f = grind (arith, nat_tests)

earlier : (a b : ℕ) (ls : List LogLine) → nat_le a b ≡ true → times_rise b ls ≡ true
    → times_rise a ls ≡ true
earlier a b [] e h = refl
earlier a b (l ∷ ls) e h =
    let k = both (nat_le b (line_time l)) (times_rise (line_time l) ls) h in
    and_true _ _ (le_both a b (line_time l) e k.0) k.1

rise_or_not : (b : Bool) (before : ℕ) (l : LogLine) (ls : List LogLine)
    → nat_le before (line_time l) ≡ true → times_rise (line_time l) ls ≡ true
    → times_rise before (cond b (l ∷ ls) ls) ≡ true
rise_or_not true before l ls e h = and_true _ _ e h
rise_or_not false before l ls e h = earlier before (line_time l) ls e h

rise_kept : (p : LogLine → Bool) (before : ℕ) (ls : List LogLine) → times_rise before ls ≡ true
    → times_rise before (filter p ls) ≡ true
rise_kept p before [] h = refl
rise_kept p before (l ∷ ls) h =
    let k = both (nat_le before (line_time l)) (times_rise (line_time l) ls) h in
    rise_or_not (p l) before l (filter p ls) k.0 (rise_kept p (line_time l) ls k.1)

-- a line of another letter shows nothing
other_letter : (s : Space) (group : Word) (l : LogLine) → is_drawn (letter_of l) ≡ false
    → shown_of s group l ≡ Some []
other_letter s group (given letter t leaf port v) h =
    ap (λ b. cond (b && bytes_eq leaf.name group) (shown_at t v (cell_of_coordinates s leaf.at)) (Some [])) h
other_letter s group (moved t leaf state next) h = refl

not_chosen : (letters : List ℕ) (letter : Letter) → has_letter letters Y ≡ true
    → has_letter letters letter ≡ false → is_drawn letter ≡ false
not_chosen letters Y y off = let bad : true ≡ false = sym y ∙ off in absurd cc
not_chosen letters letter y off = refl

shown_or_not : (s : Space) (group : Word) (b : Bool) (l : LogLine) (ls all : List LogLine)
    → (b ≡ false → shown_of s group l ≡ Some [])
    → flat_map (shown_list s group) ls ≡ flat_map (shown_list s group) all
    → flat_map (shown_list s group) (cond b (l ∷ ls) ls)
    ≡ shown_list s group l ++ flat_map (shown_list s group) all
shown_or_not s group true l ls all none e = ap (λ xs. shown_list s group l ++ xs) e
shown_or_not s group false l ls all none e =
    e ∙ sym (ap (λ o. unwrap_or o [] ++ flat_map (shown_list s group) all) (none refl))

shown_kept : (s : Space) (group : Word) (letters : List ℕ) (ls : List LogLine)
    → has_letter letters Y ≡ true
    → flat_map (shown_list s group) (filter (λ l. has_letter letters (letter_of l)) ls)
    ≡ flat_map (shown_list s group) ls
shown_kept s group letters [] y = refl
shown_kept s group letters (l ∷ ls) y =
    let kept = filter (λ l. has_letter letters (letter_of l)) ls in
    shown_or_not s group (has_letter letters (letter_of l)) l kept ls
    (λ off. other_letter s group l (not_chosen letters (letter_of l) y off))
    (shown_kept s group letters ls y)

-- ---- the lines of a cycle

-- all lines that a record gives pass a test
abbrev passes : (LogLine → Bool) → Option LogLine → Bool
passes q None = true
passes q (Some l) = q l

cons_passes : (q : LogLine → Bool) (o : Option LogLine) (ls : List LogLine) → passes q o ≡ true
    → list_all q ls ≡ true → list_all q (cons_option o ls) ≡ true
cons_passes q None ls e h = h
cons_passes q (Some l) ls e h = and_true _ _ e h

each_passes : {R : Type 0} (q : LogLine → Bool) (f : R → Option LogLine) (rs : List R)
    → ((r : R) → passes q (f r) ≡ true) → list_all q (filter_map f rs) ≡ true
each_passes q f [] h = refl
each_passes q f (r ∷ rs) h = cons_passes q (f r) (filter_map f rs) (h r) (each_passes q f rs h)

mapped_passes : (q : LogLine → Bool) (g : Leaf → LogLine) (o : Option Leaf)
    → ((l : Leaf) → o ≡ Some l → q (g l) ≡ true) → passes q (option_map g o) ≡ true
mapped_passes q g None h = refl
mapped_passes q g (Some l) h = h l refl

-- what holds of the lines of each letter
pub letters_pass : (q : LogLine → Bool) (lines : Letter → List LogLine)
    → ((letter : Letter) → list_all q (lines letter) ≡ true)
    → (letters : List Letter) → list_all q (flat_map lines letters) ≡ true
letters_pass q lines each [] = refl
letters_pass q lines each (k ∷ ks) =
    list_all-append q (lines k) (flat_map lines ks)
    ∙ and_true _ _ (each k) (letters_pass q lines each ks)

itself : (n : ℕ) → (n == n) ≡ true
itself n = grind (arith, nat_tests)

times_of : (ls : List Leaf) (c : Cycle) (letter : Letter)
    → list_all (λ l. line_time l == c.time) (lines_of_letter ls c letter) ≡ true
times_of ls c letter = by (records_of c letter)
  where
    by : (rs : LetterRecords)
        → list_all (λ l. line_time l == c.time) (lines_of_records ls c.time letter rs) ≡ true
    by (of_ports port rs) =
        each_passes _ _ rs (λ r. mapped_passes _ _ (slice_get ls r.leaf) (λ l e. itself c.time))
    by (of_moves rs) =
        each_passes _ _ rs (λ r. mapped_passes _ _ (slice_get ls r.leaf) (λ l e. itself c.time))

cycle_times : (ls : List Leaf) (c : Cycle)
    → list_all (λ l. line_time l == c.time) (cycle_lines ls c) ≡ true
cycle_times ls c = letters_pass _ (lines_of_letter ls c) (times_of ls c) all_letters

-- lines that are not drawn are not refused
others_show : (s : Space) (group : Word) (ls : List Leaf) (t : ℕ) (letter : Letter)
    → is_drawn letter ≡ false → (rs : LetterRecords)
    → list_all (shows s group) (lines_of_records ls t letter rs) ≡ true
others_show s group ls t letter off (of_ports port rs) =
    each_passes (shows s group) _ rs
    (λ r. mapped_passes _ _ (slice_get ls r.leaf)
    (λ l e. ap is_some
    (other_letter s group (given letter t (leaf_name l) (port l r.port) r.value) off)))
others_show s group ls t letter off (of_moves rs) =
    each_passes (shows s group) _ rs (λ r. mapped_passes _ _ (slice_get ls r.leaf) (λ l e. refl))

is_shown : (s : Space) (group : Word) (l : LogLine) (xs : List ShownCell) → shown_of s group l ≡ Some xs
    → shows s group l ≡ true
is_shown s group l xs e = ap is_some e

module _ (s : Space) (group : Word) (first : ℕ) (ls : List Leaf) (c : Cycle)
    (names : NamesCells s group first ls) where
  y_shows : (r : PortRecord) (l : Leaf) → slice_get ls r.leaf ≡ Some l
      → shows s group (given Y c.time (leaf_name l) (out_port_name l r.port) r.value) ≡ true
  y_shows r l e =
      let name = out_port_name l r.port in
      is_shown s group (given Y c.time (leaf_name l) name r.value)
      (option_to_list (shown_by s first c.time r)) (names r.leaf l c.time r.port name r.value e)

  letter_shows : (letter : Letter) → list_all (shows s group) (lines_of_letter ls c letter) ≡ true
  letter_shows Y =
      each_passes (shows s group) _ c.y (λ r. mapped_passes _ _ (slice_get ls r.leaf) (y_shows r))
  letter_shows letter = others_show s group ls c.time letter refl (records_of c letter)

  cycle_shows : list_all (shows s group) (cycle_lines ls c) ≡ true
  cycle_shows = letters_pass _ (lines_of_letter ls c) letter_shows all_letters

-- ---- what a cycle's lines show

there : {A : Type 0} (xs : List A) (k : ℕ) → nat_lt k (length xs) ≡ true → slice_get xs k ≡ None → ⊥
there [] k h e = absurd (grind (arith, nat_tests))
there (x ∷ xs) zero h e = cc
there (x ∷ xs) (suc k) h e = there xs k (below k (length xs) h) e
  where
    below : (m n : ℕ) → nat_lt (suc m) (suc n) ≡ true → nat_lt m n ≡ true
    below m n h = grind (arith, nat_tests)

-- what a record's line shows
abbrev shown_line : Space → Word → Option LogLine → List ShownCell
shown_line s group None = []
shown_line s group (Some l) = shown_list s group l

cons_shown : (s : Space) (group : Word) (o : Option LogLine) (ls : List LogLine)
    → flat_map (shown_list s group) (cons_option o ls)
    ≡ shown_line s group o ++ flat_map (shown_list s group) ls
cons_shown s group None ls = refl
cons_shown s group (Some l) ls = refl

listed : {A : Type 0} (o : Option A) (xs : List A) → option_to_list o ++ xs ≡ cons_option o xs
listed None xs = refl
listed (Some x) xs = refl

y_record : (s : Space) (group : Word) (first : ℕ) (ls : List Leaf) (t : ℕ) (r : PortRecord)
    → NamesCells s group first ls → nat_lt r.leaf (length ls) ≡ true
    → shown_line s group (given_line ls t Y out_port_name r) ≡ option_to_list (shown_by s first t r)
y_record s group first ls t r names lt = go (slice_get ls r.leaf) refl
  where
    go : (o : Option Leaf) → slice_get ls r.leaf ≡ o
        → shown_line s group (option_map (λ l. given Y t (leaf_name l) (out_port_name l r.port) r.value) o)
        ≡ option_to_list (shown_by s first t r)
    go None e = absurd (there ls r.leaf lt e)
    go (Some l) e =
        ap (λ o. unwrap_or o []) (names r.leaf l t r.port (out_port_name l r.port) r.value e)

y_shown : (s : Space) (group : Word) (first : ℕ) (ls : List Leaf) (t : ℕ) (rs : List PortRecord)
    → NamesCells s group first ls
    → list_all (λ (r : PortRecord). nat_lt r.leaf (length ls)) rs ≡ true
    → flat_map (shown_list s group) (filter_map (given_line ls t Y out_port_name) rs)
    ≡ filter_map (shown_by s first t) rs
y_shown s group first ls t [] names h = refl
y_shown s group first ls t (r ∷ rs) names h =
    let line = given_line ls t Y out_port_name in
    let k = both (nat_lt r.leaf (length ls)) _ h in
    cons_shown s group (line r) (filter_map line rs)
    ∙ ap (λ xs. xs ++ flat_map (shown_list s group) (filter_map line rs))
    (y_record s group first ls t r names k.0)
    ∙ ap (λ xs. option_to_list (shown_by s first t r) ++ xs)
    (y_shown s group first ls t rs names k.1)
    ∙ listed (shown_by s first t r) (filter_map (shown_by s first t) rs)

nothing_shown : {R : Type 0} (s : Space) (group : Word) (f : R → Option LogLine) (rs : List R)
    → ((r : R) → shown_line s group (f r) ≡ [])
    → flat_map (shown_list s group) (filter_map f rs) ≡ []
nothing_shown s group f [] h = refl
nothing_shown s group f (r ∷ rs) h =
    cons_shown s group (f r) (filter_map f rs)
    ∙ ap (λ xs. xs ++ flat_map (shown_list s group) (filter_map f rs)) (h r)
    ∙ nothing_shown s group f rs h

no_line : (s : Space) (group : Word) (g : Leaf → LogLine) (o : Option Leaf)
    → ((l : Leaf) → shown_list s group (g l) ≡ []) → shown_line s group (option_map g o) ≡ []
no_line s group g None h = refl
no_line s group g (Some l) h = h l

-- lines that are not drawn
letter_hidden : (s : Space) (group : Word) (ls : List Leaf) (c : Cycle) (letter : Letter)
    → is_drawn letter ≡ false
    → flat_map (shown_list s group) (lines_of_letter ls c letter) ≡ []
letter_hidden s group ls c letter h = by (records_of c letter)
  where
    by : (rs : LetterRecords)
        → flat_map (shown_list s group) (lines_of_records ls c.time letter rs) ≡ []
    by (of_ports port rs) =
        nothing_shown s group (given_line ls c.time letter port) rs
        (λ r. no_line s group _ (slice_get ls r.leaf)
        (λ l. ap (λ o. unwrap_or o [])
        (other_letter s group (given letter c.time (leaf_name l) (port l r.port) r.value) h)))
    by (of_moves rs) =
        nothing_shown s group (moved_line ls c.time) rs
        (λ r. no_line s group _ (slice_get ls r.leaf) (λ l. refl))

letters_hidden : (s : Space) (group : Word) (ls : List Leaf) (c : Cycle) (letters : List Letter)
    → list_all (λ letter. not (is_drawn letter)) letters ≡ true
    → flat_map (shown_list s group) (flat_map (lines_of_letter ls c) letters) ≡ []
letters_hidden s group ls c [] h = refl
letters_hidden s group ls c (k ∷ ks) h =
    let m = both (not (is_drawn k)) (list_all (λ letter. not (is_drawn letter)) ks) h in
    let shown = flat_map (shown_list s group) in
    flat_map-append (shown_list s group) (lines_of_letter ls c k)
    (flat_map (lines_of_letter ls c) ks)
    ∙ ap (λ xs. xs ++ shown (flat_map (lines_of_letter ls c) ks))
    (letter_hidden s group ls c k (off (is_drawn k) m.0))
    ∙ letters_hidden s group ls c ks m.1
  where
    off : (b : Bool) → not b ≡ true → b ≡ false
    off true e = absurd cc
    off false e = refl

-- Y stands before all others
cycle_shown : (s : Space) (group : Word) (first : ℕ) (ls : List Leaf) (c : Cycle)
    → NamesCells s group first ls → have_leaves ls c ≡ true
    → flat_map (shown_list s group) (cycle_lines ls c) ≡ filter_map (shown_by s first c.time) c.y
cycle_shown s group first ls c names h =
    let others = drop 1 all_letters in
    let shown = flat_map (shown_list s group) in
    flat_map-append (shown_list s group) (lines_of_letter ls c Y)
    (flat_map (lines_of_letter ls c) others)
    ∙ ap (λ xs. shown (lines_of_letter ls c Y) ++ xs) (letters_hidden s group ls c others refl)
    ∙ append-nil (shown (lines_of_letter ls c Y)) ∙ y_shown s group first ls c.time c.y names h

cycles_shown : (s : Space) (group : Word) (first : ℕ) (ls : List Leaf) (cs : List Cycle)
    → NamesCells s group first ls → list_all (have_leaves ls) cs ≡ true
    → flat_map (shown_list s group) (flat_map (cycle_lines ls) cs) ≡ shown_in s first cs
cycles_shown s group first ls [] names h = refl
cycles_shown s group first ls (c ∷ cs) names h =
    let k = both (have_leaves ls c) (list_all (have_leaves ls) cs) h in
    flat_map-append (shown_list s group) (cycle_lines ls c) (flat_map (cycle_lines ls) cs)
    ∙ ap (λ xs. xs ++ flat_map (shown_list s group) (flat_map (cycle_lines ls) cs))
    (cycle_shown s group first ls c names k.0)
    ∙ ap (λ xs. filter_map (shown_by s first c.time) c.y ++ xs)
    (cycles_shown s group first ls cs names k.1)

-- ---- all lines

all_show : (s : Space) (group : Word) (first : ℕ) (ls : List Leaf) (cs : List Cycle)
    → NamesCells s group first ls → list_all (shows s group) (flat_map (cycle_lines ls) cs) ≡ true
all_show s group first ls [] names = refl
all_show s group first ls (c ∷ cs) names =
    list_all-append (shows s group) (cycle_lines ls c) (flat_map (cycle_lines ls) cs)
    ∙ and_true _ _ (cycle_shows s group first ls c names) (all_show s group first ls cs names)

le_same : (a b c : ℕ) → nat_le a b ≡ true → (c == b) ≡ true → nat_le a c ≡ true
le_same a b c e f = grind (arith, nat_tests)

le_itself : (a b : ℕ) → (a == b) ≡ true → nat_le a b ≡ true
le_itself a b e = grind (arith, nat_tests)

rise_on : (a t : ℕ) (ls more : List LogLine) → nat_le a t ≡ true
    → list_all (λ l. line_time l == t) ls ≡ true → times_rise t more ≡ true
    → times_rise a (ls ++ more) ≡ true
rise_on a t [] more e h m = earlier a t more e m
rise_on a t (l ∷ ls) more e h m =
    let k = both (line_time l == t) (list_all (λ l. line_time l == t) ls) h in
    and_true _ _ (le_same a t (line_time l) e k.0)
    (rise_on (line_time l) t ls more (le_itself (line_time l) t k.0) k.1 m)

all_rise : (a : ℕ) (ls : List Leaf) (cs : List Cycle) → never_fall a cs ≡ true
    → times_rise a (flat_map (cycle_lines ls) cs) ≡ true
all_rise a ls [] h = refl
all_rise a ls (c ∷ cs) h =
    let k = both (nat_le a c.time) (never_fall c.time cs) h in
    rise_on a c.time (cycle_lines ls c) (flat_map (cycle_lines ls) cs) k.0 (cycle_times ls c)
    (all_rise c.time ls cs k.1)

pub drawn_from_cycles : DrawnFromCycles
drawn_from_cycles tree cycles letters group first p a y =
    let ls = leaves tree in
    let lines = flat_map (cycle_lines ls) cycles in
    let chosen = log_lines ls letters cycles in
    let fits = all_kept is_line (λ l. has_letter letters (letter_of l)) lines a.lines in
    ap (λ parts. drawn_lines p (lines_from p.space group 1 0 parts)) (cut_lines chosen fits)
    ∙ ap (drawn_lines p) (walk p.space group 1 0 chosen fits
    (rise_kept _ 0 lines (all_rise 0 ls cycles a.times))
    (all_kept (shows p.space group) _ lines (all_show p.space group first ls cycles a.names)))
    ∙ ap (λ shown. drawn_lines p (Ok shown))
    (shown_kept p.space group letters lines y
    ∙ cycles_shown p.space group first ls cycles a.names a.leaves)
