-- The values of entries are in lower case, but for the names of files, and so are their words.
use Rattle.std.proofs.Common.{◌≡◌, ℕ, Bool, true, false, cond, Option, Some, None, List, [], ◌∷◌, ◌++◌, refl, subst, arith}
use Rattle.std.specs.Prelude.{◌&&◌, ◌==◌, not}
use Rattle.std.specs.declared.result.Result.{Result}
use Rattle.std.specs.declared.result.Result.TheVariants.{Ok}
use Rattle.std.specs.List.{AllByRecursion, list_all, filter, find, slice_split, onto_first}
use Rattle.std.specs.Option.{unwrap_or}
use Rattle.std.specs.Char.{is_ascii_uppercase, to_ascii_lowercase}
use Rattle.std.proofs.lemmas.Bool.Decides.{nat_tests}
use Rattle.std.proofs.lemmas.Bool.{and_parts}
use Rattle.quantity.specs.Bytes.{Bytes, is_blank, is_empty, words}
use Rattle.source_text.specs.Lines.{Line, lines_of, in_lower_case}
use Rattle.ma_lines.specs.declared.section.Entry.{Entry}
use Rattle.ma_lines.specs.declared.section.LineRefusal.{LineRefusal}
use Rattle.ma_lines.specs.Entries.{Braced, lines_with_braces, continuation, key_in, keeps_letters, value_after, entry_of, is_heading}
use Rattle.ma_lines.specs.Sections.{Section, Piece, heading, item, piece_of, pieces, first_entries, sections_in, lines_refused, section_name, unless_refused, sections_of}
use Rattle.run_model.proofs.Basics.{none_some, some_same, both_are, both_hold}

abbrev pub is_lower : ℕ → Bool
is_lower c = not (is_ascii_uppercase c)

folded_lower : (text : Bytes) → list_all is_lower (in_lower_case text) ≡ true
folded_lower [] = refl
folded_lower (c ∷ cs) = both_are (is_lower (to_ascii_lowercase c)) (list_all is_lower (in_lower_case cs)) (low c) (folded_lower cs)
  where
    low : (c : ℕ) → not (is_ascii_uppercase (to_ascii_lowercase c)) ≡ true
    low c = grind (arith, nat_tests)

-- ---- entries

pub record IsFolded (e : Entry) : Type 0 where
  pub folds : keeps_letters e.key ≡ false → list_all is_lower e.value ≡ true

entry_folds : (l : Line) (more : Bytes) → IsFolded (entry_of l more)
entry_folds l more = record { folds = go (keeps_letters (key_in l.text)) }
  where
    go : (b : Bool) → b ≡ false → list_all is_lower (cond b (value_after l.text ++ more) (in_lower_case (value_after l.text ++ more))) ≡ true
    go true e = absurd cc
    go false e = folded_lower (value_after l.text ++ more)

abbrev PieceFolds : Piece → Type 0
PieceFolds (heading line name) = Unit {0}
PieceFolds (item e) = IsFolded e

piece_folds : (l : Line) (more : Bytes) → AllByRecursion PieceFolds (piece_of l more)
piece_folds l more = go (is_empty l.text) (is_heading l)
  where
    go : (a b : Bool) → AllByRecursion PieceFolds (cond a [] (cond b (heading l.number (unwrap_or (section_name l) []) ∷ []) (item (entry_of l more) ∷ [])))
    go true b = tt
    go false true = (tt, tt)
    go false false = (entry_folds l more, tt)

pieces_fold : (bs : List Braced) → AllByRecursion PieceFolds (pieces bs)
pieces_fold [] = tt
pieces_fold (b ∷ bs) = both_hold PieceFolds (cond (b.braces == 0) (piece_of b.line (continuation bs)) []) (pieces bs) (go (b.braces == 0)) (pieces_fold bs)
  where
    go : (c : Bool) → AllByRecursion PieceFolds (cond c (piece_of b.line (continuation bs)) [])
    go true = piece_folds b.line (continuation bs)
    go false = tt

abbrev pub EntriesFold : Section → Type 0
EntriesFold s = AllByRecursion IsFolded s.entries

first_fold : (ps : List Piece) → AllByRecursion PieceFolds ps → AllByRecursion IsFolded (first_entries ps)
first_fold [] h = tt
first_fold (heading line name ∷ ps) h = tt
first_fold (item e ∷ ps) h = (h.0, first_fold ps h.1)

sections_fold : (ps : List Piece) → AllByRecursion PieceFolds ps → AllByRecursion EntriesFold (sections_in ps)
sections_fold [] h = tt
sections_fold (heading line name ∷ ps) h = (first_fold ps h.1, sections_fold ps h.1)
sections_fold (item e ∷ ps) h = sections_fold ps h.1

pub read_sections_fold : (bytes : Bytes) (ss : List Section) → sections_of bytes ≡ Ok ss → AllByRecursion EntriesFold ss
unfolding sections_of
read_sections_fold bytes ss e = go (lines_refused (lines_of bytes)) e
  where
    go : (o : Option LineRefusal) → unless_refused o (lines_of bytes) ≡ Ok ss → AllByRecursion EntriesFold ss
    go None f = subst (AllByRecursion EntriesFold) (same f) (sections_fold (pieces (lines_with_braces 0 (lines_of bytes))) (pieces_fold (lines_with_braces 0 (lines_of bytes))))
      where
        same : ◌≡◌ {A = Result (List Section) LineRefusal} (Ok (sections_in (pieces (lines_with_braces 0 (lines_of bytes))))) (Ok ss) → sections_in (pieces (lines_with_braces 0 (lines_of bytes))) ≡ ss
        same f = cc
    go (Some r) f = absurd cc

-- what holds of all holds of the one that is found
pub found_holds : {X : Type 0} (P : X → Type 0) (test : X → Bool) (xs : List X) (x : X) → AllByRecursion P xs → find test xs ≡ Some x → P x
found_holds P test [] x h e = absurd (none_some e)
found_holds {X} P test (y ∷ ys) x h e = go (λ f. found_holds P test ys x h.1 f) (test y) e
  where
    go : (find test ys ≡ Some x → P x) → (b : Bool) → cond b (Some y) (find test ys) ≡ Some x → P x
    go later true f = subst P (some_same y x f) h.0
    go later false f = later f

-- ---- words

abbrev AllOf : (ℕ → Bool) → List Bytes → Type 0
AllOf p ws = list_all (λ w. list_all p w) ws ≡ true

onto_first_all : (p : ℕ → Bool) (c : ℕ) (parts : List Bytes) → p c ≡ true → AllOf p parts → AllOf p (onto_first c parts)
onto_first_all p c [] h k = both_are (p c && true) true (both_are (p c) true h refl) refl
onto_first_all p c (w ∷ ws) h k =
    let q = and_parts (list_all p w) (list_all (λ w. list_all p w) ws) k in
    both_are (p c && list_all p w) (list_all (λ w. list_all p w) ws) (both_are (p c) (list_all p w) h q.0) q.1

split_all : (p : ℕ → Bool) (cut : ℕ → Bool) (text : Bytes) → list_all p text ≡ true → AllOf p (slice_split cut text)
split_all p cut [] h = refl
split_all p cut (c ∷ cs) h =
    let q = and_parts (p c) (list_all p cs) h in
    go (cut c) q.0 (split_all p cut cs q.1)
  where
    go : (b : Bool) → p c ≡ true → AllOf p (slice_split cut cs) → AllOf p (cond b ([] ∷ slice_split cut cs) (onto_first c (slice_split cut cs)))
    go true h k = k
    go false h k = onto_first_all p c (slice_split cut cs) h k

filter_all : (p test : Bytes → Bool) (ws : List Bytes) → list_all p ws ≡ true → list_all p (filter test ws) ≡ true
filter_all p test [] h = refl
filter_all p test (w ∷ ws) h =
    let q = and_parts (p w) (list_all p ws) h in
    go (test w) q.0 (filter_all p test ws q.1)
  where
    go : (b : Bool) → p w ≡ true → list_all p (filter test ws) ≡ true → list_all p (cond b (w ∷ filter test ws) (filter test ws)) ≡ true
    go true h k = both_are (p w) (list_all p (filter test ws)) h k
    go false h k = k

pub words_lower : (text : Bytes) → list_all is_lower text ≡ true → list_all (λ w. list_all is_lower w) (words text) ≡ true
words_lower text h = filter_all (λ w. list_all is_lower w) (λ w. not (is_empty w)) (slice_split is_blank text) (split_all is_lower is_blank text h)
