-- The first hold of each state.
use Rattle.std.proofs.Common.{◌≡◌, ◌≢◌, ℕ, ◌+◌, ◌<◌, Bool, true, false, not, cond, Option, Some, None, List, [], ◌∷◌, ◌++◌, length, get_or, set, map, suc, zero, unwrap_or, refl, sym, ap, ◌∙◌, subst, arith, append_assoc}
use Rattle.std.specs.Prelude.{ℤ, ◌||◌, ◌==◌, codes}
use Rattle.std.proofs.lemmas.Bool.{false≢true}
use Rattle.std.proofs.lemmas.Bool.Decides.{nat_tests}
use Rattle.std.proofs.lemmas.List.{append-nil, length-map, length-set, get_or-set_same, get_or-set_other}
use Rattle.std.proofs.lemmas.List.Elements.{filter-append, filter_map-append, All-map, All-same}
use Rattle.std.specs.Borrow.{Bor}
use Rattle.std.specs.List.{All, filter_map, find, flat_map, list_any, range_with_len}
use Rattle.std.specs.Option.{option_map, option_to_list, is_some, IfSome}
use Rattle.std.specs.Str.{bytes_eq}
use Rattle.quantity.specs.Bytes.{Bytes}
use Rattle.atomic_face.specs.declared.params.Param.{Param}
use Rattle.atomic_face.specs.Settings.{least_line}
use Rattle.atomic_face.specs.TableSettings.{HoldWords, hold_in, holds_of, holds_off, is_new_hold, line_unless, with_key}
use Rattle.atomic_face.specs.TableSettings as table
use Rattle.source_text.specs.Shown.{texts}
use Rattle.state_tables.specs.declared.settings.Hold.{Hold}
use Rattle.state_tables.specs.Settings.{hold_words, IsHoldOf}
use Rattle.quantity.specs.Times.{earlier}
use Rattle.state_tables.specs.Reading.{hold_lines, hold_read, holds_with, words_of_hold, HasHolds}
use Rattle.state_tables.proofs.Lines.{least_of-none, line_step}

none_some : {A : Type 0} {x : A} → None ≡ Some x → ⊥
none_some e = cc

-- ---- the first hold of a state

abbrev is_of : ℕ → HoldWords → Bool
is_of state h = h.state == state

abbrev words_at : List HoldWords → ℕ → Option (List ℤ)
words_at hs state = option_map (λ (h : HoldWords). h.words) (find (is_of state) hs)

abbrev or_else : {A : Type 0} → Option A → Option A → Option A
or_else None o = o
or_else (Some x) o = Some x

push_by : (p : HoldWords → Bool) (k : HoldWords) (hs : List HoldWords) (h : HoldWords) (b : Bool) → find p (hs ++ h ∷ []) ≡ or_else (find p hs) (cond (p h) (Some h) None) → cond b (Some k) (find p (hs ++ h ∷ [])) ≡ or_else (cond b (Some k) (find p hs)) (cond (p h) (Some h) None)
push_by p k hs h true rest = refl
push_by p k hs h false rest = rest

find_push : (p : HoldWords → Bool) (hs : List HoldWords) (h : HoldWords) → find p (hs ++ h ∷ []) ≡ or_else (find p hs) (cond (p h) (Some h) None)
find_push p [] h = refl
find_push p (k ∷ hs) h = push_by p k hs h (p k) (find_push p hs h)

found_by : (h : HoldWords) (found : Option HoldWords) (among b : Bool) → among ≡ is_some found → (b || among) ≡ is_some (cond b (Some h) found)
found_by h found among true e = refl
found_by h found among false e = e

any_found : (p : HoldWords → Bool) (hs : List HoldWords) → list_any p hs ≡ is_some (find p hs)
any_found p [] = refl
any_found p (h ∷ hs) = found_by h (find p hs) (list_any p hs) (p h) (any_found p hs)

-- ---- one more hold

same_presence : (slot : Option Hold) (found : Option HoldWords) → option_map words_of_hold slot ≡ option_map (λ (h : HoldWords). h.words) found → is_some slot ≡ is_some found
same_presence None None e = refl
same_presence None (Some h) e = absurd (none_some e)
same_presence (Some x) None e = absurd (none_some (sym e))
same_presence (Some x) (Some h) e = refl

-- a hold of a state is new where the state has none
pub new_hold : (holds : List (Option Hold)) (before : List HoldWords) (h : HoldWords) → h.state < length holds → HasHolds holds before → not (is_some (get_or holds h.state None)) ≡ is_new_hold before (Some h)
new_hold holds before h lt has =
    ap not (same_presence (get_or holds h.state None) (find (is_of h.state) before) (has h.state lt) ∙ sym (any_found (is_of h.state) before))

pub keep_none : (holds : List (Option Hold)) (before : List HoldWords) → HasHolds holds before → HasHolds holds (before ++ [])
keep_none holds before has = rw append-nil has

kept : (slot : Option Hold) (found : Option HoldWords) (b : Bool) (h : HoldWords) → option_map words_of_hold slot ≡ option_map (λ (h : HoldWords). h.words) found → (b ≡ true → is_some slot ≡ true)
    → option_map words_of_hold slot ≡ option_map (λ (h : HoldWords). h.words) (or_else found (cond b (Some h) None))
kept slot (Some x) b h e g = e
kept None None true h e g = absurd (false≢true (g refl))
kept (Some y) None true h e g = absurd (none_some (sym e))
kept None None false h e g = e
kept (Some y) None false h e g = e

-- a second hold of a state changes nothing
pub keep_old : (holds : List (Option Hold)) (before : List HoldWords) (h : HoldWords) → is_some (get_or holds h.state None) ≡ true → HasHolds holds before → HasHolds holds (before ++ h ∷ [])
keep_old holds before h old has k lt =
    kept (get_or holds k None) (find (is_of k) before) (h.state == k) h (has k lt) (λ e. let same : h.state ≡ k = grind (arith, nat_tests) in subst (λ n. is_some (get_or holds n None) ≡ true) same old)
    ∙ ap (option_map (λ (h : HoldWords). h.words)) (sym (find_push (is_of k) before h))

absent : (slot : Option Hold) (found : Option HoldWords) → is_some slot ≡ false → option_map words_of_hold slot ≡ option_map (λ (h : HoldWords). h.words) found → found ≡ None
absent None None n e = refl
absent None (Some h) n e = absurd (none_some e)
absent (Some x) found n e = absurd (false≢true (sym n))

first_at : (holds : List (Option Hold)) (before : List HoldWords) (state : ℕ) (hold : Hold) (k : ℕ) (b : Bool) → (state == k) ≡ b → state < length holds → is_some (get_or holds state None) ≡ false → k < length holds → HasHolds holds before
    → option_map words_of_hold (get_or (set holds state (Some hold)) k None) ≡ option_map (λ (h : HoldWords). h.words) (or_else (find (is_of k) before) (cond b (Some (hold_read (state, hold))) None))
first_at holds before state hold k true e lt none in' has =
    let same : state ≡ k = grind (arith, nat_tests) in
    let free : is_some (get_or holds k None) ≡ false = subst (λ n. is_some (get_or holds n None) ≡ false) same none in
    let nothing : find (is_of k) before ≡ None = absent (get_or holds k None) (find (is_of k) before) free (has k in') in
    ap (option_map words_of_hold) (subst (λ n. get_or (set holds state (Some hold)) n None ≡ Some hold) same (get_or-set_same holds state (Some hold) None lt))
    ∙ ap (λ o. option_map (λ (h : HoldWords). h.words) (or_else o (Some (hold_read (state, hold))))) (sym nothing)
first_at holds before state hold k false e lt none in' has =
    let other : k ≢ state = λ same. false≢true (sym e ∙ same_test k state same) in
    ap (option_map words_of_hold) (get_or-set_other holds state k (Some hold) None other)
    ∙ kept (get_or holds k None) (find (is_of k) before) false (hold_read (state, hold)) (has k in') (λ f. absurd (false≢true f))
  where
    same_test : (k state : ℕ) → k ≡ state → (state == k) ≡ true
    same_test k state same = grind (arith, nat_tests)

-- the first hold of a state is kept
pub keep_new : (holds : List (Option Hold)) (before : List HoldWords) (state : ℕ) (hold : Hold) → state < length holds → is_some (get_or holds state None) ≡ false → HasHolds holds before → HasHolds (set holds state (Some hold)) (before ++ hold_read (state, hold) ∷ [])
keep_new holds before state hold lt none has k in' =
    first_at holds before state hold k (state == k) refl lt none (in_old k in') has
    ∙ ap (option_map (λ (h : HoldWords). h.words)) (sym (find_push (is_of k) before (hold_read (state, hold))))
  where
    in_old : (k : ℕ) → k < length (set holds state (Some hold)) → k < length holds
    in_old k h = simp length-set at h

-- ---- one parameter

none_added : (h : Option HoldWords) → filter_map (λ (o : Option HoldWords). o) (h ∷ []) ≡ option_to_list h
none_added None = refl
none_added (Some h) = refl

pub other_key : (names : List Bytes) (before : List HoldWords) (e : Param) → bytes_eq e.key (codes "hold") ≡ false → (holds_with names before e ≡ before) × (hold_lines names before e ≡ [])
other_key names before e f = (
  ap (λ b. before ++ filter_map (hold_in names) (cond b (e ∷ []) [])) f ∙ append-nil before,
  ap (λ b. cond b (line_unless (is_new_hold before (hold_in names e)) e) []) f,
)

pub hold_key : (names : List Bytes) (before : List HoldWords) (e : Param) → bytes_eq e.key (codes "hold") ≡ true
    → (holds_with names before e ≡ before ++ option_to_list (hold_in names e)) × (hold_lines names before e ≡ line_unless (is_new_hold before (hold_in names e)) e)
hold_key names before e f = (
  ap (λ b. before ++ filter_map (hold_in names) (cond b (e ∷ []) [])) f ∙ ap (λ hs. before ++ hs) (none_added (hold_in names e)),
  ap (λ b. cond b (line_unless (is_new_hold before (hold_in names e)) e) []) f,
)

-- a hold that was read is the next one
pub one_more : (names : List Bytes) (before : List HoldWords) (e : Param) (holds : List (Option Hold)) (h : Option HoldWords) → bytes_eq e.key (codes "hold") ≡ true → h ≡ hold_in names e → HasHolds holds (before ++ option_to_list h) → HasHolds holds (holds_with names before e)
one_more names before e holds h f same has =
    subst (HasHolds holds) (ap (λ o. before ++ option_to_list o) same ∙ sym (hold_key names before e f).0) has

-- the line of a hold, when it is known whether it is new
pub hold_line : (names : List Bytes) (before : List HoldWords) (e : Param) (h : Option HoldWords) (new : Bool) → bytes_eq e.key (codes "hold") ≡ true → h ≡ hold_in names e → new ≡ is_new_hold before h → line_unless new e ≡ hold_lines names before e
hold_line names before e h new f same is =
    ap (λ b. line_unless b e) (is ∙ ap (is_new_hold before) same) ∙ sym (hold_key names before e f).1

-- ---- all parameters

lines_step : (names : List Bytes) (before : List HoldWords) (e : Param) (rest : List Param) → holds_off names before (with_key (codes "hold") (e ∷ rest)) ≡ hold_lines names before e ++ holds_off names (holds_with names before e) (with_key (codes "hold") rest)
lines_step names before e rest = go (bytes_eq e.key (codes "hold"))
  where
    go : (b : Bool) → holds_off names before (cond b (e ∷ with_key (codes "hold") rest) (with_key (codes "hold") rest))
        ≡ cond b (line_unless (is_new_hold before (hold_in names e)) e) [] ++ holds_off names (before ++ filter_map (hold_in names) (cond b (e ∷ []) [])) (with_key (codes "hold") rest)
    go true = refl
    go false = ap (λ hs. holds_off names hs (with_key (codes "hold") rest)) (sym (append-nil before))

read_step : (names : List Bytes) (e : Param) (rest : List Param) → holds_of names (e ∷ rest) ≡ holds_of names (e ∷ []) ++ holds_of names rest
read_step names e rest =
    ap (filter_map (hold_in names)) (filter-append (λ (e : Param). bytes_eq e.key (codes "hold")) (e ∷ []) rest)
    ∙ filter_map-append (hold_in names) (with_key (codes "hold") (e ∷ [])) (with_key (codes "hold") rest)

-- the holds of the parameters before the rest are read
pub record SoFar (names : List Bytes) (es rest : List Param) (holds : List (Option Hold)) (first : Option ℕ) : Type 0 where
  pub before : List HoldWords
  pub has : HasHolds holds before
  pub all : before ++ holds_of names rest ≡ holds_of names es
  pub line : earlier first (least_line (holds_off names before (with_key (codes "hold") rest))) ≡ least_line (holds_off names [] (with_key (codes "hold") es))

pub so_far-none : (names : List Bytes) (es : List Param) (holds : List (Option Hold)) → HasHolds holds [] → SoFar names es es holds None
so_far-none names es holds has = record { before = []; has = has; all = refl; line = refl }

pub so_far-step : (names : List Bytes) (es : List Param) (e : Param) (rest : List Param) (holds later : List (Option Hold)) (first now : Option ℕ) → SoFar names es (e ∷ rest) holds first
    → ((before : List HoldWords) → HasHolds holds before → HasHolds later (holds_with names before e))
    → ((before : List HoldWords) → HasHolds holds before → option_to_list now ≡ hold_lines names before e)
    → SoFar names es rest later (earlier first now)
so_far-step names es e rest holds later first now s has line = record {
  before = holds_with names s.before e;
  has = has s.before s.has;
  all = append_assoc s.before (holds_of names (e ∷ [])) (holds_of names rest) ∙ ap (λ hs. s.before ++ hs) (sym (read_step names e rest)) ∙ s.all;
  line = line_step first now (hold_lines names s.before e) (holds_off names (holds_with names s.before e) (with_key (codes "hold") rest)) (least_line (holds_off names [] (with_key (codes "hold") es))) (line s.before s.has) (ap (λ ns. earlier first (least_line ns)) (sym (lines_step names s.before e rest)) ∙ s.line);
}

pub so_far-holds : (names : List Bytes) (es : List Param) (holds : List (Option Hold)) (first : Option ℕ) → SoFar names es [] holds first → HasHolds holds (holds_of names es)
so_far-holds names es holds first s = subst (λ hs. HasHolds holds hs) (sym (append-nil s.before) ∙ s.all) s.has

pub so_far-line : (names : List Bytes) (es : List Param) (holds : List (Option Hold)) (first : Option ℕ) → SoFar names es [] holds first → first ≡ least_line (holds_off names [] (with_key (codes "hold") es))
so_far-line names es holds first s = sym (least_of-none first) ∙ s.line

-- ---- the numbers of the holds

one_state : (slot : Option Hold) (found : Option HoldWords) → option_map words_of_hold slot ≡ option_map (λ (h : HoldWords). h.words) found
    → hold_words slot ≡ unwrap_or (option_map (λ (h : HoldWords). h.words) found) (hold_words None)
one_state None found e = ap (λ o. unwrap_or o (hold_words None)) e
one_state (Some h) found e = ap (λ o. unwrap_or o (hold_words None)) e

words_from : (hs : List HoldWords) (a : ℕ) (holds : List (Option Hold)) → ((k : ℕ) → k < length holds → option_map words_of_hold (get_or holds k None) ≡ words_at hs (a + k))
    → flat_map hold_words holds ≡ flat_map (table.hold_words hs) (range_with_len a (length holds))
words_from hs a [] has = refl
words_from hs a (slot ∷ holds) has =
    ap (λ ws. ws ++ flat_map hold_words holds) (one_state slot (find (is_of a) hs) (at_first a (has 0 (omega arith))))
    ∙ ap (λ ws. table.hold_words hs a ++ ws) (words_from hs (a + 1) holds (λ k lt. at_next k (has (suc k) (omega arith))))
  where
    at_first : (n : ℕ) → option_map words_of_hold slot ≡ words_at hs (n + 0) → option_map words_of_hold slot ≡ words_at hs n
    at_first n e = let same : n + 0 ≡ n = omega arith in rw same at e

    at_next : (k : ℕ) → option_map words_of_hold (get_or holds k None) ≡ words_at hs (a + suc k) → option_map words_of_hold (get_or holds k None) ≡ words_at hs (a + 1 + k)
    at_next k e = let same : a + suc k ≡ a + 1 + k = omega arith in rw same at e

pub words_of_holds : (hs : List HoldWords) (holds : List (Option Hold)) → HasHolds holds hs → flat_map hold_words holds ≡ flat_map (table.hold_words hs) (range_with_len 0 (length holds))
words_of_holds hs holds has = words_from hs 0 holds (λ k lt. let same : 0 + k ≡ k = omega arith in rw same (has k lt))

abbrev none_of : {A : Type 0} → A → Option Hold
none_of x = None

none_at : {A : Type 0} (xs : List A) (k : ℕ) → get_or (map none_of xs) k None ≡ None
none_at [] k = refl
none_at (x ∷ xs) zero = refl
none_at (x ∷ xs) (suc k) = none_at xs k

-- before the first parameter no state has a hold
pub none_read : (states : List (Bor Bytes)) (es : List Param) (holds : List (Option Hold)) → holds ≡ map none_of states
    → (length holds ≡ length states) × SoFar (texts states) es es holds None × All (λ h. IfSome h (IsHoldOf (length states))) holds
none_read states es holds e = (
  ap length e ∙ length-map states none_of,
  so_far-none (texts states) es holds (subst (λ hs. HasHolds hs []) (sym e) (λ k lt. ap (option_map words_of_hold) (none_at states k))),
  All-same (λ h. IfSome h (IsHoldOf (length states))) holds (map none_of states) e (All-map (λ h. IfSome h (IsHoldOf (length states))) none_of states (λ k d lt. tt)),
)
