-- A file that is read line by line.
use Rattle.std.proofs.Common.{◌≡◌, ◌==◌, ℕ, ◌+◌, ◌<◌, ◌≤◌, Bool, true, false, cond, not, Option, Some, None, List, [], ◌∷◌, ◌++◌, refl, sym, ap, ◌∙◌, suc, arith, length, map, nat_le, append_assoc, append-nil}
use Rattle.std.specs.declared.result.Result.TheVariants.{Ok, Err}
use Rattle.std.specs.Prelude.{if◌then◌else◌}
use Rattle.std.proofs.lemmas.Bool.Decides.{nat_tests}
use Rattle.std.specs.List.{cons_option, enumerate_from, filter, filter_map, slice_split}
use Rattle.std.specs.Option.{option_or}
use Rattle.std.specs.Result.{result_ok}
use Rattle.quantity.specs.Bytes.{Bytes, is_byte, is_empty, words}
use Rattle.source_text.specs.Lines.{Line, text_of_line}
use Rattle.event_list.specs.declared.refusal.EventRefusal.{EventRefusal}
use Rattle.event_list.specs.declared.refusal.EventRefusal.TheVariants.{TooLarge}
use Rattle.event_list.specs.Events.{Event, event_at, event_of_words, event_refused, events_refused}
use Rattle.event_list.specs.LineByLine.{events_in, filled_from, filled_line, lines_left}

-- ---- one line

abbrev pub line : ℕ → Bytes → Line
line number piece = record { number = number; text = text_of_line piece }

abbrev is_filled : Line → Bool
is_filled l = not (is_empty l.text)

empty_by : (text : Bytes) → (length text == 0) ≡ true → not (is_empty text) ≡ false
empty_by [] e = refl
empty_by (c ∷ cs) e = absurd (let h : suc (length cs) ≡ 0 = grind (arith, nat_tests) in omega arith)

filled_by : (text : Bytes) → (length text == 0) ≡ false → not (is_empty text) ≡ true
filled_by [] e = absurd cc
filled_by (c ∷ cs) e = refl

pub filled_line-empty : (n : ℕ) (piece : Bytes) → (length (text_of_line piece) == 0) ≡ true → filled_line n piece ≡ []
filled_line-empty n piece e = ap (λ b. cond b (line n piece ∷ []) []) (empty_by (text_of_line piece) e)

-- an empty line is not refused, and adds nothing
pub nothing_refused : (ports : List Bytes) (before n : ℕ) (piece : Bytes) → (length (text_of_line piece) == 0) ≡ true → events_refused ports before (filled_line n piece) ≡ None
nothing_refused ports before n piece e = ap (events_refused ports before) (filled_line-empty n piece e)

pub nothing_added : (ports : List Bytes) (events : List Event) (n : ℕ) (piece : Bytes) → (length (text_of_line piece) == 0) ≡ true → events ≡ events ++ events_in ports (filled_line n piece)
nothing_added ports events n piece e = sym (ap (λ l. events ++ events_in ports l) (filled_line-empty n piece e) ∙ append-nil events)

pub nothing_counted : (before n : ℕ) (piece : Bytes) → (length (text_of_line piece) == 0) ≡ true → before ≡ before + length (filled_line n piece)
nothing_counted before n piece e = let h : length (filled_line n piece) ≡ 0 = ap length (filled_line-empty n piece e) in omega (arith, h)

pub filled_line-filled : (n : ℕ) (piece : Bytes) → (length (text_of_line piece) == 0) ≡ false → filled_line n piece ≡ line n piece ∷ []
filled_line-filled n piece e = ap (λ b. cond b (line n piece ∷ []) []) (filled_by (text_of_line piece) e)

-- what a filled line adds
pub record Adds (ports : List Bytes) (before n : ℕ) (piece : Bytes) (event : Event) : Type 0 where
  pub accepted : events_refused ports before (filled_line n piece) ≡ None
  pub events : events_in ports (filled_line n piece) ≡ event ∷ []
  pub count : length (filled_line n piece) ≡ 1

too_many : (before n : ℕ) (event : Event) → 1048576 ≤ before → event_refused before n (Ok event) ≡ Some (TooLarge n)
too_many before n event most = let e : nat_le 1048576 before ≡ true = grind (arith, nat_tests) in ap (λ b. if b then Some (TooLarge n) else None) e

few_enough : (before n : ℕ) (event : Event) → before < 1048576 → event_refused before n (Ok event) ≡ None
few_enough before n event most = let e : nat_le 1048576 before ≡ false = grind (arith, nat_tests) in ap (λ b. if b then Some (TooLarge n) else None) e

option_or-none : {A : Type 0} (o : Option A) → option_or o None ≡ o
option_or-none None = refl
option_or-none (Some x) = refl

refused_alone : (ports : List Bytes) (before n : ℕ) (piece : Bytes) → (length (text_of_line piece) == 0) ≡ false
    → events_refused ports before (filled_line n piece) ≡ event_refused before n (event_at ports (line n piece))
refused_alone ports before n piece e =
    ap (events_refused ports before) (filled_line-filled n piece e) ∙ option_or-none (event_refused before n (event_at ports (line n piece)))

pub line_adds : (ports : List Bytes) (before n : ℕ) (piece : Bytes) (event : Event) → (length (text_of_line piece) == 0) ≡ false
    → event_of_words ports n (words (text_of_line piece)) ≡ Ok event → before < 1048576 → Adds ports before n piece event
line_adds ports before n piece event e f few =
    record {
      accepted = refused_alone ports before n piece e ∙ ap (event_refused before n) f ∙ few_enough before n event few;
      events = ap (events_in ports) (filled_line-filled n piece e) ∙ ap (λ r. cons_option (result_ok r) []) f;
      count = ap length (filled_line-filled n piece e) ∙ one;
    }
  where
    one : suc 0 ≡ 1
    one = refl

pub line_refused : (ports : List Bytes) (before n : ℕ) (piece : Bytes) (refusal : EventRefusal) → (length (text_of_line piece) == 0) ≡ false
    → event_of_words ports n (words (text_of_line piece)) ≡ Err refusal → events_refused ports before (filled_line n piece) ≡ Some refusal
line_refused ports before n piece refusal e f = refused_alone ports before n piece e ∙ ap (event_refused before n) f

pub line_too_many : (ports : List Bytes) (before n : ℕ) (piece : Bytes) (event : Event) → (length (text_of_line piece) == 0) ≡ false
    → event_of_words ports n (words (text_of_line piece)) ≡ Ok event → 1048576 ≤ before → events_refused ports before (filled_line n piece) ≡ Some (TooLarge n)
line_too_many ports before n piece event e f most = refused_alone ports before n piece e ∙ ap (event_refused before n) f ∙ too_many before n event most

-- ---- line after line

filter_cut : {A : Type 0} (p : A → Bool) (x : A) (xs : List A) → filter p (x ∷ xs) ≡ filter p (x ∷ []) ++ filter p xs
filter_cut p x xs = by (p x)
  where
    by : (b : Bool) → cond b (x ∷ filter p xs) (filter p xs) ≡ cond b (x ∷ []) [] ++ filter p xs
    by true = refl
    by false = refl

pub lines_left-cut : (n : ℕ) (rest piece behind : Bytes) → slice_split (is_byte 10) rest ≡ piece ∷ slice_split (is_byte 10) behind
    → lines_left n rest ≡ filled_line n piece ++ lines_left (n + 1) behind
lines_left-cut n rest piece behind e =
    ap (filled_from n) e ∙ filter_cut is_filled (line n piece) (map (λ (p : ℕ × Bytes). line p.0 p.1) (enumerate_from (n + 1) (slice_split (is_byte 10) behind)))

pub lines_left-last : (n : ℕ) (rest : Bytes) → slice_split (is_byte 10) rest ≡ rest ∷ [] → lines_left n rest ≡ filled_line n rest
lines_left-last n rest e = ap (filled_from n) e

filter_map-append : {A B : Type 0} (f : A → Option B) (xs ys : List A) → filter_map f (xs ++ ys) ≡ filter_map f xs ++ filter_map f ys
filter_map-append f [] ys = refl
filter_map-append f (x ∷ xs) ys = by (f x) (filter_map-append f xs ys)
  where
    by : (o : Option _) → filter_map f (xs ++ ys) ≡ filter_map f xs ++ filter_map f ys → cons_option o (filter_map f (xs ++ ys)) ≡ cons_option o (filter_map f xs) ++ filter_map f ys
    by None e = e
    by (Some y) e = ap (λ l. y ∷ l) e

pub passed : (ports : List Bytes) (before : ℕ) (xs ys : List Line) → events_refused ports before xs ≡ None → events_refused ports before (xs ++ ys) ≡ events_refused ports (before + length xs) ys
passed ports before [] ys e = ap (λ n. events_refused ports n ys) (add_none before)
  where
    add_none : (n : ℕ) → n ≡ n + 0
    add_none n = omega arith
passed ports before (x ∷ xs) ys e = by (event_refused before x.number (event_at ports x)) e (passed ports (before + 1) xs ys)
  where
    by : (o : Option EventRefusal) → option_or o (events_refused ports (before + 1) xs) ≡ None
        → (events_refused ports (before + 1) xs ≡ None → events_refused ports (before + 1) (xs ++ ys) ≡ events_refused ports (before + 1 + length xs) ys)
        → option_or o (events_refused ports (before + 1) (xs ++ ys)) ≡ events_refused ports (before + suc (length xs)) ys
    by None f rest = let same : before + 1 + length xs ≡ before + suc (length xs) = omega arith in rest f ∙ ap (λ n. events_refused ports n ys) same
    by (Some r) f rest = absurd cc

pub stopped : (ports : List Bytes) (before : ℕ) (xs ys : List Line) (refusal : EventRefusal) → events_refused ports before xs ≡ Some refusal → events_refused ports before (xs ++ ys) ≡ Some refusal
stopped ports before [] ys refusal e = absurd cc
stopped ports before (x ∷ xs) ys refusal e = by (event_refused before x.number (event_at ports x)) e (stopped ports (before + 1) xs ys refusal)
  where
    by : (o : Option EventRefusal) → option_or o (events_refused ports (before + 1) xs) ≡ Some refusal
        → (events_refused ports (before + 1) xs ≡ Some refusal → events_refused ports (before + 1) (xs ++ ys) ≡ Some refusal)
        → option_or o (events_refused ports (before + 1) (xs ++ ys)) ≡ Some refusal
    by None f rest = rest f
    by (Some r) f rest = f

-- what is read so far, and what the lines that are left decide
pub record IsReading (ports : List Bytes) (bytes : Bytes) (events : List Event) (number : ℕ) (rest : Bytes) : Type 0 where
  pub refusals : events_refused ports (length events) (lines_left number rest) ≡ events_refused ports 0 (lines_left 1 bytes)
  pub events_so_far : events ++ events_in ports (lines_left number rest) ≡ events_in ports (lines_left 1 bytes)

pub reads_on : (ports : List Bytes) (bytes : Bytes) (events more : List Event) (number : ℕ) (rest piece behind : Bytes) → IsReading ports bytes events number rest
    → slice_split (is_byte 10) rest ≡ piece ∷ slice_split (is_byte 10) behind
    → events_refused ports (length events) (filled_line number piece) ≡ None
    → more ≡ events ++ events_in ports (filled_line number piece)
    → length more ≡ length events + length (filled_line number piece)
    → IsReading ports bytes more (number + 1) behind
reads_on ports bytes events more number rest piece behind h e accepted f count =
    let cut = lines_left-cut number rest piece behind e in
    let now = filled_line number piece in
    let later = lines_left (number + 1) behind in
    record {
      refusals = ap (λ n. events_refused ports n later) count ∙ sym (passed ports (length events) now later accepted) ∙ ap (events_refused ports (length events)) (sym cut) ∙ h.refusals;
      events_so_far =
          ap (λ l. l ++ events_in ports later) f
          ∙ append_assoc events (events_in ports now) (events_in ports later)
          ∙ ap (λ l. events ++ l) (sym (ap (events_in ports) cut ∙ filter_map-append (λ l. result_ok (event_at ports l)) now later))
          ∙ h.events_so_far;
    }

pub reading_stops : (ports : List Bytes) (bytes : Bytes) (events : List Event) (number : ℕ) (rest piece behind : Bytes) (refusal : EventRefusal) → IsReading ports bytes events number rest
    → slice_split (is_byte 10) rest ≡ piece ∷ slice_split (is_byte 10) behind
    → events_refused ports (length events) (filled_line number piece) ≡ Some refusal
    → events_refused ports 0 (lines_left 1 bytes) ≡ Some refusal
reading_stops ports bytes events number rest piece behind refusal h e refused =
    let cut = lines_left-cut number rest piece behind e in
    sym h.refusals ∙ ap (events_refused ports (length events)) cut ∙ stopped ports (length events) (filled_line number piece) (lines_left (number + 1) behind) refusal refused

-- ---- the last line

pub reading_ends : (ports : List Bytes) (bytes : Bytes) (events : List Event) (number : ℕ) (rest : Bytes) (o : Option EventRefusal) → IsReading ports bytes events number rest
    → slice_split (is_byte 10) rest ≡ rest ∷ []
    → events_refused ports (length events) (filled_line number rest) ≡ o
    → events_refused ports 0 (lines_left 1 bytes) ≡ o
reading_ends ports bytes events number rest o h e refused =
    sym h.refusals ∙ ap (events_refused ports (length events)) (lines_left-last number rest e) ∙ refused

pub all_read : (ports : List Bytes) (bytes : Bytes) (events more : List Event) (number : ℕ) (rest : Bytes) → IsReading ports bytes events number rest
    → slice_split (is_byte 10) rest ≡ rest ∷ []
    → more ≡ events ++ events_in ports (filled_line number rest)
    → more ≡ events_in ports (lines_left 1 bytes)
all_read ports bytes events more number rest h e f =
    f ∙ ap (λ l. events ++ events_in ports l) (sym (lines_left-last number rest e)) ∙ h.events_so_far
