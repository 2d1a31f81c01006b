-- The options of both programs: a row for each, and what is made of a table of rows.
use Rattle.std.specs.Prelude.{ℕ, Bool, true, false, not, ◌&&◌, ◌==◌, nat_lt}
use Rattle.std.specs.Prelude.{if◌then◌else◌, codes}
use Rattle.std.specs.Prelude.{Option, Some, None, List, [], ◌∷◌, ◌++◌, length, map}
use Rattle.std.specs.List.{list_all, list_any, filter, filter_map, flat_map}
use Rattle.std.specs.Str.{bytes_eq}
use Rattle.clap.specs.Walk.{Row, Rule, first_of}
use Rattle.clap.specs.Simple.{App, new_app, new_rule, with_rule, matches_of}
use Rattle.clap.specs.Faults.{fault_of}
use Rattle.model_tree.specs.Tree.{Word}
use Rattle.quantity.specs.Bytes.{Bytes, has_number}
use Rattle.quantity.specs.Digits.{number_between}
use Rattle.quantity.specs.Times.{time_in}
use Rattle.quantity.specs.Written.{for_some}
use Rattle.quantity.specs.declared.bounds.TheConstants.{MAX_CYCLES}
use Rattle.rule_tree.specs.Scope.{differ}
use Rattle.text_forms.specs.Letters.{letter_bytes, bytes_where, has_letter}

-- ---- commands: options with a short name alone and one value

-- an option of one letter
abbrev pub option : ℕ → Rule
option letter = record (new_rule (letter ∷ [])) { short = Some letter }

-- a command with these options more
abbrev pub with_options : App → List ℕ → App
with_options app [] = app
with_options app (c ∷ cs) = with_options (with_rule app (option c)) cs

-- the words are those of the command
abbrev pub is_taken : App → List Word → Bool
is_taken app words = length (fault_of app words) == 0

-- the value of an option
abbrev pub option_value : List Row → List ℕ → Option Word
option_value given letter = first_of letter given

-- ---- forms of values

-- letters of the log's lines alone
abbrev pub are_letters : List ℕ → Bool
are_letters text = list_all (λ c. has_number letter_bytes c) text

-- different letters of the log's lines, at least one, in the order of the lines of a cycle
abbrev pub letters_in : Word → Option (List ℕ)
letters_in text =
    if are_letters text && differ text && nat_lt 0 (length text)
    then Some (bytes_where (has_letter text)) else None

-- a whole number between two bounds
abbrev pub number_within : ℕ → ℕ → Word → Option ℕ
number_within low high text = number_between 7 low high text

-- the seed of an order of service, of up to ten digits
abbrev pub seed_in : Word → Option ℕ
seed_in text = number_between 10 0 2147483647 text

-- ---- what values ask for

-- what options ask for, one by one; drawn is the file of frames, group and space are what they are
-- of, save is the file of the state at the end, and state that of the one that a run goes on from
pub record Draft : Type 0 where
  pub model : Option Word
  pub size : Option ℕ
  pub end : Option ℕ
  pub events : Option Word
  pub log : Option Word
  pub out : Option Word
  pub drawn : Option Word
  pub group : Option Word
  pub space : Option Word
  pub letters : List ℕ
  pub limit : ℕ
  pub width : ℕ
  pub decimals : ℕ
  pub plane : ℕ
  pub seed : Option ℕ
  pub save : Option Word
  pub state : Option Word

-- what holds of options that are not given
abbrev pub nothing_given : Draft
nothing_given =
    record {
      model = None;
      size = None;
      end = None;
      events = None;
      log = None;
      out = None;
      drawn = None;
      group = None;
      space = None;
      letters = codes "Y";
      limit = 10000;
      width = 3;
      decimals = 0;
      plane = 0;
      seed = None;
      save = None;
      state = None;
    }

-- what a value makes of a draft, where it is of the form of its option
abbrev pub Field : Type 0
Field = Word → Draft → Option Draft

-- a value of a form, which goes to a place of the draft
abbrev pub field : {A : Type 0} → (Word → Option A) → (A → Draft → Draft) → Field
field form put text d = for_some (form text) (λ x. Some (put x d))

-- a value that may be any word
abbrev pub word : (Word → Draft → Draft) → Field
word put text d = Some (put text d)

-- ---- the tables

-- an option: its letter, how it stands in the usage line, whether its value names a file, and what
-- its value asks for
pub record OptionRow : Type 0 where
  pub letter : ℕ
  pub shown : Bytes
  pub is_file : Bool
  pub field : Field

-- the row of the option of this letter, which is given as a text
abbrev pub option_row : List ℕ → Bytes → Bool → Field → OptionRow
option_row letter shown is_file field =
    record {
      letter = elim letter [ [] ↦ 0 | c ∷ cs ↦ c ];
      shown = shown;
      is_file = is_file;
      field = field;
    }

-- how frames look: options of both programs
abbrev pub look_rows : List OptionRow
look_rows =
    option_row (codes "w") (codes " [-w WIDTH]") false
    (field (number_within 1 20) (λ n d. record d { width = n }))
    ∷ option_row (codes "p") (codes " [-p DECIMALS]") false
    (field (number_within 0 5) (λ n d. record d { decimals = n }))
    ∷ option_row (codes "f") (codes " [-f PLANE]") false
    (field (number_within 0 1048575) (λ n d. record d { plane = n }))
    ∷ []

-- what is asked of a run: its model, end, events and files, the letters of its log, the limit of
-- cycles at one time, and how frames look
abbrev pub run_rows : List OptionRow
run_rows =
    option_row (codes "m") (codes " (-m MODEL") true (word (λ w d. record d { model = Some w }))
    ∷ option_row (codes "G") (codes " | -G N)") false
    (field (number_within 5 1000) (λ n d. record d { size = Some n }))
    ∷ option_row (codes "t") (codes " -t END") false
    (field time_in (λ n d. record d { end = Some n }))
    ∷ option_row (codes "e") (codes " [-e EVENTS]") true
    (word (λ w d. record d { events = Some w }))
    ∷ option_row (codes "l") (codes " [-l LOG]") true (word (λ w d. record d { log = Some w }))
    ∷ option_row (codes "o") (codes " [-o OUT]") true (word (λ w d. record d { out = Some w }))
    ∷ option_row (codes "d") (codes " [-d FRAMES") true (word (λ w d. record d { drawn = Some w }))
    ∷ option_row (codes "g") (codes " -g GROUP]") false (word (λ w d. record d { group = Some w }))
    ∷ option_row (codes "L") (codes " [-L LETTERS]") false
    (field letters_in (λ cs d. record d { letters = cs }))
    ∷ option_row (codes "c") (codes " [-c LIMIT]") false
    (field (number_within 1 MAX_CYCLES) (λ n d. record d { limit = n }))
    ∷ look_rows

-- the seed of an order of service
abbrev pub service_rows : List OptionRow
service_rows =
    option_row (codes "T") (codes " [-T SEED]") false
    (field seed_in (λ n d. record d { seed = Some n }))
    ∷ []

-- where the state at the end is saved, and the state that a run goes on from
abbrev pub state_rows : List OptionRow
state_rows =
    option_row (codes "S") (codes " [-S SAVE]") true (word (λ w d. record d { save = Some w }))
    ∷ option_row (codes "R") (codes " [-R STATE]") true (word (λ w d. record d { state = Some w }))
    ∷ []

-- the options that the simulator takes
abbrev pub built_rows : List OptionRow
built_rows = run_rows ++ service_rows ++ state_rows

-- the options of the drawing program
abbrev pub drawing_rows : List OptionRow
drawing_rows =
    option_row (codes "l") (codes " -l LOG") true (word (λ w d. record d { log = Some w }))
    ∷ option_row (codes "g") (codes " -g GROUP") false (word (λ w d. record d { group = Some w }))
    ∷ option_row (codes "s") (codes " -s SIZE") false (word (λ w d. record d { space = Some w }))
    ∷ look_rows

-- ---- what is made of a table

-- the command of this name
unfoldable pub command_by : List ℕ → List OptionRow → App
command_by name rows = with_options (new_app name) (map (λ (r : OptionRow). r.letter) rows)

-- the usage line of the command of this name, without the word usage
abbrev pub usage_by : List ℕ → List OptionRow → Bytes
usage_by name rows = name ++ flat_map (λ (r : OptionRow). r.shown) rows

-- the value of a row's option
abbrev pub row_value : List Row → OptionRow → Option Word
row_value given r = option_value given (r.letter ∷ [])

-- what a value makes of a draft, if it is given
abbrev pub put_if : Option Word → OptionRow → Draft → Option Draft
put_if None r d = Some d
put_if (Some text) r d = r.field text d

-- what all values ask for, each in the place of its option
abbrev pub draft_of_rows : List OptionRow → List Row → Option Draft
draft_of_rows [] given = Some nothing_given
draft_of_rows (r ∷ rs) given = for_some (draft_of_rows rs given) (put_if (row_value given r) r)

-- the files that are named
abbrev pub files_of_options : List OptionRow → List Row → List Word
files_of_options rows given =
    filter_map (row_value given) (filter (λ (r : OptionRow). r.is_file) rows)

-- no word stands twice
abbrev pub differ_all : List Word → Bool
differ_all [] = true
differ_all (w ∷ ws) = not (list_any (bytes_eq w) ws) && differ_all ws

-- what values ask for, where the files that they name differ
abbrev pub draft_in : List OptionRow → List Row → Option Draft
draft_in rows given =
    if differ_all (files_of_options rows given) then draft_of_rows rows given else None

-- what words ask for, one option by one, where the command of this name takes them; the first is
-- the program's name
unfoldable pub draft_by : List ℕ → List OptionRow → List Word → Option Draft
draft_by name rows words =
    if is_taken (command_by name rows) words
    then draft_in rows (matches_of (command_by name rows) words) else None
