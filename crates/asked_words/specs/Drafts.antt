-- What options ask for, in code as in the definitions.
use Rattle.std.specs.Prelude.{◌≤◌, Option, Some, None, List, [], ◌∷◌, IfSome, IsTrue}
use Rattle.std.specs.List.{filter_map}
use Rattle.std.specs.Option.{option_map}
use Rattle.std.specs.Borrow.{Bor}
use Rattle.model_tree.specs.Tree.{Word}
use Rattle.quantity.specs.declared.bounds.TheConstants.{MAX_DELAY, MAX_CYCLES}
use Rattle.quantity.specs.Times.{time_in}
use Rattle.text_forms.specs.Chosen.{letters_of}
use Rattle.answer_model.specs.Options as D
use Rattle.asked_words.specs.declared.draft.Draft.{Draft}
use Rattle.asked_words.specs.declared.table.Place.{Place}
use Rattle.asked_words.specs.declared.table.Place.TheVariants as P
use Rattle.asked_words.specs.declared.table.Bounded.{Bounded}
use Rattle.asked_words.specs.declared.table.Bounded.TheVariants as B
use Rattle.asked_words.specs.declared.table.Field.{Field}
use Rattle.asked_words.specs.declared.table.Field.TheVariants as F

-- the text of a name, if there is one
abbrev pub text_of_name : Option (Bor Word) → Option Word
text_of_name name = option_map (λ (n : Bor Word). n.now) name

-- a draft in code as in the definitions
abbrev pub draft_of : Draft → D.Draft
draft_of d =
    record {
      model = text_of_name d.model;
      size = d.size;
      end = d.end;
      events = text_of_name d.events;
      log = text_of_name d.log;
      out = text_of_name d.out;
      drawn = text_of_name d.drawn;
      group = text_of_name d.group;
      space = text_of_name d.space;
      letters = letters_of d.letters;
      limit = d.limit;
      width = d.width;
      decimals = d.decimals;
      plane = d.plane;
      seed = d.seed;
      save = text_of_name d.save;
      state = text_of_name d.state;
    }

-- each value is one that its option may have
pub record IsBounded (d : Draft) : Type 0 where
  pub size : IfSome d.size (λ n. (5 ≤ n) × (n ≤ 1000))
  pub end_is : IfSome d.end (λ t. t ≤ MAX_DELAY)
  pub some : 1 ≤ d.limit
  pub few : d.limit ≤ MAX_CYCLES
  pub places : 1 ≤ d.width
  pub narrow : d.width ≤ 20
  pub short : d.decimals ≤ 5

-- those of four names that are given
abbrev pub given_names : Option Word → Option Word → Option Word → Option Word → List Word
given_names a b c d = filter_map (λ (o : Option Word). o) (a ∷ b ∷ c ∷ d ∷ [])

-- no two files that are made have one name
abbrev pub MadeDiffer : Draft → Type 0
MadeDiffer d =
    IsTrue (D.differ_all
    (given_names (text_of_name d.log) (text_of_name d.out) (text_of_name d.drawn)
    (text_of_name d.save)))

-- ---- what a value says

-- a word in its place
abbrev pub place_of : Place → Word → D.Draft → D.Draft
place_of P.Model w d = record d { model = Some w }
place_of P.Events w d = record d { events = Some w }
place_of P.Log w d = record d { log = Some w }
place_of P.Out w d = record d { out = Some w }
place_of P.Drawn w d = record d { drawn = Some w }
place_of P.Group w d = record d { group = Some w }
place_of P.Space w d = record d { space = Some w }
place_of P.Save w d = record d { save = Some w }
place_of P.State w d = record d { state = Some w }

-- a number between its bounds, in its place
abbrev pub bounded_of : Bounded → D.Field
bounded_of B.Size = D.field (D.number_within 5 1000) (λ n d. record d { size = Some n })
bounded_of B.Limit = D.field (D.number_within 1 MAX_CYCLES) (λ n d. record d { limit = n })
bounded_of B.Width = D.field (D.number_within 1 20) (λ n d. record d { width = n })
bounded_of B.Decimals = D.field (D.number_within 0 5) (λ n d. record d { decimals = n })
bounded_of B.Plane = D.field (D.number_within 0 1048575) (λ n d. record d { plane = n })

-- what a value says, in code as in the definitions
abbrev pub field_of : Field → D.Field
field_of (F.Word place) = D.word (place_of place)
field_of (F.Bounded place) = bounded_of place
field_of F.End = D.field time_in (λ n d. record d { end = Some n })
field_of F.Letters = D.field D.letters_in (λ cs d. record d { letters = cs })
field_of F.Seed = D.field D.seed_in (λ n d. record d { seed = Some n })
