-- Settings from their parts, and the least line from those of the parts.
use Rattle.std.proofs.Common.{◌≡◌, ℕ, Option, Some, List, [], ◌∷◌, ◌++◌, length, sym, ap, ◌∙◌, unwrap_or}
use Rattle.std.specs.Prelude.{pos, codes}
use Rattle.std.specs.Borrow.{Bor}
use Rattle.std.specs.List.{flat_map, range_with_len}
use Rattle.std.specs.Option.{is_some}
use Rattle.quantity.specs.Bytes.{Bytes}
use Rattle.atomic_face.specs.declared.class.Class.TheVariants.{Table}
use Rattle.atomic_face.specs.declared.params.Param.{Param}
use Rattle.atomic_face.specs.Settings.{first_line_off, least_line}
use Rattle.atomic_face.specs.TableSettings.{holds_of, holds_off, initial_word, line_unless, lines_off_with, number_of_name, one_too_many, settings_with, states_of, table_settings_of, with_key}
use Rattle.atomic_face.specs.TableSettings as table
use Rattle.source_text.specs.Shown.{texts}
use Rattle.state_tables.specs.declared.settings.Hold.{Hold}
use Rattle.state_tables.specs.declared.settings.Take.{Take}
use Rattle.state_tables.specs.Settings.{hold_words, take_words}
use Rattle.quantity.specs.Times.{earlier}
use Rattle.state_tables.specs.Reading.{HasHolds}
use Rattle.state_tables.proofs.Holds.{words_of_holds}
use Rattle.state_tables.proofs.Lines.{four_lines}
use Rattle.state_tables.proofs.Names.{length_texts}
use Rattle.state_tables.proofs.Takes.{take_lines, take_numbers}

pub settings_from : (es : List Param) (states : List (Bor Bytes)) (initial : ℕ) (holds : List (Option Hold)) (takes : List Take) → states_of es ≡ Some (texts states) → pos initial ≡ initial_word (texts states) es
    → length holds ≡ length states → HasHolds holds (holds_of (texts states) es) → flat_map take_words takes ≡ take_numbers (texts states) es
    → pos (length holds) ∷ pos initial ∷ (flat_map hold_words holds ++ flat_map take_words takes) ≡ table_settings_of es
settings_from es states initial holds takes are first count has numbers =
    let names = texts states in
    let n : length holds ≡ length names = count ∙ sym (length_texts states) in
    ap (λ k. pos k ∷ pos initial ∷ (flat_map hold_words holds ++ flat_map take_words takes)) n
    ∙ ap (λ w. pos (length names) ∷ w ∷ (flat_map hold_words holds ++ flat_map take_words takes)) first
    ∙ ap (λ ws. pos (length names) ∷ initial_word names es ∷ (ws ++ flat_map take_words takes)) (words_of_holds (holds_of names es) holds has ∙ ap (λ k. flat_map (table.hold_words (holds_of names es)) (range_with_len 0 k)) n)
    ∙ ap (λ ws. pos (length names) ∷ initial_word names es ∷ (flat_map (table.hold_words (holds_of names es)) (range_with_len 0 (length names)) ++ ws)) numbers
    ∙ sym (ap (λ o. settings_with (unwrap_or o []) es) are)

pub lines_from : (es : List Param) (names : List Bytes) (initial hold take many : Option ℕ) → states_of es ≡ Some names
    → initial ≡ least_line (flat_map (λ (e : Param). line_unless (is_some (number_of_name names e.value)) e) (with_key (codes "initial") es))
    → hold ≡ least_line (holds_off names [] (with_key (codes "hold") es)) → take ≡ least_line (take_lines names es) → many ≡ least_line (one_too_many es)
    → earlier (earlier (earlier initial hold) take) many ≡ first_line_off Table es
lines_from es names initial hold take many are i h t m =
    rw (i, h, t, m) (sym (ap (λ o. least_line (lines_off_with o es)) are ∙ four_lines (flat_map (λ (e : Param). line_unless (is_some (number_of_name names e.value)) e) (with_key (codes "initial") es)) (holds_off names [] (with_key (codes "hold") es)) (take_lines names es) (one_too_many es)))
