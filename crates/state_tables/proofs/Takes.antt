-- Takes, parameter by parameter.
use Rattle.std.proofs.Common.{◌≡◌, ℕ, true, false, cond, Option, None, Some, List, [], ◌∷◌, ◌++◌, refl, sym, ap, ◌∙◌, append_assoc}
use Rattle.std.specs.Prelude.{ℤ, codes}
use Rattle.std.proofs.lemmas.List.{append-nil}
use Rattle.std.proofs.lemmas.List.Concat.{flat_map-append}
use Rattle.std.proofs.lemmas.List.Elements.{filter-append, filter_map-append}
use Rattle.std.specs.List.{filter_map, flat_map}
use Rattle.std.specs.Option.{option_to_list, is_some}
use Rattle.std.specs.Str.{bytes_eq}
use Rattle.quantity.specs.Bytes.{Bytes}
use Rattle.atomic_face.specs.declared.params.Param.{Param}
use Rattle.atomic_face.specs.Settings.{least_line}
use Rattle.atomic_face.specs.TableSettings.{line_unless, take_in, with_key}
use Rattle.state_tables.specs.declared.settings.Take.{Take}
use Rattle.state_tables.specs.Settings.{take_words}
use Rattle.quantity.specs.Times.{earlier}
use Rattle.state_tables.proofs.Lines.{least_of-none, line_step}

abbrev pub take_numbers : List Bytes → List Param → List ℤ
take_numbers names es = flat_map (λ (ws : List ℤ). ws) (filter_map (take_in names) (with_key (codes "take") es))

abbrev pub take_lines : List Bytes → List Param → List ℕ
take_lines names es = flat_map (λ (e : Param). line_unless (is_some (take_in names e)) e) (with_key (codes "take") es)

key_step : (key : Bytes) (e : Param) (rest : List Param) → with_key key (e ∷ rest) ≡ with_key key (e ∷ []) ++ with_key key rest
key_step key e rest = filter-append (λ (e : Param). bytes_eq e.key key) (e ∷ []) rest

numbers_step : (names : List Bytes) (e : Param) (rest : List Param) → take_numbers names (e ∷ rest) ≡ take_numbers names (e ∷ []) ++ take_numbers names rest
numbers_step names e rest =
    ap (λ es. flat_map (λ (ws : List ℤ). ws) (filter_map (take_in names) es)) (key_step (codes "take") e rest)
    ∙ ap (flat_map (λ (ws : List ℤ). ws)) (filter_map-append (take_in names) (with_key (codes "take") (e ∷ [])) (with_key (codes "take") rest))
    ∙ flat_map-append (λ (ws : List ℤ). ws) (filter_map (take_in names) (with_key (codes "take") (e ∷ []))) (filter_map (take_in names) (with_key (codes "take") rest))

lines_step : (names : List Bytes) (e : Param) (rest : List Param) → take_lines names (e ∷ rest) ≡ take_lines names (e ∷ []) ++ take_lines names rest
lines_step names e rest =
    ap (flat_map (λ (e : Param). line_unless (is_some (take_in names e)) e)) (key_step (codes "take") e rest)
    ∙ flat_map-append (λ (e : Param). line_unless (is_some (take_in names e)) e) (with_key (codes "take") (e ∷ [])) (with_key (codes "take") rest)

pub other_key : (names : List Bytes) (e : Param) → bytes_eq e.key (codes "take") ≡ false → (take_numbers names (e ∷ []) ≡ []) × (take_lines names (e ∷ []) ≡ [])
other_key names e f = (
  ap (λ b. flat_map (λ (ws : List ℤ). ws) (filter_map (take_in names) (cond b (e ∷ []) []))) f,
  ap (λ b. flat_map (λ (e : Param). line_unless (is_some (take_in names e)) e) (cond b (e ∷ []) [])) f,
)

-- no numbers, or those of one take
abbrev pub numbers_there : Option (List ℤ) → List ℤ
numbers_there None = []
numbers_there (Some ws) = ws

pub take_key : (names : List Bytes) (e : Param) (take : Option (List ℤ)) → bytes_eq e.key (codes "take") ≡ true → take ≡ take_in names e → (take_numbers names (e ∷ []) ≡ numbers_there take) × (take_lines names (e ∷ []) ≡ line_unless (is_some take) e)
take_key names e take f same = (
  ap (λ b. flat_map (λ (ws : List ℤ). ws) (filter_map (take_in names) (cond b (e ∷ []) []))) f ∙ one (take_in names e) ∙ ap numbers_there (sym same),
  ap (λ b. flat_map (λ (e : Param). line_unless (is_some (take_in names e)) e) (cond b (e ∷ []) [])) f ∙ append-nil (line_unless (is_some (take_in names e)) e) ∙ ap (λ t. line_unless (is_some t) e) (sym same),
)
  where
    one : (t : Option (List ℤ)) → flat_map (λ (ws : List ℤ). ws) (filter_map (λ (o : Option (List ℤ)). o) (t ∷ [])) ≡ numbers_there t
    one None = refl
    one (Some ws) = append-nil ws

-- the takes of the parameters before the rest are read
pub record SoFar (names : List Bytes) (es rest : List Param) (takes : List Take) (first : Option ℕ) : Type 0 where
  pub numbers : flat_map take_words takes ++ take_numbers names rest ≡ take_numbers names es
  pub line : earlier first (least_line (take_lines names rest)) ≡ least_line (take_lines names es)

pub so_far-none : (names : List Bytes) (es : List Param) → SoFar names es es [] None
so_far-none names es = record { numbers = refl; line = refl }

pub so_far-step : (names : List Bytes) (es : List Param) (e : Param) (rest : List Param) (takes later : List Take) (first now : Option ℕ) → SoFar names es (e ∷ rest) takes first
    → flat_map take_words later ≡ flat_map take_words takes ++ take_numbers names (e ∷ [])
    → option_to_list now ≡ take_lines names (e ∷ [])
    → SoFar names es rest later (earlier first now)
so_far-step names es e rest takes later first now s numbers line = record {
  numbers = ap (λ ws. ws ++ take_numbers names rest) numbers ∙ append_assoc (flat_map take_words takes) (take_numbers names (e ∷ [])) (take_numbers names rest) ∙ ap (λ ws. flat_map take_words takes ++ ws) (sym (numbers_step names e rest)) ∙ s.numbers;
  line = line_step first now (take_lines names (e ∷ [])) (take_lines names rest) (least_line (take_lines names es)) line (ap (λ ns. earlier first (least_line ns)) (sym (lines_step names e rest)) ∙ s.line);
}

pub so_far-numbers : (names : List Bytes) (es : List Param) (takes : List Take) (first : Option ℕ) → SoFar names es [] takes first → flat_map take_words takes ≡ take_numbers names es
so_far-numbers names es takes first s = sym (append-nil (flat_map take_words takes)) ∙ s.numbers

pub so_far-line : (names : List Bytes) (es : List Param) (takes : List Take) (first : Option ℕ) → SoFar names es [] takes first → first ≡ least_line (take_lines names es)
so_far-line names es takes first s = sym (least_of-none first) ∙ s.line
