-- Tuples that are gathered one after another.
use Rattle.std.proofs.Common.{◌≡◌, Bool, true, false, Option, Some, None, List, [], ◌∷◌, ◌++◌, map, refl, sym, ap, ◌∙◌}
use Rattle.std.proofs.lemmas.List.{append_assoc}
use Rattle.std.specs.Prelude.{◌&&◌}
use Rattle.std.specs.List.{list_all, slice_split}
use Rattle.std.specs.Option.{option_map, option_and_then}
use Rattle.std.specs.Bool.{then_some}
use Rattle.quantity.specs.Bytes.{Bytes, is_byte, without_outer_blanks, in_front, all_there}
use Rattle.source_text.specs.Tuples.{NamedTuple, named_tuple, parts_of}
use Rattle.source_text.proofs.TupleParts.{one_more_part}
use Rattle.model_text.specs.Forms.{is_of_group, tuples_of}
use Rattle.model_walk.specs.TupleParts.{tuple_in}

-- ---- a test of all is a test of each

module _ {A : Type 0} (test : A → Bool) where
  abbrev all_pass : Option (List A) → Option (List A)
  all_pass o = option_and_then (λ ts. then_some (list_all test ts) ts) o

  front_none : (o : Option A) → None ≡ in_front o None
  front_none None = refl
  front_none (Some t) = refl

  front_some : (b c : Bool) (t : A) (ts : List A) → then_some (b && c) (t ∷ ts) ≡ in_front (then_some b t) (then_some c ts)
  front_some true true t ts = refl
  front_some true false t ts = refl
  front_some false c t ts = refl

  front : (o : Option A) (r : Option (List A)) → all_pass (in_front o r) ≡ in_front (option_and_then (λ t. then_some (test t) t) o) (all_pass r)
  front None r = refl
  front (Some t) None = front_none (then_some (test t) t)
  front (Some t) (Some ts) = front_some (test t) (list_all test ts) t ts

-- ---- a text, part by part

-- the tuples of parts, where they are there
abbrev of_parts : Bytes → Option (List Bytes) → Option (List NamedTuple)
of_parts group ps = all_pass (is_of_group group) (option_and_then (λ qs. all_there (map (λ part. named_tuple (without_outer_blanks part)) qs)) ps)

same : {A : Type 0} (o : Option A) → option_map (λ x. x) o ≡ o
same None = refl
same (Some x) = refl

-- the tuples behind a part are behind that of the part
pub first_tuple : (group part rest behind : Bytes) → slice_split (is_byte 41) rest ≡ part ∷ slice_split (is_byte 41) behind → tuples_of group rest ≡ in_front (tuple_in group part) (tuples_of group behind)
first_tuple group part rest behind e =
    ap (of_parts group) (sym (one_more_part [] part rest behind _ e refl ∙ same (parts_of rest))) ∙ by (parts_of behind)
  where
    by : (ps : Option (List Bytes)) → of_parts group (option_map (λ more. part ∷ more) ps) ≡ in_front (tuple_in group part) (of_parts group ps)
    by None = front_none (is_of_group group) (tuple_in group part)
    by (Some qs) = front (is_of_group group) (named_tuple (without_outer_blanks part)) (all_there (map (λ part. named_tuple (without_outer_blanks part)) qs))

-- behind those that were found
abbrev pub behind : {A : Type 0} → List A → Option (List A) → Option (List A)
behind found rest = option_map (λ more. found ++ more) rest

pub behind-more : {A : Type 0} (found : List A) (t : A) (rest : Option (List A)) → behind found (in_front (Some t) rest) ≡ behind (found ++ t ∷ []) rest
behind-more found t None = refl
behind-more found t (Some more) = ap (λ xs. Some xs) (sym (append_assoc found (t ∷ []) more))
