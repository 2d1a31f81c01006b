-- Names of which all differ: so do fewer of them.
use Rattle.std.proofs.Common.{Bool, true, false, Option, Some, None, List, [], ◌∷◌, ◌++◌, refl}
use Rattle.std.specs.Prelude.{IsTrue, not, ◌&&◌, ◌||◌}
use Rattle.std.specs.List.{filter_map, list_any}
use Rattle.std.specs.Str.{bytes_eq}
use Rattle.model_tree.specs.Tree.{Word}
use Rattle.answer_model.specs.Options.{differ_all}
use Rattle.asked_words.specs.Drafts.{given_names}

-- the names that are given
abbrev pub those : List (Option Word) → List Word
those os = filter_map (λ (o : Option Word). o) os

and_right : (a b : Bool) → IsTrue (a && b) → IsTrue b
and_right true b h = h
and_right false b h = cc

rest_differ : (w : Word) (ws : List Word) → IsTrue (differ_all (w ∷ ws)) → IsTrue (differ_all ws)
rest_differ w ws h = and_right (not (list_any (bytes_eq w) ws)) (differ_all ws) h

fewer : (o : Option Word) (os : List (Option Word)) → IsTrue (differ_all (those (o ∷ os))) → IsTrue (differ_all (those os))
fewer None os h = h
fewer (Some w) os h = rest_differ w (those os) h

-- ---- those in front

and_left : (a b : Bool) → IsTrue (a && b) → IsTrue a
and_left true b h = refl
and_left false b h = h

and_both : (a b : Bool) → IsTrue a → IsTrue b → IsTrue (a && b)
and_both true b left right = right
and_both false b left right = left

-- a name that none is, none of those in front is
none_in_front : (w : Word) (os behind : List (Option Word)) → IsTrue (not (list_any (bytes_eq w) (those (os ++ behind)))) → IsTrue (not (list_any (bytes_eq w) (those os)))
none_in_front w [] behind h = refl
none_in_front w (None ∷ os) behind h = none_in_front w os behind h
none_in_front w (Some v ∷ os) behind h = by (bytes_eq w v) (list_any (bytes_eq w) (those os)) (list_any (bytes_eq w) (those (os ++ behind))) (none_in_front w os behind) h
  where
    by : (here front all : Bool) → (IsTrue (not all) → IsTrue (not front)) → IsTrue (not (here || all)) → IsTrue (not (here || front))
    by true front all go off = off
    by false front all go off = go off

in_front : (os behind : List (Option Word)) → IsTrue (differ_all (those (os ++ behind))) → IsTrue (differ_all (those os))
in_front [] behind h = refl
in_front (None ∷ os) behind h = in_front os behind h
in_front (Some w ∷ os) behind h =
    let all = those (os ++ behind) in
    let none = not (list_any (bytes_eq w) all) in
    and_both (not (list_any (bytes_eq w) (those os))) (differ_all (those os)) (none_in_front w os behind (and_left none (differ_all all) h)) (in_front os behind (and_right none (differ_all all) h))

-- what is said of all files, of those that are made
pub made_differ : (m e l o d s r : Option Word) → IsTrue (differ_all (those (m ∷ e ∷ l ∷ o ∷ d ∷ s ∷ r ∷ []))) → IsTrue (differ_all (given_names l o d s))
made_differ m e l o d s r h =
    in_front (l ∷ o ∷ d ∷ s ∷ []) (r ∷ []) (fewer e (l ∷ o ∷ d ∷ s ∷ r ∷ []) (fewer m (e ∷ l ∷ o ∷ d ∷ s ∷ r ∷ []) h))
