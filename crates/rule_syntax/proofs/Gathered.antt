-- Values that are read part by part.
use Rattle.std.proofs.Common.{◌≡◌, ℕ, ◌+◌, ◌<◌, ◌≤◌, Bool, true, false, Option, Some, None, List, [], ◌∷◌, ◌++◌, map, length, drop, get_or, refl, sym, ap, subst, ◌∙◌, append_assoc, append-nil}
use Rattle.std.specs.Borrow.{Bor}
use Rattle.std.specs.Option.{option_map}
use Rattle.std.proofs.lemmas.List.{drop_all, drop_more}
use Rattle.quantity.specs.Bytes.{all_there, in_front}
use Rattle.rule_tree.specs.Phrases.{Assigned}
use Rattle.rule_words.specs.Reading.{assignment_in}
use Rattle.rule_syntax.specs.RulesRead.{AreNamed, AreValues, IsAdded, mark_for, shown_parts}
use Rattle.rule_tree.specs.Scope.{Names}
use Rattle.rule_words.specs.Shown.{tokens_of}
use Rattle.rule_syntax.specs.declared.named.Kind.{Kind}
use Rattle.rule_syntax.specs.declared.named.NamedValues.{NamedValues}
use Rattle.rule_words.specs.declared.token.Token as T
use Rattle.rule_words.proofs.Sound.{false_true}

abbrev pub Parts : Type 0
Parts = List (Bor (List T.Token))

abbrev pub assigned_in : Kind → Parts → Option (List Assigned)
assigned_in kind parts = all_there (map (assignment_in (mark_for kind)) (shown_parts parts))

-- these values and what other parts assign are what all parts assign
pub record Gathered (names : Names) (kind : Kind) (values : NamedValues) (rest all : Option (List Assigned)) : Type 0 where
  pub done : List Assigned
  pub named : AreNamed names kind values done
  pub behind : option_map (λ more. done ++ more) rest ≡ all

pub gathered_none : (names : Names) (kind : Kind) (values : NamedValues) (all : Option (List Assigned)) → AreNamed names kind values [] → Gathered names kind values all all
gathered_none names kind values None h = record { done = []; named = h; behind = refl }
gathered_none names kind values (Some xs) h = record { done = []; named = h; behind = refl }

-- ---- one part more

behind_more : (done : List Assigned) (x : Assigned) (rest : Option (List Assigned)) → option_map (λ more. (done ++ x ∷ []) ++ more) rest ≡ option_map (λ more. done ++ more) (in_front (Some x) rest)
behind_more done x None = refl
behind_more done x (Some xs) = ap (λ ys. Some ys) (append_assoc done (x ∷ []) xs)

added : (names : Names) (kind : Kind) (old new : NamedValues) (o : Option Assigned) (rest all : Option (List Assigned))
    → Gathered names kind old (in_front o rest) all → IsAdded names kind o old new true → Gathered names kind new rest all
added names kind old new None rest all g h = absurd (false_true (sym h))
added names kind old new (Some x) rest all g h =
    record { done = g.done ++ x ∷ []; named = h.1 g.done g.named; behind = behind_more g.done x rest ∙ g.behind }

refused : (names : Names) (kind : Kind) (old new : NamedValues) (o : Option Assigned) (rest all : Option (List Assigned))
    → Gathered names kind old (in_front o rest) all → IsAdded names kind o old new false → all ≡ None
refused names kind old new None rest all g h = sym g.behind
refused names kind old new (Some x) rest all g h = absurd (false_true h.0)

-- the part at a place, and those behind it
here : (kind : Kind) (parts : Parts) (i : ℕ) (d : Bor (List T.Token)) → i < length parts
    → assigned_in kind (drop i parts) ≡ in_front (assignment_in (mark_for kind) (tokens_of (get_or parts i d).now)) (assigned_in kind (drop (i + 1) parts))
here kind parts i d lt = ap (assigned_in kind) (drop_more parts i d lt)

pub part_added : (names : Names) (kind : Kind) (old new : NamedValues) (parts : Parts) (i : ℕ) (d : Bor (List T.Token)) (is : Bool)
    → i < length parts → is ≡ true
    → Gathered names kind old (assigned_in kind (drop i parts)) (assigned_in kind parts) → IsAdded names kind (assignment_in (mark_for kind) (tokens_of (get_or parts i d).now)) old new is
    → Gathered names kind new (assigned_in kind (drop (i + 1) parts)) (assigned_in kind parts)
part_added names kind old new parts i d is lt t g h =
    added names kind old new (assignment_in (mark_for kind) (tokens_of (get_or parts i d).now)) (assigned_in kind (drop (i + 1) parts)) (assigned_in kind parts)
    (subst (λ o. Gathered names kind old o (assigned_in kind parts)) (here kind parts i d lt) g)
    (subst (λ b. IsAdded names kind (assignment_in (mark_for kind) (tokens_of (get_or parts i d).now)) old new b) t h)

pub part_refused : (names : Names) (kind : Kind) (old new : NamedValues) (parts : Parts) (i : ℕ) (d : Bor (List T.Token)) (is : Bool)
    → i < length parts → is ≡ false
    → Gathered names kind old (assigned_in kind (drop i parts)) (assigned_in kind parts) → IsAdded names kind (assignment_in (mark_for kind) (tokens_of (get_or parts i d).now)) old new is
    → AreValues names kind (assigned_in kind parts) None
part_refused names kind old new parts i d is lt f g h =
    subst (λ o. AreValues names kind o None)
    (sym (refused names kind old new (assignment_in (mark_for kind) (tokens_of (get_or parts i d).now)) (assigned_in kind (drop (i + 1) parts)) (assigned_in kind parts)
    (subst (λ o. Gathered names kind old o (assigned_in kind parts)) (here kind parts i d lt) g)
    (subst (λ b. IsAdded names kind (assignment_in (mark_for kind) (tokens_of (get_or parts i d).now)) old new b) f h)))
    tt

-- ---- all parts

pub gathered_all : (names : Names) (kind : Kind) (values : NamedValues) (parts : Parts) (i : ℕ) → length parts ≤ i → Gathered names kind values (assigned_in kind (drop i parts)) (assigned_in kind parts)
    → AreValues names kind (assigned_in kind parts) (Some values)
gathered_all names kind values parts i le g =
    subst (λ o. AreValues names kind o (Some values))
    (ap (λ xs. Some xs) (sym (append-nil g.done)) ∙ ap (λ ps. option_map (λ more. g.done ++ more) (assigned_in kind ps)) (sym (drop_all i parts le)) ∙ g.behind)
    g.named
