-- What is lacking of names, and what terms stand for.
use Rattle.std.proofs.Common.{◌≡◌, ◌<◌, ◌≤◌, Bool, true, false, cond, Option, Some, None, List, [], ◌∷◌, ◌++◌, map, length, get_or, drop, Vec, Global, refl, sym, ap, subst, ◌∙◌, arith}
use Rattle.std.specs.Prelude.{◌||◌, ◌&&◌}
use Rattle.std.specs.Bool.{then_some}
use Rattle.std.specs.List.{list_any}
use Rattle.std.specs.Cmp.Lexicographic.{pointwise}
use Rattle.std.proofs.lemmas.List.Folds.{list_any-append}
use mathlib.Core.Former.{Count}
use Rattle.rule_tree.specs.declared.node.Binary.{Binary}
use Rattle.rule_tree.specs.declared.function.Function.{Function}
use Rattle.rule_tree.specs.declared.function.Sort.{Sort}
use Rattle.rule_tree.specs.declared.node.Node.{Node, Row_of-Node, end_of-Node, more_of-Node, items-the_row-Node, items_hidden-the_row-Node-0}
use Rattle.rule_tree.specs.declared.node.Node.TheVariants.{Call as Call_of, Call'}
use Rattle.rule_phrases.specs.declared.term.Lacks.{Lacks}
use Rattle.rule_phrases.specs.declared.term.Term.{Term}
use Rattle.rule_tree.specs.Expression as E
use Rattle.rule_tree.specs.Expression.{Exprs}
use Rattle.rule_tree.specs.InCode.{expr_of, exprs_of}
use Rattle.rule_tree.specs.Phrases as P
use Rattle.rule_tree.specs.Phrases.{Phrase, phrases}
use Rattle.rule_tree.specs.Scope.{Names, Named, named_in, all_named_in, numbered, all_numbered, is_no_neighbour, is_no_variable, is_no_port}
use Rattle.quantity.specs.Bytes.{in_front}
use Rattle.rule_tree.specs.Sound.{Signature, same_sorts, result_sort, is_sort, same_sort, sort_of, sorts_of, binary_signature, function_signature}
use Rattle.rule_phrases.specs.Terms.{Misses, StandsForPhrase, AllStand}

-- ---- what is lacking

either_any : (test : Named → Bool) (ns ms : List Named) (a b r : Bool) → r ≡ (a || b) → a ≡ list_any test ns → b ≡ list_any test ms → r ≡ list_any test (ns ++ ms)
either_any test ns ms a b r h ea eb =
    h ∙ ap (λ v. v || b) ea ∙ ap (λ v. list_any test ns || v) eb ∙ sym (list_any-append test ns ms)

pub misses_both : (l k r : Lacks) → r.neighbour ≡ (l.neighbour || k.neighbour) → r.variable ≡ (l.variable || k.variable) → r.port ≡ (l.port || k.port) → (names : Names) (ns ms : List Named) → Misses names l ns → Misses names k ms → Misses names r (ns ++ ms)
misses_both l k r en ev ep names ns ms hl hk = record {
  neighbours = either_any (is_no_neighbour names) ns ms l.neighbour k.neighbour r.neighbour en hl.neighbours hk.neighbours;
  variables = either_any (is_no_variable names) ns ms l.variable k.variable r.variable ev hl.variables hk.variables;
  ports = either_any (is_no_port names) ns ms l.port k.port r.port ep hl.ports hk.ports;
}

pub none_miss : (none : Lacks) (terms : List Term) → length terms < 1 → ((names : Names) → Misses names none []) → (names : Names) (xs : List Phrase) → AllStand names terms xs → Misses names none (all_named_in (phrases xs))
none_miss none [] l h names [] e = h names
none_miss none [] l h names (x ∷ xs) e = absurd e
none_miss none (t ∷ ts) l h names xs e = absurd (omega arith)

first_misses : (term : Term) (terms : List Term) (rest both : Lacks) → ((names : Names) (xs : List Phrase) → AllStand names terms xs → Misses names rest (all_named_in (phrases xs))) → ((names : Names) (ns ms : List Named) → Misses names term.lacks ns → Misses names rest ms → Misses names both (ns ++ ms)) → (names : Names) (xs : List Phrase) → AllStand names (term ∷ terms) xs → Misses names both (all_named_in (phrases xs))
first_misses term terms rest both h k names [] e = absurd e
first_misses term terms rest both h k names (x ∷ xs) e = k names (named_in x) (all_named_in (phrases xs)) e.0.misses (h names xs e.1)

pub all_miss : (terms : List Term) (first : Term) (rest both : Lacks) → 1 ≤ length terms → first ≡ get_or terms 0 first → ((names : Names) (xs : List Phrase) → AllStand names (drop 1 terms) xs → Misses names rest (all_named_in (phrases xs))) → ((names : Names) (ns ms : List Named) → Misses names first.lacks ns → Misses names rest ms → Misses names both (ns ++ ms)) → (names : Names) (xs : List Phrase) → AllStand names terms xs → Misses names both (all_named_in (phrases xs))
all_miss [] first rest both l e h k = absurd (omega arith)
all_miss (t ∷ ts) first rest both l e h k =
    first_misses t ts rest both h (λ names ns ms a b. k names ns ms (subst (λ (u : Term). Misses names u.lacks ns) (sym e) a) b)

-- ---- two operands

pub two_stands : (operator : Binary) (left right term : Term) → expr_of term.node ≡ E.two operator (expr_of left.node) (expr_of right.node) → term.sort ≡ result_sort (binary_signature operator) (in_front left.sort (in_front right.sort (Some []))) → ((names : Names) (ns ms : List Named) → Misses names left.lacks ns → Misses names right.lacks ms → Misses names term.lacks (ns ++ ms)) → (names : Names) (x y : Phrase) → StandsForPhrase names left x → StandsForPhrase names right y → StandsForPhrase names term (P.two operator x y)
two_stands operator left right term tree sorted misses names x y l r = record {
  tree = tree ∙ ap (λ e. E.two operator e (expr_of right.node)) l.tree ∙ ap (λ e. E.two operator (numbered names x) e) r.tree;
  sorted =
      sorted ∙ ap (λ s. result_sort (binary_signature operator) (in_front s (in_front right.sort (Some [])))) l.sorted
      ∙ ap (λ s. result_sort (binary_signature operator) (in_front (sort_of (numbered names x) (length names.offsets)) (in_front s (Some [])))) r.sorted;
  misses = misses names (named_in x) (named_in y) l.misses r.misses;
}

-- ---- a call's tree

abbrev row_of : Node → (n : Count) × Row_of-Node n
row_of (Call' f shape row) = (_, row)
row_of n = (_, end_of-Node)

exprs_in : List Node → Exprs
exprs_in [] = E.nil
exprs_in (n ∷ ns) = E.cons (expr_of n) (exprs_in ns)

exprs_of-row : (n : _) (row : Row_of-Node n) → exprs_of row ≡ exprs_in (items-the_row-Node n row)
unfolding exprs_in
exprs_of-row n end_of-Node = refl
exprs_of-row n (more_of-Node a rest) = ap (E.cons (expr_of a)) (exprs_of-row _ rest)

expr_of-Call : (f : Function) (nodes : Vec Node Global) → expr_of (Call_of f nodes) ≡ E.call f (exprs_in nodes.items)
expr_of-Call f nodes =
    let row = row_of (Call_of f nodes) in
    ap (E.call f) (exprs_of-row row.0 row.1 ∙ ap exprs_in (items_hidden-the_row-Node-0 nodes))

exprs_stand : (names : Names) (terms : List Term) (xs : List Phrase) → AllStand names terms xs → exprs_in (map (λ (t : Term). t.node) terms) ≡ all_numbered names (phrases xs)
unfolding exprs_in
exprs_stand names [] [] h = refl
exprs_stand names [] (x ∷ xs) h = absurd h
exprs_stand names (t ∷ ts) [] h = absurd h
exprs_stand names (t ∷ ts) (x ∷ xs) h =
    ap (λ e. E.cons e (exprs_in (map (λ (t : Term). t.node) ts))) h.0.tree ∙ ap (E.cons (numbered names x)) (exprs_stand names ts xs h.1)

pub call_tree : (f : Function) (nodes : Vec Node Global) (terms : List Term) → nodes.items ≡ map (λ (t : Term). t.node) terms → (names : Names) (xs : List Phrase) → AllStand names terms xs → expr_of (Call_of f nodes) ≡ E.call f (all_numbered names (phrases xs))
call_tree f nodes terms e names xs h =
    expr_of-Call f nodes ∙ ap (λ ns. E.call f (exprs_in ns)) e ∙ ap (E.call f) (exprs_stand names terms xs h)

-- ---- a call's sort

abbrev given_sorts : List Term → Option (List Sort)
given_sorts [] = Some []
given_sorts (t ∷ ts) = in_front t.sort (given_sorts ts)

sorts_stand : (names : Names) (terms : List Term) (xs : List Phrase) → AllStand names terms xs → sorts_of (all_numbered names (phrases xs)) (length names.offsets) ≡ given_sorts terms
sorts_stand names [] [] h = refl
sorts_stand names [] (x ∷ xs) h = absurd h
sorts_stand names (t ∷ ts) [] h = absurd h
sorts_stand names (t ∷ ts) (x ∷ xs) h =
    ap (λ s. in_front s (sorts_of (all_numbered names (phrases xs)) (length names.offsets))) (sym h.0.sorted) ∙ ap (in_front t.sort) (sorts_stand names ts xs h.1)

abbrev is_of_sort : Sort → Term → Bool
is_of_sort a t = is_sort a t.sort

abbrev accepts : List Sort → Option (List Sort) → Bool
accepts sorts None = false
accepts sorts (Some given) = same_sorts sorts given

never : (s : Option Sort) (given : Option (List Sort)) → accepts [] (in_front s given) ≡ false
never None given = refl
never (Some a) None = refl
never (Some a) (Some rest) = refl

both_false : (b : Bool) → false ≡ (b && false)
both_false true = refl
both_false false = refl

first_and_rest : (a : Sort) (sorts : List Sort) (s : Option Sort) (given : Option (List Sort)) → accepts (a ∷ sorts) (in_front s given) ≡ (is_sort a s && accepts sorts given)
first_and_rest a sorts None given = refl
first_and_rest a sorts (Some b) None = both_false (same_sort a b)
first_and_rest a sorts (Some b) (Some rest) = refl

accepts_terms : (sorts : List Sort) (terms : List Term) → accepts sorts (given_sorts terms) ≡ pointwise is_of_sort sorts terms
accepts_terms [] [] = refl
accepts_terms [] (t ∷ ts) = never t.sort (given_sorts ts)
accepts_terms (a ∷ sorts) [] = refl
accepts_terms (a ∷ sorts) (t ∷ ts) =
    first_and_rest a sorts t.sort (given_sorts ts) ∙ ap (λ b. is_of_sort a t && b) (accepts_terms sorts ts)

abbrev signature : List Sort → Sort → Signature
signature takes gives = record { takes = takes; gives = gives }

given_where : (sorts : List Sort) (gives : Sort) (b : Bool) (given : List Sort) → b ≡ same_sorts sorts given → then_some b gives ≡ result_sort (signature sorts gives) (Some given)
given_where sorts gives b given e = go b (same_sorts sorts given) e
  where
    go : (b d : Bool) → b ≡ d → then_some b gives ≡ cond d (Some gives) None
    go true true e = refl
    go true false e = cc e
    go false true e = cc e
    go false false e = refl

applied_where : (sorts : List Sort) (gives : Sort) (b : Bool) (given : Option (List Sort)) → b ≡ accepts sorts given → then_some b gives ≡ result_sort (signature sorts gives) given
applied_where sorts gives b None e = ap (λ b. then_some b gives) e
applied_where sorts gives b (Some given) e = given_where sorts gives b given e

pub call_sorted : (f : Function) (sorts : List Sort) (gives : Sort) (terms : List Term) (b : Bool) (r : Option Sort) → sorts ≡ (function_signature f).takes → (function_signature f).gives ≡ gives → b ≡ pointwise is_of_sort sorts terms → r ≡ then_some b gives → (names : Names) (xs : List Phrase) → AllStand names terms xs → r ≡ result_sort (function_signature f) (sorts_of (all_numbered names (phrases xs)) (length names.offsets))
call_sorted f sorts gives terms b r et eg eb er names xs h =
    er
    ∙ applied_where sorts gives b (given_sorts terms) (eb ∙ sym (accepts_terms sorts terms))
    ∙ ap (λ ts. result_sort (signature ts gives) (given_sorts terms)) et
    ∙ ap (λ s. result_sort (signature (function_signature f).takes s) (given_sorts terms)) (sym eg)
    ∙ ap (result_sort (function_signature f)) (sym (sorts_stand names terms xs h))
