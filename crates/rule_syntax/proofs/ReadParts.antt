-- The parts of a rule, read one behind the other.
use Rattle.std.proofs.Common.{◌≡◌, ℕ, Bool, true, false, Option, Some, None, List, [], ◌∷◌, map, length, refl, sym, ap, subst, ◌∙◌}
use Rattle.std.specs.Prelude.{codes, ◌&&◌}
use Rattle.std.specs.Bool.{then_some}
use Rattle.std.specs.List.{list_all}
use Rattle.std.specs.Option.{option_map}
use Rattle.quantity.specs.declared.value.Value.TheVariants.{Undefined}
use Rattle.quantity.specs.Bytes.{has_repeat, is_empty}
use Rattle.quantity.specs.Written.{for_some}
use Rattle.rule_tree.specs.Expression.{Expr}
use Rattle.rule_tree.specs.InCode.{expr_of}
use Rattle.rule_tree.specs.Expression as E
use Rattle.rule_words.specs.Reading.{assigned_at_out}
use Rattle.rule_tree.specs.Phrases as P
use Rattle.rule_tree.specs.Phrases.{Assigned, Phrase, Written, out}
use Rattle.rule_words.specs.Reading.{Prefix, all_assigned, block, delay_before, given_in, last_block, question_before, sets_before, sets_block, value_before, written_rule}
use Rattle.rule_syntax.specs.RulesRead.{AreNamed, AreRead, AreValues, IsNamedFront, IsRead, ReadsBehind, ReadsParts, braced_value, in_front_of_last, give_of, is_number, set_of, phrase_for, value_for, values_of, words_of}
use Rattle.rule_tree.specs.Scope.{Names, named_by, numbered}
use Rattle.rule_words.specs.Shown.{token_of, tokens_of}
use Rattle.rule_tree.specs.declared.function.Sort.TheVariants.{Number, Truth}
use Rattle.rule_tree.specs.Sound.{is_sort, sort_of}
use Rattle.rule_phrases.specs.Terms.{IsFront, IsTerm, Misses, StandsForPhrase}
use Rattle.rule_words.specs.Tokens.{Token, is_mark}
use Rattle.rule_syntax.specs.declared.assigned.NamedFront.{NamedFront}
use Rattle.rule_phrases.specs.declared.front.Front.{Front}
use Rattle.rule_syntax.specs.declared.named.Kind.{Kind}
use Rattle.rule_syntax.specs.declared.named.Kind.TheVariants.{Port, Variable}
use Rattle.rule_syntax.specs.declared.named.NamedValue.{NamedValue}
use Rattle.rule_syntax.specs.declared.named.NamedValues.{NamedValues}
use Rattle.rule_tree.specs.declared.node.Give.{Give}
use Rattle.rule_tree.specs.declared.node.SetVariable.{SetVariable}
use Rattle.rule_phrases.specs.declared.term.Term.{Term}
use Rattle.rule_words.specs.declared.token.Token as T
use Rattle.rule_syntax.specs.declared.written.ReadRule.{ReadRule}
use Rattle.rule_syntax.proofs.TokenParts.{shown_empty}

-- ---- values in blocks

values_stop : (names : Names) (kind : Kind) (o : Option (List Assigned)) (rest : List Token) → AreValues names kind o None → IsNamedFront names kind (option_map (λ xs. (xs, rest)) o) None
values_stop names kind None rest h = tt
values_stop names kind (Some xs) rest h = absurd h

values_front : (names : Names) (kind : Kind) (o : Option (List Assigned)) (rest : List Token) (f : NamedFront) → AreValues names kind o (Some f.values) → tokens_of f.rest.now ≡ rest → IsNamedFront names kind (option_map (λ xs. (xs, rest)) o) (Some f)
values_front names kind None rest f h e = absurd h
values_front names kind (Some xs) rest f h e = (h, e)

pub braced_stop : (names : Names) (ts inner rest : List Token) (r : Option NamedValues) → ◌≡◌ {A = Option (List Token × List Token)} (Some (inner, rest)) (block (codes "{") (codes "}") ts)
    → AreValues names Port (given_in inner) r → r ≡ None → IsNamedFront names Port (braced_value ts) None
braced_stop names ts inner rest r e h n =
    subst (λ (o : Option (List Token × List Token)). IsNamedFront names Port (for_some o (λ b. option_map (λ xs. (xs, b.1)) (given_in b.0))) None) e
    (values_stop names Port (given_in inner) rest (subst (λ v. AreValues names Port (given_in inner) v) n h))

pub braced_front : (names : Names) (ts inner rest : List Token) (r : Option NamedValues) (f : NamedFront) → ◌≡◌ {A = Option (List Token × List Token)} (Some (inner, rest)) (block (codes "{") (codes "}") ts)
    → AreValues names Port (given_in inner) r → r ≡ Some f.values → tokens_of f.rest.now ≡ rest → IsNamedFront names Port (braced_value ts) (Some f)
braced_front names ts inner rest r f e h s t =
    subst (λ (o : Option (List Token × List Token)). IsNamedFront names Port (for_some o (λ b. option_map (λ xs. (xs, b.1)) (given_in b.0))) (Some f)) e
    (values_front names Port (given_in inner) rest f (subst (λ v. AreValues names Port (given_in inner) v) s h) t)

abbrev sets_or_none : List Token → Prefix (Option (List Assigned)) → Prefix (List Assigned)
sets_or_none ts None = Some ([], ts)
sets_or_none ts (Some s) = option_map (λ xs. (xs, s.1)) s.0

sets_by : (ts : List Token) (o : Prefix (Option (List Assigned))) → sets_or_none ts o ≡ elim o [ None ↦ Some ([], ts) | Some s ↦ option_map (λ xs. (xs, s.1)) s.0 ]
sets_by ts None = refl
sets_by ts (Some s) = refl

sets_from : (ts : List Token) (o : Prefix (Option (List Assigned))) → o ≡ sets_block ts → sets_or_none ts o ≡ sets_before ts
sets_from ts o e = ap (sets_or_none ts) e ∙ sets_by ts (sets_block ts)

pub no_sets : (names : Names) (ts : List Token) (f : NamedFront) → None ≡ sets_block ts → AreNamed names Variable f.values [] → tokens_of f.rest.now ≡ ts → IsNamedFront names Variable (sets_before ts) (Some f)
no_sets names ts f e h t = subst (λ o. IsNamedFront names Variable o (Some f)) (sets_from ts None e) (h, t)

pub sets_stop : (names : Names) (ts inner rest : List Token) (r : Option NamedValues) → ◌≡◌ {A = Prefix (Option (List Assigned))} (Some (all_assigned (codes "$") inner, rest)) (sets_block ts)
    → AreValues names Variable (all_assigned (codes "$") inner) r → r ≡ None → IsNamedFront names Variable (sets_before ts) None
sets_stop names ts inner rest r e h n =
    subst (λ o. IsNamedFront names Variable o None) (sets_from ts (Some (all_assigned (codes "$") inner, rest)) e)
    (values_stop names Variable (all_assigned (codes "$") inner) rest (subst (λ v. AreValues names Variable (all_assigned (codes "$") inner) v) n h))

pub sets_front : (names : Names) (ts inner rest : List Token) (r : Option NamedValues) (f : NamedFront) → ◌≡◌ {A = Prefix (Option (List Assigned))} (Some (all_assigned (codes "$") inner, rest)) (sets_block ts)
    → AreValues names Variable (all_assigned (codes "$") inner) r → r ≡ Some f.values → tokens_of f.rest.now ≡ rest → IsNamedFront names Variable (sets_before ts) (Some f)
sets_front names ts inner rest r f e h s t =
    subst (λ o. IsNamedFront names Variable o (Some f)) (sets_from ts (Some (all_assigned (codes "$") inner, rest)) e)
    (values_front names Variable (all_assigned (codes "$") inner) rest f (subst (λ v. AreValues names Variable (all_assigned (codes "$") inner) v) s h) t)

-- ---- values without braces

pub question_found : (names : Names) (ts rest : List T.Token) (first : T.Token) (f : Front) → ts ≡ first ∷ rest → is_mark (codes "?") (token_of first) ≡ true
    → StandsForPhrase names f.term (P.value Undefined) → f.rest.now ≡ rest → IsFront names (question_before (tokens_of ts)) (Some f)
question_found names ts rest first f e t h r =
    let found : Phrase × List Token = (P.value Undefined, tokens_of rest) in
    subst (λ us. IsFront names (question_before (tokens_of us)) (Some f)) (sym e)
    (subst (λ b. IsFront names (then_some b found) (Some f)) (sym t) (h, ap tokens_of r))

pub front_read : (names : Names) (o : Prefix Phrase) (x : Phrase) (f : Front) → ◌≡◌ {A = Prefix Phrase} (Some (x, tokens_of f.rest.now)) o → StandsForPhrase names f.term x → IsFront names o (Some f)
front_read names o x f e h = subst (λ (p : Prefix Phrase). IsFront names p (Some f)) e (h, refl)

pub plain_found : (names : Names) (o : Prefix Phrase) (front : Front) (f : NamedFront) → IsFront names o (Some front)
    → ((x : Phrase) → StandsForPhrase names front.term x → AreNamed names Port f.values (phrase_for out x ∷ [])) → f.rest.now ≡ front.rest.now
    → IsNamedFront names Port (option_map (λ x. (assigned_at_out x.0, x.1)) o) (Some f)
plain_found names None front f h k e = absurd h
plain_found names (Some p) front f h k e = (k p.0 h.0, ap tokens_of e ∙ h.1)

-- ---- one part, and the parts behind it

pub values_step : (names : Names) (kind : Kind) (o : Prefix (List Assigned)) (go : List Assigned × List Token → Option Written) (f : NamedFront) (r : Option ReadRule) → IsNamedFront names kind o (Some f)
    → ((xs : List Assigned) → AreNamed names kind f.values xs → AreRead names (go (xs, tokens_of f.rest.now)) r) → AreRead names (for_some o go) r
values_step names kind None go f r h k = absurd h
values_step names kind (Some p) go f r h k = subst (λ (ts : List Token). AreRead names (go (p.0, ts)) r) h.1 (k p.0 h.0)

pub no_values_step : (names : Names) (kind : Kind) (o : Prefix (List Assigned)) (go : List Assigned × List Token → Option Written) → IsNamedFront names kind o None → AreRead names (for_some o go) None
no_values_step names kind None go h = tt
no_values_step names kind (Some p) go h = absurd h

pub front_step : (names : Names) (o : Prefix Phrase) (go : Phrase × List Token → Option Written) (f : Front) (r : Option ReadRule) → IsFront names o (Some f)
    → ((x : Phrase) → StandsForPhrase names f.term x → AreRead names (go (x, tokens_of f.rest.now)) r) → AreRead names (for_some o go) r
front_step names None go f r h k = absurd h
front_step names (Some p) go f r h k = subst (λ (ts : List Token). AreRead names (go (p.0, ts)) r) h.1 (k p.0 h.0)

pub no_front_step : (names : Names) (o : Prefix Phrase) (go : Phrase × List Token → Option Written) → IsFront names o None → AreRead names (for_some o go) None
no_front_step names None go h = tt
no_front_step names (Some p) go h = absurd h

pub last_step : (names : Names) (o : Option Phrase) (whole : Phrase → Written) (t : Term) (r : ReadRule) → IsTerm names o (Some t) → ((x : Phrase) → StandsForPhrase names t x → IsRead names r (whole x)) → AreRead names (option_map whole o) (Some r)
last_step names None whole t r h k = absurd h
last_step names (Some x) whole t r h k = k x h

pub no_last_step : (names : Names) (o : Option Phrase) (whole : Phrase → Written) → IsTerm names o None → AreRead names (option_map whole o) None
no_last_step names None whole h = tt
no_last_step names (Some x) whole h = absurd h

-- ---- a phrase in braces behind which nothing stands

abbrev if_last : Prefix Phrase → Option Phrase
if_last o = for_some o (λ c. then_some (is_empty c.1) c.0)

pub no_last : (names : Names) (o : Prefix Phrase) → IsFront names o None → IsTerm names (if_last o) None
no_last names None h = tt
no_last names (Some p) h = absurd h

nothing_behind : (f : Front) (ts : List Token) (b : Bool) → tokens_of f.rest.now ≡ ts → is_empty f.rest.now ≡ b → is_empty ts ≡ b
nothing_behind f ts b e h = ap is_empty (sym e) ∙ shown_empty f.rest.now ∙ h

pub last_left : (names : Names) (o : Prefix Phrase) (f : Front) → IsFront names o (Some f) → is_empty f.rest.now ≡ false → IsTerm names (if_last o) None
last_left names None f h e = absurd h
last_left names (Some p) f h e = subst (λ b. IsTerm names (then_some b p.0) None) (sym (nothing_behind f p.1 false h.1 e)) tt

pub last_found : (names : Names) (o : Prefix Phrase) (f : Front) → IsFront names o (Some f) → is_empty f.rest.now ≡ true → IsTerm names (if_last o) (Some f.term)
last_found names None f h e = absurd h
last_found names (Some p) f h e = subst (λ b. IsTerm names (then_some b p.0) (Some f.term)) (sym (nothing_behind f p.1 true h.1 e)) h.0

-- ---- the parts of a rule

abbrev at_sets : List Assigned → List Assigned × List Token → Option Written
at_sets gs s = for_some (delay_before s.1) (in_front_of_last gs s.0)

abbrev at_value : List Assigned × List Token → Option Written
at_value v = for_some (sets_before v.1) (at_sets v.0)

rule_is : (ts : List Token) → for_some (value_before ts) at_value ≡ written_rule ts
unfolding written_rule
rule_is ts = refl

pub values_are : (names : Names) (kind : Kind) (o : Prefix (List Assigned)) (r s : Option NamedFront) → IsNamedFront names kind o r → r ≡ s → IsNamedFront names kind o s
values_are names kind o r s h e = subst (λ q. IsNamedFront names kind o q) e h

pub front_is : (names : Names) (o : Prefix Phrase) (r s : Option Front) → IsFront names o r → r ≡ s → IsFront names o s
front_is names o r s h e = subst (λ q. IsFront names o q) e h

pub term_is : (names : Names) (o : Option Phrase) (r s : Option Term) → IsTerm names o r → r ≡ s → IsTerm names o s
term_is names o r s h e = subst (λ q. IsTerm names o q) e h

by_parts : (names : Names) (ts : List Token) (r : Option ReadRule) → AreRead names (for_some (value_before ts) at_value) r → AreRead names (written_rule ts) r
by_parts names ts r h = subst (λ o. AreRead names o r) (rule_is ts) h

pub no_value_read : (names : Names) (ts : List Token) → IsNamedFront names Port (value_before ts) None → AreRead names (written_rule ts) None
no_value_read names ts h = by_parts names ts None (no_values_step names Port (value_before ts) at_value h)

pub no_sets_read : (names : Names) (ts : List Token) (given : NamedFront) → IsNamedFront names Port (value_before ts) (Some given)
    → IsNamedFront names Variable (sets_before (tokens_of given.rest.now)) None → AreRead names (written_rule ts) None
no_sets_read names ts given g h =
    by_parts names ts None
    (values_step names Port (value_before ts) at_value given None g
    (λ gs _. no_values_step names Variable (sets_before (tokens_of given.rest.now)) (at_sets gs) h))

-- the rule that is read behind its values
pub behind_read : (names : Names) (ts : List Token) (given set : NamedFront) (r : Option ReadRule) → IsNamedFront names Port (value_before ts) (Some given)
    → IsNamedFront names Variable (sets_before (tokens_of given.rest.now)) (Some set) → ReadsBehind names given.values set.values (tokens_of set.rest.now) r → AreRead names (written_rule ts) r
behind_read names ts given set r g s h =
    by_parts names ts r
    (values_step names Port (value_before ts) at_value given r g
    (λ gs gives_are. values_step names Variable (sets_before (tokens_of given.rest.now)) (at_sets gs) set r s
    (λ ss sets_are. h gs ss gives_are sets_are)))

pub no_delay_behind : (names : Names) (given set : NamedValues) (ts : List Token) → IsFront names (delay_before ts) None → ReadsBehind names given set ts None
no_delay_behind names given set ts h = λ gs ss _ _. no_front_step names (delay_before ts) (in_front_of_last gs ss) h

pub no_condition_behind : (names : Names) (given set : NamedValues) (ts : List Token) (delay : Front) → IsFront names (delay_before ts) (Some delay)
    → IsTerm names (last_block (tokens_of delay.rest.now)) None → ReadsBehind names given set ts None
no_condition_behind names given set ts delay d h = λ gs ss _ _.
    front_step names (delay_before ts) (in_front_of_last gs ss) delay None d
    (λ x _. no_last_step names (last_block (tokens_of delay.rest.now)) (λ c. record { gives = gs; delay = x; condition = c; sets = ss }) h)

pub parts_behind : (names : Names) (given set : NamedValues) (ts : List Token) (delay : Front) (condition : Term) (r : ReadRule) → IsFront names (delay_before ts) (Some delay)
    → IsTerm names (last_block (tokens_of delay.rest.now)) (Some condition) → ReadsParts given delay.term condition set r → ReadsBehind names given set ts (Some r)
parts_behind names given set ts delay condition r d h whole_is = λ gs ss gives_are sets_are.
    front_step names (delay_before ts) (in_front_of_last gs ss) delay (Some r) d
    (λ x delay_is. last_step names (last_block (tokens_of delay.rest.now)) (λ c. record { gives = gs; delay = x; condition = c; sets = ss }) condition r h
    (λ c condition_is. whole_is names (record { gives = gs; delay = x; condition = c; sets = ss }) gives_are delay_is condition_is sets_are))

-- ---- a rule of its parts

gives_shown : (vs : List NamedValue) → map (λ (g : Give). (g.port, expr_of g.value)) (map give_of vs) ≡ values_of vs
gives_shown [] = refl
gives_shown (v ∷ vs) = ap (λ xs. (v.number, expr_of v.value) ∷ xs) (gives_shown vs)

sets_shown : (vs : List NamedValue) → map (λ (s : SetVariable). (s.variable, expr_of s.value)) (map set_of vs) ≡ values_of vs
sets_shown [] = refl
sets_shown (v ∷ vs) = ap (λ xs. (v.number, expr_of v.value) ∷ xs) (sets_shown vs)

abbrev whole : List (ℕ × Expr) → Expr → Expr → List (ℕ × Expr) → E.Rule
whole gs d c ss = record { gives = gs; delay = d; condition = c; sets = ss }

same_rule : (gs hs : List (ℕ × Expr)) (d e c b : Expr) (ss ts : List (ℕ × Expr)) → gs ≡ hs → d ≡ e → c ≡ b → ss ≡ ts → whole gs d c ss ≡ whole hs e b ts
same_rule gs hs d e c b ss ts g h k l = ap (λ xs. whole xs d c ss) g ∙ ap (λ x. whole hs x c ss) h ∙ ap (λ x. whole hs e x ss) k ∙ ap (whole hs e b) l

-- what a rule is made of
pub record IsMadeOf (r : ReadRule) (given : NamedValues) (delay condition : Term) (set : NamedValues) : Type 0 where
  pub gives : r.tree.gives.items ≡ map give_of given.list.items
  pub delay_node : r.tree.delay ≡ delay.node
  pub condition_node : r.tree.condition ≡ condition.node
  pub sets : r.tree.sets.items ≡ map set_of set.list.items
  pub repeats : r.port_twice ≡ has_repeat (words_of given.list.items)
  pub sorted : r.right_sorts ≡ ((given.are_numbers && is_sort Number delay.sort && is_sort Truth condition.sort) && set.are_numbers)

pub made_rule : (names : Names) (r : ReadRule) (given : NamedValues) (delay condition : Term) (set : NamedValues) (w : Written) → IsMadeOf r given delay condition set → Misses names r.lacks (named_by w)
    → AreNamed names Port given w.gives → StandsForPhrase names delay w.delay → StandsForPhrase names condition w.condition → AreNamed names Variable set w.sets → IsRead names r w
made_rule names r given delay condition set w made misses g d c s =
    record {
      tree = same_rule (map (λ (x : Give). (x.port, expr_of x.value)) r.tree.gives.items) (map (value_for names Port) w.gives) (expr_of r.tree.delay) (numbered names w.delay)
          (expr_of r.tree.condition) (numbered names w.condition) (map (λ (x : SetVariable). (x.variable, expr_of x.value)) r.tree.sets.items) (map (value_for names Variable) w.sets)
          (ap (map (λ (x : Give). (x.port, expr_of x.value))) made.gives ∙ gives_shown given.list.items ∙ g.values) (ap expr_of made.delay_node ∙ d.tree) (ap expr_of made.condition_node ∙ c.tree)
          (ap (map (λ (x : SetVariable). (x.variable, expr_of x.value))) made.sets ∙ sets_shown set.list.items ∙ s.values);
      misses = misses;
      repeats = made.repeats ∙ ap has_repeat g.words;
      sorted = made.sorted ∙ ap (λ b. (b && is_sort Number delay.sort && is_sort Truth condition.sort) && set.are_numbers) g.sorted
          ∙ ap (λ o. (list_all (is_number offsets) (map (value_for names Port) w.gives) && is_sort Number o && is_sort Truth condition.sort) && set.are_numbers) d.sorted
          ∙ ap (λ o. (list_all (is_number offsets) (map (value_for names Port) w.gives) && is_sort Number (sort_of (numbered names w.delay) offsets) && is_sort Truth o) && set.are_numbers) c.sorted
          ∙ ap (λ b. (list_all (is_number offsets) (map (value_for names Port) w.gives) && is_sort Number (sort_of (numbered names w.delay) offsets) && is_sort Truth (sort_of (numbered names w.condition) offsets)) && b) s.sorted;
    }
  where
    offsets : ℕ
    offsets = length names.offsets
