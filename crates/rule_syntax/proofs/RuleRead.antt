-- The rule of a text by the steps that find it.
use Rattle.std.proofs.Common.{◌≡◌, Bool, true, false, ap, length, ◌∙◌, Option, Some, None, List, refl, sym, subst, IfOk, IfErr}
use Rattle.std.specs.Prelude.{not, if◌then◌else◌}
use Rattle.std.specs.List.{list_any}
use Rattle.std.specs.Option.{option_map}
use Rattle.std.specs.declared.result.Result.{Result}
use Rattle.std.specs.declared.result.Result.TheVariants.{Ok, Err}
use Rattle.quantity.specs.Bytes.{Bytes}
use Rattle.rule_tree.specs.declared.node.RuleTree.{RuleTree}
use Rattle.rule_words.specs.declared.refusal.RuleRefusal.{RuleRefusal}
use Rattle.rule_words.specs.declared.refusal.RuleRefusal.TheVariants.{BadRule, BadSort, Memory, NotANeighbour, TooLarge, UnknownNeighbourPort, UnknownVariable}
use Rattle.rule_syntax.specs.declared.written.ReadRule.{ReadRule}
use Rattle.rule_tree.specs.Expression as E
use Rattle.rule_tree.specs.InCode.{rule_of}
use Rattle.rule_tree.specs.Phrases.{Written}
use Rattle.rule_words.specs.Reading.{written_rule}
use Rattle.rule_words.specs.RuleOf.{words_refused, rule_if_sound, rule_of_text, unless_some, where_true}
use Rattle.rule_words.specs.RuleLaws.{Readable}
use Rattle.rule_syntax.specs.RulesRead.{IsRead, AreRead, first_refusal}
use Rattle.rule_tree.specs.Scope.{Names, has_right_sorts, is_no_neighbour, is_no_port, is_no_variable, named_by, rule_in}
use Rattle.rule_tree.specs.Extent.{extent_of, is_sound}
use Rattle.rule_words.specs.Shown.{tokens_of}
use Rattle.rule_words.specs.declared.token.Token as T
use Rattle.rule_words.specs.Tokens.{Token, tokens, words_in, is_large}
use Rattle.rule_syntax.proofs.ReadSound.{read_sound}

-- what an option holds that is another's, mapped
pub mapped_none : {A B : Type 0} (f : A → B) (o : Option A) (found : Option B) → o ≡ None → option_map f o ≡ found → found ≡ None
mapped_none f None found e h = sym h
mapped_none f (Some x) found e h = cc

pub mapped_some : {A B : Type 0} (f : A → B) (o : Option A) (x : A) (found : Option B) → o ≡ Some x → option_map f o ≡ found → found ≡ Some (f x)
mapped_some f None x found e h = cc
mapped_some f (Some y) x found e h = cc

pub read_there : (names : Names) (ts us : List T.Token) (o p : Option ReadRule) → ts ≡ us → o ≡ p → AreRead names (written_rule (tokens_of ts)) o → AreRead names (written_rule (tokens_of us)) p
read_there names ts us o p e f h =
    subst (λ x. AreRead names (written_rule (tokens_of x)) p) e (subst (λ x. AreRead names (written_rule (tokens_of ts)) x) f h)

pub no_tokens : (names : Names) (text : Bytes) → tokens text ≡ None → rule_of_text names text ≡ Err BadRule
unfolding rule_of_text
no_tokens names text e = rw e refl

pub words_stop : (names : Names) (text : Bytes) (ts : List Token) (why : RuleRefusal) → tokens text ≡ Some ts → words_refused (words_in ts) ≡ Some why → rule_of_text names text ≡ Err why
unfolding rule_of_text
words_stop names text ts why e w = rw (e, w) refl

pub size_stops : (names : Names) (text : Bytes) (ts : List Token) → tokens text ≡ Some ts → words_refused (words_in ts) ≡ None → is_large ts ≡ true → rule_of_text names text ≡ Err TooLarge
unfolding rule_of_text
size_stops names text ts e w s = rw (e, w, s) refl

pub no_rule : (names : Names) (text : Bytes) (ts : List Token) → Readable text ts → AreRead names (written_rule ts) None → rule_of_text names text ≡ Err BadRule
unfolding rule_of_text
no_rule names text ts h r =
    rw (h.tokens, h.words, h.size, none (written_rule ts) r) refl
  where
    none : (o : Option Written) → AreRead names o None → o ≡ None
    none None r = refl
    none (Some w) r = absurd r

judged_rule : (names : Names) (text : Bytes) (ts : List Token) (w : Written) → Readable text ts → written_rule ts ≡ Some w → rule_if_sound names w ≡ rule_of_text names text
unfolding rule_of_text
judged_rule names text ts w h e = rw (h.tokens, h.words, h.size, e) refl

-- ---- the first refusal that applies

-- a rule, unless one of these tests stops it
abbrev judged_by : Bool → Bool → Bool → Bool → Bool → E.Rule → Result E.Rule RuleRefusal
judged_by a b c d e rule =
    unless_some (where_true a BadRule) (unless_some (where_true b NotANeighbour) (unless_some (where_true c UnknownVariable)
    (unless_some (where_true d UnknownNeighbourPort) (unless_some (where_true (not e) BadSort) (Ok rule)))))

by_tests : (a b c d e : Bool) (rule : E.Rule) → judged_by a b c d e rule
    ≡ unless_some (if a then Some BadRule else (if b then Some NotANeighbour else (if c then Some UnknownVariable else (if d then Some UnknownNeighbourPort else (if not e then Some BadSort else None))))) (Ok rule)
by_tests true b c d e rule = refl
by_tests false true c d e rule = refl
by_tests false false true d e rule = refl
by_tests false false false true e rule = refl
by_tests false false false false true rule = refl
by_tests false false false false false rule = refl

judged_first : (names : Names) (r : ReadRule) (w : Written) → IsRead names r w → rule_if_sound names w ≡ unless_some (first_refusal r) (Ok (rule_of r.tree))
judged_first names r w h =
    sym (ap (λ a. judged_by a (list_any (is_no_neighbour names) (named_by w)) (list_any (is_no_variable names) (named_by w)) (list_any (is_no_port names) (named_by w)) (has_right_sorts (length names.offsets) (rule_in names w)) (rule_in names w)) h.repeats)
    ∙ sym (ap (λ b. judged_by r.port_twice b (list_any (is_no_variable names) (named_by w)) (list_any (is_no_port names) (named_by w)) (has_right_sorts (length names.offsets) (rule_in names w)) (rule_in names w)) h.misses.neighbours)
    ∙ sym (ap (λ c. judged_by r.port_twice r.lacks.neighbour c (list_any (is_no_port names) (named_by w)) (has_right_sorts (length names.offsets) (rule_in names w)) (rule_in names w)) h.misses.variables)
    ∙ sym (ap (λ d. judged_by r.port_twice r.lacks.neighbour r.lacks.variable d (has_right_sorts (length names.offsets) (rule_in names w)) (rule_in names w)) h.misses.ports)
    ∙ sym (ap (λ e. judged_by r.port_twice r.lacks.neighbour r.lacks.variable r.lacks.port e (rule_in names w)) h.sorted)
    ∙ sym (ap (judged_by r.port_twice r.lacks.neighbour r.lacks.variable r.lacks.port r.right_sorts) h.tree)
    ∙ by_tests r.port_twice r.lacks.neighbour r.lacks.variable r.lacks.port r.right_sorts (rule_of r.tree)

-- each test, where none before it stops the rule
pub stops_at_port : (r : ReadRule) → r.port_twice ≡ true → Some BadRule ≡ first_refusal r
stops_at_port r a = rw a refl

pub stops_at_cell : (r : ReadRule) → r.port_twice ≡ false → r.lacks.neighbour ≡ true → Some NotANeighbour ≡ first_refusal r
stops_at_cell r a b = rw (a, b) refl

pub stops_at_variable : (r : ReadRule) → r.port_twice ≡ false → r.lacks.neighbour ≡ false → r.lacks.variable ≡ true → Some UnknownVariable ≡ first_refusal r
stops_at_variable r a b c = rw (a, b, c) refl

pub stops_at_name : (r : ReadRule) → r.port_twice ≡ false → r.lacks.neighbour ≡ false → r.lacks.variable ≡ false → r.lacks.port ≡ true → Some UnknownNeighbourPort ≡ first_refusal r
stops_at_name r a b c d = rw (a, b, c, d) refl

pub judged_refused : (names : Names) (r : ReadRule) (w : Written) (o : Option RuleRefusal) (why : RuleRefusal) → o ≡ first_refusal r → o ≡ Some why → IsRead names r w → rule_if_sound names w ≡ Err why
judged_refused names r w o why e s h = judged_first names r w h ∙ ap (λ q. unless_some q (Ok (rule_of r.tree))) (sym e ∙ s)

pub judged_right : (names : Names) (r : ReadRule) (w : Written) (o : Option RuleRefusal) → o ≡ first_refusal r → o ≡ None → IsRead names r w → rule_if_sound names w ≡ Ok (rule_of r.tree)
judged_right names r w o e n h = judged_first names r w h ∙ ap (λ q. unless_some q (Ok (rule_of r.tree))) (sym e ∙ n)

-- what a written rule that was read is judged to be
pub record Judged (names : Names) (text : Bytes) (result : Result RuleTree RuleRefusal) : Type 0 where
  pub rule : IfOk result (λ tree. rule_of_text names text ≡ Ok (rule_of tree))
  pub refusal : IfErr result (λ why. ((why ≡ Memory) → ⊥) → rule_of_text names text ≡ Err why)
  pub sound : IfOk result (λ tree. is_sound (extent_of names) (rule_of tree) ≡ true)

pub judged_read :
    (names : Names) (text : Bytes) (ts : List Token) (r : ReadRule) (result : Result RuleTree RuleRefusal) →
    Readable text ts → AreRead names (written_rule ts) (Some r) →
    ((ns : Names) (w : Written) → IsRead ns r w → IfOk result (λ tree. rule_if_sound ns w ≡ Ok (rule_of tree))) →
    ((ns : Names) (w : Written) → IsRead ns r w → IfErr result (λ why. rule_if_sound ns w ≡ Err why)) →
    Judged names text result
judged_read names text ts r result h a ok err =
    by_rule (written_rule ts) refl a
  where
    sound : (o : Result RuleTree RuleRefusal) → IfOk o (λ tree. rule_of_text names text ≡ Ok (rule_of tree)) → IfOk o (λ tree. is_sound (extent_of names) (rule_of tree) ≡ true)
    sound (Ok tree) e = read_sound names text (rule_of tree) e
    sound (Err why) e = e

    refused : (o : Result RuleTree RuleRefusal) → IfErr o (λ why. rule_of_text names text ≡ Err why) → IfErr o (λ why. ((why ≡ Memory) → ⊥) → rule_of_text names text ≡ Err why)
    refused (Ok tree) e = e
    refused (Err why) e = λ _. e

    by_rule : (o : Option Written) → written_rule ts ≡ o → AreRead names o (Some r) → Judged names text result
    by_rule None e a = absurd a
    by_rule (Some w) e a =
        let rule : IfOk result (λ tree. rule_of_text names text ≡ Ok (rule_of tree)) = subst (λ x. IfOk result (λ tree. x ≡ Ok (rule_of tree))) (judged_rule names text ts w h e) (ok names w a) in
        let refusal : IfErr result (λ why. rule_of_text names text ≡ Err why) = subst (λ x. IfErr result (λ why. x ≡ Err why)) (judged_rule names text ts w h e) (err names w a) in
        record { rule = rule; refusal = refused result refusal; sound = sound result rule }
