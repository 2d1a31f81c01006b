-- Values for ports and variables, one behind the other.
use Rattle.std.proofs.Common.{◌≡◌, ℕ, Bool, true, false, List, [], ◌∷◌, ◌++◌, map, length, refl, sym, ap, subst, ◌∙◌, append_assoc, append-nil}
use Rattle.std.specs.Prelude.{◌&&◌, ◌||◌}
use Rattle.std.specs.List.{flat_map, list_all, list_any}
use Rattle.std.specs.Str.{bytes_eq}
use Rattle.quantity.specs.Bytes.{Bytes, has_repeat}
use Rattle.rule_tree.specs.InCode.{expr_of}
use Rattle.rule_tree.specs.Phrases.{Phrase, Assigned}
use Rattle.rule_syntax.specs.RulesRead.{AreNamed, is_number, named_for, names_for, number_for, phrase_for, value_for, values_of, words_of}
use Rattle.rule_tree.specs.Scope.{Names, Named, named_in}
use Rattle.rule_tree.specs.declared.function.Sort.TheVariants.{Number}
use Rattle.rule_tree.specs.Sound.{is_sort}
use Rattle.rule_phrases.specs.Terms.{Misses, StandsForPhrase}
use Rattle.rule_syntax.specs.declared.named.Kind.{Kind}
use Rattle.rule_syntax.specs.declared.named.NamedValue.{NamedValue}
use Rattle.rule_syntax.specs.declared.named.NamedValues.{NamedValues}
use Rattle.rule_phrases.specs.declared.term.Term.{Term}

-- ---- lists with one more at the end

mapped_behind : {A B : Type 0} (f : A → B) (xs : List A) (x : A) → map f (xs ++ x ∷ []) ≡ map f xs ++ f x ∷ []
mapped_behind f [] x = refl
mapped_behind f (y ∷ ys) x = ap (λ zs. f y ∷ zs) (mapped_behind f ys x)

joined_behind : {A B : Type 0} (f : A → List B) (xs : List A) (x : A) → flat_map f (xs ++ x ∷ []) ≡ flat_map f xs ++ f x
joined_behind f [] x = append-nil (f x)
joined_behind f (y ∷ ys) x = ap (λ zs. f y ++ zs) (joined_behind f ys x) ∙ sym (append_assoc (f y) (flat_map f ys) (f x))

and_assoc : (a b c : Bool) → (a && (b && c)) ≡ ((a && b) && c)
and_assoc true b c = refl
and_assoc false b c = refl

and_true : (a : Bool) → (a && true) ≡ a
and_true true = refl
and_true false = refl

all_behind : {A : Type 0} (p : A → Bool) (xs : List A) (x : A) → list_all p (xs ++ x ∷ []) ≡ (list_all p xs && p x)
all_behind p [] x = and_true (p x)
all_behind p (y ∷ ys) x = ap (λ b. p y && b) (all_behind p ys x) ∙ and_assoc (p y) (list_all p ys) (p x)

-- ---- one value more

pub no_values_named : (names : Names) (kind : Kind) (vs : NamedValues) → vs.list.items ≡ [] → Misses names vs.lacks [] → vs.are_numbers ≡ true → AreNamed names kind vs []
no_values_named names kind vs items misses numbers = record { words = ap words_of items; values = ap values_of items; misses = misses; sorted = numbers }

pub record OneMore (names : Names) (kind : Kind) (word : Bytes) (term : Term) (old new : NamedValues) : Type 0 where
  pub words : words_of new.list.items ≡ words_of old.list.items ++ word ∷ []
  pub values : values_of new.list.items ≡ values_of old.list.items ++ (number_for names kind word, expr_of term.node) ∷ []
  pub misses : (ns ms : List Named) → Misses names old.lacks ns → Misses names term.lacks ms → Misses names new.lacks ((ns ++ named_for kind word ∷ []) ++ ms)
  pub sorted : new.are_numbers ≡ (old.are_numbers && is_sort Number term.sort)

pub one_more_named : (names : Names) (kind : Kind) (word : Bytes) (term : Term) (old new : NamedValues) (xs : List Assigned) (x : Phrase)
    → OneMore names kind word term old new → AreNamed names kind old xs → StandsForPhrase names term x → AreNamed names kind new (xs ++ phrase_for word x ∷ [])
one_more_named names kind word term old new xs x more before stands =
    record {
      words = more.words ∙ ap (λ ws. ws ++ word ∷ []) before.words ∙ sym (mapped_behind (λ (a : Assigned). a.name) xs (phrase_for word x));
      values = more.values ∙ ap (λ vs. vs ++ (number_for names kind word, expr_of term.node) ∷ []) before.values
          ∙ ap (λ e. map (value_for names kind) xs ++ (number_for names kind word, e) ∷ []) stands.tree
          ∙ sym (mapped_behind (value_for names kind) xs (phrase_for word x));
      misses = subst (λ ns. Misses names new.lacks ns) named (more.misses (flat_map (names_for kind) xs) (named_in x) before.misses stands.misses);
      sorted = more.sorted ∙ ap (λ b. b && is_sort Number term.sort) before.sorted
          ∙ ap (λ s. list_all (is_number offsets) (map (value_for names kind) xs) && is_sort Number s) stands.sorted
          ∙ sym (all_behind (is_number offsets) (map (value_for names kind) xs) (value_for names kind (phrase_for word x)))
          ∙ ap (list_all (is_number offsets)) (sym (mapped_behind (value_for names kind) xs (phrase_for word x)));
    }
  where
    offsets : ℕ
    offsets = length names.offsets

    named : (flat_map (names_for kind) xs ++ named_for kind word ∷ []) ++ named_in x ≡ flat_map (names_for kind) (xs ++ phrase_for word x ∷ [])
    named = append_assoc (flat_map (names_for kind) xs) (named_for kind word ∷ []) (named_in x) ∙ sym (joined_behind (names_for kind) xs (phrase_for word x))

pub pushed : (names : Names) (kind : Kind) (term : Term) (old new : NamedValues) (v : NamedValue) → new.list.items ≡ old.list.items ++ v ∷ []
    → v.number ≡ number_for names kind v.word.now → v.value ≡ term.node
    → ((ns ms : List Named) → Misses names old.lacks ns → Misses names term.lacks ms → Misses names new.lacks ((ns ++ named_for kind v.word.now ∷ []) ++ ms))
    → new.are_numbers ≡ (old.are_numbers && is_sort Number term.sort) → OneMore names kind v.word.now term old new
pushed names kind term old new v items number value misses sorted =
    record {
      words = ap words_of items ∙ mapped_behind (λ (u : NamedValue). u.word.now) old.list.items v;
      values = ap values_of items ∙ mapped_behind (λ (u : NamedValue). (u.number, expr_of u.value)) old.list.items v ∙ ap (λ n. values_of old.list.items ++ (n, expr_of v.value) ∷ []) number
          ∙ ap (λ node. values_of old.list.items ++ (number_for names kind v.word.now, expr_of node) ∷ []) value;
      misses = misses;
      sorted = sorted;
    }

-- ---- words that stand twice

any_words : (test : Bytes → Bool) (vs : List NamedValue) → list_any (λ (v : NamedValue). test v.word.now) vs ≡ list_any test (words_of vs)
any_words test [] = refl
any_words test (v ∷ vs) = ap (λ b. test v.word.now || b) (any_words test vs)

repeat_by : (vs rest : List NamedValue) (first : NamedValue) → vs ≡ first ∷ rest → has_repeat (words_of vs) ≡ (list_any (λ (v : NamedValue). bytes_eq first.word.now v.word.now) rest || has_repeat (words_of rest))
repeat_by vs rest first e =
    ap (λ us. has_repeat (words_of us)) e ∙ ap (λ b. b || has_repeat (words_of rest)) (sym (any_words (bytes_eq first.word.now) rest))

pub first_repeats : (vs rest : List NamedValue) (first : NamedValue) (among : Bool) → vs ≡ first ∷ rest → among ≡ list_any (λ (v : NamedValue). bytes_eq first.word.now v.word.now) rest → among ≡ true → among ≡ has_repeat (words_of vs)
first_repeats vs rest first among e a t = t ∙ sym (repeat_by vs rest first e ∙ ap (λ b. b || has_repeat (words_of rest)) (sym a ∙ t))

pub first_is_alone : (vs rest : List NamedValue) (first : NamedValue) (among later : Bool) → vs ≡ first ∷ rest → among ≡ list_any (λ (v : NamedValue). bytes_eq first.word.now v.word.now) rest → among ≡ false → later ≡ has_repeat (words_of rest) → later ≡ has_repeat (words_of vs)
first_is_alone vs rest first among later e a f l = l ∙ sym (repeat_by vs rest first e ∙ ap (λ b. b || has_repeat (words_of rest)) (sym a ∙ f))
