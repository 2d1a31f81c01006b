-- What is known of an expression and of a rule when they are read.
use Rattle.std.specs.Prelude.{◌≡◌, ⊤, Option, Some, None, List, [], ◌∷◌, length}
use Rattle.std.specs.List.{list_any}
use Rattle.rule_tree.specs.InCode.{expr_of}
use Rattle.rule_tree.specs.Phrases.{Phrase}
use Rattle.rule_tree.specs.Scope.{Names, Named, named_in, numbered, is_no_neighbour, is_no_variable}
use Rattle.rule_tree.specs.Scope.{is_no_port}
use Rattle.rule_tree.specs.Sound.{sort_of}
use Rattle.rule_words.specs.Reading.{Prefix}
use Rattle.rule_words.specs.Shown.{tokens_of}
use Rattle.rule_phrases.specs.declared.front.Front.{Front}
use Rattle.rule_phrases.specs.declared.term.Lacks.{Lacks}
use Rattle.rule_phrases.specs.declared.term.Term.{Term}

-- just these kinds of names are lacking
pub record Misses (names : Names) (l : Lacks) (ns : List Named) : Type 0 where
  pub neighbours : l.neighbour ≡ list_any (is_no_neighbour names) ns
  pub variables : l.variable ≡ list_any (is_no_variable names) ns
  pub ports : l.port ≡ list_any (is_no_port names) ns

-- a term is what a phrase is in a group
pub record StandsForPhrase (names : Names) (t : Term) (x : Phrase) : Type 0 where
  pub tree : expr_of t.node ≡ numbered names x
  pub sorted : t.sort ≡ sort_of (numbered names x) (length names.offsets)
  pub misses : Misses names t.lacks (named_in x)

-- the same, where there is a phrase
abbrev pub IsTerm : Names → Option Phrase → Option Term → Type 0
IsTerm names None None = ⊤
IsTerm names None (Some t) = ⊥
IsTerm names (Some x) None = ⊥
IsTerm names (Some x) (Some t) = StandsForPhrase names t x

-- terms are what phrases are, one for one
abbrev pub AllStand : Names → List Term → List Phrase → Type 0
AllStand names [] [] = ⊤
AllStand names [] (x ∷ xs) = ⊥
AllStand names (t ∷ ts) [] = ⊥
AllStand names (t ∷ ts) (x ∷ xs) = StandsForPhrase names t x × AllStand names ts xs

-- a term and the tokens behind it are what was read at the front of tokens
abbrev pub IsFront : Names → Prefix Phrase → Option Front → Type 0
IsFront names None None = ⊤
IsFront names None (Some f) = ⊥
IsFront names (Some p) None = ⊥
IsFront names (Some p) (Some f) = StandsForPhrase names f.term p.0 × (tokens_of f.rest.now ≡ p.1)
