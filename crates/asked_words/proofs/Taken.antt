-- From what a parse says of its own command to the same of the commands of both programs.
use Rattle.std.proofs.Common.{◌≡◌, ◌==◌, ◌∙◌, sym, refl, ap, subst, true, false, Option, List, [], ◌∷◌, length, arith, inl, inr}
use Rattle.clap.specs.declared.error.Error.{Error}
use Rattle.clap.specs.declared.error.kind.ErrorKind.TheVariants.{OutOfMemory}
use Rattle.std.specs.Prelude.{IfSome, IfOk, Result, is_some, codes}
use Rattle.clap.specs.declared.parser.matches.ArgMatches.{ArgMatches}
use Rattle.clap.specs.Words.{App, rows_of, found_of, matches_of, is_simple, is_simple_and_free, HasKind, Kinds, kind_of}
use Rattle.clap.proofs.OnLiterals.{clap_on_literals}
use Rattle.model_tree.specs.Tree.{Word}
use Rattle.answer_model.specs.Options.{is_taken, command_by, built_rows, drawing_rows}

-- the commands of both programs
abbrev pub cdpp_app : App
cdpp_app = command_by (codes "cdpp") built_rows

abbrev pub drawlog_app : App
drawlog_app = command_by (codes "drawlog") drawing_rows

pub cdpp_simple : is_simple cdpp_app ≡ true
unfolding command_by clap_on_literals
cdpp_simple = refl

pub cdpp_free : is_simple_and_free cdpp_app ≡ true
unfolding command_by clap_on_literals
cdpp_free = refl

pub drawlog_simple : is_simple drawlog_app ≡ true
unfolding command_by clap_on_literals
drawlog_simple = refl

pub drawlog_free : is_simple_and_free drawlog_app ≡ true
unfolding command_by clap_on_literals
drawlog_free = refl

pub no_faults : {A : Type 0} (ks : List A) → ks ≡ [] → true ≡ (length ks == 0)
no_faults ks e = sym (ap (λ xs. length xs == 0) e)

pub some_fault : (ks : Kinds) (x : Error) → HasKind ks x → ¬ (kind_of x ≡ OutOfMemory) → false ≡ (length ks == 0)
some_fault ks x (inl h) other = absurd (other h)
some_fault [] x (inr h) other = absurd h
some_fault (k ∷ ks) x (inr h) other = grind arith

-- ---- what is said of a command, of the same command by another name

pub simple_as : (a b : App) → a ≡ b → is_simple b ≡ true → is_simple a ≡ true
simple_as a b e h = ap is_simple e ∙ h

pub free_as : (a b : App) → a ≡ b → is_simple_and_free b ≡ true → is_simple_and_free a ≡ true
free_as a b e h = ap is_simple_and_free e ∙ h

pub taken_as : {E : Type 0} (r : Result (Option ArgMatches) E) (a b : App) (words : List Word) → a ≡ b → IfOk r (λ m. is_some m ≡ is_taken a words) → IfOk r (λ m. is_some m ≡ is_taken b words)
taken_as r a b words e h = subst (λ (x : App). IfOk r (λ m. is_some m ≡ is_taken x words)) e h

pub rows_as : {E : Type 0} (r : Result (Option ArgMatches) E) (a b : App) (words : List Word) → a ≡ b → IfOk r (λ m. IfSome m (λ m. rows_of (found_of m) ≡ matches_of a words)) → IfOk r (λ m. IfSome m (λ m. rows_of (found_of m) ≡ matches_of b words))
rows_as r a b words e h = subst (λ (x : App). IfOk r (λ m. IfSome m (λ m. rows_of (found_of m) ≡ matches_of x words))) e h
