-- The tables of refused texts, computed.
use Rattle.std.proofs.Common.{refl}
use Rattle.rule_words.specs.Tokens.{tokens}
use Rattle.rule_words.specs.Reading.{written_rule}
use Rattle.rule_words.specs.RuleOf.{rule_of_text}
use Rattle.rule_syntax.specs.RefusalExamples.{PiecesThatAreNoTokens, WordsThatAreRandomFunctions, WordsThatAreNoneOfTheLanguage, RulesWithMissingParts, ValuesAndDelaysOfNoForm, ExpressionsOfNoForm, ParenthesesOfNoForm, CallsOfNoForm, GivesAndSetsOfNoForm, CellsThatAreNoNeighbours, VariablesThatAreUnknown, PortsThatAreUnknown, OperandsOfAWrongSort, PartsOfAWrongSort, APieceThatIsNoTokenComesFirst, TheFirstStrangeWordComesNext, TokensThatAreNoRuleComeBeforeNames, NamesComeByKindBeforeSorts, TextsAreRefused}

pieces_that_are_no_tokens : PiecesThatAreNoTokens
unfolding tokens written_rule rule_of_text
pieces_that_are_no_tokens = (refl, refl, refl, refl, refl, refl, refl, refl, refl, refl, refl, refl, refl, refl)

words_that_are_random_functions : WordsThatAreRandomFunctions
unfolding tokens written_rule rule_of_text
words_that_are_random_functions = (refl, refl, refl, refl, refl, refl, refl, refl, refl, refl, refl, refl, refl, refl, refl)

words_that_are_none_of_the_language : WordsThatAreNoneOfTheLanguage
unfolding tokens written_rule rule_of_text
words_that_are_none_of_the_language = (refl, refl, refl, refl, refl, refl, refl, refl, refl, refl, refl, refl)

rules_with_missing_parts : RulesWithMissingParts
unfolding tokens written_rule rule_of_text
rules_with_missing_parts = (refl, refl, refl, refl, refl, refl, refl, refl, refl, refl, refl, refl, refl, refl, refl, refl)

values_and_delays_of_no_form : ValuesAndDelaysOfNoForm
unfolding tokens written_rule rule_of_text
values_and_delays_of_no_form = (refl, refl, refl, refl, refl, refl, refl, refl, refl, refl, refl, refl, refl)

expressions_of_no_form : ExpressionsOfNoForm
unfolding tokens written_rule rule_of_text
expressions_of_no_form = (refl, refl, refl, refl, refl, refl, refl, refl, refl, refl, refl, refl, refl, refl, refl, refl, refl)

parentheses_of_no_form : ParenthesesOfNoForm
unfolding tokens written_rule rule_of_text
parentheses_of_no_form = (refl, refl, refl, refl, refl, refl, refl, refl, refl, refl, refl, refl, refl, refl, refl, refl, refl, refl)

calls_of_no_form : CallsOfNoForm
unfolding tokens written_rule rule_of_text
calls_of_no_form = (refl, refl, refl, refl, refl, refl, refl, refl, refl, refl, refl, refl, refl, refl, refl, refl, refl, refl, refl, refl)

gives_and_sets_of_no_form : GivesAndSetsOfNoForm
unfolding tokens written_rule rule_of_text
gives_and_sets_of_no_form = (refl, refl, refl, refl, refl, refl, refl, refl, refl, refl, refl, refl, refl, refl, refl, refl, refl, refl, refl, refl)

cells_that_are_no_neighbours : CellsThatAreNoNeighbours
unfolding tokens written_rule rule_of_text
cells_that_are_no_neighbours = (refl, refl, refl, refl, refl, refl, refl, refl, refl, refl, refl, refl, refl)

variables_that_are_unknown : VariablesThatAreUnknown
unfolding tokens written_rule rule_of_text
variables_that_are_unknown = (refl, refl, refl, refl, refl, refl, refl, refl, refl, refl)

ports_that_are_unknown : PortsThatAreUnknown
unfolding tokens written_rule rule_of_text
ports_that_are_unknown = (refl, refl, refl, refl, refl, refl, refl, refl, refl)

operands_of_a_wrong_sort : OperandsOfAWrongSort
unfolding tokens written_rule rule_of_text
operands_of_a_wrong_sort = (refl, refl, refl, refl, refl, refl, refl, refl, refl, refl, refl, refl, refl, refl)

parts_of_a_wrong_sort : PartsOfAWrongSort
unfolding tokens written_rule rule_of_text
parts_of_a_wrong_sort = (refl, refl, refl, refl, refl, refl, refl, refl, refl, refl, refl)

a_piece_that_is_no_token_comes_first : APieceThatIsNoTokenComesFirst
unfolding tokens written_rule rule_of_text
a_piece_that_is_no_token_comes_first = (refl, refl, refl, refl, refl, refl)

the_first_strange_word_comes_next : TheFirstStrangeWordComesNext
unfolding tokens written_rule rule_of_text
the_first_strange_word_comes_next = (refl, refl, refl, refl, refl, refl, refl, refl, refl, refl, refl, refl, refl, refl, refl, refl, refl, refl, refl, refl)

tokens_that_are_no_rule_come_before_names : TokensThatAreNoRuleComeBeforeNames
unfolding tokens written_rule rule_of_text
tokens_that_are_no_rule_come_before_names = (refl, refl, refl, refl, refl, refl, refl, refl, refl, refl, refl)

names_come_by_kind_before_sorts : NamesComeByKindBeforeSorts
unfolding tokens written_rule rule_of_text
names_come_by_kind_before_sorts = (refl, refl, refl, refl, refl, refl, refl, refl, refl, refl, refl, refl, refl, refl, refl, refl)

pub texts_are_refused : TextsAreRefused
texts_are_refused = record { pieces_that_are_no_tokens = pieces_that_are_no_tokens; words_that_are_random_functions = words_that_are_random_functions; words_that_are_none_of_the_language = words_that_are_none_of_the_language; rules_with_missing_parts = rules_with_missing_parts; values_and_delays_of_no_form = values_and_delays_of_no_form; expressions_of_no_form = expressions_of_no_form; parentheses_of_no_form = parentheses_of_no_form; calls_of_no_form = calls_of_no_form; gives_and_sets_of_no_form = gives_and_sets_of_no_form; cells_that_are_no_neighbours = cells_that_are_no_neighbours; variables_that_are_unknown = variables_that_are_unknown; ports_that_are_unknown = ports_that_are_unknown; operands_of_a_wrong_sort = operands_of_a_wrong_sort; parts_of_a_wrong_sort = parts_of_a_wrong_sort; a_piece_that_is_no_token_comes_first = a_piece_that_is_no_token_comes_first; the_first_strange_word_comes_next = the_first_strange_word_comes_next; tokens_that_are_no_rule_come_before_names = tokens_that_are_no_rule_come_before_names; names_come_by_kind_before_sorts = names_come_by_kind_before_sorts }
