-- The tables of texts that are rules, computed.
use Rattle.std.proofs.Common.{refl}
use Rattle.rule_words.specs.Tokens.{tokens}
use Rattle.rule_words.specs.Reading.{written_rule}
use Rattle.rule_words.specs.RuleOf.{rule_of_text}
use Rattle.rule_syntax.specs.ReadExamples.{WordsJoinByPrecedence, WordsJoinToTheLeft, NumbersAreCompared, NumbersAreReckoned, SignsHoldOneOperand, WhatStandsAlone, CellsHaveAPlaceAndAPort, FunctionsHaveTheirArguments, TestsAreConditions, AValueIsPlainOrABlock, ADelayIsANumberOrABlock, GivesAndSetsKeepTheirOrder, NamesMayBeWordsOfTheLanguage, ASpaceMayHavePlanes, TextsAreRead}

words_join_by_precedence : WordsJoinByPrecedence
unfolding tokens written_rule rule_of_text
words_join_by_precedence = (refl, refl, refl, refl, refl, refl, refl, refl, refl, refl, refl)

words_join_to_the_left : WordsJoinToTheLeft
unfolding tokens written_rule rule_of_text
words_join_to_the_left = (refl, refl, refl, refl, refl, refl, refl, refl, refl, refl)

numbers_are_compared : NumbersAreCompared
unfolding tokens written_rule rule_of_text
numbers_are_compared = (refl, refl, refl, refl, refl, refl, refl, refl, refl, refl, refl)

numbers_are_reckoned : NumbersAreReckoned
unfolding tokens written_rule rule_of_text
numbers_are_reckoned = (refl, refl, refl, refl, refl, refl, refl, refl, refl)

signs_hold_one_operand : SignsHoldOneOperand
unfolding tokens written_rule rule_of_text
signs_hold_one_operand = (refl, refl, refl, refl, refl, refl, refl, refl, refl, refl)

what_stands_alone : WhatStandsAlone
unfolding tokens written_rule rule_of_text
what_stands_alone = (refl, refl, refl, refl, refl, refl, refl, refl, refl, refl, refl, refl, refl, refl, refl, refl)

cells_have_a_place_and_a_port : CellsHaveAPlaceAndAPort
unfolding tokens written_rule rule_of_text
cells_have_a_place_and_a_port = (refl, refl, refl, refl, refl, refl, refl, refl, refl, refl)

functions_have_their_arguments : FunctionsHaveTheirArguments
unfolding tokens written_rule rule_of_text
functions_have_their_arguments = (refl, refl, refl, refl, refl, refl, refl, refl, refl, refl, refl, refl, refl, refl)

tests_are_conditions : TestsAreConditions
unfolding tokens written_rule rule_of_text
tests_are_conditions = (refl, refl, refl, refl, refl)

a_value_is_plain_or_a_block : AValueIsPlainOrABlock
unfolding tokens written_rule rule_of_text
a_value_is_plain_or_a_block = (refl, refl, refl, refl, refl, refl, refl, refl, refl, refl, refl, refl, refl)

a_delay_is_a_number_or_a_block : ADelayIsANumberOrABlock
unfolding tokens written_rule rule_of_text
a_delay_is_a_number_or_a_block = (refl, refl, refl, refl, refl, refl, refl, refl)

gives_and_sets_keep_their_order : GivesAndSetsKeepTheirOrder
unfolding tokens written_rule rule_of_text
gives_and_sets_keep_their_order = (refl, refl, refl, refl, refl)

names_may_be_words_of_the_language : NamesMayBeWordsOfTheLanguage
unfolding tokens written_rule rule_of_text
names_may_be_words_of_the_language = (refl, refl)

a_space_may_have_planes : ASpaceMayHavePlanes
unfolding tokens written_rule rule_of_text
a_space_may_have_planes = (refl, refl, refl)

pub texts_are_read : TextsAreRead
texts_are_read = record { words_join_by_precedence = words_join_by_precedence; words_join_to_the_left = words_join_to_the_left; numbers_are_compared = numbers_are_compared; numbers_are_reckoned = numbers_are_reckoned; signs_hold_one_operand = signs_hold_one_operand; what_stands_alone = what_stands_alone; cells_have_a_place_and_a_port = cells_have_a_place_and_a_port; functions_have_their_arguments = functions_have_their_arguments; tests_are_conditions = tests_are_conditions; a_value_is_plain_or_a_block = a_value_is_plain_or_a_block; a_delay_is_a_number_or_a_block = a_delay_is_a_number_or_a_block; gives_and_sets_keep_their_order = gives_and_sets_keep_their_order; names_may_be_words_of_the_language = names_may_be_words_of_the_language; a_space_may_have_planes = a_space_may_have_planes }
