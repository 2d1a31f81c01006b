-- The bytes that texts are made of, by their names.
use Rattle.std.specs.Prelude.{ℕ}

-- \t
abbrev pub tab : ℕ
tab = 9

-- \n
abbrev pub line_feed : ℕ
line_feed = 10

-- \r
abbrev pub carriage_return : ℕ
carriage_return = 13

-- the blank that isn't a tab
abbrev pub space_character : ℕ
space_character = 32

-- %
abbrev pub percent_sign : ℕ
percent_sign = 37

-- (
abbrev pub opening_parenthesis : ℕ
opening_parenthesis = 40

-- )
abbrev pub closing_parenthesis : ℕ
closing_parenthesis = 41

-- +
abbrev pub plus_sign : ℕ
plus_sign = 43

-- ,
abbrev pub comma : ℕ
comma = 44

-- -
abbrev pub minus_sign : ℕ
minus_sign = 45

-- .
abbrev pub full_stop : ℕ
full_stop = 46

-- 0: the other digits follow it up to 9
abbrev pub digit_zero : ℕ
digit_zero = 48

-- 9
abbrev pub digit_nine : ℕ
digit_nine = 57

-- :
abbrev pub colon : ℕ
colon = 58

-- =
abbrev pub equals_sign : ℕ
equals_sign = 61

-- [
abbrev pub opening_bracket : ℕ
opening_bracket = 91

-- ]
abbrev pub closing_bracket : ℕ
closing_bracket = 93

-- _
abbrev pub underscore : ℕ
underscore = 95

-- {
abbrev pub opening_brace : ℕ
opening_brace = 123

-- }
abbrev pub closing_brace : ℕ
closing_brace = 125
