-- Entries, and the lines that continue them: an entry goes on as long as its braces are open.
use Rattle.std.specs.Prelude.{ℕ, zero, suc, Bool, List, [], ◌∷◌, ◌++◌, if◌then◌else◌, codes}
use Rattle.std.specs.List.{fold, before_first, after_first}
use Rattle.quantity.specs.ByteNames.{closing_brace, colon, opening_brace, opening_bracket}
use Rattle.quantity.specs.Bytes.{Bytes, is_byte, begins_with, without_outer_blanks, is_among, open_after}
use Rattle.source_text.specs.Lines.{Line, in_lower_case}
use Rattle.ma_lines.specs.declared.section.Entry.{Entry}

-- a line that begins a section
abbrev pub is_heading : Line → Bool
is_heading l = begins_with opening_bracket l.text

-- ---- braces

-- the braces open after a text, when so many are open before it
abbrev pub braces_after : ℕ → Bytes → ℕ
braces_after n text = fold (open_after (is_byte opening_brace) (is_byte closing_brace)) n text

-- the braces open after a line: where none are open before it, an entry's are counted from the left
-- of its value
abbrev pub braces_after_line : ℕ → Line → ℕ
braces_after_line zero l =
    if is_heading l then 0 else braces_after 0 (after_first (is_byte colon) l.text)
braces_after_line (suc n) l = braces_after (suc n) l.text

-- a line with the number of braces open before it: where some are, it continues the entry before it
pub record Braced : Type 0 where
  pub braces : ℕ
  pub line : Line

-- each line with the braces that are open before it
abbrev pub lines_with_braces : ℕ → List Line → List Braced
lines_with_braces n [] = []
lines_with_braces n (l ∷ ls) =
    record { braces = n; line = l } ∷ lines_with_braces (braces_after_line n l) ls

-- ---- the text of the lines that continue an entry

-- a text behind a blank, where it isn't empty
abbrev pub after_space : Bytes → Bytes
after_space [] = []
after_space (c ∷ cs) = 32 ∷ c ∷ cs

-- what a line adds, with what the lines behind it add: nothing, where it begins anew
abbrev pub continued_text : ℕ → Line → Bytes → Bytes
continued_text zero l more = []
continued_text (suc n) l more = after_space l.text ++ more

-- what lines add to an entry whose braces are open
abbrev pub continuation : List Braced → Bytes
continuation [] = []
continuation (b ∷ bs) = continued_text b.braces b.line (continuation bs)

-- ---- keys and values

-- the keys whose values keep their letters
abbrev pub keeps_letters : Bytes → Bool
keeps_letters key = is_among (codes "initialcellsvalue" ∷ codes "initialmapvalue" ∷ []) key

-- the key, in small letters
abbrev pub key_in : Bytes → Bytes
key_in text = in_lower_case (without_outer_blanks (before_first (is_byte colon) text))

-- the value behind the colon
abbrev pub value_after : Bytes → Bytes
value_after text = without_outer_blanks (after_first (is_byte colon) text)

-- the entry that a line begins, with the text that continues it
abbrev pub entry_of : Line → Bytes → Entry
entry_of l more =
    let value = value_after l.text ++ more in
    record {
      line = l.number;
      key = key_in l.text;
      value = if keeps_letters (key_in l.text) then value else in_lower_case value;
    }
