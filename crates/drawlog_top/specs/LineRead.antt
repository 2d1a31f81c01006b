-- The log line that a value of the program stands for.
use Rattle.text_forms.specs.declared.letter.Letter.TheVariants as letter
use Rattle.text_forms.specs.LogLine as forms
use Rattle.text_forms.specs.LogLine.{given, moved}
use Rattle.drawlog_top.specs.LeafRead.{named_leaf}
use Rattle.drawlog_top.specs.declared.leaf_name.LeafName.{LeafName}
use Rattle.drawlog_top.specs.declared.log_line.LogLine.{LogLine}
use Rattle.drawlog_top.specs.declared.log_line.LogLine.TheVariants.{Y, N, X, S}

-- the line, by its letter
abbrev pub line_of : LogLine → forms.LogLine
line_of (Y time leaf port value) = given letter.Y time (named_leaf leaf) port.now value
line_of (N time leaf port value) = given letter.N time (named_leaf leaf) port.now value
line_of (X time leaf port value) = given letter.X time (named_leaf leaf) port.now value
line_of (S time leaf value next) = moved time (named_leaf leaf) value next

-- the leaf that a line is of
abbrev pub leaf_in : LogLine → LeafName
leaf_in (Y time leaf port value) = leaf
leaf_in (N time leaf port value) = leaf
leaf_in (X time leaf port value) = leaf
leaf_in (S time leaf value next) = leaf
