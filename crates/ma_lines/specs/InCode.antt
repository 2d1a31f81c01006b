-- The section that one in code stands for.
use Rattle.ma_lines.specs.declared.section.Section.{Section as CodeSection}
use Rattle.ma_lines.specs.Sections.{Section}

-- the section that the code's stands for
abbrev pub section_of : CodeSection → Section
section_of s = record { line = s.line; name = s.name; entries = s.entries.items }
