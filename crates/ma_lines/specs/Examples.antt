-- Files that are cut into sections, and files that are refused.
use Rattle.std.specs.Prelude.{◌≡◌, ℕ, List, [], ◌∷◌, ◌++◌, codes}
use Rattle.std.specs.declared.result.Result.TheVariants.{Ok, Err}
use Rattle.quantity.specs.Bytes.{Bytes}
use Rattle.source_text.specs.Lines.{file}
use Rattle.ma_lines.specs.declared.section.Entry.{Entry}
use Rattle.ma_lines.specs.declared.section.LineRefusal.{LineRefusal}
use Rattle.ma_lines.specs.declared.section.LineRefusal.TheVariants.{BadLine, DuplicateSection}
use Rattle.ma_lines.specs.Sections.{Section, sections_of}

abbrev pub entry : ℕ → Bytes → Bytes → Entry
entry line key value = record { line = line; key = key; value = value }

abbrev pub section : ℕ → Bytes → List Entry → Section
section line name entries = record { line = line; name = name; entries = entries }

abbrev pub reads : List Bytes → List Section → Type 0
reads ls ss = sections_of (file ls) ≡ Ok ss

abbrev pub refuses : List Bytes → LineRefusal → Type 0
refuses ls r = sections_of (file ls) ≡ Err r

abbrev pub folded_lines : List Bytes
folded_lines =
    codes "[Top]" ∷ codes "components : Life" ∷ codes "[Life]          % Conway"
    ∷ codes "initialCellsValue : V.val" ∷ codes "rule : 1 100 { (0,0) = 1 and" ∷ [] ∷ codes "   (trueCount = 3) } % more"
    ∷ codes "Type : cell" ∷ []

pub record SectionsAreRead : Type 0 where
  pub nothing : reads [] []
  pub two_lines : reads (codes "[a]" ∷ codes "K : V" ∷ [])
      (section 1 (codes "a") (entry 2 (codes "k") (codes "v") ∷ []) ∷ [])
  pub folds : reads folded_lines
      (section 1 (codes "top") (entry 2 (codes "components") (codes "life") ∷ [])
      ∷ section 3 (codes "life") (entry 4 (codes "initialcellsvalue") (codes "V.val")
      ∷ entry 5 (codes "rule") (codes "1 100 { (0,0) = 1 and (truecount = 3) }")
      ∷ entry 8 (codes "type") (codes "cell") ∷ []) ∷ [])
  pub first_colon : reads (codes "[ a b ]" ∷ codes "k : v : w" ∷ [])
      (section 1 (codes "a b") (entry 2 (codes "k") (codes "v : w") ∷ []) ∷ [])
  pub no_value : reads (codes "[a]" ∷ codes "k:" ∷ [])
      (section 1 (codes "a") (entry 2 (codes "k") [] ∷ []) ∷ [])
  pub closes_nothing : reads (codes "[a]" ∷ codes "k : }{" ∷ codes "[b]" ∷ codes "}" ∷ [])
      (section 1 (codes "a") (entry 2 (codes "k") (codes "}{ [b] }") ∷ []) ∷ [])
  pub names_of_files : reads ((codes "[a]" ++ 13 ∷ []) ∷ codes "InitialMapValue : Map.MAP"
      ∷ codes "initialCellsValue:C.val" ∷ codes "initialValue : V" ∷ [])
      (section 1 (codes "a") (entry 2 (codes "initialmapvalue") (codes "Map.MAP")
      ∷ entry 3 (codes "initialcellsvalue") (codes "C.val")
      ∷ entry 4 (codes "initialvalue") (codes "v") ∷ []) ∷ [])
  pub joins : reads (codes "[a]" ∷ codes "}k : }{ x % {" ∷ [] ∷ codes " [b]" ∷ codes " % c"
      ∷ codes "}{" ∷ codes "}" ∷ codes "l : {}} } :" ∷ codes "}m : n" ∷ [])
      (section 1 (codes "a") (entry 2 (codes "}k") (codes "}{ x [b] }{ }")
      ∷ entry 8 (codes "l") (codes "{}} } :") ∷ entry 9 (codes "}m") (codes "n") ∷ []) ∷ [])
  pub tabs : reads (codes " [ \ta b\t]\t" ∷ codes "\t k\t: \t v\tw  " ∷ codes "x:" ∷ [])
      (section 1 (codes "a b") (entry 2 (codes "k") (codes "v\tw") ∷ entry 3 (codes "x") [] ∷ [])
      ∷ [])
  pub any_comment : reads (codes "[a]" ∷ (37 ∷ 200 ∷ []) ∷ []) (section 1 (codes "a") [] ∷ [])

pub record LinesAreRefused : Type 0 where
  pub no_colon : refuses (codes "[top]" ∷ codes "components line" ∷ []) (BadLine 2)
  pub no_key : refuses (codes "[top]" ∷ codes " : line" ∷ []) (BadLine 2)
  pub no_name : refuses (codes "[ ]" ∷ []) (BadLine 1)
  pub bracket_in_name : refuses (codes "[a[b]" ∷ []) (BadLine 1)
  pub more_behind : refuses (codes "[a] b" ∷ []) (BadLine 1)
  pub no_section : refuses (codes "a : b" ∷ []) (BadLine 1)
  pub bad_byte : refuses (codes "[a]" ∷ (107 ∷ 58 ∷ 200 ∷ []) ∷ []) (BadLine 2)
  pub twice : refuses (codes "[a]" ∷ codes "[b]" ∷ codes "[A]" ∷ []) (DuplicateSection 3)
  pub first_counts : refuses (codes "[a]" ∷ codes "[a]" ∷ codes "k" ∷ []) (DuplicateSection 2)
  pub left_open : refuses (codes "[a]" ∷ codes "rule : 1 100 { t" ∷ codes "[b]" ∷ []) (BadLine 2)
  pub inside_open : refuses (codes "[a]" ∷ codes "rule : {" ∷ (7 ∷ []) ∷ []) (BadLine 3)
  pub bracket_behind : refuses (codes "[a]b]" ∷ []) (BadLine 1)
  pub no_bracket : refuses (codes "[" ∷ []) (BadLine 1)
  pub below_comments : refuses ([] ∷ codes "% c" ∷ codes "a : b" ∷ codes "[top]" ∷ []) (BadLine 3)
  pub deleted : refuses (codes "[a]" ∷ (codes "k : a" ++ 127 ∷ []) ∷ []) (BadLine 2)
  pub return_inside : refuses (codes "[a]" ∷ (codes "k : a" ++ 13 ∷ 98 ∷ []) ∷ []) (BadLine 2)
  pub two_returns : refuses (codes "[a]" ∷ (codes "k : a" ++ 13 ∷ 13 ∷ []) ∷ []) (BadLine 2)
  pub twice_behind_an_entry : refuses (codes "[a]" ∷ codes "k : }" ∷ codes "[ A ]" ∷ [])
      (DuplicateSection 3)
