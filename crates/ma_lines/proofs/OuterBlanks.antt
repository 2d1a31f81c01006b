-- Blanks at the ends of lines, and lines with one text.
use Rattle.std.proofs.Common.{◌≡◌, ℕ, ◌+◌, Bool, true, false, cond, ◌⊎◌, inl, inr, List, [], ◌∷◌, ◌++◌, refl, sym, ap, ◌∙◌, arith}
use Rattle.std.specs.Prelude.{◌==◌, reverse}
use Rattle.std.proofs.lemmas.Bool.Decides.{nat_tests}
use Rattle.std.proofs.lemmas.List.{reverse-append, reverse-reverse}
use Rattle.std.specs.List.{list_any, position_or_len}
use Rattle.quantity.specs.Bytes.{Bytes, is_blank, is_byte, without_outer_blanks, without_blanks_before}
use Rattle.source_text.specs.Lines.{text_of_line, without_comment, without_first, without_return}
use Rattle.ma_lines.specs.Laws.{DropsOuterBlanks, StandsOnTexts}
use Rattle.ma_lines.specs.Reader.{line_of}
use Rattle.ma_lines.specs.Sections.{lines_refused, sections_of, unless_refused}
use Rattle.ma_lines.proofs.Dropped.{one_more}
use Rattle.ma_lines.proofs.Numbered.{numbered, pieces_of}
use Rattle.ma_lines.proofs.Unnumbered.{one_piece, pieces-append}

-- ---- lines with one text

same_text : (ps : List Bytes) (line other : Bytes) (qs : List Bytes) (n : ℕ) → text_of_line line ≡ text_of_line other → numbered n (ps ++ line ∷ qs) ≡ numbered n (ps ++ other ∷ qs)
same_text [] line other qs n e = ap (λ t. line_of n t ∷ numbered (n + 1) qs) e
same_text (p ∷ ps) line other qs n e = ap (λ ls. line_of n (text_of_line p) ∷ ls) (same_text ps line other qs (n + 1) e)

pieces_around : (before line after : Bytes) → list_any (is_byte 10) line ≡ false → pieces_of (before ++ 10 ∷ (line ++ 10 ∷ after)) ≡ pieces_of before ++ line ∷ pieces_of after
pieces_around before line after one =
    pieces-append before (line ++ 10 ∷ after) ∙ ap (λ ps. pieces_of before ++ ps) (pieces-append line after ∙ ap (λ ps. ps ++ pieces_of after) (one_piece line one))

pub stands_on_texts : StandsOnTexts
unfolding sections_of
stands_on_texts before line other after one too e =
    ap (λ ls. unless_refused (lines_refused ls) ls)
    (ap (numbered 1) (pieces_around before line after one)
    ∙ same_text (pieces_of before) line other (pieces_of after) 1 e
    ∙ sym (ap (numbered 1) (pieces_around before other after too)))

-- ---- blanks

module _ (c : ℕ) (blank : is_blank c ≡ true) where
  no_return : (13 == c) ≡ false
  no_return = grind (arith, nat_tests)

  no_comment : is_byte 37 c ≡ false
  no_comment = grind (arith, nat_tests)

  trimmed-front : (text : Bytes) → without_outer_blanks (c ∷ text) ≡ without_outer_blanks text
  trimmed-front text = ap (λ b. reverse (without_blanks_before (reverse (cond b (without_blanks_before text) (c ∷ text))))) blank

  comment-front : (text : Bytes) → without_comment (c ∷ text) ≡ c ∷ without_comment text
  comment-front text = rw no_comment (one_more c text (position_or_len (is_byte 37) text))

  first-push : (text : Bytes) → without_first 13 (text ++ c ∷ []) ≡ without_first 13 text ++ c ∷ []
  first-push [] = rw no_return refl
  first-push (x ∷ xs) = by (13 == x)
    where
      by : (b : Bool) → cond b (xs ++ c ∷ []) (x ∷ xs ++ c ∷ []) ≡ cond b xs (x ∷ xs) ++ c ∷ []
      by true = refl
      by false = refl

  return-front : (line : Bytes) → without_return (c ∷ line) ≡ c ∷ without_return line
  return-front line =
      ap (λ xs. reverse (without_first 13 xs)) (reverse-append (c ∷ []) line)
      ∙ ap reverse (first-push (reverse line))
      ∙ reverse-append (without_first 13 (reverse line)) (c ∷ [])

  text-front : (line : Bytes) → text_of_line (c ∷ line) ≡ text_of_line line
  text-front line =
      ap (λ xs. without_outer_blanks (without_comment xs)) (return-front line)
      ∙ ap without_outer_blanks (comment-front (without_return line))
      ∙ trimmed-front (without_comment (without_return line))

  blanks-push : (text : Bytes)
      → (without_blanks_before (text ++ c ∷ []) ≡ without_blanks_before text ++ c ∷ []) ⊎ ((without_blanks_before (text ++ c ∷ []) ≡ []) × (without_blanks_before text ≡ []))
  blanks-push [] = inr (ap (λ b. cond b [] (c ∷ [])) blank, refl)
  blanks-push (x ∷ xs) = by (is_blank x) (blanks-push xs)
    where
      by : (b : Bool)
          → (without_blanks_before (xs ++ c ∷ []) ≡ without_blanks_before xs ++ c ∷ []) ⊎ ((without_blanks_before (xs ++ c ∷ []) ≡ []) × (without_blanks_before xs ≡ []))
          → (cond b (without_blanks_before (xs ++ c ∷ [])) (x ∷ xs ++ c ∷ []) ≡ cond b (without_blanks_before xs) (x ∷ xs) ++ c ∷ [])
          ⊎ ((cond b (without_blanks_before (xs ++ c ∷ [])) (x ∷ xs ++ c ∷ []) ≡ []) × (cond b (without_blanks_before xs) (x ∷ xs) ≡ []))
      by true ih = ih
      by false ih = inl refl

  trimmed-push : (text : Bytes) → without_outer_blanks (text ++ c ∷ []) ≡ without_outer_blanks text
  trimmed-push text = by (blanks-push text)
    where
      by : (without_blanks_before (text ++ c ∷ []) ≡ without_blanks_before text ++ c ∷ []) ⊎ ((without_blanks_before (text ++ c ∷ []) ≡ []) × (without_blanks_before text ≡ []))
          → without_outer_blanks (text ++ c ∷ []) ≡ without_outer_blanks text
      by (inl e) =
          ap (λ xs. reverse (without_blanks_before (reverse xs))) e
          ∙ ap (λ xs. reverse (without_blanks_before xs)) (reverse-append (without_blanks_before text) (c ∷ []))
          ∙ ap (λ b. reverse (cond b (without_blanks_before (reverse (without_blanks_before text))) (c ∷ reverse (without_blanks_before text)))) blank
      by (inr e) = ap (λ xs. reverse (without_blanks_before (reverse xs))) (e.0 ∙ sym e.1)

  comment-push : (text : Bytes) → (without_comment (text ++ c ∷ []) ≡ without_comment text ++ c ∷ []) ⊎ (without_comment (text ++ c ∷ []) ≡ without_comment text)
  comment-push [] = inl (rw no_comment refl)
  comment-push (x ∷ xs) = by (is_byte 37 x) refl (comment-push xs)
    where
      front : (text : Bytes) → is_byte 37 x ≡ false → without_comment (x ∷ text) ≡ x ∷ without_comment text
      front text e = rw e (one_more x text (position_or_len (is_byte 37) text))

      none : (text : Bytes) → is_byte 37 x ≡ true → without_comment (x ∷ text) ≡ []
      none text e = rw e refl

      by : (b : Bool) → is_byte 37 x ≡ b
          → (without_comment (xs ++ c ∷ []) ≡ without_comment xs ++ c ∷ []) ⊎ (without_comment (xs ++ c ∷ []) ≡ without_comment xs)
          → (without_comment (x ∷ xs ++ c ∷ []) ≡ without_comment (x ∷ xs) ++ c ∷ []) ⊎ (without_comment (x ∷ xs ++ c ∷ []) ≡ without_comment (x ∷ xs))
      by true e ih = inr (none (xs ++ c ∷ []) e ∙ sym (none xs e))
      by false e (inl ih) = inl (front (xs ++ c ∷ []) e ∙ ap (λ ys. x ∷ ys) ih ∙ sym (ap (λ ys. ys ++ c ∷ []) (front xs e)))
      by false e (inr ih) = inr (front (xs ++ c ∷ []) e ∙ ap (λ ys. x ∷ ys) ih ∙ sym (front xs e))

  return-push : (line : Bytes) → without_return (line ++ c ∷ []) ≡ line ++ c ∷ []
  return-push line =
      ap (λ xs. reverse (without_first 13 xs)) (reverse-append line (c ∷ []))
      ∙ ap (λ b. reverse (cond b (reverse line) (c ∷ reverse line))) no_return
      ∙ sym (ap reverse (reverse-append line (c ∷ [])))
      ∙ reverse-reverse (line ++ c ∷ [])

  text-push : (line : Bytes) → without_return line ≡ line → text_of_line (line ++ c ∷ []) ≡ text_of_line line
  text-push line e =
      ap (λ xs. without_outer_blanks (without_comment xs)) (return-push line)
      ∙ by (comment-push line)
      ∙ sym (ap (λ xs. without_outer_blanks (without_comment xs)) e)
    where
      by : (without_comment (line ++ c ∷ []) ≡ without_comment line ++ c ∷ []) ⊎ (without_comment (line ++ c ∷ []) ≡ without_comment line)
          → without_outer_blanks (without_comment (line ++ c ∷ [])) ≡ without_outer_blanks (without_comment line)
      by (inl e) = ap without_outer_blanks e ∙ trimmed-push (without_comment line)
      by (inr e) = ap without_outer_blanks e

pub drops_outer_blanks : DropsOuterBlanks
drops_outer_blanks = record { in_front = λ c line blank. text-front c blank line; behind = λ c line blank e. text-push c blank line e }
