-- A line of a refusal, from its parts.
use Rattle.std.proofs.Common.{◌≡◌, ℕ, [], ◌++◌, sym, ◌∙◌}
use Rattle.std.proofs.lemmas.List.{append_assoc}
use Rattle.std.specs.Prelude.{codes, decimal}
use Rattle.quantity.specs.Bytes.{Bytes}
use Rattle.text_forms.specs.Lines.{line_with_end}
use Rattle.answer_model.specs.Answer.{refused_text}

-- six parts, joined from the last and from the first
joined : (a b c d e f : Bytes) → a ++ (b ++ (c ++ (d ++ (e ++ f)))) ≡ a ++ b ++ c ++ d ++ e ++ f
joined a b c d e f =
    sym (append_assoc a b (c ++ (d ++ (e ++ f)))) ∙ sym (append_assoc (a ++ b) c (d ++ (e ++ f))) ∙ sym (append_assoc (a ++ b ++ c) d (e ++ f))
    ∙ sym (append_assoc (a ++ b ++ c ++ d) e f)

-- the parts in one list
pub refused_parts : (what : Bytes) (number : ℕ) (why a digits b c line : Bytes) → a ≡ codes " refused: line " → digits ≡ decimal number → b ≡ codes ": " → c ≡ codes "\n"
    → line ≡ what ++ (a ++ (digits ++ (b ++ (why ++ (c ++ []))))) → line ≡ line_with_end (refused_text what number why)
refused_parts what number why a digits b c line is_a is_digits is_b is_c is_line =
    is_line ∙ (λ i. what ++ (is_a i ++ (is_digits i ++ (is_b i ++ (why ++ (is_c i ++ [])))))) ∙ joined what (codes " refused: line ") (decimal number) (codes ": ") why (codes "\n")
