-- The least of several lines, and the least line of a class's parameters that is off its form.
use Rattle.std.proofs.Common.{◌≡◌, ℕ, min, Option, Some, None, List, [], ◌∷◌, ◌++◌, unwrap_or, refl, sym, ap, ◌∙◌, arith}
use Rattle.std.specs.Prelude.{ℤ, pos, codes}
use Rattle.std.specs.Option.{option_map}
use Rattle.std.proofs.lemmas.List.{append-nil}
use Rattle.quantity.specs.Bytes.{Bytes}
use Rattle.atomic_face.specs.declared.class.Class.TheVariants.{Queue, Generator, Cpu, Counter}
use Rattle.atomic_face.specs.declared.params.Param.{Param}
use Rattle.atomic_face.specs.Parameters.{parameter, lines_off_of, time_word, period_word, value_word, count_word}
use Rattle.atomic_face.specs.Settings.{first_line_off, least_line}
use Rattle.quantity.specs.Times.{earlier}

least_of_assoc : (a b c : Option ℕ) → earlier (earlier a b) c ≡ earlier a (earlier b c)
least_of_assoc None b c = refl
least_of_assoc (Some a) None c = refl
least_of_assoc (Some a) (Some b) None = refl
least_of_assoc (Some a) (Some b) (Some c) = ap (λ n. Some n) (omega arith)

least_line-cons : (n : ℕ) (ns : List ℕ) → least_line (n ∷ ns) ≡ earlier (Some n) (least_line ns)
least_line-cons n ns = go (least_line ns)
  where
    go : (o : Option ℕ) → Some (unwrap_or (option_map (min n) o) n) ≡ earlier (Some n) o
    go None = refl
    go (Some m) = refl

least_line-append : (xs ys : List ℕ) → least_line (xs ++ ys) ≡ earlier (least_line xs) (least_line ys)
least_line-append [] ys = refl
least_line-append (x ∷ xs) ys =
    least_line-cons x (xs ++ ys) ∙ ap (earlier (Some x)) (least_line-append xs ys)
    ∙ sym (least_of_assoc (Some x) (least_line xs) (least_line ys)) ∙ ap (λ o. earlier o (least_line ys)) (sym (least_line-cons x xs))

least_line-three : (xs ys zs : List ℕ) → least_line (xs ++ (ys ++ (zs ++ []))) ≡ earlier (least_line xs) (earlier (least_line ys) (least_line zs))
least_line-three xs ys zs =
    least_line-append xs (ys ++ (zs ++ [])) ∙ ap (earlier (least_line xs)) (least_line-append ys (zs ++ []) ∙ ap (λ ns. earlier (least_line ys) (least_line ns)) (append-nil zs))

least_line-five : (vs ws xs ys zs : List ℕ) → least_line (vs ++ (ws ++ (xs ++ (ys ++ (zs ++ []))))) ≡ earlier (least_line vs) (earlier (least_line ws) (earlier (least_line xs) (earlier (least_line ys) (least_line zs))))
least_line-five vs ws xs ys zs =
    least_line-append vs (ws ++ (xs ++ (ys ++ (zs ++ []))))
    ∙ ap (earlier (least_line vs)) (least_line-append ws (xs ++ (ys ++ (zs ++ []))) ∙ ap (earlier (least_line ws)) (least_line-three xs ys zs))

-- the least refused line of a parameter
abbrev pub line_of : List Param → Bytes → (Bytes → Option ℤ) → Option ℕ
line_of es key word = least_line (lines_off_of es (parameter key word (pos 0)))

pub counter_lines : (es : List Param) → first_line_off Counter es ≡ earlier (line_of es (codes "delay") time_word) (earlier (line_of es (codes "start") value_word) (line_of es (codes "step") value_word))
counter_lines es =
    least_line-three (lines_off_of es (parameter (codes "delay") time_word (pos 0))) (lines_off_of es (parameter (codes "start") value_word (pos 0))) (lines_off_of es (parameter (codes "step") value_word (pos 0)))

pub generator_lines : (es : List Param) → first_line_off Generator es ≡ earlier (line_of es (codes "start") time_word) (earlier (line_of es (codes "period") period_word) (earlier (line_of es (codes "value") value_word) (earlier (line_of es (codes "step") value_word) (line_of es (codes "count") count_word))))
generator_lines es =
    least_line-five (lines_off_of es (parameter (codes "start") time_word (pos 0))) (lines_off_of es (parameter (codes "period") period_word (pos 0))) (lines_off_of es (parameter (codes "value") value_word (pos 0))) (lines_off_of es (parameter (codes "step") value_word (pos 0))) (lines_off_of es (parameter (codes "count") count_word (pos 0)))

pub queue_lines : (es : List Param) → first_line_off Queue es ≡ line_of es (codes "preparation") time_word
queue_lines es = ap least_line (append-nil (lines_off_of es (parameter (codes "preparation") time_word (pos 0))))

pub cpu_lines : (es : List Param) → first_line_off Cpu es ≡ line_of es (codes "delay") time_word
cpu_lines es = ap least_line (append-nil (lines_off_of es (parameter (codes "delay") time_word (pos 0))))
