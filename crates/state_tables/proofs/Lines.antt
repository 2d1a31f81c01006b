-- The least of several lines.
use Rattle.std.proofs.Common.{◌≡◌, ℕ, min, Option, Some, None, List, [], ◌∷◌, ◌++◌, unwrap_or, refl, sym, ap, ◌∙◌, arith}
use Rattle.std.specs.Option.{option_map, option_to_list}
use Rattle.atomic_face.specs.Settings.{least_line}
use Rattle.quantity.specs.Times.{earlier}

least_of_assoc : (a b c : Option ℕ) → earlier (earlier a b) c ≡ earlier a (earlier b c)
least_of_assoc None b c = refl
least_of_assoc (Some a) None c = refl
least_of_assoc (Some a) (Some b) None = refl
least_of_assoc (Some a) (Some b) (Some c) = ap (λ n. Some n) (omega arith)

least_line-cons : (n : ℕ) (ns : List ℕ) → least_line (n ∷ ns) ≡ earlier (Some n) (least_line ns)
least_line-cons n ns = go (least_line ns)
  where
    go : (o : Option ℕ) → Some (unwrap_or (option_map (min n) o) n) ≡ earlier (Some n) o
    go None = refl
    go (Some m) = refl

pub least_line-append : (xs ys : List ℕ) → least_line (xs ++ ys) ≡ earlier (least_line xs) (least_line ys)
least_line-append [] ys = refl
least_line-append (x ∷ xs) ys =
    least_line-cons x (xs ++ ys) ∙ ap (earlier (Some x)) (least_line-append xs ys)
    ∙ sym (least_of_assoc (Some x) (least_line xs) (least_line ys)) ∙ ap (λ o. earlier o (least_line ys)) (sym (least_line-cons x xs))

least_line-one : (o : Option ℕ) → least_line (option_to_list o) ≡ o
least_line-one None = refl
least_line-one (Some n) = refl

pub least_of-none : (o : Option ℕ) → earlier o None ≡ o
least_of-none None = refl
least_of-none (Some n) = refl

-- the lines of one more parameter are read
pub line_step : (first now : Option ℕ) (here rest : List ℕ) (x : Option ℕ) → option_to_list now ≡ here → earlier first (least_line (here ++ rest)) ≡ x → earlier (earlier first now) (least_line rest) ≡ x
line_step first now here rest x e f =
    least_of_assoc first now (least_line rest)
    ∙ ap (earlier first) (ap (λ o. earlier o (least_line rest)) (sym (least_line-one now) ∙ ap least_line e) ∙ sym (least_line-append here rest))
    ∙ f

pub four_lines : (ws xs ys zs : List ℕ) → least_line (ws ++ xs ++ ys ++ zs) ≡ earlier (earlier (earlier (least_line ws) (least_line xs)) (least_line ys)) (least_line zs)
four_lines ws xs ys zs =
    least_line-append (ws ++ xs ++ ys) zs
    ∙ ap (λ o. earlier o (least_line zs)) (least_line-append (ws ++ xs) ys ∙ ap (λ o. earlier o (least_line ys)) (least_line-append ws xs))
