-- What is asked of a drawing, one option after another.
use Rattle.std.proofs.Common.{◌≡◌, ℕ, Option, Some, None, List, [], ◌∷◌, refl, ap, ◌∙◌, map, length, get_or, arith}
use Rattle.std.specs.Borrow.{Bor}
use Rattle.cell_grid.specs.Space.{Space}
use Rattle.cell_grid.specs.declared.grid.Border.TheVariants.{NoWrapped}
use Rattle.model_tree.specs.Tree.{Word}
use Rattle.quantity.specs.Written.{for_some}
use Rattle.answer_model.specs.Options.{Draft, number_within}
use Rattle.answer_model.specs.Asked.{group_in}
use Rattle.answer_model.specs.AskedDrawing.{drawing_in_draft, space_in, space_if, space_of_words}
use Rattle.asked_words.specs.Spaces.{drawing_with, space_sized}

-- the last of three may be looked at first
last_first : {A B C D : Type 0} (a : Option A) (b : Option B) (c : Option C) (f : A → B → C → Option D)
    → for_some c (λ z. for_some a (λ x. for_some b (λ y. f x y z))) ≡ for_some a (λ x. for_some b (λ y. for_some c (λ z. f x y z)))
last_first None b None f = refl
last_first None b (Some z) f = refl
last_first (Some x) None None f = refl
last_first (Some x) None (Some z) f = refl
last_first (Some x) (Some y) None f = refl
last_first (Some x) (Some y) (Some z) f = refl

-- ---- the space

of_two : (r c : Word) → space_sized r c None ≡ space_of_words (r ∷ c ∷ [])
unfolding space_sized
of_two r c = refl

of_three : (r c p : Word) → for_some (number_within 1 9999999 p) (λ planes. space_sized r c (Some planes)) ≡ space_of_words (r ∷ c ∷ p ∷ [])
unfolding space_sized
of_three r c p =
    last_first (number_within 1 9999999 r) (number_within 1 9999999 c) (number_within 1 9999999 p)
    (λ r c p. space_if (record { rows = r; columns = c; planes = Some p; border = NoWrapped }))

pub two_parts : (ps : List (Bor Word)) (d e : Bor Word) → length ps ≡ 2 → space_sized (get_or ps 0 d).now (get_or ps 1 e).now None ≡ space_of_words (map (λ p. p.now) ps)
two_parts [] d e n = absurd (omega arith)
two_parts (r ∷ []) d e n = absurd (omega arith)
two_parts (r ∷ c ∷ []) d e n = of_two r.now c.now
two_parts (r ∷ c ∷ p ∷ ps) d e n = absurd (omega arith)

pub three_parts : (ps : List (Bor Word)) (d e f : Bor Word) (planes : ℕ) → length ps ≡ 3 → Some planes ≡ number_within 1 9999999 (get_or ps 2 f).now → space_sized (get_or ps 0 d).now (get_or ps 1 e).now (Some planes) ≡ space_of_words (map (λ p. p.now) ps)
three_parts [] d e f planes n is = absurd (omega arith)
three_parts (r ∷ []) d e f planes n is = absurd (omega arith)
three_parts (r ∷ c ∷ []) d e f planes n is = absurd (omega arith)
three_parts (r ∷ c ∷ p ∷ []) d e f planes n is = ap (λ o. for_some o (λ x. space_sized r.now c.now (Some x))) is ∙ of_three r.now c.now p.now
three_parts (r ∷ c ∷ p ∷ q ∷ ps) d e f planes n is = absurd (omega arith)

-- ---- the drawing

pub no_log : (d : Draft) → d.log ≡ None → drawing_in_draft d ≡ None
no_log d h = ap (λ o. for_some o (λ log. for_some (for_some d.group group_in) (λ group. for_some (for_some d.space space_in) (λ space. drawing_with log group space d)))) h

pub no_group : (d : Draft) (l : Word) → d.log ≡ Some l → for_some d.group group_in ≡ None → drawing_in_draft d ≡ None
no_group d l hl h =
    ap (λ o. for_some o (λ log. for_some (for_some d.group group_in) (λ group. for_some (for_some d.space space_in) (λ space. drawing_with log group space d)))) hl
    ∙ ap (λ o. for_some o (λ group. for_some (for_some d.space space_in) (λ space. drawing_with l group space d))) h

pub no_space : (d : Draft) (l g : Word) → d.log ≡ Some l → for_some d.group group_in ≡ Some g → for_some d.space space_in ≡ None → drawing_in_draft d ≡ None
no_space d l g hl hg h =
    ap (λ o. for_some o (λ log. for_some (for_some d.group group_in) (λ group. for_some (for_some d.space space_in) (λ space. drawing_with log group space d)))) hl
    ∙ ap (λ o. for_some o (λ group. for_some (for_some d.space space_in) (λ space. drawing_with l group space d))) hg
    ∙ ap (λ o. for_some o (λ space. drawing_with l g space d)) h

pub all_there : (d : Draft) (l g : Word) (s : Space) → d.log ≡ Some l → for_some d.group group_in ≡ Some g → for_some d.space space_in ≡ Some s → drawing_in_draft d ≡ drawing_with l g s d
all_there d l g s hl hg h =
    ap (λ o. for_some o (λ log. for_some (for_some d.group group_in) (λ group. for_some (for_some d.space space_in) (λ space. drawing_with log group space d)))) hl
    ∙ ap (λ o. for_some o (λ group. for_some (for_some d.space space_in) (λ space. drawing_with l group space d))) hg
    ∙ ap (λ o. for_some o (λ space. drawing_with l g space d)) h
