-- Parts that are added one after another, with what is refused of them.
use Rattle.std.proofs.Common.{◌≡◌, ℕ, ◌+◌, ◌<◌, Option, List, [], ◌∷◌, ◌++◌, map, length, get_or, take, drop, option_to_list, refl, sym, ap, subst, ◌∙◌, Bor, slice_get}
use Rattle.std.proofs.lemmas.List.{take_more, append_assoc, map-append, map_more}
use Rattle.std.proofs.lemmas.List.Concat.{flat_map-append}
use Rattle.std.proofs.lemmas.List.Elements.{filter_map-append}
use Rattle.std.specs.List.{flat_map}
use Rattle.quantity.specs.Bytes.{Bytes}
use Rattle.source_text.specs.Shown.{texts}
use Rattle.ma_lines.specs.Sections.{Section}
use Rattle.model_text.specs.Refusals.{Refusal}
use Rattle.model_text.specs.Keyed.{least_refusal, section_named}
use Rattle.model_text.specs.Rules.{sections_named}
use Rattle.model_walk.specs.Least.{earlier_refusal}
use Rattle.model_walk.proofs.Orders.{least_step}
use Rattle.model_rules.specs.Parts.{Adds}

-- what two parts refuse
pub refused_both : {A : Type 0} (f : A → List Refusal) (xs ys : List A) (first now next : Option Refusal) → now ≡ earlier_refusal first (least_refusal (flat_map f xs)) → next ≡ earlier_refusal now (least_refusal (flat_map f ys))
    → next ≡ earlier_refusal first (least_refusal (flat_map f (xs ++ ys)))
refused_both f xs ys first now next a b =
    b ∙ ap (λ o. earlier_refusal o (least_refusal (flat_map f ys))) a
    ∙ least_step first (least_refusal (flat_map f xs)) (flat_map f xs) (flat_map f ys) (earlier_refusal first (least_refusal (flat_map f xs ++ flat_map f ys))) refl refl
    ∙ ap (λ rs. earlier_refusal first (least_refusal rs)) (sym (flat_map-append f xs ys))

-- one part more
pub adds_more : {X A B : Type 0} (f : A → List Refusal) (F : List A → List B) (P : List X → List A) → ((xs ys : List A) → F (xs ++ ys) ≡ F xs ++ F ys) → ((xs ys : List X) → P (xs ++ ys) ≡ P xs ++ P ys)
    → (xs : List X) (i : ℕ) (d : X) → i < length xs → {first now next : Option Refusal} {old mid new : List B}
    → Adds f F (P (get_or xs i d ∷ [])) now next mid new → Adds f F (P (take i xs)) first now old mid → Adds f F (P (take (i + 1) xs)) first next old new
adds_more {X} {A} {B} f F P joins parts xs i d lt {first} {now} {next} {old} {mid} {new} here before =
    let cut = ap P (take_more xs i d lt) ∙ parts (take i xs) (get_or xs i d ∷ []) in
    let front = P (take i xs) in
    let one = P (get_or xs i d ∷ []) in
    let both : Adds f F (front ++ one) first next old new = record {
      refused = refused_both f front one first now next before.refused here.refused;
      items = here.items ∙ ap (λ us. us ++ F one) before.items ∙ append_assoc old (F front) (F one) ∙ ap (λ us. old ++ us) (sym (joins front one));
    } in
    subst (λ (us : List A). Adds f F us first next old new) (sym cut) both

pub sections_joined : (ss : List Section) (xs ys : List (Bor Bytes)) → sections_named ss (texts (xs ++ ys)) ≡ sections_named ss (texts xs) ++ sections_named ss (texts ys)
sections_joined ss xs ys = ap (sections_named ss) (map-append (λ (r : Bor Bytes). r.now) xs ys) ∙ filter_map-append (section_named ss) (texts xs) (texts ys)

pub mapped_step : {A B : Type 0} (f : A → B) (xs : List A) (i : ℕ) (d : A) (old new : List B) (y : B) → i < length xs → new ≡ old ++ y ∷ [] → y ≡ f (get_or xs i d) → old ≡ map f (take i xs) → new ≡ map f (take (i + 1) xs)
mapped_step f xs i d old new y lt a e h = a ∙ (λ k. h k ++ e k ∷ []) ∙ sym (map_more f xs i d lt)

-- the first past so many
pub first_past : {A : Type 0} (n : ℕ) (xs : List A) → take 1 (drop n xs) ≡ option_to_list (slice_get xs n)
first_past ℕ.zero [] = refl
first_past ℕ.zero (x ∷ xs) = refl
first_past (ℕ.suc n) [] = refl
first_past (ℕ.suc n) (x ∷ xs) = first_past n xs
