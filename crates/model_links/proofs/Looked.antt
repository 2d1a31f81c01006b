-- Ends and links that are looked up among those that lend their names.
use Rattle.std.proofs.Common.{◌≡◌, Bool, true, false, List, [], ◌∷◌, map, refl, sym, ap, ◌∙◌, cond}
use Rattle.std.proofs.lemmas.List.{map_push}
use Rattle.std.specs.Prelude.{◌&&◌, ◌++◌}
use Rattle.std.specs.List.{list_any}
use Rattle.model_tree.specs.Faces.{same_end, same_link}
use Rattle.model_walk.proofs.Named.{any-map}
use Rattle.model_links.specs.declared.lent.LentEnd.{LentEnd}
use Rattle.model_links.specs.declared.lent.LentEnd.TheVariants as lent
use Rattle.model_links.specs.declared.lent.LentLink.{LentLink}
use Rattle.model_links.specs.contracts.lent.LentEndPartialEq.TheImpl as ends
use Rattle.model_links.specs.contracts.lent.LentLinkPartialEq.TheImpl as links
use Rattle.model_links.specs.Lent.{end_of, link_of_lent, with_end, with_link}

same_lent : (a b : LentEnd) → (ends.eq-value).it a b ≡ same_end (end_of a) (end_of b)
same_lent (lent.Own p) (lent.Own q) = refl
same_lent (lent.Own p) (lent.Child q d) = refl
same_lent (lent.Own p) (lent.Cell q m) = refl
same_lent (lent.Child p c) (lent.Own q) = refl
same_lent (lent.Child p c) (lent.Child q d) = refl
same_lent (lent.Child p c) (lent.Cell q m) = refl
same_lent (lent.Cell p n) (lent.Own q) = refl
same_lent (lent.Cell p n) (lent.Child q d) = refl
same_lent (lent.Cell p n) (lent.Cell q m) = refl

same_lent_link : (a b : LentLink) → (links.eq-value).it a b ≡ same_link (link_of_lent a) (link_of_lent b)
same_lent_link a b =
    λ k. same_lent a.from b.from k && same_lent a.to b.to k

pub has_lent : (a : LentEnd) (xs : List LentEnd) → list_any ((ends.eq-value).it a) xs ≡ list_any (same_end (end_of a)) (map end_of xs)
has_lent a xs = (λ k. list_any (λ b. same_lent a b k) xs) ∙ sym (any-map (same_end (end_of a)) end_of xs)

pub has_lent_link : (a : LentLink) (xs : List LentLink) → list_any ((links.eq-value).it a) xs ≡ list_any (same_link (link_of_lent a)) (map link_of_lent xs)
has_lent_link a xs = (λ k. list_any (λ b. same_lent_link a b k) xs) ∙ sym (any-map (same_link (link_of_lent a)) link_of_lent xs)

map-cond : {A B : Type 0} (f : A → B) (b c : Bool) (xs : List A) (x : A) → b ≡ c → map f (cond b xs (xs ++ x ∷ [])) ≡ cond c (map f xs) (map f xs ++ f x ∷ [])
map-cond f true c xs x e = ap (λ d. cond d (map f xs) (map f xs ++ f x ∷ [])) e
map-cond f false c xs x e = map_push f xs x ∙ ap (λ d. cond d (map f xs) (map f xs ++ f x ∷ [])) e

pub lent_added : (a : LentEnd) (xs : List LentEnd) → map end_of (cond (list_any ((ends.eq-value).it a) xs) xs (xs ++ a ∷ [])) ≡ with_end (map end_of xs) (end_of a)
lent_added a xs = map-cond end_of _ _ xs a (has_lent a xs)

pub lent_link_added : (a : LentLink) (xs : List LentLink) → map link_of_lent (cond (list_any ((links.eq-value).it a) xs) xs (xs ++ a ∷ [])) ≡ with_link (map link_of_lent xs) (link_of_lent a)
lent_link_added a xs = map-cond link_of_lent _ _ xs a (has_lent_link a xs)
