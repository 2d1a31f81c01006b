-- The made files are those whose names were created.
use Rattle.std.proofs.Common.{◌≡◌, ℕ, List, [], ◌∷◌, ◌++◌, Bool, true, false, Option, Some, None, Result, Ok, Err, refl, sym, ◌∙◌, ap, IsTrue, Contains}
use Rattle.std.specs.Prelude.{if◌then◌else◌, is_some, OnOk, OnErr, ◌||◌, ◌↔◌}
use Rattle.std.specs.Option.{option_map}
use Rattle.std.specs.Str.{bytes_eq}
use Rattle.std.specs.List.{list_any}
use Rattle.std.specs.Cmp.{IsEquivalence}
use Rattle.std.proofs.lemmas.Slice.Eq.{bytes_eq-Decides}
use Rattle.std.proofs.lemmas.List.Folds.{list_any-append}
use Rattle.std.proofs.lemmas.Map.Views.{list_any-from_Contains, Contains-from_any}
use Rattle.room_edge.specs.Outside.{Files, with_file}
use Rattle.room_edge.specs.Only.{with_more}
use Rattle.room_edge.specs.Folder.{Lists}

pub lists-nothing : (g : Files) → g ≡ (λ _. None) → Lists g []
lists-nothing g is q = ap (λ (h : Files). is_some (h q)) is

pub lists-same : (f g : Files) (names more : List (List ℕ)) → g ≡ f → more ≡ names → Lists f names → Lists g more
lists-same f g names more is same before q = ap (λ (h : Files). is_some (h q)) is ∙ before q ∙ ap (list_any (λ n. bytes_eq n q)) (sym same)

pub lists-file : (f g : Files) (names more : List (List ℕ)) (name bytes : List ℕ) → g ≡ with_file name bytes f → more ≡ names ++ name ∷ [] → Lists f names → Lists g more
lists-file f g names more name bytes is pushed before q =
    ap (λ (h : Files). is_some (h q)) is
    ∙ at (bytes_eq name q) (f q) (list_any (λ n. bytes_eq n q) names) (before q)
    ∙ sym (list_any-append (λ n. bytes_eq n q) names (name ∷ []))
    ∙ ap (list_any (λ n. bytes_eq n q)) (sym pushed)
  where
    at : (hit : Bool) (o : Option (List ℕ)) (b : Bool) → is_some o ≡ b → is_some (if hit then Some bytes else o) ≡ (b || (hit || false))
    at true o true h = refl
    at true o false h = refl
    at false o true h = h
    at false o false h = h

pub lists-more : (f g : Files) (names : List (List ℕ)) (name bytes : List ℕ) → g ≡ with_more name bytes f → Lists f names → Lists g names
lists-more f g names name bytes is before q = ap (λ (h : Files). is_some (h q)) is ∙ at (bytes_eq name q) (f q) ∙ before q
  where
    at : (hit : Bool) (o : Option (List ℕ)) → is_some (if hit then option_map (λ old. old ++ bytes) o else o) ≡ is_some o
    at true None = refl
    at true (Some _) = refl
    at false o = refl

-- the same of a call that may have failed
pub lists-grown : {T E : Type 0} (r : Result T E) (f g : Files) (names : List (List ℕ)) (name bytes : List ℕ) → OnOk r (g ≡ with_more name bytes f) → OnErr r (g ≡ f) → Lists f names → Lists g names
lists-grown (Ok _) f g names name bytes is same before = lists-more f g names name bytes is before
lists-grown (Err _) f g names name bytes is same before = lists-same f g names names same refl before

-- two tests of the same fact
same_answer : (a b : Bool) → (a ≡ true → b ≡ true) → (b ≡ true → a ≡ true) → a ≡ b
same_answer true b f g = sym (f refl)
same_answer false true f g = g refl
same_answer false false f g = refl

equal : (x y : List ℕ) → bytes_eq x y ≡ true → x ≡ y
equal x y = (bytes_eq-Decides x y).0

found : (x y : List ℕ) → x ≡ y → bytes_eq x y ≡ true
found x y = (bytes_eq-Decides x y).1

flipped-equivalence : IsEquivalence (λ (x y : List ℕ). bytes_eq y x)
flipped-equivalence = record {
  refl = λ x. found x x refl;
  symm = λ x y. same_answer (bytes_eq y x) (bytes_eq x y) (λ e. found x y (sym (equal y x e))) (λ e. found y x (sym (equal x y e)));
  congr = λ x y z e. same_answer (bytes_eq z x) (bytes_eq z y) (λ h. found z y (equal z x h ∙ sym (equal y x e))) (λ h. found z x (equal z y h ∙ equal y x e));
}

pub listed-true : (names : List (List ℕ)) (q : List ℕ) → list_any (λ n. bytes_eq n q) names ≡ true → Contains names q
listed-true names q = Contains-from_any {eq = λ (x y : List ℕ). bytes_eq y x} (λ x y e. sym (equal y x e)) q names

pub listed-of : (names : List (List ℕ)) (q : List ℕ) → Contains names q → list_any (λ n. bytes_eq n q) names ≡ true
listed-of names q = list_any-from_Contains {eq = λ (x y : List ℕ). bytes_eq y x} flipped-equivalence q names

pub some_listed : (f : Files) (names : List (List ℕ)) (q : List ℕ) (b : Bool) → is_some (f q) ≡ b → Lists f names → IsTrue b ↔ Contains names q
some_listed f names q b is lists = (λ h. listed-true names q (sym (lists q) ∙ is ∙ h), λ h. sym is ∙ lists q ∙ listed-of names q h)
