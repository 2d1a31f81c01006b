-- Parameters, one by one.
use Rattle.std.proofs.Common.{◌≡◌, ℕ, suc, ◌+◌, ◌<◌, Bool, true, false, cond, Some, None, List, [], ◌∷◌, length, get_or, take, drop, sym, ap, ◌∙◌, arith}
use Rattle.std.specs.Prelude.{codes, map}
use Rattle.std.proofs.lemmas.List.{drop_more}
use Rattle.std.specs.Bool.{then_some}
use Rattle.std.specs.List.{filter, find}
use Rattle.std.specs.Option.{option_map}
use Rattle.std.specs.Str.{bytes_eq}
use Rattle.quantity.specs.Bytes.{words}
use Rattle.atomic_face.specs.declared.class.Class.TheVariants.{Table}
use Rattle.atomic_face.specs.declared.params.Param.{Param}
use Rattle.atomic_face.specs.Settings.{first_line_off, least_line}
use Rattle.atomic_face.specs.TableSettings.{are_states, lines_off_with, states_in, states_of}

pub drop_at : {A : Type 0} (xs : List A) (i : ℕ) (x : A) → i < length xs → x ≡ get_or xs i x → drop i xs ≡ x ∷ drop (i + 1) xs
drop_at xs i x lt is = drop_more xs i x lt ∙ ap (λ y. y ∷ drop (i + 1) xs) (sym is)

-- ---- one too many

pub one_less : {A : Type 0} (test : A → Bool) (xs rest : List A) (x : A) (left fewer : ℕ) (ys : List A) → xs ≡ x ∷ rest → test x ≡ true → left ≡ fewer + 1 → drop left (filter test xs) ≡ ys → drop fewer (filter test rest) ≡ ys
one_less test xs rest x left fewer ys e t n f =
    let more : left ≡ suc fewer = omega arith in
    sym (ap (λ b. drop (suc fewer) (cond b (x ∷ filter test rest) (filter test rest))) t) ∙ sym (ap (λ k. drop k (filter test (x ∷ rest))) more) ∙ sym (ap (λ zs. drop left (filter test zs)) e) ∙ f

pub as_many : {A : Type 0} (test : A → Bool) (xs rest : List A) (x : A) (left : ℕ) (ys : List A) → xs ≡ x ∷ rest → test x ≡ false → drop left (filter test xs) ≡ ys → drop left (filter test rest) ≡ ys
as_many test xs rest x left ys e t f =
    sym (ap (λ b. drop left (cond b (x ∷ filter test rest) (filter test rest))) t) ∙ sym (ap (λ zs. drop left (filter test zs)) e) ∙ f

-- ---- states that are off their form

none_some : {A : Type 0} {x : A} → None ≡ Some x → ⊥
none_some e = cc

kept_first : (e x : Param) (test : Param → Bool) (xs : List Param) (b : Bool) → (Some e ≡ find test xs → take 1 (filter test xs) ≡ e ∷ []) → Some e ≡ cond b (Some x) (find test xs) → take 1 (cond b (x ∷ filter test xs) (filter test xs)) ≡ e ∷ []
kept_first e x test xs true rest f = let same : x ≡ e = cc in ap (λ y. y ∷ []) same
kept_first e x test xs false rest f = rest f

first_kept : (test : Param → Bool) (es : List Param) (e : Param) → Some e ≡ find test es → take 1 (filter test es) ≡ e ∷ []
first_kept test [] e f = absurd (none_some (sym f))
first_kept test (x ∷ xs) e f = kept_first e x test xs (test x) (first_kept test xs e) f

pub states_off : (es : List Param) (e : Param) → Some e ≡ find (λ (e : Param). bytes_eq e.key (codes "states")) es → are_states (words e.value) ≡ false → first_line_off Table es ≡ Some e.line
states_off es e f off =
    let none : states_of es ≡ None = ap (λ o. states_in (option_map (λ (e : Param). e.value) o)) (sym f) ∙ ap (λ b. then_some b (words e.value)) off in
    ap (λ o. least_line (lines_off_with o es)) none
    ∙ ap (λ ps. least_line (map (λ (p : Param). p.line) ps)) (first_kept (λ (e : Param). bytes_eq e.key (codes "states")) es e f)
