-- Plain texts are ASCII, and the values of the entries of a plain section are plain.
use Rattle.std.proofs.Common.{◌≡◌, ℕ, zero, suc, ◌<◌, ◌+◌, Bool, true, false, cond, ◌&&◌, ◌||◌, ◌==◌, nat_le, Option, Some, None, List, [], ◌∷◌, length, slice_index, slice_index_or, refl, sym, ap, ◌∙◌, subst, arith, tests}
use Rattle.std.specs.List.{All, list_all, find}
use Rattle.std.specs.Str.{IsAscii, IsUtf8, bytes_eq}
use Rattle.std.proofs.lemmas.Str.{IsUtf8-from_ascii}
use Rattle.std.proofs.lemmas.Option.{none-some, same_Some}
use Rattle.quantity.specs.Bytes.{Bytes}
use Rattle.ma_lines.specs.declared.section.Entry.{Entry}
use Rattle.ma_lines.specs.Sections.{Section, is_allowed}
use Rattle.ma_lines.specs.Laws.{IsPlain, IsPlainEntry, IsPlainSection}
use Rattle.model_text.specs.Keyed.{first_entry}

allowed_ascii : (c : ℕ) → is_allowed c ≡ true → c < 128
allowed_ascii c e = grind (arith, tests)

both_true : (a b : Bool) → (a && b) ≡ true → (a ≡ true) × (b ≡ true)
both_true true b e = (refl, e)
both_true false b e = absurd (search (e, tests))

plain_ascii : (text : Bytes) → IsPlain text → IsAscii text
plain_ascii [] e i = omega arith
plain_ascii (c ∷ text) e zero = allowed_ascii c (both_true (is_allowed c) (list_all is_allowed text) e).0
plain_ascii (c ∷ text) e (suc i) = plain_ascii text (both_true (is_allowed c) (list_all is_allowed text) e).1 i

pub plain_utf8 : (text : Bytes) → IsPlain text → IsUtf8 text
plain_utf8 text e = IsUtf8-from_ascii text (plain_ascii text e)

plain_among : (key : Bytes) (es : List Entry) (e : Entry) → All IsPlainEntry es → find (λ (e : Entry). bytes_eq e.key key) es ≡ Some e → IsPlain e.value
plain_among key [] e all found = absurd (none-some e found)
plain_among key (x ∷ es) e all found = go (bytes_eq x.key key) found (λ more. plain_among key es e (λ k d h. all (suc k) d (omega (arith, h))) more)
  where
    go : (b : Bool) → cond b (Some x) (find (λ (e : Entry). bytes_eq e.key key) es) ≡ Some e
        → (find (λ (e : Entry). bytes_eq e.key key) es ≡ Some e → IsPlain e.value) → IsPlain e.value
    go true f later = subst (λ (y : Entry). IsPlain y.value) (same_Some x e f) (all 0 x (omega arith)).value
    go false f later = later f

pub found_plain : (key : Bytes) (s : Section) (e : Entry) → IsPlainSection s → first_entry key s ≡ Some e → IsPlain e.value
found_plain key s e plain found = plain_among key s.entries e plain.entries found
