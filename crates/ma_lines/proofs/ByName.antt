-- Sections that are kept by their names.
use Rattle.std.proofs.Common.{◌≡◌, ℕ, zero, suc, ◌+◌, ◌-◌, Bool, true, false, not, ◌||◌, cond, Option, Some, None, List, [], ◌∷◌, ◌++◌, map, length, refl, ap, ◌∙◌, is_some, position, slice_get, arith, Vec, Global}
use Rattle.std.specs.List.{position_or_len}
use Rattle.std.specs.Str.{bytes_eq}
use Rattle.std.specs.Map.{lookup, keys_of, values_of}
use Rattle.indexmap.specs.IndexMap.{set_value_at}
use Rattle.quantity.specs.Bytes.{Bytes, is_among}
use Rattle.ma_lines.specs.declared.section.Entry.{Entry}
use Rattle.ma_lines.specs.declared.section.Section.{Section as CodeSection}
use Rattle.ma_lines.specs.Sections.{Section}
use Rattle.ma_lines.specs.InCode.{section_of}
use Rattle.ma_lines.specs.Reading.{names, with_entry}

abbrev pub Kept : Type 0
Kept = List (Vec ℕ Global × CodeSection)

abbrev pub shown : Kept → List Section
shown es = map (λ (e : Vec ℕ Global × CodeSection). section_of e.1) es

-- each key is the name of its section
abbrev pub IsByName : Kept → Type 0
IsByName es = map (λ (e : Vec ℕ Global × CodeSection). e.0.items) es ≡ map (λ (e : Vec ℕ Global × CodeSection). e.1.name) es

abbrev pub is_key : Bytes → Vec ℕ Global → Bool
is_key text k = bytes_eq text k.items

abbrev is_named : Bytes → Section → Bool
is_named text s = bytes_eq text s.name

place-same : (text : Bytes) (es : Kept) → IsByName es → position_or_len (is_key text) (keys_of es) ≡ position_or_len (is_named text) (shown es)
place-same text [] h = refl
place-same text (e ∷ es) h =
    let same : e.0.items ≡ e.1.name = cc in
    let rest : IsByName es = cc in
    ap (λ b. cond (not b) (1 + position_or_len (is_key text) (keys_of es)) 0) (ap (bytes_eq text) same)
    ∙ ap (λ n. cond (not (bytes_eq text e.1.name)) (1 + n) 0) (place-same text es rest)

length-keys : (es : Kept) → length (keys_of es) ≡ length (shown es)
length-keys [] = refl
length-keys (e ∷ es) = ap suc (length-keys es)

pub position-by_name : (text : Bytes) (es : Kept) → IsByName es → position (is_key text) (keys_of es) ≡ position (is_named text) (shown es)
position-by_name text es h =
    let place = place-same text es h in
    let size = length-keys es in
    cc

pub found-by_name : (text : Bytes) (es : Kept) → IsByName es → is_some (lookup (is_key text) es) ≡ is_among (names (shown es)) text
found-by_name text [] h = refl
found-by_name text (e ∷ es) h =
    let same : e.0.items ≡ e.1.name = cc in
    let rest : IsByName es = cc in
    by (bytes_eq text e.0.items) (bytes_eq text e.1.name) (ap (bytes_eq text) same) (found-by_name text es rest)
  where
    by : (b b' : Bool) → b ≡ b' → is_some (lookup (is_key text) es) ≡ is_among (names (shown es)) text
        → is_some (cond b (Some e.1) (lookup (is_key text) es)) ≡ (b' || is_among (names (shown es)) text)
    by true true p r = refl
    by true false p r = absurd cc
    by false true p r = absurd cc
    by false false p r = r

pub shown-push : (es : Kept) (k : Vec ℕ Global) (s : CodeSection) → shown (es ++ (k, s) ∷ []) ≡ shown es ++ section_of s ∷ []
shown-push [] k s = refl
shown-push (e ∷ es) k s = ap (λ ss. section_of e.1 ∷ ss) (shown-push es k s)

pub by_name-push : (es : Kept) (k : Vec ℕ Global) (s : CodeSection) → IsByName es → k.items ≡ s.name → IsByName (es ++ (k, s) ∷ [])
by_name-push [] k s h e = ap (λ n. n ∷ []) e
by_name-push (x ∷ es) k s h e =
    let rest : IsByName es = cc in
    let same : x.0.items ≡ x.1.name = cc in
    let more = by_name-push es k s rest e in
    cc

pub by_name-write : (es : Kept) (i : ℕ) (old new : CodeSection) → slice_get (values_of es) i ≡ Some old → new.name ≡ old.name → IsByName es → IsByName (set_value_at es i new)
by_name-write [] i old new at e h = refl
by_name-write (x ∷ es) zero old new at e h =
    let rest : IsByName es = cc in
    let same : x.0.items ≡ new.name = cc in
    cc
by_name-write (x ∷ es) (suc i) old new at e h =
    let rest : IsByName es = cc in
    let same : x.0.items ≡ x.1.name = cc in
    let more = by_name-write es i old new at e rest in
    cc

pub shown-write_last : (es : Kept) (i : ℕ) (old new : CodeSection) (e : Entry) → i + 1 ≡ length es → slice_get (values_of es) i ≡ Some old
    → section_of new ≡ record { line = old.line; name = old.name; entries = old.entries.items ++ e ∷ [] }
    → shown (set_value_at es i new) ≡ with_entry e (shown es)
shown-write_last [] i old new e last at is = absurd (omega arith)
shown-write_last (x ∷ []) zero old new e last at is =
    let same : old ≡ x.1 = cc in
    ap (λ s. s ∷ []) (is ∙ ap (λ (o : CodeSection). record { line = o.line; name = o.name; entries = o.entries.items ++ e ∷ [] }) same)
shown-write_last (x ∷ []) (suc i) old new e last at is = absurd (omega arith)
shown-write_last (x ∷ y ∷ es) zero old new e last at is = absurd (omega arith)
shown-write_last (x ∷ y ∷ es) (suc i) old new e last at is = ap (λ ss. section_of x.1 ∷ ss) (shown-write_last (y ∷ es) i old new e (omega arith) at is)

pub slice_get-shown : (es : Kept) (i : ℕ) (s : CodeSection) → slice_get (values_of es) i ≡ Some s → slice_get (shown es) i ≡ Some (section_of s)
slice_get-shown [] i s at = cc
slice_get-shown (x ∷ es) zero s at = let same : x.1 ≡ s = cc in ap (λ t. Some (section_of t)) same
slice_get-shown (x ∷ es) (suc i) s at = slice_get-shown es i s at

pub none_from : {A : Type 0} (o : Option A) → is_some o ≡ false → o ≡ None
none_from None e = refl
none_from (Some x) e = cc
