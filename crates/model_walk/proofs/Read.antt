-- Entries that were read, found by their keys.
use Rattle.std.proofs.Common.{◌≡◌, ℕ, ◌+◌, ◌<◌, length, get_or, take, Bool, true, false, cond, Option, Some, None, List, [], ◌∷◌, ◌++◌, map, refl, sym, ap, subst, ◌∙◌, Bor}
use Rattle.std.specs.Prelude.{IfSome}
use Rattle.std.specs.List.{find, flat_map, AllByRecursion}
use Rattle.std.specs.Option.{option_map, option_copied}
use Rattle.std.specs.Str.{bytes_eq}
use Rattle.std.proofs.lemmas.List.{append-nil, map_push, map-append, take_more}
use Rattle.std.proofs.lemmas.List.Concat.{flat_map-append}
use Rattle.std.proofs.lemmas.List.Elements.{All-from_recursion}
use Rattle.std.proofs.lemmas.Slice.Eq.{bytes_eq-Decides}
use Rattle.quantity.specs.Bytes.{Bytes}
use Rattle.ma_lines.specs.declared.section.Entry.{Entry}
use Rattle.model_text.specs.declared.key.Form.{Form}
use Rattle.ma_lines.specs.Sections.{Section}
use Rattle.model_text.specs.Keyed.{Item, items_of}
use Rattle.model_text.specs.Keys.{Key}
use Rattle.model_walk.specs.declared.read_section.ReadEntry.{ReadEntry}
use Rattle.model_walk.specs.ReadValues.{IsRead, AreRead, IsReadUnder, form_among, rows_of}
use Rattle.model_walk.specs.Shown.{items_at}
use Rattle.model_walk.proofs.Words.{items_by_entry}

-- an entry that has a key was read by the form of that key
pub read_under : (name key : Bytes) (r : ReadEntry) → IsRead name r → bytes_eq r.entry.now.key key ≡ true → IsReadUnder name key r.entry.now.value r.value
read_under name key r h e = subst (λ (k : Bytes). IsReadUnder name k r.entry.now.value r.value) ((bytes_eq-Decides r.entry.now.key key).0 e) h.value

abbrev pub found : Bytes → List ReadEntry → Option ReadEntry
found key rs = find (λ (r : ReadEntry). bytes_eq r.entry.now.key key) rs

-- the first entry of a key
pub found_entry : (key : Bytes) (rs : List ReadEntry) → option_map (λ (r : ReadEntry). r.entry.now) (found key rs) ≡ find (λ (e : Entry). bytes_eq e.key key) (map (λ (r : ReadEntry). r.entry.now) rs)
found_entry key [] = refl
found_entry key (r ∷ rs) = by (bytes_eq r.entry.now.key key) (found_entry key rs)
  where
    by : (b : Bool) → option_map (λ (r : ReadEntry). r.entry.now) (found key rs) ≡ find (λ (e : Entry). bytes_eq e.key key) (map (λ (r : ReadEntry). r.entry.now) rs)
        → option_map (λ (r : ReadEntry). r.entry.now) (cond b (Some r) (found key rs)) ≡ cond b (Some r.entry.now) (find (λ (e : Entry). bytes_eq e.key key) (map (λ (r : ReadEntry). r.entry.now) rs))
    by true e = refl
    by false e = e

pub found_read : (name key : Bytes) (rs : List ReadEntry) → AllByRecursion (IsRead name) rs → IfSome (found key rs) (λ r. IsReadUnder name key r.entry.now.value r.value)
found_read name key [] h = tt
found_read name key (r ∷ rs) h = by (bytes_eq r.entry.now.key key) refl (found_read name key rs h.1)
  where
    by : (b : Bool) → bytes_eq r.entry.now.key key ≡ b → IfSome (found key rs) (λ r. IsReadUnder name key r.entry.now.value r.value)
        → IfSome (cond b (Some r) (found key rs)) (λ r. IsReadUnder name key r.entry.now.value r.value)
    by true e k = read_under name key r h.0 e
    by false e k = k

pub copied_map : {A B : Type 0} (f : A → B) (o : Option (Bor A)) → option_map (λ (r : Bor A). f r.now) o ≡ option_map f (option_copied o)
copied_map f None = refl
copied_map f (Some r) = refl

pub copied_if : {A : Type 0} (P : A → Type 0) (o : Option (Bor A)) → IfSome (option_copied o) P → IfSome o (λ (r : Bor A). P r.now)
copied_if P None h = h
copied_if P (Some r) h = h

abbrev Row : Type 0
Row = Bor Bytes × Bool × Form

-- the form of a key in a table, as the code has it
pub form_in_rows : (keys : List Row) (word : Bytes) → option_map (λ (k : Row). k.2) (find (λ (k : Row). bytes_eq k.0.now word) keys) ≡ form_among (rows_of keys) word
form_in_rows [] word = refl
form_in_rows (k ∷ ks) word = by (bytes_eq k.0.now word) (form_in_rows ks word)
  where
    by : (b : Bool) → option_map (λ (k : Row). k.2) (find (λ (k : Row). bytes_eq k.0.now word) ks) ≡ form_among (rows_of ks) word
        → option_map (λ (k : Row). k.2) (cond b (Some k) (find (λ (k : Row). bytes_eq k.0.now word) ks))
        ≡ option_map (λ (k : Key). k.2) (cond b (Some (record { now = k.0.now }, k.1, k.2)) (find (λ (k : Key). bytes_eq k.0.now word) (rows_of ks)))
    by true e = refl
    by false e = e

-- one entry more
pub read_more : (name : Bytes) (es : List Entry) (e : Entry) (old new : List ReadEntry) (r : ReadEntry) → new ≡ old ++ r ∷ [] → r.entry.now ≡ e → IsRead name r → AreRead name es old → AreRead name (es ++ e ∷ []) new
read_more name es e old new r pushed is read h =
    let entry = λ (r : ReadEntry). r.entry.now in
    record {
      entries = ap (map entry) pushed ∙ map_push entry old r ∙ λ i. h.entries i ++ is i ∷ [];
      values = subst (AllByRecursion (IsRead name)) (sym pushed) (all old h.values);
    }
  where
    all : (rs : List ReadEntry) → AllByRecursion (IsRead name) rs → AllByRecursion (IsRead name) (rs ++ r ∷ [])
    all [] h = (read, tt)
    all (x ∷ xs) h = (h.0, all xs h.1)

-- ---- entry by entry

abbrev pub entries_at : List ReadEntry → List Entry
entries_at list = map (λ (r : ReadEntry). r.entry.now) list

pub entries_more : (list : List ReadEntry) (i : ℕ) (d : ReadEntry) → i < length list → d ≡ get_or list i d → entries_at (take (i + 1) list) ≡ entries_at (take i list) ++ d.entry.now ∷ []
entries_more list i d lt is =
    let at = λ (r : ReadEntry). r.entry.now in
    ap entries_at (take_more list i d lt) ∙ map-append at (take i list) (get_or list i d ∷ []) ∙ ap (λ r. entries_at (take i list) ++ at r ∷ []) (sym is)

-- all are read, and so is the one that a loop has reached
pub is_read : (name : Bytes) (list : List ReadEntry) (i : ℕ) (d : ReadEntry) → i < length list → d ≡ get_or list i d → AllByRecursion (IsRead name) list → IsRead name d
is_read name list i d lt is h = subst (IsRead name) (sym is) (All-from_recursion (IsRead name) list h i d lt)

-- the items of one entry more
pub items_more : (key : Bytes) (list : List ReadEntry) (i : ℕ) (d : ReadEntry) (old new : List Item) → i < length list → d ≡ get_or list i d
    → old ≡ flat_map (items_at key) (entries_at (take i list)) → new ≡ old ++ items_at key d.entry.now → new ≡ flat_map (items_at key) (entries_at (take (i + 1) list))
items_more key list i d old new lt is o n =
    let here = items_at key d.entry.now in
    let before = flat_map (items_at key) (entries_at (take i list)) in
    n ∙ ap (λ ws. ws ++ here) o ∙ ap (λ ws. before ++ ws) (sym (append-nil here)) ∙ sym (flat_map-append (items_at key) (entries_at (take i list)) (d.entry.now ∷ []))
    ∙ ap (flat_map (items_at key)) (sym (entries_more list i d lt is))

-- the items of all entries are those of the key
pub items_are : (key : Bytes) (s : Section) (list : List ReadEntry) → entries_at list ≡ s.entries → flat_map (items_at key) (entries_at list) ≡ items_of key s
items_are key s list e = ap (flat_map (items_at key)) e ∙ sym (items_by_entry key s.entries)
