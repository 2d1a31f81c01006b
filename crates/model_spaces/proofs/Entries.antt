-- What is read of entries, and of one more.
use Rattle.std.proofs.Common.{◌≡◌, ℕ, Bool, true, false, not, ◌||◌, cond, Option, Some, None, List, [], ◌∷◌, ◌++◌, map, refl, sym, ap, ◌∙◌, codes, append-nil, append_assoc, arith}
use Rattle.std.specs.Prelude.{◌&&◌, ℤ}
use Rattle.std.specs.List.{filter, filter_map, flat_map, fold, list_all, list_any}
use Rattle.std.specs.Option.{is_some, option_map, unwrap_or}
use Rattle.std.specs.Str.{bytes_eq}
use Rattle.std.proofs.Math.Bool.{or-false}
use Rattle.std.proofs.lemmas.Bool.{and_parts, or_right}
use Rattle.std.proofs.lemmas.Bool.Decides.{nat_tests}
use Rattle.std.proofs.lemmas.List.{map-append}
use Rattle.std.proofs.lemmas.List.Concat.{flat_map-append}
use Rattle.std.proofs.lemmas.List.Elements.{filter-append, filter_map-append}
use Rattle.std.proofs.lemmas.List.Folds.{list_any-append}
use Rattle.std.proofs.lemmas.List.Sums.{fold-append}
use Rattle.std.proofs.lemmas.Slice.Eq.{bytes_eq-Decides}
use Rattle.quantity.specs.Bytes.{Bytes}
use Rattle.source_text.specs.declared.tuple.NamedTuple as kept
use Rattle.source_text.specs.Shown.{numbers_of, named_of}
use Rattle.source_text.specs.Tuples.{NamedTuple}
use Rattle.cell_grid.specs.Initial.{uniform_values, with_row}
use Rattle.cell_grid.specs.Places.{is_offset}
use Rattle.cell_grid.specs.Space.{Space}
use Rattle.cell_grid.specs.ZoneTexts.{zone_in}
use Rattle.rule_tree.specs.Scope.{offset_of}
use Rattle.ma_lines.specs.declared.section.Entry.{Entry}
use Rattle.ma_lines.specs.Sections.{Section}
use Rattle.model_text.specs.declared.kind.Kind.{Kind}
use Rattle.model_text.specs.declared.kind.Kind.TheVariants.{BadValue, BadZone, BadInitial}
use Rattle.model_text.specs.Refusals.{Refusal}
use Rattle.model_text.specs.Forms.{tuples_of}
use Rattle.model_text.specs.Keyed.{least_refusal, at_entry}
use Rattle.model_text.specs.Rules.{zone_item, port_item}
use Rattle.model_text.specs.Spaces.{space_of, places_of, row_in, PortPlace, port_place, same_cell, same_place, is_new_place, ports_refused}
use Rattle.model_text.specs.Trees.{initial_value_of}
use Rattle.model_walk.specs.Least.{earlier_refusal}
use Rattle.model_walk.specs.Shown.{item_of}
use Rattle.model_walk.proofs.Orders.{least_of_both}
use Rattle.model_spaces.specs.declared.parts.Parts.{Parts}
use Rattle.model_spaces.specs.declared.ports.CellPort.{CellPort}
use Rattle.model_spaces.specs.Gathered.{offsets_with, offsets_with_all, offsets_among, offsets_in}
use Rattle.model_spaces.specs.Laid.{with_entries}
use Rattle.model_spaces.specs.Ported.{port_shown, is_seen, is_unseen, AreSeen, port_entries, places_among, items_among, refused_after}
use Rattle.model_spaces.specs.Right.{AreParts, AddsEntry}
use Rattle.model_spaces.specs.Tested.{refused_among, are_offsets, neighbors_refused, digits_refused, values_refused}
use Rattle.model_spaces.specs.Zoned.{zones_among, names_among}

-- ---- lists

pub both_empty : {A : Type 0} (xs ys : List A) → xs ++ ys ≡ [] → (xs ≡ []) × (ys ≡ [])
both_empty [] ys e = (refl, e)
both_empty (x ∷ xs) ys e = absurd cc

-- what is gathered of some elements, and of those behind them
pub gathered_more : {A B : Type 0} (f : List A → List B) (xs ys : List A) (old new : List B) → f (xs ++ ys) ≡ f xs ++ f ys → old ≡ f xs → new ≡ old ++ f ys → new ≡ f (xs ++ ys)
gathered_more f xs ys old new both o n = n ∙ ap (λ zs. zs ++ f ys) o ∙ sym both

-- the least refusal of some elements, and of those behind them
pub least_more : (xs ys all : List Refusal) (old new : Option Refusal) → all ≡ xs ++ ys → old ≡ least_refusal xs → new ≡ earlier_refusal old (least_refusal ys) → new ≡ least_refusal all
least_more xs ys all old new both o n = n ∙ ap (λ r. earlier_refusal r (least_refusal ys)) o ∙ sym (least_of_both xs ys) ∙ ap least_refusal (sym both)

-- ---- entries with a key

among-append : {B : Type 0} (key : Bytes) (f : Entry → Option B) (xs ys : List Entry) → (let g = λ (es : List Entry). filter_map f (filter (λ (e : Entry). bytes_eq e.key key) es) in g (xs ++ ys) ≡ g xs ++ g ys)
among-append key f xs ys =
    let keyed = λ (e : Entry). bytes_eq e.key key in
    ap (filter_map f) (filter-append keyed xs ys) ∙ filter_map-append f (filter keyed xs) (filter keyed ys)

refused-append : (key : Bytes) (kind : Kind) (r : Entry → Bool) (xs ys : List Entry) → refused_among key kind r (xs ++ ys) ≡ refused_among key kind r xs ++ refused_among key kind r ys
refused-append key kind r xs ys =
    let keyed = λ (e : Entry). bytes_eq e.key key in
    let at = λ (e : Entry). at_entry e kind (r e) in
    ap (flat_map at) (filter-append keyed xs ys) ∙ flat_map-append at (filter keyed xs) (filter keyed ys)

-- ---- offsets

abbrev pub numbers_at : kept.NamedTuple → List ℤ
numbers_at t = numbers_of t.place

places-map : (ts : List kept.NamedTuple) → map (λ (t : NamedTuple). t.place) (map named_of ts) ≡ map numbers_at ts
places-map [] = refl
places-map (t ∷ ts) = ap (λ ps. numbers_at t ∷ ps) (places-map ts)

-- the places of an entry are those of the tuples that are read
pub places_read : (s : Section) (e : Entry) (ts : List kept.NamedTuple) → Some (map named_of ts) ≡ tuples_of s.name e.value → map numbers_at ts ≡ places_of s e
places_read s e ts h = sym (places-map ts) ∙ ap (λ o. map (λ (t : NamedTuple). t.place) (unwrap_or o [])) h

-- the offsets among the places of an entry that has the key, and what is refused of them
pub offsets_here : (s : Section) (e : Entry) (space : Space) (ps : List (List ℤ)) → bytes_eq e.key (codes "neighbors") ≡ true → space ≡ space_of s → ps ≡ places_of s e
    → (offsets_among space ps ≡ offsets_in s (e ∷ [])) × (at_entry e BadValue (list_all (is_offset space) ps) ≡ neighbors_refused s (e ∷ []))
offsets_here s e space ps k sp h = (
  (λ i. offsets_among (sp i) (h i)) ∙ ap (offsets_among (space_of s)) (sym (append-nil (places_of s e)))
      ∙ ap (λ b. offsets_among (space_of s) (flat_map (places_of s) (cond b (e ∷ []) []))) (sym k),
  (λ i. at_entry e BadValue (list_all (is_offset (sp i)) (h i))) ∙ sym (append-nil (at_entry e BadValue (are_offsets s e)))
      ∙ ap (λ b. flat_map (λ (e : Entry). at_entry e BadValue (are_offsets s e)) (cond b (e ∷ []) [])) (sym k),
)

in-append : (s : Section) (xs ys : List Entry) → offsets_in s (xs ++ ys) ≡ offsets_in s xs ++ offsets_in s ys
in-append s xs ys =
    let keyed = λ (e : Entry). bytes_eq e.key (codes "neighbors") in
    let near = is_offset (space_of s) in
    let ps = flat_map (places_of s) (filter keyed xs) in
    let qs = flat_map (places_of s) (filter keyed ys) in
    ap (λ es. offsets_among (space_of s) (flat_map (places_of s) es)) (filter-append keyed xs ys)
    ∙ ap (offsets_among (space_of s)) (flat_map-append (places_of s) (filter keyed xs) (filter keyed ys))
    ∙ ap (map offset_of) (filter-append near ps qs) ∙ map-append offset_of (filter near ps) (filter near qs)

-- ---- ports that are seen

cell_same : (a b : Option ℕ) → same_cell a b ≡ true → a ≡ b
cell_same None b e = absurd cc
cell_same (Some n) None e = absurd cc
cell_same (Some n) (Some m) e =
    let same : n ≡ m = grind (arith, nat_tests) in
    ap (λ k. Some k) same

seen_alike : (seen : List CellPort) (q p : PortPlace) → same_place q p ≡ true → is_seen seen q ≡ is_seen seen p
seen_alike seen q p e =
    let both = and_parts (bytes_eq q.port p.port) (same_cell q.cell p.cell) e in
    let port = (bytes_eq-Decides q.port p.port).0 both.0 in
    let cell = cell_same q.cell p.cell both.1 in
    λ i. list_any (λ (k : CellPort). bytes_eq (port i) k.port.now && same_cell (cell i) (Some k.cell)) seen

-- one more is seen, and is put in unless it was
pub one_seen : (seen : List CellPort) (k : CellPort) (q : PortPlace) → is_seen (cond (is_seen seen (port_shown k)) seen (seen ++ k ∷ [])) q ≡ (is_seen seen q || (same_place q (port_shown k) || false))
one_seen seen k q = by (is_seen seen (port_shown k)) (same_place q (port_shown k)) refl refl
  where
    by : (b v : Bool) → is_seen seen (port_shown k) ≡ b → same_place q (port_shown k) ≡ v → is_seen (cond b seen (seen ++ k ∷ [])) q ≡ (is_seen seen q || (v || false))
    by true true e f = seen_alike seen q (port_shown k) f ∙ e ∙ sym (or_right (is_seen seen q) true refl)
    by true false e f = sym (or-false (is_seen seen q))
    by false v e f = list_any-append (λ x. same_place q (port_shown x)) seen (k ∷ []) ∙ ap (λ w. is_seen seen q || (w || false)) f

-- ---- ports that are refused

unseen_new : (seen : List CellPort) (before : List PortPlace) → AreSeen seen before → (o : Option PortPlace) → is_unseen seen o ≡ is_new_place before o
unseen_new seen before are None = refl
unseen_new seen before are (Some p) = ap (λ v. is_some p.cell && not v) (are p)

ports-append : (s : Section) (before : List PortPlace) (xs ys : List Entry) → ports_refused s before (xs ++ ys) ≡ ports_refused s before xs ++ ports_refused s (before ++ filter_map (port_place s) xs) ys
ports-append s before [] ys = ap (λ ps. ports_refused s ps ys) (sym (append-nil before))
ports-append s before (x ∷ xs) ys =
    let here = at_entry x BadValue (is_new_place before (port_place s x)) in
    let more = filter_map (port_place s) (x ∷ []) in
    ap (λ rs. here ++ rs)
    (ports-append s (before ++ more) xs ys
    ∙ ap (λ ps. ports_refused s (before ++ more) xs ++ ports_refused s ps ys) (append_assoc before more _ ∙ ap (λ ps. before ++ ps) (sym (filter_map-append (port_place s) (x ∷ []) xs))))
    ∙ sym (append_assoc here _ _)

-- one entry more is refused where its port was seen, or is none
ports_more : (s : Section) (es : List Entry) (e : Entry) (seen : List CellPort) → AreSeen seen (places_among s es)
    → ports_refused s [] (port_entries (es ++ e ∷ [])) ≡ ports_refused s [] (port_entries es) ++ refused_after s seen e
ports_more s es e seen are =
    ap (ports_refused s []) (filter-append (λ (e : Entry). bytes_eq e.key (codes "portintransition")) es (e ∷ [])) ∙ ports-append s [] (port_entries es) (port_entries (e ∷ []))
    ∙ ap (λ rs. ports_refused s [] (port_entries es) ++ rs) (by (bytes_eq e.key (codes "portintransition")))
  where
    by : (b : Bool) → ports_refused s (places_among s es) (cond b (e ∷ []) []) ≡ flat_map (λ (e : Entry). at_entry e BadValue (is_unseen seen (port_place s e))) (cond b (e ∷ []) [])
    by true = ap (λ v. at_entry e BadValue v ++ []) (sym (unseen_new seen (places_among s es) are (port_place s e)))
    by false = refl

-- ---- one entry more

pub entry_more : (s : Section) (es : List Entry) (e : Entry) (old new : Parts) → AreParts s es old → AddsEntry s old new e → AreParts s (es ++ e ∷ []) new
entry_more s es e old new r a =
    let one = e ∷ [] in
    let zone = λ (e : Entry). zone_in (space_of s) e.value in
    let is_row = λ (e : Entry). is_some (row_in s e) in
    let digits = refused-append (codes "initialrowvalue") BadInitial is_row es one in
    let values = refused-append (codes "initialrow") BadInitial is_row es one in
    let ports = ports_more s es e old.ports.seen.keys r.ports.seen in
    let places = among-append (codes "portintransition") (port_place s) es one in
    record {
      offsets = record {
        offsets =
            a.offsets.offsets ∙ ap (λ os. offsets_with_all os (offsets_in s one)) r.offsets.offsets
            ∙ sym (ap (offsets_with_all []) (in-append s es one) ∙ fold-append offsets_with [] (offsets_in s es) (offsets_in s one));
        refused = least_more _ _ _ _ _ (refused-append (codes "neighbors") BadValue (are_offsets s) es one) r.offsets.refused a.offsets.refused;
      };
      rows = record {
        digits = least_more _ _ _ _ _ digits r.rows.digits a.rows.digits;
        values = least_more _ _ _ _ _ values r.rows.values a.rows.values;
        laid = λ rows.
            let d = both_empty (digits_refused s es) (digits_refused s one) (sym digits ∙ rows.digits) in
            let v = both_empty (values_refused s es) (values_refused s one) (sym values ∙ rows.values) in
            let start = uniform_values (space_of s) (initial_value_of s) in
            a.rows.laid (record { digits = d.1; values = v.1 })
            ∙ ap (option_map (λ values. with_entries s values one)) (r.rows.laid (record { digits = d.0; values = v.0 }))
            ∙ ap (λ vs. Some vs)
            (sym (ap (fold (with_row (space_of s)) start) (filter_map-append (row_in s) es one) ∙ fold-append (with_row (space_of s)) start (filter_map (row_in s) es) (filter_map (row_in s) one)));
      };
      ports = record {
        seen = λ p.
            a.ports.seen p ∙ ap (λ b. b || list_any (same_place p) (places_among s one)) (r.ports.seen p)
            ∙ sym (ap (list_any (same_place p)) places ∙ list_any-append (same_place p) (places_among s es) (places_among s one));
        refused = least_more _ _ _ _ _ ports r.ports.refused a.ports.refused;
        places = λ none.
            let parts = both_empty (ports_refused s [] (port_entries es)) (refused_after s old.ports.seen.keys e) (sym ports ∙ none) in
            gathered_more (places_among s) es one _ _ places (r.ports.places parts.0) (a.ports.places parts.1);
        rules = λ none.
            let parts = both_empty (ports_refused s [] (port_entries es)) (refused_after s old.ports.seen.keys e) (sym ports ∙ none) in
            gathered_more (items_among s) es one _ _ (among-append (codes "portintransition") (port_item s) es one) (r.ports.rules parts.0) (a.ports.rules parts.1);
      };
      zones = record {
        zones = gathered_more (zones_among s) es one old.zones.zones new.zones.zones (among-append (codes "zone") zone es one) r.zones.zones a.zones.zones;
        rules = gathered_more (names_among s) es one (map item_of old.zones.rules.items) (map item_of new.zones.rules.items) (among-append (codes "zone") (zone_item s) es one) r.zones.rules a.zones.rules;
        refused = least_more _ _ _ _ _ (refused-append (codes "zone") BadZone (λ e. is_some (zone e)) es one) r.zones.refused a.zones.refused;
      };
    }
