-- Options of a table that are taken one after another: by the command, and in the usage line.
use Rattle.std.proofs.Common.{◌≡◌, ℕ, ◌+◌, ◌-◌, ◌<◌, ◌≤◌, List, [], ◌∷◌, ◌++◌, refl, sym, ap, ◌∙◌, map, take, drop, length, get_or, add-one, Option, Some, None, arith}
use Rattle.std.proofs.Math.Seq.{drop-cons}
use Rattle.std.proofs.lemmas.List.{drop_all, take_more, take_all, append_assoc, append-nil}
use Rattle.std.specs.List.{flat_map}
use Rattle.clap.specs.Walk.{Row}
use Rattle.clap.specs.Words.{App, new_rule, with_rule}
use Rattle.model_tree.specs.Tree.{Word}
use Rattle.quantity.specs.Written.{for_some}
use Rattle.answer_model.specs.Options.{Draft, nothing_given, OptionRow, option_value, put_if}
use Rattle.asked_words.specs.Table.{row_of, with_named, put_given, drafted_by}
use Rattle.asked_words.specs.declared.table.Opt.{Opt}

-- ---- the command

-- before the first option all are left
pub all_left : (app : App) (os : List Opt) → with_named app (drop 0 os) ≡ with_named app os
all_left app os = refl

-- behind the last option none is left
pub none_left : (app whole : App) (os : List Opt) (i : ℕ) → length os ≤ i → with_named app (drop i os) ≡ whole → app ≡ whole
unfolding with_named
none_left app whole os i past h = sym (ap (with_named app) (drop_all i os past)) ∙ h

-- one option more is taken, and fewer are left
pub one_fewer : (old new whole : App) (os : List Opt) (i : ℕ) (o : Opt) → i < length os → new ≡ with_rule old (record (new_rule (get_or os i o).id.now) { short = Some (get_or os i o).letter })
    → with_named old (drop i os) ≡ whole → with_named new (drop (i + 1) os) ≡ whole
unfolding with_named
one_fewer old new whole os i o lt is h =
    let e : drop i os ≡ get_or os i o ∷ drop (i + 1) os = rw (add-one, drop-cons os i o) refl in
    ap (λ (a : App). with_named a (drop (i + 1) os)) is ∙ sym (ap (with_named old) e) ∙ h

-- ---- drafts

same_put : (v : Option Word) (o : Opt) (d : Draft) → put_given v o.field d ≡ put_if v (row_of o) d
same_put None o d = refl
same_put (Some text) o d = refl

for_same : {A B : Type 0} (o : Option A) (f g : A → Option B) → ((x : A) → f x ≡ g x) → for_some o f ≡ for_some o g
for_same None f g h = refl
for_same (Some x) f g h = h x

-- the same by rows of the definitions
unfoldable pub drafted_rows : List Opt → List Row → Option Draft
drafted_rows [] given = Some nothing_given
drafted_rows (o ∷ os) given = for_some (drafted_rows os given) (put_if (option_value given o.id.now) (row_of o))

pub rows_draft : (os : List Opt) (given : List Row) → drafted_by os given ≡ drafted_rows os given
unfolding drafted_by drafted_rows
rows_draft [] given = refl
rows_draft (o ∷ os) given =
    ap (λ r. for_some r (put_given (option_value given o.id.now) o.field)) (rows_draft os given)
    ∙ for_same (drafted_rows os given) (put_given (option_value given o.id.now) o.field) (put_if (option_value given o.id.now) (row_of o)) (same_put (option_value given o.id.now) o)

-- one option before the others
pub one_before : (os : List Opt) (x : Opt) (given : List Row) (v : Option Word) (d : Draft) → 1 ≤ length os → v ≡ option_value given (get_or os 0 x).id.now → Some d ≡ drafted_by (take (length os - 1) (drop 1 os)) given
    → put_given v (get_or os 0 x).field d ≡ drafted_by os given
unfolding drafted_by
one_before [] x given v d some hv hd = absurd (omega arith)
one_before (o ∷ os) x given v d some hv hd =
    ap (λ v. put_given v o.field d) hv ∙ ap (λ r. for_some r (put_given (option_value given o.id.now) o.field)) (hd ∙ rest)
  where
    rest : drafted_by (take (length (o ∷ os) - 1) os) given ≡ drafted_by os given
    rest = ap (λ (xs : List Opt). drafted_by xs given) (take_all (length (o ∷ os) - 1) os (omega arith))

-- ---- the usage line

-- how options stand in it
abbrev pub shown : List Opt → List ℕ
shown os = flat_map (λ (r : OptionRow). r.shown) (map row_of os)

last_shown : (os : List Opt) (o : Opt) → shown (os ++ o ∷ []) ≡ shown os ++ o.shown.now
last_shown [] o = append-nil o.shown.now
last_shown (p ∷ os) o = ap (λ xs. p.shown.now ++ xs) (last_shown os o) ∙ sym (append_assoc p.shown.now (shown os) o.shown.now)

-- one option more
pub one_shown : (head new old : List ℕ) (os : List Opt) (i : ℕ) (o : Opt) → i < length os → new ≡ old ++ (get_or os i o).shown.now → old ≡ head ++ shown (take i os) → new ≡ head ++ shown (take (i + 1) os)
one_shown head new old os i o lt is h =
    is ∙ ap (λ xs. xs ++ (get_or os i o).shown.now) h ∙ append_assoc head (shown (take i os)) (get_or os i o).shown.now
    ∙ ap (λ xs. head ++ xs) (sym (ap shown (take_more os i o lt) ∙ last_shown (take i os) (get_or os i o)))

-- behind the last option
pub all_shown : (head line : List ℕ) (os : List Opt) (i : ℕ) → length os ≤ i → line ≡ head ++ shown (take i os) → line ≡ head ++ shown os
all_shown head line os i past h = h ∙ ap (λ (xs : List Opt). head ++ shown xs) (take_all i os past)
