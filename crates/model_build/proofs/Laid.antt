-- Trees with other values: the same but for these, and as sound.
use Rattle.std.proofs.Common.{◌≡◌, ℕ, ◌+◌, ◌<◌, ◌≤◌, Some, List, [], ◌∷◌, ◌++◌, map, length, refl, sym, ap, ◌∙◌, subst, arith, length-append, slice_get, unwrap_or, suc, Bool, true, false, cond, not, ◌&&◌, Option, nat_lt, nat_le, ◌==◌}
use Rattle.std.specs.List.{All, sum, list_all}
use Rattle.std.proofs.lemmas.List.{map-append, length-map}
use Rattle.std.proofs.lemmas.Option.{slice_get-get_or}
use Rattle.quantity.specs.declared.value.Value.{Value}
use Rattle.quantity.specs.declared.value.Value.TheVariants.{Undefined}
use Rattle.cell_grid.specs.Initial.{uniform_values}
use Rattle.model_tree.specs.Tree.{Word, Group, Tree, Trees, coupled, cells, atomic, nil, cons, name_of, leaf_count, leaf_counts, ins_of, outs_of, groups, all_groups}
use Rattle.model_tree.specs.Faces.{inputs_of, outputs_of}
use Rattle.model_tree.specs.Pull.{is_own, is_child, what_links_bring, nothing, given_out, given_by, taken_in, all_taken_in, Source, leaf_source, top_source, sources, top_sources}
use Rattle.model_tree.specs.Paths.{path_count}
use Rattle.model_tree.specs.Sound.{Totals, totals_of_both, totals, all_totals, is_sound_group, is_near_offset, offsets_differ, has_right_names, has_right_rules, has_child, are_accepted, is_sound_part, are_sound_parts, is_within_limits}
use Rattle.model_leaves.specs.Laid.{laid_from, all_laid_from, Covers}
use Rattle.model_leaves.specs.Numbered.{source_by_name, IsThere}
use Rattle.model_build.specs.Blank.{blank_group, blanked, all_blanked}
use Rattle.model_build.specs.Laws.{BlanksAreLaid, LinksStay, LaidModelsAreSound}
use Rattle.std.specs.Str.{bytes_eq}
use Rattle.std.proofs.lemmas.Bool.{le-leb, eq-eqb}
use Rattle.quantity.specs.Bytes.{has_repeat}
use Rattle.cell_grid.specs.Space.{cell_count}
use Rattle.model_tree.specs.FaceOf.{child_of, face_of_coupled, face_of_group}

-- ---- what stays

-- what is seen of a component, and what its links bring
pub record Same (u t : Tree) : Type 0 where
  pub name : name_of u ≡ name_of t
  pub ins : ins_of u ≡ ins_of t
  pub outs : outs_of u ≡ outs_of t
  pub inputs : inputs_of (Some u) ≡ inputs_of (Some t)
  pub outputs : outputs_of (Some u) ≡ outputs_of (Some t)
  pub leaves : leaf_count u ≡ leaf_count t
  pub out : (first : ℕ) (give : ℕ → List Source) (port : Word) → given_out u first give port ≡ given_out t first give port
  pub taken : (first : ℕ) (give : ℕ → List Source) (own : Word → List Source) → taken_in u first give own ≡ taken_in t first give own
  pub totals : totals u ≡ totals t

record AllSame (us ts : Trees) : Type 0 where
  pub leaves : leaf_counts us ≡ leaf_counts ts
  pub by : (first : ℕ) (give : ℕ → List Source) (port name : Word) → given_by us first give port name ≡ given_by ts first give port name
  pub taken : (first : ℕ) (give : ℕ → List Source) (own : Word → Word → List Source) → all_taken_in us first give own ≡ all_taken_in ts first give own
  pub totals : all_totals us ≡ all_totals ts

abbrev with_section : Word → ℕ → Totals → Totals
with_section name links below = record below { names = name ∷ below.names; links = links + below.links; depth = below.depth + 1 }

mutual
  pub stays : (t : Tree) (n : ℕ) (values : List (List Value)) → Same (laid_from t n values) t
  stays (coupled name ins outs children links) n values =
      let below = all_stay children n values in
      record {
        name = refl;
        ins = refl;
        outs = refl;
        inputs = refl;
        outputs = refl;
        leaves = below.leaves;
        out = λ first give port. ap (λ by. what_links_bring links (is_own port) nothing by nothing) (λ k p c. below.by first give p c k);
        taken = λ first give own.
            below.taken first give (λ child port. what_links_bring links (is_child port child) own (given_by (all_laid_from children n values) first give) nothing)
            ∙ ap (λ by. all_taken_in children first give (λ child port. what_links_bring links (is_child port child) own by nothing)) (λ k p c. below.by first give p c k);
        totals = ap (with_section name (length links)) below.totals;
      }
  stays (cells g) n values = record { name = refl; ins = refl; outs = refl; inputs = refl; outputs = refl; leaves = refl; out = λ first give port. refl; taken = λ first give own. refl; totals = refl }
  stays (atomic name class settings) n values = record { name = refl; ins = refl; outs = refl; inputs = refl; outputs = refl; leaves = refl; out = λ first give port. refl; taken = λ first give own. refl; totals = refl }

  all_stay : (ts : Trees) (n : ℕ) (values : List (List Value)) → AllSame (all_laid_from ts n values) ts
  all_stay nil n values = record { leaves = refl; by = λ first give port name. refl; taken = λ first give own. refl; totals = refl }
  all_stay (cons t ts) n values =
      let here = stays t n values in
      let rest = all_stay ts (n + length (groups t)) values in
      record {
        leaves = λ k. here.leaves k + rest.leaves k;
        by = λ first give port name. rw (here.name, here.leaves, here.out first give port, rest.by (first + leaf_count t) give port name);
        taken = λ first give own. rw (here.name, here.leaves, here.taken first give (own (name_of t)), rest.taken (first + leaf_count t) give own);
        totals = λ k. totals_of_both (here.totals k) (rest.totals k);
      }

sources_stay : (t : Tree) (n : ℕ) (values : List (List Value)) → sources (laid_from t n values) ≡ sources t
sources_stay t n values = (stays t n values).taken 0 (λ k. leaf_source k ∷ []) (λ p. top_source p ∷ [])

tops_stay : (t : Tree) (n : ℕ) (values : List (List Value)) → top_sources (laid_from t n values) ≡ top_sources t
tops_stay t n values = λ k. map (λ port. (stays t n values).out 0 (λ j. leaf_source j ∷ []) port k) ((stays t n values).outs k)

pub paths_stay : (t : Tree) (n : ℕ) (values : List (List Value)) → path_count (laid_from t n values) ≡ path_count t
paths_stay t n values = λ k. sum (map (λ ports. sum (map length ports)) (sources_stay t n values k)) + sum (map length (tops_stay t n values k))

-- ---- values laid on blank groups

mutual
  groups_blank : (t : Tree) → groups (blanked t) ≡ map blank_group (groups t)
  groups_blank (coupled name ins outs children links) = all_groups_blank children
  groups_blank (cells g) = refl
  groups_blank (atomic name class settings) = refl

  all_groups_blank : (ts : Trees) → all_groups (all_blanked ts) ≡ map blank_group (all_groups ts)
  all_groups_blank nil = refl
  all_groups_blank (cons t ts) = (λ k. groups_blank t k ++ all_groups_blank ts k) ∙ sym (map-append blank_group (groups t) (all_groups ts))

same_value : (first : ℕ) (values : List (List Value)) (g : Group) → first < length values
    → unwrap_or (slice_get values first) (uniform_values g.space Undefined) ≡ unwrap_or (slice_get values first) g.initial
same_value first values g h = rw (slice_get-get_or values first [] h)

mutual
  laid_blank : (t : Tree) (first : ℕ) (values : List (List Value)) → first + length (groups t) ≤ length values → laid_from (blanked t) first values ≡ laid_from t first values
  laid_blank (coupled name ins outs children links) first values h = ap (λ ts. coupled name ins outs ts links) (all_laid_blank children first values h)
  laid_blank (cells g) first values h = ap (λ v. cells (record g { initial = v })) (same_value first values g (omega (arith, h)))
  laid_blank (atomic name class settings) first values h = refl

  all_laid_blank : (ts : Trees) (first : ℕ) (values : List (List Value)) → first + length (all_groups ts) ≤ length values → all_laid_from (all_blanked ts) first values ≡ all_laid_from ts first values
  all_laid_blank nil first values h = refl
  all_laid_blank (cons t ts) first values h =
      let both : length (groups t ++ all_groups ts) ≡ length (groups t) + length (all_groups ts) = length-append (groups t) (all_groups ts) in
      let count : length (groups (blanked t)) ≡ length (groups t) = ap length (groups_blank t) ∙ length-map (groups t) blank_group in
      rw count (λ k. cons (laid_blank t first values (omega (arith, h, both)) k) (all_laid_blank ts (first + length (groups t)) values (omega (arith, h, both)) k))

pub blanks_are_laid : BlanksAreLaid
blanks_are_laid =
    record {
      laying = λ t values e. laid_blank t 0 values (omega (arith, e));
      groups_are = groups_blank;
      paths = λ t.
          let values : List (List Value) = map (λ (g : Group). g.initial) (groups t) in
          let long : length values ≡ length (groups t) = length-map (groups t) (λ (g : Group). g.initial) in
          sym (paths_stay (blanked t) 0 values) ∙ ap path_count (laid_blank t 0 values (omega (arith, long))) ∙ paths_stay t 0 values;
    }

pub links_stay : LinksStay
links_stay =
    record {
      routes = λ t values r routes.
          let ins = sym (stays t 0 values).ins in
          record {
            ports = subst (λ ws. map (map (map (source_by_name ws))) r.ports ≡ sources (laid_from t 0 values)) ins (routes.ports ∙ sym (sources_stay t 0 values));
            tops = subst (λ ws. map (map (source_by_name ws)) r.tops ≡ top_sources (laid_from t 0 values)) ins (routes.tops ∙ sym (tops_stay t 0 values));
            inputs = subst (λ ws. All (All (All (IsThere ws))) r.ports) ins routes.inputs;
            top_inputs = subst (λ ws. All (All (IsThere ws)) r.tops) ins routes.top_inputs;
          };
      paths = λ t values. paths_stay t 0 values;
    }

-- ---- chains of tests

second : (a b b' c d e f g h : Bool) → b' ≡ true → (a && b && c && d && e && f && g && h) ≡ true → (a && b' && c && d && e && f && g && h) ≡ true
second true true b' c d e f g h s t = ap (λ x. x && c && d && e && f && g && h) s ∙ t
second true false b' c d e f g h s t = absurd cc
second false b b' c d e f g h s t = absurd cc

both_of : (a a' b b' : Bool) → (a ≡ true → a' ≡ true) → (b ≡ true → b' ≡ true) → (a && b) ≡ true → (a' && b') ≡ true
both_of true a' b b' go on t = ap (λ x. x && b') (go refl) ∙ on t
both_of false a' b b' go on t = absurd cc

first_of_four : (a a' b c d : Bool) → (a ≡ true → a' ≡ true) → (a && b && c && d) ≡ true → (a' && b && c && d) ≡ true
first_of_four true a' b c d go t = ap (λ x. x && b && c && d) (go refl) ∙ t
first_of_four false a' b c d go t = absurd cc

-- ---- groups

group_with : (g : Group) (v : List Value) → length v ≡ cell_count g.space → is_sound_group g ≡ true → is_sound_group (record g { initial = v }) ≡ true
group_with g v e s =
    second (nat_lt 0 (cell_count g.space)) (length g.initial == cell_count g.space) (length v == cell_count g.space) (nat_le g.settings.default_delay 359999999)
    (nat_le (length g.offsets) 128) (list_all is_near_offset g.offsets) (offsets_differ g.offsets) (has_right_names g) (has_right_rules g)
    (eq-eqb (length v) (cell_count g.space) e) s

-- ---- the ports of children

-- what is asked of a child of a name, where values change no answer
child_stays : (ask : Option Tree → List Word) → ((t : Tree) (n : ℕ) (values : List (List Value)) → ask (Some (laid_from t n values)) ≡ ask (Some t)) → (ts : Trees) (n : ℕ) (values : List (List Value)) (name : Word)
    → ask (child_of (all_laid_from ts n values) name) ≡ ask (child_of ts name)
child_stays ask same nil n values name = refl
child_stays ask same (cons t ts) n values name =
    ap (λ m. ask (cond (bytes_eq m name) (Some (laid_from t n values)) (child_of (all_laid_from ts (n + length (groups t)) values) name))) (stays t n values).name
    ∙ go (bytes_eq (name_of t) name) (child_stays ask same ts (n + length (groups t)) values name)
  where
    go : (b : Bool) → ask (child_of (all_laid_from ts (n + length (groups t)) values) name) ≡ ask (child_of ts name)
        → ask (cond b (Some (laid_from t n values)) (child_of (all_laid_from ts (n + length (groups t)) values) name)) ≡ ask (cond b (Some t) (child_of ts name))
    go true later = same t n values
    go false later = later

laid_face : (ins outs : List Word) (ts : Trees) (n : ℕ) (values : List (List Value)) → face_of_coupled ins outs (all_laid_from ts n values) ≡ face_of_coupled ins outs ts
laid_face ins outs ts n values =
    let inputs = child_stays inputs_of (λ t n values. (stays t n values).inputs) ts n values in
    let outputs = child_stays outputs_of (λ t n values. (stays t n values).outputs) ts n values in
    λ k. record { ins = ins; outs = outs; inputs_of = λ child. inputs child k; outputs_of = λ child. outputs child k; cells = 0 }

laid_child : (ts : Trees) (n : ℕ) (values : List (List Value)) → has_child (all_laid_from ts n values) ≡ has_child ts
laid_child nil n values = refl
laid_child (cons t ts) n values = refl

-- ---- values that fit

-- from this number on stand values for these groups
abbrev Fit : ℕ → List (List Value) → List Group → Type 0
Fit n values [] = Unit {0}
Fit n values (g ∷ gs) = (length (unwrap_or (slice_get values n) g.initial) ≡ cell_count g.space) × Fit (suc n) values gs

fit_parts : (n : ℕ) (values : List (List Value)) (xs ys : List Group) → Fit n values (xs ++ ys) → Fit n values xs × Fit (n + length xs) values ys
fit_parts n values [] ys fit = let same : n ≡ n + 0 = omega arith in (tt, subst (λ m. Fit m values ys) same fit)
fit_parts n values (x ∷ xs) ys fit =
    let rest = fit_parts (suc n) values xs ys fit.1 in
    let same : suc n + length xs ≡ n + suc (length xs) = omega arith in
    ((fit.0, rest.0), subst (λ m. Fit m values ys) same rest.1)

fit_behind : (n : ℕ) (v : List Value) (values : List (List Value)) (gs : List Group) → Fit n values gs → Fit (suc n) (v ∷ values) gs
fit_behind n v values [] fit = tt
fit_behind n v values (g ∷ gs) fit = (fit.0, fit_behind (suc n) v values gs fit.1)

-- one for each of them fits
fit_all : (values : List (List Value)) (gs : List Group) → length values ≡ length gs → Covers values gs → Fit 0 values gs
fit_all values [] e covers = tt
fit_all [] (g ∷ gs) e covers = absurd (let no : ⊥ = omega (arith, e) in no)
fit_all (v ∷ values) (g ∷ gs) e covers = (covers.0, fit_behind 0 v values gs (fit_all values gs (omega (arith, e)) covers.1))

-- ---- parts

mutual
  laid_sound : (t : Tree) (n : ℕ) (values : List (List Value)) → Fit n values (groups t) → is_sound_part t ≡ true → is_sound_part (laid_from t n values) ≡ true
  laid_sound (coupled name ins outs children links) n values fit s =
      let others = has_child children && not (has_repeat ins) && not (has_repeat outs) && are_accepted (face_of_coupled ins outs children) [] links in
      rw (laid_child children n values, laid_face ins outs children n values)
      (both_of others others (are_sound_parts children) (are_sound_parts (all_laid_from children n values)) (λ e. e) (all_laid_sound children n values fit) s)
  laid_sound (cells g) n values fit s =
      let v = unwrap_or (slice_get values n) g.initial in
      first_of_four (is_sound_group g) (is_sound_group (record g { initial = v })) (not (has_repeat g.ins)) (not (has_repeat g.outs)) (are_accepted (face_of_group g) [] g.links) (group_with g v fit.0) s
  laid_sound (atomic name class settings) n values fit s = s

  all_laid_sound : (ts : Trees) (n : ℕ) (values : List (List Value)) → Fit n values (all_groups ts) → are_sound_parts ts ≡ true → are_sound_parts (all_laid_from ts n values) ≡ true
  all_laid_sound nil n values fit s = s
  all_laid_sound (cons t ts) n values fit s =
      let parts = fit_parts n values (groups t) (all_groups ts) fit in
      both_of (is_sound_part t) (is_sound_part (laid_from t n values)) (are_sound_parts ts) (are_sound_parts (all_laid_from ts (n + length (groups t)) values))
      (laid_sound t n values parts.0) (all_laid_sound ts (n + length (groups t)) values parts.1) s

-- ---- the whole model

pub laid_models_are_sound : LaidModelsAreSound
laid_models_are_sound t values within few e covers =
    let face = stays t 0 values in
    let sound = laid_sound t 0 values (fit_all values (groups t) e covers) within.sound in
    let limits = ap is_within_limits (stays t 0 values).totals ∙ within.totals in
    let ins = ap (λ (ws : List Word). nat_le (length ws) 65536) face.ins ∙ le-leb (length (ins_of t)) 65536 within.ins in
    let outs = ap (λ (ws : List Word). nat_le (length ws) 65536) face.outs ∙ le-leb (length (outs_of t)) 65536 within.outs in
    let paths = ap (λ n. nat_le n 65536) (paths_stay t 0 values) ∙ le-leb (path_count t) 65536 few in
    λ k. sound k && limits k && ins k && outs k && paths k
