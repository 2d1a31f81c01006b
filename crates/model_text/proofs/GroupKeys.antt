-- What the phase of keys says of each section and group of an accepted model.
use Rattle.std.proofs.Common.{◌≡◌, Bool, true, cond, None, List, [], ◌∷◌, ◌++◌, subst}
use Rattle.std.proofs.lemmas.Bool.{cond_both}
use Rattle.std.specs.Prelude.{codes}
use Rattle.std.specs.List.{filter, flat_map, AllByRecursion}
use Rattle.ma_lines.specs.Sections.{Section}
use Rattle.model_text.specs.Keyed.{items_of}
use Rattle.model_text.specs.Walk.{is_group, reached_sections, groups, atomics}
use Rattle.model_text.specs.Keys.{keys_of, once_words, group_keys, section_keys, again, missing_key, forms, group_forms, off_form, double_space, repeated_words, of_group, of_section, of_atomic, keys_refused}
use Rattle.model_text.proofs.Basics.{both_empty, least_none, each_empty, all_imply}

pub record Keyed (s : Section) : Type 0 where
  pub once : again (section_keys s) [] s.entries ≡ []
  pub ins : repeated_words [] (items_of (codes "in") s) ≡ []
  pub outs : repeated_words [] (items_of (codes "out") s) ≡ []
  pub rest : cond (is_group s) (of_group s) (off_form (forms s) s.entries) ≡ []

pub record KeyedGroup (s : Section) : Type 0 where
  pub once : again group_keys [] s.entries ≡ []
  pub ins : repeated_words [] (items_of (codes "in") s) ≡ []
  pub outs : repeated_words [] (items_of (codes "out") s) ≡ []
  pub missing : missing_key s ≡ []
  pub forms : off_form (group_forms s) s.entries ≡ []
  pub double : double_space s ≡ []

keyed : (s : Section) → of_section s ≡ [] → Keyed s
keyed s h =
    let once = again (section_keys s) [] s.entries in
    let ins = repeated_words [] (items_of (codes "in") s) in
    let outs = repeated_words [] (items_of (codes "out") s) in
    let a = both_empty (once ++ ins ++ outs) (cond (is_group s) (of_group s) (off_form (forms s) s.entries)) h in
    let b = both_empty (once ++ ins) outs a.0 in
    let c = both_empty once ins b.0 in
    record { once = c.0; ins = c.1; outs = b.1; rest = a.1 }

pub keyed_group : (s : Section) → is_group s ≡ true → Keyed s → KeyedGroup s
keyed_group s g k =
    let rest : of_group s ≡ [] = subst (λ b. cond b (of_group s) (off_form (forms s) s.entries) ≡ []) g k.rest in
    let a = both_empty (missing_key s ++ off_form (group_forms s) s.entries) (double_space s) rest in
    let b = both_empty (missing_key s) (off_form (group_forms s) s.entries) a.0 in
    record {
      once = subst (λ c. again (once_words (keys_of c)) [] s.entries ≡ []) g k.once;
      ins = k.ins;
      outs = k.outs;
      missing = b.0;
      forms = b.1;
      double = a.1;
    }

pub all_keyed : (ss : List Section) → keys_refused ss ≡ None → AllByRecursion Keyed (reached_sections ss)
all_keyed ss h =
    let parts = both_empty (flat_map of_section (reached_sections ss)) (flat_map (of_atomic ss) (atomics ss)) (least_none (flat_map of_section (reached_sections ss) ++ flat_map (of_atomic ss) (atomics ss)) h) in
    all_imply keyed (reached_sections ss) (each_empty of_section (reached_sections ss) parts.0)

-- what holds of all holds of those that pass a test, and so does the test
pub all_filtered : {X : Type 0} (P : X → Type 0) (test : X → Bool) (xs : List X) → AllByRecursion P xs → AllByRecursion (λ x. (test x ≡ true) × P x) (filter test xs)
all_filtered P test [] h = tt
all_filtered P test (x ∷ xs) h =
    let rest = all_filtered P test xs h.1 in
    cond_both (test x) (x ∷ filter test xs) (filter test xs) (AllByRecursion (λ x. (test x ≡ true) × P x)) (λ e. ((e, h.0), rest)) (λ e. rest)

pub groups_keyed : (ss : List Section) → keys_refused ss ≡ None → AllByRecursion KeyedGroup (groups ss)
groups_keyed ss h =
    all_imply (λ s p. keyed_group s p.0 p.1) (groups ss) (all_filtered Keyed is_group (reached_sections ss) (all_keyed ss h))
