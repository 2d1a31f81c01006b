-- Steps add to what was done.
use Rattle.std.proofs.Common.{◌≡◌, Bool, true, false, cond, ◌||◌, ℕ, Option, Some, None, List, [], ◌∷◌, ◌++◌, refl, sym, ap, ◌∙◌}
use Rattle.std.specs.Prelude.{if◌then◌else◌}
use Rattle.std.specs.Option.{option_map}
use Rattle.std.specs.Str.{bytes_eq}
use Rattle.std.proofs.lemmas.List.{append-nil, append_assoc, map-append}
use Rattle.std.proofs.lemmas.Slice.Eq.{bytes_eq-Decides}
use Rattle.model_tree.specs.Tree.{Word}
use Rattle.quantity.specs.Bytes.{Bytes}
use Rattle.room_edge.specs.Outside.{Files, Outside, puts, streams}
use Rattle.room_edge.specs.Only.{adds}
use Rattle.room_edge.proofs.Adding.{adds-puts, streams-nil, streams-streams}
use Rattle.answer_model.specs.Answer.{MadeFiles, names}
use Rattle.answer_model.specs.Headline.{puts_all}
use Rattle.answer_model.specs.Outcome.{Did, HasMore}
use Rattle.answer_model.specs.Steps.{is_made, files_with_more, did_nothing, and_tried, and_created, and_appended, and_showed, and_complained, Tried, Read, Created, Appended, Showed, Complained, StepsAdd}

-- ---- made files

puts_all_push : (made : Option Files) (fs : MadeFiles) (f : Word × Bytes) → puts (puts_all made fs) f.0 f.1 ≡ puts_all made (fs ++ f ∷ [])
puts_all_push made [] f = refl
puts_all_push made (g ∷ gs) f = puts_all_push (puts made g.0 g.1) gs f

not_both : (name n m : Word) → bytes_eq n name ≡ false → bytes_eq name m ≡ true → bytes_eq n m ≡ true → ⊥
not_both name n m differ here there = cc_of (bytes_eq n name) ((bytes_eq-Decides n name).1 ((bytes_eq-Decides n m).0 there ∙ sym ((bytes_eq-Decides name m).0 here))) differ
  where
    cc_of : (b : Bool) → b ≡ true → b ≡ false → ⊥
    cc_of true e f = cc
    cc_of false e f = cc

-- at one name
swapped : (more put : Bool) (bytes b : Bytes) (old : Option Bytes) → (more ≡ true → put ≡ true → ⊥) →
    (if more then option_map (λ o. o ++ bytes) (if put then Some b else old) else (if put then Some b else old))
    ≡ (if put then Some b else (if more then option_map (λ o. o ++ bytes) old else old))
swapped true true bytes b old h = absurd (h refl refl)
swapped true false bytes b old h = refl
swapped false true bytes b old h = refl
swapped false false bytes b old h = refl

adds-puts_other : (made : Option Files) (name bytes n b : List ℕ) → bytes_eq n name ≡ false → adds (puts made n b) name bytes ≡ puts (adds made name bytes) n b
unfolding adds puts
adds-puts_other None name bytes n b h = refl
adds-puts_other (Some folder) name bytes n b h = ap Some (λ i m. swapped (bytes_eq name m) (bytes_eq n m) bytes b (folder m) (not_both name n m h) i)

left_false : (a b : Bool) → (a || b) ≡ false → a ≡ false
left_false true b e = e
left_false false b e = refl

right_false : (a b : Bool) → (a || b) ≡ false → b ≡ false
right_false true b e = cc
right_false false b e = e

adds-puts_all_other : (made : Option Files) (fs : MadeFiles) (name bytes : List ℕ) → is_made name fs ≡ false → adds (puts_all made fs) name bytes ≡ puts_all (adds made name bytes) fs
adds-puts_all_other made [] name bytes h = refl
adds-puts_all_other made (f ∷ fs) name bytes h =
    adds-puts_all_other (puts made f.0 f.1) fs name bytes (right_false (bytes_eq f.0 name) (is_made name fs) h)
    ∙ ap (λ m. puts_all m fs) (adds-puts_other made name bytes f.0 f.1 (left_false (bytes_eq f.0 name) (is_made name fs) h))

adds-puts_at : (made : Option Files) (name bytes n b : List ℕ) → bytes_eq n name ≡ true → adds (puts made n b) name bytes ≡ puts made n (b ++ bytes)
adds-puts_at made name bytes n b h =
    ap (λ m. adds (puts made n b) m bytes) (sym ((bytes_eq-Decides n name).0 h)) ∙ adds-puts made n b bytes

adds-puts_all : (made : Option Files) (fs : MadeFiles) (name bytes : List ℕ) → is_made name fs ≡ true → adds (puts_all made fs) name bytes ≡ puts_all made (files_with_more name bytes fs)
adds-puts_all made [] name bytes h = cc
adds-puts_all made (f ∷ fs) name bytes h =
    by (is_made name fs) (bytes_eq f.0 name) (adds-puts_all (puts made f.0 f.1) fs name bytes) (adds-puts_all_other (puts made f.0 f.1) fs name bytes) (adds-puts_at made name bytes f.0 f.1) h
  where
    by : (later here : Bool)
        → (later ≡ true → adds (puts_all (puts made f.0 f.1) fs) name bytes ≡ puts_all (puts made f.0 f.1) (files_with_more name bytes fs))
        → (later ≡ false → adds (puts_all (puts made f.0 f.1) fs) name bytes ≡ puts_all (adds (puts made f.0 f.1) name bytes) fs)
        → (here ≡ true → adds (puts made f.0 f.1) name bytes ≡ puts made f.0 (f.1 ++ bytes))
        → (here || later) ≡ true
        → adds (puts_all (puts made f.0 f.1) fs) name bytes ≡ puts_all made (cond later (f ∷ files_with_more name bytes fs) (cond here ((f.0, f.1 ++ bytes) ∷ fs) (f ∷ fs)))
    by true here in_rest not_in_rest at_first some = in_rest refl
    by false true in_rest not_in_rest at_first some = not_in_rest refl ∙ ap (λ m. puts_all m fs) (at_first refl)
    by false false in_rest not_in_rest at_first some = cc

-- ---- names

names_by : (later here : Bool) (f g : Word × Bytes) (fs gs : MadeFiles) → f.0 ≡ g.0 → names gs ≡ names fs → names (cond later (f ∷ gs) (cond here (g ∷ fs) (f ∷ fs))) ≡ f.0 ∷ names fs
names_by true here f g fs gs e h = ap (λ xs. f.0 ∷ xs) h
names_by false true f g fs gs e h = ap (λ n. n ∷ names fs) (sym e)
names_by false false f g fs gs e h = refl

grown_names : (name : Word) (bytes : Bytes) (fs : MadeFiles) → names (files_with_more name bytes fs) ≡ names fs
grown_names name bytes [] = refl
grown_names name bytes (f ∷ fs) =
    names_by (is_made name fs) (bytes_eq f.0 name) f (f.0, f.1 ++ bytes) fs (files_with_more name bytes fs) refl (grown_names name bytes fs)

names_push : (d : Did) (name : Word) (names_before : List Word) → (names_before ++ names d.made) ++ name ∷ [] ≡ names_before ++ names (d.made ++ (name, []) ∷ [])
names_push d name before =
    append_assoc before (names d.made) (name ∷ []) ∙ ap (λ xs. before ++ xs) (sym (map-append (λ (f : Word × Bytes). f.0) d.made ((name, []) ∷ [])))

-- ---- the steps

nothing : (now : Outside) → HasMore did_nothing now now
nothing now =
    record {
      made = refl;
      created = sym (append-nil now.created);
      shown = sym (streams-nil now.shown);
      complained = sym (streams-nil now.complained);
      tried = sym (append-nil now.tried);
    }

trying : (d : Did) (old now new : Outside) (name : Word) → HasMore d old now → Tried name now new → HasMore (and_tried name d) old new
trying d old now new name m (tried, only) =
    record {
      made = only.made ∙ m.made;
      created = only.created ∙ m.created;
      shown = only.shown ∙ m.shown;
      complained = only.complained ∙ m.complained;
      tried = tried ∙ ap (λ xs. xs ++ name ∷ []) m.tried ∙ append_assoc old.tried d.tried (name ∷ []);
    }

reading : (d : Did) (old now new : Outside) → HasMore d old now → Read now new → HasMore d old new
reading d old now new m (tried, only) =
    record {
      made = only.made ∙ m.made;
      created = only.created ∙ m.created;
      shown = only.shown ∙ m.shown;
      complained = only.complained ∙ m.complained;
      tried = tried ∙ m.tried;
    }

creating : (d : Did) (old now new : Outside) (name : Word) → HasMore d old now → Created name now new → HasMore (and_created name d) old new
creating d old now new name m (made, created, only) =
    record {
      made = made ∙ ap (λ o. puts o name []) m.made ∙ puts_all_push old.made d.made (name, []);
      created = created ∙ ap (λ xs. xs ++ name ∷ []) m.created ∙ names_push d name old.created;
      shown = only.shown ∙ m.shown;
      complained = only.complained ∙ m.complained;
      tried = only.output.tried ∙ m.tried;
    }

appending : (d : Did) (old now new : Outside) (name : Word) (bytes : Bytes) → is_made name d.made ≡ true → HasMore d old now → Appended name bytes now new → HasMore (and_appended name bytes d) old new
appending d old now new name bytes h m (made, created, only) =
    record {
      made = made ∙ ap (λ o. adds o name bytes) m.made ∙ adds-puts_all old.made d.made name bytes h;
      created = created ∙ m.created ∙ ap (λ xs. old.created ++ xs) (sym (grown_names name bytes d.made));
      shown = only.shown ∙ m.shown;
      complained = only.complained ∙ m.complained;
      tried = only.output.tried ∙ m.tried;
    }

showing : (d : Did) (old now new : Outside) (bytes : Bytes) → HasMore d old now → Showed bytes now new → HasMore (and_showed bytes d) old new
showing d old now new bytes m (shown, only) =
    record {
      made = only.made ∙ m.made;
      created = only.created ∙ m.created;
      shown = shown ∙ ap (λ o. streams o bytes) m.shown ∙ streams-streams old.shown d.shown bytes;
      complained = only.complained ∙ m.complained;
      tried = only.output.tried ∙ m.tried;
    }

complaining : (d : Did) (old now new : Outside) (bytes : Bytes) → HasMore d old now → Complained bytes now new → HasMore (and_complained bytes d) old new
complaining d old now new bytes m (complained, only) =
    record {
      made = only.made ∙ m.made;
      created = only.created ∙ m.created;
      shown = only.shown ∙ m.shown;
      complained = complained ∙ ap (λ o. streams o bytes) m.complained ∙ streams-streams old.complained d.complained bytes;
      tried = only.output.tried ∙ m.tried;
    }

pub steps_add : StepsAdd
steps_add =
    record { nothing = nothing; trying = trying; reading = reading; creating = creating; appending = appending; showing = showing; complaining = complaining }
