-- What a change of a map does to its folder.
use Rattle.std.proofs.Common.{◌≡◌, ℕ, List, ◌++◌, Bool, true, false, cond, Option, Some, None, Vec, String, nat_cmp, refl, sym, ◌∙◌, ap}
use Rattle.std.specs.declared.alloc.Global.{Global}
use Rattle.std.specs.Prelude.{if◌then◌else◌}
use Rattle.std.specs.Option.{option_map}
use Rattle.std.specs.Str.{bytes_eq}
use Rattle.std.specs.String.{string_cmp, string_bytes}
use Rattle.std.specs.Cmp.Lexicographic.{slice_cmp}
use Rattle.std.specs.BTreeMap.{BTreeMap, UpdatesBy, get_by_text}
use Rattle.std.proofs.lemmas.Map.Text.{btree_map_updates_text}
use Rattle.std.proofs.lemmas.Slice.Eq.{bytes_eq-Decides}
use Rattle.room_edge.specs.Outside.{with_file}
use Rattle.room_edge.specs.Only.{with_more}
use Rattle.room_edge.specs.Folder.{folder_of}

abbrev Files : Type 0
Files = BTreeMap (String Global) (Vec ℕ Global)

abbrev Puts : List ℕ → Files → Files → Vec ℕ Global → Type 0
Puts name m n v = UpdatesBy string_cmp (λ k. slice_cmp nat_cmp name (string_bytes k)) m n (Some v)

put_at : (hit : Bool) (v : Vec ℕ Global) (old : Option (Vec ℕ Global)) → option_map (λ (w : Vec ℕ Global). w.items) (cond hit (Some v) old) ≡ (if hit then Some v.items else option_map (λ (w : Vec ℕ Global). w.items) old)
put_at true v old = refl
put_at false v old = refl

pub folder-put : (name : List ℕ) (m n : Files) (v : Vec ℕ Global) → Puts name m n v → folder_of n ≡ with_file name v.items (folder_of m)
folder-put name m n v u = λ i cs. (ap (option_map (λ (w : Vec ℕ Global). w.items)) (btree_map_updates_text name m n (Some v) u cs) ∙ put_at (bytes_eq name cs) v (get_by_text m cs)) i

more_at : (hit : Bool) (v : Vec ℕ Global) (bytes : List ℕ) (old : Option (Vec ℕ Global)) → (hit ≡ true → Some v.items ≡ option_map (λ (w : List ℕ). w ++ bytes) (option_map (λ (w : Vec ℕ Global). w.items) old))
    → option_map (λ (w : Vec ℕ Global). w.items) (cond hit (Some v) old) ≡ (if hit then option_map (λ (w : List ℕ). w ++ bytes) (option_map (λ (w : Vec ℕ Global). w.items) old) else option_map (λ (w : Vec ℕ Global). w.items) old)
more_at true v bytes old h = h refl
more_at false v bytes old h = refl

pub folder-more : (name bytes : List ℕ) (m n : Files) (old v : Vec ℕ Global) → get_by_text m name ≡ Some old → v.items ≡ old.items ++ bytes → Puts name m n v → folder_of n ≡ with_more name bytes (folder_of m)
folder-more name bytes m n old v had is u = λ i cs. (ap (option_map (λ (w : Vec ℕ Global). w.items)) (btree_map_updates_text name m n (Some v) u cs) ∙ more_at (bytes_eq name cs) v bytes (get_by_text m cs) (here cs)) i
  where
    here : (cs : List ℕ) → bytes_eq name cs ≡ true → Some v.items ≡ option_map (λ (w : List ℕ). w ++ bytes) (option_map (λ (w : Vec ℕ Global). w.items) (get_by_text m cs))
    here cs hit = ap Some is ∙ sym (ap (λ o. option_map (λ (w : List ℕ). w ++ bytes) (option_map (λ (w : Vec ℕ Global). w.items) o)) (ap (get_by_text m) (sym ((bytes_eq-Decides name cs).0 hit)) ∙ had))

pub folder-same : (name : List ℕ) (m n : Files) (old v : Vec ℕ Global) → get_by_text m name ≡ Some old → v.items ≡ old.items → Puts name m n v → folder_of n ≡ folder_of m
folder-same name m n old v had is u = λ i cs. (ap (option_map (λ (w : Vec ℕ Global). w.items)) (btree_map_updates_text name m n (Some v) u cs) ∙ at (bytes_eq name cs) (get_by_text m cs) (here cs)) i
  where
    at : (hit : Bool) (o : Option (Vec ℕ Global)) → (hit ≡ true → Some v.items ≡ option_map (λ (w : Vec ℕ Global). w.items) o) → option_map (λ (w : Vec ℕ Global). w.items) (cond hit (Some v) o) ≡ option_map (λ (w : Vec ℕ Global). w.items) o
    at true o h = h refl
    at false o h = refl

    here : (cs : List ℕ) → bytes_eq name cs ≡ true → Some v.items ≡ option_map (λ (w : Vec ℕ Global). w.items) (get_by_text m cs)
    here cs hit = ap Some is ∙ sym (ap (option_map (λ (w : Vec ℕ Global). w.items)) (ap (get_by_text m) (sym ((bytes_eq-Decides name cs).0 hit)) ∙ had))

-- no file of that name
pub folder-none : (name bytes : List ℕ) (m : Files) → get_by_text m name ≡ None → folder_of m ≡ with_more name bytes (folder_of m)
folder-none name bytes m none = λ i cs. at (bytes_eq name cs) (folder_of m cs) (λ hit. ap (option_map (λ (w : Vec ℕ Global). w.items)) (ap (get_by_text m) (sym ((bytes_eq-Decides name cs).0 hit)) ∙ none)) i
  where
    at : (hit : Bool) (o : Option (List ℕ)) → (hit ≡ true → o ≡ None) → o ≡ (if hit then option_map (λ (w : List ℕ). w ++ bytes) o else o)
    at true o h = h refl ∙ ap (option_map (λ (w : List ℕ). w ++ bytes)) (sym (h refl))
    at false o h = refl
