-- What is told of a reading, exit by exit.
use Rattle.std.proofs.Common.{◌≡◌, ℕ, ◌<◌, ◌≤◌, true, false, cond, nat_lt, Option, Some, None, List, ◌++◌, Ok, Err, IfSome, refl, sym, ap, ◌∙◌, subst, le_refl, arith, tests}
use Rattle.std.specs.declared.result.Result.{Result}
use Rattle.std.proofs.lemmas.List.{append-nil}
use Rattle.quantity.specs.Bytes.{Bytes}
use Rattle.source_text.specs.Lines.{Files}
use Rattle.ma_lines.specs.Sections.{Section}
use Rattle.atomic_face.specs.StockView.{Stocked}
use Rattle.room_edge.specs.Outside.{Outside}
use Rattle.model_leaves.specs.declared.table.Model.{Model}
use Rattle.model_leaves.specs.Models as code
use Rattle.model_leaves.specs.Leaves.{OfTree}
use Rattle.model_tree.specs.Paths.{path_count}
use Rattle.route_flat.specs.declared.routes.Routes.{Routes}
use Rattle.model_text.specs.declared.kind.Kind.{Kind}
use Rattle.model_text.specs.declared.kind.Kind.TheVariants.{TooManyRoutes, NoSuchPlane}
use Rattle.model_text.specs.Refusals.{refusal}
use Rattle.model_text.specs.Drawings.{Drawing, drawing_refused}
use Rattle.model_text.specs.InitialFiles.{initial_files, first_file_stop, names_looked_for}
use Rattle.model_text.specs.Trees.{tree_of_sections, no_files}
use Rattle.model_text.specs.ModelOf.{model, ModelRead, refuses, unless, model_unless, after_files, with_files}
use Rattle.model_read.specs.declared.refusal.ModelRefusal.{ModelRefusal}
use Rattle.model_read.specs.declared.refusal.ModelRefusal.TheVariants.{Missing, ReadFault, Refused, Memory}
use Rattle.model_read.specs.Reading.{Tried, IsLastTried, Counted, StopsAs, ReadsFiles}
use Rattle.model_build.specs.Boxes.{settings_of_stock}
use Rattle.model_read.specs.declared.found.ReadModel.{ReadModel}
use Rattle.asked_words.specs.declared.group.GroupAt.{GroupAt}
use Rattle.asked_words.specs.Group.{IsDrawn}
use Rattle.model_read.specs.Read.{ModelGives, IsReady, CanBeDrawn, Reads}
use Rattle.model_read.specs.Whole.{behind_limit}
use Rattle.model_read.proofs.Nothing.{nothing_changed}

abbrev Answer : Type 0
Answer = Result (ReadModel) ModelRefusal

-- ---- what is told of the files

pub on_any : {P : Files → Type 0} (o : Option Files) → ((folder : Files) → P folder) → IfSome o P
on_any None go = tt
on_any (Some folder) go = go folder

on_one : {P Q : Files → Type 0} (o : Option Files) → IfSome o P → ((folder : Files) → P folder → Q folder) → IfSome o Q
on_one None p go = tt
on_one (Some folder) p go = go folder p

-- ---- refused before any file was looked for

pub refused_at_once : (definition : Files → ModelRead) (drawing : Option Drawing) (stock : List Stocked) (o : Outside) (line : ℕ) (kind : Kind)
    → ((folder : Files) → definition folder ≡ refuses (refusal line kind)) → Reads definition drawing stock (Err (Refused line kind)) o o
refused_at_once definition drawing stock o line kind is =
    record {
      found = on_any o.files (λ folder. ap (λ (r : ModelRead). r.found) (is folder));
      tried = on_any o.files (λ folder. sym (append-nil o.tried) ∙ ap (λ (r : ModelRead). o.tried ++ r.looked) (sym (is folder)));
      ready = tt;
      drawn = tt;
      group = tt;
      last = tt;
      counted = (refl, refl);
      misses = le_refl o.misses;
      faults = le_refl o.read_faults;
      only = nothing_changed o;
    }

-- the same reading by another definition
pub reads_by : (a b : Files → ModelRead) (drawing : Option Drawing) (stock : List Stocked) (r : Answer) (old new : Outside) → ((folder : Files) → a folder ≡ b folder)
    → Reads a drawing stock r old new → Reads b drawing stock r old new
reads_by a b drawing stock r old new same h =
    record {
      found = on_one old.files h.found (λ folder g. subst (λ (d : ModelRead). ModelGives d.found stock r) (same folder) g);
      tried = on_one old.files h.tried (λ folder t. subst (λ (d : ModelRead). Tried r d.looked old.tried new.tried) (same folder) t);
      ready = h.ready;
      drawn = h.drawn;
      group = h.group;
      last = h.last;
      counted = h.counted;
      misses = h.misses;
      faults = h.faults;
      only = h.only;
    }

-- ---- the count of paths

is_past : (m n : ℕ) → m < n → nat_lt m n ≡ true
is_past m n h = grind (arith, tests)

is_within : (m n : ℕ) → n ≤ m → nat_lt m n ≡ false
is_within m n h = grind (arith, tests)

module _ (ss : List Section) (drawing : Option Drawing) (stock : List Stocked) where
  abbrev paths : ℕ
  paths = path_count (tree_of_sections no_files ss)

  pub too_many : 65536 < path_count (tree_of_sections no_files ss) → (o : Outside) → Reads (behind_limit ss drawing) drawing stock (Err (Refused 0 TooManyRoutes)) o o
  too_many h o = refused_at_once (behind_limit ss drawing) drawing stock o 0 TooManyRoutes (λ folder.
      ap (λ b. unless (cond b (Some (refusal 0 TooManyRoutes)) None) (λ _. with_files ss folder drawing)) (is_past 65536 (path_count (tree_of_sections no_files ss)) h))

  few_are : path_count (tree_of_sections no_files ss) ≤ 65536 → (folder : Files) → behind_limit ss drawing folder ≡ with_files ss folder drawing
  few_are h folder = ap (λ b. unless (cond b (Some (refusal 0 TooManyRoutes)) None) (λ _. with_files ss folder drawing)) (is_within 65536 (path_count (tree_of_sections no_files ss)) h)

  -- ---- the files

  found_as : (T : Type 0) (w : ModelRefusal) (folder : Files) → StopsAs {T = T} (Err w) (first_file_stop folder (initial_files ss)) → ModelGives (with_files ss folder drawing).found stock (Err w)
  found_as T (Missing name) folder s = ap (λ o. after_files o drawing (tree_of_sections folder ss)) s
  found_as T (Refused line kind) folder s = ap (λ o. after_files o drawing (tree_of_sections folder ss)) s
  found_as T (ReadFault name) folder s = tt
  found_as T Memory folder s = tt

  tried_as : (T : Type 0) (w : ModelRefusal) (looked old new : List Bytes) → Tried {T = T} (Err w) looked old new → Tried {T = ReadModel} (Err w) looked old new
  tried_as T (Missing name) looked old new t = t
  tried_as T (Refused line kind) looked old new t = t
  tried_as T (ReadFault name) looked old new t = t
  tried_as T Memory looked old new t = t

  last_as : (T : Type 0) (w : ModelRefusal) (tried : List Bytes) → IsLastTried {T = T} (Err w) tried → IsLastTried {T = ReadModel} (Err w) tried
  last_as T (Missing name) tried l = l
  last_as T (ReadFault name) tried l = l
  last_as T (Refused line kind) tried l = tt
  last_as T Memory tried l = tt

  counted_as : (T : Type 0) (w : ModelRefusal) (o n : Outside) → Counted {T = T} (Err w) o n → Counted {T = ReadModel} (Err w) o n
  counted_as T (Missing name) o n c = c
  counted_as T (ReadFault name) o n c = c
  counted_as T (Refused line kind) o n c = c
  counted_as T Memory o n c = c

  pub files_stop : (T : Type 0) (w : ModelRefusal) (o n : Outside) → path_count (tree_of_sections no_files ss) ≤ 65536 → ReadsFiles {T = T} (initial_files ss) (Err w) o n
      → Reads (behind_limit ss drawing) drawing stock (Err w) o n
  files_stop T w o n few a =
      reads_by (λ folder. with_files ss folder drawing) (behind_limit ss drawing) drawing stock (Err w) o n (λ folder. sym (few_are few folder))
      (record {
        found = on_one o.files a.stops (λ folder s. found_as T w folder s);
        tried = on_one o.files a.tried (λ folder t. tried_as T w (names_looked_for folder (initial_files ss)) o.tried n.tried t);
        ready = tt;
        drawn = tt;
        group = tt;
        last = last_as T w n.tried a.last;
        counted = counted_as T w o n a.counted;
        misses = a.misses;
        faults = a.faults;
        only = a.only;
      })

  -- ---- the drawing

  pub no_plane : (T : Type 0) (x : T) (o n : Outside) → path_count (tree_of_sections no_files ss) ≤ 65536 → ReadsFiles (initial_files ss) (Ok x) o n
      → ((folder : Files) → drawing_refused drawing (tree_of_sections folder ss) ≡ Some (refusal 0 NoSuchPlane))
      → Reads (behind_limit ss drawing) drawing stock (Err (Refused 0 NoSuchPlane)) o n
  no_plane T x o n few a off =
      reads_by (λ folder. with_files ss folder drawing) (behind_limit ss drawing) drawing stock (Err (Refused 0 NoSuchPlane)) o n (λ folder. sym (few_are few folder))
      (record {
        found = on_one o.files a.stops (λ folder s.
            ap (λ x. after_files x drawing (tree_of_sections folder ss)) s ∙ ap (λ r. model_unless r (tree_of_sections folder ss)) (off folder));
        tried = a.tried;
        ready = tt;
        drawn = tt;
        group = tt;
        last = tt;
        counted = a.counted;
        misses = a.misses;
        faults = a.faults;
        only = a.only;
      })

  -- ---- a model

  both_told : {P Q R : Files → Type 0} (o : Option Files) → IfSome o P → IfSome o Q → ((folder : Files) → P folder → Q folder → R folder) → IfSome o R
  both_told None p q go = tt
  both_told (Some folder) p q go = go folder p q

  pub a_model : (T : Type 0) (x : T) (m : Model) (routes : Routes) (drawn : Option GroupAt) (o n : Outside) → path_count (tree_of_sections no_files ss) ≤ 65536 → ReadsFiles (initial_files ss) (Ok x) o n
      → ((folder : Files) → drawing_refused drawing (tree_of_sections folder ss) ≡ None)
      → IfSome o.files (λ folder. tree_of_sections folder ss ≡ code.tree_of m (settings_of_stock stock)) → IsReady stock m routes → CanBeDrawn drawing stock m → OfTree m (λ t. IsDrawn drawing drawn t)
      → Reads (behind_limit ss drawing) drawing stock (Ok (record { model = m; routes = routes; drawn = drawn })) o n
  a_model T x m routes drawn o n few a allowed is ready can group =
      reads_by (λ folder. with_files ss folder drawing) (behind_limit ss drawing) drawing stock (Ok (record { model = m; routes = routes; drawn = drawn })) o n (λ folder. sym (few_are few folder))
      (record {
        found = both_told o.files a.stops is (λ folder s e.
            ap (λ x. after_files x drawing (tree_of_sections folder ss)) s ∙ ap (λ r. model_unless r (tree_of_sections folder ss)) (allowed folder) ∙ ap model e);
        tried = a.tried;
        ready = ready;
        drawn = can;
        group = group;
        last = tt;
        counted = a.counted;
        misses = a.misses;
        faults = a.faults;
        only = a.only;
      })
