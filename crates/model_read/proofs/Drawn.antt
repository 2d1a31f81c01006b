-- The plane that is drawn, by the names and spaces of groups alone.
use Rattle.std.proofs.Common.{◌≡◌, ℕ, ◌+◌, Bool, true, false, cond, nat_lt, Option, Some, None, List, [], ◌∷◌, ◌++◌, map, length, refl, sym, ap, ◌∙◌}
use Rattle.std.specs.List.{find}
use Rattle.std.specs.Str.{bytes_eq}
use Rattle.std.proofs.lemmas.List.{map-append}
use Rattle.quantity.specs.Bytes.{Bytes}
use Rattle.quantity.specs.declared.value.Value.{Value}
use Rattle.source_text.specs.Lines.{Files}
use Rattle.ma_lines.specs.Sections.{Section}
use Rattle.cell_grid.specs.Space.{Space, plane_count}
use Rattle.model_leaves.specs.Laid.{tree_with_values, laid_from, all_laid_from}
use Rattle.model_tree.specs.Tree as T
use Rattle.model_tree.specs.Tree.{Group, Tree, Trees, coupled, cells, atomic, nil, cons}
use Rattle.model_text.specs.declared.kind.Kind.TheVariants.{NoSuchPlane}
use Rattle.model_text.specs.Refusals.{Refusal, refusal}
use Rattle.model_text.specs.Drawings as D
use Rattle.model_text.specs.Spaces.{space_of}
use Rattle.model_text.specs.Trees.{group_of_section, tree_of_sections}
use Rattle.model_text.specs.Walk.{groups}
use Rattle.model_read.specs.declared.group_space.GroupSpace.{GroupSpace}
use Rattle.model_read.specs.Spaces.{kept_space, said_space}
use Rattle.model_read.specs.Ends as ends

abbrev Face : Type 0
Face = Bytes × Space

abbrev face_of : Group → Face
face_of g = (g.name, g.space)

-- whether the first of this name has the plane
abbrev plane_in : ℕ → Bytes → List Face → Bool
plane_in plane name [] = false
plane_in plane name (f ∷ fs) = cond (bytes_eq f.0 name) (nat_lt plane (plane_count f.1)) (plane_in plane name fs)

plane_of_groups : (plane : ℕ) (name : Bytes) (gs : List Group) → D.has_plane plane (find (λ (g : Group). bytes_eq g.name name) gs) ≡ plane_in plane name (map face_of gs)
plane_of_groups plane name [] = refl
plane_of_groups plane name (g ∷ gs) = go (bytes_eq g.name name) (plane_of_groups plane name gs)
  where
    go : (b : Bool) → D.has_plane plane (find (λ (g : Group). bytes_eq g.name name) gs) ≡ plane_in plane name (map face_of gs)
        → D.has_plane plane (cond b (Some g) (find (λ (g : Group). bytes_eq g.name name) gs)) ≡ cond b (nat_lt plane (plane_count g.space)) (plane_in plane name (map face_of gs))
    go true later = refl
    go false later = later

abbrev kept_face : GroupSpace → Face
kept_face g = (g.section.now.name, g.grid)

plane_of_kept : (plane : ℕ) (name : Bytes) (gs : List GroupSpace)
    → ends.has_plane plane (find (λ (g : GroupSpace). bytes_eq g.section.now.name name) gs) ≡ plane_in plane name (map kept_face gs)
plane_of_kept plane name [] = refl
plane_of_kept plane name (g ∷ gs) = go (bytes_eq g.section.now.name name) (plane_of_kept plane name gs)
  where
    go : (b : Bool) → ends.has_plane plane (find (λ (g : GroupSpace). bytes_eq g.section.now.name name) gs) ≡ plane_in plane name (map kept_face gs)
        → ends.has_plane plane (cond b (Some g) (find (λ (g : GroupSpace). bytes_eq g.section.now.name name) gs)) ≡ cond b (nat_lt plane (plane_count g.grid)) (plane_in plane name (map kept_face gs))
    go true later = refl
    go false later = later

-- ---- the faces of groups

abbrev face_in : Section → Face
face_in s = (s.name, space_of s)

made_faces : (folder : Files) (ss xs : List Section) → map face_of (map (group_of_section folder ss) xs) ≡ map face_in xs
made_faces folder ss [] = refl
made_faces folder ss (x ∷ xs) = ap (λ fs. face_in x ∷ fs) (made_faces folder ss xs)

abbrev face_shown : (Section × Space) → Face
face_shown p = (p.0.name, p.1)

kept_faces : (gs : List GroupSpace) → map kept_face gs ≡ map face_shown (map kept_space gs)
kept_faces [] = refl
kept_faces (g ∷ gs) = ap (λ fs. (g.section.now.name, g.grid) ∷ fs) (kept_faces gs)

said_faces : (xs : List Section) → map face_shown (map said_space xs) ≡ map face_in xs
said_faces [] = refl
said_faces (x ∷ xs) = ap (λ fs. face_in x ∷ fs) (said_faces xs)

mutual
  laid_faces : (t : Tree) (first : ℕ) (values : List (List Value)) → map face_of (T.groups (laid_from t first values)) ≡ map face_of (T.groups t)
  laid_faces (coupled name ins outs children links) first values = all_laid_faces children first values
  laid_faces (cells g) first values = refl
  laid_faces (atomic name class settings) first values = refl

  all_laid_faces : (ts : Trees) (first : ℕ) (values : List (List Value)) → map face_of (T.all_groups (all_laid_from ts first values)) ≡ map face_of (T.all_groups ts)
  all_laid_faces nil first values = refl
  all_laid_faces (cons t ts) first values =
      map-append face_of (T.groups (laid_from t first values)) (T.all_groups (all_laid_from ts (first + length (T.groups t)) values))
      ∙ ap (λ fs. fs ++ map face_of (T.all_groups (all_laid_from ts (first + length (T.groups t)) values))) (laid_faces t first values)
      ∙ ap (λ fs. map face_of (T.groups t) ++ fs) (all_laid_faces ts (first + length (T.groups t)) values)
      ∙ sym (map-append face_of (T.groups t) (T.all_groups ts))

-- ---- what a drawing refuses

abbrev pub refusal_if : Bool → Option Refusal
refusal_if there = cond there None (Some (refusal 0 NoSuchPlane))

alike : (drawing : Option D.Drawing) (t u : Tree) → map face_of (T.groups t) ≡ map face_of (T.groups u) → D.drawing_refused drawing t ≡ D.drawing_refused drawing u
alike None t u e = refl
alike (Some d) t u e =
    ap refusal_if (plane_of_groups d.plane d.group (T.groups t) ∙ ap (plane_in d.plane d.group) e ∙ sym (plane_of_groups d.plane d.group (T.groups u)))

-- values change nothing of it
pub drawn_alike : (drawing : Option D.Drawing) (t : Tree) (values : List (List Value)) → D.drawing_refused drawing (tree_with_values values t) ≡ D.drawing_refused drawing t
drawn_alike drawing t values = alike drawing (tree_with_values values t) t (laid_faces t 0 values)

-- with whatever files, just what is not there among the groups as they are kept
pub refused_where : (drawing : Option D.Drawing) (gs : List GroupSpace) (folder : Files) (ss : List Section) → map kept_space gs ≡ map said_space (groups ss)
    → T.groups (tree_of_sections folder ss) ≡ map (group_of_section folder ss) (groups ss) → D.drawing_refused drawing (tree_of_sections folder ss) ≡ refusal_if (ends.can_draw drawing gs)
refused_where None gs folder ss kept met = refl
refused_where (Some d) gs folder ss kept met =
    ap refusal_if
    (plane_of_groups d.plane d.group (T.groups (tree_of_sections folder ss))
    ∙ ap (plane_in d.plane d.group) (ap (map face_of) met ∙ made_faces folder ss (groups ss) ∙ sym (said_faces (groups ss)) ∙ ap (map face_shown) (sym kept) ∙ sym (kept_faces gs))
    ∙ sym (plane_of_kept d.plane d.group gs))
