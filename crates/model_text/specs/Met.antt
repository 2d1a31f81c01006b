-- What is known of each step of the walk of a model that the phases up to the limit of links don't
-- refuse.
use Rattle.std.specs.Prelude.{◌≡◌, true, false, not, ◌&&◌, nat_le, None, List, [], map, length, codes}
use Rattle.std.specs.List.{filter}
use Rattle.std.specs.Option.{is_some}
use Rattle.std.specs.Str.{bytes_eq}
use Rattle.quantity.specs.Bytes.{Bytes, is_among, has_repeat}
use Rattle.quantity.specs.declared.bounds.TheConstants.{MAX_ATOMICS}
use Rattle.source_text.specs.Lines.{Files}
use Rattle.ma_lines.specs.Sections.{Section}
use Rattle.model_tree.specs.Sound.{are_accepted, is_sound_group}
use Rattle.model_text.specs.Keyed.{Item, texts_of}
use Rattle.model_text.specs.Walk.{top, is_group, is_item, is_atomic, item_name, section_of_item, Step, at_section, at_item, section_refused}
use Rattle.model_text.specs.Stock.{class_of_item}
use Rattle.model_text.specs.Links.{links_of, face_of}
use Rattle.model_text.specs.Trees.{group_of_section}

-- a section whose ports differ, whose links are accepted in order, and which is a sound group where
-- it is one
pub record RightSection (files : Files) (ss : List Section) (s : Section) : Type 0 where
  pub ins : has_repeat (texts_of (codes "in") s) ≡ false
  pub outs : has_repeat (texts_of (codes "out") s) ≡ false
  pub links : are_accepted (face_of ss s) [] (links_of s) ≡ true
  pub group : is_group s ≡ true → is_sound_group (group_of_section files ss s) ≡ true

-- what an item is that isn't refused after these items, between the names of the sections around it
pub record Right (ss : List Section) (before : List Item) (around : List Bytes)
    (i : Item) : Type 0 where
  pub form : not (is_item i) ≡ false
  pub not_top : bytes_eq (item_name i) top ≡ false
  pub not_around : is_among around (item_name i) ≡ false
  pub new : is_among (map item_name before) (item_name i) ≡ false
  pub fits : (is_atomic i && nat_le MAX_ATOMICS (length (filter is_atomic before))) ≡ false
  pub found : (not (is_atomic i) && not (is_some (section_of_item ss i))) ≡ false

-- after some items
abbrev pub RightItem : List Section → List Bytes → Item → Type 0
RightItem ss around i = (before : List Item) × Right ss before around i

-- its class is there
abbrev pub HasClass : Item → Type 0
HasClass i = is_some (class_of_item i) ≡ true

-- a section that is right, or an item that is right and has a class where it is atomic
abbrev pub Met : Files → List Section → Step → Type 0
Met files ss (at_section line deep s) =
    (section_refused line deep s ≡ None) × RightSection files ss s
Met files ss (at_item around i) = RightItem ss around i × (is_atomic i ≡ true → HasClass i)
