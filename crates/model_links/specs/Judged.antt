-- Private: the links of a section as they are found and judged by what is kept of its face.
use Rattle.std.specs.Prelude.{Bool, not, ◌&&◌, nat_lt, Option, Some, None, List, [], ◌∷◌, ◌++◌}
use Rattle.std.specs.Prelude.{if◌then◌else◌, option_to_list, codes}
use Rattle.std.specs.List.{filter, list_any}
use Rattle.std.specs.Option.{option_map}
use Rattle.std.specs.Str.{bytes_eq}
use Rattle.quantity.specs.Bytes.{is_empty}
use Rattle.rule_tree.specs.Phrases.{out}
use Rattle.ma_lines.specs.declared.section.Entry.{Entry}
use Rattle.ma_lines.specs.Sections.{Section}
use Rattle.model_tree.specs.declared.link.End.{End}
use Rattle.model_tree.specs.declared.link.End.TheVariants.{Own, Child, Cell}
use Rattle.model_tree.specs.declared.link.Link.{Link}
use Rattle.model_tree.specs.declared.refusal.LinkRefusal.TheVariants as T
use Rattle.model_tree.specs.Faces.{same_end, same_link, is_at_one_child, are_own}
use Rattle.model_text.specs.declared.kind.Kind.{Kind}
use Rattle.model_text.specs.declared.kind.Kind.TheVariants.{UnknownPort}
use Rattle.model_text.specs.Refusals.{Refusal, refusal, kind_of_link}
use Rattle.model_text.specs.Links.{link_of}
use Rattle.model_links.specs.declared.face.Face.{Face}
use Rattle.model_links.specs.declared.section.FoundLink.{FoundLink}
use Rattle.model_links.specs.Faces.{sources_of, targets_of}

-- ---- ends of a face as it is kept

-- whether a link may begin at an end
abbrev pub is_source_of : Face → End → Bool
is_source_of f (Own port) = list_any (same_end (Own port)) (sources_of f)
is_source_of f (Child port child) = list_any (same_end (Child port child)) (sources_of f)
is_source_of f (Cell port cell) = bytes_eq port out && nat_lt cell f.cells

-- whether it may end there
abbrev pub is_target_of : Face → End → Bool
is_target_of f (Own port) = list_any (same_end (Own port)) (targets_of f)
is_target_of f (Child port child) = list_any (same_end (Child port child)) (targets_of f)
is_target_of f (Cell port cell) = nat_lt cell f.cells

-- ---- refusals

-- why a link is refused, by whether its ends are known and whether it is there already
abbrev pub cause_of : Bool → Bool → Link → Option Kind
cause_of is_known is_there l =
    option_map kind_of_link
    (if not is_known then Some T.UnknownPort
    else if is_at_one_child l.from l.to then Some T.SelfLink
    else if are_own l.from l.to then Some T.PassThrough
    else if is_there then Some T.DuplicateLink
    else None)

-- why an entry's link is refused that stands after these
abbrev pub kind_after : Face → List Link → Option Link → Option Kind
kind_after f before None = Some UnknownPort
kind_after f before (Some l) =
    cause_of (is_source_of f l.from && is_target_of f l.to) (list_any (same_link l) before) l

-- on its line
abbrev pub refusal_after : Face → List Link → FoundLink → Option Refusal
refusal_after f before x = option_map (refusal x.line) (kind_after f before x.link)

-- what is refused of these, after those
abbrev pub refused_after : Face → List Link → List FoundLink → List Refusal
refused_after f before [] = []
refused_after f before (x ∷ xs) =
    option_to_list (refusal_after f before x)
    ++ refused_after f (before ++ option_to_list x.link) xs

-- ---- entries

-- those of these entries that are links, and not empty ones
abbrev pub links_among : List Entry → List Entry
links_among es =
    filter (λ (e : Entry). not (is_empty e.value))
    (filter (λ (e : Entry). bytes_eq e.key (codes "link")) es)

-- the link of an entry, with its line
abbrev pub found_at : Section → Entry → FoundLink
found_at s e = record { line = e.line; link = link_of s e }
