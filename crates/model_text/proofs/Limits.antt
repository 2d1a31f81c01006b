-- What is refused where nothing is but a limit.
use Rattle.std.proofs.Common.{◌≡◌, Bool, true, cond, ◌||◌, Option, Some, None, List, nat_lt, refl, ap, ◌∙◌, ◌⊎◌, codes, inl, inr, arith}
use Rattle.quantity.specs.Bytes.{Bytes}
use Rattle.source_text.specs.Lines.{Files}
use Rattle.ma_lines.specs.Sections.{Section}
use Rattle.atomic_face.specs.declared.class.Class.{Class}
use Rattle.model_tree.specs.Tree.{Group, Trees, cells, coupled, ins_of, outs_of}
use Rattle.model_tree.specs.declared.link.Link.{Link}
use Rattle.model_text.specs.declared.kind.Kind.TheVariants.{TooLarge}
use Rattle.model_text.specs.Refusals.{Refusal, refusal}
use Rattle.model_text.specs.Keyed.{section_named, texts_of}
use Rattle.model_text.specs.Walk.{top, is_group}
use Rattle.model_text.specs.Links.{link_count, links_of}
use Rattle.model_text.specs.Drawings.{Drawing}
use Rattle.model_text.specs.Trees.{group_of_section, tree_of_section, tree_of_sections, no_files}
use Rattle.model_text.specs.ModelOf.{unless, link_limit_refused, routes_refused, with_files, model_of}
use Rattle.model_text.specs.Limits.{HasRightLinks, HasMany}

-- only the limits decide
pub limits_decide : (bytes : Bytes) (files : Files) (classes : List Class) (drawing : Option Drawing) (ss : List Section) → HasRightLinks bytes classes ss
    → model_of bytes files classes drawing ≡ unless (link_limit_refused ss) (λ _. unless (routes_refused ss) (λ _. with_files ss files drawing))
unfolding model_of
limits_decide bytes files classes drawing ss p =
    rw p.short rw p.lines rw p.top rw p.tree rw p.keys rw p.cells rw p.spaces rw p.stock rw p.rules rw p.links refl

-- ---- the ports of top

-- of a component of these ports, whether it is a group or not
ports_by : (b : Bool) (g : Group) (name : Bytes) (ins outs : List Bytes) (ts : Trees) (ls : List Link) → g.ins ≡ ins → g.outs ≡ outs
    → (ins_of (cond b (cells g) (coupled name ins outs ts ls)) ≡ ins) × (outs_of (cond b (cells g) (coupled name ins outs ts ls)) ≡ outs)
ports_by b g name ins outs ts ls e f = grind arith

ports_are : (ss : List Section) (s : Section) → section_named ss top ≡ Some s → (ins_of (tree_of_sections no_files ss) ≡ texts_of (codes "in") s) × (outs_of (tree_of_sections no_files ss) ≡ texts_of (codes "out") s)
ports_are ss s e =
    let ports = ports_by (is_group s) (group_of_section no_files ss s) s.name (texts_of (codes "in") s) (texts_of (codes "out") s) _ (links_of s) refl refl in
    (ap (λ o. ins_of (tree_of_section no_files ss o)) e ∙ ports.0, ap (λ o. outs_of (tree_of_section no_files ss o)) e ∙ ports.1)

limit_passed : (a b c : Bool) (x : Refusal) → (b ≡ true) ⊎ (c ≡ true) → cond ((a || b) || c) (Some x) None ≡ Some x
limit_passed a b c x h = grind arith

pub many_inputs : (ss : List Section) (s : Section) → HasMany (codes "in") ss s → link_limit_refused ss ≡ Some (refusal 0 TooLarge)
many_inputs ss s h = limit_passed (nat_lt 16384 (link_count ss)) _ _ (refusal 0 TooLarge) (inl (rw (ports_are ss s h.0).0 h.1))

pub many_outputs : (ss : List Section) (s : Section) → HasMany (codes "out") ss s → link_limit_refused ss ≡ Some (refusal 0 TooLarge)
many_outputs ss s h = limit_passed (nat_lt 16384 (link_count ss)) _ _ (refusal 0 TooLarge) (inr (rw (ports_are ss s h.0).1 h.1))
