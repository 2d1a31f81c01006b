use Rattle.std.proofs.Common.{◌≤◌, Bool, true, false, ◌+◌, ◌++◌, ◌∷◌, [], Some, map, get_or, drop, take, slice_get, sym, ap, ◌∙◌, Vec, Global, List, Bor, arith}
use Rattle.std.proofs.lemmas.List.{length-take, length-map, take_all}
use Rattle.std.proofs.lemmas.Option.{slice_get-map}
use Rattle.std.specs.Option.{option_map}
use Rattle.std.specs.Int.{from_bool}
use Rattle.ma_lines.specs.Sections.{Section}
use Rattle.cell_grid.specs.Space.{Space}
use Rattle.model_tree.specs.declared.link.Link.{Link}
use Rattle.model_text.specs.Keyed.{least_refusal}
use Rattle.model_text.specs.Walk.{is_group}
use Rattle.model_text.specs.Spaces.{space_of}
use Rattle.model_text.specs.Links.{links_of, of_links}
use Rattle.model_walk.specs.Shown.{refusal_of}
use Rattle.model_walk.specs.Least.{earlier_refusal}
use Rattle.model_walk.specs.Met.{sections_at}
use Rattle.model_walk.specs.declared.placed.PlacedGroup.{PlacedGroup}
use Rattle.model_links.proofs.Judging.{all_refused, groups_few, groups_more, group_at, section_step, links_step, sections_end}
use Rattle.model_links.proofs.Lists.{mapped_at, mapped_past}
use Rattle.model_links.proofs.section.all_links.Goals as goal

from_bool_small : (b : Bool) → from_bool b ≤ 1
from_bool_small true = omega arith
from_bool_small false = omega arith

abbrev items_in : Vec Link Global → List Link
items_in links = links.items

abbrev grid_in : PlacedGroup → Space
grid_in g = g.grid

abbrev section_at : Bor Section → Section
section_at r = r.now

pub grid_of-requires : goal.grid_of-requires
grid_of-requires c = λ e.
    let rs = sections_at c.args.met.now in
    let i = c.loop-section.section-index in
    let r = c.section-item.result.now in
    let at = mapped_at section_at c.args.met.now i c.section-item.result c.loop-section-test.true c.section-item.is in
    let gs = c.args.groups.now in
    sym (slice_get-map grid_in gs c.loop-section.next) ∙ ap (slice_get (map grid_in gs)) c.loop-section.invariant.next
    ∙ group_at rs i r (map grid_in gs) at.0 c.requires (sym (ap is_group at.1) ∙ e) ∙ ap (λ (s : Section). Some (space_of s)) (sym at.1)

pub overflow_add-next : goal.overflow_add-next
overflow_add-next c =
    let rs = sections_at c.args.met.now in
    let few = groups_few (take c.loop-section.section-index rs) in
    let front = length-take c.loop-section.section-index rs in
    let all = length-map c.args.met.now section_at in
    let one = from_bool_small c.is_group.result in
    let is = c.from.ensures in
    omega arith

pub loop-section-preserved : goal.loop-section-preserved
loop-section-preserved c =
    let rs = sections_at c.args.met.now in
    let i = c.loop-section.section-index in
    let r = c.section-item.result.now in
    let at = mapped_at section_at c.args.met.now i c.section-item.result c.loop-section-test.true c.section-item.is in
    let ss = c.args.sections.now in
    let added = c.in_ok-add_section.ensures in
    record {
      next = ap (λ n. c.loop-section.next + n) (c.from.ensures ∙ ap from_bool (c.is_group.ensures ∙ ap is_group (c.section.ensures ∙ at.1)))
          ∙ ap (λ n. n + from_bool (is_group (get_or rs i r))) c.loop-section.invariant.next ∙ sym (groups_more rs i r at.0);
      links = links_step rs i r (map items_in c.loop-section.all.links.items) (map items_in c.add_section.new.all.links.items) at.0
          (added.links ∙ ap (λ (s : Section). map items_in c.loop-section.all.links.items ++ links_of s ∷ []) at.1) c.loop-section.invariant.links;
      refused = ap (λ o. earlier_refusal o (least_refusal (all_refused ss (drop (i + 1) rs)))) added.refused
          ∙ section_step ss rs i r (option_map refusal_of c.loop-section.all.refused) (least_refusal (of_links ss r)) (least_refusal (all_refused ss rs)) at.0
          (ap (λ (s : Section). least_refusal (of_links ss s)) at.1) c.loop-section.invariant.refused;
    }

pub returns-clause-links : goal.returns-clause-links
returns-clause-links c =
    c.loop-section.invariant.links
    ∙ ap (map links_of) (take_all c.loop-section.section-index (sections_at c.args.met.now) (mapped_past section_at c.args.met.now c.loop-section.section-index c.loop-section-test.false))

pub returns-clause-refused : goal.returns-clause-refused
returns-clause-refused c =
    sections_end c.args.sections.now (sections_at c.args.met.now) c.loop-section.section-index (option_map refusal_of c.loop-section.all.refused) _ (mapped_past section_at c.args.met.now c.loop-section.section-index c.loop-section-test.false) c.loop-section.invariant.refused
