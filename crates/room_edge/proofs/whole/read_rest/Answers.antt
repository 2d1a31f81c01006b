use Rattle.std.proofs.Common.{◌≡◌, ◌+◌, ◌∙◌, refl, rules}
use Rattle.room_edge.proofs.Reading.{none_taken, front_added, more_taken, piece_failed, piece_ended, piece_past, piece_lost, OnlyRest-refl, OnlyRest-trans}
use Rattle.room_edge.proofs.whole.read_rest.Goals as goal

pub loop-n-init : goal.loop-n-init
loop-n-init g c = record {
  asked = c.requires.asked;
  short = search rules;
  opened = c.requires.opened;
  rest = none_taken _ _ c.requires.none;
  counts_faults = refl;
  only = OnlyRest-refl _;
}

pub returns-in_default : goal.returns-in_default
returns-in_default g c =
    let was = c.loop-n.invariant in
    piece_failed c.in_default.field-0 _ _ c.read_input.new.into _ _ _ was.counts_faults was.only
    c.in_default.ensures

pub returns-then-n-eq0 : goal.returns-then-n-eq0
returns-then-n-eq0 g c =
    let was = c.loop-n.invariant in
    piece_ended tt _ c.in-Ok.n _ c.read_input.new.into _ _ _ c.if-n-eq0.true was.short was.rest
    was.counts_faults was.only c.in-Ok.ensures

pub returns-then-n-limit : goal.returns-then-n-limit
returns-then-n-limit g c =
    let was = c.loop-n.invariant in
    let past : c.len-then-n-limit.result + c.in-Ok.n ≡ c.args.limit + 1 = search rules in
    piece_past _ c.in-Ok.n c.len-then-n-limit.result c.loop-n.bytes.items c.read_input.new.into _ _ _ past
    (search rules) was.rest was.counts_faults was.only c.in-Ok.ensures

pub returns-then-is_err : goal.returns-then-is_err
returns-then-is_err g c =
    let was = c.loop-n.invariant in
    piece_lost _ c.in-Ok.n _ c.read_input.new.into _ _ _ was.counts_faults was.only c.in-Ok.ensures

pub loop-n-preserved : goal.loop-n-preserved
loop-n-preserved g c =
    let was = c.loop-n.invariant in
    let step = c.in-Ok.ensures in
    let added =
    front_added _ c.in-Ok.n c.truncate.new.self.len c.loop-n.bytes.items c.extend_from_slice.new.self.items
    c.read_input.new.into _ c.deref.result.now c.extend_from_slice.ensures.items c.if-is_err.ensures.negation
    c.deref.ensures.value step.bound (search rules) in
    record {
      asked = search rules;
      short = search rules;
      opened = step.only.opened ∙ was.opened;
      rest = more_taken _ _ _ c.loop-n.bytes.items c.read_input.new.into _ c.in-Ok.n added was.rest step.bytes;
      counts_faults = step.ok ∙ was.counts_faults;
      only = OnlyRest-trans _ _ _ was.only step.only;
    }
