use Rattle.std.proofs.Common.{◌≡◌, ℕ, ◌+◌, ◌-◌, ◌<◌, ◌++◌, ◌&&◌, leb, List, map, length, take, drop, ◌∙◌, ap, arith}
use Rattle.std.proofs.lemmas.List.{take_at}
use Rattle.std.proofs.lemmas.List.Elements.{All-same}
use Rattle.cell_grid.specs.Space.{cell_count}
use Rattle.quantity.specs.Bytes.{has_number}
use Rattle.run_leaves.specs.Watching.{end_of}
use Rattle.run_leaves.proofs.MovedOn.{among-moved, all-moved}
use Rattle.run_leaves.proofs.blocks.Block.put_watchers.Goals as goal

pub returns-clause-within : goal.returns-clause-within
returns-clause-within c =
    let b = c.args.self.now in
    let found = c.watchers.new.into in
    let new = c.move_on.new.numbers in
    let moved : new ≡ map (λ (k : ℕ). b.first + k) found.items = c.move_on.ensures ∙ ap (map (λ (k : ℕ). b.first + k)) c.deref_mut.ensures.value in
    let long : length new ≡ found.len = omega (arith, c.move_on.auto.numbers, ap length c.deref_mut.ensures.value, c.deref_mut.ensures.len, found.ok.0) in
    All-same (λ (k : ℕ). k < end_of b) (take found.len (new ++ drop (length new) found.items)) (map (λ (k : ℕ). b.first + k) found.items) (take_at new (drop (length new) found.items) found.len long ∙ moved)
    (all-moved b.first (cell_count b.reach.space) found.items c.watchers.ensures.inside)

pub returns-clause-watch : goal.returns-clause-watch
returns-clause-watch c = λ k.
    let b = c.args.self.now in
    let found = c.watchers.new.into in
    let new = c.move_on.new.numbers in
    let moved : new ≡ map (λ (k : ℕ). b.first + k) found.items = c.move_on.ensures ∙ ap (map (λ (k : ℕ). b.first + k)) c.deref_mut.ensures.value in
    let long : length new ≡ found.len = omega (arith, c.move_on.auto.numbers, ap length c.deref_mut.ensures.value, c.deref_mut.ensures.len, found.ok.0) in
    ap (λ (xs : List ℕ). has_number xs k) (take_at new (drop (length new) found.items) found.len long ∙ moved)
    ∙ among-moved b.first found.items k ∙ ap (λ x. leb b.first k && x) (c.watchers.ensures.members (k - b.first))
