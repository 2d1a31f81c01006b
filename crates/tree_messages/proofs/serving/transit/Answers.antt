use Rattle.std.proofs.Common.{◌≡◌, ℕ, Bool, Option, Some, length, refl, sym, subst}
use Rattle.std.specs.Prelude.{slice_get}
use Rattle.std.proofs.lemmas.Option.{slice_get_read}
use Rattle.std.proofs.lemmas.Result.{on_ok_weaker}
use Rattle.atomic_face.specs.Classes.{Bag}
use Rattle.tree_tables.specs.declared.entry.Entry.{Entry}
use Rattle.tree_mail.specs.declared.tables.Tables.{Tables}
use Rattle.tree_messages.specs.Changes.{Changing, changing_of_mail, Transits, TransitsBy}
use Rattle.tree_messages.proofs.Becoming.{stays-same}
use Rattle.tree_mail.proofs.Noting.{kept-there}
use Rattle.tree_messages.proofs.serving.transit.Goals as goal

-- it is the entry of this number, and this is its leaf
transits-at : (ts : Tables) (t n : ℕ) (bag : Bag) (woken : Bool) (e : Entry) (leaf : Option ℕ) (old new : Changing) → slice_get ts.entries.items n ≡ Some e → e.leaf ≡ leaf
    → Transits old.leaves.model ts.entries.items ts.spaces.items t n bag woken e leaf old new → TransitsBy ts t n bag woken old new
transits-at ts t n bag woken e leaf old new there lies h x is =
    let same : e ≡ x = cc in
    subst (λ (y : Entry). Transits old.leaves.model ts.entries.items ts.spaces.items t n bag woken y y.leaf old new) same
    (subst (λ (o : Option ℕ). Transits old.leaves.model ts.entries.items ts.spaces.items t n bag woken e o old new) (sym lies) h)

pub pass-requires-clause-passes : goal.pass-requires-clause-passes
pass-requires-clause-passes g c =
    let es = c.args.tables.now.entries.items in
    let e = c.index-entry.result.now in
    c.requires.inner e (slice_get_read es (length es) c.args.to e refl c.requires.within c.index-entry.ensures) c.in-None.is

pub move_on-requires-clause-leaf : goal.move_on-requires-clause-leaf
move_on-requires-clause-leaf g c =
    let es = c.args.tables.now.entries.items in
    let e = c.index-entry.result.now in
    c.requires.leaf e c.in-Some.leaf (slice_get_read es (length es) c.args.to e refl c.requires.within c.index-entry.ensures) c.in-Some.is

pub returns-in-None-clause-transits : goal.returns-in-None-clause-transits
returns-in-None-clause-transits g c =
    let ts = c.args.tables.now in
    let es = ts.entries.items in
    let e = c.index-entry.result.now in
    let there = slice_get_read es (length es) c.args.to e refl c.requires.within c.index-entry.ensures in
    let due = c.args.due.now.items in
    let old = changing_of_mail c.args.mail.now c.args.leaves.now due in
    let new = changing_of_mail c.pass.new.mail c.args.leaves.now due in
    on_ok_weaker c.pass.result (λ passes. transits-at ts c.args.t c.args.to c.args.brought.bag.items c.args.brought.woken e _ old new there c.in-None.is (passes due)) c.pass.ensures

pub returns-in-Some-clause-transits : goal.returns-in-Some-clause-transits
returns-in-Some-clause-transits g c =
    let ts = c.args.tables.now in
    let es = ts.entries.items in
    let e = c.index-entry.result.now in
    let there = slice_get_read es (length es) c.args.to e refl c.requires.within c.index-entry.ensures in
    let old = changing_of_mail c.args.mail.now c.args.leaves.now c.args.due.now.items in
    let new = changing_of_mail c.move_on.new.mail c.move_on.new.leaves c.move_on.new.due.items in
    on_ok_weaker c.move_on.result (λ moves. transits-at ts c.args.t c.args.to c.args.brought.bag.items c.args.brought.woken e _ old new there c.in-Some.is moves) c.move_on.ensures.moves

pub pass-requires-clause-kept : goal.pass-requires-clause-kept
pass-requires-clause-kept g c = kept-there c.args.mail.now.kept.items c.args.to c.requires.kept

pub move_on-requires-clause-kept : goal.move_on-requires-clause-kept
move_on-requires-clause-kept g c = kept-there c.args.mail.now.kept.items c.args.to c.requires.kept

pub returns-in-None-clause-stays : goal.returns-in-None-clause-stays
returns-in-None-clause-stays g c = stays-same c.args.leaves.now
