use Rattle.std.proofs.Common.{map, length, refl, sym, ◌∙◌, ap}
use Rattle.std.proofs.lemmas.Option.{slice_get_read}
use Rattle.std.proofs.lemmas.Result.{on_ok_weaker}
use Rattle.served_tree.specs.Service.{collect}
use Rattle.tree_mail.specs.Notes.{notes_of}
use Rattle.tree_messages.specs.Changes.{changing_of_mail}
use Rattle.tree_messages.proofs.Asking.{asks-children, asks-leaf, asks-at, asked-stays}
use Rattle.tree_messages.proofs.Becoming.{due-read, stays-same}
use Rattle.tree_mail.proofs.Putting.{put-same}
use Rattle.tree_messages.proofs.serving.ask.Goals as goal

pub ask_leaf-requires : goal.ask_leaf-requires
ask_leaf-requires g c =
    let es = c.args.tables.now.entries.items in
    let e = c.index-entry.result.now in
    let l = c.in-Some.leaf in
    let there = slice_get_read es (length es) c.args.to e refl c.requires.within c.index-entry.ensures in
    sym (due-read c.args.due.now l c.index-due-leaf.result (c.requires.inside e l there c.in-Some.is) c.index-due-leaf.is)
    ∙ c.requires.due e l there c.in-Some.is

pub returns-in-None-clause-asks : goal.returns-in-None-clause-asks
returns-in-None-clause-asks g c =
    let es = c.args.tables.now.entries.items in
    let e = c.index-entry.result.now in
    let there = slice_get_read es (length es) c.args.to e refl c.requires.within c.index-entry.ensures in
    let old = changing_of_mail c.args.mail.now c.args.leaves.now c.args.due.now in
    let new = changing_of_mail c.ask_all.new.mail c.args.leaves.now c.args.due.now in
    on_ok_weaker c.ask_all.result
    (λ puts. asks-at es c.args.t c.args.to e old new there
    (asks-children c.args.t c.args.to e old new c.in-None.is
    (put-same c.args.mail.now.waiting c.ask_all.new.mail.waiting _ _ (ap (map collect) c.deref.ensures.value) puts)
    (ap (λ k. notes_of k.items) c.ask_all.ensures.kept) refl refl))
    c.ask_all.ensures.puts

pub returns-in-Some-clause-asks : goal.returns-in-Some-clause-asks
returns-in-Some-clause-asks g c =
    let es = c.args.tables.now.entries.items in
    let e = c.index-entry.result.now in
    let there = slice_get_read es (length es) c.args.to e refl c.requires.within c.index-entry.ensures in
    let old = changing_of_mail c.args.mail.now c.args.leaves.now c.args.due.now in
    let new = changing_of_mail c.ask_leaf.new.mail c.ask_leaf.new.leaves c.args.due.now in
    on_ok_weaker c.ask_leaf.result
    (λ puts. asks-at es c.args.t c.args.to e old new there
    (asks-leaf c.args.t c.args.to c.in-Some.leaf e old new c.in-Some.is puts
    (ap (λ k. notes_of k.items) c.ask_leaf.ensures.kept) c.ask_leaf.ensures.leaves refl))
    c.ask_leaf.ensures.puts

pub returns-in-None-clause-stays : goal.returns-in-None-clause-stays
returns-in-None-clause-stays g c = stays-same c.args.leaves.now

pub returns-in-Some-clause-stays : goal.returns-in-Some-clause-stays
returns-in-Some-clause-stays g c = asked-stays c.args.t c.in-Some.leaf c.args.leaves.now c.ask_leaf.new.leaves c.ask_leaf.ensures.leaves
