use Rattle.std.proofs.Common.{◌≡◌, ◌<◌, length, get_or, sym, ◌∙◌, ap, arith}
use Rattle.std.proofs.lemmas.List.{length-map, get_or-map}
use Rattle.tree_mail.specs.Notes.{note_of, notes_of}
use Rattle.tree_mail.proofs.Recording.{added-further}
use Rattle.tree_mail.proofs.records.record_all.Goals as goal

pub loop-i-preserved : goal.loop-i-preserved
loop-i-preserved c =
    let es = c.args.entries.now in
    let ks = c.args.mail.now.kept.items in
    let i = c.loop-i.i in
    let e = c.index-entries-i.result in
    let k = c.index.result.now in
    let within : i < length es = c.loop-i-test.true in
    let inside : i < length ks = omega (arith, c.requires.kept) in
    let noted : i < length (notes_of ks) = omega (arith, length-map ks note_of) in
    let there : note_of k ≡ get_or (notes_of ks) i (note_of k) =
    ap note_of c.index.ensures ∙ sym (get_or-map note_of ks i k (note_of k) inside) in
    added-further c.args.t es (notes_of ks) i e e (note_of k) (note_of k) within c.index-entries-i.is noted there c.loop-i.records c.record_entry.new.records c.in_ok-record_entry.ensures c.loop-i.invariant
