use Rattle.text_forms.specs.declared.letter.Letter.TheVariants.{Y, N, X, S}
use Rattle.text_forms.specs.RecordTexts.{y_texts, x_texts, s_texts}
use Rattle.text_forms.proofs.Appended.{of_letter, ok_chosen}
use Rattle.text_forms.proofs.text.put_letter.Goals as goal

pub returns-in-Y-clause-ok : goal.returns-in-Y-clause-ok
returns-in-Y-clause-ok c =
    of_letter c.put_given.result c.args.model.now c.args.into.now.items c.put_given.new.into.items
    c.args.letters.now c.args.records.now c.args.letter Y c.in-Y.is
    (ok_chosen c.put_given.result c.args.model.now c.args.into.now.items c.put_given.new.into.items
    (y_texts Y) c.args.letters.now.y c.args.records.now.y.items c.deref.result.now
    c.chosen.result.now c.deref.ensures.value c.chosen.ensures c.put_given.ensures.ok)

pub returns-in-N-clause-ok : goal.returns-in-N-clause-ok
returns-in-N-clause-ok c =
    of_letter c.put_given-in-N.result c.args.model.now c.args.into.now.items c.put_given-in-N.new.into.items
    c.args.letters.now c.args.records.now c.args.letter N c.in-N.is
    (ok_chosen c.put_given-in-N.result c.args.model.now c.args.into.now.items c.put_given-in-N.new.into.items
    (y_texts N) c.args.letters.now.n c.args.records.now.n.items c.deref-in-N.result.now
    c.chosen-in-N.result.now c.deref-in-N.ensures.value c.chosen-in-N.ensures c.put_given-in-N.ensures.ok)

pub returns-in-X-clause-ok : goal.returns-in-X-clause-ok
returns-in-X-clause-ok c =
    of_letter c.put_reached.result c.args.model.now c.args.into.now.items c.put_reached.new.into.items
    c.args.letters.now c.args.records.now c.args.letter X c.in-X.is
    (ok_chosen c.put_reached.result c.args.model.now c.args.into.now.items c.put_reached.new.into.items
    x_texts c.args.letters.now.x c.args.records.now.x.items c.deref-in-X.result.now
    c.chosen-in-X.result.now c.deref-in-X.ensures.value c.chosen-in-X.ensures c.put_reached.ensures.ok)

pub returns-in-S-clause-ok : goal.returns-in-S-clause-ok
returns-in-S-clause-ok c =
    of_letter c.put_moved.result c.args.model.now c.args.into.now.items c.put_moved.new.into.items
    c.args.letters.now c.args.records.now c.args.letter S c.in-S.is
    (ok_chosen c.put_moved.result c.args.model.now c.args.into.now.items c.put_moved.new.into.items
    s_texts c.args.letters.now.s c.args.records.now.s.items c.deref-in-S.result.now
    c.chosen-in-S.result.now c.deref-in-S.ensures.value c.chosen-in-S.ensures c.put_moved.ensures.ok)
