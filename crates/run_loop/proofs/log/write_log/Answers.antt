use Rattle.std.proofs.Common.{◌≡◌, ◌++◌, ◌∷◌, [], ◌∙◌, sym, subst, rules}
use Rattle.std.specs.Prelude.{Result, Err}
use Rattle.std.proofs.lemmas.Result.{on_ok_weaker}
use Rattle.model_tree.specs.Tree.{leaves}
use Rattle.model_leaves.specs.Models.{tree_of}
use Rattle.text_forms.specs.declared.letter.Letter.TheVariants.{S}
use Rattle.text_forms.specs.Chosen.{letters_of}
use Rattle.text_forms.specs.Lines.{log_bytes}
use Rattle.text_forms.specs.RecordTexts.{texts_of_letter}
use Rattle.run_loop.specs.declared.outputs.Output.TheVariants.{Log}
use Rattle.run_loop.specs.declared.outputs.Unwritten.{Unwritten}
use Rattle.run_loop.specs.AskedFiles.{names_of}
use Rattle.run_loop.specs.Texts.{AreCreated}
use Rattle.run_loop.specs.Order.{one_piece}
use Rattle.run_loop.specs.Written.{Writes}
use Rattle.run_loop.proofs.Handing.{log_written, y_fell, n_fell, x_fell, s_written}
use Rattle.run_loop.proofs.log.write_log.Goals as goal

pub returns-in_err-write_letter-clause-texts : goal.returns-in_err-write_letter-clause-texts
returns-in_err-write_letter-clause-texts g c = λ cycle h settings.
    let n = names_of c.args.asked.now in
    let letters = c.args.asked.now.given.letters in
    let records = c.args.records.now in
    let tree = tree_of c.args.model.now settings in
    let b = c.clear.new.self.items in
    let old = g.R.Room.outside c.args.room.now in
    let new = g.R.Room.outside c.write_letter.new.room in
    let why = c.in_err-write_letter.field-0.0 in
    let is : c.from_residual.result ≡ Err why = search rules in
    let fell = y_fell n tree letters records why b old new (c.in_err-write_letter.ensures.hands settings) in
    let written = log_written n tree letters records {T = Unit {0}} cycle h b c.clear.ensures.items old new (Err why) fell in
    subst (λ (r : Result (Unit {0}) Unwritten). Writes n (one_piece Log (log_bytes tree (letters_of letters) (cycle ∷ []))) old new r) (sym is) written

pub returns-in_err-write_letter-2-clause-texts : goal.returns-in_err-write_letter-2-clause-texts
returns-in_err-write_letter-2-clause-texts g c = λ cycle h settings.
    let n = names_of c.args.asked.now in
    let letters = c.args.asked.now.given.letters in
    let records = c.args.records.now in
    let tree = tree_of c.args.model.now settings in
    let b = c.clear.new.self.items in
    let old = g.R.Room.outside c.args.room.now in
    let b1 = c.write_letter.new.piece.items in
    let first = g.R.Room.outside c.write_letter.new.room in
    let new = g.R.Room.outside c.write_letter-2.new.room in
    let why = c.in_err-write_letter-2.field-0.0 in
    let is : c.from_residual-in_err-write_letter-2.result ≡ Err why = search rules in
    let fell = n_fell n tree letters records why b b1 old first new (c.in_ok-write_letter.ensures.hands settings) (c.in_err-write_letter-2.ensures.hands settings) in
    let written = log_written n tree letters records {T = Unit {0}} cycle h b c.clear.ensures.items old new (Err why) fell in
    subst (λ (r : Result (Unit {0}) Unwritten). Writes n (one_piece Log (log_bytes tree (letters_of letters) (cycle ∷ []))) old new r) (sym is) written

pub returns-in_err-write_letter-3-clause-texts : goal.returns-in_err-write_letter-3-clause-texts
returns-in_err-write_letter-3-clause-texts g c = λ cycle h settings.
    let n = names_of c.args.asked.now in
    let letters = c.args.asked.now.given.letters in
    let records = c.args.records.now in
    let tree = tree_of c.args.model.now settings in
    let b = c.clear.new.self.items in
    let old = g.R.Room.outside c.args.room.now in
    let b1 = c.write_letter.new.piece.items in
    let first = g.R.Room.outside c.write_letter.new.room in
    let b2 = c.write_letter-2.new.piece.items in
    let second = g.R.Room.outside c.write_letter-2.new.room in
    let new = g.R.Room.outside c.write_letter-3.new.room in
    let why = c.in_err-write_letter-3.field-0.0 in
    let is : c.from_residual-in_err-write_letter-3.result ≡ Err why = search rules in
    let fell = x_fell n tree letters records why b b1 b2 old first second new (c.in_ok-write_letter.ensures.hands settings) (c.in_ok-write_letter-2.ensures.hands settings) (c.in_err-write_letter-3.ensures.hands settings) in
    let written = log_written n tree letters records {T = Unit {0}} cycle h b c.clear.ensures.items old new (Err why) fell in
    subst (λ (r : Result (Unit {0}) Unwritten). Writes n (one_piece Log (log_bytes tree (letters_of letters) (cycle ∷ []))) old new r) (sym is) written

pub returns-clause-texts : goal.returns-clause-texts
returns-clause-texts g c = λ cycle h settings.
    let n = names_of c.args.asked.now in
    let letters = c.args.asked.now.given.letters in
    let records = c.args.records.now in
    let tree = tree_of c.args.model.now settings in
    let b = c.clear.new.self.items in
    let old = g.R.Room.outside c.args.room.now in
    let b1 = c.write_letter.new.piece.items in
    let first = g.R.Room.outside c.write_letter.new.room in
    let b2 = c.write_letter-2.new.piece.items in
    let second = g.R.Room.outside c.write_letter-2.new.room in
    let b3 = c.write_letter-3.new.piece.items in
    let third = g.R.Room.outside c.write_letter-3.new.room in
    let new = g.R.Room.outside c.write_piece.new.room in
    let lines = b3 ++ texts_of_letter (leaves tree) letters records S in
    let filled = on_ok_weaker c.letter_bytes-filled.result (λ ok. c.deref.ensures.value ∙ ok settings) c.letter_bytes-filled.ensures.lines in
    let last = s_written n tree letters records b b1 b2 b3 old first second third new c.write_piece.result (c.in_ok-write_letter.ensures.hands settings) (c.in_ok-write_letter-2.ensures.hands settings)
    (c.in_ok-write_letter-3.ensures.hands settings) (c.write_piece.ensures.texts lines filled) in
    log_written n tree letters records cycle h b c.clear.ensures.items old new c.write_piece.result last

-- ---- no file is made

pub returns-in_err-write_letter-clause-created : goal.returns-in_err-write_letter-clause-created
returns-in_err-write_letter-clause-created g c = c.in_err-write_letter.ensures.created

pub write_letter-requires-2-clause-created : goal.write_letter-requires-2-clause-created
write_letter-requires-2-clause-created g c =
    subst (AreCreated (names_of c.args.asked.now)) (sym c.in_ok-write_letter.ensures.created) c.requires.created

pub returns-in_err-write_letter-2-clause-created : goal.returns-in_err-write_letter-2-clause-created
returns-in_err-write_letter-2-clause-created g c = c.in_err-write_letter-2.ensures.created ∙ c.in_ok-write_letter.ensures.created

pub write_letter-requires-3-clause-created : goal.write_letter-requires-3-clause-created
write_letter-requires-3-clause-created g c =
    subst (AreCreated (names_of c.args.asked.now)) (sym (c.in_ok-write_letter-2.ensures.created ∙ c.in_ok-write_letter.ensures.created)) c.requires.created

pub returns-in_err-write_letter-3-clause-created : goal.returns-in_err-write_letter-3-clause-created
returns-in_err-write_letter-3-clause-created g c =
    c.in_err-write_letter-3.ensures.created ∙ c.in_ok-write_letter-2.ensures.created ∙ c.in_ok-write_letter.ensures.created

pub write_piece-requires-clause-created : goal.write_piece-requires-clause-created
write_piece-requires-clause-created g c =
    subst (AreCreated (names_of c.args.asked.now)) (sym (c.in_ok-write_letter-3.ensures.created ∙ c.in_ok-write_letter-2.ensures.created ∙ c.in_ok-write_letter.ensures.created)) c.requires.created

pub returns-clause-created : goal.returns-clause-created
returns-clause-created g c =
    c.write_piece.ensures.created ∙ c.in_ok-write_letter-3.ensures.created ∙ c.in_ok-write_letter-2.ensures.created ∙ c.in_ok-write_letter.ensures.created
