use Rattle.std.proofs.Common.{◌++◌, ◌∙◌}
use Rattle.std.proofs.lemmas.Result.{on_ok_weaker}
use Rattle.model_tree.specs.Tree.{leaves}
use Rattle.model_leaves.specs.Models.{tree_of}
use Rattle.text_forms.specs.RecordTexts.{texts_of_letter}
use Rattle.run_loop.proofs.log.write_letter.Goals as goal

pub returns-clause-hands : goal.returns-clause-hands
returns-clause-hands g c = λ settings.
    let text = texts_of_letter (leaves (tree_of c.args.model.now settings)) c.args.asked.now.given.letters c.args.records.now c.args.letter in
    c.hand_over.ensures.hands (c.args.piece.now.items ++ text) (on_ok_weaker c.letter_bytes-filled.result (λ ok. ok settings) c.letter_bytes-filled.ensures.lines)
