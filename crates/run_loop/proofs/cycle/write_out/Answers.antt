use Rattle.std.proofs.Common.{◌++◌, ◌∙◌, ap, sym}
use Rattle.std.proofs.lemmas.Result.{on_ok_weaker}
use Rattle.model_leaves.specs.Models.{tree_of}
use Rattle.text_forms.specs.Chosen.{letters_of}
use Rattle.run_loop.specs.declared.outputs.Output.TheVariants.{Out}
use Rattle.run_loop.specs.AskedFiles.{names_of}
use Rattle.run_loop.specs.Pieces.{lines_of}
use Rattle.run_loop.proofs.Adding.{none_added}
use Rattle.run_loop.proofs.Cycles.{no_name}
use Rattle.run_loop.proofs.cycle.write_out.Goals as goal

pub returns-then-is_none-clause-texts : goal.returns-then-is_none-clause-texts
returns-then-is_none-clause-texts g c = λ cycle h settings.
    none_added (names_of c.args.asked.now) Out (lines_of (tree_of c.args.model.now settings) (letters_of c.args.asked.now.given.letters) cycle Out) (g.R.Room.outside c.args.room.now)
    (sym c.name_of.ensures ∙ no_name c.name_of.result c.if-is_none.ensures)

pub returns : goal.returns
returns g c = record {
  texts = λ cycle h settings.
      let lines = lines_of (tree_of c.args.model.now settings) (letters_of c.args.asked.now.given.letters) cycle Out in
      c.write_piece.ensures.texts lines (on_ok_weaker c.out_bytes-filled.result (λ ok. c.deref.ensures.value ∙ ok cycle h settings ∙ ap (λ xs. xs ++ lines) c.clear.ensures.items) c.out_bytes-filled.ensures.ok);
  created = c.write_piece.ensures.created;
}
