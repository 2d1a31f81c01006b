use Rattle.std.proofs.lemmas.List.{append_assoc}
use Rattle.model_text.specs.LifeModel.{made_text}
use Rattle.model_text.proofs.LifeText.{file_join}
use Rattle.model_text.proofs.life.put_model.Goals as goal

pub returns-clause-ok : goal.returns-clause-ok
unfolding made_text
returns-clause-ok c =
    rw (c.in_ok-put_lines-3.ensures.ok, c.in_ok-put_rows.ensures.ok, c.in_ok-put_lines-2.ensures.ok, c.in_ok-put_numbered-2.ensures.ok, c.in_ok-put_numbered.ensures.ok, c.in_ok-put_lines.ensures.ok)
    (simp (append_assoc, file_join))
