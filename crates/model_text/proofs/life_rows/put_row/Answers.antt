use Rattle.std.proofs.lemmas.List.{append_assoc}
use Rattle.model_text.proofs.life_rows.put_row.Goals as goal

pub returns-clause-ok : goal.returns-clause-ok
returns-clause-ok c =
    rw (c.in_ok-put-3.ensures.ok, c.in_ok-put_digits.ensures.ok, c.in_ok-put-2.ensures.ok, c.in_ok-put_number.ensures.ok, c.in_ok-put.ensures.ok) (simp append_assoc)
