use Rattle.text_forms.proofs.Appended.{begun_made, kept_more, kept_on, kept_same, on_ok}
use Rattle.text_forms.proofs.Starts.{then_more}
use Rattle.std.proofs.Common.{ℕ, ◌∷◌, ap, codes, sym}
use Rattle.text_forms.specs.Letters.{letter_byte}
use Rattle.text_forms.proofs.pieces.put_begun.Goals as goal

pub returns-in_err-text-clause-kept : goal.returns-in_err-text-clause-kept
returns-in_err-text-clause-kept c =
    kept_same c.args.into.now.items c.put.new.into.items c.text.new.into.items
    c.in_ok-put.ensures.kept c.in_err-text.ensures.err

pub returns-clause-ok : goal.returns-clause-ok
returns-clause-ok c =
    on_ok c.put-2.result _ _ (λ last.
    begun_made c.args.into.now.items c.args.letter c.args.time c.put.new.into.items
    c.text.new.into.items c.put-2.new.into.items
    (then_more c.args.into.now.items c.put.new.into.items
    (letter_byte c.args.letter ∷ codes " / ") _ c.in_ok-put.ensures.ok
    (ap (λ (b : ℕ). b ∷ codes " / ") (sym c.byte.ensures)))
    c.in_ok-text.ensures.ok
    last) c.put-2.ensures.ok

pub returns-clause-kept : goal.returns-clause-kept
returns-clause-kept c =
    kept_on c.args.into.now.items c.text.new.into.items c.put-2.new.into.items
    (kept_more c.args.into.now.items c.put.new.into.items c.text.new.into.items _
    c.in_ok-put.ensures.kept c.in_ok-text.ensures.ok) c.put-2.ensures.kept
