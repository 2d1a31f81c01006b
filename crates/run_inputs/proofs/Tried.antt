-- Names that were looked for, several at once.
use Rattle.std.proofs.Common.{◌≡◌, List, [], ◌++◌, append_assoc, refl, sym, ap, ◌∙◌}
use Rattle.std.proofs.lemmas.List.{append-nil}
use Rattle.model_tree.specs.Tree.{Word}
use Rattle.room_edge.specs.FaultCounts.{KeepsReadFaults}
use Rattle.room_edge.specs.Outside.{Outside}
use Rattle.room_edge.specs.Only.{OnlyInput}
use Rattle.answer_model.specs.Answer.{Answer}
use Rattle.answer_model.specs.Headline.{Begins}
use Rattle.answer_model.specs.Endings.{looked_for, LeadsTo}
use Rattle.answer_model.proofs.Endings.{le_same, le_more}

pub begins_all : {A : Type 0} (xs : List A) → Begins xs xs
begins_all xs = ([], sym (append-nil xs))

-- a beginning of a beginning
pub begins_more : {A : Type 0} (xs ys zs : List A) → Begins xs ys → Begins ys zs → Begins xs zs
begins_more xs ys zs (rest, is) (more, has) = (rest ++ more, has ∙ ap (λ l. l ++ more) is ∙ append_assoc xs rest more)

pub tried_all : (a : Answer) (names : List Word) (old mid : Outside) → Begins names a.inputs → mid.tried ≡ old.tried ++ names → OnlyInput old mid → KeepsReadFaults old mid → LeadsTo a (looked_for []) (looked_for names) old mid
tried_all a names old mid begins tried only keeps = λ start way.
    record {
      more = record {
        made = only.made ∙ way.more.made;
        created = only.created ∙ way.more.created;
        shown = only.shown ∙ way.more.shown;
        complained = only.complained ∙ way.more.complained;
        tried = tried ∙ ap (λ l. l ++ names) (way.more.tried ∙ append-nil start.tried);
      };
      quiet = refl;
      inputs = begins;
      reads = le_more start.read_faults old.read_faults mid.read_faults way.reads keeps;
      writes = le_same start.write_faults old.write_faults mid.write_faults way.writes only.write_faults;
      complaints = le_same start.complain_faults old.complain_faults mid.complain_faults way.complaints only.complain_faults;
    }
