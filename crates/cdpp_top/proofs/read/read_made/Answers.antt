use Rattle.std.proofs.Common.{◌≤◌, ◌++◌, length, sym, ap, ◌∙◌, subst}
use Rattle.model_text.specs.LifeModel.{made_text}
use Rattle.model_text.specs.ModelOf.{model_of}
use Rattle.model_build.specs.Settled.{classes_of}
use Rattle.model_read.specs.Read.{drawing_of, Reads}
use Rattle.cdpp_top.proofs.Sizes.{made_short}
use Rattle.cdpp_top.proofs.read.read_made.Goals as goal

pub read_model_bytes-requires-clause-short : goal.read_model_bytes-requires-clause-short
read_model_bytes-requires-clause-short g c =
    subst (λ text. length text ≤ 16777216) (sym (c.deref.ensures.value ∙ c.in-Ok.ensures.ok ∙ ap (λ xs. xs ++ made_text c.args.size) c.new-text.ensures.items)) (made_short c.args.size c.requires.most)

pub returns-clause-reads : goal.returns-clause-reads
returns-clause-reads g c =
    let classes = classes_of c.args.stock.now in
    let d = drawing_of c.args.frames in
    let r = c.read_model_bytes.ensures in
    subst (λ text. Reads (λ files. model_of text files classes d) d c.read_model_bytes.new.stock c.read_model_bytes.result (g.R.Room.outside c.args.room.now) (g.R.Room.outside c.read_model_bytes.new.room))
    (c.deref.ensures.value ∙ c.in-Ok.ensures.ok ∙ ap (λ xs. xs ++ made_text c.args.size) c.new-text.ensures.items)
    (record {
      found = r.found;
      tried = r.tried;
      ready = r.ready;
      drawn = r.drawn;
      group = r.group;
      last = r.last;
      counted = r.counted;
      misses = r.misses;
      faults = r.faults;
      only = r.only;
    })

pub returns-clause-drawn : goal.returns-clause-drawn
returns-clause-drawn g c = c.read_model_bytes.ensures.drawn
