-- Lists behind which something is put, one after another.
use Rattle.std.proofs.Common.{◌≡◌, List, [], ◌++◌, length, take, refl, sym, ap, ◌∙◌, arith, append_assoc, append-nil}
use Rattle.std.proofs.lemmas.List.{take-append-le, take_all}
use Rattle.cycle_steps.specs.Growing.{Grown}

-- nothing more
pub grown-same : {A : Type 0} (old new : List A) → new ≡ old → Grown old new
grown-same old new e = record { behind = []; items = e ∙ sym (append-nil old) }

-- these behind
pub grown-by : {A : Type 0} (old new more : List A) → new ≡ old ++ more → Grown old new
grown-by old new more e = record { behind = more; items = e }

pub grown-after : {A : Type 0} (a b c : List A) → Grown a b → Grown b c → Grown a c
grown-after a b c first second =
    record {
      behind = first.behind ++ second.behind;
      items = second.items ∙ ap (λ xs. xs ++ second.behind) first.items ∙ append_assoc a first.behind second.behind;
    }

-- cut back to its first length it is as before
pub cut-back : {A : Type 0} (old new : List A) → Grown old new → take (length old) new ≡ old
cut-back old new grown =
    ap (take (length old)) grown.items ∙ take-append-le (length old) old grown.behind (omega arith) ∙ take_all (length old) old (omega arith)
