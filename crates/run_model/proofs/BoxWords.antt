-- The words of bounded values and times, and outputs at the port out.
use Rattle.std.proofs.Common.{ℕ, Bool, true, false, Option, Some, None, List, [], ◌∷◌, refl, arith}
use Rattle.std.specs.Prelude.{IfSome, if◌then◌else◌, ◌==◌, ◌^◌, ℤ, pos, negsuc}
use Rattle.std.specs.List.{All}
use Rattle.std.proofs.lemmas.List.Elements.{All-nil, All-cons, All-head, All-tail}
use Rattle.quantity.specs.declared.value.Value.{Value}
use Rattle.quantity.specs.declared.value.Value.TheVariants.{Undefined, Num}
use Rattle.quantity.specs.Roots.{IsBounded}
use Rattle.quantity.specs.TimeBounds.{IsTime}
use Rattle.atomic_face.specs.Words.{time_of_word, word_of}
use Rattle.atomic_face.specs.Bags.{outputs}
use Rattle.run_model.specs.ClassBounds.{IsNotBefore, IsValueWord}
use Rattle.run_model.proofs.BoundedCells.{IsBoundedInput}
use Rattle.run_model.proofs.ClassLaws.{AtOut}

pub any_time : (o : Option ℕ) → IsNotBefore 0 o
any_time None = tt
any_time (Some t) = omega arith

abbrev pub DueIs : ℤ → Type 0
DueIs w = IfSome (time_of_word w) IsTime

pub word-is : (v : Value) → IsBounded v → IsValueWord (word_of v)
word-is Undefined h = tt
word-is (Num (pos n)) h = test (n == 10 ^ 16)
  where
    test : (b : Bool) → IsBounded (if b then Undefined else Num (pos n))
    test true = tt
    test false = h
word-is (Num (negsuc n)) h = h

pub outputs-are : (vs : List Value) → All IsBounded vs → All IsBoundedInput (outputs vs)
outputs-are [] h = All-nil IsBoundedInput
outputs-are (v ∷ vs) h = All-cons IsBoundedInput _ (outputs vs) (All-head IsBounded v vs h) (outputs-are vs (All-tail IsBounded v vs h))

pub one-output : (v : Value) → IsBounded v → All IsBoundedInput (outputs (v ∷ []))
one-output v h = outputs-are (v ∷ []) (All-cons IsBounded v [] h (All-nil IsBounded))

pub outputs-at : (vs : List Value) → All AtOut (outputs vs)
outputs-at [] = All-nil AtOut
outputs-at (v ∷ vs) = All-cons AtOut _ (outputs vs) refl (outputs-at vs)
