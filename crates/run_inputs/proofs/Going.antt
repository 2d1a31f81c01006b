-- One stage after another, and where something is told.
use Rattle.std.proofs.Common.{◌≡◌, Option, Some, None, Ok, Err, Result, refl}
use Rattle.std.specs.Prelude.{IfSome}
use Rattle.quantity.specs.Written.{for_ok}
use Rattle.answer_model.specs.Started.{Stopped, by}

pub by_on : {A B X : Type 0} (stopped : Stopped → X) (r : Result A Stopped) (k : A → Result B Stopped) (go : B → X) → by stopped (for_ok r k) go ≡ by stopped r (λ x. by stopped (k x) go)
by_on stopped (Ok x) k go = refl
by_on stopped (Err e) k go = refl

-- ---- where something is told

pub if_some_all : {X : Type 0} (o : Option X) (P : X → Type 0) → ((x : X) → P x) → IfSome o P
if_some_all None P all = tt
if_some_all (Some x) P all = all x

pub if_some_two : {X : Type 0} (o : Option X) (P Q R : X → Type 0) → ((x : X) → P x → Q x → R x) → IfSome o P → IfSome o Q → IfSome o R
if_some_two None P Q R step p q = tt
if_some_two (Some x) P Q R step p q = step x p q

pub if_some_three : {X : Type 0} (o : Option X) (P Q R S : X → Type 0) → ((x : X) → P x → Q x → R x → S x) → IfSome o P → IfSome o Q → IfSome o R → IfSome o S
if_some_three None P Q R S step p q r = tt
if_some_three (Some x) P Q R S step p q r = step x p q r
