-- What each answer of a box leaves of it.
use Rattle.std.proofs.Common.{◌≡◌, ℕ, List, ap}
use Rattle.std.specs.Prelude.{ℤ, OnErr}
use Rattle.std.specs.declared.result.Result.{Result}
use Rattle.std.specs.declared.result.Result.TheVariants.{Ok, Err}
use Rattle.atomic_face.specs.declared.model.AdvanceRefusal.{AdvanceRefusal}
use Rattle.atomic_face.specs.declared.model.AdvanceRefusal.TheVariants.{Overflow, Memory}
use Rattle.atomic_face.specs.declared.params.Param.{Param}
use Rattle.atomic_face.specs.declared.params.SettleRefusal.{SettleRefusal}
use Rattle.atomic_face.specs.declared.params.SettleRefusal.TheVariants.{BadParameter, Memory as NoRoomToSettle}
use Rattle.atomic_face.specs.declared.params.RestoreRefusal.{RestoreRefusal}
use Rattle.atomic_face.specs.declared.params.RestoreRefusal.TheVariants.{BadState, Memory as NoRoomToRestore}
use Rattle.atomic_face.specs.Classes.{Bag}
use Rattle.atomic_face.specs.Held.{Held}
use Rattle.atomic_face.specs.BoxCalls.{AdvanceGives, SettleGives, RestoreGives}

-- the class stays, and after a refusal all does
pub record Leaves {A E : Type 0} (before after : Held) (r : Result A E) : Type 0 where
  pub kind : after.kind ≡ before.kind
  pub err : OnErr r (after ≡ before)

pub settle-leaves : {A : Type 0} (es : List Param) (b a : Held) (r : Result A SettleRefusal) → SettleGives es b a r → Leaves b a r
settle-leaves es b a (Ok x) h = record { kind = ap (λ (s : Held). s.kind) h.1; err = tt }
settle-leaves es b a (Err (BadParameter line)) h = record { kind = ap (λ (s : Held). s.kind) h.1; err = h.1 }
settle-leaves es b a (Err NoRoomToSettle) h = record { kind = ap (λ (s : Held). s.kind) h; err = h }

pub advance-leaves : {A : Type 0} (now : ℕ) (bag : Bag) (b a : Held) (r : Result A AdvanceRefusal) → AdvanceGives now bag b a r → Leaves b a r
advance-leaves now bag b a (Ok x) h = record { kind = ap (λ (s : Held). s.kind) h.1; err = tt }
advance-leaves now bag b a (Err Overflow) h = record { kind = ap (λ (s : Held). s.kind) h.1; err = h.1 }
advance-leaves now bag b a (Err Memory) h = record { kind = ap (λ (s : Held). s.kind) h; err = h }

pub restore-leaves : {A : Type 0} (words : List ℤ) (b a : Held) (r : Result A RestoreRefusal) → RestoreGives words b a r → Leaves b a r
restore-leaves words b a (Ok x) h = record { kind = ap (λ (s : Held). s.kind) h.1; err = tt }
restore-leaves words b a (Err BadState) h = record { kind = ap (λ (s : Held). s.kind) h.1; err = h.1 }
restore-leaves words b a (Err NoRoomToRestore) h = record { kind = ap (λ (s : Held). s.kind) h; err = h }

pub on_err : {A E : Type 0} {P Q : Type 0} (r : Result A E) → (P → Q) → OnErr r P → OnErr r Q
on_err (Ok x) f h = h
on_err (Err e) f h = f h
