-- Why a file is not open, by the kind of the system's error.
use Rattle.std.proofs.Common.{◌≡◌, Result, Err, refl, sym, ◌∙◌, ap, subst}
use Rattle.std.specs.IoError.{error_kind}
use Rattle.std.specs.declared.io.Error.{Error}
use Rattle.std.specs.declared.io.ErrorKind.{ErrorKind}
use Rattle.std.specs.declared.io.ErrorKind.TheVariants.{NotFound, OutOfMemory}
use Rattle.room_edge.specs.Answered.{OpensAs, cause_of}
use Rattle.room_edge.specs.declared.room.OpenError.{OpenError}
use Rattle.room_edge.specs.declared.room.OpenError.TheVariants.{Failed}

-- every other kind is a fault
pub other_kind : (kind : ErrorKind) → (kind ≡ NotFound → ⊥) → (kind ≡ OutOfMemory → ⊥) → Failed ≡ cause_of kind
other_kind NotFound found room = absurd (found refl)
other_kind OutOfMemory found room = absurd (room refl)
other_kind kind found room = refl

pub opens_as : {F : Type 0} (T : Type 0) (answer : Result F Error) (error : Error) (kind : ErrorKind) (cause : OpenError) → answer ≡ Err error → kind ≡ error_kind error → cause ≡ cause_of kind → OpensAs {T = T} answer (Err cause)
opens_as T answer error kind cause is kind_is same = subst (λ a. OpensAs {T = T} a (Err cause)) (sym is) (ap Err (same ∙ ap cause_of kind_is))
