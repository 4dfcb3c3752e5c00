-- Refusals and their numbers: none has the number 0. Assumes nothing.
use mathlib.Core.Path.{◌≡◌, refl, sym}
use mathlib.Core.Bool.{false}
use lib.Dec.{eqb}
use Rattle.std.proofs.Common.{Result, Ok, Err}
use Rattle.std.specs.Prelude.{⊤, is_ok}
use Rattle.basis.specs.declared.refusal.Refusal.{Refusal}
use Rattle.basis.specs.Refusals.{number_of, answered}

pub number_is_not_zero : (refusal : Refusal) → eqb (number_of refusal) 0 ≡ false
number_is_not_zero Refusal.Unsupported = refl
number_is_not_zero Refusal.OtherProtocol = refl
number_is_not_zero Refusal.BadStart = refl
number_is_not_zero Refusal.BadVersion = refl
number_is_not_zero Refusal.BadCode = refl
number_is_not_zero Refusal.BadCheck = refl
number_is_not_zero Refusal.BadLength = refl
number_is_not_zero Refusal.BadData = refl
number_is_not_zero Refusal.NoUse = refl
number_is_not_zero Refusal.BadIndex = refl
number_is_not_zero Refusal.BadFragmentLength = refl
number_is_not_zero Refusal.AlreadyStored = refl
number_is_not_zero Refusal.UnknownCondition = refl
number_is_not_zero Refusal.BadMemory = refl
number_is_not_zero Refusal.ShortReply = refl
number_is_not_zero Refusal.BadInstallCode = refl
number_is_not_zero Refusal.BadVersionText = refl
number_is_not_zero Refusal.BadSize = refl
number_is_not_zero Refusal.BadPackage = refl
number_is_not_zero Refusal.BadMark = refl
number_is_not_zero Refusal.CutShort = refl
number_is_not_zero Refusal.DoesNotFit = refl
number_is_not_zero Refusal.RepeatDiffers = refl
number_is_not_zero Refusal.BadRecord = refl
number_is_not_zero Refusal.ShortRecord = refl

-- what is answered with 0 is not refused
pub handled_alone : (r : Result ⊤ Refusal) → is_ok r ≡ eqb (answered r) 0
handled_alone (Ok x) = refl
handled_alone (Err refusal) = sym (number_is_not_zero refusal)
