-- The number of each refusal, and of what was answered. Assumes nothing.
use Rattle.std.specs.Prelude.{ℕ, Result, Ok, Err}
use Rattle.basis.specs.Numbers.{unsupported, other_protocol, bad_start, bad_version, bad_code, bad_check, bad_length, bad_data, no_use}
use Rattle.basis.specs.Numbers.{bad_index, bad_fragment_length, already_stored, unknown_condition}
use Rattle.basis.specs.Numbers.{bad_memory, short_reply, bad_install_code, bad_version_text, bad_size}
use Rattle.basis.specs.Numbers.{bad_package, bad_mark, cut_short, does_not_fit, repeat_differs, bad_record, short_record, handled}
use Rattle.basis.specs.declared.refusal.Refusal.{Refusal}
use Rattle.basis.specs.declared.refusal.Refusal.TheVariants.{Unsupported, OtherProtocol, BadStart, BadVersion, BadCode, BadCheck, BadLength}
use Rattle.basis.specs.declared.refusal.Refusal.TheVariants.{BadData, NoUse, BadIndex, BadFragmentLength, AlreadyStored, UnknownCondition, BadMemory}
use Rattle.basis.specs.declared.refusal.Refusal.TheVariants.{ShortReply, BadInstallCode, BadVersionText, BadSize, BadPackage, BadMark, CutShort}
use Rattle.basis.specs.declared.refusal.Refusal.TheVariants.{DoesNotFit, RepeatDiffers, BadRecord, ShortRecord}

abbrev pub number_of : Refusal → ℕ
number_of Unsupported = unsupported
number_of OtherProtocol = other_protocol
number_of BadStart = bad_start
number_of BadVersion = bad_version
number_of BadCode = bad_code
number_of BadCheck = bad_check
number_of BadLength = bad_length
number_of BadData = bad_data
number_of NoUse = no_use
number_of BadIndex = bad_index
number_of BadFragmentLength = bad_fragment_length
number_of AlreadyStored = already_stored
number_of UnknownCondition = unknown_condition
number_of BadMemory = bad_memory
number_of ShortReply = short_reply
number_of BadInstallCode = bad_install_code
number_of BadVersionText = bad_version_text
number_of BadSize = bad_size
number_of BadPackage = bad_package
number_of BadMark = bad_mark
number_of CutShort = cut_short
number_of DoesNotFit = does_not_fit
number_of RepeatDiffers = repeat_differs
number_of BadRecord = bad_record
number_of ShortRecord = short_record

-- 0 where nothing is refused, else the number
abbrev pub answered : {A : Type 0} → Result A Refusal → ℕ
answered (Ok a) = handled
answered (Err refusal) = number_of refusal
