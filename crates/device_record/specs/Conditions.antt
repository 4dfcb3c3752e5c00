-- The conditions and their numbers. Assumes nothing.
use Rattle.std.specs.Prelude.{ℕ, Result, Ok, Err, ◌==◌, if◌then◌else◌}
use Rattle.basis.specs.declared.refusal.Refusal.{Refusal}
use Rattle.basis.specs.declared.refusal.Refusal.TheVariants.{UnknownCondition}
use Rattle.device_record.specs.declared.condition.Condition.{Condition}
use Rattle.device_record.specs.declared.condition.Condition.TheVariants.{Ready, Busy, WeakSignal, LowPower, Internal}

-- the number that hosts state
abbrev pub condition_code : Condition → ℕ
condition_code Ready = 0
condition_code Busy = 1
condition_code WeakSignal = 2
condition_code LowPower = 4
condition_code Internal = 127

-- the condition of a number; another is refused (13)
abbrev pub condition_at : ℕ → Result Condition Refusal
condition_at n =
    if n == 0 then Ok Ready else
    if n == 1 then Ok Busy else
    if n == 2 then Ok WeakSignal else
    if n == 4 then Ok LowPower else
    if n == 127 then Ok Internal else
    Err UnknownCondition
