-- The phases and their numbers. Assumes nothing.
use Rattle.std.specs.Prelude.{ℕ, Result, Ok, Err, ◌==◌, if◌then◌else◌}
use Rattle.basis.specs.declared.refusal.Refusal.{Refusal}
use Rattle.basis.specs.declared.refusal.Refusal.TheVariants.{BadRecord}
use Rattle.device_record.specs.declared.phase.Phase.{Phase}
use Rattle.device_record.specs.declared.phase.Phase.TheVariants.{Idle, Loading, Loaded, Acked, Failed, Installing, Reporting}

-- the number that stands in the record
abbrev pub code_of : Phase → ℕ
code_of Idle = 0
code_of Loading = 1
code_of Loaded = 2
code_of Acked = 3
code_of Failed = 4
code_of Installing = 5
code_of Reporting = 6

-- the phase of a number; a record with another number breaks the rules (29)
abbrev pub phase_at : ℕ → Result Phase Refusal
phase_at n =
    if n == 0 then Ok Idle else
    if n == 1 then Ok Loading else
    if n == 2 then Ok Loaded else
    if n == 3 then Ok Acked else
    if n == 4 then Ok Failed else
    if n == 5 then Ok Installing else
    if n == 6 then Ok Reporting else
    Err BadRecord
