-- What a call leaves, by the number that its answer stands for, and what is left where it is refused. Assumes nothing.
use Rattle.std.specs.Prelude.{ℕ, List, Result, Ok, Err, Bool, true, false, not, ◌==◌}
use Rattle.basis.specs.Numbers.{handled}
use Rattle.basis.specs.Refusals.{number_of, answered}
use Rattle.basis.specs.declared.refusal.Refusal.{Refusal}
use Rattle.basis.specs.declared.refusal.Refusal.TheVariants.{RepeatDiffers}
use Rattle.device_record.specs.declared.Device.{Device}
use Rattle.device_record.specs.declared.phase.Phase.{Phase}
use Rattle.device_record.specs.declared.phase.Phase.TheVariants.{Idle, Loading, Loaded, Acked, Failed, Installing, Reporting}
use Rattle.device_record.specs.Record.{in_phase, failed}
use Rattle.device_rules.specs.Rules.{After}
use Rattle.device_rules.specs.declared.Finished.{Finished}
use Rattle.device_rules.specs.declared.DigestAnswer.{DigestAnswer}

-- a message is given: the length of the reply, or why it is refused
abbrev pub left : Result ℕ Refusal → Device → (image map reply : List ℕ) → After
left (Ok n) d image map reply = record { number = handled; length = n; device = d; image = image; map = map; reply = reply }
left (Err e) d image map reply = record { number = number_of e; length = 0; device = d; image = image; map = map; reply = reply }

-- the installer has ended, and a digest is given
abbrev pub finished_by : Result (Unit {0}) Refusal → Device → Finished
finished_by r d = record { number = answered r; device = d }

abbrev pub given_by : Result (Unit {0}) Refusal → Device → DigestAnswer
given_by r d = record { number = answered r; device = d }

-- the device and what it was lent
pub record Held : Type 0 where
  pub device : Device
  pub image : List ℕ
  pub map : List ℕ
  pub reply : List ℕ

abbrev pub as_held : Device → (image map reply : List ℕ) → Held
as_held d image map reply = record { device = d; image = image; map = map; reply = reply }

-- a refusal changes nothing; a repeat that differs leaves the phase Failed, and nothing else
abbrev pub refused_state : Refusal → Held → Held
refused_state RepeatDiffers h = record { device = in_phase failed h.device; image = h.image; map = h.map; reply = h.reply }
refused_state e h = h

-- ---- which phases may be entered

-- to Idle from any phase; past Loading from one that holds a download
abbrev pub enters : (from : ℕ) → Phase → Bool
enters from Idle = true
enters from Loading = false
enters from Loaded = not (from == 0)
enters from Acked = not (from == 0)
enters from Failed = not (from == 0)
enters from Installing = not (from == 0)
enters from Reporting = not (from == 0)

-- the phase once a fragment is stored: Loading below the total alone
abbrev pub completes : Phase → (stored total : ℕ) → Bool
completes Idle stored total = false
completes Loading stored total = not (stored == total)
completes Loaded stored total = true
completes Acked stored total = false
completes Failed stored total = true
completes Installing stored total = false
completes Reporting stored total = false
