-- The record that a sound device stands for, and back. Assumes nothing.
use Rattle.std.specs.Result.{result_unwrap_or}
use Rattle.device_record.specs.declared.Device.{Device}
use Rattle.device_record.specs.declared.phase.Phase.TheVariants.{Idle}
use Rattle.device_record.specs.Phases.{code_of, phase_at}
use Rattle.device.specs.declared.sound.SoundDevice.TheInside.{Inside}

abbrev pub shown : Inside → Device
shown s =
    record {
      phase = code_of s.phase;
      running = s.running;
      fields = s.fields;
      stored = s.stored;
      last = s.last;
      outcome = s.outcome;
      expected = s.expected;
    }

abbrev pub hidden : Device → Inside
hidden d =
    record {
      phase = result_unwrap_or (phase_at d.phase) Idle;
      running = d.running;
      fields = d.fields;
      stored = d.stored;
      last = d.last;
      outcome = d.outcome;
      expected = d.expected;
    }
