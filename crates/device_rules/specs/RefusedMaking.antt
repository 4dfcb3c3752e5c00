-- The record of a refused making is of no use: the device's calls refuse it. Assumes nothing.
use Rattle.std.specs.Prelude.{ℕ, ◌≡◌, ◌≢◌, Bool, List}
use Rattle.basis.specs.Numbers.{bad_record}
use Rattle.codec.specs.Codec.{Sent, unsent}
use Rattle.device_record.specs.declared.Device.{Device}
use Rattle.device_record.specs.Record.{new_of}
use Rattle.device_rules.specs.Rules.{After, refuse, receive_of, next_message_of, install_finished_of, give_digest_of}

-- every call with the record answers a number other than 0, and changes nothing
pub record Unusable (d : Device) : Type 0 where
  pub receive : (image map reply : List ℕ) (supported pcp : Bool) (condition : ℕ) (message : List ℕ)
      → let a : After = receive_of d image map reply supported pcp condition message in
      (a.number ≢ 0) × (a ≡ refuse d image map reply a.number)
  pub next_message : (image map reply : List ℕ) → let s : Sent = next_message_of d image map reply in
      (s.number ≢ 0) × (s ≡ unsent s.number reply)
  pub install_finished : (code : ℕ) → install_finished_of d code ≡ record { number = bad_record; device = d }
  pub give_digest : (digest : List ℕ) → give_digest_of d digest ≡ record { number = bad_record; device = d }

abbrev pub RefusedMaking : Type 0
RefusedMaking = (version : List ℕ) → (new_of version).number ≢ 0 → Unusable (new_of version).device
