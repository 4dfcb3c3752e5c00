-- What a reading is: a message that the table allows, or a number from 1 to 8.
use Rattle.std.proofs.Common.{◌≡◌, true, Bool, ℕ, List, ◌≤◌, arith}
use Rattle.std.proofs.lemmas.Grind.{common_steps}
use Rattle.basis.specs.Choice.{pick, refusal}
use Rattle.message.specs.Recognition.{recognition}
use Rattle.message.specs.Messages.{DeviceMessage, found, refused, to_device}
use Rattle.codec.specs.Codec.{read_of}

recognition_most : (supported pcp : Bool) (bytes : List ℕ) → recognition supported pcp bytes ≤ 7
unfolding recognition refusal pick
recognition_most supported pcp bytes = grind (arith, common_steps)

pub read_refused : (supported pcp : Bool) (bytes : List ℕ) (n : ℕ) → read_of to_device supported pcp bytes ≡ refused n → (1 ≤ n) × (n ≤ 8)
unfolding read_of pick
read_refused supported pcp bytes n e =
    (grind (arith, common_steps, recognition_most supported pcp bytes), grind (arith, common_steps, recognition_most supported pcp bytes))

pub read_valid : (supported pcp : Bool) (bytes : List ℕ) (m : DeviceMessage) → read_of to_device supported pcp bytes ≡ found m → to_device.valid m ≡ true
unfolding read_of pick
read_valid supported pcp bytes m e = grind (arith, common_steps)
