-- What the code does not test: a number of 16 bits is a WORD. Assumes nothing.
use Rattle.std.proofs.Common.{◌≡◌, ◌<◌, ℕ, true, List}
use Rattle.std.proofs.lemmas.Bool.{lt-ltb}
use Rattle.basis.proofs.Choosing.{and_true}
use Rattle.message.specs.Limits.{is_word}
use Rattle.message.specs.Version.{good_version}
use Rattle.message.specs.Messages.{DeviceMessage, fragment_ok, GatewayMessage, device_row, gateway_row, to_device, to_gateway}

pub word_is : (n : ℕ) → n < 65536 → is_word n ≡ true
unfolding is_word
word_is n h = lt-ltb n 65536 h

pub fragment_allowed : (result index : ℕ) (bytes : List ℕ) → index < 65536 → fragment_ok result bytes
    ≡ to_device.valid (DeviceMessage.fragment result index bytes)
unfolding device_row
fragment_allowed result index bytes h = rw (word_is index h)

pub request_allowed : (v : List ℕ) (index : ℕ) → index < 65536 → good_version v ≡ to_gateway.valid (GatewayMessage.fragment_request v index)
unfolding gateway_row
request_allowed v index h = rw (word_is index h, and_true (good_version v))
