-- The code in the bytes of a message leads it to its rule. Assumes nothing.
use Rattle.std.specs.Prelude.{ℕ, ◌≡◌, Bool, List, eqb, get_or}
use Rattle.basis.specs.Choice.{pick}
use Rattle.basis.specs.Numbers.{no_use}
use Rattle.message.specs.Messages.{DeviceMessage, query, announce, fragment, download_reply, execute, result_reply, found, to_device}
use Rattle.codec.specs.Codec.{read_of}
use Rattle.device_record.specs.declared.Device.{Device}
use Rattle.device_rules.specs.Rules.{After, refuse, handle, on_query, on_announce, on_fragment, on_download_reply, on_execute, on_result_reply}

module _ (d : Device) (image map reply : List ℕ) where
  -- the rule of a code is that of one message, and has no use for any other
  abbrev only : (own code : ℕ) → After → After
  only own code after = pick (eqb code own) after (refuse d image map reply no_use)

  abbrev pub by_code : (condition code : ℕ) → DeviceMessage → After
  by_code condition code query = only 19 code (on_query d image map reply)
  by_code condition code (announce f) = only 20 code (on_announce d image map reply condition f)
  by_code condition code (fragment result index bytes) = only 21 code (on_fragment d image map reply result index bytes)
  by_code condition code (download_reply result) = only 22 code (on_download_reply d image map reply result)
  by_code condition code execute = only 23 code (on_execute d image map reply condition)
  by_code condition code (result_reply result) = only 24 code (on_result_reply d image map reply)

abbrev pub CodesLead : Type 0
CodesLead = (d : Device) (image map reply : List ℕ) (condition : ℕ) (supported pcp : Bool) (bytes : List ℕ) (m : DeviceMessage)
    → read_of to_device supported pcp bytes ≡ found m
    → handle d image map reply condition (read_of to_device supported pcp bytes) ≡ by_code d image map reply condition (get_or bytes 3 0) m
