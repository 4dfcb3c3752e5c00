-- What each handler leaves, of whatever message: its own by the message's rule, and every other is refused with 9. Assumes nothing.
use Rattle.std.specs.Prelude.{ℕ, List}
use Rattle.basis.specs.Numbers.{no_use}
use Rattle.message.specs.Messages.{DeviceMessage, query, announce, fragment, download_reply, execute, result_reply}
use Rattle.device_record.specs.declared.Device.{Device}
use Rattle.device_rules.specs.Rules.{After, refuse, on_query, on_announce, on_fragment, on_download_reply, on_execute, on_result_reply}

module _ (d : Device) (image map reply : List ℕ) where
  abbrev pub as_query : DeviceMessage → After
  as_query query = on_query d image map reply
  as_query m = refuse d image map reply no_use

  abbrev pub as_announce : (condition : ℕ) → DeviceMessage → After
  as_announce condition (announce f) = on_announce d image map reply condition f
  as_announce condition m = refuse d image map reply no_use

  abbrev pub as_fragment : DeviceMessage → After
  as_fragment (fragment result index bytes) = on_fragment d image map reply result index bytes
  as_fragment m = refuse d image map reply no_use

  abbrev pub as_download_reply : DeviceMessage → After
  as_download_reply (download_reply result) = on_download_reply d image map reply result
  as_download_reply m = refuse d image map reply no_use

  abbrev pub as_execute : (condition : ℕ) → DeviceMessage → After
  as_execute condition execute = on_execute d image map reply condition
  as_execute condition m = refuse d image map reply no_use

  abbrev pub as_result_reply : DeviceMessage → After
  as_result_reply (result_reply result) = on_result_reply d image map reply
  as_result_reply m = refuse d image map reply no_use
