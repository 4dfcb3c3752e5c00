-- What the code's enums mean: each variant is the message of its name, and a result is a reading. Assumes nothing.
use Rattle.std.specs.Prelude.{ℕ, Bool, false, Result, Ok, Err}
use Rattle.basis.specs.declared.refusal.Refusal.{Refusal}
use Rattle.basis.specs.Refusals.{number_of}
use Rattle.message.specs.declared.ToDevice.{ToDevice}
use Rattle.message.specs.declared.ToGateway.{ToGateway}
use Rattle.message.specs.Messages.{DeviceMessage, GatewayMessage, Table, Reading, found, refused}

abbrev pub device_message : ToDevice → DeviceMessage
device_message ToDevice.Query = DeviceMessage.query
device_message (ToDevice.Announce fields) = DeviceMessage.announce fields
device_message (ToDevice.Fragment result index content) = DeviceMessage.fragment result index content.now
device_message (ToDevice.DownloadReply result) = DeviceMessage.download_reply result
device_message ToDevice.Execute = DeviceMessage.execute
device_message (ToDevice.ResultReply result) = DeviceMessage.result_reply result

abbrev pub gateway_message : ToGateway → GatewayMessage
gateway_message (ToGateway.QueryReply result version) = GatewayMessage.query_reply result version
gateway_message (ToGateway.AnnounceReply result) = GatewayMessage.announce_reply result
gateway_message (ToGateway.FragmentRequest version index) = GatewayMessage.fragment_request version index
gateway_message (ToGateway.DownloadReport result) = GatewayMessage.download_report result
gateway_message (ToGateway.ExecuteReply result) = GatewayMessage.execute_reply result
gateway_message (ToGateway.ResultReport result version) = GatewayMessage.result_report result version

-- a message, or the number of what stands in its place
abbrev pub reading_by : {A M E : Type 0} → (A → M) → (E → ℕ) → Result A E → Reading M
reading_by view number (Ok message) = found (view message)
reading_by view number (Err refusal) = refused (number refusal)

-- what reading answered: a message, or the number of its refusal
abbrev pub reading_of : {A M : Type 0} → (A → M) → Result A Refusal → Reading M
reading_of view reading = reading_by view number_of reading

-- the fields of a message are allowed; a refusal is no message
module _ (t : Table) where
  abbrev pub valid_of : Reading t.Message → Bool
  valid_of (found m) = t.valid m
  valid_of (refused n) = false
