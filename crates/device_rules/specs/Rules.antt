-- The device's steps: 01, "The head", with the refusals of "Numbers returned" in their order, as 02 (2026-05, 2026-06) amends them. Assumes nothing.
use Rattle.std.specs.Prelude.{ℕ, ◌+◌, ◌*◌, Bool, List, eqb, ltb, length}
use Rattle.basis.specs.Choice.{pick}
use Rattle.basis.specs.Numbers.{handled, no_use, repeat_differs, bad_record}
use Rattle.basis.specs.Bytes.{over, patched}
use Rattle.message.specs.Messages.{DeviceMessage, query, announce, fragment, download_reply, execute, result_reply, GatewayMessage, query_reply, announce_reply}
use Rattle.message.specs.Messages.{fragment_request, download_report, execute_reply, result_report, Reading, found, refused, to_device, to_gateway}
use Rattle.codec.specs.Codec.{Sent, bytes_of, read_of, said}
use Rattle.message.specs.declared.Fields.{Fields}
use Rattle.device_record.specs.declared.Device.{Device}
use Rattle.device_record.specs.Record.{idle, loading, loaded, acked, failed, installing, reporting, in_phase, begun, with_fragment, with_outcome}
use Rattle.device_record.specs.Record.{with_digest, map_bytes}
use Rattle.device_record.specs.Record.{receive_refusal, ask_refusal, finish_refusal, give_refusal}
use Rattle.bitmap.specs.Bitmap.{mark, cleared, lowest_missing}
use Rattle.device_rules.specs.declared.Finished.{Finished}
use Rattle.device_rules.specs.declared.DigestAnswer.{DigestAnswer}
use Rattle.device_rules.specs.Decisions.{last_after}
unfoldable pub use Rattle.device_rules.specs.Decisions.{announce_result, same_fields, resumes, fragment_length}
unfoldable pub use Rattle.device_rules.specs.Decisions.{repeat_refusal, fragment_refusal, check_passes, digest_passes, passes, completion}
unfoldable pub use Rattle.device_rules.specs.Decisions.{execute_result}

-- what a call leaves: the number, the length of the reply, the record, and the three buffers
pub record After : Type 0 where
  pub number : ℕ
  pub length : ℕ
  pub device : Device
  pub image : List ℕ
  pub map : List ℕ
  pub reply : List ℕ

module _ (d : Device) (image map reply : List ℕ) where
  -- a refusal: nothing written, reply length 0
  abbrev pub refuse : ℕ → After
  refuse n = record { number = n; length = 0; device = d; image = image; map = map; reply = reply }

  -- the number 23, a repeat that differs: the phase is Failed, and all else is as for a refusal
  abbrev pub differ : After
  differ = record { number = repeat_differs; length = 0; device = in_phase failed d; image = image; map = map; reply = reply }

  -- handled, with no reply; image and map as they are from now on
  abbrev pub moved_with : (image map : List ℕ) → Device → After
  moved_with image map e = record { number = handled; length = 0; device = e; image = image; map = map; reply = reply }

  -- the same, where only the record changes
  abbrev pub moved : Device → After
  moved e = moved_with image map e

  -- handled, with a reply at the front of its buffer; the map as it is from now on
  abbrev pub replied_with : (map : List ℕ) → Device → GatewayMessage → After
  replied_with map e m =
      record { number = handled; length = length (bytes_of to_gateway m); device = e; image = image; map = map; reply = over (bytes_of to_gateway m) reply }

  -- the same, where the map stays
  abbrev pub replied : Device → GatewayMessage → After
  replied e m = replied_with map e m

  -- 20 answered 00 afresh: Loading, the four fields taken, the map bytes zeroed
  unfoldable pub begin : Fields → After
  begin f = replied_with (cleared (map_bytes f.total) map) (begun f d) (announce_reply 0x00)

  -- 21 with 00, in range and new: the data at its place, the bit set, the count grown, the phase by what is then complete
  unfoldable pub store : (index : ℕ) → List ℕ → After
  store index bytes =
      let f : Fields = d.fields in
      let stored : ℕ = d.stored + 1 in
      let last : ℕ = last_after f index (length bytes) d.last in
      let filled : List ℕ = patched (index * f.size) bytes image in
      moved_with filled (mark index map) (with_fragment (completion stored last f d.expected filled) stored last d)

  -- ---- the six messages

  -- 19, any phase: 00 and the running version
  unfoldable pub on_query : After
  on_query = replied d (query_reply 0x00 d.running)

  -- 20: the tests in order; then resumed, or begun afresh
  unfoldable pub on_announce : (condition : ℕ) → Fields → After
  on_announce condition f =
      let result : ℕ = announce_result d condition f image map in
      pick (eqb result 0) (pick (resumes d f) (replied d (announce_reply 0x00)) (begin f)) (replied d (announce_reply result))

  -- 21 in Loading: 80 goes Idle, 81 changes nothing; else the number 10, 11, 12 or 23, or stored
  unfoldable pub on_fragment : (result index : ℕ) → List ℕ → After
  on_fragment result index bytes =
      let n : ℕ = fragment_refusal d.fields d.last index image map bytes in
      pick (eqb d.phase loading)
      (pick (eqb result 0x80) (moved (in_phase idle d))
      (pick (eqb result 0x81) (moved d)
      (pick (eqb n handled) (store index bytes)
      (pick (eqb n repeat_differs) differ
      (refuse n)))))
      (refuse no_use)

  -- 22: Loaded with 00 goes Acked, with 80 Idle; Failed goes Idle
  unfoldable pub on_download_reply : (result : ℕ) → After
  on_download_reply result =
      pick (eqb d.phase loaded) (moved (in_phase (pick (eqb result 0x00) acked idle) d))
      (pick (eqb d.phase failed) (moved (in_phase idle d))
      (refuse no_use))

  -- 23: its answer, and with 00 Installing
  unfoldable pub on_execute : (condition : ℕ) → After
  on_execute condition =
      let result : ℕ = execute_result d.phase condition in
      replied (pick (eqb result 0x00) (in_phase installing d) d) (execute_reply result)

  -- 24 in Reporting: Idle
  unfoldable pub on_result_reply : After
  on_result_reply = pick (eqb d.phase reporting) (moved (in_phase idle d)) (refuse no_use)

  -- what a reading leads to
  unfoldable pub handle : (condition : ℕ) → Reading DeviceMessage → After
  handle condition (refused n) = refuse n
  handle condition (found query) = on_query
  handle condition (found (announce f)) = on_announce condition f
  handle condition (found (fragment result index bytes)) = on_fragment result index bytes
  handle condition (found (download_reply result)) = on_download_reply result
  handle condition (found execute) = on_execute condition
  handle condition (found (result_reply result)) = on_result_reply

  -- a message is given: 15, 13, 29, 14, 1 to 8, then the message's own rule
  unfoldable pub receive_of : (supported pcp : Bool) (condition : ℕ) (message : List ℕ) → After
  receive_of supported pcp condition message =
      let n : ℕ = receive_refusal d condition image map reply in
      pick (eqb n handled) (handle condition (read_of to_device supported pcp message)) (refuse n)

-- ---- asking for the next message

-- what a phase has to say; 9 where it has nothing, 29 where Loading finds none missing
unfoldable pub wanted : Device → (map : List ℕ) → Reading GatewayMessage
wanted d map =
    let index : ℕ = lowest_missing map d.fields.total in
    pick (eqb d.phase loading) (pick (ltb index d.fields.total) (found (fragment_request d.fields.version index)) (refused bad_record))
    (pick (eqb d.phase loaded) (found (download_report 0x00))
    (pick (eqb d.phase failed) (found (download_report 0x07))
    (pick (eqb d.phase reporting) (found (result_report d.outcome d.running))
    (refused no_use))))

-- 15, 29, 14, then what there is to say
unfoldable pub next_message_of : Device → (image map reply : List ℕ) → Sent
next_message_of d image map reply =
    let n : ℕ = ask_refusal d image map reply in
    said to_gateway (pick (eqb n handled) (wanted d map) (refused n)) reply

-- ---- the installer's end

-- 29, 9, 16; its code is kept, and with 00 the target becomes the running version
unfoldable pub install_finished_of : Device → (code : ℕ) → Finished
install_finished_of d code =
    let n : ℕ = finish_refusal d code in
    pick (eqb n handled)
    (record { number = handled; device = with_outcome code (pick (eqb code 0x00) d.fields.version d.running) d })
    (record { number = n; device = d })

-- ---- a digest given for the download held

-- 29, 9; it takes the place of one that was given before
unfoldable pub give_digest_of : Device → (digest : List ℕ) → DigestAnswer
give_digest_of d digest =
    let n : ℕ = give_refusal d in
    pick (eqb n handled) (record { number = handled; device = with_digest digest d }) (record { number = n; device = d })
