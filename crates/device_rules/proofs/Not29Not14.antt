-- A record that the device's own calls left, with its buffers, is not refused with 29, nor with 14. Assumes nothing.
use Prim.Native.Nat.{ℕ, ◌<◌}
use native.Mathlib.Omega.{arith}
use mathlib.Core.Path.{◌≡◌, sym, ◌∙◌}
use mathlib.Core.Bool.{Bool, true, true≢false}
use mathlib.Core.List.{List}
use borrow.Author.Tests.{eqb-true, ltb-false}
use Rattle.basis.specs.Choice.{pick, refusal}
use Rattle.basis.proofs.Choosing.{by_cases, refusal_among}
use Rattle.message.specs.Messages.{DeviceMessage, query, announce, fragment, download_reply, execute, result_reply, GatewayMessage, Table, Reading, found}
use Rattle.message.specs.Messages.{refused, to_device, to_gateway}
use Rattle.codec.specs.Codec.{read_of, said}
use Rattle.message.specs.Recognition.{recognition}
use Rattle.message.specs.declared.Fields.{Fields}
use Rattle.device_record.specs.declared.Device.{Device}
use Rattle.device_record.specs.Record.{loading}
use Rattle.bitmap.specs.Bitmap.{lowest_missing}
use Rattle.device_rules.specs.declared.Finished.{Finished}
use Rattle.device_rules.specs.declared.DigestAnswer.{DigestAnswer}
use Rattle.device_rules.specs.Rules as rules
use Rattle.device_rules.specs.Rules.{After, on_query, on_announce, on_fragment, on_download_reply, on_execute, on_result_reply, begin, store, handle}
use Rattle.device_rules.specs.Rules.{receive_of}
use Rattle.device_rules.specs.Rules.{wanted}
use Rattle.device_rules.specs.Rules.{next_message_of, install_finished_of, give_digest_of}
use Rattle.bitmap.proofs.Bitmaps.{lowest_exists}
use Rattle.device_rules.proofs.Holds.{Rule}
use Rattle.device_rules.proofs.Sound.{Download, Sound, sound_record, sound_room}

-- the number is neither 29 nor 14
abbrev pub Neither : ℕ → Type 0
Neither n = (n ≡ 29 → ⊥) × (n ≡ 14 → ⊥)

abbrev Fine : {M : Type 0} → Reading M → Type 0
Fine (found m) = Unit {0}
Fine (refused n) = Neither n

-- ---- what a reading and its handler answer

read_fine : (t : Table) (supported pcp : Bool) (bytes : List ℕ) → Fine (read_of t supported pcp bytes)
unfolding read_of recognition
read_fine t supported pcp bytes =
    by_cases Fine (λ _. by_cases Fine (λ _. tt) (λ _. omega arith)) (λ _. refusal_among Neither _ (omega arith) (omega arith))

repeat_neither : (f : Fields) (last index : ℕ) (image bytes : List ℕ) → Neither (rules.repeat_refusal f last index image bytes)
unfolding rules.repeat_refusal
repeat_neither f last index image bytes = by_cases Neither (λ _. omega arith) (λ _. omega arith)

module _ (d : Device) (image map reply : List ℕ) where
  L : After → Type 0
  L a = Neither a.number

  handle-neither : (condition : ℕ) (r : Reading DeviceMessage) → Fine r → Neither (handle d image map reply condition r).number
  unfolding L handle on_query on_announce on_fragment rules.fragment_refusal on_download_reply on_execute on_result_reply begin store
  handle-neither condition (refused n) h = h
  handle-neither condition (found query) h = omega arith
  handle-neither condition (found (announce f)) h = by_cases L (λ _. by_cases L (λ _. omega arith) (λ _. omega arith)) (λ _. omega arith)
  handle-neither condition (found (fragment result index bytes)) h =
      by_cases L
      (λ _. by_cases L (λ _. omega arith)
      (λ _. by_cases L (λ _. omega arith)
      (λ _. by_cases L (λ _. omega arith)
      (λ _. by_cases L (λ _. omega arith)
      (λ _. refusal_among Neither _ (omega arith) (omega arith, (omega arith, (repeat_neither d.fields d.last index image bytes, tt))))))))
      (λ _. omega arith)
  handle-neither condition (found (download_reply result)) h =
      by_cases L (λ _. omega arith) (λ _. by_cases L (λ _. omega arith) (λ _. omega arith))
  handle-neither condition (found execute) h = omega arith
  handle-neither condition (found (result_reply result)) h = by_cases L (λ _. omega arith) (λ _. omega arith)

  -- a message is read and handled
  pub heard_neither : (supported pcp : Bool) (condition : ℕ) (message : List ℕ)
      → Neither (handle d image map reply condition (read_of to_device supported pcp message)).number
  heard_neither supported pcp condition message =
      handle-neither condition (read_of to_device supported pcp message) (read_fine to_device supported pcp message)

-- ---- neither 29 nor 14

-- tests that hold do not give their number
unless : {t : Bool} {a : ℕ} (b : ℕ) → t ≡ true → Neither a → Neither (pick t a b)
unless b e h = by_cases Neither (λ _. h) (λ f. absurd (true≢false (sym e ∙ f)))

module _ (rule : Rule) (d : Device) (image map : List ℕ) (s : Sound rule d image map) where
  pub install_neither : (code : ℕ) → Neither (install_finished_of d code).number
  unfolding install_finished_of refusal
  install_neither code =
      by_cases (λ (f : Finished). Neither f.number) (λ _. omega arith)
      (λ _. unless 29 (sound_record rule d image map s)
      (by_cases Neither (λ _. by_cases Neither (λ _. omega arith) (λ _. omega arith)) (λ _. omega arith)))

  pub give_neither : (digest : List ℕ) → Neither (give_digest_of d digest).number
  unfolding give_digest_of refusal
  give_neither digest =
      by_cases (λ (g : DigestAnswer). Neither g.number) (λ _. omega arith)
      (λ _. unless 29 (sound_record rule d image map s) (by_cases Neither (λ _. omega arith) (λ _. omega arith)))

  wanted-fine : Fine (wanted d map)
  unfolding wanted
  wanted-fine =
      by_cases Fine
      (λ p. by_cases Fine (λ _. tt) (λ none.
      let w : Download rule d image map = s.download (λ e. omega (arith, eqb-true d.phase loading p)) in
      let l : lowest_missing map d.fields.total < d.fields.total =
      lowest_exists map d.fields.total (omega (arith, w.counts, w.unfinished (eqb-true d.phase loading p))) in
      absurd (omega (arith, ltb-false (lowest_missing map d.fields.total) d.fields.total none))))
      (λ _. by_cases Fine (λ _. tt) (λ _. by_cases Fine (λ _. tt) (λ _. by_cases Fine (λ _. tt) (λ _. omega arith))))

  module _ (reply : List ℕ) where
    pub receive_neither : (supported pcp : Bool) (condition : ℕ) (message : List ℕ)
        → Neither (receive_of d image map reply supported pcp condition message).number
    unfolding receive_of refusal
    receive_neither supported pcp condition message =
        by_cases (λ (a : After). Neither a.number) (λ _. heard_neither d image map reply supported pcp condition message)
        (λ _. by_cases Neither
        (λ _. by_cases Neither
        (λ _. unless 29 (sound_record rule d image map s) (unless 14 (sound_room rule d image map s) (omega arith)))
        (λ _. omega arith))
        (λ _. omega arith))

    said-fine : (r : Reading GatewayMessage) → Fine r → Neither (said to_gateway r reply).number
    unfolding said
    said-fine (found m) h = omega arith
    said-fine (refused n) h = h

    pub ask_neither : Neither (next_message_of d image map reply).number
    unfolding next_message_of refusal
    ask_neither =
        said-fine _
        (by_cases Fine (λ _. wanted-fine)
        (λ _. by_cases Neither
        (λ _. unless 29 (sound_record rule d image map s) (unless 14 (sound_room rule d image map s) (omega arith)))
        (λ _. omega arith)))
