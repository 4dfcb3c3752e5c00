-- What demand 3 claims of runs, whatever their ends keep: 01, "Runs of demand 3", and 02, 2026-06. Assumes nothing.
use Rattle.std.specs.Prelude.{ℕ, ◌≡◌, List, [], ◌∷◌, ◌++◌, length, take, drop}
use Rattle.basis.specs.Numbers.{repeat_differs}
use Rattle.message.specs.Messages.{execute, execute_reply, found, to_device, to_gateway}
use Rattle.codec.specs.Codec.{bytes_of, read_of}
use Rattle.device_record.specs.declared.Device.{Device}
use Rattle.device_rules.specs.Decisions.{true_length}
use Rattle.gateway_record.specs.Record as gateway
use Rattle.upgrade.specs.Fold.{after, Allowed}
use Rattle.upgrade.specs.Calls.{given, asked, finished, digest_given, Call, at_device, at_gateway, Ends, Both, next, May}

module _ (e : Ends) where
  -- The call gave the device a 23 and brought the reply 23 with 00.
  abbrev pub Executed : Both e → Call e.Fact → Type 0
  Executed w (at_device (given supported pcp condition message reply)) =
      (read_of to_device (e.fact supported) (e.fact pcp) message ≡ found execute)
      × ((e.device.does w.device_end (given supported pcp condition message reply)).says ≡ bytes_of to_gateway (execute_reply 0x00) ∷ [])
  Executed w (at_device (asked reply)) = ⊥
  Executed w (at_device (finished code)) = ⊥
  Executed w (at_device (digest_given digest)) = ⊥
  Executed w (at_gateway c) = ⊥

  -- The call was an installer's end with 00, answered 0.
  abbrev pub Installed : Both e → Call e.Fact → Type 0
  Installed w (at_device (given supported pcp condition message reply)) = ⊥
  Installed w (at_device (asked reply)) = ⊥
  Installed w (at_device (finished code)) = (code ≡ 0x00) × ((e.device.does w.device_end (finished code)).number ≡ 0)
  Installed w (at_device (digest_given digest)) = ⊥
  Installed w (at_gateway c) = ⊥

  -- The number with which a call is answered.
  abbrev pub number_of : Both e → Call e.Fact → ℕ
  number_of w (at_device c) = (e.device.does w.device_end c).number
  number_of w (at_gateway c) = (e.gateway.does w.gateway c).number

  -- The gateway is Ended.
  abbrev pub Ended : Both e → Type 0
  Ended w = (e.gateway.gateway w.gateway).phase ≡ gateway.ended

  -- It has recorded success: Ended with ending number 0.
  abbrev pub Success : Both e → Type 0
  Success w = Ended w × ((e.gateway.gateway w.gateway).ending ≡ gateway.success)

  module _ (start : Both e) where
    abbrev pub reached : List (Call e.Fact) → Both e
    reached calls = after (next e) start calls

    abbrev pub image_after : List (Call e.Fact) → List ℕ
    image_after calls = e.device.image (reached calls).device_end

    -- Execute was answered 00 earlier, and then, with the gateway not yet Ended, the installer's end with 00 was taken (0).
    pub record InstalledBefore (calls : List (Call e.Fact)) : Type 0 where
      pub earlier : List (Call e.Fact)
      pub execution : Call e.Fact
      pub between : List (Call e.Fact)
      pub installation : Call e.Fact
      pub since : List (Call e.Fact)
      pub split : calls ≡ earlier ++ (execution ∷ (between ++ (installation ∷ since)))
      pub executed : Executed (reached earlier) execution
      pub installed : Installed (reached (earlier ++ (execution ∷ between))) installation
      pub not_ended : Ended (reached (earlier ++ (execution ∷ between))) → ⊥

    -- a claim of all lists of calls that may be made from the start on
    abbrev pub Always : (List (Call e.Fact) → Type 0) → Type 0
    Always Claim = (calls : List (Call e.Fact)) → Allowed (next e) May start calls → Claim calls

    -- no call that may be made gives the number 23: what comes again is what was stored (02, 2026-06)
    abbrev pub RepeatsAgreeOf : Type 0
    RepeatsAgreeOf = Always (λ calls. (c : Call e.Fact) → May (reached calls) c → number_of (reached calls) c ≡ repeat_differs → ⊥)

    module _ (content : List ℕ) where
      -- Where the last call brought that reply, the image begins with the package, and past it the image was, at the start and after each
      -- call since, the same.
      abbrev pub ExecutedImage : List (Call e.Fact) → Type 0
      ExecutedImage calls =
          (earlier : List (Call e.Fact)) (last : Call e.Fact) → calls ≡ earlier ++ (last ∷ []) → Executed (reached earlier) last →
          let n : ℕ = length content in
          (take n (image_after calls) ≡ content)
          × ((some rest : List (Call e.Fact)) → calls ≡ some ++ rest → drop n (image_after some) ≡ drop n (image_after []))

      -- Beside 01's claims, for who installs: there, size times (total less 1) plus the last length is the package's length.
      abbrev pub ExecutedLength : List (Call e.Fact) → Type 0
      ExecutedLength calls =
          (earlier : List (Call e.Fact)) (last : Call e.Fact) → calls ≡ earlier ++ (last ∷ []) → Executed (reached earlier) last →
          let d : Device = e.device.device (reached calls).device_end in
          true_length d.fields d.last ≡ length content

      -- The history of a success, with what stood in the image when Execute was answered 00: the package, and nothing else was changed.
      pub record UpgradedBefore (calls : List (Call e.Fact)) : Type 0 where
        pub history : InstalledBefore calls
        pub package_there : take (length content) (image_after (history.earlier ++ (history.execution ∷ []))) ≡ content
        pub rest_kept : drop (length content) (image_after (history.earlier ++ (history.execution ∷ []))) ≡ drop (length content) (image_after [])

      -- ---- of all lists of calls that may be made from the start on

      -- demand 3: both halves
      abbrev pub Demand3Of : Type 0
      Demand3Of = Always (λ calls. ExecutedImage calls × (Success (reached calls) → InstalledBefore calls))

      -- the halves joined, as a customer says it: success is recorded only after Execute was answered 00 with the package in the image, and an
      -- installer's end with 00 after that
      abbrev pub UpgradeOf : Type 0
      UpgradeOf = Always (λ calls. Success (reached calls) → UpgradedBefore calls)

      -- what is there to be installed is as long as the package
      abbrev pub InstallLengthOf : Type 0
      InstallLengthOf = Always ExecutedLength
