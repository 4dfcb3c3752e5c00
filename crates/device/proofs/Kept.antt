-- What a call with a refusal leaves.
use Rattle.std.proofs.Common.{◌≡◌, ◌≢◌, ◌≤◌, ◌⊎◌, inl, inr, Bool, ℕ, List, arith, refl, Result, Ok, Err, IfErr, subst, sym}
use Rattle.std.proofs.lemmas.Grind.{common_steps}
use Rattle.basis.specs.Choice.{pick, refusal}
use Rattle.message.specs.Messages.{DeviceMessage, Reading, found, refused, to_device, query, announce, fragment, download_reply, execute, result_reply}
use Rattle.codec.specs.Codec.{read_of}
use Rattle.device_record.specs.declared.Device.{Device}
use Rattle.device_rules.specs.Rules.{After, refuse, differ, begin, store, on_query}
use Rattle.device_rules.specs.Rules.{on_announce, on_fragment, on_download_reply, on_execute, on_result_reply, handle, receive_of}
use Rattle.basis.specs.declared.refusal.Refusal.{Refusal}
use Rattle.device.proofs.Read.{read_refused}
use Rattle.device.specs.Left.{left, as_held, refused_state}

module _ (d : Device) (image map reply : List ℕ) where
  -- handled, refused with all as it was, or a repeat that differs
  abbrev Alone : After → Type 0
  Alone a = (a.number ≡ 0) ⊎ (((a.number ≢ 23) × (a ≡ refuse d image map reply a.number)) ⊎ (a ≡ differ d image map reply))

  announce-alone : (condition : ℕ) (f : _) → Alone (on_announce d image map reply condition f)
  unfolding on_announce begin pick
  announce-alone condition f = grind (arith, common_steps)

  fragment-alone : (code index : ℕ) (bytes : List ℕ) → Alone (on_fragment d image map reply code index bytes)
  unfolding on_fragment store pick
  fragment-alone code index bytes = grind (arith, common_steps)

  handle-alone : (condition : ℕ) (r : Reading DeviceMessage) → ((n : ℕ) → r ≡ refused n → n ≤ 8) → Alone (handle d image map reply condition r)
  unfolding handle on_query on_download_reply on_execute on_result_reply pick
  handle-alone condition (refused n) low = inr (inl ((λ e. absurd (omega (arith, low n refl))), refl))
  handle-alone condition (found query) low = inl refl
  handle-alone condition (found (announce f)) low = announce-alone condition f
  handle-alone condition (found (fragment code index bytes)) low = fragment-alone code index bytes
  handle-alone condition (found (download_reply code)) low = grind (arith, common_steps)
  handle-alone condition (found execute) low = inl refl
  handle-alone condition (found (result_reply code)) low = grind (arith, common_steps)

  pub receive-alone : (supported pcp : Bool) (condition : ℕ) (message : List ℕ) → Alone (receive_of d image map reply supported pcp condition message)
  unfolding receive_of refusal pick
  receive-alone supported pcp condition message =
      grind (arith, common_steps, handle-alone condition (read_of to_device supported pcp message) (λ n e. (read_refused supported pcp message n e).1))

  kept : (r : Result ℕ Refusal) (e : Device) (image' map' reply' : List ℕ) → Alone (left r e image' map' reply') →
      IfErr r (λ f. as_held e image' map' reply' ≡ refused_state f (as_held d image map reply))
  kept (Ok n) e image' map' reply' h = tt
  kept (Err f) e image' map' reply' h = grind (arith, common_steps)

  pub kept_by_rule : (supported pcp : Bool) (condition : ℕ) (message : List ℕ) (r : Result ℕ Refusal) (e : Device) (image' map' reply' : List ℕ) →
      left r e image' map' reply' ≡ receive_of d image map reply supported pcp condition message →
      IfErr r (λ f. as_held e image' map' reply' ≡ refused_state f (as_held d image map reply))
  kept_by_rule supported pcp condition message r e image' map' reply' h =
      kept r e image' map' reply' (subst Alone (sym h) (receive-alone supported pcp condition message))
