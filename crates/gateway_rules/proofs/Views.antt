-- What a call of the gateway can change, and what it can say: one constructor for each outcome, with the guard that led to it. Assumes
-- nothing.
use Prim.Native.Nat.{ℕ, ◌<◌}
use native.Mathlib.Omega.{arith}
use mathlib.Core.Path.{◌≡◌, refl, ap, ap₂}
use mathlib.Core.Bool.{Bool, true}
use mathlib.Core.List.{List}
use mathlib.Core.Logic.{◌⊎◌}
use lib.Dec.{eqb}
use lib.ListN.{length}
use borrow.Author.Tests.{eqb-true, eq-eqb}
use Rattle.basis.specs.Choice.{pick}
use Rattle.basis.specs.Bytes.{same, over}
use Rattle.basis.proofs.Choosing.{by_cases, pick_yes, and_left, and_right}
use Rattle.basis.proofs.Lists.{same_true}
use Rattle.message.specs.Messages.{DeviceMessage, query, announce, fragment, download_reply, execute, result_reply, GatewayMessage, query_reply, announce_reply}
use Rattle.message.specs.Messages.{fragment_request, download_report, execute_reply, result_report, Reading, found, refused, to_device, to_gateway}
use Rattle.codec.specs.Codec.{bytes_of, read_of, said}
use Rattle.gateway_record.specs.declared.Gateway.{Gateway}
use Rattle.gateway_record.specs.Record.{ask, offer, serve, run, fragment_of, in_phase, ended_with}
use Rattle.gateway_rules.specs.Decisions.{after_query, serving, install_ending}
use Rattle.gateway_rules.proofs.Served.{given, given_tells}
use Rattle.gateway_rules.specs.Rules.{After, fragment_reply, refuse, on_query_reply, on_announce_reply, on_fragment_request, on_download_report}
use Rattle.gateway_rules.specs.Rules.{on_execute_reply, on_result_report, handle, receive_of, wanted, next_message_of}

module _ (g : Gateway) (content : List ℕ) where
  -- a fragment is given in Serve or Run, and it is the package's for its index
  pub record Served (index : ℕ) (bytes : List ℕ) : Type 0 where
    pub phase : (g.phase ≡ serve) ⊎ (g.phase ≡ run)
    pub below : index < g.fields.total
    pub stretch : bytes ≡ fragment_of content g.fields.size index

  -- the messages that can be said
  abbrev pub CanSay : DeviceMessage → Type 0
  CanSay query = Unit {0}
  CanSay (announce f) = (g.phase ≡ offer) × (f ≡ g.fields)
  CanSay (fragment result index bytes) = result ≡ 0x00 → Served index bytes
  CanSay (download_reply result) = Unit {0}
  CanSay execute = g.phase ≡ run
  CanSay (result_reply result) = Unit {0}

  -- what is left in the buffer
  pub data Says (reply : List ℕ) (n : ℕ) (buffer : List ℕ) : Type 0 where
    nothing : n ≡ 0 → Says reply n buffer
    says : (m : DeviceMessage) → n ≡ length (bytes_of to_device m) → buffer ≡ over (bytes_of to_device m) reply → CanSay m
        → Says reply n buffer

  -- the record after a message
  pub data Turns (heard : Reading GatewayMessage) (h : Gateway) : Type 0 where
    stays : h ≡ g → Turns heard h
    offers : g.phase ≡ ask → h ≡ in_phase offer g → Turns heard h
    serves : g.phase ≡ offer → heard ≡ found (announce_reply 0x00) → h ≡ in_phase serve g → Turns heard h
    runs : g.phase ≡ serve → h ≡ in_phase run g → Turns heard h
    fails : (n : ℕ) → (n ≡ 0 → ⊥) → h ≡ ended_with n g → Turns heard h
    succeeds : g.phase ≡ run → heard ≡ found (result_report 0x00 g.fields.version) → h ≡ ended_with 0 g → Turns heard h

  pub record Step (reply : List ℕ) (heard : Reading GatewayMessage) (a : After) : Type 0 where
    pub turns : Turns heard a.gateway
    pub said : Says reply a.length a.reply

  served-or-not : (version : List ℕ) (index : ℕ) → CanSay (fragment_reply g content version index)
  unfolding fragment_reply
  served-or-not version index z =
      let (phase, below) = given_tells g.phase g.fields version index z in
      record { phase = phase; below = below; stretch = pick_yes _ _ _ (eq-eqb _ _ z) }

  -- a request in Serve or Run, with the target's version and an index below the total, is answered with its fragment
  pub serves_fragment : (version : List ℕ) (index : ℕ) → serving g.phase ≡ true → same version g.fields.version ≡ true
      → index < g.fields.total
      → fragment_reply g content version index ≡ fragment 0x00 index (fragment_of content g.fields.size index)
  unfolding fragment_reply pick
  serves_fragment version index s v l = rw (given g.phase g.fields version index s v l)

  module _ (reply : List ℕ) where
    refuses : (heard : Reading GatewayMessage) (n : ℕ) → Step reply heard (refuse g content reply n)
    refuses heard n = record { turns = stays refl; said = nothing refl }

    handled : (heard : Reading GatewayMessage) → Step reply heard (handle g content reply heard)
    unfolding handle on_query_reply on_announce_reply on_fragment_request on_download_report on_execute_reply on_result_report after_query install_ending
    handled (refused n) = refuses (refused n) n
    handled (found (query_reply result version)) =
        by_cases (Step reply _)
        (λ e. record {
          turns = by_cases (Turns _) (λ _. fails 1 (omega arith) refl) (λ _. offers (eqb-true _ _ e) refl);
          said = nothing refl;
        })
        (λ _. refuses _ 9)
    handled (found (announce_reply result)) =
        by_cases (Step reply _)
        (λ e. record {
          turns = by_cases (Turns _)
              (λ z. serves (eqb-true _ _ e) (ap (λ (r : ℕ). found (announce_reply r)) (eqb-true _ _ z)) refl)
              (λ _. fails 2 (omega arith) refl);
          said = nothing refl;
        })
        (λ _. refuses _ 9)
    handled (found (fragment_request version index)) =
        record { turns = stays refl; said = says (fragment_reply g content version index) refl refl (served-or-not version index) }
    handled (found (download_report result)) =
        by_cases (Step reply _)
        (λ e. record {
          turns = by_cases (Turns _) (λ _. runs (eqb-true _ _ e) refl) (λ _. fails 3 (omega arith) refl);
          said = says (download_reply 0x00) refl refl tt;
        })
        (λ _. by_cases (Step reply _)
        (λ _. record { turns = stays refl; said = says (download_reply 0x00) refl refl tt })
        (λ _. record { turns = stays refl; said = says (download_reply 0x80) refl refl tt }))
    handled (found (execute_reply result)) =
        by_cases (Step reply _)
        (λ _. record { turns = by_cases (Turns _) (λ _. stays refl) (λ _. fails 4 (omega arith) refl); said = nothing refl })
        (λ _. refuses _ 9)
    handled (found (result_report result version)) =
        by_cases (Step reply _)
        (λ e. record {
          turns = by_cases (λ (n : ℕ). Turns (found (result_report result version)) (ended_with n g))
              (λ t. succeeds (eqb-true _ _ e)
              (ap₂ (λ (r : ℕ) (v : List ℕ). found (result_report r v))
              (eqb-true result 0x00 (and_left _ (same version g.fields.version) t))
              (same_true version g.fields.version (and_right (eqb result 0x00) _ t))) refl)
              (λ _. fails 5 (omega arith) refl);
          said = says (result_reply 0x00) refl refl tt;
        })
        (λ _. record { turns = stays refl; said = says (result_reply 0x80) refl refl tt })

    pub received : (supported pcp : Bool) (message : List ℕ)
        → Step reply (read_of to_gateway supported pcp message) (receive_of g content reply supported pcp message)
    unfolding receive_of
    received supported pcp message = by_cases (Step reply _) (λ _. handled (read_of to_gateway supported pcp message)) (λ _. refuses _ _)

    pub next_said : Says reply (next_message_of g content reply).length (next_message_of g content reply).buffer
    unfolding next_message_of wanted said
    next_said =
        by_cases Spoken
        (λ _. by_cases Spoken (λ _. says query refl refl tt)
        (λ _. by_cases Spoken (λ e. says (announce g.fields) refl refl (eqb-true _ _ e, refl))
        (λ _. by_cases Spoken (λ e. says execute refl refl (eqb-true _ _ e)) (λ _. nothing refl))))
        (λ _. nothing refl)
      where
        Spoken : Reading DeviceMessage → Type 0
        Spoken r = Says reply (said to_device r reply).length (said to_device r reply).buffer

-- ---- what a message leaves as it was

pub turned_keeps : (g : Gateway) (content : List ℕ) (heard : Reading GatewayMessage) (h : Gateway) → Turns g content heard h
    → (h.fields ≡ g.fields) × (h.length ≡ g.length)
turned_keeps g content heard h (stays e) = rw e (refl, refl)
turned_keeps g content heard h (offers p e) = rw e (refl, refl)
turned_keeps g content heard h (serves p q e) = rw e (refl, refl)
turned_keeps g content heard h (runs p e) = rw e (refl, refl)
turned_keeps g content heard h (fails n p e) = rw e (refl, refl)
turned_keeps g content heard h (succeeds p q e) = rw e (refl, refl)

module _ (g : Gateway) (content reply : List ℕ) (supported pcp : Bool) (message : List ℕ) where
  pub receive_keeps : (receive_of g content reply supported pcp message).gateway.fields ≡ g.fields
  receive_keeps = (turned_keeps g content _ _ (received g content reply supported pcp message).turns).0

  pub receive_keeps_length : (receive_of g content reply supported pcp message).gateway.length ≡ g.length
  receive_keeps_length = (turned_keeps g content _ _ (received g content reply supported pcp message).turns).1
