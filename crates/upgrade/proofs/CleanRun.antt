-- The clean run leaves the gateway Ended with 0, without a digest and with the package's: the records that any calls before the start leave
-- are a setting of it. Assumes nothing.
use Prim.Native.Nat.{ℕ}
use native.Mathlib.Omega.{arith}
use mathlib.Core.Path.{◌≡◌, refl, sym, ◌∙◌, ap, ap₂}
use mathlib.Core.Bool.{Bool, true, false, ◌||◌}
use mathlib.Core.List.{List, [], ◌∷◌}
use lib.Dec.{eqb}
use lib.ListN.{length}
use borrow.Author.Tests.{eq-eqb, lt-ltb}
use Rattle.basis.specs.Choice.{pick}
use Rattle.basis.proofs.Choosing.{by_cases, and_both}
use Rattle.basis.proofs.Lists.{same_refl, same_swap}
use Rattle.checksum.specs.Check.{check_of}
use Rattle.checksum.proofs.Register.{check_fits}
use Rattle.message.specs.Limits.{is_word}
use Rattle.message.specs.Messages.{GatewayMessage, Reading}
use Rattle.md5_rules.specs.Md5.{md5_of}
use Rattle.md5_rules.proofs.Feeding.{digest_length}
use Rattle.device_record.specs.declared.Expected.{Expected}
use Rattle.device_record.specs.Record.{no_digest, digest_set}
use Rattle.device_rules.specs.Rules.{check_passes, digest_passes, passes}
use Rattle.message.specs.declared.Fields.{Fields}
use Rattle.gateway_record.specs.declared.Gateway.{Gateway}
use Rattle.gateway_record.specs.Record as gateway
use Rattle.gateway_rules.proofs.Views.{Turns, stays, offers, serves, runs, fails, succeeds, received}
use Rattle.gateway_record.proofs.Package.{StartedOn, starts, started_fields}
use Rattle.upgrade.specs.Fold.{after}
use Rattle.upgrade.specs.Calls.{GatewayCall, Ends}
use Rattle.upgrade.specs.Records.{gateway_next, World, records, gateway_does}
use Rattle.upgrade.specs.Demand3.{Before, device_then, gateway_then, start}
use Rattle.upgrade.specs.Clean.{CleanStart, Reached, digests_given, gateway_asked, SucceedsFrom, CleanRun, CleanRunWithDigests}
use Rattle.upgrade.proofs.Count.{made_fine, run_fine}
use Rattle.upgrade.proofs.CleanSetting.{Setting, gateway_in, begun_with}
use Rattle.upgrade.proofs.CleanCalls.{At, asks_gateway}
use Rattle.upgrade.proofs.CleanSteps.{announced, digest_number, digest_expected, digests_begun}
use Rattle.upgrade.proofs.CleanCourse as of
use Rattle.upgrade.proofs.CleanAllowed.{reached_start, digest_given_lem, digests_given_lem, gateway_asked_lem, until_silent, at_end}

-- ---- the gateway before the start

-- until Ended only the phase is another than at its start
abbrev Unended : Gateway → Gateway → Type 0
Unended g h = (h.phase ≡ gateway.ended → ⊥) → h ≡ gateway.in_phase h.phase g

module _ (content : List ℕ) (g : Gateway) where
  unended-turn : (h k : Gateway) (heard : Reading GatewayMessage) → Turns h content heard k → Unended g h → Unended g k
  unended-turn h k heard (stays e) u = rw e u
  unended-turn h k heard (offers p e) u = rw e (λ _. ap (gateway.in_phase gateway.offer) (u (λ z. omega arith)))
  unended-turn h k heard (serves p m e) u = rw e (λ _. ap (gateway.in_phase gateway.serve) (u (λ z. omega arith)))
  unended-turn h k heard (runs p e) u = rw e (λ _. ap (gateway.in_phase gateway.run) (u (λ z. omega arith)))
  unended-turn h k heard (fails n z e) u = rw e (λ not. absurd (not refl))
  unended-turn h k heard (succeeds p m e) u = rw e (λ not. absurd (not refl))

  unended-next : (h : Gateway) (c : GatewayCall Bool) → Unended g h → Unended g (gateway_next content h c)
  unfolding gateway_does
  unended-next h (GatewayCall.given supported pcp message reply) u = unended-turn h _ _ (received h content reply supported pcp message).turns u
  unended-next h (GatewayCall.asked reply) u = u

  unended-after : (calls : List (GatewayCall Bool)) (h : Gateway) → Unended g h → Unended g (after (gateway_next content) h calls)
  unended-after [] h u = u
  unended-after (c ∷ cs) h u = unended-after cs (gateway_next content h c) (unended-next h c u)

-- ---- the setting

-- whichever code the caller chose, it is a WORD that the package passes
code_chosen : (checked : Bool) (content : List ℕ) → let code : ℕ = pick checked (check_of content) 0 in
    (is_word code ≡ true) × (check_passes code content ≡ true)
unfolding is_word check_passes
code_chosen checked content =
    by_cases (λ (code : ℕ). (is_word code ≡ true) × (check_passes code content ≡ true))
    (λ _. (
      lt-ltb (check_of content) 65536 (check_fits content),
      rw (eq-eqb (check_of content) (check_of content) refl) (or-true (eqb (check_of content) 0)),
    ))
    (λ _. (refl, refl))
  where
    or-true : (t : Bool) → (t || true) ≡ true
    or-true true = refl
    or-true false = refl

-- both tests, where the digest's is passed; that is passed with none, and with the package's own
both_pass : (checked : Bool) (content : List ℕ) (expected : Expected) → digest_passes expected content ≡ true
    → passes (pick checked (check_of content) 0) expected content ≡ true
unfolding passes
both_pass checked content expected matches = and_both (code_chosen checked content).1 matches

none_passes : (content : List ℕ) → digest_passes no_digest content ≡ true
unfolding digest_passes
none_passes content = refl

own_passes : (content : List ℕ) → digest_passes (digest_set (md5_of content)) content ≡ true
unfolding digest_passes
own_passes content = same_refl (md5_of content)

module _ (b : Before) (device_reply gateway_reply : World → List ℕ) (c : CleanStart b device_reply gateway_reply) where
  begun : StartedOn b.version b.size b.content (pick b.checked (check_of b.content) 0)
      (gateway.start_of b.version b.size b.content b.checked)
  begun = starts b.version b.size b.content b.checked c.ready.gateway_started

  -- with a digest that is expected while the package is fetched and that the package has, or with none
  module _ (expected : Expected) (matches : digest_passes expected b.content ≡ true) where
    abbrev setting : Setting
    setting =
        record {
          content = b.content;
          device_reply = device_reply;
          gateway_reply = gateway_reply;
          version = b.version;
          size = b.size;
          code = pick b.checked (check_of b.content) 0;
          expected = expected;
          first = device_then b;
          device_room = c.device_room;
          gateway_room = c.gateway_room;
          version_good = begun.version_good;
          size_ok = begun.size_ok;
          length_ok = begun.length_ok;
          code_word = (code_chosen b.checked b.content).0;
          passes = both_pass b.checked b.content expected matches;
          idle = c.device_idle;
          sound = run_fine b.device_calls _ (made_fine b.running b.image b.map c.ready.device_made);
          another = same_swap _ _ c.other_version;
          image_room = c.image_room;
          map_room = c.map_room;
        }

    at-start : At (start b) (device_then b) (gateway_in setting gateway.offer)
    at-start =
        let first : Gateway = (gateway.start_of b.version b.size b.content b.checked).gateway in
        let unended : Unended first (gateway_then b) = unended-after b.content first b.gateway_calls first (λ _. refl) in
        let offering : (gateway_then b).phase ≡ gateway.offer = c.ready.offering in
        record {
          device_is = refl;
          sound = setting.sound;
          gateway_is =
              unended (λ z. omega arith)
              ∙ ap₂ gateway.in_phase offering begun.made
              ∙ ap (λ (f : Fields). record { phase = gateway.offer; ending = 0; fields = f; length = length b.content })
              (sym (ap (λ (g : Gateway). g.fields) begun.made) ∙ started_fields _ _ b.content _ begun);
        }

    -- the announcement is answered, and no digest is expected yet
    at_first : At (asks_gateway setting (start b)) (begun_with setting no_digest) (gateway_in setting gateway.serve)
    at_first = announced setting (start b) at-start

    -- where the one expected is set, the rest of the run succeeds
    succeeds-from : (first : World) → At first (begun_with setting expected) (gateway_in setting gateway.serve) → Reached (records b.content) (start b) first
        → SucceedsFrom (records b.content) true device_reply gateway_reply (start b) first
    succeeds-from first here there =
        let e : Ends = records b.content in
        let (v, until, _) = of.fetched setting first here in (
          (v, until),
          λ u silence.
              let silent : Reached e (start b) u = until_silent e (start b) true device_reply gateway_reply silence there in
              let done : _ = of.succeeds setting first here u silence in (
                silent,
                of.runs setting first here u silence,
                at_end e (start b) true device_reply gateway_reply u silent,
                (ap (λ (g : Gateway). g.phase) done, ap (λ (g : Gateway). g.ending) done),
              ),
        )

  first-there : Reached (records b.content) (start b) (gateway_asked (records b.content) true device_reply gateway_reply (start b))
  first-there =
      let e : Ends = records b.content in
      gateway_asked_lem e (start b) true device_reply gateway_reply (start b) (reached_start e (start b))

-- ---- without a digest, and with the package's

pub clean_run : CleanRun
clean_run b device_reply gateway_reply c =
    succeeds-from b device_reply gateway_reply c no_digest (none_passes b.content) _ (at_first b device_reply gateway_reply c no_digest (none_passes b.content))
    (first-there b device_reply gateway_reply c)

pub clean_run_with_digests : CleanRunWithDigests
clean_run_with_digests b device_reply gateway_reply c others =
    let e : Ends = records b.content in
    let digest : List ℕ = md5_of b.content in
    let matches : digest_passes (digest_set digest) b.content ≡ true = own_passes b.content in
    let s : Setting = setting b device_reply gateway_reply c (digest_set digest) matches in
    let first : World = gateway_asked e true device_reply gateway_reply (start b) in
    let then : World = digests_given e first others in
    let (x, here) = digests_begun s others first (no_digest, at_first b device_reply gateway_reply c (digest_set digest) matches) in (
      digest_number s then x here _ (digest_length _),
      succeeds-from b device_reply gateway_reply c (digest_set digest) matches _ (digest_expected s then x here digest (digest_length b.content))
          (digest_given_lem e (start b) then digest (digests_given_lem e (start b) others first (first-there b device_reply gateway_reply c))),
    )
