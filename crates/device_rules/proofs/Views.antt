-- What any call of the device can do: one constructor for each outcome, with the guards that led to it, what it leaves, and what it says.
-- Assumes nothing.
use Prim.Native.Nat.{ℕ, ◌+◌, ◌*◌, ◌≤◌, ◌<◌}
use native.Mathlib.Omega.{arith}
use mathlib.Core.Path.{◌≡◌, refl, sym, ◌∙◌, ap}
use mathlib.Core.Bool.{Bool, true, false, ◌&&◌, ◌||◌, not, false≢true}
use mathlib.Core.List.{List, [], ◌∷◌}
use mathlib.Core.Logic.{◌⊎◌, inl, inr}
use lib.Dec.{eqb}
use lib.ListN.{length, take}
use borrow.Author.Tests.{eqb-true, eqb-false, ne_eqb, ltb-true, not-true}
use Rattle.basis.specs.Choice.{pick, one_of}
use Rattle.basis.specs.Numbers.{repeat_differs}
use Rattle.basis.specs.Bytes.{same, over, patched}
use Rattle.basis.proofs.Choosing.{by_cases, pick_no, and_left, and_right, or_either, passed, refusal_among}
use Rattle.basis.proofs.Lists.{same_true, take_over}
use Rattle.message.specs.Limits.{is_word}
use Rattle.message.specs.Messages.{DeviceMessage, query, announce, fragment, download_reply, execute, result_reply, GatewayMessage, query_reply}
use Rattle.message.specs.Messages.{announce_reply, fragment_request, download_report, execute_reply, result_report, install_code, fragment_ok, Reading}
use Rattle.message.specs.Messages.{found, refused, to_device, to_gateway, device_row}
use Rattle.codec.specs.Codec.{sealed, frame, bytes_of, read_of, said}
use Rattle.message.specs.declared.Fields.{Fields}
use Rattle.round_trips.proofs.WrittenRead.{read, read_refused}
use Rattle.device_rules.proofs.Accepted.{Accepted, accepted_facts}
use Rattle.device_record.specs.declared.Device.{Device}
use Rattle.device_record.specs.Record.{idle, loading, loaded, acked, failed, installing, reporting, holding, in_phase, begun, with_fragment}
use Rattle.device_record.specs.Record.{with_outcome, with_digest}
use Rattle.device_record.specs.Record.{record_ok, map_bytes, ask_refusal, finish_refusal, give_refusal}
use Rattle.device_rules.proofs.Tested.{Passed, Differs, fragment_passed, fragment_differs}
use Rattle.bitmap.specs.Bitmap.{marked, mark, cleared, lowest_missing}
use Rattle.device_rules.specs.declared.Finished.{Finished}
use Rattle.device_rules.specs.declared.DigestAnswer.{DigestAnswer}
use Rattle.device_rules.specs.Rules as rules
use Rattle.device_rules.specs.Rules.{After, announce_result, resumes, fragment_length, completion, execute_result, refuse, moved, replied, begin, store}
use Rattle.device_rules.specs.Rules.{on_query}
use Rattle.device_rules.specs.Rules.{on_announce, on_fragment, on_download_reply, on_execute, on_result_reply, handle, receive_of, wanted, next_message_of}
use Rattle.device_rules.specs.Rules.{install_finished_of, give_digest_of}
use Rattle.device_rules.specs.Decisions.{last_after}

-- ---- calls, and what they leave

-- a message is given under a condition, and read so; the next message is asked for; the installer ends; a digest is given
pub data Input : Type 0 where
  hears : (condition : ℕ) → Reading DeviceMessage → Input
  asks : Input
  installs : (code : ℕ) → Input
  digests : (digest : List ℕ) → Input

-- the number, the record and both buffers after a call, and what it puts on the air
pub record Out : Type 0 where
  pub number : ℕ
  pub device : Device
  pub image : List ℕ
  pub map : List ℕ
  pub says : List (List ℕ)

abbrev pub out : ℕ → Device → (image map : List ℕ) → List (List ℕ) → Out
out n d image map says = record { number = n; device = d; image = image; map = map; says = says }

-- a copy of the bytes in the buffer, nothing where there is none
abbrev pub aired : (length : ℕ) (buffer : List ℕ) → List (List ℕ)
aired n buffer = pick (eqb n 0) [] (take n buffer ∷ [])

abbrev pub spoken : GatewayMessage → List (List ℕ)
spoken m = bytes_of to_gateway m ∷ []

abbrev pub out_of : After → Out
out_of a = out a.number a.device a.image a.map (aired a.length a.reply)

abbrev pub receive_out : Device → (image map reply : List ℕ) (supported pcp : Bool) (condition : ℕ) (message : List ℕ) → Out
receive_out d image map reply supported pcp condition message = out_of (receive_of d image map reply supported pcp condition message)

abbrev pub ask_out : Device → (image map reply : List ℕ) → Out
ask_out d image map reply =
    let s : Rattle.codec.specs.Codec.Sent = next_message_of d image map reply in
    out s.number d image map (aired s.length s.buffer)

abbrev pub install_out : Device → (image map : List ℕ) (code : ℕ) → Out
install_out d image map code =
    let r : Finished = install_finished_of d code in
    out r.number r.device image map []

abbrev pub give_out : Device → (image map digest : List ℕ) → Out
give_out d image map digest =
    let g : DigestAnswer = give_digest_of d digest in
    out g.number g.device image map []

-- ---- the view

module _ (d : Device) (image map : List ℕ) where
  -- an announcement is taken up afresh
  pub record Begins (condition : ℕ) (f : Fields) : Type 0 where
    pub valid : to_device.valid (announce f) ≡ true
    pub result : announce_result d condition f image map ≡ 0
    pub not_resumed : resumes d f ≡ false
    pub phase : d.phase < installing
    pub ready : condition ≡ 0
    pub other_version : same f.version d.running ≡ false
    pub image_room : f.size * f.total ≤ length image
    pub map_room : map_bytes f.total ≤ length map

  -- a fragment is stored
  pub record Stores (index : ℕ) (bytes : List ℕ) : Type 0 where
    pub phase : d.phase ≡ loading
    pub below : index < d.fields.total
    pub long : fragment_length d.fields index (length bytes) ≡ true
    pub new : marked map index ≡ false

  -- a fragment that is stored comes again with other bytes
  abbrev pub Repeats : (index : ℕ) → List ℕ → Type 0
  Repeats index bytes = Differs d.fields d.last index image map bytes

  abbrev pub stored_out : (index : ℕ) → List ℕ → Out
  stored_out index bytes =
      let stored : ℕ = d.stored + 1 in
      let last : ℕ = last_after d.fields index (length bytes) d.last in
      let filled : List ℕ = patched (index * d.fields.size) bytes image in
      out 0 (with_fragment (completion stored last d.fields d.expected filled) stored last d) filled (mark index map) []

  -- an announcement of the download that is held
  pub record Resumes (condition : ℕ) (f : Fields) : Type 0 where
    pub result : announce_result d condition f image map ≡ 0
    pub resumed : resumes d f ≡ true
    pub phase : holding d.phase ≡ true
    pub coded : f.code ≡ 0 → ⊥
    pub fields : f ≡ d.fields
    pub other_version : same f.version d.running ≡ false

  -- what is said, with which number, where nothing changes
  pub data Still (input : Input) (n : ℕ) (says : List (List ℕ)) : Type 0 where
    refuses : (n ≡ 0 → ⊥) → (n ≡ repeat_differs → ⊥) → says ≡ [] → Still input n says
    unread : (condition : ℕ) → input ≡ hears condition (refused n) → n ≤ 8 → says ≡ [] → Still input n says
    skips : (condition index : ℕ) (bytes : List ℕ) → input ≡ hears condition (found (fragment 0x81 index bytes)) → n ≡ 0 → says ≡ []
        → Still input n says
    queried : (condition : ℕ) → input ≡ hears condition (found query) → n ≡ 0 → says ≡ spoken (query_reply 0x00 d.running) → Still input n says
    declines : (condition : ℕ) (f : Fields) (result : ℕ) → input ≡ hears condition (found (announce f))
        → announce_result d condition f image map ≡ result → (result ≡ 0 → ⊥) → n ≡ 0 → says ≡ spoken (announce_reply result) → Still input n says
    continues : (condition : ℕ) (f : Fields) → input ≡ hears condition (found (announce f)) → Resumes condition f → n ≡ 0
        → says ≡ spoken (announce_reply 0x00) → Still input n says
    delays : (condition result : ℕ) → input ≡ hears condition (found execute) → (result ≡ 0 → ⊥) → n ≡ 0 → says ≡ spoken (execute_reply result)
        → Still input n says
    executes-on : (condition : ℕ) → input ≡ hears condition (found execute) → d.phase ≡ installing → n ≡ 0 → says ≡ spoken (execute_reply 0x00)
        → Still input n says
    requests : input ≡ asks → d.phase ≡ loading → lowest_missing map d.fields.total < d.fields.total → n ≡ 0
        → says ≡ spoken (fragment_request d.fields.version (lowest_missing map d.fields.total)) → Still input n says
    says-loaded : input ≡ asks → d.phase ≡ loaded → n ≡ 0 → says ≡ spoken (download_report 0x00) → Still input n says
    says-failed : input ≡ asks → d.phase ≡ failed → n ≡ 0 → says ≡ spoken (download_report 0x07) → Still input n says
    says-result : input ≡ asks → d.phase ≡ reporting → n ≡ 0 → says ≡ spoken (result_report d.outcome d.running) → Still input n says

  -- the moves in which only the phase changes and nothing is said
  pub data Moves (input : Input) (phase : ℕ) : Type 0 where
    gives_up : (condition index : ℕ) (bytes : List ℕ) → input ≡ hears condition (found (fragment 0x80 index bytes)) → d.phase ≡ loading
        → phase ≡ idle → Moves input phase
    acknowledged : (condition : ℕ) → input ≡ hears condition (found (download_reply 0x00)) → d.phase ≡ loaded → phase ≡ acked → Moves input phase
    rejected : (condition result : ℕ) → input ≡ hears condition (found (download_reply result)) → (result ≡ 0 → ⊥) → d.phase ≡ loaded → phase ≡ idle
        → Moves input phase
    abandons : (condition result : ℕ) → input ≡ hears condition (found (download_reply result)) → d.phase ≡ failed → phase ≡ idle → Moves input phase
    reported : (condition result : ℕ) → input ≡ hears condition (found (result_reply result)) → d.phase ≡ reporting → phase ≡ idle → Moves input phase

  pub data Does (input : Input) (o : Out) : Type 0 where
    still : (n : ℕ) (says : List (List ℕ)) → Still input n says → o ≡ out n d image map says → Does input o
    begins : (condition : ℕ) (f : Fields) → input ≡ hears condition (found (announce f)) → Begins condition f
        → o ≡ out 0 (begun f d) image (cleared (map_bytes f.total) map) (spoken (announce_reply 0x00)) → Does input o
    stores : (condition index : ℕ) (bytes : List ℕ) → input ≡ hears condition (found (fragment 0x00 index bytes)) → Stores index bytes
        → o ≡ stored_out index bytes → Does input o
    differs : (condition index : ℕ) (bytes : List ℕ) → input ≡ hears condition (found (fragment 0x00 index bytes)) → d.phase ≡ loading
        → Repeats index bytes → o ≡ out repeat_differs (in_phase failed d) image map [] → Does input o
    moves : (phase : ℕ) → Moves input phase → o ≡ out 0 (in_phase phase d) image map [] → Does input o
    executes : (condition : ℕ) → input ≡ hears condition (found execute) → (d.phase ≡ loaded) ⊎ (d.phase ≡ acked)
        → o ≡ out 0 (in_phase installing d) image map (spoken (execute_reply 0x00)) → Does input o
    reports : (code : ℕ) → input ≡ installs code → d.phase ≡ installing → install_code code ≡ true
        → o ≡ out 0 (with_outcome code (pick (eqb code 0x00) d.fields.version d.running) d) image map [] → Does input o
    takes-digest : (digest : List ℕ) → input ≡ digests digest → d.phase ≡ loading → o ≡ out 0 (with_digest digest d) image map [] → Does input o

-- ---- what is said is what stands in the buffer

spoken_aired : (m : GatewayMessage) (reply : List ℕ) → aired (length (bytes_of to_gateway m)) (over (bytes_of to_gateway m) reply) ≡ spoken m
unfolding bytes_of frame sealed
spoken_aired m reply =
    pick_no (eqb (length (bytes_of to_gateway m)) 0) [] _ (ne_eqb (length (bytes_of to_gateway m)) 0 (λ e. omega arith))
    ∙ ap (λ (b : List ℕ). b ∷ []) (take_over (bytes_of to_gateway m) reply)

-- ---- the guards

-- a choice that comes out 0 and whose first is not 0 is the second
fragment_result : (result index : ℕ) (bytes : List ℕ) → to_device.valid (fragment result index bytes) ≡ true → (result ≡ 0x80 → ⊥) → (result ≡ 0x81 → ⊥)
    → result ≡ 0x00
unfolding device_row fragment_ok one_of
fragment_result result index bytes v a b =
    by_cases (λ (t : Bool). t ≡ true → result ≡ 0x00) (λ t _. eqb-true result 0x00 t)
    (λ _ t. absurd (other (or_either (eqb result 0x80) _ (and_left (one_of result (0x80 ∷ 0x81 ∷ [])) _ t))))
    (and_right (is_word index) (fragment_ok result bytes) v)
  where
    other : (eqb result 0x80 ≡ true) ⊎ ((eqb result 0x81 || false) ≡ true) → ⊥
    other (inl e) = a (eqb-true result 0x80 e)
    other (inr e) = one (or_either (eqb result 0x81) false e)
      where
        one : (eqb result 0x81 ≡ true) ⊎ (false ≡ true) → ⊥
        one (inl e) = b (eqb-true result 0x81 e)
        one (inr e) = false≢true e

-- Execute is answered 00 in three phases only
execute_phase : (phase condition : ℕ) → execute_result phase condition ≡ 0 → (phase ≡ installing) ⊎ ((phase ≡ loaded) ⊎ (phase ≡ acked))
unfolding execute_result
execute_phase phase condition =
    by_cases (λ (n : ℕ). n ≡ 0 → (phase ≡ installing) ⊎ ((phase ≡ loaded) ⊎ (phase ≡ acked))) (λ t _. inl (eqb-true phase installing t))
    (λ _. by_cases (λ (n : ℕ). n ≡ 0 → (phase ≡ installing) ⊎ ((phase ≡ loaded) ⊎ (phase ≡ acked)))
    (λ t _. inr (either (or_either (eqb phase loaded) (eqb phase acked) t))) (λ _ e. absurd (omega arith)))
  where
    either : (eqb phase loaded ≡ true) ⊎ (eqb phase acked ≡ true) → (phase ≡ loaded) ⊎ (phase ≡ acked)
    either (inl e) = inl (eqb-true phase loaded e)
    either (inr e) = inr (eqb-true phase acked e)

same_fields : (f g : Fields) → rules.same_fields f g ≡ true → f ≡ g
unfolding rules.same_fields
same_fields f g e =
    let v : f.version ≡ g.version = same_true f.version g.version (and_left (same f.version g.version) _ e) in
    let e₁ : (eqb f.size g.size && (eqb f.total g.total && eqb f.code g.code)) ≡ true =
    and_right (same f.version g.version) _ e in
    let e₂ : (eqb f.total g.total && eqb f.code g.code) ≡ true = and_right (eqb f.size g.size) _ e₁ in
    let s : f.size ≡ g.size = eqb-true f.size g.size (and_left (eqb f.size g.size) _ e₁) in
    let t : f.total ≡ g.total = eqb-true f.total g.total (and_left (eqb f.total g.total) _ e₂) in
    let c : f.code ≡ g.code = eqb-true f.code g.code (and_right (eqb f.total g.total) _ e₂) in
    λ i. record { version = v i; size = s i; total = t i; code = c i }

-- to stay in a phase is to stay the same
pub in_phase_lem : (phase : ℕ) (d : Device) → d.phase ≡ phase → in_phase phase d ≡ d
in_phase_lem phase d e =
    λ i. record {
      phase = sym e i;
      running = d.running;
      fields = d.fields;
      stored = d.stored;
      last = d.last;
      outcome = d.outcome;
      expected = d.expected;
    }

-- ---- one call

-- a number other than 23
abbrev pub Other : ℕ → Type 0
Other n = n ≡ repeat_differs → ⊥

module _ (d : Device) (image map : List ℕ) where
  begins-facts : (condition : ℕ) (f : Fields) → to_device.valid (announce f) ≡ true → announce_result d condition f image map ≡ 0 → resumes d f ≡ false
      → Begins d image map condition f
  begins-facts condition f v r e =
      let a : Accepted d image map condition f = accepted_facts d image map condition f r in
      record {
        valid = v;
        result = r;
        not_resumed = e;
        phase = a.phase;
        ready = a.ready;
        other_version = a.other_version;
        image_room = a.image_room;
        map_room = a.map_room;
      }

  resumes-facts : (condition : ℕ) (f : Fields) → announce_result d condition f image map ≡ 0 → resumes d f ≡ true → Resumes d image map condition f
  unfolding resumes
  resumes-facts condition f r e =
      let rest : (not (eqb f.code 0) && rules.same_fields f d.fields) ≡ true = and_right (holding d.phase) _ e in
      record {
        result = r;
        resumed = e;
        phase = and_left (holding d.phase) _ e;
        coded = eqb-false f.code 0 (not-true _ (and_left (not (eqb f.code 0)) _ rest));
        fields = same_fields f d.fields (and_right (not (eqb f.code 0)) _ rest);
        other_version = (accepted_facts d image map condition f r).other_version;
      }

  module _ (reply : List ℕ) (condition : ℕ) where
    P : Reading DeviceMessage → After → Type 0
    P r a = Does d image map (hears condition r) (out_of a)

    quiet : (r : Reading DeviceMessage) (n : ℕ) → (n ≡ 0 → ⊥) → (n ≡ repeat_differs → ⊥) → P r (refuse d image map reply n)
    unfolding P pick
    quiet r n h k = still n [] (refuses h k refl) refl

    tells : (r : Reading DeviceMessage) (m : GatewayMessage) → Still d image map (hears condition r) 0 (spoken m) → P r (replied d image map reply d m)
    unfolding P
    tells r m s = still 0 (spoken m) s (ap (out 0 d image map) (spoken_aired m reply))

    announced : (f : Fields) → to_device.valid (announce f) ≡ true → P (found (announce f)) (on_announce d image map reply condition f)
    unfolding P on_announce begin
    announced f v =
        by_cases (P (found (announce f)))
        (λ t. by_cases (P (found (announce f)))
        (λ r. tells _ _ (continues condition f refl (resumes-facts condition f (eqb-true _ 0 t) r) refl refl))
        (λ r. begins condition f refl (begins-facts condition f v (eqb-true _ 0 t) r)
        (ap (out 0 (begun f d) image (cleared (map_bytes f.total) map)) (spoken_aired (announce_reply 0x00) reply))))
        (λ t. tells _ _ (declines condition f _ refl refl (eqb-false _ 0 t) refl refl))

    given : (result index : ℕ) (bytes : List ℕ) → to_device.valid (fragment result index bytes) ≡ true
        → P (found (fragment result index bytes)) (on_fragment d image map reply result index bytes)
    unfolding P on_fragment store pick
    given result index bytes v =
        let r : ℕ → Input = λ n. hears condition (found (fragment n index bytes)) in
        by_cases (P (found (fragment result index bytes)))
        (λ p. by_cases (P _) (λ t. moves idle (gives_up condition index bytes (ap r (eqb-true result 0x80 t)) (eqb-true _ _ p) refl) refl)
        (λ t. by_cases (P _) (λ u. still 0 [] (skips condition index bytes (ap r (eqb-true result 0x81 u)) refl refl) refl)
        (λ u. by_cases (P _)
        (λ n. let f : Passed d.fields d.last index image map bytes = fragment_passed d.fields d.last index image map bytes (eqb-true _ 0 n) in
        stores condition index bytes (ap r (fragment_result result index bytes v (eqb-false _ _ t) (eqb-false _ _ u)))
        (record { phase = eqb-true _ _ p; below = f.below; long = f.long; new = f.new }) refl)
        (λ n. by_cases (P _)
        (λ e. differs condition index bytes (ap r (fragment_result result index bytes v (eqb-false _ _ t) (eqb-false _ _ u))) (eqb-true _ _ p)
        (fragment_differs d.fields d.last index image map bytes (eqb-true _ repeat_differs e)) refl)
        (λ e. quiet _ _ (eqb-false _ 0 n) (eqb-false _ repeat_differs e))))))
        (λ _. quiet _ 9 (λ z. omega arith) (λ z. omega arith))

    executed : P (found execute) (on_execute d image map reply condition)
    unfolding P on_execute
    executed =
        let result : ℕ = execute_result d.phase condition in
        by_cases (λ (e : Device). P (found execute) (replied d image map reply e (execute_reply result)))
        (λ t. rw (eqb-true result 0 t) (yes-in (execute_phase d.phase condition (eqb-true result 0 t))))
        (λ t. tells _ _ (delays condition result refl (eqb-false result 0 t) refl refl))
      where
        yes-in : (d.phase ≡ installing) ⊎ ((d.phase ≡ loaded) ⊎ (d.phase ≡ acked))
            → P (found execute) (replied d image map reply (in_phase installing d) (execute_reply 0x00))
        yes-in (inl e) = rw (in_phase_lem installing d e) (tells _ _ (executes-on condition refl e refl refl))
        yes-in (inr e) = executes condition refl e (ap (out 0 (in_phase installing d) image map) (spoken_aired (execute_reply 0x00) reply))

    handled : (r : Reading DeviceMessage) → ((m : DeviceMessage) → r ≡ found m → to_device.valid m ≡ true) → ((n : ℕ) → r ≡ refused n → n ≤ 8)
        → P r (handle d image map reply condition r)
    unfolding P handle on_query on_download_reply on_execute on_result_reply pick
    handled (refused n) v l = still n [] (unread condition refl (l n refl) refl) refl
    handled (found query) v l = tells (found query) _ (queried condition refl refl refl)
    handled (found (announce f)) v l = announced f (v (announce f) refl)
    handled (found (fragment result index bytes)) v l = given result index bytes (v (fragment result index bytes) refl)
    handled (found (download_reply result)) v l =
        by_cases (P _)
        (λ p. by_cases (λ (x : ℕ). P (found (download_reply result)) (moved d image map reply (in_phase x d)))
        (λ t. moves acked
        (acknowledged condition (ap (λ (n : ℕ). hears condition (found (download_reply n))) (eqb-true result 0 t)) (eqb-true _ _ p) refl) refl)
        (λ t. moves idle (rejected condition result refl (eqb-false result 0 t) (eqb-true _ _ p) refl) refl))
        (λ _. by_cases (P _) (λ p. moves idle (abandons condition result refl (eqb-true _ _ p) refl) refl)
        (λ _. quiet _ 9 (λ z. omega arith) (λ z. omega arith)))
    handled (found execute) v l = executed
    handled (found (result_reply result)) v l =
        by_cases (P _) (λ p. moves idle (reported condition result refl (eqb-true _ _ p) refl) refl)
        (λ _. quiet _ 9 (λ z. omega arith) (λ z. omega arith))

  -- what the phase has to say
  module _ (reply : List ℕ) where
    S : Reading GatewayMessage → Type 0
    S r =
        let s : Rattle.codec.specs.Codec.Sent = said to_gateway r reply in
        Does d image map asks (out s.number d image map (aired s.length s.buffer))

    asked : (m : GatewayMessage) → Still d image map asks 0 (spoken m) → S (found m)
    unfolding S said
    asked m s = still 0 (spoken m) s (ap (out 0 d image map) (spoken_aired m reply))

    nothing : (n : ℕ) → (n ≡ 0 → ⊥) → (n ≡ repeat_differs → ⊥) → S (refused n)
    unfolding S said pick
    nothing n h k = still n [] (refuses h k refl) refl

    wants : S (wanted d map)
    unfolding wanted
    wants =
        by_cases S
        (λ p. by_cases S (λ l. asked _ (requests refl (eqb-true _ _ p) (ltb-true _ _ l) refl refl)) (λ _. nothing 29 (λ z. omega arith) (λ z. omega arith)))
        (λ _. by_cases S (λ p. asked _ (says-loaded refl (eqb-true _ _ p) refl refl))
        (λ _. by_cases S (λ p. asked _ (says-failed refl (eqb-true _ _ p) refl refl))
        (λ _. by_cases S (λ p. asked _ (says-result refl (eqb-true _ _ p) refl refl)) (λ _. nothing 9 (λ z. omega arith) (λ z. omega arith)))))

  -- the four calls

  pub receive_does : (reply : List ℕ) (supported pcp : Bool) (condition : ℕ) (message : List ℕ)
      → Does d image map (hears condition (read_of to_device supported pcp message)) (receive_out d image map reply supported pcp condition message)
  unfolding P receive_of
  receive_does reply supported pcp condition message =
      by_cases (P reply condition _)
      (λ _. handled reply condition (read_of to_device supported pcp message) (λ m e. (read to_device supported pcp message m e).valid)
      (read_refused to_device supported pcp message))
      (λ t. quiet reply condition _ _ (eqb-false _ 0 t) (refusal_among Other _ (λ z. omega arith) (omega arith)))

  pub ask_does : (reply : List ℕ) → Does d image map asks (ask_out d image map reply)
  unfolding S next_message_of
  ask_does reply =
      let n : ℕ = ask_refusal d image map reply in
      by_cases (S reply) {t = eqb n 0} {a = wanted d map} {b = refused n} (λ _. wants reply)
      (λ t. nothing reply n (eqb-false n 0 t) (refusal_among Other _ (λ z. omega arith) (omega arith)))

  pub install_does : (code : ℕ) → Does d image map (installs code) (install_out d image map code)
  unfolding install_finished_of
  install_does code =
      let n : ℕ = finish_refusal d code in
      by_cases (λ (r : Finished). Does d image map (installs code) (out r.number r.device image map []))
      (λ t.
      let (_, e₁) = passed 28 (record_ok d) _ (eqb-true n 0 t) in
      let (p, e₂) = passed 8 (eqb d.phase installing) _ e₁ in
      let (k, _) = passed 15 (install_code code) _ e₂ in
      reports code refl (eqb-true _ _ p) k refl)
      (λ t. still n [] (refuses (eqb-false n 0 t) (refusal_among Other _ (λ z. omega arith) (omega arith)) refl) refl)

  pub give_does : (digest : List ℕ) → Does d image map (digests digest) (give_out d image map digest)
  unfolding give_digest_of
  give_does digest =
      let n : ℕ = give_refusal d in
      by_cases (λ (g : DigestAnswer). Does d image map (digests digest) (out g.number g.device image map []))
      (λ t.
      let (_, e₁) = passed 28 (record_ok d) _ (eqb-true n 0 t) in
      let (p, _) = passed 8 (eqb d.phase loading) _ e₁ in
      takes-digest digest refl (eqb-true _ _ p) refl)
      (λ t. still n [] (refuses (eqb-false n 0 t) (refusal_among Other _ (λ z. omega arith) (omega arith)) refl) refl)

-- ---- 23: only a repeat that differs gets it

still_other : (d : Device) (image map : List ℕ) (input : Input) (n : ℕ) (says : List (List ℕ)) → Still d image map input n says → Other n
still_other d image map input n says (refuses z k s) = k
still_other d image map input n says (unread c i l s) = λ e. omega arith
still_other d image map input n says (skips c index bytes i z s) = λ e. omega arith
still_other d image map input n says (queried c i z s) = λ e. omega arith
still_other d image map input n says (declines c f result i r nz z s) = λ e. omega arith
still_other d image map input n says (continues c f i r z s) = λ e. omega arith
still_other d image map input n says (delays c result i nz z s) = λ e. omega arith
still_other d image map input n says (executes-on c i p z s) = λ e. omega arith
still_other d image map input n says (requests i p l z s) = λ e. omega arith
still_other d image map input n says (says-loaded i p z s) = λ e. omega arith
still_other d image map input n says (says-failed i p z s) = λ e. omega arith
still_other d image map input n says (says-result i p z s) = λ e. omega arith

pub does_other : (d : Device) (image map : List ℕ) (input : Input) (o : Out) → Does d image map input o
    → ((condition index : ℕ) (bytes : List ℕ) → input ≡ hears condition (found (fragment 0x00 index bytes)) → d.phase ≡ loading
    → Repeats d image map index bytes → ⊥)
    → Other o.number
does_other d image map input o (still n says s e) h = rw e (still_other d image map input n says s)
does_other d image map input o (begins c f i b e) h = rw e (λ z. omega arith)
does_other d image map input o (stores c index bytes i s e) h = rw e (λ z. omega arith)
does_other d image map input o (differs c index bytes i p r e) h = absurd (h c index bytes i p r)
does_other d image map input o (moves phase m e) h = rw e (λ z. omega arith)
does_other d image map input o (executes c i p e) h = rw e (λ z. omega arith)
does_other d image map input o (reports code i p k e) h = rw e (λ z. omega arith)
does_other d image map input o (takes-digest digest i p e) h = rw e (λ z. omega arith)
