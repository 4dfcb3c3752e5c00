-- What is heard is what was said: the bytes of a message, valid or not, are read as that message or refused. Assumes nothing.
use Prim.Native.Nat.{ℕ, ◌+◌, ◌*◌, ◌/◌, ◌%◌, ◌≤◌}
use native.Mathlib.Nat.{div-add-mod'}
use native.Mathlib.Omega.{arith}
use mathlib.Core.Path.{◌≡◌, refl, sym, ◌∙◌, ap, ap₂, subst}
use mathlib.Core.Bool.{Bool}
use mathlib.Core.List.{List, ◌++◌}
use lib.ListN.{length, take, drop, length-append}
use lib.Seq.{take_at, drop_at}
use Rattle.basis.specs.Choice.{pick}
use Rattle.basis.specs.Bytes.{word_at, word_bytes}
use Rattle.message.specs.declared.Fields.{Fields}
use Rattle.message.specs.Messages.{DeviceMessage, device_fields, GatewayMessage, gateway_fields, Table, to_device, to_gateway, found, refused, device_row}
use Rattle.message.specs.Messages.{gateway_row}
use Rattle.codec.specs.Codec.{sealed, frame, bytes_of, read_of}
use Rattle.round_trips.proofs.RoundTrip.{FoundIn, Tells, read_tells}

module _ (t : Table) (supported pcp : Bool) where
  -- what a reading tells
  pub read : (bytes : List ℕ) (m : t.Message) → read_of t supported pcp bytes ≡ found m → FoundIn t supported pcp bytes m
  read bytes m e = subst (Tells t supported pcp bytes) e (read_tells t supported pcp bytes)

  pub read_refused : (bytes : List ℕ) (n : ℕ) → read_of t supported pcp bytes ≡ refused n → n ≤ 8
  read_refused bytes n e = (subst (Tells t supported pcp bytes) e (read_tells t supported pcp bytes)).1

-- data stands for one message of its code
pub Told : Table → Type 0
Told t = (m n : t.Message) → t.fields (t.code m) (t.content m) ≡ n → t.content n ≡ t.content m → n ≡ m

-- the bytes of a message are read as that message, or refused
pub heard_by : (t : Table) → Told t → (supported pcp : Bool) (m n : t.Message) → read_of t supported pcp (bytes_of t m) ≡ found n → n ≡ m
unfolding Told bytes_of frame sealed
heard_by t told supported pcp m n e =
    let r : FoundIn t supported pcp (bytes_of t m) n = read t supported pcp (bytes_of t m) n e in
    told m n r.fields r.content

-- two texts as long as each other, and what follows them
version_apart : (v w x y : List ℕ) → v ++ x ≡ w ++ y → length v ≡ length w → (v ≡ w) × (x ≡ y)
version_apart v w x y e l = (
  sym (take_at v x (length w) l) ∙ ap (take (length w)) e ∙ take_at w y (length w) refl,
  sym (drop_at v x (length w) l) ∙ ap (drop (length w)) e ∙ drop_at w y (length w) refl,
)

lengths : (v w x y : List ℕ) → length x ≡ length y → v ++ x ≡ w ++ y → length v ≡ length w
lengths v w x y k e = omega (arith, ap length e, length-append v x, length-append w y)

same_word : (a b : ℕ) → a / 256 * 256 + a % 256 ≡ b / 256 * 256 + b % 256 → a ≡ b
same_word a b e = sym (div-add-mod' a 256) ∙ e ∙ div-add-mod' b 256

-- the three WORDs behind the version of an announcement
words : Fields → List ℕ
words f = word_bytes f.size ++ (word_bytes f.total ++ word_bytes f.code)

announced : (f g : Fields) → g.version ++ words g ≡ f.version ++ words f → DeviceMessage.announce g ≡ DeviceMessage.announce f
unfolding words
announced f g e =
    let h : (g.version ≡ f.version) × (words g ≡ words f) =
    version_apart g.version f.version (words g) (words f) e (lengths g.version f.version (words g) (words f) refl e) in
    let s : g.size ≡ f.size = same_word g.size f.size (ap (λ (l : List ℕ). word_at l 0) h.1) in
    let t : g.total ≡ f.total = same_word g.total f.total (ap (λ (l : List ℕ). word_at l 2) h.1) in
    let c : g.code ≡ f.code = same_word g.code f.code (ap (λ (l : List ℕ). word_at l 4) h.1) in
    ap DeviceMessage.announce (λ i. record { version = h.0 i; size = s i; total = t i; code = c i })

requested : (v w : List ℕ) (i j : ℕ) → v ++ word_bytes i ≡ w ++ word_bytes j
    → GatewayMessage.fragment_request v i ≡ GatewayMessage.fragment_request w j
requested v w i j e =
    let h : (v ≡ w) × (word_bytes i ≡ word_bytes j) =
    version_apart v w (word_bytes i) (word_bytes j) e (lengths v w (word_bytes i) (word_bytes j) refl e) in
    ap₂ GatewayMessage.fragment_request h.0 (same_word i j (ap (λ (l : List ℕ). word_at l 0) h.1))

pub device_told : Told to_device
unfolding Told device_row device_fields pick words
device_told DeviceMessage.query n e c = sym e
device_told (DeviceMessage.announce f) n e c = sym e ∙ announced f _ (ap to_device.content e ∙ c)
device_told (DeviceMessage.fragment result index bytes) n e c =
    sym e ∙ ap (λ (i : ℕ). DeviceMessage.fragment result i bytes) (div-add-mod' index 256)
device_told (DeviceMessage.download_reply result) n e c = sym e
device_told DeviceMessage.execute n e c = sym e
device_told (DeviceMessage.result_reply result) n e c = sym e

pub gateway_told : Told to_gateway
unfolding Told gateway_row gateway_fields pick
gateway_told (GatewayMessage.query_reply result version) n e c =
    sym e ∙ ap (GatewayMessage.query_reply result) (ap (drop 1) (ap to_gateway.content e ∙ c))
gateway_told (GatewayMessage.announce_reply result) n e c = sym e
gateway_told (GatewayMessage.fragment_request version index) n e c = sym e ∙ requested _ version _ index (ap to_gateway.content e ∙ c)
gateway_told (GatewayMessage.download_report result) n e c = sym e
gateway_told (GatewayMessage.execute_reply result) n e c = sym e
gateway_told (GatewayMessage.result_report result version) n e c =
    sym e ∙ ap (GatewayMessage.result_report result) (ap (drop 1) (ap to_gateway.content e ∙ c))
