-- Messages written and read: each undoes the other, for any lawful column of 01's table and so for all twelve messages. Assumes nothing.
use Prim.Native.Nat.{ℕ, ◌+◌, ◌*◌, ◌%◌, ◌≤◌}
use native.Mathlib.Omega.{arith}
use mathlib.Core.Path.{◌≡◌, refl, sym, ◌∙◌, ap, ap₂, subst}
use mathlib.Core.Bool.{Bool, true}
use mathlib.Core.List.{List}
use lib.ListN.{length, take, drop, get_or, set}
use borrow.Author.Tests.{eqb-true, eqb-false, le-ltb}
use Rattle.basis.specs.Choice.{pick}
use Rattle.basis.specs.Bytes.{Bytes, over}
use Rattle.basis.proofs.Choosing.{pick_yes, pick_no, by_cases, and_left, and_right, refusal_among}
use Rattle.basis.proofs.Lists.{same_true, same_refl, take_over}
use Rattle.message.specs.Recognition.{protocol_version, recognition}
use Rattle.message.specs.Messages.{Table, to_device, to_gateway, Reading, found, refused}
use Rattle.codec.specs.Codec.{sealed, frame, Sent, bytes_of, read_of, write_of, said}
use Rattle.round_trips.specs.Demand2.{reserved_bits, RoundTrips}
use Rattle.codec.proofs.Frames.{length_frame, framed, framed_frame, framed_set, framed_code, framed_data, framed_recognised}
use Rattle.codec.proofs.Frames.{Recognised, recognised, recognised_facts, recognised_framed}
use Rattle.message.proofs.Tables.{Lawful, device_lawful, gateway_lawful}

-- ---- reading

recognition_number : (supported pcp : Bool) (bytes : List ℕ) → recognition supported pcp bytes ≤ 7
unfolding recognition
recognition_number supported pcp bytes = refusal_among (λ x. x ≤ 7) _ (omega arith) (omega arith)

module _ (t : Table) (supported pcp : Bool) (bytes : List ℕ) where
  -- what a message found in the bytes tells of them
  pub record FoundIn (m : t.Message) : Type 0 where
    pub number : recognition supported pcp bytes ≡ 0
    pub fields : t.fields (get_or bytes 3 0) (drop 8 bytes) ≡ m
    pub content : t.content m ≡ drop 8 bytes
    pub valid : t.valid m ≡ true

  -- what a reading tells
  abbrev pub Tells : Reading t.Message → Type 0
  Tells (found m) = FoundIn m
  Tells (refused n) = (1 ≤ n) × (n ≤ 8)

  pub read_tells : Tells (read_of t supported pcp bytes)
  unfolding read_of
  read_tells =
      let m : t.Message = t.fields (get_or bytes 3 0) (drop 8 bytes) in
      by_cases Tells
      (λ z. by_cases Tells
      (λ ok. record { number = eqb-true _ _ z; fields = refl; content = same_true _ _ (and_right (t.valid m) _ ok); valid = and_left _ _ ok })
      (λ _. omega arith))
      (λ z. omega (arith, eqb-false (recognition supported pcp bytes) 0 z, recognition_number supported pcp bytes))

-- ---- writing: a message with any version byte, and the check made for it

module _ (t : Table) (m : t.Message) where
  versioned : (version : ℕ) → sealed (set (bytes_of t m) 2 version) ≡ framed version (t.code m) (t.content m)
  unfolding bytes_of
  versioned version = rw (← framed_frame (t.code m) (t.content m)) (framed_set version protocol_version (t.code m) (t.content m))

  version-written : get_or (bytes_of t m) 2 0 ≡ protocol_version
  unfolding bytes_of frame sealed
  version-written = refl

-- ---- any lawful column

module _ (t : Table) (lawful : Lawful t) where
  module _ (m : t.Message) (v : t.valid m ≡ true) where
    module _ (version : ℕ) (h : version % 16 ≡ protocol_version) where
      framed-again : recognition true true (framed version (t.code m) (t.content m)) ≡ 0
      framed-again = let (low, high, _) = lawful.bounds m v in framed_recognised version (t.code m) (t.content m) h low high

      read-framed : read_of t true true (framed version (t.code m) (t.content m)) ≡ found m
      unfolding read_of pick
      read-framed =
          rw (
            framed-again,
            framed_code version (t.code m) (t.content m),
            framed_data version (t.code m) (t.content m),
            lawful.restored m v,
            v,
            same_refl (t.content m),
          )

    recognised-again : recognition true true (bytes_of t m) ≡ 0
    unfolding bytes_of
    recognised-again = rw (← framed_frame (t.code m) (t.content m)) (framed-again protocol_version refl)

    fits : length (bytes_of t m) ≤ t.room
    unfolding bytes_of
    fits = rw (length_frame (t.code m) (t.content m)) (lawful.bounds m v).2

    read_again : read_of t true true (bytes_of t m) ≡ found m
    unfolding bytes_of
    read_again = rw (← framed_frame (t.code m) (t.content m)) (read-framed protocol_version refl)

    module _ (bits : ℕ) where
      abbrev version : ℕ
      version = bits * 16 + protocol_version

      with-reserved : read_of t true true (sealed (set (bytes_of t m) 2 version)) ≡ found m
      with-reserved = rw (versioned t m version) (read-framed version (omega arith))

      recognised-reserved : recognition true true (sealed (set (bytes_of t m) 2 version)) ≡ 0
      recognised-reserved = rw (versioned t m version) (framed-again version (omega arith))

    sent : (buffer : List ℕ) → t.room ≤ length buffer
        → write_of t (found m) buffer ≡ record { number = 0; length = length (bytes_of t m); buffer = over (bytes_of t m) buffer }
    unfolding write_of
    sent buffer h = pick_no _ _ _ (le-ltb (length buffer) t.room h) ∙ pick_yes _ _ _ v

    said-again : (buffer : List ℕ) → let w : Sent = said t (found m) buffer in read_of t true true (take w.length w.buffer) ≡ found m
    unfolding said
    said-again buffer = rw (take_over (bytes_of t m) buffer) read_again

  abbrev ReadBack : Reading t.Message → Sent → Type 0
  ReadBack r w = w.number ≡ 0 → read_of t true true (take w.length w.buffer) ≡ r

  read_back : (r : Reading t.Message) (buffer : List ℕ) → ReadBack r (write_of t r buffer)
  unfolding write_of
  read_back (found m) buffer =
      by_cases (ReadBack (found m)) (λ _ e. absurd (omega (arith, e)))
      (λ _. by_cases (ReadBack (found m)) (λ v _. rw (take_over (bytes_of t m) buffer) (read_again m v)) (λ _ e. absurd (omega (arith, e))))
  read_back (refused n) buffer = by_cases (ReadBack (refused n)) (λ _ e. absurd (omega (arith, e))) (λ _ e. absurd (omega (arith, e)))

  module _ (supported pcp : Bool) (bytes : List ℕ) (m : t.Message) (e : read_of t supported pcp bytes ≡ found m) where
    told : FoundIn t supported pcp bytes m
    told = subst (Tells t supported pcp bytes) e (read_tells t supported pcp bytes)

    header : Recognised bytes
    header = recognised supported pcp bytes told.number

    code_in : t.code m ≡ get_or bytes 3 0
    code_in = ap t.code (sym told.fields) ∙ lawful.code_kept (get_or bytes 3 0) (drop 8 bytes) header.low header.high

    module _ (b : Bytes bytes) where
      -- the bytes are the message with their own version byte
      as-framed : framed (get_or bytes 2 0) (t.code m) (t.content m) ≡ bytes
      as-framed = ap₂ (framed (get_or bytes 2 0)) code_in told.content ∙ recognised_framed bytes b header

      version-in : get_or bytes 2 0 ≡ reserved_bits bytes * 16 + protocol_version
      unfolding reserved_bits
      version-in = omega (arith, header.version)

      written-reserved : bytes ≡ sealed (set (bytes_of t m) 2 (reserved_bits bytes * 16 + protocol_version))
      written-reserved = sym (rw (← version-in) (versioned t m (get_or bytes 2 0) ∙ as-framed))

      written-again : bytes_of t m ≡ sealed (set bytes 2 protocol_version)
      unfolding bytes_of
      written-again =
          sym (framed_frame (t.code m) (t.content m)) ∙ sym (framed_set protocol_version (get_or bytes 2 0) (t.code m) (t.content m))
          ∙ ap (λ (l : List ℕ). sealed (set l 2 protocol_version)) as-framed

      written_same : reserved_bits bytes ≡ 0 → bytes_of t m ≡ bytes
      unfolding bytes_of
      written_same z =
          let one : get_or bytes 2 0 ≡ protocol_version = omega (arith, version-in, z) in
          rw (one, framed_frame (t.code m) (t.content m)) at as-framed

    -- the facts do not matter once a message is found
    read-so : read_of t true true bytes ≡ found m
    read-so = let (s, p) = recognised_facts supported pcp bytes told.number in rw (s, p) at e

  pub round_trip : RoundTrips t
  round_trip =
      record {
        written_read = read_again;
        written_only = λ m n v s p e. let f = read-so s p (bytes_of t m) n e in let g = read_again m v in cc;
        written_recognised = recognised-again;
        written_fits = fits;
        written_version = version-written t;
        reserved_read = with-reserved;
        reserved_recognised = recognised-reserved;
        read_reserved = written-reserved;
        read_rewritten = written-again;
        read_written = written_same;
        read_valid = λ s p bytes m e. (told s p bytes m e).valid;
        read_code = code_in;
        refused_number = λ s p bytes n e. subst (Tells t s p bytes) e (read_tells t s p bytes);
        sent_valid = sent;
        sent_read = read_back;
        said_read = said-again;
      }

-- ---- all twelve messages

pub device_round_trip : RoundTrips to_device
device_round_trip = round_trip to_device device_lawful

pub gateway_round_trip : RoundTrips to_gateway
gateway_round_trip = round_trip to_gateway gateway_lawful
