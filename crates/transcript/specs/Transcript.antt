-- What replay prints for a capture: 01, "Capture and replay". Assumes nothing.
use Rattle.std.specs.Prelude.{ℕ, zero, suc, ◌+◌, ◌*◌, ◌/◌, true, false, List, [], ◌∷◌, ◌++◌, ltb, length, take, replicate}
use Rattle.basis.specs.Choice.{pick}
use Rattle.basis.specs.Numbers.{cut_short}
use Rattle.device_record.specs.declared.Device.{Device}
use Rattle.device_record.specs.Record.{new_of}
use Rattle.device_rules.specs.Rules.{After, receive_of}
use Rattle.capture_rules.specs.Capture.{capture_most, Item, header_length, item_at, place_after, goes_on, part_of}
use Rattle.text.specs.Text.{newline, number_text, Written, fronted}
use Rattle.transcript.specs.Line.{line_text}

-- a 16,384-byte image, a 64-byte map, a 26-byte reply buffer
abbrev pub image_length : ℕ
image_length = 16384

abbrev pub map_length : ℕ
map_length = 64

abbrev pub reply_length : ℕ
reply_length = 26

-- V0.9
abbrev pub version : List ℕ
version = 0x56 ∷ 0x30 ∷ 0x2E ∷ 0x39 ∷ replicate 12 0

-- between records: the device and its buffers, as the last answer left them. At the start no answer was given
abbrev pub at_first : Device → After
at_first d =
    record { number = 0; length = 0; device = d; image = replicate image_length 0; map = replicate map_length 0; reply = replicate reply_length 0 }

unfoldable pub start : After
start = at_first (new_of version).device

-- the device is given a message: always ready, both recognition facts yes
unfoldable pub given : After → (message : List ℕ) → After
given s message = receive_of s.device s.image s.map s.reply true true 0 message

-- its answer, in the line of a record
abbrev pub line : (number : ℕ) → After → List ℕ
line number s = line_text number s.number s.device.phase (take s.length s.reply)

-- a record toward the device is given to it; nothing else changes it
unfoldable pub after : (capture : List ℕ) → Item → After → After
after capture (Item.found true start count) s = given s (part_of capture start count)
after capture (Item.found false start count) s = s
after capture Item.end s = s
after capture (Item.fault number) s = s

-- what is printed, the device being as it is after it: a line for a record toward the device, nothing for one from it; 20 or 21 alone
unfoldable pub printed : (number : ℕ) → Item → After → List ℕ
printed number (Item.found true start count) s = line number s
printed number (Item.found false start count) s = []
printed number Item.end s = []
printed number (Item.fault fault) s = number_text fault newline

-- what is printed from a place on, so many records having been counted before it. A record has bytes, so that there are fewer
-- of them than `most`
unfoldable pub text_from : (capture : List ℕ) (most number at : ℕ) → After → List ℕ
text_from capture zero number at s = []
text_from capture (suc most) number at s =
    let item : Item = item_at capture at in
    let t : After = after capture item s in
    printed number item t ++ pick (goes_on item) (text_from capture most (number + 1) (place_after item at) t) []

-- longer input prints only "21"
unfoldable pub replay_text : (capture : List ℕ) → List ℕ
replay_text capture =
    pick (ltb capture_most (length capture)) (number_text cut_short newline) (text_from capture (suc (length capture)) 0 0 start)

-- ---- the text in a buffer

-- the longest line: three numbers of five figures and what follows them, 26 bytes in hex, and the newline
abbrev pub line_most : ℕ
line_most = 71

-- the least buffer: a line for each record, which has four bytes or more, and one for 20 or 21
abbrev pub out_room : ℕ
out_room = line_most * (capture_most / header_length + 1)

-- the text fills the front of the buffer and the rest stays; in a buffer that is too short nothing is written
unfoldable pub replay_of : (capture out : List ℕ) → Written
replay_of capture out = fronted out_room (replay_text capture) out
