-- What decode prints for a capture: a line for each record, and one where the reader stops with 20 or 21. Assumes nothing.
use Rattle.std.specs.Prelude.{ℕ, zero, suc, ◌+◌, ◌*◌, ◌/◌, List, [], ◌++◌, ltb, length}
use Rattle.basis.specs.Choice.{pick}
use Rattle.basis.specs.Numbers.{cut_short}
use Rattle.capture_rules.specs.Capture.{capture_most, header_length, Item, item_at, place_after, goes_on, part_of}
use Rattle.text.specs.Text.{newline, number_text, Written, fronted}
use Rattle.decoding_rules.specs.Line.{record_text, fault_text}

-- what is printed for what the reader gives at a place
unfoldable pub line_text : (capture : List ℕ) (at : ℕ) → Item → List ℕ
line_text capture at (Item.found to_device start count) = record_text at to_device (part_of capture start count)
line_text capture at Item.end = []
line_text capture at (Item.fault number) = fault_text at number

-- what is printed from a place on. A record has bytes, so that there are fewer of them than `most`
unfoldable pub lines_from : (capture : List ℕ) (most at : ℕ) → List ℕ
lines_from capture zero at = []
lines_from capture (suc most) at =
    let item : Item = item_at capture at in
    line_text capture at item ++ pick (goes_on item) (lines_from capture most (place_after item at)) []

-- longer input prints only "21"
unfoldable pub decode_text : (capture : List ℕ) → List ℕ
decode_text capture =
    pick (ltb capture_most (length capture)) (number_text cut_short newline) (lines_from capture (suc (length capture)) 0)

-- ---- the text in a buffer

-- no line is longer: place, direction, name, result, version, then size, total and code, newline
abbrev pub line_most : ℕ
line_most = 5 + (12 + (9 + (10 + (25 + (33 + 1)))))

-- the least buffer: a line for each record, which has four bytes or more, and one for 20 or 21
abbrev pub out_room : ℕ
out_room = line_most * (capture_most / header_length + 1)

-- the text fills the front of the buffer and the rest stays; in a buffer that is too short nothing is written
unfoldable pub decode_of : (capture out : List ℕ) → Written
decode_of capture out = fronted out_room (decode_text capture) out
