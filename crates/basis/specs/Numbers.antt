-- The numbers that calls answer with (01, "Numbers returned"), under the names of the C header. Assumes nothing.
use Rattle.std.specs.Prelude.{ℕ}

-- handled
abbrev pub handled : ℕ
handled = 0

-- the caller states that upgrade is not supported
abbrev pub unsupported : ℕ
unsupported = 1

-- the caller states that the upgrade protocol is not PCP
abbrev pub other_protocol : ℕ
other_protocol = 2

-- first two bytes
abbrev pub bad_start : ℕ
bad_start = 3

-- version byte
abbrev pub bad_version : ℕ
bad_version = 4

-- message code
abbrev pub bad_code : ℕ
bad_code = 5

-- check
abbrev pub bad_check : ℕ
bad_check = 6

-- data length
abbrev pub bad_length : ℕ
bad_length = 7

-- bad data
abbrev pub bad_data : ℕ
bad_data = 8

-- a message or a call that this phase has no use for; nothing to send
abbrev pub no_use : ℕ
no_use = 9

-- fragment index
abbrev pub bad_index : ℕ
bad_index = 10

-- fragment length
abbrev pub bad_fragment_length : ℕ
bad_fragment_length = 11

-- fragment already stored, with the same bytes and length
abbrev pub already_stored : ℕ
already_stored = 12

-- unknown condition
abbrev pub unknown_condition : ℕ
unknown_condition = 13

-- image or map too short; another package length
abbrev pub bad_memory : ℕ
bad_memory = 14

-- reply buffer too short
abbrev pub short_reply : ℕ
short_reply = 15

-- installer's code
abbrev pub bad_install_code : ℕ
bad_install_code = 16

-- version text
abbrev pub bad_version_text : ℕ
bad_version_text = 17

-- fragment size
abbrev pub bad_size : ℕ
bad_size = 18

-- package empty or too long
abbrev pub bad_package : ℕ
bad_package = 19

-- a capture's mark
abbrev pub bad_mark : ℕ
bad_mark = 20

-- a record of a capture cut short
abbrev pub cut_short : ℕ
cut_short = 21

-- a record that does not fit this buffer, or whose message is too long for a length WORD (02, 2026-02)
abbrev pub does_not_fit : ℕ
does_not_fit = 22

-- fragment already stored with other bytes, or with another length (02, 2026-06)
abbrev pub repeat_differs : ℕ
repeat_differs = 23

-- a lent record that breaks the rules
abbrev pub bad_record : ℕ
bad_record = 29

-- the boundary's own: a buffer shorter than the layout of its record or state, or not of a digest's length
abbrev pub short_record : ℕ
short_record = 64
