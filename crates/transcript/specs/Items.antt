-- What is printed for what a reader gives, one item after the other, while the device goes on from one to the next. Assumes nothing.
use Rattle.std.specs.Prelude.{ℕ, ◌+◌, ◌<◌, ◌≡◌, ⊤, Bool, true, false, List, [], ◌∷◌, ◌++◌, length, Result, Ok, Err, OnOk, OnErr}
use Rattle.device_record.specs.declared.Device.{Device}
use Rattle.device_rules.specs.Rules.{After}
use Rattle.capture.specs.Items.{Entry}
use Rattle.text.specs.declared.writer.NoRoom.{NoRoom}
use Rattle.text.specs.declared.writer.Writer.{Writer}
use Rattle.text.specs.Text.{newline, number_text}
use Rattle.text.specs.Writing.{Puts, rest_of}
use Rattle.transcript.specs.declared.player.Player.{Player}
use Rattle.transcript.specs.Transcript.{given, line, out_room}

-- between records only the device and its buffers matter
abbrev pub at_rest : Device → (image map reply : List ℕ) → After
at_rest d image map reply = record { number = 0; length = 0; device = d; image = image; map = map; reply = reply }

abbrev pub settled : After → After
settled s = at_rest s.device s.image s.map s.reply

abbrev pub state : Player → After
state p = at_rest p.device p.image p.map p.reply

-- the device behind an item; a record toward it is given to it
abbrev pub after_record : (to_device : Bool) (message : List ℕ) → After → After
after_record true message s = settled (given s message)
after_record false message s = s

abbrev pub after_item : Result Entry (ℕ × ℕ) → After → After
after_item (Ok e) s = after_record e.to_device e.message s
after_item (Err f) s = s

-- what is printed for it, so many items having been counted before it
abbrev pub record_line : (number : ℕ) (to_device : Bool) (message : List ℕ) → After → List ℕ
record_line number true message s = line number (given s message)
record_line number false message s = []

abbrev pub item_line : (number : ℕ) → Result Entry (ℕ × ℕ) → After → List ℕ
item_line number (Ok e) s = record_line number e.to_device e.message s
item_line number (Err f) s = number_text f.1 newline

unfoldable pub items_text : (number : ℕ) → List (Result Entry (ℕ × ℕ)) → After → List ℕ
items_text number [] s = []
items_text number (x ∷ xs) s = item_line number x s ++ items_text (number + 1) xs (after_item x s)

-- a text was written, or there is less room than any capture's text may need
pub record Prints (text : List ℕ) (result : Result ⊤ NoRoom) (old new : Writer) : Type 0 where
  pub written : OnOk result (Puts text (Ok tt) old new)
  pub full : OnErr result (length (rest_of old) < out_room)
  pub reference : new.out.ghost_name ≡ old.out.ghost_name
