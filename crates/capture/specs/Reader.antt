-- Readers: the borrowed capture and a place in it. Assumes nothing.
use Rattle.std.specs.Prelude.{ℕ, List, Result, Ok, Err}
use Rattle.std.specs.Borrow.{Bor}
use Rattle.capture.specs.declared.CaptureReader.{CaptureReader}
use Rattle.capture.specs.declared.record.Record.{Record}
use Rattle.capture.specs.declared.Fault.{Fault}
use Rattle.capture.specs.declared.mend.Stretch.{Stretch}
use Rattle.capture.specs.declared.mend.Mending.{Mending}
use Rattle.capture.specs.Answers.{number_of}
use Rattle.capture.specs.Items.{Entry, items, pieces}

abbrev pub reader_at : (capture : Bor (List ℕ)) (at : ℕ) → CaptureReader
reader_at capture at = record { capture = capture; at = at }

abbrev pub entry : Record → Entry
entry r = record { at = r.at; to_device = r.to_device; message = r.message.now }

abbrev pub item : Result Record Fault → Result Entry (ℕ × ℕ)
item (Ok r) = Ok (entry r)
item (Err f) = Err (f.at, number_of f.damage)

abbrev pub left : CaptureReader → List (Result Entry (ℕ × ℕ))
left r = items r.capture.now r.at

abbrev pub piece : Result Record Stretch → Result Entry (ℕ × ℕ)
piece (Ok r) = Ok (entry r)
piece (Err s) = Err (s.start, s.length)

abbrev pub still : Mending → List (Result Entry (ℕ × ℕ))
still m = pieces m.reader.capture.now m.reader.at
