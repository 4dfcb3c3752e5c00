-- The cases of mending, computed. Assumes nothing.
use mathlib.Core.Path.{refl}
use Rattle.basis.specs.Choice.{pick}
use Rattle.basis.specs.Bytes.{over, patched}
use Rattle.capture_rules.specs.Capture.{record_bytes, wrong_mark, item_at}
use Rattle.capture_rules.specs.Mending.{sound_item, first_sound, mended}
use Rattle.capture_rules.specs.Mended.{parts_from, parts_of, records_in, mended_bytes}
use Rattle.text.specs.Text.{figures, number_text, text_at}
use Rattle.mending.specs.Account.{stretch_text, lines_of, told_text, no_room, mend_of}
use Rattle.mending.specs.Cases.{MendingCases}

pub mending_cases : MendingCases
unfolding pick over patched record_bytes wrong_mark item_at sound_item first_sound mended parts_from parts_of records_in mended_bytes
    figures number_text text_at stretch_text lines_of told_text no_room mend_of
mending_cases = record { stretch_is = refl; lines_are = refl; account_is = refl }
