-- The published values: the table's claim, computed. Assumes nothing.
use mathlib.Core.Path.{refl}
use Rattle.basis.specs.Choice.{pick}
use Rattle.checksum.specs.Check.{doubled, entry_of, listed, entries, step, register, check_of, zeroed, message_check}
use Rattle.message.specs.Limits.{size_ok}
use Rattle.round_trips.specs.Published.{Published}

pub published : Published
unfolding message_check check_of zeroed register step entries listed entry_of doubled pick size_ok
published = refl
