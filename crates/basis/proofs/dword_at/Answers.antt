-- `basis::dword_at` meets its contract: past the end there are only zeros; else its two WORDs. Assumes nothing.
use mathlib.Core.Path.{sym}
use Rattle.basis.proofs.Lists.{dword_none}
use Rattle.basis.proofs.dword_at.Goals as goal

pub returns-then-bytes-at : goal.returns-then-bytes-at
returns-then-bytes-at c = sym (dword_none c.args.bytes.now _ c.if-bytes-at.true)

pub returns : goal.returns
returns c = rw (c.word_at-high.ensures, c.word_at-low.ensures)
