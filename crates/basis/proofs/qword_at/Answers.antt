-- `basis::qword_at` meets its contract: past the end there are only zeros; else its two DWORDs. Assumes nothing.
use mathlib.Core.Path.{sym}
use Rattle.basis.specs.Bytes.{qword_at}
use Rattle.basis.proofs.Lists.{qword_none}
use Rattle.basis.proofs.qword_at.Goals as goal

pub returns-then-bytes-at : goal.returns-then-bytes-at
returns-then-bytes-at c = sym (qword_none c.args.bytes.now _ c.if-bytes-at.true)

pub returns : goal.returns
unfolding qword_at
returns c = rw (c.dword_at-high.ensures, c.dword_at-low.ensures)
