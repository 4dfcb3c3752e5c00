-- `message::fields_at` meets its contract: past the end there is nothing but 0; else each field is read at its place. Assumes nothing.
use Rattle.message.proofs.FieldBytes.{fields_none}
use Rattle.message.proofs.announcement.fields_at.Goals as goal

pub returns-then-bytes-at : goal.returns-then-bytes-at
returns-then-bytes-at c = fields_none c.args.bytes.now _ _ c.version_at-version.ensures c.if-bytes-at.true

pub returns : goal.returns
returns c = rw (
  c.version_at-version.ensures,
  c.word_at.ensures,
  c.word_at-2.ensures,
  c.word_at-3.ensures,
)
