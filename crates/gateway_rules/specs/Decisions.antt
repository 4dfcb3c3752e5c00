-- What the gateway decides of the messages that it is given: 01, "The gateway". Assumes nothing.
use Rattle.std.specs.Prelude.{ℕ, Bool, ◌&&◌, ◌||◌, List, eqb, ltb}
use Rattle.basis.specs.Choice.{pick}
use Rattle.basis.specs.Bytes.{same}
use Rattle.message.specs.declared.Fields.{Fields}
use Rattle.gateway_record.specs.declared.Gateway.{Gateway}
use Rattle.gateway_record.specs.Record.{offer, serve, run, success, already_running, upgrade_failed, in_phase, ended_with}

-- 19 answer in Ask: the target already runs, else Offer
unfoldable pub after_query : Gateway → (version : List ℕ) → Gateway
after_query g version = pick (same version g.fields.version) (ended_with already_running g) (in_phase offer g)

-- Serve or Run: fragments are given
unfoldable pub serving : (phase : ℕ) → Bool
serving phase = eqb phase serve || eqb phase run

-- 21: 80 for another version or phase, 81 for an index past the last, else 00
unfoldable pub fragment_result : (phase : ℕ) → Fields → (version : List ℕ) (index : ℕ) → ℕ
fragment_result phase f version index = pick (serving phase && same version f.version) (pick (ltb index f.total) 0x00 0x81) 0x80

-- 24 in Run: 00 with the target version is success, anything else is not
unfoldable pub install_ending : Fields → (result : ℕ) (version : List ℕ) → ℕ
install_ending f result version = pick (eqb result 0x00 && same version f.version) success upgrade_failed
