-- The cases of the layouts, computed. Assumes nothing.
use mathlib.Core.Path.{refl}
use Rattle.basis.specs.Choice.{pick}
use Rattle.basis.specs.Bytes.{qword_at, qword_bytes, part}
use Rattle.gateway_record.specs.Record.{total_of, length_ok}
use Rattle.layout_rules.specs.Layout.{front_bytes, device_bytes, device_at, gateway_bytes, gateway_at}
use Rattle.layout_rules.specs.Cases.{LayoutCases}

pub layout_cases : LayoutCases
unfolding pick qword_at qword_bytes part total_of length_ok front_bytes device_bytes device_at gateway_bytes gateway_at
layout_cases = record { device_is = refl; device_read_is = refl; gateway_is = refl; gateway_read_is = refl }
