-- A gateway whose record keeps the rules: the record that it stands for, and what its calls leave. Assumes nothing.
use Rattle.std.specs.Prelude.{◌≡◌, ℕ, List, Result, Ok, Err}
use Rattle.basis.specs.Numbers.{handled}
use Rattle.basis.specs.declared.refusal.Refusal.{Refusal}
use Rattle.basis.specs.Refusals.{number_of}
use Rattle.gateway_record.specs.declared.Gateway.{Gateway}
use Rattle.gateway_record.specs.declared.phase.Phase.TheVariants.{Ask}
use Rattle.gateway_record.specs.declared.phase.Ending.TheVariants.{Success}
use Rattle.gateway_record.specs.Phases.{code_of, phase_at, ending_code, ending_at}
use Rattle.gateway_rules.specs.Rules.{After}
use Rattle.gateway.specs.declared.sound.SoundGateway.TheInside.{Inside}

abbrev or_else : {A : Type 0} → Result A Refusal → A → A
or_else (Ok a) b = a
or_else (Err e) b = b

-- the record, and back
abbrev pub shown : Inside → Gateway
shown g = record { phase = code_of g.phase; ending = ending_code g.ending; fields = g.fields; length = g.length }

abbrev pub hidden : Gateway → Inside
hidden g = record {
  phase = or_else (phase_at g.phase) Ask;
  ending = or_else (ending_at g.ending) Success;
  fields = g.fields;
  length = g.length;
}

-- what a message that was given leaves: its reply's length, or the number of the refusal
abbrev pub outcome_of : Result ℕ Refusal → Gateway → (reply : List ℕ) → After
outcome_of (Ok n) g reply = record { number = handled; length = n; gateway = g; reply = reply }
outcome_of (Err e) g reply = record { number = number_of e; length = 0; gateway = g; reply = reply }

-- record and reply buffer stay as they were
pub record Unchanged (old new : Gateway) (before after : List ℕ) : Type 0 where
  pub gateway : new ≡ old
  pub reply : after ≡ before
