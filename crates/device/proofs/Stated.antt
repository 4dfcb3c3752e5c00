-- A condition that is stated: known with its number, or refused with 13. Assumes nothing.
use Rattle.std.proofs.Common.{◌≡◌, ℕ, Ok, Err, arith}
use Rattle.std.proofs.lemmas.Grind.{common_steps}
use Rattle.std.specs.Prelude.{is_ok}
use Rattle.basis.specs.Choice.{one_of}
use Rattle.basis.specs.Numbers.{unknown_condition}
use Rattle.basis.specs.Refusals.{number_of}
use Rattle.basis.specs.declared.refusal.Refusal.{Refusal}
use Rattle.device_record.specs.declared.condition.Condition.{Condition}
use Rattle.device_record.specs.Conditions.{condition_code, condition_at}
use Rattle.device_record.specs.Record.{condition_ok}

pub known_as_read : (n : ℕ) → condition_ok n ≡ is_ok (condition_at n)
unfolding condition_ok one_of
known_as_read n = grind (arith, common_steps)

pub code_as_stated : (n : ℕ) (c : Condition) → condition_at n ≡ Ok c → condition_code c ≡ n
code_as_stated n c e = grind (arith, common_steps)

pub unknown_is_13 : (n : ℕ) (e : Refusal) → condition_at n ≡ Err e → number_of e ≡ unknown_condition
unknown_is_13 n e p = grind (arith, common_steps)
