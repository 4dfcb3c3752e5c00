-- Phases and endings of the gateway, and their numbers. Assumes nothing.
use Rattle.std.specs.Prelude.{ℕ, Result, Ok, Err, ◌==◌, if◌then◌else◌}
use Rattle.basis.specs.declared.refusal.Refusal.{Refusal}
use Rattle.basis.specs.declared.refusal.Refusal.TheVariants.{BadRecord}
use Rattle.gateway_record.specs.Record.{ask, offer, serve, run, ended}
use Rattle.gateway_record.specs.Record.{success, already_running, not_accepted, download_failed, not_executed, upgrade_failed}
use Rattle.gateway_record.specs.declared.phase.Phase.{Phase}
use Rattle.gateway_record.specs.declared.phase.Phase.TheVariants.{Ask, Offer, Serve, Run, Ended}
use Rattle.gateway_record.specs.declared.phase.Ending.{Ending}
use Rattle.gateway_record.specs.declared.phase.Ending.TheVariants.{Success, AlreadyRunning, NotAccepted, DownloadFailed, NotExecuted, UpgradeFailed}

abbrev pub code_of : Phase → ℕ
code_of Ask = ask
code_of Offer = offer
code_of Serve = serve
code_of Run = run
code_of Ended = ended

abbrev pub phase_at : ℕ → Result Phase Refusal
phase_at n =
    if n == ask then Ok Ask
    else if n == offer then Ok Offer
    else if n == serve then Ok Serve
    else if n == run then Ok Run
    else if n == ended then Ok Ended
    else Err BadRecord

abbrev pub ending_code : Ending → ℕ
ending_code Success = success
ending_code AlreadyRunning = already_running
ending_code NotAccepted = not_accepted
ending_code DownloadFailed = download_failed
ending_code NotExecuted = not_executed
ending_code UpgradeFailed = upgrade_failed

abbrev pub ending_at : ℕ → Result Ending Refusal
ending_at n =
    if n == success then Ok Success
    else if n == already_running then Ok AlreadyRunning
    else if n == not_accepted then Ok NotAccepted
    else if n == download_failed then Ok DownloadFailed
    else if n == not_executed then Ok NotExecuted
    else if n == upgrade_failed then Ok UpgradeFailed
    else Err BadRecord
