use Rattle.std.proofs.Common.{◌≢◌, [], rules}
use Rattle.std.proofs.lemmas.Result.{err_from_is_err_and}
use Rattle.std.proofs.lemmas.Result.{on_ok_weaker}
use Rattle.cfi_verify.proofs.FaultLemmas.{unread_fault}
use Rattle.cfi_verify.proofs.RowLemmas.{no_fault}
use Rattle.cfi_verify.proofs.verifier.verify.Goals as goal

-- words that are no units
pub returns-in_err-spots-clause-fault : goal.returns-in_err-spots-clause-fault
returns-in_err-spots-clause-fault c =
    let p = err_from_is_err_and c.from_residual.result c.from_residual.ensures.1 in
    let some : c.args.new.now.words ≢ [] = search rules in
    let unread = rw c.as_slice-words.ensures at c.in_err-spots.ensures.fault in
    rw (p.1, p.2) (unread_fault c.args.new.now c.args.loaded.now _ some unread)

pub returns-in_err-check_layout-clause-fault : goal.returns-in_err-check_layout-clause-fault
returns-in_err-check_layout-clause-fault c =
    let p = err_from_is_err_and c.from_residual-in_err-check_layout.result
    c.from_residual-in_err-check_layout.ensures.1 in
    rw (p.1, p.2) (λ not_memory. c.in_err-check_layout.ensures.fault c.args.loaded.now)

-- no fault stands against what is verified
pub returns-clause-ok : goal.returns-clause-ok
returns-clause-ok c =
    let all = rw (← c.deref-6.ensures.value) at c.in_ok-entries.ensures.all in
    on_ok_weaker c.check_flow.result (no_fault c.args.new.now c.args.loaded.now _)
    (c.check_flow.ensures.ok c.args.loaded.now all)
