use Rattle.std.proofs.Common.{sym, ◌∙◌}
use Rattle.cfi_judge.proofs.LineLemmas.{line_fault, line_leads, line_of_load, line_of_retirement, load_line, retire_line}
use Rattle.cfi_judge.proofs.reached.Reached.go.Goals as goal

pub returns-in-Module-clause-ok : goal.returns-in-Module-clause-ok
returns-in-Module-clause-ok c =
    let load = c.in-Module.load in
    line_leads c.args.plan.now c.args.modules.now c.args.self c.args.line (load_line load)
    (line_of_load load c.args.line (sym c.change_of.ensures ∙ c.in-Module.is)) c.load.result c.load.ensures.ok

pub returns-in-Module-clause-fault : goal.returns-in-Module-clause-fault
returns-in-Module-clause-fault c =
    let load = c.in-Module.load in
    line_fault c.args.plan.now c.args.modules.now c.args.self c.args.line (load_line load)
    (line_of_load load c.args.line (sym c.change_of.ensures ∙ c.in-Module.is)) c.load.result c.load.ensures.fault

pub returns-in-Retirement-clause-ok : goal.returns-in-Retirement-clause-ok
returns-in-Retirement-clause-ok c =
    let one = c.in-Retirement.retirement in
    line_leads c.args.plan.now c.args.modules.now c.args.self c.args.line (retire_line one)
    (line_of_retirement one c.args.line (sym c.change_of.ensures ∙ c.in-Retirement.is)) c.retire.result
    c.retire.ensures.ok

pub returns-in-Retirement-clause-fault : goal.returns-in-Retirement-clause-fault
returns-in-Retirement-clause-fault c =
    let one = c.in-Retirement.retirement in
    line_fault c.args.plan.now c.args.modules.now c.args.self c.args.line (retire_line one)
    (line_of_retirement one c.args.line (sym c.change_of.ensures ∙ c.in-Retirement.is)) c.retire.result
    c.retire.ensures.fault
