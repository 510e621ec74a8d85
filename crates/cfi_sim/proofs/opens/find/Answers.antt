use Rattle.std.proofs.Common.{◌≡◌, [], Some, rules, sym, ap, ◌∙◌, arith}
use Rattle.std.proofs.lemmas.Option.{slice_get-get_or}
use Rattle.std.specs.Prelude.{slice_get, slice_index_or}
use Rattle.cfi_plan.specs.declared.journal.ModuleLine.{ModuleLine}
use Rattle.cfi_ledger.specs.Roster.{line_by}
use Rattle.cfi_ledger.proofs.RosterLemmas.{unlisted_absent}
use Rattle.cfi_sim.proofs.FoundLemmas.{none_found, one_found}
use Rattle.cfi_sim.proofs.opens.find.Goals as goal

-- no module has the number
pub returns-in-None : goal.returns-in-None
returns-in-None c =
    none_found c.args.plan.now c.args.world.now c.args.roster.now c.args.number (search rules)
    (unlisted_absent c.args.roster.now c.requires.many c.args.number c.in-None.ensures.none)

-- one does
pub returns-in-Some : goal.returns-in-Some
returns-in-Some c =
    let r = c.args.roster.now in
    let listed = c.in-Some.ensures.some in
    let one = c.index-modules-at.result in
    let at = c.in-Some.at in
    let line : ModuleLine = line_by 0 [] 0 one in
    let here = slice_get-get_or r.lines at line (omega (arith, listed.within, c.requires.many)) in
    let there : slice_get r.placed at ≡ Some one =
    slice_get-get_or r.placed at one listed.within
    ∙ ap (λ x. Some x)
    (ap (λ xs. slice_index_or xs at one) (sym c.modules.ensures.value) ∙ sym c.index-modules-at.is) in
    one_found c.args.plan.now c.args.world.now r c.args.number (search rules) c.requires.apart at
    (slice_index_or r.lines at line) one here (listed.number_is line) there c.found_in.result c.found_in.ensures
