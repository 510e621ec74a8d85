use Rattle.std.proofs.Common.{◌≡◌, List, get_or, Some, ap, sym, subst, ◌∙◌}
use Rattle.std.proofs.lemmas.Option.{get_or_from_slice_get}
use Rattle.std.specs.List.{slice_get}
use Rattle.cfi_aux.specs.declared.modules.Module.{Module}
use Rattle.cfi_modules.specs.Series.{IsRefusedBy}
use Rattle.cfi_ledger.specs.Finding.{JoinsBut}
use Rattle.cfi_ledger.specs.Roster.{series_of}
use Rattle.cfi_ledger.proofs.FindingLemmas.{noted_now}
use Rattle.cfi_ledger.proofs.books.Books.keep.Goals as goal

-- what was found is true of the books as they are
pub returns-in-Some-clause-found : goal.returns-in-Some-clause-found
returns-in-Some-clause-found c =
    let b = c.args.self.now in
    let its = c.requires.unprepared in
    let m = c.index-as_slice-number.result in
    let same : m ≡ its.unplaced =
    c.index-as_slice-number.is ∙ ap (λ (ms : List Module). get_or ms c.args.number m) c.as_slice.ensures
    ∙ get_or_from_slice_get b.modules c.args.number its.unplaced m its.is in
    let why : IsRefusedBy (series_of b.force.roster) m c.args.fault.now =
    subst (λ (u : Module). IsRefusedBy (series_of b.force.roster) u c.args.fault.now) (sym same) its.why in
    let says = subst (JoinsBut b.force.roster m) (sym c.in-Some.ensures) why in
    noted_now b c.args.number c.in-Some.outcome c.requires.found c.note.new.self.found.items c.note.ensures.found
    m (subst (λ (u : Module). slice_get b.modules c.args.number ≡ Some u) (sym same) its.is) says
