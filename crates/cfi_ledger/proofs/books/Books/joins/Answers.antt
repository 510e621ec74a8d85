use Rattle.std.proofs.Common.{◌≡◌, ◌∙◌, List, Some, length, get_or, refl, ap, arith}
use Rattle.std.specs.List.{slice_get}
use Rattle.std.proofs.lemmas.Option.{slice_get_read}
use Rattle.std.proofs.lemmas.Result.{IfOk-weaker, IfErr-weaker}
use Rattle.cfi_aux.specs.declared.modules.Module.{Module}
use Rattle.cfi_aux.specs.declared.placed.Placed.{Placed}
use Rattle.cfi_modules.specs.Series.{IsRefusedBy, JoinsTo}
use Rattle.cfi_ledger.specs.Finding.{DoesJoin}
use Rattle.cfi_ledger.specs.Loads.{IsUnprepared}
use Rattle.cfi_ledger.specs.Roster.{series_of}
use Rattle.cfi_ledger.proofs.books.Books.joins.Goals as goal

pub returns-clause-ok : goal.returns-clause-ok
returns-clause-ok c =
    let b = c.args.self.now in
    let m = c.index-as_slice-number.result in
    let is : slice_get b.modules c.args.number ≡ Some m =
    slice_get_read b.modules (length b.modules) c.args.number m refl
    (omega (arith, c.requires.known, c.requires.can.count))
    (c.index-as_slice-number.is ∙ ap (λ (ms : List Module). get_or ms c.args.number m) c.as_slice.ensures) in
    IfOk-weaker c.joins.result (λ _. (one : Placed) × JoinsTo (series_of b.force.roster) m one)
    (λ _. DoesJoin b.modules b.force.roster c.args.number)
    (λ _ joined. record { unplaced = m; is = is; placed = joined.0; joins = joined.1 }) c.joins.ensures.ok

pub returns-clause-fault : goal.returns-clause-fault
returns-clause-fault c =
    let b = c.args.self.now in
    let m = c.index-as_slice-number.result in
    let is : slice_get b.modules c.args.number ≡ Some m =
    slice_get_read b.modules (length b.modules) c.args.number m refl
    (omega (arith, c.requires.known, c.requires.can.count))
    (c.index-as_slice-number.is ∙ ap (λ (ms : List Module). get_or ms c.args.number m) c.as_slice.ensures) in
    IfErr-weaker c.joins.result (IsRefusedBy (series_of b.force.roster) m)
    (IsUnprepared b c.args.number)
    (λ fault why. record { unplaced = m; is = is; why = why }) c.joins.ensures.fault
