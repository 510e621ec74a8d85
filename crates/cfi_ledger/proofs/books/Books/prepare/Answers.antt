use Rattle.std.proofs.Common.{◌+◌, List, length, get_or, refl, sym, ap, subst, ◌∙◌, arith}
use Rattle.std.proofs.lemmas.Option.{slice_get_read}
use Rattle.cfi_aux.specs.declared.modules.Module.{Module}
use Rattle.cfi_modules.specs.Series.{IsRefusedBy}
use Rattle.cfi_valid.specs.Loaded.{planned_name}
use Rattle.cfi_ledger.specs.Roster.{HasJoined, IsBookOfRoster, Roster, series_of}
use Rattle.cfi_ledger.proofs.JoinedLemmas.{entrant_joined}
use Rattle.cfi_ledger.proofs.books.Books.prepare.Goals as goal

-- the book is that of the modules that are lent
pub prepare-requires-clause-book : goal.prepare-requires-clause-book
prepare-requires-clause-book c =
    subst (λ (r : Roster). IsBookOfRoster r c.args.self.now.book) (sym c.replace-roster.ensures.value) c.requires.book

-- the module of the number joins
pub returns-in-Ok-clause-ok : goal.returns-in-Ok-clause-ok
returns-in-Ok-clause-ok c =
    let b = c.args.self.now in
    let m = c.index-as_slice-number.result in
    let new = c.in-Ok.candidate.roster in
    let entrant = c.entrant-entrant.result in
    let its = c.entrant-entrant.ensures in
    let joined = subst (λ (r : Roster). HasJoined entrant.number entrant.name.now entrant.policy m r new)
    c.replace-roster.ensures.value c.in-Ok.ensures.ok in
    record {
      unplaced = m;
      is = slice_get_read b.modules (length b.modules) c.args.number m refl
          (omega (arith, c.requires.known, c.requires.can.count))
          (c.index-as_slice-number.is ∙ ap (λ (ms : List Module). get_or ms c.args.number m) c.as_slice.ensures);
      joined = entrant_joined entrant c.args.number (planned_name b.plan.modules c.args.number) (b.force.policy + 1)
          its.number its.name its.policy m b.force.roster new joined;
    }

-- or it does not
pub returns-in-Err-clause-fault : goal.returns-in-Err-clause-fault
returns-in-Err-clause-fault c =
    let b = c.args.self.now in
    let m = c.index-as_slice-number.result in
    record {
      unplaced = m;
      is = slice_get_read b.modules (length b.modules) c.args.number m refl
          (omega (arith, c.requires.known, c.requires.can.count))
          (c.index-as_slice-number.is ∙ ap (λ (ms : List Module). get_or ms c.args.number m) c.as_slice.ensures);
      why = subst (λ (r : Roster). IsRefusedBy (series_of r) m c.in-Err.unjoined.fault)
          c.replace-roster.ensures.value c.in-Err.ensures.fault;
    }
