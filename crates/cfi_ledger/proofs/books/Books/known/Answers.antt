use Rattle.std.proofs.Common.{List, length, get_or, refl, ap, sym, ◌∙◌}
use Rattle.std.proofs.lemmas.Option.{slice_get_read}
use Rattle.cfi_aux.specs.declared.modules.Module.{Module}
use Rattle.cfi_ledger.proofs.FindingLemmas.{unjoined_now, joins_now}
use Rattle.cfi_ledger.proofs.books.Books.known.Goals as goal

pub returns-in-Some-fault : goal.returns-in-Some-fault
returns-in-Some-fault c =
    let b = c.args.self.now in
    let m = c.index-as_slice-number.result in
    let there = slice_get_read b.modules (length b.modules) c.args.number m refl c.requires.known
    (c.index-as_slice-number.is ∙ ap (λ (ms : List Module). get_or ms c.args.number m) c.as_slice.ensures) in
    unjoined_now b c.args.number c.in-Some.outcome c.requires.found c.in-Some.ensures m there c.in-Some-fault.fault
    (sym c.in-Ok.ensures ∙ c.in-Some-fault.is)

pub returns-then-self-eq-MAX_EPOCH : goal.returns-then-self-eq-MAX_EPOCH
returns-then-self-eq-MAX_EPOCH c =
    let b = c.args.self.now in
    let m = c.index-as_slice-number.result in
    let there = slice_get_read b.modules (length b.modules) c.args.number m refl c.requires.known
    (c.index-as_slice-number.is ∙ ap (λ (ms : List Module). get_or ms c.args.number m) c.as_slice.ensures) in
    record {
      joins = joins_now b c.args.number c.in-Some.outcome c.requires.found c.in-Some.ensures m there
          (sym c.in-Ok.ensures ∙ c.in_default-fault.is);
      last = c.if-self-eq-MAX_EPOCH.true;
    }

-- want of memory is always a fault
pub returns-in_default-fault_by : goal.returns-in_default-fault_by
returns-in_default-fault_by c =
    let b = c.args.self.now in
    let m = c.index-as_slice-number.result in
    let there = slice_get_read b.modules (length b.modules) c.args.number m refl c.requires.known
    (c.index-as_slice-number.is ∙ ap (λ (ms : List Module). get_or ms c.args.number m) c.as_slice.ensures) in
    record { unplaced = m; is = there; why = tt }
