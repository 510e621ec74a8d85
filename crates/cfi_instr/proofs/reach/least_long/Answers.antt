-- The set grows within each one that is enough.
use Rattle.std.proofs.Common.{◌∙◌, ◌≤◌, List, Bool, ap, subst, rules}
use Rattle.cfi_instr.specs.Words.{count_of}
use Rattle.cfi_instr.specs.declared.sizes.TheConstants.{MAX_WORDS}
use Rattle.cfi_instr.specs.Sizes.{words_before, offsets_of, IsOver}
use Rattle.cfi_instr.specs.Reach.{IsPassed}
use Rattle.cfi_instr.proofs.WideLemmas.{within-next, over-passed}
use Rattle.cfi_instr.proofs.reach.least_long.Goals as goal

pub returns-in_err-offsets-clause-fault : goal.returns-in_err-offsets-clause-fault
returns-in_err-offsets-clause-fault c =
    let t = c.args.source.now in
    let over : IsOver t c.in_ok-long.long.items c.in_err-offsets.field-0.0 =
    subst (λ (xs : List Bool). IsOver t xs c.in_err-offsets.field-0.0) c.deref.ensures.value c.in_err-offsets.ensures.fault in
    let due : IsPassed t c.args.symbols.now c.in_err-offsets.field-0.0 =
    over-passed t c.args.symbols.now c.in_ok-long.long.items c.in_err-offsets.field-0.0 c.in_ok-long.ensures.within over in
    search rules

pub returns-in_err-offsets-2-clause-fault : goal.returns-in_err-offsets-2-clause-fault
returns-in_err-offsets-2-clause-fault c =
    let t = c.args.source.now in
    let within = within-next t c.args.symbols.now c.rounds.long.items c.widen.new.long.items c.deref-in-rounds.result.now
    (c.deref-in-rounds.ensures.value ∙ c.rounds.invariant.placed) c.widen.ensures.size c.rounds.invariant.within
    c.widen.ensures.each in
    let over : IsOver t c.widen.new.long.items c.in_err-offsets-2.field-0.0 =
    subst (λ (xs : List Bool). IsOver t xs c.in_err-offsets-2.field-0.0) c.deref-in-rounds-2.ensures.value
    c.in_err-offsets-2.ensures.fault in
    let due : IsPassed t c.args.symbols.now c.in_err-offsets-2.field-0.0 =
    over-passed t c.args.symbols.now c.widen.new.long.items c.in_err-offsets-2.field-0.0 within over in
    search rules

pub rounds-preserved : goal.rounds-preserved
rounds-preserved c =
    let t = c.args.source.now in
    let long_is = c.deref-in-rounds-2.ensures.value in
    record {
      size = c.widen.ensures.size;
      within =
          within-next t c.args.symbols.now c.rounds.long.items c.widen.new.long.items c.deref-in-rounds.result.now
          (c.deref-in-rounds.ensures.value ∙ c.rounds.invariant.placed) c.widen.ensures.size c.rounds.invariant.within
          c.widen.ensures.each;
      placed = c.in_ok-offsets-2.ensures.ok ∙ ap (λ (xs : List Bool). offsets_of t xs) long_is;
      small = c.in_ok-offsets-2.ensures.small;
      fits =
          subst (λ (xs : List Bool). words_before t xs (count_of t) ≤ MAX_WORDS) long_is c.in_ok-offsets-2.ensures.fits;
    }
