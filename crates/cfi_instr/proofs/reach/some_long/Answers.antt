-- No branch is long at first.
use Rattle.std.proofs.Common.{◌≡◌, ◌∙◌, List, Bool, false, replicate, sym, subst, rules}
use Rattle.cfi_instr.specs.Reach.{IsEnough, IsWithin, IsPassed}
use Rattle.cfi_instr.proofs.WideLemmas.{over-passed, none-within}
use Rattle.cfi_instr.proofs.reach.some_long.Goals as goal

pub returns-in_err-offsets-clause-fault : goal.returns-in_err-offsets-clause-fault
returns-in_err-offsets-clause-fault c =
    let t = c.args.source.now in
    let items : c.in_ok-long.long.items ≡ replicate c.count.result false = search rules in
    let first : c.deref.result.now ≡ replicate c.count.result false = c.deref.ensures.value ∙ items in
    let within : (other : List Bool) → IsEnough t c.args.symbols.now other → IsWithin c.deref.result.now other =
    λ other enough.
    subst (λ (xs : List Bool). IsWithin xs other) (sym first) (none-within c.count.result other) in
    let due : IsPassed t c.args.symbols.now c.in_err-offsets.field-0.0 =
    over-passed t c.args.symbols.now c.deref.result.now c.in_err-offsets.field-0.0 within c.in_err-offsets.ensures.fault in
    search rules
