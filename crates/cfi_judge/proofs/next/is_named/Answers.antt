use Rattle.std.proofs.Common.{◌<◌, List, length, sym, ap, ◌∙◌, arith}
use Rattle.cfi_plan.specs.declared.plan.PlanModule.{PlanModule}
use Rattle.cfi_judge.proofs.NextLemmas.{name_told}
use Rattle.cfi_judge.proofs.next.is_named.Goals as goal

pub returns : goal.returns
returns c =
    let named = c.as_slice.result.now in
    let within : c.args.number < length named =
    omega (arith, c.requires, ap (λ (ms : List PlanModule). length ms) c.as_slice.ensures) in
    name_told c.args.plan.now c.args.number named c.as_slice.ensures within c.index-as_slice-number.result
    c.index-as_slice-number.is c.args.line.now.name c.as_str.result.now c.as_str-2.result.now c.as_str.ensures
    (c.as_str-2.ensures ∙ ap (λ (m : PlanModule). m.name) (sym c.index-as_slice-number.is)) c.eq.result c.eq.ensures
