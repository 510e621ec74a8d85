use Rattle.std.proofs.Common.{List, [], length, get_or, Option, refl, sym, ap, ◌∙◌}
use Rattle.std.specs.Option.{option_map_or}
use Rattle.std.proofs.lemmas.Option.{slice_get_read}
use Rattle.cfi_plan.specs.declared.plan.PlanModule.{PlanModule}
use Rattle.cfi_ledger.proofs.entrant.Entrant.of.Goals as goal

-- it is the name that the plan has
pub returns-clause-name : goal.returns-clause-name
returns-clause-name c =
    let named = c.args.plan.now.modules in
    let one = c.index-as_slice-number.result in
    let there = slice_get_read named (length named) c.args.number one refl c.requires
    (c.index-as_slice-number.is ∙ ap (λ (ms : List PlanModule). get_or ms c.args.number one) c.as_slice.ensures) in
    c.as_str.ensures ∙ ap (λ (p : PlanModule). p.name) (sym c.index-as_slice-number.is)
    ∙ sym (ap (λ (o : Option PlanModule). option_map_or (λ (p : PlanModule). p.name) o []) there)
