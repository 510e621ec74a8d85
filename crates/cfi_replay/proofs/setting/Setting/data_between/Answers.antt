use Rattle.std.proofs.Common.{ℕ, List, All, length, take, drop, sym, ap, subst, ◌∙◌, arith}
use Rattle.cfi_model.specs.Data.{LiesInData}
use Rattle.cfi_unit.specs.declared.fill.Fill.{Fill}
use Rattle.cfi_replay.proofs.FillLemmas.{data_are, found_rises, found_within, part_lies}
use Rattle.cfi_replay.proofs.setting.Setting.data_between.Goals as goal

pub fills_in-requires-clause-order : goal.fills_in-requires-clause-order
fills_in-requires-clause-order c =
    omega (
      arith,
      c.loaded_modules-from.ensures.count,
      c.loaded_modules-to.ensures.count,
      found_rises c.args.self.now c.requires.setting c.args.above c.args.upto c.requires.order,
    )

pub fills_in-requires-clause-within : goal.fills_in-requires-clause-within
fills_in-requires-clause-within c =
    omega (
      arith,
      c.loaded_modules-to.ensures.count,
      found_within c.args.self.now c.requires.setting c.args.upto,
      ap (λ (fs : List Fill). length fs) c.data-data.ensures,
    )

pub returns-clause-is : goal.returns-clause-is
returns-clause-is c =
    let from : ℕ = length c.loaded_modules-from.result.now in
    let to : ℕ = length c.loaded_modules-to.result.now in
    c.fills_in.ensures
    ∙ ap (λ (fs : List Fill). drop from (take to fs)) c.data-data.ensures
    ∙ data_are c.args.self.now c.requires.setting c.args.above c.args.upto c.requires.order from to
    c.loaded_modules-from.ensures.count c.loaded_modules-to.ensures.count

pub returns-clause-lies : goal.returns-clause-lies
returns-clause-lies c =
    let from : ℕ = length c.loaded_modules-from.result.now in
    let to : ℕ = length c.loaded_modules-to.result.now in
    subst (All LiesInData)
    (sym (c.fills_in.ensures ∙ ap (λ (fs : List Fill). drop from (take to fs)) c.data-data.ensures))
    (part_lies c.args.self.now c.requires.setting c.loaded_modules-from.ensures.series from to)
