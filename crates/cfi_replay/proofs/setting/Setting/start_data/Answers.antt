use Rattle.std.proofs.Common.{List, All, length, take, sym, ap, subst, ◌∙◌, arith}
use Rattle.cfi_model.specs.Data.{LiesInData}
use Rattle.cfi_unit.specs.declared.fill.Fill.{Fill}
use Rattle.cfi_replay.proofs.FillLemmas.{found_within, part_lies, start_data_are}
use Rattle.cfi_replay.proofs.setting.Setting.start_data.Goals as goal

pub fills_in-requires-clause-within : goal.fills_in-requires-clause-within
fills_in-requires-clause-within c =
    omega (
      arith,
      c.loaded_modules-starts.ensures.count,
      found_within c.args.self.now c.requires 0,
      ap (λ (fs : List Fill). length fs) c.data-data.ensures,
    )

pub returns-clause-is : goal.returns-clause-is
returns-clause-is c =
    let starts = length c.loaded_modules-starts.result.now in
    c.fills_in.ensures
    ∙ ap (λ (fs : List Fill). take starts fs) c.data-data.ensures
    ∙ start_data_are c.args.self.now c.requires starts c.loaded_modules-starts.ensures.count

pub returns-clause-lies : goal.returns-clause-lies
returns-clause-lies c =
    let starts = length c.loaded_modules-starts.result.now in
    subst (All LiesInData) (sym (c.fills_in.ensures ∙ ap (λ (fs : List Fill). take starts fs) c.data-data.ensures))
    (part_lies c.args.self.now c.requires c.loaded_modules-starts.ensures.series 0 starts)
