use Rattle.std.proofs.Common.{◌≡◌, ◌<◌, List, All, get_or, length, sym, subst, ◌∙◌, arith}
use Rattle.std.proofs.lemmas.Option.{slice_get-get_or}
use Rattle.cfi_model.specs.Data.{LiesInData}
use Rattle.cfi_unit.specs.declared.fill.Fill.{Fill}
use Rattle.cfi_valid.specs.Loaded.{cells_at}
use Rattle.cfi_replay.specs.Setting.{members_in}
use Rattle.cfi_replay.proofs.FillLemmas.{cells_in_data}
use Rattle.cfi_replay.proofs.setting.Setting.cells_at.Goals as goal

pub returns-clause-lies : goal.returns-clause-lies
returns-clause-lies c =
    let s = c.args.self.now in
    let policy = c.args.policy in
    let within : policy < length s.cells.now = omega (arith, c.requires.most, c.requires.setting.cells.count) in
    let cells : List Fill = get_or s.cells.now policy c.index-self-policy.result in
    let is : c.as_slice.result.now ≡ cells_at policy (members_in s) =
    c.as_slice.ensures
    ∙ c.requires.setting.cells.each policy cells
    (slice_get-get_or s.cells.now policy c.index-self-policy.result within) in
    subst (All LiesInData) (sym is) (cells_in_data s c.requires.setting c.requires.series policy)
