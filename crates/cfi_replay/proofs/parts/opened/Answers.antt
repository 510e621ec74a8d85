use Rattle.std.proofs.Common.{List, ap, sym, ◌∙◌}
use Rattle.cfi_model.specs.Plain.{plain_opened, with_fills}
use Rattle.cfi_unit.specs.declared.fill.Fill.{Fill}
use Rattle.cfi_valid.specs.Loaded.{cells_at, start_data}
use Rattle.cfi_replay.specs.Setting.{loaded_in, members_in}
use Rattle.cfi_replay.proofs.FilledLemmas.{opened_more}
use Rattle.cfi_replay.proofs.parts.opened.Goals as goal

pub returns : goal.returns
returns c =
    let s = c.args.setting.now in
    c.fill.ensures
    ∙ ap (λ (fills : List Fill). with_fills fills c.in_ok-machine.machine) c.cells_at.ensures.is
    ∙ ap (with_fills (cells_at 0 (members_in s)))
    (c.in_ok-machine.ensures
    ∙ ap (λ (fills : List Fill). plain_opened c.args.number c.args.address fills) c.start_data.ensures.is)
    ∙ sym (opened_more c.args.number c.args.address (start_data (loaded_in s)) (cells_at 0 (members_in s)))
