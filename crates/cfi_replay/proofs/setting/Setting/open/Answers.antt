use Rattle.std.proofs.Common.{List, ap, sym, ◌∙◌, arith}
use Rattle.cfi_model.specs.Plain.{answered, with_fills}
use Rattle.cfi_model.specs.Service.{reply_of}
use Rattle.cfi_unit.specs.declared.fill.Fill.{Fill}
use Rattle.cfi_valid.specs.Loaded.{cells_at, data_between}
use Rattle.cfi_replay.specs.Setting.{loaded_in, members_in}
use Rattle.cfi_replay.proofs.FilledLemmas.{answered_more}
use Rattle.cfi_replay.proofs.setting.Setting.open.Goals as goal

pub answer-requires : goal.answer-requires
answer-requires c = record {
  waiting = c.requires.waiting;
  inside = c.data_between-fills.ensures.lies;
  rises = c.requires.rises;
  most = omega (arith, c.requires.most, c.requires.setting.few);
}

-- the data, and the cells behind it
pub returns : goal.returns
returns c =
    let s = c.args.self.now in
    let old = c.args.machine.now in
    let brought = data_between c.args.given c.args.policy (loaded_in s) in
    c.fill.ensures
    ∙ ap (λ (fills : List Fill). with_fills fills c.answer.new.self) c.cells_at.ensures.is
    ∙ ap (with_fills (cells_at c.args.policy (members_in s)))
    (c.answer.ensures
    ∙ ap (λ (fills : List Fill). answered (reply_of c.args.address 0 c.args.policy fills) old)
    c.data_between-fills.ensures.is)
    ∙ sym (answered_more c.args.address c.args.policy brought (cells_at c.args.policy (members_in s)) old)
