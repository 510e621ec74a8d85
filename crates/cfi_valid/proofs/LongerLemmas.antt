-- A replay stays one where the log gets longer.
use Rattle.std.proofs.Common.{◌≡◌, ℕ, zero, suc, Bool, true, false, List, ◌++◌, length, Option, Some, None, refl, sym, ap, subst, ◌∙◌}
use Rattle.std.specs.List.{slice_get}
use Rattle.cfi_modules.proofs.JoinedLemmas.{there_left}
use Rattle.cfi_unit.specs.declared.log.Log.{Log}
use Rattle.cfi_unit.specs.declared.log.Log.TheVariants.{Pick, Open, Cause}
use Rattle.cfi_unit.specs.declared.unit.Unit.{Unit as CodeUnit}
use Rattle.cfi_unit.specs.declared.unit.Unit.TheVariants as units
use Rattle.cfi_model.specs.Effect.{is_in_code, asks}
use Rattle.cfi_model.specs.Service.{Reply}
use Rattle.cfi_model.specs.State.{State, register, displaced}
use Rattle.cfi_valid.specs.Loaded.{Members, Cells}
use Rattle.cfi_valid.specs.Replay.{singles, next_in, IsReplyOf, TakesPick, TakesAnswer, TakesFrom, IsReplayed, Replays}

-- a log has what another has, and more behind it
abbrev pub Longer : (old new more : List Log) → Type 0
Longer old new more = singles new ≡ singles old ++ more

next_stays : (log longer more : List Log) → Longer log longer more → (s : State) (entry : Log)
    → next_in log s ≡ Some entry → next_in longer s ≡ Some entry
next_stays log longer more is s entry next =
    ap (λ (all : List Log). slice_get all (length (singles s.log))) is
    ∙ there_left (singles log) more (length (singles s.log)) entry next

module _ (cells : Cells) (code : List ℕ) (members : Members) (log longer more : List Log)
    (is : Longer log longer more) where
  picks_stay : (s : State) (slot target pick : ℕ) (allowed inside : Bool)
      → TakesPick inside members (next_in log s) slot target pick allowed
      → TakesPick inside members (next_in longer s) slot target pick allowed
  picks_stay s slot target pick allowed true picks = record {
    is = next_stays log longer more is s (Pick pick 1) picks.is;
    exact = picks.exact;
  }
  picks_stay s slot target pick allowed false picks = tt

  reply_stays : (s : State) (reply : Reply) (next : Option Log) → next_in log s ≡ next
      → IsReplyOf cells members s next reply → IsReplyOf cells members s (next_in longer s) reply
  reply_stays s reply (Some (Open number address policy)) at told =
      subst (λ (n : Option Log). IsReplyOf cells members s n reply)
      (sym (next_stays log longer more is s (Open number address policy) at)) told
  reply_stays s reply (Some (Cause number cause)) at told =
      subst (λ (n : Option Log). IsReplyOf cells members s n reply)
      (sym (next_stays log longer more is s (Cause number cause) at)) told
  reply_stays s reply (Some (Pick policy count)) at told = absurd told
  reply_stays s reply None at told = absurd told

  answers_stay : (s : State) (reply : Reply) (asking : Bool) → TakesAnswer cells asking members s (next_in log s) reply
      → TakesAnswer cells asking members s (next_in longer s) reply
  answers_stay s reply true told = reply_stays s reply (next_in log s) refl told
  answers_stay s reply false told = told

  takes_stay : (unit : CodeUnit) (s : State) (pick : ℕ) (allowed : Bool) (reply : Reply)
      → TakesFrom cells members (next_in log s) unit s pick allowed reply
      → TakesFrom cells members (next_in longer s) unit s pick allowed reply
  takes_stay (units.Plain insn) s pick allowed reply takes = tt
  takes_stay (units.Load kind rd rs1 imm) s pick allowed reply takes = tt
  takes_stay (units.Store kind rs1 rs2 imm) s pick allowed reply takes = tt
  takes_stay (units.Branch cond rs1 rs2 off) s pick allowed reply takes = tt
  takes_stay (units.Jump link off) s pick allowed reply takes = tt
  takes_stay (units.Check link rs1 imm slot) s pick allowed reply takes =
      let target = displaced (register s rs1) imm in
      picks_stay s slot target pick allowed (is_in_code target) takes
  takes_stay units.Service s pick allowed reply takes = answers_stay s reply (asks s) takes

  unit_stays : (old new : State) → IsReplayed cells code members log old new
      → IsReplayed cells code members longer old new
  unit_stays old new p = record {
    going = p.going;
    unit = p.unit;
    stands = p.stands;
    pick = p.pick;
    allowed = p.allowed;
    reply = p.reply;
    takes = takes_stay p.unit old p.pick p.allowed p.reply p.takes;
    is = p.is;
  }

  pub replay_stays : (count : ℕ) (old new : State) → Replays cells code members log count old new
      → Replays cells code members longer count old new
  replay_stays zero old new p = p
  replay_stays (suc count) old new p = (p.0, replay_stays count old p.0 p.1, unit_stays p.0 new p.2)
