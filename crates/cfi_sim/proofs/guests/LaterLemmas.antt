-- A replay of a simulation stays one where code and modules grow: the policies of its log find loaded what they found.
use Rattle.std.proofs.Common.{◌≡◌, ℕ, zero, suc, ◌≤◌, ◌++◌, Bool, true, false, List, [], ◌∷◌, length, replicate, Option, Some, None, refl, sym, ap, subst, ◌∙◌, arith}
use Rattle.std.specs.Prelude.{◌↔◌, ⊤}
use Rattle.std.specs.List.{AllByRecursion, slice_get, fold}
use Rattle.cfi_unit.specs.declared.log.Log.{Log}
use Rattle.cfi_unit.specs.declared.log.Log.TheVariants.{Pick, Open, Cause}
use Rattle.cfi_unit.specs.declared.unit.Unit.{Unit as CodeUnit}
use Rattle.cfi_unit.specs.declared.unit.Unit.TheVariants as units
use Rattle.cfi_model.specs.Effect.{is_in_code, asks}
use Rattle.cfi_model.specs.Log.{policy_after}
use Rattle.cfi_model.specs.Running.{Keeps}
use Rattle.cfi_model.specs.Service.{Reply, reply_of}
use Rattle.cfi_model.specs.State.{State, register, displaced}
use Rattle.cfi_model.proofs.StartLemmas.{begins_on}
use Rattle.cfi_valid.specs.Growth.{IsLater}
use Rattle.cfi_valid.specs.Journal.{JournalState, members_of}
use Rattle.cfi_valid.specs.Loaded.{LoadedModule, placed_modules, Left}
use Rattle.cfi_valid.specs.Log.{NeverFall}
use Rattle.cfi_valid.specs.Replay.{singles, next_in, given_by, IsReplyOf, TakesPick, TakesAnswer, TakesFrom, IsReplayed, Replays}
use Rattle.cfi_valid.proofs.GrowthLemmas.{fills_stay}
use Rattle.cfi_valid.proofs.LiveLemmas.{live_stays}
use Rattle.cfi_valid.proofs.SpanLemmas.{fall_least}
use Rattle.cfi_graph.specs.Direct.{Allowed}

-- ---- the policies of a log

-- an entry names no policy above this one
abbrev pub IsLow : (most : ℕ) → Log → Type 0
IsLow most (Pick policy count) = policy ≤ most
IsLow most (Open number address policy) = policy ≤ most
IsLow most (Cause number cause) = ⊤

low_one : (most before : ℕ) (entry : Log) → policy_after before entry ≤ most → IsLow most entry
low_one most before (Pick policy count) low = low
low_one most before (Open number address policy) low = low
low_one most before (Cause number cause) low = tt

pub low_all : (most before : ℕ) (log : List Log) → NeverFall before log → fold policy_after before log ≤ most
    → AllByRecursion (IsLow most) log
low_all most before [] never low = tt
low_all most before (entry ∷ log) never low =
    let rest = fall_least (policy_after before entry) log never.1 in
    (low_one most before entry (omega (arith, rest, low)), low_all most (policy_after before entry) log never.1 low)

low_copies : (most count policy : ℕ) → policy ≤ most → (later : List Log) → AllByRecursion (IsLow most) later
    → AllByRecursion (IsLow most) (replicate count (Pick policy 1) ++ later)
low_copies most zero policy low later all = all
low_copies most (suc count) policy low later all = (low, low_copies most count policy low later all)

low_singles : (most : ℕ) (log : List Log) → AllByRecursion (IsLow most) log → AllByRecursion (IsLow most) (singles log)
low_singles most [] all = tt
low_singles most (Pick policy count ∷ log) all =
    low_copies most count policy all.0 (singles log) (low_singles most log all.1)
low_singles most (Open number address policy ∷ log) all = (all.0, low_singles most log all.1)
low_singles most (Cause number cause ∷ log) all = (tt, low_singles most log all.1)

low_at : (most : ℕ) (log : List Log) (k : ℕ) (entry : Log) → AllByRecursion (IsLow most) log
    → slice_get log k ≡ Some entry → IsLow most entry
low_at most [] k entry all is = absurd (cc)
low_at most (first ∷ log) zero entry all is =
    let same : first ≡ entry = cc in
    subst (IsLow most) same all.0
low_at most (first ∷ log) (suc k) entry all is = low_at most log k entry all.1 is

-- ---- the replay

module _ (old new : JournalState) (later : IsLater old new) (code more : List ℕ) (keeps : Keeps code more)
    (log : List Log) (low : AllByRecursion (IsLow old.policy) log) where
  next_low : (s : State) (entry : Log) → next_in log s ≡ Some entry → IsLow old.policy entry
  next_low s entry is =
      low_at old.policy (singles log) (length (singles s.log)) entry (low_singles old.policy log low) is

  picks_stay : (s : State) (slot target pick : ℕ) (allowed inside : Bool)
      → TakesPick inside (members_of old) (next_in log s) slot target pick allowed
      → TakesPick inside (members_of new) (next_in log s) slot target pick allowed
  picks_stay s slot target pick allowed true picks =
      record {
        is = picks.is;
        exact = subst
            (λ (ls : List LoadedModule). (allowed ≡ true) ↔ Allowed (placed_modules ls) slot target)
            (sym (live_stays old new later pick (next_low s (Pick pick 1) picks.is))) picks.exact;
      }
  picks_stay s slot target pick allowed false picks = tt

  reply_stays : (s : State) (reply : Reply) (next : Option Log) → next_in log s ≡ next
      → IsReplyOf Left (members_of old) s next reply → IsReplyOf Left (members_of new) s next reply
  reply_stays s reply (Some (Open number address policy)) at told =
      told ∙ ap (reply_of address 0 policy)
      (sym (fills_stay old new later policy (next_low s (Open number address policy) at) Left (given_by s.log)))
  reply_stays s reply (Some (Cause number cause)) at told = told
  reply_stays s reply (Some (Pick policy count)) at told = absurd told
  reply_stays s reply None at told = absurd told

  answers_stay : (s : State) (reply : Reply) (asking : Bool)
      → TakesAnswer Left asking (members_of old) s (next_in log s) reply
      → TakesAnswer Left asking (members_of new) s (next_in log s) reply
  answers_stay s reply true told = reply_stays s reply (next_in log s) refl told
  answers_stay s reply false told = told

  takes_stay : (unit : CodeUnit) (s : State) (pick : ℕ) (allowed : Bool) (reply : Reply)
      → TakesFrom Left (members_of old) (next_in log s) unit s pick allowed reply
      → TakesFrom Left (members_of new) (next_in log s) unit s pick allowed reply
  takes_stay (units.Plain insn) s pick allowed reply takes = tt
  takes_stay (units.Load kind rd rs1 imm) s pick allowed reply takes = tt
  takes_stay (units.Store kind rs1 rs2 imm) s pick allowed reply takes = tt
  takes_stay (units.Branch cond rs1 rs2 off) s pick allowed reply takes = tt
  takes_stay (units.Jump link off) s pick allowed reply takes = tt
  takes_stay (units.Check link rs1 imm slot) s pick allowed reply takes =
      let target = displaced (register s rs1) imm in
      picks_stay s slot target pick allowed (is_in_code target) takes
  takes_stay units.Service s pick allowed reply takes = answers_stay s reply (asks s) takes

  unit_stays : (one next : State) → IsReplayed Left code (members_of old) log one next
      → IsReplayed Left more (members_of new) log one next
  unit_stays one next p = record {
    going = p.going;
    unit = p.unit;
    stands = record {
      aligned = p.stands.aligned;
      begins = begins_on code more _ p.unit p.stands.begins keeps.same keeps.kept;
    };
    pick = p.pick;
    allowed = p.allowed;
    reply = p.reply;
    takes = takes_stay p.unit one p.pick p.allowed p.reply p.takes;
    is = p.is;
  }

  pub replay_stays : (count : ℕ) (start end : State) → Replays Left code (members_of old) log count start end
      → Replays Left more (members_of new) log count start end
  replay_stays zero start end p = p
  replay_stays (suc count) start end p = (p.0, replay_stays count start p.0 p.1, unit_stays p.0 end p.2)
