-- A machine at its start follows the log, and each unit counts one.
use Rattle.std.proofs.Common.{◌≡◌, ℕ, ◌+◌, ◌≤◌, Bool, List, length, drop, refl, sym, ap, subst, ◌∙◌, arith}
use Rattle.std.specs.List.{fold}
use Rattle.cfi_model.specs.Effect.{effect}
use Rattle.cfi_model.specs.Log.{last_picks, last_policy, policy_after}
use Rattle.cfi_model.specs.Plain.{PlainState}
use Rattle.cfi_model.specs.Service.{Reply}
use Rattle.cfi_model.specs.State.{State}
use Rattle.cfi_unit.specs.declared.log.Log.{Log}
use Rattle.cfi_unit.specs.declared.unit.Unit.{Unit as CodeUnit}
use Rattle.cfi_unit.specs.declared.unit.Unit.TheVariants as units
use Rattle.cfi_valid.specs.Loaded.{Members, Filled}
use Rattle.cfi_valid.specs.Log.{NeverFall}
use Rattle.cfi_valid.specs.Replay.{IsReplayed, given_by, singles}
use Rattle.cfi_replay.specs.Setting.{CanReplay}
use Rattle.cfi_replay.specs.declared.cursor.Cursor.{Cursor}
use Rattle.cfi_replay.specs.declared.setting.Setting.{Setting}
use Rattle.cfi_replay.specs.inner.Cursor.{IsOpened, IsSettled}
use Rattle.cfi_replay.specs.inner.Follows.{Follows, IsStart}
use Rattle.cfi_replay.proofs.RestLemmas.{unvoid_rises, unvoid_settled, unvoid_singles}

pub starts_follow : (s : Setting) (log : List Log) (cursor : Cursor) (m : PlainState) → CanReplay s log → IsStart m
    → IsOpened log cursor → Follows s log cursor m
starts_follow s log cursor m can start opened =
    let used : cursor.used ≡ 0 = ap (λ (x : Cursor). x.used) opened.is in
    let policy : cursor.policy ≡ 0 = ap (λ (x : Cursor). x.policy) opened.is in
    let given : cursor.given ≡ 0 = ap (λ (x : Cursor). x.given) opened.is in
    let entries : cursor.entries ≡ 0 = ap (λ (x : Cursor). x.entries) opened.is in
    let picks : cursor.picks ≡ 0 = ap (λ (x : Cursor). x.picks) opened.is in
    let still = unvoid_rises 0 log can.rises in
    record {
      idle = start.idle;
      at = record {
        within = opened.within;
        rest = ap (λ (l : List Log). drop (length (singles l)) (singles log)) start.unlogged
            ∙ sym (unvoid_singles log) ∙ ap singles (sym opened.rest)
            ∙ ap (λ (k : ℕ). drop k (singles (drop cursor.at log))) (sym used);
        settled = subst (λ (k : ℕ). IsSettled k (drop cursor.at log)) (sym used)
            (subst (IsSettled 0) (sym opened.rest) (unvoid_settled log));
        policy_is = policy ∙ sym (ap last_policy start.unlogged);
        given_is = given ∙ sym (ap given_by start.unlogged);
        mark = record {
          entries = entries ∙ sym (ap (λ (l : List Log). length l) start.unlogged);
          picks = picks ∙ sym (ap last_picks start.unlogged);
        };
      };
      rises = record {
        rises = subst (λ (p : ℕ). NeverFall p (drop cursor.at log)) (sym policy)
            (subst (NeverFall 0) (sym opened.rest) still.falls);
        most = subst (λ (p : ℕ). fold policy_after p (drop cursor.at log) ≤ s.force) (sym policy)
            (subst (λ (xs : List Log). fold policy_after 0 xs ≤ s.force) (sym opened.rest)
            (omega (arith, still.most, can.most)));
        given = omega (arith, policy, given);
      };
    }

effect_counts : (unit : CodeUnit) (pick : ℕ) (allowed : Bool) (reply : Reply) (s : State)
    → (effect unit pick (λ slot target. allowed) reply s).units ≡ s.units + 1
effect_counts (units.Plain insn) pick allowed reply s = refl
effect_counts (units.Load kind rd rs1 imm) pick allowed reply s = refl
effect_counts (units.Store kind rs1 rs2 imm) pick allowed reply s = refl
effect_counts (units.Branch cond rs1 rs2 off) pick allowed reply s = refl
effect_counts (units.Jump link off) pick allowed reply s = refl
effect_counts (units.Check link rs1 imm slot) pick allowed reply s = refl
effect_counts units.Service pick allowed reply s = refl

pub unit_counts : (code : List ℕ) (members : Members) (log : List Log) (old new : State)
    → IsReplayed Filled code members log old new → new.units ≡ old.units + 1
unit_counts code members log old new r =
    ap (λ (s : State). s.units) r.is ∙ effect_counts r.unit r.pick r.allowed r.reply old
