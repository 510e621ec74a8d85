use Rattle.std.proofs.Common.{rules, ◌≡◌, ℕ, sym, subst}
use Rattle.cfi_labels.specs.Cells.{AreCellsOf}
use Rattle.cfi_labels.specs.Labels.{AreLabelsOf}
use Rattle.cfi_ledger.specs.Roster.{loaded_in_roster, members_in_roster}
use Rattle.cfi_policy.specs.Code.{IsCodeOf}
use Rattle.cfi_valid.specs.Loaded.{placed_modules}
use Rattle.cfi_judge.specs.Reached.{state_of}
use Rattle.cfi_judge.proofs.RunLemmas.{few_policies}
use Rattle.cfi_judge.proofs.trial.Trial.replay.Goals as goal

pub policy_cells-requires-clause-order : goal.policy_cells-requires-clause-order
policy_cells-requires-clause-order c =
    let t = c.args.self.now in
    c.journals_load_in_order.ensures t.plan.now t.modules.now t.report.now (state_of t.end.now) c.requires.trial.can
    c.requires.trial.journal

-- the setting of the replays
pub replay_in-requires-clause-setting : goal.replay_in-requires-clause-setting
replay_in-requires-clause-setting c =
    let t = c.args.self.now in
    let loaded = loaded_in_roster t.end.now.roster in
    let come = c.journals_load_in_order.ensures t.plan.now t.modules.now t.report.now (state_of t.end.now)
    c.requires.trial.can c.requires.trial.journal in
    let size : c.unwrap-layout.result ≡ t.plan.now.code_words = search rules in
    record {
      roster = c.requires.trial.reached.kept.stands;
      order = come;
      few = few_policies t.plan.now t.modules.now t.report.now (state_of t.end.now) c.requires.trial.can
          c.requires.trial.journal;
      code = subst (IsCodeOf (placed_modules loaded) t.plan.now.code_words) (sym c.as_slice.ensures)
          (subst (λ (n : ℕ). IsCodeOf (placed_modules loaded) n c.in_ok-code.code) size c.in_ok-code.ensures);
      labels = subst (AreLabelsOf (members_in_roster t.end.now.roster) t.end.now.policy)
          (sym c.as_slice-2.ensures.value) c.in_ok-labels.ensures;
      cells = subst (AreCellsOf (members_in_roster t.end.now.roster) t.end.now.policy) (sym c.as_slice-3.ensures.value)
          c.in_ok-cells.ensures;
    }
