use Rattle.std.proofs.Common.{ℕ, ◌<◌, ◌≤◌, length, ap, sym, subst, ◌∙◌}
use Rattle.cfi_plan.specs.declared.plan.Plan.{Plan}
use Rattle.cfi_slips.specs.Stubs.{issued}
use Rattle.cfi_word.specs.declared.limits.TheConstants.{GUESTS}
use Rattle.cfi_loader.specs.Ledger.{Ledger}
use Rattle.cfi_loader.specs.Passes.{out_of}
use Rattle.cfi_loader.proofs.AdmitLemmas.{admission_kept, free_below, not_all_out}
use Rattle.cfi_loader.proofs.loader.Loader.admit.Goals as goal

-- the guest's slip has gone out with its pass
pub invariant_of-self-2 : goal.invariant_of-self-2
invariant_of-self-2 g c =
    let n = length g.N.LoaderName.plan.guests in
    let few = subst (λ (l : Ledger). out_of l < n) (sym c.self.view_is) c.requires in
    admission_kept g.N.TableName.key g.N.LoaderName.plan g.N.LoaderName.modules c.self.inside.books
    c.self.inside.keeper c.admit.new.self c.in_ok-pass.pass.guest c.self.inside.stubs c.issue-slip.new.self
    c.self.invariant few c.in_ok-pass.ensures.free c.in_ok-pass.ensures.out
    (c.issue-slip.ensures.out ∙ ap (λ (n : ℕ). issued n c.self.inside.stubs) c.guest.ensures)

pub returns-clause-guest : goal.returns-clause-guest
returns-clause-guest g c =
    let n = length g.N.LoaderName.plan.guests in
    let few = subst (λ (l : Ledger). out_of l < n) (sym c.self.view_is) c.requires in
    free_below c.self.inside.keeper.out c.in_ok-pass.pass.guest n c.in_ok-pass.ensures.free few

pub returns-in_err-pass-clause-never : goal.returns-in_err-pass-clause-never
returns-in_err-pass-clause-never g c =
    let n = length g.N.LoaderName.plan.guests in
    let few = subst (λ (l : Ledger). out_of l < n) (sym c.self.view_is) c.requires in
    let most = subst (λ (p : Plan). length p.guests ≤ GUESTS) c.self.invariant.plan_is
    c.self.invariant.kept.ledger.can_start.most_guests in
    absurd (not_all_out c.self.inside.keeper.out n few most c.in_err-pass.ensures.fault)
