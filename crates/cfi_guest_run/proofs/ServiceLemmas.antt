-- A runner after a whole service: its guest has parked, the service's work is done, and a quiescent point ends it.
use Rattle.std.proofs.Common.{◌≡◌, ◌≢◌, ℕ, Bool, List, sym, subst, ◌==◌, true, false, refl, ◌∙◌}
use Rattle.std.proofs.lemmas.Bool.{eqb-true}
use Rattle.cfi_aux.specs.declared.modules.Module.{Module}
use Rattle.cfi_model.specs.Raw.{Raw}
use Rattle.cfi_model.specs.Run.{serve_of}
use Rattle.cfi_model.specs.Service.{too_many}
use Rattle.cfi_plan.specs.declared.plan.Plan.{Plan}
use Rattle.cfi_tables.specs.Key.{Key}
use Rattle.cfi_tables.specs.Loads.{IsQuiet}
use Rattle.cfi_tables.specs.Views.{parked}
use Rattle.cfi_tables.specs.declared.view.PassView.{PassView}
use Rattle.cfi_word.specs.declared.services.TheConstants.{EXIT, OPEN}
use Rattle.cfi_guest_run.specs.Opens.{HasOpened, HasServedElse, HasServedOpen, Leaves}
use Rattle.cfi_guest_run.specs.Runner.{HasAsked, IsRunner, IsServed}
use Rattle.cfi_guest_run.specs.Serving.{HasServed, KeepsPass}
use Rattle.cfi_guest_run.proofs.KeepsLemmas.{keeps_parked, keeps_quiet, keeps_trans}
use Rattle.cfi_guest_run.proofs.OtherLemmas.{served_exit, served_idle, served_other}
use Rattle.cfi_guest_run.proofs.PointLemmas.{runner_point}

-- the pass goes on where its guest parks
pub parks : (p q : PassView) → q ≡ parked p → KeepsPass p q
parks p q park = subst (KeepsPass p) (sym park) (keeps_parked p)

module _ (k : Key) (plan : Plan) (modules : List Module) (p q : PassView) (r new : Raw) (number : ℕ)
    (was : IsRunner k plan modules p r) (asked : HasAsked k plan.fuel p r number) (park : q ≡ parked p) where
  -- ---- an open, which was answered

  module _ (mid last : PassView) (epoch : ℕ) (quiet : IsQuiet k epoch mid last) where
    pub opens : IsServed k plan modules mid new → HasServed r new → IsRunner k plan modules last new
    opens ended served =
        runner_point k plan modules mid last new ended.0 ended.1
        (served_idle k plan.fuel p r new number asked served) epoch quiet

    pub opened_so : HasOpened k plan modules q mid r new → HasServedOpen k plan modules p last r new
    opened_so opened = record {
      mid = mid;
      opened = subst (λ (v : PassView). HasOpened k plan modules v mid r new) park opened;
      epoch = epoch;
      quiet = quiet;
    }

    pub opened_on : KeepsPass q mid → KeepsPass p last
    opened_on keeps =
        keeps_trans p q last (parks p q park) (keeps_trans q mid last keeps (keeps_quiet k epoch mid last quiet))

  -- ---- a service that looks at no answer

  module _ (other : number ≢ OPEN) (is : new ≡ serve_of r too_many) (last : PassView)
      (left : Leaves (number == EXIT) k q last) where
    exits : number ≡ EXIT → last ≡ q → IsRunner k plan modules last new
    exits ends same =
        subst (λ (v : PassView). IsRunner k plan modules v new) (sym (same ∙ park))
        (served_exit k plan modules p r new number was asked other ends is)

    leaves : (epoch : ℕ) → IsQuiet k epoch q last → IsRunner k plan modules last new
    leaves epoch quiet =
        let ended = served_other k plan modules p r new number was asked other is in
        let served : HasServed r new = record { reply = too_many; is = is } in
        runner_point k plan modules (parked p) last new ended.0 ended.1
        (served_idle k plan.fuel p r new number asked served) epoch
        (subst (λ (v : PassView). IsQuiet k epoch v last) park quiet)

    pub left_runs : IsRunner k plan modules last new
    left_runs = by (number == EXIT) refl left
      where
        by : (ends : Bool) → (number == EXIT) ≡ ends → Leaves ends k q last → IsRunner k plan modules last new
        by true e same = exits (eqb-true number EXIT e) same
        by false e quiet = leaves quiet.0 quiet.1

    pub left_so : HasServedElse k number p last r new
    left_so = record { is = is; left = subst (λ (v : PassView). Leaves (number == EXIT) k v last) park left }

    pub left_on : KeepsPass p last
    left_on = by (number == EXIT) left
      where
        by : (ends : Bool) → Leaves ends k q last → KeepsPass p last
        by true same = subst (KeepsPass p) (sym same) (parks p q park)
        by false quiet = keeps_trans p q last (parks p q park) (keeps_quiet k quiet.0 q last quiet.1)
