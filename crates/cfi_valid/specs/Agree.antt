-- What two reports agree in.
use Rattle.std.specs.Prelude.{◌≡◌, ◌≢◌, ℕ, slice_get, Some}
use Rattle.cfi_report.specs.declared.report.GuestPart.{GuestPart}
use Rattle.cfi_report.specs.declared.report.Report.{Report}
use Rattle.cfi_unit.specs.declared.log.Stop.TheVariants.{Fuel}

-- a guest has come to one end in both
pub record HasSameEnd (a b : GuestPart) : Type 0 where
  pub units : a.units ≡ b.units
  pub out : a.out ≡ b.out
  pub stop : a.stop ≡ b.stop

-- a guest that logged the same has come to one end, if it ran as many units, or was stopped by no fuel
pub record EndsAlike (a b : GuestPart) : Type 0 where
  pub counted : a.units ≡ b.units → HasSameEnd a b
  pub alone : a.stop ≢ Some Fuel → b.stop ≢ Some Fuel → HasSameEnd a b

-- the force and the modules are the same, and each guest that logged the same ends alike
pub record AgreeIn (a b : Report) : Type 0 where
  pub epoch : a.epoch ≡ b.epoch
  pub policy : a.policy ≡ b.policy
  pub lines : a.modules ≡ b.modules
  pub guests : (number : ℕ) (g h : GuestPart) → slice_get a.guests number ≡ Some g → slice_get b.guests number ≡ Some h
      → g.log ≡ h.log → EndsAlike g h
