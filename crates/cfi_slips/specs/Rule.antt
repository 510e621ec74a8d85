-- The rule of slips and their stubs, at every moment: a slip that is out says what was told in its guest's name, and no
-- other of its guest is out.
use Rattle.std.specs.Prelude.{◌≡◌, ◌≢◌, ℕ, true, List, Option, Some, None, ⊤}
use mathlib.Core.Option.{some}
use lib.ListN.{get_elem?}
use Rattle.cfi_slips.specs.Lines.{lines_of}
use Rattle.cfi_slips.specs.Stubs.{is_out}
use Rattle.cfi_slips.specs.declared.view.SlipView.{SlipView}
use Rattle.cfi_slips.specs.declared.view.StubsView.{StubsView}
use Rattle.cfi_slips.specs.declared.view.View.{View}
use Rattle.cfi_slips.specs.declared.view.View.TheVariants.{Stubs, Slip}

-- a slip is out, and says what its stubs do
pub record AgreesWith (u : StubsView) (p : SlipView) : Type 0 where
  pub out : is_out u.out p.guest ≡ true
  pub says : p.lines ≡ lines_of p.guest u.told

-- what the stubs hold agrees with them, if they hold a slip
abbrev pub HeldFits : StubsView → Option SlipView → Type 0
HeldFits u None = ⊤
HeldFits u (Some p) = AgreesWith u p

-- the stubs hold no slip of the guest
abbrev pub IsElse : Option SlipView → (guest : ℕ) → Type 0
IsElse None guest = ⊤
IsElse (Some p) guest = p.guest ≢ guest

-- a slip that is out with a seat of its own
pub record IsOut (u : StubsView) (p : SlipView) : Type 0 where
  pub agrees : AgreesWith u p
  pub apart : IsElse u.held p.guest

-- the rule: the first view is that of the stubs, and each other one agrees with it
pub record KeepsSlips (views : List View) : Type 0 where
  pub stubs : StubsView
  pub first : get_elem? views 0 ≡ some (Stubs stubs)
  pub held : HeldFits stubs stubs.held
  pub slips : (seat : ℕ) (p : SlipView) → get_elem? views seat ≡ some (Slip p) → IsOut stubs p
  pub alone : (one other : ℕ) (p q : SlipView) → get_elem? views one ≡ some (Slip p)
      → get_elem? views other ≡ some (Slip q) → p.guest ≡ q.guest → one ≡ other
