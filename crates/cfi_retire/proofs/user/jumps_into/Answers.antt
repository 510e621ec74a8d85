use Rattle.std.proofs.Common.{◌∙◌, refl, sym, subst}
use Rattle.std.proofs.Math.Bool.{true≢false}
use Rattle.cfi_unit.specs.declared.unit.Unit.{Unit as CodeUnit}
use Rattle.cfi_unit.specs.Unit.{size_of}
use Rattle.cfi_unit.specs.Code.{BeginsAt}
use Rattle.cfi_retire.proofs.JumpLemmas.{Jumps, left_here, left_more, left_none, some_jumps, jumps_some}
use Rattle.cfi_retire.proofs.user.jumps_into.Goals as goal

-- a unit that jumps is one of the module's
pub returns-then-is_jump_into : goal.returns-then-is_jump_into
returns-then-is_jump_into c =
    let m = c.args.placed.now in
    let n = c.args.target.now in
    let code = c.requires.shaped.0 in
    let units = c.requires.shaped.1.units in
    let unit = c.in-Some.unit in
    let begins : BeginsAt m.words c.units.at unit =
    subst (λ ws. BeginsAt ws c.units.at unit) c.as_slice-words.ensures c.in-Some.ensures.some in
    let some = left_here (Jumps m n) m.words code c.units.at unit (c.units.invariant code units) begins
    (c.is_jump_into.ensures.0 c.if-is_jump_into.true) in
    (λ _. some_jumps m n code units some, λ _. refl)

-- this turn's unit does not
pub units-preserved : goal.units-preserved
units-preserved c = λ code units.
    let m = c.args.placed.now in
    let n = c.args.target.now in
    let unit = c.in-Some.unit in
    let begins : BeginsAt m.words c.units.at unit =
    subst (λ ws. BeginsAt ws c.units.at unit) c.as_slice-words.ensures c.in-Some.ensures.some in
    let none : ¬ Jumps m n c.units.at unit = λ jumps. true≢false (sym (c.is_jump_into.ensures.1 jumps) ∙ c.if-is_jump_into.false) in
    rw (c.in-Some.ensures.size)
    (left_more (Jumps m n) m.words code c.units.at unit (c.units.invariant code units) begins none)

-- all units were looked at
pub returns : goal.returns
returns c =
    let m = c.args.placed.now in
    let n = c.args.target.now in
    let code = c.requires.shaped.0 in
    let units = c.requires.shaped.1.units in
    let ends : (unit : CodeUnit) → BeginsAt m.words c.units.at unit → ⊥ = λ unit begins. c.in_default.not-Some (unit, size_of unit)
    (c.next_unit.ensures.only unit (subst (λ ws. BeginsAt ws c.units.at unit) (sym c.as_slice-words.ensures) begins)) in
    let none = left_none (Jumps m n) m.words code c.units.at (c.units.invariant code units) ends in
    (λ no_flag. absurd (true≢false (sym no_flag)), λ into. absurd (none (jumps_some m n code units into)))
