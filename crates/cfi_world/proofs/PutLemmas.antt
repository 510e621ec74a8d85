-- A guest on a check's last word, to which nothing led it, is not placed.
use Rattle.std.proofs.Common.{◌≡◌, ℕ, zero, suc, ◌+◌, ◌*◌, ◌/◌, ◌<◌, ◌≤◌, List, [], Option, None, ◌⊎◌, inl, inr, refl, sym, ap, ◌∙◌, subst, arith, true, pos}
use Rattle.std.proofs.lemmas.Option.{none-some}
use Rattle.rv_insn.specs.declared.insn.Insn.TheVariants.{Auipc, OpImm}
use Rattle.rv_insn.specs.declared.insn.ImmOp.TheVariants.{Addi}
use Rattle.cfi_unit.proofs.CodeLemmas.{BeginsAt-one}
use Rattle.cfi_unit.specs.Code.{BeginsAt}
use Rattle.cfi_unit.specs.declared.unit.Unit.{Unit as CodeUnit}
use Rattle.cfi_unit.specs.declared.unit.Unit.TheVariants as units
use Rattle.cfi_word.specs.Table.{IsSize}
use Rattle.cfi_word.specs.declared.limits.TheConstants.{MAX_VERSIONS, MIN_CODE_WORDS}
use Rattle.cfi_word.specs.declared.map.TheConstants.{FIRST_BASE}
use Rattle.cfi_model.specs.declared.act.Wait.{Wait}
use Rattle.cfi_model.specs.Closed.{IsStartIn, IsStartOf}
use Rattle.cfi_model.specs.History.{History, IsStart}
use Rattle.cfi_model.specs.InForce.{history_of, code_in_force}
use Rattle.cfi_model.specs.Raw.{Raw}
use Rattle.cfi_model.specs.Running.{IsSpent}
use Rattle.cfi_model.specs.Shows.{IsBetween, IsInside, IsPlaceIn, Stands}
use Rattle.cfi_model.specs.State.{State}
use Rattle.cfi_model.specs.Tables.{IsTables}
use Rattle.cfi_model.specs.World.{World}
use Rattle.cfi_model.proofs.ReadLemmas.{read_once}
use Rattle.cfi_model.proofs.TableLemmas.{opened_are}
use Rattle.cfi_world.specs.Checks.{IsPlaced}
use Rattle.cfi_world.specs.Counts.{HasRepeated}
use Rattle.cfi_world.specs.Retry.{NobodyIsPutThere, call_image, call_world, put_guest}
use Rattle.cfi_world.proofs.CallLemmas.{body, call_closed, call_read}
use Rattle.cfi_world.proofs.PassedLemmas.{last_words}

abbrev w : World
w = call_world MAX_VERSIONS

abbrev h : History
h = history_of w.tables

abbrev code : List ℕ
code = code_in_force w.tables

size : IsSize MIN_CODE_WORDS
size = record { multiple = refl; least = omega arith; most = omega arith }

tables_are : IsTables w.tables
tables_are =
    opened_are MIN_CODE_WORDS MAX_VERSIONS 0 call_image size (omega arith) (omega arith) (omega arith) call_closed

-- ---- the starts of the one image

starts_in : (address : ℕ) → IsStartIn call_image address → IsStartOf (body []) address
starts_in address start =
    let one = read_once call_image.code start.body (body []) start.idles 0 start.zeros 973 start.code call_read in
    subst (λ b. IsStartOf b address) one start.starts

starts_of : (address : ℕ) → IsStart h address → IsStartOf (body []) address
starts_of address start =
    let first : start.epoch ≡ 0 = (let most = start.known.most in omega (arith, most)) in
    starts_in address (subst (λ e. IsStartIn (h.image e) address) first start.starts)

-- ---- the units that begin at or before the check

first : BeginsAt code 16 (units.Plain (Auipc 5 0))
first = record { fits = (omega arith, omega arith); spelled = refl }

second : BeginsAt code 17 (units.Plain (OpImm Addi 5 5 (pos 84)))
second = record { fits = (omega arith, omega arith, omega arith); spelled = refl }

third : BeginsAt code 18 (units.Check true 5 (pos 0) 0)
third = record { fits = (omega arith, omega arith, omega arith); spelled = refl }

stands_third : Stands code 72 (units.Check true 5 (pos 0) 0)
stands_third = record { aligned = refl; begins = third }

-- no start is on the check's last word, and what begins before it does not reach there, but for the check
by_start : (address : ℕ) → IsStartOf (body []) address → (at : ℕ) → address + 4 * at ≡ 4 * (FIRST_BASE + 15)
    → ((address ≡ 64) × (at ≡ 15)) ⊎ (((address ≡ 68) × (at ≡ 14)) ⊎ ((address ≡ 72) × (at ≡ 13)))
by_start address (zero, within, start) at place = inl (start, omega (arith, start, place))
by_start address (suc zero, within, start) at place = inr (inl (start, omega (arith, start, place)))
by_start address (suc (suc zero), within, start) at place = inr (inr (start, omega (arith, start, place)))
by_start address (suc (suc (suc zero)), within, start) at place = absurd (omega (arith, start, place))
by_start address (suc (suc (suc (suc zero))), within, start) at place = absurd (omega (arith, start, place))
by_start address (suc (suc (suc (suc (suc zero)))), within, start) at place = absurd (omega (arith, start, place))
by_start address (suc (suc (suc (suc (suc (suc zero))))), within, start) at place =
    absurd (omega (arith, start, place))
by_start address (suc (suc (suc (suc (suc (suc (suc zero)))))), within, start) at place =
    absurd (omega (arith, start, place))
by_start address (suc (suc (suc (suc (suc (suc (suc (suc zero))))))), within, start) at place =
    absurd (omega (arith, start, place))
by_start address (suc (suc (suc (suc (suc (suc (suc (suc (suc n)))))))), within, start) at place =
    absurd (omega (arith, within))

module _ (placed : IsPlaced w put_guest) where
  abbrev s : State
  s = placed.s

  abbrev last : Raw
  last = placed.last

  -- it has not stopped
  never_spent : IsSpent last put_guest → ⊥
  never_spent spent = none-some _ (ap (λ r. r.base.stop) spent.is)

  is_last : put_guest ≡ last
  is_last = elim placed.is [
    | inl same ↦ same
    | inr spent ↦ absurd (never_spent spent)
  ]

  on_last : last.base.pc ≡ 4 * (FIRST_BASE + 15)
  on_last = sym (ap (λ r. r.base.pc) is_last)

  -- it is in the check, at its last word, and keeps no words
  in_check : s.pc ≡ 72 → s.stop ≡ None → ⊥
  in_check start going =
      let stands : Stands code s.pc (units.Check true 5 (pos 0) 0) =
      subst (λ pc. Stands code pc (units.Check true 5 (pos 0) 0)) (sym start) stands_third in
      let has = last_words w tables_are put_guest placed true 5 (pos 0) 0 stands going (omega (arith, start)) in
      none-some _ has.tried.bary

  -- a plain unit has no such word
  in_plain : (unit : CodeUnit) (k : ℕ) → BeginsAt code k unit → ((wait : Option Wait) (at few : ℕ)
      → IsPlaceIn unit wait at few → at < 1) → (inside : IsInside h code placed.retries s last) → s.pc ≡ 4 * k
      → 1 ≤ inside.at → ⊥
  in_plain unit k begins short inside at some =
      let place : s.pc / 4 ≡ k = omega (arith, at) in
      let same = BeginsAt-one code k inside.unit unit
      (subst (λ n. BeginsAt code n inside.unit) place inside.stands.begins) begins in
      let few = short last.waits inside.at inside.few
      (subst (λ (u : CodeUnit). IsPlaceIn u last.waits inside.at inside.few) same inside.place) in
      omega (arith, few, some)

  inside_not : (inside : IsInside h code placed.retries s last) → ⊥
  inside_not inside =
      let place : s.pc + 4 * inside.at ≡ 4 * (FIRST_BASE + 15) = sym (ap (λ b. b.pc) inside.base) ∙ on_last in
      elim (by_start s.pc (starts_of s.pc (placed.ready.start inside.going)) inside.at place) [
        | inl one ↦
            in_plain (units.Plain (Auipc 5 0)) 16 first (λ wait at few place. place.0) inside one.0
            (omega (arith, one.1))
        | inr more ↦ elim more [
          | inl two ↦
              in_plain (units.Plain (OpImm Addi 5 5 (pos 84))) 17 second (λ wait at few place. place.0) inside two.0
              (omega (arith, two.1))
          | inr check ↦ in_check check.0 inside.going
        ]
      ]

  between_not : IsBetween placed.retries s last → ⊥
  between_not between =
      let going : s.stop ≡ None = sym (ap (λ b. b.stop) between.base) ∙ sym (ap (λ r. r.base.stop) is_last) in
      let start : s.pc ≡ 4 * (FIRST_BASE + 15) = sym (between.fresh going).0 ∙ on_last in
      elim (by_start s.pc (starts_of s.pc (placed.ready.start going)) 0 (omega (arith, start))) [
        | inl one ↦ omega (arith, one.1)
        | inr more ↦ elim more [
          | inl two ↦ omega (arith, two.1)
          | inr check ↦ omega (arith, check.1)
        ]
      ]

  stands_not : HasRepeated h code placed.retries s last placed.tries → ⊥
  stands_not (inl rests) = between_not rests.0
  stands_not (inr tried) = inside_not tried.inside

pub not_put : NobodyIsPutThere
not_put placed = stands_not placed placed.stands
