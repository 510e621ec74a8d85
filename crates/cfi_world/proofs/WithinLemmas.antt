-- A guest within a check: at which of its places, and what it waits for.
use Rattle.std.proofs.Common.{◌≡◌, ℕ, ℤ, ◌+◌, ◌*◌, ◌/◌, ◌<◌, Bool, List, Some, None, inl, inr, refl, sym, ap, ◌∙◌, subst, arith}
use Rattle.std.proofs.lemmas.Option.{none-some}
use Rattle.cfi_unit.proofs.CodeLemmas.{BeginsAt-one}
use Rattle.cfi_unit.specs.declared.unit.Unit.{Unit as CodeUnit}
use Rattle.cfi_unit.specs.declared.unit.Unit.TheVariants as units
use Rattle.cfi_word.specs.Table.{slots_of}
use Rattle.cfi_model.specs.declared.act.Wait.{Wait}
use Rattle.cfi_model.specs.declared.act.Wait.TheVariants as waits
use Rattle.cfi_model.specs.History.{History}
use Rattle.cfi_model.specs.Raw.{Raw}
use Rattle.cfi_model.specs.Shows.{MayWait, Stands}
use Rattle.cfi_model.specs.State.{State}
use Rattle.cfi_model.proofs.AdvanceLemmas.{Running}
use Rattle.cfi_model.proofs.CheckPlaces.{CheckPlace, Aimed, Split, Far, Trying, Pointed, AskedBary, FoundBary, Tabled, Added, AskedTary, FoundTary, Differed, Compared, Lowered, Refused, Allowed, Values, check_raw}
use Rattle.cfi_model.proofs.LawLemmas.{At, Begun}
use Rattle.cfi_model.proofs.MaskedLemmas as masked
use Rattle.cfi_world.proofs.ParkLemmas.{IsServing}

-- a guest that is within a check
pub record InCheck (h : History) (code : List ℕ) (p : State) (retries : ℕ) (r : Raw) : Type 0 where
  pub link : Bool
  pub rs1 : ℕ
  pub imm : ℤ
  pub slot : ℕ
  pub at : At h code p (units.Check link rs1 imm slot)
  pub begun : Begun h p (units.Check link rs1 imm slot) retries r

masked_idle : (p : State) (n address x28 x29 x30 : ℕ) (place : masked.MaskedPlace)
    → (masked.masked_raw p n address x28 x29 x30 place).waits ≡ None
masked_idle p n address x28 x29 x30 masked.Aimed = refl
masked_idle p n address x28 x29 x30 masked.Shifted = refl
masked_idle p n address x28 x29 x30 masked.Cut = refl
masked_idle p n address x28 x29 x30 masked.Based = refl
masked_idle p n address x28 x29 x30 masked.Merged = refl

module _ (h : History) (code : List ℕ) (p : State) (retries : ℕ) (r : Raw) where
  -- only a check waits for a table's word
  waits_in : (wait : Wait) → (IsServing (Some wait) → ⊥) → r.waits ≡ Some wait → (unit : CodeUnit) → At h code p unit
      → Begun h p unit retries r → InCheck h code p retries r
  waits_in wait other is (units.Check link rs1 imm slot) at begun =
      record { link = link; rs1 = rs1; imm = imm; slot = slot; at = at; begun = begun }
  waits_in wait other is (units.Plain insn) at begun = absurd begun
  waits_in wait other is (units.Branch c rs1 rs2 off) at begun = absurd begun
  waits_in wait other is (units.Jump link off) at begun = absurd begun
  waits_in wait other is (units.Load kind rd rs1 imm) at begun =
      absurd (none-some wait (sym (ap (λ x. x.waits) begun.is
      ∙ masked_idle p retries _ begun.x28 begun.x29 begun.x30 begun.place) ∙ is))
  waits_in wait other is (units.Store kind rs1 rs2 imm) at begun =
      absurd (none-some wait (sym (ap (λ x. x.waits) begun.is
      ∙ masked_idle p retries _ begun.x28 begun.x29 begun.x30 begun.place) ∙ is))
  waits_in wait other is units.Service at begun =
      absurd (other (subst IsServing (sym (ap (λ x. x.waits) begun.is) ∙ is) tt))

  pub waits_in_check : (wait : Wait) → (IsServing (Some wait) → ⊥) → r.waits ≡ Some wait → Running h code p retries r
      → InCheck h code p retries r
  waits_in_check wait other is (inl rests) = absurd (none-some wait (sym rests.1.idle ∙ is))
  waits_in_check wait other is (inr within) = waits_in wait other is within.0 within.1 within.2

  -- a guest that is inside a unit stands in the check that stands at its start
  pub stands_in_check : (link : Bool) (rs1 : ℕ) (imm : ℤ) (slot : ℕ) → Stands code p.pc (units.Check link rs1 imm slot)
      → (unit : CodeUnit) → At h code p unit → Begun h p unit retries r
      → At h code p (units.Check link rs1 imm slot) × Begun h p (units.Check link rs1 imm slot) retries r
  stands_in_check link rs1 imm slot stands unit at begun =
      let same = BeginsAt-one code (p.pc / 4) unit (units.Check link rs1 imm slot) at.here.stands.begins
      stands.begins in
      subst (λ (u : CodeUnit). At h code p u × Begun h p u retries r) same (at, begun)

-- ---- the words at which a check's places are

abbrev pub word_of_place : CheckPlace → ℕ
word_of_place Aimed = 1
word_of_place Split = 2
word_of_place Far = 12
word_of_place Trying = 3
word_of_place Pointed = 4
word_of_place AskedBary = 5
word_of_place FoundBary = 5
word_of_place Tabled = 6
word_of_place Added = 7
word_of_place AskedTary = 8
word_of_place FoundTary = 8
word_of_place Differed = 9
word_of_place Compared = 10
word_of_place Lowered = 11
word_of_place Refused = 12
word_of_place Allowed = 13

pub place_pc : (p : State) (n slot target : ℕ) (v : Values) (place : CheckPlace)
    → (check_raw p n slot target v place).base.pc ≡ p.pc + 4 * word_of_place place
place_pc p n slot target v Aimed = refl
place_pc p n slot target v Split = refl
place_pc p n slot target v Far = refl
place_pc p n slot target v Trying = refl
place_pc p n slot target v Pointed = refl
place_pc p n slot target v AskedBary = refl
place_pc p n slot target v FoundBary = refl
place_pc p n slot target v Tabled = refl
place_pc p n slot target v Added = refl
place_pc p n slot target v AskedTary = refl
place_pc p n slot target v FoundTary = refl
place_pc p n slot target v Differed = refl
place_pc p n slot target v Compared = refl
place_pc p n slot target v Lowered = refl
place_pc p n slot target v Refused = refl
place_pc p n slot target v Allowed = refl

pub is_allowed : (place : CheckPlace) → word_of_place place ≡ 13 → place ≡ Allowed
is_allowed Allowed e = refl
is_allowed Aimed e = absurd (omega (arith, e))
is_allowed Split e = absurd (omega (arith, e))
is_allowed Far e = absurd (omega (arith, e))
is_allowed Trying e = absurd (omega (arith, e))
is_allowed Pointed e = absurd (omega (arith, e))
is_allowed AskedBary e = absurd (omega (arith, e))
is_allowed FoundBary e = absurd (omega (arith, e))
is_allowed Tabled e = absurd (omega (arith, e))
is_allowed Added e = absurd (omega (arith, e))
is_allowed AskedTary e = absurd (omega (arith, e))
is_allowed FoundTary e = absurd (omega (arith, e))
is_allowed Differed e = absurd (omega (arith, e))
is_allowed Compared e = absurd (omega (arith, e))
is_allowed Lowered e = absurd (omega (arith, e))
is_allowed Refused e = absurd (omega (arith, e))

pub is_lowered : (place : CheckPlace) → word_of_place place ≡ 11 → place ≡ Lowered
is_lowered Lowered e = refl
is_lowered Aimed e = absurd (omega (arith, e))
is_lowered Split e = absurd (omega (arith, e))
is_lowered Far e = absurd (omega (arith, e))
is_lowered Trying e = absurd (omega (arith, e))
is_lowered Pointed e = absurd (omega (arith, e))
is_lowered AskedBary e = absurd (omega (arith, e))
is_lowered FoundBary e = absurd (omega (arith, e))
is_lowered Tabled e = absurd (omega (arith, e))
is_lowered Added e = absurd (omega (arith, e))
is_lowered AskedTary e = absurd (omega (arith, e))
is_lowered FoundTary e = absurd (omega (arith, e))
is_lowered Differed e = absurd (omega (arith, e))
is_lowered Compared e = absurd (omega (arith, e))
is_lowered Refused e = absurd (omega (arith, e))
is_lowered Allowed e = absurd (omega (arith, e))

pub is_trying : (place : CheckPlace) → word_of_place place ≡ 3 → place ≡ Trying
is_trying Trying e = refl
is_trying Aimed e = absurd (omega (arith, e))
is_trying Split e = absurd (omega (arith, e))
is_trying Far e = absurd (omega (arith, e))
is_trying Pointed e = absurd (omega (arith, e))
is_trying AskedBary e = absurd (omega (arith, e))
is_trying FoundBary e = absurd (omega (arith, e))
is_trying Tabled e = absurd (omega (arith, e))
is_trying Added e = absurd (omega (arith, e))
is_trying AskedTary e = absurd (omega (arith, e))
is_trying FoundTary e = absurd (omega (arith, e))
is_trying Differed e = absurd (omega (arith, e))
is_trying Compared e = absurd (omega (arith, e))
is_trying Lowered e = absurd (omega (arith, e))
is_trying Refused e = absurd (omega (arith, e))
is_trying Allowed e = absurd (omega (arith, e))

-- where it waits for the target's word, it keeps the slot's
pub keeps_bary : (p : State) (n slot target at rd : ℕ) (v : Values) (place : CheckPlace)
    → (check_raw p n slot target v place).waits ≡ Some (waits.Tary at rd)
    → (check_raw p n slot target v place).bary ≡ Some v.bary
keeps_bary p n slot target at rd v AskedTary e = refl
keeps_bary p n slot target at rd v Aimed e = absurd (cc)
keeps_bary p n slot target at rd v Split e = absurd (cc)
keeps_bary p n slot target at rd v Far e = absurd (cc)
keeps_bary p n slot target at rd v Trying e = absurd (cc)
keeps_bary p n slot target at rd v Pointed e = absurd (cc)
keeps_bary p n slot target at rd v AskedBary e = absurd (cc)
keeps_bary p n slot target at rd v FoundBary e = absurd (cc)
keeps_bary p n slot target at rd v Tabled e = absurd (cc)
keeps_bary p n slot target at rd v Added e = absurd (cc)
keeps_bary p n slot target at rd v FoundTary e = absurd (cc)
keeps_bary p n slot target at rd v Differed e = absurd (cc)
keeps_bary p n slot target at rd v Compared e = absurd (cc)
keeps_bary p n slot target at rd v Lowered e = absurd (cc)
keeps_bary p n slot target at rd v Refused e = absurd (cc)
keeps_bary p n slot target at rd v Allowed e = absurd (cc)

-- a slot that is waited for is one of the table
pub slot_low : (code_words : ℕ) (unit : CodeUnit) (s : State) (slot rd : ℕ)
    → MayWait code_words unit s (Some (waits.Bary slot rd)) → slot < slots_of code_words
slot_low code_words (units.Check link rs1 imm other) s slot rd may =
    subst (λ k. k < slots_of code_words) (sym may.0) may.1
slot_low code_words (units.Plain insn) s slot rd may = absurd may
slot_low code_words (units.Load kind to rs1 imm) s slot rd may = absurd may
slot_low code_words (units.Store kind rs1 rs2 imm) s slot rd may = absurd may
slot_low code_words (units.Branch c rs1 rs2 off) s slot rd may = absurd may
slot_low code_words (units.Jump link off) s slot rd may = absurd may
slot_low code_words units.Service s slot rd may = absurd may
