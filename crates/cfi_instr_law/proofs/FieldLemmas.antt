-- What a relocation makes of the first instruction of a unit: a unit of the same kind.
use Rattle.std.proofs.Common.{◌≡◌, ℕ, ◌%◌, ◌^◌, ◌<◌, ℤ, pos, negsuc, true, [], ◌∷◌, map, drop, Option, Some, None, Ok, Err, refl, ap, subst, ◌∙◌, inl, inr, arith}
use Rattle.std.specs.Option.{option_map, ok_or}
use Rattle.std.proofs.lemmas.Bool.{cases_Bool, cases_lt, lt-ltb, le-ltb, ltb-true, eqb-true, and_parts}
use Rattle.std.proofs.lemmas.Option.{none-some, same_Some}
use Rattle.rv_insn.specs.declared.insn.Insn.{Insn}
use Rattle.rv_insn.specs.declared.insn.Insn.TheVariants as insns
use Rattle.rv_insn.specs.declared.insn.ImmOp.TheVariants as ops
use Rattle.rv_insn.specs.Word.{IsSigned, IsEven}
use Rattle.rv_insn.specs.Insn.{InRange, word_of}
use Rattle.rv_insn.specs.InsnOf.{insn_of}
use Rattle.cfi_unit.specs.declared.unit.Unit.{Unit as CodeUnit}
use Rattle.cfi_unit.specs.declared.unit.Unit.TheVariants as units
use Rattle.cfi_unit.specs.Unit.{IsPlain, IsUnit, insns_of, words_of, link_register}
use Rattle.cfi_unit.proofs.SlotLemmas.{signed-range}
use Rattle.cfi_unit.proofs.InsnLemmas.{insn_of-word_of}
use Rattle.cfi_unit.proofs.UnitLemmas.{IsUnit-range, first_insn}
use Rattle.rv_reloc.specs.declared.fault.RelocFault.TheVariants as faults
use Rattle.rv_reloc.specs.declared.table.Form.{Form}
use Rattle.rv_reloc.specs.declared.table.Form.TheVariants as forms
use Rattle.rv_reloc.specs.Formula.{signed_of, is_reach}
use Rattle.rv_insn.specs.Fields.{is_signed, high_of, low_of}
use Rattle.rv_reloc.specs.Form.{fits, with_number}
use Rattle.rv_reloc.specs.Field.{changed, immediate}
use Rattle.cfi_instr_law.proofs.SeenLemmas.{seen}
use Rattle.cfi_instr_law.proofs.WordLemmas.{word-small}

-- ---- the numbers of fields are in their range

high-fits : (number : ℕ) → high_of number < 2 ^ 20
high-fits number = omega arith

low-fits : (number : ℕ) → IsSigned (2 ^ 11) (low_of number)
low-fits number = signed-range (2 ^ 11) (number % 2 ^ 12) (omega arith)

within-signed : (half : ℕ) (z : ℤ) → is_signed half z ≡ true → IsSigned half z
within-signed half (pos n) h = ltb-true n half h
within-signed half (negsuc n) h = ltb-true n half h

signed-even : (number : ℕ) → number % 2 ≡ 0 → number < 2 ^ 32 → IsEven (signed_of number)
signed-even number even small = elim (cases_lt number (2 ^ 31)) [
  | inl below ↦ rw (lt-ltb number (2 ^ 31) below) even
  | inr above ↦ rw (le-ltb number (2 ^ 31) above) (omega arith)
]

-- a displacement is a 32-bit number
abbrev pub IsBounded : Form → (number : ℕ) → Type 0
IsBounded forms.Branch number = number < 2 ^ 32
IsBounded forms.Jal number = number < 2 ^ 32
IsBounded form number = Unit {0}

reach-fits : (half number : ℕ) → is_reach half number ≡ true → number < 2 ^ 32
    → IsSigned half (signed_of number) × IsEven (signed_of number)
reach-fits half number h small =
    let parts = and_parts (is_signed half (signed_of number)) _ h in (
      within-signed half (signed_of number) parts.0,
      signed-even number (eqb-true (number % 2) 0 parts.1) small,
    )

-- ---- instructions with another number

no-insn : {P : Type 0} (insn : Insn) → None ≡ Some insn → P
no-insn insn e = absurd (none-some insn e)

-- a single instruction stays one
plain-turned : (form : Form) (number : ℕ) (was insn : Insn) → IsPlain was → with_number form number was ≡ Some insn
    → IsPlain insn
unfolding with_number
plain-turned forms.Lui number (insns.Lui rd imm) insn plain e =
    subst IsPlain (same_Some (insns.Lui rd (high_of number)) insn e) (plain.0, high-fits number)
plain-turned forms.Auipc number (insns.Auipc rd imm) insn plain e =
    subst IsPlain (same_Some (insns.Auipc rd (high_of number)) insn e) (plain.0, high-fits number)
plain-turned forms.LowI number (insns.OpImm ops.Addi rd rs1 imm) insn plain e =
    subst IsPlain (same_Some (insns.OpImm ops.Addi rd rs1 (low_of number)) insn e)
    (plain.0, plain.1, low-fits number)
plain-turned forms.LowI number (insns.Load kind rd rs1 imm) insn plain e = absurd plain
plain-turned forms.LowI number (insns.Jalr rd rs1 imm) insn plain e = absurd plain
plain-turned forms.LowS number (insns.Store kind rs1 rs2 imm) insn plain e = absurd plain
plain-turned forms.Branch number (insns.Branch cond rs1 rs2 off) insn plain e = absurd plain
plain-turned forms.Jal number (insns.Jal rd off) insn plain e = absurd plain
plain-turned forms.Jalr number (insns.Jalr rd rs1 imm) insn plain e = absurd plain
plain-turned form number was insn plain e = no-insn insn e

-- a service has no field
no-service : (form : Form) (number : ℕ) (insn : Insn) → with_number form number insns.Ecall ≡ Some insn → ⊥
unfolding with_number
no-service forms.Branch number insn e = none-some insn e
no-service forms.Jal number insn e = none-some insn e
no-service forms.Lui number insn e = none-some insn e
no-service forms.Auipc number insn e = none-some insn e
no-service forms.Jalr number insn e = none-some insn e
no-service forms.LowI number insn e = none-some insn e
no-service forms.LowS number insn e = none-some insn e

-- a unit whose first instruction is another
pub record IsTurned (unit : CodeUnit) (insn : Insn) : Type 0 where
  pub next : CodeUnit
  pub fits : IsUnit next
  pub insns : insns_of next ≡ insn ∷ drop 1 (insns_of unit)
  pub looks : seen true next ≡ seen true unit

-- a unit that has several words, or is a jump, stays one of its kind
turned : (form : Form) (number : ℕ) (unit : CodeUnit) (insn : Insn) → IsUnit unit → IsBounded form number
    → fits form number ≡ true → with_number form number (first_insn unit) ≡ Some insn → IsTurned unit insn
unfolding with_number
turned form number (units.Plain was) insn is small reach e = record {
  next = units.Plain insn;
  fits = plain-turned form number was insn is e;
  insns = refl;
  looks = refl;
}
turned forms.LowI number (units.Load kind rd rs1 imm) insn is small reach e = record {
  next = units.Load kind rd rs1 (low_of number);
  fits = (is.0, is.1, low-fits number);
  insns = ap (λ (i : Insn). i ∷ drop 1 (insns_of (units.Load kind rd rs1 imm)))
      (same_Some (insns.OpImm ops.Addi 31 rs1 (low_of number)) insn e);
  looks = refl;
}
turned forms.LowI number (units.Store kind rs1 rs2 imm) insn is small reach e = record {
  next = units.Store kind rs1 rs2 (low_of number);
  fits = (is.0, is.1, low-fits number);
  insns = ap (λ (i : Insn). i ∷ drop 1 (insns_of (units.Store kind rs1 rs2 imm)))
      (same_Some (insns.OpImm ops.Addi 31 rs1 (low_of number)) insn e);
  looks = refl;
}
turned forms.LowI number (units.Check link rs1 imm slot) insn is small reach e = record {
  next = units.Check link rs1 (low_of number) slot;
  fits = (is.0, low-fits number, is.2);
  insns = ap (λ (i : Insn). i ∷ drop 1 (insns_of (units.Check link rs1 imm slot)))
      (same_Some (insns.OpImm ops.Addi 31 rs1 (low_of number)) insn e);
  looks = refl;
}
turned forms.Branch number (units.Branch cond rs1 rs2 off) insn is small reach e =
    let within = reach-fits (2 ^ 12) number reach small in record {
      next = units.Branch cond rs1 rs2 (signed_of number);
      fits = (is.0, is.1, within.0, within.1);
      insns = ap (λ (i : Insn). i ∷ []) (same_Some (insns.Branch cond rs1 rs2 (signed_of number)) insn e);
      looks = refl;
    }
turned forms.Jal number (units.Jump link off) insn is small reach e =
    let within = reach-fits (2 ^ 20) number reach small in record {
      next = units.Jump link (signed_of number);
      fits = (within.0, within.1);
      insns = ap (λ (i : Insn). i ∷ []) (same_Some (insns.Jal (link_register link) (signed_of number)) insn e);
      looks = refl;
    }
turned form number units.Service insn is small reach e = absurd (no-service form number insn e)
turned form number unit insn is small reach e = no-insn insn e

-- ---- words

pub head-word : (unit : CodeUnit) → words_of unit ≡ word_of (first_insn unit) ∷ map word_of (drop 1 (insns_of unit))
head-word (units.Plain insn) = refl
head-word (units.Load kind rd rs1 imm) = refl
head-word (units.Store kind rs1 rs2 imm) = refl
head-word (units.Branch cond rs1 rs2 off) = refl
head-word (units.Jump link off) = refl
head-word (units.Check link rs1 imm slot) = refl
head-word units.Service = refl

first-range : (unit : CodeUnit) → IsUnit unit → InRange (first_insn unit)
first-range (units.Plain insn) is = (IsUnit-range (units.Plain insn) is).0
first-range (units.Load kind rd rs1 imm) is = (IsUnit-range (units.Load kind rd rs1 imm) is).0
first-range (units.Store kind rs1 rs2 imm) is = (IsUnit-range (units.Store kind rs1 rs2 imm) is).0
first-range (units.Branch cond rs1 rs2 off) is = (IsUnit-range (units.Branch cond rs1 rs2 off) is).0
first-range (units.Jump link off) is = (IsUnit-range (units.Jump link off) is).0
first-range (units.Check link rs1 imm slot) is = (IsUnit-range (units.Check link rs1 imm slot) is).0
first-range units.Service is = tt

pub first-small : (unit : CodeUnit) → IsUnit unit → word_of (first_insn unit) < 2 ^ 32
first-small unit is = word-small (first_insn unit) (first-range unit is)

ok-from : (found : Option Insn) (new : ℕ) → ok_or (option_map word_of found) faults.Field ≡ Ok new
    → (insn : Insn) × (found ≡ Some insn) × (word_of insn ≡ new)
ok-from None new e = absurd (cc)
ok-from (Some insn) new e = (insn, refl, (cc))

-- a unit whose first word is another
pub record IsRefit (unit : CodeUnit) (new : ℕ) : Type 0 where
  pub next : CodeUnit
  pub fits : IsUnit next
  pub words : words_of next ≡ new ∷ map word_of (drop 1 (insns_of unit))
  pub looks : seen true next ≡ seen true unit

pub refit : (form : Form) (number new : ℕ) (unit : CodeUnit) → IsUnit unit → IsBounded form number
    → immediate form number (word_of (first_insn unit)) ≡ Ok new → IsRefit unit new
refit form number new unit is small e =
    let read : insn_of (word_of (first_insn unit)) ≡ Some (first_insn unit) =
    insn_of-word_of (first_insn unit) (first-range unit is) in
    elim (cases_Bool (fits form number)) [
      | inl reach ↦
          let made : changed form number (Some (first_insn unit)) ≡ Ok new = rw (reach, read) at e in
          let found = ok-from (with_number form number (first_insn unit)) new made in
          let t = turned form number unit found.0 is small reach found.1 in
          record {
            next = t.next;
            fits = t.fits;
            words = ap (map word_of) t.insns ∙ ap (λ (w : ℕ). w ∷ map word_of (drop 1 (insns_of unit))) found.2;
            looks = t.looks;
          }
      | inr far ↦ let none : Err faults.Range ≡ Ok new = rw far at e in absurd (cc)
    ]
