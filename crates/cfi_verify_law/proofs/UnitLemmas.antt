-- Words are read as units up to their end, or reading stops before it; a word is an instruction, or it is none.
use Rattle.std.proofs.Common.{◌≡◌, ◌⊎◌, ℕ, zero, suc, ◌+◌, ◌%◌, ◌/◌, ◌^◌, ◌<◌, ◌≤◌, ℤ, pos, negsuc, List, [], length, take, drop, Option, Some, None, refl, subst, ⊎_elim, inl, inr, arith}
use Rattle.std.specs.List.{slice_index}
use Rattle.std.proofs.lemmas.Bool.{cases_lt}
use Rattle.rv_insn.specs.declared.insn.Insn.{Insn}
use Rattle.rv_insn.specs.declared.insn.Insn.TheVariants as insns
use Rattle.rv_insn.specs.Rows.{imm_funct7}
use Rattle.rv_insn.specs.Word.{IsSigned, IsEven}
use Rattle.rv_insn.specs.Insn.{IsReg, InRange, IsShift, IsImmOf, IsWord, word_of}
use Rattle.rv_insn.specs.InsnOf.{insn_of}
use Rattle.rv_insn.proofs.InsnOfLemmas.{insn_of-IsWord}
use Rattle.cfi_unit.specs.declared.unit.Unit.{Unit as CodeUnit}
use Rattle.cfi_unit.specs.declared.unit.Unit.TheVariants as units
use Rattle.cfi_unit.specs.declared.unit.TheConstants.{FREE_REGISTERS}
use Rattle.cfi_word.specs.declared.sizes.TheConstants.{SLOTS}
use Rattle.cfi_unit.specs.Unit.{IsFree, IsPlain, IsUnit, words_of, size_of}
use Rattle.cfi_unit.specs.Code.{BeginsAt}
use Rattle.cfi_unit.specs.declared.spot.Spot.{Spot}
use Rattle.cfi_unit.specs.Spots.{AreSpots, StopsAt, IsInsnAt}
use Rattle.cfi_unit.proofs.UnitLemmas.{unit_at, size_pos}
use Rattle.cfi_unit.proofs.CodeLemmas.{BeginsAt-unit_at}
use Rattle.cfi_unit.proofs.ReadLemmas.{IsReadTo, read_none, read_more, read_all, read_stops}
use Rattle.cfi_verify_law.proofs.DecideLemmas.{Decided, by, both, three, four, less, equal, equal_lists}

-- ---- what has a spelling

signed : (half : ℕ) (z : ℤ) → Decided (IsSigned half z)
signed half (pos n) = less n half
signed half (negsuc n) = less n half

even : (z : ℤ) → Decided (IsEven z)
even (pos n) = equal (n % 2) 0
even (negsuc n) = equal (n % 2) 1

shift : (z : ℤ) → Decided (IsShift z)
shift (pos n) = less n 32
shift (negsuc n) = inr (λ none. none)

immediate : (funct7 : Option ℕ) (z : ℤ) → Decided (IsImmOf funct7 z)
immediate None z = signed (2 ^ 11) z
immediate (Some funct7) z = shift z

free : (r : ℕ) → Decided (IsFree r)
free r = less r FREE_REGISTERS

plain : (insn : Insn) → Decided (IsPlain insn)
plain (insns.Lui rd imm) = both (free rd) (less imm (2 ^ 20))
plain (insns.Auipc rd imm) = both (free rd) (less imm (2 ^ 20))
plain (insns.OpImm op rd rs1 imm) = three (free rd) (free rs1) (immediate (imm_funct7 op) imm)
plain (insns.Op op rd rs1 rs2) = three (free rd) (free rs1) (free rs2)
plain (insns.Fence fields) =
    three (equal (fields % 2 ^ 7) 0) (equal (fields / 2 ^ 12 % 8) 0) (less fields (2 ^ 32))
plain insn = inr (λ none. none)

is_unit : (unit : CodeUnit) → Decided (IsUnit unit)
is_unit (units.Plain insn) = plain insn
is_unit (units.Load kind rd rs1 imm) = three (free rd) (free rs1) (signed (2 ^ 11) imm)
is_unit (units.Store kind rs1 rs2 imm) = three (free rs1) (free rs2) (signed (2 ^ 11) imm)
is_unit (units.Branch cond rs1 rs2 off) =
    four (free rs1) (free rs2) (signed (2 ^ 12) off) (even off)
is_unit (units.Jump link off) = both (signed (2 ^ 20) off) (even off)
is_unit (units.Check link rs1 imm slot) = three (free rs1) (signed (2 ^ 11) imm) (less slot SLOTS)
is_unit units.Service = inl tt

-- ---- the unit that begins at a word

begins : (words : List ℕ) (at : ℕ) (unit : CodeUnit) → Decided (BeginsAt words at unit)
begins words at unit =
    by
    (λ (parts : IsUnit unit × (take (size_of unit) (drop at words) ≡ words_of unit)).
    record { fits = parts.0; spelled = parts.1 })
    (λ (spells : BeginsAt words at unit). (spells.fits, spells.spelled))
    (both (is_unit unit) (equal_lists (take (size_of unit) (drop at words)) (words_of unit)))

pub begins_some : (words : List ℕ) (at : ℕ) (found : Option CodeUnit) → unit_at (drop at words) ≡ found →
    Decided ((unit : CodeUnit) × BeginsAt words at unit)
begins_some words at None none =
    inr
    (λ (some : (unit : CodeUnit) × BeginsAt words at unit).
    let is = BeginsAt-unit_at words at some.0 some.1 in
    absurd (cc))
begins_some words at (Some unit) found =
    by (λ (here : BeginsAt words at unit). (unit, here))
    (λ (some : (unit : CodeUnit) × BeginsAt words at unit).
    let is = BeginsAt-unit_at words at some.0 some.1 in
    let same : some.0 ≡ unit = cc in
    subst (BeginsAt words at) same some.1)
    (begins words at unit)

-- ---- reading on

-- the words are units, or reading stops at one of them
abbrev pub IsRead : List ℕ → Type 0
IsRead words = ((spots : List Spot) × AreSpots words spots) ⊎ ((at : ℕ) × StopsAt words at)

read_on : (words : List ℕ) (left at : ℕ) (spots : List Spot) → IsReadTo words at spots → length words ≤ at + left →
    IsRead words
read_on words zero at spots read enough = inl (spots, read_all words at spots read (omega (arith, enough)))
read_on words (suc left) at spots read enough =
    ⊎_elim
    (λ (inside : at < length words).
    ⊎_elim
    (λ (next : (unit : CodeUnit) × BeginsAt words at unit).
    read_on words left (at + size_of next.0) _ (read_more words at spots next.0 read next.1)
    (omega (arith, enough, size_pos next.0)))
    (λ (no : ¬ ((unit : CodeUnit) × BeginsAt words at unit)).
    inr (at, (read_stops words at spots read inside (λ unit here. no (unit, here))).0))
    (begins_some words at (unit_at (drop at words)) refl))
    (λ (done : length words ≤ at). inl (spots, read_all words at spots read done))
    (cases_lt at (length words))

pub read_units : (words : List ℕ) → IsRead words
read_units words = read_on words (length words) 0 [] (read_none words) (omega arith)

-- ---- instructions

register : (r : ℕ) → Decided (IsReg r)
register r = less r 32

in_range : (insn : Insn) → Decided (InRange insn)
in_range (insns.Lui rd imm) = both (register rd) (less imm (2 ^ 20))
in_range (insns.Auipc rd imm) = both (register rd) (less imm (2 ^ 20))
in_range (insns.Jal rd off) = three (register rd) (signed (2 ^ 20) off) (even off)
in_range (insns.Jalr rd rs1 imm) = three (register rd) (register rs1) (signed (2 ^ 11) imm)
in_range (insns.Branch cond rs1 rs2 off) = four (register rs1) (register rs2) (signed (2 ^ 12) off) (even off)
in_range (insns.Load kind rd rs1 imm) = three (register rd) (register rs1) (signed (2 ^ 11) imm)
in_range (insns.Store kind rs1 rs2 imm) = three (register rs1) (register rs2) (signed (2 ^ 11) imm)
in_range (insns.OpImm op rd rs1 imm) = three (register rd) (register rs1) (immediate (imm_funct7 op) imm)
in_range (insns.Op op rd rs1 rs2) = three (register rd) (register rs1) (register rs2)
in_range (insns.Fence fields) =
    three (equal (fields % 2 ^ 7) 0) (equal (fields / 2 ^ 12 % 8) 0) (less fields (2 ^ 32))
in_range insns.Ecall = inl tt
in_range insns.Ebreak = inl tt

insn_some : (word : ℕ) (found : Option Insn) → insn_of word ≡ found → Decided ((insn : Insn) × IsWord insn word)
insn_some word None none =
    inr
    (λ (some : (insn : Insn) × IsWord insn word).
    let is = insn_of-IsWord some.0 word some.1 in
    absurd (cc))
insn_some word (Some insn) found =
    by (λ (p : InRange insn × (word ≡ word_of insn)). (insn, record { range = p.0; spelled = p.1 }))
    (λ (some : (insn : Insn) × IsWord insn word).
    let is = insn_of-IsWord some.0 word some.1 in
    let same : some.0 ≡ insn = cc in
    let here : IsWord insn word = subst (λ (i : Insn). IsWord i word) same some.1 in
    (here.range, here.spelled))
    (both (in_range insn) (equal word (word_of insn)))

-- the word at a place is an instruction
pub is_insn : (words : List ℕ) (at : ℕ) → Decided (IsInsnAt words at)
is_insn words at = insn_some (slice_index words at) (insn_of (slice_index words at)) refl
