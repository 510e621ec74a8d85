-- Units that a test tells to have a spelling, and what words that they spell are read as.
use Rattle.std.proofs.Common.{◌≡◌, ℕ, ◌+◌, ◌%◌, ◌^◌, ◌&&◌, ℤ, pos, negsuc, Bool, true, false, List, [], ◌∷◌, ◌++◌, length, take, Option, Some, None, refl, sym, ap, subst, ◌∙◌, append_assoc, length-append, arith}
use Rattle.std.specs.Prelude.{◌==◌, nat_lt, slice_get}
use Rattle.std.specs.List.{AllByRecursion, list_all, flat_map}
use Rattle.std.proofs.Math.Seq.{drop-append_seam, take-append_seam}
use Rattle.std.proofs.lemmas.Bool.{and_parts, ltb-true, eqb-true}
use Rattle.rv_insn.specs.declared.insn.Insn.{Insn}
use Rattle.rv_insn.specs.declared.insn.Insn.TheVariants as insns
use Rattle.rv_insn.specs.Insn.{IsImmOf}
use Rattle.rv_insn.specs.Rows.{imm_funct7}
use Rattle.rv_insn.specs.Word.{IsSigned, IsEven}
use Rattle.cfi_aux.specs.declared.placed.Placed.{Placed}
use Rattle.cfi_graph.specs.Code.{Stands}
use Rattle.cfi_place.specs.Slots.{ReadFrom}
use Rattle.cfi_unit.specs.declared.unit.TheConstants.{FREE_REGISTERS}
use Rattle.cfi_unit.specs.declared.unit.Unit.{Unit as CodeUnit}
use Rattle.cfi_unit.specs.declared.unit.Unit.TheVariants as units
use Rattle.cfi_unit.specs.Code.{BeginsAt}
use Rattle.cfi_unit.specs.Spots.{place_of}
use Rattle.cfi_unit.specs.Unit.{IsPlain, IsUnit, words_of, size_of}
use Rattle.cfi_unit.proofs.CodeLemmas.{length-words_of, BeginsAt-within}
use Rattle.cfi_unit.proofs.UnitLemmas.{size_pos}
use Rattle.cfi_word.specs.declared.sizes.TheConstants.{SLOTS}

-- ---- a test

abbrev is_free : ℕ → Bool
is_free r = nat_lt r FREE_REGISTERS

abbrev is_signed : (half : ℕ) → ℤ → Bool
is_signed half (pos n) = nat_lt n half
is_signed half (negsuc n) = nat_lt n half

abbrev is_imm : (funct7 : Option ℕ) → ℤ → Bool
is_imm None imm = is_signed (2 ^ 11) imm
is_imm (Some funct7) (pos n) = nat_lt n 32
is_imm (Some funct7) (negsuc n) = false

abbrev is_even : ℤ → Bool
is_even (pos n) = n % 2 == 0
is_even (negsuc n) = n % 2 == 1

-- of the instructions that the examples have
abbrev is_plain : Insn → Bool
is_plain (insns.Auipc rd imm) = is_free rd && nat_lt imm (2 ^ 20)
is_plain (insns.OpImm op rd rs1 imm) = is_free rd && (is_free rs1 && is_imm (imm_funct7 op) imm)
is_plain (insns.Op op rd rs1 rs2) = is_free rd && (is_free rs1 && is_free rs2)
is_plain insn = false

abbrev is_unit : CodeUnit → Bool
is_unit (units.Plain insn) = is_plain insn
is_unit (units.Load kind rd rs1 imm) = is_free rd && (is_free rs1 && is_signed (2 ^ 11) imm)
is_unit (units.Jump link off) = is_signed (2 ^ 20) off && is_even off
is_unit (units.Check link rs1 imm slot) = is_free rs1 && (is_signed (2 ^ 11) imm && nat_lt slot SLOTS)
is_unit units.Service = true
is_unit unit = false

abbrev pub are_units : List CodeUnit → Bool
are_units us = list_all is_unit us

-- ---- tells what has a spelling

all_three : (a b c : Bool) → (a && (b && c)) ≡ true → (a ≡ true) × (b ≡ true) × (c ≡ true)
all_three a b c all =
    let first = and_parts a (b && c) all in
    let later = and_parts b c first.1 in
    (first.0, later.0, later.1)

signed : (half : ℕ) (imm : ℤ) → is_signed half imm ≡ true → IsSigned half imm
signed half (pos n) is = ltb-true n half is
signed half (negsuc n) is = ltb-true n half is

imm_fits : (funct7 : Option ℕ) (imm : ℤ) → is_imm funct7 imm ≡ true → IsImmOf funct7 imm
imm_fits None imm is = signed (2 ^ 11) imm is
imm_fits (Some funct7) (pos n) is = ltb-true n 32 is
imm_fits (Some funct7) (negsuc n) is = absurd (cc)

even : (off : ℤ) → is_even off ≡ true → IsEven off
even (pos n) is = eqb-true (n % 2) 0 is
even (negsuc n) is = eqb-true (n % 2) 1 is

plain : (insn : Insn) → is_plain insn ≡ true → IsPlain insn
plain (insns.Auipc rd imm) is =
    let both = and_parts (is_free rd) (nat_lt imm (2 ^ 20)) is in
    (ltb-true rd FREE_REGISTERS both.0, ltb-true imm (2 ^ 20) both.1)
plain (insns.OpImm op rd rs1 imm) is =
    let all = all_three (is_free rd) (is_free rs1) (is_imm (imm_funct7 op) imm) is in
    (ltb-true rd FREE_REGISTERS all.0, ltb-true rs1 FREE_REGISTERS all.1, imm_fits (imm_funct7 op) imm all.2)
plain (insns.Op op rd rs1 rs2) is =
    let all = all_three (is_free rd) (is_free rs1) (is_free rs2) is in
    (ltb-true rd FREE_REGISTERS all.0, ltb-true rs1 FREE_REGISTERS all.1, ltb-true rs2 FREE_REGISTERS all.2)
plain insn is = absurd (cc)

fits : (u : CodeUnit) → is_unit u ≡ true → IsUnit u
fits (units.Plain insn) is = plain insn is
fits (units.Load kind rd rs1 imm) is =
    let all = all_three (is_free rd) (is_free rs1) (is_signed (2 ^ 11) imm) is in
    (ltb-true rd FREE_REGISTERS all.0, ltb-true rs1 FREE_REGISTERS all.1, signed (2 ^ 11) imm all.2)
fits (units.Jump link off) is =
    let both = and_parts (is_signed (2 ^ 20) off) (is_even off) is in
    (signed (2 ^ 20) off both.0, even off both.1)
fits (units.Check link rs1 imm slot) is =
    let all = all_three (is_free rs1) (is_signed (2 ^ 11) imm) (nat_lt slot SLOTS) is in
    (ltb-true rs1 FREE_REGISTERS all.0, signed (2 ^ 11) imm all.1, ltb-true slot SLOTS all.2)
fits units.Service is = tt
fits unit is = absurd (cc)

pub all_units : (us : List CodeUnit) → are_units us ≡ true → AllByRecursion IsUnit us
all_units [] all = tt
all_units (u ∷ us) all =
    let both = and_parts (is_unit u) (are_units us) all in
    (fits u both.0, all_units us both.1)

-- ---- what their words are read as

-- behind words, and before others, the first one begins
pub first_begins : (low rest : List ℕ) (v : CodeUnit) (us : List CodeUnit) → IsUnit v
    → BeginsAt (low ++ (flat_map words_of (v ∷ us) ++ rest)) (length low) v
first_begins low rest v us fit =
    let all = flat_map words_of us ++ rest in
    let apart : (words_of v ++ flat_map words_of us) ++ rest ≡ words_of v ++ all =
    append_assoc (words_of v) (flat_map words_of us) rest in
    record {
      fits = fit;
      spelled = ap (take (size_of v)) (drop-append_seam low (flat_map words_of (v ∷ us) ++ rest) ∙ apart)
          ∙ subst (λ (n : ℕ). take n (words_of v ++ all) ≡ words_of v) (length-words_of v)
          (take-append_seam (words_of v) all);
    }

-- and the others behind it
pub moved_on : (low rest : List ℕ) (v : CodeUnit) (us : List CodeUnit)
    → (low ++ words_of v) ++ (flat_map words_of us ++ rest) ≡ low ++ (flat_map words_of (v ∷ us) ++ rest)
moved_on low rest v us =
    append_assoc low (words_of v) (flat_map words_of us ++ rest)
    ∙ ap (λ (ws : List ℕ). low ++ ws) (sym (append_assoc (words_of v) (flat_map words_of us) rest))

pub front_on : (low : List ℕ) (v : CodeUnit) → length (low ++ words_of v) ≡ length low + size_of v
front_on low v = omega (arith, length-append low (words_of v), length-words_of v)

read_behind : (low : List ℕ) (us : List CodeUnit) → AllByRecursion IsUnit us
    → ReadFrom (low ++ (flat_map words_of us ++ [])) (length low) us
read_behind low [] fit =
    λ unit begins.
    omega (arith, BeginsAt-within (low ++ []) (length low) unit begins, size_pos unit, length-append low [])
read_behind low (v ∷ us) fit = (
  first_begins low [] v us fit.0,
  subst (λ (n : ℕ). ReadFrom (low ++ (flat_map words_of (v ∷ us) ++ [])) n us) (front_on low v)
      (subst (λ (ws : List ℕ). ReadFrom ws (length (low ++ words_of v)) us) (moved_on low [] v us)
      (read_behind (low ++ words_of v) us fit.1)),
)

-- `++ []` computes away where the units are known
pub read_as : (us : List CodeUnit) → are_units us ≡ true → ReadFrom (flat_map words_of us ++ []) 0 us
read_as us all = read_behind [] us (all_units us all)

-- ---- where they stand in a module

pub stands_in : (m : Placed) (us : List CodeUnit) → are_units us ≡ true → m.words ≡ flat_map words_of us
    → (number : ℕ) (u : CodeUnit) → slice_get us number ≡ Some u → Stands m (place_of us number) u
stands_in m us all spelled number u is = record {
  code = us;
  units = record { fit = all_units us all; spelled = spelled };
  number = number;
  is = is;
  place = refl;
}
