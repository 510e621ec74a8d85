-- The three modules of the run with tables are placed so, and verify.
use Rattle.std.proofs.Common.{ℕ, pos, true, false, List, [], ◌∷◌, refl}
use Rattle.std.specs.Prelude.{flat_map}
use Rattle.rv_insn.specs.declared.insn.ImmOp.TheVariants.{Addi, Slli}
use Rattle.rv_insn.specs.declared.insn.Insn.TheVariants.{Auipc, OpImm, Op}
use Rattle.rv_insn.specs.declared.insn.LoadKind.TheVariants.{Lw}
use Rattle.rv_insn.specs.declared.insn.Op.TheVariants.{Add}
use Rattle.rv_insn.specs.InsnOf.{insn_of}
use Rattle.rv_reloc.specs.Bytes.{word_at, with_word}
use Rattle.rv_reloc.specs.Form.{with_number}
use Rattle.rv_reloc.specs.Table.{rule_of}
use Rattle.cfi_place.specs.Relocated.{areas_of, relocated_from}
use Rattle.cfi_modules.specs.Order.{IsPlacedBehind}
use Rattle.cfi_unit.specs.declared.unit.Unit.{Unit as CodeUnit}
use Rattle.cfi_unit.specs.declared.unit.Unit.TheVariants.{Plain, Load, Jump, Check, Service}
use Rattle.cfi_verify.specs.Fault.{IsVerified}
use Rattle.cfi_valid.specs.TableExample.{bytes_of_word, lib_module, main_module, plug_module}
use Rattle.cfi_valid.proofs.example.FitLemmas.{read_as}
use Rattle.cfi_valid.proofs.example.VerifiedByTest.{verified_by}
use Rattle.cfi_valid.proofs.example.TablePlaced.{lib_code, lib_units, lib_placed, main_units, main_placed, plug_units, plug_placed}
use Rattle.cfi_word.specs.declared.limits.TheConstants.{MAX_CODE_WORDS}

-- ---- `lib`

abbrev lib_source : List CodeUnit
lib_source =
    Plain (Op Add 10 10 10) ∷ Check false 1 (pos 0) 0 ∷ Plain (OpImm Addi 10 10 (pos 1)) ∷ Check false 1 (pos 0) 1
    ∷ Plain (Auipc 5 0) ∷ Plain (OpImm Addi 5 5 (pos 0)) ∷ Plain (OpImm Slli 6 10 (pos 2)) ∷ Plain (Op Add 5 5 6)
    ∷ Load Lw 5 5 (pos 0) ∷ Plain (OpImm Addi 10 0 (pos 5)) ∷ Check false 5 (pos 0) 2 ∷ Plain (Auipc 5 0) ∷ Plain
    (OpImm Addi 5 5 (pos 0)) ∷ Plain (OpImm Slli 6 10 (pos 2)) ∷ Plain (Op Add 5 5 6) ∷ Load Lw 5 5 (pos 0) ∷ Check
    false 5 (pos 0) 3 ∷ Plain (OpImm Addi 10 0 (pos 65)) ∷ Check false 1 (pos 0) 4 ∷ Plain (OpImm Addi 10 0 (pos
    66)) ∷ Check false 1 (pos 0) 5 ∷ []

pub lib_is : IsPlacedBehind MAX_CODE_WORDS [] [] lib_module lib_placed
unfolding relocated_from word_at with_word with_number rule_of insn_of
lib_is = record {
  bytes = areas_of (flat_map bytes_of_word lib_code)
      (64 ∷ 0 ∷ 0 ∷ 0 ∷ 124 ∷ 0 ∷ 0 ∷ 0 ∷ 124 ∷ 1 ∷ 0 ∷ 0 ∷ 184 ∷ 1 ∷ 0 ∷ 0 ∷ []);
  is_placed = refl;
  base = refl;
  slot_base = refl;
  data_base = refl;
  words = (lib_source, read_as lib_source refl, refl);
  static_data = refl;
  functions = refl;
  branches = refl;
  types = refl;
  exports = refl;
}

pub lib_verified : IsVerified lib_placed []
lib_verified = verified_by lib_placed [] lib_units refl refl refl

-- ---- `main`

abbrev main_source : List CodeUnit
main_source =
    Plain (OpImm Addi 10 0 (pos 0)) ∷ Jump true (pos 0) ∷ Plain (OpImm Addi 17 0 (pos 2)) ∷ Service ∷ Plain (OpImm
    Addi 10 0 (pos 1)) ∷ Jump true (pos 0) ∷ Plain (OpImm Addi 17 0 (pos 2)) ∷ Service ∷ Plain (OpImm Addi 17 0 (pos
    4)) ∷ Plain (OpImm Addi 10 0 (pos 2)) ∷ Service ∷ Plain (OpImm Addi 5 10 (pos 0)) ∷ Plain (OpImm Addi 10 0 (pos
    7)) ∷ Check true 5 (pos 0) 0 ∷ Plain (OpImm Addi 17 0 (pos 2)) ∷ Service ∷ Plain (OpImm Addi 10 0 (pos 0))
    ∷ Plain (OpImm Addi 17 0 (pos 1)) ∷ Service ∷ Jump false (pos 0) ∷ []

abbrev main_moved : List ℕ
main_moved =
    0x00000513 ∷ 0xec1ff0ef ∷ 0x00200893 ∷ 0x00000073 ∷ 0x00100513 ∷ 0xf15ff0ef ∷ 0x00200893 ∷ 0x00000073
    ∷ 0x00400893 ∷ 0x00200513 ∷ 0x00000073 ∷ 0x00050293 ∷ 0x00700513 ∷ 0x00028f93 ∷ 0x012fdf13 ∷ 0x020f1463
    ∷ 0x20000e37 ∷ 0x000e2e83 ∷ 0x10000f37 ∷ 0x01ff0f33 ∷ 0x000f2f03 ∷ 0x01ee8a63 ∷ 0x01df4f33 ∷ 0x010f1f13
    ∷ 0xfe0f10e3 ∷ 0x00100073 ∷ 0x000f80e7 ∷ 0x00200893 ∷ 0x00000073 ∷ 0x00000513 ∷ 0x00100893 ∷ 0x00000073
    ∷ 0x0000006f ∷ []

pub main_is : IsPlacedBehind MAX_CODE_WORDS (lib_placed ∷ []) (lib_placed ∷ []) main_module main_placed
unfolding relocated_from word_at with_word with_number rule_of insn_of
main_is = record {
  bytes = areas_of (flat_map bytes_of_word main_moved) ([]);
  is_placed = refl;
  base = refl;
  slot_base = refl;
  data_base = refl;
  words = (main_source, read_as main_source refl, refl);
  static_data = refl;
  functions = refl;
  branches = refl;
  types = refl;
  exports = refl;
}

pub main_verified : IsVerified main_placed (lib_placed ∷ [])
main_verified = verified_by main_placed (lib_placed ∷ []) main_units refl refl refl

-- ---- `plug`

abbrev plug_source : List CodeUnit
plug_source =
    Plain (OpImm Addi 10 10 (pos 60)) ∷ Check false 1 (pos 0) 0 ∷ []

abbrev plug_moved : List ℕ
plug_moved =
    0x03c50513 ∷ 0x00008f93 ∷ 0x012fdf13 ∷ 0x020f1463 ∷ 0x20000e37 ∷ 0x000e2e83 ∷ 0x10000f37 ∷ 0x01ff0f33
    ∷ 0x000f2f03 ∷ 0x01ee8a63 ∷ 0x01df4f33 ∷ 0x010f1f13 ∷ 0xfe0f10e3 ∷ 0x00100073 ∷ 0x000f8067 ∷ []

pub plug_is : IsPlacedBehind MAX_CODE_WORDS (lib_placed ∷ main_placed ∷ []) (lib_placed ∷ main_placed ∷ []) plug_module
    plug_placed
unfolding relocated_from word_at with_word with_number rule_of insn_of
plug_is = record {
  bytes = areas_of (flat_map bytes_of_word plug_moved) ([]);
  is_placed = refl;
  base = refl;
  slot_base = refl;
  data_base = refl;
  words = (plug_source, read_as plug_source refl, refl);
  static_data = refl;
  functions = refl;
  branches = refl;
  types = refl;
  exports = refl;
}

pub plug_verified : IsVerified plug_placed (lib_placed ∷ main_placed ∷ [])
plug_verified = verified_by plug_placed (lib_placed ∷ main_placed ∷ []) plug_units refl refl refl
