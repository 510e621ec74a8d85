-- The three modules of the run with tables at their places: their words, units and functions.
use Rattle.std.proofs.Common.{ℕ, pos, negsuc, Bool, true, false, List, [], ◌∷◌, refl}
use Rattle.std.specs.Prelude.{codes}
use Rattle.rv_insn.specs.declared.insn.ImmOp.TheVariants.{Addi, Slli}
use Rattle.rv_insn.specs.declared.insn.Insn.TheVariants.{Auipc, OpImm, Op}
use Rattle.rv_insn.specs.declared.insn.LoadKind.TheVariants.{Lw}
use Rattle.rv_insn.specs.declared.insn.Op.TheVariants.{Add}
use Rattle.cfi_aux.specs.declared.placed.Placed.{Placed}
use Rattle.cfi_aux.specs.declared.placed.PlacedFunction.{PlacedFunction}
use Rattle.cfi_unit.specs.declared.unit.Unit.{Unit as CodeUnit}
use Rattle.cfi_unit.specs.declared.unit.Unit.TheVariants.{Plain, Load, Jump, Check, Service}
use Rattle.cfi_valid.specs.TableExample.{lib_types, lib_branches, main_types, main_branches, plug_types, plug_branches}

abbrev pub function_of : (name : List ℕ) → (first count ty : ℕ) → (taken global : Bool) → PlacedFunction
function_of name first count ty taken global =
    record { first = first; count = count; ty = ty; taken = taken; global = global; name = name }

-- ---- `lib`

abbrev pub lib_code : List ℕ
lib_code =
    0x00a50533 ∷ 0x00008f93 ∷ 0x012fdf13 ∷ 0x020f1463 ∷ 0x20000e37 ∷ 0x000e2e83 ∷ 0x10000f37 ∷ 0x01ff0f33
    ∷ 0x000f2f03 ∷ 0x01ee8a63 ∷ 0x01df4f33 ∷ 0x010f1f13 ∷ 0xfe0f10e3 ∷ 0x00100073 ∷ 0x000f8067 ∷ 0x00150513
    ∷ 0x00008f93 ∷ 0x012fdf13 ∷ 0x020f1463 ∷ 0x20000e37 ∷ 0x004e2e83 ∷ 0x10000f37 ∷ 0x01ff0f33 ∷ 0x000f2f03
    ∷ 0x01ee8a63 ∷ 0x01df4f33 ∷ 0x010f1f13 ∷ 0xfe0f10e3 ∷ 0x00100073 ∷ 0x000f8067 ∷ 0x40000297 ∷ 0xf4828293
    ∷ 0x00251313 ∷ 0x006282b3 ∷ 0x00028f93 ∷ 0x00cf9f93 ∷ 0x00cfdf93 ∷ 0x40000f37 ∷ 0x01efefb3 ∷ 0x000fa283
    ∷ 0x00500513 ∷ 0x00028f93 ∷ 0x012fdf13 ∷ 0x020f1463 ∷ 0x20000e37 ∷ 0x008e2e83 ∷ 0x10000f37 ∷ 0x01ff0f33
    ∷ 0x000f2f03 ∷ 0x01ee8a63 ∷ 0x01df4f33 ∷ 0x010f1f13 ∷ 0xfe0f10e3 ∷ 0x00100073 ∷ 0x000f8067 ∷ 0x40000297
    ∷ 0xeec28293 ∷ 0x00251313 ∷ 0x006282b3 ∷ 0x00028f93 ∷ 0x00cf9f93 ∷ 0x00cfdf93 ∷ 0x40000f37 ∷ 0x01efefb3
    ∷ 0x000fa283 ∷ 0x00028f93 ∷ 0x012fdf13 ∷ 0x020f1463 ∷ 0x20000e37 ∷ 0x00ce2e83 ∷ 0x10000f37 ∷ 0x01ff0f33
    ∷ 0x000f2f03 ∷ 0x01ee8a63 ∷ 0x01df4f33 ∷ 0x010f1f13 ∷ 0xfe0f10e3 ∷ 0x00100073 ∷ 0x000f8067 ∷ 0x04100513
    ∷ 0x00008f93 ∷ 0x012fdf13 ∷ 0x020f1463 ∷ 0x20000e37 ∷ 0x010e2e83 ∷ 0x10000f37 ∷ 0x01ff0f33 ∷ 0x000f2f03
    ∷ 0x01ee8a63 ∷ 0x01df4f33 ∷ 0x010f1f13 ∷ 0xfe0f10e3 ∷ 0x00100073 ∷ 0x000f8067 ∷ 0x04200513 ∷ 0x00008f93
    ∷ 0x012fdf13 ∷ 0x020f1463 ∷ 0x20000e37 ∷ 0x014e2e83 ∷ 0x10000f37 ∷ 0x01ff0f33 ∷ 0x000f2f03 ∷ 0x01ee8a63
    ∷ 0x01df4f33 ∷ 0x010f1f13 ∷ 0xfe0f10e3 ∷ 0x00100073 ∷ 0x000f8067 ∷ []

abbrev pub lib_units : List CodeUnit
lib_units =
    Plain (Op Add 10 10 10) ∷ Check false 1 (pos 0) 0 ∷ Plain (OpImm Addi 10 10 (pos 1)) ∷ Check false 1 (pos 0) 1
    ∷ Plain (Auipc 5 262144) ∷ Plain (OpImm Addi 5 5 (negsuc 183)) ∷ Plain (OpImm Slli 6 10 (pos 2)) ∷ Plain (Op Add 5
    5 6) ∷ Load Lw 5 5 (pos 0) ∷ Plain (OpImm Addi 10 0 (pos 5)) ∷ Check false 5 (pos 0) 2 ∷ Plain (Auipc 5 262144)
    ∷ Plain (OpImm Addi 5 5 (negsuc 275)) ∷ Plain (OpImm Slli 6 10 (pos 2)) ∷ Plain (Op Add 5 5 6) ∷ Load Lw 5 5
    (pos 0) ∷ Check false 5 (pos 0) 3 ∷ Plain (OpImm Addi 10 0 (pos 65)) ∷ Check false 1 (pos 0) 4 ∷ Plain (OpImm
    Addi 10 0 (pos 66)) ∷ Check false 1 (pos 0) 5 ∷ []

abbrev pub twice : PlacedFunction
twice = function_of (codes "twice") 0 15 1 true false

abbrev pub incr : PlacedFunction
incr = function_of (codes "incr") 15 15 1 true false

abbrev pub sel : PlacedFunction
sel = function_of (codes "sel") 30 25 1 false true

abbrev pub choose : PlacedFunction
choose = function_of (codes "choose") 55 54 1 false true

abbrev pub lib_placed : Placed
lib_placed = record {
  base = 16;
  slot_base = 0;
  data_base = 0x40000000;
  words = lib_code;
  static_data = 64 ∷ 0 ∷ 0 ∷ 0 ∷ 124 ∷ 0 ∷ 0 ∷ 0 ∷ 124 ∷ 1 ∷ 0 ∷ 0 ∷ 184 ∷ 1 ∷ 0 ∷ 0 ∷ [];
  functions = twice ∷ incr ∷ sel ∷ choose ∷ [];
  branches = lib_branches;
  types = lib_types;
  exports = (codes "sel", 184) ∷ (codes "choose", 284) ∷ [];
  cells = refl;
}

-- ---- `main`

abbrev pub main_code : List ℕ
main_code =
    0x00000513 ∷ 0xec1ff0ef ∷ 0x00200893 ∷ 0x00000073 ∷ 0x00100513 ∷ 0xf15ff0ef ∷ 0x00200893 ∷ 0x00000073
    ∷ 0x00400893 ∷ 0x00200513 ∷ 0x00000073 ∷ 0x00050293 ∷ 0x00700513 ∷ 0x00028f93 ∷ 0x012fdf13 ∷ 0x020f1463
    ∷ 0x20000e37 ∷ 0x018e2e83 ∷ 0x10000f37 ∷ 0x01ff0f33 ∷ 0x000f2f03 ∷ 0x01ee8a63 ∷ 0x01df4f33 ∷ 0x010f1f13
    ∷ 0xfe0f10e3 ∷ 0x00100073 ∷ 0x000f80e7 ∷ 0x00200893 ∷ 0x00000073 ∷ 0x00000513 ∷ 0x00100893 ∷ 0x00000073
    ∷ 0x0000006f ∷ []

abbrev pub main_units : List CodeUnit
main_units =
    Plain (OpImm Addi 10 0 (pos 0)) ∷ Jump true (negsuc 319) ∷ Plain (OpImm Addi 17 0 (pos 2)) ∷ Service ∷ Plain
    (OpImm Addi 10 0 (pos 1)) ∷ Jump true (negsuc 235) ∷ Plain (OpImm Addi 17 0 (pos 2)) ∷ Service ∷ Plain (OpImm
    Addi 17 0 (pos 4)) ∷ Plain (OpImm Addi 10 0 (pos 2)) ∷ Service ∷ Plain (OpImm Addi 5 10 (pos 0)) ∷ Plain (OpImm
    Addi 10 0 (pos 7)) ∷ Check true 5 (pos 0) 6 ∷ Plain (OpImm Addi 17 0 (pos 2)) ∷ Service ∷ Plain (OpImm Addi 10 0
    (pos 0)) ∷ Plain (OpImm Addi 17 0 (pos 1)) ∷ Service ∷ Jump false (pos 0) ∷ []

abbrev pub start : PlacedFunction
start = function_of (codes "_start") 0 33 3 false true

abbrev pub main_placed : Placed
main_placed = record {
  base = 125;
  slot_base = 6;
  data_base = 0x40000010;
  words = main_code;
  static_data = [];
  functions = start ∷ [];
  branches = main_branches;
  types = main_types;
  exports = (codes "_start", 500) ∷ [];
  cells = refl;
}

-- ---- `plug`

abbrev pub plug_code : List ℕ
plug_code =
    0x03c50513 ∷ 0x00008f93 ∷ 0x012fdf13 ∷ 0x020f1463 ∷ 0x20000e37 ∷ 0x01ce2e83 ∷ 0x10000f37 ∷ 0x01ff0f33
    ∷ 0x000f2f03 ∷ 0x01ee8a63 ∷ 0x01df4f33 ∷ 0x010f1f13 ∷ 0xfe0f10e3 ∷ 0x00100073 ∷ 0x000f8067 ∷ []

abbrev pub plug_units : List CodeUnit
plug_units =
    Plain (OpImm Addi 10 10 (pos 60)) ∷ Check false 1 (pos 0) 7 ∷ []

abbrev pub plus60 : PlacedFunction
plus60 = function_of (codes "plus60") 0 15 1 true true

abbrev pub plug_placed : Placed
plug_placed = record {
  base = 158;
  slot_base = 7;
  data_base = 0x40000010;
  words = plug_code;
  static_data = [];
  functions = plus60 ∷ [];
  branches = plug_branches;
  types = plug_types;
  exports = (codes "plus60", 632) ∷ [];
  cells = refl;
}
