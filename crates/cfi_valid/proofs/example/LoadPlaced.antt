-- The modules of the run with a load at their places, and that they verify.
use Rattle.std.proofs.Common.{ℕ, ◌*◌, pos, true, false, List, [], ◌∷◌, length, refl}
use Rattle.std.specs.Prelude.{codes, IsTrue}
use Rattle.rv_reloc.specs.Bytes.{word_at}
use Rattle.cfi_unit.specs.declared.unit.Unit.{Unit as CodeUnit}
use Rattle.cfi_unit.specs.declared.unit.Unit.TheVariants.{Check, Service}
use Rattle.cfi_aux.specs.Cells.{have_cells}
use Rattle.cfi_aux.specs.declared.placed.Placed.{Placed}
use Rattle.cfi_aux.specs.declared.placed.PlacedFunction.{PlacedFunction}
use Rattle.cfi_aux.specs.declared.records.Kind.{Kind}
use Rattle.cfi_aux.specs.declared.records.Kind.TheVariants.{Call, Return}
use Rattle.cfi_bare.specs.Modules.{bare_types}
use Rattle.cfi_bare.specs.declared.modules.TheConstants.{FUNCTION_TYPE}
use Rattle.cfi_place.specs.Relocated.{areas_of, relocated_from}
use Rattle.cfi_modules.specs.Order.{IsPlacedBehind, Joins}
use Rattle.cfi_valid.specs.LoadExample.{opener_bytes, opener, plug_bytes, plug}
use Rattle.cfi_valid.proofs.example.ExampleLemmas.{sets, stands_still}
use Rattle.cfi_valid.proofs.example.FitLemmas.{read_as}
use Rattle.cfi_valid.proofs.example.VerifiedByTest.{verified_by}
use Rattle.cfi_word.specs.declared.limits.TheConstants.{MIN_CODE_WORDS}
use Rattle.cfi_word.specs.declared.map.TheConstants.{FIRST_BASE, DATA_START}

-- a function of so many words from the module's first on, which is Global
abbrev pub whole : (name : List ℕ) → (count : ℕ) → PlacedFunction
whole name count =
    record { first = 0; count = count; ty = FUNCTION_TYPE; taken = true; global = true; name = name }

-- a module of these words at its place
abbrev pub placed_at : (name : List ℕ) → (base slot : ℕ) → (words : List ℕ) → (branches : List Kind)
    → IsTrue (have_cells 0 branches) → Placed
placed_at name base slot words branches cells = record {
  base = base;
  slot_base = slot;
  data_base = DATA_START;
  words = words;
  static_data = [];
  functions = whole name (length words) ∷ [];
  branches = branches;
  types = bare_types;
  exports = (name, 4 * base) ∷ [];
  cells = cells;
}

-- the check of slot 0 that links, and that of slot 1 that does not
abbrev pub calls : CodeUnit
calls = Check true 10 (pos 0) 0

abbrev pub returns : CodeUnit
returns = Check false 1 (pos 0) 1

abbrev pub opener_units : List CodeUnit
opener_units = sets 17 4 ∷ sets 10 1 ∷ Service ∷ calls ∷ sets 17 1 ∷ Service ∷ stands_still ∷ []

abbrev pub plug_units : List CodeUnit
plug_units = returns ∷ []

abbrev pub opener_words : List ℕ
opener_words =
    0x00400893 ∷ 0x00100513 ∷ 0x73
    ∷ 0x00050f93 ∷ 0x012fdf13 ∷ 0x020f1463 ∷ 0x20000e37 ∷ 0x000e2e83 ∷ 0x10000f37 ∷ 0x01ff0f33 ∷ 0x000f2f03
    ∷ 0x01ee8a63 ∷ 0x01df4f33 ∷ 0x010f1f13 ∷ 0xfe0f10e3 ∷ 0x00100073 ∷ 0x000f80e7
    ∷ 0x00100893 ∷ 0x73 ∷ 0x6f ∷ []

abbrev pub plug_words : List ℕ
plug_words =
    0x00008f93 ∷ 0x012fdf13 ∷ 0x020f1463 ∷ 0x20000e37 ∷ 0x004e2e83 ∷ 0x10000f37 ∷ 0x01ff0f33 ∷ 0x000f2f03
    ∷ 0x01ee8a63 ∷ 0x01df4f33 ∷ 0x010f1f13 ∷ 0xfe0f10e3 ∷ 0x00100073 ∷ 0x000f8067 ∷ []

abbrev pub opener_placed : Placed
opener_placed = placed_at (codes "main") FIRST_BASE 0 opener_words (Call FUNCTION_TYPE ∷ []) refl

abbrev pub plug_placed : Placed
plug_placed = placed_at (codes "plug") 36 1 plug_words (Return ∷ []) refl

-- ---- they are placed

opener_is : IsPlacedBehind MIN_CODE_WORDS [] [] opener opener_placed
unfolding relocated_from word_at
opener_is = record {
  bytes = areas_of opener_bytes [];
  is_placed = refl;
  base = refl;
  slot_base = refl;
  data_base = refl;
  words = (opener_units, read_as opener_units refl, refl);
  static_data = refl;
  functions = refl;
  branches = refl;
  types = refl;
  exports = refl;
}

plug_is : IsPlacedBehind MIN_CODE_WORDS (opener_placed ∷ []) (opener_placed ∷ []) plug plug_placed
unfolding relocated_from word_at
plug_is = record {
  bytes = areas_of plug_bytes [];
  is_placed = refl;
  base = refl;
  slot_base = refl;
  data_base = refl;
  words = (Check false 1 (pos 0) 0 ∷ [], read_as (Check false 1 (pos 0) 0 ∷ []) refl, refl);
  static_data = refl;
  functions = refl;
  branches = refl;
  types = refl;
  exports = refl;
}

-- ---- and verify

pub opener_joins : Joins MIN_CODE_WORDS [] [] opener opener_placed
opener_joins = record {
  behind = opener_is;
  verified = verified_by opener_placed [] opener_units refl refl refl;
}

pub plug_joins : Joins MIN_CODE_WORDS (opener_placed ∷ []) (opener_placed ∷ []) plug plug_placed
plug_joins = record {
  behind = plug_is;
  verified = verified_by plug_placed (opener_placed ∷ []) plug_units refl refl refl;
}
