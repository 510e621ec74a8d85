-- The file that puts one `H` is a module at its place, which verifies.
use Rattle.std.proofs.Common.{ℕ, pos, false, List, [], ◌∷◌, refl}
use Rattle.std.specs.Prelude.{codes}
use Rattle.std.specs.List.{AllByRecursion}
use Rattle.rv_insn.specs.declared.insn.Insn.TheVariants.{OpImm}
use Rattle.rv_insn.specs.declared.insn.ImmOp.TheVariants.{Addi}
use Rattle.rv_reloc.specs.Bytes.{word_at}
use Rattle.cfi_unit.specs.declared.unit.Unit.{Unit as CodeUnit}
use Rattle.cfi_unit.specs.declared.unit.Unit.TheVariants.{Plain, Jump, Service}
use Rattle.cfi_unit.specs.Unit.{IsUnit}
use Rattle.cfi_aux.specs.declared.placed.Placed.{Placed}
use Rattle.cfi_aux.specs.declared.placed.PlacedFunction.{PlacedFunction}
use Rattle.cfi_place.specs.Relocated.{areas_of, relocated_from}
use Rattle.cfi_verify.specs.Fault.{IsVerified}
use Rattle.cfi_bare.specs.Modules.{bare_types}
use Rattle.cfi_bare.proofs.LoadedLemmas.{IsPlacedFile, IsWhole}
use Rattle.cfi_valid.specs.Example.{hello_bytes}
use Rattle.cfi_valid.proofs.example.FitLemmas.{all_units, read_as}
use Rattle.cfi_valid.proofs.example.VerifiedByTest.{verified_by}
use Rattle.cfi_word.specs.declared.map.TheConstants.{FIRST_BASE, DATA_START}

-- ---- its words, its units and its function

abbrev pub hello_words : List ℕ
hello_words = 0x00200893 ∷ 0x04800513 ∷ 0x73 ∷ 0x00100893 ∷ 0x00700513 ∷ 0x73 ∷ 0x6f ∷ []

-- `addi` of x0
abbrev pub sets : (rd n : ℕ) → CodeUnit
sets rd n = Plain (OpImm Addi rd 0 (pos n))

abbrev pub stands_still : CodeUnit
stands_still = Jump false (pos 0)

abbrev pub units : List CodeUnit
units = sets 17 2 ∷ sets 10 72 ∷ Service ∷ sets 17 1 ∷ sets 10 7 ∷ Service ∷ stands_still ∷ []

abbrev function : PlacedFunction
function = record { first = 0; count = 7; ty = 1; taken = false; global = false; name = codes "bare" }

abbrev pub hello_placed : Placed
hello_placed = record {
  base = FIRST_BASE;
  slot_base = 0;
  data_base = DATA_START;
  words = hello_words;
  static_data = [];
  functions = function ∷ [];
  branches = [];
  types = bare_types;
  exports = [];
  cells = refl;
}

pub whole : IsWhole hello_placed hello_words
whole = record {
  base = refl;
  slot_base = refl;
  same = refl;
  function = function;
  only = refl;
  first = refl;
  count = refl;
}

-- ---- it is placed

pub fit : AllByRecursion IsUnit units
fit = all_units units refl

pub is_placed : IsPlacedFile hello_bytes hello_placed
unfolding relocated_from word_at
is_placed = record {
  bytes = areas_of hello_bytes [];
  is_placed = refl;
  base = refl;
  slot_base = refl;
  data_base = refl;
  words = (units, read_as units refl, refl);
  static_data = refl;
  functions = refl;
  branches = refl;
  types = refl;
  exports = refl;
}

-- ---- and verifies

pub verified : IsVerified hello_placed []
verified = verified_by hello_placed [] units refl refl refl
