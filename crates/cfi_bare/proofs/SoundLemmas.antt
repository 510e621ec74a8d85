-- The module of a bare file can be placed.
use Rattle.std.proofs.Common.{◌≡◌, ℕ, ◌%◌, ◌<◌, ◌≤◌, List, [], ◌∷◌, length, arith, rules}
use Rattle.std.proofs.lemmas.List.Elements.{All-nil, All-cons}
use Rattle.elf_read.specs.Sound.{IsSoundSymbol, IsSoundReloc}
use Rattle.cfi_modules.specs.Series.{CanBeTaken}
use Rattle.cfi_word.specs.declared.limits.TheConstants.{MAX_FILE_BYTES}
use Rattle.cfi_bare.specs.Modules.{bare_object, bare_functions, bare_module}

-- it has one function at most
few : (bytes : List ℕ) → length (bare_functions bytes) ≤ 1
few [] = omega arith
few (byte ∷ bytes) = omega arith

pub taken : (bytes : List ℕ) → length bytes % 4 ≡ 0 → length bytes ≤ MAX_FILE_BYTES → CanBeTaken (bare_module bytes)
taken bytes whole short = record {
  sound = record {
    object_sound = record {
      words = whole;
      symbols = All-nil (IsSoundSymbol (bare_object bytes));
      definitions = λ i j d before within. absurd (omega (arith, within));
      relocs = All-nil (IsSoundReloc (bare_object bytes));
    };
    table = record {
      count = omega arith;
      nodes = (search rules, (search rules, tt));
      names = (All-nil (λ k. k < 2), (All-cons (λ k. k < 2) 0 [] (omega arith) (All-nil (λ k. k < 2)), tt));
    };
  };
  text = omega (arith, short);
  static_data = omega arith;
  relocs = omega arith;
  functions = omega (arith, few bytes);
}
