-- Sizes that pass no limit.
use Rattle.std.proofs.Common.{◌≡◌, ℕ, ◌*◌, ◌≤◌, Option, None, arith}
use Rattle.elf_read.specs.declared.fault.Limit.{Limit}
use Rattle.cfi_word.specs.declared.limits.TheConstants.{MAX_SYMBOLS, MAX_RELOCS, MAX_WORDS, MAX_DATA, MAX_NODES, MAX_FUNCTIONS, MAX_BRANCHES}
use Rattle.cfi_import.specs.declared.object_sizes.Sizes.{Sizes}
use Rattle.cfi_import.specs.Limit.{unless_above, passed}

-- a limit that is not passed
pub record NotAbove (limit number : ℕ) (next : Option Limit) : Type 0 where
  pub within : number ≤ limit
  pub others : next ≡ None

not_above : (limit number : ℕ) (what : Limit) (next : Option Limit) → unless_above limit number what next ≡ None
    → NotAbove limit number next
not_above limit number what next none = grind arith

-- sizes within the limits
pub record AreFew (sizes : Sizes) : Type 0 where
  pub symbols : sizes.symbols ≤ MAX_SYMBOLS
  pub relocs : sizes.relocs ≤ MAX_RELOCS
  pub text : sizes.text ≤ 4 * MAX_WORDS
  pub static_data : sizes.static_data ≤ MAX_DATA
  pub types : sizes.types ≤ MAX_NODES
  pub functions : sizes.functions ≤ MAX_FUNCTIONS
  pub branches : sizes.branches ≤ MAX_BRANCHES

pub few : (sizes : Sizes) → passed sizes ≡ None → AreFew sizes
few sizes none =
    let symbols = not_above MAX_SYMBOLS sizes.symbols _ _ none in
    let relocs = not_above MAX_RELOCS sizes.relocs _ _ symbols.others in
    let text = not_above (4 * MAX_WORDS) sizes.text _ _ relocs.others in
    let static_data = not_above MAX_DATA sizes.static_data _ _ text.others in
    let types = not_above MAX_NODES sizes.types _ _ static_data.others in
    let functions = not_above MAX_FUNCTIONS sizes.functions _ _ types.others in
    let branches = not_above MAX_BRANCHES sizes.branches _ _ functions.others in
    record {
      symbols = symbols.within;
      relocs = relocs.within;
      text = text.within;
      static_data = static_data.within;
      types = types.within;
      functions = functions.within;
      branches = branches.within;
    }
