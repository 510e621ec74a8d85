-- Why modules can not be linked: the first fault, by the order of the variants and then by the least place.
use Rattle.std.specs.Prelude.{◌≡◌, ℕ, ◌*◌, ◌/◌, ◌%◌, Bool, true, false, not, ◌==◌, nat_le, if◌then◌else◌, List, length, take, All, Option, Some, None, IsSomeAnd, Result, Err, ⊤}
use Rattle.std.specs.List.{list_any, slice_get}
use Rattle.elf_read.specs.declared.fault.Limit.{Limit}
use Rattle.elf_read.specs.declared.fault.Limit.TheVariants as limits
use Rattle.cfi_word.specs.declared.limits.TheConstants.{MAX_SYMBOLS, MAX_RELOCS, MAX_WORDS, MAX_DATA, MAX_NODES, MAX_FUNCTIONS, MAX_BRANCHES}
use Rattle.cfi_aux.specs.declared.modules.Module.{Module}
use Rattle.cfi_place.specs.Placed.{bytes_as_words}
use Rattle.cfi_link.specs.declared.fault.LinkFault.{LinkFault}
use Rattle.cfi_link.specs.declared.limits.Sizes.{Sizes}
use Rattle.cfi_link.specs.declared.fault.LinkFault.TheVariants as faults
use Rattle.cfi_link.specs.Joined.{Joined, joined_of}
use Rattle.cfi_link.specs.Chosen.{chosen_in, twice_in, reaches_of}
use Rattle.cfi_link.specs.Applied.{applied_from}
use Rattle.cfi_unit.specs.Spots.{AreUnits, StopsAt}

-- ---- texts

-- some module has a word of text
abbrev pub has_text : List Module → Bool
has_text modules = list_any (λ m. not (length m.object.text == 0)) modules

-- its text is units from its start to its end
abbrev pub HasUnits : Module → Type 0
HasUnits m = AreUnits (bytes_as_words m.object.text)

-- a module's text stops so at a place in bytes, and the texts before it are units
pub record IsFirstStray (modules : List Module) (number offset : ℕ) : Type 0 where
  pub whole : offset % 4 ≡ 0
  pub here : IsSomeAnd (slice_get modules number) (λ m. StopsAt (bytes_as_words m.object.text) (offset / 4))
  pub before : All HasUnits (take number modules)

-- modules whose texts can be joined
pub record HaveTexts (modules : List Module) : Type 0 where
  pub some : has_text modules ≡ true
  pub units : All HasUnits modules

-- ---- limits

-- how many symbols, relocations, bytes of text and data, nodes, functions and branches there are
abbrev pub sizes_of : Joined → Sizes
sizes_of joined = record {
  symbols = length joined.symbols;
  relocs = length joined.relocs;
  text = length joined.text;
  static_data = length joined.static_data;
  types = length joined.types;
  functions = length joined.functions;
  branches = length joined.branches;
}

-- this limit, where the number is above it, and else what comes next
abbrev pub unless_above : (limit number : ℕ) → Limit → Option Limit → Option Limit
unless_above limit number what next = if nat_le number limit then next else Some what

-- the first limit on one object that sizes pass
abbrev pub passed : Sizes → Option Limit
passed sizes =
    unless_above MAX_SYMBOLS sizes.symbols limits.Symbols
    (unless_above MAX_RELOCS sizes.relocs limits.Relocs
    (unless_above (4 * MAX_WORDS) sizes.text limits.Words
    (unless_above MAX_DATA sizes.static_data limits.Data
    (unless_above MAX_NODES sizes.types limits.Types
    (unless_above MAX_FUNCTIONS sizes.functions limits.Functions
    (unless_above MAX_BRANCHES sizes.branches limits.Branches None))))))

-- that the modules together pass
abbrev pub passed_by : List Module → Option Limit
passed_by modules = passed (sizes_of (joined_of modules))

-- ---- relocations

-- what the relocations that are applied make of the joined text
abbrev pub relocated_by : Joined → Result (List ℕ) LinkFault
relocated_by joined =
    applied_from (reaches_of (chosen_in joined.symbols) joined.symbols) joined.relocs joined.text

-- the words of the joined text under the relocations that are applied, or the first fault of one
abbrev pub relocated_in : List Module → Result (List ℕ) LinkFault
relocated_in modules = relocated_by (joined_of modules)

-- ---- the first fault

-- modules with texts within the limits
pub record AreWithin (modules : List Module) : Type 0 where
  pub texts : HaveTexts modules
  pub limits : passed_by modules ≡ None

-- ... that define each name as global once at most
pub record CanBeLinked (modules : List Module) : Type 0 where
  pub within : AreWithin modules
  pub once : twice_in (joined_of modules).symbols ≡ None

-- a fault that comes where all earlier ones do not stand
pub record IsAfter (A B : Type 0) : Type 0 where
  pub earlier : A
  pub here : B

-- each fault, where none of those before it stands
abbrev pub IsFirstLinkFault : List Module → LinkFault → Type 0
IsFirstLinkFault modules faults.NoText = has_text modules ≡ false
IsFirstLinkFault modules (faults.NotUnit number offset) =
    IsAfter (has_text modules ≡ true) (IsFirstStray modules number offset)
IsFirstLinkFault modules (faults.TooMany what) =
    IsAfter (HaveTexts modules) (passed_by modules ≡ Some what)
IsFirstLinkFault modules (faults.Twice name) =
    IsAfter (AreWithin modules) (twice_in (joined_of modules).symbols ≡ Some name)
IsFirstLinkFault modules (faults.BadReloc number k) =
    IsAfter (CanBeLinked modules) (relocated_in modules ≡ Err (faults.BadReloc number k))
IsFirstLinkFault modules faults.Memory = ⊤
