-- Sizes within the limits, and sizes that are counted up to the greatest number.
use Rattle.std.proofs.Common.{◌≡◌, ◌∙◌, ℕ, ◌+◌, ◌*◌, ◌<◌, ◌≤◌, ◌^◌, List, length, take, get_or, Option, None, refl, sym, ap, arith}
use Rattle.elf_read.specs.declared.fault.Limit.{Limit}
use Rattle.cfi_word.specs.declared.limits.TheConstants.{MAX_SYMBOLS, MAX_RELOCS, MAX_WORDS, MAX_DATA, MAX_NODES, MAX_FUNCTIONS, MAX_BRANCHES}
use Rattle.cfi_aux.specs.declared.modules.Module.{Module}
use Rattle.cfi_link.specs.declared.limits.Sizes.{Sizes}
use Rattle.cfi_link.specs.Gap.{gap}
use Rattle.cfi_link.specs.Joined.{Joined, with_module, joined_of}
use Rattle.cfi_link.specs.inner.Room.{HasRoom}
use Rattle.cfi_link.specs.Fault.{sizes_of, unless_above, passed, passed_by}
use Rattle.cfi_link.specs.inner.Capped.{capped, capped_sizes, with_sizes}
use Rattle.cfi_link.proofs.JoinedLemmas.{IsBelow, with_module-lengths, take-below, take-count, joined-more}

-- ---- within the limits

-- a limit that is not passed
pub record NotAbove (limit number : ℕ) (next : Option Limit) : Type 0 where
  pub within : number ≤ limit
  pub others : next ≡ None

not_above : (limit number : ℕ) (what : Limit) (next : Option Limit) → unless_above limit number what next ≡ None
    → NotAbove limit number next
not_above limit number what next none = grind arith

-- sizes within the limits
pub record AreFew (sizes : Sizes) : Type 0 where
  pub symbols : sizes.symbols ≤ MAX_SYMBOLS
  pub relocs : sizes.relocs ≤ MAX_RELOCS
  pub text : sizes.text ≤ 4 * MAX_WORDS
  pub static_data : sizes.static_data ≤ MAX_DATA
  pub types : sizes.types ≤ MAX_NODES
  pub functions : sizes.functions ≤ MAX_FUNCTIONS
  pub branches : sizes.branches ≤ MAX_BRANCHES

pub few : (sizes : Sizes) → passed sizes ≡ None → AreFew sizes
few sizes none =
    let symbols = not_above MAX_SYMBOLS sizes.symbols _ _ none in
    let relocs = not_above MAX_RELOCS sizes.relocs _ _ symbols.others in
    let text = not_above (4 * MAX_WORDS) sizes.text _ _ relocs.others in
    let static_data = not_above MAX_DATA sizes.static_data _ _ text.others in
    let types = not_above MAX_NODES sizes.types _ _ static_data.others in
    let functions = not_above MAX_FUNCTIONS sizes.functions _ _ types.others in
    let branches = not_above MAX_BRANCHES sizes.branches _ _ functions.others in
    record {
      symbols = symbols.within;
      relocs = relocs.within;
      text = text.within;
      static_data = static_data.within;
      types = types.within;
      functions = functions.within;
      branches = branches.within;
    }

-- a module has room where what comes of it is within the limits
pub room_of : (joined : Joined) (m : Module) (total : Joined) → IsBelow (with_module joined m) total
    → AreFew (sizes_of total) → joined.count + 1 < 2 ^ 32 → HasRoom joined m
room_of joined m total below limits count =
    let lengths = with_module-lengths joined m in
    record {
      text = omega (arith, lengths.text, below.text, limits.text);
      static_data = omega (arith, lengths.static_data, below.static_data, limits.static_data);
      symbols = omega (arith, lengths.symbols, below.symbols, limits.symbols);
      relocs = omega (arith, lengths.relocs, below.relocs, limits.relocs);
      types = omega (arith, lengths.types, below.types, limits.types);
      count = count;
    }

-- each module has room after the first ones
pub room : (modules : List Module) (i : ℕ) (d : Module) → i < length modules → length modules < 2 ^ 32
    → passed_by modules ≡ None → HasRoom (joined_of (take i modules)) (get_or modules i d)
room modules i d lt count none =
    let limits = few (sizes_of (joined_of modules)) none in
    let all = take-below modules (i + 1) in
    let next = joined-more modules i d lt in
    let number = take-count modules i (omega arith) in
    room_of (joined_of (take i modules)) (get_or modules i d) (joined_of modules) (rw next at all) limits
    (omega (arith, number))

-- ---- sizes that are capped

unfoldable sizes_by : (symbols relocs text static_data types functions branches : ℕ) → Sizes
sizes_by symbols relocs text static_data types functions branches = record {
  symbols = symbols;
  relocs = relocs;
  text = text;
  static_data = static_data;
  types = types;
  functions = functions;
  branches = branches;
}

-- sizes that have equal parts
same_sizes : (a b : Sizes) → a.symbols ≡ b.symbols → a.relocs ≡ b.relocs → a.text ≡ b.text
    → a.static_data ≡ b.static_data → a.types ≡ b.types → a.functions ≡ b.functions → a.branches ≡ b.branches → a ≡ b
same_sizes a b e1 e2 e3 e4 e5 e6 e7 =
    let here : a ≡ sizes_by a.symbols a.relocs a.text a.static_data a.types a.functions a.branches =
    unfold sizes_by in refl in
    let there : b ≡ sizes_by b.symbols b.relocs b.text b.static_data b.types b.functions b.branches =
    unfold sizes_by in refl in
    cc

capped-sum : (n more : ℕ) → capped (capped n + more) ≡ capped (n + more)
capped-sum n more = omega arith

-- the gap before data, where data has so many bytes
capped-data : (n more : ℕ) → capped (capped (capped n + gap (capped n)) + more) ≡ capped (n + gap n + more)
capped-data n more = omega arith

pub sizes-more : (joined : Joined) (m : Module)
    → with_sizes (capped_sizes (sizes_of joined)) m ≡ capped_sizes (sizes_of (with_module joined m))
sizes-more joined m =
    let lengths = with_module-lengths joined m in
    same_sizes _ _ (capped-sum _ _ ∙ ap capped (sym lengths.symbols)) (capped-sum _ _ ∙ ap capped (sym lengths.relocs))
    (capped-sum _ _ ∙ ap capped (sym lengths.text)) (capped-data _ _ ∙ ap capped (sym lengths.static_data))
    (capped-sum _ _ ∙ ap capped (sym lengths.types)) (capped-sum _ _ ∙ ap capped (sym lengths.functions))
    (capped-sum _ _ ∙ ap capped (sym lengths.branches))
