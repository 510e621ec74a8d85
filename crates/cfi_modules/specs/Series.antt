-- A series: the modules that stand in so many code words so far, and which of them are live.
use Rattle.std.specs.Prelude.{◌≡◌, ℕ, ◌+◌, ◌*◌, ◌-◌, ◌<◌, ◌≤◌, ◌^◌, Bool, true, false, List, [], ◌∷◌, ◌++◌, length, map, take, slice_get, slice_set, All, Option, Some, None, Vec, ⊤}
use Rattle.std.specs.Global.{Global}
use Rattle.cfi_word.specs.declared.limits.TheConstants.{MAX_CODE_WORDS}
use Rattle.cfi_word.specs.Table.{IsSize}
use Rattle.cfi_aux.specs.declared.modules.Module.{Module}
use Rattle.cfi_aux.specs.declared.placed.Placed.{Placed}
use Rattle.cfi_aux.specs.Sound.{IsSoundModule}
use Rattle.cfi_graph.specs.Live.{live_of}
use Rattle.cfi_word.specs.declared.map.TheConstants.{DATA_END}
use Rattle.cfi_modules.specs.declared.index.Index.{Index}
use Rattle.cfi_modules.specs.inner.Index.{IsIndexOf}
use Rattle.cfi_modules.specs.declared.series.Series.TheInside.{Inside}
use Rattle.cfi_modules.specs.Loaded.{AreAmong}
use Rattle.cfi_modules.specs.Order.{Joins, IsJoinFault}
use Rattle.cfi_modules.specs.declared.fault.JoinFault.{JoinFault}

-- the modules, in so many code words, and for each whether it is live
pub record Series : Type 0 where
  pub code_words : ℕ
  pub placed : List Placed
  pub flags : List Bool

-- the live ones, in their order
abbrev pub live_in : Series → List Placed
live_in series = live_of series.placed series.flags

-- none was retired
abbrev pub AreAllLive : Series → Type 0
AreAllLive series = series.flags ≡ map (λ (m : Placed). true) series.placed

-- with one module more
abbrev pub with_module : Series → Placed → Series
with_module series m = record series { placed = series.placed ++ m ∷ []; flags = series.flags ++ true ∷ [] }

-- without its last module
abbrev pub without_last : Series → Series
without_last series = record series {
  placed = take (length series.placed - 1) series.placed;
  flags = take (length series.flags - 1) series.flags;
}

-- the last module is live
pub record EndsLive (series : Series) : Type 0 where
  pub some : 0 < length series.placed
  pub last : slice_get series.flags (length series.flags - 1) ≡ Some true

-- with the module at a place retired
abbrev pub with_retired : Series → (place : ℕ) → Series
with_retired series place = record series { flags = slice_set series.flags place false }

-- the module joins the series as this placed module
abbrev pub JoinsTo : Series → Module → Placed → Type 0
JoinsTo series m placed = Joins series.code_words series.placed (live_in series) m placed

-- it does not, for this fault
abbrev pub IsRefusedBy : Series → Module → JoinFault → Type 0
IsRefusedBy series m fault = IsJoinFault series.code_words series.placed (live_in series) m fault

-- the series has the module more, as it joins it
abbrev pub HasJoined : (old new : Series) → Module → Type 0
HasJoined old new m = (placed : Placed) × JoinsTo old m placed × (new ≡ with_module old placed)

-- some sound module joins the series as this placed module
abbrev pub CanRejoin : Series → Placed → Type 0
CanRejoin series placed = (m : Module) × IsSoundModule m × JoinsTo series m placed

-- the module joins those before it, where some of these are live
abbrev pub JoinsSome : (code_words : ℕ) → (before : List Placed) → Module → Placed → Type 0
JoinsSome code_words before m placed =
    (live : List Placed) × AreAmong live before × Joins code_words before live m placed

-- the placed modules are some sound modules, each of which joined those before it, in as many code words as a layout may
-- have
pub record IsSeries (code_words : ℕ) (placed : List Placed) : Type 0 where
  pub size : IsSize code_words
  pub modules : List Module
  pub sound : All IsSoundModule modules
  pub count : length placed ≡ length modules
  pub joined : (k : ℕ) (m : Module) (p : Placed) → slice_get modules k ≡ Some m → slice_get placed k ≡ Some p
      → JoinsSome code_words (take k placed) m p

-- a module that a series can take: it breaks no rule, and its addresses and counts are 32-bit numbers
pub record CanBeTaken (m : Module) : Type 0 where
  pub sound : IsSoundModule m
  pub text : 4 * MAX_CODE_WORDS + length m.object.text < 2 ^ 32
  pub static_data : DATA_END + length m.object.static_data < 2 ^ 32
  pub relocs : length m.object.relocs ≤ 2 ^ 32
  pub functions : length m.records.functions < 2 ^ 32

-- an index has the names that modules export; nothing is claimed where there is none
abbrev pub HasNames : List Placed → Option Index → Type 0
HasNames placed None = ⊤
HasNames placed (Some index) = IsIndexOf placed index

-- the live ones are these, where they are kept, and else all
abbrev pub HasLive : (placed : List Placed) → (flags : List Bool) → Option (Vec Placed Global) → Type 0
HasLive placed flags None = live_of placed flags ≡ placed
HasLive placed flags (Some live) = live_of placed flags ≡ live.items

-- what a series keeps
pub record IsKept (a : Inside) : Type 0 where
  pub series : IsSeries a.code_words a.placed.items
  pub many : length a.flags.items ≡ length a.placed.items
  pub live : HasLive a.placed.items a.flags.items a.live
  pub names : HasNames (live_of a.placed.items a.flags.items) a.index
