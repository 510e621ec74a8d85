-- Where the next module goes.
use Rattle.std.specs.Prelude.{◌≡◌, ◌↔◌, ℕ, ◌+◌, ◌<◌, ◌≤◌, ◌^◌, ◌==◌, Bool, false, not, List, [], ◌∷◌, ◌++◌, length, map, flat_map, filter, if◌then◌else◌, slice_index_or, All, Option, Some, None, Err}
use Rattle.std.specs.Int.{next_multiple_of}
use Rattle.std.specs.List.{list_any}
use Rattle.cfi_aux.specs.declared.modules.Module.{Module}
use Rattle.cfi_aux.specs.declared.placed.Placed.{Placed}
use Rattle.cfi_modules.specs.Room.{room_after}
use Rattle.cfi_place.specs.Names.{find_in, first_in}
use Rattle.cfi_place.specs.Placed.{IsPlaced, IsRoom, placed_in}
use Rattle.cfi_place.specs.declared.fault.PlaceFault.{PlaceFault}
use Rattle.cfi_place.specs.declared.room.Room.{Room}
use Rattle.cfi_plan.specs.declared.journal.ModuleLine.{ModuleLine}
use Rattle.cfi_plan.specs.declared.plan.Plan.{Plan}
use Rattle.cfi_valid.specs.Kept.{Origin, module_from}
use Rattle.cfi_valid.specs.Loaded.{LoadedModule, placed_modules, planned_name}
use Rattle.cfi_word.specs.declared.map.TheConstants.{DATA_ALIGNMENT, DATA_END}
use Rattle.cfi_judge.specs.declared.entries.Change.{Change}
use Rattle.cfi_judge.specs.declared.next.Next.{Next}
use Rattle.cfi_judge.specs.declared.next.Stood.{Stood}
use Rattle.cfi_judge.specs.inner.Told.{Follow, IsToldBy}

-- its room with another slot: whether a module is placed does not hang on its slots
abbrev pub room_of : Next → Room
room_of next = record {
  base = next.base;
  slot_base = 0;
  data_base = next.data_base;
  code_words = next.code_words;
}

-- ---- names

-- a module of this number is gone, as flags tell
abbrev pub is_gone : (flags : List Bool) → (number : ℕ) → Bool
is_gone flags number = slice_index_or flags number false

-- what is kept of a module that stands
abbrev pub stood_of : (number : ℕ) → Placed → Stood
stood_of number placed = record { number = number; exports = placed.exports }

-- of a module in a list of those
abbrev pub stood_as : LoadedModule → Stood
stood_as l = stood_of l.number l.placed

-- the names that those of them export that are not gone
abbrev pub exports_left : (flags : List Bool) → List Stood → List (List ℕ × ℕ)
exports_left flags stood =
    flat_map (λ (s : Stood). s.exports) (filter (λ (s : Stood). not (is_gone flags s.number)) stood)

-- flags tell of so many modules which are gone
pub record TellGone (count : ℕ) (gone : List ℕ) (flags : List Bool) : Type 0 where
  pub many : length flags ≡ count
  pub each : (number : ℕ) → number < count → is_gone flags number ≡ list_any (λ (n : ℕ). n == number) gone

-- it goes behind these modules, all of them of so many of a plan, and may ask for the names of those that are not gone
pub record IsNext (code_words count : ℕ) (before : List LoadedModule) (gone : List ℕ) (next : Next) : Type 0 where
  pub words : next.code_words ≡ code_words
  pub base : next.base ≡ (room_after code_words (placed_modules before)).base
  pub slot : next.slot ≡ (room_after code_words (placed_modules before)).slot_base
  pub data_base : next.data_base ≡ (room_after code_words (placed_modules before)).data_base
  pub room : IsRoom (room_of next)
  pub known : All (λ (l : LoadedModule). l.number < count) before
  pub stood : next.stood.items ≡ map stood_as before
  pub flags : TellGone count gone next.gone.items
  pub names : (name : List ℕ)
      → find_in next.names name ≡ first_in (exports_left next.gone.items next.stood.items) name

-- a module that is placed there fits
pub record FitsAt (next : Next) (p : Placed) : Type 0 where
  pub words : next.base + length p.words ≤ next.code_words
  pub ends : next.data_base + length p.static_data ≤ DATA_END
  pub slots : next.slot < 2 ^ 32

-- the next place behind it, as the module of this number
pub record IsPast (old : Next) (number : ℕ) (p : Placed) (new : Next) : Type 0 where
  pub words : new.code_words ≡ old.code_words
  pub base : new.base ≡ old.base + length p.words
  pub slot : new.slot ≡ old.slot + length p.branches
  pub data_base : new.data_base ≡ next_multiple_of (old.data_base + length p.static_data) DATA_ALIGNMENT
  pub gone : new.gone.items ≡ old.gone.items
  pub stood : new.stood.items ≡ old.stood.items ++ stood_of number p ∷ []
  pub names : (before : List (List ℕ × ℕ)) → ((name : List ℕ) → find_in old.names name ≡ first_in before name)
      → (name : List ℕ) → find_in new.names name
      ≡ first_in (before ++ (if is_gone old.gone.items number then [] else p.exports)) name

-- a line says that a module is placed there
pub record IsHere (next : Next) (line : ModuleLine) : Type 0 where
  pub base : line.base ≡ next.base
  pub slot : line.slot ≡ next.slot
  pub data_base : line.data_base ≡ next.data_base

-- the line of a module that is placed there
abbrev pub line_at : Plan → Next → Origin → ModuleLine
line_at plan next told = record {
  number = told.number;
  name = planned_name plan.modules told.number;
  base = next.base;
  slot = next.slot;
  data_base = next.data_base;
  policy = told.policy;
}

-- what placing makes of a module there: none where it is not placed
abbrev pub StandsThere : Next → Module → Option Placed → Type 0
StandsThere next m (Some placed) = IsPlaced m (room_of next) (find_in next.names) placed
StandsThere next m None =
    (fault : PlaceFault) × (placed_in m.object (room_of next) (find_in next.names) ≡ Err fault)

-- the place behind a module that is told, with its line; none where it does not stand so
abbrev pub Takes : Plan → List Module → (before : List LoadedModule) → (gone : List ℕ) → ModuleLine → Origin
    → Option Next → Type 0
Takes plan modules before gone line told (Some next) =
    (one : Placed) × IsToldBy plan modules before gone line told one
    × IsNext plan.code_words (length modules) (before ++ module_from told one ∷ []) gone next
Takes plan modules before gone line told None = (one : Placed) → ¬ IsToldBy plan modules before gone line told one

-- ---- one line of a journal

-- where the rest of the lines and of the changes follow from
pub record GoesOn (plan : Plan) (modules : List Module) (before : List LoadedModule) (gone : List ℕ)
    (change : Change) (lines : List ModuleLine) (next : Next) (rest : List ModuleLine) : Type 0 where
  pub now : List LoadedModule
  pub left : List ℕ
  pub is_next : IsNext plan.code_words (length modules) now left next
  pub follows : (more : List Change) → Follow plan modules before gone (change ∷ more) lines
      ↔ Follow plan modules now left more rest
