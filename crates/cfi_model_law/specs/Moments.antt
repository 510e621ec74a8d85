-- A guest at every moment of its run over the images of a history: which unit it runs, and where it stores.
-- A moment is after so many of the accesses that came to the guest, from 0 on. The code is that of all modules so far.
use Rattle.std.specs.Prelude.{◌≡◌, ℕ, ◌+◌, ◌/◌, ◌≤◌, ◌<◌, true, List, length, take, slice_index, Option, Some, None, ⊤}
use Rattle.rv_insn.specs.declared.insn.Insn.{Insn}
use Rattle.rv_insn.specs.declared.insn.Insn.TheVariants.{Store}
use Rattle.rv_insn.specs.InsnOf.{insn_of}
use Rattle.cfi_unit.specs.declared.unit.Unit.{Unit as CodeUnit}
use Rattle.cfi_word.specs.declared.map.TheConstants.{DATA_START, DATA_BYTES}
use Rattle.cfi_model.specs.Data.{store_width, is_aligned}
use Rattle.cfi_model.specs.History.{History, IsHistory, IsStart}
use Rattle.cfi_model.specs.Fits.{Along}
use Rattle.cfi_model.specs.Raw.{Raw, access_address, raw_opened}
use Rattle.cfi_unit.specs.declared.fill.Fill.{Fill}
use Rattle.cfi_model.specs.Run.{Take, run_of}
use Rattle.cfi_model.specs.Shows.{Stands, LiesIn}

-- the guest at a moment
abbrev pub at_moment : (start : Raw) → List Take → (moment : ℕ) → Raw
at_moment start takes moment = run_of start (take moment takes)

-- it fetches an instruction next: it has not stopped, and waits for nothing
pub record Fetches (r : Raw) : Type 0 where
  pub going : r.base.stop ≡ None
  pub idle : r.waits ≡ None

-- Now the guest runs a unit of the code, which it has begun at its start: at an earlier moment it stood there, and all
-- that it has fetched since then are words of this unit.
pub record HasEntered (h : History) (code : List ℕ) (at : (moment : ℕ) → Raw) (now : ℕ) : Type 0 where
  pub begun : ℕ
  pub earlier : begun ≤ now
  pub starts : IsStart h (at begun).base.pc
  pub unit : CodeUnit
  pub stands : Stands code (at begun).base.pc unit
  pub inside : (moment : ℕ) → begun ≤ moment → moment ≤ now → Fetches (at moment)
      → LiesIn (at begun).base.pc unit (at moment).base.pc

-- the instruction that the guest fetches, where the code's word is one
abbrev pub fetched : (code : List ℕ) → Raw → Option Insn
fetched code r = insn_of (slice_index code (r.base.pc / 4))

-- a store of so many bytes at the address stays in the guest's own data; one that is not aligned stops the guest
pub record IsOwn (width address : ℕ) : Type 0 where
  pub first : DATA_START ≤ address
  pub last : address < DATA_START + DATA_BYTES
  pub whole : is_aligned width address ≡ true → address + width ≤ DATA_START + DATA_BYTES

-- where the instruction is a store, it stays there
abbrev pub StoresInside : Option Insn → Raw → Type 0
StoresInside (Some (Store kind rs1 rs2 imm)) r = IsOwn (store_width kind) (access_address r rs1 imm)
StoresInside insn r = ⊤

-- at every moment the guest runs a unit that it has entered at its start, and stores in its own data alone
pub record IsConfined (h : History) (code : List ℕ) (start : Raw) (takes : List Take) : Type 0 where
  pub enters : (now : ℕ) → now ≤ length takes → Fetches (at_moment start takes now)
      → HasEntered h code (at_moment start takes) now
  pub stores : (now : ℕ) → now ≤ length takes → Fetches (at_moment start takes now)
      → StoresInside (fetched code (at_moment start takes now)) (at_moment start takes now)

-- a guest that is opened at a start is confined, whatever fits comes
abbrev pub GuestsAreConfined : Type 0
GuestsAreConfined =
    (h : History) (code : List ℕ) → IsHistory h code →
    (number entry : ℕ) (fills : List Fill) → IsStart h entry →
    (takes : List Take) → Along h code (raw_opened number entry fills) takes →
    IsConfined h code (raw_opened number entry fills) takes
