-- What the answer to an open of a live module says.
use Rattle.std.specs.Prelude.{ℕ, List, [], Option, Some, None}
use Rattle.cfi_aux.specs.declared.placed.Placed.{Placed}
use Rattle.cfi_model.specs.Service.{Reply, reply_of}
use Rattle.cfi_modules.specs.Entry.{IsGlobal, IsFirstOf, HasNoneOf}
use Rattle.cfi_unit.specs.declared.fill.Fill.{Fill}
use Rattle.cfi_unit.specs.declared.log.Log.{Log}
use Rattle.cfi_valid.specs.Journal.{JournalState, members_of}
use Rattle.cfi_valid.specs.Loaded.{LoadedModule, fills_between, Filled}
use Rattle.cfi_valid.specs.Log.{HasFunctionAt, HasNoFunction}
use Rattle.cfi_valid.specs.Replay.{given_by}
use Rattle.cfi_word.specs.declared.services.TheConstants.{NO_FUNCTION}

-- what a placed module's first Global function is: its address, or that it has none
abbrev pub IsFirstGlobal : Placed → Option ℕ → Type 0
IsFirstGlobal placed (Some address) = IsFirstOf IsGlobal placed address
IsFirstGlobal placed None = HasNoneOf IsGlobal placed

-- the address is that of the first Global function of the live module of this number; it has none
abbrev pub IsAddressOf : (live : List LoadedModule) → (number : ℕ) → Option ℕ → Type 0
IsAddressOf live number (Some address) = HasFunctionAt live number address
IsAddressOf live number None = HasNoFunction live number

-- the reply by that address under a policy: with one, this data; without, none
abbrev pub given_reply : (address : Option ℕ) → (policy : ℕ) → List Fill → Reply
given_reply (Some address) policy fills = reply_of address 0 policy fills
given_reply None policy fills = reply_of 0 NO_FUNCTION policy []

-- its data is that which the guest lacks, and then the cells
abbrev pub open_reply : JournalState → (log : List Log) → (address : Option ℕ) → Reply
open_reply s log address =
    given_reply address s.policy (fills_between Filled (given_by log) s.policy (members_of s))
