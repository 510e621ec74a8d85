-- What comes to a guest, from first to last: the words that its pass loads, and the ends of its services.
-- Loads are numbered from 0.
use Rattle.std.specs.Prelude.{◌≡◌, ◌⊎◌, ℕ, ◌/◌, ◌==◌, if◌then◌else◌, List, [], ◌∷◌, ◌++◌, map, Option, Some, None, ⊤}
use Rattle.cfi_word.specs.Table.{code_word, tary_word, bary_word}
use Rattle.cfi_word.specs.declared.layout.TheConstants.{EPOCH}
use Rattle.cfi_model.specs.declared.act.Wait.{Wait}
use Rattle.cfi_model.specs.declared.act.Wait.TheVariants as waits
use Rattle.cfi_model.specs.declared.history.Access.{Access}
use Rattle.cfi_model.specs.InForce.{tary_index}
use Rattle.cfi_model.specs.Raw.{Raw}
use Rattle.cfi_model.specs.Run.{Take, Word, Served, run_of}
use Rattle.cfi_model.specs.Service.{Reply}
use Rattle.cfi_model.specs.Shows.{End, ends_along}

-- a load, or the end of a service with the answer that an open gets
pub data Came : Type 0 where
  Loaded : Access → Came
  Ended : Reply → Came

-- what the raw machine takes of it; a load of EPOCH, with which a quiescent point begins, is none of its own
abbrev pub taken_in : Came → List Take
taken_in (Loaded access) = if access.word == EPOCH then [] else Word access.found ∷ []
taken_in (Ended reply) = Served reply ∷ []

-- all that is taken of what came, in order
abbrev pub takes_in : List Came → List Take
takes_in [] = []
takes_in (one ∷ later) = taken_in one ++ takes_in later

-- the loads
abbrev pub load_in : Came → List Access
load_in (Loaded access) = access ∷ []
load_in (Ended reply) = []

-- all loads of it, in order
abbrev pub loads_in : List Came → List Access
loads_in [] = []
loads_in (one ∷ later) = load_in one ++ loads_in later

-- the word that the raw machine asks for: the code's at its address, or the table word for which it waits
abbrev pub AsksFor : (code_words : ℕ) → Option Wait → Raw → (word : ℕ) → Type 0
AsksFor code_words None r word = word ≡ code_word (r.base.pc / 4)
AsksFor code_words (Some (waits.Tary at rd)) r word = word ≡ tary_word code_words (tary_index code_words at)
AsksFor code_words (Some (waits.Bary slot rd)) r word = word ≡ bary_word code_words slot
AsksFor code_words (Some (waits.Service number)) r word = ⊥

-- a quiescent point, with which a service ends: it comes straight behind that end, and the guest waits for nothing
pub record IsPoint (before : Option Came) (r : Raw) (access : Access) : Type 0 where
  pub is : access.word ≡ EPOCH
  pub reply : Reply
  pub behind : before ≡ Some (Ended reply)
  pub idle : r.waits ≡ None

-- a load is of the word that the machine asks for, or is that of a quiescent point
abbrev pub IsAskedBehind : (code_words : ℕ) → (before : Option Came) → Raw → Came → Type 0
IsAskedBehind code_words before r (Loaded access) =
    AsksFor code_words r.waits r access.word ⊎ IsPoint before r access
IsAskedBehind code_words before r (Ended reply) = ⊤

-- so is each, of the state that it meets and of what came straight before it
abbrev pub AreAskedBehind : (code_words : ℕ) → (before : Option Came) → Raw → List Came → Type 0
AreAskedBehind code_words before r [] = ⊤
AreAskedBehind code_words before r (one ∷ later) =
    IsAskedBehind code_words before r one × AreAskedBehind code_words (Some one) (run_of r (taken_in one)) later

-- and nothing came before the first
abbrev pub AreAskedBy : (code_words : ℕ) → Raw → List Came → Type 0
AreAskedBy code_words r came = AreAskedBehind code_words None r came

-- the end of a unit, and all that the guest had loaded before the access that ended it
pub record LoadedEnd : Type 0 where
  pub end : End
  pub loads : List Access

-- an end, with the loads before it
abbrev pub loaded_end : (loads : List Access) → End → LoadedEnd
loaded_end loads end = record { end = end; loads = loads }

-- those of all units that ended, for a guest that had made some loads before
abbrev pub ends_in : Raw → (loads : List Access) → List Came → List LoadedEnd
ends_in r loads [] = []
ends_in r loads (one ∷ later) =
    map (loaded_end loads) (ends_along r (taken_in one))
    ++ ends_in (run_of r (taken_in one)) (loads ++ load_in one) later
