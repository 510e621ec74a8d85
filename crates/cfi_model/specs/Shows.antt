-- The raw machine shows the policy machine: the same registers x0 to x27, private data, output, log, units and stop.
-- A raw state within a unit shows the policy state at that unit's start.
use Rattle.std.specs.Prelude.{◌≡◌, ◌≢◌, ℕ, ◌+◌, ◌-◌, ◌*◌, ◌/◌, ◌%◌, ◌<◌, ◌≤◌, nat_lt, if◌then◌else◌, true, ◌⊎◌, length, List, [], ◌∷◌, ◌++◌, Option, Some, None, ⊤}
use Rattle.rv_insn.specs.InsnOf.{insn_of}
use Rattle.cfi_unit.specs.declared.fill.Fill.{Fill}
use Rattle.cfi_unit.specs.declared.unit.Unit.{Unit as CodeUnit}
use Rattle.cfi_unit.specs.declared.unit.Unit.TheVariants as units
use Rattle.cfi_unit.specs.Unit.{size_of}
use Rattle.cfi_unit.specs.Code.{BeginsAt}
use Rattle.cfi_word.specs.declared.lists.Image.{Image}
use Rattle.cfi_word.specs.Table.{IsSize, slots_of}
use Rattle.cfi_word.specs.Word.{epoch_in}
use Rattle.cfi_word.specs.declared.map.TheConstants.{CODE_BYTES}
use Rattle.cfi_word.specs.declared.services.TheConstants.{OPEN}
use Rattle.cfi_model.specs.declared.act.Wait.{Wait}
use Rattle.cfi_model.specs.declared.act.Wait.TheVariants as waits
use Rattle.cfi_model.specs.Log.{last_policy, pick_entries}
use Rattle.cfi_model.specs.State.{State, register, displaced, opened}
use Rattle.cfi_model.specs.Service.{Reply, asked}
use Rattle.cfi_model.specs.Effect.{effect, is_in_code}
use Rattle.cfi_model.specs.Raw.{Raw, raw_opened}
use Rattle.cfi_model.specs.Run.{Take, Word, Served, take_one, run_of}
use Rattle.cfi_model.specs.Begin.{HasStepBy}
use Rattle.cfi_model.specs.Closed.{IsClosed}
use Rattle.cfi_model.specs.History.{History, IsEpoch, IsStart, IsHistory, IsBaryWord, IsTaryWord, slot_class, target_class, word_of, allows_at, fixed}
use Rattle.cfi_model.specs.Fits.{FitsOpen, Fits, Along}
use Rattle.cfi_word.specs.declared.sizes.TheConstants.{ACCESS_WORDS, FORBIDDEN_STEPS, RETRY_STEPS}

-- the unit stands at the address
pub record Stands (code : List ℕ) (address : ℕ) (unit : CodeUnit) : Type 0 where
  pub aligned : address % 4 ≡ 0
  pub begins : BeginsAt code (address / 4) unit

-- the address is that of a word of the unit that begins at the start
pub record LiesIn (start : ℕ) (unit : CodeUnit) (address : ℕ) : Type 0 where
  pub place : ℕ
  pub within : place < size_of unit
  pub is : address ≡ start + 4 * place

-- what the access that ends a unit meets and brings: the table words that are kept before it, and a service's answer
pub record End : Type 0 where
  pub bary : Option ℕ
  pub tary : Option ℕ
  pub reply : Option Reply

-- the answer that an access brings
abbrev pub reply_in : Take → Option Reply
reply_in (Word word) = None
reply_in (Served reply) = Some reply

-- the end of what a guest took: the words of a check that it has kept, and the reply
abbrev pub end_of : Raw → Take → End
end_of r t = record { bary = r.bary; tary = r.tary; reply = reply_in t }

-- a service ends with the answer that came, which fits where it was asked for
pub record IsServed (end : End) (reply : Reply) (s : State) : Type 0 where
  pub came : end.reply ≡ Some reply
  pub fits : asked s ≡ OPEN → FitsOpen reply s

-- a service has ended with its reply; of any other unit nothing is asked
abbrev pub IsAnswered : CodeUnit → End → Reply → State → Type 0
IsAnswered units.Service end reply s = IsServed end reply s
IsAnswered _ end reply s = ⊤

-- the words that are kept are those of the slot and of the target in one epoch
pub record IsTriedIn (h : History) (epoch slot target : ℕ) (end : End) : Type 0 where
  pub bary : end.bary ≡ Some (word_of h epoch (slot_class h epoch slot))
  pub tary : end.tary ≡ Some (word_of h epoch (target_class h epoch target))

-- where a check asks the policy, it asks that of the epoch
abbrev pub AsksUnder : History → (epoch : ℕ) → End → CodeUnit → State → Type 0
AsksUnder h epoch end (units.Check link rs1 imm slot) s =
    let target = displaced (register s rs1) imm in is_in_code target ≡ true → IsTriedIn h epoch slot target end
AsksUnder h epoch end _ s = ⊤

-- the policy machine runs a unit, under the policy of an epoch: where a check asks the policy, that of the two words
-- that are kept; a service has the answer that came; the policies that are logged never fall
pub record IsStep (h : History) (code : List ℕ) (end : End) (old new : State) : Type 0 where
  pub going : old.stop ≡ None
  pub unit : CodeUnit
  pub stands : Stands code old.pc unit
  pub epoch : ℕ
  pub known : IsEpoch h epoch
  pub under : AsksUnder h epoch end unit old
  pub reply : Reply
  pub answered : IsAnswered unit end reply old
  pub is : new ≡ effect unit (h.policy epoch) (allows_at h epoch) reply old
  pub rises : last_policy old.log ≤ last_policy new.log

-- the policy machine runs one unit for each of these ends
abbrev pub Runs : History → (code : List ℕ) → List End → (old new : State) → Type 0
Runs h code [] old new = new ≡ old
Runs h code (end ∷ ends) old new = (mid : State) × IsStep h code end old mid × Runs h code ends mid new

-- the end of a unit, where one ends with the access
abbrev pub ends_before : Raw → Take → List End
ends_before r t = if nat_lt r.base.units (take_one r t).base.units then end_of r t ∷ [] else []

-- those of all units that end with one of the accesses, from first to last
abbrev pub ends_along : Raw → List Take → List End
ends_along r [] = []
ends_along r (t ∷ takes) = ends_before r t ++ ends_along (take_one r t) takes

-- a policy state between two units of the code: x0 is 0, and a guest that has not stopped stands at a start
pub record IsReady (h : History) (s : State) : Type 0 where
  pub zero_is : register s 0 ≡ 0
  pub start : s.stop ≡ None → IsStart h s.pc

-- the raw state is that of the policy machine at this address, with so many more instructions
abbrev pub moved_to : (address more : ℕ) → State → State
moved_to address more s = record s { pc = address; steps = s.steps + more }

-- no unit has begun, or it has stopped the guest
pub record IsBetween (retries : ℕ) (s : State) (r : Raw) : Type 0 where
  pub base : r.base ≡ moved_to r.base.pc (RETRY_STEPS * retries) s
  pub idle : r.waits ≡ None
  pub fresh : s.stop ≡ None → (r.base.pc ≡ s.pc) × (r.bary ≡ None) × (r.tary ≡ None)

-- how many instructions of a unit can have been run before its last one
abbrev pub few_of : CodeUnit → ℕ
few_of (units.Load kind rd rs1 imm) = ACCESS_WORDS - 1
few_of (units.Store kind rs1 rs2 imm) = ACCESS_WORDS - 1
few_of (units.Check link rs1 imm slot) = FORBIDDEN_STEPS - 1
few_of _ = 0

-- so many words from its start, after so many instructions: before the unit's end, but for a service that waits, whose
-- instruction is counted
abbrev pub IsPlaceIn : CodeUnit → Option Wait → (at few : ℕ) → Type 0
IsPlaceIn units.Service (Some (waits.Service number)) at few = (at ≡ 1) × (few ≡ 1)
IsPlaceIn unit wait at few = (at < size_of unit) × (few ≤ few_of unit)

-- what the unit may wait for: a check for the word of its slot, one of the table, or of its target, a word of the code;
-- a service for its end
abbrev pub MayWait : (code_words : ℕ) → CodeUnit → State → Option Wait → Type 0
MayWait code_words (units.Check link rs1 imm slot) s (Some (waits.Bary asked_slot rd)) =
    (asked_slot ≡ slot) × (slot < slots_of code_words)
MayWait code_words (units.Check link rs1 imm slot) s (Some (waits.Tary at rd)) =
    (at ≡ displaced (register s rs1) imm) × (at < CODE_BYTES) × (at % 4 ≡ 0)
MayWait code_words units.Service s (Some (waits.Service number)) = number ≡ asked s
MayWait code_words unit s None = ⊤
MayWait code_words unit s (Some wait) = ⊥

-- only a check keeps table words
abbrev pub KeepsWords : CodeUnit → (bary tary : Option ℕ) → Type 0
KeepsWords (units.Check link rs1 imm slot) bary tary = ⊤
KeepsWords unit bary tary = (bary ≡ None) × (tary ≡ None)

-- the word of a check with which each of its tries begins
abbrev pub try_place : ℕ
try_place = 3

-- two words of a try, of the slot and of the target, with different versions
pub record AreApart (h : History) (slot target bary tary : ℕ) : Type 0 where
  pub branch : IsBaryWord h slot bary
  pub goal : IsTaryWord h target tary
  pub apart : epoch_in bary % h.versions ≢ epoch_in tary % h.versions

-- a try was repeated for two such words
pub record IsRepeat (h : History) (slot target : ℕ) : Type 0 where
  pub bary : ℕ
  pub tary : ℕ
  pub apart : AreApart h slot target bary tary

-- the check finds words with which it begins again; no other unit does
abbrev pub IsRetried : History → CodeUnit → State → Type 0
IsRetried h (units.Check link rs1 imm slot) s = IsRepeat h slot (displaced (register s rs1) imm)
IsRetried h _ s = ⊥

-- those that are kept where the next try begins
pub record AreKept (h : History) (slot target : ℕ) (bary tary : Option ℕ) : Type 0 where
  pub words : IsRepeat h slot target
  pub kept : bary ≡ Some words.bary
  pub last : tary ≡ Some words.tary

-- so it does with those that were kept
abbrev pub AreRetried : History → CodeUnit → State → (bary tary : Option ℕ) → Type 0
AreRetried h (units.Check link rs1 imm slot) s bary tary =
    AreKept h slot (displaced (register s rs1) imm) bary tary
AreRetried h _ s bary tary = ⊥

-- a unit has begun, and has neither ended nor stopped the guest; it has repeated so many tries
pub record IsInside (h : History) (code : List ℕ) (retries : ℕ) (s : State) (r : Raw) : Type 0 where
  pub going : s.stop ≡ None
  pub unit : CodeUnit
  pub stands : Stands code s.pc unit
  pub at : ℕ
  pub few : ℕ
  pub place : IsPlaceIn unit r.waits at few
  pub waits : MayWait (length code) unit s r.waits
  pub keeps : KeepsWords unit r.bary r.tary
  pub more : ℕ
  pub retried : more ≢ 0 → IsRetried h unit s
  pub words : more ≢ 0 → at ≡ try_place → AreRetried h unit s r.bary r.tary
  pub base : r.base ≡ moved_to (s.pc + 4 * at) (RETRY_STEPS * (retries + more) + few) s

-- the raw state stands at the end of a unit, or inside the next
abbrev pub Shows : History → (code : List ℕ) → (retries : ℕ) → State → Raw → Type 0
Shows h code retries s r = IsBetween retries s r ⊎ IsInside h code retries s r

-- after the accesses the raw state shows a state that the policy machine has reached, a unit for each that has ended;
-- tries are repeated only where picks are logged and two epochs are known
pub record IsShown (h : History) (code : List ℕ) (retries : ℕ) (old : State) (r : Raw) (takes : List Take)
    (settled : ℕ) (new : State) : Type 0 where
  pub runs : Runs h code (ends_along r takes) old new
  pub ready : IsReady h new
  pub least : retries ≤ settled
  pub picks : pick_entries old.log ≤ pick_entries new.log
  pub picked : pick_entries new.log ≡ 0 → settled ≡ retries
  pub single : h.count + h.ahead ≡ 1 → settled ≡ retries
  pub shows : Shows h code settled new (run_of r takes)

-- from a state that shows the policy machine's, the raw machine shows a later one, whatever fits comes
abbrev pub RawShowsPolicy : Type 0
RawShowsPolicy =
    (h : History) (code : List ℕ) → IsHistory h code →
    (old : State) → IsReady h old →
    (retries : ℕ) (r : Raw) → IsBetween retries old r →
    (takes : List Take) → Along h code r takes →
    (settled : ℕ) × (new : State) × IsShown h code retries old r takes settled new

-- a raw machine that waits for nothing always has a step for the code's word
abbrev pub RawHasSteps : Type 0
RawHasSteps =
    (h : History) (code : List ℕ) → IsHistory h code →
    (old : State) → IsReady h old →
    (retries : ℕ) (r : Raw) → IsBetween retries old r →
    (takes : List Take) → Along h code r takes → (run_of r takes).waits ≡ None →
    (word : ℕ) → Fits h code (run_of r takes) (Word word) → HasStepBy (insn_of word) (run_of r takes)

-- the premises can be met by each closed image, and by each guest that is opened at a start of it
abbrev pub FixedIsHistory : Type 0
FixedIsHistory =
    (image : Image) → IsSize (length image.code) → IsClosed (length image.code) image →
    IsHistory (fixed image) image.code

-- a guest as it is opened at a start stands between two units, ready for the first
abbrev pub OpenedIsReady : Type 0
OpenedIsReady =
    (h : History) (number entry : ℕ) (fills : List Fill) → IsStart h entry →
    IsReady h (opened number entry fills) × IsBetween 0 (opened number entry fills) (raw_opened number entry fills)
