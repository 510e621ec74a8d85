-- The journal of a run: what stands after some of its lines, and which line may come next. Epochs, policies, modules
-- and guests are told by their numbers.
use Rattle.std.specs.Prelude.{◌≡◌, ℕ, ◌+◌, ◌-◌, ◌<◌, ◌≤◌, Bool, true, false, if◌then◌else◌, List, [], ◌∷◌, ◌++◌, length, map, slice_get, All, filter_map, ⊤}
use Rattle.cfi_aux.specs.declared.modules.Module.{Module}
use Rattle.cfi_aux.specs.declared.placed.Placed.{Placed}
use Rattle.cfi_plan.specs.declared.journal.Entry.{Entry}
use Rattle.cfi_plan.specs.declared.journal.JournalLine.{JournalLine}
use Rattle.cfi_plan.specs.declared.journal.JournalLine.TheVariants.{LoadOk, LoadAgain, LoadFull, LoadPlace, LoadVerify, LoadVersions, LoadEpochs, LoadRetired, RefreshOk, RefreshVersions, RefreshEpochs, RetireOk, RetireNotLive, RetireInUse, RetireVersions, RetireEpochs}
use Rattle.cfi_plan.specs.declared.journal.Who.{Who}
use Rattle.cfi_plan.specs.declared.journal.Who.TheVariants.{Script, Guest}
use Rattle.cfi_plan.specs.declared.plan.Plan.{Plan}
use Rattle.cfi_plan.specs.declared.plan.PlanModule.{PlanModule}
use Rattle.cfi_modules.specs.declared.numbers.FaultNumbers.{FaultNumbers}
use Rattle.cfi_modules.specs.declared.numbers.FaultNumbers.TheVariants.{Place, Verify}
use Rattle.cfi_modules.specs.Order.{AreInOrder}
use Rattle.cfi_valid.specs.Joining.{IsFull, HasFault, HasNoFault}
use Rattle.cfi_valid.specs.Loaded.{LoadedModule, placed_modules, Members, live_at}
use Rattle.cfi_valid.specs.declared.retirement.Retirement.{Retirement}
use Rattle.cfi_valid.specs.Retiring.{IsLiveAt, HasGone, HasUser, HasNoUser}
use Rattle.cfi_word.specs.declared.limits.TheConstants.{MAX_EPOCH}

-- the epoch and the policy in force, the modules that are loaded, in load order, and which of them were retired
pub record JournalState : Type 0 where
  pub epoch : ℕ
  pub policy : ℕ
  pub loaded : List LoadedModule
  pub retired : List Retirement

-- its modules
abbrev pub members_of : JournalState → Members
members_of s = record { loaded = s.loaded; retired = s.retired }

-- those that are live under the policy in force
abbrev pub live_in : JournalState → List LoadedModule
live_in s = live_at s.policy (members_of s)

-- ---- before the first line

-- the numbers of the start modules, where the first of those that are left has this number
abbrev pub starts_from : (number : ℕ) → List PlanModule → List ℕ
starts_from number [] = []
starts_from number (one ∷ later) =
    if one.start then number ∷ starts_from (number + 1) later else starts_from (number + 1) later

-- the modules of some numbers
abbrev pub modules_at : List Module → (numbers : List ℕ) → List Module
modules_at modules numbers = filter_map (slice_get modules) numbers

-- the first epoch, policy 0, and the start modules in plan order, each without a fault behind those before it; none was
-- retired
pub record IsOpeningState (plan : Plan) (modules : List Module) (s : JournalState) : Type 0 where
  pub epoch : s.epoch ≡ plan.first
  pub policy : s.policy ≡ 0
  pub starts : map (λ (l : LoadedModule). l.number) s.loaded ≡ starts_from 0 plan.modules
  pub policies : All (λ (l : LoadedModule). l.policy ≡ 0) s.loaded
  pub order : AreInOrder plan.code_words (modules_at modules (starts_from 0 plan.modules)) (placed_modules s.loaded)
  pub stay : s.retired ≡ []

-- ---- who may ask

-- a load was asked for: a case a line
abbrev pub is_load : JournalLine → Bool
is_load (LoadOk number epoch policy) = true
is_load (LoadAgain number policy) = true
is_load (LoadFull number) = true
is_load (LoadPlace number fault) = true
is_load (LoadVerify number fault place) = true
is_load (LoadVersions number guest quiet) = true
is_load (LoadEpochs number) = true
is_load (LoadRetired number) = true
is_load (RefreshOk epoch) = false
is_load (RefreshVersions guest quiet) = false
is_load RefreshEpochs = false
is_load (RetireOk number epoch policy) = false
is_load (RetireNotLive number) = false
is_load (RetireInUse number user) = false
is_load (RetireVersions number guest quiet) = false
is_load (RetireEpochs number) = false

-- the script asks for anything, a guest of the plan for loads alone
abbrev pub MayAsk : Plan → Who → JournalLine → Type 0
MayAsk plan Script line = ⊤
MayAsk plan (Guest number) line = (number < length plan.guests) × (is_load line ≡ true)

-- ---- the lines

-- the module is live already, under the policy in force
pub record IsAgain (s : JournalState) (number policy : ℕ) : Type 0 where
  pub live : IsLiveAt s.policy (members_of s) number
  pub force : policy ≡ s.policy

-- an update goes to the next epoch
pub record HasNextEpoch (s : JournalState) (epoch : ℕ) : Type 0 where
  pub left : s.epoch < MAX_EPOCH
  pub next : epoch ≡ s.epoch + 1

-- there is none
abbrev pub IsOutOfEpochs : JournalState → Type 0
IsOutOfEpochs s = s.epoch ≡ MAX_EPOCH

-- a guest has published an epoch that is too far below it
pub record IsTooOld (plan : Plan) (s : JournalState) (guest quiet : ℕ) : Type 0 where
  pub left : s.epoch < MAX_EPOCH
  pub known : guest < length plan.guests
  pub least : plan.first ≤ quiet
  pub most : quiet ≤ s.epoch
  pub late : quiet + plan.versions - 2 < s.epoch + 1

-- a module that is not loaded has no fault
abbrev pub IsClean : Plan → List Module → JournalState → (number : ℕ) → Type 0
IsClean plan modules s number = HasNoFault plan.code_words modules s.loaded (live_in s) number

-- it has this one
abbrev pub IsFaulty : Plan → List Module → JournalState → (number : ℕ) → FaultNumbers → Type 0
IsFaulty plan modules s number fault = HasFault plan.code_words modules s.loaded (live_in s) number fault

-- a live module has no user
abbrev pub IsUnused : JournalState → (number : ℕ) → Type 0
IsUnused s number = HasNoUser s.policy (members_of s) number

-- it is loaded, with the next epoch and the next policy
pub record IsLoadLine (plan : Plan) (modules : List Module) (s : JournalState) (number epoch policy : ℕ) : Type 0 where
  pub clean : IsClean plan modules s number
  pub goes : HasNextEpoch s epoch
  pub next : policy ≡ s.policy + 1

-- it is retired, with the next epoch and the next policy
pub record IsRetireLine (s : JournalState) (number epoch policy : ℕ) : Type 0 where
  pub unused : IsUnused s number
  pub goes : HasNextEpoch s epoch
  pub next : policy ≡ s.policy + 1

-- the state with the module more
abbrev pub with_loaded : (number epoch policy : ℕ) → Placed → JournalState → JournalState
with_loaded number epoch policy placed s = record {
  epoch = epoch;
  policy = policy;
  loaded = s.loaded ++ record { number = number; placed = placed; policy = policy } ∷ [];
  retired = s.retired;
}

-- the state with the module retired
abbrev pub with_retired : (number epoch policy : ℕ) → JournalState → JournalState
with_retired number epoch policy s = record {
  epoch = epoch;
  policy = policy;
  loaded = s.loaded;
  retired = s.retired ++ record { number = number; policy = policy } ∷ [];
}

-- a line leads from one state to another: a case a row
abbrev pub LineLeads : Plan → List Module → (old : JournalState) → JournalLine → (new : JournalState) → Type 0
LineLeads plan modules old (LoadOk number epoch policy) new =
    (load : IsLoadLine plan modules old number epoch policy)
    × (new ≡ with_loaded number epoch policy load.clean.placed old)
LineLeads plan modules old (LoadAgain number policy) new = IsAgain old number policy × (new ≡ old)
LineLeads plan modules old (LoadFull number) new = IsFull modules old.loaded number × (new ≡ old)
LineLeads plan modules old (LoadPlace number fault) new =
    IsFaulty plan modules old number (Place fault) × (new ≡ old)
LineLeads plan modules old (LoadVerify number fault place) new =
    IsFaulty plan modules old number (Verify fault place) × (new ≡ old)
LineLeads plan modules old (LoadVersions number guest quiet) new =
    IsClean plan modules old number × IsTooOld plan old guest quiet × (new ≡ old)
LineLeads plan modules old (LoadEpochs number) new = IsClean plan modules old number × IsOutOfEpochs old × (new ≡ old)
LineLeads plan modules old (LoadRetired number) new = HasGone old.loaded (live_in old) number × (new ≡ old)
LineLeads plan modules old (RefreshOk epoch) new = HasNextEpoch old epoch × (new ≡ record old { epoch = epoch })
LineLeads plan modules old (RefreshVersions guest quiet) new = IsTooOld plan old guest quiet × (new ≡ old)
LineLeads plan modules old RefreshEpochs new = IsOutOfEpochs old × (new ≡ old)
LineLeads plan modules old (RetireOk number epoch policy) new =
    IsRetireLine old number epoch policy × (new ≡ with_retired number epoch policy old)
LineLeads plan modules old (RetireNotLive number) new =
    (¬ IsLiveAt old.policy (members_of old) number) × (new ≡ old)
LineLeads plan modules old (RetireInUse number user) new =
    HasUser old.policy (members_of old) number user × (new ≡ old)
LineLeads plan modules old (RetireVersions number guest quiet) new =
    IsUnused old number × IsTooOld plan old guest quiet × (new ≡ old)
LineLeads plan modules old (RetireEpochs number) new = IsUnused old number × IsOutOfEpochs old × (new ≡ old)

-- an entry does: who asked may ask
abbrev pub EntryLeads : Plan → List Module → (old : JournalState) → Entry → (new : JournalState) → Type 0
EntryLeads plan modules old entry new = MayAsk plan entry.who entry.what × LineLeads plan modules old entry.what new

-- entries do, one after the other
abbrev pub EntriesLead : Plan → List Module → (old : JournalState) → List Entry → (new : JournalState) → Type 0
EntriesLead plan modules old [] new = new ≡ old
EntriesLead plan modules old (entry ∷ entries) new =
    (mid : JournalState) × EntryLeads plan modules old entry mid × EntriesLead plan modules mid entries new

-- the journal leads from the opening of the plan to this state
pub record IsJournal (plan : Plan) (modules : List Module) (journal : List Entry) (end : JournalState) : Type 0 where
  pub opening : JournalState
  pub opens : IsOpeningState plan modules opening
  pub leads : EntriesLead plan modules opening journal end
