-- Loads and retirements that fit come through.
use Rattle.std.proofs.Common.{◌≡◌, ◌≢◌, ℕ, List, Some, None, sym, ap, subst, ◌∙◌, ⊎_elim, arith}
use Rattle.std.specs.List.{AllPairs}
use Rattle.cfi_aux.specs.declared.modules.Module.{Module}
use Rattle.cfi_aux.specs.declared.placed.Placed.{Placed}
use Rattle.cfi_graph.specs.Live.{IsUser}
use Rattle.cfi_plan.specs.declared.journal.JournalLine.{JournalLine}
use Rattle.cfi_plan.specs.declared.journal.JournalLine.TheVariants.{LoadOk, LoadAgain, LoadFull, LoadPlace, LoadVerify, LoadVersions, LoadEpochs, LoadRetired, RefreshOk, RefreshVersions, RefreshEpochs, RetireOk, RetireNotLive, RetireInUse, RetireVersions, RetireEpochs}
use Rattle.cfi_modules.specs.Numbers.{numbers_of}
use Rattle.cfi_modules.specs.Order.{IsJoinFault}
use Rattle.cfi_modules.specs.declared.fault.JoinFault.{JoinFault}
use Rattle.cfi_modules.specs.declared.fault.JoinFault.TheVariants.{Memory}
use Rattle.cfi_modules.specs.declared.numbers.FaultNumbers.{FaultNumbers}
use Rattle.cfi_modules.proofs.OrderLemmas.{joins_or_refused}
use Rattle.cfi_valid.specs.Course.{Course}
use Rattle.cfi_valid.specs.Joining.{IsFull, HasFault}
use Rattle.cfi_valid.specs.Journal.{JournalState, live_in, members_of, LineLeads, IsTooOld}
use Rattle.cfi_valid.specs.Loaded.{LoadedModule, IsLoaded, placed_modules, live_flags}
use Rattle.cfi_valid.specs.Retiring.{HasGone, HasUser, IsLiveAt}
use Rattle.cfi_valid.specs.Script.{Load, Retire, call_of}
use Rattle.cfi_loader.specs.Fitting.{LoadFits, RetirementFits, ComesThrough, HasFewUpdates, HasVersion}
use Rattle.cfi_loader.proofs.NumberLemmas.{live_loaded, place_once}

module _ (c : Course) (number : ℕ) where
  -- what is live is loaded
  is_loaded : IsLiveAt c.end.policy (members_of c.end) number → IsLoaded c.end.loaded number
  is_loaded there = live_loaded c.end.policy (members_of c.end) number there

  not_full : IsFull c.modules c.end.loaded number → LoadFits c number → ⊥
  not_full full fits = ⊎_elim
      (λ there. full.absent (is_loaded there))
      (λ clean. omega (arith, full.full, clean.absent.room))
      fits

  not_gone : HasGone c.end.loaded (live_in c.end) number → LoadFits c number → ⊥
  not_gone gone fits = ⊎_elim (λ there. gone.gone there) (λ clean. clean.absent.absent gone.has) fits

  no_numbers : (fault : JoinFault) (numbers : FaultNumbers) → fault ≡ Memory → numbers_of fault ≡ Some numbers → ⊥
  no_numbers fault numbers is told =
      let none : numbers_of fault ≡ None = ap numbers_of is in
      absurd (cc)

  no_fault : (numbers : FaultNumbers)
      → HasFault c.plan.code_words c.modules c.end.loaded (live_in c.end) number numbers → LoadFits c number → ⊥
  no_fault numbers has fits = ⊎_elim
      (λ there. has.absent.absent (is_loaded there))
      (λ clean.
      let before : List Placed = placed_modules c.end.loaded in
      let live : List Placed = placed_modules (live_in c.end) in
      let both : Some has.absent.unplaced ≡ Some clean.absent.unplaced = sym has.absent.is ∙ clean.absent.is in
      let same : has.absent.unplaced ≡ clean.absent.unplaced = cc in
      let stands : IsJoinFault c.plan.code_words before live clean.absent.unplaced has.fault =
      subst (λ (m : Module). IsJoinFault c.plan.code_words before live m has.fault) same has.stands in
      no_numbers has.fault numbers
      (joins_or_refused c.plan.code_words before live clean.absent.unplaced clean.placed has.fault clean.joins stands)
      has.told)
      fits

  -- ---- a retirement

  -- of loaded modules one has the number
  abbrev pub AreOnce : Type 0
  AreOnce = AllPairs (λ (a b : LoadedModule). a.number ≢ b.number) c.end.loaded

  no_user : (user : ℕ) → AreOnce → HasUser c.end.policy (members_of c.end) number user → RetirementFits c number → ⊥
  no_user user once has fits =
      let same : fits.place ≡ has.place =
      place_once c.end.loaded once fits.place has.place fits.stands.0 has.stands.0 fits.stands.1 has.stands.1
      (fits.stands.2 ∙ sym has.stands.2) in
      fits.none has.by
      (subst (λ (at : ℕ). IsUser (placed_modules c.end.loaded) (live_flags c.end.policy (members_of c.end)) at has.by)
      (sym same) has.first.is)

-- the call of a load is of one module
same_number : (a b : ℕ) → Load a ≡ Load b → a ≡ b
same_number a b same = cc

pub through : (c : Course) (line : JournalLine) (number : ℕ) (new : JournalState)
    → LineLeads c.plan c.modules c.end line new → call_of line ≡ Load number → LoadFits c number → ComesThrough line
through c (LoadOk n epoch policy) number new leads call fits = tt
through c (LoadAgain n policy) number new leads call fits = tt
through c (LoadFull n) number new leads call fits =
    not_full c number (subst (IsFull c.modules c.end.loaded) (same_number n number call) leads.0) fits
through c (LoadPlace n fault) number new leads call fits =
    no_fault c n _ leads.0 (subst (LoadFits c) (sym (same_number n number call)) fits)
through c (LoadVerify n fault place) number new leads call fits =
    no_fault c n _ leads.0 (subst (LoadFits c) (sym (same_number n number call)) fits)
through c (LoadVersions n guest quiet) number new leads call fits = tt
through c (LoadEpochs n) number new leads call fits = tt
through c (LoadRetired n) number new leads call fits =
    not_gone c n leads.0 (subst (LoadFits c) (sym (same_number n number call)) fits)
through c (RefreshOk epoch) number new leads call fits = absurd (cc)
through c (RefreshVersions guest quiet) number new leads call fits = absurd (cc)
through c RefreshEpochs number new leads call fits = absurd (cc)
through c (RetireOk n epoch policy) number new leads call fits = absurd (cc)
through c (RetireNotLive n) number new leads call fits = absurd (cc)
through c (RetireInUse n user) number new leads call fits = absurd (cc)
through c (RetireVersions n guest quiet) number new leads call fits = absurd (cc)
through c (RetireEpochs n) number new leads call fits = absurd (cc)

-- nor is a retirement of two
same_retired : (a b : ℕ) → Retire a ≡ Retire b → a ≡ b
same_retired a b same = cc

pub retirement_through : (c : Course) → AllPairs (λ (a b : LoadedModule). a.number ≢ b.number) c.end.loaded
    → (line : JournalLine) (number : ℕ) (new : JournalState) → LineLeads c.plan c.modules c.end line new
    → call_of line ≡ Retire number → RetirementFits c number → ComesThrough line
retirement_through c once (LoadOk n epoch policy) number new leads call fits = tt
retirement_through c once (LoadAgain n policy) number new leads call fits = tt
retirement_through c once (LoadFull n) number new leads call fits = absurd (cc)
retirement_through c once (LoadPlace n fault) number new leads call fits = absurd (cc)
retirement_through c once (LoadVerify n fault place) number new leads call fits = absurd (cc)
retirement_through c once (LoadVersions n guest quiet) number new leads call fits = tt
retirement_through c once (LoadEpochs n) number new leads call fits = tt
retirement_through c once (LoadRetired n) number new leads call fits = absurd (cc)
retirement_through c once (RefreshOk epoch) number new leads call fits = absurd (cc)
retirement_through c once (RefreshVersions guest quiet) number new leads call fits = absurd (cc)
retirement_through c once RefreshEpochs number new leads call fits = absurd (cc)
retirement_through c once (RetireOk n epoch policy) number new leads call fits = tt
retirement_through c once (RetireNotLive n) number new leads call fits =
    leads.0 (subst (IsLiveAt c.end.policy (members_of c.end)) (sym (same_retired n number call)) fits.live)
retirement_through c once (RetireInUse n user) number new leads call fits =
    no_user c n user once leads.0 (subst (RetirementFits c) (sym (same_retired n number call)) fits)
retirement_through c once (RetireVersions n guest quiet) number new leads call fits = tt
retirement_through c once (RetireEpochs n) number new leads call fits = tt

not_old : (c : Course) (guest quiet : ℕ) → IsTooOld c.plan c.end guest quiet → HasFewUpdates c → ⊥
not_old c guest quiet late few = omega (arith, late.least, late.most, late.late, few)

pub has_version : (c : Course) (line : JournalLine) (new : JournalState) → LineLeads c.plan c.modules c.end line new
    → HasFewUpdates c → HasVersion line
has_version c (LoadOk n epoch policy) new leads few = tt
has_version c (LoadAgain n policy) new leads few = tt
has_version c (LoadFull n) new leads few = tt
has_version c (LoadPlace n fault) new leads few = tt
has_version c (LoadVerify n fault place) new leads few = tt
has_version c (LoadVersions n guest quiet) new leads few = not_old c guest quiet leads.1 few
has_version c (LoadEpochs n) new leads few = tt
has_version c (LoadRetired n) new leads few = tt
has_version c (RefreshOk epoch) new leads few = tt
has_version c (RefreshVersions guest quiet) new leads few = not_old c guest quiet leads.0 few
has_version c RefreshEpochs new leads few = tt
has_version c (RetireOk n epoch policy) new leads few = tt
has_version c (RetireNotLive n) new leads few = tt
has_version c (RetireInUse n user) new leads few = tt
has_version c (RetireVersions n guest quiet) new leads few = not_old c guest quiet leads.1 few
has_version c (RetireEpochs n) new leads few = tt
