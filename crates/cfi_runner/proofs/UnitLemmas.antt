-- The unit in which a guest pauses.
use Rattle.std.proofs.Common.{◌≡◌, ℕ, ◌+◌, Bool, true, false, cond, Option, Some, None, List, [], ◌∷◌, refl, sym, ap, subst, ◌∙◌, inl, inr}
use Rattle.std.proofs.lemmas.Option.{none-some}
use Rattle.cfi_unit.specs.declared.log.Stop.{Stop}
use Rattle.cfi_unit.specs.declared.log.Stop.TheVariants as stops
use Rattle.cfi_unit.specs.declared.unit.Unit.{Unit as CodeUnit}
use Rattle.cfi_unit.specs.declared.unit.Unit.TheVariants as units
use Rattle.cfi_word.specs.declared.map.TheConstants.{DATA_START}
use Rattle.cfi_model.specs.declared.act.Wait.TheVariants as waits
use Rattle.cfi_model.specs.Data.{load_width, store_width, is_aligned}
use Rattle.cfi_model.specs.Effect.{effect, masked_at}
use Rattle.cfi_model.specs.History.{History, allows_at}
use Rattle.cfi_model.specs.Raw.{Raw}
use Rattle.cfi_model.specs.Service.{Reply, service_of, asked}
use Rattle.cfi_model.specs.Shows.{End, IsStep, MayWait, Runs, Shows, Stands}
use Rattle.cfi_model.specs.State.{State}
use Rattle.cfi_model.proofs.HaltLemmas.{only_checks_halt, served_exits}
use Rattle.cfi_model.proofs.ShownLemmas.{shown_stop}
use Rattle.cfi_runner.specs.Shown.{AsksIn, IsLast, IsMisaligned, IsPausedIn}
use Rattle.cfi_runner.specs.Run.{PausesAt}
use Rattle.cfi_runner.specs.declared.pause.Pause.{Pause}
use Rattle.cfi_runner.specs.declared.pause.Pause.TheVariants as pauses

-- units have run, and the last one has stopped the guest
last_run : (h : History) (code : List ℕ) (ends : List End) (old new : State) → Runs h code ends old new
    → old.stop ≡ None → (stop : Stop) → new.stop ≡ Some stop → IsLast h code ends old new
last_run h code [] old new runs going stop stopped =
    absurd (none-some stop (sym going ∙ sym (ap (λ s. s.stop) runs) ∙ stopped))
last_run h code (end ∷ []) old new runs going stop stopped = record {
  front = [];
  end = end;
  is = refl;
  before = old;
  runs = refl;
  step = subst (IsStep h code end old) (sym runs.2) runs.1;
}
last_run h code (end ∷ next ∷ ends) old new runs going stop stopped =
    let last = last_run h code (next ∷ ends) runs.0 new runs.2 runs.2.1.going stop stopped in
    record {
      front = end ∷ last.front;
      end = last.end;
      is = ap (λ l. end ∷ l) last.is;
      before = last.before;
      runs = (runs.0, runs.1, last.runs);
      step = last.step;
    }

-- ---- a misaligned access

access_aligns : (fits : Bool) (stop : Option Stop) (at address : ℕ) → stop ≡ None
    → cond fits stop (Some (stops.Align at)) ≡ Some (stops.Align address) → (address ≡ at) × (fits ≡ false)
access_aligns true stop at address none some = absurd (none-some (stops.Align address) (sym none ∙ some))
access_aligns false stop at address none some = (cc, refl)

check_aligns : (goes : Bool) (stop : Option Stop) (to address : ℕ) → stop ≡ None
    → cond goes stop (Some (stops.Halt to)) ≡ Some (stops.Align address) → ⊥
check_aligns true stop to address none some = none-some (stops.Align address) (sym none ∙ some)
check_aligns false stop to address none some = absurd (cc)

module _ (code : List ℕ) (s : State) (going : s.stop ≡ None) (pick : ℕ) (allows : ℕ → ℕ → Bool) (reply : Reply)
    (address : ℕ) where
  aligns_by : (unit : CodeUnit) → Stands code s.pc unit
      → (effect unit pick allows reply s).stop ≡ Some (stops.Align address) → IsMisaligned code s address
  aligns_by (units.Plain insn) stands aligns = absurd (none-some (stops.Align address) (sym going ∙ aligns))
  aligns_by (units.Load kind rd rs1 imm) stands aligns = record {
    unit = units.Load kind rd rs1 imm;
    stands = stands;
    misses = access_aligns (is_aligned (load_width kind) (masked_at rs1 imm s)) s.stop
        (DATA_START + masked_at rs1 imm s) address going aligns;
  }
  aligns_by (units.Store kind rs1 rs2 imm) stands aligns = record {
    unit = units.Store kind rs1 rs2 imm;
    stands = stands;
    misses = access_aligns (is_aligned (store_width kind) (masked_at rs1 imm s)) s.stop
        (DATA_START + masked_at rs1 imm s) address going aligns;
  }
  aligns_by (units.Branch c rs1 rs2 off) stands aligns =
      absurd (none-some (stops.Align address) (sym going ∙ aligns))
  aligns_by (units.Jump link off) stands aligns = absurd (none-some (stops.Align address) (sym going ∙ aligns))
  aligns_by (units.Check link rs1 imm slot) stands aligns = absurd (check_aligns _ s.stop _ address going aligns)
  aligns_by units.Service stands aligns =
      let exits = served_exits (service_of (asked s)) s (stops.Align address) going aligns in absurd (cc)

only_accesses_align : (h : History) (code : List ℕ) (end : End) (old new : State) → IsStep h code end old new
    → (address : ℕ) → new.stop ≡ Some (stops.Align address) → IsMisaligned code old address
only_accesses_align h code end old new step address aligns =
    aligns_by code old step.going (h.policy step.epoch) (allows_at h step.epoch) step.reply address step.unit
    step.stands (sym (ap (λ s. s.stop) step.is) ∙ aligns)

-- ---- a service

asks_by : (code : List ℕ) (s : State) (number : ℕ) (unit : CodeUnit) → Stands code s.pc unit → (code_words : ℕ)
    → MayWait code_words unit s (Some (waits.Service number)) → AsksIn code s number
asks_by code s number (units.Plain insn) stands c may = absurd may
asks_by code s number (units.Load kind rd rs1 imm) stands c may = absurd may
asks_by code s number (units.Store kind rs1 rs2 imm) stands c may = absurd may
asks_by code s number (units.Branch b rs1 rs2 off) stands c may = absurd may
asks_by code s number (units.Jump link off) stands c may = absurd may
asks_by code s number (units.Check link rs1 imm slot) stands c may = absurd may
asks_by code s number units.Service stands c may = record { stands = stands; is = may }

asks_in : (h : History) (code : List ℕ) (retries : ℕ) (s : State) (r : Raw) → Shows h code retries s r
    → (number : ℕ) → r.waits ≡ Some (waits.Service number) → AsksIn code s number
asks_in h code retries s r (inl between) number wait =
    let both : None ≡ Some (waits.Service number) = sym between.idle ∙ wait in
    absurd (cc)
asks_in h code retries s r (inr inside) number wait =
    asks_by code s number inside.unit inside.stands _ (subst (MayWait _ inside.unit s) wait inside.waits)

-- ---- each pause

pub paused : (h : History) (code : List ℕ) (ends : List End) (old s : State) → Runs h code ends old s
    → old.stop ≡ None → (retries : ℕ) (last : Raw) → Shows h code retries s last → (pause : Pause) (fuel : ℕ) (new : Raw)
    → PausesAt pause fuel last new → IsPausedIn h code ends old s pause
paused h code ends old s runs going retries last shows (pauses.Service number) fuel new is =
    (sym (shown_stop h code retries s last shows) ∙ is.2, asks_in h code retries s last shows number is.1)
paused h code ends old s runs going retries last shows (pauses.Halt target) fuel new is =
    let stop = sym (shown_stop h code retries s last shows) ∙ is.2 in
    let unit = last_run h code ends old s runs going (stops.Halt target) stop in
    (unit, only_checks_halt h code unit.end unit.before s unit.step target stop)
paused h code ends old s runs going retries last shows (pauses.Align address) fuel new is =
    let stop = sym (shown_stop h code retries s last shows) ∙ is.2 in
    let unit = last_run h code ends old s runs going (stops.Align address) stop in
    (unit, only_accesses_align h code unit.end unit.before s unit.step address stop)
paused h code ends old s runs going retries last shows pauses.Fuel fuel new is =
    sym (shown_stop h code retries s last shows) ∙ is.0.going
