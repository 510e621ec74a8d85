-- What valid reports of one plan agree in.
use Rattle.std.proofs.Common.{◌≡◌, ◌≢◌, ℕ, ◌<◌, List, map, Option, Some, None, refl, sym, ap, subst, ◌∙◌, ⊎_elim}
use Rattle.std.specs.List.{slice_get}
use Rattle.std.proofs.lemmas.Bool.{cases_order}
use Rattle.cfi_aux.specs.declared.modules.Module.{Module}
use Rattle.cfi_unit.specs.declared.fill.Fill.{Fill}
use Rattle.cfi_unit.specs.declared.log.Stop.{Stop}
use Rattle.cfi_unit.specs.declared.log.Stop.TheVariants as stops
use Rattle.cfi_unit.specs.declared.log.Log.{Log}
use Rattle.cfi_model.specs.State.{State, opened}
use Rattle.cfi_plan.specs.declared.plan.Plan.{Plan}
use Rattle.cfi_plan.specs.declared.journal.Entry.{Entry}
use Rattle.cfi_report.specs.declared.report.GuestPart.{GuestPart}
use Rattle.cfi_report.specs.declared.report.Report.{Report}
use Rattle.cfi_valid.specs.Agree.{HasSameEnd, EndsAlike, AgreeIn}
use Rattle.cfi_valid.specs.Course.{Course}
use Rattle.cfi_valid.specs.Guests.{GuestBegins}
use Rattle.cfi_valid.specs.Journal.{JournalState, members_of, IsJournal}
use Rattle.cfi_valid.specs.Loaded.{Members, placed_modules, Cells, Filled, start_fills, module_line_of}
use Rattle.cfi_valid.specs.Replay.{Replays, shown_stop}
use Rattle.cfi_valid.specs.Parts.{IsPartOf, ComesTo, HasReplay, HasEndedReplay}
use Rattle.cfi_valid.specs.Valid.{course_of, IsValidReport}
use Rattle.cfi_valid.proofs.CodeLemmas.{code_once}
use Rattle.cfi_valid.proofs.EntryLemmas.{begins_once}
use Rattle.cfi_valid.proofs.JournalLemmas.{journal_once}
use Rattle.cfi_valid.proofs.ReplayLemmas.{replay_once, stopped_last}

-- ---- one guest

-- the stop of a guest that has stopped
abbrev ended_stop : Option Stop → Option Stop
ended_stop None = Some stops.Fuel
ended_stop (Some stop) = Some stop

stop_is : (stop : Option Stop) → stop ≢ None → stop ≡ ended_stop (shown_stop stop)
stop_is None some = absurd (some refl)
stop_is (Some (stops.Exit code)) some = refl
stop_is (Some (stops.Halt address)) some = refl
stop_is (Some (stops.Align address)) some = refl
stop_is (Some stops.Fuel) some = refl

shown_some : (stop : Option Stop) → stop ≢ None → stop ≢ Some stops.Fuel → shown_stop stop ≢ None
shown_some None some other = absurd (some refl)
shown_some (Some (stops.Exit code)) some other = λ none. absurd (cc)
shown_some (Some (stops.Halt address)) some other = λ none. absurd (cc)
shown_some (Some (stops.Align address)) some other = λ none. absurd (cc)
shown_some (Some stops.Fuel) some other = absurd (other refl)

module _ (cells : Cells) (members : Members) (fills : List Fill) (s : State) where
  replay_as : (code code' : List ℕ) (log log' : List Log) (number number' address address' units : ℕ)
      → code ≡ code' → log ≡ log' → number ≡ number' → address ≡ address'
      → Replays cells code members log units (opened number address fills) s
      → Replays cells code' members log' units (opened number' address' fills) s
  replay_as code code' log log' number number' address address' units c l n a replay =
      subst (λ (x : ℕ). Replays cells code' members log' units (opened number' x fills) s) a
      (subst (λ (x : ℕ). Replays cells code' members log' units (opened x address fills) s) n
      (subst (λ (x : List Log). Replays cells code' members x units (opened number address fills) s) l
      (subst (λ (x : List ℕ). Replays cells x members log units (opened number address fills) s) c replay)))

-- the replay of one part, as one of the other
as_other : (cells : Cells) (c : Course) (a b : GuestPart) (s t : State) (p : ComesTo cells c a s)
    (q : ComesTo cells c b t) → a.number ≡ b.number → a.entry ≡ b.entry → a.log ≡ b.log
    → Replays cells q.code (members_of c.end) b.log a.units
    (opened b.number q.address (start_fills cells (members_of c.end))) s
as_other cells c a b s t p q number entry log =
    let loaded = c.end.loaded in
    let code = code_once (placed_modules loaded) c.plan.code_words p.code q.code p.is_code q.is_code in
    let address = begins_once c.plan loaded b.entry p.address q.address
    (subst (λ (name : List ℕ). GuestBegins c.plan loaded name p.address) entry p.begins) q.begins in
    let members = members_of c.end in
    replay_as cells members (start_fills cells members) s p.code q.code a.log b.log a.number b.number p.address
    q.address a.units code log number address p.replay

-- two parts that say one guest, one log and as many units come to one state
pub comes_once : (cells : Cells) (c : Course) (a b : GuestPart) (s t : State) → ComesTo cells c a s
    → ComesTo cells c b t → a.number ≡ b.number → a.entry ≡ b.entry → a.log ≡ b.log → a.units ≡ b.units → s ≡ t
comes_once cells c a b s t p q number entry log units =
    let members = members_of c.end in
    let start : State = opened b.number q.address (start_fills cells members) in
    replay_once cells q.code members b.log b.units start s t
    (subst (λ (n : ℕ). Replays cells q.code members b.log n start s) units
    (as_other cells c a b s t p q number entry log)) q.replay

module _ (cells : Cells) (c : Course) (a b : GuestPart) (p : HasReplay cells c a) (q : HasReplay cells c b)
    (number : a.number ≡ b.number) (entry : a.entry ≡ b.entry) (log : a.log ≡ b.log) where
  part_same : a.units ≡ b.units → (a.out ≡ b.out) × (shown_stop a.stop ≡ shown_stop b.stop)
  part_same units =
      let last = comes_once cells c a b p.last q.last p.comes q.comes number entry log units in (
        sym p.output ∙ ap (λ (s : State). s.output) last ∙ q.output,
        sym p.stop ∙ ap (λ (s : State). s.stop) last ∙ q.stop,
      )

  -- and as long, where no fuel stopped it
  units_same : shown_stop a.stop ≢ None → shown_stop b.stop ≢ None → a.units ≡ b.units
  units_same one other =
      let code = q.comes.code in
      let start : State = opened b.number q.comes.address (start_fills cells (members_of c.end)) in
      let replay = as_other cells c a b p.last q.last p.comes q.comes number entry log in
      ⊎_elim
      (λ same. same)
      (λ apart. ⊎_elim
      (λ (less : a.units < b.units).
      absurd (stopped_last cells code (members_of c.end) b.log a.units b.units start p.last q.last replay
      (λ none. one (sym p.stop ∙ none)) q.comes.replay less))
      (λ (more : b.units < a.units).
      absurd (stopped_last cells code (members_of c.end) b.log b.units a.units start q.last p.last q.comes.replay
      (λ none. other (sym q.stop ∙ none)) replay more))
      apart)
      (cases_order a.units b.units)

-- two parts of the plan's guest of one number
ended_alike : (c : Course) (number : ℕ) (a b : GuestPart) → IsPartOf c number a → IsPartOf c number b
    → HasEndedReplay c a → HasEndedReplay c b → a.log ≡ b.log → EndsAlike a b
ended_alike c number a b one other p q log =
    let both : Some a.entry ≡ Some b.entry = sym one.entry ∙ other.entry in
    let entry : a.entry ≡ b.entry = cc in
    let numbers = one.is ∙ sym other.is in
    let counted : a.units ≡ b.units → HasSameEnd a b = λ units.
    let same = part_same Filled c a b p.replay q.replay numbers entry log units in
    record {
      units = units;
      out = same.0;
      stop = stop_is a.stop p.stopped ∙ ap ended_stop same.1 ∙ sym (stop_is b.stop q.stopped);
    } in
    record {
      counted = counted;
      alone = λ first second. counted (units_same Filled c a b p.replay q.replay numbers entry log
          (shown_some a.stop p.stopped first) (shown_some b.stop q.stopped second));
    }

-- ---- reports

module _ (plan : Plan) (modules : List Module) (a b : Report) (p : IsValidReport plan modules a)
    (q : IsValidReport plan modules b) (journal : a.journal ≡ b.journal) where
  end_same : p.end ≡ q.end
  end_same =
      journal_once plan modules b.journal p.end q.end
      (subst (λ (entries : List Entry). IsJournal plan modules entries p.end) journal p.journal.course) q.journal.course

  course_same : course_of plan modules a p.end ≡ course_of plan modules b q.end
  course_same =
      let same = end_same in
      cc

  guests_same : (number : ℕ) (g h : GuestPart) → slice_get a.guests number ≡ Some g → slice_get b.guests number ≡ Some h
      → g.log ≡ h.log → EndsAlike g h
  guests_same number g h is there log =
      ended_alike (course_of plan modules b q.end) number g h
      (subst (λ (c : Course). IsPartOf c number g) course_same (p.guests.parts number g is))
      (q.guests.parts number h there)
      (subst (λ (c : Course). HasEndedReplay c g) course_same (p.replay number g is)) (q.replay number h there) log

  pub reports_same : AgreeIn a b
  reports_same = record {
    epoch = p.journal.epoch ∙ ap (λ (s : JournalState). s.epoch) end_same ∙ sym q.journal.epoch;
    policy = p.journal.policy ∙ ap (λ (s : JournalState). s.policy) end_same ∙ sym q.journal.policy;
    lines = p.listed.lines ∙ ap (λ (s : JournalState). map (module_line_of plan.modules) s.loaded) end_same
        ∙ sym q.listed.lines;
    guests = guests_same;
  }
