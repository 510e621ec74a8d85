-- The report of the run with a load, changed in one thing.
use Rattle.std.proofs.Common.{◌≡◌, ℕ, zero, suc, ◌+◌, ◌*◌, ◌≤◌, ◌<◌, List, [], ◌∷◌, length, map, Option, Some, inl, inr, refl, sym, ap, subst, ◌∙◌, arith}
use Rattle.std.specs.Prelude.{codes, replicate}
use Rattle.std.specs.List.{Contains}
use Rattle.std.proofs.lemmas.List.{length-map, append-nil}
use Rattle.cfi_flow.proofs.Members.{member_cases, member_of_one}
use Rattle.cfi_model.specs.State.{State}
use Rattle.cfi_plan.specs.declared.journal.Entry.{Entry}
use Rattle.cfi_plan.specs.declared.journal.ModuleLine.{ModuleLine}
use Rattle.cfi_plan.specs.declared.journal.Who.{Who}
use Rattle.cfi_plan.specs.declared.journal.Who.TheVariants.{Script, Guest}
use Rattle.cfi_plan.specs.declared.plan.ScriptLine.TheVariants as script
use Rattle.cfi_report.specs.declared.report.GuestPart.{GuestPart}
use Rattle.cfi_report.specs.declared.report.Report.{Report}
use Rattle.cfi_modules.specs.Entry.{IsGlobal, IsFirstOf}
use Rattle.cfi_unit.specs.declared.log.Log.TheVariants.{Pick, Open, Cause}
use Rattle.cfi_unit.specs.declared.log.Stop.{Stop}
use Rattle.cfi_unit.specs.declared.log.Stop.TheVariants.{Exit}
use Rattle.cfi_valid.specs.declared.causes.TheConstants.{VERSIONS_SPENT}
use Rattle.cfi_valid.specs.Agree.{EndsAlike}
use Rattle.cfi_valid.specs.Journal.{JournalState, members_of, IsJournal}
use Rattle.cfi_valid.specs.Lies.{opening, opening_by, opening_logged, opening_at, opening_alone, opening_asked, scripted, IsOpening}
use Rattle.cfi_valid.specs.LoadExample.{load_plan, line_at, load_part}
use Rattle.cfi_valid.specs.Loaded.{LoadedModule, Filled, live_at, module_line_of}
use Rattle.cfi_valid.specs.Log.{HasFunctionAt}
use Rattle.cfi_valid.specs.Modules.{origin_of}
use Rattle.cfi_valid.specs.Parts.{FitsEndedSteps}
use Rattle.cfi_valid.specs.Script.Call.{Load, Refresh}
use Rattle.cfi_valid.specs.Valid.{course_of}
use Rattle.cfi_valid.proofs.EntryLemmas.{first_once}
use Rattle.cfi_valid.proofs.JournalLemmas.{journal_once}
use Rattle.cfi_valid.proofs.ValidLemmas.{comes_once, reports_same}
use Rattle.cfi_valid.proofs.example.LoadJournal.{modules, first, second, loaded, end}
use Rattle.cfi_valid.proofs.example.LoadLemmas.{course, plug_open, comes, journal, valid}
use Rattle.cfi_valid.proofs.example.LoadReplay.{s7}
use Rattle.cfi_word.specs.declared.map.TheConstants.{FIRST_BASE}
use Rattle.cfi_word.specs.declared.sizes.TheConstants.{RETRY_STEPS}

-- a report with this journal ends in the one state
module _ (report : Report) (same : report.journal ≡ opening.journal) (is : IsOpening load_plan report) where
  end_is : is.end ≡ end
  end_is =
      journal_once load_plan modules opening.journal is.end end
      (subst (λ (js : List Entry). IsJournal load_plan modules js is.end) same is.journal.course) journal

-- ---- the whole

pub one_base : (n : ℕ) → IsOpening load_plan (opening_at n) → n ≡ 36
one_base n is =
    let line : ModuleLine = line_at 1 (codes "plug") n 1 1 in
    let main : ModuleLine = line_at 0 (codes "main") FIRST_BASE 0 0 in
    let lines : main ∷ line ∷ [] ≡ main ∷ line_at 1 (codes "plug") 36 1 1 ∷ [] =
    is.listed.lines
    ∙ ap (λ (s : JournalState). map (module_line_of load_plan.modules) s.loaded) (end_is (opening_at n) refl is) in
    let same : line ≡ line_at 1 (codes "plug") 36 1 1 = cc in
    ap (λ (m : ModuleLine). m.base) same

-- as many lines as modules
many : (report : Report) (is : IsOpening load_plan report)
    → length report.modules ≡ length (map origin_of is.end.loaded)
many report is =
    ap (λ (ms : List ModuleLine). length ms) is.listed.lines
    ∙ length-map is.end.loaded (module_line_of load_plan.modules) ∙ sym (length-map is.end.loaded origin_of)

pub two_modules : ¬ IsOpening load_plan opening_alone
two_modules is =
    let told : length (map origin_of is.end.loaded) ≡ 2 = ap (λ os. length os) is.listed.origins in
    absurd (omega (arith, many opening_alone is, told))

pub one_epoch : (n : ℕ) → IsOpening load_plan (record opening { epoch = n }) → n ≡ 1
one_epoch n is =
    is.journal.epoch ∙ ap (λ (s : JournalState). s.epoch) (end_is (record opening { epoch = n }) refl is)

pub one_policy : (n : ℕ) → IsOpening load_plan (record opening { policy = n }) → n ≡ 1
one_policy n is =
    is.journal.policy ∙ ap (λ (s : JournalState). s.policy) (end_is (record opening { policy = n }) refl is)

pub some_line : ¬ IsOpening load_plan (record opening { journal = [] })
some_line is =
    let told : length (map origin_of is.end.loaded) ≡ 1 = ap (λ os. length os) is.listed.origins in
    absurd (omega (arith, many (record opening { journal = [] }) is, told))

pub one_asker : (who : Who) → IsOpening load_plan (opening_asked who) → who ≡ Guest 0
one_asker Script is =
    let made : Load 1 ∷ [] ≡ [] = is.script in
    absurd (cc)
one_asker (Guest number) is =
    let known : number < 1 = is.journal.course.leads.1.0.0 in
    ap (λ (n : ℕ). Guest n) (omega (arith, known))

pub no_load : (n : ℕ) → ¬ IsOpening (scripted (script.Load n)) opening
no_load n is =
    let made : [] ≡ Load n ∷ [] = is.script in
    absurd (cc)

no_calls : (n : ℕ) → [] ≡ replicate n Refresh → n ≡ 0
no_calls zero made = refl
no_calls (suc n) made = absurd (cc)

pub no_refresh : (n : ℕ) → IsOpening (scripted (script.Refresh n)) opening → n ≡ 0
no_refresh n is = no_calls n (is.script ∙ append-nil (replicate n Refresh))

-- ---- its guest

pub one_entry : (name : List ℕ) → IsOpening load_plan (opening_by (record load_part { entry = name }))
    → name ≡ codes "main"
one_entry name is =
    let both : Some (codes "main") ≡ Some name =
    (is.guests.parts 0 (record load_part { entry = name }) refl).entry in
    let same : codes "main" ≡ name = cc in
    sym same

-- a part with the same log ends alike
alike : (part : GuestPart) → load_part.log ≡ part.log → IsOpening load_plan (opening_by part)
    → EndsAlike load_part part
alike part log is =
    (reports_same load_plan modules opening (opening_by part) valid is refl).guests 0 load_part part refl refl log

pub one_stop : (stop : Option Stop) → IsOpening load_plan (opening_by (record load_part { stop = stop }))
    → stop ≡ Some (Exit 144)
one_stop stop is = sym ((alike (record load_part { stop = stop }) refl is).counted refl).stop

pub one_units : (n : ℕ) → IsOpening load_plan (opening_by (record load_part { units = n })) → n ≡ 7
one_units n is =
    sym ((alike (record load_part { units = n }) refl is).alone (λ fuel. absurd (cc)) (λ fuel. absurd (cc))).units

pub steps_by_tries : (n : ℕ) → IsOpening load_plan (opening_by (record load_part { steps = n }))
    → (repeats : ℕ) × (n ≡ 25 + RETRY_STEPS * repeats)
steps_by_tries n is =
    let part : GuestPart = record load_part { steps = n } in
    let told : FitsEndedSteps course part =
    subst (λ (s : JournalState). FitsEndedSteps (course_of load_plan modules (opening_by part) s) part)
    (end_is (opening_by part) refl is) (is.steps 0 part refl) in
    let last = comes_once Filled course part load_part told.fits.last s7 told.fits.comes comes refl refl refl refl in
    let ran : told.fits.last.steps ≡ 25 = ap (λ (s : State). s.steps) last in
    let begun : told.fits.counts.begun ≡ 0 = told.fits.counts.begins in
    (told.fits.counts.repeats, omega (arith, told.fits.counts.sum, ran, begun))

-- ---- its log

function_once : (a b : ℕ) → HasFunctionAt loaded 1 a → HasFunctionAt loaded 1 b → a ≡ b
function_once a b p q =
    first_once IsGlobal second.placed a b (of_second a p) (of_second b q)
  where
    is_second : (l : LoadedModule) → Contains loaded l → l.number ≡ 1 → second ≡ l
    is_second l has is = elim (member_cases first (second ∷ []) l has) [
      | inl here ↦
          let number : 0 ≡ l.number = ap (λ (m : LoadedModule). m.number) here in
          absurd (omega (arith, number, is))
      | inr later ↦ member_of_one second l later
    ]

    of_second : (address : ℕ) → HasFunctionAt loaded 1 address → IsFirstOf IsGlobal second.placed address
    of_second address at =
        subst (λ (l : LoadedModule). IsFirstOf IsGlobal l.placed address) (sym (is_second at.one at.has at.is)) at.first

pub one_address : (n : ℕ) → IsOpening load_plan (opening_logged (Open 1 n 1 ∷ Pick 1 2 ∷ [])) → n ≡ 144
one_address n is =
    let report : Report = opening_logged (Open 1 n 1 ∷ Pick 1 2 ∷ []) in
    let part : GuestPart = record load_part { log = Open 1 n 1 ∷ Pick 1 2 ∷ [] } in
    let there : HasFunctionAt loaded 1 n =
    subst (λ (s : JournalState). HasFunctionAt (live_at 1 (members_of s)) 1 n) (end_is report refl is)
    ((is.log 0 part refl).opens 0 1 n 1 refl) in
    function_once n 144 there plug_open

pub one_pick : (n : ℕ) → IsOpening load_plan (opening_logged (Open 1 144 1 ∷ Pick n 2 ∷ [])) → n ≡ 1
one_pick n is =
    let report : Report = opening_logged (Open 1 144 1 ∷ Pick n 2 ∷ []) in
    let part : GuestPart = record load_part { log = Open 1 144 1 ∷ Pick n 2 ∷ [] } in
    let logged = is.log 0 part refl in
    let most : n ≤ is.end.policy = logged.most in
    let force : is.end.policy ≡ 1 = ap (λ (s : JournalState). s.policy) (end_is report refl is) in
    let least : 1 ≤ n = logged.rises.1.0 in
    omega (arith, most, force, least)

pub no_cause : ¬ IsOpening load_plan (opening_logged (Cause 1 VERSIONS_SPENT ∷ Open 1 144 1 ∷ Pick 1 2 ∷ []))
no_cause is =
    let part : GuestPart = record load_part { log = Cause 1 VERSIONS_SPENT ∷ Open 1 144 1 ∷ Pick 1 2 ∷ [] } in
    let few : 1 ≤ 0 = (is.log 0 part refl).causes 0 1 VERSIONS_SPENT refl in
    absurd (omega (arith, few))
