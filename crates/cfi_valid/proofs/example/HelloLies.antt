-- The report of the file that puts one `H`, changed in one thing.
use Rattle.std.proofs.Common.{◌≡◌, ℕ, List, [], ◌∷◌, map, Option, Some, refl, sym, ap, subst, ◌∙◌, arith}
use Rattle.std.specs.Prelude.{codes}
use Rattle.cfi_model.specs.State.{State}
use Rattle.cfi_plan.specs.Bare.{bare_plan}
use Rattle.cfi_plan.specs.declared.journal.Entry.{Entry}
use Rattle.cfi_plan.specs.declared.journal.ModuleLine.{ModuleLine}
use Rattle.cfi_report.specs.declared.report.GuestPart.{GuestPart}
use Rattle.cfi_report.specs.declared.report.Report.{Report}
use Rattle.cfi_unit.specs.declared.log.Stop.{Stop}
use Rattle.cfi_unit.specs.declared.log.Stop.TheVariants.{Exit}
use Rattle.cfi_valid.specs.Agree.{EndsAlike}
use Rattle.cfi_valid.specs.Example.{hello_module, hello_line}
use Rattle.cfi_valid.specs.Journal.{JournalState, IsJournal}
use Rattle.cfi_valid.specs.Lies.{hello, hello_guest, hello_by, hello_with, IsHello}
use Rattle.cfi_valid.specs.Loaded.{Filled, module_line_of}
use Rattle.cfi_valid.specs.Parts.{FitsEndedSteps}
use Rattle.cfi_valid.specs.Valid.{course_of}
use Rattle.cfi_valid.proofs.JournalLemmas.{journal_once}
use Rattle.cfi_valid.proofs.ValidLemmas.{comes_once, reports_same}
use Rattle.cfi_valid.proofs.example.ExampleReplay.{end, course, s6, comes, journal, valid}
use Rattle.cfi_word.specs.declared.map.TheConstants.{FIRST_BASE}

-- a report with no line in its journal ends in the one state
module _ (report : Report) (none : report.journal ≡ []) (is : IsHello report) where
  end_is : is.end ≡ end
  end_is =
      journal_once bare_plan (hello_module ∷ []) [] is.end end
      (subst (λ (js : List Entry). IsJournal bare_plan (hello_module ∷ []) js is.end) none is.journal.course) journal

  lines_are : report.modules ≡ hello_line ∷ []
  lines_are =
      is.listed.lines ∙ ap (λ (s : JournalState). map (module_line_of bare_plan.modules) s.loaded) end_is

-- ---- the whole

pub one_base : (n : ℕ) → IsHello (hello_with (record hello_line { base = n })) → n ≡ FIRST_BASE
one_base n is =
    let line : ModuleLine = record hello_line { base = n } in
    let lines : line ∷ [] ≡ hello_line ∷ [] = lines_are (hello_with line) refl is in
    let same : line ≡ hello_line = cc in
    ap (λ (m : ModuleLine). m.base) same

pub some_module : ¬ IsHello (record hello { modules = [] })
some_module is =
    let lines : [] ≡ hello_line ∷ [] = lines_are (record hello { modules = [] }) refl is in
    absurd (cc)

pub one_epoch : (n : ℕ) → IsHello (record hello { epoch = n }) → n ≡ 0
one_epoch n is =
    is.journal.epoch ∙ ap (λ (s : JournalState). s.epoch) (end_is (record hello { epoch = n }) refl is)

pub one_policy : (n : ℕ) → IsHello (record hello { policy = n }) → n ≡ 0
one_policy n is =
    is.journal.policy ∙ ap (λ (s : JournalState). s.policy) (end_is (record hello { policy = n }) refl is)

pub some_guest : ¬ IsHello (record hello { guests = [] })
some_guest is = absurd (omega (arith, is.guests.count))

-- ---- its guest

pub one_number : (n : ℕ) → IsHello (hello_by (record hello_guest { number = n })) → n ≡ 0
one_number n is = (is.guests.parts 0 (record hello_guest { number = n }) refl).is

pub one_entry : (name : List ℕ) → IsHello (hello_by (record hello_guest { entry = name })) → name ≡ codes "bare"
one_entry name is =
    let both : Some (codes "bare") ≡ Some name =
    (is.guests.parts 0 (record hello_guest { entry = name }) refl).entry in
    let same : codes "bare" ≡ name = cc in
    sym same

-- a part with the same log ends alike
alike : (part : GuestPart) → part.log ≡ [] → IsHello (hello_by part) → EndsAlike hello_guest part
alike part none is =
    (reports_same bare_plan (hello_module ∷ []) hello (hello_by part) valid is refl).guests 0 hello_guest part refl refl
    (sym none)

pub one_stop : (stop : Option Stop) → IsHello (hello_by (record hello_guest { stop = stop })) → stop ≡ Some (Exit 7)
one_stop stop is = sym ((alike (record hello_guest { stop = stop }) refl is).counted refl).stop

pub one_units : (n : ℕ) → IsHello (hello_by (record hello_guest { units = n })) → n ≡ 6
one_units n is =
    sym ((alike (record hello_guest { units = n }) refl is).alone (λ fuel. absurd (cc)) (λ fuel. absurd (cc))).units

pub one_steps : (n : ℕ) → IsHello (hello_by (record hello_guest { steps = n })) → n ≡ 6
one_steps n is =
    let part : GuestPart = record hello_guest { steps = n } in
    let told : FitsEndedSteps course part =
    subst
    (λ (s : JournalState). FitsEndedSteps (course_of bare_plan (hello_module ∷ []) (hello_by part) s) part)
    (end_is (hello_by part) refl is) (is.steps 0 part refl) in
    let last = comes_once Filled course part hello_guest told.fits.last s6 told.fits.comes comes refl refl refl refl in
    let ran : told.fits.last.steps ≡ 6 = ap (λ (s : State). s.steps) last in
    let begun : told.fits.counts.begun ≡ 0 = told.fits.counts.begins in
    omega (arith, told.fits.counts.sum, ran, told.single refl, begun)
