-- A valid report, as that of a run is, is valid input of the judge.
use Rattle.std.proofs.Common.{◌≡◌, ◌∙◌, ◌%◌, ◌==◌, ℕ, zero, suc, Bool, true, false, List, [], ◌∷◌, ◌++◌, length, map, Option, Some, inl, inr, refl, sym, ap, ap₂, subst, arith, length-append, codes, if◌then◌else◌}
use Rattle.std.specs.Prelude.{IsSomeAnd, slice_get}
use Rattle.std.proofs.lemmas.List.{map-append}
use Rattle.std.proofs.lemmas.List.Elements.{All-append, All-cons, All-nil}
use Rattle.elf_read.proofs.FaultLemmas.{only_memory}
use Rattle.cfi_aux.specs.declared.modules.Module.{Module}
use Rattle.cfi_bare.specs.declared.fault.BareFault.TheVariants as bare_faults
use Rattle.cfi_commands.specs.declared.judge.ReportPart.{ReportPart}
use Rattle.cfi_commands.specs.declared.refusal.Refusal.{Refusal}
use Rattle.cfi_commands.specs.declared.refusal.Refusal.TheVariants as refusals
use Rattle.cfi_commands.specs.Modules.{AreModuleFiles}
use Rattle.cfi_commands.specs.Reading.{IsFileFault, IsModuleFile}
use Rattle.cfi_commands.proofs.ReadingLemmas.{found_is_it, refused_is_none}
use Rattle.cfi_io.specs.Files.{Files}
use Rattle.cfi_plan.specs.declared.plan.Plan.{Plan}
use Rattle.cfi_report.proofs.LawLemmas.{same_text}
use Rattle.cfi_report.specs.declared.report.Report.{Report}
use Rattle.cfi_report.specs.Report.{IsReport, report_text}
use Rattle.cfi_request.specs.declared.command.Command.TheVariants as commands
use Rattle.cfi_request.specs.Command.{IsCommand}
use Rattle.cfi_request.specs.Plans.{begins_as_plan, files_in, files_and, judged_files, named_files, named_files_and, run_files}
use Rattle.cfi_request.specs.Reading.{IsShort}
use Rattle.cfi_request.specs.Words.{IsOperand}
use Rattle.cfi_valid.specs.Valid.{IsValidReport}
use Rattle.cfi_values.proofs.ThenLemmas.{ok_is}
use Rattle.cfi_top.specs.Judging.{IsBadBehind, IsJudgement, IsPartAtFault, RefusesJudging, RefusesReport}
use Rattle.cfi_top.specs.Reports.{HoldsReport, IsOfRun}
use Rattle.cfi_top.specs.Running.{IsPlanOf}
use Rattle.cfi_top.specs.Top.{AreHeld, IsValid}

-- ---- lists

-- what ends in one item has one front
snoc_same : {X : Type 0} (xs ys : List X) (x y : X) → xs ++ x ∷ [] ≡ ys ++ y ∷ [] → (xs ≡ ys) × (x ≡ y)
snoc_same [] [] x y same = (refl, cc)
snoc_same {X} [] (z ∷ ys) x y same =
    absurd (omega (arith, ap (λ (zs : List X). length zs) same, length-append ys (y ∷ [])))
snoc_same {X} (z ∷ xs) [] x y same =
    absurd (omega (arith, ap (λ (zs : List X). length zs) same, length-append xs (x ∷ [])))
snoc_same {X} (z ∷ xs) (w ∷ ys) x y same =
    let head : z ≡ w = cc in
    let rest = snoc_same xs ys x y (cc) in
    (ap₂ (λ (a : X) (more : List X). a ∷ more) head rest.0, rest.1)

-- ---- modules of files

-- a file that is a module has no fault
module_or_fault : (bytes : List ℕ) (m : Module) (refusal : Refusal) → IsModuleFile bytes m → IsFileFault bytes refusal
    → ⊥
module_or_fault bytes m (refusals.Elf fault) is bad = bad.1 (only_memory bytes fault is.is.sound bad.0)
module_or_fault bytes m (refusals.Aux fault) is bad = refused_is_none bytes bad.0 fault m bad.1 bad.2 is
module_or_fault bytes m refusal is bad = absurd bad

-- of files that are modules none has one
none_bad : (files : List (List ℕ)) (modules : List Module) (number : ℕ) (refusal : Refusal)
    → AreModuleFiles files modules → IsSomeAnd (slice_get files number) (λ bytes. IsFileFault bytes refusal) → ⊥
none_bad [] [] zero refusal are bad = bad
none_bad [] [] (suc number) refusal are bad = bad
none_bad [] (m ∷ modules) number refusal are bad = absurd are
none_bad (bytes ∷ files) [] number refusal are bad = absurd are
none_bad (bytes ∷ files) (m ∷ modules) zero refusal are bad = module_or_fault bytes m refusal are.0 bad
none_bad (bytes ∷ files) (m ∷ modules) (suc number) refusal are bad = none_bad files modules number refusal are.1 bad

-- files are one list of modules
same_modules : (files : List (List ℕ)) (modules others : List Module) → AreModuleFiles files modules
    → AreModuleFiles files others → modules ≡ others
same_modules [] [] [] are also = refl
same_modules [] (m ∷ modules) others are also = absurd are
same_modules [] [] (m ∷ others) are also = absurd also
same_modules (bytes ∷ files) [] others are also = absurd are
same_modules (bytes ∷ files) (m ∷ modules) [] are also = absurd also
same_modules (bytes ∷ files) (m ∷ modules) (n ∷ others) are also =
    ap₂ (λ (x : Module) (xs : List Module). x ∷ xs)
    (found_is_it bytes are.0.object m n are.0.is are.0.whole also.0) (same_modules files modules others are.1 also.1)

not_both : (b : Bool) → b ≡ true → b ≡ false → ⊥
not_both b one other = absurd (cc)

-- a file has one plan
one_plan : (bytes : List ℕ) (files : List (List ℕ)) (plan other : Plan) (modules others : List Module)
    → IsPlanOf bytes files plan modules → IsPlanOf bytes files other others → (plan ≡ other) × (modules ≡ others)
one_plan bytes files plan other modules others (inl a) (inl b) =
    (ok_is _ _ (sym a.is ∙ b.is), same_modules files modules others a.are b.are)
one_plan bytes files plan other modules others (inr a) (inr b) = (
  a.plan_is ∙ sym b.plan_is,
  a.modules_are ∙ ap (λ (m : Module). m ∷ []) (a.is.is ∙ sym b.is.is) ∙ sym b.modules_are,
)
one_plan bytes files plan other modules others (inl a) (inr b) =
    absurd (not_both (begins_as_plan bytes) a.begins b.begins)
one_plan bytes files plan other modules others (inr a) (inl b) =
    absurd (not_both (begins_as_plan bytes) b.begins a.begins)

-- ---- no refusal stands

module _ (bytes : List ℕ) (files : List (List ℕ)) (plan : Plan) (modules : List Module) (value : Report)
    (plan_of : IsPlanOf bytes files plan modules) (is : IsReport value) (valid : IsValidReport plan modules value)
    (input report : List ℕ) where
  abbrev text : List ℕ
  text = report_text value

  abbrev others : List (List ℕ)
  others = files ++ text ∷ []

  -- no part of the report is at fault
  no_part : (part : ReportPart) → IsPartAtFault plan modules text part → ⊥
  no_part part bad =
      let same : bad.report ≡ value = same_text bad.report value bad.is is (sym bad.spelled) in
      bad.invalid (subst (λ (r : Report). IsValidReport plan modules r) (sym same) valid)

  report_stands : (name : List ℕ) (refusal : Refusal) → RefusesReport report plan modules text name refusal → ⊥
  report_stands name (refusals.Report line) bad = bad.1.no_report value is refl
  report_stands name (refusals.Judge part) bad = no_part part bad.1
  report_stands name refusal bad = absurd bad

  no_judgement : (name : List ℕ) (refusal : Refusal)
      → IsJudgement (λ p ms t. RefusesReport report p ms t name refusal) bytes others → ⊥
  no_judgement name refusal bad =
      let same = snoc_same files bad.files text bad.text bad.split in
      let planned : IsPlanOf bytes files bad.plan bad.modules =
      subst (λ (fs : List (List ℕ)). IsPlanOf bytes fs bad.plan bad.modules) (sym same.0) bad.plan_of in
      let one = one_plan bytes files bad.plan plan bad.modules modules planned plan_of in
      let by_plan = subst (λ (p : Plan). RefusesReport report p bad.modules bad.text name refusal) one.0 bad.says in
      let by_modules = subst (λ (ms : List Module). RefusesReport report plan ms bad.text name refusal) one.1 by_plan in
      report_stands name refusal
      (subst (λ (t : List ℕ). RefusesReport report plan modules t name refusal) (sym same.1) by_modules)

  no_bad : IsPlanOf bytes files plan modules → (name : List ℕ) (refusal : Refusal)
      → IsBadBehind bytes others name refusal → ⊥
  no_bad (inl a) name refusal bad =
      let same = snoc_same files bad.files text bad.text bad.split in
      let are = subst (λ (fs : List (List ℕ)). AreModuleFiles fs modules) same.0 a.are in
      none_bad bad.files modules bad.bad.number refusal are bad.bad.first.here
  no_bad (inr b) name refusal bad = not_both (begins_as_plan bytes) bad.begins b.begins

  no_fault : IsPlanOf bytes files plan modules → (name : List ℕ) (refusal : Refusal)
      → RefusesJudging input report bytes others name refusal → ⊥
  no_fault (inl a) name (refusals.Plan fault) bad = let here = bad.1.is in let plan = a.is in absurd (cc)
  no_fault (inr b) name (refusals.Plan fault) bad = not_both (begins_as_plan bytes) bad.0 b.begins
  no_fault (inl a) name (refusals.Bare fault) bad = not_both (begins_as_plan bytes) a.begins bad.0
  no_fault (inr b) name (refusals.Bare (bare_faults.Length count)) bad =
      bad.2.1 (subst (λ (n : ℕ). n % 4 ≡ 0) bad.2.0 b.is.whole)
  no_fault (inr b) name (refusals.Bare bare_faults.Memory) bad = bad.3 refl
  no_fault planned name refusal (inl bad) = no_bad planned name refusal bad
  no_fault planned name refusal (inr bad) = no_judgement name refusal bad

  -- ---- its files

  behind : IsPlanOf bytes files plan modules → judged_files bytes report ≡ run_files bytes ++ report ∷ []
  behind (inl a) =
      ap (λ (b : Bool). if b then named_files_and bytes report
      else (if length bytes % 4 == 0 then report ∷ [] else [])) a.begins
      ∙ ap (files_and report) a.is
      ∙ ap (λ (fs : List (List ℕ)). fs ++ report ∷ []) (sym (ap files_in a.is))
      ∙ ap (λ (b : Bool). (if b then named_files bytes else []) ++ report ∷ []) (sym a.begins)
  behind (inr b) =
      ap (λ (x : Bool). if x then named_files_and bytes report
      else (if length bytes % 4 == 0 then report ∷ [] else [])) b.begins
      ∙ ap (λ (n : ℕ). if n == 0 then report ∷ [] else []) b.is.whole
      ∙ ap (λ (x : Bool). (if x then named_files bytes else []) ++ report ∷ []) (sym b.begins)

  held_behind : (told : Files) → AreHeld told (run_files bytes) files → AreHeld told (report ∷ []) (text ∷ [])
      → AreHeld told (judged_files bytes report) others
  held_behind told named printed = record {
    held = ap (λ (ns : List (List ℕ)). map told ns) (behind plan_of)
        ∙ map-append told (run_files bytes) (report ∷ [])
        ∙ ap₂ (λ (a b : List (Option (List ℕ))). a ++ b) named.held printed.held
        ∙ sym (map-append (λ (f : List ℕ). Some f) files (text ∷ []));
    short = All-append IsShort files (text ∷ []) named.short printed.short;
  }

  pub judge_unrefused : (name : List ℕ) (refusal : Refusal) → ¬ RefusesJudging input report bytes others name refusal
  judge_unrefused name refusal = no_fault plan_of name refusal

-- the words are a command
judge_fits : (input report : List ℕ) → IsOperand input → IsOperand report
    → IsCommand (codes "judge" ∷ input ∷ report ∷ []) (commands.Judge input report)
judge_fits input report first second = record {
  spelled = refl;
  operands = All-cons IsOperand input (report ∷ []) first (All-cons IsOperand report [] second (All-nil IsOperand));
  number = tt;
}

pub valid_judged : (told : Files) (input report : List ℕ) → IsOperand input → IsOperand report
    → HoldsReport IsValidReport told input report → IsValid (codes "judge" ∷ input ∷ report ∷ []) told
valid_judged told input report first second holds =
    let text = report_text holds.value in
    record {
      command = commands.Judge input report;
      fits = judge_fits input report first second;
      files = holds.bytes ∷ [];
      inputs = holds.file;
      more = holds.files ++ text ∷ [];
      others = held_behind holds.bytes holds.files holds.plan holds.modules holds.value holds.plan_of holds.is holds.says
          input report told holds.named holds.printed;
      unrefused = judge_unrefused holds.bytes holds.files holds.plan holds.modules holds.value holds.plan_of holds.is
          holds.says input report;
    }

-- the report of a run is valid for its plan and its modules
run_valid : (plan : Plan) (modules : List Module) (report : Report) → IsOfRun plan modules report
    → IsValidReport plan modules report
run_valid plan modules report is =
    subst (λ (r : Report). IsValidReport plan modules r) is.report_is
    (subst (λ (ms : List Module). IsValidReport plan ms is.run.report) is.modules_are
    (subst (λ (p : Plan). IsValidReport p is.run.modules is.run.report) is.plan_is is.concluded.valid))

pub run_judged : (told : Files) (input report : List ℕ) → IsOperand input → IsOperand report
    → HoldsReport IsOfRun told input report → IsValid (codes "judge" ∷ input ∷ report ∷ []) told
run_judged told input report first second holds = valid_judged told input report first second (record {
  bytes = holds.bytes;
  file = holds.file;
  files = holds.files;
  named = holds.named;
  plan = holds.plan;
  modules = holds.modules;
  plan_of = holds.plan_of;
  value = holds.value;
  is = holds.is;
  says = run_valid holds.plan holds.modules holds.value holds.says;
  printed = holds.printed;
})
