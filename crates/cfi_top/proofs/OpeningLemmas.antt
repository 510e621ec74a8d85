-- What is known of plans that are to be run or simulated, and are refused.
use Rattle.std.proofs.Common.{◌≡◌, ℕ, List, length, inl, inr, refl, sym, subst, arith}
use Rattle.std.specs.Prelude.{slice_get}
use Rattle.cfi_aux.specs.declared.modules.Module.{Module}
use Rattle.cfi_plan.specs.declared.plan.Plan.{Plan}
use Rattle.cfi_plan.specs.declared.plan.PlanModule.{PlanModule}
use Rattle.cfi_commands.specs.declared.fault.CommandFault.{CommandFault}
use Rattle.cfi_commands.specs.declared.fault.CommandFault.TheVariants.{File, Together, Memory}
use Rattle.cfi_commands.specs.declared.refusal.Refusal.{Refusal}
use Rattle.cfi_commands.specs.declared.refusal.Refusal.TheVariants as refusals
use Rattle.cfi_commands.specs.Modules.{AreModuleFiles, IsModulesFault}
use Rattle.cfi_commands.specs.Reading.{IsFileFault}
use Rattle.cfi_commands.proofs.FileLemmas.{some_stands, some_within}
use Rattle.cfi_request.specs.Plans.{files_of}
use Rattle.cfi_ledger.specs.declared.fault.OpenFault.{OpenFault}
use Rattle.cfi_ledger.specs.declared.fault.OpenFault.TheVariants as opens
use Rattle.cfi_top.specs.declared.answer.Answer.{Answer}
use Rattle.cfi_top.specs.declared.answer.Answer.TheVariants as answers
use Rattle.cfi_top.specs.Opening.{RefusesModules, RefusesOpening}
use Rattle.cfi_top.specs.Refused.{IsAmong, IsModuleRefused, IsOpeningRefused}
use Rattle.cfi_top.proofs.PlansLemmas.{found_at, file_at}

-- the file that is no module is one of so many
pub file_among : (files : List (List ℕ)) (modules : List PlanModule) (fault : CommandFault)
    → length files ≡ length modules → IsModulesFault files fault → IsAmong (length modules) fault
file_among files modules (File number refusal) count bad =
    omega (arith, count, some_within files number (λ bytes. IsFileFault bytes refusal) bad.here)
file_among files modules (Together fault) count bad = absurd bad
file_among files modules Memory count bad = tt

-- files are not refused as a plan
pub never_plan : (P : List Module → (name : List ℕ) → Refusal → Type 0) (names files : List (List ℕ)) (name : List ℕ)
    (refusal : Refusal) → ((modules : List Module) → P modules name refusal → ⊥)
    → ((bytes : List ℕ) → IsFileFault bytes refusal → ⊥) → RefusesModules P names files name refusal → ⊥
never_plan P names files name refusal never none (inl bad) =
    some_stands (λ bytes. IsFileFault bytes refusal) (slice_get files bad.number) none bad.first.here
never_plan P names files name refusal never none (inr refused) = never refused.0 refused.2

module _ (plan : List ℕ) (p : Plan) (files : List (List ℕ)) (P : List Module → (name : List ℕ) → Refusal → Type 0) where
  -- the answer is a refusal of the modules' files, or of the modules that they are
  abbrev pub IsRefused : Answer → Type 0
  IsRefused (answers.Refused name refusal) = RefusesModules P (files_of p) files name refusal
  IsRefused answer = ⊥

  -- a file is no module
  pub file_refused : (fault : CommandFault) (answer : Answer) → IsModulesFault files fault
      → IsModuleRefused p.modules fault answer → IsRefused answer
  file_refused (File number refusal) answer bad said =
      let one = found_at _ (slice_get p.modules number) said in
      let named = file_at p number one.0 one.1 in
      subst IsRefused (sym one.2) (inl (record { number = number; named = named; first = bad }))
  file_refused (Together fault) answer bad said = absurd said
  file_refused Memory answer bad said = absurd said

  -- the plan cannot be opened with the modules
  module _ (modules : List Module) (are : AreModuleFiles files modules) (HasFault : OpenFault → Type 0)
      (refuses : (name : List ℕ) (refusal : Refusal) → RefusesOpening HasFault plan (files_of p) name refusal
      → P modules name refusal) where
    pub opening_refused : (fault : OpenFault) (answer : Answer) → HasFault fault
        → IsOpeningRefused plan p.modules fault answer → IsRefused answer
    opening_refused (opens.Place number fault) answer stands said =
        let one = found_at _ (slice_get p.modules number) said in
        let named = file_at p number one.0 one.1 in
        subst IsRefused (sym one.2) (inr (
          modules,
          are,
          refuses one.0.file (refusals.Place fault)
              (record { number = number; named = named; stands = stands }),
        ))
    opening_refused (opens.Verify number fault) answer stands said =
        let one = found_at _ (slice_get p.modules number) said in
        let named = file_at p number one.0 one.1 in
        subst IsRefused (sym one.2) (inr (
          modules,
          are,
          refuses one.0.file (refusals.Verify fault)
              (record { number = number; named = named; stands = stands }),
        ))
    opening_refused (opens.NoEntry guest) answer stands said =
        subst IsRefused (sym said) (inr (modules, are, refuses plan (refusals.Entry guest) (refl, stands)))
