-- What each command comes to, by what the shelf tells and counts before and after.
use Rattle.std.specs.Prelude.{◌≡◌, ℕ, ◌⊎◌, List, [], ◌∷◌, slice_get, Some, Ok}
use Rattle.cfi_plan.specs.declared.plan.Plan.{Plan as ModulePlan}
use Rattle.cfi_plan.specs.Reading.{plan_in}
use Rattle.cfi_commands.specs.declared.refusal.Refusal.{Refusal}
use Rattle.cfi_commands.specs.declared.refusal.Refusal.TheVariants.{Link, Plan}
use Rattle.cfi_commands.specs.declared.fault.CommandFault.TheVariants.{File, Together}
use Rattle.cfi_commands.specs.Files.{IsFilesFault}
use Rattle.cfi_commands.specs.Graph.{IsGraphText}
use Rattle.cfi_commands.specs.Verified.{IsVerifiedText}
use Rattle.cfi_commands.specs.Assembling.{IsAssembled, IsSourceFault}
use Rattle.cfi_commands.specs.Instrumenting.{IsInstrumentedFile, IsInstrumentFault}
use Rattle.cfi_commands.specs.Linking.{IsLinkedFile, IsLinkingFault}
use Rattle.cfi_commands.specs.Stubbing.{IsStubbedFile, IsStubbingFault}
use Rattle.cfi_commands.specs.Listing.{IsObjectListing, IsObjectFault}
use Rattle.cfi_report.specs.Report.{report_text}
use Rattle.cfi_request.specs.declared.command.Command.{Command}
use Rattle.cfi_request.specs.declared.command.Command.TheVariants as commands
use Rattle.cfi_top.specs.declared.answer.Answer.{Answer}
use Rattle.cfi_top.specs.declared.answer.Answer.TheVariants as answers
use Rattle.cfi_request.specs.Command.{IsCommand, IsCommandLine, inputs_of, more_of}
use Rattle.cfi_io.specs.Seen.{ShelfView}
use Rattle.cfi_request.specs.Plans.{files_of}
use Rattle.cfi_top.specs.Opening.{IsNoPlan, IsNamedBad}
use Rattle.cfi_top.specs.Plans.{IsSaid}
use Rattle.cfi_top.specs.Judging.{IsJudged, RefusesJudging}
use Rattle.cfi_top.specs.Generating.{IsGeneratedRun, RefusesGenerated}
use Rattle.cfi_top.specs.Running.{IsRunOfFile, RefusesRun}
use Rattle.cfi_top.specs.Simulating.{IsSimOfPlan, RefusesSimulation}
use Rattle.cfi_request.specs.Reading.{AreRead, StopsAt}
use Rattle.cfi_request.specs.declared.reading.Unread.{Unread}

-- the text says that the modules of the plan of these bytes verify; it has the groups of their policy
abbrev pub IsVerifiedPlan : (bytes : List ℕ) → (files : List (List ℕ)) → (text : List ℕ) → Type 0
IsVerifiedPlan = IsSaid IsVerifiedText

-- the text is that of the groups of the plan's modules
abbrev pub IsGraphOfPlan : (bytes : List ℕ) → (files : List (List ℕ)) → (text : List ℕ) → Type 0
IsGraphOfPlan = IsSaid (λ plan. IsGraphText plan.code_words)

-- what a command makes of the bytes of its inputs, and of the files that these name
abbrev pub IsMade : Command → (files more : List (List ℕ)) → Answer → Type 0
IsMade (commands.Asm input output) (bytes ∷ []) more (answers.Save name file) =
    (name ≡ output) × IsAssembled bytes file
IsMade (commands.List input) (bytes ∷ []) more (answers.Print text) = IsObjectListing bytes text
IsMade (commands.Instrument input output) (bytes ∷ []) more (answers.Save name file) =
    (name ≡ output) × IsInstrumentedFile bytes file
IsMade (commands.Link output inputs) files more (answers.Save name file) = (name ≡ output) × IsLinkedFile files file
IsMade (commands.Verify plan) (bytes ∷ []) more (answers.Print text) = IsVerifiedPlan bytes more text
IsMade (commands.Graph plan) (bytes ∷ []) more (answers.Print text) = IsGraphOfPlan bytes more text
IsMade (commands.Sim plan schedule) (bytes ∷ []) more (answers.Print text) = IsSimOfPlan bytes more text
IsMade (commands.Run input) (bytes ∷ []) more (answers.Ran run text) =
    (text ≡ report_text run.report) × IsRunOfFile bytes more run
IsMade (commands.Gen seed count) files more (answers.Ran run text) = IsGeneratedRun seed count run text
IsMade (commands.Stub input output) (bytes ∷ []) more (answers.Save name file) =
    (name ≡ output) × IsStubbedFile bytes file
IsMade (commands.Judge input report) (bytes ∷ []) more (answers.Print text) = IsJudged bytes more text
IsMade command files more answer = ⊥

-- the bytes are a plan, and the file of this name, which one of its modules has, is refused for the first fault of the
-- modules' files
pub record IsModuleAtFault (bytes : List ℕ) (files : List (List ℕ)) (name : List ℕ) (refusal : Refusal) : Type 0 where
  pub plan : ModulePlan
  pub is : plan_in bytes ≡ Ok plan
  pub number : ℕ
  pub named : slice_get (files_of plan) number ≡ Some name
  pub first : IsFilesFault plan.code_words files (File number refusal)

-- why the bytes of a plan, or the files that it names, are refused, and the file that is at fault
abbrev pub RefusesPlan : (plan bytes : List ℕ) → (files : List (List ℕ)) → (name : List ℕ) → Refusal → Type 0
RefusesPlan plan bytes files name (Plan fault) = IsNoPlan plan bytes name fault
RefusesPlan plan bytes files name refusal = IsModuleAtFault bytes files name refusal

-- why a command refuses its files, and the file that is at fault: the first of the faults
abbrev pub Refuses : Command → (files more : List (List ℕ)) → (name : List ℕ) → Refusal → Type 0
Refuses (commands.Asm input output) (bytes ∷ []) more name refusal = (name ≡ input) × IsSourceFault bytes refusal
Refuses (commands.List input) (bytes ∷ []) more name refusal = (name ≡ input) × IsObjectFault bytes refusal
Refuses (commands.Instrument input output) (bytes ∷ []) more name refusal =
    (name ≡ input) × IsInstrumentFault bytes refusal
Refuses (commands.Link output inputs) files more name (Link fault) =
    (name ≡ output) × IsLinkingFault files (Together fault)
Refuses (commands.Link output inputs) files more name refusal = IsNamedBad inputs files name refusal
Refuses (commands.Verify plan) (bytes ∷ []) more name refusal = RefusesPlan plan bytes more name refusal
Refuses (commands.Graph plan) (bytes ∷ []) more name refusal = RefusesPlan plan bytes more name refusal
Refuses (commands.Sim plan schedule) (bytes ∷ []) more name refusal =
    RefusesSimulation plan schedule bytes more name refusal
Refuses (commands.Run input) (bytes ∷ []) more name refusal = RefusesRun input bytes more name refusal
Refuses (commands.Gen seed count) files more name refusal = RefusesGenerated seed count name refusal
Refuses (commands.Stub input output) (bytes ∷ []) more name refusal =
    (name ≡ input) × IsStubbingFault bytes refusal
Refuses (commands.Judge input report) (bytes ∷ []) more name refusal =
    RefusesJudging input report bytes more name refusal
Refuses command files more name refusal = ⊥

-- no refusal stands in its files
abbrev pub IsUnrefused : Command → (files more : List (List ℕ)) → Type 0
IsUnrefused command files more = (name : List ℕ) (refusal : Refusal) → ¬ Refuses command files more name refusal

-- what a command comes to where its files are read
abbrev pub IsWorked : Command → (files more : List (List ℕ)) → Answer → Type 0
IsWorked command files more (answers.Refused name refusal) = Refuses command files more name refusal
IsWorked command files more answer = IsMade command files more answer

-- what a command comes to whose inputs are read and have these bytes: one of the files that they name is not read, or
-- all are
abbrev pub GoesOn : Command → (files : List (List ℕ)) → (shelf shelf' : ShelfView) → Answer → Type 0
GoesOn command files shelf shelf' (answers.Unread unread) = StopsAt shelf shelf' (more_of command files) unread
GoesOn command files shelf shelf' answer =
    (more : List (List ℕ)) × AreRead shelf (more_of command files) more × IsWorked command files more answer

-- a command's inputs are read and have these bytes, and then the files that they name
pub record IsAllRead (command : Command) (shelf : ShelfView) (files more : List (List ℕ)) : Type 0 where
  pub inputs : AreRead shelf (inputs_of command) files
  pub others : AreRead shelf (more_of command files) more

-- of the files that a command reads the first that is not read is this: one of its inputs, or one that they name
abbrev pub IsFirstUnread : Command → (shelf shelf' : ShelfView) → Unread → Type 0
IsFirstUnread command shelf shelf' unread = StopsAt shelf shelf' (inputs_of command) unread
    ⊎ ((files : List (List ℕ)) × AreRead shelf (inputs_of command) files
    × StopsAt shelf shelf' (more_of command files) unread)

-- what a command comes to: one of its files is not read, and the answer says which and why, or all are read
abbrev pub IsOutcome : Command → (shelf shelf' : ShelfView) → Answer → Type 0
IsOutcome command shelf shelf' (answers.Unread unread) = IsFirstUnread command shelf shelf' unread
IsOutcome command shelf shelf' answer = (files : List (List ℕ)) × (more : List (List ℕ))
    × IsAllRead command shelf files more × IsWorked command files more answer

-- what the words come to
abbrev pub IsAnswer : (words : List (List ℕ)) → (shelf shelf' : ShelfView) → Answer → Type 0
IsAnswer words shelf shelf' answers.Usage = ¬ IsCommandLine words
IsAnswer words shelf shelf' answer =
    (command : Command) × IsCommand words command × IsOutcome command shelf shelf' answer
