-- What each status of the program says, and which input gives 0 or 6.
use Rattle.std.specs.Prelude.{◌≡◌, ℕ, ◌⊎◌, List, map, All, Option, Some, None}
use Rattle.std.specs.Io.KnownBytes.{Appends}
use Rattle.cfi_io.specs.Count.{Rose}
use Rattle.cfi_io.specs.Files.{Files, Puts}
use Rattle.cfi_io.specs.Told.{WhereKeptTold}
use Rattle.cfi_guest_run.specs.Concluded.{Conclusion}
use Rattle.cfi_report.specs.Report.{report_text}
use Rattle.cfi_commands.specs.declared.refusal.Refusal.{Refusal}
use Rattle.cfi_commands.specs.Assembling.{IsAssembled}
use Rattle.cfi_commands.specs.Instrumenting.{IsInstrumentedFile}
use Rattle.cfi_commands.specs.Stubbing.{IsStubbedFile}
use Rattle.cfi_commands.specs.Linking.{IsLinkedFile}
use Rattle.cfi_commands.specs.Listing.{IsObjectListing}
use Rattle.cfi_request.specs.declared.command.Command.{Command}
use Rattle.cfi_top.specs.declared.answer.Answer.{Answer}
use Rattle.cfi_request.specs.Output.{unread_line, unread_status}
use Rattle.cfi_top.specs.Answer.{refused_line, output_of, run_in, kept_at}
use Rattle.cfi_request.specs.Command.{IsCommand, inputs_of, more_of, saved_name}
use Rattle.cfi_request.specs.Outside.{Holds, HasFailedToSave, IsStarved, IsDelivered}
use Rattle.cfi_io.specs.Seen.{ShelfView, SinkView}
use Rattle.cfi_request.specs.Plans.{judged_files, named_files, named_files_and, run_files}
use Rattle.cfi_request.specs.Reading.{AreRead, IsShort}
use Rattle.cfi_request.specs.declared.reading.Unread.{Unread}
use Rattle.cfi_top.specs.Outcome.{IsVerifiedPlan, IsGraphOfPlan, Refuses, IsUnrefused, IsAllRead, IsFirstUnread, IsAnswer}
use Rattle.cfi_top.specs.Generating.{IsGeneratedRun}
use Rattle.cfi_top.specs.Judging.{IsJudged}
use Rattle.cfi_top.specs.Running.{IsRunOfFile, RunsGuests}
use Rattle.cfi_top.specs.Simulating.{IsSimOfPlan}

-- no memory was left, or an answer was delivered; where that is the text of a run, what the run has come to is handed
-- out with it
abbrev pub Ends : (words : List (List ℕ)) → (shelf shelf' : ShelfView) → (sink sink' : SinkView) → (status : ℕ)
    → (run : Option Conclusion) → Type 0
Ends words shelf shelf' sink sink' status run =
    (IsStarved shelf shelf' sink sink' status × (run ≡ None))
    ⊎ ((answer : Answer) × IsAnswer words shelf shelf' answer
    × IsDelivered (output_of answer) shelf shelf' sink sink' status × (run ≡ kept_at status (run_in answer)))

-- The file `input` is a plan whose modules' files are read, or a bare file. Its plan and its modules are those of the
-- run, which was concluded, and the sink has the text of the run's report.
pub record HasRun (input : List ℕ) (shelf : ShelfView) (sink sink' : SinkView) (run : Conclusion) : Type 0 where
  pub bytes : List ℕ
  pub held : Holds shelf input bytes
  pub files : List (List ℕ)
  pub read : AreRead shelf (run_files bytes) files
  pub run_is : IsRunOfFile bytes files run
  pub text : Appends sink.written sink'.written (report_text run.report)

-- The run is one of the plan and the modules that are drawn of the seed, and was concluded. The sink has the summary of
-- these modules and of the run's report.
pub record HasGenerated (seed count : ℕ) (sink sink' : SinkView) (run : Conclusion) : Type 0 where
  pub text : List ℕ
  pub run_is : IsGeneratedRun seed count run text
  pub printed : Appends sink.written sink'.written text

-- the words are a command that runs guests
abbrev pub Runs : (words : List (List ℕ)) → Type 0
Runs words = (command : Command) × IsCommand words command × RunsGuests command

-- the file `input` is an object, and the sink has the listing of its text
pub record HasListed (input : List ℕ) (shelf : ShelfView) (sink sink' : SinkView) : Type 0 where
  pub bytes : List ℕ
  pub held : Holds shelf input bytes
  pub text : List ℕ
  pub listing : IsObjectListing bytes text
  pub printed : Appends sink.written sink'.written text

-- the file `output` is made of the file `input`, and nothing is printed
pub record HasMade (Makes : (bytes file : List ℕ) → Type 0) (input output : List ℕ) (shelf shelf' : ShelfView)
    (sink sink' : SinkView) : Type 0 where
  pub bytes : List ℕ
  pub held : Holds shelf input bytes
  pub file : List ℕ
  pub made : Makes bytes file
  pub saved : WhereKeptTold shelf.files shelf'.files (Puts output file)
  pub silent : sink'.written ≡ sink.written

-- the file `input` is a source, and the file `output` is the written object that it makes
abbrev pub HasAssembled : (input output : List ℕ) → (shelf shelf' : ShelfView) → (sink sink' : SinkView) → Type 0
HasAssembled = HasMade IsAssembled

-- the file `input` is a module, and the file `output` is the written object of it, instrumented
abbrev pub HasInstrumented : (input output : List ℕ) → (shelf shelf' : ShelfView) → (sink sink' : SinkView) → Type 0
HasInstrumented = HasMade IsInstrumentedFile

-- the file `input` is a module, and the file `output` is the written object of it, with stubs
abbrev pub HasStubbed : (input output : List ℕ) → (shelf shelf' : ShelfView) → (sink sink' : SinkView) → Type 0
HasStubbed = HasMade IsStubbedFile

-- the files `inputs` are modules, the file `output` is the written object of what links them, and nothing is printed
pub record HasLinked (output : List ℕ) (inputs : List (List ℕ)) (shelf shelf' : ShelfView) (sink sink' : SinkView)
    : Type 0 where
  pub files : List (List ℕ)
  pub read : AreRead shelf inputs files
  pub file : List ℕ
  pub made : IsLinkedFile files file
  pub saved : WhereKeptTold shelf.files shelf'.files (Puts output file)
  pub silent : sink'.written ≡ sink.written

-- the files that the file `input` names are read, and the sink has what is said so of them
pub record HasSaid (names_in : (bytes : List ℕ) → List (List ℕ))
    (Says : (bytes : List ℕ) → (files : List (List ℕ)) → (text : List ℕ) → Type 0) (input : List ℕ)
    (shelf : ShelfView) (sink sink' : SinkView) : Type 0 where
  pub bytes : List ℕ
  pub held : Holds shelf input bytes
  pub files : List (List ℕ)
  pub read : AreRead shelf (names_in bytes) files
  pub text : List ℕ
  pub said : Says bytes files text
  pub printed : Appends sink.written sink'.written text

-- the modules of the plan `input` verify in order, and the sink has a line for each
abbrev pub HasVerified : (input : List ℕ) → (shelf : ShelfView) → (sink sink' : SinkView) → Type 0
HasVerified = HasSaid named_files IsVerifiedPlan

-- they do, and the sink has the groups of their policy
abbrev pub HasGraphed : (input : List ℕ) → (shelf : ShelfView) → (sink sink' : SinkView) → Type 0
HasGraphed = HasSaid named_files IsGraphOfPlan

-- the schedule, read behind the modules' files, makes a valid simulation of the plan `input`, and the sink has its text
abbrev pub HasSimulated : (input schedule : List ℕ) → (shelf : ShelfView) → (sink sink' : SinkView) → Type 0
HasSimulated input schedule = HasSaid (λ bytes. named_files_and bytes schedule) IsSimOfPlan input

-- the report, read behind the modules' files, is a valid one of the plan and the modules of the file `input`, or of that
-- bare file, and the sink has the line that says so
abbrev pub HasJudged : (input report : List ℕ) → (shelf : ShelfView) → (sink sink' : SinkView) → Type 0
HasJudged input report = HasSaid (λ bytes. judged_files bytes report) IsJudged input

-- a command's files were read and refused for the first fault, and the sink has the line that says so
pub record IsRefused (words : List (List ℕ)) (shelf : ShelfView) (sink sink' : SinkView) : Type 0 where
  pub command : Command
  pub fits : IsCommand words command
  pub files : List (List ℕ)
  pub more : List (List ℕ)
  pub read : IsAllRead command shelf files more
  pub name : List ℕ
  pub refusal : Refusal
  pub first : Refuses command files more name refusal
  pub text : Appends sink.written sink'.written (refused_line name refusal)

-- of a command's files one was not read, the first of them, and the sink has the line that says which and why
pub record IsStopped (words : List (List ℕ)) (shelf shelf' : ShelfView) (sink sink' : SinkView) (status : ℕ)
    : Type 0 where
  pub command : Command
  pub fits : IsCommand words command
  pub unread : Unread
  pub stops : IsFirstUnread command shelf shelf' unread
  pub cause : status ≡ unread_status unread.cause
  pub text : Appends sink.written sink'.written (unread_line unread.name unread.cause)

-- the words are a command that saves a file of this name
abbrev pub IsSavedBy : (words : List (List ℕ)) → (name : List ℕ) → Type 0
IsSavedBy words name = (command : Command) × IsCommand words command × (saved_name command ≡ Some name)

-- the words are a command that saves a file
abbrev pub Saves : (words : List (List ℕ)) → Type 0
Saves words = (name : List ℕ) × IsSavedBy words name

-- the shelf failed to save the file that the words' command saves
abbrev pub IsUnsaved : (words : List (List ℕ)) → (shelf shelf' : ShelfView) → Type 0
IsUnsaved words shelf shelf' = (name : List ℕ) × IsSavedBy words name × HasFailedToSave shelf shelf' name

-- files that a shelf tells, short enough to be read
pub record AreHeld (told : Files) (names files : List (List ℕ)) : Type 0 where
  pub held : map told names ≡ map Some files
  pub short : All IsShort files

-- the words are a command whose inputs the shelf tells, and the files that they name, and no refusal stands in them
pub record IsValid (words : List (List ℕ)) (told : Files) : Type 0 where
  pub command : Command
  pub fits : IsCommand words command
  pub files : List (List ℕ)
  pub inputs : AreHeld told (inputs_of command) files
  pub more : List (List ℕ)
  pub others : AreHeld told (more_of command files) more
  pub unrefused : IsUnrefused command files more

-- a shelf and a sink did not fail, and no file was missed
pub record IsSteady (shelf shelf' : ShelfView) (sink sink' : SinkView) : Type 0 where
  pub read : ¬ Rose shelf.faults shelf'.faults
  pub found : ¬ Rose shelf.misses shelf'.misses
  pub written : ¬ Rose sink.faults sink'.faults
