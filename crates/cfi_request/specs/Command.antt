-- The commands of the program, and the words that are one. A word is its bytes.
use Rattle.std.specs.Prelude.{◌≡◌, ℕ, ◌<◌, ◌≤◌, ◌^◌, List, [], ◌∷◌, length, codes, All, Option, Some, None, ⊤}
use Rattle.cfi_request.specs.Words.{IsOperand}
use Rattle.cfi_gen.specs.declared.shape.TheConstants.{MAX_COUNT, MIN_COUNT}
use Rattle.cfi_text.specs.Decimal.{dec_text}
use Rattle.cfi_request.specs.declared.command.Command.{Command}
use Rattle.cfi_request.specs.declared.command.Command.TheVariants as commands
use Rattle.cfi_word.specs.declared.limits.TheConstants.{MAX_INPUTS}
use Rattle.cfi_request.specs.Plans.{judged_files, named_files, named_files_and, run_files}

-- the word that names a command, and the words after it
abbrev pub command_word : Command → List ℕ
command_word (commands.Asm input output) = codes "asm"
command_word (commands.List input) = codes "list"
command_word (commands.Instrument input output) = codes "instrument"
command_word (commands.Link output inputs) = codes "link"
command_word (commands.Verify plan) = codes "verify"
command_word (commands.Graph plan) = codes "graph"
command_word (commands.Sim plan schedule) = codes "sim"
command_word (commands.Run input) = codes "run"
command_word (commands.Gen seed count) = codes "gen"
command_word (commands.Stub input output) = codes "stub"
command_word (commands.Judge input report) = codes "judge"

-- the operands of a command, in its order
abbrev pub operands_of : Command → List (List ℕ)
operands_of (commands.Asm input output) = input ∷ output ∷ []
operands_of (commands.List input) = input ∷ []
operands_of (commands.Instrument input output) = input ∷ output ∷ []
operands_of (commands.Link output inputs) = output ∷ inputs
operands_of (commands.Verify plan) = plan ∷ []
operands_of (commands.Graph plan) = plan ∷ []
operands_of (commands.Sim plan schedule) = plan ∷ schedule ∷ []
operands_of (commands.Run input) = input ∷ []
operands_of (commands.Gen seed count) = dec_text seed ∷ dec_text count ∷ []
operands_of (commands.Stub input output) = input ∷ output ∷ []
operands_of (commands.Judge input report) = input ∷ report ∷ []

-- a seed, and a number of modules that are drawn of it
abbrev pub AreDrawnOf : (seed count : ℕ) → Type 0
AreDrawnOf seed count = (seed < 2 ^ 64) × (MIN_COUNT ≤ count) × (count ≤ MAX_COUNT)

-- a command that takes any number of inputs has one at least, and not too many; and one that takes numbers has them
-- within the limits
abbrev pub HasInputs : Command → Type 0
HasInputs (commands.Link output inputs) = (1 ≤ length inputs) × (length inputs ≤ MAX_INPUTS)
HasInputs (commands.Gen seed count) = AreDrawnOf seed count
HasInputs command = ⊤

-- the words are this command
pub record IsCommand (words : List (List ℕ)) (command : Command) : Type 0 where
  pub spelled : words ≡ command_word command ∷ operands_of command
  pub operands : All IsOperand (operands_of command)
  pub number : HasInputs command

-- the words are a command
abbrev pub IsCommandLine : List (List ℕ) → Type 0
IsCommandLine words = (command : Command) × IsCommand words command

-- what the words are read as: a command, or none
abbrev pub IsReading : List (List ℕ) → Option Command → Type 0
IsReading words None = ¬ IsCommandLine words
IsReading words (Some command) = IsCommand words command

-- the files that a command reads first, in order
abbrev pub inputs_of : Command → List (List ℕ)
inputs_of (commands.Asm input output) = input ∷ []
inputs_of (commands.List input) = input ∷ []
inputs_of (commands.Instrument input output) = input ∷ []
inputs_of (commands.Link output inputs) = inputs
inputs_of (commands.Verify plan) = plan ∷ []
inputs_of (commands.Graph plan) = plan ∷ []
inputs_of (commands.Sim plan schedule) = plan ∷ []
inputs_of (commands.Run input) = input ∷ []
inputs_of (commands.Gen seed count) = []
inputs_of (commands.Stub input output) = input ∷ []
inputs_of (commands.Judge input report) = input ∷ []

-- the files that it reads after them, in order: those that its inputs, of these bytes, name, and then a schedule or a
-- report
abbrev pub more_of : Command → (files : List (List ℕ)) → List (List ℕ)
more_of (commands.Verify plan) (bytes ∷ []) = named_files bytes
more_of (commands.Graph plan) (bytes ∷ []) = named_files bytes
more_of (commands.Sim plan schedule) (bytes ∷ []) = named_files_and bytes schedule
more_of (commands.Run input) (bytes ∷ []) = run_files bytes
more_of (commands.Judge input report) (bytes ∷ []) = judged_files bytes report
more_of command files = []

-- the file that a command saves, where it saves one
abbrev pub saved_name : Command → Option (List ℕ)
saved_name (commands.Asm input output) = Some output
saved_name (commands.List input) = None
saved_name (commands.Instrument input output) = Some output
saved_name (commands.Link output inputs) = Some output
saved_name (commands.Verify plan) = None
saved_name (commands.Graph plan) = None
saved_name (commands.Sim plan schedule) = None
saved_name (commands.Run input) = None
saved_name (commands.Gen seed count) = None
saved_name (commands.Stub input output) = Some output
saved_name (commands.Judge input report) = None
