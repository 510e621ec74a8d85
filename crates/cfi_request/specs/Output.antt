-- What the program says for itself: where the words are no command, and where a file was not read. Each line ends with
-- a line feed.
use Rattle.std.specs.Prelude.{ℕ, List, ◌++◌, codes}
use Rattle.cfi_request.specs.declared.output.Output.{Output}
use Rattle.cfi_request.specs.declared.output.Output.TheVariants as outputs
use Rattle.cfi_request.specs.declared.output.TheConstants.{READ_FAULT, NO_FILE}
use Rattle.cfi_request.specs.declared.reading.Cause.{Cause}
use Rattle.cfi_request.specs.declared.reading.Cause.TheVariants.{Failed, Absent, TooLong}
use Rattle.cfi_request.specs.declared.reading.Unread.{Unread}

-- what is printed where the words are no command
abbrev pub usage_line : List ℕ
usage_line = codes "usage: cfi asm|list|instrument|link|verify|graph|sim|run|gen|stub|judge\n"

-- the file, and why it was not read
abbrev pub unread_line : (name : List ℕ) → Cause → List ℕ
unread_line name Failed = codes "failed read " ++ name ++ codes "\n"
unread_line name Absent = codes "absent " ++ name ++ codes "\n"
unread_line name TooLong = codes "toolong " ++ name ++ codes "\n"

-- the status where a file was not read
abbrev pub unread_status : Cause → ℕ
unread_status Failed = READ_FAULT
unread_status Absent = NO_FILE
unread_status TooLong = NO_FILE

-- what is printed then
abbrev pub unread_output : Unread → Output
unread_output unread = outputs.Print (unread_status unread.cause) (unread_line unread.name unread.cause)
