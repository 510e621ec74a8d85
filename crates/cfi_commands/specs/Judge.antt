-- The parts of a report that is not valid, in words: the part, and the line of the journal or the guest, from 0.
use Rattle.std.specs.Prelude.{ℕ, List, ◌++◌, codes}
use Rattle.std.specs.Fmt.{decimal}
use Rattle.cfi_commands.specs.declared.judge.ReportPart.{ReportPart}
use Rattle.cfi_commands.specs.declared.judge.ReportPart.TheVariants.{Modules, Journal, Script, Guests, Log, Replay, Steps}

-- the name of a part, and its number
abbrev pub judge_text : ReportPart → List ℕ
judge_text Modules = codes "Modules"
judge_text (Journal line) = codes "Journal " ++ decimal line
judge_text Script = codes "Script"
judge_text Guests = codes "Guests"
judge_text (Log guest) = codes "Log " ++ decimal guest
judge_text (Replay guest) = codes "Replay " ++ decimal guest
judge_text (Steps guest) = codes "Steps " ++ decimal guest
