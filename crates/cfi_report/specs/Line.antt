-- The lines of a report, each by its words. The words of a line stand apart by single spaces, and a line feed ends it.
use Rattle.std.specs.Prelude.{ℕ, List, [], ◌∷◌, ◌++◌, map, codes, Option, Some, None}
use Rattle.std.specs.List.{flat_map, join_with_byte}
use Rattle.cfi_text.specs.Decimal.{dec_text}
use Rattle.cfi_text.specs.Hex.{hex8_text, hex_text}
use Rattle.cfi_plan.specs.declared.journal.Who.{Who}
use Rattle.cfi_plan.specs.declared.journal.Who.TheVariants.{Script, Guest}
use Rattle.cfi_plan.specs.declared.journal.JournalLine.{JournalLine}
use Rattle.cfi_plan.specs.declared.journal.JournalLine.TheVariants.{LoadOk, LoadAgain, LoadFull, LoadPlace, LoadVerify, LoadVersions, LoadEpochs, LoadRetired, RefreshOk, RefreshVersions, RefreshEpochs, RetireOk, RetireNotLive, RetireInUse, RetireVersions, RetireEpochs}
use Rattle.cfi_unit.specs.declared.log.Log.{Log}
use Rattle.cfi_unit.specs.declared.log.Log.TheVariants.{Pick, Open, Cause}
use Rattle.cfi_unit.specs.declared.log.Stop.{Stop}
use Rattle.cfi_unit.specs.declared.log.Stop.TheVariants.{Exit, Halt, Align, Fuel}
use Rattle.cfi_report.specs.declared.line.Line.{Line}
use Rattle.cfi_report.specs.declared.line.Line.TheVariants as line

-- a word of a line: a fixed one, a number in decimal, an address in eight hexadecimal digits, a name, or bytes
pub data Field : Type 0 where
  Word : List ℕ → Field
  Decimal : ℕ → Field
  Address : ℕ → Field
  Name : List ℕ → Field
  Bytes : List ℕ → Field

-- two lower-case hexadecimal digits a byte, or a dash for no byte
abbrev pub bytes_text : List ℕ → List ℕ
bytes_text [] = codes "-"
bytes_text (byte ∷ bytes) = hex_text (byte ∷ bytes)

-- a field as text
abbrev pub field_text : Field → List ℕ
field_text (Word word) = word
field_text (Decimal number) = dec_text number
field_text (Address address) = hex8_text address
field_text (Name name) = name
field_text (Bytes bytes) = bytes_text bytes

-- the script, or a guest by its number
abbrev pub who_field : Who → Field
who_field Script = Word (codes "script")
who_field (Guest number) = Decimal number

-- the fields of a line of the journal
abbrev pub what_fields : JournalLine → List Field
what_fields (LoadOk number epoch policy) =
    Word (codes "load") ∷ Decimal number ∷ Word (codes "ok") ∷ Decimal epoch ∷ Decimal policy ∷ []
what_fields (LoadAgain number policy) =
    Word (codes "load") ∷ Decimal number ∷ Word (codes "again") ∷ Decimal policy ∷ []
what_fields (LoadFull number) = Word (codes "load") ∷ Decimal number ∷ Word (codes "full") ∷ []
what_fields (LoadPlace number fault) = Word (codes "load") ∷ Decimal number ∷ Word (codes "place") ∷ Decimal fault ∷ []
what_fields (LoadVerify number fault place) =
    Word (codes "load") ∷ Decimal number ∷ Word (codes "verify") ∷ Decimal fault ∷ Decimal place ∷ []
what_fields (LoadVersions number guest quiet) =
    Word (codes "load") ∷ Decimal number ∷ Word (codes "versions") ∷ Decimal guest ∷ Decimal quiet ∷ []
what_fields (LoadEpochs number) = Word (codes "load") ∷ Decimal number ∷ Word (codes "epochs") ∷ []
what_fields (LoadRetired number) = Word (codes "load") ∷ Decimal number ∷ Word (codes "retired") ∷ []
what_fields (RefreshOk epoch) = Word (codes "refresh") ∷ Word (codes "ok") ∷ Decimal epoch ∷ []
what_fields (RefreshVersions guest quiet) =
    Word (codes "refresh") ∷ Word (codes "versions") ∷ Decimal guest ∷ Decimal quiet ∷ []
what_fields RefreshEpochs = Word (codes "refresh") ∷ Word (codes "epochs") ∷ []
what_fields (RetireOk number epoch policy) =
    Word (codes "retire") ∷ Decimal number ∷ Word (codes "ok") ∷ Decimal epoch ∷ Decimal policy ∷ []
what_fields (RetireNotLive number) = Word (codes "retire") ∷ Decimal number ∷ Word (codes "notlive") ∷ []
what_fields (RetireInUse number user) =
    Word (codes "retire") ∷ Decimal number ∷ Word (codes "inuse") ∷ Decimal user ∷ []
what_fields (RetireVersions number guest quiet) =
    Word (codes "retire") ∷ Decimal number ∷ Word (codes "versions") ∷ Decimal guest ∷ Decimal quiet ∷ []
what_fields (RetireEpochs number) = Word (codes "retire") ∷ Decimal number ∷ Word (codes "epochs") ∷ []

-- those of an entry of a log
abbrev pub log_fields : Log → List Field
log_fields (Pick policy count) = Word (codes "pick") ∷ Decimal policy ∷ Decimal count ∷ []
log_fields (Open number address policy) = Word (codes "open") ∷ Decimal number ∷ Address address ∷ Decimal policy ∷ []
log_fields (Cause number cause) = Word (codes "open") ∷ Decimal number ∷ Word (codes "cause") ∷ Decimal cause ∷ []

-- those of what a guest has ended with
abbrev pub stop_fields : Option Stop → List Field
stop_fields (Some (Exit code)) = Word (codes "exit") ∷ Decimal code ∷ []
stop_fields (Some (Halt address)) = Word (codes "halt") ∷ Address address ∷ []
stop_fields (Some (Align address)) = Word (codes "align") ∷ Address address ∷ []
stop_fields (Some Fuel) = Word (codes "fuel") ∷ []
stop_fields None = Word (codes "none") ∷ []

-- those of any line
abbrev pub line_fields : Line → List Field
line_fields line.Title = Word (codes "report") ∷ Word (codes "1") ∷ []
line_fields (line.Force epoch policy) = Word (codes "force") ∷ Decimal epoch ∷ Decimal policy ∷ []
line_fields (line.Module one) =
    Word (codes "module") ∷ Decimal one.number ∷ Name one.name ∷ Decimal one.base ∷ Decimal one.slot
    ∷ Address one.data_base ∷ Decimal one.policy ∷ []
line_fields (line.Journal entry) = Word (codes "journal") ∷ who_field entry.who ∷ what_fields entry.what
line_fields (line.Guest number entry) = Word (codes "guest") ∷ Decimal number ∷ Name entry ∷ []
line_fields (line.Log entry) = log_fields entry
line_fields (line.Out bytes) = Word (codes "out") ∷ Bytes bytes ∷ []
line_fields (line.Stop stop) = Word (codes "stop") ∷ stop_fields stop
line_fields (line.Units units) = Word (codes "units") ∷ Decimal units ∷ []
line_fields (line.Steps steps) = Word (codes "steps") ∷ Decimal steps ∷ []
line_fields line.End = Word (codes "end") ∷ []

-- words with a space before each
abbrev pub spaced : List Field → List ℕ
spaced fields = flat_map (λ field. 32 ∷ field_text field) fields

-- the words of a line
abbrev pub line_words : Line → List (List ℕ)
line_words one = map field_text (line_fields one)

-- a line, with its end
abbrev pub line_text : Line → List ℕ
line_text one = join_with_byte 32 (line_words one) ++ 10 ∷ []
