-- What a text comes to: the object of its lines where none of them is faulty, else the fault of the first faulty one.
use Rattle.std.specs.Prelude.{◌≡◌, ℕ, List, [], ◌∷◌, Result, Ok, Err}
use Rattle.elf_read.specs.declared.object.Object.{Object}
use Rattle.rv_asm.specs.declared.fault.AsmFault.{AsmFault}
use Rattle.rv_asm.specs.declared.fault.AsmFault.TheVariants.{Syntax, UnknownName, Twice, Range, Memory}
use Rattle.rv_asm.specs.declared.file.File.{File}
use Rattle.rv_line.specs.declared.line.Line.{Line}
use Rattle.rv_asm.specs.Fault.{faults_of}
use Rattle.rv_asm.specs.Made.{object_by}
use Rattle.rv_asm.specs.Placed.{lines_in}
use Rattle.rv_asm.specs.Symbols.{file_in}
use Rattle.cfi_values.specs.Due.{Answers}

-- the object, unless there are faults: then the first of them
abbrev pub unless : (faults : List AsmFault) → Object → Result Object AsmFault
unless [] object = Ok object
unless (fault ∷ faults) object = Err fault

-- what comes of lines
abbrev pub object_or_fault : File → (lines : List Line) → Result Object AsmFault
object_or_fault file lines = unless (faults_of file lines) (object_by file lines)

-- what comes of a text
abbrev pub object_in : (text : List ℕ) → Result Object AsmFault
object_in text = object_or_fault (file_in (lines_in text)) (lines_in text)

-- a call that failed gave the fault that is due, unless memory ran out
abbrev pub Fails : {Y : Type 0} → AsmFault → (due : Result Y AsmFault) → Type 0
Fails Memory due = Unit {0}
Fails (Syntax number) due = due ≡ Err (Syntax number)
Fails (UnknownName number) due = due ≡ Err (UnknownName number)
Fails (Twice number) due = due ≡ Err (Twice number)
Fails (Range number) due = due ≡ Err (Range number)

-- the answer is the one that is due, unless memory ran out
abbrev pub IsDue : {Y : Type 0} → (answer due : Result Y AsmFault) → Type 0
IsDue answer due = Answers Fails answer due
