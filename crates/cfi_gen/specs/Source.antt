-- The source of a drawn module, line by line.
use Rattle.std.specs.Prelude.{ℕ, ◌+◌, ◌-◌, Bool, true, false, List, [], ◌++◌, length, codes, slice_get, if◌then◌else◌, ◌==◌, Option, Some, None}
use Rattle.std.specs.Fmt.{decimal}
use Rattle.std.specs.List.{flat_map}
use Rattle.elf_read.specs.Places.{joined}
use Rattle.cfi_gen.specs.declared.shape.Kind.{Kind}
use Rattle.cfi_gen.specs.declared.shape.Function.{Function}
use Rattle.cfi_gen.specs.declared.shape.Drawn.{Drawn}

-- a line of these words
unfoldable pub line : (words : List ℕ) → List ℕ
line words = words ++ codes "\n"

-- the name of a module
abbrev pub module_name : (number : ℕ) → List ℕ
module_name number = codes "m" ++ decimal number

-- the name of its file
abbrev pub file_name : (number : ℕ) → List ℕ
file_name number = codes "m" ++ decimal number ++ codes ".o"

-- the name of one of its functions
abbrev pub function_name : (number place : ℕ) → List ℕ
function_name number place = codes "m" ++ decimal number ++ codes "_f" ++ decimal place

-- the types: of a word, of a function without parameters, and of one with one
unfoldable pub node_lines : List ℕ
node_lines = line (codes ".node int 32 1") ++ line (codes ".node func 0 0") ++ line (codes ".node func 0 0 0")

-- what a function adds to its argument
abbrev pub addition : (constant : ℕ) → List ℕ
addition constant = line (codes "addi a0,a0," ++ decimal constant)

-- a call of a function of this name: by its address where that is taken
abbrev pub call_lines : (name : List ℕ) → (node : ℕ) → (taken : Bool) → List ℕ
call_lines name node true =
    line (codes "la t0," ++ name) ++ line (codes ".kind call " ++ decimal node) ++ line (codes "jalr ra,0(t0)")
call_lines name node false = line (codes "call " ++ name)

-- its return address is kept while it calls
unfoldable pub keeping_lines : List ℕ
keeping_lines = line (codes "addi sp,sp,-16") ++ line (codes "sw ra,12(sp)")

-- and given back
unfoldable pub giving_lines : List ℕ
giving_lines = line (codes "lw ra,12(sp)") ++ line (codes "addi sp,sp,16")

-- the body of a function: one behind which another stands calls that
abbrev pub body_lines : (number place : ℕ) → Function → (next : Option Function) → List ℕ
body_lines number place function None = flat_map addition function.constants ++ line (codes "ret")
body_lines number place function (Some next) =
    keeping_lines ++ flat_map addition function.constants
    ++ call_lines (function_name number (place + 1)) next.kind.node next.kind.taken
    ++ giving_lines ++ line (codes "ret")

-- the first function is global
abbrev pub global_lines : (number place : ℕ) → List ℕ
global_lines number place = if place == 0 then line (codes ".globl " ++ function_name number place) else []

-- a taken one says so
abbrev pub taken_word : Bool → List ℕ
taken_word true = codes " taken"
taken_word false = []

-- what a function begins with
abbrev pub func_line : (number place : ℕ) → Kind → List ℕ
func_line number place kind =
    line (codes ".func " ++ function_name number place ++ codes " " ++ decimal kind.node ++ taken_word kind.taken)

-- a function, and the one behind it
unfoldable pub function_lines : (number place : ℕ) → (function next : Option Function) → List ℕ
function_lines number place None next = []
function_lines number place (Some function) next =
    global_lines number place
    ++ func_line number place function.kind ++ body_lines number place function next ++ line (codes ".endfunc")

-- the function at a place
abbrev pub lines_at : Drawn → (place : ℕ) → List ℕ
lines_at drawn place =
    function_lines drawn.number place (slice_get drawn.functions place) (slice_get drawn.functions (place + 1))

-- a module is opened by its number
unfoldable pub opening_lines : (number : ℕ) → List ℕ
opening_lines number =
    line (codes "li a7,4") ++ line (codes "li a0," ++ decimal number) ++ line (codes "ecall") ++ line (codes "mv t0,a0")

-- its first function is called with the number
unfoldable pub calling_lines : (number : ℕ) → List ℕ
calling_lines number =
    line (codes "li a0," ++ decimal number) ++ line (codes ".kind call 1") ++ line (codes "jalr ra,0(t0)")

-- what it answers is put
unfoldable pub putting_lines : List ℕ
putting_lines = line (codes "li a7,2") ++ line (codes "ecall")

-- all this
abbrev pub guest_lines : (number : ℕ) → List ℕ
guest_lines number = opening_lines number ++ calling_lines number ++ putting_lines

-- the guest exits with 0
unfoldable pub exit_lines : List ℕ
exit_lines = line (codes "li a0,0") ++ line (codes "li a7,1") ++ line (codes "ecall") ++ line (codes "j .+0")

-- what `main` begins with
unfoldable pub main_head : List ℕ
main_head = line (codes ".globl main") ++ line (codes ".func main 1")

-- `main`, where so many modules are there
abbrev pub main_lines : (count : ℕ) → List ℕ
main_lines count =
    main_head ++ joined (λ before. guest_lines (before + 1)) (count - 1) ++ exit_lines ++ line (codes ".endfunc")

-- The first module has `main` behind its functions. That opens each other module in turn, calls its first function with
-- the number of the module, and puts what it answers.
unfoldable pub source_text : (count : ℕ) → Drawn → List ℕ
source_text count drawn =
    node_lines ++ joined (lines_at drawn) (length drawn.functions)
    ++ (if drawn.number == 0 then main_lines count else [])
