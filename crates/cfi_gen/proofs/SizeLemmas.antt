-- How long a source is.
use Rattle.std.proofs.Common.{◌≡◌, ◌+◌, ◌-◌, ◌*◌, ◌^◌, ◌<◌, ◌≤◌, ℕ, zero, suc, Bool, true, false, List, [], ◌∷◌, ◌++◌, length, All, Option, Some, None, arith, length-append, if◌then◌else◌, get_or, refl, subst}
use Rattle.std.specs.Prelude.{◌==◌, codes, slice_get}
use Rattle.std.specs.Fmt.{decimal}
use Rattle.std.specs.List.{flat_map}
use Rattle.std.proofs.lemmas.Fmt.{length-decimal-le}
use Rattle.std.proofs.lemmas.List.Elements.{All-tail}
use Rattle.std.proofs.lemmas.Option.{get_or_from_slice_get, slice_get_within}
use Rattle.elf_read.specs.Places.{joined}
use Rattle.cfi_gen.specs.declared.shape.Drawn.{Drawn}
use Rattle.cfi_gen.specs.declared.shape.Function.{Function}
use Rattle.cfi_gen.specs.declared.shape.Kind.{Kind}
use Rattle.cfi_gen.specs.Drawn.{AreFunctions, IsFunction}
use Rattle.cfi_gen.specs.Source.{line, function_name, node_lines, addition, call_lines, keeping_lines, giving_lines, body_lines, global_lines, taken_word, func_line, function_lines, lines_at, opening_lines, calling_lines, putting_lines, guest_lines, exit_lines, main_head, main_lines, source_text}

-- ---- pieces

append_le : (a b : List ℕ) (m n : ℕ) → length a ≤ m → length b ≤ n → length (a ++ b) ≤ m + n
append_le a b m n first second = omega (arith, length-append a b, first, second)

line_le : (words : List ℕ) (m : ℕ) → length words ≤ m → length (line words) ≤ m + 1
unfolding line
line_le words m short = append_le words (codes "\n") m 1 short (omega arith)

number_le : (n : ℕ) → n < 2 ^ 64 → length (decimal n) ≤ 20
number_le n small = length-decimal-le 20 n (omega arith) (omega arith) small

joined_le : (give : ℕ → List ℕ) (count : ℕ) → ((k : ℕ) → k < count → length (give k) ≤ 1000)
    → length (joined give count) ≤ 1000 * count
joined_le give zero each = omega arith
joined_le give (suc count) each =
    let before = joined_le give count (λ k less. each k (omega (arith, less))) in
    omega (arith, length-append (joined give count) (give count), before, each count (omega arith))

additions_le : (constants : List ℕ) → All (λ (constant : ℕ). constant < 200) constants
    → length (flat_map addition constants) ≤ 32 * length constants
additions_le [] small = omega arith
additions_le (c ∷ constants) small =
    let here : length (addition c) ≤ 32 = (line_le (codes "addi a0,a0," ++ decimal c) 31
    (append_le (codes "addi a0,a0,") (decimal c) 11 20 (omega arith) (number_le c (omega (
      arith,
      small 0 c
          (omega arith),
    ))))) in
    let more = additions_le constants (All-tail (λ (constant : ℕ). constant < 200) c constants small) in
    omega (arith, length-append (addition c) (flat_map addition constants), here, more)

-- ---- functions

name_le : (number place : ℕ) → number < 2 ^ 64 → place < 2 ^ 64 → length (function_name number place) ≤ 43
name_le number place small near = (append_le (codes "m" ++ decimal number ++ codes "_f") (decimal place) 23 20
    (append_le (codes "m" ++ decimal number) (codes "_f") 21 2 (append_le (codes "m") (decimal number) 1 20
    (omega arith) (number_le number small)) (omega arith)) (number_le place near))

call_le : (name : List ℕ) (node : ℕ) (taken : Bool) → length name ≤ 43 → node ≤ 2
    → length (call_lines name node taken) ≤ 96
call_le name node true short low =
    (append_le (line (codes "la t0," ++ name) ++ line (codes ".kind call " ++ decimal node)) (line
    (codes "jalr ra,0(t0)")) 82 14 (append_le (line (codes "la t0," ++ name)) (line (codes ".kind call "
    ++ decimal node)) 50 32 (line_le (codes "la t0," ++ name) 49 (append_le (codes "la t0,") name 6 43
    (omega arith) short)) (line_le (codes ".kind call " ++ decimal node) 31 (append_le
    (codes ".kind call ") (decimal node) 11 20 (omega arith) (number_le node (omega (arith, low)))))) (line_le
    (codes "jalr ra,0(t0)") 13 (omega arith)))
call_le name node false short low =
    let all : length (line (codes "call " ++ name)) ≤ 49 = (line_le (codes "call " ++ name) 48
    (append_le (codes "call ") name 5 43 (omega arith) short)) in
    omega (arith, all)

global_by : (test : Bool) (name : List ℕ) → length name ≤ 43
    → length (if test then line (codes ".globl " ++ name) else []) ≤ 51
global_by true name short = (line_le (codes ".globl " ++ name) 50 (append_le (codes ".globl ") name 7 43
    (omega arith) short))
global_by false name short = omega arith

taken_le : (taken : Bool) → length (taken_word taken) ≤ 6
taken_le true = omega arith
taken_le false = omega arith

func_le : (number place : ℕ) (kind : Kind) → number < 2 ^ 64 → place < 2 ^ 64 → kind.node ≤ 2
    → length (func_line number place kind) ≤ 77
func_le number place kind small near low =
    (line_le (codes ".func " ++ function_name number place ++ codes " " ++ decimal kind.node
    ++ taken_word kind.taken) 76 (append_le (codes ".func " ++ function_name number place ++ codes " "
    ++ decimal kind.node) (taken_word kind.taken) 70 6 (append_le (codes ".func " ++ function_name number place
    ++ codes " ") (decimal kind.node) 50 20 (append_le (codes ".func " ++ function_name number place)
    (codes " ") 49 1 (append_le (codes ".func ") (function_name number place) 6 43 (omega arith)
    (name_le number place small near)) (omega arith)) (number_le kind.node
    (omega (arith, low)))) (taken_le kind.taken)))

keeping_le : length keeping_lines ≤ 28
unfolding keeping_lines
keeping_le = (append_le (line (codes "addi sp,sp,-16")) (line (codes "sw ra,12(sp)")) 15 13
    (line_le (codes "addi sp,sp,-16") 14 (omega arith)) (line_le (codes "sw ra,12(sp)") 12 (omega arith)))

giving_le : length giving_lines ≤ 27
unfolding giving_lines
giving_le = (append_le (line (codes "lw ra,12(sp)")) (line (codes "addi sp,sp,16")) 13 14
    (line_le (codes "lw ra,12(sp)") 12 (omega arith)) (line_le (codes "addi sp,sp,16") 13 (omega arith)))

-- the node of what is called
abbrev IsNext : Option Function → Type 0
IsNext None = Unit {0}
IsNext (Some next) = next.kind.node ≤ 2

body_le : (number place : ℕ) (function : Function) (next : Option Function) → number < 2 ^ 64 → place + 1 < 2 ^ 64
    → IsFunction function → IsNext next → length (body_lines number place function next) ≤ 400
body_le number place function None small near is low =
    let adds = additions_le function.constants is.small in
    let all = (append_le (flat_map addition function.constants) (line
    (codes "ret")) (32 * length function.constants) 4 adds (line_le (codes "ret") 3 (omega arith))) in
    omega (arith, all, is.few)
body_le number place function (Some next) small near is low =
    let adds = additions_le function.constants is.small in
    let call = call_le (function_name number (place + 1)) next.kind.node next.kind.taken
    (name_le number (place + 1) small near) low in
    let all = (append_le (keeping_lines ++ flat_map addition function.constants ++ call_lines
    (function_name number (place + 1)) next.kind.node next.kind.taken ++ giving_lines) (line
    (codes "ret")) (28 + (32 * length function.constants) + 96 + 27) 4 (append_le (keeping_lines
    ++ flat_map addition function.constants ++ call_lines
    (function_name number (place + 1)) next.kind.node next.kind.taken) giving_lines (28 +
    (32 * length function.constants) + 96) 27 (append_le (keeping_lines
    ++ flat_map addition function.constants) (call_lines
    (function_name number (place + 1)) next.kind.node next.kind.taken) (28 + (32 * length function.constants)) 96
    (append_le (keeping_lines) (flat_map addition function.constants) 28
    (32 * length function.constants) keeping_le adds) call) giving_le) (line_le (codes "ret") 3 (omega arith))) in
    omega (arith, all, is.few)

function_le : (number place : ℕ) (function next : Option Function) → number < 2 ^ 64 → place + 1 < 2 ^ 64
    → ((f : Function) → function ≡ Some f → IsFunction f) → IsNext next
    → length (function_lines number place function next) ≤ 1000
unfolding function_lines
function_le number place None next small near each low = omega arith
function_le number place (Some function) next small near each low =
    let is = each function refl in
    let all = (append_le (global_lines number place ++ func_line number place function.kind
    ++ body_lines number place function next) (line (codes ".endfunc")) 528 9 (append_le (global_lines number place
    ++ func_line number place function.kind) (body_lines number place function next) 128 400
    (append_le (global_lines number place) (func_line number place function.kind) 51 77 (global_by (place == 0)
    (function_name number place) (name_le number place small
    (omega (arith, near)))) (func_le number place function.kind small
    (omega (arith, near)) is.node)) (body_le number place function next small near is low)) (line_le
    (codes ".endfunc") 8 (omega arith))) in
    omega (arith, all)

-- a function of the list is one
is_of : (functions : List Function) → All IsFunction functions → (place : ℕ) (f : Function)
    → slice_get functions place ≡ Some f → IsFunction f
is_of functions each place f got =
    subst IsFunction (get_or_from_slice_get functions place f f got)
    (each place f (slice_get_within functions place f got))

next_by : (functions : List Function) → All IsFunction functions → (place : ℕ) (next : Option Function)
    → slice_get functions place ≡ next → IsNext next
next_by functions each place None got = tt
next_by functions each place (Some f) got = (is_of functions each place f got).node

lines_le : (drawn : Drawn) → drawn.number < 2 ^ 64 → AreFunctions drawn.functions → (place : ℕ)
    → place < length drawn.functions → length (lines_at drawn place) ≤ 1000
lines_le drawn small are place within =
    function_le drawn.number place (slice_get drawn.functions place) (slice_get drawn.functions (place + 1)) small
    (omega (arith, within, are.few)) (is_of drawn.functions are.each place)
    (next_by drawn.functions are.each (place + 1) _ refl)

-- ---- `main`

guest_le : (number : ℕ) → number < 2 ^ 64 → length (guest_lines number) ≤ 1000
unfolding opening_lines calling_lines putting_lines
guest_le number small =
    let given : length (line (codes "li a0," ++ decimal number)) ≤ 27 =
    (line_le (codes "li a0," ++ decimal number) 26 (append_le (codes "li a0,") (decimal number) 6 20 (omega arith)
    (number_le number small))) in
    let opening : length (opening_lines number) ≤ 50 =
    (append_le (line (codes "li a7,4") ++ line (codes "li a0," ++ decimal number) ++ line (codes "ecall")) (line
    (codes "mv t0,a0")) 41 9 (append_le (line (codes "li a7,4") ++ line (codes "li a0," ++ decimal number)) (line
    (codes "ecall")) 35 6 (append_le (line (codes "li a7,4")) (line (codes "li a0," ++ decimal number)) 8 27
    (line_le (codes "li a7,4") 7 (omega arith)) given) (line_le (codes "ecall") 5 (omega arith))) (line_le
    (codes "mv t0,a0") 8 (omega arith))) in
    let calling : length (calling_lines number) ≤ 54 =
    (append_le (line (codes "li a0," ++ decimal number) ++ line (codes ".kind call 1")) (line
    (codes "jalr ra,0(t0)")) 40 14 (append_le (line (codes "li a0," ++ decimal number)) (line
    (codes ".kind call 1")) 27 13 given (line_le (codes ".kind call 1") 12 (omega arith))) (line_le
    (codes "jalr ra,0(t0)") 13 (omega arith))) in
    let putting : length putting_lines ≤ 14 = (append_le (line (codes "li a7,2")) (line (codes "ecall")) 8 6
    (line_le (codes "li a7,2") 7 (omega arith)) (line_le (codes "ecall") 5 (omega arith))) in
    let all : length (guest_lines number) ≤ 118 =
    (append_le (opening_lines number ++ calling_lines number) putting_lines 104 14
    (append_le (opening_lines number) (calling_lines number) 50 54 opening calling) putting) in
    omega (arith, all)

main_le : (count : ℕ) → count ≤ 32 → length (main_lines count) ≤ 33000
unfolding main_head exit_lines
main_le count few =
    let head : length main_head ≤ 25 = (append_le (line (codes ".globl main")) (line (codes ".func main 1")) 12 13
    (line_le (codes ".globl main") 11 (omega arith)) (line_le (codes ".func main 1") 12 (omega arith))) in
    let exit : length exit_lines ≤ 28 =
    (append_le (line (codes "li a0,0") ++ line (codes "li a7,1") ++ line (codes "ecall")) (line
    (codes "j .+0")) 22 6 (append_le (line (codes "li a0,0") ++ line (codes "li a7,1")) (line (codes "ecall")) 16 6
    (append_le (line (codes "li a0,0")) (line (codes "li a7,1")) 8 8 (line_le (codes "li a0,0") 7 (omega arith))
    (line_le (codes "li a7,1") 7 (omega arith))) (line_le (codes "ecall") 5 (omega arith))) (line_le
    (codes "j .+0") 5 (omega arith))) in
    let guests = joined_le (λ before. guest_lines (before + 1)) (count - 1)
    (λ k less. guest_le (k + 1) (omega (arith, less, few))) in
    let all = (append_le (main_head ++ joined (λ before. guest_lines (before + 1)) (count - 1) ++ exit_lines) (line
    (codes ".endfunc")) (25 + (1000 * (count - 1)) + 28) 9 (append_le (main_head
    ++ joined (λ before. guest_lines (before + 1)) (count - 1)) exit_lines (25 + (1000 * (count - 1))) 28
    (append_le (main_head)
    (joined (λ before. guest_lines (before + 1)) (count - 1)) 25 (1000 * (count - 1)) head guests) exit) (line_le
    (codes ".endfunc") 8 (omega arith))) in
    omega (arith, all, few)

main_by : (test : Bool) (count : ℕ) → count ≤ 32 → length (if test then main_lines count else []) ≤ 33000
main_by true count few = main_le count few
main_by false count few = omega arith

-- ---- a source

pub source_le : (count : ℕ) (drawn : Drawn) → count ≤ 32 → drawn.number < 2 ^ 64 → AreFunctions drawn.functions
    → length (source_text count drawn) ≤ 1048576
unfolding source_text node_lines
source_le count drawn few small are =
    let nodes : length node_lines ≤ 47 =
    (append_le (line (codes ".node int 32 1") ++ line (codes ".node func 0 0")) (line
    (codes ".node func 0 0 0")) 30 17 (append_le (line (codes ".node int 32 1")) (line
    (codes ".node func 0 0")) 15 15 (line_le (codes ".node int 32 1") 14 (omega arith)) (line_le
    (codes ".node func 0 0") 14 (omega arith))) (line_le (codes ".node func 0 0 0") 16 (omega arith))) in
    let functions = joined_le (lines_at drawn) (length drawn.functions) (lines_le drawn small are) in
    let all = (append_le (node_lines ++ joined
    (lines_at drawn) (length drawn.functions)) (if drawn.number ==
    0 then main_lines count else []) (47 + (1000 * length drawn.functions)) 33000 (append_le (node_lines) (joined
    (lines_at drawn) (length drawn.functions))
    47 (1000 * length drawn.functions) nodes functions) (main_by (drawn.number == 0) count few)) in
    omega (arith, all, are.few)
