-- A statement has few names: at most two, or the words of a switch.
use Rattle.std.proofs.Common.{◌≡◌, ℕ, suc, ◌+◌, ◌≤◌, Bool, true, false, cond, List, [], ◌∷◌, ◌++◌, length, option_map, if◌then◌else◌, Option, Some, None, refl, ap, arith}
use Rattle.std.specs.Prelude.{option_and_then, codes}
use Rattle.std.specs.Str.{bytes_eq}
use Rattle.std.specs.List.{slice_split, onto_first}
use Rattle.std.proofs.lemmas.List.Sums.{length-filter, count_by-le-length}
use Rattle.cfi_values.specs.Some.{◌>>=◌}
use Rattle.cfi_text.specs.Names.{name_in}
use Rattle.cfi_text.specs.Words.{is_blank, has_byte, words_in}
use Rattle.rv_insn.specs.declared.insn.ImmOp.{ImmOp}
use Rattle.rv_insn.specs.declared.insn.ImmOp.TheVariants.{Addi}
use Rattle.rv_line.specs.declared.statement.High.{High}
use Rattle.rv_line.specs.declared.statement.High.TheVariants as highs
use Rattle.rv_line.specs.declared.statement.Statement.{Statement}
use Rattle.rv_line.specs.declared.statement.Statement.TheVariants as statements
use Rattle.rv_line.specs.Immediate.{low_in, high_in, place_in}
use Rattle.rv_line.specs.Keyword.{called, mnemonic_text, mnemonics, short_text, shorts, directive_text, directives, node_kind_text, node_kinds}
use Rattle.rv_line.specs.Number.{integer_in}
use Rattle.rv_line.specs.Operand.{is_empty, operands_in, operand, no_operands, one, two, three}
use Rattle.rv_line.specs.Register.{register_in}
use Rattle.rv_line.specs.Statement.{takes, imm_op_by, lui_by, alone, insn_in, short_in, directive_in, said_or, form_of, onto, all_in, names_in, integers_in, has_count, node_words, func_by, func_words, switch_of, only_integer, kind_by, kind_words}
use Rattle.rv_line.specs.Target.{target_in, datum_in}
use Rattle.rv_line.specs.declared.keyword.Mnemonic.{Mnemonic}
use Rattle.rv_line.specs.declared.keyword.Mnemonic.TheVariants as mnemonic
use Rattle.rv_line.specs.declared.keyword.Short.{Short}
use Rattle.rv_line.specs.declared.keyword.Short.TheVariants as short
use Rattle.rv_line.specs.declared.keyword.Directive.{Directive}
use Rattle.rv_line.specs.declared.keyword.Directive.TheVariants as directive
use Rattle.rv_line.specs.declared.statement.Low.{Low}
use Rattle.rv_asm.specs.inner.Count.{most_of}

-- what a form gives has at most so many
abbrev pub HasFew : Option Statement → ℕ → Type 0
HasFew form n = (s : Statement) → form ≡ Some s → most_of s ≤ n

none-few : (n : ℕ) → HasFew None n
none-few n s e = cc

some-few : (given : Statement) (n : ℕ) → most_of given ≤ n → HasFew (Some given) n
some-few given n few s e =
    let same : given ≡ s = cc in
    let names = ap most_of same in
    omega (arith, few, names)

bind-few : {A : Type 0} (o : Option A) (f : A → Option Statement) (n : ℕ) → ((x : A) → HasFew (f x) n)
    → HasFew (o >>= f) n
bind-few None f n few = none-few n
bind-few (Some x) f n few = few x

map-few : {A : Type 0} (f : A → Statement) (o : Option A) (n : ℕ) → ((x : A) → most_of (f x) ≤ n)
    → HasFew (option_map f o) n
map-few f None n few = none-few n
map-few f (Some x) n few = some-few (f x) n (few x)

then-few : {A : Type 0} (f : A → Option Statement) (o : Option A) (n : ℕ) → ((x : A) → HasFew (f x) n)
    → HasFew (option_and_then f o) n
then-few f None n few = none-few n
then-few f (Some x) n few = few x

if-few : (b : Bool) (one other : Option Statement) (n : ℕ) → HasFew one n → HasFew other n
    → HasFew (if b then one else other) n
if-few true one other n first second = first
if-few false one other n first second = second

-- ---- instructions and short forms

imm_op-few : (op : ImmOp) (rd rs1 : ℕ) (imm : Low) → HasFew (imm_op_by op rd rs1 imm) 2
imm_op-few op rd rs1 imm =
    if-few (takes op imm) _ _ 2 (some-few (statements.OpImm op rd rs1 imm) 2 (omega arith)) (none-few 2)

lui-few : (rd : ℕ) (imm : High) → HasFew (lui_by rd imm) 2
lui-few rd (highs.Number number) = some-few (statements.Lui rd (highs.Number number)) 2 (omega arith)
lui-few rd (highs.Hi name) = some-few (statements.Lui rd (highs.Hi name)) 2 (omega arith)
lui-few rd (highs.PcrelHi name) = none-few 2

alone-few : (s : Statement) (operands : List (List (List ℕ))) → most_of s ≤ 2 → HasFew (alone s operands) 2
alone-few s operands few = if-few (no_operands operands) _ _ 2 (some-few s 2 few) (none-few 2)

insn-few : (insn : Mnemonic) (operands : List (List (List ℕ))) → HasFew (insn_in insn operands) 2
insn-few (mnemonic.Op op) operands = map-few _ (three register_in register_in register_in operands) 2 (λ p. omega arith)
insn-few (mnemonic.OpImm op) operands =
    then-few _ (three register_in register_in low_in operands) 2 (λ p. imm_op-few op p.0 p.1 p.2)
insn-few (mnemonic.Load kind) operands = map-few _ (two register_in place_in operands) 2 (λ p. omega arith)
insn-few (mnemonic.Store kind) operands = map-few _ (two register_in place_in operands) 2 (λ p. omega arith)
insn-few (mnemonic.Branch cond) operands =
    map-few _ (three register_in register_in target_in operands) 2 (λ p. omega arith)
insn-few mnemonic.Lui operands = then-few _ (two register_in high_in operands) 2 (λ p. lui-few p.0 p.1)
insn-few mnemonic.Auipc operands = map-few _ (two register_in high_in operands) 2 (λ p. omega arith)
insn-few mnemonic.Jal operands = map-few _ (two register_in target_in operands) 2 (λ p. omega arith)
insn-few mnemonic.Jalr operands = map-few _ (two register_in place_in operands) 2 (λ p. omega arith)
insn-few mnemonic.Fence operands = alone-few statements.Fence operands (omega arith)
insn-few mnemonic.Ecall operands = alone-few statements.Ecall operands (omega arith)
insn-few mnemonic.Ebreak operands = alone-few statements.Ebreak operands (omega arith)

short-few : (form : Short) (operands : List (List (List ℕ))) → HasFew (short_in form operands) 2
short-few short.Nop operands =
    if-few (no_operands operands) _ _ 2
    (insn-few (mnemonic.OpImm Addi) (operand (codes "x0") ∷ operand (codes "x0") ∷ operand (codes "0") ∷ []))
    (none-few 2)
short-few short.Mv operands = insn-few (mnemonic.OpImm Addi) (operands ++ operand (codes "0") ∷ [])
short-few short.J operands = insn-few mnemonic.Jal (operand (codes "x0") ∷ operands)
short-few short.Jr operands = map-few _ (one register_in operands) 2 (λ rs. omega arith)
short-few short.Li operands = map-few _ (two register_in integer_in operands) 2 (λ p. omega arith)
short-few short.La operands = map-few _ (two register_in name_in operands) 2 (λ p. omega arith)
short-few short.Ret operands = alone-few statements.Ret operands (omega arith)
short-few short.Call operands = map-few statements.Call (one name_in operands) 2 (λ name. omega arith)
short-few short.Tail operands = map-few statements.Tail (one name_in operands) 2 (λ name. omega arith)

-- ---- records

node-few : (words : List (List ℕ)) → HasFew (node_words words) 2
node-few [] = none-few 2
node-few (word ∷ words) =
    bind-few (called node_kind_text node_kinds word) _ 2 (λ kind. bind-few (integers_in words) _ 2 (λ fields.
    if-few (has_count kind (length fields)) _ _ 2 (some-few (statements.Node kind fields) 2 (omega arith))
    (none-few 2)))

func_by-few : (name node : List ℕ) (taken : Bool) → HasFew (func_by name node taken) 2
func_by-few name node taken =
    bind-few (name_in name) _ 2 (λ n. bind-few (integer_in node) _ 2 (λ number. some-few (statements.Func n number taken) 2 (omega arith)))

func-few : (words : List (List ℕ)) → HasFew (func_words words) 2
func-few [] = none-few 2
func-few (name ∷ []) = none-few 2
func-few (name ∷ node ∷ []) = func_by-few name node false
func-few (name ∷ node ∷ taken ∷ []) =
    if-few (bytes_eq taken (codes "taken")) _ _ 2 (func_by-few name node true) (none-few 2)
func-few (name ∷ node ∷ taken ∷ word ∷ words) = none-few 2

-- ---- a switch has as many names as words

onto-length : {X : Type 0} (x : Option X) (xs : Option (List X)) (ys : List X) → onto x xs ≡ Some ys → (n : ℕ)
    → ((zs : List X) → xs ≡ Some zs → length zs ≡ n) → length ys ≡ suc n
onto-length None xs ys e n more = cc
onto-length (Some x) None ys e n more = cc
onto-length (Some x) (Some xs) ys e n more =
    let same : x ∷ xs ≡ ys = cc in
    let rest = more xs refl in
    let whole = ap (λ zs. length zs) same in
    omega (arith, rest, whole)

all-length : {X : Type 0} (read : List ℕ → Option X) (words : List (List ℕ)) (xs : List X)
    → all_in read words ≡ Some xs → length xs ≡ length words
all-length read [] xs e =
    let same : [] ≡ xs = cc in
    let none = ap (λ zs. length zs) same in
    omega (arith, none)
all-length read (word ∷ words) xs e =
    onto-length (read word) (all_in read words) xs e (length words) (λ zs is. all-length read words zs is)

switch_of-few : (names : List (List ℕ)) (n : ℕ) → length names ≤ n → HasFew (switch_of names) n
switch_of-few [] n few = none-few n
switch_of-few (name ∷ names) n few = some-few (statements.KindSwitch (name ∷ names)) n few

switch-few : (words : List (List ℕ)) (found : Option (List (List ℕ)))
    → ((names : List (List ℕ)) → found ≡ Some names → length names ≡ length words) → (n : ℕ) → length words ≤ n
    → HasFew (option_and_then switch_of found) n
switch-few words None same n few = none-few n
switch-few words (Some names) same n few = switch_of-few names n (omega (arith, same names refl, few))

more-few : (form : Option Statement) (n : ℕ) → HasFew form 2 → HasFew form (2 + n)
more-few form n few s e = omega (arith, few s e)

kind_by-few : (kind : List ℕ) (words : List (List ℕ)) (n : ℕ) → length words ≤ n → HasFew (kind_by kind words) (2 + n)
unfolding kind_by
kind_by-few kind words n few =
    if-few (bytes_eq kind (codes "call")) _ _ (2 + n) (map-few statements.KindCall (only_integer words) (2 + n) (λ x. omega arith))
    (if-few (bytes_eq kind (codes "tail")) _ _ (2 + n) (map-few statements.KindTail (only_integer words) (2 + n) (λ x. omega arith))
    (if-few (bytes_eq kind (codes "return")) _ _ (2 + n)
    (if-few (is_empty words) _ _ (2 + n) (some-few statements.KindReturn (2 + n) (omega arith)) (none-few (2 + n)))
    (if-few (bytes_eq kind (codes "switch")) _ _ (2 + n)
    (switch-few words (names_in words) (λ names e. all-length name_in words names e) (2 + n) (omega (arith, few)))
    (none-few (2 + n)))))

kind-few : (words : List (List ℕ)) (n : ℕ) → length words ≤ n + 1 → HasFew (kind_words words) (2 + n)
kind-few [] n few = none-few (2 + n)
kind-few (kind ∷ words) n few = kind_by-few kind words n (omega (arith, few))

-- ---- words

split-step : (b : Bool) (x : ℕ) (parts : List (List ℕ)) (n : ℕ) → length parts ≤ n + 1
    → length (cond b ([] ∷ parts) (onto_first x parts)) ≤ suc n + 1
split-step true x parts n h = omega (arith, h)
split-step false x [] n h = omega arith
split-step false x (part ∷ parts) n h = omega (arith, h)

split-few : (text : List ℕ) → length (slice_split is_blank text) ≤ length text + 1
split-few [] = omega arith
split-few (x ∷ text) = split-step (is_blank x) x (slice_split is_blank text) (length text) (split-few text)

words-few : (text : List ℕ) → length (words_in text) ≤ length text + 1
unfolding words_in
words-few text =
    let parts = slice_split is_blank text in
    omega (arith, length-filter has_byte parts, count_by-le-length has_byte parts, split-few text)

-- ---- all forms

directive-few : (what : Directive) (rest : List ℕ) → HasFew (directive_in what rest) (2 + length rest)
directive-few directive.Text rest = more-few _ (length rest) (alone-few statements.Text (operands_in rest) (omega arith))
directive-few directive.Data rest = more-few _ (length rest) (alone-few statements.Data (operands_in rest) (omega arith))
directive-few directive.Globl rest = map-few statements.Globl (one name_in (operands_in rest)) _ (λ name. omega arith)
directive-few directive.Word rest = map-few statements.Word (one datum_in (operands_in rest)) _ (λ datum. omega arith)
directive-few directive.Zero rest = map-few statements.Zero (one integer_in (operands_in rest)) _ (λ number. omega arith)
directive-few directive.Node rest = more-few _ (length rest) (node-few (words_in rest))
directive-few directive.Func rest = more-few _ (length rest) (func-few (words_in rest))
directive-few directive.EndFunc rest =
    more-few _ (length rest) (alone-few statements.EndFunc (operands_in rest) (omega arith))
directive-few directive.Kind rest = kind-few (words_in rest) (length rest) (words-few rest)

or-few : {X : Type 0} (o : Option X) (says : X → Option Statement) (other : Option Statement) (n : ℕ)
    → ((x : X) → HasFew (says x) n) → HasFew other n → HasFew (said_or o says other) n
or-few None says other n few next = next
or-few (Some x) says other n few next = few x

pub form-few : (word rest : List ℕ) → HasFew (form_of word rest) (2 + length rest)
unfolding form_of
form-few word rest =
    let n : ℕ = 2 + length rest in
    let words = operands_in rest in
    or-few (called mnemonic_text mnemonics word) _ _ n (λ insn. more-few _ (length rest) (insn-few insn words))
    (or-few (called short_text shorts word) _ _ n (λ form. more-few _ (length rest) (short-few form words))
    (or-few (called directive_text directives word) _ _ n (λ what. directive-few what rest) (none-few n)))
