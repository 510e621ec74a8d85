-- Which words are which command.
use Rattle.std.proofs.Common.{◌≡◌, ◌<◌, ◌≤◌, ◌^◌, ℕ, Bool, true, false, List, [], ◌∷◌, length, Option, Some, None, IfSome, refl, sym, ap, ◌∙◌, if◌then◌else◌, unwrap_or, subst, arith}
use Rattle.std.proofs.lemmas.List.Elements.{All-nil, All-cons, All-tail}
use Rattle.std.proofs.lemmas.Bool.{le-leb, leb-true}
use Rattle.std.specs.Prelude.{codes, All, ◌&&◌, nat_le}
use Rattle.std.specs.Str.{bytes_eq}
use Rattle.cfi_request.specs.declared.split.Split.{Split}
use Rattle.cfi_request.specs.Split.{IsSplit, command_in, operands_of as operands_in}
use Rattle.cfi_request.specs.Words.{IsOperand}
use Rattle.cfi_gen.specs.declared.shape.TheConstants.{MAX_COUNT, MIN_COUNT}
use Rattle.cfi_text.specs.Decimal.{IsDecimal, dec_text, number_in, small_number_in}
use Rattle.cfi_text.proofs.DecimalLemmas.{number_in-some, dec_text-IsDecimal, small_number_in-back, small_number_in-says}
use Rattle.cfi_request.specs.inner.Drawing.{command_by, within_limits, count_in}
use Rattle.cfi_request.specs.declared.command.Command.{Command}
use Rattle.cfi_request.specs.declared.command.Command.TheVariants as commands
use Rattle.cfi_word.specs.declared.limits.TheConstants.{MAX_INPUTS}
use Rattle.cfi_request.specs.Command.{command_word, operands_of, HasInputs, IsCommand, IsReading}

-- ---- drawn modules

abbrev drawing_in : (seed count : List ℕ) → Option Command
drawing_in seed count = command_by (number_in seed) (count_in count)

-- a number within the limits is what its spelling says
count_back : (count : ℕ) → MIN_COUNT ≤ count → count ≤ MAX_COUNT → count_in (dec_text count) ≡ Some count
count_back count least most =
    ap within_limits (small_number_in-back count (omega (arith, most)))
    ∙ rw (le-leb MIN_COUNT count least, le-leb count MAX_COUNT most) refl

-- a number that passes two tests
within_by : (n : ℕ) (word : List ℕ) → word ≡ dec_text n → (low high : Bool) → (low ≡ true → MIN_COUNT ≤ n)
    → (high ≡ true → n ≤ MAX_COUNT)
    → IfSome (if low && high then Some n else None) (λ k. (MIN_COUNT ≤ k) × (k ≤ MAX_COUNT) × (word ≡ dec_text k))
within_by n word same true true least most = (least refl, most refl, same)
within_by n word same true false least most = tt
within_by n word same false high least most = tt

-- what is within the limits is a number from the least to the greatest
within_says : (number : Option ℕ) (word : List ℕ) → IfSome number (λ n. (n < 2 ^ 32) × (word ≡ dec_text n))
    → IfSome (within_limits number) (λ n. (MIN_COUNT ≤ n) × (n ≤ MAX_COUNT) × (word ≡ dec_text n))
within_says None word said = tt
within_says (Some n) word said =
    within_by n word said.1 (nat_le MIN_COUNT n) (nat_le n MAX_COUNT) (leb-true MIN_COUNT n) (leb-true n MAX_COUNT)

-- ---- all words

-- the command of words, read off their first
abbrev command_from : List (List ℕ) → Option Command
command_from [] = None
command_from (name ∷ []) = None
command_from (name ∷ input ∷ []) =
    if bytes_eq name (codes "list") then Some (commands.List input)
    else (if bytes_eq name (codes "verify") then Some (commands.Verify input)
    else (if bytes_eq name (codes "graph") then Some (commands.Graph input)
    else (if bytes_eq name (codes "run") then Some (commands.Run input) else None)))
command_from (name ∷ input ∷ output ∷ []) =
    if bytes_eq name (codes "asm") then Some (commands.Asm input output)
    else (if bytes_eq name (codes "instrument") then Some (commands.Instrument input output)
    else (if bytes_eq name (codes "sim") then Some (commands.Sim input output)
    else (if bytes_eq name (codes "gen") then drawing_in input output
    else (if bytes_eq name (codes "stub") then Some (commands.Stub input output)
    else (if bytes_eq name (codes "judge") then Some (commands.Judge input output)
    else (if bytes_eq name (codes "link") then Some (commands.Link input (output ∷ [])) else None))))))
command_from (name ∷ output ∷ input ∷ more ∷ rest) =
    if bytes_eq name (codes "link") then Some (commands.Link output (input ∷ more ∷ rest)) else None

linked_spelled : (output : List ℕ) (inputs : List (List ℕ)) → HasInputs (commands.Link output inputs)
    → command_from (codes "link" ∷ output ∷ inputs) ≡ Some (commands.Link output inputs)
linked_spelled output [] number = absurd (omega (arith, number.0))
linked_spelled output (input ∷ []) number = refl
linked_spelled output (input ∷ more ∷ rest) number = refl

from_spelled : (command : Command) → HasInputs command
    → command_from (command_word command ∷ operands_of command) ≡ Some command
from_spelled (commands.Asm input output) number = refl
from_spelled (commands.List input) number = refl
from_spelled (commands.Instrument input output) number = refl
from_spelled (commands.Link output inputs) number = linked_spelled output inputs number
from_spelled (commands.Verify plan) number = refl
from_spelled (commands.Graph plan) number = refl
from_spelled (commands.Sim plan schedule) number = refl
from_spelled (commands.Run input) number = refl
from_spelled (commands.Stub input output) number = refl
from_spelled (commands.Judge input report) number = refl
from_spelled (commands.Gen seed count) number =
    rw (number_in-some (dec_text seed) seed number.0 refl, count_back count number.1 number.2) refl

-- nothing is no command
none_some : (command : Command) → Some command ≡ None → ⊥
none_some command same = absurd (cc)

-- words are one command at most
pub one_command : (words : List (List ℕ)) (a b : Command) → IsCommand words a → IsCommand words b → a ≡ b
one_command words a b is_a is_b =
    let same : Some a ≡ Some b =
    sym (from_spelled a is_a.number) ∙ ap command_from (sym is_a.spelled) ∙ ap command_from is_b.spelled
    ∙ from_spelled b is_b.number in
    ap (λ (found : Option Command). unwrap_or found a) same

-- what two words that are operands say is the command that they are, or they are none
gen_is : (s c : List ℕ) (seed count : Option ℕ) → All IsOperand (s ∷ c ∷ []) → number_in s ≡ seed → count_in c ≡ count
    → IfSome seed (λ n. s ≡ dec_text n) → IfSome seed (λ n. n < 2 ^ 64)
    → IfSome count (λ n. (MIN_COUNT ≤ n) × (n ≤ MAX_COUNT) × (c ≡ dec_text n))
    → IsReading (codes "gen" ∷ s ∷ c ∷ []) (command_by seed count)
gen_is s c None count operands first second said fits limits =
    λ is. let e = sym (from_spelled is.0 is.1.number) ∙ ap command_from (sym is.1.spelled) in
    absurd (none_some is.0 (e ∙ ap (λ n. command_by n (count_in c)) first))
gen_is s c (Some seed) None operands first second said fits limits =
    λ is. let e = sym (from_spelled is.0 is.1.number) ∙ ap command_from (sym is.1.spelled) in
    absurd (none_some is.0 (e ∙ ap (λ n. command_by n (count_in c)) first ∙ ap (command_by (Some seed)) second))
gen_is s c (Some seed) (Some count) operands first second said fits limits =
    let whole : s ∷ c ∷ [] ≡ dec_text seed ∷ dec_text count ∷ [] = rw (said, limits.2) refl in
    record {
      spelled = ap (λ (ws : List (List ℕ)). codes "gen" ∷ ws) whole;
      operands = subst (All IsOperand) whole operands;
      number = (fits, limits.0, limits.1);
    }

-- a number is what its spelling says
text_says : (s : List ℕ) (seed : Option ℕ) → IfSome seed (λ n. n < 2 ^ 64) → IfSome seed (λ n. IsDecimal s n)
    → IfSome seed (λ n. s ≡ dec_text n)
text_says s None fits is = tt
text_says s (Some n) fits is = dec_text-IsDecimal s n fits is

pub gen_reading : (s c : List ℕ) (found : Option Command) → All IsOperand (s ∷ c ∷ [])
    → IfSome (number_in s) (λ n. n < 2 ^ 64) → IfSome (number_in s) (λ n. IsDecimal s n) → found ≡ command_by (number_in s) (count_in c)
    → IsReading (codes "gen" ∷ s ∷ c ∷ []) found
gen_reading s c found operands fits is same =
    subst (IsReading (codes "gen" ∷ s ∷ c ∷ [])) (sym same)
    (gen_is s c (number_in s) (count_in c) operands refl refl (text_says s (number_in s) fits is) fits
    (within_says (small_number_in c) c (small_number_in-says c)))

-- the operands of a command that has one
pub all_of_one : (word : List ℕ) → IsOperand word → All IsOperand (word ∷ [])
all_of_one word operand = All-cons IsOperand word [] operand (All-nil IsOperand)

-- the operands of words that are split are no options
pub operands_stand : (words : List (List ℕ)) (split : Split) → IsSplit words (Some split)
    → All IsOperand (operands_in split)
operands_stand words split is =
    All-tail IsOperand (command_in split) (operands_in split) (subst (All IsOperand) is.1 is.0)

-- the words of a command that links
pub link_spelled : (words rest : List (List ℕ)) (output : List ℕ) (inputs : List (List ℕ)) → words ≡ output ∷ rest
    → inputs ≡ rest → All IsOperand words → 1 ≤ length rest → length rest ≤ MAX_INPUTS
    → IsCommand (codes "link" ∷ words) (commands.Link output inputs)
link_spelled words rest output inputs split same operands some few =
    let whole : words ≡ output ∷ inputs = split ∙ ap (λ (xs : List (List ℕ)). output ∷ xs) (sym same) in
    record {
      spelled = ap (λ (ws : List (List ℕ)). codes "link" ∷ ws) whole;
      operands = subst (All IsOperand) whole operands;
      number = (
        subst (λ (xs : List (List ℕ)). 1 ≤ length xs) (sym same) some,
        subst (λ (xs : List (List ℕ)). length xs ≤ MAX_INPUTS) (sym same) few,
      );
    }
