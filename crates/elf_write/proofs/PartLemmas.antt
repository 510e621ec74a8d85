-- Which part each section of a written file is, and what the reader's tests say of it.
use Rattle.std.proofs.Common.{◌≡◌, ◌==◌, ◌&&◌, not, ◌+◌, ◌<◌, ◌≤◌, ◌++◌, ℕ, zero, suc, Bool, true, false, cond, nat_eq, List, length, get_or, refl, sym, ap, ◌∙◌, arith}
use Rattle.std.specs.List.{starts_with, list_any}
use Rattle.std.proofs.Common.{⊎_elim}
use Rattle.std.proofs.lemmas.Bool.{and_parts, cases_lt}
use Rattle.elf_read.specs.declared.section.TheConstants.{EH_FRAME, CFI_TYPES, CFI_RECORDS}
use Rattle.elf_write.specs.declared.part.Part.{Part}
use Rattle.elf_write.specs.declared.part.Part.TheVariants.{Null, Text, Data, Types, Records, TextRelas, DataRelas, Symbols, SymbolNames, SectionNames}
use Rattle.elf_write.specs.Part.{parts_of, section_name}

-- parts by numbers of their own
abbrev pub code : Part → ℕ
code Null = 0
code Text = 1
code Data = 2
code Types = 3
code Records = 4
code TextRelas = 5
code DataRelas = 6
code Symbols = 7
code SymbolNames = 8
code SectionNames = 9

-- a test of each number below a count
pub all_below : (ℕ → Bool) → ℕ → Bool
all_below test zero = true
all_below test (suc n) = test n && all_below test n

same_bool : Bool → Bool → Bool
same_bool true b = b
same_bool false b = not b

same_bool-is : (a b : Bool) → same_bool a b ≡ true → a ≡ b
unfolding same_bool
same_bool-is true true h = refl
same_bool-is true false h = sym h
same_bool-is false true h = h
same_bool-is false false h = refl

all_below-is : (test : ℕ → Bool) (n k : ℕ) → all_below test n ≡ true → k < n → test k ≡ true
unfolding all_below
all_below-is test zero k all within = absurd (omega arith)
all_below-is test (suc n) k all within =
    let parts = and_parts (test n) (all_below test n) all in
    ⊎_elim
    (λ below. all_below-is test n k parts.1 below)
    (λ (last : n ≤ k).
    let same : k ≡ n = omega arith in
    ap test same ∙ parts.0)
    (cases_lt k n)

-- the part of this code stands at this number alone, where it is there
pub stands_at : (c number : ℕ) (there : Bool) → List Part → Bool
stands_at c number there sections =
    all_below (λ k. same_bool (code (get_or sections k Null) == c) (there && k == number)) (length sections)

pub only_at : (c number : ℕ) (there : Bool) (sections : List Part) (k : ℕ) → stands_at c number there sections ≡ true
    → k < length sections → (code (get_or sections k Null) == c) ≡ (there && k == number)
unfolding stands_at
only_at c number there sections k all within =
    same_bool-is _ _ (all_below-is (λ k. same_bool (code (get_or sections k Null) == c) (there
    && k == number)) (length sections) k all within)

-- so each part has its number
pub text_stands : (types records : Bool) → stands_at 1 1 true (parts_of types records) ≡ true
unfolding stands_at same_bool all_below
text_stands true true = refl
text_stands true false = refl
text_stands false true = refl
text_stands false false = refl

pub data_stands : (types records : Bool) → stands_at 2 2 true (parts_of types records) ≡ true
unfolding stands_at same_bool all_below
data_stands true true = refl
data_stands true false = refl
data_stands false true = refl
data_stands false false = refl

pub types_stand : (types records : Bool) → stands_at 3 3 types (parts_of types records) ≡ true
unfolding stands_at same_bool all_below
types_stand true true = refl
types_stand true false = refl
types_stand false true = refl
types_stand false false = refl

pub records_stand : (types records : Bool) → stands_at 4 (3 + cond types 1 0) records (parts_of types records) ≡ true
unfolding stands_at same_bool all_below
records_stand true true = refl
records_stand true false = refl
records_stand false true = refl
records_stand false false = refl

pub text_relas_stand : (types records : Bool)
    → stands_at 5 (3 + (cond types 1 0 + cond records 1 0)) true (parts_of types records) ≡ true
unfolding stands_at same_bool all_below
text_relas_stand true true = refl
text_relas_stand true false = refl
text_relas_stand false true = refl
text_relas_stand false false = refl

pub data_relas_stand : (types records : Bool)
    → stands_at 6 (4 + (cond types 1 0 + cond records 1 0)) true (parts_of types records) ≡ true
unfolding stands_at same_bool all_below
data_relas_stand true true = refl
data_relas_stand true false = refl
data_relas_stand false true = refl
data_relas_stand false false = refl

pub symbols_stand : (types records : Bool)
    → stands_at 7 (5 + (cond types 1 0 + cond records 1 0)) true (parts_of types records) ≡ true
unfolding stands_at same_bool all_below
symbols_stand true true = refl
symbols_stand true false = refl
symbols_stand false true = refl
symbols_stand false false = refl

-- what a name begins with
pub eh_frame_named : (part : Part) (rest : List ℕ) → starts_with nat_eq (section_name part ++ rest) EH_FRAME.now ≡ false
eh_frame_named Null rest = refl
eh_frame_named _ rest = refl

pub types_named : (part : Part) (rest : List ℕ)
    → starts_with nat_eq (section_name part ++ rest) CFI_TYPES.now ≡ (code part == 3)
types_named Null rest = refl
types_named _ rest = refl

pub records_named : (part : Part) (rest : List ℕ)
    → starts_with nat_eq (section_name part ++ rest) CFI_RECORDS.now ≡ (code part == 4)
records_named Null rest = refl
records_named _ rest = refl

pub name_ended : (part : Part) (rest : List ℕ) → list_any (λ byte. byte == 0) (section_name part ++ rest) ≡ true
name_ended Null rest = refl
name_ended _ rest = refl
