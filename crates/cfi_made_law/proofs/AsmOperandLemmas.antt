-- A name that an operand says is at most 255 bytes long.
use Rattle.std.proofs.Common.{◌<◌, All, ◌≡◌, ℕ, ◌≤◌, ℤ, Bool, true, false, List, [], ◌∷◌, length, if◌then◌else◌, Option, Some, None, option_map, refl, subst, arith, inl, inr}
use Rattle.std.specs.Prelude.{option_and_then, codes, nat_eq}
use Rattle.std.specs.List.{AllByRecursion, starts_with}
use Rattle.std.specs.Str.{bytes_eq}
use Rattle.std.proofs.lemmas.Bool.{cases_Bool, and_parts, leb-true}
use Rattle.std.proofs.lemmas.Bool.Decides.{nat_tests}
use Rattle.std.proofs.lemmas.List.Sums.{AllPass-from_list_all}
use Rattle.std.proofs.lemmas.List.Elements.{All-weaker}
use Rattle.cfi_word.specs.declared.limits.TheConstants.{MAX_NAME}
use Rattle.cfi_text.specs.Names.{is_name_byte, begins_name, is_name, name_in}
use Rattle.rv_line.specs.declared.immediate.Place.{Place}
use Rattle.rv_line.specs.declared.statement.Datum.{Datum}
use Rattle.rv_line.specs.declared.statement.Datum.TheVariants as data_words
use Rattle.rv_line.specs.declared.statement.High.{High}
use Rattle.rv_line.specs.declared.statement.Low.{Low}
use Rattle.rv_line.specs.declared.statement.Low.TheVariants as lows
use Rattle.rv_line.specs.declared.statement.Target.{Target}
use Rattle.rv_line.specs.declared.statement.Target.TheVariants as targets
use Rattle.rv_line.specs.declared.statement.Statement.{Statement}
use Rattle.rv_line.specs.declared.statement.Statement.TheVariants as statements
use Rattle.rv_line.specs.Immediate.{low_by, low_reference_in, high_by, high_reference_in, closed_in, low_or, low_in, high_or, high_in, number_place_in, reference_place_in, place_in, base_in}
use Rattle.rv_line.specs.Register.{register_in}
use Rattle.rv_line.specs.Number.{integer_in}
use Rattle.rv_line.specs.Operand.{only_word, cut, is_empty, one, two, three}
use Rattle.rv_line.specs.Statement.{onto, names_in, has_count}
use Rattle.rv_line.specs.Target.{target_in, datum_or, datum_in}
use Rattle.rv_asm.specs.Reference.{low_reference, high_reference, target_reference, datum_reference, reference_of}

-- a byte of a name is ASCII, and not 0
abbrev pub IsPlain : (byte : ℕ) → Type 0
IsPlain byte = (0 < byte) × (byte < 128)

pub record IsShort (name : List ℕ) : Type 0 where
  pub size : length name ≤ MAX_NAME
  pub some : 0 < length name
  pub bytes : All IsPlain name

-- the name that is referred to
abbrev pub RefersShort : Option (ℕ × List ℕ) → Type 0
RefersShort None = Unit {0}
RefersShort (Some reference) = IsShort reference.1

-- the names of a statement are short; a node has as many fields as its kind may have, and a switch a name
abbrev pub IsFormed : Statement → Type 0
IsFormed (statements.La rd name) = IsShort name
IsFormed (statements.Globl name) = IsShort name
IsFormed (statements.Node kind fields) = has_count kind (length fields) ≡ true
IsFormed (statements.Func name node taken) = IsShort name
IsFormed (statements.KindSwitch names) = AllByRecursion IsShort names × (0 < length names)
IsFormed s = RefersShort (reference_of s)

-- ---- what may be there

abbrev pub Gives : {A : Type 0} → (A → Type 0) → Option A → Type 0
Gives {A} P o = (x : A) → o ≡ Some x → P x

pub none : {A : Type 0} (P : A → Type 0) → Gives P None
none P x e = cc

pub given : {A : Type 0} (P : A → Type 0) (a : A) → P a → Gives P (Some a)
given P a p x e = let same : a ≡ x = cc in subst P same p

pub mapped : {A B : Type 0} (P : B → Type 0) (f : A → B) (o : Option A) → ((x : A) → o ≡ Some x → P (f x))
    → Gives P (option_map f o)
mapped P f None all = none P
mapped P f (Some a) all = given P (f a) (all a refl)

pub chained : {A B : Type 0} (P : B → Type 0) (f : A → Option B) (o : Option A)
    → ((x : A) → o ≡ Some x → Gives P (f x)) → Gives P (option_and_then f o)
chained P f None all = none P
chained P f (Some a) all = all a refl

pub either : {A : Type 0} (P : A → Type 0) (b : Bool) (one other : Option A) → Gives P one → Gives P other
    → Gives P (if b then one else other)
either P true one other first second = first
either P false one other first second = second

-- ---- names

begins : (word : List ℕ) → begins_name word ≡ true → 0 < length word
begins [] is = absurd (cc)
begins (byte ∷ bytes) is = omega arith

plain-byte : (byte : ℕ) → is_name_byte byte ≡ true → IsPlain byte
plain-byte byte is = (grind (arith, nat_tests), grind (arith, nat_tests))

name-small : (word : List ℕ) → is_name word ≡ true → IsShort word
unfolding is_name
name-small word is =
    let front = and_parts _ _ (and_parts _ _ is).0 in
    let start = and_parts _ _ front.0 in
    record {
      size = leb-true _ _ start.1;
      some = begins word start.0;
      bytes = All-weaker (λ byte. is_name_byte byte ≡ true) IsPlain plain-byte word
          (AllPass-from_list_all is_name_byte word front.1);
    }

pub name-short : (word : List ℕ) → Gives IsShort (name_in word)
name-short word = elim (cases_Bool (is_name word)) [
  | inl is ↦ rw is (given IsShort word (name-small word is))
  | inr other ↦ rw other (none IsShort)
]

abbrev pub AllShort : List (List ℕ) → Type 0
AllShort names = AllByRecursion IsShort names

onto-short : (o : Option (List ℕ)) (os : Option (List (List ℕ))) → Gives IsShort o → Gives AllShort os
    → Gives AllShort (onto o os)
onto-short None os one all = none AllShort
onto-short (Some x) None one all = none AllShort
onto-short (Some x) (Some xs) one all = given AllShort (x ∷ xs) (one x refl, all xs refl)

pub names-short : (words : List (List ℕ)) → Gives AllShort (names_in words)
names-short [] = given AllShort [] tt
names-short (word ∷ words) = onto-short (name_in word) (names_in words) (name-short word) (names-short words)

-- ---- immediates

abbrev pub ShortLow : Low → Type 0
ShortLow imm = (lo pcrel_lo : ℕ) → RefersShort (low_reference lo pcrel_lo imm)

low_by-short : (kind name : List ℕ) → IsShort name → Gives ShortLow (low_by kind name)
low_by-short kind name short =
    either ShortLow (bytes_eq kind (codes "%lo")) _ _ (given ShortLow _ (λ lo pcrel_lo. short))
    (either ShortLow (bytes_eq kind (codes "%pcrel_lo")) _ _ (given ShortLow _ (λ lo pcrel_lo. short)) (none ShortLow))

low_reference-short : (front : List ℕ) → Gives ShortLow (low_reference_in front)
unfolding low_reference_in
low_reference-short front =
    chained ShortLow _ (cut 40 front) (λ parts e. chained ShortLow _ (name_in parts.1) (λ name is.
    low_by-short parts.0 name (name-short parts.1 name is)))

low_or-short : (o : Option ℤ) (word : List ℕ) → Gives ShortLow (low_or o word)
low_or-short (Some number) word = given ShortLow _ (λ lo pcrel_lo. tt)
low_or-short None word = chained ShortLow _ (closed_in word) (λ front e. low_reference-short front)

pub low-short : (word : List ℕ) → Gives ShortLow (low_in word)
unfolding low_in
low-short word = low_or-short (integer_in word) word

abbrev pub ShortHigh : High → Type 0
ShortHigh imm = RefersShort (high_reference imm)

high_by-short : (kind name : List ℕ) → IsShort name → Gives ShortHigh (high_by kind name)
high_by-short kind name short =
    either ShortHigh (bytes_eq kind (codes "%hi")) _ _ (given ShortHigh _ short)
    (either ShortHigh (bytes_eq kind (codes "%pcrel_hi")) _ _ (given ShortHigh _ short) (none ShortHigh))

high_reference-short : (front : List ℕ) → Gives ShortHigh (high_reference_in front)
unfolding high_reference_in
high_reference-short front =
    chained ShortHigh _ (cut 40 front) (λ parts e. chained ShortHigh _ (name_in parts.1) (λ name is.
    high_by-short parts.0 name (name-short parts.1 name is)))

high_or-short : (o : Option ℤ) (word : List ℕ) → Gives ShortHigh (high_or o word)
high_or-short (Some number) word = given ShortHigh _ tt
high_or-short None word = chained ShortHigh _ (closed_in word) (λ front e. high_reference-short front)

pub high-short : (word : List ℕ) → Gives ShortHigh (high_in word)
unfolding high_in
high-short word = high_or-short (integer_in word) word

abbrev pub ShortPlace : Place → Type 0
ShortPlace place = ShortLow place.imm

number_place-short : (front : List ℕ) → Gives ShortPlace (number_place_in front)
unfolding number_place_in
number_place-short front =
    chained ShortPlace _ (cut 40 front) (λ parts e. chained ShortPlace _ (integer_in parts.0) (λ number f.
    chained ShortPlace _ (register_in parts.1) (λ base g.
    given ShortPlace (record { imm = lows.Number number; base = base }) (λ lo pcrel_lo. tt))))

reference_place-short : (front back : List ℕ) → Gives ShortPlace (reference_place_in front back)
unfolding reference_place_in
reference_place-short front back =
    chained ShortPlace _ (low_reference_in front) (λ low is. chained ShortPlace _ (base_in back) (λ base e.
    given ShortPlace (record { imm = low; base = base }) (low_reference-short front low is)))

pub place-short : (word : List ℕ) → Gives ShortPlace (place_in word)
unfolding place_in
place-short word =
    chained ShortPlace _ (cut 41 word) (λ parts e.
    either ShortPlace (is_empty parts.1) _ _ (number_place-short parts.0) (reference_place-short parts.0 parts.1))

-- ---- targets and data

abbrev pub ShortTarget : Target → Type 0
ShortTarget target = (kind : ℕ) → RefersShort (target_reference kind target)

pub target-short : (word : List ℕ) → Gives ShortTarget (target_in word)
unfolding target_in
target-short word =
    either ShortTarget (starts_with nat_eq word (codes ".+")) _ _ (mapped ShortTarget _ _ (λ n e kind. tt))
    (either ShortTarget (starts_with nat_eq word (codes ".-")) _ _ (mapped ShortTarget _ _ (λ n e kind. tt))
    (mapped ShortTarget targets.Name (name_in word) (λ name is kind. name-short word name is)))

abbrev pub ShortDatum : Datum → Type 0
ShortDatum datum = RefersShort (datum_reference datum)

datum_or-short : (o : Option ℤ) (word : List ℕ) → Gives ShortDatum (datum_or o word)
datum_or-short (Some number) word = given ShortDatum _ tt
datum_or-short None word = mapped ShortDatum data_words.Name (name_in word) (name-short word)

pub datum-short : (word : List ℕ) → Gives ShortDatum (datum_in word)
unfolding datum_in
datum-short word = datum_or-short (integer_in word) word

-- ---- operands, by the last of them

pub one-gives : {A : Type 0} (P : A → Type 0) (read : List ℕ → Option A) → ((word : List ℕ) → Gives P (read word))
    → (operands : List (List (List ℕ))) → Gives P (one read operands)
one-gives P read all [] = none P
one-gives P read all (words ∷ []) = chained P read (only_word words) (λ word e. all word)
one-gives P read all (words ∷ other ∷ others) = none P

pub two-gives : {A B : Type 0} (P : B → Type 0) (first : List ℕ → Option A) (second : List ℕ → Option B)
    → ((word : List ℕ) → Gives P (second word)) → (operands : List (List (List ℕ)))
    → Gives (λ (p : A × B). P p.1) (two first second operands)
two-gives {A} {B} P first second all [] = none (λ (p : A × B). P p.1)
two-gives {A} {B} P first second all (words ∷ others) =
    let Q = λ (p : A × B). P p.1 in
    chained Q _ (option_and_then first (only_word words)) (λ a e. chained Q _ (one second others) (λ b is.
    given Q (a, b) (one-gives P second all others b is)))

pub three-gives : {A B C : Type 0} (P : C → Type 0) (first : List ℕ → Option A) (second : List ℕ → Option B)
    (third : List ℕ → Option C) → ((word : List ℕ) → Gives P (third word)) → (operands : List (List (List ℕ)))
    → Gives (λ (p : A × B × C). P p.2) (three first second third operands)
three-gives {A} {B} {C} P first second third all [] = none (λ (p : A × B × C). P p.2)
three-gives {A} {B} {C} P first second third all (words ∷ others) =
    let Q = λ (p : A × B × C). P p.2 in
    chained Q _ (option_and_then first (only_word words)) (λ a e. chained Q _ (two second third others) (λ p is.
    given Q (a, p.0, p.1) (two-gives P second third all others p is)))
