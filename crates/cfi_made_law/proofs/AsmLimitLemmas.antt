-- What lines without a fault make is within the limits of an object.
use Rattle.std.proofs.Common.{◌≡◌, ℕ, ◌+◌, ◌≤◌, nat_lt, Bool, true, false, pos, negsuc, List, [], ◌∷◌, ◌++◌, length, if◌then◌else◌, Option, Some, None, refl, sym, ap, ◌∙◌, subst, arith, length-append, append-nil, append_assoc}
use Rattle.std.specs.List.{filter_map, cons_option}
use Rattle.std.proofs.lemmas.Bool.{and_parts, leb-true}
use Rattle.std.proofs.lemmas.Bool.Decides.{nat_tests}
use Rattle.std.proofs.lemmas.List.{length-replicate}
use Rattle.cfi_word.specs.declared.limits.TheConstants.{MAX_SYMBOLS, MAX_RELOCS}
use Rattle.elf_read.specs.declared.object.Area.{Area}
use Rattle.elf_read.specs.declared.object.Area.TheVariants as areas
use Rattle.elf_read.specs.declared.object.Reloc.{Reloc}
use Rattle.rv_line.specs.declared.line.Line.{Line}
use Rattle.rv_line.specs.declared.statement.Statement.{Statement}
use Rattle.rv_line.specs.declared.statement.Statement.TheVariants as statements
use Rattle.rv_asm.specs.declared.fault.AsmFault.TheVariants.{Syntax, UnknownName, Twice, Range}
use Rattle.rv_asm.specs.declared.file.File.{File}
use Rattle.rv_asm.specs.declared.spot.Spot.{Spot}
use Rattle.rv_asm.specs.declared.words.Words.{Words}
use Rattle.rv_asm.specs.declared.words.Words.TheVariants.{One, Two}
use Rattle.rv_asm.specs.Fault.{Found, Totals, is_misplaced, is_unknown, is_twice, relocs_fit, words_fit, code_fits, jump_fits, statement_fits, line_fault, fault_at, found_at, totals_at}
use Rattle.rv_asm.specs.Made.{bytes_of, text_in, text_at, text_of, data_in, data_at, data_of, relocs_in, relocs_at, relocs_by}
use Rattle.rv_asm.specs.Placed.{Placed, placed_behind, area_after, size_in, end_after, spot_after}
use Rattle.rv_asm.specs.Relocs.{relocs_of}
use Rattle.rv_asm.specs.Spot.{text_size}
use Rattle.rv_asm.specs.Symbols.{names_in}
use Rattle.rv_asm.specs.Words.{words_of}
use Rattle.rv_asm.proofs.PlacedLemmas.{spot_by, at_line, made-push, end-push}
use Rattle.rv_asm.proofs.LimitLemmas.{IsSize, words-size, AreWithin, within-push}

-- ---- lines without a fault, one after the other

cons-none : {A : Type 0} (o : Option A) (xs : List A) → cons_option o xs ≡ [] → (o ≡ None) × (xs ≡ [])
cons-none None xs is = (refl, is)
cons-none (Some x) xs is = absurd (cc)

by-from : (P : List Line → Type 0) (file : File) (lines before rest : List Line)
    → ((b : List Line) (line : Line) → fault_at file lines (at_line b line) ≡ None → P b → P (b ++ line ∷ []))
    → before ++ rest ≡ lines → filter_map (fault_at file lines) (placed_behind before rest) ≡ [] → P before → P lines
by-from P file lines before [] step all clear p = subst P (sym (append-nil before) ∙ all) p
by-from P file lines before (line ∷ rest) step all clear p =
    let parts = cons-none (fault_at file lines (at_line before line))
    (filter_map (fault_at file lines) (placed_behind (before ++ line ∷ []) rest)) clear in
    by-from P file lines (before ++ line ∷ []) rest step (append_assoc before (line ∷ []) rest ∙ all) parts.1
    (step before line parts.0 p)

pub by-lines : (P : List Line → Type 0) (file : File) (lines : List Line)
    → ((b : List Line) (line : Line) → fault_at file lines (at_line b line) ≡ None → P b → P (b ++ line ∷ []))
    → filter_map (fault_at file lines) (placed_behind [] lines) ≡ [] → P [] → P lines
by-lines P file lines step clear p = by-from P file lines [] lines step refl clear p

-- ---- a line without a fault

pub record IsClear (file : File) (found : Found) (totals : Totals) (s : Statement) : Type 0 where
  pub placed : is_misplaced file found s ≡ false
  pub names : nat_lt MAX_SYMBOLS totals.names ≡ false
  pub fits : statement_fits file found.spot totals s ≡ true

tests : (number : ℕ) (m u t n v : Bool) →
    (if m then Some (Syntax number) else (if u then Some (UnknownName number) else (if t then Some (Twice number)
    else (if n then Some (Range number) else (if v then None else Some (Range number)))))) ≡ None →
    (m ≡ false) × (n ≡ false) × (v ≡ true)
tests number true u t n v none = absurd (cc)
tests number false true t n v none = absurd (cc)
tests number false false true n v none = absurd (cc)
tests number false false false true v none = absurd (cc)
tests number false false false false true none = (refl, refl, refl)
tests number false false false false false none = absurd (cc)

pub clear-said : (file : File) (found : Found) (totals : Totals) (number : ℕ) (label : Option (List ℕ)) (s : Statement)
    → line_fault file found totals number label (Some s) ≡ None → IsClear file found totals s
clear-said file found totals number label s none =
    let all = tests number (is_misplaced file found s) (is_unknown file.names s) (is_twice file.names number label s)
    (nat_lt MAX_SYMBOLS totals.names) (statement_fits file found.spot totals s) none in
    record { placed = all.0; names = all.1; fits = all.2 }

-- ---- text and data

words-length : (n : ℕ) (o : Option Words) → IsSize n o → length (bytes_of o) ≤ n
words-length n None size = omega arith
words-length n (Some (One first)) size = omega (arith, size)
words-length n (Some (Two first second)) size = omega (arith, size)

text-short : (file : File) (area : Area) (spot : Spot) (o : Option Statement)
    → length (text_in area file spot o) ≤ size_in areas.Text area o
text-short file areas.Data spot o = omega arith
text-short file areas.Text spot None = omega arith
text-short file areas.Text spot (Some s) =
    words-length (text_size s) (words_of file.names spot.text_end s) (words-size file.names spot.text_end s)

data-short : (area : Area) (o : Option Statement) → length (data_in area o) ≤ size_in areas.Data area o
data-short areas.Text o = omega arith
data-short areas.Data None = omega arith
data-short areas.Data (Some (statements.Word datum)) = omega arith
data-short areas.Data (Some (statements.Zero (pos n))) = omega (arith, length-replicate {A = ℕ} n 0)
data-short areas.Data (Some (statements.Zero (negsuc n))) = omega arith
data-short areas.Data (Some s) = omega arith

pub record HasRoom (file : File) (lines : List Line) : Type 0 where
  pub within : AreWithin lines
  pub text : length (text_of file lines) ≤ end_after areas.Text lines
  pub bytes : length (data_of lines) ≤ end_after areas.Data lines

room-step : (file : File) (lines before : List Line) (line : Line) → fault_at file lines (at_line before line) ≡ None
    → HasRoom file before → HasRoom file (before ++ line ∷ [])
room-step file lines before line none room =
    let at = at_line before line in
    record {
      within = within-push file lines before line room.within none;
      text = omega (
        arith,
        ap (λ (l : List ℕ). length l) (made-push (text_at file) before line),
        length-append (text_of file before) (text_at file at),
        end-push areas.Text before line,
        text-short file (area_after before) (spot_after before) line.statement,
        room.text,
      );
      bytes = omega (
        arith,
        ap (λ (l : List ℕ). length l) (made-push data_at before line),
        length-append (data_of before) (data_at at),
        end-push areas.Data before line,
        data-short (area_after before) line.statement,
        room.bytes,
      );
    }

pub room : (file : File) (lines : List Line) → filter_map (fault_at file lines) (placed_behind [] lines) ≡ []
    → HasRoom file lines
room file lines clear =
    by-lines (HasRoom file) file lines (room-step file lines) clear
    (record { within = record { text = omega arith; bytes = omega arith }; text = omega arith; bytes = omega arith })

-- ---- relocations

words-relocs : (spot : Spot) (totals : Totals) (count : ℕ) (o : Option Words) → words_fit spot totals count o ≡ true
    → totals.relocs + count ≤ MAX_RELOCS
words-relocs spot totals count None fits = absurd (cc)
words-relocs spot totals count (Some words) fits = leb-true _ _ (and_parts _ (relocs_fit totals count) fits).1

code-relocs : (file : File) (spot : Spot) (totals : Totals) (s : Statement) → code_fits file spot totals s ≡ true
    → totals.relocs + length (relocs_of file.names spot s) ≤ MAX_RELOCS
code-relocs file spot totals s fits =
    words-relocs spot totals (length (relocs_of file.names spot s)) (words_of file.names spot.text_end s) fits

module _ (file : File) (t d p : ℕ) (totals : Totals) (near : totals.relocs ≤ MAX_RELOCS) where
  text-relocs : (s : Statement) → statement_fits file (spot_by areas.Text t d p) totals s ≡ true
      → totals.relocs + length (relocs_of file.names (spot_by areas.Text t d p) s) ≤ MAX_RELOCS
  text-relocs statements.Blank fits = omega (arith, near)
  text-relocs statements.Text fits = omega (arith, near)
  text-relocs statements.Data fits = omega (arith, near)
  text-relocs (statements.Globl name) fits = omega (arith, near)
  text-relocs (statements.Word datum) fits =
      code-relocs file (spot_by areas.Text t d p) totals (statements.Word datum) fits
  text-relocs (statements.Zero number) fits = omega (arith, near)
  text-relocs (statements.Node kind fields) fits = omega (arith, near)
  text-relocs (statements.Func name node taken) fits = omega (arith, near)
  text-relocs statements.EndFunc fits = omega (arith, near)
  text-relocs (statements.KindCall node) fits = omega (arith, near)
  text-relocs (statements.KindTail node) fits = omega (arith, near)
  text-relocs statements.KindReturn fits = omega (arith, near)
  text-relocs (statements.KindSwitch places) fits = omega (arith, near)
  text-relocs (statements.Jalr rd rs1 imm) fits =
      code-relocs file (spot_by areas.Text t d p) totals (statements.Jalr rd rs1 imm)
      (and_parts (jump_fits file.records totals) _ fits).1
  text-relocs statements.Ret fits =
      code-relocs file (spot_by areas.Text t d p) totals statements.Ret
      (and_parts (jump_fits file.records totals) _ fits).1
  text-relocs s fits = code-relocs file (spot_by areas.Text t d p) totals s fits

  data-relocs : (found : Found) (s : Statement) → found.spot ≡ spot_by areas.Data t d p
      → is_misplaced file found s ≡ false → statement_fits file (spot_by areas.Data t d p) totals s ≡ true
      → totals.relocs + length (relocs_of file.names (spot_by areas.Data t d p) s) ≤ MAX_RELOCS
  data-relocs found statements.Blank at placed fits = omega (arith, near)
  data-relocs found statements.Text at placed fits = omega (arith, near)
  data-relocs found statements.Data at placed fits = omega (arith, near)
  data-relocs found (statements.Globl name) at placed fits = omega (arith, near)
  data-relocs found (statements.Word datum) at placed fits =
      let added = relocs_of file.names (spot_by areas.Data t d p) (statements.Word datum) in
      leb-true _ _ (and_parts _ (relocs_fit totals (length added)) fits).1
  data-relocs found (statements.Zero number) at placed fits = omega (arith, near)
  data-relocs found (statements.Node kind fields) at placed fits = omega (arith, near)
  data-relocs found (statements.Func name node taken) at placed fits = omega (arith, near)
  data-relocs found statements.EndFunc at placed fits = omega (arith, near)
  data-relocs found (statements.KindCall node) at placed fits = omega (arith, near)
  data-relocs found (statements.KindTail node) at placed fits = omega (arith, near)
  data-relocs found statements.KindReturn at placed fits = omega (arith, near)
  data-relocs found (statements.KindSwitch places) at placed fits = omega (arith, near)
  data-relocs found s at placed fits = let never : is_misplaced file found s ≡ true = rw at refl in absurd (cc)

  line-relocs : (area : Area) (found : Found) (number : ℕ) (label : Option (List ℕ)) (o : Option Statement)
      → found.spot ≡ spot_by area t d p → line_fault file found totals number label o ≡ None
      → totals.relocs + length (relocs_in areas.Text area file (spot_by area t d p) o)
      + length (relocs_in areas.Data area file (spot_by area t d p) o) ≤ MAX_RELOCS
  line-relocs area found number label None at none = absurd (cc)
  line-relocs areas.Text found number label (Some s) at none =
      let clear = clear-said file found totals number label s none in
      omega (
        arith,
        text-relocs s (ap (λ (x : Spot). statement_fits file x totals s) (sym at) ∙ clear.fits),
      )
  line-relocs areas.Data found number label (Some s) at none =
      let clear = clear-said file found totals number label s none in
      omega (
        arith,
        data-relocs found s at clear.placed (ap (λ (x : Spot). statement_fits file x totals s) (sym at) ∙ clear.fits),
      )

abbrev FewRelocs : File → (lines : List Line) → Type 0
FewRelocs file lines =
    length (relocs_by file areas.Text lines) + length (relocs_by file areas.Data lines) ≤ MAX_RELOCS

relocs-step : (file : File) (lines before : List Line) (line : Line) → fault_at file lines (at_line before line) ≡ None
    → FewRelocs file before → FewRelocs file (before ++ line ∷ [])
relocs-step file lines before line none few =
    let at = at_line before line in
    omega (
      arith,
      ap (λ (l : List Reloc). length l) (made-push (relocs_at areas.Text file) before line),
      ap (λ (l : List Reloc). length l) (made-push (relocs_at areas.Data file) before line),
      length-append (relocs_by file areas.Text before) (relocs_at areas.Text file at),
      length-append (relocs_by file areas.Data before) (relocs_at areas.Data file at),
      line-relocs file (end_after areas.Text before) (end_after areas.Data before) (spot_after before).pairs
          (totals_at file at) few (area_after before) (found_at file lines at) (length before + 1) line.label
          line.statement refl none,
    )

pub relocs-few : (file : File) (lines : List Line) → filter_map (fault_at file lines) (placed_behind [] lines) ≡ []
    → FewRelocs file lines
relocs-few file lines clear = by-lines (FewRelocs file) file lines (relocs-step file lines) clear (omega arith)

-- ---- names

abbrev FewNames : (lines : List Line) → Type 0
FewNames lines = length (names_in lines) ≤ MAX_SYMBOLS

ltb-false : (a b : ℕ) → nat_lt a b ≡ false → b ≤ a
ltb-false a b is = grind (arith, nat_tests)

names-step : (file : File) (lines before : List Line) (line : Line) → fault_at file lines (at_line before line) ≡ None
    → FewNames before → FewNames (before ++ line ∷ [])
names-step file lines before line none few =
    names-from line.statement none
  where
    at : Placed
    at = at_line before line

    names-from : (o : Option Statement)
        → line_fault file (found_at file lines at) (totals_at file at) (length before + 1) line.label o ≡ None
        → FewNames (before ++ line ∷ [])
    names-from None none = absurd (cc)
    names-from (Some s) none =
        ltb-false MAX_SYMBOLS _ (clear-said file (found_at file lines at) (totals_at file at) (length before + 1)
        line.label s none).names

pub names-few : (file : File) (lines : List Line) → filter_map (fault_at file lines) (placed_behind [] lines) ≡ []
    → FewNames lines
names-few file lines clear = by-lines FewNames file lines (names-step file lines) clear (omega arith)
