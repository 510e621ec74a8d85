-- How long the text and the data of lines without a fault are: as long as the sizes of their statements say.
use Rattle.std.proofs.Common.{◌≡◌, ℕ, ◌+◌, ◌*◌, ◌≤◌, true, pos, negsuc, List, [], ◌∷◌, ◌++◌, length, Option, Some, None, refl, sym, ap, ◌∙◌, subst, arith, length-append, append_assoc, append-nil}
use Rattle.std.specs.List.{filter_map, cons_option, sum_by}
use Rattle.std.proofs.lemmas.Bool.{and_parts}
use Rattle.std.proofs.lemmas.List.{length-replicate}
use Rattle.std.proofs.lemmas.List.Sums.{sum_by-append}
use Rattle.elf_read.specs.declared.object.Area.{Area}
use Rattle.elf_read.specs.declared.object.Area.TheVariants as areas
use Rattle.rv_line.specs.declared.line.Line.{Line}
use Rattle.rv_line.specs.declared.statement.Datum.{Datum}
use Rattle.rv_line.specs.declared.statement.Datum.TheVariants as data_words
use Rattle.rv_line.specs.declared.statement.Statement.{Statement}
use Rattle.rv_line.specs.declared.statement.Statement.TheVariants as statements
use Rattle.rv_asm.specs.declared.file.File.{File}
use Rattle.rv_asm.specs.declared.spot.Spot.{Spot}
use Rattle.rv_asm.specs.declared.words.Words.{Words}
use Rattle.rv_asm.specs.declared.words.Words.TheVariants.{One, Two}
use Rattle.rv_asm.specs.Fault.{Totals, words_fit, code_fits, jump_fits, statement_fits, line_fault, fault_at, found_at, totals_at}
use Rattle.rv_asm.specs.Made.{bytes_of, text_in, text_at, text_of, data_in, data_at, data_of}
use Rattle.rv_asm.specs.Placed.{Placed, placed_behind, placed, area_after, size_in, size_at, end_after, spot_after}
use Rattle.rv_asm.specs.Relocs.{relocs_of}
use Rattle.rv_asm.specs.Spot.{number_size, text_size}
use Rattle.rv_asm.specs.Words.{size_of, words_of, li_words, low_word}
use Rattle.rv_asm.proofs.PlacedLemmas.{at_line, placed_behind-append, made-push, end-push}
use Rattle.rv_asm.proofs.LimitLemmas.{IsSize, words-size}
use Rattle.cfi_made_law.proofs.AsmLimitLemmas.{clear-said, by-lines}

-- ---- lines without a fault, each with what stands before it and behind it

cons-none : {A : Type 0} (o : Option A) (xs : List A) → cons_option o xs ≡ [] → (o ≡ None) × (xs ≡ [])
cons-none None xs is = (refl, is)
cons-none (Some x) xs is = absurd (cc)

parts-from : (P : List Line → Type 0) (file : File) (lines before rest : List Line)
    → ((b : List Line) (line : Line) (behind : List Line) → (b ++ line ∷ []) ++ behind ≡ lines
    → fault_at file lines (at_line b line) ≡ None → P b → P (b ++ line ∷ []))
    → before ++ rest ≡ lines → filter_map (fault_at file lines) (placed_behind before rest) ≡ [] → P before → P lines
parts-from P file lines before [] step all clear p = subst P (sym (append-nil before) ∙ all) p
parts-from P file lines before (line ∷ rest) step all clear p =
    let parts = cons-none (fault_at file lines (at_line before line))
    (filter_map (fault_at file lines) (placed_behind (before ++ line ∷ []) rest)) clear in
    let whole = append_assoc before (line ∷ []) rest ∙ all in
    parts-from P file lines (before ++ line ∷ []) rest step whole parts.1 (step before line rest whole parts.0 p)

pub by-parts : (P : List Line → Type 0) (file : File) (lines : List Line)
    → ((b : List Line) (line : Line) (behind : List Line) → (b ++ line ∷ []) ++ behind ≡ lines
    → fault_at file lines (at_line b line) ≡ None → P b → P (b ++ line ∷ []))
    → filter_map (fault_at file lines) (placed_behind [] lines) ≡ [] → P [] → P lines
by-parts P file lines step clear p = parts-from P file lines [] lines step refl clear p

-- the lines before others make no more
pub before-le : (area : Area) (before rest lines : List Line) → before ++ rest ≡ lines
    → end_after area before ≤ end_after area lines
before-le area before rest lines is =
    let all = ap (sum_by (size_at area)) (placed_behind-append [] before rest) in
    let sum = sum_by-append (size_at area) (placed before) (placed_behind before rest) in
    let whole = ap (λ (l : List Line). end_after area l) is in
    omega (arith, all, sum, whole)

-- ---- text

some-words : (n : ℕ) (spot : Spot) (totals : Totals) (count : ℕ) (o : Option Words) → IsSize n o
    → words_fit spot totals count o ≡ true → length (bytes_of o) ≡ n
some-words n spot totals count None size fits = absurd (cc)
some-words n spot totals count (Some (One first)) size fits = size
some-words n spot totals count (Some (Two first second)) size fits = size

module _ (file : File) (spot : Spot) (totals : Totals) where
  code-exact : (s : Statement) → code_fits file spot totals s ≡ true
      → length (bytes_of (words_of file.names spot.text_end s)) ≡ text_size s
  code-exact s fits =
      some-words (text_size s) spot totals (length (relocs_of file.names spot s))
      (words_of file.names spot.text_end s) (words-size file.names spot.text_end s) fits

  text-exact : spot.area ≡ areas.Text → (s : Statement) → statement_fits file spot totals s ≡ true
      → length (bytes_of (words_of file.names spot.text_end s)) ≡ text_size s
  text-exact at statements.Blank fits = refl
  text-exact at statements.Text fits = refl
  text-exact at statements.Data fits = refl
  text-exact at (statements.Globl name) fits = refl
  text-exact at (statements.Word (data_words.Number number)) fits = refl
  text-exact at (statements.Word (data_words.Name name)) fits = refl
  text-exact at (statements.Zero number) fits = refl
  text-exact at (statements.Node kind fields) fits = refl
  text-exact at (statements.Func name node taken) fits = refl
  text-exact at statements.EndFunc fits = refl
  text-exact at (statements.KindCall node) fits = refl
  text-exact at (statements.KindTail node) fits = refl
  text-exact at statements.KindReturn fits = refl
  text-exact at (statements.KindSwitch places) fits = refl
  text-exact at (statements.Jalr rd rs1 imm) fits =
      code-exact (statements.Jalr rd rs1 imm) (and_parts (jump_fits file.records totals) _ fits).1
  text-exact at statements.Ret fits = code-exact statements.Ret (and_parts (jump_fits file.records totals) _ fits).1
  text-exact at s fits = code-exact s fits

said-text : (file : File) (area : Area) (spot : Spot) (totals : Totals) (s : Statement) → spot.area ≡ area
    → statement_fits file spot totals s ≡ true
    → length (text_in area file spot (Some s)) ≡ size_in areas.Text area (Some s)
said-text file areas.Text spot totals s at fits = text-exact file spot totals at s fits
said-text file areas.Data spot totals s at fits = refl

data-exact : (area : Area) (o : Option Statement) → length (data_in area o) ≡ size_in areas.Data area o
data-exact areas.Text None = refl
data-exact areas.Text (Some s) = refl
data-exact areas.Data None = refl
data-exact areas.Data (Some (statements.Word datum)) = refl
data-exact areas.Data (Some (statements.Zero (pos n))) = length-replicate {A = ℕ} n 0
data-exact areas.Data (Some (statements.Zero (negsuc n))) = refl
data-exact areas.Data (Some s) = refl

-- ---- text is of whole words

words-four : (words : Words) → (k : ℕ) × (size_of words ≡ 4 * k)
words-four (One first) = (1, refl)
words-four (Two first second) = (2, refl)

datum-four : (datum : Datum) → (k : ℕ) × (number_size datum ≡ 4 * k)
datum-four (data_words.Number number) = (1, refl)
datum-four (data_words.Name name) = (0, refl)

said-four : (s : Statement) → (k : ℕ) × (text_size s ≡ 4 * k)
said-four statements.Blank = (0, refl)
said-four (statements.Li rd number) = words-four (li_words rd (low_word number))
said-four (statements.La rd name) = (2, refl)
said-four (statements.Call name) = (2, refl)
said-four (statements.Tail name) = (2, refl)
said-four statements.Text = (0, refl)
said-four statements.Data = (0, refl)
said-four (statements.Globl name) = (0, refl)
said-four (statements.Word datum) = datum-four datum
said-four (statements.Zero number) = (0, refl)
said-four (statements.Node kind fields) = (0, refl)
said-four (statements.Func name node taken) = (0, refl)
said-four statements.EndFunc = (0, refl)
said-four (statements.KindCall node) = (0, refl)
said-four (statements.KindTail node) = (0, refl)
said-four statements.KindReturn = (0, refl)
said-four (statements.KindSwitch places) = (0, refl)
said-four s = (1, refl)

pub line-four : (area : Area) (o : Option Statement) → (k : ℕ) × (size_in areas.Text area o ≡ 4 * k)
line-four areas.Data o = (0, refl)
line-four areas.Text None = (0, refl)
line-four areas.Text (Some s) = said-four s

-- ---- all lines

pub record IsExact (file : File) (lines : List Line) : Type 0 where
  pub text : length (text_of file lines) ≡ end_after areas.Text lines
  pub bytes : length (data_of lines) ≡ end_after areas.Data lines
  pub fours : (k : ℕ) × (end_after areas.Text lines ≡ 4 * k)

exact-step : (file : File) (lines before : List Line) (line : Line) → fault_at file lines (at_line before line) ≡ None
    → IsExact file before → IsExact file (before ++ line ∷ [])
exact-step file lines before line none exact = record {
  text = omega (
    arith,
    ap (λ (l : List ℕ). length l) (made-push (text_at file) before line),
    length-append (text_of file before) (text_at file at),
    end-push areas.Text before line,
    said line.statement none,
    exact.text,
  );
  bytes = omega (
    arith,
    ap (λ (l : List ℕ). length l) (made-push data_at before line),
    length-append (data_of before) (data_at at),
    end-push areas.Data before line,
    data-exact (area_after before) line.statement,
    exact.bytes,
  );
  fours =
      let one = line-four (area_after before) line.statement in
      (exact.fours.0 + one.0, omega (arith, end-push areas.Text before line, exact.fours.1, one.1));
}
  where
    at : Placed
    at = at_line before line

    said : (o : Option Statement)
        → line_fault file (found_at file lines at) (totals_at file at) (length before + 1) line.label o ≡ None
        → length (text_in (area_after before) file (spot_after before) o) ≡ size_in areas.Text (area_after before) o
    said None none = absurd (cc)
    said (Some s) none =
        said-text file (area_after before) (spot_after before) (totals_at file at) s refl
        (clear-said file (found_at file lines at) (totals_at file at) (length before + 1) line.label s none).fits

pub exact : (file : File) (lines : List Line) → filter_map (fault_at file lines) (placed_behind [] lines) ≡ []
    → IsExact file lines
exact file lines clear =
    by-lines (IsExact file) file lines (exact-step file lines) clear
    (record { text = refl; bytes = refl; fours = (0, refl) })
