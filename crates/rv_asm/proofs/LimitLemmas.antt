-- A line without a fault keeps text and data within their limits.
use Rattle.std.proofs.Common.{◌≡◌, ℕ, ◌+◌, ◌*◌, ◌≤◌, Bool, true, false, nat_lt, pos, negsuc, List, [], ◌∷◌, ◌++◌, length, if◌then◌else◌, Option, Some, None, refl, sym, ap, ◌∙◌, subst, arith}
use Rattle.std.proofs.lemmas.Bool.{and_parts, leb-true}
use Rattle.cfi_word.specs.declared.limits.TheConstants.{MAX_DATA, MAX_SYMBOLS, MAX_WORDS}
use Rattle.elf_read.specs.declared.object.Area.{Area}
use Rattle.elf_read.specs.declared.object.Area.TheVariants as areas
use Rattle.rv_insn.specs.Insn.{word_of}
use Rattle.rv_insn.specs.declared.insn.Insn.TheVariants as insns
use Rattle.rv_line.specs.declared.line.Line.{Line}
use Rattle.rv_line.specs.declared.statement.Datum.TheVariants as data_words
use Rattle.rv_line.specs.declared.statement.Statement.{Statement}
use Rattle.rv_line.specs.declared.statement.Statement.TheVariants as statements
use Rattle.cfi_values.specs.Some.{◌>>=◌}
use Rattle.rv_names.specs.declared.names.Entry.{Entry}
use Rattle.rv_asm.specs.declared.fault.AsmFault.TheVariants.{Syntax, UnknownName, Twice, Range}
use Rattle.rv_asm.specs.declared.file.File.{File}
use Rattle.rv_asm.specs.declared.spot.Spot.{Spot}
use Rattle.rv_asm.specs.declared.words.Words.{Words}
use Rattle.rv_asm.specs.declared.words.Words.TheVariants.{One}
use Rattle.rv_asm.specs.Fault.{is_unknown, is_twice, Found, Totals, is_misplaced, words_fit, code_fits, jump_fits, data_fits, statement_fits, line_fault, fault_at, found_at, totals_at}
use Rattle.rv_asm.specs.Placed.{area_after, size_in, end_after, spot_after}
use Rattle.rv_asm.specs.Relocs.{relocs_of}
use Rattle.rv_asm.specs.Spot.{text_size}
use Rattle.rv_asm.specs.Words.{imm_field, low_field, high_field, offset_field, offset_of, size_of, words_of}
use Rattle.rv_asm.proofs.PlacedLemmas.{spot_by, at_line, end-push}

-- words, if there are any, have this size
abbrev pub IsSize : ℕ → Option Words → Type 0
IsSize n None = Unit {0}
IsSize n (Some words) = size_of words ≡ n

one-size : {A : Type 0} (o : Option A) (make : A → ℕ) → IsSize 4 (o >>= λ field. Some (One (make field)))
one-size None make = tt
one-size (Some field) make = refl

pub words-size : (names : List Entry) (t : ℕ) (s : Statement) → IsSize (text_size s) (words_of names t s)
words-size names t (statements.OpImm op rd rs1 imm) = one-size (imm_field op imm)
    (λ f. word_of (insns.OpImm op rd rs1 f))
words-size names t (statements.Load kind rd rs1 imm) = one-size (low_field imm)
    (λ f. word_of (insns.Load kind rd rs1 f))
words-size names t (statements.Store kind rs1 rs2 imm) =
    one-size (low_field imm) (λ f. word_of (insns.Store kind rs1 rs2 f))
words-size names t (statements.Branch cond rs1 rs2 target) =
    one-size (offset_field 4096 (offset_of names t target)) (λ f. word_of (insns.Branch cond rs1 rs2 f))
words-size names t (statements.Lui rd imm) = one-size (high_field imm) (λ f. word_of (insns.Lui rd f))
words-size names t (statements.Auipc rd imm) = one-size (high_field imm) (λ f. word_of (insns.Auipc rd f))
words-size names t (statements.Jal rd target) =
    one-size (offset_field 1048576 (offset_of names t target)) (λ f. word_of (insns.Jal rd f))
words-size names t (statements.Jalr rd rs1 imm) = one-size (low_field imm) (λ f. word_of (insns.Jalr rd rs1 f))
words-size names t (statements.Op op rd rs1 rs2) = refl
words-size names t statements.Fence = refl
words-size names t statements.Ecall = refl
words-size names t statements.Ebreak = refl
words-size names t (statements.Li rd number) = refl
words-size names t (statements.La rd name) = refl
words-size names t statements.Ret = refl
words-size names t (statements.Call name) = refl
words-size names t (statements.Tail name) = refl
words-size names t (statements.Word (data_words.Number number)) = refl
words-size names t (statements.Word (data_words.Name name)) = tt
words-size names t s = tt

words-within : (spot : Spot) (totals : Totals) (count n : ℕ) (o : Option Words) → IsSize n o →
    words_fit spot totals count o ≡ true → spot.text_end + n ≤ 4 * MAX_WORDS
words-within spot totals count n None size fits = absurd (cc)
words-within spot totals count n (Some words) size fits =
    let parts = and_parts _ _ fits in
    subst (λ (m : ℕ). spot.text_end + m ≤ 4 * MAX_WORDS) size (leb-true _ _ parts.0)

code-within : (file : File) (spot : Spot) (totals : Totals) (s : Statement) → code_fits file spot totals s ≡ true →
    spot.text_end + text_size s ≤ 4 * MAX_WORDS
code-within file spot totals s fits =
    words-within spot totals (length (relocs_of file.names spot s)) (text_size s)
    (words_of file.names spot.text_end s) (words-size file.names spot.text_end s) fits

module _ (file : File) (t d p : ℕ) (totals : Totals) (near : t ≤ 4 * MAX_WORDS) (close : d ≤ MAX_DATA) where
  text-within : (area : Area) (s : Statement) → statement_fits file (spot_by area t d p) totals s ≡ true →
      t + size_in areas.Text area (Some s) ≤ 4 * MAX_WORDS
  text-within areas.Data s fits = omega (arith, near)
  text-within areas.Text statements.Blank fits = omega (arith, near)
  text-within areas.Text statements.Text fits = omega (arith, near)
  text-within areas.Text statements.Data fits = omega (arith, near)
  text-within areas.Text (statements.Globl name) fits = omega (arith, near)
  text-within areas.Text (statements.Word datum) fits =
      code-within file (spot_by areas.Text t d p) totals (statements.Word datum) fits
  text-within areas.Text (statements.Zero number) fits = omega (arith, near)
  text-within areas.Text (statements.Node kind fields) fits = omega (arith, near)
  text-within areas.Text (statements.Func name node taken) fits = omega (arith, near)
  text-within areas.Text statements.EndFunc fits = omega (arith, near)
  text-within areas.Text (statements.KindCall node) fits = omega (arith, near)
  text-within areas.Text (statements.KindTail node) fits = omega (arith, near)
  text-within areas.Text statements.KindReturn fits = omega (arith, near)
  text-within areas.Text (statements.KindSwitch places) fits = omega (arith, near)
  text-within areas.Text (statements.Jalr rd rs1 imm) fits =
      code-within file (spot_by areas.Text t d p) totals (statements.Jalr rd rs1 imm)
      (and_parts (jump_fits file.records totals) _ fits).1
  text-within areas.Text statements.Ret fits =
      code-within file (spot_by areas.Text t d p) totals statements.Ret
      (and_parts (jump_fits file.records totals) _ fits).1
  text-within areas.Text s fits = code-within file (spot_by areas.Text t d p) totals s fits

  data-within : (area : Area) (s : Statement) → statement_fits file (spot_by area t d p) totals s ≡ true →
      d + size_in areas.Data area (Some s) ≤ MAX_DATA
  data-within areas.Text s fits = omega (arith, close)
  data-within areas.Data (statements.Word datum) fits =
      leb-true _ _ (and_parts (data_fits (spot_by areas.Data t d p) 4) _ fits).0
  data-within areas.Data (statements.Zero (pos n)) fits = leb-true _ _ fits
  data-within areas.Data (statements.Zero (negsuc n)) fits = absurd (cc)
  data-within areas.Data s fits = omega (arith, close)

  fits_on : (number : ℕ) (m u t' n v : Bool) →
      (if m then Some (Syntax number) else (if u then Some (UnknownName number) else (if t' then Some (Twice number)
      else (if n then Some (Range number) else (if v then None else Some (Range number)))))) ≡ None → v ≡ true
  fits_on number true u t' n v none = absurd (cc)
  fits_on number false true t' n v none = absurd (cc)
  fits_on number false false true n v none = absurd (cc)
  fits_on number false false false true v none = absurd (cc)
  fits_on number false false false false true none = refl
  fits_on number false false false false false none = absurd (cc)

  line-within : (area : Area) (found : Found) (number : ℕ) (label : Option (List ℕ)) (o : Option Statement) →
      found.spot ≡ spot_by area t d p → line_fault file found totals number label o ≡ None →
      (t + size_in areas.Text area o ≤ 4 * MAX_WORDS) × (d + size_in areas.Data area o ≤ MAX_DATA)
  line-within area found number label None is none = absurd (cc)
  line-within area found number label (Some s) is none =
      let fits : statement_fits file (spot_by area t d p) totals s ≡ true =
      ap (λ (x : Spot). statement_fits file x totals s) (sym is)
      ∙ fits_on number (is_misplaced file found s) (is_unknown file.names s) (is_twice file.names number label s)
      (nat_lt MAX_SYMBOLS totals.names) (statement_fits file found.spot totals s) none in
      (text-within area s fits, data-within area s fits)

-- text and data are within their limits
pub record AreWithin (lines : List Line) : Type 0 where
  pub text : end_after areas.Text lines ≤ 4 * MAX_WORDS
  pub bytes : end_after areas.Data lines ≤ MAX_DATA

pub within-push : (file : File) (lines before : List Line) (line : Line) → AreWithin before →
    fault_at file lines (at_line before line) ≡ None → AreWithin (before ++ line ∷ [])
within-push file lines before line are none =
    let at = at_line before line in
    let both = line-within file (end_after areas.Text before) (end_after areas.Data before) (spot_after before).pairs
    (totals_at file at) are.text are.bytes (area_after before) (found_at file lines at)
    (length before + 1) line.label
    line.statement refl none in
    record {
      text = subst (λ (n : ℕ). n ≤ 4 * MAX_WORDS) (sym (end-push areas.Text before line)) both.0;
      bytes = subst (λ (n : ℕ). n ≤ MAX_DATA) (sym (end-push areas.Data before line)) both.1;
    }
