-- A listing is assembled to its words.
use Rattle.std.proofs.Common.{◌≡◌, ℕ, suc, ◌+◌, ◌-◌, ◌*◌, ◌^◌, ◌<◌, ◌≤◌, ◌==◌, ◌&&◌, Bool, true, false, Option, Some, None, Ok, List, [], ◌∷◌, ◌++◌, length, map, flat_map, refl, sym, ap, ◌∙◌, append_assoc, append-nil, arith}
use Rattle.std.specs.Prelude.{nat_le, All}
use Rattle.std.specs.List.{enumerate_from}
use Rattle.std.proofs.lemmas.Bool.{cond-true, and_from, le-leb}
use Rattle.std.proofs.lemmas.List.{length-map}
use Rattle.cfi_text.specs.Lines.{lines_of, numbered_lines}
use Rattle.elf_read.specs.declared.object.Area.TheVariants as areas
use Rattle.cfi_word.specs.declared.limits.TheConstants.{MAX_WORDS}
use Rattle.rv_insn.specs.declared.insn.Insn.{Insn}
use Rattle.rv_insn.specs.declared.insn.Insn.TheVariants as insns
use Rattle.rv_insn.specs.declared.opcode.TheConstants as opcodes
use Rattle.rv_insn.specs.InsnOf.{insn_of}
use Rattle.rv_text.specs.declared.text.TheConstants.{FULL_FENCE}
use Rattle.rv_text.specs.Listing.{IsListing}
use Rattle.rv_line.specs.declared.line.Line.{Line}
use Rattle.rv_line.specs.declared.statement.Statement.{Statement}
use Rattle.rv_line.specs.declared.statement.Statement.TheVariants as statements
use Rattle.rv_line.specs.Line.{line_in}
use Rattle.rv_asm.specs.declared.file.File.{File}
use Rattle.rv_asm.specs.declared.row.Row.{Row}
use Rattle.rv_asm.specs.declared.spot.Spot.{Spot}
use Rattle.rv_asm.specs.Assembled.{object_in}
use Rattle.rv_asm.specs.Fault.{is_unknown, begins_again}
use Rattle.rv_asm.specs.Relocs.{relocs_of}
use Rattle.rv_asm.specs.inner.Draft.{Draft, empty, has_relocs, with_code, with_statement}
use Rattle.rv_asm.specs.inner.Fault.{is_astray}
use Rattle.rv_asm.specs.inner.Passes.{with_said, with_rows, end_of_lines, passed_by}
use Rattle.cfi_values.specs.Then.{◌>>=◌}
use Rattle.rv_asm.specs.inner.Spot.{plus, after}
use Rattle.rv_asm.specs.inner.Survey.{Survey, nothing, with_kind, is_blank, with_line, with_lines}
use Rattle.rv_asm.specs.inner.Survey.{with_statement as surveyed}
use Rattle.rv_asm.specs.Words.{word_bytes}
use Rattle.rv_asm.proofs.PassLemmas.{passed_in-text}
use Rattle.rv_listing_law.specs.Back.{number_statement, fence_statement, statement_of, read_statement, word_statement, plain_line, word_line, text_object}
use Rattle.rv_listing_law.proofs.WordsLemmas.{words_of-word}
use Rattle.rv_listing_law.proofs.ListingLemmas.{said-listing}

-- in text, after so many bytes
abbrev spot_at : (end : ℕ) → Spot
spot_at end = record { area = areas.Text; text_end = end; data_end = 0; pairs = 0 }

abbrev no_file : File
no_file = record { names = []; kinds = []; records = false }

-- the statement has a word, no name and no fault
record IsCode (statement : Statement) : Type 0 where
  pub next : (end : ℕ) → after (spot_at end) statement ≡ spot_at (plus end 4)
  pub names : (number end : ℕ) → surveyed [] number (spot_at end) statement ≡ []
  pub kinds : with_kind [] (Some statement) ≡ []
  pub straight : (draft : Draft) (rest : List Row) (end : ℕ) →
      is_astray no_file draft rest (spot_at end) statement ≡ false
  pub known : is_unknown [] statement ≡ false
  pub once : (number : ℕ) → begins_again [] number None statement ≡ false
  pub speaks : is_blank statement ≡ false
  pub relocs : (end : ℕ) → relocs_of [] (spot_at end) statement ≡ []
  pub code : (draft : Draft) (end : ℕ) →
      with_statement no_file (spot_at end) draft statement ≡ with_code no_file (spot_at end) draft statement

IsCode-number : (word : ℕ) → IsCode (number_statement word)
IsCode-number word = record {
  next = λ end. refl;
  names = λ number end. refl;
  kinds = refl;
  straight = λ draft rest end. refl;
  known = refl;
  once = λ number. refl;
  speaks = refl;
  relocs = λ end. refl;
  code = λ draft end. refl;
}

IsCode-fence : (word : ℕ) → (v : Bool) → (word == FULL_FENCE) ≡ v → IsCode (fence_statement word)
IsCode-fence word true is = rw is (record {
  next = λ end. refl;
  names = λ number end. refl;
  kinds = refl;
  straight = λ draft rest end. refl;
  known = refl;
  once = λ number. refl;
  speaks = refl;
  relocs = λ end. refl;
  code = λ draft end. refl;
})
IsCode-fence word false is = rw is (IsCode-number word)

IsCode-insn : (insn : Insn) → IsCode (statement_of insn)
IsCode-insn (insns.Fence fields) = IsCode-fence (opcodes.FENCE + fields) (opcodes.FENCE + fields == FULL_FENCE) refl
IsCode-insn insn = record {
  next = λ end. refl;
  names = λ number end. refl;
  kinds = refl;
  straight = λ draft rest end. refl;
  known = refl;
  once = λ number. refl;
  speaks = refl;
  relocs = λ end. refl;
  code = λ draft end. refl;
}

IsCode-read : (word : ℕ) (o : Option Insn) → IsCode (read_statement o word)
IsCode-read word None = IsCode-number word
IsCode-read word (Some insn) = IsCode-insn insn

IsCode-word : (word : ℕ) → IsCode (word_statement word)
IsCode-word word = IsCode-read word (insn_of word)

-- the lines, one after the other
abbrev said_lines : Survey → (number : ℕ) → List Line → Survey
said_lines survey number [] = survey
said_lines survey number (line ∷ lines) = said_lines (with_line survey number line) (number + 1) lines

with_lines-said : (survey : Survey) (number : ℕ) (lines : List (List ℕ)) →
    with_lines survey (enumerate_from number lines) ≡ said_lines survey number (map line_in lines)
with_lines-said survey number [] = refl
with_lines-said survey number (line ∷ lines) =
    with_lines-said (with_line survey number (line_in line)) (number + 1) lines

-- the rows of words
abbrev row_at : (number end : ℕ) → Statement → Row
row_at number end statement =
    record { number = number; label = None; statement = Some statement; spot = spot_at end; names = 0 }

abbrev rows_from : (number end : ℕ) → (words : List ℕ) → List Row
rows_from number end [] = []
rows_from number end (word ∷ words) =
    row_at number end (word_statement word) ∷ rows_from (number + 1) (end + 4) words

abbrev survey_at : (end lines : ℕ) → List Row → Survey
survey_at end lines rows = record {
  spot = spot_at end;
  names = [];
  kinds = [];
  records = false;
  lines = lines;
  rows = rows;
}

with_line-word : (end number : ℕ) (rows : List Row) (statement : Statement) → IsCode statement → end + 4 < 2 ^ 32 →
    with_line (survey_at end number rows) (number + 1) (plain_line statement)
    ≡ survey_at (end + 4) (number + 1) (rows ++ row_at (number + 1) end statement ∷ [])
with_line-word end number rows statement is small =
    let next : plus end 4 ≡ end + 4 = omega (arith, small) in
    rw (is.next end, is.names (number + 1) end, is.kinds, is.speaks, next) refl

said_lines-words : (end number : ℕ) (rows : List Row) (words : List ℕ) → end + 4 * length words < 2 ^ 32 →
    said_lines (survey_at end number rows) (number + 1) (map word_line words)
    ≡ survey_at (end + 4 * length words) (number + length words) (rows ++ rows_from (number + 1) end words)
said_lines-words end number rows [] small =
    let same : end ≡ end + 0 = omega arith in
    let count : number ≡ number + 0 = omega arith in
    ap (λ e. survey_at e number rows) same ∙ ap (λ n. survey_at (end + 0) n rows) count
    ∙ ap (survey_at (end + 0) (number + 0)) (sym (append-nil rows))
said_lines-words end number rows (word ∷ words) small =
    let row = row_at (number + 1) end (word_statement word) in
    let all = rows ++ rows_from (number + 1) end (word ∷ words) in
    let after_it : end + 4 + 4 * length words ≡ end + 4 * suc (length words) = omega arith in
    let count : number + 1 + length words ≡ number + suc (length words) = omega arith in
    ap (λ s. said_lines s (number + 1 + 1) (map word_line words)) (with_line-word end number rows (word_statement word)
    (IsCode-word word) (omega (arith, small)))
    ∙ said_lines-words (end + 4) (number + 1) (rows ++ row ∷ []) words (omega (arith, small))
    ∙ ap (survey_at (end + 4 + 4 * length words) (number + 1 + length words))
    (append_assoc rows (row ∷ []) (rows_from (number + 1 + 1) (end + 4) words))
    ∙ ap (λ e. survey_at e (number + 1 + length words) all) after_it
    ∙ ap (λ n. survey_at (end + 4 * suc (length words)) n all) count

-- the drafts of words
abbrev draft_at : List ℕ → Draft
draft_at bytes = record empty { text = bytes }

with_code-word : (word end : ℕ) (bytes : List ℕ) → word < 2 ^ 32 → end + 4 ≤ 4 * MAX_WORDS →
    with_code no_file (spot_at end) (draft_at bytes) (word_statement word) ≡ Some (draft_at (bytes ++ word_bytes word))
with_code-word word end bytes small within =
    rw (words_of-word [] end word small, (IsCode-word word).relocs end)
    (cond-true (nat_le (end + 4) (4 * MAX_WORDS) && has_relocs (draft_at bytes) 0) _ _
    (and_from _ _ (le-leb (end + 4) (4 * MAX_WORDS) within) refl))

with_said-code : (statement : Statement) (number end : ℕ) (draft next : Draft) (rest : List Row) → IsCode statement →
    with_code no_file (spot_at end) draft statement ≡ Some next →
    with_said no_file draft rest (row_at number end statement) statement ≡ Ok next
with_said-code statement number end draft next rest is makes =
    rw (
      is.straight draft rest end,
      is.known,
      is.once number,
      is.code draft end,
      makes,
    ) refl

with_said-word : (word number end : ℕ) (bytes : List ℕ) (rest : List Row) → word < 2 ^ 32 → end + 4 ≤ 4 * MAX_WORDS →
    with_said no_file (draft_at bytes) rest (row_at number end (word_statement word)) (word_statement word)
    ≡ Ok (draft_at (bytes ++ word_bytes word))
with_said-word word number end bytes rest small within =
    with_said-code (word_statement word) number end (draft_at bytes) (draft_at (bytes ++ word_bytes word)) rest
    (IsCode-word word) (with_code-word word end bytes small within)

with_rows-words : (number end : ℕ) (bytes words : List ℕ) → All (λ word. word < 2 ^ 32) words →
    end + 4 * length words ≤ 4 * MAX_WORDS →
    with_rows no_file (draft_at bytes) (rows_from number end words) ≡ Ok (draft_at (bytes ++ flat_map word_bytes words))
with_rows-words number end bytes [] small within = ap (λ b. Ok (draft_at b)) (sym (append-nil bytes))
with_rows-words number end bytes (word ∷ words) small within =
    let rest = rows_from (number + 1) (end + 4) words in
    ap (λ r. r >>= λ next. with_rows no_file next rest) (with_said-word word number end bytes rest (small 0 0 (omega
    arith)) (omega (arith, within)))
    ∙ with_rows-words (number + 1) (end + 4) (bytes ++ word_bytes word) words (λ k d l. small (suc k) d (omega (
      arith,
      l,
    ))) (omega (arith, within))
    ∙ ap (λ b. Ok (draft_at b)) (append_assoc bytes (word_bytes word) (flat_map word_bytes words))

-- the object
abbrev first_row : Row
first_row = row_at 1 0 statements.Text

pub object_in-listing : (words text : List ℕ) → All (λ word. word < 2 ^ 32) words → length words ≤ MAX_WORDS →
    IsListing words text → object_in text ≡ Ok (text_object (flat_map word_bytes words))
object_in-listing words text small few is =
    let rows = rows_from 2 0 words in
    let said = ap length (said-listing words small text is) in
    let lines = length-map words word_line in
    let short : length (map line_in (lines_of text)) ≤ 2 ^ 32 - 1 = omega (arith, said, lines, few) in
    let survey : with_lines nothing (numbered_lines text)
    ≡ survey_at (0 + 4 * length words) (1 + length words) (first_row ∷ rows) =
    with_lines-said nothing 1 (lines_of text) ∙ ap (said_lines nothing 1) (said-listing words small text is)
    ∙ said_lines-words 0 1 (first_row ∷ []) words (omega (arith, few)) in
    sym (passed_in-text text short) ∙ ap passed_by survey
    ∙ ap (λ r. r >>= end_of_lines no_file (1 + length words))
    (with_rows-words 2 0 [] words small (omega (arith, few)))
