-- What comes of one line: its least fault, or what it makes.
use Rattle.std.proofs.Common.{◌≡◌, ℕ, Bool, true, false, nat_lt, List, length, if◌then◌else◌, Option, Some, None, Result, Ok, Err, refl, ap, ◌∙◌}
use Rattle.elf_read.specs.declared.object.Area.{Area}
use Rattle.elf_read.specs.declared.object.Area.TheVariants as areas
use Rattle.cfi_word.specs.declared.limits.TheConstants.{MAX_SYMBOLS}
use Rattle.cfi_aux.specs.declared.records.Kind.{Kind}
use Rattle.rv_line.specs.declared.statement.NodeKind.{NodeKind}
use Rattle.rv_line.specs.declared.statement.Statement.{Statement}
use Rattle.rv_line.specs.declared.statement.Statement.TheVariants as statements
use Rattle.rv_names.specs.declared.names.Entry.{Entry}
use Rattle.rv_asm.specs.declared.fault.AsmFault.{AsmFault}
use Rattle.rv_asm.specs.declared.fault.AsmFault.TheVariants.{Syntax, UnknownName, Twice, Range}
use Rattle.rv_asm.specs.declared.file.File.{File}
use Rattle.rv_asm.specs.declared.row.Row.{Row}
use Rattle.rv_asm.specs.declared.spot.Spot.{Spot}
use Rattle.rv_asm.specs.declared.words.Words.{Words}
use Rattle.rv_asm.specs.Relocs.{relocs_of}
use Rattle.rv_asm.specs.Words.{words_of}
use Rattle.rv_line.specs.declared.statement.Datum.{Datum}
use Rattle.rv_asm.specs.inner.Passes.{or_range, with_said, with_row}
use Rattle.rv_asm.specs.inner.Draft.{Draft, with_statement}
use Rattle.rv_asm.specs.Fault.{Found, is_misplaced, is_unknown, is_twice, Totals, words_fit, code_fits, word_fits, statement_fits, said_fault, line_fault}
use Rattle.rv_asm.specs.inner.Fault.{jump_follows, found_by, is_astray}
use Rattle.rv_asm.proofs.DraftLemmas.{grown, totals_by, grows}

-- the fault, or the draft
abbrev pub or_fault : Option AsmFault → Draft → Result Draft AsmFault
or_fault None draft = Ok draft
or_fault (Some fault) draft = Err fault

range_on : (number : ℕ) (v n : Bool) (d : Draft) →
    (if n then Err (Range number) else or_range number (if v then Some d else None))
    ≡ or_fault (if n then Some (Range number) else (if v then None else Some (Range number))) d
range_on number v true d = refl
range_on number true false d = refl
range_on number false false d = refl

-- the faults by their tests
chain : (number : ℕ) (m u t n v : Bool) (made : Option Draft) (d : Draft) →
    (m ≡ false → made ≡ (if v then Some d else None)) →
    (if m then Err (Syntax number) else (if u then Err (UnknownName number) else (if t then Err (Twice number)
    else (if n then Err (Range number) else or_range number made))))
    ≡ or_fault (if m then Some (Syntax number) else (if u then Some (UnknownName number)
    else (if t then Some (Twice number)
    else (if n then Some (Range number) else (if v then None else Some (Range number)))))) d
chain number true u t n v made d makes = refl
chain number false true t n v made d makes = refl
chain number false false true n v made d makes = refl
chain number false false false n v made d makes =
    ap (λ (o : Option Draft). if n then Err (Range number) else or_range number o) (makes refl)
    ∙ range_on number v n d

pub said-step : (file : File) (draft : Draft) (rest : List Row) (row : Row) (s : Statement) →
    with_said file draft rest row s
    ≡ or_fault (said_fault file (found_by row.spot draft rest) (totals_by draft row.names) row.number row.label s)
    (grown file row.spot draft (Some s))
said-step file draft rest row s =
    chain row.number (is_astray file draft rest row.spot s) (is_unknown file.names s)
    (is_twice file.names row.number row.label s) (nat_lt MAX_SYMBOLS row.names)
    (statement_fits file row.spot (totals_by draft row.names) s) (with_statement file row.spot draft s)
    (grown file row.spot draft (Some s))
    (grows file.names file.kinds row.spot.text_end row.spot.data_end row.spot.pairs draft
    (jump_follows rest) row.names
    file.records row.spot.area s)

pub row-step : (file : File) (draft : Draft) (rest : List Row) (row : Row) (o : Option Statement) →
    with_row file draft rest row o
    ≡ or_fault (line_fault file (found_by row.spot draft rest) (totals_by draft row.names) row.number row.label o)
    (grown file row.spot draft o)
row-step file draft rest row None = refl
row-step file draft rest row (Some s) = said-step file draft rest row s

-- without records no kind and no number of branches is asked for
abbrev of_kind : Found → Option Kind → Found
of_kind found kind = record found { kind = kind }

abbrev of_branches : Totals → (count : ℕ) → Totals
of_branches totals count = record totals { branches = count }

misplaced-any : (names : List Entry) (kinds : List NodeKind) (found : Found) (kind : Option Kind) (s : Statement) →
    let file : File = record { names = names; kinds = kinds; records = false } in
    is_misplaced file found s ≡ is_misplaced file (of_kind found kind) s
misplaced-any names kinds found kind s = refl

words-any : (spot : Spot) (totals : Totals) (count added : ℕ) (o : Option Words) →
    words_fit spot totals added o ≡ words_fit spot (of_branches totals count) added o
words-any spot totals count added None = refl
words-any spot totals count added (Some words) = refl

code-any : (file : File) (spot : Spot) (totals : Totals) (count : ℕ) (s : Statement) →
    code_fits file spot totals s ≡ code_fits file spot (of_branches totals count) s
code-any file spot totals count s =
    words-any spot totals count (length (relocs_of file.names spot s)) (words_of file.names spot.text_end s)

word-any : (own : Area) (file : File) (spot : Spot) (totals : Totals) (count : ℕ) (datum : Datum) →
    word_fits own file spot totals datum ≡ word_fits own file spot (of_branches totals count) datum
word-any areas.Text file spot totals count datum = code-any file spot totals count (statements.Word datum)
word-any areas.Data file spot totals count datum = refl

fits-any : (names : List Entry) (kinds : List NodeKind) (spot : Spot) (totals : Totals) (count : ℕ) (s : Statement) →
    let file : File = record { names = names; kinds = kinds; records = false } in
    statement_fits file spot totals s ≡ statement_fits file spot (of_branches totals count) s
fits-any names kinds spot totals count statements.Blank = refl
fits-any names kinds spot totals count statements.Text = refl
fits-any names kinds spot totals count statements.Data = refl
fits-any names kinds spot totals count (statements.Globl name) = refl
fits-any names kinds spot totals count (statements.Word datum) =
    word-any spot.area (record { names = names; kinds = kinds; records = false }) spot totals count datum
fits-any names kinds spot totals count (statements.Zero number) = refl
fits-any names kinds spot totals count (statements.Node kind_of fields) = refl
fits-any names kinds spot totals count (statements.Func name node taken) = refl
fits-any names kinds spot totals count statements.EndFunc = refl
fits-any names kinds spot totals count (statements.KindCall node) = refl
fits-any names kinds spot totals count (statements.KindTail node) = refl
fits-any names kinds spot totals count statements.KindReturn = refl
fits-any names kinds spot totals count (statements.KindSwitch places) = refl
fits-any names kinds spot totals count s =
    code-any (record { names = names; kinds = kinds; records = false }) spot totals count s

module _ (names : List Entry) (kinds : List NodeKind) (found : Found) (totals : Totals) (kind : Option Kind)
    (count : ℕ)
    (number : ℕ) (label : Option (List ℕ)) where
  abbrev file : Bool → File
  file records = record { names = names; kinds = kinds; records = records }

  -- without records one kind is as good as another
  said-any : (s : Statement) →
      said_fault (file false) found totals number label s
      ≡ said_fault (file false) (of_kind found kind) (of_branches totals count) number label s
  said-any s =
      let fault = λ (m v : Bool). if m then Some (Syntax number)
      else (if is_unknown names s then Some (UnknownName number)
      else (if is_twice names number label s then Some (Twice number)
      else (if nat_lt MAX_SYMBOLS totals.names then Some (Range number)
      else (if v then None else Some (Range number))))) in
      ap (λ (m : Bool). fault m (statement_fits (file false) found.spot totals s))
      (misplaced-any names kinds found kind s)
      ∙ ap (λ (v : Bool). fault (is_misplaced (file false) (of_kind found kind) s) v)
      (fits-any names kinds found.spot totals count s)

  line-any : (o : Option Statement) →
      line_fault (file false) found totals number label o
      ≡ line_fault (file false) (of_kind found kind) (of_branches totals count) number label o
  line-any None = refl
  line-any (Some s) = said-any s

  pub line-same : (records : Bool) (o : Option Statement) →
      (records ≡ true → (found.kind ≡ kind) × (totals.branches ≡ count)) →
      line_fault (file records) found totals number label o
      ≡ line_fault (file records) (of_kind found kind) (of_branches totals count) number label o
  line-same false o same = line-any o
  line-same true o same =
      let is = same refl in
      ap (λ (k : Option Kind). line_fault (file true) (of_kind found k) totals number label o) is.0
      ∙ ap (λ (n : ℕ). line_fault (file true) (of_kind found kind) (of_branches totals n) number label o) is.1
