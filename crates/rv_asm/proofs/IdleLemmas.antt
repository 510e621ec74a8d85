-- A line that says nothing changes nothing: it adds no name and no row, makes nothing, and has no fault of its own.
use Rattle.std.proofs.Common.{◌≡◌, ℕ, ◌+◌, Bool, true, false, ◌||◌, ◌&&◌, nat_lt, List, [], ◌∷◌, ◌++◌, length, if◌then◌else◌, Option, Some, None, is_none, refl, sym, ap, ◌∙◌, subst, append-nil}
use Rattle.cfi_values.specs.Some.{holds}
use Rattle.cfi_word.specs.declared.limits.TheConstants.{MAX_SYMBOLS}
use Rattle.elf_read.specs.declared.object.Area.{Area}
use Rattle.elf_read.specs.declared.object.Area.TheVariants as areas
use Rattle.rv_line.specs.declared.line.Line.{Line}
use Rattle.rv_line.specs.declared.statement.Statement.{Statement}
use Rattle.rv_line.specs.declared.statement.Statement.TheVariants as statements
use Rattle.rv_names.specs.declared.names.Entry.{Entry}
use Rattle.rv_asm.specs.declared.fault.AsmFault.TheVariants.{Syntax, UnknownName, Twice, Range}
use Rattle.rv_asm.specs.declared.file.File.{File}
use Rattle.rv_asm.specs.Placed.{placed_behind, spot_after}
use Rattle.rv_asm.specs.Symbols.{definition_at, label_says, said_says, says_at, said_in, table_of, names_in}
use Rattle.rv_asm.specs.Fault.{is_kind, is_jump, says, jump_comes, Found, is_misplaced, is_unknown, is_twice, Totals, statement_fits, line_fault, fault_at, found_at, totals_at}
use Rattle.rv_asm.specs.inner.Draft.{Draft}
use Rattle.rv_asm.specs.inner.Survey.{is_blank, is_idle}
use Rattle.rv_asm.proofs.PlacedLemmas.{spot_by, at_line, made-push}
use Rattle.rv_asm.proofs.DraftLemmas.{grown}
use Rattle.rv_asm.proofs.SurveyedLemmas.{row_at, rows_in}

-- it is blank and has no label
blank_on : (o : Option Statement) (label : Option (List ℕ)) → (holds is_blank o && is_none label) ≡ true →
    (o ≡ Some statements.Blank) × (label ≡ None)
blank_on None label idle = absurd (cc)
blank_on (Some statements.Blank) None idle = (refl, refl)
blank_on (Some statements.Blank) (Some name) idle = absurd (cc)
blank_on (Some s) label idle = absurd (cc)

idle_is : (line : Line) → is_idle line ≡ true → (line.statement ≡ Some statements.Blank) × (line.label ≡ None)
idle_is line idle = blank_on line.statement line.label idle

-- the rows, from a line on
module _ (before rest : List Line) (line : Line) where
  pub rows-idle : is_idle line ≡ true →
      rows_in (placed_behind before (line ∷ rest)) ≡ rows_in (placed_behind (before ++ line ∷ []) rest)
  rows-idle idle =
      ap (λ (b : Bool). (if b then [] else row_at (at_line before line) ∷ [])
      ++ rows_in (placed_behind (before ++ line ∷ []) rest)) idle

  pub rows-said : is_idle line ≡ false →
      rows_in (placed_behind before (line ∷ rest))
      ≡ row_at (at_line before line) ∷ rows_in (placed_behind (before ++ line ∷ []) rest)
  rows-said said =
      ap (λ (b : Bool). (if b then [] else row_at (at_line before line) ∷ [])
      ++ rows_in (placed_behind (before ++ line ∷ []) rest)) said

-- the jumps that come
pub comes-idle : (line : Line) (rest : List Line) → is_idle line ≡ true → jump_comes (line ∷ rest) ≡ jump_comes rest
comes-idle line rest idle =
    ap (λ (o : Option Statement). if says is_kind o || says is_jump o then says is_jump o else jump_comes rest)
    (idle_is line idle).0

-- what has been made
blank_in : (file : File) (area : Area) (t d p : ℕ) (draft : Draft) →
    draft ≡ grown file (spot_by area t d p) draft (Some statements.Blank)
blank_in file areas.Text t d p draft = simp append-nil
blank_in file areas.Data t d p draft = simp append-nil

pub made-idle : (file : File) (area : Area) (t d p : ℕ) (draft : Draft) (line : Line) → is_idle line ≡ true →
    grown file (spot_by area t d p) draft line.statement ≡ draft
made-idle file area t d p draft line idle =
    ap (grown file (spot_by area t d p) draft) (idle_is line idle).0 ∙ sym (blank_in file area t d p draft)

-- the names
names-idle : (before : List Line) (line : Line) → is_idle line ≡ true →
    names_in (before ++ line ∷ []) ≡ names_in before
names-idle before line idle =
    let is = idle_is line idle in
    let spot = spot_after before in
    let definition = definition_at (length before + 1) spot in
    let silent : says_at (at_line before line) ≡ [] =
    ap (λ (label : Option (List ℕ)). label_says definition label ++ said_says spot definition line.statement) is.1
    ∙ ap (said_says spot definition) is.0 in
    ap table_of (made-push says_at before line ∙ ap (λ (l : List Entry). said_in before ++ l) silent
    ∙ append-nil (said_in before))

-- ---- faults

-- the names so far are within their limit
abbrev pub HasFewNames : (lines : List Line) → Type 0
HasFewNames lines = nat_lt MAX_SYMBOLS (length (names_in lines)) ≡ false

few_on : (number : ℕ) (m u t n v : Bool) →
    (if m then Some (Syntax number) else (if u then Some (UnknownName number) else (if t then Some (Twice number)
    else (if n then Some (Range number) else (if v then None else Some (Range number)))))) ≡ None → n ≡ false
few_on number true u t n v none = absurd (cc)
few_on number false true t n v none = absurd (cc)
few_on number false false true n v none = absurd (cc)
few_on number false false false true v none = absurd (cc)
few_on number false false false false v none = refl

few-line : (file : File) (found : Found) (totals : Totals) (number : ℕ) (label : Option (List ℕ))
    (o : Option Statement) → line_fault file found totals number label o ≡ None →
    nat_lt MAX_SYMBOLS totals.names ≡ false
few-line file found totals number label None none = absurd (cc)
few-line file found totals number label (Some s) none =
    few_on number (is_misplaced file found s) (is_unknown file.names s) (is_twice file.names number label s)
    (nat_lt MAX_SYMBOLS totals.names) (statement_fits file found.spot totals s) none

fault_on : (file : File) (found : Found) (totals : Totals) (number : ℕ) (label : Option (List ℕ))
    (o : Option Statement) → o ≡ Some statements.Blank → label ≡ None → nat_lt MAX_SYMBOLS totals.names ≡ false →
    line_fault file found totals number label o ≡ None
fault_on file found totals number label o blank bare few = rw (blank, bare, few) refl

module _ (file : File) (lines before : List Line) (line : Line) where
  -- a line without a fault keeps them so
  pub few-push : fault_at file lines (at_line before line) ≡ None → HasFewNames (before ++ line ∷ [])
  few-push none =
      let at = at_line before line in
      few-line file (found_at file lines at) (totals_at file at) (length before + 1) line.label line.statement none

  -- and where they are so, a line that says nothing has none
  pub fault-idle : is_idle line ≡ true → HasFewNames before → fault_at file lines (at_line before line) ≡ None
  fault-idle idle few =
      let at = at_line before line in
      let is = idle_is line idle in
      let still = subst (λ (table : List Entry). nat_lt MAX_SYMBOLS (length table) ≡ false)
      (sym (names-idle before line idle)) few in
      fault_on file (found_at file lines at) (totals_at file at) (length before + 1) line.label line.statement
      is.0 is.1 still
