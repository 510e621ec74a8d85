-- What the lines so far have made, as a draft, and the fault of the line after them by it.
use Rattle.std.proofs.Common.{◌≡◌, ◌+◌, Bool, true, false, ◌||◌, List, [], ◌∷◌, ◌++◌, length, drop, if◌then◌else◌, Option, Some, None, unwrap_or, refl, sym, ap, ◌∙◌, ⊎_elim}
use Rattle.std.proofs.lemmas.Bool.{cases_Bool}
use Rattle.std.specs.List.{filter_map, cons_option, flat_map, last_or}
use Rattle.std.proofs.Math.Seq.{drop-append-add}
use Rattle.cfi_aux.specs.declared.records.Kind.{Kind}
use Rattle.elf_read.specs.declared.object.Area.TheVariants as areas
use Rattle.rv_line.specs.declared.line.Line.{Line}
use Rattle.rv_line.specs.declared.statement.NodeKind.{NodeKind}
use Rattle.rv_line.specs.declared.statement.Statement.{Statement}
use Rattle.rv_names.specs.declared.names.Entry.{Entry}
use Rattle.rv_asm.specs.declared.file.File.{File}
use Rattle.rv_asm.specs.inner.Passes.{object_of}
use Rattle.rv_asm.specs.inner.Draft.{Draft}
use Rattle.rv_asm.specs.inner.Fault.{jump_follows, found_by}
use Rattle.rv_asm.specs.Placed.{Placed, placed_behind, placed, spot_after}
use Rattle.rv_asm.specs.Symbols.{names_in}
use Rattle.rv_asm.specs.Made.{text_at, text_of, data_at, data_of, relocs_at, relocs_by, nodes_in, nodes_of, opened_at, open_after, functions_at, functions_of, kind_set, kind_after, branches_in, branches_at, branches_of, object_by}
use Rattle.rv_asm.specs.Fault.{is_kind, is_jump, says, jump_comes, line_fault, fault_at}
use Rattle.rv_asm.proofs.PlacedLemmas.{at_line, placed-push, made-push, last-said}
use Rattle.rv_asm.specs.inner.Survey.{is_idle}
use Rattle.rv_asm.proofs.SurveyedLemmas.{rows_in}
use Rattle.rv_asm.proofs.IdleLemmas.{rows-idle, rows-said, comes-idle, made-idle}
use Rattle.rv_asm.proofs.CappedFaultLemmas.{flat_map-same}
use Rattle.rv_asm.proofs.DraftLemmas.{draft_by, draft-eq, kind_held, kinds_held, grown, found_with, totals_by}
use Rattle.rv_asm.proofs.StepLemmas.{line-same}

-- what the lines so far have made
abbrev pub kept_after : File → (before : List Line) → Option Kind
kept_after file before =
    unwrap_or (last_or None (filter_map (λ (l : Line). kind_held file.records file l.statement) before)) None

abbrev kept_at : File → Placed → List Kind
kept_at file at = kinds_held file.records (kept_after file at.before) at.line.statement

abbrev pub draft_after : File → (before : List Line) → Draft
draft_after file before =
    draft_by (text_of file before) (data_of before) (relocs_by file areas.Text before)
    (relocs_by file areas.Data before)
    (nodes_of before) (functions_of file.kinds before) (flat_map (kept_at file) (placed before))
    (kept_after file before)
    (open_after file.kinds before)

pub open-push : (kinds : List NodeKind) (before : List Line) (line : Line) →
    open_after kinds (before ++ line ∷ []) ≡ unwrap_or (opened_at kinds (at_line before line))
    (open_after kinds before)
open-push kinds before line =
    ap (λ (ps : List Placed). unwrap_or (last_or None (filter_map (opened_at kinds) ps)) None)
    (placed-push before line)
    ∙ last-said (opened_at kinds) (placed before) (at_line before line) None

pub draft-push : (file : File) (before : List Line) (line : Line) →
    draft_after file (before ++ line ∷ []) ≡ grown file (spot_after before) (draft_after file before) line.statement
draft-push file before line =
    draft-eq (made-push (text_at file) before line) (made-push data_at before line)
    (made-push (relocs_at areas.Text file) before line) (made-push (relocs_at areas.Data file) before line)
    (made-push (λ (at : Placed). nodes_in at.line.statement) before line)
    (made-push (functions_at file.kinds) before line)
    (made-push (kept_at file) before line)
    (last-said (λ (l : Line). kind_held file.records file l.statement) before line None)
    (open-push file.kinds before line)

-- a line that says nothing makes nothing
pub draft-idle : (file : File) (before : List Line) (line : Line) → is_idle line ≡ true →
    draft_after file (before ++ line ∷ []) ≡ draft_after file before
draft-idle file before line idle =
    let spot = spot_after before in
    draft-push file before line
    ∙ made-idle file spot.area spot.text_end spot.data_end spot.pairs (draft_after file before) line idle

-- with records, each indirect jump takes the kind that is set
held-set : (file : File) (o : Option Statement) → kind_held true file o ≡ kind_set file o
held-set file None = refl
held-set file (Some s) = refl

held-in : (kind : Option Kind) (o : Option Statement) → kinds_held true kind o ≡ branches_in kind o
held-in kind None = refl
held-in kind (Some s) = refl

filter_map-same : {A B : Type 0} (f g : A → Option B) → ((x : A) → f x ≡ g x) → (xs : List A) → filter_map f xs
    ≡ filter_map g xs
filter_map-same f g same [] = refl
filter_map-same f g same (x ∷ xs) =
    ap (λ o. cons_option o (filter_map f xs)) (same x) ∙ ap (cons_option (g x)) (filter_map-same f g same xs)

module _ (names : List Entry) (kinds : List NodeKind) where
  abbrev recorded : File
  recorded = record { names = names; kinds = kinds; records = true }

  kept-same : (before : List Line) → kept_after recorded before ≡ kind_after recorded before
  kept-same before =
      ap (λ l. unwrap_or (last_or None l) None) (filter_map-same (λ (l : Line). kind_held true recorded l.statement)
      (λ (l : Line). kind_set recorded l.statement) (λ l. held-set recorded l.statement) before)

  kinds-same : (before : List Line) → flat_map (kept_at recorded) (placed before) ≡ branches_of recorded before
  kinds-same before =
      flat_map-same (kept_at recorded) (branches_at recorded)
      (λ at. held-in (kept_after recorded at.before) at.line.statement
      ∙ ap (λ (k : Option Kind). branches_in k at.line.statement) (kept-same at.before)) (placed before)

  same_when : (records : Bool) → let file : File = record { names = names; kinds = kinds; records = records } in
      (before : List Line) → records ≡ true →
      (kept_after file before ≡ kind_after file before)
      × (length (flat_map (kept_at file) (placed before)) ≡ length (branches_of file before))
  same_when true before is = (kept-same before, ap length (kinds-same before))
  same_when false before is = absurd (cc)

  pub object-same : (records : Bool) → let file : File = record { names = names; kinds = kinds; records = records } in
      (lines : List Line) → object_of file (draft_after file lines) ≡ object_by file lines
  object-same true lines = rw (kinds-same lines) refl
  object-same false lines = refl

-- the jumps that come
comes_on : (v w : Bool) (rest more : Bool) → rest ≡ more → (if v || w then w else rest) ≡ (if v || w then w else more)
comes_on v w rest more same = ap (λ (r : Bool). if v || w then w else r) same

jump-same : (before lines : List Line) → jump_follows (rows_in (placed_behind before lines)) ≡ jump_comes lines
jump-same before [] = refl
jump-same before (line ∷ lines) =
    let rest = rows_in (placed_behind (before ++ line ∷ []) lines) in
    let more = jump-same (before ++ line ∷ []) lines in
    ⊎_elim
    (λ (idle : is_idle line ≡ true).
    ap jump_follows (rows-idle before lines line idle) ∙ more ∙ sym (comes-idle line lines idle))
    (λ (said : is_idle line ≡ false).
    ap jump_follows (rows-said before lines line said)
    ∙ comes_on (says is_kind line.statement) (says is_jump line.statement) (jump_follows rest) (jump_comes lines) more)
    (cases_Bool (is_idle line))

-- the fault of a line, by the draft of those before it
pub fault-same : (file : File) (before rest : List Line) (line : Line) →
    line_fault file (found_by (spot_after before) (draft_after file before)
    (rows_in (placed_behind (before ++ line ∷ []) rest)))
    (totals_by (draft_after file before) (length (names_in (before ++ line ∷ []))))
    (length before + 1) line.label line.statement
    ≡ fault_at file (before ++ line ∷ rest) (at_line before line)
fault-same file before rest line =
    let lines = before ++ line ∷ rest in
    let draft = draft_after file before in
    let totals = totals_by draft (length (names_in (before ++ line ∷ []))) in
    let jump : jump_follows (rows_in (placed_behind (before ++ line ∷ []) rest))
    ≡ jump_comes (drop (length before + 1) lines) =
    jump-same (before ++ line ∷ []) rest ∙ ap jump_comes (sym (drop-append-add before (line ∷ rest) 1)) in
    ap (λ (j : Bool). line_fault file (found_with (spot_after before) draft j) totals (length before + 1) line.label
    line.statement) jump
    ∙ line-same file.names file.kinds (found_with (spot_after before) draft
    (jump_comes (drop (length before + 1) lines)))
    totals (kind_after file before) (length (branches_of file before)) (length before + 1) line.label file.records
    line.statement (same_when file.names file.kinds file.records before)
