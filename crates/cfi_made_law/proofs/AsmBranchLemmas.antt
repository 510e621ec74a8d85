-- The branches of lines without a fault are not too many, and their words no more than the names of the source.
use Rattle.std.proofs.Common.{◌≡◌, ℕ, ◌+◌, ◌<◌, ◌≤◌, Bool, true, false, List, [], ◌∷◌, ◌++◌, length, map, Option, Some, None, option_map, unwrap_or, refl, ap, ◌∙◌, arith, length-append}
use Rattle.std.specs.List.{filter_map, sum_by}
use Rattle.std.proofs.lemmas.Bool.{and_parts, ltb-true}
use Rattle.std.proofs.lemmas.List.{length-map}
use Rattle.std.proofs.lemmas.List.Sums.{sum_by-cons, sum_by_push, sum_by-append}
use Rattle.cfi_word.specs.declared.limits.TheConstants.{MAX_BRANCHES}
use Rattle.cfi_text.specs.Lines.{lines_of}
use Rattle.cfi_aux.specs.Records.{word_count}
use Rattle.cfi_aux.specs.declared.records.Kind.{Kind}
use Rattle.cfi_aux.specs.declared.records.Kind.TheVariants as branches
use Rattle.rv_line.specs.declared.line.Line.{Line}
use Rattle.rv_line.specs.Line.{line_in}
use Rattle.rv_line.specs.declared.statement.Statement.{Statement}
use Rattle.rv_line.specs.declared.statement.Statement.TheVariants as statements
use Rattle.rv_asm.specs.declared.file.File.{File}
use Rattle.rv_asm.specs.declared.spot.Spot.{Spot}
use Rattle.rv_asm.specs.Fault.{Totals, jump_fits, statement_fits, line_fault, fault_at, found_at, totals_at}
use Rattle.rv_asm.specs.Made.{value_in, kind_set, kind_after, branches_in, branches_at, branches_of}
use Rattle.rv_asm.specs.Node.{callable_in, fits}
use Rattle.rv_asm.specs.Placed.{Placed, placed_behind, spot_after, lines_in}
use Rattle.rv_asm.specs.inner.Count.{most_of, said_of, count_of}
use Rattle.rv_asm.proofs.CountLemmas.{bytes_of, lines-left}
use Rattle.rv_asm.proofs.LineCountLemmas.{line_few}
use Rattle.rv_asm.proofs.PlacedLemmas.{at_line, made-push, last-said}
use Rattle.cfi_made_law.proofs.AsmLimitLemmas.{by-lines, clear-said}

-- ---- branches

abbrev pub words_of : Kind → ℕ
words_of kind = word_count kind

abbrev held_words : Option Kind → ℕ
held_words None = 0
held_words (Some kind) = words_of kind

pub record FewBranches (file : File) (lines : List Line) : Type 0 where
  pub count : file.records ≡ true → length (branches_of file lines) ≤ MAX_BRANCHES
  pub words : sum_by words_of (branches_of file lines) + held_words (kind_after file lines) ≤ sum_by count_of lines

jump-room : (totals : Totals) (r : Bool) → r ≡ true → jump_fits r totals ≡ true → totals.branches < MAX_BRANCHES
jump-room totals true is fits = ltb-true _ _ fits
jump-room totals false is fits = absurd (cc)

said-branches : (file : File) (spot : Spot) (totals : Totals) (kind : Option Kind) (s : Statement)
    → file.records ≡ true → totals.branches ≤ MAX_BRANCHES → statement_fits file spot totals s ≡ true
    → totals.branches + length (branches_in kind (Some s)) ≤ MAX_BRANCHES
said-branches file spot totals kind (statements.Jalr rd rs1 imm) on few fits =
    omega (arith, jump-room totals file.records on (and_parts (jump_fits file.records totals) _ fits).0)
said-branches file spot totals kind statements.Ret on few fits =
    omega (arith, jump-room totals file.records on (and_parts (jump_fits file.records totals) _ fits).0)
said-branches file spot totals kind s on few fits = omega (arith, few)

jump-words : (kind : Option Kind)
    → sum_by words_of (unwrap_or kind branches.Return ∷ []) ≤ held_words kind
jump-words None = omega arith
jump-words (Some kind) = omega arith

call-words : (o : Option ℕ) → held_words (option_map branches.Call o) ≤ 1
call-words None = omega arith
call-words (Some n) = omega arith

tail-words : (o : Option ℕ) → held_words (option_map branches.Tail o) ≤ 1
tail-words None = omega arith
tail-words (Some n) = omega arith

said-words : (file : File) (kind : Option Kind) (s : Statement)
    → sum_by words_of (branches_in kind (Some s)) + held_words (unwrap_or (kind_set file (Some s)) kind)
    ≤ held_words kind + most_of s
said-words file kind (statements.Jalr rd rs1 imm) = omega (arith, jump-words kind)
said-words file kind statements.Ret = omega (arith, jump-words kind)
said-words file kind (statements.KindCall node) = omega (arith, call-words (callable_in file.kinds node))
said-words file kind (statements.KindTail node) = omega (arith, tail-words (callable_in file.kinds node))
said-words file kind statements.KindReturn = omega arith
said-words file kind (statements.KindSwitch names) =
    omega (arith, length-map names (value_in file.names))
said-words file kind s = omega arith

branches-step : (file : File) (lines before : List Line) (line : Line)
    → fault_at file lines (at_line before line) ≡ None
    → FewBranches file before → FewBranches file (before ++ line ∷ [])
branches-step file lines before line none few = branches-from line.statement none refl
  where
    at : Placed
    at = at_line before line

    held : Option Kind
    held = kind_after file before

    branches-from : (o : Option Statement)
        → line_fault file (found_at file lines at) (totals_at file at) (length before + 1) line.label o ≡ None
        → line.statement ≡ o → FewBranches file (before ++ line ∷ [])
    branches-from None none is = absurd (cc)
    branches-from (Some s) none is =
        let clear = clear-said file (found_at file lines at) (totals_at file at) (length before + 1) line.label s none in
        let made : branches_of file (before ++ line ∷ []) ≡ branches_of file before ++ branches_in held (Some s) =
        made-push (branches_at file) before line
        ∙ ap (λ (x : Option Statement). branches_of file before ++ branches_in held x) is in
        let next : kind_after file (before ++ line ∷ []) ≡ unwrap_or (kind_set file (Some s)) held =
        last-said (λ (l : Line). kind_set file l.statement) before line None
        ∙ ap (λ (x : Option Statement). unwrap_or (kind_set file x) held) is in
        record {
          count = λ on. omega (
            arith,
            ap (λ (l : List Kind). length l) made,
            length-append (branches_of file before) (branches_in held (Some s)),
            said-branches file (spot_after before) (totals_at file at) held s on (few.count on) clear.fits,
          );
          words = omega (
            arith,
            ap (sum_by words_of) made,
            sum_by-append words_of (branches_of file before) (branches_in held (Some s)),
            ap held_words next,
            said-words file held s,
            few.words,
            sum_by_push count_of before line,
            ap said_of is,
          );
        }

pub branches-few : (file : File) (lines : List Line)
    → filter_map (fault_at file lines) (placed_behind [] lines) ≡ [] → FewBranches file lines
branches-few file lines clear =
    by-lines (FewBranches file) file lines (branches-step file lines) clear
    (record { count = λ on. omega arith; words = omega arith })

-- a source has at most one name more than bytes
lines-names : (lines : List (List ℕ)) → sum_by count_of (map line_in lines) ≤ bytes_of lines
lines-names [] = omega arith
lines-names (line ∷ lines) =
    omega (arith, sum_by-cons count_of (line_in line) (map line_in lines), line_few line, lines-names lines)

pub text-names : (text : List ℕ) → sum_by count_of (lines_in text) ≤ length text + 1
text-names text = omega (arith, lines-names (lines_of text), lines-left text)
