-- The two passes give the object that the lines make, or the fault of the first faulty one.
use Rattle.std.proofs.Common.{◌≡◌, ℕ, subst, ◌+◌, ◌-◌, ◌^◌, ◌≤◌, Bool, true, false, List, [], ◌∷◌, ◌++◌, length, map, if◌then◌else◌, Option, Some, None, is_some, Result, Ok, Err, refl, sym, ap, ◌∙◌, append-nil, append_assoc, length-append, ⊎_elim, arith}
use Rattle.std.specs.List.{filter_map, cons_option, flat_map, sum_by}
use Rattle.std.proofs.lemmas.Bool.{cases_Bool}
use Rattle.std.proofs.lemmas.List.{length-map}
use Rattle.std.proofs.lemmas.List.Sums.{sum_by-append}
use Rattle.cfi_text.specs.Lines.{lines_of}
use Rattle.cfi_aux.specs.declared.records.Function.{Function}
use Rattle.elf_read.specs.declared.object.Area.{Area}
use Rattle.elf_read.specs.declared.object.Area.TheVariants as areas
use Rattle.elf_read.specs.declared.object.Object.{Object}
use Rattle.rv_line.specs.declared.line.Line.{Line}
use Rattle.rv_line.specs.declared.statement.NodeKind.{NodeKind}
use Rattle.rv_line.specs.declared.statement.Statement.{Statement}
use Rattle.rv_names.specs.declared.names.Entry.{Entry}
use Rattle.rv_names.specs.Names.{in_order}
use Rattle.rv_asm.specs.declared.fault.AsmFault.{AsmFault}
use Rattle.rv_asm.specs.declared.fault.AsmFault.TheVariants.{Syntax}
use Rattle.rv_asm.specs.declared.file.File.{File}
use Rattle.rv_asm.specs.declared.row.Row.{Row}
use Rattle.rv_asm.specs.declared.spot.Spot.{Spot}
use Rattle.rv_asm.specs.Assembled.{unless, object_or_fault, object_in}
use Rattle.rv_asm.specs.inner.Passes.{with_row, with_rows, object_of, end_of_lines, passed_by, passed_in}
use Rattle.cfi_values.specs.Then.{◌>>=◌}
use Rattle.rv_asm.specs.inner.Draft.{Draft, empty}
use Rattle.rv_asm.specs.Placed.{Placed, placed_behind, placed, size_at, end_after, spot_after, lines_in}
use Rattle.rv_asm.specs.Symbols.{line_says, says_at, said_in, table_of, names_in, kinds_in, file_in}
use Rattle.rv_asm.specs.Made.{open_after, object_by}
use Rattle.rv_asm.specs.Fault.{fault_at, end_faults}
use Rattle.rv_asm.proofs.PlacedLemmas.{at_line, placed_behind-append, capped, capped-same, pairs-le}
use Rattle.rv_asm.proofs.SurveyedLemmas.{capped_says, capped_in, records_in, row_at, rows_in, survey_after, surveyed-from}
use Rattle.rv_asm.proofs.CappedLemmas.{cap, said-from, table-cap, order-cap}
use Rattle.rv_asm.proofs.CappedFaultLemmas.{fault-cap}
use Rattle.rv_asm.proofs.LimitLemmas.{AreWithin, within-push}
use Rattle.rv_asm.proofs.DraftLemmas.{grown}
use Rattle.rv_asm.proofs.StepLemmas.{or_fault, row-step}
use Rattle.rv_asm.specs.inner.Survey.{is_idle}
use Rattle.rv_asm.proofs.IdleLemmas.{rows-idle, rows-said, HasFewNames, few-push, fault-idle}
use Rattle.rv_asm.proofs.DraftedLemmas.{draft_after, draft-push, draft-idle, object-same, fault-same}

end_on : (file : File) (number : ℕ) (draft : Draft) (object : Object) (o : Option Function) →
    object_of file draft ≡ object →
    (if is_some o then Err (Syntax number) else Ok (object_of file draft)) ≡ unless (end_faults number o) object
end_on file number draft object None same = ap (λ (x : Object). Ok x) same
end_on file number draft object (Some function) same = refl

more_on : (o : Option AsmFault) (draft next : Draft) (object : Object) (faults : List AsmFault)
    (go : Draft → Result Object AsmFault) → draft ≡ next → (o ≡ None → go next ≡ unless faults object) →
    (or_fault o draft >>= go) ≡ unless (cons_option o faults) object
more_on None draft next object faults go same is = ap go same ∙ is refl
more_on (Some fault) draft next object faults go same is = refl

cons_option-append : {A : Type 0} (o : Option A) (xs ys : List A) → cons_option o (xs ++ ys) ≡ cons_option o xs ++ ys
cons_option-append None xs ys = refl
cons_option-append (Some x) xs ys = refl

bind_bind : {A B C : Type 0} (r : Result A AsmFault) (f : A → Result B AsmFault) (g : B → Result C AsmFault) →
    ((r >>= f) >>= g) ≡ (r >>= λ x. f x >>= g)
bind_bind (Ok x) f g = refl
bind_bind (Err fault) f g = refl

-- the lines before another are no longer, and make no more
prefix-le : (area : Area) (before rest : List Line) → end_after area before ≤ end_after area (before ++ rest)
prefix-le area before rest =
    let all = ap (sum_by (size_at area)) (placed_behind-append [] before rest) in
    let sum = sum_by-append (size_at area) (placed before) (placed_behind before rest) in
    omega arith

few-lines : (before rest : List Line) → length (before ++ rest) ≤ 2 ^ 32 - 1 → length before ≤ 2 ^ 32 - 1
few-lines before rest few = let all = length-append before rest in omega (arith, few)

within-same : (before : List Line) → AreWithin before → length before ≤ 2 ^ 32 - 1 →
    capped (spot_after before) ≡ spot_after before
within-same before are few =
    let pairs = pairs-le before in
    let text = are.text in
    let bytes = are.bytes in
    capped-same before (omega (arith, text)) (omega (arith, bytes)) (omega (arith, pairs, few))

within-before : (before rest : List Line) → AreWithin (before ++ rest) → AreWithin before
within-before before rest are =
    let text = prefix-le areas.Text before rest in
    let bytes = prefix-le areas.Data before rest in
    let all = are.text in
    let most = are.bytes in
    record { text = omega (arith, text, all); bytes = omega (arith, bytes, most) }

-- the names of lines within the limits are as the code counts them
said-within : (before rest : List Line) → AreWithin (before ++ rest) → length (before ++ rest) ≤ 2 ^ 32 - 1 →
    flat_map capped_says (placed_behind before rest) ≡ flat_map says_at (placed_behind before rest)
said-within before [] are few = refl
said-within before (line ∷ rest) are few =
    let lines = before ++ line ∷ rest in
    let same = within-same before (within-before before (line ∷ rest) are) (few-lines before (line ∷ rest) few) in
    let again = append_assoc before (line ∷ []) rest in
    ap (λ (s : Spot). line_says (length before + 1) s line ++ flat_map capped_says
    (placed_behind (before ++ line ∷ []) rest)) same
    ∙ ap (λ (l : List Entry). says_at (at_line before line) ++ l) (said-within (before ++ line ∷ []) rest
    (subst AreWithin (sym again) are) (subst (λ (l : List Line). length l ≤ 2 ^ 32 - 1) (sym again) few))

abbrev counted_in : (lines : List Line) → List Entry
counted_in lines = in_order (table_of (capped_in lines))

names-counted : (lines : List Line) → length lines ≤ 2 ^ 32 - 1 →
    table_of (capped_in lines) ≡ map cap (names_in lines)
names-counted lines few = ap table_of (said-from [] lines (omega (arith, few))) ∙ table-cap (said_in lines)

names-within : (lines : List Line) → AreWithin lines → length lines ≤ 2 ^ 32 - 1 →
    map cap (in_order (names_in lines)) ≡ in_order (names_in lines)
names-within lines are few =
    sym (order-cap (names_in lines)) ∙ ap in_order (sym (names-counted lines few))
    ∙ ap (λ (l : List Entry). in_order (table_of l)) (said-within [] lines are few)

-- the row of a line within the limits
abbrev plain_row : Placed → Row
plain_row at = record {
  number = length at.before + 1;
  label = at.line.label;
  statement = at.line.statement;
  spot = spot_after at.before;
  names = length (names_in (at.before ++ at.line ∷ []));
}

row-eq : {n : ℕ} {label : Option (List ℕ)} {o : Option Statement} {s t : Spot} {c d : ℕ} → s ≡ t → c ≡ d →
    ◌≡◌ {A = Row} (record { number = n; label = label; statement = o; spot = s; names = c })
    (record { number = n; label = label; statement = o; spot = t; names = d })
row-eq spot names = rw (spot, names) refl

row-same : (before : List Line) (line : Line) → AreWithin before → length (before ++ line ∷ []) ≤ 2 ^ 32 - 1 →
    row_at (at_line before line) ≡ plain_row (at_line before line)
row-same before line are few =
    row-eq (within-same before are (few-lines before (line ∷ []) few))
    (ap length (names-counted (before ++ line ∷ []) few) ∙ length-map (names_in (before ++ line ∷ [])) cap)

abbrev named : (kinds : List NodeKind) (records : Bool) → List Entry → File
named kinds records table = record { names = table; kinds = kinds; records = records }

-- the second pass, from a line on
module _ (names : List Entry) (kinds : List NodeKind) (records : Bool) where
  abbrev exact : File
  exact = record { names = names; kinds = kinds; records = records }

  abbrev counted : File
  counted = record { names = map cap names; kinds = kinds; records = records }

  abbrev Passes : (lines before rest : List Line) → Type 0
  Passes lines before rest =
      (with_rows counted (draft_after counted before) (rows_in (placed_behind before rest))
      >>= end_of_lines counted (length lines))
      ≡ unless (filter_map (fault_at exact lines) (placed_behind before rest)
      ++ end_faults (length lines + 1) (open_after kinds lines)) (object_by exact lines)

  -- one line
  line-passes : (before rest : List Line) (line : Line) → AreWithin before →
      length (before ++ line ∷ []) ≤ 2 ^ 32 - 1 →
      with_row counted (draft_after counted before) (rows_in (placed_behind (before ++ line ∷ []) rest))
      (row_at (at_line before line)) line.statement
      ≡ or_fault (fault_at exact (before ++ line ∷ rest) (at_line before line))
      (grown counted (spot_after before) (draft_after counted before) line.statement)
  line-passes before rest line are few =
      let others = rows_in (placed_behind (before ++ line ∷ []) rest) in
      let draft = draft_after counted before in
      ap (λ (row : Row). with_row counted draft others row line.statement) (row-same before line are few)
      ∙ row-step counted draft others (plain_row (at_line before line)) line.statement
      ∙ ap (λ (o : Option AsmFault). or_fault o (grown counted (spot_after before) draft line.statement))
      (fault-same counted before rest line
      ∙ fault-cap names kinds records (before ++ line ∷ rest) (at_line before line) are.text)

  passes-end : (before : List Line) → AreWithin before → (AreWithin (before ++ []) → map cap names ≡ names) →
      Passes (before ++ []) before []
  passes-end before are known =
      let lines = before ++ [] in
      let all : AreWithin lines = subst AreWithin (sym (append-nil before)) are in
      ap (λ (l : List Line). end_of_lines counted (length lines) (draft_after counted l)) (sym (append-nil before))
      ∙ ap (λ (table : List Entry). end_of_lines (named kinds records table) (length lines)
      (draft_after (named kinds records table) lines)) (known all)
      ∙ end_on exact (length lines + 1) (draft_after exact lines) (object_by exact lines) (open_after kinds lines)
      (object-same names kinds records lines)

  -- the lines from one on, by those behind it
  module _ (before rest : List Line) (line : Line) where
    abbrev lines : List Line
    lines = before ++ line ∷ rest

    abbrev next : List Line
    next = before ++ line ∷ []

    abbrev go : Draft → Result Object AsmFault
    go draft =
        with_rows counted draft (rows_in (placed_behind next rest)) >>= end_of_lines counted (length lines)

    abbrev faults : List AsmFault
    faults =
        filter_map (fault_at exact lines) (placed_behind next rest)
        ++ end_faults (length lines + 1) (open_after kinds lines)

    appended : unless (cons_option (fault_at exact lines (at_line before line)) faults) (object_by exact lines)
        ≡ unless (filter_map (fault_at exact lines) (placed_behind before (line ∷ rest))
        ++ end_faults (length lines + 1) (open_after kinds lines)) (object_by exact lines)
    appended =
        ap (λ (fs : List AsmFault). unless fs (object_by exact lines))
        (cons_option-append (fault_at exact lines (at_line before line))
        (filter_map (fault_at exact lines) (placed_behind next rest))
        (end_faults (length lines + 1) (open_after kinds lines)))

    passes-said : is_idle line ≡ false → AreWithin before → length next ≤ 2 ^ 32 - 1 →
        (fault_at exact lines (at_line before line) ≡ None → Passes lines next rest) →
        Passes lines before (line ∷ rest)
    passes-said said are short onward =
        let others = rows_in (placed_behind next rest) in
        let draft = draft_after counted before in
        ap (λ (rows : List Row). with_rows counted draft rows >>= end_of_lines counted (length lines))
        (rows-said before rest line said)
        ∙ bind_bind (with_row counted draft others (row_at (at_line before line)) line.statement)
        (λ (d : Draft). with_rows counted d others) (end_of_lines counted (length lines))
        ∙ ap (λ (r : Result Draft AsmFault). r >>= go) (line-passes before rest line are short)
        ∙ more_on (fault_at exact lines (at_line before line)) (grown counted (spot_after before) draft line.statement)
        (draft_after counted next) (object_by exact lines) faults go (sym (draft-push counted before line)) onward
        ∙ appended

    passes-idle : is_idle line ≡ true → fault_at exact lines (at_line before line) ≡ None → Passes lines next rest →
        Passes lines before (line ∷ rest)
    passes-idle idle none onward =
        ap (λ (rows : List Row). with_rows counted (draft_after counted before) rows
        >>= end_of_lines counted (length lines)) (rows-idle before rest line idle)
        ∙ ap go (sym (draft-idle counted before line idle))
        ∙ onward
        ∙ ap (λ (o : Option AsmFault). unless (cons_option o faults) (object_by exact lines)) (sym none)
        ∙ appended

  passes-from : (before rest : List Line) → AreWithin before → HasFewNames before →
      length (before ++ rest) ≤ 2 ^ 32 - 1 → (AreWithin (before ++ rest) → map cap names ≡ names) →
      Passes (before ++ rest) before rest
  passes-from before [] are fits few known = passes-end before are known
  passes-from before (line ∷ rest) are fits few known =
      let all = before ++ line ∷ rest in
      let after_it = before ++ line ∷ [] in
      let again = append_assoc before (line ∷ []) rest in
      let still = subst (λ (l : List Line). length l ≤ 2 ^ 32 - 1) (sym again) few in
      let onward = λ (none : fault_at exact all (at_line before line) ≡ None).
      subst (λ (l : List Line). Passes l after_it rest) again (passes-from after_it rest
      (within-push exact all before line are none) (few-push exact all before line none) still
      (λ within. known (subst AreWithin again within))) in
      ⊎_elim
      (λ (idle : is_idle line ≡ true).
      let none = fault-idle exact all before line idle fits in
      passes-idle before rest line idle none (onward none))
      (λ (said : is_idle line ≡ false). passes-said before rest line said are (few-lines after_it rest still) onward)
      (cases_Bool (is_idle line))

lines-passed : (lines : List Line) → length lines ≤ 2 ^ 32 - 1 →
    passed_by (survey_after lines) ≡ object_or_fault (file_in lines) lines
lines-passed lines few =
    let file = λ (table : List Entry). named (kinds_in lines) (records_in lines) table in
    let rows = rows_in (placed lines) in
    ap (λ (table : List Entry). with_rows (file table) empty rows >>= end_of_lines (file table) (length lines))
    (ap in_order (names-counted lines few) ∙ order-cap (names_in lines))
    ∙ passes-from (in_order (names_in lines)) (kinds_in lines) (records_in lines) [] lines
    (record { text = omega arith; bytes = omega arith }) refl few (λ are. names-within lines are few)

pub passed_in-text : (text : List ℕ) → length (lines_in text) ≤ 2 ^ 32 - 1 → passed_in text ≡ object_in text
passed_in-text text few = ap passed_by (surveyed-from [] (lines_of text)) ∙ lines-passed (lines_in text) few
