-- A line within the limits has the same fault whether or not the places of names are counted past 2^32 - 1.
use Rattle.std.proofs.Common.{◌≡◌, ℕ, ◌+◌, ◌*◌, ◌≤◌, Bool, nat_lt, List, [], ◌∷◌, ◌++◌, length, map, if◌then◌else◌, Option, Some, None, is_none, unwrap_or, option_map, refl, ap, ◌∙◌, length-append, arith}
use Rattle.std.specs.List.{cons_option, filter_map, flat_map, last_or}
use Rattle.cfi_word.specs.declared.limits.TheConstants.{MAX_SYMBOLS, MAX_WORDS}
use Rattle.elf_read.specs.declared.object.Area.{Area}
use Rattle.elf_read.specs.declared.object.Area.TheVariants as areas
use Rattle.cfi_aux.specs.declared.records.Kind.{Kind}
use Rattle.rv_line.specs.declared.line.Line.{Line}
use Rattle.rv_line.specs.declared.statement.NodeKind.{NodeKind}
use Rattle.rv_line.specs.declared.statement.Statement.{Statement}
use Rattle.rv_line.specs.declared.statement.Statement.TheVariants as statements
use Rattle.rv_names.specs.declared.names.Entry.{Entry}
use Rattle.rv_asm.specs.declared.fault.AsmFault.TheVariants.{Syntax, UnknownName, Twice, Range}
use Rattle.rv_asm.specs.declared.file.File.{File}
use Rattle.rv_asm.specs.declared.spot.Spot.{Spot}
use Rattle.rv_asm.specs.Fault.{is_unknown, is_twice, Found, Totals, is_misplaced, statement_fits, said_fault, line_fault, fault_at, found_at, totals_at}
use Rattle.rv_asm.specs.Made.{relocs_in, relocs_at, relocs_by, kind_set, kind_after, branches_in, branches_at}
use Rattle.rv_asm.specs.Placed.{Placed, placed, area_after, end_after, spot_after}
use Rattle.rv_asm.proofs.CappedLemmas.{cap}
use Rattle.rv_asm.proofs.CappedFitLemmas.{relocs-cap, unknown-cap, twice-cap, fits-cap}

pub flat_map-same : {A B : Type 0} (f g : A → List B) → ((x : A) → f x ≡ g x) → (xs : List A) → flat_map f xs
    ≡ flat_map g xs
flat_map-same f g same [] = refl
flat_map-same f g same (x ∷ xs) =
    ap (λ l. l ++ flat_map f xs) (same x) ∙ ap (λ l. g x ++ l) (flat_map-same f g same xs)

module _ (names : List Entry) (kinds : List NodeKind) (records : Bool) where
  abbrev exact : File
  exact = record { names = names; kinds = kinds; records = records }

  abbrev counted : File
  counted = record { names = map cap names; kinds = kinds; records = records }

  -- the kind that is set
  set-cap : (o : Option Statement) → option_map is_none (kind_set counted o) ≡ option_map is_none (kind_set exact o)
  set-cap None = refl
  set-cap (Some (statements.KindSwitch places)) = refl
  set-cap (Some s) = refl

  last_on : (v w o q : Option (Option Kind)) (vs ws : List (Option Kind)) → option_map is_none v
      ≡ option_map is_none w →
      option_map is_none o ≡ option_map is_none q →
      ((a b : Option (Option Kind)) → option_map is_none a ≡ option_map is_none b →
      option_map is_none (last_or a vs) ≡ option_map is_none (last_or b ws)) →
      option_map is_none (last_or o (cons_option v vs)) ≡ option_map is_none (last_or q (cons_option w ws))
  last_on None None o q vs ws same from more = more o q from
  last_on None (Some y) o q vs ws same from more = absurd (cc)
  last_on (Some x) None o q vs ws same from more = absurd (cc)
  last_on (Some x) (Some y) o q vs ws same from more = more (Some x) (Some y) same

  last-cap : (lines : List Line) (o q : Option (Option Kind)) → option_map is_none o ≡ option_map is_none q →
      option_map is_none (last_or o (filter_map (λ (l : Line). kind_set counted l.statement) lines))
      ≡ option_map is_none (last_or q (filter_map (λ (l : Line). kind_set exact l.statement) lines))
  last-cap [] o q from = from
  last-cap (line ∷ lines) o q from =
      last_on (kind_set counted line.statement) (kind_set exact line.statement) o q
      (filter_map (λ (l : Line). kind_set counted l.statement) lines)
      (filter_map (λ (l : Line). kind_set exact l.statement) lines) (set-cap line.statement) from (last-cap lines)

  none_on : (a b : Option (Option Kind)) → option_map is_none a ≡ option_map is_none b →
      is_none (unwrap_or a None) ≡ is_none (unwrap_or b None)
  none_on None None same = refl
  none_on None (Some y) same = absurd (cc)
  none_on (Some x) None same = absurd (cc)
  none_on (Some x) (Some y) same = cc

  kind-cap : (before : List Line) → is_none (kind_after counted before) ≡ is_none (kind_after exact before)
  kind-cap before =
      none_on (last_or None (filter_map (λ (l : Line). kind_set counted l.statement) before))
      (last_or None (filter_map (λ (l : Line). kind_set exact l.statement) before)) (last-cap before None None refl)

  -- totals
  branch_on : (j k : Option Kind) (o : Option Statement) → length (branches_in j o) ≡ length (branches_in k o)
  branch_on j k None = refl
  branch_on j k (Some (statements.Jalr rd rs1 imm)) = refl
  branch_on j k (Some statements.Ret) = refl
  branch_on j k (Some s) = refl

  branches-cap : (ps : List Placed) → length (flat_map (branches_at counted) ps)
      ≡ length (flat_map (branches_at exact) ps)
  branches-cap [] = refl
  branches-cap (at ∷ ps) =
      let one = branch_on (kind_after counted at.before) (kind_after exact at.before) at.line.statement in
      let more = branches-cap ps in
      let left = length-append (branches_at counted at) (flat_map (branches_at counted) ps) in
      let right = length-append (branches_at exact at) (flat_map (branches_at exact) ps) in
      omega arith

  relocs_on : (area own : Area) (spot : Spot) (o : Option Statement) →
      relocs_in area own counted spot o ≡ relocs_in area own exact spot o
  relocs_on areas.Text areas.Text spot (Some s) = relocs-cap names kinds records spot s
  relocs_on areas.Data areas.Data spot (Some s) = relocs-cap names kinds records spot s
  relocs_on areas.Text areas.Text spot None = refl
  relocs_on areas.Data areas.Data spot None = refl
  relocs_on areas.Text areas.Data spot o = refl
  relocs_on areas.Data areas.Text spot o = refl

  relocs_by-cap : (area : Area) (before : List Line) → relocs_by counted area before ≡ relocs_by exact area before
  relocs_by-cap area before =
      flat_map-same (relocs_at area counted) (relocs_at area exact)
      (λ at. relocs_on area (area_after at.before) (spot_after at.before) at.line.statement) (placed before)

  totals-cap : (at : Placed) → totals_at counted at ≡ totals_at exact at
  totals-cap at =
      rw (relocs_by-cap areas.Text at.before, relocs_by-cap areas.Data at.before, branches-cap (placed at.before))
      refl

  -- the place of a statement
  misplaced-cap : (found : Found) (kind : Option Kind) (s : Statement) → is_none kind ≡ is_none found.kind →
      is_misplaced counted (record found { kind = kind }) s ≡ is_misplaced exact found s
  misplaced-cap found kind (statements.Jalr rd rs1 imm) same = rw same refl
  misplaced-cap found kind s same = refl

  said-cap : (found : Found) (kind : Option Kind) (totals : Totals) (number : ℕ) (label : Option (List ℕ))
      (s : Statement) →
      is_none kind ≡ is_none found.kind → found.spot.text_end ≤ 4 * MAX_WORDS →
      said_fault counted (record found { kind = kind }) totals number label s
      ≡ said_fault exact found totals number label s
  said-cap found kind totals number label s same near =
      let fault = λ (m u t v : Bool). if m then Some (Syntax number) else (if u then Some (UnknownName number)
      else (if t then Some (Twice number) else (if nat_lt MAX_SYMBOLS totals.names then Some (Range number)
      else (if v then None else Some (Range number))))) in
      let m = is_misplaced counted (record found { kind = kind }) s in
      ap (λ (x : Bool). fault x (is_unknown (map cap names) s) (is_twice (map cap names) number label s)
      (statement_fits counted found.spot totals s)) (misplaced-cap found kind s same)
      ∙ ap (λ (x : Bool). fault (is_misplaced exact found s) x (is_twice (map cap names) number label s)
      (statement_fits counted found.spot totals s)) (unknown-cap names kinds records s)
      ∙ ap (λ (x : Bool). fault (is_misplaced exact found s) (is_unknown names s) x
      (statement_fits counted found.spot totals s)) (twice-cap names kinds records number label s)
      ∙ ap (fault (is_misplaced exact found s) (is_unknown names s) (is_twice names number label s))
      (fits-cap names kinds records found.spot totals s near)

  line-cap : (found : Found) (kind : Option Kind) (totals : Totals) (number : ℕ) (label : Option (List ℕ))
      (o : Option Statement) → is_none kind ≡ is_none found.kind → found.spot.text_end ≤ 4 * MAX_WORDS →
      line_fault counted (record found { kind = kind }) totals number label o
      ≡ line_fault exact found totals number label o
  line-cap found kind totals number label None same near = refl
  line-cap found kind totals number label (Some s) same near = said-cap found kind totals number label s same near

  pub fault-cap : (lines : List Line) (at : Placed) → end_after areas.Text at.before ≤ 4 * MAX_WORDS →
      fault_at counted lines at ≡ fault_at exact lines at
  fault-cap lines at near =
      ap (λ (t : Totals). line_fault counted (found_at counted lines at) t (length at.before + 1) at.line.label
      at.line.statement) (totals-cap at)
      ∙ line-cap (found_at exact lines at) (kind_after counted at.before) (totals_at exact at) (length at.before + 1)
      at.line.label at.line.statement (kind-cap at.before) near
