-- The branches of lines without a fault are as records want them, but that a switch may have more entries.
use Rattle.std.proofs.Common.{◌≡◌, ℕ, ◌+◌, ◌%◌, ◌<◌, ◌≤◌, ◌^◌, nat_le, ℤ, false, List, [], ◌∷◌, ◌++◌, length, Option, Some, None, option_map, unwrap_or, IsTrue, All, refl, sym, ap, ◌∙◌, subst, arith, inl, inr}
use Rattle.std.specs.Prelude.{option_and_then}
use Rattle.std.specs.List.{filter_map, list_any, AllByRecursion}
use Rattle.std.proofs.lemmas.Bool.{cases_Bool, and_from, eq-eqb, le-leb, ltb-true}
use Rattle.std.proofs.lemmas.List.{length-map}
use Rattle.std.proofs.lemmas.List.Elements.{All-nil, All-cons, All-head, All-tail, All-append}
use Rattle.cfi_word.specs.declared.limits.TheConstants.{MAX_ENTRIES}
use Rattle.cfi_type_table.specs.Node.{Node}
use Rattle.cfi_aux.specs.Format.{is_whole}
use Rattle.cfi_aux.specs.Records.{kind_words, IsBranchWord, IsBranch}
use Rattle.cfi_aux.specs.Cells.{has_cell, have_cells}
use Rattle.cfi_aux.specs.Version.{is_import}
use Rattle.cfi_aux.specs.declared.version.RecordVersion.TheVariants.{Two}
use Rattle.cfi_aux.proofs.Branches.{IsBranchOf}
use Rattle.cfi_aux.specs.declared.records.Kind.{Kind}
use Rattle.cfi_aux.specs.declared.records.Kind.TheVariants as branches
use Rattle.elf_read.specs.declared.object.Area.{Area}
use Rattle.elf_read.specs.declared.object.Area.TheVariants as areas
use Rattle.rv_line.specs.declared.line.Line.{Line}
use Rattle.rv_line.specs.declared.statement.Statement.{Statement}
use Rattle.rv_line.specs.declared.statement.Statement.TheVariants as statements
use Rattle.rv_names.specs.declared.names.Definition.{Definition}
use Rattle.rv_names.specs.declared.names.Entry.{Entry}
use Rattle.rv_names.specs.Names.{is_named, definition_in, value_by, value_in_text}
use Rattle.rv_asm.specs.declared.file.File.{File}
use Rattle.rv_asm.specs.Fault.{Found, Totals, line_fault, fault_at, found_at, totals_at}
use Rattle.rv_asm.specs.Made.{value_in, values_in, kind_set, kind_after, branches_in, branches_at, branches_of, nodes_of}
use Rattle.rv_asm.specs.Node.{callable_in}
use Rattle.rv_asm.specs.Placed.{Placed, placed_behind, end_after}
use Rattle.rv_asm.specs.Symbols.{kinds_in}
use Rattle.rv_asm.proofs.PlacedLemmas.{at_line, made-push, last-said}
use Rattle.cfi_made_law.proofs.AsmOperandLemmas.{IsFormed}
use Rattle.cfi_made_law.proofs.AsmFormLemmas.{SaidFormed, IsFormedLine}
use Rattle.cfi_made_law.proofs.AsmLimitLemmas.{IsClear, clear-said}
use Rattle.cfi_made_law.proofs.AsmExactLemmas.{by-parts}
use Rattle.cfi_made_law.proofs.AsmSymbolLemmas.{IsAligned, IsInside, HasInside}
use Rattle.cfi_file_law.proofs.AsmTypeLemmas.{formed-at, callable-good}

-- ---- a branch

-- a switch has an entry, and so many that a word has their number; no branch of a source is an import
abbrev HasEntries : Kind → Type 0
HasEntries (branches.Switch places) = (0 < length places) × (length places < 2 ^ 32)
HasEntries (branches.Call node) = Unit {0}
HasEntries (branches.Tail node) = Unit {0}
HasEntries branches.Return = Unit {0}
HasEntries (branches.Import name cell) = ⊥

-- a branch as records want it, but that a switch may have more entries
pub record IsAlmost (types : List Node) (b : Kind) : Type 0 where
  pub entries : HasEntries b
  pub words : AllByRecursion (IsBranchWord types b) (kind_words b)

-- and with as many as it may have
pub branch-whole : (types : List Node) (b : Kind) → IsAlmost types b → length (kind_words b) ≤ MAX_ENTRIES
    → IsBranch types b
branch-whole types (branches.Call node) is few = record {
  kind = omega arith;
  count = refl;
  words = is.words;
  named = tt;
}
branch-whole types (branches.Tail node) is few = record {
  kind = omega arith;
  count = refl;
  words = is.words;
  named = tt;
}
branch-whole types branches.Return is few = record { kind = omega arith; count = refl; words = is.words; named = tt }
branch-whole types (branches.Switch places) is few = record {
  kind = omega arith;
  count = and_from (nat_le 1 (length places)) (nat_le (length places) MAX_ENTRIES)
      (le-leb 1 (length places) (omega (arith, is.entries.0))) (le-leb (length places) MAX_ENTRIES few);
  words = is.words;
  named = tt;
}
branch-whole types (branches.Import name cell) is few = absurd is.entries

-- also in the second version, whatever the data
pub branch-two : (types : List Node) (size : ℕ) (b : Kind) → IsAlmost types b → length (kind_words b) ≤ MAX_ENTRIES
    → IsBranchOf Two types (Some size) b
branch-two types size (branches.Call node) is few = record {
  is = record { kind = omega arith; count = refl; words = is.words; named = tt };
  cell = refl;
}
branch-two types size (branches.Tail node) is few = record {
  is = record { kind = omega arith; count = refl; words = is.words; named = tt };
  cell = refl;
}
branch-two types size branches.Return is few = record {
  is = record { kind = omega arith; count = refl; words = is.words; named = tt };
  cell = refl;
}
branch-two types size (branches.Switch places) is few = record {
  is = record {
    kind = omega arith;
    count = (branch-whole types (branches.Switch places) is few).count;
    words = is.words;
    named = tt;
  };
  cell = refl;
}
branch-two types size (branches.Import name cell) is few = absurd is.entries

-- none is an import, so each cell is within data, whatever its length
no-import : (types : List Node) (b : Kind) → IsAlmost types b → is_import b ≡ false
no-import types (branches.Call node) is = refl
no-import types (branches.Tail node) is = refl
no-import types branches.Return is = refl
no-import types (branches.Switch places) is = refl
no-import types (branches.Import name cell) is = absurd is.entries

pub no-imports : (types : List Node) (bs : List Kind) → All (IsAlmost types) bs → list_any is_import bs ≡ false
no-imports types [] all = refl
no-imports types (b ∷ bs) all =
    rw (no-import types b (All-head (IsAlmost types) b bs all)) (no-imports types bs (All-tail (IsAlmost types) b bs all))

any-cell : (size : ℕ) (b : Kind) → is_import b ≡ false → IsTrue (has_cell size b)
any-cell size (branches.Call node) plain = refl
any-cell size (branches.Tail node) plain = refl
any-cell size branches.Return plain = refl
any-cell size (branches.Switch places) plain = refl
any-cell size (branches.Import name cell) plain = absurd cc

pub almost-cells : (types : List Node) (size : ℕ) (bs : List Kind) → All (IsAlmost types) bs
    → IsTrue (have_cells size bs)
almost-cells types size [] all = refl
almost-cells types size (b ∷ bs) all =
    and_from (has_cell size b) (have_cells size bs)
    (any-cell size b (no-import types b (All-head (IsAlmost types) b bs all)))
    (almost-cells types size bs (All-tail (IsAlmost types) b bs all))

-- ---- the places of a switch

module _ (lines : List Line) (small : end_after areas.Text lines < 2 ^ 32) where
  abbrev IsPlace : ℕ → Type 0
  IsPlace n = (n < 2 ^ 32) × IsTrue (is_whole n)

  place-by : (area : Area) (value : ℕ) → value ≤ end_after area lines → IsAligned area value
      → IsPlace (unwrap_or (value_by area value) 0)
  place-by areas.Text value inside aligned = (omega (arith, inside, small), eq-eqb (value % 4) 0 aligned)
  place-by areas.Data value inside aligned = (omega arith, refl)

  place-of : (o : Option Definition) → IsInside lines o → IsPlace (unwrap_or (option_and_then value_in_text o) 0)
  place-of None inside = (omega arith, refl)
  place-of (Some d) inside = place-by d.area d.value inside.0 inside.1

  defined-inside : (table : List Entry) (name : List ℕ) → All (HasInside lines) table
      → IsInside lines (definition_in table name)
  defined-inside [] name all = tt
  defined-inside (entry ∷ table) name all = elim (cases_Bool (is_named name entry)) [
    | inl here ↦ rw here (All-head (HasInside lines) entry table all)
    | inr other ↦ rw other (defined-inside table name (All-tail (HasInside lines) entry table all))
  ]

  pub places-good : (table : List Entry) (names : List (List ℕ)) → All (HasInside lines) table
      → AllByRecursion IsPlace (values_in table names)
  places-good table [] all = tt
  places-good table (name ∷ names) all =
      (place-of (definition_in table name) (defined-inside table name all), places-good table names all)

-- ---- the branches of lines

module _ (file : File) (lines : List Line) (formed : AllByRecursion IsFormedLine lines)
    (clear : filter_map (fault_at file lines) (placed_behind [] lines) ≡ []) (own : file.kinds ≡ kinds_in lines)
    (small : end_after areas.Text lines < 2 ^ 32) (inside : All (HasInside lines) file.names) where
  abbrev IsGood : Kind → Type 0
  IsGood kind = IsAlmost (nodes_of lines) kind

  abbrev KindIs : Option Kind → Type 0
  KindIs None = Unit {0}
  KindIs (Some kind) = IsGood kind

  record AreGood (before : List Line) : Type 0 where
    all : All IsGood (branches_of file before)
    held : KindIs (kind_after file before)

  -- what a statement adds, and leaves set
  record Adds (held : Option Kind) (s : Statement) : Type 0 where
    made : All IsGood (branches_in held (Some s))
    left : KindIs (unwrap_or (kind_set file (Some s)) held)

  call-good : (node : ℤ) (o : Option ℕ) → callable_in file.kinds node ≡ o → KindIs (option_map branches.Call o)
  call-good node None is = tt
  call-good node (Some n) is =
      record { entries = tt; words = (callable-good file lines formed clear own node n is, tt) }

  tail-good : (node : ℤ) (o : Option ℕ) → callable_in file.kinds node ≡ o → KindIs (option_map branches.Tail o)
  tail-good node None is = tt
  tail-good node (Some n) is =
      record { entries = tt; words = (callable-good file lines formed clear own node n is, tt) }

  return-good : IsGood branches.Return
  return-good = record { entries = tt; words = tt }

  jump-good : (held : Option Kind) → KindIs held → All IsGood (unwrap_or held branches.Return ∷ [])
  jump-good None is = All-cons IsGood branches.Return [] return-good (All-nil IsGood)
  jump-good (Some kind) is = All-cons IsGood kind [] is (All-nil IsGood)

  said-adds : (held : Option Kind) (found : Found) (totals : Totals) (s : Statement) → IsFormed s
      → IsClear file found totals s → KindIs held → Adds held s
  said-adds held found totals (statements.Jalr rd rs1 imm) formed clear is =
      record { made = jump-good held is; left = tt }
  said-adds held found totals statements.Ret formed clear is =
      record { made = jump-good held is; left = tt }
  said-adds held found totals (statements.KindCall node) formed clear is =
      record { made = All-nil IsGood; left = call-good node (callable_in file.kinds node) refl }
  said-adds held found totals (statements.KindTail node) formed clear is =
      record { made = All-nil IsGood; left = tail-good node (callable_in file.kinds node) refl }
  said-adds held found totals statements.KindReturn formed clear is =
      record { made = All-nil IsGood; left = return-good }
  said-adds held found totals (statements.KindSwitch names) formed clear is = record {
    made = All-nil IsGood;
    left = record {
      entries = (
        omega (arith, length-map names (value_in file.names), formed.1),
        omega (arith, length-map names (value_in file.names), ltb-true (length names) (2 ^ 32) clear.fits),
      );
      words = places-good lines small file.names names inside;
    };
  }
  said-adds held found totals s formed clear is = record { made = All-nil IsGood; left = is }

  step : (before : List Line) (line : Line) → IsFormedLine line → fault_at file lines (at_line before line) ≡ None
      → AreGood before → AreGood (before ++ line ∷ [])
  step before line is none so_far = from line.statement is.1 none refl
    where
      at : Placed
      at = at_line before line

      held : Option Kind
      held = kind_after file before

      from : (o : Option Statement) → SaidFormed o
          → line_fault file (found_at file lines at) (totals_at file at) (length before + 1) line.label o ≡ None
          → line.statement ≡ o → AreGood (before ++ line ∷ [])
      from None formed none is = absurd (cc)
      from (Some s) formed none is =
          let clear =
          clear-said file (found_at file lines at) (totals_at file at) (length before + 1) line.label s none in
          let adds = said-adds held (found_at file lines at) (totals_at file at) s formed clear so_far.held in
          let made : branches_of file (before ++ line ∷ []) ≡ branches_of file before ++ branches_in held (Some s) =
          made-push (branches_at file) before line
          ∙ ap (λ (x : Option Statement). branches_of file before ++ branches_in held x) is in
          let next : kind_after file (before ++ line ∷ []) ≡ unwrap_or (kind_set file (Some s)) held =
          last-said (λ (l : Line). kind_set file l.statement) before line None
          ∙ ap (λ (x : Option Statement). unwrap_or (kind_set file x) held) is in
          record {
            all = subst (All IsGood) (sym made)
                (All-append IsGood (branches_of file before) (branches_in held (Some s)) so_far.all adds.made);
            held = subst KindIs (sym next) adds.left;
          }

  pub branches-good : All IsGood (branches_of file lines)
  branches-good =
      (by-parts AreGood file lines
      (λ before line behind all none so_far. step before line
      (formed-at before behind line (subst (AllByRecursion IsFormedLine) (sym all) formed)) none so_far)
      clear (record { all = All-nil IsGood; held = tt })).all
