-- The functions of lines without a fault are as records want them.
use Rattle.std.proofs.Common.{◌≡◌, ◌≢◌, ℕ, ◌+◌, ◌-◌, ◌%◌, ◌<◌, ◌≤◌, ◌^◌, ◌==◌, not, nat_le, Bool, false, ℤ, List, [], ◌∷◌, ◌++◌, length, Option, Some, None, option_map, unwrap_or, IsTrue, All, refl, sym, ap, ◌∙◌, subst, arith}
use Rattle.std.specs.List.{filter_map, AllByRecursion}
use Rattle.std.proofs.lemmas.Bool.{and_from, eq-eqb, ne_eqb, le-leb, false≢true}
use Rattle.std.proofs.lemmas.List.Elements.{All-nil, All-cons, All-append}
use Rattle.std.proofs.lemmas.Str.{IsUtf8-from_ascii, is_utf8-from_IsUtf8}
use Rattle.cfi_word.specs.declared.limits.TheConstants.{MAX_NAME}
use Rattle.cfi_type_table.specs.Kind.{is_callable as names_callable}
use Rattle.cfi_aux.specs.Format.{is_length}
use Rattle.cfi_aux.specs.Records.{IsName, IsFunction}
use Rattle.cfi_aux.specs.declared.records.Function.{Function}
use Rattle.elf_read.specs.declared.object.Area.TheVariants as areas
use Rattle.rv_line.specs.declared.line.Line.{Line}
use Rattle.rv_line.specs.declared.statement.Statement.{Statement}
use Rattle.rv_line.specs.declared.statement.Statement.TheVariants as statements
use Rattle.rv_asm.specs.declared.file.File.{File}
use Rattle.rv_asm.specs.Fault.{Found, Totals, is_bare, line_fault, fault_at, found_at, totals_at}
use Rattle.rv_asm.specs.Made.{begun, opened, open_after, ended, functions_in, functions_at, functions_of, nodes_of}
use Rattle.rv_asm.specs.Node.{callable_in}
use Rattle.rv_asm.specs.Placed.{Placed, placed_behind, end_after}
use Rattle.rv_asm.specs.Symbols.{kinds_in}
use Rattle.rv_asm.proofs.DraftedLemmas.{open-push}
use Rattle.rv_asm.proofs.PlacedLemmas.{at_line, made-push, end-push}
use Rattle.cfi_made_law.proofs.AsmOperandLemmas.{IsShort, IsFormed}
use Rattle.cfi_made_law.proofs.AsmFormLemmas.{SaidFormed, IsFormedLine}
use Rattle.cfi_made_law.proofs.AsmLimitLemmas.{IsClear, clear-said, room}
use Rattle.cfi_made_law.proofs.AsmExactLemmas.{by-parts, before-le}
use Rattle.cfi_made_law.proofs.AsmSymbolLemmas.{end-aligned}
use Rattle.cfi_file_law.proofs.AsmTypeLemmas.{formed-at, callable-good}
use Rattle.cfi_made_law.proofs.AsmWholeLemmas.{plain-ascii}

-- a name of a source is one of records
pub name-good : (name : List ℕ) → IsShort name → IsName name
name-good name short = record {
  count = and_from (nat_le 1 (length name)) (nat_le (length name) MAX_NAME)
      (le-leb 1 (length name) (omega (arith, short.some))) (le-leb (length name) MAX_NAME short.size);
  text = is_utf8-from_IsUtf8 name (IsUtf8-from_ascii name (plain-ascii name short.bytes));
}

length-good : (n : ℕ) → n % 4 ≡ 0 → n ≢ 0 → IsTrue (is_length n)
length-good n whole some =
    and_from (n % 4 == 0) (not (n == 0)) (eq-eqb (n % 4) 0 whole) (ap not (ne_eqb n 0 some))

module _ (file : File) (lines : List Line) (formed : AllByRecursion IsFormedLine lines)
    (clear : filter_map (fault_at file lines) (placed_behind [] lines) ≡ []) (own : file.kinds ≡ kinds_in lines) where
  -- the function that is open, of no length yet
  record IsOpen (end : ℕ) (f : Function) : Type 0 where
    whole : f.offset % 4 ≡ 0
    below : f.offset ≤ end
    ty : (f.ty < 2 ^ 32) × IsTrue (names_callable (nodes_of lines) f.ty)
    name : IsShort f.name

  abbrev OpenIs : (end : ℕ) → Option Function → Type 0
  OpenIs end None = Unit {0}
  OpenIs end (Some f) = IsOpen end f

  abbrev IsGood : Function → Type 0
  IsGood f = IsFunction (nodes_of lines) f

  record AreGood (before : List Line) : Type 0 where
    all : All IsGood (functions_of file.kinds before)
    held : OpenIs (end_after areas.Text before) (open_after file.kinds before)

  later : (end next : ℕ) (o : Option Function) → end ≤ next → OpenIs end o → OpenIs next o
  later end next None up is = tt
  later end next (Some f) up is =
      record { whole = is.whole; below = omega (arith, is.below, up); ty = is.ty; name = is.name }

  -- what a statement adds, and leaves open
  record Adds (end next : ℕ) (held : Option Function) (s : Statement) : Type 0 where
    made : All IsGood (functions_in end held (Some s))
    left : OpenIs next (unwrap_or (opened file.kinds end (Some s)) held)

  begun-open : (end next : ℕ) (name : List ℕ) (taken : Bool) (node : ℤ) (o : Option ℕ) → callable_in file.kinds node ≡ o
      → end % 4 ≡ 0 → end ≤ next → IsShort name → OpenIs next (option_map (begun end name taken) o)
  begun-open end next name taken node None is whole up short = tt
  begun-open end next name taken node (Some ty) is whole up short =
      record { whole = whole; below = up; ty = callable-good file lines formed clear own node ty is; name = short }

  ended-good : (end : ℕ) (f : Function) → IsOpen end f → end % 4 ≡ 0 → end < 2 ^ 32 → f.offset ≢ end
      → IsGood (ended end f)
  ended-good end f now whole small other = record {
    offset = (omega (arith, now.below, small), eq-eqb (f.offset % 4) 0 now.whole);
    length = (
      omega (arith, small),
      length-good (end - f.offset) (omega (arith, now.whole, now.below, whole))
          (λ none. other (omega (arith, none, now.below))),
    );
    ty = now.ty;
    name = name-good f.name now.name;
  }

  ended-all : (end next : ℕ) (held : Option Function) → OpenIs end held → end % 4 ≡ 0 → end < 2 ^ 32
      → is_bare end held ≡ false → Adds end next held statements.EndFunc
  ended-all end next None now whole small bare = absurd (cc)
  ended-all end next (Some f) now whole small bare = record {
    made = All-cons IsGood (ended end f) []
        (ended-good end f now whole small (λ same. false≢true (sym bare ∙ eq-eqb f.offset end same)))
        (All-nil IsGood);
    left = tt;
  }

  said-adds : (end next : ℕ) (held : Option Function) (found : Found) (totals : Totals) (s : Statement) → IsFormed s
      → IsClear file found totals s → found.spot.text_end ≡ end → found.function ≡ held → OpenIs end held
      → end % 4 ≡ 0 → end < 2 ^ 32 → end ≤ next → Adds end next held s
  said-adds end next held found totals (statements.Func name node taken) short clear at is now whole small up = record {
    made = All-nil IsGood;
    left = begun-open end next name taken node (callable_in file.kinds node) refl whole up short;
  }
  said-adds end next held found totals statements.EndFunc short clear at is now whole small up =
      ended-all end next held now whole small
      (ap (λ (n : ℕ). is_bare n held) (sym at) ∙ ap (is_bare found.spot.text_end) (sym is) ∙ clear.placed)
  said-adds end next held found totals s short clear at is now whole small up =
      record { made = All-nil IsGood; left = later end next held up now }

  step : (before behind : List Line) (line : Line) → (before ++ line ∷ []) ++ behind ≡ lines → IsFormedLine line
      → fault_at file lines (at_line before line) ≡ None → AreGood before → AreGood (before ++ line ∷ [])
  step before behind line whole is none so_far = from line.statement is.1 none refl
    where
      at : Placed
      at = at_line before line

      end : ℕ
      end = end_after areas.Text before

      next : ℕ
      next = end_after areas.Text (before ++ line ∷ [])

      small : end < 2 ^ 32
      small =
          let space = room file lines clear in
          omega (
            arith,
            end-push areas.Text before line,
            before-le areas.Text (before ++ line ∷ []) behind lines whole,
            space.within.text,
          )

      held : Option Function
      held = open_after file.kinds before

      from : (o : Option Statement) → SaidFormed o
          → line_fault file (found_at file lines at) (totals_at file at) (length before + 1) line.label o ≡ None
          → line.statement ≡ o → AreGood (before ++ line ∷ [])
      from None formed none is = absurd (cc)
      from (Some s) formed none is =
          let clear =
          clear-said file (found_at file lines at) (totals_at file at) (length before + 1) line.label s none in
          let adds = said-adds end next held (found_at file lines at) (totals_at file at) s formed clear refl refl
          so_far.held (end-aligned areas.Text before) small (omega (arith, end-push areas.Text before line)) in
          let made : functions_of file.kinds (before ++ line ∷ [])
          ≡ functions_of file.kinds before ++ functions_in end held (Some s) =
          made-push (functions_at file.kinds) before line
          ∙ ap (λ (x : Option Statement). functions_of file.kinds before ++ functions_in end held x) is in
          let now : open_after file.kinds (before ++ line ∷ []) ≡ unwrap_or (opened file.kinds end (Some s)) held =
          open-push file.kinds before line
          ∙ ap (λ (x : Option Statement). unwrap_or (opened file.kinds end x) held) is in
          record {
            all = subst (All IsGood) (sym made)
                (All-append IsGood (functions_of file.kinds before) (functions_in end held (Some s)) so_far.all
                adds.made);
            held = subst (OpenIs next) (sym now) adds.left;
          }

  pub functions-good : All IsGood (functions_of file.kinds lines)
  functions-good =
      (by-parts AreGood file lines
      (λ before line behind all none so_far. step before behind line all
      (formed-at before behind line (subst (AllByRecursion IsFormedLine) (sym all) formed)) none so_far)
      clear (record { all = All-nil IsGood; held = tt })).all
