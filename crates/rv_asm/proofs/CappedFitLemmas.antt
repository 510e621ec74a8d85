-- What is asked of names, words and limits for the faults of a line is the same whether or not the places of names are
-- counted past 2^32 - 1.
use Rattle.std.proofs.Common.{◌≡◌, ℕ, ◌+◌, ◌-◌, ◌*◌, ◌^◌, ◌<◌, ◌≤◌, Bool, false, not, ◌||◌, ◌&&◌, nat_lt, ℤ, pos, List, [], ◌∷◌, length, map, if◌then◌else◌, Option, Some, None, is_some, is_none, option_map, refl, sym, ap, ◌∙◌, ⊎_elim, arith}
use Rattle.std.specs.List.{list_all}
use Rattle.std.proofs.lemmas.Bool.{cases_lt}
use Rattle.std.proofs.lemmas.Int.{ints}
use Rattle.cfi_word.specs.declared.limits.TheConstants.{MAX_WORDS}
use Rattle.elf_read.specs.declared.object.Area.{Area}
use Rattle.elf_read.specs.declared.object.Area.TheVariants as areas
use Rattle.elf_read.specs.declared.object.Reloc.{Reloc}
use Rattle.rv_insn.specs.declared.insn.Insn.TheVariants as insns
use Rattle.rv_insn.specs.Insn.{word_of}
use Rattle.rv_line.specs.declared.statement.Datum.{Datum}
use Rattle.rv_line.specs.declared.statement.NodeKind.{NodeKind}
use Rattle.rv_line.specs.declared.statement.Statement.{Statement}
use Rattle.rv_line.specs.declared.statement.Statement.TheVariants as statements
use Rattle.rv_line.specs.declared.statement.Target.TheVariants as targets
use Rattle.cfi_values.specs.Some.{◌>>=◌}
use Rattle.rv_names.specs.declared.names.Definition.{Definition}
use Rattle.rv_names.specs.declared.names.Entry.{Entry}
use Rattle.rv_names.specs.Names.{definition_in, text_value}
use Rattle.rv_asm.specs.declared.file.File.{File}
use Rattle.rv_asm.specs.declared.spot.Spot.{Spot}
use Rattle.rv_asm.specs.declared.words.Words.TheVariants.{One}
use Rattle.rv_asm.specs.Fault.{in_text, lacks_partner, is_unknown, is_elsewhere, is_again, is_label, begins_again, is_twice, Totals, relocs_fit, words_fit, code_fits, jump_fits, data_fits, word_fits, statement_fits}
use Rattle.rv_asm.specs.Reference.{reference_of, is_leap, is_partner}
use Rattle.rv_asm.specs.Relocs.{reloc_by, first_reloc, second_reloc, both, relocs_of}
use Rattle.rv_asm.specs.Spot.{end_of, pair_label}
use Rattle.rv_asm.specs.Words.{offset_field, distance, leap, words_of}
use Rattle.rv_asm.specs.inner.Spot.{at_most}
use Rattle.rv_asm.proofs.CappedLemmas.{cap_definition, cap, number-cap, lookup-cap, value-cap}

some-map : {A B : Type 0} (f : A → B) (o : Option A) → is_some (option_map f o) ≡ is_some o
some-map f None = refl
some-map f (Some x) = refl

none-map : {A B : Type 0} (f : A → B) (o : Option A) → is_none (option_map f o) ≡ is_none o
none-map f None = refl
none-map f (Some x) = refl

all-same : {A : Type 0} (p q : A → Bool) → ((x : A) → p x ≡ q x) → (xs : List A) → list_all p xs ≡ list_all q xs
all-same p q same [] = refl
all-same p q same (x ∷ xs) =
    ap (λ (v : Bool). v && list_all p xs) (same x) ∙ ap (λ (v : Bool). q x && v) (all-same p q same xs)

-- how far a jump leads: a name so far away is out of reach
past : (half from to : ℕ) → from + half ≤ to → is_some (offset_field half (distance from to)) ≡ false
past half from to far =
    let is : distance from to ≡ pos (to - from) = omega (arith, ints, far) in
    let off : nat_lt (to - from) half ≡ false = grind (arith, far) in
    rw (is, off) refl

reach : (half from : ℕ) (o : Option ℕ) → from + half ≤ 2 ^ 32 - 1 →
    is_some (offset_field half (leap from (option_map at_most o))) ≡ is_some (offset_field half (leap from o))
reach half from None near = refl
reach half from (Some value) near =
    ⊎_elim (λ (far : 2 ^ 32 - 1 < value).
    past half from (at_most value) (omega (arith, far, near)) ∙ sym (past half from value (omega (arith, far, near))))
    (λ (close : value ≤ 2 ^ 32 - 1).
    (let same : at_most value ≡ value = omega (arith, close) in
    ap (λ (v : ℕ). is_some (offset_field half (distance from v))) same))
    (cases_lt (2 ^ 32 - 1) value)

fit-same : (spot : Spot) (totals : Totals) (count : ℕ) (make : ℤ → ℕ) (o q : Option ℤ) → is_some o ≡ is_some q →
    words_fit spot totals count (o >>= λ field. Some (One (make field)))
    ≡ words_fit spot totals count (q >>= λ field. Some (One (make field)))
fit-same spot totals count make None None same = refl
fit-same spot totals count make None (Some y) same = absurd (cc)
fit-same spot totals count make (Some x) None same = absurd (cc)
fit-same spot totals count make (Some x) (Some y) same = refl

module _ (names : List Entry) (kinds : List NodeKind) (records : Bool) where
  abbrev exact : File
  exact = record { names = names; kinds = kinds; records = records }

  abbrev counted : File
  counted = record { names = map cap names; kinds = kinds; records = records }

  some-value : (name : List ℕ) → is_some (text_value (map cap names) name) ≡ is_some (text_value names name)
  some-value name = ap is_some (value-cap names name) ∙ some-map at_most (text_value names name)

  -- relocations
  reloc-cap : (area : Area) (offset kind : ℕ) (name : List ℕ) →
      reloc_by (map cap names) area offset kind name ≡ reloc_by names area offset kind name
  reloc-cap area offset kind name =
      ap (λ (n : Option ℕ). record { area = area; offset = offset; kind = kind; symbol = n; addend = pos 0 })
      (number-cap names name)

  first-cap : (spot : Spot) (r : Option (ℕ × List ℕ)) → first_reloc (map cap names) spot r ≡ first_reloc names spot r
  first-cap spot None = refl
  first-cap spot (Some r) =
      ap (λ (v : Bool). if is_leap r.0 && v then None else Some
      (reloc_by (map cap names) spot.area (end_of spot) r.0 r.1))
      (some-value r.1)
      ∙ ap (λ (x : Reloc). if is_leap r.0 && is_some (text_value names r.1) then None else Some x)
      (reloc-cap spot.area (end_of spot) r.0 r.1)

  second-cap : (spot : Spot) (s : Statement) → second_reloc (map cap names) spot s ≡ second_reloc names spot s
  second-cap spot (statements.La rd name) =
      ap (λ (x : Reloc). Some x) (reloc-cap areas.Text (spot.text_end + 4) 24 (pair_label spot.pairs))
  second-cap spot s = refl

  pub relocs-cap : (spot : Spot) (s : Statement) → relocs_of (map cap names) spot s ≡ relocs_of names spot s
  relocs-cap spot s =
      ap (λ (x : Option Reloc). both x (second_reloc (map cap names) spot s)) (first-cap spot (reference_of s))
      ∙ ap (both (first_reloc names spot (reference_of s))) (second-cap spot s)

  -- unknown names, and names that are defined twice
  lacks-cap : (r : Option (ℕ × List ℕ)) → lacks_partner (map cap names) r ≡ lacks_partner names r
  lacks-cap None = refl
  lacks-cap (Some r) = ap (λ (v : Bool). is_partner r.0 && not v) (some-value r.1)

  pub unknown-cap : (s : Statement) → is_unknown (map cap names) s ≡ is_unknown names s
  unknown-cap (statements.Globl name) =
      ap is_none (lookup-cap names name) ∙ none-map cap_definition (definition_in names name)
  unknown-cap (statements.KindSwitch places) =
      ap not (all-same (in_text (map cap names)) (in_text names) some-value places)
  unknown-cap s = lacks-cap (reference_of s)

  elsewhere-cap : (number : ℕ) (o : Option Definition) → is_elsewhere number (option_map cap_definition o)
      ≡ is_elsewhere number o
  elsewhere-cap number None = refl
  elsewhere-cap number (Some definition) = refl

  place-cap : (number : ℕ) (name : List ℕ) →
      is_elsewhere number (definition_in (map cap names) name) ≡ is_elsewhere number (definition_in names name)
  place-cap number name =
      ap (is_elsewhere number) (lookup-cap names name) ∙ elsewhere-cap number (definition_in names name)

  again-cap : (number : ℕ) (label : Option (List ℕ)) → is_again (map cap names) number label
      ≡ is_again names number label
  again-cap number None = refl
  again-cap number (Some name) = place-cap number name

  begins-cap : (number : ℕ) (label : Option (List ℕ)) (s : Statement) →
      begins_again (map cap names) number label s ≡ begins_again names number label s
  begins-cap number label (statements.Func name node taken) =
      ap (λ (v : Bool). v || is_label label name) (place-cap number name)
  begins-cap number label s = refl

  pub twice-cap : (number : ℕ) (label : Option (List ℕ)) (s : Statement) →
      is_twice (map cap names) number label s ≡ is_twice names number label s
  twice-cap number label s =
      ap (λ (v : Bool). v || begins_again (map cap names) number label s) (again-cap number label)
      ∙ ap (λ (v : Bool). is_again names number label || v) (begins-cap number label s)

  -- words
  words-cap : (spot : Spot) (totals : Totals) (count : ℕ) (s : Statement) → spot.text_end ≤ 4 * MAX_WORDS →
      words_fit spot totals count (words_of (map cap names) spot.text_end s)
      ≡ words_fit spot totals count (words_of names spot.text_end s)
  words-cap spot totals count (statements.Branch cond rs1 rs2 (targets.Name name)) near =
      ap (λ (v : Option ℕ). words_fit spot totals count (offset_field (2 ^ 12) (leap spot.text_end v)
      >>= λ field. Some (One (word_of (insns.Branch cond rs1 rs2 field))))) (value-cap names name)
      ∙ fit-same spot totals count (λ (field : ℤ). word_of (insns.Branch cond rs1 rs2 field))
      (offset_field (2 ^ 12) (leap spot.text_end (option_map at_most (text_value names name))))
      (offset_field (2 ^ 12) (leap spot.text_end (text_value names name)))
      (reach (2 ^ 12) spot.text_end (text_value names name) (omega (arith, near)))
  words-cap spot totals count (statements.Jal rd (targets.Name name)) near =
      ap (λ (v : Option ℕ). words_fit spot totals count (offset_field (2 ^ 20) (leap spot.text_end v)
      >>= λ field. Some (One (word_of (insns.Jal rd field))))) (value-cap names name)
      ∙ fit-same spot totals count (λ (field : ℤ). word_of (insns.Jal rd field))
      (offset_field (2 ^ 20) (leap spot.text_end (option_map at_most (text_value names name))))
      (offset_field (2 ^ 20) (leap spot.text_end (text_value names name)))
      (reach (2 ^ 20) spot.text_end (text_value names name) (omega (arith, near)))
  words-cap spot totals count (statements.Branch cond rs1 rs2 (targets.Offset number)) near = refl
  words-cap spot totals count (statements.Jal rd (targets.Offset number)) near = refl
  words-cap spot totals count s near = refl

  code-cap : (spot : Spot) (totals : Totals) (s : Statement) → spot.text_end ≤ 4 * MAX_WORDS →
      code_fits counted spot totals s ≡ code_fits exact spot totals s
  code-cap spot totals s near =
      ap (λ (l : List Reloc). words_fit spot totals (length l) (words_of (map cap names) spot.text_end s))
      (relocs-cap spot s)
      ∙ words-cap spot totals (length (relocs_of names spot s)) s near

  word-cap : (own : Area) (spot : Spot) (totals : Totals) (datum : Datum) → spot.text_end ≤ 4 * MAX_WORDS →
      word_fits own counted spot totals datum ≡ word_fits own exact spot totals datum
  word-cap areas.Text spot totals datum near = code-cap spot totals (statements.Word datum) near
  word-cap areas.Data spot totals datum near =
      ap (λ (l : List Reloc). data_fits spot 4 && relocs_fit totals (length l))
      (relocs-cap spot (statements.Word datum))

  pub fits-cap : (spot : Spot) (totals : Totals) (s : Statement) → spot.text_end ≤ 4 * MAX_WORDS →
      statement_fits counted spot totals s ≡ statement_fits exact spot totals s
  fits-cap spot totals statements.Blank near = refl
  fits-cap spot totals statements.Text near = refl
  fits-cap spot totals statements.Data near = refl
  fits-cap spot totals (statements.Globl name) near = refl
  fits-cap spot totals (statements.Word datum) near = word-cap spot.area spot totals datum near
  fits-cap spot totals (statements.Zero number) near = refl
  fits-cap spot totals (statements.Node kind fields) near = refl
  fits-cap spot totals (statements.Func name node taken) near = refl
  fits-cap spot totals statements.EndFunc near = refl
  fits-cap spot totals (statements.KindCall node) near = refl
  fits-cap spot totals (statements.KindTail node) near = refl
  fits-cap spot totals statements.KindReturn near = refl
  fits-cap spot totals (statements.KindSwitch places) near = refl
  fits-cap spot totals (statements.Jalr rd rs1 imm) near =
      ap (λ (v : Bool). jump_fits records totals && v) (code-cap spot totals (statements.Jalr rd rs1 imm) near)
  fits-cap spot totals statements.Ret near =
      ap (λ (v : Bool). jump_fits records totals && v) (code-cap spot totals statements.Ret near)
  fits-cap spot totals s near = code-cap spot totals s near
