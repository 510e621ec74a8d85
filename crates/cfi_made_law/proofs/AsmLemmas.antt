-- The object of a source that is no longer than a file is within the limits of a written one.
use Rattle.std.proofs.Common.{◌≡◌, ℕ, ◌+◌, ◌*◌, ◌<◌, ◌≤◌, ◌^◌, Bool, true, false, List, [], ◌∷◌, ◌++◌, length, Ok, All, refl, subst, arith, length-append}
use Rattle.std.specs.List.{filter_map, flat_map, sum_by, AllByRecursion}
use Rattle.std.proofs.lemmas.List.{length-map}
use Rattle.std.proofs.lemmas.List.Sums.{sum_by-cons}
use Rattle.std.proofs.lemmas.List.Elements.{All-append, All-weaker}
use Rattle.cfi_word.specs.declared.limits.TheConstants.{MAX_FILE_BYTES, MAX_SYMBOLS, MAX_NAME, MAX_FIELDS, MAX_BRANCHES}
use Rattle.cfi_text.specs.Lines.{lines_of}
use Rattle.cfi_type_table.specs.Node.{Node}
use Rattle.cfi_type_table.specs.Spelling.{word, node_bytes, spelling as types_spelling}
use Rattle.cfi_aux.specs.declared.records.Kind.{Kind}
use Rattle.cfi_aux.specs.declared.records.Records.{Records}
use Rattle.cfi_aux.specs.Records.{function_bytes, branch_bytes, spelling as records_spelling}
use Rattle.cfi_aux.specs.Version.{version_word, version_for}
use Rattle.cfi_aux.proofs.SizeLemmas.{branch-size}
use Rattle.elf_read.specs.declared.object.Area.TheVariants as areas
use Rattle.elf_read.specs.declared.object.Object.{Object}
use Rattle.elf_read.specs.declared.object.Reloc.{Reloc}
use Rattle.elf_write.specs.declared.limits.TheConstants.{MAX_TYPES, MAX_RECORDS}
use Rattle.elf_write.specs.Contents.{info_of}
use Rattle.elf_write.specs.File.{bytes_or_none}
use Rattle.elf_write.specs.Limits.{IsWithinLimits}
use Rattle.rv_line.specs.declared.line.Line.{Line}
use Rattle.rv_line.specs.Line.{line_in}
use Rattle.rv_names.specs.Names.{symbol_of}
use Rattle.rv_asm.specs.declared.fault.AsmFault.{AsmFault}
use Rattle.rv_asm.specs.Assembled.{unless, object_in}
use Rattle.rv_asm.specs.Fault.{fault_at, end_faults, faults_of}
use Rattle.rv_asm.specs.Made.{only_if, relocs_by, nodes_of, open_after, object_by}
use Rattle.rv_asm.specs.Placed.{placed, lines_in}
use Rattle.rv_asm.specs.Symbols.{names_in, file_in}
use Rattle.rv_asm.specs.inner.Count.{count_of}
use Rattle.rv_asm.proofs.CountLemmas.{bytes_of, lines-left}
use Rattle.cfi_made_law.proofs.AsmFormLemmas.{IsFormedLine}
use Rattle.cfi_made_law.proofs.AsmLimitLemmas.{room, relocs-few, names-few}
use Rattle.cfi_made_law.proofs.SpellingLemmas.{pieces-short, node-bytes, function-bytes}
use Rattle.cfi_made_law.proofs.AsmRecordLemmas.{nodes-few, functions-few}
use Rattle.cfi_made_law.proofs.AsmBranchLemmas.{words_of, branches-few, text-names}
use Rattle.cfi_made_law.proofs.AsmNameLemmas.{order-length, lines-short, symbols-short}
use Rattle.cfi_made_law.proofs.AsmInfoLemmas.{all-info}

-- ---- the two sections

only-short : (b : Bool) (bytes : List ℕ) (most : ℕ) → (b ≡ true → length bytes ≤ most)
    → length (bytes_or_none (only_if b bytes)) ≤ most
only-short true bytes most short = short refl
only-short false bytes most short = omega arith

types-few : (nodes : List Node) → length nodes ≤ 1024 → All (λ x. length x.fields ≤ MAX_FIELDS) nodes
    → length (types_spelling nodes) ≤ MAX_TYPES
types-few nodes few all =
    let one : length (word (length nodes)) ≡ 4 = refl in
    omega (
      arith,
      length-append (word (length nodes)) (flat_map node_bytes nodes),
      one,
      pieces-short node_bytes 1028 nodes
          (All-weaker (λ x. length x.fields ≤ MAX_FIELDS) (λ x. length (node_bytes x) ≤ 1028) node-bytes nodes all),
      few,
    )

branch-length : (b : Kind) → length (branch_bytes b) ≡ 8 + 4 * words_of b
branch-length b = branch-size b

branches-length : (bs : List Kind) → length (flat_map branch_bytes bs) ≡ 8 * length bs + 4 * sum_by words_of bs
branches-length [] = refl
branches-length (b ∷ bs) =
    omega (
      arith,
      length-append (branch_bytes b) (flat_map branch_bytes bs),
      branch-length b,
      branches-length bs,
      sum_by-cons words_of b bs,
    )

records-few : (r : Records) → length r.functions ≤ 16384 → All (λ f. length f.name ≤ MAX_NAME) r.functions
    → length r.branches ≤ MAX_BRANCHES → sum_by words_of r.branches ≤ MAX_FILE_BYTES + 1
    → length (records_spelling r) ≤ MAX_RECORDS
records-few r few names count words =
    let d : (n : ℕ) → length (word n) ≡ 4 = λ n. refl in
    let functions = flat_map function_bytes r.functions in
    let branches = flat_map branch_bytes r.branches in
    let counts = word (length r.functions) ++ word (length r.branches) in
    omega (
      arith,
      length-append (word (version_word (version_for r.branches))) (counts ++ (functions ++ branches)),
      length-append counts (functions ++ branches),
      length-append (word (length r.functions)) (word (length r.branches)),
      length-append functions branches,
      d (version_word (version_for r.branches)),
      d (length r.functions),
      d (length r.branches),
      pieces-short function_bytes 276 r.functions
          (All-weaker (λ f. length f.name ≤ MAX_NAME) (λ f. length (function_bytes f) ≤ 276) function-bytes
          r.functions names),
      branches-length r.branches,
      few,
      count,
      words,
    )

-- ---- the object

pub unless-none : (faults : List AsmFault) (made object : Object) → unless faults made ≡ Ok object
    → (faults ≡ []) × (made ≡ object)
unless-none [] made object is = (refl, cc)
unless-none (fault ∷ faults) made object is = absurd (cc)

pub front-none : {A : Type 0} (xs ys : List A) → xs ++ ys ≡ [] → xs ≡ []
front-none [] ys is = refl
front-none (x ∷ xs) ys is = absurd (cc)

line-count : (text : List ℕ) → length (lines_of text) ≤ length text + 1
line-count text = omega (arith, count (lines_of text), lines-left text)
  where
    count : (lines : List (List ℕ)) → length lines ≤ bytes_of lines
    count [] = omega arith
    count (line ∷ lines) = omega (arith, count lines)

pub few-lines : (text : List ℕ) → length text ≤ MAX_FILE_BYTES → length (lines_in text) < 2 ^ 32
few-lines text short = omega (arith, length-map (lines_of text) line_in, line-count text, short)

-- the object of lines that are not too many
within : (lines : List Line) → length lines < 2 ^ 32 → AllByRecursion IsFormedLine lines
    → sum_by count_of lines ≤ MAX_FILE_BYTES + 1
    → filter_map (fault_at (file_in lines) lines) (placed lines) ≡ [] → IsWithinLimits (object_by (file_in lines) lines)
within lines short names words clear =
    let file = file_in lines in
    let space = room file lines clear in
    let few : length file.names ≤ MAX_SYMBOLS =
    omega (arith, order-length (names_in lines), names-few file lines clear) in
    let functions = functions-few file lines clear in
    let branches = branches-few file lines clear in
    let nodes = nodes-few file lines clear in
    record {
      text = omega (arith, space.text, space.within.text);
      static_data = omega (arith, space.bytes, space.within.bytes);
      symbols = omega (arith, length-map file.names symbol_of, few);
      relocs = omega (
        arith,
        length-append (relocs_by file areas.Text lines) (relocs_by file areas.Data lines),
        relocs-few file lines clear,
      );
      types = only-short file.records _ MAX_TYPES (λ on. types-few (nodes_of lines) nodes.count nodes.fields);
      records = only-short file.records _ MAX_RECORDS
          (λ on. records-few _ (omega (arith, functions.count)) functions.names (branches.count on)
          (omega (arith, branches.words, words)));
      names = symbols-short lines short names;
      infos = All-append (λ (r : Reloc). info_of r < 2 ^ 32) (relocs_by file areas.Text lines) _
          (all-info file few areas.Text (placed lines)) (all-info file few areas.Data (placed lines));
    }

pub assembled-within : (text : List ℕ) (object : Object) → length text ≤ MAX_FILE_BYTES → object_in text ≡ Ok object
    → IsWithinLimits object
assembled-within text object short is =
    let file = file_in (lines_in text) in
    let parts = unless-none (faults_of file (lines_in text)) (object_by file (lines_in text)) object is in
    subst IsWithinLimits parts.1
    (within (lines_in text) (few-lines text short) (lines-short (lines_of text))
    (omega (arith, text-names text, short))
    (front-none (filter_map (fault_at file (lines_in text)) (placed (lines_in text)))
    (end_faults (length (lines_in text) + 1) (open_after file.kinds (lines_in text))) parts.0))
