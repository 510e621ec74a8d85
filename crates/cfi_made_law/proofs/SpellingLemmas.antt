-- The bytes of a type table and of records are not too many.
use Rattle.std.proofs.Common.{◌≡◌, ℕ, ◌*◌, ◌≤◌, List, [], ◌∷◌, ◌++◌, length, replicate, All, IsTrue, refl, ap, arith, length-append}
use Rattle.std.proofs.lemmas.List.{length-replicate}
use Rattle.std.specs.List.{flat_map}
use Rattle.std.proofs.lemmas.Bool.Decides.{nat_tests}
use Rattle.std.proofs.lemmas.List.Concat.{length-flat_map}
use Rattle.std.proofs.lemmas.List.Sums.{sum_by-le}
use Rattle.std.proofs.lemmas.List.Elements.{All-from_recursion, All-weaker}
use Rattle.cfi_word.specs.declared.limits.TheConstants.{MAX_FIELDS, MAX_NAME}
use Rattle.cfi_type_table.specs.Node.{Node}
use Rattle.cfi_type_table.specs.Kind.{has_arity}
use Rattle.cfi_type_table.specs.Spelling.{word, node_bytes, spelling as types_spelling, IsNode, AreTypes}
use Rattle.cfi_aux.specs.declared.records.Function.{Function}
use Rattle.cfi_aux.specs.declared.records.Kind.{Kind}
use Rattle.cfi_aux.specs.declared.records.Records.{Records}
use Rattle.cfi_aux.specs.Records.{padding, name_bytes, flag_of, function_bytes, kind_number, word_count, branch_bytes, records_bytes, spelling_in, IsFunctionIn, IsBranchIn, AreRecordsIn}
use Rattle.cfi_aux.specs.declared.version.RecordVersion.{RecordVersion}
use Rattle.cfi_aux.specs.Version.{version_word}
use Rattle.cfi_aux.specs.Modules.{AreSpelled}
use Rattle.cfi_aux.proofs.Functions.{short_name}
use Rattle.cfi_aux.proofs.Branches.{few_words}
use Rattle.cfi_aux.proofs.SizeLemmas.{branch-size}
use Rattle.elf_read.specs.declared.object.Object.{Object}
use Rattle.elf_write.specs.declared.limits.TheConstants.{MAX_TYPES, MAX_RECORDS}
use Rattle.elf_write.specs.File.{bytes_or_none}
use Rattle.cfi_made_law.proofs.WholeLemmas.{AreFew}

pub words-length : (ns : List ℕ) → length (flat_map word ns) ≡ 4 * length ns
words-length [] = refl
words-length (n ∷ ns) =
    let one : length (word n) ≡ 4 = refl in
    omega (arith, length-append (word n) (flat_map word ns), one, words-length ns)

pub pieces-short : {X : Type 0} (spell : X → List ℕ) (most : ℕ) (xs : List X) → All (λ x. length (spell x) ≤ most) xs
    → length (flat_map spell xs) ≤ length xs * most
pieces-short spell most xs all =
    omega (arith, length-flat_map spell xs, sum_by-le (λ x. length (spell x)) most xs all)

-- ---- types

few-fields : (kind n : ℕ) → IsTrue (has_arity kind n) → n ≤ MAX_FIELDS
few-fields kind n arity = grind (arith, nat_tests)

pub node-bytes : (x : Node) → length x.fields ≤ MAX_FIELDS → length (node_bytes x) ≤ 1028
node-bytes x few =
    let one : length (word x.kind) ≡ 4 = refl in
    let two : length (word (length x.fields)) ≡ 4 = refl in
    omega (
      arith,
      length-append (word x.kind) (word (length x.fields) ++ flat_map word x.fields),
      length-append (word (length x.fields)) (flat_map word x.fields),
      one,
      two,
      words-length x.fields,
      few,
    )

node-short : (x : Node) → IsNode x → length (node_bytes x) ≤ 1028
node-short x is = node-bytes x (few-fields x.kind (length x.fields) is.arity)

pub types-short : (types : List Node) → AreTypes types → length (types_spelling types) ≤ MAX_TYPES
types-short types are =
    let one : length (word (length types)) ≡ 4 = refl in
    omega (
      arith,
      length-append (word (length types)) (flat_map node_bytes types),
      one,
      pieces-short node_bytes 1028 types
          (All-weaker IsNode (λ x. length (node_bytes x) ≤ 1028) node-short types
          (All-from_recursion IsNode types are.nodes)),
      are.count,
    )

-- ---- records

name-short : (name : List ℕ) → length name ≤ MAX_NAME → length (name_bytes name) ≤ 260
name-short name few =
    let one : length (word (length name)) ≡ 4 = refl in
    omega (
      arith,
      length-append (word (length name)) (name ++ replicate (padding (length name)) 0),
      length-append name (replicate (padding (length name)) 0),
      length-replicate {A = ℕ} (padding (length name)) 0,
      one,
      few,
    )

pub function-bytes : (f : Function) → length f.name ≤ MAX_NAME → length (function_bytes f) ≤ 276
function-bytes f few =
    let rest = name_bytes f.name in
    let flag = word (flag_of f.taken) in
    let a : length (word f.offset) ≡ 4 = refl in
    let b : length (word f.length) ≡ 4 = refl in
    let c : length (word f.ty) ≡ 4 = refl in
    let d : length flag ≡ 4 = refl in
    omega (
      arith,
      length-append (word f.offset) (word f.length ++ (word f.ty ++ (flag ++ rest))),
      length-append (word f.length) (word f.ty ++ (flag ++ rest)),
      length-append (word f.ty) (flag ++ rest),
      length-append flag rest,
      a,
      b,
      c,
      d,
      name-short f.name few,
    )

function-short : (version : RecordVersion) (types : List Node) (f : Function) → IsFunctionIn version types f
    → length (function_bytes f) ≤ 276
function-short version types f is = function-bytes f (short_name (length f.name) is.name.count)

branch-short : (version : RecordVersion) (types : List Node) (b : Kind) → IsBranchIn version types b
    → length (branch_bytes b) ≤ 4104
branch-short version types b is =
    omega (arith, branch-size b, few_words (kind_number b) (word_count b) is.count)

pub records-short : (version : RecordVersion) (types : List Node) (r : Records) → AreRecordsIn version types r
    → length (spelling_in version r) ≤ MAX_RECORDS
records-short version types r are =
    let d : (n : ℕ) → length (word n) ≡ 4 = λ n. refl in
    let functions = flat_map function_bytes r.functions in
    let branches = flat_map branch_bytes r.branches in
    let counts = word (length r.functions) ++ word (length r.branches) in
    omega (
      arith,
      length-append (word (version_word version)) (records_bytes r),
      length-append counts (functions ++ branches),
      length-append (word (length r.functions)) (word (length r.branches)),
      length-append functions branches,
      d (version_word version),
      d (length r.functions),
      d (length r.branches),
      pieces-short function_bytes 276 r.functions
          (All-weaker (IsFunctionIn version types) (λ f. length (function_bytes f) ≤ 276) (function-short version types)
          r.functions (All-from_recursion (IsFunctionIn version types) r.functions are.functions)),
      pieces-short branch_bytes 4104 r.branches
          (All-weaker (IsBranchIn version types) (λ b. length (branch_bytes b) ≤ 4104) (branch-short version types)
          r.branches (All-from_recursion (IsBranchIn version types) r.branches are.branches)),
      are.function_count,
      are.branch_count,
    )

pub spelled-few : (object : Object) (types : List Node) (records : Records) → AreSpelled object types records
    → AreFew object
spelled-few object types records is = record {
  types = omega (arith, ap (λ o. length (bytes_or_none o)) is.types_spelled, types-short types is.table);
  records = omega (
    arith,
    ap (λ o. length (bytes_or_none o)) is.records_spelled,
    records-short is.version types records is.good,
  );
}
