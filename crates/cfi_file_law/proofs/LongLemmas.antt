-- Records with a switch that has too many entries are refused for this one.
use Rattle.std.proofs.Common.{◌≡◌, ℕ, zero, suc, ◌+◌, ◌<◌, ◌≤◌, ◌^◌, nat_le, Bool, false, List, [], ◌∷◌, ◌++◌, length, Ok, Err, Option, Some, lit<, refl, sym, ap, ◌∙◌, subst, append_assoc, arith}
use Rattle.std.specs.List.{flat_map, list_any, AllByRecursion}
use Rattle.std.specs.Prelude.{slice_get}
use Rattle.std.proofs.lemmas.Bool.Decides.{nat_tests}
use Rattle.std.proofs.lemmas.Bool.{le-leb}
use Rattle.std.proofs.lemmas.List.Concat.{flat_map-cons}
use Rattle.std.proofs.lemmas.Option.{none-some, same_Some}
use Rattle.cfi_word.specs.declared.limits.TheConstants.{MAX_ENTRIES, MAX_FUNCTIONS, MAX_BRANCHES}
use Rattle.cfi_type_table.specs.Node.{Node}
use Rattle.cfi_type_table.specs.Spelling.{word}
use Rattle.cfi_aux.specs.declared.format.TheConstants.{SWITCH}
use Rattle.cfi_aux.specs.declared.fault.AuxFault.{AuxFault}
use Rattle.cfi_aux.specs.declared.fault.AuxFault.TheVariants.{BadRecord}
use Rattle.cfi_aux.specs.declared.records.Kind.{Kind}
use Rattle.cfi_aux.specs.declared.records.Kind.TheVariants.{Switch}
use Rattle.cfi_aux.specs.declared.records.Records.{Records}
use Rattle.cfi_aux.specs.declared.version.RecordVersion.{RecordVersion}
use Rattle.cfi_aux.specs.declared.version.RecordVersion.TheVariants.{Two}
use Rattle.cfi_aux.specs.declared.records.Function.{Function}
use Rattle.cfi_aux.specs.Version.{is_import, version_for}
use Rattle.cfi_aux.specs.Format.{has_count}
use Rattle.cfi_aux.specs.Records.{function_bytes, branch_bytes, spelling_in, spelling, IsFunctionIn, IsFunction, IsWordSized}
use Rattle.cfi_aux.specs.Reading.{Reader, word_where, and_with, and_also, seen_as, each}
use Rattle.cfi_aux.specs.Fault.{function_at, branch_at, version_at, count_at, lists_at, body_at, records_of, records_at, whole_at, records_within}
use Rattle.cfi_aux.proofs.Formats.{Reads, Reads-also}
use Rattle.cfi_aux.proofs.Words.{Passes, word_again, Reads-word}
use Rattle.cfi_aux.proofs.Lists.{Reads-each}
use Rattle.cfi_aux.proofs.Functions.{Reads-function}
use Rattle.cfi_aux.proofs.Branches.{IsBranchOf, Reads-branch}
use Rattle.cfi_aux.proofs.Whole.{Reads-version}

-- ---- a fault behind what is read

seen-bad : {A B : Type 0} (view : A → B) (first : Reader A) (bytes : List ℕ) (fault : AuxFault)
    → first bytes ≡ Err fault → seen_as view first bytes ≡ Err fault
unfolding seen_as
seen-bad view first bytes fault bad = rw bad refl

with-bad : {A B : Type 0} (first : Reader A) (second : A → Reader B) (bytes : List ℕ) (a : A) (rest : List ℕ)
    (fault : AuxFault) → first bytes ≡ Ok (a, rest) → second a rest ≡ Err fault
    → and_with first second bytes ≡ Err fault
unfolding and_with
with-bad first second bytes a rest fault good bad = rw (good, bad) refl

first-bad : {A B : Type 0} (first : Reader A) (second : A → Reader B) (bytes : List ℕ) (fault : AuxFault)
    → first bytes ≡ Err fault → and_with first second bytes ≡ Err fault
unfolding and_with
first-bad first second bytes fault bad = rw bad refl

also-bad : {A B : Type 0} (first : Reader A) (second : Reader B) (bytes : List ℕ) (a : A) (rest : List ℕ)
    (fault : AuxFault) → first bytes ≡ Ok (a, rest) → second rest ≡ Err fault → and_also first second bytes ≡ Err fault
unfolding and_also
also-bad first second bytes a rest fault good bad = rw (good, bad) refl

where-bad : (test : ℕ → Bool) (fault : AuxFault) (n : ℕ) (rest : List ℕ) → IsWordSized n → test n ≡ false
    → word_where test fault (word n ++ rest) ≡ Err fault
unfolding word_where
where-bad test fault n rest small bad = rw (word_again n rest small, bad) refl

-- ---- a switch

many : (n : ℕ) → MAX_ENTRIES < n → has_count SWITCH n ≡ false
many n more = grind (arith, nat_tests)

switch-bad : (types : List Node) (size : Option ℕ) (k : ℕ) (places rest : List ℕ) → length places < 2 ^ 32
    → MAX_ENTRIES < length places
    → branch_at Two types size k (branch_bytes (Switch places) ++ rest) ≡ Err (BadRecord k)
unfolding branch_at
switch-bad types size k places rest small more =
    let n = length places in
    let bad = BadRecord k in
    let words = flat_map word places in
    let known : ℕ → Bool = λ kind. nat_le kind SWITCH in
    let body : ℕ → ℕ → Reader Kind = λ kind m. body_at Two types size k kind m in
    let counted : ℕ → Reader (ℕ × Kind) = λ kind. and_with (word_where (has_count kind) bad) (body kind) in
    let view : (ℕ × (ℕ × Kind)) → Kind = λ branch. branch.1.1 in
    let after = word n ++ (words ++ rest) in
    let regroup : (word SWITCH ++ (word n ++ words)) ++ rest ≡ word SWITCH ++ after =
    append_assoc (word SWITCH) (word n ++ words) rest
    ∙ ap (λ (bytes : List ℕ). word SWITCH ++ bytes) (append_assoc (word n) words rest) in
    ap (branch_at Two types size k) regroup
    ∙ seen-bad view (and_with (word_where known bad) counted) (word SWITCH ++ after) bad
    (with-bad (word_where known bad) counted (word SWITCH ++ after) SWITCH after bad
    ((Reads-word known bad).again SWITCH after (lit< tt, refl))
    (first-bad (word_where (has_count SWITCH) bad) (body SWITCH) after bad
    (where-bad (has_count SWITCH) bad n (words ++ rest) small (many n more))))

-- ---- several in turn

module _ {A : Type 0} (spell : A → List ℕ) (good : A → Type 0) (one : ℕ → Reader A)
    (reads : (i : ℕ) → Reads A spell good (one i)) where
  each-bad : (at : ℕ) (xs : List A) (number : ℕ) (x : A) → slice_get xs number ≡ Some x
      → ((i : ℕ) (y : A) → i < number → slice_get xs i ≡ Some y → good y)
      → ((i : ℕ) (rest : List ℕ) → one i (spell x ++ rest) ≡ Err (BadRecord i)) → (k : ℕ) → k ≡ at + number
      → each one at (length xs) (flat_map spell xs) ≡ Err (BadRecord k)
  unfolding each
  each-bad at [] number x is before bad k same = absurd (none-some x is)
  each-bad at (first ∷ xs) zero x is before bad k same =
      let here : first ≡ x = same_Some first x is in
      let fault : one at (spell first ++ flat_map spell xs) ≡ Err (BadRecord at) =
      subst (λ (y : A). one at (spell y ++ flat_map spell xs) ≡ Err (BadRecord at)) (sym here)
      (bad at (flat_map spell xs)) in
      let number : k ≡ at = omega (arith, same) in
      ap (each one at (suc (length xs))) (flat_map-cons spell first xs) ∙ rw (fault, number) refl
  each-bad at (first ∷ xs) (suc n) x is before bad k same =
      let read = (reads at).again first (flat_map spell xs) (before 0 first (omega arith) refl) in
      let later = each-bad (suc at) xs n x is (λ i y less there. before (suc i) y (omega (arith, less)) there) bad k
      (omega (arith, same)) in
      ap (each one at (suc (length xs))) (flat_map-cons spell first xs) ∙ rw (read, later) refl

-- ---- records

-- a function is one of the second version
function-two : (types : List Node) (f : Function) → IsFunction types f → IsFunctionIn Two types f
function-two types f is = record { offset = is.offset; length = is.length; ty = is.ty; name = is.name }

functions-two : (types : List Node) (fs : List Function) → AllByRecursion (IsFunction types) fs
    → AllByRecursion (IsFunctionIn Two types) fs
functions-two types [] all = tt
functions-two types (f ∷ fs) all = (function-two types f all.0, functions-two types fs all.1)

-- without an import, records are written in the second version
plain-two : (r : Records) → list_any is_import r.branches ≡ false → version_for r.branches ≡ Two
plain-two r plain = rw plain refl

pub records-bad : (types : List Node) (size : ℕ) (r : Records) (number : ℕ) (places : List ℕ)
    → length r.functions ≤ MAX_FUNCTIONS → length r.branches ≤ MAX_BRANCHES
    → AllByRecursion (IsFunction types) r.functions → slice_get r.branches number ≡ Some (Switch places)
    → ((i : ℕ) (b : Kind) → i < number → slice_get r.branches i ≡ Some b → IsBranchOf Two types (Some size) b)
    → list_any is_import r.branches ≡ false → length places < 2 ^ 32 → MAX_ENTRIES < length places
    → records_within types (Some size) (spelling r) ≡ Err (BadRecord (length r.functions + number))
unfolding records_within whole_at records_at
records-bad types size r number places few few' functions is before plain small more =
    let known : Option ℕ = Some size in
    let f = length r.functions in
    let b = length r.branches in
    let bad = BadRecord (f + number) in
    let tail = flat_map branch_bytes r.branches in
    let lists = flat_map function_bytes r.functions ++ tail in
    let counts = Reads-also word (Passes (λ n. nat_le n MAX_FUNCTIONS)) (count_at MAX_FUNCTIONS) word
    (Passes (λ n. nat_le n MAX_BRANCHES)) (count_at MAX_BRANCHES)
    (Reads-word (λ n. nat_le n MAX_FUNCTIONS) (BadRecord MAX_FUNCTIONS))
    (Reads-word (λ n. nat_le n MAX_BRANCHES) (BadRecord MAX_BRANCHES)) in
    let read = counts.again (f, b) lists (
      (omega (arith, few), le-leb f MAX_FUNCTIONS few),
      (omega (arith, few'), le-leb b MAX_BRANCHES few'),
    ) in
    let first = (Reads-each function_bytes (IsFunctionIn Two types) (function_at Two types) (Reads-function Two types) 0
    f).again r.functions tail (refl, functions-two types r.functions functions) in
    let last = each-bad branch_bytes (IsBranchOf Two types known) (branch_at Two types known)
    (Reads-branch Two types known) f r.branches number (Switch places) is before
    (λ i rest. switch-bad types known i places rest small more) (f + number) refl in
    let numbers = and_with (and_also (count_at MAX_FUNCTIONS) (count_at MAX_BRANCHES)) (lists_at Two types known) in
    let after = (word f ++ word b) ++ lists in
    let behind : records_at Two types known after ≡ Err bad =
    seen-bad records_of numbers after bad
    (with-bad (and_also (count_at MAX_FUNCTIONS) (count_at MAX_BRANCHES)) (lists_at Two types known) after (f, b) lists
    bad read
    (also-bad (each (function_at Two types) 0 f) (each (branch_at Two types known) f b) lists r.functions tail bad first
    last)) in
    let whole : whole_at types known (spelling_in Two r) ≡ Err bad =
    with-bad version_at (λ version. records_at version types known) (spelling_in Two r) Two after bad
    (Reads-version.again Two after tt) behind in
    ap (λ (version : RecordVersion). records_within types known (spelling_in version r)) (plain-two r plain)
    ∙ rw whole refl
