-- All of the records: what is read is spelled so, and what is spelled so is read, in each version. The length of the
-- data, within which cells are to lie, may be known or not.
use Rattle.std.proofs.Common.{◌≡◌, ℕ, ◌≤◌, Bool, true, false, cond, eqb, ltb, leb, IsTrue, List, [], ◌++◌, length, take, drop, Option, Some, None, Result, Ok, Err, refl, sym, ap, subst, ◌∙◌, arith}
use Rattle.std.specs.Prelude.{IfOk}
use Rattle.std.specs.List.{flat_map}
use Rattle.std.specs.Int.{w32, from_le_bytes}
use Rattle.std.proofs.lemmas.Bool.{eqb-true, leb-true, le-leb, le-ltb}
use Rattle.std.proofs.lemmas.List.{append-nil, nil_from_length, length-append}
use Rattle.cfi_type_table.specs.Node.{Node}
use Rattle.cfi_type_table.specs.Spelling.{word}
use Rattle.cfi_word.specs.declared.limits.TheConstants.{MAX_FUNCTIONS, MAX_BRANCHES}
use Rattle.cfi_aux.specs.declared.fault.AuxFault.{AuxFault}
use Rattle.cfi_aux.specs.declared.fault.AuxFault.TheVariants.{Version, Short, BadRecord}
use Rattle.cfi_aux.specs.declared.records.Function.{Function}
use Rattle.cfi_aux.specs.declared.records.Records.{Records}
use Rattle.cfi_aux.specs.declared.records.Kind.{Kind}
use Rattle.cfi_aux.specs.Cells.{have_cells}
use Rattle.cfi_aux.specs.Modules.{SpellsWithin}
use Rattle.cfi_aux.specs.Records.{function_bytes, branch_bytes, records_bytes, spelling_in, IsFunctionIn, AreRecordsIn, Spells}
use Rattle.cfi_aux.specs.declared.version.RecordVersion.{RecordVersion}
use Rattle.cfi_aux.specs.declared.version.RecordVersion.TheVariants.{One, Two, Three}
use Rattle.cfi_aux.specs.Version.{version_word, version_of}
use Rattle.cfi_aux.specs.Reading.{ReadingGives, next_word, and_with, and_also, each}
use Rattle.cfi_values.specs.Then.{unless_bad}
use Rattle.cfi_aux.specs.Fault.{function_at, branch_at, version_or, version_at, count_at, lists_at, records_of, records_at, whole_at, records_within, records_in}
use Rattle.cfi_type_table.proofs.Parts.{IsBytes, Takes}
use Rattle.cfi_aux.proofs.Formats.{Reads, Reads-with, Reads-also, Agree, Reads-as}
use Rattle.cfi_values.proofs.ThenLemmas.{then_ok, unless_bad_ok, ok_is}
use Rattle.cfi_aux.proofs.Words.{Passes, word_takes, Reads-word}
use Rattle.cfi_aux.proofs.Lists.{AreGood, Reads-each}
use Rattle.cfi_aux.proofs.Functions.{Reads-function}
use Rattle.cfi_aux.proofs.Branches.{IsBranchOf, Reads-branch}
use Rattle.cfi_aux.proofs.CellLemmas.{any_cells, same_cells, branches_parts, branches_whole, AreRecordsOf}

-- ---- the version

-- a word that has a version is that version's
version_is : (n : ℕ) (one two three : Bool) (version : RecordVersion) → eqb n 1 ≡ one → eqb n 2 ≡ two → eqb n 3 ≡ three
    → cond one (Some One) (cond two (Some Two) (cond three (Some Three) None)) ≡ Some version
    → n ≡ version_word version
version_is n true two three One first second third e = eqb-true n 1 first
version_is n true two three Two first second third e = absurd cc
version_is n true two three Three first second third e = absurd cc
version_is n false true three One first second third e = absurd cc
version_is n false true three Two first second third e = eqb-true n 2 second
version_is n false true three Three first second third e = absurd cc
version_is n false false true One first second third e = absurd cc
version_is n false false true Two first second third e = absurd cc
version_is n false false true Three first second third e = eqb-true n 3 third
version_is n false false false version first second third e = absurd cc

-- the word of a version has it
version_back : (version : RecordVersion) → version_of (version_word version) ≡ Some version
version_back One = refl
version_back Two = refl
version_back Three = refl

some_is : (o : Option RecordVersion) (rest : List ℕ) (x : RecordVersion × List ℕ) → version_or o rest ≡ Ok x
    → (o ≡ Some x.0) × (rest ≡ x.1)
some_is None rest x e = absurd cc
some_is (Some version) rest x e =
    let made : RecordVersion × List ℕ = (version, rest) in
    let same = ok_is made x e in (
      ap (λ (y : RecordVersion × List ℕ). Some y.0) same,
      ap (λ (y : RecordVersion × List ℕ). y.1) same,
    )

version_by : (b : Bool) (o : Option RecordVersion) (rest : List ℕ) (x : RecordVersion × List ℕ)
    → cond b (Err Version) (version_or o rest) ≡ Ok x → (b ≡ false) × ((o ≡ Some x.0) × (rest ≡ x.1))
version_by true o rest x e = absurd cc
version_by false o rest x e = (refl, some_is o rest x e)

version_takes : (bytes : List ℕ) (x : RecordVersion × List ℕ) → IsBytes bytes → version_at bytes ≡ Ok x
    → Takes bytes (word (version_word x.0)) x.1
unfolding version_at
version_takes bytes x fits e =
    let n = from_le_bytes w32 (take 4 bytes) in
    let v = version_by (ltb (length bytes) 4) (version_of n) (drop 4 bytes) x e in
    let long : ltb (length bytes) 4 ≡ false = v.0 in
    let read : next_word bytes ≡ Ok (n, drop 4 bytes) = rw long refl in
    let taken = (word_takes bytes n (drop 4 bytes) fits read).0 in
    subst (λ (rest : List ℕ). Takes bytes (word (version_word x.0)) rest) v.1.1
    (subst (λ (m : ℕ). Takes bytes (word m) (drop 4 bytes))
    (version_is n (eqb n 1) (eqb n 2) (eqb n 3) x.0 refl refl refl v.1.0) taken)

version_again : (version : RecordVersion) (rest : List ℕ)
    → version_at (word (version_word version) ++ rest) ≡ Ok (version, rest)
unfolding version_at
version_again One rest =
    let long : ltb (length (word 1 ++ rest)) 4 ≡ false =
    le-ltb _ _ (omega (arith, length-append (word 1) rest)) in rw long refl
version_again Two rest =
    let long : ltb (length (word 2 ++ rest)) 4 ≡ false =
    le-ltb _ _ (omega (arith, length-append (word 2) rest)) in rw long refl
version_again Three rest =
    let long : ltb (length (word 3 ++ rest)) 4 ≡ false =
    le-ltb _ _ (omega (arith, length-append (word 3) rest)) in rw long refl

pub Reads-version : Reads RecordVersion (λ version. word (version_word version)) (λ x. Unit {0}) version_at
Reads-version = record {
  takes = λ bytes x fits e. (version_takes bytes x fits e, tt);
  again = λ version rest h. version_again version rest;
}

-- ---- what stands behind the version

-- records as they are read: the numbers, and the lists
abbrev Lists : Type 0
Lists = (ℕ × ℕ) × (List Function × List Kind)

abbrev is_below : ℕ → ℕ → Bool
is_below limit n = leb n limit

abbrev lists_bytes : Lists → List ℕ
lists_bytes x = (word x.0.0 ++ word x.0.1) ++ (flat_map function_bytes x.1.0 ++ flat_map branch_bytes x.1.1)

abbrev AreLists : RecordVersion → (types : List Node) → (size : Option ℕ) → Lists → Type 0
AreLists version types size x =
    (Passes (is_below MAX_FUNCTIONS) x.0.0 × Passes (is_below MAX_BRANCHES) x.0.1)
    × (AreGood (IsFunctionIn version types) x.0.0 x.1.0 × AreGood (IsBranchOf version types size) x.0.1 x.1.1)

abbrev lists_of : Records → Lists
lists_of r = ((length r.functions, length r.branches), (r.functions, r.branches))

records_agree : (version : RecordVersion) (types : List Node) (size : Option ℕ)
    → Agree Lists Records lists_bytes (AreLists version types size) records_bytes (AreRecordsOf version types size)
    records_of lists_of
records_agree version types size = record {
  spelled = λ x h. ap (λ (n : ℕ). (word n ++ word (length x.1.1))
      ++ (flat_map function_bytes x.1.0 ++ flat_map branch_bytes x.1.1)) h.1.0.0
      ∙ ap (λ (n : ℕ). (word x.0.0 ++ word n)
      ++ (flat_map function_bytes x.1.0 ++ flat_map branch_bytes x.1.1)) h.1.1.0;
  viewed = λ x h. let branches = branches_parts version types size x.1.1 h.1.1.1 in (
    record {
      function_count = subst (λ (n : ℕ). n ≤ MAX_FUNCTIONS) (sym h.1.0.0) (leb-true x.0.0 MAX_FUNCTIONS h.0.0.1);
      branch_count = subst (λ (n : ℕ). n ≤ MAX_BRANCHES) (sym h.1.1.0) (leb-true x.0.1 MAX_BRANCHES h.0.1.1);
      functions = h.1.0.1;
      branches = branches.0;
    },
    branches.1,
  );
  good_back = λ r h. (
    (
      (omega (arith, h.0.function_count), le-leb (length r.functions) MAX_FUNCTIONS h.0.function_count),
      (omega (arith, h.0.branch_count), le-leb (length r.branches) MAX_BRANCHES h.0.branch_count),
    ),
    ((refl, h.0.functions), (refl, branches_whole version types size r.branches h.0.branches h.1)),
  );
  view_back = λ r h. refl;
}

pub Reads-records : (version : RecordVersion) (types : List Node) (size : Option ℕ)
    → Reads Records records_bytes (AreRecordsOf version types size) (records_at version types size)
unfolding records_at
Reads-records version types size =
    let IsOne = IsFunctionIn version types in
    let IsOther = IsBranchOf version types size in
    let lists = lists_at version types size in
    let counts = and_also (count_at MAX_FUNCTIONS) (count_at MAX_BRANCHES) in
    Reads-as lists_bytes (AreLists version types size) (and_with counts lists) records_bytes
    (AreRecordsOf version types size) records_of lists_of (records_agree version types size)
    (Reads-with (λ (x : ℕ × ℕ). word x.0 ++ word x.1)
    (λ (x : ℕ × ℕ). Passes (is_below MAX_FUNCTIONS) x.0 × Passes (is_below MAX_BRANCHES) x.1) counts
    (λ (counts : ℕ × ℕ) (x : List Function × List Kind). flat_map function_bytes x.0 ++ flat_map branch_bytes x.1)
    (λ (counts : ℕ × ℕ) (x : List Function × List Kind). AreGood IsOne counts.0 x.0 × AreGood IsOther counts.1 x.1)
    lists
    (Reads-also word (Passes (is_below MAX_FUNCTIONS)) (count_at MAX_FUNCTIONS) word
    (Passes (is_below MAX_BRANCHES)) (count_at MAX_BRANCHES)
    (Reads-word (is_below MAX_FUNCTIONS) (BadRecord MAX_FUNCTIONS))
    (Reads-word (is_below MAX_BRANCHES) (BadRecord MAX_BRANCHES)))
    (λ counts h. Reads-also (flat_map function_bytes) (AreGood IsOne counts.0)
    (each (function_at version types) 0 counts.0) (flat_map branch_bytes) (AreGood IsOther counts.1)
    (each (branch_at version types size) counts.0 counts.1)
    (Reads-each function_bytes IsOne (function_at version types) (Reads-function version types) 0 counts.0)
    (Reads-each branch_bytes IsOther (branch_at version types size) (Reads-branch version types size) counts.0 counts.1)))

-- ---- all of the bytes

pub Reads-whole : (types : List Node) (size : Option ℕ)
    → Reads (RecordVersion × Records) (λ x. spelling_in x.0 x.1) (λ x. (Unit {0}) × AreRecordsOf x.0 types size x.1)
    (whole_at types size)
unfolding whole_at
Reads-whole types size =
    Reads-with (λ version. word (version_word version)) (λ version. Unit {0}) version_at (λ version r. records_bytes r)
    (λ version r. AreRecordsOf version types size r) (λ version. records_at version types size) Reads-version
    (λ version h. Reads-records version types size)

-- the bytes spell the records, in a version of which they are records, and their cells fit
record SpellsOf (types : List Node) (size : Option ℕ) (bytes : List ℕ) (r : Records) : Type 0 where
  version : RecordVersion
  good : AreRecordsOf version types size r
  spelled : bytes ≡ spelling_in version r

records_take : (types : List Node) (size : Option ℕ) (bytes : List ℕ) (r : Records) → IsBytes bytes
    → records_within types size bytes ≡ Ok r → SpellsOf types size bytes r
unfolding records_within
records_take types size bytes r fits e =
    let a = then_ok (whole_at types size bytes) (λ found. unless_bad (eqb (length found.1) 0) Short (Ok found.0.1)) r e in
    let g = unless_bad_ok (eqb (length a.0.1) 0) Short (Ok a.0.0.1) r a.2 in
    let nothing : a.0.1 ≡ [] = nil_from_length a.0.1 (eqb-true _ _ g.0) in
    let taken = (Reads-whole types size).takes bytes a.0 fits a.1 in
    let spelled : List ℕ = spelling_in a.0.0.0 a.0.0.1 in
    let whole : bytes ≡ spelled =
    taken.0.parts ∙ ap (λ (rest : List ℕ). spelled ++ rest) nothing ∙ append-nil spelled in
    subst (SpellsOf types size bytes) (ok_is a.0.0.1 r g.1)
    (record { version = a.0.0.0; good = taken.1.1; spelled = whole })

again_within : (types : List Node) (size : Option ℕ) (version : RecordVersion) (r : Records)
    → AreRecordsOf version types size r → records_within types size (spelling_in version r) ≡ Ok r
unfolding records_within
again_within types size version r h =
    let bytes : List ℕ = spelling_in version r in
    let read : whole_at types size bytes ≡ Ok ((version, r), []) =
    ap (whole_at types size) (sym (append-nil bytes)) ∙ (Reads-whole types size).again (version, r) [] (tt, h) in
    rw read refl

-- ---- whatever the data

pub records_again : (types : List Node) (version : RecordVersion) (r : Records) → AreRecordsIn version types r
    → records_in types (spelling_in version r) ≡ Ok r
records_again types version r h =
    again_within types None version r (h, any_cells version types r.branches h.branches)

pub spelled_again : (types : List Node) (bytes : List ℕ) (r : Records) → Spells types bytes r
    → records_in types bytes ≡ Ok r
spelled_again types bytes r h = ap (records_in types) h.spelled ∙ records_again types h.version r h.good

pub is_read : (types : List Node) (bytes : List ℕ) (answer : Result Records AuxFault) → IsBytes bytes
    → ReadingGives (λ r. r) answer (records_in types bytes) → IfOk answer (Spells types bytes)
is_read types bytes (Ok r) fits given =
    let is = records_take types None bytes r fits given in
    record { version = is.version; good = is.good.0; spelled = is.spelled }
is_read types bytes (Err e) fits given = tt

-- ---- with the data

pub records_again_within : (types : List Node) (size : ℕ) (version : RecordVersion) (r : Records)
    → AreRecordsIn version types r → IsTrue (have_cells size r.branches)
    → records_within types (Some size) (spelling_in version r) ≡ Ok r
records_again_within types size version r h cells =
    again_within types (Some size) version r (h, same_cells size r.branches ∙ cells)

pub is_read_within : (types : List Node) (size : ℕ) (bytes : List ℕ) (answer : Result Records AuxFault) → IsBytes bytes
    → ReadingGives (λ r. r) answer (records_within types (Some size) bytes)
    → IfOk answer (SpellsWithin types size bytes)
is_read_within types size bytes (Ok r) fits given =
    let is = records_take types (Some size) bytes r fits given in
    record {
      version = is.version;
      good = is.good.0;
      cells = sym (same_cells size r.branches) ∙ is.good.1;
      spelled = is.spelled;
    }
is_read_within types size bytes (Err e) fits given = tt
