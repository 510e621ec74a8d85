-- Records of an earlier version are records of the latest, and these of the one that is written.
use Rattle.std.proofs.Common.{◌≡◌, ◌==◌, ℕ, ◌≤◌, nat_lt, Bool, true, false, if◌then◌else◌, List, [], ◌∷◌, length, IsTrue, refl, arith}
use Rattle.std.specs.List.{list_any, AllByRecursion}
use Rattle.std.proofs.lemmas.Bool.{and_parts, and_from, or_parts}
use Rattle.std.proofs.lemmas.List.Elements.{All-weaker, All-from_recursion, recursion_from_All}
use Rattle.cfi_type_table.specs.declared.kind.TheConstants.{FUNC}
use Rattle.cfi_type_table.specs.Kind.{is_callable_kind, is_callable}
use Rattle.cfi_type_table.specs.Node.{Node, node_of}
use Rattle.cfi_aux.specs.declared.records.Function.{Function}
use Rattle.cfi_aux.specs.declared.records.Kind.{Kind}
use Rattle.cfi_aux.specs.declared.records.Kind.TheVariants.{Call, Tail, Return, Switch, Import}
use Rattle.cfi_aux.specs.declared.records.Records.{Records}
use Rattle.cfi_aux.specs.declared.version.RecordVersion.{RecordVersion}
use Rattle.cfi_aux.specs.declared.version.RecordVersion.TheVariants.{One, Two, Three}
use Rattle.cfi_aux.specs.Records.{IsFunctionIn, IsBranchIn, AreRecordsIn, IsFunction, IsBranch, AreRecords}
use Rattle.cfi_aux.specs.Version.{is_type, last_kind, is_import, version_for}
use Rattle.cfi_aux.specs.declared.format.TheConstants.{CALL, TAIL, RETURN, SWITCH, IMPORT}

-- a type of any version is one of functions
type-later : (version : RecordVersion) (types : List Node) (n : ℕ) → IsTrue (is_type version types n)
    → IsTrue (is_callable types n)
type-later One types n is =
    let both = and_parts (nat_lt n (length types)) ((node_of types n).kind == FUNC) is in
    and_from (nat_lt n (length types)) (is_callable_kind (node_of types n).kind) both.0 (rw both.1 refl)
type-later Two types n is = is
type-later Three types n is = is

function-later : (version : RecordVersion) (types : List Node) (f : Function) → IsFunctionIn version types f
    → IsFunction types f
function-later version types f is = record {
  offset = is.offset;
  length = is.length;
  ty = (is.ty.0, type-later version types f.ty is.ty.1);
  name = is.name;
}

-- a kind of any version is one of the latest
kind-later : (version : RecordVersion) (kind : ℕ) → kind ≤ last_kind version → kind ≤ last_kind Three
kind-later One kind le = omega arith
kind-later Two kind le = omega arith
kind-later Three kind le = le

branch-later : (version : RecordVersion) (types : List Node) (b : Kind) → IsBranchIn version types b → IsBranch types b
branch-later version types (Call node) is = record {
  kind = kind-later version CALL is.kind;
  count = is.count;
  words = ((is.words.0.0, type-later version types node is.words.0.1), tt);
  named = tt;
}
branch-later version types (Tail node) is = record {
  kind = kind-later version TAIL is.kind;
  count = is.count;
  words = ((is.words.0.0, type-later version types node is.words.0.1), tt);
  named = tt;
}
branch-later version types Return is = record {
  kind = kind-later version RETURN is.kind;
  count = is.count;
  words = tt;
  named = tt;
}
branch-later version types (Switch places) is = record {
  kind = kind-later version SWITCH is.kind;
  count = is.count;
  words = is.words;
  named = tt;
}
branch-later version types (Import name cell) is = record {
  kind = kind-later version IMPORT is.kind;
  count = is.count;
  words = is.words;
  named = is.named;
}

pub records-later : (version : RecordVersion) (types : List Node) (r : Records) → AreRecordsIn version types r
    → AreRecords types r
records-later version types r are =
    let functions = All-from_recursion (IsFunctionIn version types) r.functions are.functions in
    let branches = All-from_recursion (IsBranchIn version types) r.branches are.branches in
    record {
      function_count = are.function_count;
      branch_count = are.branch_count;
      functions = recursion_from_All (IsFunction types) r.functions
          (All-weaker (IsFunctionIn version types) (IsFunction types) (function-later version types) r.functions
          functions);
      branches = recursion_from_All (IsBranch types) r.branches
          (All-weaker (IsBranchIn version types) (IsBranch types) (branch-later version types) r.branches branches);
    }

-- ---- the version that is written

-- a branch that is no import is one of the second version
branch-written : (types : List Node) (b : Kind) → is_import b ≡ false → IsBranch types b → IsBranchIn Two types b
branch-written types (Call node) plain is = record {
  kind = omega arith;
  count = is.count;
  words = is.words;
  named = tt;
}
branch-written types (Tail node) plain is = record {
  kind = omega arith;
  count = is.count;
  words = is.words;
  named = tt;
}
branch-written types Return plain is = record { kind = omega arith; count = is.count; words = tt; named = tt }
branch-written types (Switch places) plain is = record {
  kind = omega arith;
  count = is.count;
  words = is.words;
  named = tt;
}
branch-written types (Import name cell) plain is = absurd cc

branches-written : (types : List Node) (bs : List Kind) → list_any is_import bs ≡ false
    → AllByRecursion (IsBranch types) bs → AllByRecursion (IsBranchIn Two types) bs
branches-written types [] plain are = tt
branches-written types (b ∷ bs) plain are =
    let both = or_parts (is_import b) (list_any is_import bs) plain in
    (branch-written types b both.0 are.0, branches-written types bs both.1 are.1)

function-written : (types : List Node) (f : Function) → IsFunction types f → IsFunctionIn Two types f
function-written types f is = record { offset = is.offset; length = is.length; ty = is.ty; name = is.name }

written-by : (types : List Node) (r : Records) (b : Bool) → list_any is_import r.branches ≡ b → AreRecords types r
    → AreRecordsIn (if b then Three else Two) types r
written-by types r true some are = are
written-by types r false none are =
    let functions = All-from_recursion (IsFunction types) r.functions are.functions in
    record {
      function_count = are.function_count;
      branch_count = are.branch_count;
      functions = recursion_from_All (IsFunctionIn Two types) r.functions
          (All-weaker (IsFunction types) (IsFunctionIn Two types) (function-written types) r.functions functions);
      branches = branches-written types r.branches none are.branches;
    }

pub records-written : (types : List Node) (r : Records) → AreRecords types r
    → AreRecordsIn (version_for r.branches) types r
records-written types r are = written-by types r (list_any is_import r.branches) refl are
