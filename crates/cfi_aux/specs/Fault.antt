-- Records from their bytes: each list of bytes has its records, or the fault that stands first in the order of the
-- bytes. A record is named by its number: functions from 0, and branches on from there.
use Rattle.std.specs.Prelude.{ℕ, zero, suc, Bool, List, [], ◌∷◌, length, take, drop, ◌==◌, nat_lt, nat_le, if◌then◌else◌, Option, Some, None, Result, Ok, Err}
use Rattle.std.specs.Int.{w32, from_le_bytes}
use Rattle.std.specs.Str.{is_utf8}
use Rattle.cfi_type_table.specs.Node.{Node}
use Rattle.cfi_aux.specs.declared.format.TheConstants.{CALL, TAIL, RETURN, SWITCH}
use Rattle.cfi_word.specs.declared.limits.TheConstants.{MAX_FUNCTIONS, MAX_BRANCHES}
use Rattle.cfi_aux.specs.declared.fault.AuxFault.{AuxFault}
use Rattle.cfi_aux.specs.declared.fault.AuxFault.TheVariants.{Version, Short, BadRecord}
use Rattle.cfi_aux.specs.declared.records.Function.{Function}
use Rattle.cfi_aux.specs.declared.records.Records.{Records}
use Rattle.cfi_aux.specs.declared.records.Kind.{Kind}
use Rattle.cfi_aux.specs.declared.records.Kind.TheVariants.{Call, Tail, Return, Switch, Import}
use Rattle.cfi_aux.specs.Format.{is_whole, is_length, is_flag, is_name_length, fits_import, is_cell_in, has_count}
use Rattle.cfi_aux.specs.declared.version.RecordVersion.{RecordVersion}
use Rattle.cfi_aux.specs.Version.{version_of, is_type, last_kind}
use Rattle.cfi_aux.specs.Records.{padding}
use Rattle.cfi_aux.specs.Reading.{Reader, word_where, and_with, and_also, seen_as, each}
use Rattle.cfi_values.specs.Then.{◌>>=◌, unless_bad}

-- ---- a function

-- n bytes of UTF-8, which are judged once they are there
unfoldable pub text_at : (k n : ℕ) → Reader (List ℕ)
text_at k n bytes =
    if nat_lt (length bytes) n then Err Short
    else unless_bad (is_utf8 (take n bytes)) (BadRecord k) (Ok (take n bytes, drop n bytes))

-- `count` zero bytes, one by one
unfoldable pub zeroes_at : (k count : ℕ) → Reader (Unit {0})
zeroes_at k zero bytes = Ok (tt, bytes)
zeroes_at k (suc count) [] = Err Short
zeroes_at k (suc count) (byte ∷ bytes) = unless_bad (byte == 0) (BadRecord k) (zeroes_at k count bytes)

-- n bytes of a name, and zero bytes up to a multiple of four
unfoldable pub padded_at : (k n : ℕ) → Reader (List ℕ)
padded_at k n = seen_as (λ name. name.0) (and_also (text_at k n) (zeroes_at k (padding n)))

-- the number of a name's bytes, which passes a test, and so many bytes, padded
unfoldable pub name_where : (test : ℕ → Bool) → (k : ℕ) → Reader (List ℕ)
name_where test k = seen_as (λ name. name.1) (and_with (word_where test (BadRecord k)) (padded_at k))

-- a name of 1 to 255 bytes
abbrev pub name_at : (k : ℕ) → Reader (List ℕ)
name_at k = name_where is_name_length k

-- the function of the numbers and the name that stand for it, one after the other
abbrev pub function_of : ℕ × (ℕ × (ℕ × (ℕ × List ℕ))) → Function
function_of (offset, (size, (ty, (flags, name)))) =
    record { offset = offset; length = size; ty = ty; taken = flags == 1; name = name }

-- a function's offset, length, type, flags and name
unfoldable pub function_at : RecordVersion → (types : List Node) → (k : ℕ) → Reader Function
function_at version types k =
    seen_as function_of
    (and_also (word_where is_whole (BadRecord k))
    (and_also (word_where is_length (BadRecord k))
    (and_also (word_where (is_type version types) (BadRecord k))
    (and_also (word_where is_flag (BadRecord k)) (name_at k)))))

-- ---- a branch

-- a place to which the branch of record k leads; each one may stand as any other
abbrev pub place_at : (k i : ℕ) → Reader ℕ
place_at k i = word_where is_whole (BadRecord k)

-- an import of n words: its cell, within the data where its length is known, and its name
unfoldable pub import_at : (size : Option ℕ) → (k n : ℕ) → Reader Kind
import_at size k n =
    seen_as (λ found. Import found.1 found.0)
    (and_also (word_where (is_cell_in size) (BadRecord k)) (name_where (fits_import n) k))

-- the n words of a branch of a kind: a node, none, the places of a switch, or an import's cell and name
unfoldable pub body_at : RecordVersion → (types : List Node) → (size : Option ℕ) → (k kind n : ℕ) → Reader Kind
body_at version types size k kind n =
    if kind == CALL then seen_as Call (word_where (is_type version types) (BadRecord k))
    else (if kind == TAIL then seen_as Tail (word_where (is_type version types) (BadRecord k))
    else (if kind == RETURN then (λ bytes. Ok (Return, bytes))
    else (if kind == SWITCH then seen_as Switch (each (place_at k) 0 n)
    else import_at size k n)))

-- a branch's kind, which the version has, the number of its words, and the words
unfoldable pub branch_at : RecordVersion → (types : List Node) → (size : Option ℕ) → (k : ℕ) → Reader Kind
branch_at version types size k =
    seen_as (λ branch. branch.1.1)
    (and_with (word_where (λ kind. nat_le kind (last_kind version)) (BadRecord k))
    (λ kind. and_with (word_where (has_count kind) (BadRecord k)) (λ n. body_at version types size k kind n)))

-- ---- all records

-- the version of the first word, where the word is there and is that of a version
abbrev pub version_or : Option RecordVersion → (rest : List ℕ) → Result (RecordVersion × List ℕ) AuxFault
version_or None rest = Err Version
version_or (Some version) rest = Ok (version, rest)

-- the version in the first word; the fault where there is none, or no such version
unfoldable pub version_at : Reader RecordVersion
version_at bytes =
    if nat_lt (length bytes) 4 then Err Version
    else version_or (version_of (from_le_bytes w32 (take 4 bytes))) (drop 4 bytes)

-- a number of records that is not above the limit; else the record after the last is the bad one
abbrev pub count_at : (limit : ℕ) → Reader ℕ
count_at limit = word_where (λ n. nat_le n limit) (BadRecord limit)

-- functions, and then branches, which are numbered on
abbrev pub lists_at : RecordVersion → (types : List Node) → (size : Option ℕ) → (counts : ℕ × ℕ)
    → Reader (List Function × List Kind)
lists_at version types size counts =
    and_also (each (function_at version types) 0 counts.0) (each (branch_at version types size) counts.0 counts.1)

-- the records of the functions and branches that were read, without their counts
abbrev pub records_of : (ℕ × ℕ) × (List Function × List Kind) → Records
records_of (counts, (functions, branches)) = record { functions = functions; branches = branches }

-- what stands behind the version: the numbers of functions and branches, and these
unfoldable pub records_at : RecordVersion → (types : List Node) → (size : Option ℕ) → Reader Records
records_at version types size =
    seen_as records_of
    (and_with (and_also (count_at MAX_FUNCTIONS) (count_at MAX_BRANCHES)) (lists_at version types size))

-- the version, and records of it
unfoldable pub whole_at : (types : List Node) → (size : Option ℕ) → Reader (RecordVersion × Records)
whole_at types size = and_with version_at (λ version. records_at version types size)

-- all of the bytes, none is left over: the cells of imports are to lie within data of a length, where that is known
unfoldable pub records_within : (types : List Node) → (size : Option ℕ) → List ℕ → Result Records AuxFault
records_within types size bytes =
    whole_at types size bytes >>= λ found. unless_bad (length found.1 == 0) Short (Ok found.0.1)

-- the records that bytes spell, whatever the data
abbrev pub records_in : (types : List Node) → List ℕ → Result Records AuxFault
records_in types bytes = records_within types None bytes
