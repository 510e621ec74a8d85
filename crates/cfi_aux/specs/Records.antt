-- What records are, and the bytes of each: words with the version, the number of functions and the number of branches,
-- then each function, then each branch. A word is four bytes, the lowest first.
use Rattle.std.specs.Prelude.{◌≡◌, ℕ, ◌-◌, ◌%◌, ◌<◌, ◌≤◌, ◌^◌, Bool, if◌then◌else◌, List, [], ◌∷◌, ◌++◌, length, replicate, IsTrue, All, Option, Some, None, ⊤}
use Rattle.std.specs.List.{flat_map, AllByRecursion}
use Rattle.std.specs.Str.{is_utf8}
use Rattle.cfi_type_table.specs.Node.{Node}
use Rattle.cfi_type_table.specs.Spelling.{word}
use Rattle.cfi_aux.specs.declared.format.TheConstants.{CALL, TAIL, RETURN, SWITCH, IMPORT}
use Rattle.cfi_word.specs.declared.limits.TheConstants.{MAX_FUNCTIONS, MAX_BRANCHES}
use Rattle.cfi_aux.specs.declared.records.Function.{Function}
use Rattle.cfi_aux.specs.declared.records.Records.{Records}
use Rattle.cfi_aux.specs.declared.records.Kind.{Kind}
use Rattle.cfi_aux.specs.declared.records.Kind.TheVariants.{Call, Tail, Return, Switch, Import}
use Rattle.cfi_aux.specs.declared.version.RecordVersion.{RecordVersion}
use Rattle.cfi_aux.specs.declared.version.TheConstants.{LATEST}
use Rattle.cfi_aux.specs.Format.{is_whole, is_length, is_name_length, import_words, has_count}
use Rattle.cfi_aux.specs.Version.{version_word, is_type, last_kind, version_for}

-- how many zero bytes follow n bytes up to the next multiple of four
abbrev pub padding : ℕ → ℕ
padding n = (4 - n % 4) % 4

-- a name: a word with the number of its bytes, the bytes, and zero bytes up to a multiple of four
abbrev pub name_bytes : List ℕ → List ℕ
name_bytes name = word (length name) ++ (name ++ replicate (padding (length name)) 0)

-- the word that says whether a function's address is taken
abbrev pub flag_of : (taken : Bool) → ℕ
flag_of taken = if taken then 1 else 0

-- the bytes of a function: four words and its name
abbrev pub function_bytes : Function → List ℕ
function_bytes f = word f.offset ++ (word f.length ++ (word f.ty ++ (word (flag_of f.taken) ++ name_bytes f.name)))

-- a branch's kind, and its numbers: a node, the places of a switch, or the cell of an import
abbrev pub kind_number : Kind → ℕ
kind_number (Call node) = CALL
kind_number (Tail node) = TAIL
kind_number Return = RETURN
kind_number (Switch places) = SWITCH
kind_number (Import name cell) = IMPORT

-- the words of a branch's kind behind the one that says which it is
abbrev pub kind_words : Kind → List ℕ
kind_words (Call node) = node ∷ []
kind_words (Tail node) = node ∷ []
kind_words Return = []
kind_words (Switch places) = places
kind_words (Import name cell) = cell ∷ []

-- the words behind a branch's kind and their number: a node, the places of a switch, or the cell and name of an import
abbrev pub body_bytes : Kind → List ℕ
body_bytes (Call node) = word node
body_bytes (Tail node) = word node
body_bytes Return = []
body_bytes (Switch places) = flat_map word places
body_bytes (Import name cell) = word cell ++ name_bytes name

-- how many words these are
abbrev pub word_count : Kind → ℕ
word_count (Call node) = 1
word_count (Tail node) = 1
word_count Return = 0
word_count (Switch places) = length places
word_count (Import name cell) = import_words (length name)

-- a branch: its kind, the number of the words that follow, and these
abbrev pub branch_bytes : Kind → List ℕ
branch_bytes b = word (kind_number b) ++ (word (word_count b) ++ body_bytes b)

-- what stands behind the version
abbrev pub records_bytes : Records → List ℕ
records_bytes r =
    (word (length r.functions) ++ word (length r.branches))
    ++ (flat_map function_bytes r.functions ++ flat_map branch_bytes r.branches)

-- the bytes of records in a version
abbrev pub spelling_in : RecordVersion → Records → List ℕ
spelling_in version r = word (version_word version) ++ records_bytes r

-- the bytes that are written
abbrev pub spelling : Records → List ℕ
spelling r = spelling_in (version_for r.branches) r

-- a number that a word has
abbrev pub IsWordSized : ℕ → Type 0
IsWordSized n = n < 2 ^ 32

-- a name has 1 to 255 bytes of UTF-8
pub record IsName (name : List ℕ) : Type 0 where
  pub count : IsTrue (is_name_length (length name))
  pub text : IsTrue (is_utf8 name)

-- a function begins at an instruction, has whole ones, at least one, and its type is one that the version takes
pub record IsFunctionIn (version : RecordVersion) (types : List Node) (f : Function) : Type 0 where
  pub offset : IsWordSized f.offset × IsTrue (is_whole f.offset)
  pub length : IsWordSized f.length × IsTrue (is_length f.length)
  pub ty : IsWordSized f.ty × IsTrue (is_type version types f.ty)
  pub name : IsName f.name

-- a number of a branch: the type of a call and of a tail call is one that the version takes, a switch leads to
-- instructions, and the cell of an import begins at a multiple of four
abbrev pub IsBranchWordIn : RecordVersion → (types : List Node) → Kind → ℕ → Type 0
IsBranchWordIn version types (Call node) n = IsWordSized n × IsTrue (is_type version types n)
IsBranchWordIn version types (Tail node) n = IsWordSized n × IsTrue (is_type version types n)
IsBranchWordIn version types Return n = ⊤
IsBranchWordIn version types (Switch places) n = IsWordSized n × IsTrue (is_whole n)
IsBranchWordIn version types (Import name cell) n = IsWordSized n × IsTrue (is_whole n)

-- a name as a function has one, where the branch is an import
abbrev pub IsNamed : Kind → Type 0
IsNamed (Import name cell) = IsName name
IsNamed (Call node) = ⊤
IsNamed (Tail node) = ⊤
IsNamed Return = ⊤
IsNamed (Switch places) = ⊤

-- a branch is of a kind of the version, has the number of words of its kind, and each as it is wanted
pub record IsBranchIn (version : RecordVersion) (types : List Node) (b : Kind) : Type 0 where
  pub kind : kind_number b ≤ last_kind version
  pub count : IsTrue (has_count (kind_number b) (word_count b))
  pub words : AllByRecursion (IsBranchWordIn version types b) (kind_words b)
  pub named : IsNamed b

-- records of a version: not too many, each as it is wanted
pub record AreRecordsIn (version : RecordVersion) (types : List Node) (r : Records) : Type 0 where
  pub function_count : length r.functions ≤ MAX_FUNCTIONS
  pub branch_count : length r.branches ≤ MAX_BRANCHES
  pub functions : AllByRecursion (IsFunctionIn version types) r.functions
  pub branches : AllByRecursion (IsBranchIn version types) r.branches

-- ---- records of the latest version, which takes what the earlier ones take

-- such a function
abbrev pub IsFunction : (types : List Node) → Function → Type 0
IsFunction types f = IsFunctionIn LATEST types f

-- a word of such a branch
abbrev pub IsBranchWord : (types : List Node) → Kind → ℕ → Type 0
IsBranchWord types b n = IsBranchWordIn LATEST types b n

-- such a branch
abbrev pub IsBranch : (types : List Node) → Kind → Type 0
IsBranch types b = IsBranchIn LATEST types b

-- such records
abbrev pub AreRecords : (types : List Node) → Records → Type 0
AreRecords types r = AreRecordsIn LATEST types r

-- the bytes spell the records: in a version of which they are records
pub record Spells (types : List Node) (bytes : List ℕ) (r : Records) : Type 0 where
  pub version : RecordVersion
  pub good : AreRecordsIn version types r
  pub spelled : bytes ≡ spelling_in version r

-- how long the list of a branch is: the places of a switch, the bytes of an import's name; a node counts one
abbrev pub list_length : Kind → ℕ
list_length (Call node) = 1
list_length (Tail node) = 1
list_length Return = 0
list_length (Switch places) = length places
list_length (Import name cell) = length name

-- records whose numbers of functions, of branches, of a name's bytes and of a switch's places have words of four bytes
pub record CanBeWritten (r : Records) : Type 0 where
  pub functions : length r.functions < 2 ^ 32
  pub branches : length r.branches < 2 ^ 32
  pub names : All (λ f. length f.name < 2 ^ 32) r.functions
  pub words : All (λ b. list_length b < 2 ^ 32) r.branches

-- each entry of a switch has P; other branches have no entries
abbrev pub AllEntries : (P : ℕ → Type 0) → Kind → Type 0
AllEntries P (Switch entries) = All P entries
AllEntries P (Call node) = ⊤
AllEntries P (Tail node) = ⊤
AllEntries P Return = ⊤
AllEntries P (Import name cell) = ⊤

-- where there is a record
abbrev pub AllEntriesIn : (P : ℕ → Type 0) → Option Kind → Type 0
AllEntriesIn P None = ⊤
AllEntriesIn P (Some kind) = AllEntries P kind
