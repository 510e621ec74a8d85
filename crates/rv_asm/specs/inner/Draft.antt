-- What the lines of a source make, one after the other: each adds to the draft, or has the least of its faults.
use Rattle.std.specs.Prelude.{ℕ, ◌+◌, ◌*◌, ◌^◌, Bool, true, false, ◌&&◌, nat_lt, nat_le, ℤ, pos, negsuc, List, [], ◌∷◌, ◌++◌, length, replicate, if◌then◌else◌, Option, Some, None, unwrap_or, option_map}
use Rattle.elf_read.specs.declared.object.Area.{Area}
use Rattle.elf_read.specs.declared.object.Area.TheVariants as areas
use Rattle.elf_read.specs.declared.object.Reloc.{Reloc}
use Rattle.elf_read.specs.declared.relocation.TheConstants as relocs
use Rattle.cfi_word.specs.declared.limits.TheConstants.{MAX_DATA, MAX_RELOCS, MAX_WORDS, MAX_NODES, MAX_FUNCTIONS, MAX_BRANCHES, MAX_NAME}
use Rattle.cfi_type_table.specs.Node.{Node}
use Rattle.cfi_aux.specs.declared.records.Function.{Function}
use Rattle.cfi_aux.specs.declared.records.Kind.{Kind}
use Rattle.cfi_aux.specs.declared.records.Kind.TheVariants as branches
use Rattle.rv_line.specs.declared.statement.NodeKind.{NodeKind}
use Rattle.rv_line.specs.declared.statement.Datum.{Datum}
use Rattle.rv_line.specs.declared.statement.Datum.TheVariants as data_words
use Rattle.rv_line.specs.declared.statement.Statement.{Statement}
use Rattle.rv_line.specs.declared.statement.Statement.TheVariants as statements
use Rattle.cfi_values.specs.Some.{◌>>=◌}
use Rattle.rv_names.specs.declared.names.Entry.{Entry}
use Rattle.rv_asm.specs.declared.file.File.{File}
use Rattle.rv_asm.specs.declared.spot.Spot.{Spot}
use Rattle.rv_asm.specs.declared.words.Words.{Words}
use Rattle.rv_asm.specs.Made.{ended, values_in}
use Rattle.rv_asm.specs.Node.{callable_in, node_of}
use Rattle.rv_asm.specs.Relocs.{reloc_by, relocs_of}
use Rattle.rv_asm.specs.Words.{word_bytes, words_bytes, size_of, low_word, words_of}

-- what the lines so far have made: text and data, their relocations, the nodes, functions and branches of the records,
-- the kind that the next indirect jump has, and the function that is open, of length 0
pub record Draft : Type 0 where
  pub text : List ℕ
  pub data_bytes : List ℕ
  pub text_relocs : List Reloc
  pub data_relocs : List Reloc
  pub nodes : List Node
  pub functions : List Function
  pub branches : List Kind
  pub kind : Option Kind
  pub function : Option Function

-- nothing, before the first line
abbrev pub empty : Draft
empty = record {
  text = [];
  data_bytes = [];
  text_relocs = [];
  data_relocs = [];
  nodes = [];
  functions = [];
  branches = [];
  kind = None;
  function = None;
}

-- so many more relocations are within the limit
abbrev pub has_relocs : Draft → (count : ℕ) → Bool
has_relocs draft count = nat_le (length draft.text_relocs + length draft.data_relocs + count) MAX_RELOCS

-- text with words and their relocations, within the limits
abbrev pub with_words : Spot → Draft → (added : List Reloc) → Words → Option Draft
with_words spot draft added words =
    if nat_le (spot.text_end + size_of words) (4 * MAX_WORDS) && has_relocs draft (length added)
    then Some (record draft {
      text = draft.text ++ words_bytes words;
      text_relocs = draft.text_relocs ++ added;
    }) else None

-- a draft with the words of a statement
abbrev pub with_code : File → Spot → Draft → Statement → Option Draft
with_code file spot draft statement = do
  words ← words_of file.names spot.text_end statement
  with_words spot draft (relocs_of file.names spot statement) words

-- an indirect jump takes the kind that is set, else that of a return
abbrev pub with_jump : (records : Bool) → Draft → Option Draft
with_jump false draft = Some draft
with_jump true draft =
    if nat_lt (length draft.branches) MAX_BRANCHES
    then Some (record draft {
      branches = draft.branches ++ unwrap_or draft.kind branches.Return ∷ [];
      kind = None;
    }) else None

-- data with a word and its relocations, and with zeros, within the limits
abbrev pub with_data : Spot → Draft → (word : ℕ) → (added : List Reloc) → Option Draft
with_data spot draft word added =
    if nat_le (spot.data_end + 4) MAX_DATA && has_relocs draft (length added)
    then Some (record draft {
      data_bytes = draft.data_bytes ++ word_bytes word;
      data_relocs = draft.data_relocs ++ added;
    }) else None

-- a draft with a word of data
abbrev pub with_datum : (table : List Entry) → Spot → Draft → Datum → Option Draft
with_datum table spot draft (data_words.Number number) = with_data spot draft (low_word number) []
with_datum table spot draft (data_words.Name name) =
    with_data spot draft 0 (reloc_by table areas.Data spot.data_end relocs.WORD name ∷ [])

-- a draft with so many zero bytes, if they fit
abbrev pub with_zeros : Spot → Draft → ℤ → Option Draft
with_zeros spot draft (pos n) =
    if nat_le (spot.data_end + n) MAX_DATA
    then Some (record draft { data_bytes = draft.data_bytes ++ replicate n 0 }) else None
with_zeros spot draft (negsuc n) = None

-- a draft with a word, in its area
abbrev pub with_word : Area → File → Spot → Draft → Datum → Option Draft
with_word areas.Text file spot draft datum = with_code file spot draft (statements.Word datum)
with_word areas.Data file spot draft datum = with_datum file.names spot draft datum

-- a node
abbrev pub with_node : Draft → Option Node → Option Draft
with_node draft None = None
with_node draft (Some node) =
    if nat_lt (length draft.nodes) MAX_NODES
    then Some (record draft { nodes = draft.nodes ++ node ∷ [] }) else None

-- a function begins at the end of the text
abbrev pub with_function : (kinds : List NodeKind) → Spot → Draft → (name : List ℕ) → (node : ℤ) → (taken : Bool) →
    Option Draft
with_function kinds spot draft name node taken = do
  ty ← callable_in kinds node
  if nat_lt (length draft.functions) MAX_FUNCTIONS && nat_le (length name) MAX_NAME
      then Some (record draft {
        function = Some (record { offset = spot.text_end; length = 0; ty = ty; taken = taken; name = name });
      }) else None

-- a function that ends here
abbrev pub closed : Spot → Draft → Option Function → Draft
closed spot draft None = draft
closed spot draft (Some function) = record draft {
  functions = draft.functions ++ ended spot.text_end function ∷ [];
  function = None;
}

-- the kind of the next indirect jump
abbrev pub with_kind : Draft → Option Kind → Option Draft
with_kind draft None = None
with_kind draft (Some kind) = Some (record draft { kind = Some kind })

-- a draft with a switch of these entries
abbrev pub with_switch : Draft → (values : List ℕ) → Option Draft
with_switch draft values =
    if nat_lt (length values) (2 ^ 32) then with_kind draft (Some (branches.Switch values)) else None

-- what a statement makes of the draft; none where a number is outside its field or a limit is passed
abbrev pub with_statement : File → Spot → Draft → Statement → Option Draft
with_statement file spot draft statements.Blank = Some draft
with_statement file spot draft statements.Text = Some draft
with_statement file spot draft statements.Data = Some draft
with_statement file spot draft (statements.Globl name) = Some draft
with_statement file spot draft (statements.Word datum) = with_word spot.area file spot draft datum
with_statement file spot draft (statements.Zero number) = with_zeros spot draft number
with_statement file spot draft (statements.Node kind fields) = with_node draft (node_of kind fields)
with_statement file spot draft (statements.Func name node taken) = with_function file.kinds spot draft name node taken
with_statement file spot draft statements.EndFunc = Some (closed spot draft draft.function)
with_statement file spot draft (statements.KindCall node) =
    with_kind draft (option_map branches.Call (callable_in file.kinds node))
with_statement file spot draft (statements.KindTail node) =
    with_kind draft (option_map branches.Tail (callable_in file.kinds node))
with_statement file spot draft statements.KindReturn = with_kind draft (Some branches.Return)
with_statement file spot draft (statements.KindSwitch names) = with_switch draft (values_in file.names names)
with_statement file spot draft (statements.Jalr rd rs1 imm) = do
  next ← with_jump file.records draft
  with_code file spot next (statements.Jalr rd rs1 imm)
with_statement file spot draft statements.Ret = do
  next ← with_jump file.records draft
  with_code file spot next statements.Ret
with_statement file spot draft instruction = with_code file spot draft instruction
