-- A draft of lines has what each of them makes.
use Rattle.std.proofs.Common.{◌≡◌, ℕ, ◌+◌, ◌^◌, Bool, true, false, not, ◌&&◌, nat_lt, nat_le, pos, negsuc, List, [], ◌∷◌, ◌++◌, length, replicate, if◌then◌else◌, Option, Some, None, is_none, is_some, unwrap_or, option_map, refl, sym, ap, ◌∙◌, append-nil}
use Rattle.std.proofs.lemmas.Bool.{or_parts}
use Rattle.std.proofs.lemmas.List.{length-map}
use Rattle.elf_read.specs.declared.object.Area.{Area}
use Rattle.elf_read.specs.declared.object.Area.TheVariants as areas
use Rattle.elf_read.specs.declared.object.Reloc.{Reloc}
use Rattle.elf_read.specs.declared.relocation.TheConstants as relocs
use Rattle.cfi_type_table.specs.Node.{Node}
use Rattle.cfi_word.specs.declared.limits.TheConstants.{MAX_NODES, MAX_FUNCTIONS, MAX_BRANCHES, MAX_NAME}
use Rattle.cfi_aux.specs.declared.records.Function.{Function}
use Rattle.cfi_aux.specs.declared.records.Kind.{Kind}
use Rattle.cfi_aux.specs.declared.records.Kind.TheVariants as branches
use Rattle.rv_line.specs.declared.statement.NodeKind.{NodeKind}
use Rattle.rv_line.specs.declared.statement.Datum.TheVariants as data_words
use Rattle.rv_line.specs.declared.statement.Statement.{Statement}
use Rattle.rv_line.specs.declared.statement.Statement.TheVariants as statements
use Rattle.cfi_values.specs.Some.{◌>>=◌}
use Rattle.rv_names.specs.declared.names.Entry.{Entry}
use Rattle.rv_asm.specs.declared.file.File.{File}
use Rattle.rv_asm.specs.declared.spot.Spot.{Spot}
use Rattle.rv_asm.specs.declared.words.Words.{Words}
use Rattle.rv_asm.specs.inner.Draft.{Draft, with_words, with_code, with_data, with_zeros, with_node, closed, with_kind, with_switch, with_statement}
use Rattle.rv_asm.specs.Node.{callable_in, node_of}
use Rattle.rv_asm.specs.Relocs.{reloc_by, relocs_of}
use Rattle.rv_asm.specs.Words.{word_bytes, low_word, words_of}
use Rattle.rv_asm.specs.Made.{listed, bytes_of, text_in, data_in, relocs_in, nodes_in, begun, opened, ended, functions_in, value_in, values_in, kind_set}
use Rattle.rv_asm.specs.Fault.{is_bare, Found, is_misplaced, Totals, relocs_fit, words_fit, data_fits, statement_fits}
use Rattle.rv_asm.proofs.PlacedLemmas.{spot_by}

-- a draft by its parts
abbrev pub draft_by : (text bytes : List ℕ) (text_relocs data_relocs : List Reloc) (nodes : List Node)
    (functions : List Function) (kinds : List Kind) (kind : Option Kind) (function : Option Function) → Draft
draft_by text bytes text_relocs data_relocs nodes functions kinds kind function = record {
  text = text;
  data_bytes = bytes;
  text_relocs = text_relocs;
  data_relocs = data_relocs;
  nodes = nodes;
  functions = functions;
  branches = kinds;
  kind = kind;
  function = function;
}

pub draft-eq : {t t' d d' : List ℕ} {r r' q q' : List Reloc} {n n' : List Node} {f f' : List Function}
    {b b' : List Kind}
    {k k' : Option Kind} {o o' : Option Function} →
    t ≡ t' → d ≡ d' → r ≡ r' → q ≡ q' → n ≡ n' → f ≡ f' → b ≡ b' → k ≡ k' → o ≡ o' →
    draft_by t d r q n f b k o ≡ draft_by t' d' r' q' n' f' b' k' o'
draft-eq text bytes text_relocs data_relocs nodes functions kinds kind function =
    rw (text, bytes, text_relocs, data_relocs, nodes, functions, kinds, kind, function) refl

-- without records no indirect jump takes a kind
abbrev pub kind_held : (records : Bool) → File → Option Statement → Option (Option Kind)
kind_held records file (Some (statements.Jalr rd rs1 imm)) = if records then Some None else None
kind_held records file (Some statements.Ret) = if records then Some None else None
kind_held records file other = kind_set file other

abbrev pub kinds_held : (records : Bool) → Option Kind → Option Statement → List Kind
kinds_held records kind (Some (statements.Jalr rd rs1 imm)) = if records then unwrap_or kind branches.Return ∷ []
    else []
kinds_held records kind (Some statements.Ret) = if records then unwrap_or kind branches.Return ∷ [] else []
kinds_held records kind other = []

-- a draft with what a statement makes where it stands
abbrev pub grown : File → Spot → Draft → Option Statement → Draft
grown file spot d s = record {
  text = d.text ++ text_in spot.area file spot s;
  data_bytes = d.data_bytes ++ data_in spot.area s;
  text_relocs = d.text_relocs ++ relocs_in areas.Text spot.area file spot s;
  data_relocs = d.data_relocs ++ relocs_in areas.Data spot.area file spot s;
  nodes = d.nodes ++ nodes_in s;
  functions = d.functions ++ functions_in spot.text_end d.function s;
  branches = d.branches ++ kinds_held file.records d.kind s;
  kind = unwrap_or (kind_held file.records file s) d.kind;
  function = unwrap_or (opened file.kinds spot.text_end s) d.function;
}

-- what a statement finds by a draft, and what has been made by then
abbrev pub found_with : Spot → Draft → (jump : Bool) → Found
found_with spot d jump = record { spot = spot; function = d.function; kind = d.kind; jump = jump }

abbrev pub totals_by : Draft → (names : ℕ) → Totals
totals_by d names = record {
  relocs = length d.text_relocs + length d.data_relocs;
  nodes = length d.nodes;
  functions = length d.functions;
  branches = length d.branches;
  names = names;
}

-- words of text, and data, within the limits
abbrev text_grown : Draft → Option Words → List Reloc → Draft
text_grown dr words added = record dr { text = dr.text ++ bytes_of words; text_relocs = dr.text_relocs ++ added }

abbrev data_grown : Draft → List ℕ → List Reloc → Draft
data_grown dr bytes added = record dr { data_bytes = dr.data_bytes ++ bytes; data_relocs = dr.data_relocs ++ added }

words-step : (spot : Spot) (dr : Draft) (count : ℕ) (added : List Reloc) (o : Option Words) →
    (o >>= λ words. with_words spot dr added words)
    ≡ (if words_fit spot (totals_by dr count) (length added) o then Some (text_grown dr o added) else None)
words-step spot dr count added None = refl
words-step spot dr count added (Some words) = refl

node-step : (spot : Spot) (dr : Draft) (o : Option Node) →
    with_node dr o ≡ (if is_some o && nat_lt (length dr.nodes) MAX_NODES
    then Some (record dr { nodes = dr.nodes ++ listed o }) else None)
node-step spot dr None = refl
node-step spot dr (Some node) = refl

func-step : (dr : Draft) (end : ℕ) (name : List ℕ) (taken : Bool) (o : Option ℕ) → is_none o ≡ false →
    (o >>= λ ty. if nat_lt (length dr.functions) MAX_FUNCTIONS && nat_le (length name) MAX_NAME
    then Some (record dr { function = Some (begun end name taken ty) }) else None)
    ≡ (if nat_lt (length dr.functions) MAX_FUNCTIONS && nat_le (length name) MAX_NAME
    then Some (record dr { function = option_map (begun end name taken) o }) else None)
func-step dr end name taken None is = absurd (cc)
func-step dr end name taken (Some ty) is = refl

close-step : (spot : Spot) (dr : Draft) (o : Option Function) → is_bare spot.text_end o ≡ false →
    closed spot dr o ≡ record dr {
      functions = dr.functions ++ listed (option_map (ended spot.text_end) o);
      function = None;
    }
close-step spot dr None is = absurd (cc)
close-step spot dr (Some function) is = refl

kind-step : (dr : Draft) (make : ℕ → Kind) (o : Option ℕ) → is_none o ≡ false →
    with_kind dr (option_map make o) ≡ Some (record dr { kind = option_map make o })
kind-step dr make None is = absurd (cc)
kind-step dr make (Some node) is = refl

-- each statement that may stand where it does gives what it makes, where that fits
abbrev Grows : File → Spot → Draft → (jump : Bool) → (count : ℕ) → Statement → Type 0
Grows file spot dr jump count s = is_misplaced file (found_with spot dr jump) s ≡ false →
    with_statement file spot dr s
    ≡ (if statement_fits file spot (totals_by dr count) s then Some (grown file spot dr (Some s)) else None)

module _ (names : List Entry) (kinds : List NodeKind) (t d p : ℕ) (dr : Draft) (jump : Bool) (count : ℕ) where
  abbrev file : Bool → File
  file records = record { names = names; kinds = kinds; records = records }

  -- an instruction or a word of text
  code : (records : Bool) (s : Statement) →
      grown (file records) (spot_by areas.Text t d p) dr (Some s)
      ≡ text_grown dr (words_of names t s) (relocs_of names (spot_by areas.Text t d p) s) →
      with_code (file records) (spot_by areas.Text t d p) dr s
      ≡ (if words_fit (spot_by areas.Text t d p) (totals_by dr count)
      (length (relocs_of names (spot_by areas.Text t d p) s)) (words_of names t s)
      then Some (grown (file records) (spot_by areas.Text t d p) dr (Some s)) else None)
  code records s same =
      rw same (words-step (spot_by areas.Text t d p) dr count (relocs_of names (spot_by areas.Text t d p) s)
      (words_of names t s))

  -- data
  datum : (records : Bool) (s : Statement) (word : ℕ) (added : List Reloc) →
      grown (file records) (spot_by areas.Data t d p) dr (Some s) ≡ data_grown dr (word_bytes word) added →
      with_data (spot_by areas.Data t d p) dr word added
      ≡ (if data_fits (spot_by areas.Data t d p) 4
      && relocs_fit (totals_by dr count) (length added)
      then Some (grown (file records) (spot_by areas.Data t d p) dr (Some s)) else None)
  datum records s word added same = rw same refl

  zeros : (records : Bool) (s : Statement) (n : ℕ) →
      grown (file records) (spot_by areas.Data t d p) dr (Some s)
      ≡ record dr { data_bytes = dr.data_bytes ++ replicate n 0 } →
      with_zeros (spot_by areas.Data t d p) dr (pos n)
      ≡ (if data_fits (spot_by areas.Data t d p) n
      then Some (grown (file records) (spot_by areas.Data t d p) dr (Some s)) else None)
  zeros records s n same = rw same refl

  -- the records
  node : (records : Bool) (area : Area) (s : Statement) (o : Option Node) →
      grown (file records) (spot_by area t d p) dr (Some s) ≡ record dr { nodes = dr.nodes ++ listed o } →
      with_node dr o
      ≡ (if is_some o && nat_lt (length dr.nodes) MAX_NODES
      then Some (grown (file records) (spot_by area t d p) dr (Some s)) else None)
  node records area s o same = rw same (node-step (spot_by area t d p) dr o)

  func : (records : Bool) (s : Statement) (name : List ℕ) (taken : Bool) (o : Option ℕ) → is_none o ≡ false →
      grown (file records) (spot_by areas.Text t d p) dr (Some s) ≡ record dr {
        function = option_map (begun t name taken) o;
      } →
      (o >>= λ ty. if nat_lt (length dr.functions) MAX_FUNCTIONS && nat_le (length name) MAX_NAME
      then Some (record dr { function = Some (begun t name taken ty) }) else None)
      ≡ (if nat_lt (length dr.functions) MAX_FUNCTIONS && nat_le (length name) MAX_NAME
      then Some (grown (file records) (spot_by areas.Text t d p) dr (Some s)) else None)
  func records s name taken o is same = rw same (func-step dr t name taken o is)

  close : (records : Bool) (area : Area) → is_bare t dr.function ≡ false →
      grown (file records) (spot_by area t d p) dr (Some statements.EndFunc)
      ≡ record dr { functions = dr.functions ++ listed (option_map (ended t) dr.function); function = None } →
      Some (closed (spot_by area t d p) dr dr.function)
      ≡ Some (grown (file records) (spot_by area t d p) dr (Some statements.EndFunc))
  close records area is same = ap (λ (x : Draft). Some x) (close-step (spot_by area t d p) dr dr.function is ∙ sym same)

  kind : (records : Bool) (area : Area) (s : Statement) (make : ℕ → Kind) (o : Option ℕ) → is_none o ≡ false →
      grown (file records) (spot_by area t d p) dr (Some s) ≡ record dr { kind = option_map make o } →
      with_kind dr (option_map make o) ≡ Some (grown (file records) (spot_by area t d p) dr (Some s))
  kind records area s make o is same = kind-step dr make o is ∙ ap (λ (x : Draft). Some x) (sym same)

  switch : (records : Bool) (area : Area) (s : Statement) (names_of : List (List ℕ)) →
      grown (file records) (spot_by area t d p) dr (Some s) ≡ record dr {
        kind = Some (branches.Switch (values_in names names_of));
      } →
      with_switch dr (values_in names names_of)
      ≡ (if nat_lt (length names_of) (2 ^ 32)
      then Some (grown (file records) (spot_by area t d p) dr (Some s)) else None)
  switch records area s names_of same = rw (same, length-map names_of (value_in names)) refl

  -- an indirect jump
  abbrev jumped : Draft
  jumped = record dr { branches = dr.branches ++ unwrap_or dr.kind branches.Return ∷ []; kind = None }

  jump_on : (v : Bool) (s : Statement) →
      grown (file true) (spot_by areas.Text t d p) dr (Some s)
      ≡ text_grown jumped (words_of names t s) (relocs_of names (spot_by areas.Text t d p) s) →
      ((if v then Some jumped else None) >>= λ next. with_code (file true) (spot_by areas.Text t d p) next s)
      ≡ (if v && words_fit (spot_by areas.Text t d p) (totals_by dr count)
      (length (relocs_of names (spot_by areas.Text t d p) s)) (words_of names t s)
      then Some (grown (file true) (spot_by areas.Text t d p) dr (Some s)) else None)
  jump_on true s same =
      rw same (words-step (spot_by areas.Text t d p) jumped count (relocs_of names (spot_by areas.Text t d p) s)
      (words_of names t s))
  jump_on false s same = refl

  pub grows : (records : Bool) (area : Area) (s : Statement) → Grows (file records) (spot_by area t d p) dr jump count s
  grows records areas.Text statements.Blank is = ap (λ (x : Draft). Some x) (simp append-nil)
  grows records areas.Data statements.Blank is = ap (λ (x : Draft). Some x) (simp append-nil)
  grows records areas.Text statements.Text is = ap (λ (x : Draft). Some x) (simp append-nil)
  grows records areas.Data statements.Text is = ap (λ (x : Draft). Some x) (simp append-nil)
  grows records areas.Text statements.Data is = ap (λ (x : Draft). Some x) (simp append-nil)
  grows records areas.Data statements.Data is = ap (λ (x : Draft). Some x) (simp append-nil)
  grows records areas.Text (statements.Globl name) is = ap (λ (x : Draft). Some x) (simp append-nil)
  grows records areas.Data (statements.Globl name) is = ap (λ (x : Draft). Some x) (simp append-nil)
  grows records areas.Text (statements.Word w) is = code records (statements.Word w) (simp append-nil)
  grows records areas.Data (statements.Word (data_words.Number n)) is =
      datum records (statements.Word (data_words.Number n)) (low_word n) [] (simp append-nil)
  grows records areas.Data (statements.Word (data_words.Name name)) is =
      datum records (statements.Word (data_words.Name name)) 0 (reloc_by names areas.Data d relocs.WORD name ∷ [])
      (simp append-nil)
  grows records areas.Text (statements.Zero number) is = absurd (cc)
  grows records areas.Data (statements.Zero (pos n)) is = zeros records (statements.Zero (pos n)) n (simp append-nil)
  grows records areas.Data (statements.Zero (negsuc n)) is = refl
  grows records areas.Text (statements.Node kind_of fields) is =
      node records areas.Text (statements.Node kind_of fields) (node_of kind_of fields) (simp append-nil)
  grows records areas.Data (statements.Node kind_of fields) is =
      node records areas.Data (statements.Node kind_of fields) (node_of kind_of fields) (simp append-nil)
  grows records areas.Data (statements.Func name number taken) is = absurd (cc)
  grows records areas.Text (statements.Func name number taken) is =
      func records (statements.Func name number taken) name taken (callable_in kinds number)
      (or_parts (is_some dr.function) (is_none (callable_in kinds number)) is).1 (simp append-nil)
  grows records areas.Text statements.EndFunc is = close records areas.Text is (simp append-nil)
  grows records areas.Data statements.EndFunc is = close records areas.Data is (simp append-nil)
  grows records areas.Text (statements.KindCall number) is =
      kind records areas.Text (statements.KindCall number) branches.Call (callable_in kinds number)
      (or_parts (is_none (callable_in kinds number)) (not jump) is).0 (simp append-nil)
  grows records areas.Data (statements.KindCall number) is =
      kind records areas.Data (statements.KindCall number) branches.Call (callable_in kinds number)
      (or_parts (is_none (callable_in kinds number)) (not jump) is).0 (simp append-nil)
  grows records areas.Text (statements.KindTail number) is =
      kind records areas.Text (statements.KindTail number) branches.Tail (callable_in kinds number)
      (or_parts (is_none (callable_in kinds number)) (not jump) is).0 (simp append-nil)
  grows records areas.Data (statements.KindTail number) is =
      kind records areas.Data (statements.KindTail number) branches.Tail (callable_in kinds number)
      (or_parts (is_none (callable_in kinds number)) (not jump) is).0 (simp append-nil)
  grows records areas.Text statements.KindReturn is = ap (λ (x : Draft). Some x) (simp append-nil)
  grows records areas.Data statements.KindReturn is = ap (λ (x : Draft). Some x) (simp append-nil)
  grows records areas.Text (statements.KindSwitch places) is =
      switch records areas.Text (statements.KindSwitch places) places (simp append-nil)
  grows records areas.Data (statements.KindSwitch places) is =
      switch records areas.Data (statements.KindSwitch places) places (simp append-nil)
  grows true areas.Text (statements.Jalr rd rs1 imm) is =
      jump_on (nat_lt (length dr.branches) MAX_BRANCHES) (statements.Jalr rd rs1 imm) (simp append-nil)
  grows false areas.Text (statements.Jalr rd rs1 imm) is = code false (statements.Jalr rd rs1 imm) (simp append-nil)
  grows true areas.Text statements.Ret is =
      jump_on (nat_lt (length dr.branches) MAX_BRANCHES) statements.Ret (simp append-nil)
  grows false areas.Text statements.Ret is = code false statements.Ret (simp append-nil)
  grows records areas.Text s is = code records s (simp append-nil)
  grows records areas.Data s is = absurd (cc)
