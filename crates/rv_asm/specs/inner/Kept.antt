-- What the code's types keep beside what clauses see: limits that records are within.
use Rattle.std.specs.Prelude.{◌<◌, ◌≤◌, ◌^◌, length, All}
use Rattle.std.specs.Option.{ForSome}
use Rattle.cfi_word.specs.declared.limits.TheConstants.{MAX_NODES, MAX_FUNCTIONS, MAX_BRANCHES}
use Rattle.cfi_aux.specs.Records.{list_length}
use Rattle.rv_asm.specs.declared.survey.Survey.TheInside.{Inside as Surveyed}
use Rattle.rv_asm.specs.declared.draft.Draft.TheInside.{Inside as Drafted}
use Rattle.rv_asm.specs.inner.Draft.{Draft}
use Rattle.rv_asm.specs.inner.Survey.{Survey}

-- a survey
abbrev pub survey_of : Surveyed → Survey
survey_of a = record {
  spot = a.spot;
  names = a.names;
  kinds = a.kinds.items;
  records = a.records;
  lines = a.lines;
  rows = a.rows.items;
}

-- a draft
abbrev pub draft_of : Drafted → Draft
draft_of a = record {
  text = a.text.items;
  data_bytes = a.data_bytes.items;
  text_relocs = a.text_relocs.items;
  data_relocs = a.data_relocs.items;
  nodes = a.nodes.items;
  functions = a.functions.items;
  branches = a.branches.items;
  kind = a.kind;
  function = a.function;
}

-- the records of a draft can be written
pub record IsWritable (a : Drafted) : Type 0 where
  pub node_count : length a.nodes.items ≤ MAX_NODES
  pub fields : All (λ node. length node.fields < 2 ^ 32) a.nodes.items
  pub function_count : length a.functions.items ≤ MAX_FUNCTIONS
  pub names : All (λ function. length function.name < 2 ^ 32) a.functions.items
  pub name : ForSome a.function (λ function. length function.name < 2 ^ 32)
  pub room : ForSome a.function (λ function. length a.functions.items < MAX_FUNCTIONS)
  pub branch_count : length a.branches.items ≤ MAX_BRANCHES
  pub words : All (λ kind. list_length kind < 2 ^ 32) a.branches.items
  pub word : ForSome a.kind (λ kind. list_length kind < 2 ^ 32)
