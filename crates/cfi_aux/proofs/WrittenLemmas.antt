-- Records of a version have numbers that words have, so they can be written.
use Rattle.std.proofs.Common.{◌<◌, ◌^◌, List, length, arith}
use Rattle.std.proofs.lemmas.List.Elements.{All-weaker, All-from_recursion}
use Rattle.cfi_type_table.specs.Node.{Node}
use Rattle.cfi_aux.specs.declared.format.TheConstants.{SWITCH}
use Rattle.cfi_aux.specs.declared.records.Function.{Function}
use Rattle.cfi_aux.specs.declared.records.Kind.{Kind}
use Rattle.cfi_aux.specs.declared.records.Kind.TheVariants.{Call, Tail, Return, Switch, Import}
use Rattle.cfi_aux.specs.declared.records.Records.{Records}
use Rattle.cfi_aux.specs.declared.version.RecordVersion.{RecordVersion}
use Rattle.cfi_aux.specs.Records.{list_length, IsFunctionIn, IsBranchIn, AreRecordsIn, CanBeWritten}
use Rattle.cfi_aux.proofs.Functions.{short_name}
use Rattle.cfi_aux.proofs.Branches.{few_words}

name-small : (version : RecordVersion) (types : List Node) (f : Function) → IsFunctionIn version types f
    → length f.name < 2 ^ 32
name-small version types f is = omega (arith, short_name (length f.name) is.name.count)

list-small : (version : RecordVersion) (types : List Node) (b : Kind) → IsBranchIn version types b
    → list_length b < 2 ^ 32
list-small version types (Call node) is = omega arith
list-small version types (Tail node) is = omega arith
list-small version types Return is = omega arith
list-small version types (Switch places) is = omega (arith, few_words SWITCH (length places) is.count)
list-small version types (Import name cell) is = omega (arith, short_name (length name) is.named.count)

pub records-small : (version : RecordVersion) (types : List Node) (r : Records) → AreRecordsIn version types r
    → CanBeWritten r
records-small version types r are =
    let functions = All-from_recursion (IsFunctionIn version types) r.functions are.functions in
    let branches = All-from_recursion (IsBranchIn version types) r.branches are.branches in
    record {
      functions = omega (arith, are.function_count);
      branches = omega (arith, are.branch_count);
      names = All-weaker (IsFunctionIn version types) (λ f. length f.name < 2 ^ 32) (name-small version types)
          r.functions functions;
      words = All-weaker (IsBranchIn version types) (λ b. list_length b < 2 ^ 32) (list-small version types) r.branches
          branches;
    }
