-- The functions and branches of a module that is read of a file name types of functions, also once it is instrumented.
use Rattle.std.proofs.Common.{ℕ, sym, subst, All, List, IsTrue}
use Rattle.std.proofs.lemmas.List.Elements.{All-from_recursion, All-map, All-weaker}
use Rattle.elf_read.specs.declared.object.Object.{Object}
use Rattle.cfi_type_table.specs.Node.{Node}
use Rattle.cfi_type_table.specs.Kind.{is_callable}
use Rattle.cfi_aux.specs.Modules.{IsModuleOf}
use Rattle.cfi_aux.specs.Records.{IsFunction, IsBranch}
use Rattle.cfi_aux.specs.declared.modules.Module.{Module}
use Rattle.cfi_aux.specs.declared.records.Function.{Function}
use Rattle.cfi_aux.specs.declared.records.Kind.{Kind}
use Rattle.cfi_aux.specs.declared.records.Kind.TheVariants.{Call, Tail, Return, Switch, Import}
use Rattle.cfi_aux.proofs.VersionLemmas.{records-later}
use Rattle.cfi_instr.specs.Words.{Words, read_words}
use Rattle.cfi_instr.specs.Moves.{moved_function, moved_kind}
use Rattle.cfi_instr.specs.Output.{IsInstrumented}
use Rattle.cfi_instr_law.specs.Proper.{NamesCallable, IsTyped}

branch-names : (types : List Node) (kind : Kind) → IsBranch types kind → NamesCallable types kind
branch-names types (Call node) is = is.words.0.1
branch-names types (Tail node) is = is.words.0.1
branch-names types Return is = tt
branch-names types (Switch entries) is = tt
branch-names types (Import name cell) is = tt

pub typed : (object : Object) (m : Module) → IsModuleOf object m → IsTyped m
typed object m is =
    let good = records-later is.parts.version m.types m.records is.parts.good in
    record {
      functions =
          All-weaker (IsFunction m.types) (λ (f : Function). IsTrue (is_callable m.types f.ty)) (λ f one. one.ty.1)
          m.records.functions (All-from_recursion (IsFunction m.types) m.records.functions good.functions);
      branches =
          All-weaker (IsBranch m.types) (NamesCallable m.types) (branch-names m.types) m.records.branches
          (All-from_recursion (IsBranch m.types) m.records.branches good.branches);
    }

-- moving a record keeps the node that it names
moved-names : (types : List Node) (t : Words) (offsets : List ℕ) (kind : Kind) → NamesCallable types kind
    → NamesCallable types (moved_kind t offsets kind)
moved-names types t offsets (Call node) is = is
moved-names types t offsets (Tail node) is = is
moved-names types t offsets Return is = tt
moved-names types t offsets (Switch entries) is = tt
moved-names types t offsets (Import name cell) is = tt

pub stay-typed : (source m : Module) → IsInstrumented source m → IsTyped source → IsTyped m
stay-typed source m made is =
    let t = read_words source.object in
    record {
      functions =
          subst (λ (ns : List Node). All (λ f. IsTrue (is_callable ns f.ty)) m.records.functions) (sym made.types)
          (subst (λ (fs : List Function). All (λ f. IsTrue (is_callable source.types f.ty)) fs)
          (sym made.records.functions)
          (All-map (λ (f : Function). IsTrue (is_callable source.types f.ty)) (moved_function t made.offsets)
          source.records.functions is.functions));
      branches =
          subst (λ (ns : List Node). All (NamesCallable ns) m.records.branches) (sym made.types)
          (subst (λ (ks : List Kind). All (NamesCallable source.types) ks) (sym made.records.branches)
          (All-map (NamesCallable source.types) (moved_kind t made.offsets) source.records.branches
          (All-weaker (NamesCallable source.types)
          (λ (k : Kind). NamesCallable source.types (moved_kind t made.offsets k))
          (moved-names source.types t made.offsets) source.records.branches is.branches)));
    }
