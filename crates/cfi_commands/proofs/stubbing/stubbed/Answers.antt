use Rattle.std.proofs.Common.{◌≢◌, refl, rules}
use Rattle.std.proofs.lemmas.Result.{err_from_is_err_and}
use Rattle.cfi_import.specs.declared.fault.StubFault.TheVariants.{Memory}
use Rattle.cfi_commands.proofs.InstrumentingLemmas.{read-of}
use Rattle.cfi_commands.proofs.StubbingLemmas.{few_symbols, module_as_stub}
use Rattle.cfi_commands.proofs.stubbing.stubbed.Goals as goal

-- the parts of what was read can be counted
pub with_stubs-requires : goal.with_stubs-requires
with_stubs-requires c =
    let source = c.in_ok-source.source in
    let file = c.in_ok-source.ensures.ok in
    record {
      sound = c.in_ok-source.ensures.sound;
      written = c.read_can_be_written.ensures.sized file.whole.parts.version source.types source.records
          file.whole.parts.good;
      symbols = few_symbols c.args.bytes.now source file c.in_ok-source.ensures.sound;
    }

-- the object is within the limits of a file
pub write_object-requires : goal.write_object-requires
write_object-requires c =
    let source = c.in_ok-source.source in
    let out = c.in-Ok.out in
    let file = c.in_ok-source.ensures.ok in
    record {
      writable = c.limits_fit.ensures.writable out.object
          (c.stubbed_are_within_limits.ensures source out (read-of c.args.bytes.now source file)
          c.in-Ok.ensures.within c.in-Ok.ensures.ok);
    }

-- the file is no module
pub returns-in_err-source-clause-fault : goal.returns-in_err-source-clause-fault
returns-in_err-source-clause-fault c =
    let p = err_from_is_err_and c.from_residual.result c.from_residual.ensures.1 in
    rw (p.1, p.2) (module_as_stub c.args.bytes.now _ c.in_err-source.ensures.fault)

-- the module gets no stubs, and memory is there
pub returns-clause-fault : goal.returns-clause-fault
returns-clause-fault c =
    let other : c.in-Err.fault ≢ Memory = search rules in
    (refl, (c.in_ok-source.source, c.in_ok-source.ensures.ok, c.in-Err.ensures.fault, other))
