use Rattle.std.proofs.Common.{◌≢◌, refl, rules}
use Rattle.std.proofs.lemmas.Result.{err_from_is_err_and}
use Rattle.cfi_type_table.proofs.Tables.{small_count, small_fields}
use Rattle.cfi_instr.specs.declared.fault.InstrFault.TheVariants.{Memory}
use Rattle.cfi_commands.proofs.InstrumentingLemmas.{short_text, few_relocs, read-of, module_as_instrument}
use Rattle.cfi_commands.proofs.instrumenting.instrumented.Goals as goal

-- the parts of what was read can be counted
pub instrument-requires : goal.instrument-requires
instrument-requires c =
    let unplaced = c.in_ok-unplaced.unplaced in
    let file = c.in_ok-unplaced.ensures.ok in
    let table = c.in_ok-unplaced.ensures.sound.table in
    record {
      nodes = small_count unplaced.types table;
      fields = small_fields unplaced.types table;
      written = c.read_can_be_written.ensures.sized file.whole.parts.version unplaced.types unplaced.records
          file.whole.parts.good;
      text = short_text c.args.bytes.now unplaced file;
      relocs = few_relocs c.args.bytes.now unplaced file;
    }

-- the object is within the limits of a file
pub write_object-requires : goal.write_object-requires
write_object-requires c =
    let source = c.in_ok-unplaced.unplaced in
    let out = c.in-Ok.out in
    let file = c.in_ok-unplaced.ensures.ok in
    record {
      writable = c.limits_fit.ensures.writable out.object
          (c.instrumented_are_within_limits.ensures source out (read-of c.args.bytes.now source file)
          c.in-Ok.ensures.ok);
    }

-- the file is no module
pub returns-in_err-unplaced-clause-fault : goal.returns-in_err-unplaced-clause-fault
returns-in_err-unplaced-clause-fault c =
    let p = err_from_is_err_and c.from_residual.result c.from_residual.ensures.1 in
    rw (p.1, p.2) (module_as_instrument c.args.bytes.now _ c.in_err-unplaced.ensures.fault)

-- the module is not instrumented, and memory is there
pub returns-clause-fault : goal.returns-clause-fault
returns-clause-fault c =
    let other : c.in-Err.fault ≢ Memory = search rules in
    (refl, (c.in_ok-unplaced.unplaced, c.in_ok-unplaced.ensures.ok, c.in-Err.ensures.fault, other))
