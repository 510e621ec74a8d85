use Rattle.std.proofs.Common.{List, sym, subst}
use Rattle.std.proofs.lemmas.Result.{err_from_is_err_and}
use Rattle.cfi_aux.specs.declared.modules.Module.{Module}
use Rattle.cfi_link.specs.Linked.{AreModules, Linked}
use Rattle.cfi_made_law.specs.Read.{IsReadOf}
use Rattle.cfi_commands.proofs.InstrumentingLemmas.{read-of}
use Rattle.cfi_commands.proofs.ModulesLemmas.{each_of}
use Rattle.cfi_commands.proofs.LinkingLemmas.{linkable, modules_as_linking}
use Rattle.cfi_commands.proofs.linking.linked.Goals as goal

-- what was read of files can be linked
pub link-requires : goal.link-requires
link-requires c =
    let read = c.in_ok-modules.ensures in
    subst AreModules (sym c.as_slice.ensures)
    (linkable c.args.files c.in_ok-modules.modules read.ok c.requires.count read.sound
    c.read_can_be_written.ensures.sized)

-- the object is within the limits of a file
pub write_object-requires : goal.write_object-requires
write_object-requires c =
    let files = c.args.files in
    let read = c.in_ok-modules.ensures in
    let modules = c.in_ok-modules.modules in
    let output = c.in-Ok.output in
    let are = linkable files modules read.ok c.requires.count read.sound c.read_can_be_written.ensures.sized in
    let linked = subst (λ (ms : List Module). Linked ms output) c.as_slice.ensures c.in-Ok.ensures.ok in
    record {
      writable = c.limits_fit.ensures.writable output.object
          (c.linked_are_within_limits.ensures modules output (each_of IsReadOf read-of files modules read.ok) are
          linked);
    }

-- a file is no module
pub returns-in_err-modules-clause-fault : goal.returns-in_err-modules-clause-fault
returns-in_err-modules-clause-fault c =
    let p = err_from_is_err_and c.from_residual.result c.from_residual.ensures.1 in
    rw (p.1, p.2) (modules_as_linking c.args.files _ c.in_err-modules.ensures.fault)

-- the file is that of the module that is made
pub returns-in-Ok-clause-ok : goal.returns-in-Ok-clause-ok
returns-in-Ok-clause-ok c =
    let output = c.in-Ok.output in
    record {
      modules = c.in_ok-modules.modules;
      are = c.in_ok-modules.ensures.ok;
      output = output;
      made = subst (λ (ms : List Module). Linked ms output) c.as_slice.ensures c.in-Ok.ensures.ok;
      written = c.in_ok-write_object-in-Ok.ensures.ok;
    }
