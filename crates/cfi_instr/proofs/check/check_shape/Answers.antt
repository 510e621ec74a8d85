-- Earlier rows hold, and what the slices show is the module's.
use Rattle.std.proofs.Common.{List, subst, rules}
use Rattle.std.proofs.Math.Path.{subst₃}
use Rattle.elf_read.specs.declared.object.Symbol.{Symbol}
use Rattle.elf_read.specs.declared.object.Reloc.{Reloc}
use Rattle.elf_read.specs.Lists.{Each}
use Rattle.cfi_aux.specs.declared.records.Function.{Function}
use Rattle.cfi_instr.specs.Functions.{IsFormedBehind, EndsInPadding}
use Rattle.cfi_instr.specs.Relocs.{IsRelocPlacedBehind}
use Rattle.cfi_instr.specs.Fault.{IsFirstMalformed}
use Rattle.cfi_instr.proofs.check.check_shape.Goals as goal

pub returns-in-Some-first_malformed-clause-fault : goal.returns-in-Some-first_malformed-clause-fault
returns-in-Some-first_malformed-clause-fault c =
    let t = c.args.source.now in
    let functions = c.as_slice-functions.result.now in
    let placed : Each c.as_slice-relocs.result.now
    (IsRelocPlacedBehind t c.as_slice-symbols.result.now functions c.as_slice-relocs.result.now) = search rules in (
      c.requires.legal,
      subst₃
          (λ (ss : List Symbol) (fs : List Function) (rs : List Reloc). Each rs (IsRelocPlacedBehind t ss fs rs))
          c.as_slice-symbols.ensures c.as_slice-functions.ensures c.as_slice-relocs.ensures placed,
      subst (λ (fs : List Function). IsFirstMalformed t fs c.in-Some-first_malformed.k) c.as_slice-functions.ensures
          c.in-Some-first_malformed.ensures.some,
    )

pub returns-clause-ok : goal.returns-clause-ok
returns-clause-ok c =
    let t = c.args.source.now in
    let functions = c.as_slice-functions.result.now in
    let placed : Each c.as_slice-relocs.result.now
    (IsRelocPlacedBehind t c.as_slice-symbols.result.now functions c.as_slice-relocs.result.now) = search rules in
    record {
      words = c.requires.legal;
      relocs =
          subst₃
          (λ (ss : List Symbol) (fs : List Function) (rs : List Reloc). Each rs (IsRelocPlacedBehind t ss fs rs))
          c.as_slice-symbols.ensures c.as_slice-functions.ensures c.as_slice-relocs.ensures placed;
      functions =
          subst (λ (fs : List Function). Each fs (IsFormedBehind t fs)) c.as_slice-functions.ensures
          c.in_default-first_malformed.ensures.none;
      padding =
          subst (λ (fs : List Function). EndsInPadding t fs) c.as_slice-functions.ensures
          c.in_default-first_malformed.ensures.padding;
    }
