-- Earlier rows hold, and what the slices show is the module's.
use Rattle.std.proofs.Common.{◌*◌, List, sym, subst, subst₂}
use Rattle.elf_read.specs.declared.object.Symbol.{Symbol}
use Rattle.elf_read.specs.Lists.{Each}
use Rattle.cfi_aux.specs.declared.records.Function.{Function}
use Rattle.cfi_aux.specs.declared.records.Kind.{Kind}
use Rattle.cfi_instr.specs.Jumps.{HasRecord, AreUsed}
use Rattle.cfi_instr.specs.Leads.{WordLeadsWell}
use Rattle.cfi_instr.specs.Fault.{IsFirstBare}
use Rattle.cfi_instr.specs.inner.Homes.{AreApart}
use Rattle.cfi_instr.proofs.HomeLemmas.{in_order}
use Rattle.cfi_instr.proofs.check.check_jumps.Goals as goal

pub returns-in-Some-first_unkind-clause-fault : goal.returns-in-Some-first_unkind-clause-fault
returns-in-Some-first_unkind-clause-fault c =
    let t = c.args.source.now in (
      c.requires.shaped,
      subst₂ (λ (ss : List Symbol) (fs : List Function). Each t.insns (WordLeadsWell t ss fs))
          c.as_slice-symbols.ensures c.as_slice-functions.ensures c.in_default.ensures.none,
      subst (λ (ks : List Kind). IsFirstBare t ks (4 * c.in-Some-first_unkind.w)) c.as_slice.ensures
          c.in-Some-first_unkind.ensures.some,
    )

pub returns-clause-ok : goal.returns-clause-ok
returns-clause-ok c =
    let t = c.args.source.now in
    record {
      shaped = c.requires.shaped;
      targets =
          subst₂ (λ (ss : List Symbol) (fs : List Function). Each t.insns (WordLeadsWell t ss fs))
          c.as_slice-symbols.ensures c.as_slice-functions.ensures c.in_default.ensures.none;
      records =
          subst (λ (ks : List Kind). Each t.insns (HasRecord t ks)) c.as_slice.ensures
          c.in_default-first_unkind.ensures.none;
      used = subst (λ (ks : List Kind). AreUsed t ks) c.as_slice.ensures c.in_default-first_unkind.ensures.used;
    }

pub first_stray-requires-clause-order : goal.first_stray-requires-clause-order
first_stray-requires-clause-order c =
    let t = c.args.source.now in
    subst (λ (fs : List Function). AreApart fs) (sym c.as_slice-functions.ensures)
    (in_order t c.args.unplaced.now.records.functions c.requires.shaped.functions)
