-- Earlier rows hold, and what the slices show is the module's.
use Rattle.std.proofs.Common.{List, sym, subst, subst₂}
use Rattle.elf_read.specs.Lists.{Each, IsFirstBreak, own_number}
use Rattle.cfi_aux.specs.declared.records.Function.{Function}
use Rattle.cfi_aux.specs.declared.records.Kind.{Kind}
use Rattle.cfi_instr.specs.Functions.{EndsInJump}
use Rattle.cfi_instr.specs.Jumps.{SwitchFits}
use Rattle.cfi_instr.specs.inner.Homes.{AreApart}
use Rattle.cfi_instr.proofs.HomeLemmas.{in_order}
use Rattle.cfi_instr.proofs.check.check_ends.Goals as goal

pub returns-in-Some-first_falling-clause-fault : goal.returns-in-Some-first_falling-clause-fault
returns-in-Some-first_falling-clause-fault c =
    let t = c.args.source.now in (
      c.requires.linked,
      subst₂ (λ (fs : List Function) (ks : List Kind). Each t.insns (SwitchFits t fs ks))
          c.as_slice-functions.ensures c.as_slice-branches.ensures c.in_default.ensures.none,
      subst (λ (fs : List Function). IsFirstBreak fs own_number (EndsInJump t) c.in-Some-first_falling.k)
          c.as_slice-functions.ensures c.in-Some-first_falling.ensures.some,
    )

pub returns-clause-ok : goal.returns-clause-ok
returns-clause-ok c =
    let t = c.args.source.now in
    record {
      jumps = c.requires.linked;
      switches =
          subst₂ (λ (fs : List Function) (ks : List Kind). Each t.insns (SwitchFits t fs ks))
          c.as_slice-functions.ensures c.as_slice-branches.ensures c.in_default.ensures.none;
      ends =
          subst (λ (fs : List Function). Each fs (EndsInJump t)) c.as_slice-functions.ensures
          c.in_default-first_falling.ensures.none;
    }

pub first_bad_switch-requires-clause-order : goal.first_bad_switch-requires-clause-order
first_bad_switch-requires-clause-order c =
    let t = c.args.source.now in
    subst (λ (fs : List Function). AreApart fs) (sym c.as_slice-functions.ensures)
    (in_order t c.args.unplaced.now.records.functions c.requires.linked.shaped.functions)
