use Rattle.std.proofs.Common.{◌≡◌, ◌∙◌, ◌<◌, ℕ, Some, IfSome, ap, subst, rules}
use Rattle.cfi_instr.specs.Target.{aim_of_jump}
use Rattle.cfi_instr.specs.declared.hops.Hop.{Hop}
use Rattle.rv_insn.specs.declared.insn.Insn.{Insn}
use Rattle.cfi_instr.proofs.HopIsLemmas.{some-hop}
use Rattle.cfi_instr.proofs.hops.hop_by.Goals as goal

pub returns-in-Branch-clause-hop : goal.returns-in-Branch-clause-hop
returns-in-Branch-clause-hop c =
    let t = c.args.source.now in
    let here = c.requires.here ∙ ap (λ (insn : Insn). Some insn) c.in-Branch.is in
    let aim : c.aim_of_jump.result ≡ aim_of_jump t c.args.symbols.now c.args.w c.in-Branch.off = search rules in
    some-hop t c.args.symbols.now c.args.w c.in-Branch.cond c.in-Branch.rs1 c.in-Branch.rs2 c.in-Branch.off here
    c.requires.outer c.requires.within c.aim_of_jump.result aim c.hop_to.result c.hop_to.ensures.at
    (subst (λ (n : ℕ). IfSome c.hop_to.result (λ (hop : Hop). hop.to < n)) c.requires.size c.hop_to.ensures.within)
    c.hop_to.ensures.leads
