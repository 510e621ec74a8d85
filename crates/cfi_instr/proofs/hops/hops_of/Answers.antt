use Rattle.std.proofs.Common.{◌∙◌, All, List, Vec, Global, sym, ap, subst}
use Rattle.std.proofs.lemmas.List.Elements.{All-push}
use Rattle.cfi_instr.specs.declared.hops.Hop.{Hop}
use Rattle.cfi_instr.specs.inner.Hops.{IsMeasured}
use Rattle.cfi_instr.proofs.hops.hops_of.Goals as goal
use Rattle.cfi_instr.proofs.hops.hops_of.Goals.{in-Some+in_ok-push, in_default}

pub loop-w-preserved : goal.loop-w-preserved
loop-w-preserved c =
    let P = IsMeasured c.args.source.now c.args.symbols.now c.args.offsets.now in
    let items = λ (hops : Vec Hop Global). hops.items in
    elim c.match-hop_at.branch [
      | in-Some+in_ok-push v ↦
          let found = v.in-Some.ensures in
          subst (λ (hops : List Hop). All P hops) (sym (ap items v.hops-is ∙ v.in_ok-push.ensures.items))
          (All-push P c.loop-w.hops.items v.in-Some.hop c.loop-w.invariant
          (record { hop_is = found.hop; left = found.left }))
      | in_default v ↦ subst (λ (hops : List Hop). All P hops) (sym (ap items v.hops-is)) c.loop-w.invariant
    ]
