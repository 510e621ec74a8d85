use Rattle.std.proofs.Common.{◌≡◌, ◌+◌, subst, ℕ, arith}
use Rattle.std.proofs.lemmas.Int.{to_z-of_z}
use Rattle.cfi_verify.specs.Target.{LeadsTo}
use Rattle.cfi_verify.proofs.TargetLemmas.{entry_iff}
use Rattle.cfi_verify.proofs.target.leads_to_entry.Goals as goal

pub returns-in-Some : goal.returns-in-Some
returns-in-Some c = λ loaded all.
    let leads = simp (to_z-of_z, c.ranges.off) at c.in-Some.ensures.some in
    let place : c.from.result + c.from-2.result ≡ c.args.placed.now.base + c.args.at = omega arith in
    entry_iff c.args.placed.now loaded c.args.entries.now c.args.at c.args.off c.in-Some.to c.is_entry.result all
    (subst (λ (k : ℕ). LeadsTo k c.args.off c.in-Some.to) place leads) c.is_entry.ensures
