use Rattle.std.proofs.Common.{◌≡◌, ◌<◌, ℕ, List, length, None, nat_cmp, sym, ap, ◌∙◌, arith}
use Rattle.std.specs.BTreeMap.{get_by}
use Rattle.std.specs.Cmp.Lexicographic.{slice_cmp}
use Rattle.cfi_types.proofs.Keyed.{puts_signed}
use Rattle.cfi_types.proofs.leader.Firsts.signed.Goals as goal

-- the key had no node
pub returns-clause-first : goal.returns-clause-first
returns-clause-first c =
    let long : 1 < length c.args.key.items = omega arith in
    let absent : get_by (λ k. slice_cmp nat_cmp c.args.key.items k.items) c.args.self.now.signed ≡ None =
    ap (λ (ws : List ℕ). get_by (λ k. slice_cmp nat_cmp ws k.items) c.args.self.now.signed)
    (sym c.as_slice.ensures.value) ∙ sym c.in_default.ensures.value in
    puts_signed c.args.self.now c.insert.new.self c.args.key c.args.node long absent c.in_ok-insert.ensures.updates
