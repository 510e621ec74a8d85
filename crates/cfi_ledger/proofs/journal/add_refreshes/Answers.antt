use Rattle.std.proofs.Common.{rules, ◌≡◌, ◌+◌, ℕ, length, map, vec_len, ap, ◌∙◌}
use Rattle.cfi_ledger.specs.Calls.{call_due}
use Rattle.cfi_ledger.proofs.CallLemmas.{refreshes_more}
use Rattle.cfi_ledger.proofs.journal.add_refreshes.Goals as goal

pub returns : goal.returns
returns c =
    let many : vec_len c.args.calls.now ≡ length c.args.calls.now.items = search rules in
    let all = ap (λ (n : ℕ). n + c.args.count) c.len.ensures in
    ap (map call_due) c.in_ok-resize.ensures.items
    ∙ refreshes_more c.args.calls.now.items (c.len.result + c.args.count) (vec_len c.args.calls.now) c.args.count all
    many
