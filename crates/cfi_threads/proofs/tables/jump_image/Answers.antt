use Rattle.std.proofs.Common.{rules, ◌≡◌, ℕ, replicate, sym, subst}
use Rattle.cfi_word.specs.Table.{IsSize, slots_of}
use Rattle.cfi_model.specs.Closed.{IsClosed}
use Rattle.cfi_threads.proofs.JumpLemmas.{jumps, jumps_closed}
use Rattle.cfi_threads.proofs.tables.jump_image.Goals as goal

pub returns-clause-closed : goal.returns-clause-closed
returns-clause-closed c =
    let n : ℕ = c.args.layout.now in
    let size : IsSize n = search rules in
    let is = jumps_closed n c.args.next size c.requires.next in
    let t : c.from_vec.result ≡ replicate n 0 = search rules in
    let b : c.from_vec-2.result ≡ replicate (slots_of n) 16383 = search rules in
    let d : c.from_vec-3.result ≡ jumps n c.args.next = search rules in
    subst (IsClosed n) (λ j. record { tary = sym t j; bary = sym b j; code = sym d j }) is
