use Rattle.std.proofs.Common.{◌≡◌, ◌↔◌, ◌+◌, IsTrue, FitsSigned, rules, sym, subst, arith}
use Rattle.std.specs.Int.{w32}
use Rattle.std.proofs.lemmas.Int.{to_z-of_z}
use Rattle.std.proofs.lemmas.Option.{same_Some}
use Rattle.cfi_graph.specs.Live.{IsJumpInto}
use Rattle.cfi_retire.proofs.JumpLemmas.{word_inside, inside_word}
use Rattle.cfi_retire.proofs.user.is_jump_into.Goals as goal

-- a jump leads to a word of the target where the code word that it leads to is one of these
pub returns-in-Some : goal.returns-in-Some
returns-in-Some c =
    let m = c.args.placed.now in
    let n = c.args.target.now in
    let at = c.args.at in
    let link = c.in-Jump.link in
    let off = c.in-Jump.off in
    let word = c.in-Some.word in
    let fits : FitsSigned w32 off = search rules in
    let leads = simp to_z-of_z at c.in-Some.ensures.some in
    let only = simp to_z-of_z at c.in-Some.ensures.only in
    subst (λ unit. IsTrue c.has_word.result ↔ IsJumpInto m at unit n) (sym c.in-Jump.is) (
      λ yes.
          let lies = c.has_word.ensures.0 yes in
          word_inside m n at off link word leads lies.0 lies.1,
      λ into.
          let same : word ≡ n.base + into.0 =
          same_Some word (n.base + into.0)
          (only (n.base + into.0) (inside_word m n at off link c.requires.ends into)) in
          let low = into.1 in
          c.has_word.ensures.1 (omega (arith, same), omega (arith, same, low)),
    )
