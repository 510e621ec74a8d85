-- The name ends at the first zero byte.
use Rattle.std.proofs.Common.{◌≡◌, ◌==◌, take, sym, ap, ◌∙◌, arith}
use Rattle.std.proofs.lemmas.Bool.{ne_eqb, eq-eqb}
use Rattle.std.proofs.lemmas.List.Sums.{position_or_len_is}
use Rattle.std.specs.List.{position_or_len}
use Rattle.elf_read.proofs.NameLemmas.{not-ended}
use Rattle.elf_read.proofs.name.ended.Goals as goal

pub returns-in-Some-clause-some : goal.returns-in-Some-clause-some
returns-in-Some-clause-some c =
    let bytes = c.args.bytes.now in
    let i = c.in-Some.i in
    let here = c.in-Some.ensures.some in
    let place : position_or_len (λ byte. byte == 0) bytes ≡ i =
    position_or_len_is (λ byte. byte == 0) bytes i 0 (omega (arith, here))
    (λ k h. ne_eqb _ _ (c.in-Some.ensures.before k h)) (λ h. eq-eqb _ _ here.1) in
    c.split_at.ensures.front ∙ ap (λ n. take n bytes) (sym place)

pub returns-in-None-clause-none : goal.returns-in-None-clause-none
returns-in-None-clause-none c = not-ended c.args.bytes.now 0 (λ j low high. c.in-None.ensures.none j high)
