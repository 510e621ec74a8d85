-- Names before the last zero byte are ended, and none after it.
use Rattle.std.proofs.Common.{List, ◌≡◌, ◌≢◌, ◌-◌, ◌<◌, ◌≤◌, ℕ, ◌⊎◌, inl, inr, ⊎_elim, ◌==◌, length, get_or, drop, nat_lt, ◌∙◌, arith}
use Rattle.std.proofs.lemmas.Bool.{cases_lt}
use Rattle.std.proofs.lemmas.Bool.Decides.{nat_tests}
use Rattle.std.specs.List.{list_any}
use Rattle.elf_read.proofs.NameLemmas.{ended-at, not-ended}
use Rattle.elf_read.proofs.bad_section.ended_bytes.Goals as goal

-- the places before an end at a zero byte, and after the last one
up_to : (xs : List ℕ) (end i : ℕ) → end ≤ length xs → (end ≡ 0) ⊎ (get_or xs (end - 1) 0 ≡ 0)
    → ((j : ℕ) → end ≤ j → j < length xs → get_or xs j 0 ≢ 0) → list_any (λ byte. byte == 0) (drop i xs) ≡ nat_lt i end
up_to xs end i within last none = ⊎_elim
    (λ before. ⊎_elim
    (λ zero_end. absurd (omega arith))
    (λ zero_there. ended-at xs i (end - 1) (omega arith) (omega arith) zero_there ∙ grind (arith, nat_tests))
    last)
    (λ after. not-ended xs i (λ j low high. none j (omega arith) high) ∙ grind (arith, nat_tests))
    (cases_lt i end)

pub returns-else-names-end-ne0 : goal.returns-else-names-end-ne0
returns-else-names-end-ne0 c =
    λ i. up_to c.args.names.now c.loop-end.end i c.loop-end.invariant.0 (inr (grind (arith))) c.loop-end.invariant.1

pub returns-after-loop-end : goal.returns-after-loop-end
returns-after-loop-end c =
    λ i. up_to c.args.names.now c.loop-end.end i c.loop-end.invariant.0 (inl (omega arith)) c.loop-end.invariant.1
