-- A branch that reaches its target with more long branches does so with fewer.
use Rattle.std.proofs.Common.{◌≡◌, ℕ, ◌+◌, ◌*◌, ◌/◌, ◌<◌, ◌≤◌, Bool, true, List, Option, Some, None, refl, ⊎_elim, arith}
use Rattle.std.proofs.lemmas.Bool.{cases_lt, and_parts, and_from, leb-true, le-leb}
use Rattle.elf_read.specs.declared.object.Symbol.{Symbol}
use Rattle.rv_insn.specs.declared.insn.Insn.{Insn}
use Rattle.rv_insn.specs.declared.insn.Insn.TheVariants as insns
use Rattle.cfi_instr.specs.declared.target.Aim.{Aim}
use Rattle.cfi_instr.specs.declared.target.Aim.TheVariants as aims
use Rattle.cfi_instr.specs.Words.{Words, insn_at, count_of}
use Rattle.cfi_instr.specs.Target.{aim_of_jump}
use Rattle.cfi_instr.specs.Sizes.{size_at, words_before, offsets_of}
use Rattle.cfi_instr.specs.Reach.{is_near, reaches, insn_reaches, word_reaches, IsWithin}
use Rattle.cfi_instr.proofs.SizeLemmas.{total-grows, place-grows, place-part, offset-read, offset-past}

-- what near says, and what says it
pub near-is : (from to : ℕ) → is_near from to ≡ true → (to ≤ from + 4092) × (from ≤ to + 4096)
near-is from to h =
    let parts = and_parts _ _ h in
    (leb-true to (from + 4092) parts.0, leb-true from (to + 4096) parts.1)

pub near-from : (from to : ℕ) → to ≤ from + 4092 → from ≤ to + 4096 → is_near from to ≡ true
near-from from to on back = and_from _ _ (le-leb to (from + 4092) on) (le-leb from (to + 4096) back)

-- from one word to another
between : (t : Words) (long other : List Bool) → IsWithin long other → (u v : ℕ)
    → is_near (4 * words_before t other u) (4 * words_before t other v) ≡ true
    → is_near (4 * words_before t long u) (4 * words_before t long v) ≡ true
between t long other within u v h =
    let far = near-is (4 * words_before t other u) (4 * words_before t other v) h in
    let us = place-grows t long other within u in
    let vs = place-grows t long other within v in
    ⊎_elim
    (λ (after : u < v).
    let part = place-part t long other within u v (omega arith) in
    let order : words_before t long u ≤ words_before t long v = total-grows (size_at t long) u v (omega arith) in
    near-from (4 * words_before t long u) (4 * words_before t long v) (omega (arith, far.0, part, us, vs))
    (omega (arith, order)))
    (λ (before : v ≤ u).
    let part = place-part t long other within v u before in
    let order : words_before t long v ≤ words_before t long u = total-grows (size_at t long) v u before in
    near-from (4 * words_before t long u) (4 * words_before t long v) (omega (arith, order))
    (omega (arith, far.1, part, us, vs)))
    (cases_lt u v)

-- to the start of the output
to_start : (t : Words) (long other : List Bool) → IsWithin long other → (u : ℕ)
    → is_near (4 * words_before t other u) 0 ≡ true → is_near (4 * words_before t long u) 0 ≡ true
to_start t long other within u h =
    let far = near-is (4 * words_before t other u) 0 h in
    let us = place-grows t long other within u in
    near-from (4 * words_before t long u) 0 (omega arith) (omega (arith, far.1, us))

reaches-shrinks : (t : Words) (long other : List Bool) → IsWithin long other → (w : ℕ) (aim : Aim) → w < count_of t
    → reaches (offsets_of t other) w aim ≡ true → reaches (offsets_of t long) w aim ≡ true
reaches-shrinks t long other within w (aims.Offset offset) lt h =
    let lt1 : w < count_of t + 1 = omega arith in
    let here = offset-read t long w lt1 in
    let there = offset-read t other w lt1 in
    ⊎_elim
    (λ (below : offset / 4 < count_of t + 1).
    let to = offset-read t long (offset / 4) below in
    let to_other = offset-read t other (offset / 4) below in
    rw (here, to) (between t long other within w (offset / 4) (rw (there, to_other) at h)))
    (λ (above : count_of t + 1 ≤ offset / 4).
    let to = offset-past t long (offset / 4) above in
    let to_other = offset-past t other (offset / 4) above in
    rw (here, to) (to_start t long other within w (rw (there, to_other) at h)))
    (cases_lt (offset / 4) (count_of t + 1))
reaches-shrinks t long other within w aims.Name lt h =
    let lt1 : w < count_of t + 1 = omega arith in
    let here = offset-read t long w lt1 in
    let there = offset-read t other w lt1 in
    rw here (to_start t long other within w (rw there at h))
reaches-shrinks t long other within w aims.Astray lt h =
    let lt1 : w < count_of t + 1 = omega arith in
    let here = offset-read t long w lt1 in
    let there = offset-read t other w lt1 in
    rw here (to_start t long other within w (rw there at h))

insn-shrinks : (t : Words) (symbols : List Symbol) (long other : List Bool) → IsWithin long other → (w : ℕ)
    (insn : Option Insn) → w < count_of t → insn_reaches t symbols (offsets_of t other) w insn ≡ true
    → insn_reaches t symbols (offsets_of t long) w insn ≡ true
insn-shrinks t symbols long other within w None lt h = refl
insn-shrinks t symbols long other within w (Some (insns.Branch cond rs1 rs2 off)) lt h =
    reaches-shrinks t long other within w (aim_of_jump t symbols w off) lt h
insn-shrinks t symbols long other within w (Some insn) lt h = refl

pub word-shrinks : (t : Words) (symbols : List Symbol) (long other : List Bool) → IsWithin long other → (w : ℕ)
    → w < count_of t → word_reaches t symbols (offsets_of t other) w ≡ true
    → word_reaches t symbols (offsets_of t long) w ≡ true
word-shrinks t symbols long other within w lt h =
    insn-shrinks t symbols long other within w (insn_at t w) lt h
