-- The first place is where the loop stops.
use Rattle.std.proofs.Common.{◌≡◌, ◌<◌, ℕ, true, false, sym, ◌∙◌, arith}
use Rattle.elf_read.specs.Header.{section_count}
use Rattle.elf_read.specs.Section.{has_name}
use Rattle.elf_read.proofs.PlaceLemmas.{first_where-is, first_where-none}
use Rattle.elf_read.proofs.file.File.first_named.Goals as goal

pub returns-then-has_name : goal.returns-then-has_name
returns-then-has_name c =
    let test = λ (k : ℕ). has_name c.args.self.now k c.args.name.now in
    let here : has_name c.args.self.now c.loop-k.k c.args.name.now ≡ true = cc in
    let count : c.loop-k.k < section_count c.args.self.now = omega arith in
    sym (first_where-is test (section_count c.args.self.now) c.loop-k.k count here c.loop-k.invariant)

pub returns : goal.returns
returns c =
    let test = λ (k : ℕ). has_name c.args.self.now k c.args.name.now in
    let count : c.loop-k.k ≡ section_count c.args.self.now = omega arith in
    let none : (j : ℕ) → j < section_count c.args.self.now → test j ≡ false =
    λ j h. c.loop-k.invariant j (omega arith) in
    c.count-count.ensures.same ∙ sym (first_where-none test (section_count c.args.self.now) none)
