-- The first place is where the loop stops.
use Rattle.std.proofs.Common.{◌≡◌, ◌<◌, ℕ, true, false, nat_eq, sym, ◌∙◌, arith}
use Rattle.std.proofs.lemmas.Bool.Decides.{nat_tests}
use Rattle.elf_read.specs.Header.{section_count}
use Rattle.elf_read.specs.Section.{section_at}
use Rattle.elf_read.proofs.PlaceLemmas.{first_where-is, first_where-none}
use Rattle.elf_read.proofs.file.File.first_of_kind.Goals as goal

pub returns-then-section-kind : goal.returns-then-section-kind
returns-then-section-kind c =
    let test = λ (k : ℕ). nat_eq (section_at c.args.self.now k).kind c.args.kind in
    let here : (nat_eq (section_at c.args.self.now c.loop-k.k).kind c.args.kind) ≡ true = grind (arith, nat_tests) in
    let count : c.loop-k.k < section_count c.args.self.now = omega arith in
    sym (first_where-is test (section_count c.args.self.now) c.loop-k.k count here c.loop-k.invariant)

pub returns : goal.returns
returns c =
    let test = λ (k : ℕ). nat_eq (section_at c.args.self.now k).kind c.args.kind in
    let count : c.loop-k.k ≡ section_count c.args.self.now = omega arith in
    let none : (j : ℕ) → j < section_count c.args.self.now → test j ≡ false =
    λ j h. c.loop-k.invariant j (omega arith) in
    c.count-count.ensures.same ∙ sym (first_where-none test (section_count c.args.self.now) none)
