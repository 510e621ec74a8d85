use Rattle.std.proofs.Common.{◌≡◌, ◌∷◌, [], map, All}
use Rattle.elf_read.specs.Places.{joined}
use Rattle.cfi_gen.specs.declared.shape.Drawn.{Drawn}
use Rattle.cfi_gen.specs.Draws.{AreDrawn, words_of, seeded}
use Rattle.cfi_gen.specs.Drawn.{AreFunctions, module_draws}
use Rattle.cfi_gen.proofs.draws.draw_modules.Given as goal

-- the modules so far
abbrev pub invariant-loop-number : goal.invariant-loop-number
invariant-loop-number l = record {
  drawn : AreDrawn (seeded l.fn.seed) (module_draws l.drawn.items) (words_of l.rng);
  numbers : map (λ (one : Drawn). one.number) l.drawn.items ≡ joined (λ number. number ∷ []) l.number;
  functions : All (λ (one : Drawn). AreFunctions one.functions) l.drawn.items;
}
