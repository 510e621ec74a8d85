use Rattle.std.proofs.Common.{◌≡◌, ◌++◌, take, map, All, flat_map}
use Rattle.cfi_gen.specs.declared.shape.Function.{Function}
use Rattle.cfi_gen.specs.Draws.{AreDrawn, words_of}
use Rattle.cfi_gen.specs.Drawn.{kinds_draws, constant_draws, IsFunction}
use Rattle.cfi_gen.proofs.draws.draw_functions.Given as goal

-- the functions so far are called as was drawn, and their constants are drawn behind that
abbrev pub invariant-loop-kind : goal.invariant-loop-kind
invariant-loop-kind l = record {
  drawn : AreDrawn (words_of l.fn.rng)
      (kinds_draws l.kind-items
      ++ flat_map (λ (function : Function). constant_draws function.constants) l.functions.items) (words_of l.rng);
  kinds : map (λ (function : Function). function.kind) l.functions.items ≡ take l.kind-index l.kind-items;
  each : All IsFunction l.functions.items;
}
