use Rattle.cfi_gen.specs.declared.shape.Kind.{Kind}
use Rattle.std.proofs.Common.{All, ◌≤◌, ◌≡◌, ◌∷◌, length, drop, Some, flat_map}
use Rattle.std.specs.Prelude.{slice_get}
use Rattle.cfi_gen.specs.Draws.{AreDrawn, words_of}
use Rattle.cfi_gen.specs.Drawn.{kind_draws, first_kind}
use Rattle.cfi_gen.proofs.draws.draw_kinds.Given as goal

-- the kinds so far are drawn behind their count
abbrev pub invariant-loop : goal.invariant-loop
invariant-loop l = record {
  drawn : AreDrawn (words_of l.fn.rng)
      (record { least = 2; among = 6; number = l.count } ∷ flat_map kind_draws (drop 1 l.kinds.items))
      (words_of l.rng);
  first : slice_get l.kinds.items 0 ≡ Some first_kind;
  nodes : All (λ (kind : Kind). kind.node ≤ 2) l.kinds.items;
  many : length l.kinds.items ≡ l.counter;
}
