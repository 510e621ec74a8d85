use Rattle.std.proofs.Common.{ap, ◌∙◌, ◌++◌, ℕ, map, add-one, ◌∷◌, [], List, All, subst, sym}
use Rattle.std.proofs.lemmas.List.Elements.{All-nil, All-push}
use Rattle.std.proofs.lemmas.List.{map-append}
use Rattle.elf_read.specs.Places.{joined}
use Rattle.cfi_gen.specs.declared.shape.Drawn.{Drawn}
use Rattle.rand_pcg.specs.Lcg.{Lcg}
use Rattle.cfi_gen.specs.Draws.{AreDrawn, words_of, seeded}
use Rattle.cfi_gen.specs.Drawn.{AreFunctions, function_draws, module_draws}
use Rattle.cfi_gen.proofs.DrawsLemmas.{none_drawn, pieces_grow}
use Rattle.cfi_gen.proofs.draws.draw_modules.Goals as goal

-- nothing is drawn yet
pub loop-number-init : goal.loop-number-init
loop-number-init c =
    let none = c.new-drawn.ensures.items in
    record {
      drawn = subst (λ (ds : List Drawn). AreDrawn (seeded c.args.seed) (module_draws ds) (words_of c.new-rng.result))
          (sym none)
          (subst (λ (g : Lcg). AreDrawn (seeded c.args.seed) [] (words_of g)) (sym c.new-rng.ensures)
          (none_drawn (seeded c.args.seed)));
      numbers = ap (map (λ (one : Drawn). one.number)) none;
      functions = subst (All (λ (one : Drawn). AreFunctions one.functions)) (sym none)
          (All-nil (λ (one : Drawn). AreFunctions one.functions));
    }

-- one module more
pub loop-number-preserved : goal.loop-number-preserved
loop-number-preserved c = record {
  drawn = pieces_grow (seeded c.args.seed) (words_of c.loop-number.rng) (words_of c.draw_functions.new.rng)
      (λ (one : Drawn). function_draws one.functions) [] c.loop-number.drawn.items c.push.new.self.items _
      c.in_ok-push.ensures.items c.loop-number.invariant.drawn c.in_ok-functions.ensures.drawn;
  numbers = ap (map (λ (one : Drawn). one.number)) c.in_ok-push.ensures.items
      ∙ map-append (λ (one : Drawn). one.number) c.loop-number.drawn.items _
      ∙ ap (λ (ns : List ℕ). ns ++ c.loop-number.number ∷ []) c.loop-number.invariant.numbers
      ∙ ap (joined (λ (number : ℕ). number ∷ [])) (sym (add-one c.loop-number.number));
  functions = subst (All (λ (one : Drawn). AreFunctions one.functions)) (sym c.in_ok-push.ensures.items)
      (All-push (λ (one : Drawn). AreFunctions one.functions) c.loop-number.drawn.items _
      c.loop-number.invariant.functions c.in_ok-functions.ensures.are);
}
