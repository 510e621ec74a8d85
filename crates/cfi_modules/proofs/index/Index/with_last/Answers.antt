use Rattle.std.proofs.Common.{◌≡◌, ◌∙◌, ℕ, ◌+◌, ◌-◌, ◌≤◌, List, length, take, sym, ap, arith}
use Rattle.std.specs.List.{flat_map}
use Rattle.std.proofs.Math.Seq.{take-length}
use Rattle.std.proofs.lemmas.List.{length-take}
use Rattle.cfi_aux.specs.declared.placed.Placed.{Placed}
use Rattle.cfi_place.specs.Names.{first_in}
use Rattle.cfi_modules.specs.inner.Index.{ArePlacesBelow}
use Rattle.cfi_modules.proofs.NamesLemmas.{one_module_more}
use Rattle.cfi_modules.proofs.IndexLemmas.{index-take}
use Rattle.cfi_modules.proofs.index.Index.with_last.Goals as goal

-- the names of the last module come behind those of the others
pub returns : goal.returns
returns c =
    let placed = c.args.placed.now in
    let n = length placed - 1 in
    let short : length (take n placed) ≤ n = omega (arith, length-take n placed) in
    let was : ArePlacesBelow n c.args.self =
    λ digest place is. let less = c.requires.index.below digest place is in omega (arith, less, short) in
    let before = flat_map (λ (p : Placed). p.exports) (take n placed) in
    let some = c.requires.some in
    let whole : take (n + 1) placed ≡ placed =
    ap (λ (k : ℕ). take k placed) (omega (arith, some)) ∙ take-length placed in
    record {
      below = λ digest place is.
          let less = c.in_ok-add_module.ensures.below (λ d p has. let low = was d p has in omega (arith, low)) digest place is in
          omega (arith, less, some);
      names = λ name.
          c.in_ok-add_module.ensures.names before
          (λ q. sym (index-take placed n c.args.self was q) ∙ c.requires.index.names q) name
          ∙ ap (λ (pairs : List (List ℕ × ℕ)). first_in pairs name)
          (one_module_more placed n c.index-placed-number.result (omega (arith, some)) c.index-placed-number.is
          ∙ ap (flat_map (λ (p : Placed). p.exports)) whole);
    }
