use Rattle.std.proofs.Common.{◌∙◌, List, refl, ap, sym, arith}
use Rattle.cfi_modules.proofs.SeriesLemmas.{first_is_room}
use Rattle.cfi_place.specs.Names.{first_in}
use Rattle.cfi_judge.specs.declared.next.Stood.{Stood}
use Rattle.cfi_judge.specs.inner.Next.{exports_left}
use Rattle.cfi_judge.proofs.NextLemmas.{fresh, none_gone}
use Rattle.cfi_judge.proofs.next.Next.first.Goals as goal

-- the first room, and no names
pub returns : goal.returns
returns c = record {
  words = refl;
  base = refl;
  slot = refl;
  data_base = refl;
  room = first_is_room c.args.code_words c.requires;
  known = λ k d within. absurd (omega (arith, within));
  stood = c.new.ensures.items;
  flags = none_gone c.args.count c.resize.new.self.items (fresh c.args.count c.new-gone.result.items _ _
      c.new-gone.ensures.items c.new-gone.ensures.len c.in_ok-resize.ensures.items);
  names = λ name. c.new-2.ensures name ∙ ap (λ (ss : List Stood). first_in (exports_left c.resize.new.self.items ss)
      name) (sym c.new.ensures.items);
}
