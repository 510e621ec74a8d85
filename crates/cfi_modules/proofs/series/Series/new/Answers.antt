use Rattle.std.proofs.Common.{[], refl, sym, subst, rules}
use Rattle.std.proofs.lemmas.List.Elements.{All-nil}
use Rattle.std.proofs.lemmas.Option.{none-some}
use Rattle.cfi_aux.specs.Sound.{IsSoundModule}
use Rattle.cfi_modules.specs.Series.{IsSeries}
use Rattle.cfi_modules.proofs.series.Series.new.Goals as goal

-- no modules are in order
pub invariant_of-result : goal.invariant_of-result
invariant_of-result c =
    let items = sym c.new.ensures.items in
    let none : IsSeries c.code_words.result [] = record {
      size = search rules;
      modules = [];
      sound = All-nil IsSoundModule;
      count = refl;
      joined = λ k m p m_is p_is. absurd (none-some m m_is);
    } in
    record {
      series = subst (IsSeries c.code_words.result) items none;
      many = search rules;
      live = search rules;
      names = tt;
    }
