use Rattle.std.proofs.Common.{◌≡◌, ◌++◌, ◌∷◌, [], None, length, refl, sym, ◌∙◌, arith}
use Rattle.std.proofs.lemmas.Grind.{common_steps}
use Rattle.cfi_plan.specs.Draft.{module_of}
use Rattle.cfi_plan.proofs.DraftLemmas.{module_of-push, starts-push, none_from}
use Rattle.cfi_plan.proofs.draft.Draft.add_module.Goals as goal

pub invariant_of-self-2 : goal.invariant_of-self-2
invariant_of-self-2 c =
    let modules = c.self.inside.modules.items in
    let one = c.args.one in
    let pushed : c.push_reserved.new.self.items ≡ modules ++ one ∷ [] =
    rw (c.push_reserved.ensures.items, c.in_ok-reserve.ensures.items) refl in
    let absent : module_of modules one.name ≡ None = sym (c.self.invariant.names one.name) ∙ sym c.number_of.ensures
    ∙ none_from c.number_of.result (sym c.is_some.ensures ∙ c.if-is_some.false) in
    let next : c.len-next.result ≡ length modules = grind (arith, common_steps) in
    record {
      names = λ q. rw (
        pushed,
        c.in_ok-give_number.ensures.ok q,
        module_of-push modules one q absent,
        next,
        c.self.invariant.names q,
      ) refl;
      starts_counted = rw (pushed, starts-push modules one) (omega arith);
      refreshes_counted = c.self.invariant.refreshes_counted;
      starts_within = omega arith;
      refreshes_within = c.self.invariant.refreshes_within;
    }
