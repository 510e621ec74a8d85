use Rattle.std.proofs.Common.{◌≡◌, ◌++◌, ◌∷◌, [], length, Some, None, refl, sym, ap, ◌∙◌, arith}
use Rattle.std.proofs.lemmas.Grind.{common_steps}
use Rattle.rv_names.specs.Names.{number_in, fresh}
use Rattle.rv_names.proofs.NamesLemmas.{with_name-found, with_name-missing, number_in-new}
use Rattle.rv_names.proofs.names.Names.place_of.Goals as goal

pub returns-in-Some-clause-ok : goal.returns-in-Some-clause-ok
returns-in-Some-clause-ok c =
    sym (with_name-found c.args.self.now c.args.name.now c.in-Some.number (sym c.number_of.ensures ∙ c.in-Some.is))

pub returns-clause-ok : goal.returns-clause-ok
returns-clause-ok c =
    let missing : number_in c.args.self.now c.args.name.now ≡ None = sym c.number_of.ensures ∙ c.in_default.is in
    let pushed : c.push.new.self ≡ c.args.self.now ++ fresh c.args.name.now ∷ [] = grind (arith, common_steps) in
    pushed ∙ sym (with_name-missing c.args.self.now c.args.name.now missing)

pub returns-clause-place : goal.returns-clause-place
returns-clause-place c =
    let missing : number_in c.args.self.now c.args.name.now ≡ None = sym c.number_of.ensures ∙ c.in_default.is in
    let pushed : c.push.new.self ≡ c.args.self.now ++ fresh c.args.name.now ∷ [] = grind (arith, common_steps) in
    let count : length c.args.self.now ≡ c.len-number.result = grind (arith, common_steps) in
    rw pushed (number_in-new c.args.self.now (fresh c.args.name.now) c.args.name.now missing refl ∙ ap Some count)
