use Rattle.std.proofs.Common.{◌≡◌, Some, slice_get, rules, sym, ◌∙◌, arith}
use Rattle.std.proofs.lemmas.Grind.{common_steps}
use Rattle.rv_names.specs.Names.{number_in}
use Rattle.rv_names.proofs.NamesLemmas.{number_in-bound, named-there, definition_in-at, definition_in-missing}
use Rattle.rv_names.proofs.names.Names.definition_of.Goals as goal

pub index-requires : goal.index-requires
index-requires c =
    let found : number_in c.self.inside.entries.items c.args.name.now ≡ Some c.in-Some.number =
    rw c.self.view_is (sym c.number_of.ensures ∙ c.in-Some.is) in
    let bound = number_in-bound c.self.inside.entries.items c.args.name.now c.in-Some.number found in
    grind (arith, common_steps)

pub returns-in-Some : goal.returns-in-Some
returns-in-Some c =
    let found : number_in c.self.inside.entries.items c.args.name.now ≡ Some c.in-Some.number =
    rw c.self.view_is (sym c.number_of.ensures ∙ c.in-Some.is) in
    let there : slice_get c.self.inside.entries.items c.in-Some.number ≡ Some c.index.result.now =
    named-there c.self.inside.entries.items c.args.name.now _ c.index.result.now found (search rules) in
    rw (← c.self.view_is) (sym (definition_in-at c.self.inside.entries.items c.args.name.now c.in-Some.number
    c.index.result.now found there))

pub returns-in-None : goal.returns-in-None
returns-in-None c =
    sym (definition_in-missing c.args.self.now c.args.name.now (sym c.number_of.ensures ∙ c.in-None.is))
