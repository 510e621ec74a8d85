use Rattle.std.proofs.Common.{◌≡◌, Some, slice_get, rules, refl, sym, ◌∙◌, arith}
use Rattle.std.proofs.lemmas.Grind.{common_steps}
use Rattle.std.proofs.lemmas.List.{length-set}
use Rattle.rv_names.specs.Names.{number_in, with_name, exported}
use Rattle.rv_names.proofs.NamesLemmas.{number_in-bound, number_in-set, named-there, changed-at}
use Rattle.rv_names.proofs.names.Names.export.Goals as goal

pub index_mut-requires : goal.index_mut-requires
index_mut-requires c =
    let found : number_in c.self.inside.entries.items c.args.name.now ≡ Some c.in_ok-place.place =
    rw c.self.view_is c.in_ok-place.ensures.place in
    let bound = number_in-bound c.self.inside.entries.items c.args.name.now c.in_ok-place.place found in
    grind (arith, common_steps)

pub invariant_of-self : goal.invariant_of-self
invariant_of-self c =
    let table = c.self.inside.entries.items in
    let entry = c.index_mut.result.now in
    let found : number_in table c.args.name.now ≡ Some c.in_ok-place.place =
    rw c.self.view_is c.in_ok-place.ensures.place in
    let there : slice_get table c.in_ok-place.place ≡ Some entry = named-there table _ _ entry found (search rules) in
    record {
      numbers = λ q. c.self.invariant.numbers q ∙ sym (number_in-set table c.in_ok-place.place entry _ q there refl);
      count = rw (length-set table c.in_ok-place.place _) c.self.invariant.count;
    }

pub returns-clause-ok : goal.returns-clause-ok
returns-clause-ok c =
    let table = c.self.inside.entries.items in
    let entry = c.index_mut.result.now in
    let found : number_in table c.args.name.now ≡ Some c.in_ok-place.place =
    rw c.self.view_is c.in_ok-place.ensures.place in
    let there : slice_get table c.in_ok-place.place ≡ Some entry = named-there table _ _ entry found (search rules) in
    let same : table ≡ with_name c.args.self.now c.args.name.now = c.self.view_is ∙ c.in_ok-place.ensures.ok in
    changed-at exported _ table c.args.name.now c.in_ok-place.place entry same found there
