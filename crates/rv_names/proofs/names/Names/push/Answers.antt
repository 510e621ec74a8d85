use Rattle.std.proofs.Common.{◌≡◌, ◌++◌, ◌∷◌, [], length, refl, ap, arith, length-append}
use Rattle.std.proofs.lemmas.Grind.{common_steps}
use Rattle.rv_names.proofs.NamesLemmas.{number_in-push}
use Rattle.rv_names.proofs.names.Names.push.Goals as goal

pub invariant_of-self-2 : goal.invariant_of-self-2
invariant_of-self-2 c =
    let table = c.self.inside.entries.items in
    let pushed : c.push_reserved.new.self.items ≡ table ++ c.args.entry ∷ [] =
    rw (c.push_reserved.ensures.items, c.in_ok-reserve.ensures.items) refl in
    let count : c.len-number.result ≡ length table = grind (arith, common_steps) in
    let longer = length-append table (c.args.entry ∷ []) in
    record {
      numbers = λ q. rw (
        pushed,
        c.in_ok-give_number.ensures.ok q,
        c.as_str.ensures,
        c.self.invariant.numbers q,
        number_in-push table c.args.entry q,
        count,
      ) refl;
      count = rw pushed (omega (arith, ap length c.self.view_is, c.requires));
    }
