use Rattle.std.proofs.Common.{ℕ, Bool, List, All, Option, IfNone, length, ap, sym, subst, arith}
use Rattle.cfi_aux.specs.declared.placed.Placed.{Placed}
use Rattle.cfi_graph.specs.Live.{IsUser}
use Rattle.cfi_graph.specs.Shaped.{IsShaped}
use Rattle.cfi_ledger.proofs.roster.Roster.user_of.Goals as goal

-- the law, at the modules that are there
pub overflow_cast-place : goal.overflow_cast-place
overflow_cast-place c =
    let r = c.args.self.now in
    let graph = c.series_have_graph.ensures r.code_words r.placed c.modules.ensures.series in
    omega (arith, graph.few, c.requires)

pub user_of-requires-clause-shaped : goal.user_of-requires-clause-shaped
user_of-requires-clause-shaped c =
    let r = c.args.self.now in
    let graph = c.series_have_graph.ensures r.code_words r.placed c.modules.ensures.series in
    subst (All IsShaped) (sym c.modules.ensures.value) graph.apart.shaped

pub user_of-requires-clause-few : goal.user_of-requires-clause-few
user_of-requires-clause-few c =
    let r = c.args.self.now in
    let graph = c.series_have_graph.ensures r.code_words r.placed c.modules.ensures.series in
    omega (arith, graph.few, ap (λ (ms : List Placed). length ms) c.modules.ensures.value)

-- none jumps into it
pub returns-in_err-user-clause-none : goal.returns-in_err-user-clause-none
returns-in_err-user-clause-none c =
    let r = c.args.self.now in
    let place = c.args.place in
    let none : (by : ℕ) → IsUser r.placed r.flags place by → ⊥ = λ by user.
    c.in_err-user.ensures.none by
    (subst (λ (ms : List Placed). IsUser ms c.flags.result.now place by) (sym c.modules.ensures.value)
    (subst (λ (bs : List Bool). IsUser r.placed bs place by) (sym c.flags.ensures.value) user)) in
    subst (λ (o : Option ℕ). IfNone o ((by : ℕ) → IsUser r.placed r.flags place by → ⊥))
    (sym c.from_residual.ensures) none
