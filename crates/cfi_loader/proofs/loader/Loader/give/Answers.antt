use Rattle.std.proofs.Common.{◌≤◌, ◌++◌, ℕ, List, drop, All, sym, ap, subst, ◌∙◌}
use Rattle.cfi_ledger.specs.Force.{count_by_policy}
use Rattle.cfi_ledger.specs.Opens.{given_reply}
use Rattle.cfi_ledger.proofs.DueLemmas.{fills_due, given_inside, given_policy}
use Rattle.cfi_model.specs.Data.{LiesInData}
use Rattle.cfi_model.specs.Log.{last_policy}
use Rattle.cfi_model.specs.Run.{serve_of}
use Rattle.cfi_model.specs.Service.{Reply}
use Rattle.cfi_modules.specs.Fills.{fills_of}
use Rattle.cfi_unit.specs.declared.fill.Fill.{Fill}
use Rattle.cfi_unit.specs.declared.log.Log.{Log}
use Rattle.cfi_valid.specs.Replay.{given_by}
use Rattle.cfi_word.specs.declared.limits.TheConstants.{MAX_POLICY}
use Rattle.rv_guest.specs.Guest.{MayAnswer}
use Rattle.cfi_loader.specs.Ledger.{Ledger}
use Rattle.cfi_loader.specs.Passes.{reply_with}
use Rattle.cfi_loader.proofs.ReadLemmas.{policy_most, fills_lie}
use Rattle.cfi_loader.proofs.loader.Loader.give.Goals as goal

-- the answer is under the policy in force, and its data lies in private data
pub answer-requires : goal.answer-requires
answer-requires g c =
    let a = c.self.inside in
    let guest = c.args.guest.now in
    let policy : ℕ = a.books.force.policy in
    let address = c.args.loaded.now.address in
    let fills : List Fill = c.due-fills.result.now in
    let lies : All LiesInData fills = subst (All LiesInData) (sym c.due-fills.ensures)
    (fills_lie g.N.TableName.key a.books a.keeper c.self.invariant.kept
    (count_by_policy (given_by c.log.result.now) a.books.force.roster)) in
    let same = sym (given_policy address policy fills) in
    subst (λ (r : Reply). MayAnswer r guest) (sym c.open_answer.ensures) (record {
      waiting = c.requires.waits;
      inside = given_inside address policy fills lies;
      few = λ cause. c.requires.few;
      rises = subst (λ (p : ℕ). last_policy guest.base.log ≤ p) same
          (subst (λ (l : Ledger). last_policy guest.base.log ≤ l.course.end.policy) (sym c.self.view_is)
          c.requires.rises);
      most = subst (λ (p : ℕ). p ≤ MAX_POLICY) same
          (policy_most g.N.TableName.key a.books a.keeper c.self.invariant.kept);
    })

-- it is the reply with the data that is due
pub returns : goal.returns
returns g c =
    let a = c.self.inside in
    let guest = c.args.guest.now in
    let log : List Log = guest.base.log in
    let address = c.args.loaded.now.address in
    let f = a.books.force in
    let kept = c.self.invariant.kept in
    let due = c.due-fills.ensures
    ∙ ap (λ (l : List Log). drop (count_by_policy (given_by l) f.roster) (fills_of f.roster.placed) ++ f.roster.cells)
    c.log.ensures.entries
    ∙ sym (fills_due a.books.plan f kept.ledger.policies kept.roster_is kept.flags_are kept.filled (given_by log)) in
    c.answer.ensures
    ∙ ap (serve_of guest) (c.open_answer.ensures ∙ ap (given_reply address a.books.force.policy) due)
    ∙ ap (λ (l : Ledger). serve_of guest (reply_with l log address)) c.self.view_is
