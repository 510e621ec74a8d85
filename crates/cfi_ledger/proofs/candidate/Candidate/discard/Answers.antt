use Rattle.std.proofs.Common.{ℕ, List, length, take, drop, ap, sym, refl, ◌∙◌}
use Rattle.cfi_aux.specs.declared.placed.Placed.{Placed}
use Rattle.cfi_modules.specs.Fills.{fills_of}
use Rattle.cfi_modules.specs.Series.{Series, without_last}
use Rattle.cfi_ledger.specs.Roster.{Candidate}
use Rattle.cfi_ledger.proofs.JoinedLemmas.{roster_by, roster_with}
use Rattle.cfi_ledger.proofs.RosterLemmas.{init_listed, init_fills}
use Rattle.cfi_ledger.proofs.candidate.Candidate.discard.Goals as goal

pub invariant_of-result : goal.invariant_of-result
invariant_of-result c =
    let a = c.self.inside in
    let placed = a.prepared.placed in
    let rest = sym (ap (λ (s : Series). s.placed) c.discard.ensures) in
    let listed = init_listed (length a.lines.items) (length placed) placed c.self.invariant.many refl
    ∙ ap (λ (ps : List Placed). length ps) rest in (
      listed,
      ap (λ (n : ℕ). take n a.fills.items) (sym listed)
          ∙ init_fills (take (length a.lines.items) a.fills.items) a.fill placed c.self.invariant.fills
          ∙ ap fills_of rest,
    )

-- the cells before are there still
pub returns : goal.returns
returns c =
    let a = c.self.inside in
    let placed = a.prepared.placed in
    let listed = init_listed (length a.lines.items) (length placed) placed c.self.invariant.many refl in
    ap (roster_by a.lines.items a.retired.items a.fills.items) c.discard.ensures
    ∙ ap (λ (n : ℕ). roster_with a.lines.items a.retired.items (drop n a.fills.items) (without_last a.prepared))
    (sym listed)
    ∙ ap (λ (x : Candidate). x.before) c.self.view_is
