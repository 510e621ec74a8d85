use Rattle.std.proofs.Common.{◌≡◌, ap, subst, sym, ◌∙◌}
use Rattle.cfi_model.specs.History.{IsStart}
use Rattle.cfi_tables.specs.declared.view.PassView.{PassView}
use Rattle.cfi_runner.specs.Seen.{IsSight, history_seen}
use Rattle.cfi_runner.proofs.SeenLemmas.{start_later}
use Rattle.cfi_threads.proofs.runs.run_guests.Goals.{in-Some-eq0, in-None}
use Rattle.cfi_threads.proofs.runs.run_guests.Goals as goal

-- the pass has seen more
pub loop-preserved : goal.loop-preserved
loop-preserved g c =
    let k = g.N.TableName.key in
    let sees = c.in_ok-guest.ensures.sees in
    let start = start_later k c.loop.reader.pass.sight c.drive.new.pass.sight c.loop.invariant.sight sees 88
    c.loop.invariant.start in
    let same : c.match-repeats.reader.pass ≡ c.drive.new.pass = elim c.match-repeats.branch [
      | in-Some-eq0 w ↦ ap (λ r. r.pass) w.reader-is
      | in-None w ↦ ap (λ r. r.pass) w.reader-is
    ] in
    record {
      sight = subst (λ (q : PassView). IsSight k q.sight) (sym same) sees.is;
      start = subst (λ (q : PassView). IsStart (history_seen k q.sight) 88) (sym same) start;
      outside = ap (λ (q : PassView). q.parked) same ∙ c.in_ok-guest.ensures.outside;
    }
