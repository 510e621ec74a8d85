use Rattle.cfi_runner.proofs.SeenLemmas.{seen_history, sees_trans}
use Rattle.cfi_runner.proofs.UnitLemmas.{paused}
use Rattle.cfi_runner.proofs.WayLemmas.{shown_in}
use Rattle.cfi_runner.specs.Seen.{history_seen, code_seen}
use Rattle.cfi_runner.specs.Run.{words_found}
use Rattle.cfi_model.specs.Shows.{Shows, ends_along}
use Rattle.std.proofs.Common.{sym, subst}
use Rattle.cfi_runner.proofs.laws.a_run_shows_the_policy_machine.Goals as goal

pub returns : goal.returns
returns c = λ k fuel p q old new pause can run later more.
    (let h = history_seen k later in
    let code = code_seen k later in
    let accesses = run.taken.accesses in
    let shown = shown_in k fuel p old can later (sees_trans k p.sight q.sight later run.keeps.sees more) accesses
    (run.taken.along later more) in
    record {
      history = seen_history k later more.is;
      retries = shown.0;
      state = shown.1;
      shown = shown.2;
      paused = paused h code (ends_along old (words_found accesses)) old.base shown.1 shown.2.runs can.going shown.0
          run.last (subst (Shows h code shown.0 shown.1) (sym run.taken.is) shown.2.shows) pause fuel new run.pauses;
    })
