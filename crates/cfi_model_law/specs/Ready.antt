-- The policy machine between two units of a run.
use Rattle.std.specs.Prelude.{ℕ, List}
use Rattle.cfi_model.specs.History.{History, IsHistory}
use Rattle.cfi_model.specs.Shows.{End, IsReady, Runs}
use Rattle.cfi_model.specs.State.{State}

-- it is ready for the next unit, after however many it has run
abbrev pub RunsStayReady : Type 0
RunsStayReady =
    (h : History) (code : List ℕ) → IsHistory h code → (ends : List End) (old new : State) → IsReady h old →
    Runs h code ends old new → IsReady h new
