use Rattle.std.proofs.Common.{List, []}
use Rattle.cfi_valid.specs.Loaded.{LoadedModule}
use Rattle.cfi_judge.specs.inner.Next.{IsNext}
use Rattle.cfi_judge.proofs.FollowLemmas.{HaveFollowed}
use Rattle.cfi_judge.proofs.modules.follow.Given as goal
use Rattle.std.proofs.Common.{length}

-- the modules so far follow, and the next place is behind them
abbrev pub invariant-loop-entry : goal.invariant-loop-entry
invariant-loop-entry l =
    (before : List LoadedModule) → IsNext l.plan.code_words (length l.modules) before [] l.fn.start
    → HaveFollowed l.plan l.modules before l.lines l.journal l.entry-index l.followed
