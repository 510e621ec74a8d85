-- Which line stands at the front of a text, and may stand there.
use Rattle.std.specs.Prelude.{◌≡◌, ℕ, true, List, ◌++◌}
use Rattle.cfi_report.specs.declared.line.Line.{Line}
use Rattle.cfi_report.specs.declared.stage.Stage.{Stage}
use Rattle.cfi_report.specs.Line.{line_text}
use Rattle.cfi_report.specs.Report.{IsLine}
use Rattle.cfi_report.specs.inner.Draft.{may_follow}

-- the line stands there and may follow, and this text comes after it
pub record IsNext (at : Stage) (text : List ℕ) (one : Line) (rest : List ℕ) : Type 0 where
  pub line : IsLine one
  pub follows : may_follow at one ≡ true
  pub stands : text ≡ line_text one ++ rest

-- no line stands there that may follow
abbrev pub HasNoNext : (at : Stage) → (text : List ℕ) → Type 0
HasNoNext at text = (one : Line) (rest : List ℕ) → IsNext at text one rest → ⊥
