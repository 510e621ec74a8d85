-- The faults of a line that depend on the lines before it and after it, by a draft and by rows.
use Rattle.std.specs.Prelude.{Bool, false, ◌||◌, List, [], ◌∷◌, if◌then◌else◌}
use Rattle.rv_line.specs.declared.statement.Statement.{Statement}
use Rattle.rv_asm.specs.declared.file.File.{File}
use Rattle.rv_asm.specs.declared.row.Row.{Row}
use Rattle.rv_asm.specs.declared.spot.Spot.{Spot}
use Rattle.rv_asm.specs.Fault.{Found, is_kind, is_jump, says, is_misplaced}
use Rattle.rv_asm.specs.inner.Draft.{Draft}

-- an indirect jump follows before another kind
abbrev pub jump_follows : (rows : List Row) → Bool
jump_follows [] = false
jump_follows (row ∷ rows) =
    if says is_kind row.statement || says is_jump row.statement then says is_jump row.statement else jump_follows rows

-- what a statement finds by the draft of the lines before it and the rows of those after it
abbrev pub found_by : Spot → Draft → (rest : List Row) → Found
found_by spot draft rest =
    record { spot = spot; function = draft.function; kind = draft.kind; jump = jump_follows rest }

-- a statement stands where it may not
abbrev pub is_astray : File → Draft → (rest : List Row) → Spot → Statement → Bool
is_astray file draft rest spot statement = is_misplaced file (found_by spot draft rest) statement
