-- The lines of a source, each behind those before it, and where that is: in the area of the last `.text` or `.data`
-- before it, in text where there is none, and as many bytes into it as the lines before it add to this area.
use Rattle.std.specs.Prelude.{ℕ, Bool, true, false, List, [], ◌∷◌, ◌++◌, map, Option, Some, None, unwrap_or}
use Rattle.std.specs.List.{filter_map, last_or, sum_by, count_by}
use Rattle.cfi_text.specs.Lines.{lines_of}
use Rattle.elf_read.specs.declared.object.Area.{Area}
use Rattle.elf_read.specs.declared.object.Area.TheVariants as areas
use Rattle.rv_line.specs.declared.statement.Statement.{Statement}
use Rattle.rv_line.specs.declared.statement.Statement.TheVariants as statements
use Rattle.rv_line.specs.declared.line.Line.{Line}
use Rattle.rv_line.specs.Line.{line_in}
use Rattle.rv_asm.specs.declared.spot.Spot.{Spot}
use Rattle.rv_asm.specs.Spot.{text_size, data_size}

-- the lines that a text says
abbrev pub lines_in : (text : List ℕ) → List Line
lines_in text = map line_in (lines_of text)

-- a line behind those before it
pub record Placed : Type 0 where
  pub before : List Line
  pub line : Line

-- lines that follow these, each behind those before it
abbrev pub placed_behind : (before lines : List Line) → List Placed
placed_behind before [] = []
placed_behind before (line ∷ lines) =
    record { before = before; line = line } ∷ placed_behind (before ++ line ∷ []) lines

-- each line, with those before it
abbrev pub placed : (lines : List Line) → List Placed
placed lines = placed_behind [] lines

-- the area that a statement switches to
abbrev pub switched : Option Statement → Option Area
switched (Some statements.Text) = Some areas.Text
switched (Some statements.Data) = Some areas.Data
switched other = None

-- the last that the lines say of something
abbrev pub last_said : {A : Type 0} → (Line → Option A) → (lines : List Line) → Option A
last_said say lines = last_or None (filter_map say lines)

-- the area of a line behind these
abbrev pub area_after : (before : List Line) → Area
area_after before = unwrap_or (last_said (λ line. switched line.statement) before) areas.Text

-- the bytes that a statement in its own area adds to this one
abbrev pub size_in : (area own : Area) → Option Statement → ℕ
size_in areas.Text areas.Text (Some statement) = text_size statement
size_in areas.Data areas.Data (Some statement) = data_size statement
size_in area own statement = 0

-- how many bytes a line adds to an area where it stands
abbrev pub size_at : Area → Placed → ℕ
size_at area at = size_in area (area_after at.before) at.line.statement

-- how much of an area these lines make
abbrev pub end_after : Area → (before : List Line) → ℕ
end_after area before = sum_by (size_at area) (placed before)

-- how many `la` are among them
abbrev pub is_pair : Option Statement → Bool
is_pair (Some (statements.La rd name)) = true
is_pair other = false

-- how many pairs the lines have
abbrev pub pairs_after : (before : List Line) → ℕ
pairs_after before = count_by (λ line. is_pair line.statement) before

-- where a line behind these stands
abbrev pub spot_after : (before : List Line) → Spot
spot_after before = record {
  area = area_after before;
  text_end = end_after areas.Text before;
  data_end = end_after areas.Data before;
  pairs = pairs_after before;
}
