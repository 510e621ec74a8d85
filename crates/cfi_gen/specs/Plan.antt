-- The plan of generated modules: the first is loaded at the start, and the others are loaded late.
use Rattle.std.specs.Prelude.{ℕ, List, ◌++◌, codes, if◌then◌else◌, ◌==◌}
use Rattle.elf_read.specs.Places.{joined}
use Rattle.cfi_gen.specs.Source.{line, module_name, file_name}

-- the lines ahead of the modules
unfoldable pub setting_lines : List ℕ
setting_lines = line (codes "plan 1") ++ line (codes "code 16384") ++ line (codes "fuel 10000000")

-- four guests
unfoldable pub guest_lines : List ℕ
guest_lines =
    line (codes "guest main") ++ line (codes "guest main") ++ line (codes "guest main") ++ line (codes "guest main")

-- when a module is loaded
abbrev pub time_word : (number : ℕ) → List ℕ
time_word number = if number == 0 then codes "start" else codes "late"

-- a module, its file, and when it is loaded
abbrev pub module_line : (number : ℕ) → List ℕ
module_line number =
    line (codes "module " ++ module_name number ++ codes " " ++ file_name number ++ codes " " ++ time_word number)

-- the plan of so many modules
unfoldable pub plan_text : (count : ℕ) → List ℕ
plan_text count = setting_lines ++ joined module_line count ++ guest_lines ++ line (codes "refresh 20")
