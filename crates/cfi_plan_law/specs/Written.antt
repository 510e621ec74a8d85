-- The lines of a plan behind the first, as they are written.
use Rattle.std.specs.Prelude.{◌≡◌, ℕ, ◌^◌, ◌<◌, ◌≤◌, Bool, true, false, ⊤, List, [], ◌∷◌, codes}
use Rattle.cfi_plan.specs.declared.line.Line.{Line}
use Rattle.cfi_plan.specs.declared.line.Line.TheVariants.{Blank, Code, Versions, Epoch, Fuel, Module, Guest, Load, Retire, Refresh}
use Rattle.cfi_text.specs.Decimal.{dec_text}
use Rattle.cfi_text.specs.Names.{is_name, is_file}

-- when a module is there: from the start, or late
abbrev pub when_word : (start : Bool) → List ℕ
when_word true = codes "start"
when_word false = codes "late"

-- the words of a line
abbrev pub words_of : Line → List (List ℕ)
words_of Blank = []
words_of (Code number) = codes "code" ∷ dec_text number ∷ []
words_of (Versions number) = codes "versions" ∷ dec_text number ∷ []
words_of (Epoch number) = codes "epoch" ∷ dec_text number ∷ []
words_of (Fuel number) = codes "fuel" ∷ dec_text number ∷ []
words_of (Module one) = codes "module" ∷ one.name ∷ one.file ∷ when_word one.start ∷ []
words_of (Guest entry) = codes "guest" ∷ entry ∷ []
words_of (Load name) = codes "load" ∷ name ∷ []
words_of (Retire name) = codes "retire" ∷ name ∷ []
words_of (Refresh count) = codes "refresh" ∷ dec_text count ∷ []

-- a line that can be said: its numbers have 64 bits, its names are names, and it makes a refresh at least
abbrev pub CanBeSaid : Line → Type 0
CanBeSaid Blank = ⊤
CanBeSaid (Code number) = number < 2 ^ 64
CanBeSaid (Versions number) = number < 2 ^ 64
CanBeSaid (Epoch number) = number < 2 ^ 64
CanBeSaid (Fuel number) = number < 2 ^ 64
CanBeSaid (Module one) = (is_name one.name ≡ true) × (is_file one.file ≡ true)
CanBeSaid (Guest entry) = is_name entry ≡ true
CanBeSaid (Load name) = is_name name ≡ true
CanBeSaid (Retire name) = is_name name ≡ true
CanBeSaid (Refresh count) = (1 ≤ count) × (count < 2 ^ 64)

-- the words are a line that can be said
abbrev pub Says : (words : List (List ℕ)) → Line → Type 0
Says words line = (words ≡ words_of line) × CanBeSaid line
