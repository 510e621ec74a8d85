-- The lines of a schedule, by their words.
use Rattle.std.specs.Prelude.{◌≡◌, ◌⊎◌, ℕ, ◌<◌, nat_lt, ◌==◌, List, [], ◌∷◌, ◌++◌, length, codes, if◌then◌else◌, Option, Some, None, ⊤}
use Rattle.cfi_plan.specs.declared.plan.Plan.{Plan}
use Rattle.cfi_plan.specs.Draft.{module_of}
use Rattle.cfi_sim.specs.declared.line.Line.{Line}
use Rattle.cfi_sim.specs.declared.line.Line.TheVariants.{Blank, Guest, Load, Refresh, Update, UpdateAll, Release}
use Rattle.cfi_text.specs.Decimal.{small_number_in}
use Rattle.cfi_values.specs.Some.{◌>>=◌}

-- a guest of the plan by its number, and a number of events, which is not 0
abbrev pub guest_in : Plan → (word : List ℕ) → Option ℕ
guest_in plan word =
    small_number_in word >>= λ number. if nat_lt number (length plan.guests) then Some number else None

-- a number of times, at least one
abbrev pub count_in : (word : List ℕ) → Option ℕ
count_in word = small_number_in word >>= λ number. if number == 0 then None else Some number

-- the words are these alone, which stands for one event, or these and a number of events
abbrev pub SaysCount : (front words : List (List ℕ)) → (count : ℕ) → Type 0
SaysCount front words count =
    ((words ≡ front) × (count ≡ 1))
    ⊎ ((number : List ℕ) × (words ≡ front ++ number ∷ []) × (count_in number ≡ Some count))

-- what the words say: a case a kind of line
abbrev pub Says : Plan → (words : List (List ℕ)) → Line → Type 0
Says plan words Blank = words ≡ []
Says plan words (Guest guest count) =
    (number : List ℕ) × (guest_in plan number ≡ Some guest) × SaysCount (codes "guest" ∷ number ∷ []) words count
Says plan words (Load number) =
    (name : List ℕ) × (module_of plan.modules name ≡ Some number) × (words ≡ codes "load" ∷ name ∷ [])
Says plan words Refresh = words ≡ codes "refresh" ∷ []
Says plan words (Update count) = SaysCount (codes "update" ∷ []) words count
Says plan words UpdateAll = words ≡ codes "update" ∷ codes "all" ∷ []
Says plan words (Release guest) =
    (number : List ℕ) × (guest_in plan number ≡ Some guest) × (words ≡ codes "release" ∷ number ∷ [])

-- a module that a line loads is one of the plan
abbrev pub IsKnown : Plan → Line → Type 0
IsKnown plan (Load number) = number < length plan.modules
IsKnown plan Blank = ⊤
IsKnown plan (Guest guest count) = ⊤
IsKnown plan Refresh = ⊤
IsKnown plan (Update count) = ⊤
IsKnown plan UpdateAll = ⊤
IsKnown plan (Release guest) = ⊤
