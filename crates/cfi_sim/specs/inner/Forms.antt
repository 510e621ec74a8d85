-- The line that words say, by their number.
use Rattle.std.specs.Prelude.{ℕ, List, [], ◌∷◌, codes, if◌then◌else◌, Option, Some, None}
use Rattle.std.specs.Option.{option_map}
use Rattle.std.specs.Str.{bytes_eq}
use Rattle.cfi_plan.specs.declared.plan.Plan.{Plan}
use Rattle.cfi_plan.specs.Draft.{module_of}
use Rattle.cfi_sim.specs.Line.{guest_in, count_in}
use Rattle.cfi_sim.specs.declared.line.Line.{Line}
use Rattle.cfi_sim.specs.declared.line.Line.TheVariants.{Blank, Guest, Load, Refresh, Update, UpdateAll, Release}
use Rattle.cfi_values.specs.Some.{◌>>=◌}

-- so many events of a guest
abbrev pub guest_form : Plan → (number count : List ℕ) → Option Line
guest_form plan number count = do
  guest ← guest_in plan number
  events ← count_in count
  Some (Guest guest events)

-- so many events of the updater, or all that are left of its update
unfoldable pub updates_form : (word : List ℕ) → Option Line
updates_form word = if bytes_eq word (codes "all") then Some UpdateAll else option_map Update (count_in word)

-- a line of one word
unfoldable pub alone_form : (keyword : List ℕ) → Option Line
alone_form keyword =
    if bytes_eq keyword (codes "refresh") then Some Refresh
    else (if bytes_eq keyword (codes "update") then Some (Update 1) else None)

-- and one of two
unfoldable pub two_words_form : Plan → (keyword word : List ℕ) → Option Line
two_words_form plan keyword word =
    if bytes_eq keyword (codes "guest") then option_map (λ guest. Guest guest 1) (guest_in plan word)
    else (if bytes_eq keyword (codes "load") then option_map Load (module_of plan.modules word)
    else (if bytes_eq keyword (codes "release") then option_map Release (guest_in plan word)
    else (if bytes_eq keyword (codes "update") then updates_form word
    else None)))

-- the line that the words say
abbrev pub schedule_form : Plan → (words : List (List ℕ)) → Option Line
schedule_form plan [] = Some Blank
schedule_form plan (keyword ∷ []) = alone_form keyword
schedule_form plan (keyword ∷ word ∷ []) = two_words_form plan keyword word
schedule_form plan (keyword ∷ number ∷ count ∷ []) =
    if bytes_eq keyword (codes "guest") then guest_form plan number count else None
schedule_form plan (keyword ∷ number ∷ count ∷ word ∷ words) = None
