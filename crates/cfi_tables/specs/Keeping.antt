-- What the keeper keeps: an entry for each epoch from the first on, the updates that were not admitted, for each guest
-- number whether its pass is out, and what it knows of the QUIET words. It hears what a guest has published where it
-- tells the pass what it has seen.
use Rattle.std.specs.Prelude.{◌≡◌, ℕ, ◌+◌, ◌-◌, ◌<◌, List, Bool, true, false, [], ◌∷◌, ◌++◌, length, replicate, slice_index, slice_index_or, slice_set, ◌==◌, if◌then◌else◌}
use Rattle.cfi_word.specs.declared.limits.TheConstants.{GUESTS}
use Rattle.cfi_word.specs.declared.lists.Image.{Image}
use Rattle.cfi_model.specs.declared.history.Entry.{Entry}
use Rattle.cfi_model.specs.declared.history.Refusal.{Refusal}
use Rattle.cfi_model.specs.declared.quiet.TheConstants.{PARKED}
use Rattle.cfi_model.specs.Words.{no_entry}
use Rattle.cfi_model.specs.World.{first_entry}
use Rattle.cfi_tables.specs.Key.{Key}
use Rattle.cfi_tables.specs.declared.view.Quiets.{Quiets}

-- what the keeper keeps
pub record Keeping : Type 0 where
  pub entries : List Entry
  pub refusals : List Refusal
  pub out : List Bool
  pub quiets : Quiets

-- what a QUIET word tells of what its guest has published, where this was known before: it may be parked
abbrev pub heard_in : (word before : ℕ) → ℕ
heard_in word before = if word == PARKED then before else word

-- the keeper has stored a guest's QUIET word, or heard what it has published
abbrev pub heard_as : (guest word : ℕ) → Quiets → Quiets
heard_as guest word quiets = record quiets { heard = slice_set quiets.heard guest word }

-- an update has loaded it
abbrev pub found_as : (guest word : ℕ) → Quiets → Quiets
found_as guest word quiets = record {
  heard = slice_set quiets.heard guest (heard_in word (slice_index quiets.heard guest));
  found = slice_set quiets.found guest word;
}

-- nothing is known of no word, and at the opening each is 0
abbrev pub no_quiets : Quiets
no_quiets = record { heard = []; found = [] }

-- the QUIET words of an opening: no guest is there
abbrev pub opened_quiets : Quiets
opened_quiets = record { heard = replicate GUESTS 0; found = replicate GUESTS 0 }

-- the opening has one entry, and no pass is out
abbrev pub opened_entries : Key → List Entry
opened_entries k = first_entry k.image ∷ []

-- what the keeper keeps at the opening: the first entry
abbrev pub opened_keeping : Key → Keeping
opened_keeping k = record {
  entries = opened_entries k;
  refusals = [];
  out = replicate GUESTS false;
  quiets = opened_quiets;
}

-- the last entry
abbrev pub last_of : List Entry → Entry
last_of entries = slice_index_or entries (length entries - 1) no_entry

-- the entry of an update
abbrev pub entry_by : (policy : ℕ) → Image → (mark : ℕ) → Entry
entry_by policy image mark = record { policy = policy; image = image; mark = mark }

-- an update after which this is known of the QUIET words adds one entry, or one refusal
abbrev pub grown_by : Entry → Quiets → Keeping → Keeping
grown_by entry quiets keeping = record keeping { entries = keeping.entries ++ entry ∷ []; quiets = quiets }

-- an update more was not admitted
abbrev pub refused_by : Refusal → Quiets → Keeping → Keeping
refused_by refusal quiets keeping = record keeping { refusals = keeping.refusals ++ refusal ∷ []; quiets = quiets }

-- the guest's pass is out
abbrev pub is_out : List Bool → (guest : ℕ) → Bool
is_out out guest = slice_index_or out guest false

-- a pass goes out: its number is the least whose pass is not
pub record IsFree (out : List Bool) (guest : ℕ) : Type 0 where
  pub within : guest < GUESTS
  pub free : is_out out guest ≡ false
  pub least : (other : ℕ) → other < guest → is_out out other ≡ true

-- a pass goes out, whose guest has published the epoch in force, or comes back
abbrev pub let_out : Key → (guest : ℕ) → Keeping → Keeping
let_out k guest keeping = record keeping {
  out = slice_set keeping.out guest true;
  quiets = heard_as guest (k.first + length keeping.entries) keeping.quiets;
}

-- the guest's pass is back, and its word is 0
abbrev pub let_in : (guest : ℕ) → Keeping → Keeping
let_in guest keeping = record keeping {
  out = slice_set keeping.out guest false;
  quiets = heard_as guest 0 keeping.quiets;
}

-- a pass is told, whose guest has published this epoch
abbrev pub heard_of : (guest quiet : ℕ) → Keeping → Keeping
heard_of guest quiet keeping = record keeping { quiets = heard_as guest (quiet + 1) keeping.quiets }

-- all passes are out
abbrev pub AreAllOut : List Bool → Type 0
AreAllOut out = (guest : ℕ) → guest < GUESTS → is_out out guest ≡ true
