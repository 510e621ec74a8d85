-- The loaded modules as they are kept: a line of a report for each, its data, where it stands, and whether it is live.
use Rattle.std.specs.Prelude.{◌≡◌, ℕ, ◌+◌, ◌≤◌, ◌<◌, Bool, true, false, List, [], ◌∷◌, ◌++◌, length, map, take, drop, slice_get, slice_set, Some, vec_len, vec_capacity}
use Rattle.cfi_aux.specs.declared.modules.Module.{Module}
use Rattle.cfi_aux.specs.declared.placed.Placed.{Placed}
use Rattle.cfi_plan.specs.declared.journal.ModuleLine.{ModuleLine}
use Rattle.cfi_plan.specs.declared.plan.Plan.{Plan}
use Rattle.cfi_graph.specs.Cell.{cells_of}
use Rattle.cfi_modules.specs.Fills.{fill_of, fills_of}
use Rattle.cfi_policy.specs.Book.{KeptImage, StandsFor}
use Rattle.cfi_modules.specs.Image.{IsImageOfSeries, IsLiveImageOf}
use Rattle.cfi_modules.specs.Series.{Series, live_in, without_last, with_retired, JoinsTo}
use Rattle.cfi_unit.specs.declared.fill.Fill.{Fill}
use Rattle.cfi_valid.specs.Kept.{Origin, loaded_from}
use Rattle.cfi_valid.specs.Loaded.{LoadedModule, Members, module_line_of}
use Rattle.cfi_valid.specs.declared.retirement.Retirement.{Retirement}
use Rattle.cfi_word.specs.declared.lists.Image.{Image}
use Rattle.cfi_ledger.specs.declared.roster.Roster.TheInside.{Inside}
use Rattle.cfi_ledger.specs.declared.candidate.Candidate.TheInside.{Inside as CandidateInside}
use Rattle.cfi_ledger.specs.declared.departure.Departure.TheInside.{Inside as DepartureInside}
use Rattle.cfi_ledger.specs.declared.offer.Offer.TheInside.{Inside as OfferInside}

-- the lines of a report, what placing made of the modules, for each whether it is live, those that were retired, and
-- the cells that were filled last
pub record Roster : Type 0 where
  pub code_words : ℕ
  pub lines : List ModuleLine
  pub placed : List Placed
  pub flags : List Bool
  pub retired : List Retirement
  pub cells : List Fill

-- the modules as a series
abbrev pub series_of : Roster → Series
series_of roster = record { code_words = roster.code_words; placed = roster.placed; flags = roster.flags }

-- what placing made of the live ones
abbrev pub live_placed : Roster → List Placed
live_placed roster = live_in (series_of roster)

-- what is kept, as clauses see it: the cells stand behind the data of the modules
abbrev pub roster_of : Inside → Roster
roster_of a = record {
  code_words = a.series.code_words;
  lines = a.lines.items;
  placed = a.series.placed;
  flags = a.series.flags;
  retired = a.retired.items;
  cells = drop (length a.series.placed) a.fills.items;
}

-- a line for each module, and its data
abbrev pub IsRoster : Inside → Type 0
IsRoster a =
    (length a.lines.items ≡ length a.series.placed)
    × (take (length a.series.placed) a.fills.items ≡ fills_of a.series.placed)

-- the cells are those of the modules, with what names mean among the live ones
abbrev pub IsFilled : Roster → Type 0
IsFilled r = r.cells ≡ cells_of (live_placed r) r.placed

-- what a report says of a module of this number, name and policy
abbrev pub line_by : (number : ℕ) → (name : List ℕ) → (policy : ℕ) → Placed → ModuleLine
line_by number name policy placed = record {
  number = number;
  name = name;
  base = placed.base;
  slot = placed.slot_base;
  data_base = placed.data_base;
  policy = policy;
}

-- where the module of a line comes from
abbrev pub origin_of : ModuleLine → Origin
origin_of line = record { number = line.number; policy = line.policy }

-- the loaded modules, of the lines and the places
abbrev pub loaded_of : List ModuleLine → List Placed → List LoadedModule
loaded_of lines placed = loaded_from origin_of lines placed

-- its modules with their lines
abbrev pub loaded_in_roster : Roster → List LoadedModule
loaded_in_roster r = loaded_of r.lines r.placed

-- and which of them were retired
abbrev pub members_in_roster : Roster → Members
members_in_roster r = record { loaded = loaded_in_roster r; retired = r.retired }

-- the roster has the code words of the plan, and the lines of its loaded modules
pub record IsRosterOf (plan : Plan) (r : Roster) : Type 0 where
  pub code_words_are : r.code_words ≡ plan.code_words
  pub many : length r.lines ≡ length r.placed
  pub lines_are : r.lines ≡ map (module_line_of plan.modules) (loaded_in_roster r)

-- a roster has a module more, which joins those before it; of its cells nothing is said
pub record HasJoined (number : ℕ) (name : List ℕ) (policy : ℕ) (unplaced : Module) (old new : Roster) : Type 0 where
  pub one : Placed
  pub joins : JoinsTo (series_of old) unplaced one
  pub is : new ≡ record old {
    lines = old.lines ++ line_by number name policy one ∷ [];
    placed = old.placed ++ one ∷ [];
    flags = old.flags ++ true ∷ [];
    cells = new.cells;
  }

-- the module at a place was retired, with this policy; of the cells nothing is said
pub record HasRetired (place policy : ℕ) (old new : Roster) : Type 0 where
  pub line : ModuleLine
  pub line_is : slice_get old.lines place ≡ Some line
  pub is : new ≡ record old {
    flags = slice_set old.flags place false;
    retired = old.retired ++ record { number = line.number; policy = policy } ∷ [];
    cells = new.cells;
  }

-- the image is that of all modules of a roster, under their own policy
abbrev pub IsImageOfRoster : Roster → Image → Type 0
IsImageOfRoster roster image = IsImageOfSeries (series_of roster) image

-- the book is that of the modules of a series: it stands for the live ones, and its image is theirs, with the code of
-- all
pub record IsBookOfSeries (series : Series) (book : KeptImage) : Type 0 where
  pub stands : StandsFor (live_in series) book
  pub image : IsLiveImageOf series book.image

-- it is that of the modules of a roster
abbrev pub IsBookOfRoster : Roster → KeptImage → Type 0
IsBookOfRoster roster book = IsBookOfSeries (series_of roster) book

-- ---- a module more, which may be taken back

-- the modules before it, all with it, and the book of all
pub record Candidate : Type 0 where
  pub before : Roster
  pub roster : Roster
  pub book : KeptImage

-- what is kept, as clauses see it: without its last module, and with it
abbrev pub candidate_of : CandidateInside → Candidate
candidate_of a = record {
  before = record {
    code_words = a.prepared.code_words;
    lines = a.lines.items;
    placed = (without_last a.prepared).placed;
    flags = (without_last a.prepared).flags;
    retired = a.retired.items;
    cells = drop (length a.lines.items) a.fills.items;
  };
  roster = record {
    code_words = a.prepared.code_words;
    lines = a.lines.items ++ a.line ∷ [];
    placed = a.prepared.placed;
    flags = a.prepared.flags;
    retired = a.retired.items;
    cells = a.cells.items;
  };
  book = a.book;
}

-- there is room for its line, its data and the cells
pub record IsCandidate (a : CandidateInside) : Type 0 where
  pub many : length a.lines.items + 1 ≡ length a.prepared.placed
  pub fills : take (length a.lines.items) a.fills.items ++ a.fill ∷ [] ≡ fills_of a.prepared.placed
  pub line_fits : vec_len a.lines < vec_capacity a.lines
  pub fills_fit : vec_len a.fills + vec_len a.cells < vec_capacity a.fills

-- ---- a module less that is live, which may be taken back

-- what is kept, as clauses see it: with the module live, and without
abbrev pub departure_of : DepartureInside → Candidate
departure_of a = record {
  before = record {
    code_words = a.series.code_words;
    lines = a.lines.items;
    placed = a.series.placed;
    flags = a.series.flags;
    retired = a.retired.items;
    cells = drop (length a.lines.items) a.fills.items;
  };
  roster = record {
    code_words = a.series.code_words;
    lines = a.lines.items;
    placed = a.series.placed;
    flags = slice_set a.series.flags a.place false;
    retired = a.retired.items ++ a.gone ∷ [];
    cells = a.cells.items;
  };
  book = a.book;
}

-- the other live modules are there, and room for the retirement and the cells
pub record IsDeparture (a : DepartureInside) : Type 0 where
  pub many : length a.lines.items ≡ length a.series.placed
  pub fills : take (length a.lines.items) a.fills.items ≡ fills_of a.series.placed
  pub within : a.place < length a.series.placed
  pub others : a.others.items ≡ live_in (with_retired a.series a.place)
  pub gone_fits : vec_len a.retired < vec_capacity a.retired
  pub cells_fit : vec_len a.lines + vec_len a.cells ≤ vec_capacity a.fills

-- ---- a module more, which is taken later

-- its line, and what placing made of it
pub record Offer : Type 0 where
  pub line : ModuleLine
  pub placed : Placed

-- what is kept, as clauses see it
abbrev pub offer_of : OfferInside → Offer
offer_of a = record { line = a.line; placed = a.placed }

-- its data is there too
abbrev pub HasItsData : OfferInside → Type 0
HasItsData a = a.fill ≡ fill_of a.placed

-- a roster with it, in which no cells are filled
abbrev pub with_offer : Offer → Roster → Roster
with_offer offer r = record r {
  lines = r.lines ++ offer.line ∷ [];
  placed = r.placed ++ offer.placed ∷ [];
  flags = r.flags ++ true ∷ [];
  cells = [];
}

-- a module of this number, name and policy joins the roster so
pub record IsOffer (number : ℕ) (name : List ℕ) (policy : ℕ) (unplaced : Module) (r : Roster) (offer : Offer)
    : Type 0 where
  pub joins : JoinsTo (series_of r) unplaced offer.placed
  pub line_is : offer.line ≡ line_by number name policy offer.placed
