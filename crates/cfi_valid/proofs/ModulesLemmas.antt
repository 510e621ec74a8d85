-- The modules that a report's lines tell of are one list, and a journal leads to them.
use Rattle.std.proofs.Common.{◌≡◌, ℕ, ◌+◌, ◌<◌, ◌≤◌, ◌++◌, List, [], ◌∷◌, length, map, take, replicate, Option, Some, All, refl, sym, ap, subst, ◌∙◌, ⊎_elim, append_assoc, arith, length-append}
use Rattle.std.specs.Prelude.{filter_map}
use Rattle.std.specs.List.{slice_get, cons_option}
use Rattle.std.specs.Option.{option_map}
use Rattle.std.proofs.Math.Seq.{take-length}
use Rattle.std.proofs.lemmas.Bool.{cases_lt}
use Rattle.std.proofs.lemmas.List.{append-nil, map-append, length-map, length-replicate, take-append-le, take-map}
use Rattle.std.proofs.lemmas.List.Elements.{All-head, All-tail, filter_map-append}
use Rattle.std.proofs.lemmas.Option.{slice_get-map, slice_get_within}
use Rattle.cfi_aux.specs.declared.modules.Module.{Module}
use Rattle.cfi_aux.specs.declared.placed.Placed.{Placed}
use Rattle.cfi_modules.specs.Order.{IsPlacedBehind, Joins}
use Rattle.cfi_modules.proofs.OrderLemmas.{left, last}
use Rattle.cfi_plan.specs.declared.journal.Entry.{Entry}
use Rattle.cfi_plan.specs.declared.journal.JournalLine.{JournalLine}
use Rattle.cfi_plan.specs.declared.plan.Plan.{Plan}
use Rattle.cfi_report.specs.declared.report.Report.{Report}
use Rattle.cfi_valid.specs.Growth.{AreUpTo}
use Rattle.cfi_valid.specs.Journal.{JournalState, starts_from, modules_at, IsOpeningState, IsLoadLine, LineLeads, EntriesLead, IsJournal}
use Rattle.cfi_valid.specs.Kept.{Origin}
use Rattle.cfi_valid.specs.Loaded.{LoadedModule, placed_modules, module_line_of}
use Rattle.cfi_valid.specs.Modules.{start_origin, start_origins, origins_in, told_origins, gone_in, gone_before, origin_of, number_of, without, ArePlaced, HasModules}
use Rattle.cfi_valid.specs.declared.retirement.Retirement.{Retirement}
use Rattle.cfi_valid.proofs.LineLemmas.{line_does}
use Rattle.cfi_valid.proofs.LiveLemmas.{gone_numbers, without_gone, opening_up_to, line_up_to}
use Rattle.cfi_valid.proofs.OrderLemmas.{places_once}

-- ---- one list

numbers_told : (xs : List LoadedModule) → map number_of xs ≡ map (λ (o : Origin). o.number) (map origin_of xs)
numbers_told [] = refl
numbers_told (x ∷ xs) = ap (λ (ns : List ℕ). x.number ∷ ns) (numbers_told xs)

-- as many numbers of retired modules as there are modules that were loaded
gone_many : (gone : List ℕ) (journal : List Entry) → length (gone_before gone journal) ≡ length (told_origins journal)
gone_many gone [] = refl
gone_many gone (entry ∷ later) =
    let more : List Origin = origins_in entry.what in
    let rest = gone_many (gone ++ gone_in entry.what) later in
    let front = length-append (replicate (length more) gone) (gone_before (gone ++ gone_in entry.what) later) in
    let back = length-append more (told_origins later) in
    let same = length-replicate (length more) gone in
    omega (arith, rest, front, back, same)

modules_many : (plan : Plan) (modules : List Module) (report : Report) (a : List LoadedModule)
    → HasModules plan modules report a
    → length a ≡ length (starts_from 0 plan.modules) + length (gone_before [] report.journal)
modules_many plan modules report a p =
    let told = ap (λ (os : List Origin). length os) p.origins in
    let front = length-map a origin_of in
    let both = length-append (start_origins plan) (told_origins report.journal) in
    let starts = length-map (starts_from 0 plan.modules) start_origin in
    omega (arith, told, front, both, starts, gone_many [] report.journal)

pub modules_once : (plan : Plan) (modules : List Module) (report : Report) (a b : List LoadedModule)
    → HasModules plan modules report a → HasModules plan modules report b → a ≡ b
modules_once plan modules report a b p q =
    let origins : map origin_of a ≡ map origin_of b = p.origins ∙ sym q.origins in
    let numbers : map number_of a ≡ map number_of b =
    numbers_told a ∙ ap (λ (os : List Origin). map (λ (o : Origin). o.number) os) origins ∙ sym (numbers_told b) in
    let starts : ℕ = length (starts_from 0 plan.modules) in
    let gone : List (List ℕ) = gone_before [] report.journal in
    places_once plan.code_words starts gone (start_origins plan ++ told_origins report.journal)
    (modules_at modules (map number_of b)) a b (modules_many plan modules report a p)
    (modules_many plan modules report b q) p.origins q.origins
    (subst (λ (ns : List ℕ). ArePlaced plan.code_words starts (modules_at modules ns) gone a) numbers p.places) q.places

-- ---- one more that is placed

module _ (code_words starts : ℕ) (modules : List Module) (gone : List (List ℕ)) (loaded : List LoadedModule)
    (many : length loaded ≡ starts + length gone) (p : ArePlaced code_words starts modules gone loaded) (m : Module)
    (l : LoadedModule) (numbers : List ℕ)
    (behind : IsPlacedBehind code_words (placed_modules loaded) (placed_modules (without numbers loaded)) m l.placed)
  where
    abbrev longer : List LoadedModule
    longer = loaded ++ l ∷ []

    -- a module is placed behind these
    abbrev StandsBehind : List ℕ → List LoadedModule → Module → LoadedModule → Type 0
    StandsBehind ns before unit x =
        IsPlacedBehind code_words (placed_modules before) (placed_modules (without ns before)) unit x.placed

    starts_more : (k : ℕ) (unit : Module) (x : LoadedModule) → k < starts → slice_get (modules ++ m ∷ []) k ≡ Some unit
        → slice_get longer k ≡ Some x
        → Joins code_words (placed_modules (take k longer)) (placed_modules (take k longer)) unit x.placed
    starts_more k unit x below is there =
        let less : k < length loaded = omega (arith, below, many) in
        let before : take k longer ≡ take k loaded = take-append-le k loaded (l ∷ []) (omega (arith, less)) in
        subst
        (λ (xs : List LoadedModule). Joins code_words (placed_modules xs) (placed_modules xs) unit x.placed)
        (sym before)
        (p.starts_join k unit x below (left modules (m ∷ []) k unit (omega (arith, less, p.count)) is)
        (left loaded (l ∷ []) k x less there))

    behind_more : (k : ℕ) (unit : Module) (x : LoadedModule) (ns : List ℕ)
        → slice_get (modules ++ m ∷ []) (starts + k) ≡ Some unit → slice_get longer (starts + k) ≡ Some x
        → slice_get (gone ++ numbers ∷ []) k ≡ Some ns → StandsBehind ns (take (starts + k) longer) unit x
    behind_more k unit x ns is there told = ⊎_elim
        (λ (less : starts + k < length loaded).
        let before : take (starts + k) longer ≡ take (starts + k) loaded =
        take-append-le (starts + k) loaded (l ∷ []) (omega (arith, less)) in
        subst (λ (xs : List LoadedModule). StandsBehind ns xs unit x) (sym before)
        (p.behind k unit x ns (left modules (m ∷ []) (starts + k) unit (omega (arith, less, p.count)) is)
        (left loaded (l ∷ []) (starts + k) x less there)
        (left gone (numbers ∷ []) k ns (omega (arith, less, many)) told)))
        (λ (past : length loaded ≤ starts + k).
        let end : starts + k ≡ length loaded =
        omega (arith, past, slice_get_within longer (starts + k) x there, length-append loaded (l ∷ [])) in
        let before : take (starts + k) longer ≡ loaded =
        take-append-le (starts + k) loaded (l ∷ []) (omega (arith, end)) ∙ ap (λ (n : ℕ). take n loaded) end
        ∙ take-length loaded in
        let same_m : m ≡ unit = last modules m (starts + k) unit (end ∙ p.count) is in
        let same_l : l ≡ x = last loaded l (starts + k) x end there in
        let same_n : numbers ≡ ns = last gone numbers k ns (omega (arith, end, many)) told in
        subst (λ (xs : List LoadedModule). StandsBehind ns xs unit x) (sym before)
        (subst (λ (n : List ℕ). StandsBehind n loaded unit x) same_n
        (subst (λ (y : LoadedModule). StandsBehind numbers loaded unit y) same_l
        (subst (λ (n : Module). StandsBehind numbers loaded n l) same_m behind))))
        (cases_lt (starts + k) (length loaded))

    places_more : ArePlaced code_words starts (modules ++ m ∷ []) (gone ++ numbers ∷ []) longer
    places_more = record {
      count = omega (arith, length-append modules (m ∷ []), length-append loaded (l ∷ []), p.count);
      starts_join = starts_more;
      behind = behind_more;
    }

-- ---- those of a journal

abbrev IsFirst : LoadedModule → Type 0
IsFirst l = l.policy ≡ 0

abbrev origin_with : (number policy : ℕ) → Origin
origin_with number policy = record { number = number; policy = policy }

first_origins : (xs : List LoadedModule) → All IsFirst xs → map origin_of xs ≡ map start_origin (map number_of xs)
first_origins [] all = refl
first_origins (x ∷ xs) all =
    let here : x.policy ≡ 0 = All-head IsFirst x xs all in
    ap (λ (policy : ℕ). origin_with x.number policy ∷ map origin_of xs) here
    ∙ ap (λ (os : List Origin). start_origin x.number ∷ os) (first_origins xs (All-tail IsFirst x xs all))

module _ (plan : Plan) (modules : List Module) where
  abbrev starts : ℕ
  starts = length (starts_from 0 plan.modules)

  -- the modules of a state are placed, with these numbers of those that were retired before each
  record IsTold (told : List (List ℕ)) (s : JournalState) : Type 0 where
    pub many : length s.loaded ≡ starts + length told
    pub places : ArePlaced plan.code_words starts (modules_at modules (map number_of s.loaded)) told s.loaded

  opening_told : (s : JournalState) → IsOpeningState plan modules s → IsTold [] s
  opening_told s opens =
      let placed_of : LoadedModule → Placed = λ l. l.placed in
      let numbers = ap (λ (ns : List ℕ). length ns) opens.starts in
      let count = length-map s.loaded number_of in
      let placed = length-map s.loaded placed_of in
      let order = opens.order in
      let places : ArePlaced plan.code_words starts (modules_at modules (starts_from 0 plan.modules)) [] s.loaded =
      record {
        count = sym placed ∙ order.count;
        starts_join = λ k m l below is there.
            subst (λ (ps : List Placed). Joins plan.code_words ps ps m l.placed) (take-map placed_of k s.loaded)
            (order.joins k m l.placed is
            (slice_get-map placed_of s.loaded k
            ∙ ap (λ (o : Option LoadedModule). option_map placed_of o) there));
        behind = λ k m l numbers is there told. absurd (cc);
      } in
      record {
        many = omega (arith, numbers, count);
        places = subst
            (λ (ns : List ℕ). ArePlaced plan.code_words starts (modules_at modules ns) [] s.loaded)
            (sym opens.starts) places;
      }

  -- ---- one line

  -- a line tells of these, and was told so far of those
  record IsNext (told : List (List ℕ)) (old : JournalState) (more : List Origin) (gone : List ℕ) (new : JournalState)
      : Type 0 where
    pub tells : IsTold (told ++ replicate (length more) (gone_numbers old.retired)) new
    pub numbers : gone_numbers new.retired ≡ gone_numbers old.retired ++ gone
    pub origins : map origin_of new.loaded ≡ map origin_of old.loaded ++ more

  module _ (told : List (List ℕ)) (old : JournalState) (upto : AreUpTo old) (is : IsTold told old) where
    load_told : (number epoch policy : ℕ) (load : IsLoadLine plan modules old number epoch policy)
        → ArePlaced plan.code_words starts
        (modules_at modules (map number_of
        (old.loaded ++ record { number = number; placed = load.clean.placed; policy = policy } ∷ [])))
        (told ++ gone_numbers old.retired ∷ [])
        (old.loaded ++ record { number = number; placed = load.clean.placed; policy = policy } ∷ [])
    load_told number epoch policy load =
        let clean = load.clean in
        let m : Module = clean.absent.unplaced in
        let one : LoadedModule = record { number = number; placed = clean.placed; policy = policy } in
        let before : List Module = modules_at modules (map number_of old.loaded) in
        let here : filter_map (slice_get modules) (number ∷ []) ≡ m ∷ [] =
        ap (λ (o : Option Module). cons_option o []) clean.absent.is in
        let units : modules_at modules (map number_of (old.loaded ++ one ∷ [])) ≡ before ++ m ∷ [] =
        ap (modules_at modules) (map-append number_of old.loaded (one ∷ []))
        ∙ filter_map-append (slice_get modules) (map number_of old.loaded) (number ∷ [])
        ∙ ap (λ (ms : List Module). before ++ ms) here in
        let behind =
        subst
        (λ (live : List LoadedModule).
        IsPlacedBehind plan.code_words (placed_modules old.loaded) (placed_modules live) m clean.placed)
        (sym (without_gone old upto)) clean.joins.behind in
        subst
        (λ (ms : List Module).
        ArePlaced plan.code_words starts ms (told ++ gone_numbers old.retired ∷ []) (old.loaded ++ one ∷ []))
        (sym units)
        (places_more plan.code_words starts before told old.loaded is.many is.places m one (gone_numbers old.retired)
        behind)

    -- with no module more
    none_told : IsTold (told ++ []) old
    none_told = subst (λ (ns : List (List ℕ)). IsTold ns old) (sym (append-nil told)) is

    none_more : map origin_of old.loaded ≡ map origin_of old.loaded ++ []
    none_more = sym (append-nil (map origin_of old.loaded))

    none_gone : gone_numbers old.retired ≡ gone_numbers old.retired ++ []
    none_gone = sym (append-nil (gone_numbers old.retired))

    line_told : (line : JournalLine) (new : JournalState) → LineLeads plan modules old line new
        → IsNext told old (origins_in line) (gone_in line) new
    line_told line new leads =
        line_does plan modules old (IsNext told old)
        (record { tells = none_told; numbers = none_gone; origins = none_more })
        (λ number epoch policy load.
        let one : LoadedModule = record { number = number; placed = load.clean.placed; policy = policy } in
        record {
          tells = record {
            many = omega (
              arith,
              is.many,
              length-append old.loaded (one ∷ []),
              length-append told (gone_numbers old.retired ∷ []),
            );
            places = load_told number epoch policy load;
          };
          numbers = none_gone;
          origins = map-append origin_of old.loaded (one ∷ []);
        })
        (λ number epoch policy retire. record {
          tells = record { many = none_told.many; places = none_told.places };
          numbers = map-append (λ (r : Retirement). r.number) old.retired
              (record { number = number; policy = policy } ∷ []);
          origins = none_more;
        })
        (λ epoch goes. record {
          tells = record { many = none_told.many; places = none_told.places };
          numbers = none_gone;
          origins = none_more;
        }) line new leads

  -- ---- the lines of a journal

  along_told : (told : List (List ℕ)) (old new : JournalState) (entries : List Entry) → AreUpTo old → IsTold told old
      → EntriesLead plan modules old entries new
      → IsTold (told ++ gone_before (gone_numbers old.retired) entries) new
      × (map origin_of new.loaded ≡ map origin_of old.loaded ++ told_origins entries)
  along_told told old new [] upto is along =
      subst
      (λ (s : JournalState). IsTold (told ++ []) s × (map origin_of s.loaded ≡ map origin_of old.loaded ++ []))
      (sym along) (none_told told old upto is, none_more told old upto is)
  along_told told old new (entry ∷ entries) upto is along =
      let gone : List ℕ = gone_numbers old.retired in
      let front : List (List ℕ) = replicate (length (origins_in entry.what)) gone in
      let next = line_told told old upto is entry.what along.0 along.1.1 in
      let rest = along_told (told ++ front) along.0 new entries
      (line_up_to plan modules old along.0 entry.what along.1.1 upto) next.tells along.2 in
      let same = ap (λ (ns : List ℕ). (told ++ front) ++ gone_before ns entries) next.numbers
      ∙ append_assoc told front (gone_before (gone ++ gone_in entry.what) entries) in (
        subst (λ (ns : List (List ℕ)). IsTold ns new) same rest.0,
        rest.1
            ∙ ap (λ (os : List Origin). os ++ told_origins entries) next.origins
            ∙ append_assoc (map origin_of old.loaded) (origins_in entry.what) (told_origins entries),
      )

  pub journal_modules : (report : Report) (end : JournalState) → IsJournal plan modules report.journal end
      → report.modules ≡ map (module_line_of plan.modules) end.loaded → HasModules plan modules report end.loaded
  journal_modules report end is lines =
      let upto = opening_up_to plan modules is.opening is.opens in
      let all = along_told [] is.opening end report.journal upto (opening_told is.opening is.opens) is.leads in
      let none : gone_numbers is.opening.retired ≡ [] = ap gone_numbers is.opens.stay in
      let told = subst (λ (ns : List ℕ). IsTold (gone_before ns report.journal) end) none all.0 in
      record {
        origins = all.1
            ∙ ap (λ (os : List Origin). os ++ told_origins report.journal)
            (first_origins is.opening.loaded is.opens.policies
            ∙ ap (λ (ns : List ℕ). map start_origin ns) is.opens.starts);
        places = told.places;
        lines = lines;
      }
