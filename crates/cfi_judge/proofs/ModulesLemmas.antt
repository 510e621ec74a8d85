-- The modules of a report: the start modules, and those that its journal tells of behind them.
use Rattle.std.proofs.Common.{◌≡◌, ℕ, ◌+◌, ◌-◌, ◌<◌, ◌≤◌, Bool, List, [], ◌++◌, length, map, take, drop, get_or, All, refl, sym, ap, subst, ◌∙◌, arith}
use Rattle.std.specs.Prelude.{◌↔◌, IsTrue}
use Rattle.std.proofs.lemmas.List.{append-nil, length-map, length-take-le, map-append, take-append-drop, take_rest}
use Rattle.std.proofs.lemmas.Option.{slice_get-get_or, slice_get_within}
use Rattle.cfi_aux.specs.declared.modules.Module.{Module}
use Rattle.cfi_plan.specs.declared.journal.ModuleLine.{ModuleLine}
use Rattle.cfi_plan.specs.declared.plan.Plan.{Plan}
use Rattle.cfi_report.specs.declared.report.Report.{Report}
use Rattle.cfi_ledger.specs.Roster.{Roster, loaded_in_roster, origin_of as line_origin}
use Rattle.cfi_ledger.specs.Starts.{AreStarted, opened_state}
use Rattle.cfi_ledger.proofs.StartLemmas.{started_all}
use Rattle.cfi_valid.specs.Journal.{JournalState, starts_from}
use Rattle.cfi_valid.specs.Kept.{Origin}
use Rattle.cfi_valid.specs.Loaded.{LoadedModule, module_line_of, placed_modules}
use Rattle.cfi_valid.specs.Modules.{HasModules, gone_before, origin_of, start_origin, start_origins, told_origins}
use Rattle.cfi_valid.specs.Valid.{HasJournal}
use Rattle.cfi_valid.proofs.KeptLemmas.{places_are}
use Rattle.cfi_valid.proofs.ModulesLemmas.{journal_modules}
use Rattle.cfi_judge.specs.Modules.{HasSomeModules}
use Rattle.cfi_judge.specs.inner.Told.{Follow, changes_in}
use Rattle.cfi_judge.proofs.KnownLemmas.{placed_known}
use Rattle.cfi_judge.proofs.ListLemmas.{parts_same}
use Rattle.cfi_judge.proofs.ToldLemmas.{ComeFrom, come_once, first_placed, follow_on, followed, gones_many, gones_told, many, origins_by, origins_told}

-- the modules of a report come from its plan and its journal
pub has_come : (plan : Plan) (modules : List Module) (report : Report) (loaded : List LoadedModule)
    → HasModules plan modules report loaded
    → ComeFrom plan modules (told_origins report.journal) (gone_before [] report.journal) loaded
has_come plan modules report loaded has = record {
  origins = has.origins;
  many = ap (λ (gs : List (List ℕ)). length gs) (sym (gones_told [] report.journal))
      ∙ gones_many [] (changes_in report.journal)
      ∙ ap (λ (os : List Origin). length os) (origins_told report.journal);
  places = has.places;
}

-- those of a legal journal are the ones to which it leads
pub journal_has : (plan : Plan) (modules : List Module) (report : Report) (end : JournalState)
    → HasJournal plan modules report end → HasSomeModules plan modules report
    → HasModules plan modules report end.loaded
journal_has plan modules report end journal has =
    let lines : Report = record report { modules = map (module_line_of plan.modules) end.loaded } in
    let led = journal_modules plan modules lines end journal.course refl in
    let same : has.0 ≡ end.loaded =
    come_once plan modules (told_origins report.journal) (gone_before [] report.journal) has.0 end.loaded
    (has_come plan modules report has.0 has.1) (has_come plan modules lines end.loaded led) in
    subst (HasModules plan modules report) same has.1

module _ (plan : Plan) (modules : List Module) (report : Report) (r : Roster)
    (all : AreStarted plan modules (length plan.modules) r) where
  abbrev line_of : LoadedModule → ModuleLine
  line_of l = module_line_of plan.modules l

  abbrev loaded : List LoadedModule
  loaded = loaded_in_roster r

  abbrev told : List Origin
  told = told_origins report.journal

  abbrev gone : List (List ℕ)
  gone = gone_before [] report.journal

  places : placed_modules loaded ≡ r.placed
  places = places_are line_origin r.lines r.placed all.roster_is.many

  start_come : ComeFrom plan modules [] [] loaded
  start_come =
      let lines : Report = record report { journal = []; modules = map line_of loaded } in
      let led = journal_modules plan modules lines (opened_state plan r)
      (record { opening = opened_state plan r; opens = started_all plan modules r all; leads = refl }) refl in
      record { origins = led.origins; many = refl; places = led.places }

  start_many : length loaded ≡ length (starts_from 0 plan.modules)
  start_many = omega (arith, many plan modules [] [] loaded start_come)

  line_many : length r.lines ≡ length (starts_from 0 plan.modules)
  line_many =
      ap (λ (xs : List ModuleLine). length xs) all.roster_is.lines_are ∙ length-map loaded line_of ∙ start_many

  -- they are modules of the plan
  pub start_known : All (λ (l : LoadedModule). l.number < length modules) loaded
  start_known = λ k d within.
      let one = placed_known _ _ modules _ loaded start_come.places k (get_or loaded k d)
      (slice_get-get_or loaded k d within) in
      slice_get_within modules (get_or loaded k d).number one.0 one.1

  -- ---- where a report has them

  pub as_many : HasSomeModules plan modules report → length report.modules ≡ length r.lines + length told
  as_many has =
      omega (
        arith,
        ap (λ (xs : List ModuleLine). length xs) has.1.lines,
        length-map has.0 line_of,
        many plan modules told gone has.0 (has_come plan modules report has.0 has.1),
        line_many,
      )

  module _ (first rest : List ModuleLine) (lines_are : report.modules ≡ first ++ rest) where
    pub they_follow : first ≡ r.lines → Follow plan modules loaded [] (changes_in report.journal) rest
        → HasSomeModules plan modules report
    they_follow same follow =
        let have = followed plan modules [] [] loaded start_come [] (changes_in report.journal) rest follow in
        let come = subst (λ (gs : List (List ℕ)).
        ComeFrom plan modules (origins_by (changes_in report.journal)) gs have.loaded) (gones_told [] report.journal)
        have.come in
        let whole = subst (λ (os : List Origin). ComeFrom plan modules os gone have.loaded)
        (origins_told report.journal) come in (
          have.loaded,
          record {
            origins = whole.origins;
            places = whole.places;
            lines = lines_are
                ∙ ap (λ (xs : List ModuleLine). xs ++ rest) (same ∙ all.roster_is.lines_are)
                ∙ have.lines_are;
          },
        )

    module _ (count : length first ≡ length r.lines) (has : HasSomeModules plan modules report) where
      abbrev these : List LoadedModule
      these = take (length loaded) has.0

      abbrev those : List LoadedModule
      those = drop (length loaded) has.0

      both : these ++ those ≡ has.0
      both = take-append-drop (length loaded) has.0

      come : ComeFrom plan modules told gone (these ++ those)
      come = subst (ComeFrom plan modules told gone) (sym both) (has_come plan modules report has.0 has.1)

      so_many : length these ≡ length loaded
      so_many =
          length-take-le (length loaded) has.0
          (omega (arith, start_many, many plan modules told gone has.0 (has_come plan modules report has.0 has.1)))

      origins : (map origin_of these ≡ start_origins plan) × (map origin_of those ≡ told)
      origins =
          parts_same (map origin_of these) (map origin_of those) (start_origins plan) told
          (length-map these origin_of ∙ so_many ∙ start_many
          ∙ sym (length-map (starts_from 0 plan.modules) start_origin))
          (sym (map-append origin_of these those) ∙ come.origins)

      these_are : these ≡ loaded
      these_are =
          come_once plan modules [] [] these loaded
          (record {
            origins = origins.0 ∙ sym (append-nil (start_origins plan));
            many = refl;
            places = first_placed plan modules gone these those come.places;
          }) start_come

      lines : (first ≡ map line_of these) × (rest ≡ map line_of those)
      lines =
          parts_same first rest (map line_of these) (map line_of those)
          (count ∙ line_many ∙ sym (length-map these line_of ∙ so_many ∙ start_many))
          (sym lines_are ∙ has.1.lines ∙ ap (λ (ls : List LoadedModule). map line_of ls) (sym both)
          ∙ map-append line_of these those)

      pub first_are : first ≡ r.lines
      first_are =
          lines.0 ∙ ap (λ (ls : List LoadedModule). map line_of ls) these_are ∙ sym all.roster_is.lines_are

      pub rest_follow : Follow plan modules loaded [] (changes_in report.journal) rest
      rest_follow =
          let all = subst (λ (gs : List (List ℕ)). ComeFrom plan modules told gs (these ++ those))
          (sym (gones_told [] report.journal)) come in
          let on = follow_on plan modules told [] [] (changes_in report.journal) these those all
          (omega (arith, so_many, start_many)) (origins.1 ∙ sym (origins_told report.journal)) in
          subst (Follow plan modules loaded [] (changes_in report.journal)) (sym lines.1)
          (subst (λ (ls : List LoadedModule). Follow plan modules ls [] (changes_in report.journal) (map line_of those))
          these_are on)

    -- an answer that goes by those behind the start modules
    pub modules_told : length first ≡ length r.lines → first ≡ r.lines → (answer : Bool)
        → (IsTrue answer ↔ Follow plan modules loaded [] (changes_in report.journal) rest)
        → IsTrue answer ↔ HasSomeModules plan modules report
    modules_told count same answer exact = (
      λ yes. they_follow same (exact.0 yes),
      λ has. exact.1 (rest_follow count has),
    )

  -- ---- the lines of a report in two parts

  module _ (lines : List ModuleLine) (same : lines ≡ report.modules) (count : ℕ) (count_is : count ≡ length r.lines)
      (within : count ≤ length lines) where
    lines_are : report.modules ≡ take count lines ++ drop count lines
    lines_are = sym same ∙ sym (take-append-drop count lines)

    long : length (take count lines) ≡ length r.lines
    long = length-take-le count lines within ∙ count_is

    pub starts_are : HasSomeModules plan modules report → take count lines ≡ r.lines
    starts_are has = first_are (take count lines) (drop count lines) lines_are long has

    pub rest_told : take count lines ≡ r.lines → (answer : Bool)
        → (IsTrue answer ↔ Follow plan modules loaded [] (changes_in report.journal)
        (take (length lines - count) (drop count lines)))
        → IsTrue answer ↔ HasSomeModules plan modules report
    rest_told starts answer exact =
        modules_told (take count lines) (drop count lines) lines_are long starts answer
        (subst (λ (ls : List ModuleLine).
        IsTrue answer ↔ Follow plan modules loaded [] (changes_in report.journal) ls) (take_rest lines count) exact)
