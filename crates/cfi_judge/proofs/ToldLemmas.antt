-- Modules that are told behind those of the start.
use Rattle.std.proofs.Common.{◌≡◌, ℕ, ◌+◌, ◌<◌, ◌≤◌, List, [], ◌∷◌, ◌++◌, length, map, take, replicate, Option, Some, refl, sym, ap, subst, ◌∙◌, ⊎_elim, arith, append_assoc, length-append}
use Rattle.std.specs.List.{cons_option, slice_get}
use Rattle.std.proofs.Math.Seq.{take-append_seam}
use Rattle.std.proofs.lemmas.Bool.{cases_lt}
use Rattle.std.proofs.lemmas.List.{append-nil, length-map, map-append, take-append-le}
use Rattle.std.proofs.lemmas.List.Elements.{filter_map-append}
use Rattle.std.proofs.lemmas.Option.{slice_get_within}
use Rattle.cfi_aux.specs.declared.modules.Module.{Module}
use Rattle.cfi_aux.specs.declared.placed.Placed.{Placed}
use Rattle.cfi_modules.specs.Order.{IsPlacedBehind, Joins, names_of}
use Rattle.cfi_modules.specs.Room.{room_after}
use Rattle.cfi_modules.proofs.OrderLemmas.{last, left}
use Rattle.cfi_modules.proofs.PlacedLemmas.{placed_once}
use Rattle.cfi_plan.specs.declared.journal.Entry.{Entry}
use Rattle.cfi_plan.specs.declared.journal.JournalLine.{JournalLine}
use Rattle.cfi_plan.specs.declared.journal.JournalLine.TheVariants.{LoadOk, LoadAgain, LoadFull, LoadPlace, LoadVerify, LoadVersions, LoadEpochs, LoadRetired, RefreshOk, RefreshVersions, RefreshEpochs, RetireOk, RetireNotLive, RetireInUse, RetireVersions, RetireEpochs}
use Rattle.cfi_plan.specs.declared.journal.ModuleLine.{ModuleLine}
use Rattle.cfi_plan.specs.declared.plan.Plan.{Plan}
use Rattle.cfi_valid.specs.Journal.{modules_at, starts_from}
use Rattle.cfi_valid.specs.Kept.{Origin, module_from}
use Rattle.cfi_valid.specs.Loaded.{LoadedModule, module_line_of, placed_modules}
use Rattle.cfi_valid.specs.Modules.{ArePlaced, gone_before, gone_in, number_of, origin_of, origins_in, start_origin, start_origins, told_origins, without}
use Rattle.cfi_valid.proofs.OrderLemmas.{places_once}
use Rattle.cfi_judge.specs.declared.entries.Change.{Change}
use Rattle.cfi_judge.specs.declared.entries.Change.TheVariants as changes
use Rattle.cfi_judge.specs.inner.Lines.{change_of}
use Rattle.cfi_judge.specs.inner.Told.{Follow, IsToldBy, changes_in, origin_by}
use Rattle.cfi_judge.proofs.ListLemmas.{among, each_there, few, map_at, seam}

-- ---- what changes tell

-- where the modules come from that they load
abbrev pub origins_by : List Change → List Origin
origins_by [] = []
origins_by (changes.Nothing ∷ more) = origins_by more
origins_by (changes.Epoch epoch ∷ more) = origins_by more
origins_by (changes.Retirement one ∷ more) = origins_by more
origins_by (changes.Module load ∷ more) = origin_by load ∷ origins_by more

-- for each of these the numbers of those that were retired before
abbrev pub gones_by : (gone : List ℕ) → List Change → List (List ℕ)
gones_by gone [] = []
gones_by gone (changes.Nothing ∷ more) = gones_by gone more
gones_by gone (changes.Epoch epoch ∷ more) = gones_by gone more
gones_by gone (changes.Retirement one ∷ more) = gones_by (gone ++ one.number ∷ []) more
gones_by gone (changes.Module load ∷ more) = gone ∷ gones_by gone more

module _ (more : List Change) where
  origins_line : (line : JournalLine) → origins_by (change_of line ∷ more) ≡ origins_in line ++ origins_by more
  origins_line (LoadOk number epoch policy) = refl
  origins_line (LoadAgain number policy) = refl
  origins_line (LoadFull number) = refl
  origins_line (LoadPlace number fault) = refl
  origins_line (LoadVerify number fault place) = refl
  origins_line (LoadVersions number guest quiet) = refl
  origins_line (LoadEpochs number) = refl
  origins_line (LoadRetired number) = refl
  origins_line (RefreshOk epoch) = refl
  origins_line (RefreshVersions guest quiet) = refl
  origins_line RefreshEpochs = refl
  origins_line (RetireOk number epoch policy) = refl
  origins_line (RetireNotLive number) = refl
  origins_line (RetireInUse number user) = refl
  origins_line (RetireVersions number guest quiet) = refl
  origins_line (RetireEpochs number) = refl

  module _ (gone : List ℕ) where
    none_more : gones_by gone more ≡ gones_by (gone ++ []) more
    none_more = ap (λ (numbers : List ℕ). gones_by numbers more) (sym (append-nil gone))

    gones_line : (line : JournalLine) → gones_by gone (change_of line ∷ more)
        ≡ replicate (length (origins_in line)) gone ++ gones_by (gone ++ gone_in line) more
    gones_line (LoadOk number epoch policy) = ap (λ (rest : List (List ℕ)). gone ∷ rest) none_more
    gones_line (LoadAgain number policy) = none_more
    gones_line (LoadFull number) = none_more
    gones_line (LoadPlace number fault) = none_more
    gones_line (LoadVerify number fault place) = none_more
    gones_line (LoadVersions number guest quiet) = none_more
    gones_line (LoadEpochs number) = none_more
    gones_line (LoadRetired number) = none_more
    gones_line (RefreshOk epoch) = none_more
    gones_line (RefreshVersions guest quiet) = none_more
    gones_line RefreshEpochs = none_more
    gones_line (RetireOk number epoch policy) = refl
    gones_line (RetireNotLive number) = none_more
    gones_line (RetireInUse number user) = none_more
    gones_line (RetireVersions number guest quiet) = none_more
    gones_line (RetireEpochs number) = none_more

-- those of the lines of a journal
pub origins_told : (journal : List Entry) → origins_by (changes_in journal) ≡ told_origins journal
origins_told [] = refl
origins_told (entry ∷ journal) =
    origins_line (changes_in journal) entry.what
    ∙ ap (λ (os : List Origin). origins_in entry.what ++ os) (origins_told journal)

pub gones_told : (gone : List ℕ) (journal : List Entry) → gones_by gone (changes_in journal) ≡ gone_before gone journal
gones_told gone [] = refl
gones_told gone (entry ∷ journal) =
    gones_line (changes_in journal) gone entry.what
    ∙ ap (λ (rest : List (List ℕ)). replicate (length (origins_in entry.what)) gone ++ rest)
    (gones_told (gone ++ gone_in entry.what) journal)

-- as many as there are such modules
pub gones_many : (gone : List ℕ) (more : List Change) → length (gones_by gone more) ≡ length (origins_by more)
gones_many gone [] = refl
gones_many gone (changes.Nothing ∷ more) = gones_many gone more
gones_many gone (changes.Epoch epoch ∷ more) = gones_many gone more
gones_many gone (changes.Retirement one ∷ more) = gones_many (gone ++ one.number ∷ []) more
gones_many gone (changes.Module load ∷ more) = omega (arith, gones_many gone more)

-- ---- where they stand

-- the modules are those of the start, and behind them those that are told; each stands at the next free place, with the
-- names of those before it that are not gone
pub record ComeFrom (plan : Plan) (modules : List Module) (told : List Origin) (gone : List (List ℕ))
    (loaded : List LoadedModule) : Type 0 where
  pub origins : map origin_of loaded ≡ start_origins plan ++ told
  pub many : length gone ≡ length told
  pub places : ArePlaced plan.code_words (length (starts_from 0 plan.modules))
      (modules_at modules (map number_of loaded)) gone loaded

-- a module is placed behind these, without some of their names
abbrev StandsBehind : (code_words : ℕ) → List ℕ → List LoadedModule → Module → LoadedModule → Type 0
StandsBehind code_words gone before m l =
    IsPlacedBehind code_words (placed_modules before) (placed_modules (without gone before)) m l.placed

abbrev JoinsAll : (code_words : ℕ) → List LoadedModule → Module → LoadedModule → Type 0
JoinsAll code_words before m l = Joins code_words (placed_modules before) (placed_modules before) m l.placed

-- ---- one module more

module _ (R : (k : ℕ) → List LoadedModule → Module → LoadedModule → Type 0) (modules : List Module)
    (loaded : List LoadedModule) (m : Module) (l : LoadedModule) (count : length loaded ≡ length modules) where
  stand_more : ((k : ℕ) (n : Module) (x : LoadedModule) → slice_get modules k ≡ Some n → slice_get loaded k ≡ Some x
      → R k (take k loaded) n x) → R (length loaded) loaded m l
      → (k : ℕ) (n : Module) (x : LoadedModule) → slice_get (modules ++ m ∷ []) k ≡ Some n
      → slice_get (loaded ++ l ∷ []) k ≡ Some x → R k (take k (loaded ++ l ∷ [])) n x
  stand_more each here k n x is_n is_x = ⊎_elim
      (λ (less : k < length loaded).
      let before : take k (loaded ++ l ∷ []) ≡ take k loaded = take-append-le k loaded (l ∷ []) (omega (arith, less)) in
      subst (λ (xs : List LoadedModule). R k xs n x) (sym before)
      (each k n x (left modules (m ∷ []) k n (omega (arith, less, count)) is_n) (left loaded (l ∷ []) k x less is_x)))
      (λ (more : length loaded ≤ k).
      let end : k ≡ length loaded =
      omega (arith, more, slice_get_within (loaded ++ l ∷ []) k x is_x, length-append loaded (l ∷ [])) in
      let before : take k (loaded ++ l ∷ []) ≡ loaded =
      ap (λ (j : ℕ). take j (loaded ++ l ∷ [])) end ∙ take-append_seam loaded (l ∷ []) in
      let same_m : m ≡ n = last modules m k n (end ∙ count) is_n in
      let same_l : l ≡ x = last loaded l k x end is_x in
      subst (λ (xs : List LoadedModule). R k xs n x) (sym before)
      (subst (λ (y : Module). R k loaded y x) same_m
      (subst (λ (y : LoadedModule). R k loaded m y) same_l
      (subst (λ (j : ℕ). R j loaded m l) (sym end) here))))
      (cases_lt k (length loaded))

module _ (plan : Plan) (modules : List Module) where
  abbrev starts : ℕ
  starts = length (starts_from 0 plan.modules)

  abbrev units : List LoadedModule → List Module
  units loaded = modules_at modules (map number_of loaded)

  units_more : (loaded : List LoadedModule) (l : LoadedModule) (m : Module) → slice_get modules l.number ≡ Some m
      → units (loaded ++ l ∷ []) ≡ units loaded ++ m ∷ []
  units_more loaded l m is =
      ap (modules_at modules) (map-append number_of loaded (l ∷ []))
      ∙ filter_map-append (slice_get modules) (map number_of loaded) (l.number ∷ [])
      ∙ ap (λ (o : Option Module). units loaded ++ cons_option o []) is

  module _ (told : List Origin) (gone : List (List ℕ)) (loaded : List LoadedModule)
      (come : ComeFrom plan modules told gone loaded) where
    -- as many as are told
    pub many : length loaded ≡ starts + length told
    many =
        sym (length-map loaded origin_of)
        ∙ ap (λ (os : List Origin). length os) come.origins
        ∙ length-append (start_origins plan) told
        ∙ ap (λ (n : ℕ). n + length told) (length-map (starts_from 0 plan.modules) start_origin)

    module _ (one : Origin) (m : Module) (p : Placed) (numbers : List ℕ)
        (behind : IsPlacedBehind plan.code_words (placed_modules loaded) (placed_modules (without numbers loaded)) m p)
      where
        abbrev l : LoadedModule
        l = module_from one p

        abbrev longer : List LoadedModule
        longer = loaded ++ l ∷ []

        -- by the place in load order of those that are told
        abbrev StandsSo : (j : ℕ) → List LoadedModule → Module → LoadedModule → Type 0
        StandsSo j before n x = (k : ℕ) (ns : List ℕ) → j ≡ starts + k → slice_get (gone ++ numbers ∷ []) k ≡ Some ns
            → StandsBehind plan.code_words ns before n x

        were_so : (j : ℕ) (n : Module) (x : LoadedModule) → slice_get (units loaded) j ≡ Some n
            → slice_get loaded j ≡ Some x → StandsSo j (take j loaded) n x
        were_so j n x is_n is_x = λ k ns at there.
            let within : k < length gone = omega (arith, slice_get_within loaded j x is_x, many, come.many, at) in
            subst (λ (i : ℕ). StandsBehind plan.code_words ns (take i loaded) n x) (sym at)
            (come.places.behind k n x ns (subst (λ (i : ℕ). slice_get (units loaded) i ≡ Some n) at is_n)
            (subst (λ (i : ℕ). slice_get loaded i ≡ Some x) at is_x) (left gone (numbers ∷ []) k ns within there))

        is_so : StandsSo (length loaded) loaded m l
        is_so = λ k ns at there.
            let end : k ≡ length gone = omega (arith, many, come.many, at) in
            subst (λ (gs : List ℕ). StandsBehind plan.code_words gs loaded m l) (last gone numbers k ns end there)
            behind

        placed_more : ArePlaced plan.code_words starts (units loaded ++ m ∷ []) (gone ++ numbers ∷ []) longer
        placed_more = record {
          count = omega (
            arith,
            length-append loaded (l ∷ []),
            length-append (units loaded) (m ∷ []),
            come.places.count,
          );
          starts_join = λ k n x less is_n is_x.
              stand_more (λ k before n x. k < starts → JoinsAll plan.code_words before n x) (units loaded) loaded m l
              come.places.count
              (λ k n x is_n is_x less. come.places.starts_join k n x less is_n is_x)
              (λ less. absurd (omega (arith, less, many))) k n x is_n is_x less;
          behind = λ k n x ns is_n is_x there.
              stand_more StandsSo (units loaded) loaded m l come.places.count were_so is_so (starts + k) n x is_n is_x
              k ns
              refl there;
        }

        pub come_more : slice_get modules one.number ≡ Some m
            → ComeFrom plan modules (told ++ one ∷ []) (gone ++ numbers ∷ []) longer
        come_more is = record {
          origins = map-append origin_of loaded (l ∷ [])
              ∙ ap (λ (os : List Origin). os ++ one ∷ []) come.origins
              ∙ append_assoc (start_origins plan) told (one ∷ []);
          many = omega (arith, come.many, length-append told (one ∷ []), length-append gone (numbers ∷ []));
          places = subst (λ (ms : List Module).
              ArePlaced plan.code_words starts ms (gone ++ numbers ∷ []) longer) (sym (units_more loaded l m is))
              placed_more;
        }

  -- ---- all that are told

  -- some modules are those of some lines
  pub record HaveLines (told : List Origin) (gone : List (List ℕ)) (lines : List ModuleLine) : Type 0 where
    pub loaded : List LoadedModule
    pub come : ComeFrom plan modules told gone loaded
    pub lines_are : lines ≡ map (module_line_of plan.modules) loaded

  abbrev line_of : LoadedModule → ModuleLine
  line_of l = module_line_of plan.modules l

  pub followed : (told : List Origin) (gone : List (List ℕ)) (loaded : List LoadedModule)
      → ComeFrom plan modules told gone loaded → (now : List ℕ) (more : List Change) (lines : List ModuleLine)
      → Follow plan modules loaded now more lines
      → HaveLines (told ++ origins_by more) (gone ++ gones_by now more) (map line_of loaded ++ lines)
  followed told gone loaded come now [] [] follow = record {
    loaded = loaded;
    come = subst (λ (os : List Origin). ComeFrom plan modules os (gone ++ []) loaded) (sym (append-nil told))
        (subst (λ (gs : List (List ℕ)). ComeFrom plan modules told gs loaded) (sym (append-nil gone)) come);
    lines_are = append-nil (map line_of loaded);
  }
  followed told gone loaded come now [] (line ∷ lines) follow = absurd follow
  followed told gone loaded come now (changes.Nothing ∷ more) lines follow =
      followed told gone loaded come now more lines follow
  followed told gone loaded come now (changes.Epoch epoch ∷ more) lines follow =
      followed told gone loaded come now more lines follow
  followed told gone loaded come now (changes.Retirement one ∷ more) lines follow =
      followed told gone loaded come (now ++ one.number ∷ []) more lines follow
  followed told gone loaded come now (changes.Module load ∷ more) [] follow = absurd follow
  followed told gone loaded come now (changes.Module load ∷ more) (line ∷ lines) follow =
      let p : Placed = follow.0 in
      let by = follow.1 in
      let one : Origin = origin_by load in
      let l : LoadedModule = module_from one p in
      let next = come_more told gone loaded come one by.unplaced p now by.behind by.is in
      let all = followed (told ++ one ∷ []) (gone ++ now ∷ []) (loaded ++ l ∷ []) next now more lines follow.2 in
      record {
        loaded = all.loaded;
        come = subst (λ (os : List Origin).
            ComeFrom plan modules os (gone ++ (now ∷ gones_by now more)) all.loaded)
            (append_assoc told (one ∷ []) (origins_by more))
            (subst (λ (gs : List (List ℕ)).
            ComeFrom plan modules ((told ++ one ∷ []) ++ origins_by more) gs all.loaded)
            (append_assoc gone (now ∷ []) (gones_by now more)) all.come);
        lines_are = ap (λ (x : ModuleLine). map line_of loaded ++ x ∷ lines) by.line_is
            ∙ sym (append_assoc (map line_of loaded) (line_of l ∷ []) lines)
            ∙ ap (λ (xs : List ModuleLine). xs ++ lines) (sym (map-append line_of loaded (l ∷ [])))
            ∙ all.lines_are;
      }

  -- ---- and each of them

  -- the module behind some of those that come
  pub record IsBehind (gone : List (List ℕ)) (loaded : List LoadedModule) (l : LoadedModule) : Type 0 where
    pub unplaced : Module
    pub is : slice_get modules l.number ≡ Some unplaced
    pub behind : (k : ℕ) (numbers : List ℕ) → length loaded ≡ starts + k → slice_get gone k ≡ Some numbers
        → StandsBehind plan.code_words numbers loaded unplaced l
    pub joins : length loaded < starts → JoinsAll plan.code_words loaded unplaced l

  pub behind_them : (gone : List (List ℕ)) (loaded : List LoadedModule) (l : LoadedModule) (more : List LoadedModule)
      → ArePlaced plan.code_words starts (units (loaded ++ l ∷ more)) gone (loaded ++ l ∷ more)
      → IsBehind gone loaded l
  behind_them gone loaded l more places =
      let all : List LoadedModule = loaded ++ l ∷ more in
      let at : slice_get all (length loaded) ≡ Some l = seam loaded l more in
      let whole : length (units all) ≡ length (map number_of all) =
      omega (arith, places.count, length-map all number_of) in
      let unit = each_there (slice_get modules) (map number_of all) whole (length loaded) l.number
      (map_at number_of all (length loaded) l at) in
      let before : take (length loaded) all ≡ loaded = take-append_seam loaded (l ∷ more) in
      record {
        unplaced = unit.0;
        is = unit.1;
        behind = λ k numbers here there.
            subst (λ (ls : List LoadedModule). StandsBehind plan.code_words numbers ls unit.0 l)
            (ap (λ (n : ℕ). take n all) (sym here) ∙ before)
            (places.behind k unit.0 l numbers (subst (λ (n : ℕ). slice_get (units all) n ≡ Some unit.0) here unit.2)
            (subst (λ (n : ℕ). slice_get all n ≡ Some l) here at) there);
        joins = λ less. subst (λ (ls : List LoadedModule). JoinsAll plan.code_words ls unit.0 l) before
            (places.starts_join (length loaded) unit.0 l less unit.2 at);
      }

  pub follow_on : (told : List Origin) (done : List (List ℕ)) (now : List ℕ) (more : List Change)
      (loaded rest : List LoadedModule) → ComeFrom plan modules told (done ++ gones_by now more) (loaded ++ rest)
      → length loaded ≡ starts + length done → map origin_of rest ≡ origins_by more
      → Follow plan modules loaded now more (map line_of rest)
  follow_on told done now [] loaded [] come so_many same = tt
  follow_on told done now [] loaded (l ∷ rest) come so_many same = absurd (cc)
  follow_on told done now (changes.Nothing ∷ more) loaded rest come so_many same =
      follow_on told done now more loaded rest come so_many same
  follow_on told done now (changes.Epoch epoch ∷ more) loaded rest come so_many same =
      follow_on told done now more loaded rest come so_many same
  follow_on told done now (changes.Retirement one ∷ more) loaded rest come so_many same =
      follow_on told done (now ++ one.number ∷ []) more loaded rest come so_many same
  follow_on told done now (changes.Module load ∷ more) loaded [] come so_many same = absurd (cc)
  follow_on told done now (changes.Module load ∷ more) loaded (l ∷ rest) come so_many same =
      let one : Origin = origin_by load in
      let head : origin_of l ≡ one = cc in
      let tail : map origin_of rest ≡ origins_by more = cc in
      let all : List (List ℕ) = done ++ now ∷ gones_by now more in
      let here = behind_them all loaded l rest come.places in
      let by : IsToldBy plan modules loaded now (line_of l) one l.placed = record {
        unplaced = here.unplaced;
        is = subst (λ (o : Origin). slice_get modules o.number ≡ Some here.unplaced) head here.is;
        behind = here.behind (length done) now so_many (seam done now (gones_by now more));
        line_is = ap (λ (o : Origin). line_of (module_from o l.placed)) head;
      } in
      let come_next : ComeFrom plan modules told ((done ++ now ∷ []) ++ gones_by now more)
      ((loaded ++ l ∷ []) ++ rest) =
      subst (λ (gs : List (List ℕ)). ComeFrom plan modules told gs ((loaded ++ l ∷ []) ++ rest))
      (sym (append_assoc done (now ∷ []) (gones_by now more)))
      (subst (ComeFrom plan modules told all) (sym (append_assoc loaded (l ∷ []) rest)) come) in
      let next = follow_on told (done ++ now ∷ []) now more (loaded ++ l ∷ []) rest come_next
      (omega (arith, so_many, length-append loaded (l ∷ []), length-append done (now ∷ []))) tail in (
        l.placed,
        by,
        subst (λ (x : LoadedModule). Follow plan modules (loaded ++ x ∷ []) now more (map line_of rest))
            (ap (λ (o : Origin). module_from o l.placed) head) next,
      )

  -- a module is told in one way
  pub told_once : (before : List LoadedModule) (gone : List ℕ) (line : ModuleLine) (told : Origin) (p q : Placed)
      → IsToldBy plan modules before gone line told p → IsToldBy plan modules before gone line told q → p ≡ q
  told_once before gone line told p q a b =
      let same : b.unplaced ≡ a.unplaced = cc (a.is, b.is) in
      placed_once a.unplaced (room_after plan.code_words (placed_modules before))
      (names_of (placed_modules (without gone before))) p q a.behind
      (subst (λ (m : Module).
      IsPlacedBehind plan.code_words (placed_modules before) (placed_modules (without gone before)) m q) same b.behind)

  -- ---- one list, and its first part

  pub numbers_told : (xs : List LoadedModule) → map number_of xs ≡ map (λ (o : Origin). o.number) (map origin_of xs)
  numbers_told [] = refl
  numbers_told (x ∷ xs) = ap (λ (ns : List ℕ). x.number ∷ ns) (numbers_told xs)

  pub come_once : (told : List Origin) (gone : List (List ℕ)) (a b : List LoadedModule)
      → ComeFrom plan modules told gone a → ComeFrom plan modules told gone b → a ≡ b
  come_once told gone a b p q =
      let origins : map origin_of a ≡ map origin_of b = p.origins ∙ sym q.origins in
      let numbers : map number_of a ≡ map number_of b =
      numbers_told a ∙ ap (λ (os : List Origin). map (λ (o : Origin). o.number) os) origins ∙ sym (numbers_told b) in
      places_once plan.code_words starts gone (start_origins plan ++ told) (units b) a b
      (omega (arith, many told gone a p, p.many)) (omega (arith, many told gone b q, q.many)) p.origins q.origins
      (subst (λ (ns : List ℕ). ArePlaced plan.code_words starts (modules_at modules ns) gone a) numbers p.places)
      q.places

  -- the first of some modules are placed so too, where none of them is told
  pub first_placed : (gone : List (List ℕ)) (a b : List LoadedModule)
      → ArePlaced plan.code_words starts (units (a ++ b)) gone (a ++ b)
      → ArePlaced plan.code_words starts (units a) [] a
  first_placed gone a b all =
      let f = slice_get modules in
      let units_are : units (a ++ b) ≡ units a ++ units b =
      ap (modules_at modules) (map-append number_of a b) ∙ filter_map-append f (map number_of a) (map number_of b) in
      let at_units = λ (k : ℕ) (m : Module) (is : slice_get (units a) k ≡ Some m).
      subst (λ (ms : List Module). slice_get ms k ≡ Some m) (sym units_are) (among (units a) (units b) k m is) in
      record {
        count = omega (
          arith,
          all.count,
          ap (λ (ms : List Module). length ms) units_are,
          length-append (units a) (units b),
          length-append a b,
          few f (map number_of a),
          few f (map number_of b),
          length-map a number_of,
          length-map b number_of,
        );
        behind = λ k m l numbers is_m is_l none. absurd (cc);
        starts_join = λ k m l less is_m is_l.
            subst (λ (ls : List LoadedModule). JoinsAll plan.code_words ls m l)
            (take-append-le k a b (omega (arith, slice_get_within a k l is_l)))
            (all.starts_join k m l less (at_units k m is_m) (among a b k l is_l));
      }
