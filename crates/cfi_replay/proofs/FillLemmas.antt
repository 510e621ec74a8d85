-- The data of policies that never fall, and their cells.
use Rattle.std.proofs.Common.{◌≡◌, ℕ, suc, ◌<◌, ◌≤◌, Bool, cond, List, [], ◌∷◌, length, take, drop, All, refl, sym, ap, subst, ◌∙◌, ⊎_elim, arith}
use Rattle.std.specs.Prelude.{nat_le, ◌&&◌, filter}
use Rattle.std.proofs.lemmas.Bool.{cases_lt, le-leb, lt-leb, le-ltb, lt-ltb}
use Rattle.std.proofs.lemmas.List.{length-map, take-map, drop-map}
use Rattle.std.proofs.lemmas.List.Elements.{All-cons, All-drop, All-head, All-tail, All-take, All-weaker}
use Rattle.cfi_aux.specs.declared.placed.Placed.{Placed}
use Rattle.cfi_graph.specs.Cell.{cells_of}
use Rattle.cfi_graph.specs.Named.{entry_among}
use Rattle.cfi_labels.proofs.LoadedLemmas.{count_is, count_within, places_all, places_first}
use Rattle.cfi_labels.specs.Labels.{ComeInOrder}
use Rattle.cfi_ledger.proofs.SuffixLemmas.{came_between, first_loaded}
use Rattle.cfi_ledger.specs.Force.{count_by_policy}
use Rattle.cfi_ledger.specs.Roster.{Roster}
use Rattle.cfi_model.specs.Data.{LiesInData}
use Rattle.cfi_modules.proofs.CellLemmas.{cells_lie}
use Rattle.cfi_modules.proofs.PrefixLemmas.{data_lies, prefix}
use Rattle.cfi_modules.specs.Fills.{fill_of, fills_of}
use Rattle.cfi_modules.specs.Series.{IsSeries}
use Rattle.cfi_valid.specs.Loaded.{LoadedModule, loaded_by, live_at, placed_modules, cells_at, data_between, start_data}
use Rattle.cfi_replay.specs.Setting.{IsSetting, loaded_in, members_in}
use Rattle.cfi_replay.specs.declared.setting.Setting.{Setting}

-- ---- the first policies

-- the others came in order too, each with no lower policy
order_rest : (l : LoadedModule) (loaded : List LoadedModule) → ComeInOrder (l ∷ loaded) → ComeInOrder loaded
order_rest l loaded order = λ i j d less within. order (suc i) (suc j) d (omega arith) (omega arith)

order_first : (l : LoadedModule) (loaded : List LoadedModule) → ComeInOrder (l ∷ loaded)
    → All (λ (one : LoadedModule). l.policy ≤ one.policy) loaded
order_first l loaded order = λ j d within. order 0 (suc j) d (omega arith) (omega arith)

none_later : (policy : ℕ) (loaded : List LoadedModule) → (least : ℕ) → policy < least
    → All (λ (one : LoadedModule). least ≤ one.policy) loaded → loaded_by policy loaded ≡ []
none_later policy [] least above all = refl
none_later policy (l ∷ loaded) least above all =
    let past : policy < l.policy =
    omega (arith, above, All-head (λ (one : LoadedModule). least ≤ one.policy) l loaded all) in
    ap (λ (b : Bool). cond b (l ∷ loaded_by policy loaded) (loaded_by policy loaded)) (lt-leb l.policy policy past)
    ∙ none_later policy loaded least above (All-tail (λ (one : LoadedModule). least ≤ one.policy) l loaded all)

-- a policy below that of the first module finds none loaded
none_before : (policy : ℕ) (l : LoadedModule) (loaded : List LoadedModule) → ComeInOrder (l ∷ loaded)
    → policy < l.policy → loaded_by policy (l ∷ loaded) ≡ []
none_before policy l loaded order above =
    ap (λ (b : Bool). cond b (l ∷ loaded_by policy loaded) (loaded_by policy loaded)) (lt-leb l.policy policy above)
    ∙ none_later policy loaded l.policy above (order_first l loaded order)

-- each other one finds it
one_first : (policy : ℕ) (l : LoadedModule) (loaded : List LoadedModule) → l.policy ≤ policy
    → loaded_by policy (l ∷ loaded) ≡ l ∷ loaded_by policy loaded
one_first policy l loaded early =
    ap (λ (b : Bool). cond b (l ∷ loaded_by policy loaded) (loaded_by policy loaded)) (le-leb l.policy policy early)

-- ---- what comes between two policies

module _ (above upto : ℕ) where
  -- where all came above the first, those that the second finds loaded
  between_all : (loaded : List LoadedModule) → All (λ (l : LoadedModule). above < l.policy) loaded
      → filter (came_between above upto) loaded ≡ loaded_by upto loaded
  between_all [] all = refl
  between_all (l ∷ loaded) all =
      ap (λ (b : Bool). cond (b && nat_le l.policy upto) (l ∷ filter (came_between above upto) loaded)
      (filter (came_between above upto) loaded))
      (lt-ltb above l.policy (All-head (λ (one : LoadedModule). above < one.policy) l loaded all))
      ∙ ap (λ (ls : List LoadedModule). cond (nat_le l.policy upto) (l ∷ ls) ls)
      (between_all loaded (All-tail (λ (one : LoadedModule). above < one.policy) l loaded all))

  -- else those that it finds behind those that the first does
  between_ones : above ≤ upto → (loaded : List LoadedModule) → ComeInOrder loaded
      → filter (came_between above upto) loaded
      ≡ drop (length (loaded_by above loaded)) (take (length (loaded_by upto loaded)) loaded)
  between_ones within [] order = refl
  between_ones within (l ∷ loaded) order = ⊎_elim
      (λ (later : above < l.policy).
      let all : All (λ (one : LoadedModule). above < one.policy) (l ∷ loaded) =
      All-cons (λ (one : LoadedModule). above < one.policy) l loaded later
      (All-weaker (λ (one : LoadedModule). l.policy ≤ one.policy) (λ (one : LoadedModule). above < one.policy)
      (λ (one : LoadedModule) least. omega (arith, later, least)) loaded (order_first l loaded order)) in
      between_all (l ∷ loaded) all
      ∙ first_loaded upto (l ∷ loaded) order
      ∙ sym (ap (λ (found : List LoadedModule).
      drop (length found) (take (length (loaded_by upto (l ∷ loaded))) (l ∷ loaded)))
      (none_before above l loaded order later)))
      (λ (early : l.policy ≤ above).
      ap (λ (b : Bool). cond (b && nat_le l.policy upto) (l ∷ filter (came_between above upto) loaded)
      (filter (came_between above upto) loaded))
      (le-ltb above l.policy early)
      ∙ between_ones within loaded (order_rest l loaded order)
      ∙ sym (ap (λ (found : List LoadedModule).
      drop (length found) (take (length (loaded_by upto (l ∷ loaded))) (l ∷ loaded)))
      (one_first above l loaded early)
      ∙ ap (λ (found : List LoadedModule).
      drop (length (l ∷ loaded_by above loaded)) (take (length found) (l ∷ loaded)))
      (one_first upto l loaded (omega (arith, early, within)))))
      (cases_lt above l.policy)

  -- the first finds no more
  fewer_first : above ≤ upto → (loaded : List LoadedModule) → ComeInOrder loaded
      → length (loaded_by above loaded) ≤ length (loaded_by upto loaded)
  fewer_first within [] order = omega arith
  fewer_first within (l ∷ loaded) order = ⊎_elim
      (λ (later : above < l.policy).
      omega (arith, ap (λ (found : List LoadedModule). length found) (none_before above l loaded order later)))
      (λ (early : l.policy ≤ above).
      omega (
        arith,
        ap (λ (found : List LoadedModule). length found) (one_first above l loaded early),
        ap (λ (found : List LoadedModule). length found) (one_first upto l loaded (omega (arith, early, within))),
        fewer_first within loaded (order_rest l loaded order),
      ))
      (cases_lt above l.policy)

-- ---- in a setting

module _ (s : Setting) (is : IsSetting s) where
  abbrev r : Roster
  r = s.roster.now

  -- how many modules a policy finds loaded
  abbrev pub found : (policy : ℕ) → ℕ
  found policy = count_by_policy policy r

  pub found_within : (policy : ℕ) → found policy ≤ length (fills_of r.placed)
  found_within policy = omega (arith, count_within r is.roster.many policy, length-map r.placed fill_of)

  pub found_rises : (above upto : ℕ) → above ≤ upto → found above ≤ found upto
  found_rises above upto within =
      omega (
        arith,
        count_is r is.roster.many above,
        count_is r is.roster.many upto,
        fewer_first above upto within (loaded_in s) is.order,
      )

  -- the data of the first so many
  pub start_data_are : (n : ℕ) → n ≡ found 0 → take n (fills_of r.placed) ≡ start_data (loaded_in s)
  start_data_are n is_found =
      ap (λ (k : ℕ). take k (fills_of r.placed)) is_found
      ∙ take-map fill_of (found 0) r.placed
      ∙ sym (ap fills_of (places_first r is.roster.many is.order 0))

  part_of : (from to : ℕ) → fills_of (placed_modules (drop from (take to (loaded_in s))))
      ≡ drop from (take to (fills_of r.placed))
  part_of from to =
      ap fills_of
      (sym (drop-map (λ (l : LoadedModule). l.placed) from (take to (loaded_in s)))
      ∙ ap (drop from)
      (sym (take-map (λ (l : LoadedModule). l.placed) to (loaded_in s))
      ∙ ap (take to) (places_all r is.roster.many)))
      ∙ sym (drop-map fill_of from (take to r.placed))
      ∙ ap (drop from) (sym (take-map fill_of to r.placed))

  pub data_are : (above upto : ℕ) → above ≤ upto → (from to : ℕ) → from ≡ found above → to ≡ found upto
      → drop from (take to (fills_of r.placed)) ≡ data_between above upto (loaded_in s)
  data_are above upto within from to from_is to_is =
      ap (λ (n : ℕ). drop n (take to (fills_of r.placed))) (from_is ∙ count_is r is.roster.many above)
      ∙ ap (λ (n : ℕ). drop (length (loaded_by above (loaded_in s))) (take n (fills_of r.placed)))
      (to_is ∙ count_is r is.roster.many upto)
      ∙ sym (part_of (length (loaded_by above (loaded_in s))) (length (loaded_by upto (loaded_in s))))
      ∙ sym (ap (λ (ls : List LoadedModule). fills_of (placed_modules ls))
      (between_ones above upto within (loaded_in s) is.order))

  pub part_lies : IsSeries r.code_words r.placed → (from to : ℕ)
      → All LiesInData (drop from (take to (fills_of r.placed)))
  part_lies series from to =
      All-drop LiesInData from (take to (fills_of r.placed))
      (All-take LiesInData to (fills_of r.placed) (data_lies r.code_words r.placed series))

  -- cells are words of such data
  pub cells_in_data : IsSeries r.code_words r.placed → (policy : ℕ) → All LiesInData (cells_at policy (members_in s))
  cells_in_data series policy =
      let live : List Placed = placed_modules (live_at policy (members_in s)) in
      let first : List Placed = take (found policy) r.placed in
      subst (λ (ms : List Placed). All LiesInData (cells_of live ms))
      (sym (places_first r is.roster.many is.order policy))
      (cells_lie (entry_among live) first
      (data_lies r.code_words first (prefix r.code_words r.placed series (found policy))))
