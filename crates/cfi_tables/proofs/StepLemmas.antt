-- The keeper's stores, tests and loads keep the rule.
use native.Mathlib.Decide.{ℕ_discrete}
use mathlib.Core.Logic.{dite}
use Rattle.std.proofs.Common.{◌≡◌, inl, inr, ℕ, ◌+◌, ◌<◌, ◌≤◌, true, false, List, [], length, length-set, slice_index, slice_set, None, refl, sym, ap, subst, ◌∙◌, arith, ◌^◌}
use Rattle.std.proofs.lemmas.List.{get_or-set_other, set-get_or, get_or-set_same}
use mathlib.Core.Option.{none}
use Rattle.atomic_table.specs.Table.{Allows, keeps, step}
use Rattle.cfi_word.specs.declared.limits.TheConstants.{GUESTS}
use Rattle.cfi_word.specs.Rank.{rank}
use Rattle.cfi_word.specs.Table.{Place, IsPlace, quiet_word, word_count, word_number, Bary, Code, code_word}
use Rattle.cfi_model.specs.Tables.{IsTables}
use Rattle.cfi_model.specs.Words.{newest, rank_at, word_of_entry}
use Rattle.cfi_tables.specs.Key.{Key}
use Rattle.cfi_tables.specs.Keeping.{is_out}
use Rattle.cfi_tables.specs.Rule.{HeldFits, IsBounded, IsElse, KeepsRule, IsPublished, IsRegistered, ShowQuiets, ShowTables, TellsForce, CodeFits}
use Rattle.cfi_model.specs.Words.{HasStore}
use Rattle.cfi_tables.specs.Views.{keeper_of, tables_of}
use Rattle.cfi_tables.specs.inner.Steps.{Seated, Stores, stored_to}
use Rattle.cfi_tables.specs.declared.view.KeeperView.{KeeperView}
use Rattle.cfi_tables.specs.declared.view.PassView.{PassView}
use Rattle.cfi_tables.specs.declared.view.View.{View}
use Rattle.cfi_tables.specs.declared.view.View.TheVariants.{Keeper}
use Rattle.cfi_tables.proofs.Prefixes.{prefix_same}
use Rattle.cfi_tables.proofs.PlaceLemmas.{quiet_apart, rank_is, rank_most, place_within}
use Rattle.cfi_model.proofs.PhaseLemmas.{same_place}
use Rattle.cfi_tables.proofs.TablesLemmas.{goes_on, stored_force, stored_is, stored_numbers}
use Rattle.cfi_tables.proofs.ShowLemmas.{AreSkipped, store_shows}
use Rattle.cfi_tables.proofs.SeenLemmas.{IsLater, rises, seen_stays}
use Rattle.cfi_tables.proofs.BoundLemmas.{bounded_stays}
use Rattle.cfi_tables.proofs.KeptLemmas.{IsNext, IsOut, Shared, keeper_goes, the_keeper, with}

-- ---- what goes on with the tables

-- what is known of what is published, and the bounds on the pass, where no more is asked of them
pub record AreBound (k : Key) (old new : KeeperView) (p : PassView) : Type 0 where
  pub heard : slice_index new.quiets.heard p.guest ≤ p.quiet + 1
  pub bounded : p.parked ≡ false → IsBounded k new p

module _ (k : Key) (old new : KeeperView) (later : IsLater k old new) where
  pub registered_stays : (p : PassView) → IsRegistered k old p → is_out new.out p.guest ≡ true → AreBound k old new p
      → IsRegistered k new p
  registered_stays p r out bound = record {
    seen = seen_stays k old new later p.sight r.seen;
    within = r.within;
    out = out;
    published = r.published;
    heard = bound.heard;
    bounded = bound.bounded;
  }

  tells_stays : (word : ℕ) → TellsForce k old word → TellsForce k new word
  tells_stays word (inl zeroth) = inl zeroth
  tells_stays word (inr (inl parked)) = inr (inl parked)
  tells_stays word (inr (inr tells)) = inr (inr (tells.0, omega (arith, tells.1, rises k old new later)))

  -- where no QUIET word and no pass changes
  pub quiets_stay : (before words : List ℕ) → new.out ≡ old.out → length new.quiets.heard ≡ GUESTS
      → ((guest : ℕ) → guest < GUESTS → slice_index new.quiets.heard guest ≤ slice_index before (quiet_word guest))
      → ((guest : ℕ) → guest < GUESTS → slice_index words (quiet_word guest) ≡ slice_index before (quiet_word guest))
      → ShowQuiets k before old → ShowQuiets k words new
  quiets_stay before words out many least same quiets = record {
    out_many = ap length out ∙ quiets.out_many;
    quiets_many = many;
    later = λ guest few. omega (arith, least guest few, same guest few);
    away = λ guest few free. same guest few ∙ quiets.away guest few (ap (λ l. is_out l guest) (sym out) ∙ free);
    tells = λ guest few.
        subst (TellsForce k new) (sym (same guest few)) (tells_stays _ (quiets.tells guest few));
  }

  pub out_stays : (before words : List ℕ) → new.out ≡ old.out → new.held ≡ None
      → ((guest : ℕ) → guest < GUESTS → slice_index words (quiet_word guest) ≡ slice_index before (quiet_word guest))
      → ((p : PassView) → IsRegistered k old p → IsPublished before p → AreBound k old new p)
      → (p : PassView) → IsOut k before old p → IsOut k words new p
  out_stays before words out free same bound p o = record {
    registered = registered_stays p o.registered (ap (λ l. is_out l p.guest) out ∙ o.registered.out)
        (bound p o.registered o.published);
    published = same p.guest o.registered.within ∙ o.published;
    apart = subst (λ held. IsElse held p.guest) (sym free) tt;
  }

-- ---- stores

-- a word that is stored for the code has 32 bits
abbrev pub FitsCode : Place → (word : ℕ) → Type 0
FitsCode place word = (index : ℕ) → place ≡ Code index → word < 2 ^ 32

code_set : (k : Key) (words : List ℕ) (place : Place) (word : ℕ) → IsPlace k.code_words place
    → length words ≡ word_count k.code_words → CodeFits k words → FitsCode place word
    → CodeFits k (slice_set words (word_number k.code_words place) word)
code_set k words place word at many code small index inside =
    dite (ℕ_discrete (code_word index) (word_number k.code_words place))
    (λ e.
    subst (λ n. n < 2 ^ 32)
    (sym (ap (slice_index (slice_set words (word_number k.code_words place) word)) e
    ∙ get_or-set_same words (word_number k.code_words place) word 0
    (omega (arith, many, place_within k.code_words place at))))
    (small index (same_place k.code_words place (Code index) at inside (sym e))))
    (λ apart.
    subst (λ n. n < 2 ^ 32)
    (sym (get_or-set_other words (word_number k.code_words place) (code_word index) word 0 apart)) (code index inside))

-- a store of the newest entry's word at a place leads on
pub store_next : (k : Key) (words : List ℕ) (u : KeeperView) → IsTables (tables_of k u)
    → length words ≡ word_count k.code_words → ShowTables k words u → ShowQuiets k words u
    → u.asked ≡ None → u.held ≡ None
    → (place : Place) → IsPlace k.code_words place → HasStore place → u.stored ≤ rank_at k.code_words place
    → AreSkipped k u place → (word : ℕ) → word ≡ word_of_entry (tables_of k u) (newest (tables_of k u)) place
    → CodeFits k words → FitsCode place word
    → IsNext k words u (slice_set words (word_number k.code_words place) word)
    (stored_to (rank_at k.code_words place) u)
store_next k words u is many shows quiets idle free place at has least skipped word new code small =
    let c : ℕ = k.code_words in
    let n : ℕ = rank_at c place in
    let after : List ℕ = slice_set words (word_number c place) word in
    let next_is : IsTables (tables_of k (stored_to n u)) = stored_is k u is n least (rank_most c place at has) idle in
    let later : IsLater k u (stored_to n u) = record {
      tables = is;
      next = next_is;
      begins = prefix_same u.entries;
      refused = prefix_same u.refusals;
      on = goes_on k u (stored_to n u) (prefix_same u.entries) (stored_force k u is n least);
      moment = inr (refl, omega (arith, least));
      code = λ index inside. stored_numbers k u is n least (Code index);
    } in
    let same : (guest : ℕ) → guest < GUESTS
    → slice_index after (quiet_word guest) ≡ slice_index words (quiet_word guest) =
    (λ guest few. get_or-set_other words (word_number c place) (quiet_word guest) word 0
    (λ e. quiet_apart c guest place at has few (sym e))) in
    record {
      tables = next_is;
      many = length-set words (word_number c place) word ∙ many;
      shows = store_shows k u place at has least skipped words word many shows new;
      quiets = quiets_stay k u (stored_to n u) later words after refl quiets.quiets_many quiets.later same quiets;
      code = code_set k words place word at many code small;
      held = subst (HeldFits k after (stored_to n u)) (sym free) tt;
      each = out_stays k u (stored_to n u) later words after refl free same
          (λ p r published. record {
            heard = r.heard;
            bounded = λ outside.
                (let b = r.bounded outside in
                bounded_stays k u (stored_to n u) p b (λ slot. stored_numbers k u is n least (Bary slot)) b.newest
                b.next);
          });
    }

-- a step of the keeper's seat, whose view is known
pub keeper_moves : (k key : Key) (slots id i : ℕ) (f : ℕ → ℕ) (me : Seated) (u : KeeperView)
    (then : ℕ → Seated → Type 0) → key ≡ k → id ≡ 0 → me ≡ (Keeper u, [])
    → ((s : Shared) (r : KeepsRule k s) → r.keeper ≡ u → (new : KeeperView)
    × IsNext k s.words r.keeper (slice_set s.words i (f (slice_index s.words i))) new
    × then (slice_index s.words i) (Keeper new, []))
    → Allows (KeepsRule key) slots id me i f then
keeper_moves k key slots id i f me u then same zeroth is move =
    subst (λ (z : Key × ℕ × Seated). Allows (KeepsRule z.0) slots z.1 z.2 i f then)
    (λ j. (sym same j, sym zeroth j, sym is j)) at_keeper
  where
    at_keeper : Allows (KeepsRule k) slots 0 (Keeper u, []) i f then
    at_keeper s r _ at _ =
        let m = move s r (the_keeper k s r u at) in
        (Keeper m.0, keeps, tt, keeper_goes k s r (slice_set s.words i (f (slice_index s.words i))) m.0 m.1, m.2)

-- the view after a store, by the word's number
stored_view : (k : Key) (place : Place) → IsPlace k.code_words place → HasStore place → (i : ℕ)
    → i ≡ word_number k.code_words place → (u : KeeperView)
    → stored_to (rank_at k.code_words place) u ≡ stored_to (rank k.code_words i) u
stored_view k place at has i word_is u =
    ap (λ n. stored_to n u) (sym (ap (rank k.code_words) word_is ∙ rank_is k.code_words place at has))

pub store_allowed : (k key : Key) (slots id i word : ℕ) (me : Seated) (u : KeeperView) → key ≡ k → id ≡ 0
    → me ≡ (Keeper u, []) → u.asked ≡ None → u.held ≡ None
    → (place : Place) → IsPlace k.code_words place → HasStore place → i ≡ word_number k.code_words place
    → u.stored ≤ rank_at k.code_words place → AreSkipped k u place
    → word ≡ word_of_entry (tables_of k u) (newest (tables_of k u)) place → FitsCode place word
    → Allows (KeepsRule key) slots id me i (λ _. word) (λ _. Stores k (step slots i word 0 none) me word)
store_allowed k key slots id i word me u same zeroth is idle free place at has word_is least skipped new small =
    keeper_moves k key slots id i (λ _. word) me u (λ _. Stores k (step slots i word 0 none) me word) same zeroth is
    (λ s r e. (
      stored_to (rank_at k.code_words place) u,
      subst (λ v. IsNext k s.words v (slice_set s.words i word) (stored_to (rank_at k.code_words place) u)) (sym e)
          (subst (λ j. IsNext k s.words u (slice_set s.words j word) (stored_to (rank_at k.code_words place) u))
          (sym word_is)
          (store_next k s.words u (subst (λ v. IsTables (tables_of k v)) e r.tables) r.many
          (subst (ShowTables k s.words) e r.shows) (subst (ShowQuiets k s.words) e r.quiets) idle free place at has
          least skipped word new r.code small)),
      ap (λ v. (Keeper v, [])) (stored_view k place at has i word_is u)
          ∙ sym (ap (λ (z : Seated). (Keeper (stored_to (rank k.code_words i) (keeper_of z.0)), z.1)) is),
    ))

-- a load leaves the words as they were
pub words_stay : (k : Key) (s : Shared) (views : List View) (i : ℕ) → KeepsRule k (with s s.words views)
    → KeepsRule k (with s (slice_set s.words i (slice_index s.words i)) views)
words_stay k s views i r = subst (λ words. KeepsRule k (with s words views)) (sym (set-get_or s.words i 0)) r
