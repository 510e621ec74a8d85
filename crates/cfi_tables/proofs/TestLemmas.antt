-- A test of a QUIET word keeps the rule.
use Rattle.std.proofs.Common.{◌≡◌, ◌≢◌, inl, inr, ℕ, zero, suc, ◌+◌, ◌-◌, ◌<◌, ◌≤◌, nat_lt, nat_le, cond, Bool, true, false, List, [], ◌∷◌, length, length-append, length-set, slice_index, slice_set, Some, None, refl, sym, ap, subst, ◌∙◌, arith}
use Rattle.std.proofs.lemmas.Bool.{cases_lt}
use Rattle.std.proofs.lemmas.Bool.Decides.{nat_tests}
use Rattle.std.proofs.lemmas.List.{get_or-set_other, get_or-set_same, set-get_or}
use mathlib.Core.Logic.{dite}
use mathlib.Core.Option.{none}
use native.Mathlib.Decide.{ℕ_discrete}
use Rattle.atomic_table.specs.Table.{Allows, step}
use Rattle.cfi_word.specs.declared.limits.TheConstants.{GUESTS, MAX_EPOCH}
use Rattle.cfi_word.specs.Rank.{stores_of}
use Rattle.cfi_word.specs.Table.{quiet_word, word_count, Bary, Code}
use Rattle.cfi_model.specs.declared.history.Entry.{Entry}
use Rattle.cfi_model.specs.declared.history.Refusal.{Refusal}
use Rattle.cfi_model.specs.declared.quiet.TheConstants.{PARKED}
use Rattle.cfi_model.specs.Tables.{IsTables, IsUpdate}
use Rattle.cfi_model.specs.Words.{next_epoch}
use Rattle.cfi_tables.specs.Key.{Key}
use Rattle.cfi_tables.specs.Keeping.{heard_in, is_out, last_of}
use Rattle.cfi_tables.specs.Rule.{HeldFits, IsBounded, KeepsRule, IsPublished, IsRegistered, ShowQuiets, ShowTables, TellsForce, CodeFits}
use Rattle.cfi_tables.specs.Views.{keeper_of, tables_of, word_of_pass}
use Rattle.cfi_tables.specs.inner.Steps.{Seated, Tests, grown, is_passed, loaded, test_passed, test_refusal, refused, tested_by}
use Rattle.cfi_tables.specs.declared.view.KeeperView.{KeeperView}
use Rattle.cfi_tables.specs.declared.view.PassView.{PassView}
use Rattle.cfi_tables.specs.declared.view.View.TheVariants.{Keeper}
use Rattle.cfi_tables.proofs.BoundLemmas.{bounded_stays}
use Rattle.cfi_tables.proofs.QuietLemmas.{heard_of_word, quiet_small, told_admits, word_either, word_outside}
use Rattle.cfi_tables.proofs.Prefixes.{prefix_more, prefix_same}
use Rattle.cfi_tables.proofs.TablesLemmas.{asked_is, dropped_is, goes_on, grown_force, grown_is, grown_numbers}
use Rattle.cfi_tables.proofs.ShowLemmas.{grown_shows}
use Rattle.cfi_tables.proofs.SeenLemmas.{IsLater}
use Rattle.cfi_tables.proofs.KeptLemmas.{IsNext, Shared}
use Rattle.cfi_tables.proofs.StepLemmas.{keeper_moves, out_stays, quiets_stay}

-- a word that tells an epoch and passes the test bounds the update
pass_bound : (k : Key) (u : KeeperView) (word quiet : ℕ) → word ≡ quiet + 1 → quiet + 1 < PARKED
    → is_passed k u word ≡ true → 3 ≤ k.versions → next_epoch (tables_of k u) + 2 ≤ quiet + k.versions
pass_bound k u zero quiet e small ok three = absurd (omega (arith, e))
pass_bound k u (suc epoch) quiet e small ok three =
    let same : epoch ≡ quiet = omega (arith, e) in
    let tells = told_admits k.versions (next_epoch (tables_of k u)) epoch (omega (arith, e, small)) ok in
    within (next_epoch (tables_of k u)) (epoch + k.versions - 2) epoch quiet k.versions same three tells refl
  where
    within : (m most epoch quiet v : ℕ) → epoch ≡ quiet → 3 ≤ v → nat_le m most ≡ true → most ≡ epoch + v - 2
        → m + 2 ≤ quiet + v
    within m most epoch quiet v same three ok is = grind (arith, nat_tests)

module _ (k : Key) (words : List ℕ) (u : KeeperView) (is : IsTables (tables_of k u))
    (many : length words ≡ word_count k.code_words) (shows : ShowTables k words u) (quiets : ShowQuiets k words u)
    (code : CodeFits k words)
    (idle : u.stored ≡ stores_of k.code_words) (free : u.held ≡ None) (few : u.tested < GUESTS)
    (entry : Entry) (follows : IsUpdate k.code_words (last_of u.entries) entry)
    (fits : next_epoch (tables_of k u) ≤ MAX_EPOCH) where
  abbrev found : ℕ
  found = slice_index words (quiet_word u.tested)

  -- the view that has loaded it
  abbrev with_found : KeeperView
  with_found = loaded found u

  -- what was known of its guest, and what is known then
  abbrev known : ℕ
  known = slice_index u.quiets.heard u.tested

  abbrev now : ℕ
  now = heard_in found known

  now_here : slice_index with_found.quiets.heard u.tested ≡ now
  now_here = get_or-set_same u.quiets.heard u.tested now 0 (omega (arith, few, quiets.quiets_many))

  now_else : (guest : ℕ) → guest ≢ u.tested
      → slice_index with_found.quiets.heard guest ≡ slice_index u.quiets.heard guest
  now_else guest apart = get_or-set_other u.quiets.heard u.tested guest now 0 apart

  loaded_many : length with_found.quiets.heard ≡ GUESTS
  loaded_many = length-set u.quiets.heard u.tested now ∙ quiets.quiets_many

  loaded_least : (guest : ℕ) → guest < GUESTS
      → slice_index with_found.quiets.heard guest ≤ slice_index words (quiet_word guest)
  loaded_least guest inside = dite (ℕ_discrete guest u.tested)
      (λ same. omega (
        arith,
        ap (slice_index with_found.quiets.heard) same ∙ now_here,
        heard_of_word (λ n. n ≤ found) found known (quiets.later u.tested few) (λ apart. omega arith),
        ap (λ g. slice_index words (quiet_word g)) same,
      ))
      (λ apart. omega (arith, now_else guest apart, quiets.later guest inside))

  -- the keeper has heard of nothing later than what a guest has published
  now_most : (p : PassView) → IsRegistered k u p → IsPublished words p → p.guest ≡ u.tested → now ≤ p.quiet + 1
  now_most p r published same =
      let is_word : found ≡ word_of_pass p = ap (λ g. slice_index words (quiet_word g)) (sym same) ∙ published in
      heard_of_word (λ n. n ≤ p.quiet + 1) found known
      (omega (arith, r.heard, ap (slice_index u.quiets.heard) same))
      (λ apart. subst (λ n. n ≤ p.quiet + 1) (sym is_word)
      (word_either p (λ n. word_of_pass p ≡ n → n ≤ p.quiet + 1)
      (λ e. absurd (apart (is_word ∙ e))) (λ outside e. omega arith) refl))

  loaded_heard : (p : PassView) → IsRegistered k u p → IsPublished words p
      → slice_index with_found.quiets.heard p.guest ≤ p.quiet + 1
  loaded_heard p r published = dite (ℕ_discrete p.guest u.tested)
      (λ same. omega (
        arith,
        ap (slice_index with_found.quiets.heard) same ∙ now_here,
        now_most p r published same,
      ))
      (λ apart. omega (arith, now_else p.guest apart, r.heard))

  same_words : (guest : ℕ) → guest < GUESTS
      → slice_index words (quiet_word guest) ≡ slice_index words (quiet_word guest)
  same_words guest inside = refl

  -- the next update is bound by each guest that it has passed
  next_bound : is_passed k u found ≡ true → (p : PassView) → IsRegistered k u p → IsPublished words p
      → p.parked ≡ false → (b : IsBounded k u p) → p.guest < u.tested + 1
      → next_epoch (tables_of k u) + 1 ≤ b.floor + k.versions
  next_bound ok p r published outside b tested = elim (cases_lt p.guest u.tested) [
    | inl before ↦ b.next before
    | inr here ↦
        let same : p.guest ≡ u.tested = omega (arith, here, tested) in
        let bound = pass_bound k u found p.quiet
        (ap (λ g. slice_index words (quiet_word g)) (sym same) ∙ (published ∙ word_outside p outside))
        (quiet_small k u is p r) ok is.versions_least in
        omega (arith, bound, b.published)
  ]

  -- the test goes on
  on_next : is_passed k u found ≡ true → u.tested + 1 < GUESTS
      → IsNext k words u words (record with_found { asked = Some entry; tested = u.tested + 1 })
  on_next ok more =
      let new : KeeperView = record with_found { asked = Some entry; tested = u.tested + 1 } in
      let next = asked_is k u is entry (u.tested + 1) idle more follows fits in
      let later : IsLater k u new = record {
        tables = is;
        next = next;
        begins = prefix_same u.entries;
        refused = prefix_same u.refusals;
        on = goes_on k u new (prefix_same u.entries) (omega arith);
        moment = inr (refl, omega arith);
        code = λ index inside. omega arith;
      } in
      record {
        tables = next;
        many = many;
        shows = shows;
        quiets = quiets_stay k u new later words words refl loaded_many loaded_least same_words quiets;
        code = code;
        held = subst (HeldFits k words new) (sym free) tt;
        each = out_stays k u new later words words refl free same_words (λ p r published. record {
          heard = loaded_heard p r published;
          bounded = λ outside.
              (let b = r.bounded outside in
              bounded_stays k u new p b (λ slot. omega arith) b.newest
              (λ tested. next_bound ok p r published outside b tested));
        });
      }

  -- all words have passed, and there is one entry more
  last_next : is_passed k u found ≡ true → GUESTS ≤ u.tested + 1 → IsNext k words u words (grown entry with_found)
  last_next ok last =
      let new : KeeperView = grown entry with_found in
      let next = grown_is k u is entry idle follows fits in
      let begins = prefix_more u.entries (entry ∷ []) in
      let long = length-append u.entries (entry ∷ []) in
      let later : IsLater k u new = record {
        tables = is;
        next = next;
        begins = begins;
        refused = prefix_same u.refusals;
        on = goes_on k u new begins (grown_force k u is entry idle follows fits);
        moment = inl (omega (arith, long));
        code = λ index inside. grown_numbers k u is entry (Code index);
      } in
      record {
        tables = next;
        many = many;
        shows = grown_shows k u entry words idle is.some shows;
        quiets = quiets_stay k u new later words words refl loaded_many loaded_least same_words quiets;
        code = code;
        held = subst (HeldFits k words new) (sym free) tt;
        each = out_stays k u new later words words refl free same_words (λ p r published. record {
          heard = loaded_heard p r published;
          bounded = λ outside.
              (let b = r.bounded outside in
              let bound = next_bound ok p r published outside b (omega (arith, r.within, last)) in
              bounded_stays k u new p b (λ slot. grown_numbers k u is entry (Bary slot)) (omega (arith, long, bound))
              (λ tested. absurd (omega (arith, tested))));
        });
      }

  passed_next : is_passed k u found ≡ true → IsNext k words u words (test_passed entry with_found)
  passed_next ok = by (nat_lt (u.tested + 1) GUESTS) refl
    where
      by : (more : Bool) → nat_lt (u.tested + 1) GUESTS ≡ more
          → IsNext k words u words (cond more (record with_found { asked = Some entry; tested = u.tested + 1 })
          (grown entry with_found))
      by true e = on_next ok (grind (arith, nat_tests))
      by false e = last_next ok (grind (arith, nat_tests))

  -- the update is not admitted
  refused_next : (refusal : Refusal) → IsNext k words u words (refused refusal with_found)
  refused_next refusal =
      let new : KeeperView = refused refusal with_found in
      let next = dropped_is k u is refusal in
      let later : IsLater k u new = record {
        tables = is;
        next = next;
        begins = prefix_same u.entries;
        refused = prefix_more u.refusals (refusal ∷ []);
        on = goes_on k u new (prefix_same u.entries) (omega arith);
        moment = inr (refl, omega arith);
        code = λ index inside. omega arith;
      } in
      record {
        tables = next;
        many = many;
        shows = shows;
        quiets = quiets_stay k u new later words words refl loaded_many loaded_least same_words quiets;
        code = code;
        held = subst (HeldFits k words new) (sym free) tt;
        each = out_stays k u new later words words refl free same_words (λ p r published. record {
          heard = loaded_heard p r published;
          bounded = λ outside.
              (let b = r.bounded outside in
              bounded_stays k u new p b (λ slot. omega arith) b.newest (λ tested. absurd (omega (arith, tested))));
        });
      }

  pub test_next : IsNext k words u words (tested_by k entry found u)
  test_next = by (is_passed k u found) refl
    where
      by : (ok : Bool) → is_passed k u found ≡ ok
          → IsNext k words u words (cond ok (test_passed entry with_found)
          (refused (test_refusal k entry.mark u found) with_found))
      by true e = passed_next e
      by false e = refused_next (test_refusal k entry.mark u found)

  -- a word that is not 0 is a pass's that is out
  pub found_out : found ≢ 0 → is_out u.out u.tested ≡ true
  found_out some = by (is_out u.out u.tested) refl
    where
      by : (out : Bool) → is_out u.out u.tested ≡ out → out ≡ true
      by true e = refl
      by false e = absurd (some (quiets.away u.tested few e))

pub test_allowed : (k key : Key) (slots id i : ℕ) (me : Seated) (u : KeeperView) (entry : Entry) → key ≡ k → id ≡ 0
    → me ≡ (Keeper u, []) → u.stored ≡ stores_of k.code_words → u.held ≡ None → u.tested < GUESTS
    → IsUpdate k.code_words (last_of u.entries) entry → next_epoch (tables_of k u) ≤ MAX_EPOCH
    → i ≡ quiet_word u.tested
    → Allows (KeepsRule key) slots id me i (λ n. n) (Tests k entry (step slots i 0 0 none) me)
test_allowed k key slots id i me u entry same zeroth is idle free few follows fits word_is =
    subst (λ j. Allows (KeepsRule key) slots id me j (λ n. n) (Tests k entry (step slots j 0 0 none) me)) (sym word_is)
    (keeper_moves k key slots id (quiet_word u.tested) (λ n. n) me u
    (Tests k entry (step slots (quiet_word u.tested) 0 0 none) me) same zeroth is moves)
  where
    moves : (s : Shared) (r : KeepsRule k s) → r.keeper ≡ u → let found = slice_index s.words (quiet_word u.tested) in
        (new : KeeperView) × IsNext k s.words r.keeper (slice_set s.words (quiet_word u.tested) found) new
        × Tests k entry (step slots (quiet_word u.tested) 0 0 none) me found (Keeper new, [])
    moves s r e =
        let tables = subst (λ v. IsTables (tables_of k v)) e r.tables in
        let shows = subst (ShowTables k s.words) e r.shows in
        let quiets = subst (ShowQuiets k s.words) e r.quiets in
        let found : ℕ = slice_index s.words (quiet_word u.tested) in
        let new : KeeperView = tested_by k entry found u in
        let next = test_next k s.words u tables r.many shows quiets r.code idle free few entry follows fits in (
          new,
          subst (λ v. IsNext k s.words v (slice_set s.words (quiet_word u.tested) found) new) (sym e)
              (subst (λ words. IsNext k s.words u words new) (sym (set-get_or s.words (quiet_word u.tested) 0)) next),
          record {
            is = sym (ap (λ (z : Seated). (Keeper (tested_by k entry found (keeper_of z.0)), z.1)) is);
            out = subst (λ (z : Seated). found ≢ 0 → is_out (keeper_of z.0).out (keeper_of z.0).tested ≡ true) (sym is)
                (found_out k s.words u tables r.many shows quiets r.code idle free few entry follows fits);
            tells = subst (λ (z : Seated). TellsForce k (keeper_of z.0) found) (sym is) (quiets.tells u.tested few);
            later = subst (λ (z : Seated). slice_index (keeper_of z.0).quiets.heard (keeper_of z.0).tested
                ≤ heard_in found (slice_index (keeper_of z.0).quiets.heard (keeper_of z.0).tested)) (sym is)
                (heard_of_word (λ n. slice_index u.quiets.heard u.tested ≤ n) found
                (slice_index u.quiets.heard u.tested) (omega arith) (λ apart. quiets.later u.tested few));
          },
        )
