-- A pass's loads and its store keep the rule.
use Rattle.std.proofs.Common.{◌≡◌, ◌≢◌, inl, inr, ℕ, ◌+◌, ◌<◌, ◌≤◌, Bool, true, false, List, [], length, length-set, slice_index, slice_set, None, refl, sym, ap, subst, ◌∙◌, arith, ◌^◌}
use Rattle.std.proofs.lemmas.List.{get_or-set_other, get_or-set_same}
use mathlib.Core.Logic.{dite}
use mathlib.Core.Option.{none}
use native.Mathlib.Decide.{ℕ_discrete}
use Rattle.atomic_table.specs.Table.{Allows, keeps, step}
use Rattle.cfi_word.specs.declared.limits.TheConstants.{GUESTS}
use Rattle.cfi_word.specs.Table.{Place, Quiet, IsPlace, quiet_word, word_count, word_number, code_word}
use Rattle.cfi_word.specs.Table as places
use Rattle.cfi_word.specs.Word.{epoch_in}
use Rattle.cfi_model.specs.declared.quiet.TheConstants.{PARKED}
use Rattle.cfi_model.specs.Words.{word_at}
use Rattle.cfi_tables.specs.Fair.{kept_of}
use Rattle.cfi_tables.specs.Key.{Key}
use Rattle.cfi_tables.specs.Keeping.{is_out}
use Rattle.cfi_tables.specs.Loads.{IsLoad, IsQuiet, MayLoad, TellsEpoch}
use Rattle.cfi_tables.specs.Rule.{KeepsRule, ShowQuiets, ShowTables, TellsForce, CodeFits}
use Rattle.cfi_tables.specs.Views.{last_moment, parked, pass_of, tables_of}
use Rattle.cfi_tables.specs.inner.Steps.{Loads, Parks, Publishes, Seated, published}
use Rattle.cfi_tables.specs.declared.view.KeeperView.{KeeperView}
use Rattle.cfi_tables.specs.declared.view.PassView.{PassView}
use Rattle.cfi_tables.specs.declared.view.View.TheVariants.{Pass}
use Rattle.cfi_tables.proofs.FairLemmas.{kept_snoc}
use Rattle.cfi_tables.proofs.PlaceLemmas.{place_within, quiet_apart}
use Rattle.cfi_model.proofs.PhaseLemmas.{same_place}
use Rattle.cfi_tables.proofs.LoadLemmas.{load_is, loaded_registered, parked_registered, published_registered}
use Rattle.cfi_tables.proofs.MoreLemmas.{loaded, tells_store}
use Rattle.cfi_tables.proofs.KeptLemmas.{pass_goes, with}
use Rattle.cfi_tables.proofs.QuietLemmas.{quiet_small}
use Rattle.cfi_tables.proofs.StepLemmas.{words_stay}

-- ---- a load

load_moves : (k : Key) (slots id i : ℕ) (p : PassView) (place : Place) → IsPlace k.code_words place
    → TellsEpoch place → MayLoad p place → i ≡ word_number k.code_words place
    → Allows (KeepsRule k) slots id (Pass p, []) i (λ n. n) (Loads k (step slots i 0 0 none) (Pass p, []))
load_moves k slots id i p place at tells may word_is s r _ there _ =
    let u : KeeperView = r.keeper in
    let found : ℕ = word_at (tables_of k u) place in
    let here : slice_index s.words i ≡ found =
    ap (slice_index s.words) word_is ∙ r.shows place at (tells_store place tells) in
    let registered = r.seats id (Pass p) there in
    let new : PassView = loaded k u place found p in (
      Pass new,
      keeps,
      tt,
      words_stay k s (slice_set s.views id (Pass new)) i
          (pass_goes k s r id p s.words new there (record {
            guest = refl;
            registered = loaded_registered k u r.tables place at tells p may registered;
            many = r.many;
            shows = r.shows;
            quiets = r.quiets;
            code = r.code;
            published = r.published id p there;
            others = λ guest few apart. refl;
          })),
      record {
        same = refl;
        load = λ other inside told word.
            (let same : place ≡ other = same_place k.code_words place other at inside (sym (word ∙ word_is)) in
            subst (λ q. IsLoad k q (slice_index s.words i) p new) same
            (subst (λ n. IsLoad k place n p new) (sym here) (load_is k u r.tables place at tells p may registered)));
      },
    )

pub load_allowed : (k key : Key) (slots id i : ℕ) (me : Seated) → key ≡ k → me ≡ (Pass (pass_of me.0), [])
    → (place : Place) → IsPlace k.code_words place → TellsEpoch place → MayLoad (pass_of me.0) place
    → i ≡ word_number k.code_words place
    → Allows (KeepsRule key) slots id me i (λ n. n) (Loads k (step slots i 0 0 none) me)
load_allowed k key slots id i me same is place at tells may word_is =
    subst (λ (z : Key × Seated). Allows (KeepsRule z.0) slots id z.1 i (λ n. n) (Loads k (step slots i 0 0 none) z.1))
    (λ j. (sym same j, sym is j)) (load_moves k slots id i (pass_of me.0) place at tells may word_is)

-- ---- a store of a QUIET word

module _ (k : Key) (words : List ℕ) (u : KeeperView) (guest word : ℕ) (few : guest < GUESTS)
    (many : length words ≡ word_count k.code_words) where
  abbrev after : List ℕ
  after = slice_set words (quiet_word guest) word

  pub quiet_here : slice_index after (quiet_word guest) ≡ word
  quiet_here =
      get_or-set_same words (quiet_word guest) word 0
      (omega (arith, many, place_within k.code_words (Quiet guest) few))

  pub quiet_else : (other : ℕ) → other ≢ guest
      → slice_index after (quiet_word other) ≡ slice_index words (quiet_word other)
  quiet_else other apart =
      get_or-set_other words (quiet_word guest) (quiet_word other) word 0 (λ e. apart (omega (arith, e)))

  -- the words of the tables are as they were
  pub quiet_shows : ShowTables k words u → ShowTables k after u
  quiet_shows shows place at has =
      get_or-set_other words (quiet_word guest) (word_number k.code_words place) word 0
      (quiet_apart k.code_words guest place at has few)
      ∙ shows place at has

  pub quiet_code : CodeFits k words → CodeFits k after
  quiet_code code index inside =
      subst (λ n. n < 2 ^ 32)
      (sym (get_or-set_other words (quiet_word guest) (code_word index) word 0 (λ e. omega (arith, e, few))))
      (code index inside)

  -- and the other QUIET words
  pub quiet_quiets : is_out u.out guest ≡ true → TellsForce k u word → slice_index u.quiets.heard guest ≤ word
      → ShowQuiets k words u → ShowQuiets k after u
  quiet_quiets out tells up quiets = record {
    out_many = quiets.out_many;
    quiets_many = quiets.quiets_many;
    later = λ other inside. dite (ℕ_discrete other guest)
        (λ same. omega (
          arith,
          ap (slice_index u.quiets.heard) same,
          up,
          ap (λ g. slice_index after (quiet_word g)) same ∙ quiet_here,
        ))
        (λ apart. omega (arith, quiets.later other inside, quiet_else other apart));
    away = λ other inside free. dite (ℕ_discrete other guest)
        (λ same. absurd (no_both (is_out u.out other) free (ap (is_out u.out) same ∙ out)))
        (λ apart. quiet_else other apart ∙ quiets.away other inside free);
    tells = λ other inside. dite (ℕ_discrete other guest)
        (λ same. subst (TellsForce k u) (sym (ap (λ g. slice_index after (quiet_word g)) same ∙ quiet_here)) tells)
        (λ apart. subst (TellsForce k u) (sym (quiet_else other apart)) (quiets.tells other inside));
  }
    where
      no_both : (b : Bool) → b ≡ false → b ≡ true → ⊥
      no_both b e f = absurd (cc)

publish_moves : (k : Key) (slots id i word : ℕ) (p : PassView) → i ≡ quiet_word p.guest
    → kept_of k p.sight.accesses ≡ None → word ≡ p.sight.latest + 1
    → Allows (KeepsRule k) slots id (Pass p, []) i (λ _. word)
    (λ _. Publishes (step slots i word 0 none) (Pass p, []) word)
publish_moves k slots id i word p word_is bare new s r _ there _ =
    let u : KeeperView = r.keeper in
    let registered = r.seats id (Pass p) there in
    let few = registered.within in
    let tells : TellsForce k u word = inr (inr (
      omega (arith, new, registered.seen.least),
      omega (arith, new, registered.seen.latest),
    )) in
    let goes = pass_goes k s r id p (slice_set s.words (quiet_word p.guest) word) (published p) there (record {
      guest = refl;
      registered = published_registered k u r.tables p registered bare;
      many = length-set s.words (quiet_word p.guest) word ∙ r.many;
      shows = quiet_shows k s.words u p.guest word few r.many r.shows;
      quiets = quiet_quiets k s.words u p.guest word few r.many registered.out tells
          (omega (arith, new, registered.heard, registered.published)) r.quiets;
      code = quiet_code k s.words u p.guest word few r.many r.code;
      published = quiet_here k s.words u p.guest word few r.many ∙ new;
      others = λ guest inside apart. quiet_else k s.words u p.guest word few r.many guest apart;
    }) in (
      Pass (published p),
      keeps,
      tt,
      subst (λ j. KeepsRule k (with s (slice_set s.words j word) (slice_set s.views id (Pass (published p)))))
          (sym word_is) goes,
      record { is = refl; later = registered.published },
    )

pub publish_allowed : (k key : Key) (slots id i word : ℕ) (me : Seated) → key ≡ k → me ≡ (Pass (pass_of me.0), [])
    → i ≡ quiet_word (pass_of me.0).guest → kept_of k (pass_of me.0).sight.accesses ≡ None
    → word ≡ (pass_of me.0).sight.latest + 1
    → Allows (KeepsRule key) slots id me i (λ _. word) (λ _. Publishes (step slots i word 0 none) me word)
publish_allowed k key slots id i word me same is word_is bare new =
    subst (λ (z : Key × Seated). Allows (KeepsRule z.0) slots id z.1 i (λ _. word)
    (λ _. Publishes (step slots i word 0 none) z.1 word))
    (λ j. (sym same j, sym is j)) (publish_moves k slots id i word (pass_of me.0) word_is bare new)

park_moves : (k : Key) (slots id i word : ℕ) (p : PassView) → i ≡ quiet_word p.guest → word ≡ PARKED
    → Allows (KeepsRule k) slots id (Pass p, []) i (λ _. word)
    (λ _. Parks (step slots i word 0 none) (Pass p, []) word)
park_moves k slots id i word p word_is new s r _ there _ =
    let u : KeeperView = r.keeper in
    let registered = r.seats id (Pass p) there in
    let few = registered.within in
    let small = quiet_small k u r.tables p registered in
    let goes = pass_goes k s r id p (slice_set s.words (quiet_word p.guest) word) (parked p) there (record {
      guest = refl;
      registered = parked_registered k u p registered;
      many = length-set s.words (quiet_word p.guest) word ∙ r.many;
      shows = quiet_shows k s.words u p.guest word few r.many r.shows;
      quiets = quiet_quiets k s.words u p.guest word few r.many registered.out (inr (inl new))
          (omega (arith, new, registered.heard, small)) r.quiets;
      code = quiet_code k s.words u p.guest word few r.many r.code;
      published = quiet_here k s.words u p.guest word few r.many ∙ new;
      others = λ guest inside apart. quiet_else k s.words u p.guest word few r.many guest apart;
    }) in (
      Pass (parked p),
      keeps,
      tt,
      subst (λ j. KeepsRule k (with s (slice_set s.words j word) (slice_set s.views id (Pass (parked p)))))
          (sym word_is) goes,
      refl,
    )

pub park_allowed : (k key : Key) (slots id i word : ℕ) (me : Seated) → key ≡ k → me ≡ (Pass (pass_of me.0), [])
    → i ≡ quiet_word (pass_of me.0).guest → word ≡ PARKED
    → Allows (KeepsRule key) slots id me i (λ _. word) (λ _. Parks (step slots i word 0 none) me word)
park_allowed k key slots id i word me same is word_is new =
    subst (λ (z : Key × Seated). Allows (KeepsRule z.0) slots id z.1 i (λ _. word)
    (λ _. Parks (step slots i word 0 none) z.1 word))
    (λ j. (sym same j, sym is j)) (park_moves k slots id i word (pass_of me.0) word_is new)

-- after a load of EPOCH no Bary word is kept
pub epoch_bare : (k : Key) (p q : PassView) (found : ℕ) → IsLoad k places.Epoch found p q
    → kept_of k q.sight.accesses ≡ None
epoch_bare k p q found load =
    ap (kept_of k) load.now.accesses
    ∙ kept_snoc k p.sight.accesses places.Epoch found (last_moment k q.sight) tt tt

-- what a pass knows after a quiescent point
pub quiet_is : (k : Key) (p q : PassView) (found epoch : ℕ) → epoch ≡ epoch_in found → IsLoad k places.Epoch found p q
    → q.quiet ≤ q.sight.latest → (new : PassView) → new ≡ published q → IsQuiet k epoch p new
quiet_is k p q found epoch epoch_is load later new view = subst (IsQuiet k epoch p) (sym view) (record {
  found = found;
  epoch_is = epoch_is;
  quiet = load.tells.1 ∙ sym epoch_is;
  later = omega (arith, later, load.quiet, load.tells.1, epoch_is);
  parked = refl;
  load = subst (λ (z : ℕ × Bool). IsLoad k places.Epoch found p (record q { quiet = z.0; parked = z.1 }))
      (λ i. (load.quiet i, load.parked i)) load;
})
