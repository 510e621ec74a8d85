-- The steps by which the keeper holds a pass, and lets go of it.
use Rattle.std.proofs.lemmas.Bool.{lt-ltb}
use Rattle.std.proofs.Common.{◌≡◌, ◌≢◌, inl, inr, ℕ, ◌+◌, ◌-◌, ◌<◌, ◌≤◌, Bool, true, false, List, length, length-set, slice_index, slice_set, Option, Some, None, refl, sym, ap, subst, ◌∙◌, arith, cond}
use Rattle.std.proofs.lemmas.List.{get_or-set_other, get_or-set_same}
use mathlib.Core.Logic.{dite}
use native.Mathlib.Decide.{ℕ_discrete}
use Rattle.cfi_word.specs.declared.limits.TheConstants.{GUESTS}
use Rattle.cfi_word.specs.Rank.{stores_of}
use Rattle.cfi_word.specs.Table.{quiet_word, word_count, Code}
use Rattle.cfi_model.specs.declared.history.Access.{Access}
use Rattle.cfi_model.specs.Tables.{IsTables}
use Rattle.cfi_model.specs.TableMoments.{moment_of}
use Rattle.cfi_model.specs.Words.{epoch_in_force, number_at}
use Rattle.cfi_model.proofs.TableMomentLemmas.{by_trans}
use Rattle.cfi_model.proofs.TableLemmas.{force_epoch}
use Rattle.cfi_tables.specs.Key.{Key}
use Rattle.cfi_tables.specs.Keeping.{heard_as, is_out}
use Rattle.cfi_tables.specs.Rule.{IsElse, IsHeldOut, IsRegistered, IsSeen, ShowQuiets, ShowTables, TellsForce, CodeFits}
use Rattle.cfi_tables.specs.Views.{admitted, keeping_of, last_moment, noted, sight_of, tables_of}
use Rattle.cfi_tables.specs.inner.Steps.{registered}
use Rattle.cfi_tables.specs.declared.view.KeeperView.{KeeperView}
use Rattle.cfi_tables.specs.declared.view.PassView.{PassView}
use Rattle.cfi_tables.specs.declared.view.Quiets.{Quiets}
use Rattle.cfi_tables.proofs.BoundLemmas.{bounded_now, bounded_stays}
use Rattle.cfi_tables.proofs.QuietLemmas.{quiet_small, word_least}
use Rattle.cfi_tables.proofs.Prefixes.{prefix_same}
use Rattle.cfi_tables.proofs.TablesLemmas.{force_newest}
use Rattle.cfi_tables.proofs.KeptLemmas.{IsNext}
use Rattle.cfi_tables.proofs.PassLemmas.{quiet_else, quiet_here, quiet_shows, quiet_code}

-- ---- which passes are out

no_both : (b : Bool) → b ≡ false → b ≡ true → ⊥
no_both b e f = absurd (cc)

out_here : (out : List Bool) (guest : ℕ) (b : Bool) → guest < length out → is_out (slice_set out guest b) guest ≡ b
out_here out guest b inside = get_or-set_same out guest b false inside

out_else : (out : List Bool) (guest other : ℕ) (b : Bool) → other ≢ guest
    → is_out (slice_set out guest b) other ≡ is_out out other
out_else out guest other b apart = get_or-set_other out guest other b false apart

-- what is known of a pass does not lie in who is out, nor in the QUIET words, nor in which pass is held
pub registered_same : (k : Key) (u : KeeperView) (out : List Bool) (quiets : Quiets) (held : Option PassView)
    (p : PassView) → IsRegistered k u p → is_out out p.guest ≡ true → slice_index quiets.heard p.guest ≤ p.quiet + 1
    → IsRegistered k (record u { out = out; quiets = quiets; held = held }) p
registered_same k u out quiets held p r is heard = record {
  seen = record {
    agrees = r.seen.agrees;
    on = record { had = r.seen.on.had; now = r.seen.on.now; loads = r.seen.on.loads };
    least = r.seen.least;
    latest = r.seen.latest;
    code = r.seen.code;
  };
  within = r.within;
  out = is;
  published = r.published;
  heard = heard;
  bounded = λ outside.
      (let b = r.bounded outside in
      bounded_stays k u (record u { out = out; quiets = quiets; held = held }) p b (λ slot. omega arith) b.newest
      b.next);
}

-- what is known of a guest stays where that of another is heard
heard_else : (u : KeeperView) (guest other word : ℕ) (p : PassView) → other ≢ guest
    → slice_index u.quiets.heard other ≤ p.quiet + 1
    → slice_index (heard_as guest word u.quiets).heard other ≤ p.quiet + 1
heard_else u guest other word p apart most =
    omega (arith, get_or-set_other u.quiets.heard guest other word 0 apart, most)

-- while no update is under way the last epoch is in force
force_is : (k : Key) (u : KeeperView) → IsTables (tables_of k u) → u.stored ≡ stores_of k.code_words
    → epoch_in_force (tables_of k u) ≡ k.first + (length u.entries - 1)
force_is k u is idle = force_epoch (tables_of k u) is ∙ ap (λ n. k.first + n) (force_newest (tables_of k u) idle)

-- and all code words are its own
code_newest : (k : Key) (u : KeeperView) (index : ℕ) → index < k.code_words → u.stored ≡ stores_of k.code_words
    → number_at (tables_of k u) (Code index) ≡ length u.entries - 1
code_newest k u index inside idle =
    ap (λ b. cond b (length u.entries - 1) (length u.entries - 2)) (lt-ltb _ _ (omega (arith, inside, idle)))

-- a pass of these accesses that has seen all
all_seen : (k : Key) (u : KeeperView) → IsTables (tables_of k u) → u.stored ≡ stores_of k.code_words
    → (accesses : List Access) (p : PassView) → p.sight.accesses ≡ accesses → IsSeen k u p.sight
    → IsSeen k u (sight_of k (keeping_of u) accesses)
all_seen k u is idle accesses p same seen = subst (λ l. IsSeen k u (sight_of k (keeping_of u) l)) same (record {
  agrees = record {
    begins = prefix_same u.entries;
    refused = prefix_same u.refusals;
    timed = seen.agrees.timed;
    fair = seen.agrees.fair;
  };
  on = record {
    had = prefix_same u.entries;
    now = inr (refl, omega (arith, idle));
    loads = λ number access there.
        by_trans access.moment (moment_of (tables_of k u)) (last_moment k (sight_of k (keeping_of u) p.sight.accesses))
        (by_trans access.moment (last_moment k p.sight) (moment_of (tables_of k u)) (seen.on.loads number access there)
        seen.on.now) (inr (refl, omega (arith, idle)));
  };
  least = omega arith;
  latest = omega (arith, force_is k u is idle);
  code = λ index inside. omega (arith, code_newest k u index inside idle);
})

-- the QUIET words after a store of one, where one more or one fewer is out
quiets_set : (k : Key) (words : List ℕ) (u : KeeperView) (guest word : ℕ) (b : Bool) (held : Option PassView)
    → guest < GUESTS → length words ≡ word_count k.code_words → ShowQuiets k words u → (b ≡ false → word ≡ 0)
    → TellsForce k u word
    → ShowQuiets k (slice_set words (quiet_word guest) word)
    (record u { out = slice_set u.out guest b; quiets = heard_as guest word u.quiets; held = held })
quiets_set k words u guest word b held few many quiets zeroth tells = record {
  out_many = length-set u.out guest b ∙ quiets.out_many;
  quiets_many = length-set u.quiets.heard guest word ∙ quiets.quiets_many;
  later = λ other inside. dite (ℕ_discrete other guest)
      (λ same. omega (
        arith,
        ap (slice_index (slice_set u.quiets.heard guest word)) same
            ∙ get_or-set_same u.quiets.heard guest word 0 (omega (arith, few, quiets.quiets_many)),
        ap (λ g. slice_index (slice_set words (quiet_word guest) word) (quiet_word g)) same
            ∙ quiet_here k words u guest word few many,
      ))
      (λ apart. omega (
        arith,
        get_or-set_other u.quiets.heard guest other word 0 apart,
        quiet_else k words u guest word few many other apart,
        quiets.later other inside,
      ));
  away = λ other inside free. dite (ℕ_discrete other guest)
      (λ same. ap (λ g. slice_index (slice_set words (quiet_word guest) word) (quiet_word g)) same
      ∙ (quiet_here k words u guest word few many
      ∙ zeroth (sym (out_here u.out guest b (omega (arith, few, quiets.out_many)))
      ∙ (ap (is_out (slice_set u.out guest b)) (sym same) ∙ free))))
      (λ apart. quiet_else k words u guest word few many other apart
      ∙ quiets.away other inside (sym (out_else u.out guest other b apart) ∙ free));
  tells = λ other inside. dite (ℕ_discrete other guest)
      (λ same. subst (TellsForce k u)
      (sym (ap (λ g. slice_index (slice_set words (quiet_word guest) word) (quiet_word g)) same
      ∙ quiet_here k words u guest word few many)) tells)
      (λ apart. subst (TellsForce k u) (sym (quiet_else k words u guest word few many other apart))
      (quiets.tells other inside));
}

module _ (k : Key) (words : List ℕ) (u : KeeperView) (is : IsTables (tables_of k u))
    (many : length words ≡ word_count k.code_words) (shows : ShowTables k words u) (quiets : ShowQuiets k words u)
    (code : CodeFits k words) (idle : u.stored ≡ stores_of k.code_words) where
  -- ---- a guest is registered

  module _ (untested : u.tested ≡ 0) (guest word : ℕ) (few : guest < GUESTS) (free : is_out u.out guest ≡ false)
      (word_is : word ≡ k.first + length u.entries) where
    abbrev pass : PassView
    pass = admitted k (keeping_of u) guest

    abbrev after : List ℕ
    after = slice_set words (quiet_word guest) word

    pass_registered : IsRegistered k (registered k guest u) pass
    pass_registered = record {
      seen = record {
        agrees = record {
          begins = prefix_same u.entries;
          refused = prefix_same u.refusals;
          timed = record {
            each = λ number access at. absurd (cc);
            order = λ one other a b less first then. absurd (cc);
          };
          fair = tt;
        };
        on = record {
          had = prefix_same u.entries;
          now = inr (refl, omega (arith, idle));
          loads = λ number access at. absurd (cc);
        };
        least = omega arith;
        latest = omega (arith, force_is k u is idle);
        code = λ index inside. omega (arith, code_newest k u index inside idle);
      };
      within = few;
      out = out_here u.out guest true (omega (arith, few, quiets.out_many));
      published = omega arith;
      heard = omega (
        arith,
        get_or-set_same u.quiets.heard guest (k.first + length u.entries) 0 (omega (arith, few, quiets.quiets_many)),
        is.some,
      );
      bounded = λ outside. bounded_now k (registered k guest u) is pass (omega (arith, force_is k u is idle))
          (λ found e. absurd (cc));
    }

    others_apart : (p : PassView) → IsRegistered k u p → p.guest ≢ guest
    others_apart p r same = no_both (is_out u.out guest) free (ap (is_out u.out) (sym same) ∙ r.out)

    pub register_next : IsNext k words u after (registered k guest u)
    register_next = record {
      tables = is;
      many = length-set words (quiet_word guest) word ∙ many;
      shows = quiet_shows k words u guest word few many shows;
      code = quiet_code k words u guest word few many code;
      quiets = subst (λ w. ShowQuiets k after
          (record u { out = slice_set u.out guest true; quiets = heard_as guest w u.quiets; held = Some pass })) word_is
          (quiets_set k words u guest word true (Some pass) few many quiets (λ e. absurd (cc)) (inr (inr (
            omega (arith, word_is, is.some),
            omega (arith, word_is, is.some, force_is k u is idle),
          ))));
      held = record {
        registered = pass_registered;
        published = quiet_here k words u guest word few many ∙ omega (arith, word_is, is.some);
      };
      each = λ p o. (let apart = others_apart p o.registered in record {
        registered = registered_same k u (slice_set u.out guest true)
            (heard_as guest (k.first + length u.entries) u.quiets) (Some pass) p o.registered
            (out_else u.out guest p.guest true apart ∙ o.registered.out)
            (heard_else u guest p.guest (k.first + length u.entries) p apart o.registered.heard);
        published = quiet_else k words u guest word few many p.guest apart ∙ o.published;
        apart = λ e. apart (sym e);
      });
    }

  -- ---- the pass that is held

  module _ (p : PassView) (held : IsHeldOut k words u p) (is_held : u.held ≡ Some p) where
    apart_of : (guest : ℕ) → IsElse u.held guest → p.guest ≢ guest
    apart_of guest else = subst (λ h. IsElse h guest) is_held else

    -- it is told all, and the keeper hears what its guest has published
    abbrev heard_of : Quiets
    heard_of = heard_as p.guest (p.quiet + 1) u.quiets

    heard_here : slice_index heard_of.heard p.guest ≡ p.quiet + 1
    heard_here = get_or-set_same u.quiets.heard p.guest (p.quiet + 1) 0
        (omega (arith, held.registered.within, quiets.quiets_many))

    abbrev told_view : KeeperView
    told_view = record u { quiets = heard_of; held = Some (noted k (keeping_of u) p) }

    told_registered : IsRegistered k told_view (noted k (keeping_of u) p)
    told_registered =
        let r = held.registered in
        let force = force_is k u is idle in
        let seen = all_seen k u is idle p.sight.accesses p refl r.seen in
        record {
          seen = record {
            agrees = seen.agrees;
            on = record { had = seen.on.had; now = seen.on.now; loads = seen.on.loads };
            least = seen.least;
            latest = seen.latest;
            code = seen.code;
          };
          within = r.within;
          out = r.out;
          published = omega (arith, r.published, r.seen.latest, force);
          heard = omega (arith, heard_here);
          bounded = λ outside.
              (let b = r.bounded outside in record {
                floor = b.floor;
                published = b.published;
                stored = b.stored;
                kept = λ word e. (let kept = b.kept word e in
                    record { least = kept.least; most = omega (arith, kept.most, r.seen.latest, force) });
                newest = b.newest;
                next = b.next;
              });
        }

    -- no word is less than what was heard
    heard_later : (guest : ℕ) → guest < GUESTS
        → slice_index heard_of.heard guest ≤ slice_index words (quiet_word guest)
    heard_later guest inside = dite (ℕ_discrete guest p.guest)
        (λ same. omega (
          arith,
          ap (slice_index heard_of.heard) same ∙ heard_here,
          ap (λ g. slice_index words (quiet_word g)) same ∙ held.published,
          word_least p (quiet_small k u is p held.registered),
        ))
        (λ apart. omega (
          arith,
          get_or-set_other u.quiets.heard p.guest guest (p.quiet + 1) 0 apart,
          quiets.later guest inside,
        ))

    pub tell_next : IsNext k words u words told_view
    tell_next = record {
      tables = is;
      many = many;
      shows = shows;
      code = code;
      quiets = record {
        out_many = quiets.out_many;
        quiets_many = length-set u.quiets.heard p.guest (p.quiet + 1) ∙ quiets.quiets_many;
        later = heard_later;
        away = quiets.away;
        tells = quiets.tells;
      };
      held = record { registered = told_registered; published = held.published };
      each = λ q o. record {
        registered = registered_same k u u.out heard_of (Some (noted k (keeping_of u) p)) q o.registered
            o.registered.out
            (heard_else u p.guest q.guest (p.quiet + 1) q (λ e. apart_of q.guest o.apart (sym e))
            o.registered.heard);
        published = o.published;
        apart = apart_of q.guest o.apart;
      };
    }

    -- it is let go
    pub clear_next : IsNext k words u (slice_set words (quiet_word p.guest) 0)
        (record u { out = slice_set u.out p.guest false; quiets = heard_as p.guest 0 u.quiets; held = None })
    clear_next =
        let few = held.registered.within in
        record {
          tables = is;
          many = length-set words (quiet_word p.guest) 0 ∙ many;
          shows = quiet_shows k words u p.guest 0 few many shows;
          code = quiet_code k words u p.guest 0 few many code;
          quiets = quiets_set k words u p.guest 0 false None few many quiets (λ e. refl) (inl refl);
          held = tt;
          each = λ q o. (let apart : q.guest ≢ p.guest = λ e. apart_of q.guest o.apart (sym e) in record {
            registered = registered_same k u (slice_set u.out p.guest false) (heard_as p.guest 0 u.quiets) None q
                o.registered (out_else u.out p.guest q.guest false apart ∙ o.registered.out)
                (heard_else u p.guest q.guest 0 q apart o.registered.heard);
            published = quiet_else k words u p.guest 0 few many q.guest apart ∙ o.published;
            apart = tt;
          });
        }
