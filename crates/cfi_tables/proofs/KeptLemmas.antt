-- Changes of the state that keep the rule.
use Rattle.std.proofs.Common.{◌≡◌, ◌≢◌, ◌⊎◌, ⊎_elim, inl, inr, ℕ, zero, suc, ◌<◌, List, [], ◌∷◌, ◌++◌, length, slice_index, slice_set, Option, Some, None, refl, sym, ap, subst, ◌∙◌}
use mathlib.Core.Option.{some, some-injective, some-ne-none}
use lib.ListN.{get_elem?}
use Rattle.atomic_table.specs.Table.{State}
use Rattle.atomic_table.proofs.Lists.{at_longer, at_set, set_else}
use Rattle.cfi_word.specs.Table.{quiet_word, word_count}
use Rattle.cfi_model.specs.Tables.{IsTables}
use Rattle.cfi_tables.specs.Key.{Key}
use Rattle.cfi_tables.specs.Rule.{HeldFits, IsElse, KeepsRule, IsPublished, IsRegistered, IsTrueOf, ShowQuiets, ShowTables, CodeFits}
use Rattle.cfi_tables.specs.Views.{keeper_of, tables_of}
use Rattle.cfi_tables.specs.declared.view.KeeperView.{KeeperView}
use Rattle.cfi_tables.specs.declared.view.PassView.{PassView}
use Rattle.cfi_tables.specs.declared.view.View.{View}
use Rattle.cfi_tables.specs.declared.view.View.TheVariants.{Keeper, Pass, Spent}

abbrev pub Shared : Type 0
Shared = State (Unit {0}) View

-- the state with other words and views
abbrev pub with : Shared → List ℕ → List View → Shared
with s words views = record { words = words; homes = s.homes; views = views }

pub set_there : {A : Type 0} (xs : List A) (i : ℕ) (a b : A) → get_elem? xs i ≡ some a
    → get_elem? (slice_set xs i b) i ≡ some b
set_there [] i a b e = absurd (some-ne-none a (sym e))
set_there (x ∷ xs) zero a b e = refl
set_there (x ∷ xs) (suc i) a b e = set_there xs i a b e

-- an item at the end of a list, or one of those before
at_end : {A : Type 0} (xs : List A) (a : A) (i : ℕ) (b : A) → get_elem? (xs ++ a ∷ []) i ≡ some b
    → (get_elem? xs i ≡ some b) ⊎ ((i ≡ length xs) × (a ≡ b))
at_end [] a zero b e = inr (refl, some-injective a b e)
at_end [] a (suc i) b e = absurd (some-ne-none b (sym e))
at_end (x ∷ xs) a zero b e = inl e
at_end (x ∷ xs) a (suc i) b e = ⊎_elim (λ was. inl was) (λ last. inr (ap suc last.0, last.1)) (at_end xs a i b e)

-- the seat 0 has the keeper's view
pub the_keeper : (k : Key) (s : Shared) (r : KeepsRule k s) (u : KeeperView) → get_elem? s.views 0 ≡ some (Keeper u)
    → r.keeper ≡ u
the_keeper k s r u at = ap keeper_of (some-injective _ _ (sym r.first ∙ at))

-- a seat with another view is not the seat 0
pub seat_apart : (k : Key) (s : Shared) (r : KeepsRule k s) (seat : ℕ) (view : View)
    → get_elem? s.views seat ≡ some view → ((u : KeeperView) → view ≢ Keeper u) → seat ≢ 0
seat_apart k s r seat view at other zeroth =
    other r.keeper (some-injective _ _ (sym at ∙ (ap (get_elem? s.views) zeroth ∙ r.first)))

pub pass_is_no_keeper : (p : PassView) (u : KeeperView) → Pass p ≢ Keeper u
pass_is_no_keeper p u e = absurd (cc)

pub same_pass : (p q : PassView) → Pass p ≡ Pass q → p ≡ q
same_pass p q e = cc

-- where no pass's view was set, a pass is there that was there
pub old_pass : (views : List View) (seat other : ℕ) (new : View) (p : PassView) → ((q : PassView) → new ≢ Pass q)
    → get_elem? (slice_set views seat new) other ≡ some (Pass p) → get_elem? views other ≡ some (Pass p)
old_pass views seat other new p none at = ⊎_elim
    (λ (here : (other ≡ seat) × (new ≡ Pass p)). absurd (none p here.1))
    (λ (else : (other ≢ seat) × (get_elem? views other ≡ some (Pass p))). else.1)
    (at_set views seat other new (Pass p) at)

-- ---- the keeper's seat

-- a pass that is out with a seat of its own
pub record IsOut (k : Key) (words : List ℕ) (u : KeeperView) (p : PassView) : Type 0 where
  pub registered : IsRegistered k u p
  pub published : IsPublished words p
  pub apart : IsElse u.held p.guest

-- the words and the keeper's view go on
pub record IsNext (k : Key) (before : List ℕ) (old : KeeperView) (words : List ℕ) (new : KeeperView) : Type 0 where
  pub tables : IsTables (tables_of k new)
  pub many : length words ≡ word_count k.code_words
  pub shows : ShowTables k words new
  pub quiets : ShowQuiets k words new
  pub code : CodeFits k words
  pub held : HeldFits k words new new.held
  pub each : (p : PassView) → IsOut k before old p → IsOut k words new p

pub keeper_is_no_pass : (u : KeeperView) (p : PassView) → Keeper u ≢ Pass p
keeper_is_no_pass u p e = absurd (cc)

-- what is asked of each pass that has a seat
abbrev pub AllOut : (k : Key) (s : Shared) (r : KeepsRule k s) (words : List ℕ) (new : KeeperView) → Type 0
AllOut k s r words new =
    (seat : ℕ) (p : PassView) → get_elem? s.views seat ≡ some (Pass p) → IsOut k s.words r.keeper p
    → IsOut k words new p

unfoldable pub keeper_changes : (k : Key) (s : Shared) (r : KeepsRule k s) (words : List ℕ) (new : KeeperView)
    → IsTables (tables_of k new) → length words ≡ word_count k.code_words → ShowTables k words new
    → ShowQuiets k words new → CodeFits k words → HeldFits k words new new.held → AllOut k s r words new
    → KeepsRule k (with s words (slice_set s.views 0 (Keeper new)))
keeper_changes k s r words new tables many shows quiets code held each = record {
  keeper = new;
  first = set_there s.views 0 (Keeper r.keeper) (Keeper new) r.first;
  tables = tables;
  many = many;
  shows = shows;
  quiets = quiets;
  code = code;
  held = held;
  seats = true_at;
  published = λ seat p at. (out_at seat p (was seat p at)).published;
  apart = λ seat p at. (out_at seat p (was seat p at)).apart;
  alone = λ one other p q a b same. r.alone one other p q (was one p a) (was other q b) same;
}
  where
    was : (seat : ℕ) (p : PassView) → get_elem? (slice_set s.views 0 (Keeper new)) seat ≡ some (Pass p)
        → get_elem? s.views seat ≡ some (Pass p)
    was seat p at = old_pass s.views 0 seat (Keeper new) p (keeper_is_no_pass new) at

    out_at : (seat : ℕ) (p : PassView) → get_elem? s.views seat ≡ some (Pass p) → IsOut k words new p
    out_at seat p at = each seat p at (record {
      registered = r.seats seat (Pass p) at;
      published = r.published seat p at;
      apart = r.apart seat p at;
    })

    true_by : (seat : ℕ) (view : View) → get_elem? s.views seat ≡ some view → IsTrueOf k new view
    true_by seat (Keeper u) at = tt
    true_by seat (Pass p) at = (out_at seat p at).registered
    true_by seat Spent at = tt

    true_at : (seat : ℕ) (view : View) → get_elem? (slice_set s.views 0 (Keeper new)) seat ≡ some view
        → IsTrueOf k new view
    true_at seat view at = ⊎_elim
        (λ (here : (seat ≡ 0) × (Keeper new ≡ view)). subst (IsTrueOf k new) here.1 tt)
        (λ (else : (seat ≢ 0) × (get_elem? s.views seat ≡ some view)). true_by seat view else.1)
        (at_set s.views 0 seat (Keeper new) view at)

pub keeper_goes : (k : Key) (s : Shared) (r : KeepsRule k s) (words : List ℕ) (new : KeeperView)
    → IsNext k s.words r.keeper words new → KeepsRule k (with s words (slice_set s.views 0 (Keeper new)))
keeper_goes k s r words new next =
    keeper_changes k s r words new next.tables next.many next.shows next.quiets next.code next.held
    (λ seat p at. next.each p)

-- ---- a pass's seat

-- its view changes, and of the words its own QUIET word at most
pub record IsMove (k : Key) (s : Shared) (r : KeepsRule k s) (p : PassView) (words : List ℕ) (new : PassView)
    : Type 0 where
  pub guest : new.guest ≡ p.guest
  pub registered : IsRegistered k r.keeper new
  pub many : length words ≡ word_count k.code_words
  pub shows : ShowTables k words r.keeper
  pub quiets : ShowQuiets k words r.keeper
  pub code : CodeFits k words
  pub published : IsPublished words new
  pub others : (guest : ℕ) → guest < 16 → guest ≢ p.guest
      → slice_index words (quiet_word guest) ≡ slice_index s.words (quiet_word guest)

pub pass_goes : (k : Key) (s : Shared) (r : KeepsRule k s) (seat : ℕ) (p : PassView) (words : List ℕ) (new : PassView)
    → get_elem? s.views seat ≡ some (Pass p) → IsMove k s r p words new
    → KeepsRule k (with s words (slice_set s.views seat (Pass new)))
pass_goes k s r seat p words new at move = record {
  keeper = r.keeper;
  first = set_else s.views seat 0 (Pass new) (λ e. seat_apart k s r seat (Pass p) at (pass_is_no_keeper p) (sym e))
      ∙ r.first;
  tables = r.tables;
  many = move.many;
  shows = move.shows;
  quiets = move.quiets;
  code = move.code;
  held = held_by r.keeper.held r.held (r.apart seat p at);
  seats = λ other view there. ⊎_elim
      (λ (here : (other ≡ seat) × (Pass new ≡ view)). subst (IsTrueOf k r.keeper) here.1 move.registered)
      (λ (else : (other ≢ seat) × (get_elem? s.views other ≡ some view)). r.seats other view else.1)
      (at_set s.views seat other (Pass new) view there);
  published = λ other q there. ⊎_elim
      (λ (here : (other ≡ seat) × (Pass new ≡ Pass q)).
      subst (IsPublished words) (same_pass new q here.1) move.published)
      (λ (else : (other ≢ seat) × (get_elem? s.views other ≡ some (Pass q))).
      move.others q.guest (r.seats other (Pass q) else.1).within
      (λ same. else.0 (r.alone other seat q p else.1 at same)) ∙ r.published other q else.1)
      (at_set s.views seat other (Pass new) (Pass q) there);
  apart = λ other q there.
      (let w = was other q there in subst (IsElse r.keeper.held) w.2 (r.apart other w.0 w.1));
  alone = λ one other x y a b same.
      (let v = was one x a in
      let w = was other y b in
      r.alone one other v.0 w.0 v.1 w.1 (v.2 ∙ (same ∙ sym w.2)));
}
  where
    -- each pass was a pass of its guest
    was : (other : ℕ) (q : PassView) → get_elem? (slice_set s.views seat (Pass new)) other ≡ some (Pass q)
        → (old : PassView) × (get_elem? s.views other ≡ some (Pass old)) × (old.guest ≡ q.guest)
    was other q there = ⊎_elim
        (λ (here : (other ≡ seat) × (Pass new ≡ Pass q)).
        (p, ap (get_elem? s.views) here.0 ∙ at, sym move.guest ∙ ap (λ z. z.guest) (same_pass new q here.1)))
        (λ (else : (other ≢ seat) × (get_elem? s.views other ≡ some (Pass q))). (q, else.1, refl))
        (at_set s.views seat other (Pass new) (Pass q) there)

    held_by : (held : Option PassView) → HeldFits k s.words r.keeper held → IsElse held p.guest
        → HeldFits k words r.keeper held
    held_by None fits else = tt
    held_by (Some q) fits else = record {
      registered = fits.registered;
      published = move.others q.guest fits.registered.within else ∙ fits.published;
    }

-- ---- seats that come and go

pub spent_is_no_pass : (p : PassView) → Spent ≢ Pass p
spent_is_no_pass p e = absurd (cc)

-- a seat that is not the keeper's is used no more
unfoldable pub spends : (k : Key) (s : Shared) (r : KeepsRule k s) (seat : ℕ) → seat ≢ 0
    → KeepsRule k (with s s.words (slice_set s.views seat Spent))
spends k s r seat apart = record {
  keeper = r.keeper;
  first = set_else s.views seat 0 Spent (λ e. apart (sym e)) ∙ r.first;
  tables = r.tables;
  many = r.many;
  shows = r.shows;
  quiets = r.quiets;
  code = r.code;
  held = r.held;
  seats = λ other view there. ⊎_elim
      (λ (here : (other ≡ seat) × (Spent ≡ view)). subst (IsTrueOf k r.keeper) here.1 tt)
      (λ (else : (other ≢ seat) × (get_elem? s.views other ≡ some view)). r.seats other view else.1)
      (at_set s.views seat other Spent view there);
  published = λ other p there. r.published other p (was other p there);
  apart = λ other p there. r.apart other p (was other p there);
  alone = λ one other p q a b same. r.alone one other p q (was one p a) (was other q b) same;
}
  where
    was : (other : ℕ) (p : PassView) → get_elem? (slice_set s.views seat Spent) other ≡ some (Pass p)
        → get_elem? s.views other ≡ some (Pass p)
    was other p there = old_pass s.views seat other Spent p spent_is_no_pass there

-- a seat comes that is not used
pub spent_comes : (k : Key) (s : Shared) (r : KeepsRule k s) → KeepsRule k (with s s.words (s.views ++ Spent ∷ []))
spent_comes k s r = record {
  keeper = r.keeper;
  first = at_longer s.views (Spent ∷ []) 0 (Keeper r.keeper) r.first;
  tables = r.tables;
  many = r.many;
  shows = r.shows;
  quiets = r.quiets;
  code = r.code;
  held = r.held;
  seats = λ seat view at. ⊎_elim (λ (old : get_elem? s.views seat ≡ some view). r.seats seat view old)
      (λ (last : (seat ≡ length s.views) × (Spent ≡ view)). subst (IsTrueOf k r.keeper) last.1 tt)
      (at_end s.views Spent seat view at);
  published = λ seat p at. r.published seat p (was seat p at);
  apart = λ seat p at. r.apart seat p (was seat p at);
  alone = λ one other p q a b same. r.alone one other p q (was one p a) (was other q b) same;
}
  where
    was : (seat : ℕ) (p : PassView) → get_elem? (s.views ++ Spent ∷ []) seat ≡ some (Pass p)
        → get_elem? s.views seat ≡ some (Pass p)
    was seat p at = ⊎_elim (λ (old : get_elem? s.views seat ≡ some (Pass p)). old)
        (λ (last : (seat ≡ length s.views) × (Spent ≡ Pass p)). absurd (spent_is_no_pass p last.1))
        (at_end s.views Spent seat (Pass p) at)

-- a pass's seat comes, whose guest has no other
pub pass_comes : (k : Key) (s : Shared) (r : KeepsRule k s) (new : PassView) → IsOut k s.words r.keeper new
    → ((seat : ℕ) (p : PassView) → get_elem? s.views seat ≡ some (Pass p) → p.guest ≢ new.guest)
    → KeepsRule k (with s s.words (s.views ++ Pass new ∷ []))
pass_comes k s r new out else = record {
  keeper = r.keeper;
  first = at_longer s.views (Pass new ∷ []) 0 (Keeper r.keeper) r.first;
  tables = r.tables;
  many = r.many;
  shows = r.shows;
  quiets = r.quiets;
  code = r.code;
  held = r.held;
  seats = λ seat view at. ⊎_elim (λ (old : get_elem? s.views seat ≡ some view). r.seats seat view old)
      (λ (last : (seat ≡ length s.views) × (Pass new ≡ view)). subst (IsTrueOf k r.keeper) last.1 out.registered)
      (at_end s.views (Pass new) seat view at);
  published = λ seat p at. ⊎_elim (λ (old : get_elem? s.views seat ≡ some (Pass p)). r.published seat p old)
      (λ (last : (seat ≡ length s.views) × (Pass new ≡ Pass p)).
      subst (IsPublished s.words) (same_pass new p last.1) out.published)
      (at_end s.views (Pass new) seat (Pass p) at);
  apart = λ seat p at. ⊎_elim (λ (old : get_elem? s.views seat ≡ some (Pass p)). r.apart seat p old)
      (λ (last : (seat ≡ length s.views) × (Pass new ≡ Pass p)).
      subst (λ z. IsElse r.keeper.held z.guest) (same_pass new p last.1) out.apart)
      (at_end s.views (Pass new) seat (Pass p) at);
  alone = λ one other p q a b same. ⊎_elim
      (λ (old : get_elem? s.views one ≡ some (Pass p)). ⊎_elim
      (λ (too : get_elem? s.views other ≡ some (Pass q)). r.alone one other p q old too same)
      (λ (last : (other ≡ length s.views) × (Pass new ≡ Pass q)).
      absurd (else one p old (same ∙ sym (ap (λ z. z.guest) (same_pass new q last.1)))))
      (at_end s.views (Pass new) other (Pass q) b))
      (λ (last : (one ≡ length s.views) × (Pass new ≡ Pass p)). ⊎_elim
      (λ (old : get_elem? s.views other ≡ some (Pass q)).
      absurd (else other q old (sym same ∙ sym (ap (λ z. z.guest) (same_pass new p last.1)))))
      (λ (too : (other ≡ length s.views) × (Pass new ≡ Pass q)). last.0 ∙ sym too.0)
      (at_end s.views (Pass new) other (Pass q) b))
      (at_end s.views (Pass new) one (Pass p) a);
}
