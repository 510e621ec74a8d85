-- Modules that follow others, line by line of a journal.
use Rattle.std.proofs.Common.{◌≡◌, ℕ, zero, suc, ◌+◌, ◌<◌, ◌≤◌, Bool, true, false, List, [], ◌∷◌, ◌++◌, length, drop, get_or, Some, None, refl, sym, ap, subst, ◌∙◌, add-one, arith}
use Rattle.std.specs.Prelude.{◌↔◌, IsTrue}
use Rattle.std.proofs.Math.Dec.{leb}
use Rattle.std.proofs.lemmas.Bool.{leb-false, leb-true}
use Rattle.std.proofs.Math.Seq.{drop-cons}
use Rattle.cfi_aux.specs.declared.modules.Module.{Module}
use Rattle.cfi_aux.specs.declared.placed.Placed.{Placed}
use Rattle.cfi_plan.specs.declared.journal.Entry.{Entry}
use Rattle.cfi_plan.specs.declared.journal.ModuleLine.{ModuleLine}
use Rattle.cfi_plan.specs.declared.plan.Plan.{Plan}
use Rattle.cfi_valid.specs.Kept.{module_from}
use Rattle.cfi_valid.specs.Loaded.{LoadedModule}
use Rattle.cfi_judge.specs.declared.entries.Change.{Change}
use Rattle.cfi_judge.specs.declared.entries.Change.TheVariants as changes
use Rattle.cfi_judge.specs.declared.entries.Update.{Update}
use Rattle.cfi_judge.specs.declared.modules.Followed.{Followed}
use Rattle.cfi_judge.specs.declared.next.Next.{Next}
use Rattle.cfi_judge.specs.inner.Followed.{Comes}
use Rattle.cfi_judge.specs.inner.Lines.{change_of}
use Rattle.cfi_judge.specs.inner.Next.{IsNext, Takes}
use Rattle.cfi_judge.specs.inner.Told.{Follow, changes_in, origin_by}
use Rattle.cfi_judge.proofs.ToldLemmas.{told_once}

pub drop_past : {X : Type 0} (xs : List X) (n : ℕ) → length xs ≤ n → drop n xs ≡ []
drop_past [] zero past = refl
drop_past [] (suc n) past = refl
drop_past (x ∷ xs) zero past = absurd (omega (arith, past))
drop_past (x ∷ xs) (suc n) past = drop_past xs n (omega (arith, past))

-- the items from one of them on
pub drop_here : {X : Type 0} (xs : List X) (n : ℕ) (x : X) → n < length xs → x ≡ get_or xs n x
    → drop n xs ≡ x ∷ drop (n + 1) xs
drop_here {X} xs n x within is =
    drop-cons xs n x within ∙ ap (λ (k : ℕ). get_or xs n x ∷ drop k xs) (sym (add-one n))
    ∙ ap (λ (y : X). y ∷ drop (n + 1) xs) (sym is)

some_left : {X : Type 0} (xs : List X) (n : ℕ) → n < length xs → drop n xs ≡ [] → ⊥
some_left (x ∷ xs) zero within none = absurd (cc)
some_left (x ∷ xs) (suc n) within none = some_left xs n (omega (arith, within)) none
some_left [] n within none = absurd (omega (arith, within))

module _ (plan : Plan) (modules : List Module) (before : List LoadedModule) (gone : List ℕ) where
  -- ---- one line

  -- a line that changes no module
  pub stays_so : (change : Change) (lines : List ModuleLine) (old : Followed)
      → ((more : List Change) (rest : List ModuleLine)
      → Follow plan modules before gone (change ∷ more) rest ≡ Follow plan modules before gone more rest)
      → IsNext plan.code_words (length modules) before gone old.next
      → Comes plan modules before gone change lines old (Some old)
  stays_so change lines old same is_next = record {
    now = before;
    left = gone;
    is_next = is_next;
    follows = λ more.
        subst (λ (F : Type 0). F ↔ Follow plan modules before gone more (drop old.at lines))
        (sym (same more (drop old.at lines))) (λ follow. follow, λ follow. follow);
  }

  -- one that says that a module was retired
  pub one_left : (one : Update) (lines : List ModuleLine) (old new : Followed) → new.at ≡ old.at
      → IsNext plan.code_words (length modules) before (gone ++ one.number ∷ []) new.next
      → Comes plan modules before gone (changes.Retirement one) lines old (Some new)
  one_left one lines old new same is_next = record {
    now = before;
    left = gone ++ one.number ∷ [];
    is_next = is_next;
    follows = λ more.
        subst (λ (n : ℕ). Follow plan modules before (gone ++ one.number ∷ []) more (drop old.at lines)
        ↔ Follow plan modules before (gone ++ one.number ∷ []) more (drop n lines)) (sym same)
        (λ follow. follow, λ follow. follow);
  }

  module _ (load : Update) (lines : List ModuleLine) (old : Followed) where
    -- one that says that a module was loaded, where no line is left
    pub no_line : length lines ≤ old.at → Comes plan modules before gone (changes.Module load) lines old None
    no_line past = λ more follow.
        subst (Follow plan modules before gone (changes.Module load ∷ more)) (drop_past lines old.at past) follow

    module _ (line : ModuleLine) (within : old.at < length lines) (is : line ≡ get_or lines old.at line) where
      lines_are : drop old.at lines ≡ line ∷ drop (old.at + 1) lines
      lines_are = drop_here lines old.at line within is

      -- where it does not stand there
      pub no_place : Takes plan modules before gone line (origin_by load) None
          → Comes plan modules before gone (changes.Module load) lines old None
      no_place never = λ more follow.
          let here = subst (Follow plan modules before gone (changes.Module load ∷ more)) lines_are follow in
          never here.0 here.1

      -- where it does
      pub one_more : (next : Next) → Takes plan modules before gone line (origin_by load) (Some next)
          → (new : Followed) → new.next ≡ next → new.at ≡ old.at + 1
          → Comes plan modules before gone (changes.Module load) lines old (Some new)
      one_more next takes new next_is at_is = record {
        now = before ++ module_from (origin_by load) takes.0 ∷ [];
        left = gone;
        is_next = subst
            (IsNext plan.code_words (length modules) (before ++ module_from (origin_by load) takes.0 ∷ []) gone)
            (sym next_is) takes.2;
        follows = λ more.
            subst (λ (n : ℕ). Follow plan modules before gone (changes.Module load ∷ more) (drop old.at lines)
            ↔ Follow plan modules (before ++ module_from (origin_by load) takes.0 ∷ []) gone more (drop n lines))
            (sym at_is) (
              λ follow.
                  let here = subst (Follow plan modules before gone (changes.Module load ∷ more)) lines_are follow in
                  subst (λ (p : Placed).
                  Follow plan modules (before ++ module_from (origin_by load) p ∷ []) gone more
                  (drop (old.at + 1) lines))
                  (told_once plan modules before gone line (origin_by load) here.0 takes.0 here.1 takes.1) here.2,
              λ follow. subst (Follow plan modules before gone (changes.Module load ∷ more)) (sym lines_are)
                  (takes.0, takes.1, follow),
            );
      }

-- ---- all lines

-- the first so many lines of a journal lead so far, and all of them follow where the rest does from there
pub record HaveFollowed (plan : Plan) (modules : List Module) (before : List LoadedModule) (lines : List ModuleLine)
    (journal : List Entry) (number : ℕ) (followed : Followed) : Type 0 where
  pub now : List LoadedModule
  pub left : List ℕ
  pub is_next : IsNext plan.code_words (length modules) now left followed.next
  pub rest : Follow plan modules before [] (changes_in journal) lines
      ↔ Follow plan modules now left (changes_in (drop number journal)) (drop followed.at lines)

module _ (plan : Plan) (modules : List Module) (before : List LoadedModule) (lines : List ModuleLine)
    (journal : List Entry) (number : ℕ) (old : Followed)
    (have : HaveFollowed plan modules before lines journal number old) where
  module _ (d : Entry) (within : number < length journal) (change : Change)
      (is : change ≡ change_of (get_or journal number d).what) where
    here : changes_in (drop number journal) ≡ change ∷ changes_in (drop (number + 1) journal)
    here =
        ap changes_in (drop-cons journal number d within
        ∙ ap (λ (k : ℕ). get_or journal number d ∷ drop k journal) (sym (add-one number)))
        ∙ ap (λ (c : Change). c ∷ changes_in (drop (number + 1) journal)) (sym is)

    abbrev Rest : Type 0
    Rest = Follow plan modules have.now have.left (change ∷ changes_in (drop (number + 1) journal)) (drop old.at lines)

    rest_here : Follow plan modules before [] (changes_in journal) lines ↔ Rest
    rest_here =
        subst (λ (cs : List Change). Follow plan modules before [] (changes_in journal) lines
        ↔ Follow plan modules have.now have.left cs (drop old.at lines)) here have.rest

    -- one more
    pub goes_on : (new : Followed) → Comes plan modules have.now have.left change lines old (Some new)
        → HaveFollowed plan modules before lines journal (number + 1) new
    goes_on new comes =
        let follows = comes.follows (changes_in (drop (number + 1) journal)) in
        record {
          now = comes.now;
          left = comes.left;
          is_next = comes.is_next;
          rest = (λ all. follows.0 (rest_here.0 all), λ rest. rest_here.1 (follows.1 rest));
        }

    -- where one does not follow, not all do
    pub goes_nowhere : Comes plan modules have.now have.left change lines old None
        → ¬ Follow plan modules before [] (changes_in journal) lines
    goes_nowhere never all = never (changes_in (drop (number + 1) journal)) (rest_here.0 all)

  -- none is left
  module _ (all : length journal ≤ number) where
    at_end : Follow plan modules before [] (changes_in journal) lines
        ↔ Follow plan modules have.now have.left [] (drop old.at lines)
    at_end =
        subst (λ (cs : List Change). Follow plan modules before [] (changes_in journal) lines
        ↔ Follow plan modules have.now have.left cs (drop old.at lines))
        (ap changes_in (drop_past journal number all)) have.rest

    pub ends_there : length lines ≤ old.at → Follow plan modules before [] (changes_in journal) lines
    ends_there past =
        at_end.1 (subst (Follow plan modules have.now have.left []) (sym (drop_past lines old.at past)) tt)

    pub ends_early : old.at < length lines → ¬ Follow plan modules before [] (changes_in journal) lines
    ends_early within follow = none_follows (drop old.at lines) refl (at_end.0 follow)
      where
        none_follows : (rest : List ModuleLine) → drop old.at lines ≡ rest
            → Follow plan modules have.now have.left [] rest → ⊥
        none_follows [] none follows = some_left lines old.at within none
        none_follows (line ∷ rest) some follows = follows

    -- so no line may be left
    pub all_told : IsTrue (leb (length lines) old.at) ↔ Follow plan modules before [] (changes_in journal) lines
    all_told = by (leb (length lines) old.at) refl
      where
        by : (no_more : Bool) → leb (length lines) old.at ≡ no_more
            → IsTrue no_more ↔ Follow plan modules before [] (changes_in journal) lines
        by true none = (λ same. ends_there (leb-true (length lines) old.at none), λ follow. refl)
        by false some = (
          λ same. absurd (cc),
          λ follow. absurd (ends_early (leb-false (length lines) old.at some) follow),
        )
