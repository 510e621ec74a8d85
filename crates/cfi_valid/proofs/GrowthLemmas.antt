-- A journal goes on.
use Rattle.std.proofs.Common.{◌≡◌, ℕ, ◌≤◌, ◌<◌, ◌&&◌, ◌++◌, Bool, false, List, [], ◌∷◌, refl, sym, ap, subst, ◌∙◌, arith, append_assoc}
use Rattle.std.specs.Prelude.{nat_le, nat_lt, filter}
use Rattle.std.proofs.lemmas.Bool.{and_right, lt-leb}
use Rattle.std.proofs.lemmas.List.{append-nil}
use Rattle.cfi_aux.specs.declared.modules.Module.{Module}
use Rattle.cfi_graph.specs.Cell.{cells_of}
use Rattle.cfi_modules.specs.Fills.{fills_of}
use Rattle.cfi_plan.specs.declared.journal.Entry.{Entry}
use Rattle.cfi_plan.specs.declared.journal.JournalLine.{JournalLine}
use Rattle.cfi_plan.specs.declared.plan.Plan.{Plan}
use Rattle.cfi_unit.specs.declared.fill.Fill.{Fill}
use Rattle.cfi_valid.specs.Growth.{IsLater}
use Rattle.cfi_valid.specs.Journal.{JournalState, members_of, IsOutOfEpochs, LineLeads, EntriesLead}
use Rattle.cfi_valid.specs.Loaded.{LoadedModule, placed_modules, loaded_by, live_at, Cells, Filled, Left, cells_at, with_cells, data_between, start_data, fills_between, start_fills}
use Rattle.cfi_valid.specs.declared.retirement.Retirement.{Retirement}
use Rattle.cfi_valid.proofs.LineLemmas.{line_does}
use Rattle.cfi_valid.proofs.LiveLemmas.{module_policy, retired_policy, above_append, above_less, tested_append, live_stays}

-- ---- later states

pub same_later : (s : JournalState) → IsLater s s
same_later s = record {
  more = [];
  is = sym (append-nil s.loaded);
  above = tt;
  gone = [];
  retired_is = sym (append-nil s.retired);
  after = tt;
  policy = omega arith;
  epoch = omega arith;
}

pub later_later : (a b c : JournalState) → IsLater a b → IsLater b c → IsLater a c
later_later a b c p q = record {
  more = p.more ++ q.more;
  is = q.is ∙ ap (λ (xs : List LoadedModule). xs ++ q.more) p.is ∙ append_assoc a.loaded p.more q.more;
  above = above_append LoadedModule module_policy a.policy p.more q.more p.above
      (above_less LoadedModule module_policy b.policy a.policy q.more p.policy q.above);
  gone = p.gone ++ q.gone;
  retired_is = q.retired_is ∙ ap (λ (xs : List Retirement). xs ++ q.gone) p.retired_is
      ∙ append_assoc a.retired p.gone q.gone;
  after = above_append Retirement retired_policy a.policy p.gone q.gone p.after
      (above_less Retirement retired_policy b.policy a.policy q.gone p.policy q.after);
  policy = omega (arith, p.policy, q.policy);
  epoch = omega (arith, p.epoch, q.epoch);
}

module _ (plan : Plan) (modules : List Module) where
  line_later : (old new : JournalState) (line : JournalLine) → LineLeads plan modules old line new → IsLater old new
  line_later old new line leads =
      line_does plan modules old (λ more gone s. IsLater old s) (same_later old)
      (λ number epoch policy load. record {
        more = record { number = number; placed = load.clean.placed; policy = policy } ∷ [];
        is = refl;
        above = (omega (arith, load.next), tt);
        gone = [];
        retired_is = sym (append-nil old.retired);
        after = tt;
        policy = omega (arith, load.next);
        epoch = omega (arith, load.goes.next);
      })
      (λ number epoch policy retire. record {
        more = [];
        is = sym (append-nil old.loaded);
        above = tt;
        gone = record { number = number; policy = policy } ∷ [];
        retired_is = refl;
        after = (omega (arith, retire.next), tt);
        policy = omega (arith, retire.next);
        epoch = omega (arith, retire.goes.next);
      })
      (λ epoch goes. record {
        more = [];
        is = sym (append-nil old.loaded);
        above = tt;
        gone = [];
        retired_is = sym (append-nil old.retired);
        after = tt;
        policy = omega arith;
        epoch = omega (arith, goes.next);
      }) line new leads

  pub along_later : (old new : JournalState) (entries : List Entry) → EntriesLead plan modules old entries new
      → IsLater old new
  along_later old new [] along = subst (IsLater old) (sym along) (same_later old)
  along_later old new (entry ∷ entries) along =
      later_later old along.0 new (line_later old along.0 entry.what along.1.1)
      (along_later along.0 new entries along.2)

-- ---- what a policy finds loaded and live, and what a guest is given under it

module _ (old new : JournalState) (later : IsLater old new) (policy : ℕ) (within : policy ≤ old.policy) where
  tested_stay : (passes : LoadedModule → Bool) → ((l : LoadedModule) → policy < l.policy → passes l ≡ false)
      → filter passes new.loaded ≡ filter passes old.loaded
  tested_stay passes fails =
      ap (filter passes) later.is
      ∙ tested_append passes policy fails old.loaded later.more
      (above_less LoadedModule module_policy old.policy policy later.more within later.above)

  pub loaded_stays : loaded_by policy new.loaded ≡ loaded_by policy old.loaded
  loaded_stays =
      tested_stay (λ (l : LoadedModule). nat_le l.policy policy)
      (λ (l : LoadedModule) past. lt-leb l.policy policy past)

  -- what holds of both
  pub both_stay : (P : (loaded live : List LoadedModule) → Type 0)
      → P (loaded_by policy old.loaded) (live_at policy (members_of old))
      → P (loaded_by policy new.loaded) (live_at policy (members_of new))
  both_stay P holds =
      subst (λ (live : List LoadedModule). P (loaded_by policy new.loaded) live)
      (sym (live_stays old new later policy within))
      (subst (λ (loaded : List LoadedModule). P loaded (live_at policy (members_of old))) (sym loaded_stays) holds)

  pub cells_stay : cells_at policy (members_of new) ≡ cells_at policy (members_of old)
  cells_stay =
      both_stay
      (λ loaded live. cells_of (placed_modules live) (placed_modules loaded) ≡ cells_at policy (members_of old)) refl

  -- fills that stay, and the cells behind them
  with_cells_stay : (cells : Cells) (before after : List Fill) → after ≡ before
      → with_cells cells policy (members_of new) after ≡ with_cells cells policy (members_of old) before
  with_cells_stay Filled before after same =
      ap (λ (fills : List Fill). fills ++ cells_at policy (members_of new)) same
      ∙ ap (λ (fills : List Fill). before ++ fills) cells_stay
  with_cells_stay Left before after same = same

  pub fills_stay : (cells : Cells) (above : ℕ)
      → fills_between cells above policy (members_of new) ≡ fills_between cells above policy (members_of old)
  fills_stay cells above =
      with_cells_stay cells (data_between above policy old.loaded) (data_between above policy new.loaded)
      (ap (λ (ls : List LoadedModule). fills_of (placed_modules ls))
      (tested_stay (λ (l : LoadedModule). nat_lt above l.policy && nat_le l.policy policy)
      (λ (l : LoadedModule) past.
      and_right (nat_lt above l.policy) (nat_le l.policy policy) (lt-leb l.policy policy past))))

pub start_fills_stay : (old new : JournalState) → IsLater old new → (cells : Cells)
    → start_fills cells (members_of new) ≡ start_fills cells (members_of old)
start_fills_stay old new later cells =
    with_cells_stay old new later 0 (omega arith) cells (start_data old.loaded) (start_data new.loaded)
    (ap (λ (ls : List LoadedModule). fills_of (placed_modules ls)) (loaded_stays old new later 0 (omega arith)))

-- ---- where epochs are spent

module _ (plan : Plan) (modules : List Module) where
  spent_line : (old new : JournalState) (line : JournalLine) → LineLeads plan modules old line new → IsOutOfEpochs old
      → new ≡ old
  spent_line old new line leads spent =
      line_does plan modules old (λ more gone s. s ≡ old) refl
      (λ number epoch policy load. absurd (omega (arith, load.goes.left, spent)))
      (λ number epoch policy retire. absurd (omega (arith, retire.goes.left, spent)))
      (λ epoch goes. absurd (omega (arith, goes.left, spent))) line new leads

  pub spent_stays : (old new : JournalState) (entries : List Entry) → EntriesLead plan modules old entries new
      → IsOutOfEpochs old → new ≡ old
  spent_stays old new [] along spent = along
  spent_stays old new (entry ∷ entries) along spent =
      let same : along.0 ≡ old = spent_line old along.0 entry.what along.1.1 spent in
      spent_stays along.0 new entries along.2 (ap (λ (s : JournalState). s.epoch) same ∙ spent) ∙ same
