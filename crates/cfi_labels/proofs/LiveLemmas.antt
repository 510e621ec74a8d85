-- The live modules of a roster, by flags.
use Rattle.std.proofs.Common.{◌≡◌, ◌∙◌, ℕ, Bool, List, [], ◌∷◌, length, map, sym, ap, refl, arith}
use Rattle.cfi_aux.specs.declared.placed.Placed.{Placed}
use Rattle.cfi_graph.specs.Live.{live_of}
use Rattle.cfi_ledger.specs.Roster.{Roster, loaded_of, members_in_roster}
use Rattle.cfi_plan.specs.declared.journal.ModuleLine.{ModuleLine}
use Rattle.cfi_valid.proofs.LiveLemmas.{live_placed}
use Rattle.cfi_valid.specs.Loaded.{is_live, live_at, live_flags, placed_modules}
use Rattle.cfi_valid.specs.declared.retirement.Retirement.{Retirement}
use Rattle.cfi_labels.proofs.LoadedLemmas.{places_all}
use Rattle.cfi_labels.specs.Live.{is_live_line}

-- the flags of modules are those of their lines
lines_live : (policy : ℕ) (retired : List Retirement) (lines : List ModuleLine) (placed : List Placed)
    → length lines ≡ length placed
    → map (is_live_line policy retired) lines ≡ map (is_live policy retired) (loaded_of lines placed)
lines_live policy retired [] placed many = refl
lines_live policy retired (line ∷ lines) [] many = absurd (omega (arith, many))
lines_live policy retired (line ∷ lines) (one ∷ placed) many =
    ap (λ (flags : List Bool). is_live_line policy retired line ∷ flags)
    (lines_live policy retired lines placed (omega (arith, many)))

module _ (r : Roster) (lined : length r.lines ≡ length r.placed) (policy : ℕ) where
  pub flags_of_lines : map (is_live_line policy r.retired) r.lines ≡ live_flags policy (members_in_roster r)
  flags_of_lines = lines_live policy r.retired r.lines r.placed lined

  -- those with these flags are the live ones
  pub places_live : placed_modules (live_at policy (members_in_roster r))
      ≡ live_of r.placed (live_flags policy (members_in_roster r))
  places_live =
      live_placed policy (members_in_roster r)
      ∙ ap (λ (ps : List Placed). live_of ps (live_flags policy (members_in_roster r))) (places_all r lined)

  -- so are those of its modules with them
  pub listed_live : (ms : List Placed) → ms ≡ r.placed → (flags : List Bool)
      → flags ≡ live_flags policy (members_in_roster r)
      → live_of ms flags ≡ placed_modules (live_at policy (members_in_roster r))
  listed_live ms ms_are flags flags_are =
      ap (λ (ps : List Placed). live_of ps flags) ms_are ∙ ap (live_of r.placed) flags_are ∙ sym places_live
