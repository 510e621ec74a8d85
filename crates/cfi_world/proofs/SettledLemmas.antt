-- The epoch that each Bary word of the tables has at least.
use Rattle.std.proofs.Common.{◌≡◌, ℕ, ◌+◌, ◌-◌, ◌<◌, ◌≤◌, cond, ap, subst, arith, ◌⊎◌, inl, inr}
use Rattle.std.proofs.lemmas.Bool.{cases_lt, lt-ltb, le-ltb}
use Rattle.cfi_word.specs.Rank.{stores_of}
use Rattle.cfi_word.specs.declared.limits.TheConstants.{MAX_EPOCH}
use Rattle.cfi_word.specs.Table.{Place, Epoch, Bary, slots_of}
use Rattle.cfi_word.specs.Word.{epoch_in}
use Rattle.cfi_model.specs.Tables.{IsTables}
use Rattle.cfi_model.specs.Words.{Tables, before, epoch_in_force, newest, next_epoch, number_at, rank_at, word_at}
use Rattle.cfi_model.proofs.InForceLemmas.{bary_epoch_is}
use Rattle.cfi_model.proofs.TableLemmas.{force_epoch}
use Rattle.cfi_world.specs.Worlds.{settled_epoch}

-- a word is of the newest entry, or of the one before
pub number_cases : (t : Tables) (place : Place)
    → ((rank_at t.code_words place < t.stored) × (number_at t place ≡ newest t))
    ⊎ ((t.stored ≤ rank_at t.code_words place) × (number_at t place ≡ before t))
number_cases t place = elim (cases_lt (rank_at t.code_words place) t.stored) [
  | inl new ↦ inl (new, ap (λ b. cond b (newest t) (before t)) (lt-ltb _ _ new))
  | inr old ↦ inr (old, ap (λ b. cond b (newest t) (before t)) (le-ltb _ _ old))
]

-- it is that of the newest entry once all stores are made, else of the one before
pub settled_cases : (t : Tables)
    → ((t.stored < stores_of t.code_words) × (settled_epoch t ≡ next_epoch t - 2))
    ⊎ ((stores_of t.code_words ≤ t.stored) × (settled_epoch t ≡ next_epoch t - 1))
settled_cases t = elim (cases_lt t.stored (stores_of t.code_words)) [
  | inl less ↦ inl (less, ap (λ b. cond b (next_epoch t - 2) (next_epoch t - 1)) (lt-ltb _ _ less))
  | inr all ↦ inr (all, ap (λ b. cond b (next_epoch t - 2) (next_epoch t - 1)) (le-ltb _ _ all))
]

module _ (t : Tables) (is : IsTables t) where
  pub settled_low : (slot : ℕ) → slot < slots_of t.code_words → settled_epoch t ≤ epoch_in (word_at t (Bary slot))
  settled_low slot inside =
      let epoch = bary_epoch_is t is slot in
      elim (settled_cases t) [
        | inl some ↦ elim (number_cases t (Bary slot)) [
          | inl new ↦ omega (arith, epoch, some.1, new.1, is.some)
          | inr old ↦ omega (arith, epoch, some.1, old.1, is.some)
        ]
        | inr all ↦ elim (number_cases t (Bary slot)) [
          | inl new ↦ omega (arith, epoch, all.1, new.1, is.some)
          | inr old ↦ absurd (omega (arith, old.0, all.0, inside))
        ]
      ]

  -- and at most one below the one in force
  pub settled_near : epoch_in_force t ≤ settled_epoch t + 1
  settled_near =
      let epoch = force_epoch t is in
      elim (settled_cases t) [
        | inl some ↦
            let two = is.under_way some.0 in
            elim (number_cases t Epoch) [
              | inl new ↦ omega (arith, epoch, some.1, new.1, two)
              | inr old ↦ omega (arith, epoch, some.1, old.1, two)
            ]
        | inr all ↦ elim (number_cases t Epoch) [
          | inl new ↦ omega (arith, epoch, all.1, new.1, is.some)
          | inr old ↦ omega (arith, epoch, all.1, old.1, is.some)
        ]
      ]

  -- which is within the limits
  pub force_low : epoch_in_force t ≤ MAX_EPOCH
  force_low =
      let epoch = force_epoch t is in
      elim (number_cases t Epoch) [
        | inl new ↦ omega (arith, epoch, new.1, is.some, is.epochs_fit)
        | inr old ↦ omega (arith, epoch, old.1, is.some, is.epochs_fit)
      ]

  -- no update comes too far above it
  pub settled_reach : next_epoch t ≤ settled_epoch t + t.versions
  settled_reach = elim (settled_cases t) [
    | inl some ↦ omega (arith, some.1, is.versions_least)
    | inr all ↦ omega (arith, all.1, is.versions_least)
  ]

  -- nor the next one, while no store is under way
  pub settled_next : stores_of t.code_words ≤ t.stored → next_epoch t + 1 ≤ settled_epoch t + t.versions
  settled_next idle = elim (settled_cases t) [
    | inl some ↦ absurd (omega (arith, some.0, idle))
    | inr all ↦ omega (arith, all.1, is.versions_least, is.some)
  ]

-- later tables have no lower one
pub settled_rises : (t u : Tables) → u.code_words ≡ t.code_words
    → (u.stored < stores_of t.code_words → next_epoch t < next_epoch u ⊎ (t.stored ≤ u.stored))
    → next_epoch t ≤ next_epoch u → settled_epoch t ≤ settled_epoch u
settled_rises t u same new more = elim (settled_cases t) [
  | inl some ↦ elim (settled_cases u) [
    | inl few ↦ omega (arith, some.1, few.1, more)
    | inr all ↦ omega (arith, some.1, all.1, more)
  ]
  | inr whole ↦ elim (settled_cases u) [
    | inl few ↦
        let less : u.stored < stores_of t.code_words = subst (λ c. u.stored < stores_of c) same few.0 in
        elim (new less) [
          | inl one ↦ omega (arith, whole.1, few.1, one)
          | inr later_store ↦ absurd (omega (arith, whole.0, less, later_store))
        ]
    | inr all ↦ omega (arith, whole.1, all.1, more)
  ]
]
