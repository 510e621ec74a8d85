-- What stays true of a shelf and a sink as calls go on.
use Rattle.std.proofs.Common.{◌≡◌, ℕ, ◌≤◌, List, [], Option, Some, None, inl, inr, arith, refl, sym, subst, ◌∙◌, append-nil}
use Rattle.std.specs.Prelude.{◌≢◌}
use Rattle.std.specs.Io.KnownBytes.{Appends}
use Rattle.cfi_io.specs.Count.{Rose}
use Rattle.cfi_io.specs.Files.{Files, Puts, PutsPart}
use Rattle.cfi_io.specs.Told.{WhereKeptTold}
use Rattle.cfi_request.specs.declared.output.Output.{Output}
use Rattle.cfi_request.specs.declared.output.Output.TheVariants as outputs
use Rattle.cfi_request.specs.Outside.{IsLater, IsWrittenWhole, IsBroken, IsDelivered}
use Rattle.cfi_io.specs.Seen.{ShelfView, SinkView}

-- a count that rose has risen later too, and over a longer time
pub rose_later : (old mid new : ℕ) → old ≤ mid → mid ≤ new → Rose old mid → Rose old new
rose_later old mid new a b (inl up) = inl (omega (arith, up, b))
rose_later old mid new a b (inr full) = grind arith

pub rose_earlier : (old mid new : ℕ) → old ≤ mid → Rose mid new → Rose old new
rose_earlier old mid new a (inl up) = inl (omega (arith, up, a))
rose_earlier old mid new a (inr full) = inr full

-- what was delivered over the later shelf was delivered over the earlier one
whole_since : (output : Output) (shelf mid shelf' : ShelfView) (sink sink' : SinkView) → IsLater shelf mid
    → IsWrittenWhole output mid shelf' sink sink' → IsWrittenWhole output shelf shelf' sink sink'
whole_since (outputs.Print status text) shelf mid shelf' sink sink' later is = (is.0 ∙ later.files, is.1, is.2)
whole_since (outputs.Save name bytes) shelf mid shelf' sink sink' later is =
    (is.0, subst (λ (files : Option Files). WhereKeptTold files shelf'.files (Puts name bytes)) later.files is.1)

broken_since : (output : Output) (shelf mid shelf' : ShelfView) (sink sink' : SinkView) → IsLater shelf mid
    → IsBroken output mid shelf' sink sink' → IsBroken output shelf shelf' sink sink'
broken_since (outputs.Print status text) shelf mid shelf' sink sink' later is =
    (is.0 ∙ later.files, is.1, is.2, is.3)
broken_since (outputs.Save name bytes) shelf mid shelf' sink sink' later is = (
  is.0,
  record { rose = rose_earlier _ _ _ later.faults is.1.rose; last = is.1.last },
  subst (λ (files : Option Files). WhereKeptTold files shelf'.files (PutsPart name bytes)) later.files is.2,
)

pub delivered_since : (output : Output) (shelf mid shelf' : ShelfView) (sink sink' : SinkView) (status : ℕ)
    → IsLater shelf mid → IsDelivered output mid shelf' sink sink' status
    → IsDelivered output shelf shelf' sink sink' status
delivered_since output shelf mid shelf' sink sink' status later (inl is) =
    inl (is.0, whole_since output shelf mid shelf' sink sink' later is.1)
delivered_since output shelf mid shelf' sink sink' status later (inr is) =
    inr (is.0, broken_since output shelf mid shelf' sink sink' later is.1)

-- an empty text is printed by no call
appends_nothing : (before : Option (List ℕ)) (bytes : List ℕ) → bytes ≡ [] → Appends before before bytes
appends_nothing None bytes none = tt
appends_nothing (Some known) bytes none = rw none (sym (append-nil known))

pub nothing_printed : (status : ℕ) (text : List ℕ) (shelf : ShelfView) (sink : SinkView) → text ≡ []
    → IsWrittenWhole (outputs.Print status text) shelf shelf sink sink
nothing_printed status text shelf sink none = (refl, appends_nothing sink.written text none, λ same. refl)

-- files that are the same agree at each name
pub kept_same : (files files' : Option Files) (Q : List ℕ → Type 0) → files' ≡ files
    → WhereKeptTold files files' (λ told told'. (name : List ℕ) → Q name → told' name ≡ told name)
kept_same None files' Q same = tt
kept_same (Some told) files' Q same =
    subst (λ (f : Option Files). WhereKeptTold (Some told) f
    (λ told told'. (name : List ℕ) → Q name → told' name ≡ told name))
    (sym same) (λ name q. refl)

-- names other than that of a file that was saved stay
pub kept_puts : (files files' : Option Files) (Q : List ℕ → Type 0) (here bytes : List ℕ)
    → ((name : List ℕ) → Q name → name ≢ here) → WhereKeptTold files files' (Puts here bytes)
    → WhereKeptTold files files' (λ told told'. (name : List ℕ) → Q name → told' name ≡ told name)
kept_puts None files' Q here bytes other puts = tt
kept_puts (Some told) None Q here bytes other puts = puts
kept_puts (Some told) (Some told') Q here bytes other puts = λ name q. puts.elsewhere name (other name q)

pub kept_part : (files files' : Option Files) (Q : List ℕ → Type 0) (here bytes : List ℕ)
    → ((name : List ℕ) → Q name → name ≢ here) → WhereKeptTold files files' (PutsPart here bytes)
    → WhereKeptTold files files' (λ told told'. (name : List ℕ) → Q name → told' name ≡ told name)
kept_part None files' Q here bytes other puts = tt
kept_part (Some told) None Q here bytes other puts = puts
kept_part (Some told) (Some told') Q here bytes other puts = λ name q. puts.elsewhere name (other name q)
