-- The entries of a switch of an instrumented module at its place are units of the function of its check.
use Rattle.std.proofs.Common.{◌≡◌, ℕ, ◌+◌, ◌*◌, ◌/◌, ◌<◌, ◌≤◌, ◌&&◌, not, true, false, List, map, length, get_or, Some, ap, sym, subst, ◌∙◌, inl, inr, arith}
use Rattle.std.specs.List.{slice_get}
use Rattle.std.proofs.lemmas.Bool.{cases_Bool, both_ways, and_parts, not_from_false, ltb-true, leb-true}
use Rattle.std.proofs.lemmas.List.{length-map, get_or-map}
use Rattle.std.proofs.lemmas.List.Folds.{Any-from_list_any, list_any_at}
use Rattle.std.proofs.lemmas.Option.{slice_get-get_or, slice_get_within, get_or_from_slice_get}
use Rattle.cfi_aux.specs.declared.modules.Module.{Module}
use Rattle.cfi_aux.specs.declared.placed.Placed.{Placed}
use Rattle.cfi_aux.specs.declared.records.Function.{Function}
use Rattle.cfi_aux.specs.declared.records.Kind.{Kind}
use Rattle.cfi_aux.specs.declared.records.Kind.TheVariants.{Call, Tail, Return, Switch, Import}
use Rattle.cfi_instr.specs.Words.{Words, read_words, count_of}
use Rattle.cfi_instr.specs.Items.{is_inner}
use Rattle.cfi_instr.specs.inner.Items.{is_item_at}
use Rattle.cfi_aux.specs.Extent.{byte_end, LiesIn}
use Rattle.cfi_instr.specs.inner.Functions.{covers, are_together, is_own_item}
use Rattle.cfi_instr.specs.Functions.{byte_end_before}
use Rattle.cfi_instr.specs.Jumps.{ordinal_of}
use Rattle.cfi_instr.specs.inner.Jumps.{lead_out, switches_astray, switches_astray_by}
use Rattle.cfi_instr.specs.Sizes.{offsets_of, moved}
use Rattle.cfi_instr.specs.Moves.{moved_kind}
use Rattle.cfi_verify.specs.Branches.{IsEntry, AreEntries, AreEntriesIn, EntriesFit}
use Rattle.cfi_verify.specs.Functions as verify
use Rattle.elf_read.specs.Lists.{Each}
use Rattle.cfi_instr_law.proofs.BoundLemmas.{item-parts, item-bound, bound-moved}
use Rattle.cfi_instr_law.proofs.FromLemmas.{IsFrom}
use Rattle.cfi_instr_law.proofs.FunctionLemmas.{place, spots, grows, made, made-at, formed, made-first, made-end, begins-at, some-at}
use Rattle.cfi_instr_law.proofs.KindLemmas.{checks, jump-of, kind-at}

module _ (source : Module) (placed : Placed) (s : IsFrom source placed) where
  abbrev t : Words
  t = read_words source.object

  abbrev functions : List Function
  functions = source.records.functions

  abbrev offsets : List ℕ
  offsets = offsets_of t s.long

  -- where a placed function lies
  lies-in : (k : ℕ) (f : Function) → slice_get functions k ≡ Some f → (w : ℕ) → w < count_of t → is_inner t w ≡ false
      → f.offset ≤ 4 * w → 4 * w < byte_end f → LiesIn (made source placed s f) (place source placed s w)
  lies-in k f is w inside outer low high =
      let i = formed source placed s k f is in
      let first = made-first source placed s f (byte_end_before functions k) i in
      let end = made-end source placed s f (byte_end_before functions k) i in (
        omega (arith, first, grows source placed s (f.offset / 4) w (omega (arith, low, i.begins.whole))),
        omega (
          arith,
          end,
          some-at source placed s w inside outer,
          grows source placed s (w + 1) (byte_end f / 4) (omega (arith, high, i.ends.whole)),
        ),
      )

  -- an item in one function with another goes to a unit of the same function
  goes-home : (w entry : ℕ) → w < count_of t → is_inner t w ≡ false → is_own_item t functions (4 * w) entry ≡ true
      → IsEntry placed (spots source placed s) (place source placed s w) (moved t offsets entry)
  goes-home w entry inside outer h =
      let both = and_parts (is_item_at t entry) (are_together functions (4 * w) entry) h in
      let item = item-bound t entry both.0 in
      let to : ℕ = entry / 4 in
      let some = Any-from_list_any (λ (f : Function). covers (4 * w) f && covers entry f) functions both.1 in
      let k : ℕ = some.0 in
      let f : Function = some.1 in
      let is : slice_get functions k ≡ Some f =
      slice_get-get_or functions k f some.2 ∙ ap (λ (g : Function). Some g) some.3 in
      let covered = and_parts (covers (4 * w) f) (covers entry f) some.4 in
      let here = and_parts _ _ covered.0 in
      let there = and_parts _ _ covered.1 in
      let begins = leb-true f.offset (4 * w) here.0 in
      let ends = ltb-true (4 * w) (byte_end f) here.1 in
      let begins_there = leb-true f.offset entry there.0 in
      let ends_there = ltb-true entry (byte_end f) there.1 in
      let home = made source placed s f in
      let at : slice_get placed.functions k ≡ Some home = made-at source placed s k f is in
      let found : get_or placed.functions k home ≡ home = get_or_from_slice_get placed.functions k home home at in (
        place source placed s to,
        bound-moved t s.long entry item.0,
        record {
          home = home;
          has = (k, slice_get_within placed.functions k home at, found);
          from = lies-in k f is w inside outer begins ends;
          lies =
              lies-in k f is to item.1 item.0.outer (omega (arith, begins_there, item.0.whole))
              (omega (arith, ends_there, item.0.whole));
          unit = begins-at source placed s to item.1 item.0.outer;
        },
      )

  -- none of the entries leads out
  own-entry : (w : ℕ) (entries : List ℕ) → lead_out t functions (4 * w) entries ≡ false → (k d : ℕ)
      → k < length entries → is_own_item t functions (4 * w) (get_or entries k d) ≡ true
  own-entry w entries h k d inside = elim (cases_Bool (is_own_item t functions (4 * w) (get_or entries k d))) [
    | inl own ↦ own
    | inr stray ↦
        let found =
        list_any_at (λ (entry : ℕ). not (is_own_item t functions (4 * w) entry)) entries k d inside
        (not_from_false _ stray) in
        absurd (both_ways _ h found)
  ]

  entries-of : (w : ℕ) (kind : Kind) → w < count_of t → is_inner t w ≡ false
      → switches_astray t functions (4 * w) kind ≡ false
      → AreEntries placed (spots source placed s) (place source placed s w) (moved_kind t offsets kind)
  entries-of w (Call node) inside outer h = tt
  entries-of w (Tail node) inside outer h = tt
  entries-of w Return inside outer h = tt
  entries-of w (Import name cell) inside outer h = tt
  entries-of w (Switch entries) inside outer h = λ k d within.
      let moves = moved t offsets in
      let less : k < length entries = subst (λ (n : ℕ). k < n) (length-map entries moves) within in
      let is : get_or (map moves entries) k d ≡ moves (get_or entries k d) = get_or-map moves entries k d d less in
      subst (IsEntry placed (spots source placed s) (place source placed s w)) (sym is)
      (goes-home w (get_or entries k d) inside outer (own-entry w entries h k d less))

  pub switches : Each (checks source placed s) (EntriesFit placed (spots source placed s))
  switches k check at =
      let j = jump-of source placed s k check at in
      let found = kind-at source placed s k check at in
      let w : ℕ = j.word in
      let outer = (item-parts t w (and_parts _ _ j.indirect).0).1 in
      let all = s.sound.switches w j.inside in
      let number : slice_get source.records.branches (ordinal_of t w) ≡ Some found.0 =
      ap (slice_get source.records.branches) (sym j.number) ∙ found.1 in
      let fits : switches_astray t functions (4 * w) found.0 ≡ false =
      let one : switches_astray_by t functions (4 * w) (slice_get source.records.branches (ordinal_of t w)) ≡ false =
      rw j.indirect at all in
      ap (switches_astray_by t functions (4 * w)) (sym number) ∙ one in
      let here = entries-of w found.0 j.inside outer fits in
      subst (AreEntriesIn placed (spots source placed s) check.at) (sym found.2)
      (subst (λ (n : ℕ). AreEntries placed (spots source placed s) n (moved_kind t offsets found.0)) (sym j.at) here)
