-- Links that are touched where tags of nodes are new, and ways with further links.
use Rattle.std.proofs.Common.{◌≡◌, ◌∙◌, ◌↔◌, ◌⊎◌, ℕ, ◌<◌, ◌≤◌, Option, Some, None, List, [], ◌∷◌, ◌++◌, length, map, get_or, sym, ap, subst, inl, inr, arith}
use Rattle.std.specs.List.{Contains}
use Rattle.std.proofs.lemmas.List.{map-append}
use Rattle.std.proofs.lemmas.List.Elements.{All-contains, Contains-get_or, Contains-append_left, Contains-append_right, Contains-append_cases, Contains-push_cases}
use Rattle.cfi_word.specs.declared.lists.Edge.{Edge}
use Rattle.cfi_word.specs.Edge.{edge_of}
use Rattle.cfi_flow.specs.declared.links.Link.{Link}
use Rattle.cfi_flow.specs.Flow.{Links, flipped, AreBelow, BeginBelow}
use Rattle.cfi_flow.specs.Fans.{IsListed}
use Rattle.cfi_flow.specs.inner.Spread.{tag_of}
use Rattle.cfi_flow.specs.inner.Tagged.{AreTagged, AreSpreadOn}
use Rattle.cfi_flow.specs.inner.Ways.{tied, ComesBack}
use Rattle.cfi_flow.specs.inner.KeptWays.{Side, IsSide, IsLongerSide, AreTouched, Ways, edges_of, AreKeptWays, AreAmong, AreTouchedArrows, AddsTouched, AddsLongerWays}
use Rattle.cfi_flow.proofs.Members.{no_member, member_map, from_map}
use Rattle.cfi_flow.proofs.RowLemmas.{make_link}
use Rattle.cfi_flow.proofs.KeptWayLemmas.{IsTouched, ends_by_tags, tied_more, tied_cases}
use Rattle.cfi_flow.proofs.SpreadLemmas.{none_some}
use Rattle.cfi_flow.proofs.WayLemmas.{ways_sound}

-- ---- no links

pub no_side : (side : Side) → side.arrows ≡ [] → side.seeds ≡ [] → side.tags ≡ [] → IsSide side
no_side side arrows seeds tags =
    let none : (tag : ℕ) → None ≡ Some tag → ⊥ = λ tag h. none_some tag h in
    record {
      tagged = record {
        sound = λ node tag h. absurd (none tag (subst (λ ts. tag_of ts node ≡ Some tag) tags h));
        begun = λ node tag h. absurd (no_member (make_link node tag) (subst (λ ls. Links ls node tag) seeds h));
        closed = λ from to h has. absurd (no_member (make_link from to) (subst (λ ls. Links ls from to) arrows h));
      };
      arrows = λ k d lt. let empty = ap length arrows in absurd (omega (arith, lt, empty));
      seeds = λ k d lt. let empty = ap length seeds in absurd (omega (arith, lt, empty));
    }

-- ---- a side with further arrows and seeds

tagged_alike : (arrows seeds : List Link) (tags others : List (Option ℕ))
    → ((node : ℕ) → tag_of others node ≡ tag_of tags node) → AreTagged arrows seeds tags
    → AreTagged arrows seeds others
tagged_alike arrows seeds tags others same tagged = record {
  sound = λ node tag h. tagged.sound node tag (sym (same node) ∙ h);
  begun = λ node tag h. let has = tagged.begun node tag h in (has.0, same node ∙ has.1);
  closed = λ from to h has.
      let on = tagged.closed from to h (has.0, sym (same from) ∙ has.1) in (on.0, same to ∙ on.1);
}

pub below_longer : (least count : ℕ) (before more all : List Link) → all ≡ before ++ more → least ≤ count
    → AreBelow least before → AreBelow count more → AreBelow count all
below_longer least count before more all is le old new = λ k d lt.
    let link = get_or all k d in
    elim (Contains-append_cases before more link (subst (λ ls. Contains ls link) is (Contains-get_or all k d lt))) [
      | inl a ↦
          let both = All-contains (λ l. (l.from < least) × (l.to < least)) before link old a in
          let from = both.0 in
          let to = both.1 in
          (omega (arith, from, le), omega (arith, to, le))
      | inr b ↦ All-contains (λ l. (l.from < count) × (l.to < count)) more link new b
    ]

begin_longer : (least count : ℕ) (before more all : List Link) → all ≡ before ++ more → least ≤ count
    → BeginBelow least before → BeginBelow count more → BeginBelow count all
begin_longer least count before more all is le old new = λ k d lt.
    let link = get_or all k d in
    elim (Contains-append_cases before more link (subst (λ ls. Contains ls link) is (Contains-get_or all k d lt))) [
      | inl a ↦ let from = All-contains (λ l. l.from < least) before link old a in omega (arith, from, le)
      | inr b ↦ All-contains (λ l. l.from < count) more link new b
    ]

pub longer_side : (old new : Side) (nodes : ℕ) (arrows seeds : List Link) (tags : List (Option ℕ)) (changes : List Link)
    → IsSide old → length old.tags ≤ nodes → AreBelow nodes arrows → BeginBelow nodes seeds
    → new.arrows ≡ old.arrows ++ arrows → new.seeds ≡ old.seeds ++ seeds → length new.tags ≡ nodes
    → ((node : ℕ) → tag_of tags node ≡ tag_of old.tags node)
    → ((before sown : List Link) → new.arrows ≡ before ++ arrows → AreTagged before sown tags
    → AreSpreadOn new.arrows (sown ++ seeds) tags new.tags changes) → IsLongerSide old nodes arrows seeds new changes
longer_side old new nodes arrows seeds tags changes side room arrows_below seeds_below arrows_are seeds_are len same spread =
    let on = spread old.arrows old.seeds arrows_are
    (tagged_alike old.arrows old.seeds old.tags tags same side.tagged) in
    record {
      side = record {
        tagged = subst (λ ls. AreTagged new.arrows ls new.tags) (sym seeds_are) on.tagged;
        arrows = subst (λ n. AreBelow n new.arrows) (sym len)
            (below_longer (length old.tags) nodes old.arrows arrows new.arrows arrows_are room side.arrows arrows_below);
        seeds = subst (λ n. BeginBelow n new.seeds) (sym len)
            (begin_longer (length old.tags) nodes old.seeds seeds new.seeds seeds_are room side.seeds seeds_below);
      };
      arrows_are = arrows_are;
      seeds_are = seeds_are;
      nodes_are = len;
      fresh = λ node tag h. elim (on.fresh node tag h) [ inl a ↦ inl (sym (same node) ∙ a) | inr b ↦ inr b ];
    }

-- ---- touched links

pub none_touched : (all further : List Link) → AreTouched all further [] further
none_touched all further = record {
  sound = λ link h. inl h;
  fresh = λ link h. h;
  changed = λ link tag h c. absurd (no_member (make_link link.from tag) c);
}

pub touched_more : (all further changes list new : List Link) (change : Link)
    → AreTouched all further changes list
    → ((link : Link) → Contains new link ↔ (Contains list link ⊎ (Contains all link × (link.from ≡ change.from))))
    → AreTouched all further (changes ++ change ∷ []) new
touched_more all further changes list new change are both = record {
  sound = λ link h. elim ((both link).0 h) [ inl a ↦ are.sound link a | inr b ↦ inr b.0 ];
  fresh = λ link h. (both link).1 (inl (are.fresh link h));
  changed = λ link tag h c. elim (Contains-push_cases changes change (make_link link.from tag) c) [
    | inl a ↦ (both link).1 (inl (are.changed link tag h a))
    | inr e ↦ (both link).1 (inr (h, ap (λ l. l.from) (sym e)))
  ];
}

pub unflipped : (forth back : List Link) (link : Link) → back ≡ map flipped forth → Contains back (flipped link)
    → Contains forth link
unflipped forth back link is h =
    let m = from_map flipped forth (flipped link) (subst (λ ls. Contains ls (flipped link)) is h) in
    subst (λ l. Contains forth l) (ap flipped m.2) m.1

pub flipped_in : (forth back : List Link) (link : Link) → back ≡ map flipped forth → Contains forth link
    → Contains back (flipped link)
flipped_in forth back link is h =
    subst (λ ls. Contains ls (flipped link)) (sym is) (member_map flipped forth link h)

pub both_touched : (forth back arrows changes begins ends turned list : List Link)
    → AreTouched forth arrows changes begins → AreTouched back [] changes ends → turned ≡ map flipped ends
    → list ≡ begins ++ turned → AreTouchedArrows forth back arrows changes list
both_touched forth back arrows changes begins ends turned list by_begin by_end is all =
    let first : (link : Link) → Contains begins link → Contains list link = λ link h.
    subst (λ ls. Contains ls link) (sym all) (Contains-append_left begins turned link h) in
    let second : (link : Link) → Contains turned link → Contains list link = λ link h.
    subst (λ ls. Contains ls link) (sym all) (Contains-append_right begins turned link h) in
    record {
      sound = λ link h.
          elim (Contains-append_cases begins turned link (subst (λ ls. Contains ls link) all h)) [
            | inl a ↦ elim (by_begin.sound link a) [ inl b ↦ inl b | inr b ↦ inr (inl b) ]
            | inr a ↦
                let m = from_map flipped ends link (subst (λ ls. Contains ls link) is a) in
                elim (by_end.sound m.0 m.1) [
                  | inl none ↦ absurd (no_member m.0 none)
                  | inr b ↦ inr (inr (subst (λ l. Contains back l) (ap flipped m.2) b))
                ]
          ];
      fresh = λ link h. first link (by_begin.fresh link h);
      begins = λ link tag h c. first link (by_begin.changed link tag h c);
      ends = λ link tag h c.
          second link (subst (λ ls. Contains ls link) (sym is) (member_map flipped ends (flipped link)
          (by_end.changed (flipped link) tag h c)));
    }

pub touched_begin : (count : ℕ) (all further changes touched : List Link) → AreTouched all further changes touched
    → AreAmong all further → BeginBelow count all → BeginBelow count touched
touched_begin count all further changes touched are among below = λ k d lt.
    let link = get_or touched k d in
    let h : Contains all link = elim (are.sound link (Contains-get_or touched k d lt)) [
      | inl a ↦ among link a
      | inr b ↦ b
    ] in
    All-contains (λ l. l.from < count) all link below h

arrow_among : (forth back arrows changes touched : List Link) → AreTouchedArrows forth back arrows changes touched
    → AreAmong forth arrows → back ≡ map flipped forth → AreAmong forth touched
arrow_among forth back arrows changes touched are among is link h =
    elim (are.sound link h) [
      | inl a ↦ among link a
      | inr a ↦ elim a [ inl b ↦ b | inr b ↦ unflipped forth back link is b ]
    ]

among_touched : (all further changes touched : List Link) → AreTouched all further changes touched
    → AreAmong all further → AreAmong all touched
among_touched all further changes touched are among link h =
    elim (are.sound link h) [ inl a ↦ among link a | inr b ↦ b ]

pub arrows_below : (count : ℕ) (forth back arrows changes touched : List Link)
    → AreTouchedArrows forth back arrows changes touched → AreAmong forth arrows → back ≡ map flipped forth
    → AreBelow count forth → AreBelow count touched
arrows_below count forth back arrows changes touched are among is below = λ k d lt.
    let link = get_or touched k d in
    All-contains (λ l. (l.from < count) × (l.to < count)) forth link below
    (arrow_among forth back arrows changes touched are among is link (Contains-get_or touched k d lt))

-- ---- ways with further links

pub behind_among : (before more all : List Link) → all ≡ before ++ more → AreAmong all more
behind_among before more all is link h =
    subst (λ ls. Contains ls link) (sym is) (Contains-append_right before more link h)

pub kept_longer : (old new : Ways) (nodes : ℕ) (arrows sites returns turned forth_changes back_changes : List Link)
    → AreKeptWays old → IsLongerSide old.forth nodes arrows sites new.forth forth_changes
    → IsLongerSide old.back nodes turned returns new.back back_changes → turned ≡ map flipped arrows → AreKeptWays new
kept_longer old new nodes arrows sites returns turned forth_changes back_changes kept forth back is = record {
  forth = forth.side;
  back = back.side;
  flipped =
      back.arrows_are
      ∙ ap (λ ls. ls ++ turned) kept.flipped
      ∙ ap (λ ls. map flipped old.forth.arrows ++ ls) is
      ∙ sym (map-append flipped old.forth.arrows arrows)
      ∙ ap (λ ls. map flipped ls) (sym forth.arrows_are);
  same = back.nodes_are ∙ sym forth.nodes_are;
}

module _ (old new : Ways) (nodes : ℕ) (arrows sites returns turned forth_changes back_changes changes : List Link)
    (before after : List Edge) (kept : AreKeptWays old) (kept_new : AreKeptWays new)
    (forth : IsLongerSide old.forth nodes arrows sites new.forth forth_changes)
    (back : IsLongerSide old.back nodes turned returns new.back back_changes)
    (all : changes ≡ forth_changes ++ back_changes)
    (adds : AddsTouched new arrows sites returns changes before after) where
  in_forth : (link : Link) → Contains forth_changes link → Contains changes link
  in_forth link h = subst (λ ls. Contains ls link) (sym all) (Contains-append_left forth_changes back_changes link h)

  in_back : (link : Link) → Contains back_changes link → Contains changes link
  in_back link h = subst (λ ls. Contains ls link) (sym all) (Contains-append_right forth_changes back_changes link h)

  touched_now : IsTouched old.forth.arrows old.forth.seeds old.back.seeds arrows sites returns changes
      adds.some_arrows adds.some_sites adds.some_returns
  touched_now = record {
    arrows_fresh = adds.by_arrows.fresh;
    sites_fresh = adds.by_sites.fresh;
    returns_fresh = adds.by_returns.fresh;
    arrows_begin = λ link tag h c.
        adds.by_arrows.begins link tag (subst (λ ls. Contains ls link) (sym forth.arrows_are) h) c;
    arrows_end = λ link tag h c.
        adds.by_arrows.ends link tag (flipped_in new.forth.arrows new.back.arrows link kept_new.flipped
        (subst (λ ls. Contains ls link) (sym forth.arrows_are) h)) c;
    sites_begin = λ link tag h c.
        adds.by_sites.changed link tag (subst (λ ls. Contains ls link) (sym forth.seeds_are) h) c;
    returns_begin = λ link tag h c.
        adds.by_returns.changed link tag (subst (λ ls. Contains ls link) (sym back.seeds_are) h) c;
  }

  fresh_places : (k t : ℕ) → tag_of new.forth.tags k ≡ Some t → (tag_of old.forth.tags k ≡ Some t) ⊎ Links changes k t
  fresh_places k t h = elim (forth.fresh k t h) [ inl a ↦ inl a | inr b ↦ inr (in_forth (make_link k t) b) ]

  fresh_slots : (k s : ℕ) → tag_of new.back.tags k ≡ Some s → (tag_of old.back.tags k ≡ Some s) ⊎ Links changes k s
  fresh_slots k s h = elim (back.fresh k s h) [ inl a ↦ inl a | inr b ↦ inr (in_back (make_link k s) b) ]

  abbrev added : List Edge
  added = tied adds.some_arrows adds.some_sites adds.some_returns new.forth.tags new.back.tags

  added_sound : (s t : ℕ) → IsListed added s t → ComesBack new.forth.arrows new.forth.seeds new.back.seeds s t
  added_sound s t h =
      let go = subst (λ ls. AreTagged ls new.back.seeds new.back.tags) kept_new.flipped kept_new.back.tagged in
      ways_sound new.forth.arrows new.forth.seeds new.back.seeds new.forth.tags new.back.tags
      (ends_by_tags new.forth.arrows new.forth.seeds new.back.seeds new.forth.tags new.back.tags kept_new.forth.tagged go)
      s t
      (tied_more adds.some_arrows adds.some_sites adds.some_returns new.forth.arrows new.forth.seeds new.back.seeds
      new.forth.tags new.back.tags
      (arrow_among new.forth.arrows new.back.arrows arrows changes adds.some_arrows adds.by_arrows
      (behind_among old.forth.arrows arrows new.forth.arrows forth.arrows_are) kept_new.flipped)
      (among_touched new.forth.seeds sites changes adds.some_sites adds.by_sites
      (behind_among old.forth.seeds sites new.forth.seeds forth.seeds_are))
      (among_touched new.back.seeds returns changes adds.some_returns adds.by_returns
      (behind_among old.back.seeds returns new.back.seeds back.seeds_are))
      (edge_of s t) h)

  added_whole : (s t : ℕ) → IsListed (edges_of new) s t → IsListed (edges_of old) s t ⊎ IsListed added s t
  added_whole s t h =
      tied_cases old.forth.arrows old.forth.seeds old.back.seeds arrows sites returns changes adds.some_arrows
      adds.some_sites adds.some_returns touched_now old.forth.tags new.forth.tags old.back.tags new.back.tags fresh_places
      fresh_slots s t
      (subst (λ ls. IsListed (tied ls (old.forth.seeds ++ sites) (old.back.seeds ++ returns) new.forth.tags new.back.tags) s t)
      forth.arrows_are
      (subst (λ ls. IsListed (tied new.forth.arrows ls (old.back.seeds ++ returns) new.forth.tags new.back.tags) s t)
      forth.seeds_are
      (subst (λ ls. IsListed (tied new.forth.arrows new.forth.seeds ls new.forth.tags new.back.tags) s t)
      back.seeds_are h)))

  pub longer_ways : AddsLongerWays old arrows sites returns new before after
  longer_ways = record {
    added = added;
    is = adds.is;
    longer = record {
      arrows_are = forth.arrows_are;
      sites_are = forth.seeds_are;
      returns_are = back.seeds_are;
      sound = added_sound;
      whole = added_whole;
    };
  }
