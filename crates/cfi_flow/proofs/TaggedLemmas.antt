-- Tags that stand while arrows and seeds are added: steps of the search, and what it ends with.
use Rattle.std.proofs.Common.{◌≡◌, ◌∙◌, ◌↔◌, ℕ, zero, suc, ◌+◌, ◌<◌, ◌≤◌, ◌⊎◌, Option, Some, None, List, [], ◌++◌, length, map, get_or, refl, sym, ap, subst, inl, inr, arith}
use Rattle.std.specs.Prelude.{All}
use Rattle.std.specs.List.{Contains, flat_map}
use Rattle.std.proofs.lemmas.Bool.{cases_eq}
use Rattle.std.proofs.lemmas.List.{get_or_default}
use Rattle.std.proofs.lemmas.List.Elements.{All-contains, Contains-get_or, Contains-append_left, Contains-append_right, Contains-append_cases}
use Rattle.cfi_flow.specs.declared.links.Link.{Link}
use Rattle.cfi_flow.specs.Flow.{Links, IsPath, AreBelow, BeginBelow}
use Rattle.cfi_flow.specs.inner.Spread.{tag_of, HasTag, untagged, IsTagged, AreBegun}
use Rattle.cfi_flow.specs.inner.Tagged.{Comes, AreTagged, carried_on, carried_by, AreSpreadOn}
use Rattle.cfi_flow.proofs.Members.{no_member, member_first, member_of_one, member_map, from_map, member_flat, from_flat}
use Rattle.cfi_flow.proofs.RowLemmas.{make_link, link_is}
use Rattle.cfi_flow.proofs.PathLemmas.{reaches_then, one_arrow}
use Rattle.cfi_flow.proofs.SpreadLemmas.{no_link, still, link_at, tag_within}

-- ---- more arrows and seeds

pub more_path : (arrows more : List Link) → ((a b : ℕ) → Links arrows a b → Links more a b) → (steps a b : ℕ)
    → IsPath arrows steps a b → IsPath more steps a b
more_path arrows more up zero a b w = w
more_path arrows more up (suc steps) a b w = (w.0, up a w.0 w.1, more_path arrows more up steps w.0 b w.2)

pub comes_more : (arrows more seeds sown : List Link) → ((a b : ℕ) → Links arrows a b → Links more a b)
    → ((a b : ℕ) → Links seeds a b → Links sown a b) → (node tag : ℕ) → Comes arrows seeds node tag
    → Comes more sown node tag
comes_more arrows more seeds sown up over node tag c = record {
  origin = c.origin;
  seed = over c.origin tag c.seed;
  reached = (c.reached.0, more_path arrows more up c.reached.0 c.origin node c.reached.1);
}

-- each node to which something comes has a tag
tag_along : (arrows seeds : List Link) (tags : List (Option ℕ)) → AreTagged arrows seeds tags → (steps a b : ℕ)
    → IsPath arrows steps a b → HasTag tags a → HasTag tags b
tag_along arrows seeds tags t zero a b e h = subst (λ n. HasTag tags n) e h
tag_along arrows seeds tags t (suc steps) a b w h =
    tag_along arrows seeds tags t steps w.0 b w.2 (t.closed a w.0 w.1 h)

pub tagged_whole : (arrows seeds : List Link) (tags : List (Option ℕ)) → AreTagged arrows seeds tags
    → (node tag : ℕ) → Comes arrows seeds node tag → HasTag tags node
tagged_whole arrows seeds tags t node tag c =
    tag_along arrows seeds tags t c.reached.0 c.origin node c.reached.1 (t.begun c.origin tag c.seed)

-- ---- what arrows carry on

is_carried : (o : Option ℕ) (to : ℕ) (link : Link) → Contains (carried_on o to) link
    → (o ≡ Some link.to) × (link.from ≡ to)
is_carried None to link h = absurd (no_member link h)
is_carried (Some tag) to link h =
    let e = member_of_one (make_link to tag) link h in (ap (λ l. Some l.to) e, ap (λ l. l.from) (sym e))

from_carried : (tags : List (Option ℕ)) (arrows : List Link) (k t : ℕ) → Links (flat_map (carried_by tags) arrows) k t
    → (x : ℕ) × Links arrows x k × (tag_of tags x ≡ Some t)
from_carried tags arrows k t h =
    let m = from_flat (carried_by tags) arrows (make_link k t) h in
    let c = is_carried (tag_of tags m.0.from) m.0.to (make_link k t) m.2 in
    (m.0.from, subst (λ l. Contains arrows l) (link_is m.0 m.0.from k refl (sym c.1)) m.1, c.0)

to_carried : (tags : List (Option ℕ)) (arrows : List Link) (x k t : ℕ) → Links arrows x k → tag_of tags x ≡ Some t
    → Links (flat_map (carried_by tags) arrows) k t
to_carried tags arrows x k t h e =
    member_flat (carried_by tags) arrows (make_link x k) (make_link k t) h
    (subst (λ o. Contains (carried_on o k) (make_link k t)) (sym e) (member_first (make_link k t) []))

pub carried_below : (count : ℕ) (tags : List (Option ℕ)) (arrows : List Link) → AreBelow count arrows
    → BeginBelow count (flat_map (carried_by tags) arrows)
carried_below count tags arrows below = λ k d lt.
    let all = flat_map (carried_by tags) arrows in
    let link = get_or all k d in
    let m = from_flat (carried_by tags) arrows link (Contains-get_or all k d lt) in
    let c = is_carried (tag_of tags m.0.from) m.0.to link m.2 in
    let end = (All-contains (λ l. (l.from < count) × (l.to < count)) arrows m.0 below m.1).1 in
    subst (λ n. n < count) (sym c.1) end

-- ---- the search

-- the tag comes to the node in each flow whose arrows, without the further ones, and seeds gave the old tags
abbrev pub ComesOn : (arrows fresh sown : List Link) (old : List (Option ℕ)) (node tag : ℕ) → Type 0
ComesOn arrows fresh sown old node tag = (before seeds : List Link) → arrows ≡ before ++ fresh
    → AreTagged before seeds old → Comes arrows (seeds ++ sown) node tag

-- `i` nodes of the order have tagged where their arrows lead
pub record IsSpreadingOn (arrows fresh sown : List Link) (old tags : List (Option ℕ)) (order : List Link)
    (i : ℕ) : Type 0 where
  pub len : length tags ≡ length old
  pub count : untagged tags + length order ≡ untagged old
  pub kept : (k : ℕ) → HasTag old k → HasTag tags k
  pub marked : (k t : ℕ) → Links order k t → HasTag tags k
  pub listed : (k t : ℕ) → tag_of tags k ≡ Some t → (tag_of old k ≡ Some t) ⊎ Links order k t
  pub sound : (k t : ℕ) → Links order k t → ComesOn arrows fresh sown old k t
  pub begun : (k t : ℕ) → Links sown k t → HasTag tags k
  pub carried : (a b : ℕ) → Links fresh a b → HasTag old a → HasTag tags b
  pub closed : (j : ℕ) → j < i → (k : ℕ) → Links arrows (get_or order j no_link).from k → HasTag tags k

-- an old tag comes on
old_comes : (arrows fresh sown : List Link) (old : List (Option ℕ)) (x t : ℕ) → tag_of old x ≡ Some t
    → (before seeds : List Link) → arrows ≡ before ++ fresh → AreTagged before seeds old
    → Comes arrows (seeds ++ sown) x t
old_comes arrows fresh sown old x t h before seeds is tagged =
    comes_more before arrows seeds (seeds ++ sown)
    (λ a b l. subst (λ ls. Links ls a b) (sym is) (Contains-append_left before fresh (make_link a b) l))
    (λ a b l. Contains-append_left seeds sown (make_link a b) l) x t (tagged.sound x t h)

-- an arrow more
arrow_more : (arrows seeds : List Link) (x k t : ℕ) → Comes arrows seeds x t → Links arrows x k
    → Comes arrows seeds k t
arrow_more arrows seeds x k t c h = record {
  origin = c.origin;
  seed = c.seed;
  reached = reaches_then arrows c.reached.0 c.origin x k c.reached.1 (one_arrow arrows x k h);
}

-- seeds and what arrows carry on are tagged at first
pub on_begins : (arrows fresh sown : List Link) (old m n : List (Option ℕ)) (o p q : List Link) → q ≡ []
    → AreBegun old q sown m o → AreBegun m o (flat_map (carried_by old) fresh) n p
    → IsSpreadingOn arrows fresh sown old n p 0
on_begins arrows fresh sown old m n o p q none v w =
    let empty : (k t : ℕ) → Links q k t → ⊥ = λ k t h.
    no_member (make_link k t) (subst (λ ls. Contains ls (make_link k t)) none h) in
    let first : (k t : ℕ) → Links o k t → Links sown k t = λ k t h.
    elim (v.fresh k t h) [ inl a ↦ absurd (empty k t a) | inr b ↦ b ] in
    let told : (k t : ℕ) → Links p k t → Links sown k t ⊎ Links (flat_map (carried_by old) fresh) k t = λ k t h.
    elim (w.fresh k t h) [ inl a ↦ inl (first k t a) | inr b ↦ inr b ] in
    let stays : (k t : ℕ) → Links o k t → Links p k t = λ k t h.
    still o p (make_link k t) w.longer w.stays h in
    record {
      len = w.len ∙ v.len;
      count = let n = ap length none in omega (arith, v.count, w.count, n);
      kept = λ k h. w.kept k (v.kept k h);
      marked = λ k t h. elim (told k t h) [ inl a ↦ w.kept k (v.done k t a) | inr b ↦ w.done k t b ];
      listed = λ k t h. elim (w.listed k t h) [
        | inl a ↦ elim (v.listed k t a) [ inl b ↦ inl b | inr b ↦ inr (stays k t b) ]
        | inr b ↦ inr b
      ];
      sound = λ k t h. elim (told k t h) [
        | inl a ↦ λ before seeds is tagged. record {
          origin = k;
          seed = Contains-append_right seeds sown (make_link k t) a;
          reached = (zero, refl);
        }
        | inr b ↦
            let from = from_carried old fresh k t b in
            λ before seeds is tagged.
            arrow_more arrows (seeds ++ sown) from.0 k t
            (old_comes arrows fresh sown old from.0 t from.2 before seeds is tagged)
            (subst (λ ls. Links ls from.0 k) (sym is) (Contains-append_right before fresh (make_link from.0 k) from.1))
      ];
      begun = λ k t h. w.kept k (v.done k t h);
      carried = λ a b h has. w.done b has.0 (to_carried old fresh a b has.0 h has.1);
      closed = λ j lt. absurd (omega (arith, lt));
    }

-- where the arrows from a node lead
pub record AreEnds (arrows : List Link) (node : ℕ) (row : List ℕ) : Type 0 where
  pub sound : (k : ℕ) → Contains row k → Links arrows node k
  pub whole : (k : ℕ) → Links arrows node k → Contains row k

pub ends_are : (arrows : List Link) (node : ℕ) (row start : List Link) (ends : List ℕ) → start ≡ []
    → ends ≡ map (λ link. link.to) row
    → ((link : Link) → Contains row link ↔ (Contains start link ⊎ (Contains arrows link × (link.from ≡ node))))
    → AreEnds arrows node ends
ends_are arrows node row start ends none is both = record {
  sound = λ k h.
      let m = from_map (λ link. link.to) row k (subst (λ ks. Contains ks k) is h) in
      elim ((both m.0).0 m.1) [
        | inl a ↦ absurd (no_member m.0 (subst (λ ls. Contains ls m.0) none a))
        | inr b ↦ subst (λ l. Contains arrows l) (link_is m.0 node k b.1 m.2) b.0
      ];
  whole = λ k h.
      subst (λ ks. Contains ks k) (sym is)
      (member_map (λ link. link.to) row (make_link node k) ((both (make_link node k)).1 (inr (h, refl))));
}

pub ends_below : (count : ℕ) (arrows : List Link) (node : ℕ) (ends : List ℕ) → AreBelow count arrows
    → AreEnds arrows node ends → All (λ k. k < count) ends
ends_below count arrows node ends below are = λ k d lt.
    let x = get_or ends k d in
    (All-contains (λ link. (link.from < count) × (link.to < count)) arrows (make_link node x) below
    (are.sound x (Contains-get_or ends k d lt))).1

on_closed : (arrows fresh sown : List Link) (old tags : List (Option ℕ)) (order : List Link) (i : ℕ)
    (m : List (Option ℕ)) (o : List Link) (row : List ℕ) → IsSpreadingOn arrows fresh sown old tags order i
    → i < length order → AreEnds arrows (get_or order i no_link).from row
    → IsTagged tags order row (get_or order i no_link).to m o
    → (j : ℕ) → j < i + 1 → (k : ℕ) → Links arrows (get_or o j no_link).from k → HasTag m k
on_closed arrows fresh sown old tags order i m o row s lt ends v j below k h =
    let within : j < length order = omega (arith, below, lt) in
    let here : Links arrows (get_or order j no_link).from k =
    subst (λ l. Links arrows l.from k) (v.stays j no_link within) h in
    elim (cases_eq j i) [
      | inl e ↦ v.done k (get_or order i no_link).to
          (ends.whole k (subst (λ n. Links arrows (get_or order n no_link).from k) e here), refl)
      | inr n ↦ let less : j < i = omega (arith, below, n) in v.kept k (s.closed j less k here)
    ]

pub on_goes_on : (arrows fresh sown : List Link) (old tags : List (Option ℕ)) (order : List Link) (i : ℕ)
    (m : List (Option ℕ)) (o : List Link) (row : List ℕ) → IsSpreadingOn arrows fresh sown old tags order i
    → i < length order → AreEnds arrows (get_or order i no_link).from row
    → IsTagged tags order row (get_or order i no_link).to m o → IsSpreadingOn arrows fresh sown old m o (i + 1)
on_goes_on arrows fresh sown old tags order i m o row s lt ends v =
    let link = get_or order i no_link in
    record {
      len = v.len ∙ s.len;
      count = v.count ∙ s.count;
      kept = λ k h. v.kept k (s.kept k h);
      marked = λ k t h. elim (v.fresh k t h) [ inl a ↦ v.kept k (s.marked k t a) | inr b ↦ v.done k t b ];
      listed = λ k t h. elim (v.listed k t h) [
        | inl a ↦ elim (s.listed k t a) [
          | inl b ↦ inl b
          | inr b ↦ inr (still order o (make_link k t) v.longer v.stays b)
        ]
        | inr b ↦ inr b
      ];
      sound = λ k t h. elim (v.fresh k t h) [
        | inl a ↦ s.sound k t a
        | inr b ↦ λ before seeds is tagged.
            arrow_more arrows (seeds ++ sown) link.from k t
            (subst (λ n. Comes arrows (seeds ++ sown) link.from n) (sym b.1)
            (s.sound link.from link.to (link_at order i lt) before seeds is tagged))
            (ends.sound k b.0)
      ];
      begun = λ k t h. v.kept k (s.begun k t h);
      carried = λ a b h has. v.kept b (s.carried a b h has);
      closed = on_closed arrows fresh sown old tags order i m o row s lt ends v;
    }

-- a search that has no node left
pub on_ends : (arrows fresh sown : List Link) (old tags : List (Option ℕ)) (order : List Link) (i : ℕ)
    → IsSpreadingOn arrows fresh sown old tags order i → length order ≤ i → (before seeds : List Link)
    → arrows ≡ before ++ fresh → AreTagged before seeds old
    → AreSpreadOn arrows (seeds ++ sown) old tags order
on_ends arrows fresh sown old tags order i s past before seeds is tagged =
    let closed : (a b : ℕ) → Links arrows a b → HasTag tags a → HasTag tags b = λ a b h has.
    elim (s.listed a has.0 has.1) [
      | inl old_tag ↦
          elim (Contains-append_cases before fresh (make_link a b) (subst (λ ls. Links ls a b) is h)) [
            | inl early ↦ s.kept b (tagged.closed a b early (has.0, old_tag))
            | inr late ↦ s.carried a b late (has.0, old_tag)
          ]
      | inr l ↦
          let at : get_or order l.0 no_link ≡ make_link a has.0 =
          get_or_default order l.0 no_link (make_link a has.0) l.1 ∙ l.2 in
          s.closed l.0 (omega (arith, l.1, past)) b (subst (λ n. Links arrows n b) (ap (λ y. y.from) (sym at)) h)
    ] in
    record {
      tagged = record {
        sound = λ k t h. elim (s.listed k t h) [
          | inl a ↦ old_comes arrows fresh sown old k t a before seeds is tagged
          | inr b ↦ s.sound k t b before seeds is tagged
        ];
        begun = λ k t h. elim (Contains-append_cases seeds sown (make_link k t) h) [
          | inl a ↦ s.kept k (tagged.begun k t a)
          | inr b ↦ s.begun k t b
        ];
        closed = closed;
      };
      fresh = s.listed;
    }

-- each node of the order is within
pub on_within : (arrows fresh sown : List Link) (old tags : List (Option ℕ)) (order : List Link) (i j : ℕ)
    → IsSpreadingOn arrows fresh sown old tags order i → j < length order
    → (get_or order j no_link).from < length tags
on_within arrows fresh sown old tags order i j s lt =
    let link = get_or order j no_link in
    tag_within tags link.from (s.marked link.from link.to (link_at order j lt))
