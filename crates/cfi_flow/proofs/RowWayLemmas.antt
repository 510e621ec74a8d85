-- The addresses and branches of nodes, from what is spread along rows.
use Rattle.std.proofs.Common.{◌≡◌, ℕ, zero, suc, ◌<◌, Option, Some, List, map, get_or, sym, subst}
use Rattle.std.proofs.lemmas.List.Elements.{All-contains, Contains-get_or}
use Rattle.cfi_flow.specs.declared.links.Link.{Link}
use Rattle.cfi_flow.specs.Flow.{Links, flipped, IsPath, Reaches, BeginBelow, AreBelow}
use Rattle.cfi_flow.specs.Rows.{AreRows}
use Rattle.cfi_flow.specs.inner.Spread.{tag_of, HasTag, AreSpread}
use Rattle.cfi_flow.specs.inner.Ways.{tied, AreWays}
use Rattle.cfi_flow.proofs.Members.{from_map}
use Rattle.cfi_flow.proofs.PathLemmas.{reaches_then, one_arrow, flip, unflip}
use Rattle.cfi_flow.proofs.FanLemmas.{walk_path, path_walk, begins}
use Rattle.cfi_flow.proofs.WayLemmas.{AreEndsOf, ways_by}

-- ---- paths

pub back_path : (arrows : List Link) (steps a b : ℕ) → IsPath (map flipped arrows) steps a b → Reaches arrows b a
back_path arrows zero a b e = (zero, sym e)
back_path arrows (suc steps) a b w =
    let r = back_path arrows steps w.0 b w.2 in
    reaches_then arrows r.0 b w.0 a r.1 (one_arrow arrows w.0 a (unflip arrows a w.0 w.1))

pub forth_path : (arrows : List Link) (steps a b : ℕ) → IsPath arrows steps a b → Reaches (map flipped arrows) b a
forth_path arrows zero a b e = (zero, sym e)
forth_path arrows (suc steps) a b w =
    let r = forth_path arrows steps w.0 b w.2 in
    reaches_then (map flipped arrows) r.0 b w.0 a r.1
    (one_arrow (map flipped arrows) w.0 a (flip arrows a w.0 w.1))

pub flipped_below : (count : ℕ) (arrows : List Link) → AreBelow count arrows → AreBelow count (map flipped arrows)
flipped_below count arrows all = λ k d lt.
    let has = from_map flipped arrows (get_or (map flipped arrows) k d) (Contains-get_or (map flipped arrows) k d lt) in
    let both = All-contains (λ link. (link.from < count) × (link.to < count)) arrows has.0 all has.1 in
    subst (λ l. (l.from < count) × (l.to < count)) has.2 (both.1, both.0)

module _ (nodes : ℕ) (arrows sites returns : List Link) (forth back : List (List ℕ)) (places slots : List (Option ℕ))
    (below : AreBelow nodes arrows) (begin : BeginBelow nodes sites) (end : BeginBelow nodes returns)
    (forth_rows : AreRows nodes arrows forth) (back_rows : AreRows nodes (map flipped arrows) back)
    (come : AreSpread forth sites places) (go : AreSpread back returns slots) where
  behind : AreBelow nodes (map flipped arrows)
  behind = flipped_below nodes arrows below

  -- the address of a node comes back to what gets there, and each node to which something comes back has one
  place_sound : (k t : ℕ) → tag_of places k ≡ Some t → (origin : ℕ) × Links sites origin t × Reaches arrows origin k
  place_sound k t h =
      let a = come.sound k t h in (
        a.origin,
        a.seed,
        (
          a.steps,
          walk_path nodes arrows forth below forth_rows a.steps a.origin k
              (begins nodes sites a.origin t begin a.seed) a.walk,
        ),
      )

  place_whole : (k t origin : ℕ) → Links sites origin t → Reaches arrows origin k → HasTag places k
  place_whole k t origin h r =
      come.whole k t (record {
        origin = origin;
        seed = h;
        steps = r.0;
        walk = path_walk nodes arrows forth below forth_rows r.0 origin k r.1;
      })

  -- the branch of a node returns from where it gets to, and each node that gets to a return has one
  slot_sound : (k s : ℕ) → tag_of slots k ≡ Some s → (end : ℕ) × Links returns end s × Reaches arrows k end
  slot_sound k s h =
      let a = go.sound k s h in (
        a.origin,
        a.seed,
        back_path arrows a.steps a.origin k
            (walk_path nodes (map flipped arrows) back behind back_rows a.steps a.origin k
            (begins nodes returns a.origin s end a.seed) a.walk),
      )

  slot_whole : (k s last : ℕ) → Links returns last s → Reaches arrows k last → HasTag slots k
  slot_whole k s last h r =
      let p = forth_path arrows r.0 k last r.1 in
      go.whole k s (record {
        origin = last;
        seed = h;
        steps = p.0;
        walk = path_walk nodes (map flipped arrows) back behind back_rows p.0 last k p.1;
      })

  pub ends_by_rows : AreEndsOf arrows sites returns places slots
  ends_by_rows = record {
    place_sound = place_sound;
    place_whole = place_whole;
    slot_sound = slot_sound;
    slot_whole = slot_whole;
  }

  pub ways : AreWays arrows sites returns (tied arrows sites returns places slots)
  ways = ways_by arrows sites returns places slots ends_by_rows
