-- Paths along links, and links from their ends to their beginnings.
use Rattle.std.proofs.Common.{ℕ, zero, suc, List, map, refl, sym, ap, subst}
use Rattle.std.specs.List.{Contains}
use Rattle.cfi_flow.specs.declared.links.Link.{Link}
use Rattle.cfi_flow.specs.Flow.{Links, flipped, IsPath, Reaches}
use Rattle.cfi_flow.proofs.Members.{member_map, from_map}
use Rattle.cfi_flow.proofs.RowLemmas.{make_link, link_is}

-- a path and another from its end
pub reaches_then : (arrows : List Link) (steps a b c : ℕ) → IsPath arrows steps a b → Reaches arrows b c
    → Reaches arrows a c
reaches_then arrows zero a b c e r = subst (λ n. Reaches arrows n c) (sym e) r
reaches_then arrows (suc steps) a b c w r =
    let on = reaches_then arrows steps w.0 b c w.2 r in (suc on.0, (w.0, w.1, on.1))

-- an arrow is a path
pub one_arrow : (arrows : List Link) (a b : ℕ) → Links arrows a b → Reaches arrows a b
one_arrow arrows a b h = (suc zero, (b, h, refl))

-- a link of links from their ends to their beginnings
pub unflip : (arrows : List Link) (a b : ℕ) → Links (map flipped arrows) a b → Links arrows b a
unflip arrows a b h =
    let m = from_map flipped arrows (make_link a b) h in
    subst (λ l. Contains arrows l) (link_is m.0 b a (ap (λ l. l.to) m.2) (ap (λ l. l.from) m.2)) m.1

-- each link is one of those
pub flip : (arrows : List Link) (a b : ℕ) → Links arrows a b → Links (map flipped arrows) b a
flip arrows a b h = member_map flipped arrows (make_link a b) h
