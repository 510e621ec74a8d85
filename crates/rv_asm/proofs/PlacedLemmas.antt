-- Lines one after the other, each behind those before it: what one more line adds.
use Rattle.std.proofs.Common.{◌≡◌, ℕ, ◌+◌, ◌-◌, ◌^◌, ◌≤◌, cond, Option, Some, None, unwrap_or, List, [], ◌∷◌, ◌++◌, length, refl, sym, ap, ◌∙◌, append_assoc, append-nil, arith}
use Rattle.std.specs.List.{filter_map, flat_map, cons_option, last_or, sum_by}
use Rattle.std.specs.Option.{option_or}
use Rattle.std.proofs.lemmas.Grind.{flat_map-append}
use Rattle.std.proofs.lemmas.List.Sums.{sum_by_push, count_by-le-length}
use Rattle.elf_read.specs.declared.object.Area.{Area}
use Rattle.elf_read.specs.declared.object.Area.TheVariants as areas
use Rattle.rv_line.specs.declared.line.Line.{Line}
use Rattle.rv_line.specs.declared.statement.Statement.{Statement}
use Rattle.rv_line.specs.declared.statement.Statement.TheVariants as statements
use Rattle.rv_asm.specs.declared.spot.Spot.{Spot}
use Rattle.rv_asm.specs.inner.Spot.{plus, at_most, after_line}
use Rattle.rv_asm.specs.Spot.{text_size, data_size}
use Rattle.rv_asm.specs.Placed.{Placed, placed_behind, placed, switched, area_after, size_in, size_at, end_after, is_pair, pairs_after, spot_after}

pub placed_behind-append : (before a b : List Line) →
    placed_behind before (a ++ b) ≡ placed_behind before a ++ placed_behind (before ++ a) b
placed_behind-append before [] b = ap (λ (l : List Line). placed_behind l b) (sym (append-nil before))
placed_behind-append before (line ∷ a) b =
    let at : Placed = record { before = before; line = line } in
    ap (λ (r : List Placed). at ∷ r) (placed_behind-append (before ++ line ∷ []) a b
    ∙ ap (λ (l : List Line). placed_behind (before ++ line ∷ []) a ++ placed_behind l b)
    (append_assoc before (line ∷ []) a))

abbrev pub at_line : (before : List Line) (line : Line) → Placed
at_line before line = record { before = before; line = line }

pub placed-push : (before : List Line) (line : Line) → placed (before ++ line ∷ [])
    ≡ placed before ++ at_line before line ∷ []
placed-push before line = placed_behind-append [] before (line ∷ [])

-- what is made, and what is added up
pub made-push : {A : Type 0} (f : Placed → List A) (before : List Line) (line : Line) →
    flat_map f (placed (before ++ line ∷ [])) ≡ flat_map f (placed before) ++ f (at_line before line)
made-push f before line =
    ap (flat_map f) (placed-push before line) ∙ flat_map-append f (placed before) (at_line before line ∷ [])
    ∙ ap (λ l. flat_map f (placed before) ++ l) (append-nil (f (at_line before line)))

pub sum-push : (f : Placed → ℕ) (before : List Line) (line : Line) →
    sum_by f (placed (before ++ line ∷ [])) ≡ sum_by f (placed before) + f (at_line before line)
sum-push f before line =
    ap (sum_by f) (placed-push before line) ∙ sum_by_push f (placed before) (at_line before line)

-- the last that is said
last_on : {A B : Type 0} (h : A → Option B) (x : A) (xs : List A) → ((o : Option B) →
    last_or o (filter_map h (xs ++ x ∷ [])) ≡ option_or (h x) (last_or o (filter_map h xs))) → (v o : Option B) →
    last_or o (cons_option v (filter_map h (xs ++ x ∷ []))) ≡ option_or (h x)
    (last_or o (cons_option v (filter_map h xs)))
last_on h x xs more None o = more o
last_on h x xs more (Some y) o = more (Some y)

last_one : {B : Type 0} (v o : Option B) → last_or o (cons_option v []) ≡ option_or v o
last_one None o = refl
last_one (Some y) o = refl

last_from : {A B : Type 0} (h : A → Option B) (xs : List A) (x : A) (o : Option B) →
    last_or o (filter_map h (xs ++ x ∷ [])) ≡ option_or (h x) (last_or o (filter_map h xs))
last_from h [] x o = last_one (h x) o
last_from h (y ∷ xs) x o = last_on h x xs (last_from h xs x) (h y) o

pub last-push : {A B : Type 0} (h : A → Option B) (xs : List A) (x : A) →
    last_or None (filter_map h (xs ++ x ∷ [])) ≡ option_or (h x) (last_or None (filter_map h xs))
last-push h xs x = last_from h xs x None

-- where a line stands
unwrap_or-or : {A : Type 0} (v o : Option A) (d : A) → unwrap_or (option_or v o) d ≡ unwrap_or v (unwrap_or o d)
unwrap_or-or None o d = refl
unwrap_or-or (Some x) o d = refl

pub last-said : {A B : Type 0} (h : A → Option B) (xs : List A) (x : A) (d : B) →
    unwrap_or (last_or None (filter_map h (xs ++ x ∷ []))) d ≡ unwrap_or (h x)
    (unwrap_or (last_or None (filter_map h xs)) d)
last-said h xs x d = ap (λ o. unwrap_or o d) (last-push h xs x)
    ∙ unwrap_or-or (h x) (last_or None (filter_map h xs)) d

pub area-push : (before : List Line) (line : Line) →
    area_after (before ++ line ∷ []) ≡ unwrap_or (switched line.statement) (area_after before)
area-push before line = last-said (λ (l : Line). switched l.statement) before line areas.Text

pub end-push : (area : Area) (before : List Line) (line : Line) →
    end_after area (before ++ line ∷ []) ≡ end_after area before + size_at area (at_line before line)
end-push area before line = sum-push (size_at area) before line

pairs-push : (before : List Line) (line : Line) →
    pairs_after (before ++ line ∷ []) ≡ pairs_after before + cond (is_pair line.statement) 1 0
pairs-push before line = sum_by_push (λ (l : Line). cond (is_pair l.statement) 1 0) before line

-- a spot as the code counts it
abbrev pub capped : Spot → Spot
capped spot = record {
  area = spot.area;
  text_end = at_most spot.text_end;
  data_end = at_most spot.data_end;
  pairs = at_most spot.pairs;
}

-- a spot by its parts
abbrev pub spot_by : Area → (text_end data_end pairs : ℕ) → Spot
spot_by area text_end data_end pairs = record {
  area = area;
  text_end = text_end;
  data_end = data_end;
  pairs = pairs;
}

spot-eq : {a b : Area} {t u d e p q : ℕ} → a ≡ b → t ≡ u → d ≡ e → p ≡ q → spot_by a t d p ≡ spot_by b u e q
spot-eq area text data_end pairs = rw (area, text, data_end, pairs) refl

stays : (n : ℕ) → at_most (n + 0) ≡ at_most n
stays n = omega arith

adds : (n x : ℕ) → at_most (n + x) ≡ plus (at_most n) x
adds n x = omega arith

adds-most : (n x : ℕ) → at_most (n + x) ≡ plus (at_most n) (at_most x)
adds-most n x = omega arith

after-parts : (a : Area) (t d p : ℕ) (s : Option Statement) →
    spot_by (unwrap_or (switched s) a) (at_most (t + size_in areas.Text a s)) (at_most (d + size_in areas.Data a s))
    (at_most (p + cond (is_pair s) 1 0))
    ≡ after_line (spot_by a (at_most t) (at_most d) (at_most p)) s
after-parts areas.Text t d p None = spot-eq refl (stays t) (stays d) (stays p)
after-parts areas.Data t d p None = spot-eq refl (stays t) (stays d) (stays p)
after-parts areas.Text t d p (Some statements.Text) = spot-eq refl (stays t) (stays d) (stays p)
after-parts areas.Data t d p (Some statements.Text) = spot-eq refl (stays t) (stays d) (stays p)
after-parts areas.Text t d p (Some statements.Data) = spot-eq refl (stays t) (stays d) (stays p)
after-parts areas.Data t d p (Some statements.Data) = spot-eq refl (stays t) (stays d) (stays p)
after-parts areas.Text t d p (Some (statements.La rd name)) = spot-eq refl (adds t 8) (stays d) (adds p 1)
after-parts areas.Data t d p (Some (statements.La rd name)) = spot-eq refl (stays t) (adds-most d 0) (adds p 1)
after-parts areas.Text t d p (Some statement) = spot-eq refl (adds t (text_size statement)) (stays d) (stays p)
after-parts areas.Data t d p (Some statement) = spot-eq refl (stays t) (adds-most d (data_size statement)) (stays p)

pub spot-push : (before : List Line) (line : Line) →
    capped (spot_after (before ++ line ∷ [])) ≡ after_line (capped (spot_after before)) line.statement
spot-push before line =
    spot-eq (area-push before line) (ap at_most (end-push areas.Text before line))
    (ap at_most (end-push areas.Data before line)) (ap at_most (pairs-push before line))
    ∙ after-parts (area_after before) (end_after areas.Text before) (end_after areas.Data before) (pairs_after before)
    line.statement

-- a spot within the code's numbers is as it is
least : (n : ℕ) → n ≤ 2 ^ 32 - 1 → at_most n ≡ n
least n h = omega (arith, h)

pub capped-same : (before : List Line) → end_after areas.Text before ≤ 2 ^ 32 - 1 →
    end_after areas.Data before ≤ 2 ^ 32 - 1 → pairs_after before ≤ 2 ^ 32 - 1 →
    capped (spot_after before) ≡ spot_after before
capped-same before text bytes pairs =
    spot-eq refl (least (end_after areas.Text before) text) (least (end_after areas.Data before) bytes)
    (least (pairs_after before) pairs)

-- no more `la` than lines
pub pairs-le : (before : List Line) → pairs_after before ≤ length before
pairs-le before = count_by-le-length (λ (l : Line). is_pair l.statement) before
