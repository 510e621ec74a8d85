-- The room behind modules is that behind the last one.
use Rattle.std.proofs.Common.{◌≡◌, ℕ, ◌-◌, ◌≤◌, List, [], ◌∷◌, length, get_or, refl, ap, sym, ◌∙◌, arith}
use Rattle.std.specs.List.{fold}
use Rattle.cfi_aux.specs.declared.placed.Placed.{Placed}
use Rattle.cfi_place.specs.declared.room.Room.{Room}
use Rattle.cfi_modules.specs.Room.{first_room, room_behind, room_after}

-- a room matters by its number of code words alone
pub behind_last : (room : Room) (m : Placed) (rest : List Placed) (d : Placed)
    → fold room_behind room (m ∷ rest) ≡ room_behind room (get_or (m ∷ rest) (length rest) d)
behind_last room m [] d = refl
behind_last room m (n ∷ rest) d = behind_last (room_behind room m) n rest d

pub after_last : (code_words : ℕ) (placed : List Placed) (d : Placed) → 1 ≤ length placed
    → room_after code_words placed ≡ room_behind (first_room code_words) (get_or placed (length placed - 1) d)
after_last code_words [] d some = absurd (omega (arith, some))
after_last code_words (m ∷ rest) d some =
    let last : length (m ∷ rest) - 1 ≡ length rest = omega arith in
    behind_last (first_room code_words) m rest d
    ∙ ap (λ (k : ℕ). room_behind (first_room code_words) (get_or (m ∷ rest) k d)) (sym last)
