-- Bytes put behind each other from a place on, as far as there is room. Assumes nothing: these are definitions.
use Rattle.std.specs.Prelude.{◌≡◌, cond, List, [], ◌∷◌, Option, Some, None, ℕ, ◌+◌, ltb, set}
use Rattle.text_lines.specs.declared.place.Place.{Place}

-- byte k of n that there is room for
abbrev pub place_at : (k n : ℕ) → Option Place
place_at k n = Some (record { at = k; room = n })

-- ONE BYTE: the place behind it, none past the room, and the bytes with it; outside of them it changes nothing
abbrev pub next_place : Option Place → Option Place
next_place (Some p) = cond (ltb p.at p.room) (place_at (p.at + 1) p.room) None
next_place None = None

abbrev pub put_at : List ℕ → Option Place → (byte : ℕ) → List ℕ
put_at t (Some p) b = cond (ltb p.at p.room) (set t p.at b) t
put_at t None b = t

-- ONE AFTER ANOTHER
unfoldable pub place_behind : Option Place → (piece : List ℕ) → Option Place
place_behind p [] = p
place_behind p (b ∷ bs) = place_behind (next_place p) bs

unfoldable pub laid : List ℕ → Option Place → (piece : List ℕ) → List ℕ
laid t p [] = t
laid t p (b ∷ bs) = laid (put_at t p b) (next_place p) bs

-- what a function that puts a piece answers and leaves
pub record Wrote (text : List ℕ) (from : Option Place) (piece : List ℕ) (to : Option Place) (text_now : List ℕ) : Type 0 where
  pub place : to ≡ place_behind from piece
  pub bytes : text_now ≡ laid text from piece
