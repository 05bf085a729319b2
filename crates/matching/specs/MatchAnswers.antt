-- What matching and sameness answer in the paper's numbers, and what they leave of the lent bytes. Assumes nothing: these
-- are definitions.
use Rattle.std.specs.Prelude.{◌≡◌, Bool, true, false, cond, List, ◌⊎◌, ℕ, zero, suc, ltb, length, Option, Some, None, Result, Ok, Err}
use Rattle.std.proofs.Math.Option.{none, some}
use Rattle.std.proofs.Math.Option as maybe
use Rattle.graphs.specs.Drawing.{Drawing, devices, drawing_in, drawing_refusal}
use Rattle.graphs.specs.Map.{Same, least_map}
use Rattle.records.specs.declared.refusal.Refusal.{Refusal}
use Rattle.records.specs.Refusals.{number_of, first_of}
use Rattle.laws.specs.Lent.{in_front}

-- THE NUMBERS of an answer: its refusal, 0 for none, and the number of bytes written
abbrev pub match_refusal : Result (Option ℕ) Refusal → ℕ
match_refusal (Ok m) = 0
match_refusal (Err r) = number_of r

abbrev pub match_count : Result (Option ℕ) Refusal → ℕ
match_count (Ok (Some n)) = n
match_count (Ok None) = 0
match_count (Err r) = 0

abbrev pub same_refusal : Result Bool Refusal → ℕ
same_refusal (Ok b) = 0
same_refusal (Err r) = number_of r

-- 1 yes, 0 no
abbrev pub same_value : Result Bool Refusal → ℕ
same_value (Ok true) = 1
same_value (Ok false) = 0
same_value (Err r) = 0

-- MATCHING: P's refusals, then D's, then 15 where fewer bytes are lent than P has devices
unfoldable pub match_number : (pattern drawing out : List ℕ) → ℕ
match_number xs ys o =
    first_of (first_of (drawing_refusal xs) (drawing_refusal ys)) (cond (ltb (length o) (devices (drawing_in xs))) 15 0)

-- if contained, the map written has one byte per device of P and is the least; "not contained" writes nothing
abbrev pub map_answer : maybe.Option (List ℕ) → Result (Option ℕ) Refusal
map_answer none = Ok None
map_answer (some f) = Ok (Some (length f))

abbrev pub map_output : maybe.Option (List ℕ) → (out : List ℕ) → List ℕ
map_output none o = o
map_output (some f) o = in_front f o

pub record MapWritten (least : maybe.Option (List ℕ)) (r : Result (Option ℕ) Refusal) (out out_now : List ℕ) : Type 0 where
  pub answer : r ≡ map_answer least
  pub output : out_now ≡ map_output least out

-- a refusal writes nothing
pub record MatchRefused (number : ℕ) (r : Result (Option ℕ) Refusal) (out out_now : List ℕ) : Type 0 where
  pub refusal : match_refusal r ≡ number
  pub count : match_count r ≡ 0
  pub output : out_now ≡ out

unfoldable pub MatchAs : (number : ℕ) → (least : maybe.Option (List ℕ)) → Result (Option ℕ) Refusal → (out out_now : List ℕ) → Type 0
MatchAs zero l r o z = MapWritten l r o z
MatchAs (suc n) l r o z = MatchRefused (suc n) r o z

unfoldable pub MatchSays : (pattern drawing : List ℕ) → Result (Option ℕ) Refusal → (out out_now : List ℕ) → Type 0
MatchSays xs ys r o z = MatchAs (match_number xs ys o) (least_map (drawing_in xs) (drawing_in ys)) r o z

-- SAMENESS: the first drawing's refusals, then the second's; yes and the map of demand 3 is there, or no and there is none
pub record SameRefused (number : ℕ) (r : Result Bool Refusal) : Type 0 where
  pub refusal : same_refusal r ≡ number
  pub value : same_value r ≡ 0

unfoldable pub SameAs : (number : ℕ) → (first second : Drawing) → Result Bool Refusal → Type 0
SameAs zero d e r = ((r ≡ Ok true) × Same d e) ⊎ ((r ≡ Ok false) × (Same d e → ⊥))
SameAs (suc n) d e r = SameRefused (suc n) r

unfoldable pub SameSays : (first second : List ℕ) → Result Bool Refusal → Type 0
SameSays xs ys r = SameAs (first_of (drawing_refusal xs) (drawing_refusal ys)) (drawing_in xs) (drawing_in ys) r
