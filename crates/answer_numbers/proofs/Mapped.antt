-- What `map` and `map_err` make of an answer, where the function that they apply is known. Assumes nothing.
use Rattle.std.proofs.Common.{◌≡◌, Result, Ok, Err, ap}
use Rattle.std.specs.Result.{MatchResult, IsOkAnd, IsErrAnd}

-- with the value, or the error, that a function makes of it
abbrev pub with_value : {T U E : Type 0} → (T → U) → Result T E → Result U E
with_value f (Ok x) = Ok (f x)
with_value f (Err e) = Err e

abbrev pub with_error : {T E D : Type 0} → (E → D) → Result T E → Result T D
with_error f (Ok x) = Ok x
with_error f (Err e) = Err (f e)

-- an Ok, or an Err, of which the one value is known
is_ok : {U E : Type 0} {P : U → Type 0} (r : Result U E) (v : U) → IsOkAnd r P → ((y : U) → P y → y ≡ v) → r ≡ Ok v
is_ok (Ok y) v h f = ap Ok (f y h)
is_ok (Err e) v h f = absurd h

is_err : {T D : Type 0} {P : D → Type 0} (r : Result T D) (v : D) → IsErrAnd r P → ((y : D) → P y → y ≡ v) → r ≡ Err v
is_err (Ok x) v h f = absurd h
is_err (Err d) v h f = ap Err (f d h)

pub mapped :
    {T U E : Type 0} {P : T → U → Type 0} (f : T → U) (a : Result T E) (r : Result U E)
    → MatchResult a (λ x. IsOkAnd r (P x)) (λ e. r ≡ Err e) → ((x : T) (y : U) → P x y → y ≡ f x) → r ≡ with_value f a
mapped f (Ok x) r h g = is_ok r (f x) h (g x)
mapped f (Err e) r h g = h

pub mapped_err :
    {T E D : Type 0} {P : E → D → Type 0} (f : E → D) (a : Result T E) (r : Result T D)
    → MatchResult a (λ x. r ≡ Ok x) (λ e. IsErrAnd r (P e)) → ((e : E) (d : D) → P e d → d ≡ f e) → r ≡ with_error f a
mapped_err f (Ok x) r h g = h
mapped_err f (Err e) r h g = is_err r (f e) h (g e)
