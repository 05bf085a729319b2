-- There is just one book, whatever the numbers of kinds and the size limit: small patterns are a closed family, and of their records there are
-- finitely many. Rests on FamilyLists and SmallNext. Assumes nothing.
use Rattle.std.specs.Prelude.{◌≡◌, refl, List, [], ◌∷◌, ◌++◌, ℕ}
use Rattle.laws.specs.Lists.{Mem}
use Rattle.laws.specs.Selections.{each, each_has}
use Rattle.laws.specs.Counting.{below, below_has}
use Rattle.codes.specs.Code.{Rec, kinds_before}
use Rattle.codes.specs.CodeOrder.{kinds_order, rec_eq}
use Rattle.growth.specs.Catalogue.{Entry}
use Rattle.growth.specs.Family.{Listable, Family}
use Rattle.growth.specs.FamilyLaws.{listable_prefix}
use Rattle.growth.specs.FamilyLists.{list_exists, list_unique}
use Rattle.books.specs.Book.{Small, unsupported, Book, BookThere}
use Rattle.books.specs.SmallFamily.{small_closed, small_decided, unsupported_kept}
use Rattle.books.specs.SmallNext.{next_labels, next_ends}

-- all records between ten devices with small labels
small_records : (a b : ℕ) → List Rec
small_records a b =
    each (below 10) λ i.
    each (below 10) λ j.
    each (below a) λ k.
    each (below b) λ c.
    each (below a) λ l.
    record { i = i; j = j; ki = k; c = c; kj = l } ∷ []

small_among : (a b : ℕ) (γ : List Rec) (e : Rec) (rest : List Rec) → Listable kinds_before (Small a b) (γ ++ e ∷ rest) → Mem e (small_records a b)
unfolding small_records
small_among a b γ e rest f =
    let g = listable_prefix kinds_before kinds_order (Small a b) (small_closed a b) γ e rest f in
    let z = next_ends γ e g in
    let l = next_labels γ e g in
    each_has (below 10) _ (below_has 10 e.i z.0)
    (each_has (below 10) _ (below_has 10 e.j z.1)
    (each_has (below a) _ (below_has a e.ki l.from)
    (each_has (below b) _ (below_has b e.c l.along)
    (each_has (below a) _ (below_has a e.kj l.to) (Mem.here (rec_eq _ e refl refl refl refl refl))))))

-- so small patterns can be listed
pub small_family : (a b : ℕ) → Family kinds_before (Small a b)
small_family a b = record { closed = small_closed a b; decided = small_decided a b; next = λ γ. small_records a b; all = small_among a b }

pub book_exists : (a b l : ℕ) → (es : List Entry) × Book a b l es
book_exists a b l = list_exists kinds_before kinds_order (Small a b) unsupported l (small_family a b) unsupported_kept

pub book_unique : (a b l : ℕ) (es gs : List Entry) → Book a b l es → Book a b l gs → es ≡ gs
book_unique a b l = list_unique kinds_before kinds_order (Small a b) unsupported l

-- THE STATEMENT, proved
pub book_there : BookThere
unfolding BookThere
book_there a b l =
    let t = book_exists a b l in
    (t.0, t.1, λ gs g. book_unique a b l gs t.0 g t.1)
