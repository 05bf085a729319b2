-- The starts of a search for the least code: every cable, each way round, one after another. Rests on Searched and Runs.
-- Assumes nothing.
use Rattle.std.specs.Prelude.{◌≡◌, Bool, true, false, List, [], ◌∷◌, ◌⊎◌, ℕ, length}
use Rattle.std.proofs.Common.{sym, ap, ◌∙◌, subst, inl, inr, arith}
use Rattle.laws.specs.Tests.{true_and_false, false_unless}
use Rattle.laws.specs.Orders.{StrictOrder}
use Rattle.graphs.specs.Drawing.{Drawing}
use Rattle.graphs.specs.Cables.{Has}
use Rattle.graphs.specs.Graph.{Pattern}
use Rattle.codes.specs.Code.{Rec, rec_before_by, LeastBy}
use Rattle.codes.specs.CodeOrder.{LabelOrder, rec_before_strict}
use Rattle.codes.specs.Greedy.{Fits}
use Rattle.codes.specs.FirstRecord.{first_record}
use Rattle.codes.specs.Runs.{LeastRun, least_run_lower, least_from_runs}
use Rattle.codes.specs.Searched.{Full, AtMost, at_most_rest, Searched}

module _ (labels : Rec → Rec → Bool) (o : LabelOrder labels) (d : Drawing) where
  s : StrictOrder (rec_before_by labels)
  s = rec_before_strict labels o

  -- a whole code that fits, whose first record no cable seen so far comes before, and no run behind one comes before
  pub record Started (best : List Rec) (Seen : (u w k : ℕ) → Type 0) : Type 0 where
    pub r : Rec
    pub tail : List Rec
    pub is : best ≡ r ∷ tail
    pub full : Full labels o d best
    pub fits : Fits d best
    pub first : (u w k : ℕ) → Seen u w k → rec_before_by labels (first_record d u w k) r ≡ false
    pub runs : (u w k : ℕ) → Seen u w k → first_record d u w k ≡ r → LeastRun labels o d (r ∷ []) (u ∷ w ∷ []) tail

  -- one cable more, with nothing behind it that counts
  abbrev OneMore : (Seen More : (u w k : ℕ) → Type 0) (u w k : ℕ) → Type 0
  OneMore Seen More u w k = (a b l : ℕ) → More a b l → Seen a b l ⊎ ((a ≡ u) × (b ≡ w) × (l ≡ k))

  first_eq : (u w k a b l : ℕ) → (a ≡ u) × (b ≡ w) × (l ≡ k) → first_record d a b l ≡ first_record d u w k
  first_eq u w k a b l e = rw (e.0, e.1, e.2)

  -- its first record comes after the best's: passed over
  pub started_skip :
      (best :
      List Rec) (Seen More : (u w k : ℕ)
      → Type 0) (u w k : ℕ) (t : Started best Seen) → rec_before_by labels t.r (first_record d u w k) ≡ true
      → OneMore Seen More u w k → Started best More
  started_skip best Seen More u w k t z split =
      record {
        r = t.r;
        tail = t.tail;
        is = t.is;
        full = t.full;
        fits = t.fits;
        first = λ a b l h. first a b l (split a b l h);
        runs = λ a b l h. runs a b l (split a b l h);
      }
    where
      first : (a b l : ℕ) → Seen a b l ⊎ ((a ≡ u) × (b ≡ w) × (l ≡ k)) → rec_before_by labels (first_record d a b l) t.r ≡ false
      first a b l (inl h) = t.first a b l h
      first a b l (inr e) =
          false_unless (rec_before_by labels (first_record d a b l) t.r)
          (λ q. s.irrefl t.r (s.trans t.r (first_record d u w k) t.r z (rw (first_eq u w k a b l e) at q)))

      runs :
          (a b l : ℕ) → Seen a b l ⊎ ((a ≡ u) × (b ≡ w) × (l ≡ k)) → first_record d a b l ≡ t.r
          → LeastRun labels o d (t.r ∷ []) (a ∷ b ∷ []) t.tail
      runs a b l (inl h) q = t.runs a b l h q
      runs a b l (inr e) q = absurd (s.irrefl t.r (rw (sym (first_eq u w k a b l e) ∙ q) at z))

  -- how its first record meets the best: there is none yet; it comes before the best's; or it is the same, and the search goes on from the best
  pub data Meets (best : List Rec) (Seen : (u w k : ℕ) → Type 0) (e : Rec) (first : List Rec) : Type 0 where
    none_yet : ((a b l : ℕ) → Seen a b l → ⊥) → Meets best Seen e first
    lowers : (t : Started best Seen) → rec_before_by labels e t.r ≡ true → Meets best Seen e first
    ties : (t : Started best Seen) → e ≡ t.r → first ≡ best → Meets best Seen e first

  -- ONE CABLE MORE, searched
  pub started_more :
      (best first after : List Rec) (Seen More : (u w k : ℕ) → Type 0) (u w k : ℕ) → Meets best Seen (first_record d u w k) first
      → Searched labels o d (first_record d u w k ∷ []) (u ∷ w ∷ []) first after → OneMore Seen More u w k → Started after More
  started_more best begin after Seen More u w k z q split =
      record {
        r = e;
        tail = q.rest;
        is = q.is;
        full = q.full;
        fits = q.fits;
        first = λ a b l h. first a b l (split a b l h) z;
        runs = λ a b l h. runs a b l (split a b l h) z;
      }
    where
      e : Rec
      e = first_record d u w k

      first :
          (a b l : ℕ) → Seen a b l ⊎ ((a ≡ u) × (b ≡ w) × (l ≡ k)) → Meets best Seen (first_record d u w k) begin
          → rec_before_by labels (first_record d a b l) (first_record d u w k) ≡ false
      first a b l (inr h) y =
          false_unless (rec_before_by labels (first_record d a b l) e) (λ v. s.irrefl e (rw (first_eq u w k a b l h) at v))
      first a b l (inl h) (none_yet n) = absurd (n a b l h)
      first a b l (inl h) (lowers t y) =
          false_unless (rec_before_by labels (first_record d a b l) e)
          (λ v. true_and_false (s.trans (first_record d a b l) e t.r v y) (t.first a b l h))
      first a b l (inl h) (ties t y v) = rw y (t.first a b l h)

      lower : (t : Started best Seen) → e ≡ t.r → begin ≡ best → AtMost labels o d q.rest t.tail
      lower t y v =
          at_most_rest labels o d (e ∷ []) q.rest t.tail
          (rw (← q.is, y, ← t.is) (rw v at (q.at_most (ap length v ∙ t.full))))

      size : (t : Started best Seen) → length q.rest ≡ length t.tail
      size t = omega (arith, q.full, t.full, ap length q.is, ap length t.is)

      runs :
          (a b l : ℕ) → Seen a b l ⊎ ((a ≡ u) × (b ≡ w) × (l ≡ k)) → Meets best Seen (first_record d u w k) begin
          → first_record d a b l ≡ first_record d u w k → LeastRun labels o d (first_record d u w k ∷ []) (a ∷ b ∷ []) q.rest
      runs a b l (inr h) y v = rw (h.0, h.1) q.least
      runs a b l (inl h) (none_yet n) v = absurd (n a b l h)
      runs a b l (inl h) (lowers t y) v = absurd (true_and_false y (rw v at (t.first a b l h)))
      runs a b l (inl h) (ties t y x) v =
          least_run_lower labels o d (e ∷ []) (a ∷ b ∷ []) t.tail q.rest (rw y (t.runs a b l h (v ∙ y))) (size t) (lower t y x)

  -- ALL CABLES SEEN: the best is the least code
  pub started_least :
      (p : Pattern d) (best : List Rec) (Seen : (u w k : ℕ) → Type 0) → Started best Seen → ((u w k : ℕ) → Has u w k d.cables → Seen u w k)
      → LeastBy labels d best
  started_least p best Seen t all =
      rw t.is
      (least_from_runs labels o d p t.r t.tail (subst (Fits d) t.is t.fits) (sym (ap length t.is) ∙ t.full)
      (λ u w k h. t.first u w k (all u w k h)) (λ u w k h. t.runs u w k (all u w k h)))
