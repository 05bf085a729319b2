-- Every pattern has a least code, and the least code is the greedy code. Rests on Tight, LeastExtension and FullCode.
-- Assumes nothing.
use Rattle.std.specs.Prelude.{◌≡◌, refl, Bool, true, ◌⊎◌, ℕ, zero, suc, ◌+◌, ◌-◌, ◌≤◌, ◌<◌, length, get_or}
use Rattle.std.proofs.Common.{sym, ap, ◌∙◌, inl, inr, arith}
use Rattle.std.proofs.Math.Path.{subst}
use mathlib.Core.List.{List, [], ◌∷◌, ◌++◌}
use Rattle.std.proofs.Math.ListN.{length-append}
use Rattle.laws.specs.Lists.{snoc, snoc_length}
use Rattle.graphs.specs.Drawing.{Cable, Drawing, devices, kind}
use Rattle.graphs.specs.Map.{image}
use Rattle.graphs.specs.Cables.{along, against, Has, has_flip, has_eq, has_first}
use Rattle.graphs.specs.Embedding.{Embedding, Isomorphism}
use Rattle.graphs.specs.CountingCables.{embedding_cables}
use Rattle.graphs.specs.Graph.{Simple, Pattern}
use Rattle.codes.specs.Code.{
  Rec,
  Reading,
  fresh,
  cable_of,
  begun,
  rows_refusal,
  read_rows,
  drawn,
  decoded,
  rows_good,
  LeastBy,
}
use Rattle.codes.specs.CodeOrder.{LabelOrder}
use Rattle.codes.specs.Reading.{Invariant}
use Rattle.codes.specs.ReadRows.{
  stepped_is,
  begun_is,
  begun_to_test,
  rows_one,
  read_snoc,
  rows_invariant,
  decoded_cables,
  good_from_test,
}
use Rattle.codes.specs.Extension.{Extension, Local, local_extension}
use Rattle.codes.specs.Tight.{Tight, AllTight, tight_begun, tight_step, SomeLocal, progress}
use Rattle.codes.specs.Greedy.{
  Fits,
  fits_one,
  fits_extension,
  extension_fits,
  fits_prefix,
  fits_through,
  Greedy,
  greedy_snoc,
  greedy_prefix,
  greedy_within,
}
use Rattle.codes.specs.FirstRecord.{first_record, first_fits, some_cable}
use Rattle.codes.specs.LeastExtension.{LeastExtension, least_extension}
use Rattle.codes.specs.FullCode.{
  Coded,
  decoded_simple,
  coded_fits,
  coded_itself,
  coded_length,
  coded_from_test,
  greedy_least,
  least_unique,
}

module _ (labels : Rec → Rec → Bool) (o : LabelOrder labels) (d : Drawing) (p : Pattern d) where
  -- WHAT A SEARCH KEEPS: rows that fit, each the least that goes on, and every numbering tight
  pub record KeptRows (r : Rec) (rs : List Rec) : Type 0 where
    pub fits : Fits d (r ∷ rs)
    pub greedy : Greedy labels d [] (r ∷ rs)
    pub tight : AllTight d (read_rows fresh (r ∷ rs))

  pub state_begun : (n : LeastExtension labels d []) → KeptRows n.e []
  unfolding Greedy read_rows
  state_begun n =
      let g = fits_one d n.e n.fits in
      record {
        fits = n.fits;
        greedy = (n.least, tt);
        tight = subst (AllTight d) (sym (begun_is n.e)) (tight_begun d p.simple n.e g.0 g.1);
      }

  pub state_step : (r : Rec) (rs : List Rec) → KeptRows r rs → (n : LeastExtension labels d (r ∷ rs)) → KeptRows r (snoc rs n.e)
  state_step r rs s n =
      record {
        fits = n.fits;
        greedy = greedy_snoc labels d [] (r ∷ rs) n.e s.greedy n.least;
        tight =
            subst (AllTight d) (sym (read_snoc fresh (r ∷ rs) n.e ∙ stepped_is x v n.e t.step))
            (tight_step labels d p x v s.tight n.e (λ l q. n.least l (extension_fits d r rs l s.fits.accepted q)) t.step);
      }
    where
      x : Reading
      x = read_rows fresh (r ∷ rs)

      v : Invariant x
      v = rows_invariant r rs s.fits.accepted

      t : Extension d x n.e
      t = fits_extension d r rs n.e n.fits

  -- a state goes on, or is a code
  ahead : (r : Rec) (rs : List Rec) → KeptRows r rs → ((e : Rec) × Fits d (snoc (r ∷ rs) e)) ⊎ Coded d (r ∷ rs)
  unfolding decoded
  ahead r rs s = go (progress d p x v f s.fits.embedding (s.tight f s.fits.embedding))
    where
      x : Reading
      x = read_rows fresh (r ∷ rs)

      f : List ℕ
      f = s.fits.numbering

      ok : rows_refusal fresh (r ∷ rs) ≡ 0
      ok = s.fits.accepted

      v : Invariant x
      v = rows_invariant r rs ok

      more : (e : Rec) → Local d x f e → Fits d (snoc (r ∷ rs) e)
      more e h =
          extension_fits d r rs e ok (local_extension d p.devices_high p.simple.ends x v f s.fits.embedding e h)

      go : SomeLocal d x f ⊎ Isomorphism (drawn x) d f → ((e : Rec) × Fits d (snoc (r ∷ rs) e)) ⊎ Coded d (r ∷ rs)
      go (inl e) = inl (e.0, more e.0 e.1)
      go (inr i) = inr (record { one = omega arith; accepted = ok; numbering = f; isomorphism = i })

  -- rows that fit are no more than the cables
  fits_length : (r : Rec) (rs : List Rec) → Fits d (r ∷ rs) → length (r ∷ rs) ≤ length d.cables
  unfolding decoded
  fits_length r rs t =
      omega (arith, decoded_cables (r ∷ rs), embedding_cables (decoded (r ∷ rs)) d t.numbering (decoded_simple r rs t.accepted) t.embedding)

  -- with fewer records than cables a state has a least extension
  pub state_next : (r : Rec) (rs : List Rec) → KeptRows r rs → length (r ∷ rs) < length d.cables → LeastExtension labels d (r ∷ rs)
  state_next r rs s h = go (ahead r rs s)
    where
      go : ((e : Rec) × Fits d (snoc (r ∷ rs) e)) ⊎ Coded d (r ∷ rs) → LeastExtension labels d (r ∷ rs)
      go (inl m) = least_extension labels o d (r ∷ rs) m.0 m.1
      go (inr c) = absurd (omega (arith, coded_length d p.simple (r ∷ rs) c))

  -- with as many it is a code
  pub state_coded : (r : Rec) (rs : List Rec) → KeptRows r rs → length (r ∷ rs) ≡ length d.cables → Coded d (r ∷ rs)
  state_coded r rs s h = go (ahead r rs s)
    where
      go : ((e : Rec) × Fits d (snoc (r ∷ rs) e)) ⊎ Coded d (r ∷ rs) → Coded d (r ∷ rs)
      go (inl m) =
          absurd (omega (arith, fits_length r (snoc rs m.0) m.1, snoc_length rs m.0))
      go (inr c) = c

  -- and least
  pub state_least : (r : Rec) (rs : List Rec) → KeptRows r rs → length (r ∷ rs) ≡ length d.cables → LeastBy labels d (r ∷ rs)
  state_least r rs s h = greedy_least d p.simple labels o p.cables_high (r ∷ rs) s.greedy (state_coded r rs s h)

  -- the first record of a search
  pub first_extension : LeastExtension labels d []
  first_extension =
      let c = some_cable d.cables p.cables_low in
      least_extension labels o d [] (first_record d c.0 c.1 c.2) (first_fits d p.simple c.0 c.1 c.2 c.3)

  record Complete : Type 0 where
    r : Rec
    rs : List Rec
    state : KeptRows r rs
    all : length (r ∷ rs) ≡ length d.cables

  complete : (n : ℕ) (r : Rec) (rs : List Rec) → length (r ∷ rs) + n ≡ length d.cables → KeptRows r rs → Complete
  complete zero r rs e s = record { r = r; rs = rs; state = s; all = omega arith }
  complete (suc n) r rs e s =
      let q = state_next r rs s (omega arith) in
      complete n r (snoc rs q.e) (omega (arith, snoc_length rs q.e)) (state_step r rs s q)

  greedy_complete : Complete
  greedy_complete =
      let q = first_extension in
      complete (length d.cables - 1) q.e [] (omega (arith, p.cables_low)) (state_begun q)

  -- EVERY PATTERN HAS A LEAST CODE
  pub least_code_there : (rs : List Rec) × LeastBy labels d rs
  least_code_there = let c = greedy_complete in (c.r ∷ c.rs, state_least c.r c.rs c.state c.all)

  -- THE LEAST CODE IS GREEDY
  pub least_greedy : (rs : List Rec) → LeastBy labels d rs → Greedy labels d [] rs
  least_greedy rs l =
      let c = greedy_complete in
      rw (least_unique labels o d rs (c.r ∷ c.rs) l (state_least c.r c.rs c.state c.all)) c.state.greedy

-- THE TEST: good rows are the least code of what they describe if they are greedy there
module _ (labels : Rec → Rec → Bool) (o : LabelOrder labels) where
  pub greedy_least_itself :
      (r : Rec) (rs : List Rec) → rows_good (r ∷ rs) ≡ true → Greedy labels (decoded (r ∷ rs)) [] (r ∷ rs)
      → LeastBy labels (decoded (r ∷ rs)) (r ∷ rs)
  greedy_least_itself r rs g h =
      let w = good_from_test (r ∷ rs) g in
      greedy_least (decoded (r ∷ rs)) (decoded_simple r rs w.accepted) labels o (omega (arith, decoded_cables (r ∷ rs), w.most)) (r ∷ rs) h
      (coded_itself r rs w.accepted)

  -- A PREFIX OF A LEAST CODE IS LEAST, of the drawing that the prefix describes
  pub prefix_of_least_is_least :
      (d : Drawing) → Pattern d → (r : Rec) (rs ss : List Rec) → LeastBy labels d (r ∷ rs ++ ss) → LeastBy labels (decoded (r ∷ rs)) (r ∷ rs)
  unfolding decoded
  prefix_of_least_is_least d p r rs ss l =
      greedy_least e (decoded_simple r rs t.accepted) labels o (omega (arith, decoded_cables (r ∷ rs), length-append rs ss, most)) (r ∷ rs)
      (greedy_within labels d e (fits_through e d t.numbering t.embedding) [] (r ∷ rs)
      (greedy_prefix labels d [] (r ∷ rs) ss (least_greedy labels o d p (r ∷ rs ++ ss) l)))
      (coded_itself r rs t.accepted)
    where
      e : Drawing
      e = decoded (r ∷ rs)

      t : Fits d (r ∷ rs)
      t = fits_prefix d (r ∷ rs) ss (coded_fits (coded_from_test d p.simple (r ∷ rs ++ ss) l.code))

      most : length (r ∷ rs ++ ss) ≤ 20
      most = (good_from_test (r ∷ rs ++ ss) l.code.good).most
